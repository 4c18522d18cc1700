-- What is replaced deeper than a pattern may look doesn't change what it binds.
use Rattle.std.proofs.Common.{◌≡◌, ℕ, zero, suc, ◌+◌, ◌<◌, Bool, true, false, cond, List, [], ◌∷◌, ◌++◌, map, length, Option, Some, None, refl, sym, ap, ◌∙◌, arith, nat_lt}
use Rattle.std.specs.Prelude.{Contains, filter_map, bytes_eq, option_map}
use Rattle.std.specs.List.{AllZip, list_any, position_from}
use Rattle.std.specs.Option.{option_map_or, option_or}
use Rattle.std.specs.Ordering.{int_eq}
use Rattle.std.proofs.lemmas.Bool.{or_parts, both_ways}
use Rattle.std.proofs.lemmas.Bool.Decides.{nat_tests}
use Rattle.flow_term.specs.declared.elem.Elem.TheVariants as elem
use Rattle.flow_term.specs.declared.term.Term.{Term}
use Rattle.flow_term.specs.declared.value.Bound.{Bound}
use Rattle.flow_term.specs.Annotations.{first_of_list, term_layer, name_in, number_in, text_in}
use Rattle.flow_term.specs.Trees.{Put, children}
use Rattle.flow_syntax.specs.declared.pattern.Pattern.{Pattern}
use Rattle.flow_syntax.specs.declared.pattern.PatternKind.{PatternKind-F}
use Rattle.flow_syntax.specs.declared.property.PropDecl.{PropDecl}
use Rattle.flow_syntax.specs.declared.property.PropRule.{PropRule}
use Rattle.flow_syntax.specs.ExprFaults.{trigger_pattern}
use Rattle.flow_syntax.specs.Matching.{PatternLayer, is_apply, is_list, is_tuple, matches, pattern_layer}
use Rattle.flow_syntax.specs.RuleFaults.{looks_deep, pattern_limit}
use Rattle.flow_syntax.proofs.Listed.{Contains_behind, Contains_here}
use Rattle.flow_syntax.proofs.PatternDepths.{deep_layer, looks_deep_out}
use Rattle.flow_match.specs.Bindings.{bind_each, binding_layer, bindings_at, bound, if_holds, then_bound}
use Rattle.flow_match.specs.Matched.{first_some, hit_by, hit_of, hits_from, is_rule_of, as_list}
use Rattle.flow_match.proofs.Layers.{bindings_out, parts_bound}
use Rattle.graph_laws.specs.Alike.{AreAlike}
use Rattle.graph_laws.specs.Laws.{AlikeTermsBindAlike, FarMatchesStay}
use Rattle.graph_laws.proofs.Accepted.{head_among, rule_among}
use Rattle.graph_laws.proofs.AlikeTerms.{apply_with, form_same, held_in, holds, holds_layer, holds_out, match_alike, number_with, replaced_alike, text_with, too_deep, tuple_with}
use Rattle.graph_laws.proofs.Replaced.{list_with}

-- what doesn't look too deep, on a level that is too deep, binds what it would bind at any other term
blind : (x : PatternLayer) (level : ℕ) (t u : Term) (path : List ℕ) → deep_layer x level ≡ false → 8 < level → binding_layer (parts_bound x) u path ≡ binding_layer (parts_bound x) t path
blind PatternKind-F.Wild level t u path flat above = refl
blind (PatternKind-F.Var x) level t u path flat above = refl
blind (PatternKind-F.NameVar x) level t u path flat above = absurd (both_ways (nat_lt pattern_limit level) flat (grind (arith, nat_tests)))
blind (PatternKind-F.StrVar x) level t u path flat above = absurd (both_ways (nat_lt pattern_limit level) flat (grind (arith, nat_tests)))
blind (PatternKind-F.IntVar x) level t u path flat above = absurd (both_ways (nat_lt pattern_limit level) flat (grind (arith, nat_tests)))
blind (PatternKind-F.IntLit n) level t u path flat above = absurd (both_ways (nat_lt pattern_limit level) flat (grind (arith, nat_tests)))
blind (PatternKind-F.StrLit s) level t u path flat above = absurd (both_ways (nat_lt pattern_limit level) flat (grind (arith, nat_tests)))
blind (PatternKind-F.Apply name ps) level t u path flat above = absurd (too_deep level above _ flat)
blind (PatternKind-F.Tuple ps) level t u path flat above = absurd (too_deep level above _ flat)
blind (PatternKind-F.Items ps) level t u path flat above = absurd (too_deep level above _ flat)
blind (PatternKind-F.Held x p) level t u path flat above = absurd (too_deep level above _ flat)

-- no pattern binds otherwise at terms that are alike on so many levels
abbrev BindAlike : ℕ → Type 0
BindAlike n = (p : Pattern) (level : ℕ) (t u : Term) (path : List ℕ) → looks_deep p level ≡ false → 8 < level + n → AreAlike n t u → bindings_at p u path ≡ bindings_at p t path

-- nor do patterns of children
each : (n : ℕ) → BindAlike n → (ps : List Pattern) (level : ℕ) (ts us : List Term) (path : List ℕ) (k : ℕ) → AllZip (AreAlike n) ts us
    → list_any (λ p. looks_deep p (level + 1)) ps ≡ false → 8 < level + suc n → bind_each (map bindings_at ps) us path k ≡ bind_each (map bindings_at ps) ts path k
each n below [] level [] [] path k alike flat above = refl
each n below [] level [] (u ∷ us) path k alike flat above = absurd alike
each n below [] level (t ∷ ts) [] path k alike flat above = absurd alike
each n below [] level (t ∷ ts) (u ∷ us) path k alike flat above = refl
each n below (p ∷ ps) level [] [] path k alike flat above = refl
each n below (p ∷ ps) level [] (u ∷ us) path k alike flat above = absurd alike
each n below (p ∷ ps) level (t ∷ ts) [] path k alike flat above = absurd alike
each n below (p ∷ ps) level (t ∷ ts) (u ∷ us) path k alike flat above =
    let parts = or_parts (looks_deep p (level + 1)) (list_any (λ q. looks_deep q (level + 1)) ps) flat in
    ap (λ (o : Option (List Bound)). then_bound o (bind_each (map bindings_at ps) us path (k + 1))) (below p (level + 1) t u (path ++ k ∷ []) parts.0 (omega (arith, above)) alike.0)
    ∙ ap (λ (o : Option (List Bound)). then_bound (bindings_at p t (path ++ k ∷ [])) o) (each n below ps level ts us path (k + 1) alike.1 parts.1 above)

module _ (n : ℕ) (below : BindAlike n) (t u : Term) (path : List ℕ) (alike : AreAlike (suc n) t u) where
  -- an application, a tuple or a list
  with_children : (ps : List Pattern) (level : ℕ) (a b : Bool) → a ≡ b → list_any (λ p. looks_deep p (level + 1)) ps ≡ false → 8 < level + suc n
      → cond a (bind_each (map bindings_at ps) (children u) path 0) None ≡ cond b (bind_each (map bindings_at ps) (children t) path 0) None
  with_children ps level a b same flat above =
      ap (λ (c : Bool). cond c (bind_each (map bindings_at ps) (children u) path 0) None) same
      ∙ ap (λ (o : Option (List Bound)). cond b o None) (each n below ps level (children t) (children u) path 0 alike.2 flat above)

  at_layer : (fuel : ℕ) → ((p : Pattern) (level : ℕ) → holds p < fuel → looks_deep p level ≡ false → 8 < level + suc n → bindings_at p u path ≡ bindings_at p t path)
      → (x : PatternLayer) (level : ℕ) → holds_layer (held_in x) < suc fuel → deep_layer x level ≡ false → 8 < level + suc n → binding_layer (parts_bound x) u path ≡ binding_layer (parts_bound x) t path
  at_layer fuel held PatternKind-F.Wild level few flat above = refl
  at_layer fuel held (PatternKind-F.Var x) level few flat above = refl
  at_layer fuel held (PatternKind-F.NameVar x) level few flat above = ap (λ (as' : List Term). option_map (λ m. bound x (elem.Name m)) (first_of_list (filter_map (λ a. name_in (term_layer a)) as'))) alike.0
  at_layer fuel held (PatternKind-F.StrVar x) level few flat above = ap (option_map (λ s. bound x (elem.Str s))) (form_same n t u alike text_in text_with)
  at_layer fuel held (PatternKind-F.IntVar x) level few flat above = ap (option_map (λ m. bound x (elem.Int m))) (form_same n t u alike number_in number_with)
  at_layer fuel held (PatternKind-F.IntLit m) level few flat above = ap (λ o. if_holds (option_map_or (int_eq m) o false)) (form_same n t u alike number_in number_with)
  at_layer fuel held (PatternKind-F.StrLit s) level few flat above = ap (λ o. if_holds (option_map_or (bytes_eq s) o false)) (form_same n t u alike text_in text_with)
  at_layer fuel held (PatternKind-F.Apply name ps) level few flat above = with_children ps level _ _ (form_same n t u alike (is_apply name) (apply_with name)) (or_parts (nat_lt pattern_limit level) _ flat).1 above
  at_layer fuel held (PatternKind-F.Tuple ps) level few flat above = with_children ps level _ _ (form_same n t u alike is_tuple tuple_with) (or_parts (nat_lt pattern_limit level) _ flat).1 above
  at_layer fuel held (PatternKind-F.Items ps) level few flat above = with_children ps level _ _ (form_same n t u alike is_list list_with) (or_parts (nat_lt pattern_limit level) _ flat).1 above
  at_layer fuel held (PatternKind-F.Held x p) level few flat above =
      ap (option_map (λ bs. record { name = x; value = elem.Pos path } ∷ bs)) (held p level (omega (arith, few)) (or_parts (nat_lt pattern_limit level) _ flat).1 above)

  for_fuel : (fuel : ℕ) (p : Pattern) (level : ℕ) → holds p < fuel → looks_deep p level ≡ false → 8 < level + suc n → bindings_at p u path ≡ bindings_at p t path
  for_fuel zero p level few flat above = absurd (omega arith)
  for_fuel (suc fuel) p level few flat above =
      bindings_out p u path ∙ at_layer fuel (for_fuel fuel) (pattern_layer p) level (omega (arith, holds_out p, few)) (sym (looks_deep_out p level) ∙ flat) above ∙ sym (bindings_out p t path)

bind_alike_on : (n : ℕ) → BindAlike n
bind_alike_on zero p level t u path flat above alike = bindings_out p u path ∙ blind (pattern_layer p) level t u path (sym (looks_deep_out p level) ∙ flat) (omega arith) ∙ sym (bindings_out p t path)
bind_alike_on (suc n) p level t u path flat above alike = for_fuel n (bind_alike_on n) t u path alike (suc (holds p)) p level (omega arith) flat above

pub bind_alike : AlikeTermsBindAlike
bind_alike p level n t u path flat above alike = bind_alike_on n p level t u path flat above alike

-- ** all that matches at a position

position_same : {X : Type 0} (p q : X → Bool) (xs : List X) (n : ℕ) → ((x : X) → Contains xs x → p x ≡ q x) → position_from p n xs ≡ position_from q n xs
position_same p q [] n same = refl
position_same p q (y ∷ ys) n same =
    ap (λ b. cond b (Some n) (position_from p (n + 1) ys)) (same y (Contains_here y ys))
    ∙ ap (λ o. cond (q y) (Some n) o) (position_same p q ys (n + 1) (λ x h. same x (Contains_behind y ys x h)))

module _ (t new : Term) (rest path : List ℕ) (far : pattern_limit < length rest) where
  abbrev BindsTheSame : PropRule → Type 0
  BindsTheSame rule = bindings_at (trigger_pattern rule.trigger) (Put t rest new) path ≡ bindings_at (trigger_pattern rule.trigger) t path

  first_same : (property : ℕ) (name : List ℕ) (boundary : Bool) (rules : List PropRule) (n : ℕ) → ((rule : PropRule) → Contains rules rule → BindsTheSame rule)
      → first_some (hit_by property name boundary (Put t rest new) path) n rules ≡ first_some (hit_by property name boundary t path) n rules
  first_same property name boundary [] n same = refl
  first_same property name boundary (rule ∷ rules) n same =
      ap (λ (o : Option (List Bound)). option_or (cond (is_rule_of name boundary rule) (option_map (hit_of property boundary n) o) None) (first_some (hit_by property name boundary (Put t rest new) path) (n + 1) rules)) (same rule (Contains_here rule rules))
      ∙ ap (λ o. option_or (hit_by property name boundary t path n rule) o) (first_same property name boundary rules (n + 1) (λ r h. same r (Contains_behind rule rules r h)))

  hits_same : (rules : List PropRule) → ((rule : PropRule) → Contains rules rule → BindsTheSame rule) → (n : ℕ) (ps : List PropDecl)
      → hits_from rules (Put t rest new) path n ps ≡ hits_from rules t path n ps
  hits_same rules same n [] = refl
  hits_same rules same n (p ∷ ps) =
      ap (λ o. (as_list o ++ as_list (first_some (hit_by n p.name.text true (Put t rest new) path) 0 rules)) ++ hits_from rules (Put t rest new) path (n + 1) ps) (first_same n p.name.text false rules 0 same)
      ∙ ap (λ o. (as_list (first_some (hit_by n p.name.text false t path) 0 rules) ++ as_list o) ++ hits_from rules (Put t rest new) path (n + 1) ps) (first_same n p.name.text true rules 0 same)
      ∙ ap (λ hs. (as_list (first_some (hit_by n p.name.text false t path) 0 rules) ++ as_list (first_some (hit_by n p.name.text true t path) 0 rules)) ++ hs) (hits_same rules same (n + 1) ps)

pub far_matches : FarMatchesStay
far_matches spec shallow t new rest path far =
    let alike = replaced_alike t rest new in
    ap (λ o. record { control = o; hits = hits_from spec.rules (Put t rest new) path 0 spec.properties })
    (position_same (λ r. matches r.head (Put t rest new)) (λ r. matches r.head t) spec.control 0
    (λ r h. match_alike r.head 0 (length rest) t (Put t rest new) (shallow r.head (head_among spec r h)) (omega (arith, far)) alike))
    ∙ ap (λ hs. record { control = position_from (λ r. matches r.head t) 0 spec.control; hits = hs })
    (hits_same t new rest path far spec.rules
    (λ r h. bind_alike (trigger_pattern r.trigger) 0 (length rest) t (Put t rest new) path (shallow (trigger_pattern r.trigger) (rule_among spec r h)) (omega (arith, far)) alike)
    0 spec.properties)
