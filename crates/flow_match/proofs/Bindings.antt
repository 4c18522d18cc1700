-- A pattern binds its variables exactly where it matches.
use Rattle.std.proofs.Common.{◌≡◌, ℕ, ◌+◌, Bool, true, false, ◌&&◌, cond, List, [], ◌∷◌, ◌++◌, map, Option, Some, None, refl, sym, ap, subst, ◌∙◌}
use Rattle.std.specs.Prelude.{is_some}
use Rattle.std.specs.Option.{option_map}
use Rattle.flow_term.specs.declared.term.Term.{Term}
use Rattle.flow_term.specs.declared.value.Bound.{Bound}
use Rattle.flow_term.specs.Trees.{children}
use Rattle.flow_syntax.specs.declared.pattern.Pattern.{Pattern, roll-Pattern, ind-Pattern, fold-roll-Pattern}
use Rattle.flow_syntax.specs.declared.pattern.PatternKind.{PatternKind, PatternKind-F, roll-PatternKind, map-PatternKind, fold-PatternKind, fold-roll-PatternKind}
use Rattle.flow_syntax.specs.Matching.{matches, Matcher, match_layer, fit}
use Rattle.flow_match.specs.Bindings.{Binding, bindings_at, binding_layer, bind_each, then_bound, if_holds}
use Rattle.flow_match.specs.Laws.{BindsWhereItMatches}

-- a binding and a test of one pattern agree
abbrev Agree : Binding → Matcher → Type 0
Agree b m = (t : Term) (path : List ℕ) → is_some (b t path) ≡ m t

abbrev kind_binding : PatternKind → Binding
kind_binding = fold-PatternKind Binding Binding binding_layer (λ p. p.kind)

abbrev kind_test : PatternKind → Matcher
kind_test = fold-PatternKind Matcher Matcher match_layer (λ p. p.kind)

abbrev AgreesKind : PatternKind → Type 0
AgreesKind k = Agree (kind_binding k) (kind_test k)

mapped : {A B : Type 0} (f : A → B) (o : Option A) → is_some (option_map f o) ≡ is_some o
mapped f (Some x) = refl
mapped f None = refl

held : (b : Bool) → is_some (if_holds b) ≡ b
held true = refl
held false = refl

both : (o q : Option (List Bound)) (a b : Bool) → is_some o ≡ a → is_some q ≡ b → is_some (then_bound o q) ≡ (a && b)
both (Some x) (Some y) a b h k = λ i. h i && k i
both (Some x) None a b h k = λ i. h i && k i
both None q a b h k = ap (λ c. c && b) h

chosen : (a : Bool) (o : Option (List Bound)) (b : Bool) → is_some o ≡ b → is_some (cond a o None) ≡ (a && b)
chosen true o b h = h
chosen false o b h = refl

abbrev Part : Type 0
Part = (p : Pattern) × BindsWhereItMatches p

abbrev PartKind : Type 0
PartKind = (k : PatternKind) × AgreesKind k

each : (ps : List Part) (ts : List Term) (path : List ℕ) (n : ℕ)
    → is_some (bind_each (map bindings_at (map (λ (p : Part). p.0) ps)) ts path n) ≡ fit (map matches (map (λ (p : Part). p.0) ps)) ts
each [] [] path n = refl
each [] (t ∷ ts) path n = refl
each (p ∷ ps) [] path n = refl
each (p ∷ ps) (t ∷ ts) path n = both _ _ _ _ (p.1 t (path ++ n ∷ [])) (each ps ts path (n + 1))

agree_layer : (y : PatternKind-F PartKind Part) (t : Term) (path : List ℕ)
    → is_some (binding_layer (map-PatternKind PatternKind Pattern Binding Binding kind_binding bindings_at (map-PatternKind PartKind Part PatternKind Pattern (λ k. k.0) (λ p. p.0) y)) t path)
    ≡ match_layer (map-PatternKind PatternKind Pattern Matcher Matcher kind_test matches (map-PatternKind PartKind Part PatternKind Pattern (λ k. k.0) (λ p. p.0) y)) t
agree_layer PatternKind-F.Wild t path = refl
agree_layer (PatternKind-F.Var x) t path = refl
agree_layer (PatternKind-F.NameVar x) t path = mapped _ _
agree_layer (PatternKind-F.StrVar x) t path = mapped _ _
agree_layer (PatternKind-F.IntVar x) t path = mapped _ _
agree_layer (PatternKind-F.IntLit n) t path = held _
agree_layer (PatternKind-F.StrLit s) t path = held _
agree_layer (PatternKind-F.Apply c ps) t path = chosen _ _ _ (each ps (children t) path 0)
agree_layer (PatternKind-F.Tuple ps) t path = chosen _ _ _ (each ps (children t) path 0)
agree_layer (PatternKind-F.Items ps) t path = chosen _ _ _ (each ps (children t) path 0)
agree_layer (PatternKind-F.Held x p) t path = mapped _ _ ∙ p.1 t path

agree_kind : (y : PatternKind-F PartKind Part) → AgreesKind (roll-PatternKind (map-PatternKind PartKind Part PatternKind Pattern (λ k. k.0) (λ p. p.0) y))
agree_kind y t path =
    let d = map-PatternKind PartKind Part PatternKind Pattern (λ k. k.0) (λ p. p.0) y in
    ap (λ (b : Binding). is_some (b t path)) (fold-roll-PatternKind Binding Binding binding_layer (λ p. p.kind) d) ∙ agree_layer y t path
    ∙ ap (λ (m : Matcher). m t) (sym (fold-roll-PatternKind Matcher Matcher match_layer (λ p. p.kind) d))

agree_placed : (n : _) (k : PatternKind) → AgreesKind k → BindsWhereItMatches (roll-Pattern (record { place = n; kind = k }))
agree_placed n k h t path =
    ap (λ (b : Binding). is_some (b t path)) (fold-roll-Pattern Binding Binding binding_layer (λ p. p.kind) (record { place = n; kind = k })) ∙ h t path
    ∙ ap (λ (m : Matcher). m t) (sym (fold-roll-Pattern Matcher Matcher match_layer (λ p. p.kind) (record { place = n; kind = k })))

-- a pattern binds exactly where it matches
pub binds_where_it_matches : (p : Pattern) → BindsWhereItMatches p
binds_where_it_matches =
    ind-Pattern AgreesKind BindsWhereItMatches (λ x y e. subst (λ d. AgreesKind (roll-PatternKind d)) e (agree_kind y)) (λ x y e. subst (λ d. BindsWhereItMatches (roll-Pattern d)) e (agree_placed y.place y.kind.0 y.kind.1))

-- where it doesn't match it binds nothing
pub unmatched : (p : Pattern) (t : Term) (path : List ℕ) → matches p t ≡ false → bindings_at p t path ≡ None
unmatched p t path h = go (bindings_at p t path) (binds_where_it_matches p t path ∙ h)
  where
    go : (o : Option (List Bound)) → is_some o ≡ false → o ≡ None
    go (Some bs) e = cc
    go None e = refl
