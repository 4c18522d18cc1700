-- What a body reads by number is what its constraint reads by name.
use Rattle.std.proofs.Common.{◌≡◌, ◌<◌, ◌≤◌, ◌^◌, ℕ, true, false, cond, List, [], ◌∷◌, Option, Some, None, Bor, map, get_or, length, refl, sym, ap, subst, ◌∙◌, arith, inl, inr}
use Rattle.std.specs.Prelude.{IsSome, nat_eq, nat_lt, slice_get, slice_index_or, unwrap_or, is_some, option_and_then, ◌&&◌}
use Rattle.std.specs.Option.{option_copied, option_map_or}
use Rattle.std.proofs.lemmas.Bool.{and_from, lt-ltb, ltb-true, false_from_ne_true, or_left, true≢false}
use Rattle.std.proofs.lemmas.List.{get_or_default}
use Rattle.std.proofs.lemmas.Option.{slice_get_cases, slice_get_within}
use Rattle.list_theory.specs.Lists.{has}
use Rattle.list_theory.proofs.NumberLemmas.{numbers_exact}
use Rattle.flow_term.specs.declared.graph.Unknown.{Unknown}
use Rattle.flow_term.specs.declared.value.Value.{Value}
use Rattle.flow_term.specs.declared.value.Value.TheVariants as value
use Rattle.flow_syntax.specs.declared.expr.Side.{Side}
use Rattle.flow_syntax.specs.declared.property.PropDecl.{PropDecl}
use Rattle.flow_syntax.specs.declared.property.PropRule.{PropRule}
use Rattle.flow_syntax.specs.declared.spec.Spec.{Spec}
use Rattle.flow_syntax.specs.ExprFaults.{trigger_scope}
use Rattle.flow_syntax.specs.Types.{Typing}
use Rattle.flow_solver.specs.Assigned.{AllPresent, assigned}
use Rattle.constraint_theory.specs.Systems.{ConstraintSystem, Fitting, IsKey, numbers}
use Rattle.constraint_names.specs.Numbering.{Numbering, numbered}
use Rattle.constraint_names.proofs.NumberingLemmas.{fits_numbered, key_known, numbered_back}
use Rattle.expr_meaning.specs.Meaning.{Situation, value_in}
use Rattle.expr_meaning.specs.Typing.{Suits}
use Rattle.typed_bodies.specs.Accepted.{sense_of}
use Rattle.typed_bodies.specs.Anywhere.{reads_at, used_by, variables_at}
use Rattle.tree_constraints.specs.declared.constraint.Constraint.{Constraint}
use Rattle.tree_constraints.specs.Constraints.{copied, node_at, reads_from, reads_of, rule_of, situation_of, unknown_at, value_at_side, value_of}
use Rattle.tree_constraints.specs.Laws.{IsAnalysed}
use Rattle.tree_constraints.specs.Orders.{by_parts}
use Rattle.tree_constraints.proofs.Exact.{parts_tell}
use Rattle.tree_solutions.proofs.Lawful.{evaluated}
use Rattle.tree_solutions.proofs.There.{rules_there, side_in_use}
use Rattle.tree_system.specs.declared.reading.Bases.{Bases}
use Rattle.tree_system.specs.Bodies.{CanRead, CanRun, IsBodyValue}
use Rattle.tree_system.specs.Reading.{has_value, number_at, value_there}
use Rattle.tree_system.specs.Tables.{AreBases, AreTables, IsAt, keys_in, no_bases, unknowns_in}
use Rattle.tree_system.specs.TableLaws.{IsInUse, numbering, system_in, system_lawful, tables_lawful}

-- a value that is there, whatever stands for one that isn't
any_default : (o : Option Value) (a b : Value) → IsSome o → unwrap_or o a ≡ unwrap_or o b
any_default (Some v) a b h = refl
any_default None a b h = absurd (true≢false (sym h))

-- a reference is there where what it points to is
pub copied_there : {X : Type 0} (o : Option (Bor X)) → IsSome (option_copied o) → IsSome o
copied_there (Some v) h = refl
copied_there None h = h

-- what is read at a place of a table
pub at_place : {X : Type 0} (xs : List X) (d v x : X) (i : ℕ) → v ≡ get_or xs i v → IsAt xs d i x → v ≡ x
at_place xs d v x i e at = e ∙ get_or_default xs i v d at.within ∙ at.is

pub absent_from : {X : Type 0} (xs : List X) (i : ℕ) → slice_get xs i ≡ None → length xs ≤ i
absent_from xs i e = elim ((slice_get_cases xs i).1) [
  | inl r ↦ let clash : None ≡ Some r.0 = sym e ∙ r.2 in cc
  | inr r ↦ r.0
]

module _ (spec : Spec) (types : List Typing) (analysed : IsAnalysed spec types) (n : Numbering Constraint Unknown) (of_tree : ∥ IsInUse spec n ∥₁)
    {constraints unknowns : ℕ} {targets : List ℕ} {reads waking aims : List (List ℕ)} {properties : List ℕ} (tables : AreTables spec n constraints unknowns targets reads waking aims properties)
    (bases : List Bases) (places : List ℕ) (are : AreBases spec n bases places) (k : ℕ) (used : has nat_eq n.keys k ≡ true) where
  abbrev t : ConstraintSystem Constraint Unknown Value
  t = system_in spec types n

  abbrev c : Constraint
  c = n.key k

  abbrev base : Bases
  base = get_or bases k no_bases

  known : IsKey by_parts t c
  known = key_known by_parts parts_tell t n (system_lawful spec types analysed n of_tree tables).monotone (numbering spec types analysed n of_tree tables) k used

  -- the rule is one of the specification's
  pub rule_in : (i : ℕ) → c.rule ≡ Some i → i < length spec.rules
  rule_in i e = rules_there spec (keys_in n) (unknowns_in n) of_tree c known i e

  side_number : (p : ℕ) (d : PropDecl) → slice_get spec.properties p ≡ Some d → (s : Side) → has nat_eq n.unknowns (n.number (unknown_at (node_at c.key s) d.name.text)) ≡ true
  side_number p d at s =
      (numbered_back by_parts parts_tell t n (system_lawful spec types analysed n of_tree tables).monotone (numbering spec types analysed n of_tree tables) (unknown_at (node_at c.key s) d.name.text)
      (side_in_use spec (keys_in n) (unknowns_in n) of_tree c known p d at s)).0

  -- a copy reads one unknown
  row_is : c.rule ≡ None → (row : List ℕ) → row ≡ map n.number (reads_of spec c) → row ≡ n.number (copied c.key) ∷ []
  row_is e row is =
      is ∙ ap (λ (o : Option PropRule). map n.number (option_map_or (λ rule. reads_from c.key (reads_at spec rule.body) 0 spec.properties) o (copied c.key ∷ []))) (ap (option_and_then (λ j. slice_get spec.rules j)) e)

  pub copy_is : c.rule ≡ None → (row : List ℕ) → row ≡ map n.number (reads_of spec c) → get_or row 0 0 ≡ n.number (copied c.key)
  copy_is e row is = ap (λ (xs : List ℕ). get_or xs 0 0) (row_is e row is)

  pub copy_used : c.rule ≡ None → (row : List ℕ) → row ≡ map n.number (reads_of spec c) → has nat_eq n.unknowns (get_or row 0 0) ≡ true
  copy_used e row is =
      let u = n.number (copied c.key) in
      subst (λ (v : ℕ). has nat_eq n.unknowns v ≡ true) (sym (copy_is e row is))
      ((tables_lawful spec types analysed n of_tree tables).monotone.reads_used k u used
      (ap (λ (xs : List ℕ). has nat_eq xs u) (sym is ∙ row_is e row is) ∙ or_left (nat_eq u u) false (numbers_exact.itself u)))

  pub copy_value : c.rule ≡ None → (a : Unknown → Value) → value_of spec types c a ≡ a (copied c.key)
  copy_value e a = ap (λ (o : Option PropRule). option_map_or (λ rule. value_in (sense_of spec types rule.body (situation_of spec c a))) o (a (copied c.key))) (ap (option_and_then (λ j. slice_get spec.rules j)) e)

  module _ (values : List (Option Value)) (bottom : ℕ → Value) (present : AllPresent (numbered t n) values) where
    abbrev a : Unknown → Value
    a w = assigned bottom values (n.number w)

    there : (p : ℕ) (d : PropDecl) → slice_get spec.properties p ≡ Some d → (s : Side) → IsSome (slice_index_or values (number_at base places p s) None)
    there p d at s = subst (λ (u : ℕ). IsSome (slice_index_or values u None)) (are.numbers k p d s used at) (present (n.number (unknown_at (node_at c.key s) d.name.text)) (side_number p d at s))

    declared : (p : ℕ) (d : PropDecl) → slice_get spec.properties p ≡ Some d → p < length places
    declared p d at = let within = slice_get_within spec.properties p d at in omega (arith, within, are.long)

    pub reads_are : (p : ℕ) (s : Side) → value_there values base places p s ≡ value_at_side spec c.key a p s
    reads_are p s = by (slice_get spec.properties p) refl
      where
        by : (o : Option PropDecl) → slice_get spec.properties p ≡ o → value_there values base places p s ≡ option_map_or (λ d. a (unknown_at (node_at c.key s) d.name.text)) o value.Bottom
        by (Some d) at =
            let u = number_at base places p s in
            ap (λ b. cond b (unwrap_or (slice_index_or values u None) value.Bottom) value.Bottom) (lt-ltb p (length places) (declared p d at))
            ∙ any_default (slice_index_or values u None) value.Bottom (bottom u) (there p d at s)
            ∙ sym (ap (assigned bottom values) (are.numbers k p d s used at))
        by None at =
            ap (λ b. cond b (unwrap_or (slice_index_or values (number_at base places p s) None) value.Bottom) value.Bottom)
            (false_from_ne_true (nat_lt p (length places)) (λ e. let within = ltb-true p (length places) e in let out = absent_from spec.properties p at in absurd (omega (arith, within, out, are.long))))

    abbrev here : Situation
    here = record { bindings = c.bindings; reads = λ p s. value_there values base places p s }

    same_situation : here ≡ situation_of spec c a
    same_situation = λ i. record { bindings = c.bindings; reads = λ p s. reads_are p s i }

    rule_is : (i : ℕ) → c.rule ≡ Some i → (rule : PropRule) → slice_get spec.rules i ≡ Some rule → rule_of spec c ≡ Some rule
    rule_is i e rule at = ap (option_and_then (λ j. slice_get spec.rules j)) e ∙ at

    pub can_read : (i : ℕ) → CanRead spec i (λ p s. has_value values base places p s)
    can_read i rule at p s declared_p reads_it =
        elim ((slice_get_cases spec.properties p).1) [
          | inl r ↦ let u = number_at base places p s in
              let within = declared p r.0 r.2 in
              and_from (nat_lt p (length places)) (nat_lt u (2 ^ 64) && is_some (slice_index_or values u None)) (lt-ltb p (length places) within)
              (and_from (nat_lt u (2 ^ 64)) (is_some (slice_index_or values u None)) (lt-ltb u (2 ^ 64) (are.fit k p s used within)) (there p r.0 r.2 s))
          | inr r ↦ let out = r.0 in absurd (omega (arith, declared_p, out))
        ]

    module _ (fitting : Fitting numbers (numbered t n) (assigned bottom values)) where
      fits : Fitting by_parts t a
      fits = fits_numbered by_parts parts_tell t n (system_lawful spec types analysed n of_tree tables).monotone (numbering spec types analysed n of_tree tables) (assigned bottom values) fitting

      pub can_run : (i : ℕ) → c.rule ≡ Some i → CanRun spec i here
      can_run i e rule at =
          subst (λ (w : Situation). Suits (used_by spec rule.body) (variables_at (trigger_scope rule.trigger)) w) (sym same_situation)
          (evaluated spec types analysed (keys_in n) (unknowns_in n) of_tree c known rule (rule_is i e rule at) a fits)

    pub value_is : (i : ℕ) → c.rule ≡ Some i → (v : Value) → IsBodyValue spec types i here v → v ≡ value_of spec types c a
    value_is i e v is = by (slice_get spec.rules i) refl (rule_in i e)
      where
        by : (o : Option PropRule) → slice_get spec.rules i ≡ o → i < length spec.rules → v ≡ value_of spec types c a
        by (Some rule) at lt =
            is rule at ∙ ap (λ (w : Situation). value_in (sense_of spec types rule.body w)) same_situation
            ∙ sym (ap (λ (o : Option PropRule). option_map_or (λ rule. value_in (sense_of spec types rule.body (situation_of spec c a))) o (a (copied c.key))) (rule_is i e rule at))
        by None at lt = let out = absent_from spec.rules i at in absurd (omega (arith, lt, out))
