-- What holds of a system in tables: it meets all laws, and its bodies read what is there.
use Rattle.std.proofs.Common.{◌≡◌, ◌<◌, suc, ℕ, Bool, true, false, cond, List, [], ◌∷◌, get_or, length, refl, sym, ap, subst, ◌∙◌, arith}
use Rattle.std.specs.Prelude.{◌&&◌, ◌||◌, nat_eq, nat_lt}
use Rattle.std.specs.Cmp.{IsStrictWeakOrder}
use Rattle.std.specs.List.{AllByRecursion}
use Rattle.std.specs.List.Sorted.{IsStrictlySortedBy}
use Rattle.std.specs.Ordering.{is_lt, nat_cmp}
use Rattle.std.specs.declared.cmp.Ordering.TheVariants.{Less, Equal, Greater}
use Rattle.std.proofs.lemmas.List.MinMax.{IsStrictWeakOrder-by_number}
use Rattle.list_theory.specs.Lists.{has}
use Rattle.list_theory.proofs.ListLemmas.{alike}
use Rattle.flow_term.specs.declared.graph.Unknown.{Unknown}
use Rattle.flow_term.specs.declared.value.Value.{Value}
use Rattle.flow_syntax.specs.declared.spec.Spec.{Spec}
use Rattle.flow_syntax.specs.Types.{Typing}
use Rattle.constraint_theory.specs.Systems.{ConstraintSystem, IsLawful, IsMonotone, IsOver, numbers}
use Rattle.constraint_theory.specs.Edits.{Change, IsEdit}
use Rattle.flow_solver.specs.Orders.{IsOrderOf}
use Rattle.constraint_names.specs.Numbering.{Numbering, IsNumbering, numbered}
use Rattle.constraint_names.proofs.NumberingLemmas.{numbered_lawful, unknown_used}
use Rattle.value_domains.specs.Domains.{Domain, IsValueOf, joined_of, least_of}
use Rattle.value_heights.specs.Heights.{is_within}
use Rattle.value_heights.specs.Tests.{is_valid}
use Rattle.value_heights.proofs.Told.{values_told}
use Rattle.std.proofs.lemmas.Bool.{and_parts, lt-ltb, true≢false}
use Rattle.expr_meaning.specs.Meaning.{property_number}
use Rattle.expr_meaning.specs.SpecRanges.{domains_of}
use Rattle.lattice_any.specs.declared.any.AnyL.{AnyL}
use Rattle.lattice_any.specs.Types.{domain_of_any}
use Rattle.tree_constraints.specs.declared.constraint.Constraint.{Constraint}
use Rattle.tree_constraints.specs.Laws.{IsAnalysed}
use Rattle.tree_constraints.specs.Orders.{by_parts}
use Rattle.tree_constraints.specs.Solutions.{domain_at}
use Rattle.tree_constraints.proofs.Exact.{parts_tell}
use Rattle.tree_constraints.proofs.Situations.{unknown_lawful}
use Rattle.tree_solutions.specs.Analysis.{IsOfTree}
use Rattle.tree_solutions.specs.Brought.{brought, brought_system}
use Rattle.tree_solutions.proofs.Lawful.{lawful}
use Rattle.tree_solutions.proofs.There.{properties_declared}
use Rattle.tree_system.specs.Tables.{AreTables, keys_in, unknowns_in}

-- the system of the constraints and unknowns in use
abbrev pub system_in : Spec → List Typing → Numbering Constraint Unknown → ConstraintSystem Constraint Unknown Value
system_in spec types n = brought_system spec types (keys_in n) (unknowns_in n)

-- the constraints and the unknowns in use are those of some tree
abbrev pub IsInUse : Spec → Numbering Constraint Unknown → Type 0
IsInUse spec n = IsOfTree spec (keys_in n) (unknowns_in n)

module _ (spec : Spec) (types : List Typing) (analysed : IsAnalysed spec types) (n : Numbering Constraint Unknown) (of_tree : ∥ IsInUse spec n ∥₁)
    {constraints unknowns : ℕ} {targets : List ℕ} {reads waking aims : List (List ℕ)} {properties : List ℕ} (tables : AreTables spec n constraints unknowns targets reads waking aims properties) where
  pub numbering : IsNumbering (system_in spec types n) n
  numbering = record {
    keys = refl;
    unknowns = refl;
    own_key = λ j k hj hk e. tables.own_key j k hj hk (alike by_parts.key parts_tell.keys (n.key j) (n.key k) e);
    number = tables.back;
  }

  pub system_lawful : IsLawful by_parts (system_in spec types n)
  system_lawful = lawful spec types analysed (keys_in n) (unknowns_in n) of_tree

  pub tables_lawful : IsLawful numbers (numbered (system_in spec types n) n)
  tables_lawful = numbered_lawful by_parts parts_tell (system_in spec types n) n system_lawful numbering

  -- the property of an unknown is declared
  pub property_in : (u : ℕ) → has nat_eq n.unknowns u ≡ true → property_number spec (n.unknown u).property < length spec.properties
  property_in u used =
      properties_declared spec types analysed (keys_in n) (unknowns_in n) of_tree (n.unknown u) (unknown_used by_parts parts_tell (system_in spec types n) n system_lawful.monotone numbering u used)

  -- the lattice of an unknown's property is that of the unknown's domain
  pub domain_is : (lattice : ℕ → AnyL) → ((p : ℕ) → p < length spec.properties → domain_of_any (lattice p) ≡ domains_of spec p) → (u : ℕ) → has nat_eq n.unknowns u ≡ true
      → domain_of_any (lattice (property_number spec (n.unknown u).property)) ≡ domain_at spec (n.unknown u)
  domain_is lattice each u used =
      each (property_number spec (n.unknown u).property) (property_in u used)

  pub tables_over : (lattice : ℕ → AnyL) → ((p : ℕ) → p < length spec.properties → domain_of_any (lattice p) ≡ domains_of spec p) → (u : ℕ) → has nat_eq n.unknowns u ≡ true
      → (let d = domain_of_any (lattice (property_number spec (n.unknown u).property)) in IsOver (numbered (system_in spec types n) n) u (IsValueOf d) (least_of d) (joined_of d))
  tables_over lattice each u used =
      let same = domain_is lattice each u used in
      subst (λ (d : Domain). IsOver (numbered (system_in spec types n) n) u (IsValueOf d) (least_of d) (joined_of d)) (sym same) (record {
        valid = λ v fits. (values_told (domain_at spec (n.unknown u)) (unknown_lawful spec analysed.lawful (n.unknown u)) v).0
            (and_parts (is_valid (domain_at spec (n.unknown u)) v) (is_within (brought spec (keys_in n)) (domain_at spec (n.unknown u)) v) fits).0;
        bottom_is = refl;
        join_is = λ a b _ _. refl;
      })

-- ORDER

less_is : (x y : ℕ) → is_lt (nat_cmp x y) ≡ nat_lt x y
less_is x y = elim (nat_lt x y) as (λ b. is_lt (cond b Less (cond (nat_eq x y) Equal Greater)) ≡ b) [
  | true ↦ refl
  | false ↦ elim (nat_eq x y) as (λ b. is_lt (cond b Equal Greater) ≡ false) [ true ↦ refl | false ↦ refl ]
]

weak_order : IsStrictWeakOrder (λ a b. is_lt (nat_cmp a b))
weak_order =
    let weak : IsStrictWeakOrder (λ a b. nat_lt a b) = IsStrictWeakOrder-by_number (λ a. a) in
    record {
      one_way = λ x y h. less_is y x ∙ weak.one_way x y (sym (less_is x y) ∙ h);
      chain = λ x y z h i. less_is x z ∙ weak.chain x y z (sym (less_is x y) ∙ h) (sym (less_is y z) ∙ i);
    }

less_cmp : (x y : ℕ) → x < y → nat_cmp x y ≡ Less
less_cmp x y h = ap (λ b. cond b Less (cond (nat_eq x y) Equal Greater)) (lt-ltb x y h)

above_all : (x : ℕ) (xs : List ℕ) → ((j : ℕ) → j < length xs → x < get_or xs j 0) → AllByRecursion (λ y. nat_cmp x y ≡ Less) xs
above_all x [] h = tt
above_all x (y ∷ ys) h = (less_cmp x y (h 0 (omega arith)), above_all x ys (λ j within. h (suc j) (omega (arith, within))))

rising_keys : (keys : List ℕ) → ((i j : ℕ) → i < j → j < length keys → get_or keys i 0 < get_or keys j 0) → IsStrictlySortedBy nat_cmp keys
unfolding IsStrictlySortedBy
rising_keys [] h = tt
rising_keys (x ∷ xs) h = (above_all x xs (λ j within. h 0 (suc j) (omega arith) (omega (arith, within))), rising_keys xs (λ i j lt within. h (suc i) (suc j) (omega (arith, lt)) (omega (arith, within))))

pub tables_ordered : (keys : List ℕ) → ((i j : ℕ) → i < j → j < length keys → get_or keys i 0 < get_or keys j 0) → IsOrderOf keys nat_cmp
tables_ordered keys h = record { weak = weak_order; rising = rising_keys keys h }

-- THE EDIT THAT CHANGES NOTHING

abbrev pub nothing_changed : Change ℕ ℕ Value
nothing_changed = record { gone = []; added = []; gone_unknowns = []; added_unknowns = []; movable = λ _. true; shift = λ v. v }

all_stay : (b : Bool) → b ≡ ((b && true) || false)
all_stay true = refl
all_stay false = refl

kept : (b : Bool) → b ≡ true → (b && true) ≡ true
kept true h = refl
kept false h = h

known : (b : Bool) → (b && true) ≡ true → b ≡ true
known true h = refl
known false h = h

pub unchanged : (s : ConstraintSystem ℕ ℕ Value) → IsMonotone numbers s → IsEdit numbers s s nothing_changed
unchanged s law = record {
  lists = record {
    keys = λ k. all_stay (has nat_eq s.keys k);
    unknowns = λ u. all_stay (has nat_eq s.unknowns u);
    keys_new = λ k h. absurd (true≢false (sym h));
    unknowns_new = λ u h. absurd (true≢false (sym h));
    gone_known = λ k h. absurd (true≢false (sym h));
  };
  target_stays = λ k h. kept (has nat_eq s.unknowns (s.target k)) (law.target_used k (known (has nat_eq s.keys k) h));
  reads_stay = λ k u h r. kept (has nat_eq s.unknowns u) (law.reads_used k u (known (has nat_eq s.keys k) h) r);
  same_target = λ k _. refl;
  same_reads = λ k u _. refl;
  bottom_movable = λ u _. refl;
  join_movable = λ u a b _ _ _ _ _. refl;
  eval_movable = λ k a _ _ _. refl;
  shift_bottom = λ u _. refl;
  shift_join = λ u a b _ _ _ _ _ _ _. refl;
  shift_leq = λ u a b _ _ _ _ _ _ _ h. h;
  shift_eval = λ k a b h fa fb _ moved. law.eval_reads k b a (known (has nat_eq s.keys k) h) fb fa moved;
}
