-- A specification is accepted, or refused for one cause.
use Rattle.std.proofs.Common.{◌≡◌, ℕ, ◌<◌, false, cond, find, List, [], ◌∷◌, Some, None, refl, sym, ap, subst, ◌∙◌, inl, inr}
use Rattle.std.specs.Prelude.{◌⊎◌, Contains, slice_get}
use Rattle.std.specs.Option.{option_map}
use Rattle.std.proofs.lemmas.Bool.{cases_order}
use Rattle.std.proofs.lemmas.Option.{same_Some}
use Rattle.flow_syntax.specs.declared.expr.Expr.{Expr}
use Rattle.flow_syntax.specs.declared.property.PropRule.{PropRule}
use Rattle.flow_syntax.specs.declared.spec.Spec.{Spec}
use Rattle.flow_syntax.specs.declared.tables.FunctionDecl.{FunctionDecl}
use Rattle.flow_syntax.specs.declared.tables.TableDecl.{TableDecl}
use Rattle.flow_syntax.specs.Accepted.{HasSmallFunctions}
use Rattle.flow_syntax.specs.Faults.{HasNoFault}
use Rattle.flow_syntax.specs.Types.{Typing}
use Rattle.flow_syntax.proofs.Listed.{Contains_behind, Contains_here, at_in}
use Rattle.value_domains.specs.Domains.{table_of}
use Rattle.value_domains.specs.Lawful.{IsLawfulTable}
use Rattle.table_laws.proofs.Declared.{well_declared}
use Rattle.table_laws.proofs.Lawful.{by_numbers, faultless, in_numbers}
use Rattle.table_laws.specs.declared.fault.LawFault.{LawFault}
use Rattle.table_laws.specs.FunctionTables.{Arguments, FunctionTable, IsFirstDisorder}
use Rattle.table_laws.specs.FunctionTables as numbers
use Rattle.table_laws.specs.JoinTables.{IsFirstFault, IsLawful}
use Rattle.table_laws.specs.JoinTables as joins
use Rattle.lattice_tables.specs.Tables.{declared_numbers}
use Rattle.expr_meaning.specs.Functions.{IsMonotone}
use Rattle.expr_meaning.specs.Modes.{mode_of}
use Rattle.expr_meaning.specs.Ranges.{Range}
use Rattle.expr_meaning.specs.SpecRanges.{ranges_of}
use Rattle.function_laws.proofs.Declared.{accepted}
use Rattle.function_laws.proofs.Monotone.{by_numbers as monotone_by_numbers, in_numbers as monotone_in_numbers}
use Rattle.function_laws.specs.Laws.{numbered_function}
use Rattle.flow_modes.specs.Modes.{body_fault, first_fault_by, is_refused}
use Rattle.flow_eval.proofs.Firsts.{one_disorder, one_fault}
use Rattle.flow_eval.specs.Accepted.{HasLawfulLattices, HasMonotoneFunctions, IsAccepted, IsFirstDisordered, IsFirstUnlawful, IsRefusedFor}
use Rattle.flow_eval.specs.Laws.{SpecificationsHaveOneAnswer}
use Rattle.flow_eval.specs.Tables.{types_in}
use Rattle.flow_eval.specs.declared.refusal.PrepareRefusal.{PrepareRefusal}
use Rattle.flow_eval.specs.declared.refusal.PrepareRefusal.TheVariants.{Law, NotMonotone, Mode, NoMemory}

-- bodies of which none is refused have no fault
none_bad : (range : Expr → Range) (rules : List PropRule) → ((rule : PropRule) → Contains rules rule → is_refused (mode_of range rule.body) ≡ false) → first_fault_by range rules ≡ None
none_bad range [] good = refl
none_bad range (rule ∷ rules) good =
    ap (λ b. option_map (body_fault range) (cond b (Some rule) (find (λ rule. is_refused (mode_of range rule.body)) rules))) (good rule (Contains_here rule rules))
    ∙ none_bad range rules (λ r among. good r (Contains_behind rule rules r among))

no_disorder : (f : FunctionTable) (low high : Arguments) → numbers.IsMonotone f → IsFirstDisorder f low high → ⊥
no_disorder f low high rises d =
    d.has.results_apart (rises low.0 low.1 high.0 high.1 d.has.lower_are.0 d.has.lower_are.1 d.has.higher_are.0 d.has.higher_are.1 d.has.left_below d.has.right_below)

module _ (spec : Spec) (no_fault : HasNoFault spec) where
  -- a declared lattice is lawful by names exactly where it is by numbers
  pub lawful_by_names : (l : TableDecl) → Contains spec.lattices l → IsLawful (declared_numbers l) → IsLawfulTable (table_of (Some l))
  lawful_by_names l among laws = by_numbers (table_of (Some l)) (well_declared spec no_fault l among).complete laws

  lawful_or_fault : (l : TableDecl) → Contains spec.lattices l → IsLawfulTable (table_of (Some l)) → (fault : LawFault) → joins.Fails (declared_numbers l) fault → ⊥
  lawful_or_fault l among laws =
      let w = well_declared spec no_fault l among in
      (faultless (declared_numbers l) w.complete).1 (in_numbers (table_of (Some l)) w.distinct w.complete laws)

  lattices_or_unlawful : (n : ℕ) (fault : LawFault) → HasLawfulLattices spec → IsFirstUnlawful spec n fault → ⊥
  lattices_or_unlawful n fault lawful u =
      let among = at_in spec.lattices n u.lattice u.is in
      lawful_or_fault u.lattice among (lawful u.lattice among) fault u.breaks.has

  earlier_unlawful : (m n : ℕ) (f g : LawFault) → IsFirstUnlawful spec m f → IsFirstUnlawful spec n g → m < n → ⊥
  earlier_unlawful m n f g one two less = lawful_or_fault one.lattice (at_in spec.lattices m one.lattice one.is) (two.before m one.lattice less one.is) f one.breaks.has

  one_unlawful : (m n : ℕ) (f g : LawFault) → IsFirstUnlawful spec m f → IsFirstUnlawful spec n g → (m ≡ n) × (f ≡ g)
  one_unlawful m n f g one two = by (cases_order m n)
    where
      by : (m ≡ n) ⊎ ((m < n) ⊎ (n < m)) → (m ≡ n) × (f ≡ g)
      by (inr (inl less)) = absurd (earlier_unlawful m n f g one two less)
      by (inr (inr less)) = absurd (earlier_unlawful n m g f two one less)
      by (inl e) =
          let same : one.lattice ≡ two.lattice = same_Some one.lattice two.lattice (sym one.is ∙ ap (slice_get spec.lattices) e ∙ two.is) in
          (e, one_fault (declared_numbers two.lattice) f g (subst (λ l. IsFirstFault (declared_numbers l) f) same one.breaks) two.breaks)

  module _ (small : HasSmallFunctions spec) where
    pub monotone_by_names : (f : FunctionDecl) → Contains spec.functions f → numbers.IsMonotone (numbered_function spec f) → IsMonotone spec f
    monotone_by_names f among rises = monotone_by_numbers spec f (accepted spec no_fault small f among).0 rises

    monotone_or_disorder : (f : FunctionDecl) → Contains spec.functions f → IsMonotone spec f → (low high : Arguments) → IsFirstDisorder (numbered_function spec f) low high → ⊥
    monotone_or_disorder f among rises low high d =
        let w = accepted spec no_fault small f among in
        no_disorder (numbered_function spec f) low high (monotone_in_numbers spec f w.0 w.1 rises) d

    functions_or_disordered : (n : ℕ) (low high : Arguments) → HasMonotoneFunctions spec → IsFirstDisordered spec n low high → ⊥
    functions_or_disordered n low high rise d =
        let among = at_in spec.functions n d.function d.is in
        monotone_or_disorder d.function among (rise d.function among) low high d.breaks

    earlier_disordered : (m n : ℕ) (l h l' h' : Arguments) → IsFirstDisordered spec m l h → IsFirstDisordered spec n l' h' → m < n → ⊥
    earlier_disordered m n l h l' h' one two less =
        monotone_or_disorder one.function (at_in spec.functions m one.function one.is) (two.before m one.function less one.is) l h one.breaks

    one_disordered : (m n : ℕ) (l h l' h' : Arguments) → IsFirstDisordered spec m l h → IsFirstDisordered spec n l' h' → (m ≡ n) × (l ≡ l') × (h ≡ h')
    one_disordered m n l h l' h' one two = by (cases_order m n)
      where
        by : (m ≡ n) ⊎ ((m < n) ⊎ (n < m)) → (m ≡ n) × (l ≡ l') × (h ≡ h')
        by (inr (inl less)) = absurd (earlier_disordered m n l h l' h' one two less)
        by (inr (inr less)) = absurd (earlier_disordered n m l' h' l h two one less)
        by (inl e) =
            let same : one.function ≡ two.function = same_Some one.function two.function (sym one.is ∙ ap (slice_get spec.functions) e ∙ two.is) in
            let d = one_disorder (numbered_function spec two.function) l h l' h' (subst (λ f. IsFirstDisorder (numbered_function spec f) l h) same one.breaks) two.breaks in (e, d.0, d.1)

    module _ (types : List Typing) where
      pub accepted_or_refused : (why : PrepareRefusal) → IsAccepted spec types → IsRefusedFor spec types why → ⊥
      accepted_or_refused (Law n fault) is r = lattices_or_unlawful n fault is.lattices r
      accepted_or_refused (NotMonotone n low high) is r = functions_or_disordered n low high is.functions r.1
      accepted_or_refused (Mode fault) is r = let none = none_bad (ranges_of spec types) spec.rules is.rules in let e : None ≡ Some fault = sym none ∙ r.2 in cc
      accepted_or_refused NoMemory is r = r

      pub one_cause : (why other : PrepareRefusal) → IsRefusedFor spec types why → IsRefusedFor spec types other → why ≡ other
      one_cause (Law m f) (Law n g) a b = let s = one_unlawful m n f g a b in λ i. Law (s.0 i) (s.1 i)
      one_cause (Law m f) (NotMonotone n l h) a b = absurd (lattices_or_unlawful m f b.0 a)
      one_cause (Law m f) (Mode g) a b = absurd (lattices_or_unlawful m f b.0 a)
      one_cause (Law m f) NoMemory a b = absurd b
      one_cause (NotMonotone m l h) (Law n g) a b = absurd (lattices_or_unlawful n g a.0 b)
      one_cause (NotMonotone m l h) (NotMonotone n l' h') a b = let s = one_disordered m n l h l' h' a.1 b.1 in λ i. NotMonotone (s.0 i) (s.1 i) (s.2 i)
      one_cause (NotMonotone m l h) (Mode g) a b = absurd (functions_or_disordered m l h b.1 a.1)
      one_cause (NotMonotone m l h) NoMemory a b = absurd b
      one_cause (Mode f) (Law n g) a b = absurd (lattices_or_unlawful n g a.0 b)
      one_cause (Mode f) (NotMonotone n l h) a b = absurd (functions_or_disordered n l h a.1 b.1)
      one_cause (Mode f) (Mode g) a b = let same : f ≡ g = same_Some f g (sym a.2 ∙ b.2) in ap Mode same
      one_cause (Mode f) NoMemory a b = absurd b
      one_cause NoMemory other a b = absurd a

pub have_one_answer : SpecificationsHaveOneAnswer
have_one_answer spec = record {
  one_cause = one_cause spec.spec spec.faultless spec.small_functions (types_in spec);
  not_both = accepted_or_refused spec.spec spec.faultless spec.small_functions (types_in spec);
}
