-- The tables of functions, from the lattices of their arguments and results.
use Rattle.std.proofs.Common.{◌≡◌, ℕ, ltb, is_some, inl, inr, ◌<◌, ◌≤◌, ◌^◌, List, [], ◌∷◌, length, map, get_or, find, bytes_eq, Option, Some, None, arith, refl, sym, ap, ◌∙◌, subst}
use Rattle.std.specs.Prelude.{Contains, slice_get}
use Rattle.std.specs.Borrow.{Bor}
use Rattle.std.specs.Option.{IfSome, option_copied}
use Rattle.std.proofs.lemmas.Bool.{true≢false}
use Rattle.std.proofs.lemmas.Bool.Decides.{Decides-ltb}
use Rattle.std.proofs.lemmas.List.{length-map}
use Rattle.std.proofs.lemmas.Option.{slice_get_cases, slice_get_read}
use Rattle.flow_syntax.specs.declared.fault.SpecFaultKind.TheVariants as kinds
use Rattle.flow_syntax.specs.declared.spec.Named.{Named}
use Rattle.flow_syntax.specs.declared.spec.Spec.{Spec}
use Rattle.flow_syntax.specs.declared.tables.FunctionDecl.{FunctionDecl}
use Rattle.flow_syntax.specs.declared.tables.TableDecl.{TableDecl}
use Rattle.flow_syntax.specs.Accepted.{HasSmallFunctions}
use Rattle.flow_syntax.specs.DeclFaults.{argument, result, unknown}
use Rattle.flow_syntax.specs.Faults.{HasNoFault, declaration}
use Rattle.flow_syntax.proofs.Listed.{at_in}
use Rattle.flow_syntax.proofs.Matches.{found_among}
use Rattle.value_domains.specs.Domains.{place_in, table_named, table_of, texts_of}
use Rattle.table_laws.proofs.Declared.{well_declared}
use Rattle.table_laws.specs.FunctionTables.{IsTotal}
use Rattle.table_laws.specs.JoinTables.{numbered}
use Rattle.function_laws.proofs.Declared.{accepted}
use Rattle.function_laws.specs.Laws.{first_lattice, numbered_function, second_lattice}
use Rattle.lattice_tables.specs.declared.lattice.TableL.{TableL}
use Rattle.lattice_tables.specs.Functions.{binary, unary}
use Rattle.lattice_tables.specs.Tables.{join_table}
use Rattle.flow_eval.specs.inner.Built.{IsKnown}

-- what stands at a number, where it was asked for
got : {X : Type 0} (o : Option (Bor X)) (xs : List X) (n : ℕ) → is_some o ≡ ltb n (length xs) → IfSome o (λ x. x.now ≡ get_or xs n x.now) → option_copied o ≡ slice_get xs n
got None xs n there is = elim (slice_get_cases xs n).1 [
  | inl w ↦ absurd (true≢false (sym ((Decides-ltb n (length xs)).1 w.1) ∙ sym there))
  | inr w ↦ sym w.1
]
got (Some x) xs n there is = sym (slice_get_read xs (length xs) n x.now refl ((Decides-ltb n (length xs)).0 (sym there)) is)

pub got_none : {X : Type 0} (o : Option (Bor X)) (xs : List X) (n : ℕ) → is_some o ≡ ltb n (length xs) → IfSome o (λ x. x.now ≡ get_or xs n x.now) → o ≡ None → slice_get xs n ≡ None
got_none o xs n there is e = sym (got o xs n there is) ∙ ap option_copied e

pub got_some : {X : Type 0} (o : Option (Bor X)) (xs : List X) (n : ℕ) (x : Bor X) → is_some o ≡ ltb n (length xs) → IfSome o (λ x. x.now ≡ get_or xs n x.now) → o ≡ Some x → slice_get xs n ≡ Some x.now
got_some o xs n x there is e = sym (got o xs n there is) ∙ ap option_copied e

-- one argument, where there is no second
one_argument : (args : List Named) (n : Named) → 1 ≤ length args → n ≡ get_or args 0 n → slice_get args 1 ≡ None → args ≡ n ∷ []
one_argument [] n some first none = absurd (omega (arith, some))
one_argument (m ∷ []) n some first none = ap (λ k. k ∷ []) (sym first)
one_argument (m ∷ k ∷ args) n some first none = cc

two_arguments : (args : List Named) (n m : Named) → length args ≤ 2 → n ≡ get_or args 0 n → slice_get args 1 ≡ Some m → args ≡ n ∷ m ∷ []
two_arguments [] n m few first second = cc
two_arguments (k ∷ []) n m few first second = cc
two_arguments (k ∷ l ∷ []) n m few first second = let same : l ≡ m = cc in λ i. sym first i ∷ same i ∷ []
two_arguments (k ∷ l ∷ j ∷ args) n m few first second = absurd (omega (arith, few))

module _ (spec : Spec) (no_fault : HasNoFault spec) (small : HasSmallFunctions spec) (f : FunctionDecl) (among : Contains spec.functions f) (ds : List TableDecl) (declared : ds ≡ spec.lattices) where
  known_there : (x : List ℕ) → IsKnown spec.lattices x → IsKnown ds x
  known_there x known = subst (λ d. IsKnown d x) (sym declared) known

  pub result_known : IsKnown ds f.result.text
  result_known = known_there f.result.text (λ none. no_fault f.result.place kinds.Unknown (declaration (unknown f.result (result f among none) refl)))

  argument_known : (n : Named) → Contains f.args n → IsKnown ds n.text
  argument_known n here = known_there n.text (λ none. no_fault n.place kinds.Unknown (declaration (unknown n (argument f n among here none) refl)))

  pub some_arguments : (args : List Named) → args ≡ f.args → 1 ≤ length args
  some_arguments args same = subst (λ ns. 1 ≤ length ns) (sym same) (small f among).0

  pub first_known : (args : List Named) (n : Named) → args ≡ f.args → n ≡ get_or args 0 n → IsKnown ds n.text
  first_known args n same first = let some = some_arguments args same in argument_known n (subst (λ ns. Contains ns n) same (0, omega (arith, some), sym first))

  pub second_known : (args : List Named) (n : Named) → args ≡ f.args → slice_get args 1 ≡ Some n → IsKnown ds n.text
  second_known args n same second = argument_known n (at_in f.args 1 n (ap (λ ns. slice_get ns 1) (sym same) ∙ second))

  pub few_elements : length (table_named ds f.result.text).elements < 2 ^ 8
  few_elements = by (find (λ d. bytes_eq f.result.text d.name.text) ds) refl
    where
      by : (o : Option TableDecl) → find (λ d. bytes_eq f.result.text d.name.text) ds ≡ o → length (table_of o).elements < 2 ^ 8
      by None e = omega arith
      by (Some l) e =
          let w = (well_declared spec no_fault l (subst (λ d. Contains d l) declared (found_among _ ds l e))).few in
          let n = length-map l.elements (λ (n : Named). n.text) in
          omega (arith, w, n)

  module _ (args : List Named) (same : args ≡ f.args) (n : Named) (first : n ≡ get_or args 0 n) (left result_lattice : TableL) (results : List ℕ)
      (left_is : join_table left ≡ numbered (table_named ds n.text)) (result_is : join_table result_lattice ≡ numbered (table_named ds f.result.text))
      (results_are : results ≡ map (place_in (table_named ds f.result.text).elements) (texts_of f.table)) where
    pub unary_is : slice_get args 1 ≡ None → unary left result_lattice results ≡ numbered_function spec f
    unary_is none =
        let opened : n ∷ [] ≡ f.args = sym (one_argument args n (some_arguments args same) first none) ∙ same in
        λ i. record {
          left = (left_is ∙ (λ j. numbered (first_lattice (declared j) (opened j)))) i;
          right = numbered (second_lattice (declared i) (opened i));
          to = (result_is ∙ ap (λ d. numbered (table_named d f.result.text)) declared) i;
          results = (results_are ∙ ap (λ d. map (place_in (table_named d f.result.text).elements) (texts_of f.table)) declared) i;
        }

    pub binary_is : (m : Named) (right : TableL) → slice_get args 1 ≡ Some m → join_table right ≡ numbered (table_named ds m.text) → binary left right result_lattice results ≡ numbered_function spec f
    binary_is m right second right_is =
        let few : length args ≤ 2 = subst (λ ns. length ns ≤ 2) (sym same) (small f among).1 in
        let opened : n ∷ m ∷ [] ≡ f.args = sym (two_arguments args n m few first second) ∙ same in
        λ i. record {
          left = (left_is ∙ (λ j. numbered (first_lattice (declared j) (opened j)))) i;
          right = (right_is ∙ (λ j. numbered (second_lattice (declared j) (opened j)))) i;
          to = (result_is ∙ ap (λ d. numbered (table_named d f.result.text)) declared) i;
          results = (results_are ∙ ap (λ d. map (place_in (table_named d f.result.text).elements) (texts_of f.table)) declared) i;
        }

  pub total : IsTotal (numbered_function spec f)
  total = (accepted spec no_fault small f among).0.total
