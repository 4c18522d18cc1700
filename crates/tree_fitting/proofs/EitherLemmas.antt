-- A term fits with all below it, or there is a least misfit at or below it.
use Rattle.std.proofs.Common.{◌≡◌, ℕ, zero, suc, ◌+◌, ◌≤◌, Bool, true, false, List, [], ◌∷◌, length, Option, Some, None, refl, sym, subst, ◌∙◌, inl, inr, arith}
use Rattle.std.specs.Prelude.{◌⊎◌, slice_get, sum_by}
use Rattle.std.proofs.lemmas.List.Sums.{sum_by-cons}
use Rattle.flow_term.specs.declared.term.Term.{Term}
use Rattle.flow_term.specs.Trees.{children, term_size}
use Rattle.flow_term.proofs.Sizes.{term_size_out}
use Rattle.flow_syntax.specs.declared.signature.Constructor.{Constructor}
use Rattle.flow_syntax.specs.declared.signature.TreeSort.{TreeSort}
use Rattle.tree_fitting.specs.Children.{MisfitsAmong, MisfitsInChild}
use Rattle.tree_fitting.specs.Fits.{MisfitsBelow, child_sort, fits_form, named_sort}
use Rattle.tree_fitting.specs.Laws.{TreeFitsOrMisfits}
use Rattle.tree_fitting.specs.Least.{IsLeastOf}
use Rattle.tree_fitting.proofs.ChildLemmas.{NoneBefore, least_child, least_same, none_among, none_more}
use Rattle.tree_fitting.proofs.OrderLemmas.{none_before_root, sides}
use Rattle.tree_fitting.proofs.StepLemmas.{misfits_among, root_misfits}

-- none is among these, or there is a least one
abbrev NoneOrLeast : (List ℕ → Type 0) → Type 0
NoneOrLeast P = ((path : List ℕ) → ¬ P path) ⊎ ((path : List ℕ) × IsLeastOf P path)

-- a term of a list is no larger than the list
one_of : (ts : List Term) (n : ℕ) (t : Term) → slice_get ts n ≡ Some t → term_size t ≤ sum_by term_size ts
one_of [] n t e = cc
one_of (u ∷ ts) zero t e = let same : term_size u ≡ term_size t = cc in omega (arith, same, sum_by-cons term_size u ts)
one_of (u ∷ ts) (suc n) t e = omega (arith, one_of ts n t e, sum_by-cons term_size u ts)

module _ (cs : List Constructor) where
  -- among children of which each either fits or has a least misfit
  module _ (expected : ℕ → Option TreeSort) (ts : List Term) (each : (n : ℕ) (child : Term) (sort : TreeSort) → slice_get ts n ≡ Some child → NoneOrLeast (MisfitsBelow cs sort child)) where
    -- no misfit in a child that isn't there, or of which nothing is expected
    nothing_there : (n : ℕ) → slice_get ts n ≡ None → (rest : List ℕ) → ¬ MisfitsInChild cs expected ts n rest
    nothing_there n e rest c = let f : None ≡ Some c.child = sym e ∙ c.is in cc

    nothing_wanted : (n : ℕ) → expected n ≡ None → (rest : List ℕ) → ¬ MisfitsInChild cs expected ts n rest
    nothing_wanted n e rest c = let f : None ≡ Some c.sort = sym e ∙ c.wanted in cc

    one_further : (n : ℕ) → NoneBefore cs expected ts n → ((rest : List ℕ) → ¬ MisfitsInChild cs expected ts n rest) → NoneBefore cs expected ts (n + 1)
    one_further n before none k within rest c = elim (sides k n) [
      | inl less ↦ before k less rest c
      | inr other ↦ elim other [
        | inl same ↦ none rest (subst (λ (m : ℕ). MisfitsInChild cs expected ts m rest) same c)
        | inr more ↦ absurd (omega arith)
      ]
    ]

    in_child : (n : ℕ) → NoneBefore cs expected ts n → (NoneBefore cs expected ts (n + 1) → NoneOrLeast (MisfitsAmong cs expected ts))
        → (child : Term) (sort : TreeSort) → slice_get ts n ≡ Some child → expected n ≡ Some sort → NoneOrLeast (MisfitsBelow cs sort child) → NoneOrLeast (MisfitsAmong cs expected ts)
    in_child n before further child sort is wanted (inl none) = further (none_more cs expected ts n child sort is wanted before none)
    in_child n before further child sort is wanted (inr least) = inr (n ∷ least.0, least_child cs expected ts n child sort is wanted least.0 before least.1)

    -- at the child with this number, with what is found behind it where it has no misfit
    at_child : (n : ℕ) → NoneBefore cs expected ts n → (NoneBefore cs expected ts (n + 1) → NoneOrLeast (MisfitsAmong cs expected ts))
        → (o : Option Term) → slice_get ts n ≡ o → (s : Option TreeSort) → expected n ≡ s → NoneOrLeast (MisfitsAmong cs expected ts)
    at_child n before further None is s wanted = further (one_further n before (nothing_there n is))
    at_child n before further (Some child) is None wanted = further (one_further n before (nothing_wanted n wanted))
    at_child n before further (Some child) is (Some sort) wanted = in_child n before further child sort is wanted (each n child sort is)

    among : (left n : ℕ) → length ts ≤ n + left → NoneBefore cs expected ts n → NoneOrLeast (MisfitsAmong cs expected ts)
    among zero n all before = inl (none_among cs expected ts n (omega (arith, all)) before)
    among (suc left) n all before = at_child n before (among left (n + 1) (omega (arith, all))) (slice_get ts n) refl (expected n) refl

  module _ (sort : TreeSort) (t : Term) (each : (n : ℕ) (child : Term) (s : TreeSort) → slice_get (children t) n ≡ Some child → NoneOrLeast (MisfitsBelow cs s child)) where
    inside : fits_form cs sort t ≡ true → NoneOrLeast (MisfitsAmong cs (child_sort cs sort t) (children t)) → NoneOrLeast (MisfitsBelow cs sort t)
    inside fits (inl none) = inl (λ path m. none path ((misfits_among cs sort t fits path).1 m))
    inside fits (inr least) = inr (least.0, least_same least.0 (misfits_among cs sort t fits) least.1)

    at_term : (b : Bool) → fits_form cs sort t ≡ b → NoneOrLeast (MisfitsBelow cs sort t)
    at_term false unfit = inr ([], record { among = root_misfits cs sort t unfit; none_before = λ other m. none_before_root other })
    at_term true fits = inside fits (among (child_sort cs sort t) (children t) each (length (children t)) 0 (omega arith) (λ k less. absurd (omega arith)))

  below : (size : ℕ) (sort : TreeSort) (t : Term) → term_size t ≤ size → NoneOrLeast (MisfitsBelow cs sort t)
  below zero sort t small = absurd (omega (arith, small, term_size_out t))
  below (suc size) sort t small =
      at_term sort t (λ n child s is. below size s child (omega (arith, small, term_size_out t, one_of (children t) n child is))) (fits_form cs sort t) refl

pub either : TreeFitsOrMisfits
either None tree = inl tt
either (Some signature) tree = below signature.constructors (term_size tree) (named_sort signature.start) tree (omega arith)
