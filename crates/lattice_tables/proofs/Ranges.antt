-- What a range gives, and a copy of it.
use Rattle.std.proofs.Common.{◌≡◌, ℕ, Bool, true, false, List, Option, Some, None, refl, sym, ◌∙◌, ap, arith, Bor}
use Rattle.std.specs.Prelude.{find, MatchOption, ⊤}
use Rattle.std.specs.Option.{option_map}
use denote.Param.Members.{Mut}
use Rattle.std.proofs.lemmas.Iterator.Search.{find_from_yields_List}
use Rattle.std.proofs.lemmas.Iterator.{YieldsList-from_range}
use Rattle.std.proofs.iter.Yields.{nat_range_steps}
use Rattle.std.specs.declared.ops.Range.{Range}
use Rattle.std.specs.Fn.{CalledAt}
use Rattle.std.specs.Iterator.{YieldsThen}
use Rattle.std.specs.List.{FoldsTo}
use Rattle.lattice_tables.specs.inner.Tuples.{Gives, numbers_below}

pub below : (n : ℕ) (r : Range ℕ) → r.start ≡ 0 → r.end ≡ n → Gives nat_range_steps r (numbers_below n)
below n r s e = record { yields = (YieldsList-from_range {s = r} 0 n n (λ i. record { start = s i; end = e i }) (omega arith)).runs }

pub copied_below : (n : ℕ) (r s : Range ℕ) → r ≡ record { start = 0; end = n } → (s.start ≡ r.start) × (s.end ≡ r.end) → Gives nat_range_steps s (numbers_below n)
copied_below n r s made copied = below n s (copied.0 ∙ ap (λ (r : Range ℕ). r.start) made) (copied.1 ∙ ap (λ (r : Range ℕ). r.end) made)

option_same : {A : Type 0} (o : Option A) → option_map (λ x. x) o ≡ o
option_same None = refl
option_same (Some x) = refl

-- what `find` finds, where its closure computes a test
pub found_in : {S A F : Type 0} {steps : S → Option A → S → Type 0} {s : S} {items : List A} → Gives steps s items → {g : Mut F (Bor A × Unit {0}) Bool} (test : A → Bool) (u : S) (f : F) (r : Option A)
    → (xs : List A) × (j : F) × YieldsThen steps s xs r u × FoldsTo (λ p x q. CalledAt g p x false q) f xs j × MatchOption r ⊤ (λ x. (h : F) × CalledAt g j x true h)
    → ((x : A) (b : Bool) (q : F) → CalledAt g f x b q → (q ≡ f) × (b ≡ test x)) → r ≡ find test items
found_in {S} {A} {F} {steps} {s} {items} gives test u f r ran called = sym (option_same r) ∙ find_from_yields_List {steps = steps} {v = λ x. x} {s = s} test u f r ran (record { runs = gives.yields }) called
