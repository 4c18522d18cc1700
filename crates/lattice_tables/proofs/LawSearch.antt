-- The first fault of each law, as the search for it finds it.
use Rattle.std.proofs.Common.{◌≡◌, ℕ, Bool, true, false, ◌||◌, List, arith, Some, None, refl, sym, ap, ◌∙◌, subst, inl, inr}
use Rattle.std.specs.Prelude.{◌≢◌, ◌==◌, not, Contains, find}
use mathlib.Core.Logic.{⊎_elim, ◌⊎◌}
use Rattle.std.proofs.lemmas.Bool.{true≢false}
use Rattle.std.proofs.lemmas.Bool.Decides.{Decides-eqb}
use Rattle.table_laws.specs.declared.fault.LawFault.{LawFault}
use Rattle.table_laws.specs.declared.fault.LawFault.TheVariants.{Idempotent, Commutative, Associative, BottomLaw}
use Rattle.table_laws.specs.JoinTables.{JoinTable, Fails, IsElement, join_of, law_of, elements_of}
use Rattle.table_laws.specs.Tuples.{IsBefore}
use Rattle.lattice_tables.specs.inner.Faults.{IsFirstOfLaw}
use Rattle.lattice_tables.specs.inner.Tests.{changes_itself, depends_on_order, depends_on_grouping, changes_by_bottom}
use Rattle.lattice_tables.specs.inner.Tuples.{numbers_below, pairs_below, triples_below}
use Rattle.lattice_tables.proofs.Firsts.{Rises, number, longer, found_first, none_found, in_rows, rows_in, in_range, range_in, range_rises, rows_rise}

-- WHAT THE TESTS TELL

apart : (b : Bool) → not b ≡ true → b ≡ true → ⊥
apart true h k = true≢false (sym h)
apart false h k = true≢false (sym k)

other : (b : Bool) → (b ≡ true → ⊥) → not b ≡ true
other true h = absurd (h refl)
other false h = refl

pub differ : (a b : ℕ) → not (a == b) ≡ true → a ≢ b
differ a b h e = apart (a == b) h ((Decides-eqb a b).1 e)

pub told : (a b : ℕ) → a ≢ b → not (a == b) ≡ true
told a b h = other (a == b) (λ k. h ((Decides-eqb a b).0 k))

either : (a b : Bool) → (a || b) ≡ true → (a ≡ true) ⊎ (b ≡ true)
either true b h = inl refl
either false b h = inr h

one : (a b : Bool) → (a ≡ true) ⊎ (b ≡ true) → (a || b) ≡ true
one true b h = refl
one false b h = ⊎_elim (λ (k : false ≡ true). absurd (true≢false (sym k))) (λ (k : b ≡ true). k) h

-- ONE LAW

module _ (t : JoinTable) (law : ℕ) {X : Type 0} (tuple : X → List ℕ) (make : X → LawFault) (zs : List X) (rises : Rises tuple zs) (test : X → Bool)
    (of_law : (x : X) → law_of (make x) ≡ law) (elements : (x : X) → elements_of (make x) ≡ tuple x)
    (fails : (x : X) → Contains zs x → test x ≡ true → Fails t (make x))
    (fault_of : (fault : LawFault) → law_of fault ≡ law → Fails t fault → (x : X) × (fault ≡ make x) × Contains zs x × (test x ≡ true)) where
  none_of_law : find test zs ≡ None → IsFirstOfLaw t law None
  none_of_law e fault l h = let w = fault_of fault l h in true≢false (sym w.3 ∙ none_found tuple test zs e w.0 w.2)

  first_of_law : (x : X) → find test zs ≡ Some x → IsFirstOfLaw t law (Some (make x))
  first_of_law x e =
      let p = found_first tuple test zs x rises e in
      record {
        has = (of_law x, fails x p.1 p.0);
        none_before = λ g b h.
            let w = fault_of g h.0 h.1 in
            let before : IsBefore (tuple w.0) (tuple x) = subst (λ xs. IsBefore xs (tuple x)) (ap elements_of w.1 ∙ elements w.0) (subst (IsBefore (elements_of g)) (elements x) b) in
            true≢false (sym w.3 ∙ p.2 w.0 w.2 before);
      }

-- EACH LAW

module _ (t : JoinTable) where
  idempotent_of : (fault : LawFault) → law_of fault ≡ 0 → Fails t fault → (x : ℕ) × (fault ≡ Idempotent x) × Contains (numbers_below t.count) x × (changes_itself t x ≡ true)
  idempotent_of (Idempotent a) l h = (a, refl, in_range t.count a h.0, told (join_of t a a) a h.1)
  idempotent_of (Commutative a b) l h = absurd (omega (arith, l))
  idempotent_of (Associative a b c) l h = absurd (omega (arith, l))
  idempotent_of (BottomLaw a) l h = absurd (omega (arith, l))

  idempotent_fails : (a : ℕ) → Contains (numbers_below t.count) a → changes_itself t a ≡ true → Fails t (Idempotent a)
  idempotent_fails a c h = (range_in t.count a c, differ (join_of t a a) a h)

  pub no_idempotent : find (changes_itself t) (numbers_below t.count) ≡ None → IsFirstOfLaw t 0 None
  no_idempotent = none_of_law t 0 number Idempotent (numbers_below t.count) (range_rises 0 t.count) (changes_itself t) (λ x. refl) (λ x. refl) idempotent_fails idempotent_of

  pub first_idempotent : (a : ℕ) → find (changes_itself t) (numbers_below t.count) ≡ Some a → IsFirstOfLaw t 0 (Some (Idempotent a))
  first_idempotent = first_of_law t 0 number Idempotent (numbers_below t.count) (range_rises 0 t.count) (changes_itself t) (λ x. refl) (λ x. refl) idempotent_fails idempotent_of

  abbrev ns : List ℕ
  ns = numbers_below t.count

  pairs_rise : Rises (longer number) (pairs_below t.count t.count)
  pairs_rise = rows_rise number ns ns (range_rises 0 t.count) (range_rises 0 t.count)

  in_pairs : (a b : ℕ) → IsElement t a → IsElement t b → Contains (pairs_below t.count t.count) (a, b)
  in_pairs a b h k = in_rows ns ns a b (in_range t.count a h) (in_range t.count b k)

  pairs_in : (p : ℕ × ℕ) → Contains (pairs_below t.count t.count) p → IsElement t p.0 × IsElement t p.1
  pairs_in p h = let r = rows_in ns ns p h in (range_in t.count p.0 r.0, range_in t.count p.1 r.1)

  abbrev commutative : ℕ × ℕ → LawFault
  commutative p = Commutative p.0 p.1

  commutative_of : (fault : LawFault) → law_of fault ≡ 1 → Fails t fault → (p : ℕ × ℕ) × (fault ≡ commutative p) × Contains (pairs_below t.count t.count) p × (depends_on_order t p ≡ true)
  commutative_of (Idempotent a) l h = absurd (omega (arith, l))
  commutative_of (Commutative a b) l h = ((a, b), refl, in_pairs a b h.0 h.1, told (join_of t a b) (join_of t b a) h.2)
  commutative_of (Associative a b c) l h = absurd (omega (arith, l))
  commutative_of (BottomLaw a) l h = absurd (omega (arith, l))

  commutative_fails : (p : ℕ × ℕ) → Contains (pairs_below t.count t.count) p → depends_on_order t p ≡ true → Fails t (commutative p)
  commutative_fails p c h = let r = pairs_in p c in (r.0, r.1, differ (join_of t p.0 p.1) (join_of t p.1 p.0) h)

  pub no_commutative : find (depends_on_order t) (pairs_below t.count t.count) ≡ None → IsFirstOfLaw t 1 None
  no_commutative = none_of_law t 1 (longer number) commutative (pairs_below t.count t.count) pairs_rise (depends_on_order t) (λ x. refl) (λ x. refl) commutative_fails commutative_of

  pub first_commutative : (p : ℕ × ℕ) → find (depends_on_order t) (pairs_below t.count t.count) ≡ Some p → IsFirstOfLaw t 1 (Some (commutative p))
  first_commutative = first_of_law t 1 (longer number) commutative (pairs_below t.count t.count) pairs_rise (depends_on_order t) (λ x. refl) (λ x. refl) commutative_fails commutative_of

  abbrev associative : (ℕ × ℕ) × ℕ → LawFault
  associative p = Associative p.0.0 p.0.1 p.1

  associative_of : (fault : LawFault) → law_of fault ≡ 2 → Fails t fault → (p : (ℕ × ℕ) × ℕ) × (fault ≡ associative p) × Contains (triples_below t.count) p × (depends_on_grouping t p ≡ true)
  associative_of (Idempotent a) l h = absurd (omega (arith, l))
  associative_of (Commutative a b) l h = absurd (omega (arith, l))
  associative_of (Associative a b c) l h = (
    ((a, b), c),
    refl,
    in_rows (pairs_below t.count t.count) ns (a, b) c (in_pairs a b h.0 h.1) (in_range t.count c h.2),
    told (join_of t (join_of t a b) c) (join_of t a (join_of t b c)) h.3,
  )
  associative_of (BottomLaw a) l h = absurd (omega (arith, l))

  associative_fails : (p : (ℕ × ℕ) × ℕ) → Contains (triples_below t.count) p → depends_on_grouping t p ≡ true → Fails t (associative p)
  associative_fails p c h =
      let r = rows_in (pairs_below t.count t.count) ns p c in
      let q = pairs_in p.0 r.0 in
      (q.0, q.1, range_in t.count p.1 r.1, differ (join_of t (join_of t p.0.0 p.0.1) p.1) (join_of t p.0.0 (join_of t p.0.1 p.1)) h)

  triples_rise : Rises (longer (longer number)) (triples_below t.count)
  triples_rise = rows_rise (longer number) (pairs_below t.count t.count) ns pairs_rise (range_rises 0 t.count)

  pub no_associative : find (depends_on_grouping t) (triples_below t.count) ≡ None → IsFirstOfLaw t 2 None
  no_associative = none_of_law t 2 (longer (longer number)) associative (triples_below t.count) triples_rise (depends_on_grouping t) (λ x. refl) (λ x. refl) associative_fails associative_of

  pub first_associative : (p : (ℕ × ℕ) × ℕ) → find (depends_on_grouping t) (triples_below t.count) ≡ Some p → IsFirstOfLaw t 2 (Some (associative p))
  first_associative = first_of_law t 2 (longer (longer number)) associative (triples_below t.count) triples_rise (depends_on_grouping t) (λ x. refl) (λ x. refl) associative_fails associative_of

  bottom_of : (fault : LawFault) → law_of fault ≡ 3 → Fails t fault → (x : ℕ) × (fault ≡ BottomLaw x) × Contains ns x × (changes_by_bottom t x ≡ true)
  bottom_of (Idempotent a) l h = absurd (omega (arith, l))
  bottom_of (Commutative a b) l h = absurd (omega (arith, l))
  bottom_of (Associative a b c) l h = absurd (omega (arith, l))
  bottom_of (BottomLaw a) l h = (
    a,
    refl,
    in_range t.count a h.0,
    one (not (join_of t t.bottom a == a)) (not (join_of t a t.bottom == a))
        (⊎_elim (λ (k : join_of t t.bottom a ≢ a). inl (told (join_of t t.bottom a) a k)) (λ (k : join_of t a t.bottom ≢ a). inr (told (join_of t a t.bottom) a k)) h.1),
  )

  bottom_fails : (a : ℕ) → Contains ns a → changes_by_bottom t a ≡ true → Fails t (BottomLaw a)
  bottom_fails a c h = (
    range_in t.count a c,
    ⊎_elim
        (λ (k : not (join_of t t.bottom a == a) ≡ true). inl (differ (join_of t t.bottom a) a k))
        (λ (k : not (join_of t a t.bottom == a) ≡ true). inr (differ (join_of t a t.bottom) a k))
        (either (not (join_of t t.bottom a == a)) (not (join_of t a t.bottom == a)) h),
  )

  pub no_bottom : find (changes_by_bottom t) ns ≡ None → IsFirstOfLaw t 3 None
  no_bottom = none_of_law t 3 number BottomLaw ns (range_rises 0 t.count) (changes_by_bottom t) (λ x. refl) (λ x. refl) bottom_fails bottom_of

  pub first_bottom : (a : ℕ) → find (changes_by_bottom t) ns ≡ Some a → IsFirstOfLaw t 3 (Some (BottomLaw a))
  first_bottom = first_of_law t 3 number BottomLaw ns (range_rises 0 t.count) (changes_by_bottom t) (λ x. refl) (λ x. refl) bottom_fails bottom_of
