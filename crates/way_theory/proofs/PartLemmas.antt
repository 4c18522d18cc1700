-- The ways of a whole are those of its parts, and those of its steps.
use Rattle.std.proofs.Common.{◌≡◌, ◌⊎◌, ◌↔◌, ℕ, refl, sym, ap, subst, ◌∙◌, inl, inr}
use Rattle.way_theory.specs.Ways.{Way, by_link, over}
use Rattle.way_theory.specs.Parts.{AreApart, IsFirst, IsLast, Link, its_own, of_part, Passes, Step, own_link, enter, leave, pass}
use Rattle.way_theory.proofs.WayLemmas.{way_flat, way_map}

module _ {P X : Type 0} (Inner : P → Type 0) (own : P → P → Type 0) (inside : ℕ → P → P → Type 0) (entry : P) (exit : X → P) (entry_of : ℕ → P) (exit_of : ℕ → X → P) where
  abbrev WholeLink : P → P → Type 0
  WholeLink = Link own inside

  abbrev WholeStep : P → P → Type 0
  WholeStep = Step own entry_of exit_of (IsFirst Inner inside entry_of) (IsLast Inner inside exit_of) (Passes Inner inside entry_of exit_of)

  -- how far a way has come: all of it in one part, or behind a link of the whole's own, or in a part that such a link led into
  data Come (a c : P) : Type 0 where
    in_part : (k : ℕ) → Way Inner (inside k) a c → Come a c
    behind_own : Way Inner WholeStep a c → (x : P) → own x c → Come a c
    entered : (k : ℕ) → Way Inner WholeStep a (entry_of k) → Inner (entry_of k) → Way Inner (inside k) (entry_of k) c → Come a c

  module _ (IsAt : ℕ → P → Type 0) (apart : AreApart Inner own inside entry exit entry_of exit_of IsAt) where
    -- the ends of a way in a part are points of it
    pub way_at : (k : ℕ) (x y : P) → Way Inner (inside k) x y → IsAt k x × IsAt k y
    way_at k x _ (by_link y l) = apart.inside_at k x y l
    way_at k x _ (over m y w i l) = ((way_at k x m w).0, (apart.inside_at k m y l).1)

    -- what leads out of a part is one of its exits
    out_of : (k : ℕ) (c d : P) → IsAt k c → Inner c → own c d → (e : X) × (c ≡ exit_of k e)
    out_of k c d at i l = elim (apart.own_from c d l i) [
      | inl outside ↦ absurd (outside k at)
      | inr w ↦ (w.1, w.2 ∙ ap (λ (n : ℕ). exit_of n w.1) (apart.one_part w.0 k (exit_of w.0 w.1) (apart.exit_at w.0 w.1) (subst (IsAt k) w.2 at)))
    ]

    -- what leads into a part is its entry
    into : (k : ℕ) (x c : P) → IsAt k c → Inner c → own x c → c ≡ entry_of k
    into k x c at i l = elim (apart.own_to x c l i) [
      | inl outside ↦ absurd (outside k at)
      | inr w ↦ w.1 ∙ ap entry_of (apart.one_part w.0 k (entry_of w.0) (apart.entry_at w.0) (subst (IsAt k) w.1 at))
    ]

    own_next : (a c d : P) → (a ≡ entry) ⊎ (¬ Inner a) → Inner c → own c d → Come a c → Come a d
    own_next a c d (inl e) i l (in_part k v) = absurd (apart.entry_outside k (subst (IsAt k) e (way_at k a c v).0))
    own_next a c d (inr n) i l (in_part k v) =
        let f = out_of k c d (way_at k a c v).1 i l in
        behind_own (over c d (by_link c (leave k f.0 f.1 (record { node = n; way = subst (λ (x : P). Way Inner (inside k) a x) f.1 v }))) i (own_link l)) c l
    own_next a c d from i l (behind_own v x m) = behind_own (over c d v i (own_link l)) c l
    own_next a c d from i l (entered k v j u) =
        let f = out_of k c d (way_at k (entry_of k) c u).1 i l in
        behind_own (over c d (over (entry_of k) c v j (pass k f.0 refl f.1 (subst (λ (x : P). Way Inner (inside k) (entry_of k) x) f.1 u))) i (own_link l)) c l

    part_next : (a c d : P) → Inner c → (k : ℕ) → inside k c d → Come a c → Come a d
    part_next a c d i k l (in_part j v) =
        let same : k ≡ j = sym (apart.one_part j k c (way_at j a c v).1 (apart.inside_at k c d l).0) in
        in_part j (over c d v i (subst (λ (n : ℕ). inside n c d) same l))
    part_next a c d i k l (behind_own v x m) =
        let e : c ≡ entry_of k = into k x c (apart.inside_at k c d l).0 i m in
        entered k (subst (λ (y : P). Way Inner WholeStep a y) e v) (subst Inner e i) (by_link d (subst (λ (y : P). inside k y d) e l))
    part_next a c d i k l (entered j v h u) =
        let same : k ≡ j = sym (apart.one_part j k c (way_at j (entry_of j) c u).1 (apart.inside_at k c d l).0) in
        entered j v h (over c d u i (subst (λ (n : ℕ). inside n c d) same l))

    -- a way of the whole, in steps
    come : (a c : P) → (a ≡ entry) ⊎ (¬ Inner a) → Way Inner WholeLink a c → Come a c
    come a _ from (by_link c (its_own l)) = behind_own (by_link c (own_link l)) a l
    come a _ from (by_link c (of_part k l)) = in_part k (by_link c l)
    come a _ from (over c d w i (its_own l)) = own_next a c d from i l (come a c from w)
    come a _ from (over c d w i (of_part k l)) = part_next a c d i k l (come a c from w)

    -- a step is a way of the whole
    of_step : (x y : P) → WholeStep x y → Way Inner WholeLink x y
    of_step x y (own_link l) = by_link y (its_own l)
    of_step x y (enter k e f) = subst (λ (p : P). Way Inner WholeLink p y) (sym e) (way_map Inner (inside k) WholeLink (entry_of k) y (λ p q l. of_part k l) f.way)
    of_step x y (leave k e f m) = subst (λ (p : P). Way Inner WholeLink x p) (sym f) (way_map Inner (inside k) WholeLink x (exit_of k e) (λ p q l. of_part k l) m.way)
    of_step x y (pass k e f g w) =
        subst (λ (p : P). Way Inner WholeLink p y) (sym f)
        (subst (λ (p : P). Way Inner WholeLink (entry_of k) p) (sym g) (way_map Inner (inside k) WholeLink (entry_of k) (exit_of k e) (λ p q l. of_part k l) w))

    -- The ways of the whole from its entry or a node to one of its exits or a node are those of its parts and those of its steps.
    pub ways_split : (a b : P) → (a ≡ entry) ⊎ (¬ Inner a) → ((e : X) × (b ≡ exit e)) ⊎ (¬ Inner b) → Way Inner WholeLink a b ↔ (((k : ℕ) × Way Inner (inside k) a b) ⊎ Way Inner WholeStep a b)
    ways_split a b from to = (
      λ w. done (come a b from w) to,
      λ h. elim h [
        | inl v ↦ way_map Inner (inside v.0) WholeLink a b (λ p q l. of_part v.0 l) v.1
        | inr v ↦ way_flat Inner WholeStep WholeLink a b of_step v
      ],
    )
      where
        done : Come a b → ((e : X) × (b ≡ exit e)) ⊎ (¬ Inner b) → ((k : ℕ) × Way Inner (inside k) a b) ⊎ Way Inner WholeStep a b
        done (in_part k v) to = inl (k, v)
        done (behind_own v x l) to = inr v
        done (entered k v j u) (inl e) = absurd (apart.exit_outside k e.0 (subst (IsAt k) e.1 (way_at k (entry_of k) b u).1))
        done (entered k v j u) (inr n) = inr (over (entry_of k) b v j (enter k refl (record { node = n; way = u })))

    -- The ways from the entry, or to an exit, are those of the steps.
    pub ways_from_entry : (b : P) → ((e : X) × (b ≡ exit e)) ⊎ (¬ Inner b) → Way Inner WholeLink entry b ↔ Way Inner WholeStep entry b
    ways_from_entry b to = (
      λ w. elim ((ways_split entry b (inl refl) to).0 w) [ inl v ↦ absurd (apart.entry_outside v.0 (way_at v.0 entry b v.1).0) | inr v ↦ v ],
      λ v. (ways_split entry b (inl refl) to).1 (inr v),
    )

    pub ways_to_exit : (e : X) (a : P) → (a ≡ entry) ⊎ (¬ Inner a) → Way Inner WholeLink a (exit e) ↔ Way Inner WholeStep a (exit e)
    ways_to_exit e a from = (
      λ w. elim ((ways_split a (exit e) from (inl (e, refl))).0 w) [ inl v ↦ absurd (apart.exit_outside v.0 e (way_at v.0 a (exit e) v.1).1) | inr v ↦ v ],
      λ v. (ways_split a (exit e) from (inl (e, refl))).1 (inr v),
    )
