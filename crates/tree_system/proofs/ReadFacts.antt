-- The numbers of what a body reads are those of the unknowns that its constraint reads.
use Rattle.std.proofs.Common.{◌≡◌, ℕ, suc, ◌+◌, Bool, true, false, cond, List, [], ◌∷◌, ◌++◌, Some, map, filter, get_or, length, refl, sym, ap, subst, ◌∙◌, ◌<◌, arith, inl, inr}
use Rattle.std.specs.Prelude.{Contains, slice_get}
use Rattle.std.proofs.lemmas.List.Elements.{Contains-append_cases, Contains-get_or}
use Rattle.std.proofs.lemmas.List.{map-append}
use Rattle.flow_term.specs.declared.graph.Unknown.{Unknown}
use Rattle.flow_syntax.specs.declared.expr.Side.{Side}
use Rattle.flow_syntax.specs.declared.property.PropDecl.{PropDecl}
use Rattle.tree_constraints.specs.declared.constraint.Key.{Key}
use Rattle.tree_constraints.specs.Constraints.{node_at, reads_from, sides, unknown_at}
use Rattle.tree_constraints.proofs.Lists.{map_from, none_in_nil}
use Rattle.tree_system.specs.declared.bodies.Reading.{Reading}
use Rattle.tree_system.specs.declared.reading.Bases.{Bases}
use Rattle.tree_system.specs.Bodies.{readings_from}
use Rattle.tree_system.specs.Reading.{number_at}
use Rattle.tree_system.specs.inner.Rows.{number_by}

module _ (number : Unknown → ℕ) (k : Key) (b : Bases) (places : List ℕ) (is_read : ℕ → Side → Bool) where
  -- each property of these, numbered from here on, has this number at each side
  abbrev AreNumbered : ℕ → List PropDecl → Type 0
  AreNumbered n ps = (i : ℕ) (p : PropDecl) (s : Side) → slice_get ps i ≡ Some p → number (unknown_at (node_at k s) p.name.text) ≡ number_at b places (n + i) s

  at_sides : (n : ℕ) (p : PropDecl) → ((s : Side) → number (unknown_at (node_at k s) p.name.text) ≡ number_at b places n s) → (ss : List Side)
      → map number (map (λ s. unknown_at (node_at k s) p.name.text) (filter (is_read n) ss)) ≡ map (number_by b places) (map (λ s. record { property = n; side = s }) (filter (is_read n) ss))
  at_sides n p is [] = refl
  at_sides n p is (s ∷ ss) = by (is_read n s) (at_sides n p is ss)
    where
      by : (t : Bool) → map number (map (λ s. unknown_at (node_at k s) p.name.text) (filter (is_read n) ss)) ≡ map (number_by b places) (map (λ s. record { property = n; side = s }) (filter (is_read n) ss))
          → map number (map (λ s. unknown_at (node_at k s) p.name.text) (cond t (s ∷ filter (is_read n) ss) (filter (is_read n) ss)))
          ≡ map (number_by b places) (map (λ s. record { property = n; side = s }) (cond t (s ∷ filter (is_read n) ss) (filter (is_read n) ss)))
      by true later = λ i. is s i ∷ later i
      by false later = later

  pub numbers_read : (n : ℕ) (ps : List PropDecl) → AreNumbered n ps → map number (reads_from k is_read n ps) ≡ map (number_by b places) (readings_from is_read n ps)
  numbers_read n [] is = refl
  numbers_read n (p ∷ ps) is =
      let here : List Reading = map (λ (s : Side). record { property = n; side = s }) (filter (is_read n) sides) in
      map-append number (map (λ s. unknown_at (node_at k s) p.name.text) (filter (is_read n) sides)) (reads_from k is_read (n + 1) ps)
      ∙ (λ i. at_sides n p (λ s. is 0 p s refl ∙ ap (λ m. number_at b places m s) (omega arith)) sides i
      ++ numbers_read (n + 1) ps (λ j q s at. is (suc j) q s at ∙ ap (λ m. number_at b places m s) (omega arith)) i)
      ∙ sym (map-append (number_by b places) here (readings_from is_read (n + 1) ps))

-- what is read is declared
readings_declared : (is_read : ℕ → Side → Bool) (n : ℕ) (ps : List PropDecl) (r : Reading) → Contains (readings_from is_read n ps) r → r.property < n + length ps
readings_declared is_read n [] r h = absurd (none_in_nil r h)
readings_declared is_read n (p ∷ ps) r h =
    let own : Side → Reading = λ s. record { property = n; side = s } in
    elim (Contains-append_cases (map own (filter (is_read n) sides)) (readings_from is_read (n + 1) ps) r h) [
      | inl c ↦ let from = map_from own (filter (is_read n) sides) r c in let same : n ≡ r.property = ap (λ (x : Reading). x.property) from.2 in omega (arith, same)
      | inr c ↦ let later = readings_declared is_read (n + 1) ps r c in omega (arith, later)
    ]

pub declared_all : (is_read : ℕ → Side → Bool) (ps : List PropDecl) (rs : List Reading) → rs ≡ readings_from is_read 0 ps → (k : ℕ) (d : Reading) → k < length rs → (get_or rs k d).property < length ps
declared_all is_read ps rs is k d within =
    let lt = readings_declared is_read 0 ps (get_or rs k d) (subst (λ (xs : List Reading). Contains xs (get_or rs k d)) is (Contains-get_or rs k d within)) in omega (arith, lt)
