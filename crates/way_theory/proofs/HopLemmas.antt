-- The ways of a whole's steps are hops, before them the last node of a part and behind them the first node of a part.
use Rattle.std.proofs.Common.{◌≡◌, ◌↔◌, ℕ, refl, subst, inl, inr}
use Rattle.way_theory.specs.Ways.{Way, by_link, over}
use Rattle.way_theory.specs.Parts.{Step, own_link, enter, leave, pass}
use Rattle.way_theory.specs.Hops.{Hop, own_hop, pass_hop, Hops, Leads, Arrives}
use Rattle.way_theory.proofs.WayLemmas.{way_join, way_map}

module _ {P X : Type 0} (Inner : P → Type 0) (own : P → P → Type 0) (entry_of : ℕ → P) (exit_of : ℕ → X → P) (first : ℕ → P → Type 0) (last : ℕ → X → P → Type 0) (passes : ℕ → X → Type 0)
    (entry_inner : (k : ℕ) → Inner (entry_of k)) (exit_inner : (k : ℕ) (e : X) → Inner (exit_of k e))
    (first_node : (k : ℕ) (m : P) → first k m → ¬ Inner m) (last_node : (k : ℕ) (e : X) (m : P) → last k e m → ¬ Inner m) where
  abbrev WholeStep : P → P → Type 0
  WholeStep = Step own entry_of exit_of first last passes

  abbrev Hopping : P → P → Type 0
  Hopping = Hops Inner own entry_of exit_of passes

  abbrev Leading : P → P → Type 0
  Leading = Leads Inner own entry_of exit_of first last passes

  abbrev Arriving : P → P → Type 0
  Arriving = Arrives Inner own entry_of exit_of first last passes

  -- one hop more
  hop_on : (a m c : P) → Leading a m → Inner m → Hop own entry_of exit_of passes m c → Leading a c
  hop_on a m c (inl w) i h = inl (over m c w i h)
  hop_on a m c (inr l) i h = inr (
    l.0,
    l.1,
    l.2,
    elim l.3 [
      | inl f ↦ inr (by_link c (subst (λ (p : P). Hop own entry_of exit_of passes p c) f h))
      | inr w ↦ inr (over m c w i h)
    ],
  )

  -- where no part's entry is the start
  arrive : (a c : P) → ((k : ℕ) → ¬ (a ≡ entry_of k)) → Way Inner WholeStep a c → Arriving a c
  arrive a _ other (by_link c (own_link l)) = inl (inl (by_link c (own_hop l)))
  arrive a _ other (by_link c (enter k f m)) = absurd (other k f)
  arrive a _ other (by_link c (leave k e f m)) = inl (inr (k, e, m, inl f))
  arrive a _ other (by_link c (pass k e f g p)) = absurd (other k f)
  arrive a _ other (over m c w i s) = on a m c i s (arrive a m other w)
    where
      on : (a m c : P) → Inner m → WholeStep m c → Arriving a m → Arriving a c
      on a m c i s (inr r) = absurd (first_node r.0 m r.2 i)
      on a m c i (own_link l) (inl w) = inl (hop_on a m c w i (own_hop l))
      on a m c i (enter k f n) (inl w) = inr (k, subst (λ (p : P). Leading a p) f w, n)
      on a m c i (leave k e f n) (inl w) = absurd (last_node k e m n i)
      on a m c i (pass k e f g p) (inl w) = inl (hop_on a m c w i (pass_hop k e f g p))

  of_hops : (a c : P) → Hopping a c → Way Inner WholeStep a c
  of_hops a c w = way_map Inner _ _ a c (λ x y h. step x y h) w
    where
      step : (x y : P) → Hop own entry_of exit_of passes x y → WholeStep x y
      step x y (own_hop l) = own_link l
      step x y (pass_hop k e f g p) = pass k e f g p

  of_leading : (a c : P) → Leading a c → Way Inner WholeStep a c
  of_leading a c (inl w) = of_hops a c w
  of_leading a c (inr l) = elim l.3 [
    | inl f ↦ by_link c (leave l.0 l.1 f l.2)
    | inr w ↦ way_join Inner WholeStep a (exit_of l.0 l.1) c (by_link (exit_of l.0 l.1) (leave l.0 l.1 refl l.2)) (exit_inner l.0 l.1) (of_hops (exit_of l.0 l.1) c w)
  ]

  of_arriving : (a c : P) → Arriving a c → Way Inner WholeStep a c
  of_arriving a c (inl w) = of_leading a c w
  of_arriving a c (inr r) = over (entry_of r.0) c (of_leading a (entry_of r.0) r.1) (entry_inner r.0) (enter r.0 refl r.2)

  -- The ways of the steps are the hops with what comes before and behind them.
  pub ways_hops : (a c : P) → ((k : ℕ) → ¬ (a ≡ entry_of k)) → Way Inner WholeStep a c ↔ Arriving a c
  ways_hops a c other = (arrive a c other, of_arriving a c)
