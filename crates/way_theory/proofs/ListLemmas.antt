-- What the steps of a list reach.
use Rattle.std.proofs.Common.{◌≡◌, ◌≢◌, ◌⊎◌, ◌↔◌, ℕ, zero, suc, ◌+◌, ◌-◌, ◌<◌, ◌≤◌, refl, sym, ap, subst, ◌∙◌, inl, inr, arith}
use Rattle.std.proofs.Math.Nat.{eq-or-lt_of_le}
use Rattle.way_theory.specs.Ways.{Way, by_link, over}
use Rattle.way_theory.specs.Parts.{Step, own_link, enter, leave, pass}
use Rattle.way_theory.specs.Lists.{
  ListLink,
  no_parts,
  into_first,
  to_next,
  from_last,
  out_of_list,
  Gate,
  whole_entry,
  whole_exit,
  part_entry,
  part_exit,
  gate_point,
  AreDistinct,
  ArePassed,
  IsFirstFrom,
  IsPassedFrom,
  onward_through,
  out_at,
  IsLastBefore,
  at_label,
  then_passed,
  IsBetween,
}

module _ {P X : Type 0} (Inner : P → Type 0) (onward : X) (entry : P) (exit : X → P) (entry_of : ℕ → P) (exit_of : ℕ → X → P) (points : AreDistinct Inner entry exit entry_of exit_of) (n : ℕ)
    (first : ℕ → P → Type 0) (last : ℕ → X → P → Type 0) (passes : ℕ → X → Type 0)
    (first_node : (k : ℕ) (m : P) → first k m → ¬ Inner m) (last_node : (k : ℕ) (e : X) (m : P) → last k e m → ¬ Inner m)
    (last_within : (k : ℕ) (e : X) (m : P) → last k e m → k < n) where
  abbrev ListStep : P → P → Type 0
  ListStep = Step (ListLink onward entry exit entry_of exit_of n) entry_of exit_of first last passes

  abbrev Passed : ℕ → ℕ → Type 0
  Passed = ArePassed onward passes

  abbrev Passing : ℕ → X → Type 0
  Passing = IsPassedFrom onward n passes

  abbrev FirstFrom : ℕ → P → Type 0
  FirstFrom = IsFirstFrom onward n first passes

  abbrev LastBefore : X → P → Type 0
  LastBefore = IsLastBefore onward n last passes

  -- entries and exits
  same_gate : (g h : Gate X) → gate_point entry exit entry_of exit_of g ≡ gate_point entry exit entry_of exit_of h → g ≡ h
  same_gate = points.same

  same_entry : (j k : ℕ) → entry_of j ≡ entry_of k → j ≡ k
  same_entry j k h = cc (same_gate (part_entry j) (part_entry k) h)

  same_part : (j k : ℕ) (e f : X) → exit_of j e ≡ exit_of k f → j ≡ k
  same_part j k e f h = cc (same_gate (part_exit j e) (part_exit k f) h)

  same_label : (j k : ℕ) (e f : X) → exit_of j e ≡ exit_of k f → e ≡ f
  same_label j k e f h = cc (same_gate (part_exit j e) (part_exit k f) h)

  same_exit : (e f : X) → exit e ≡ exit f → e ≡ f
  same_exit e f h = cc (same_gate (whole_exit e) (whole_exit f) h)

  entry_isn't_exit : (e : X) → ¬ (entry ≡ exit e)
  entry_isn't_exit e h = absurd (cc (same_gate whole_entry (whole_exit e) h))

  entry_isn't_entry_of : (k : ℕ) → ¬ (entry ≡ entry_of k)
  entry_isn't_entry_of k h = absurd (cc (same_gate whole_entry (part_entry k) h))

  entry_isn't_exit_of : (k : ℕ) (e : X) → ¬ (entry ≡ exit_of k e)
  entry_isn't_exit_of k e h = absurd (cc (same_gate whole_entry (part_exit k e) h))

  exit_isn't_entry_of : (e : X) (k : ℕ) → ¬ (exit e ≡ entry_of k)
  exit_isn't_entry_of e k h = absurd (cc (same_gate (whole_exit e) (part_entry k) h))

  exit_isn't_exit_of : (e : X) (k : ℕ) (f : X) → ¬ (exit e ≡ exit_of k f)
  exit_isn't_exit_of e k f h = absurd (cc (same_gate (whole_exit e) (part_exit k f) h))

  entry_of_isn't_exit_of : (j k : ℕ) (e : X) → ¬ (entry_of j ≡ exit_of k e)
  entry_of_isn't_exit_of j k e h = absurd (cc (same_gate (part_entry j) (part_exit k e) h))

  -- where a way has come that goes on from before part s
  data At (s : ℕ) (y : P) : Type 0 where
    at_entry : (k : ℕ) → s ≤ k → k < n → Passed s k → y ≡ entry_of k → At s y
    at_exit : (k : ℕ) (e : X) → s ≤ k → k < n → Passed s k → passes k e → y ≡ exit_of k e → At s y
    at_node : FirstFrom s y → At s y
    at_end : (e : X) → Passing s e → y ≡ exit e → At s y

  -- one part more is passed
  one_more : (s k : ℕ) → Passed s k → passes k onward → Passed s (k + 1)
  one_more s k p m j sj jk = elim (eq-or-lt_of_le (let h : j < k + 1 = jk in omega arith)) [
    | inl e ↦ subst (λ (v : ℕ). passes v onward) (sym e) m
    | inr lt ↦ p j sj lt
  ]

  -- no part is to be passed
  none_between : (k : ℕ) → Passed k k
  none_between k j sj jk = absurd (omega (arith, sj, jk))

  on : (s : ℕ) (x y : P) → Inner x → At s x → ListStep x y → At s y
  on s x y i (at_entry k sk kn p e) (own_link (no_parts z f g)) = absurd (entry_isn't_entry_of k (sym f ∙ e))
  on s x y i (at_entry k sk kn p e) (own_link (into_first z f g)) = absurd (entry_isn't_entry_of k (sym f ∙ e))
  on s x y i (at_entry k sk kn p e) (own_link (to_next j w f g)) = absurd (entry_of_isn't_exit_of k j onward (sym e ∙ f))
  on s x y i (at_entry k sk kn p e) (own_link (from_last j w f g)) = absurd (entry_of_isn't_exit_of k j onward (sym e ∙ f))
  on s x y i (at_entry k sk kn p e) (own_link (out_of_list j l w o f g)) = absurd (entry_of_isn't_exit_of k j l (sym e ∙ f))
  on s x y i (at_entry k sk kn p e) (enter j f m) =
      let same : j ≡ k = same_entry j k (sym f ∙ e) in
      at_node (record { k = k; from = sk; within = kn; passed = p; node = subst (λ (v : ℕ). first v y) same m })
  on s x y i (at_entry k sk kn p e) (leave j l f m) = absurd (last_node j l x m i)
  on s x y i (at_entry k sk kn p e) (pass j l f g m) =
      let same : j ≡ k = same_entry j k (sym f ∙ e) in
      at_exit k l sk kn p (subst (λ (v : ℕ). passes v l) same m) (g ∙ ap (λ (v : ℕ). exit_of v l) same)
  on s x y i (at_exit k l sk kn p m e) (own_link (no_parts z f g)) = absurd (entry_isn't_exit_of k l (sym f ∙ e))
  on s x y i (at_exit k l sk kn p m e) (own_link (into_first z f g)) = absurd (entry_isn't_exit_of k l (sym f ∙ e))
  on s x y i (at_exit k l sk kn p m e) (own_link (to_next j w f g)) =
      let same : j ≡ k = same_part j k onward l (sym f ∙ e) in
      let label : onward ≡ l = same_label j k onward l (sym f ∙ e) in
      at_entry (k + 1) (omega (arith, sk)) (omega (arith, same, w)) (one_more s k p (subst (passes k) (sym label) m)) (g ∙ ap (λ (v : ℕ). entry_of (v + 1)) same)
  on s x y i (at_exit k l sk kn p m e) (own_link (from_last j w f g)) =
      let same : j ≡ k = same_part j k onward l (sym f ∙ e) in
      let label : onward ≡ l = same_label j k onward l (sym f ∙ e) in
      let whole : k + 1 ≡ n = omega (arith, same, w) in
      at_end onward (onward_through refl (subst (Passed s) whole (one_more s k p (subst (passes k) (sym label) m)))) g
  on s x y i (at_exit k l sk kn p m e) (own_link (out_of_list j o w other f g)) =
      let label : o ≡ l = same_label j k o l (sym f ∙ e) in
      at_end o (out_at k other sk kn p (subst (passes k) (sym label) m)) g
  on s x y i (at_exit k l sk kn p m e) (enter j f o) = absurd (entry_of_isn't_exit_of j k l (sym f ∙ e))
  on s x y i (at_exit k l sk kn p m e) (leave j o f r) = absurd (last_node j o x r i)
  on s x y i (at_exit k l sk kn p m e) (pass j o f g r) = absurd (entry_of_isn't_exit_of j k l (sym f ∙ e))
  on s x y i (at_node m) step = absurd (first_node m.k x m.node i)
  on s x y i (at_end l p e) (own_link (no_parts z f g)) = absurd (entry_isn't_exit l (sym f ∙ e))
  on s x y i (at_end l p e) (own_link (into_first z f g)) = absurd (entry_isn't_exit l (sym f ∙ e))
  on s x y i (at_end l p e) (own_link (to_next j w f g)) = absurd (exit_isn't_exit_of l j onward (sym e ∙ f))
  on s x y i (at_end l p e) (own_link (from_last j w f g)) = absurd (exit_isn't_exit_of l j onward (sym e ∙ f))
  on s x y i (at_end l p e) (own_link (out_of_list j o w other f g)) = absurd (exit_isn't_exit_of l j o (sym e ∙ f))
  on s x y i (at_end l p e) (enter j f m) = absurd (exit_isn't_entry_of l j (sym e ∙ f))
  on s x y i (at_end l p e) (leave j o f m) = absurd (last_node j o x m i)
  on s x y i (at_end l p e) (pass j o f g m) = absurd (exit_isn't_entry_of l j (sym e ∙ f))

  start_entry : (y : P) → ListStep entry y → At 0 y
  start_entry y (own_link (no_parts z f g)) = at_end onward (onward_through refl (λ j _ w. absurd (omega (arith, z, w)))) g
  start_entry y (own_link (into_first z f g)) = at_entry 0 (omega arith) z (none_between 0) g
  start_entry y (own_link (to_next j w f g)) = absurd (entry_isn't_exit_of j onward f)
  start_entry y (own_link (from_last j w f g)) = absurd (entry_isn't_exit_of j onward f)
  start_entry y (own_link (out_of_list j o w other f g)) = absurd (entry_isn't_exit_of j o f)
  start_entry y (enter j f m) = absurd (entry_isn't_entry_of j f)
  start_entry y (leave j o f m) = absurd (last_node j o entry m (points.inner whole_entry))
  start_entry y (pass j o f g m) = absurd (entry_isn't_entry_of j f)

  from_entry : (y : P) → Way Inner ListStep entry y → At 0 y
  from_entry _ (by_link y l) = start_entry y l
  from_entry _ (over m y w i l) = on 0 m y i (from_entry m w) l

  -- where a way has come that leaves part i by a label
  data Behind (i : ℕ) (e : X) (y : P) : Type 0 where
    at_its_exit : y ≡ exit_of i e → Behind i e y
    at_list_exit : e ≢ onward → y ≡ exit e → Behind i e y
    later : e ≡ onward → At (i + 1) y → Behind i e y

  on_behind : (i : ℕ) (e : X) (x y : P) → i < n → Inner x → Behind i e x → ListStep x y → Behind i e y
  on_behind i e x y w inner (at_its_exit h) (own_link (no_parts z f g)) = absurd (entry_isn't_exit_of i e (sym f ∙ h))
  on_behind i e x y w inner (at_its_exit h) (own_link (into_first z f g)) = absurd (entry_isn't_exit_of i e (sym f ∙ h))
  on_behind i e x y w inner (at_its_exit h) (own_link (to_next j v f g)) =
      let same : j ≡ i = same_part j i onward e (sym f ∙ h) in
      later (sym (same_label j i onward e (sym f ∙ h))) (at_entry (i + 1) (omega arith) (omega (arith, same, v)) (none_between (i + 1)) (g ∙ ap (λ (u : ℕ). entry_of (u + 1)) same))
  on_behind i e x y w inner (at_its_exit h) (own_link (from_last j v f g)) =
      let same : j ≡ i = same_part j i onward e (sym f ∙ h) in
      let whole : i + 1 ≡ n = omega (arith, same, v) in
      later (sym (same_label j i onward e (sym f ∙ h))) (at_end onward (onward_through refl (subst (Passed (i + 1)) whole (none_between (i + 1)))) g)
  on_behind i e x y w inner (at_its_exit h) (own_link (out_of_list j o v other f g)) =
      let label : o ≡ e = same_label j i o e (sym f ∙ h) in
      at_list_exit (subst (λ (l : X). l ≢ onward) label other) (g ∙ ap exit label)
  on_behind i e x y w inner (at_its_exit h) (enter j f m) = absurd (entry_of_isn't_exit_of j i e (sym f ∙ h))
  on_behind i e x y w inner (at_its_exit h) (leave j o f m) = absurd (last_node j o x m inner)
  on_behind i e x y w inner (at_its_exit h) (pass j o f g m) = absurd (entry_of_isn't_exit_of j i e (sym f ∙ h))
  on_behind i e x y w inner (at_list_exit other h) (own_link (no_parts z f g)) = absurd (entry_isn't_exit e (sym f ∙ h))
  on_behind i e x y w inner (at_list_exit other h) (own_link (into_first z f g)) = absurd (entry_isn't_exit e (sym f ∙ h))
  on_behind i e x y w inner (at_list_exit other h) (own_link (to_next j v f g)) = absurd (exit_isn't_exit_of e j onward (sym h ∙ f))
  on_behind i e x y w inner (at_list_exit other h) (own_link (from_last j v f g)) = absurd (exit_isn't_exit_of e j onward (sym h ∙ f))
  on_behind i e x y w inner (at_list_exit other h) (own_link (out_of_list j o v p f g)) = absurd (exit_isn't_exit_of e j o (sym h ∙ f))
  on_behind i e x y w inner (at_list_exit other h) (enter j f m) = absurd (exit_isn't_entry_of e j (sym h ∙ f))
  on_behind i e x y w inner (at_list_exit other h) (leave j o f m) = absurd (last_node j o x m inner)
  on_behind i e x y w inner (at_list_exit other h) (pass j o f g m) = absurd (exit_isn't_entry_of e j (sym h ∙ f))
  on_behind i e x y w inner (later label at) step = later label (on (i + 1) x y inner at step)

  -- a node leads out of a part of which it is a last one
  record Starts (a y : P) : Type 0 where
    i : ℕ
    label : X
    source : last i label a
    behind : Behind i label y

  start_node : (a y : P) → ¬ Inner a → ListStep a y → Starts a y
  start_node a y node (own_link (no_parts z f g)) = absurd (node (subst Inner (sym f) (points.inner whole_entry)))
  start_node a y node (own_link (into_first z f g)) = absurd (node (subst Inner (sym f) (points.inner whole_entry)))
  start_node a y node (own_link (to_next j w f g)) = absurd (node (subst Inner (sym f) (points.inner (part_exit j onward))))
  start_node a y node (own_link (from_last j w f g)) = absurd (node (subst Inner (sym f) (points.inner (part_exit j onward))))
  start_node a y node (own_link (out_of_list j o w other f g)) = absurd (node (subst Inner (sym f) (points.inner (part_exit j o))))
  start_node a y node (enter j f m) = absurd (node (subst Inner (sym f) (points.inner (part_entry j))))
  start_node a y node (leave j o f m) = record { i = j; label = o; source = m; behind = at_its_exit f }
  start_node a y node (pass j o f g m) = absurd (node (subst Inner (sym f) (points.inner (part_entry j))))

  from_node : (a y : P) → ¬ Inner a → Way Inner ListStep a y → Starts a y
  from_node a _ node (by_link y l) = start_node a y node l
  from_node a _ node (over m y w i l) =
      let s = from_node a m node w in
      record { i = s.i; label = s.label; source = s.source; behind = on_behind s.i s.label m y (last_within s.i s.label a s.source) i s.behind l }

  -- a way that has come to a node, or to an exit of the list
  end_node : (s : ℕ) (y : P) → ¬ Inner y → At s y → FirstFrom s y
  end_node s y node (at_entry k sk kn p e) = absurd (node (subst Inner (sym e) (points.inner (part_entry k))))
  end_node s y node (at_exit k l sk kn p m e) = absurd (node (subst Inner (sym e) (points.inner (part_exit k l))))
  end_node s y node (at_node m) = m
  end_node s y node (at_end l p e) = absurd (node (subst Inner (sym e) (points.inner (whole_exit l))))

  end_exit : (s : ℕ) (e : X) → At s (exit e) → Passing s e
  end_exit s e (at_entry k sk kn p h) = absurd (exit_isn't_entry_of e k h)
  end_exit s e (at_exit k l sk kn p m h) = absurd (exit_isn't_exit_of e k l h)
  end_exit s e (at_node m) = absurd (first_node m.k (exit e) m.node (points.inner (whole_exit e)))
  end_exit s e (at_end l p h) = subst (Passing s) (sym (same_exit e l h)) p

  -- ** the ways back

  -- from the entry of a part on to the entry of a later one, where all between are passed
  go_to : (x : P) (j : ℕ) → Way Inner ListStep x (entry_of j) → (k : ℕ) → j ≤ k → k < n → Passed j k → Way Inner ListStep x (entry_of k)
  go_to x j w zero jk kn p = subst (λ (v : ℕ). Way Inner ListStep x (entry_of v)) (let h : j ≡ 0 = omega (arith, jk) in h) w
  go_to x j w (suc k) jk kn p = elim (eq-or-lt_of_le jk) [
    | inl e ↦ subst (λ (v : ℕ). Way Inner ListStep x (entry_of v)) e w
    | inr lt ↦
        over (exit_of k onward) (entry_of (suc k))
        (over (entry_of k) (exit_of k onward) (go_to x j w k (omega (arith, lt)) (omega (arith, kn)) (λ i ji ik. p i ji (omega (arith, ik))))
        (points.inner (part_entry k)) (pass k onward refl refl (p k (omega (arith, lt)) (omega arith))))
        (points.inner (part_exit k onward))
        (own_link (to_next k (omega (arith, kn)) refl (ap entry_of (let h : suc k ≡ k + 1 = omega arith in h))))
  ]

  -- from the entry of a part on to a first node behind it
  go_to_node : (x : P) (j : ℕ) → Way Inner ListStep x (entry_of j) → (b : P) → FirstFrom j b → Way Inner ListStep x b
  go_to_node x j w b f = over (entry_of f.k) b (go_to x j w f.k f.from f.within f.passed) (points.inner (part_entry f.k)) (enter f.k refl f.node)

  -- from the entry of a part on to an exit of the list
  go_out : (x : P) (j : ℕ) → Way Inner ListStep x (entry_of j) → j < n → (e : X) → Passing j e → Way Inner ListStep x (exit e)
  go_out x j w jn e (onward_through h p) = subst (λ (l : X). Way Inner ListStep x (exit l)) (sym h) (to_end (n - 1) (omega (arith, jn)))
    where
      to_end : (k : ℕ) → k + 1 ≡ n → Way Inner ListStep x (exit onward)
      to_end k whole =
          over (exit_of k onward) (exit onward)
          (over (entry_of k) (exit_of k onward) (go_to x j w k (omega (arith, whole, jn)) (omega (arith, whole)) (λ i ji ik. p i ji (omega (arith, ik, whole))))
          (points.inner (part_entry k)) (pass k onward refl refl (p k (omega (arith, whole, jn)) (omega (arith, whole)))))
          (points.inner (part_exit k onward)) (own_link (from_last k whole refl refl))
  go_out x j w jn e (out_at k other jk kn p m) =
      over (exit_of k e) (exit e)
      (over (entry_of k) (exit_of k e) (go_to x j w k jk kn p) (points.inner (part_entry k)) (pass k e refl refl m))
      (points.inner (part_exit k e)) (own_link (out_of_list k e kn other refl refl))

  -- from the entry of a list that isn't empty into its first part; from a last node of a part into the next
  go_in : 0 < n → Way Inner ListStep entry (entry_of 0)
  go_in some = by_link (entry_of 0) (own_link (into_first some refl refl))

  go_next : (a : P) (i : ℕ) → last i onward a → i + 1 < n → Way Inner ListStep a (entry_of (i + 1))
  go_next a i m w = over (exit_of i onward) (entry_of (i + 1)) (by_link (exit_of i onward) (leave i onward refl m)) (points.inner (part_exit i onward)) (own_link (to_next i w refl refl))

  -- ** the laws

  -- The first nodes of a list: those of a part before which all parts are passed.
  pub list_first : (b : P) → ¬ Inner b → Way Inner ListStep entry b ↔ FirstFrom 0 b
  list_first b node = (
    λ w. end_node 0 b node (from_entry b w),
    λ f. let within : f.k < n = f.within in go_to_node entry 0 (go_in (omega (arith, within))) b f,
  )

  -- A list is passed to an exit where it is from its first part on.
  pub list_passes : (e : X) → Way Inner ListStep entry (exit e) ↔ Passing 0 e
  list_passes e = (λ w. end_exit 0 e (from_entry (exit e) w), λ p. through n refl p)
    where
      through : (m : ℕ) → m ≡ n → Passing 0 e → Way Inner ListStep entry (exit e)
      through (suc k) whole p = let some : 0 < n = omega (arith, whole) in go_out entry 0 (go_in some) some e p
      through zero whole (onward_through h p) = subst (λ (l : X). Way Inner ListStep entry (exit l)) (sym h) (by_link (exit onward) (own_link (no_parts (sym whole) refl refl)))
      through zero whole (out_at k other sk kn p m) = absurd (omega (arith, kn, whole))

  -- The last nodes of a list before one of its exits.
  pub list_last : (e : X) (a : P) → ¬ Inner a → Way Inner ListStep a (exit e) ↔ LastBefore e a
  list_last e a node = (λ w. let s = from_node a (exit e) node w in end_of s.i s.label s.source s.behind, λ f. back f)
    where
      end_of : (i : ℕ) (l : X) → last i l a → Behind i l (exit e) → LastBefore e a
      end_of i l m (at_its_exit h) = absurd (exit_isn't_exit_of e i l h)
      end_of i l m (at_list_exit other h) =
          let label : e ≡ l = same_exit e l h in
          at_label i (subst (λ (v : X). v ≢ onward) (sym label) other) (subst (λ (v : X). last i v a) (sym label) m)
      end_of i l m (later label at) = then_passed i (subst (λ (v : X). last i v a) label m) (end_exit (i + 1) e at)

      behind_it : (i : ℕ) → last i onward a → (i + 1 ≡ n) ⊎ (i + 1 < n) → Passing (i + 1) e → Way Inner ListStep a (exit e)
      behind_it i m (inr more) p = go_out a (i + 1) (go_next a i m more) more e p
      behind_it i m (inl whole) (onward_through h p) =
          subst (λ (l : X). Way Inner ListStep a (exit l)) (sym h)
          (over (exit_of i onward) (exit onward) (by_link (exit_of i onward) (leave i onward refl m)) (points.inner (part_exit i onward)) (own_link (from_last i whole refl refl)))
      behind_it i m (inl whole) (out_at k other ik kn p r) = absurd (omega (arith, ik, kn, whole))

      back : LastBefore e a → Way Inner ListStep a (exit e)
      back (at_label i other m) =
          over (exit_of i e) (exit e) (by_link (exit_of i e) (leave i e refl m)) (points.inner (part_exit i e)) (own_link (out_of_list i e (last_within i e a m) other refl refl))
      back (then_passed i m p) = behind_it i m (eq-or-lt_of_le (let w : i < n = last_within i onward a m in omega (arith, w))) p

  -- The edges that a list owns: from a last node of a part before the way onward to a first node of a later one, where all between are passed.
  pub list_owns : (a b : P) → ¬ Inner a → ¬ Inner b → Way Inner ListStep a b ↔ IsBetween onward n first last passes a b
  list_owns a b source target = (
    λ w. let s = from_node a b source w in end_of s.i s.label s.source s.behind,
    λ f. let t = f.target in let from : f.i + 1 ≤ t.k = t.from in let within : t.k < n = t.within in go_to_node a (f.i + 1) (go_next a f.i f.source (omega (arith, from, within))) b t,
  )
    where
      end_of : (i : ℕ) (l : X) → last i l a → Behind i l b → IsBetween onward n first last passes a b
      end_of i l m (at_its_exit h) = absurd (target (subst Inner (sym h) (points.inner (part_exit i l))))
      end_of i l m (at_list_exit other h) = absurd (target (subst Inner (sym h) (points.inner (whole_exit l))))
      end_of i l m (later label at) = record { i = i; source = subst (λ (v : X). last i v a) label m; target = end_node (i + 1) b target at }
