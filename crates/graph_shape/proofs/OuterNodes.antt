-- What a walk over outer nodes adds.
use Rattle.std.proofs.Common.{◌≡◌, ◌↔◌, ℕ, zero, suc, ◌+◌, ◌<◌, ◌^◌, Bool, true, false, List, [], ◌∷◌, ◌++◌, length, get_or, Option, Some, refl, sym, ap, subst, ◌∙◌, inl, inr, arith, true≢false}
use Rattle.std.specs.Prelude.{Contains, slice_get, option_and_then}
use Rattle.std.proofs.Math.Nat.{eq-or-lt_of_le}
use Rattle.std.proofs.lemmas.Option.{same_Some, slice_get-get_or}
use Rattle.std.proofs.lemmas.List.Elements.{Contains-push, Contains-push_cases, Contains-append_left}
use Rattle.flow_term.specs.declared.graph.Node.{Node}
use Rattle.flow_syntax.specs.Graph.{below}
use Rattle.flow_links.specs.inner.Gains.{Gains}
use Rattle.flow_links.proofs.SetLemmas.{Gains-same, Gains-then, Gains-none, none_in_nil}
use Rattle.path_tree.specs.declared.tree.PathTree.{PathTree}
use Rattle.path_tree.specs.Shapes.{PartAt, children_of}
use Rattle.rule_plans.specs.declared.stop.Stop.{Stop}
use Rattle.rule_plans.specs.declared.stop.Stop.TheVariants.{Entry, ChildEntry}
use Rattle.rule_plans.specs.declared.stop.Step.{Step}
use Rattle.rule_plans.specs.Hops.{AreReached, Leads}
use Rattle.graph_shape.specs.declared.kept.Kept.{Kept}
use Rattle.graph_shape.specs.declared.plans.Plans.{Plans}
use Rattle.graph_shape.specs.declared.outer.Side.{Side}
use Rattle.graph_shape.specs.Outer.{ArePassedBefore, HasFewChildren, HaveFewChildren, IsOuterIn, at_stop, at_child, at_item, IsOuterOfChild, IsOuterOfItems, IsOpened, IsOpenedAt, item_at, node_there, child_there, stop_node}
use Rattle.graph_shape.specs.Shapes.{bits_of, summary_of, would_pass}
use Rattle.graph_shape.specs.Steps.{steps_for}

pub few_here : (s : PathTree Kept) (ss : List (PathTree Kept)) → ss ≡ children_of s → HasFewChildren s → length ss < 2 ^ 32
few_here s ss e h = subst (λ (xs : List (PathTree Kept)). length xs < 2 ^ 32) (sym e) (h [] s refl)

pub few_count : (s : PathTree Kept) (n : ℕ) → n ≡ length (children_of s) → HasFewChildren s → n < 2 ^ 32
few_count s n e h = subst (λ (m : ℕ). m < 2 ^ 32) (sym e) (h [] s refl)

pub few_below : (s : PathTree Kept) (ss : List (PathTree Kept)) → ss ≡ children_of s → HasFewChildren s → HaveFewChildren ss
few_below s ss e h k c at rest part p =
    h (k ∷ rest) part (ap (option_and_then (λ (x : PathTree Kept). PartAt x rest)) (subst (λ (xs : List (PathTree Kept)). slice_get xs k ≡ Some c) e at) ∙ p)

pub few_child : (s c : PathTree Kept) (k : ℕ) → HasFewChildren s → Some c ≡ slice_get (children_of s) k → HasFewChildren c
few_child s c k h at = few_below s (children_of s) refl h k c (sym at)

pub few_got : (s c : PathTree Kept) (k : ℕ) → HasFewChildren s → k < length (children_of s) → c ≡ get_or (children_of s) k c → HasFewChildren c
few_got s c k h within is = few_child s c k h (ap Some is ∙ sym (slice_get-get_or (children_of s) k c within))

pub node_gains : (old new : List Node) (o : Option Node) (node : Node) → o ≡ Some node → new ≡ old ++ node ∷ [] → Gains old new (λ n. o ≡ Some n)
node_gains old new o node e longer = record {
  each = λ n. (
    λ h. elim (Contains-push_cases old node n (subst (λ (xs : List Node). Contains xs n) longer h)) [ inl before ↦ inl before | inr same ↦ inr (e ∙ ap Some same) ],
    λ h. subst (λ (xs : List Node). Contains xs n) (sym longer) (elim h [
      | inl before ↦ Contains-append_left old (node ∷ []) n before
      | inr now ↦ subst (λ (x : Node). Contains (old ++ node ∷ []) x) (same_Some node n (sym e ∙ now)) (Contains-push old node)
    ]),
  );
}

pub get_some : {X : Type 0} (xs : List X) (k : ℕ) → k < length xs → (x : X) × (slice_get xs k ≡ Some x)
get_some [] k h = absurd (omega (arith, h))
get_some (x ∷ xs) zero h = (x, refl)
get_some (x ∷ xs) (suc k) h = get_some xs k (omega (arith, h))

one_child : (j k : ℕ) → ChildEntry j ≡ ChildEntry k → j ≡ k
one_child j k h = cc

module _ (plans : Plans) (side : Side) (ss : List (PathTree Kept)) (path : List ℕ) where
  pub opens_child : (u : Stop) (k : ℕ) → u ≡ ChildEntry k → (n : Node) → IsOuterOfChild plans side ss path k n ↔ IsOpenedAt plans side ss path u n
  opens_child u k e n = (λ f. child_there k e f, λ o. back o)
    where
      back : IsOpenedAt plans side ss path u n → IsOuterOfChild plans side ss path k n
      back (node_there h) = absurd (let f : stop_node path (ChildEntry k) ≡ Some n = subst (λ (x : Stop). stop_node path x ≡ Some n) e h in cc (f))
      back (child_there j d f) = subst (λ (i : ℕ). IsOuterOfChild plans side ss path i n) (one_child j k (sym d ∙ e)) f

  pub opens_node : (u : Stop) → ((k : ℕ) → ¬ (u ≡ ChildEntry k)) → (n : Node) → (stop_node path u ≡ Some n) ↔ IsOpenedAt plans side ss path u n
  opens_node u other n = (λ h. node_there h, λ o. back o)
    where
      back : IsOpenedAt plans side ss path u n → stop_node path u ≡ Some n
      back (node_there h) = h
      back (child_there j d f) = absurd (other j d)

  pub outer_of_child : (k : ℕ) (c : PathTree Kept) (p : List ℕ) → slice_get ss k ≡ Some c → p ≡ below path k → (n : Node) → IsOuterIn plans side n c p ↔ IsOuterOfChild plans side ss path k n
  outer_of_child k c p at e n = (
    λ f. record { child = c; at = at; outer = subst (λ (q : List ℕ). IsOuterIn plans side n c q) e f },
    λ r. subst (λ (q : List ℕ). IsOuterIn plans side n c q) (sym e) (subst (λ (x : PathTree Kept). IsOuterIn plans side n x (below path k)) (same_Some r.child c (sym r.at ∙ at)) r.outer),
  )

  -- stops
  pub opened_none : (out : List Node) → Gains out out (IsOpened plans side ss path [])
  opened_none out = Gains-none out (λ n h. none_in_nil h.stop h.among)

  pub opened_more : (old mid new : List Node) (stops : List Stop) (u : Stop) → Gains old mid (IsOpened plans side ss path stops) → Gains mid new (IsOpenedAt plans side ss path u) → Gains old new (IsOpened plans side ss path (stops ++ u ∷ []))
  opened_more old mid new stops u p q = Gains-same (Gains-then p q) (λ n. (
    λ h. elim h [
      | inl before ↦ record { stop = before.stop; among = Contains-append_left stops (u ∷ []) before.stop before.among; opens = before.opens }
      | inr now ↦ record { stop = u; among = Contains-push stops u; opens = now }
    ],
    λ r. elim (Contains-push_cases stops u r.stop r.among) [
      | inl before ↦ inl (record { stop = r.stop; among = before; opens = r.opens })
      | inr same ↦ inr (subst (λ (x : Stop). IsOpenedAt plans side ss path x n) (sym same) r.opens)
    ],
  ))

  -- items
  pub items_none : (out : List Node) → Gains out out (IsOuterOfItems plans side ss path 0)
  items_none out = Gains-none out (λ n h. absurd (let f : h.k < 0 = h.before in omega arith))

  pub passed_none : ArePassedBefore side ss 0
  passed_none j d h = absurd (omega (arith, h))

  pub passed_more : (at : ℕ) (b : Bool) → ArePassedBefore side ss at → ((d : PathTree Kept) → slice_get ss (item_at side (length ss) at) ≡ Some d → b ≡ would_pass d) → b ≡ true → ArePassedBefore side ss (at + 1)
  passed_more at b before now goes j d h is = elim (eq-or-lt_of_le (let f : j < at + 1 = h in omega arith)) [
    | inl same ↦ sym (now d (subst (λ (i : ℕ). slice_get ss (item_at side (length ss) i) ≡ Some d) same is)) ∙ goes
    | inr less ↦ before j d less is
  ]

  pub items_more : (old mid new : List Node) (at : ℕ) → ArePassedBefore side ss at → Gains old mid (IsOuterOfItems plans side ss path at) → Gains mid new (IsOuterOfChild plans side ss path (item_at side (length ss) at))
      → Gains old new (IsOuterOfItems plans side ss path (at + 1))
  items_more old mid new at passed p q = Gains-same (Gains-then p q) (λ n. (
    λ h. elim h [
      | inl before ↦ record { k = before.k; before = (let f : before.k < at = before.before in omega arith); passed = before.passed; outer = before.outer }
      | inr now ↦ record { k = at; before = omega arith; passed = passed; outer = now }
    ],
    λ r. elim (eq-or-lt_of_le (let f : r.k < at + 1 = r.before in omega arith)) [
      | inl same ↦ inr (subst (λ (i : ℕ). IsOuterOfChild plans side ss path (item_at side (length ss) i) n) same r.outer)
      | inr less ↦ inl (record { k = r.k; before = less; passed = r.passed; outer = r.outer })
    ],
  ))

  -- behind an item that isn't passed there are no outer nodes
  pub items_stop : (old new : List Node) (at : ℕ) (b : Bool) (here : PathTree Kept) → at < length ss → slice_get ss (item_at side (length ss) at) ≡ Some here → b ≡ would_pass here → b ≡ false
      → Gains old new (IsOuterOfItems plans side ss path (at + 1)) → Gains old new (IsOuterOfItems plans side ss path (length ss))
  items_stop old new at b here within is now stops p = Gains-same p (λ n. (
    λ r. record { k = r.k; before = (let f : r.k < at + 1 = r.before in omega arith); passed = r.passed; outer = r.outer },
    λ r. record { k = r.k; before = by r.k (early r.k r.passed); passed = r.passed; outer = r.outer },
  ))
    where
      early : (k : ℕ) → ArePassedBefore side ss k → ¬ (at < k)
      early k passed less = true≢false (sym (passed at here less is) ∙ sym now ∙ stops)

      by : (k : ℕ) → ¬ (at < k) → k < at + 1
      by k h = omega (arith, h)

module _ (plans : Plans) (side : Side) (s : PathTree Kept) (path : List ℕ) where
  pub outer_of_list : (summary_of s).list ≡ true → (n : Node) → IsOuterOfItems plans side (children_of s) path (length (children_of s)) n ↔ IsOuterIn plans side n s path
  outer_of_list list n = (
    λ f. at_item s path f.k f.outer.child list f.before f.passed f.outer.at f.outer.outer,
    λ f. back s path list f,
  )
    where
      back : (r : PathTree Kept) (p : List ℕ) → (summary_of r).list ≡ true → IsOuterIn plans side n r p → IsOuterOfItems plans side (children_of r) p (length (children_of r)) n
      back r p l (at_stop _ _ u plain leads node) = absurd (true≢false (sym l ∙ plain))
      back r p l (at_child _ _ k c plain leads is f) = absurd (true≢false (sym l ∙ plain))
      back r p l (at_item _ _ k c items within passed is f) = record { k = k; before = within; passed = passed; outer = record { child = c; at = is; outer = f } }

  pub outer_of_rule : (summary_of s).list ≡ false → (ss : List (PathTree Kept)) → ss ≡ children_of s → (found : List Stop) → AreReached (steps_for plans (summary_of s).rule) (bits_of (children_of s)) Entry found → (n : Node)
      → IsOpened plans side ss path found n ↔ IsOuterIn plans side n s path
  outer_of_rule other ss e found gains n = (
    λ o. (let f : IsOpened plans side (children_of s) path found n = subst (λ (xs : List (PathTree Kept)). IsOpened plans side xs path found n) e o in forth f.stop ((gains f.stop).0 f.among) f.opens),
    λ f. subst (λ (xs : List (PathTree Kept)). IsOpened plans side xs path found n) (sym e) (back s path other found (λ u l. (gains u).1 l) f),
  )
    where
      forth : (u : Stop) → Leads (steps_for plans (summary_of s).rule) (bits_of (children_of s)) Entry u → IsOpenedAt plans side (children_of s) path u n → IsOuterIn plans side n s path
      forth u l (node_there h) = at_stop s path u other l h
      forth u l (child_there k d f) = at_child s path k f.child other (subst (λ (x : Stop). Leads (steps_for plans (summary_of s).rule) (bits_of (children_of s)) Entry x) d l) f.at f.outer

      back : (r : PathTree Kept) (p : List ℕ) → (summary_of r).list ≡ false → (found : List Stop) → ((u : Stop) → Leads (steps_for plans (summary_of r).rule) (bits_of (children_of r)) Entry u → Contains found u)
          → IsOuterIn plans side n r p → IsOpened plans side (children_of r) p found n
      back r p l found all (at_stop _ _ u plain leads node) = record { stop = u; among = all u leads; opens = node_there node }
      back r p l found all (at_child _ _ k c plain leads is f) = record { stop = ChildEntry k; among = all (ChildEntry k) leads; opens = child_there k refl (record { child = c; at = is; outer = f }) }
      back r p l found all (at_item _ _ k c items within passed is f) = absurd (true≢false (sym items ∙ l))

  pub found_is : (found keys : List Stop) (steps : List Step) (bits : List Bool) (ss : List (PathTree Kept)) → found ≡ keys → steps ≡ steps_for plans (summary_of s).rule → bits ≡ bits_of ss → ss ≡ children_of s
      → AreReached steps bits Entry keys → AreReached (steps_for plans (summary_of s).rule) (bits_of (children_of s)) Entry found
  found_is found keys steps bits ss e f g h gains =
      subst (λ (ks : List Stop). AreReached (steps_for plans (summary_of s).rule) (bits_of (children_of s)) Entry ks) (sym e)
      (subst (λ (xs : List Step). AreReached xs (bits_of (children_of s)) Entry keys) f
      (subst (λ (b : List Bool). AreReached steps b Entry keys) (g ∙ ap bits_of h) gains))
