-- What the listing of edges adds.
use Rattle.std.proofs.Common.{◌≡◌, ◌↔◌, ◌⊎◌, ℕ, ◌+◌, ◌<◌, ◌≤◌, Bool, true, false, List, [], ◌∷◌, ◌++◌, length, refl, sym, ap, subst, ◌∙◌, inl, inr, arith, true≢false, Some}
use Rattle.std.specs.Prelude.{Contains, slice_get}
use Rattle.std.proofs.Math.Nat.{eq-or-lt_of_le}
use Rattle.std.proofs.lemmas.Option.{slice_get_within}
use Rattle.std.proofs.lemmas.List.Elements.{Contains-push, Contains-push_cases, Contains-append_left}
use Rattle.flow_term.specs.declared.graph.Edge.{Edge}
use Rattle.flow_term.specs.declared.graph.Node.{Node}
use Rattle.flow_links.specs.inner.Gains.{Gains}
use Rattle.flow_links.proofs.SetLemmas.{Gains-all, Gains-none, Gains-same, Gains-then, none_in_nil}
use Rattle.path_tree.specs.declared.tree.PathTree.{PathTree}
use Rattle.path_tree.specs.Shapes.{children_of}
use Rattle.rule_plans.specs.declared.stop.Stop.{Stop}
use Rattle.rule_plans.specs.declared.stop.Step.{Step}
use Rattle.rule_plans.specs.declared.stop.Stop.TheVariants.{ChildEntry, ChildExit}
use Rattle.rule_plans.specs.Hops.{AreReached, Leads, by_child, by_step}
use Rattle.way_theory.specs.Ways.{by_link, over}
use Rattle.graph_shape.specs.declared.kept.Kept.{Kept}
use Rattle.graph_shape.specs.declared.outer.Side.TheVariants.{First, Last}
use Rattle.graph_shape.specs.declared.plans.Plans.{Plans}
use Rattle.graph_shape.specs.Mirrored.{mirror}
use Rattle.graph_shape.specs.Outer.{IsOpened, IsOpenedAt, IsOuterOfChild, child_there, node_there, stop_node}
use Rattle.graph_shape.specs.Shapes.{bits_of, summary_of, would_pass}
use Rattle.graph_shape.specs.Steps.{steps_for}
use Rattle.graph_edges.specs.declared.plans.BothPlans.{BothPlans}
use Rattle.graph_edges.specs.Owned.{IsFirstFromItem, IsOwnedIn, LeavesItem, LeavesStop, by_rule, in_list}
use Rattle.graph_edges.specs.inner.Pairs.{IsPairOf, LeadsTo}
use Rattle.graph_edges.specs.inner.Taken.{LeavesOneItem, LeavesOneStep}

-- an edge by its nodes
edge_is : (e : Edge) (n m : Node) → e.from ≡ n → e.to ≡ m → e ≡ record { from = n; to = m }
edge_is e n m f g = subst (λ (x : Node). e ≡ record { from = x; to = m }) f (subst (λ (x : Node). e ≡ record { from = e.from; to = x }) g refl)

pub edge_same : (a b n m : Node) → a ≡ n → b ≡ m → (e : Edge) → (e ≡ record { from = a; to = b }) ↔ ((e.from ≡ n) × (e.to ≡ m))
edge_same a b n m f g e = (
  λ h. (ap (λ (x : Edge). x.from) h ∙ f, ap (λ (x : Edge). x.to) h ∙ g),
  λ h. edge_is e a b (h.0 ∙ sym f) (h.1 ∙ sym g),
)

pub one_more : {X : Type 0} (xs : List X) (x : X) → Gains xs (xs ++ x ∷ []) (λ y. y ≡ x)
one_more xs x = record {
  each = λ y. (
    λ h. elim (Contains-push_cases xs x y h) [ inl before ↦ inl before | inr same ↦ inr (sym same) ],
    λ h. elim h [ inl before ↦ Contains-append_left xs (x ∷ []) y before | inr same ↦ subst (λ z. Contains (xs ++ x ∷ []) z) (sym same) (Contains-push xs x) ],
  );
}

-- what a list has that began empty
pub all_in : {X : Type 0} {P : X → Type 0} (list new old : List X) → list ≡ new → old ≡ [] → Gains old new P → (x : X) → Contains list x ↔ P x
all_in {X} {P} list new old e f g =
    Gains-all (subst (λ (xs : List X). Gains [] xs P) (sym e) (subst (λ (xs : List X). Gains xs new P) f g))

-- it has nothing where it is empty still
pub none_in : {X : Type 0} {P : X → Type 0} (new old : List X) → length new ≡ 0 → old ≡ [] → Gains old new P → (x : X) → ¬ P x
none_in new old empty f g x p = let h = (all_in new new old refl f g x).1 p in absurd (let i : h.0 < length new = h.1 in omega (arith, empty))

-- ** pairs

pub no_targets : (source : Node) (e : Edge) → ¬ LeadsTo source [] e
no_targets source e h = none_in_nil e.to h.to

pub one_target : (source : Node) (targets : List Node) (x : Node) (e : Edge) → (LeadsTo source targets e ⊎ ((e.from ≡ source) × (e.to ≡ x))) ↔ LeadsTo source (targets ++ x ∷ []) e
one_target source targets x e = (
  λ h. elim h [
    | inl a ↦ record { from = a.from; to = Contains-append_left targets (x ∷ []) e.to a.to }
    | inr b ↦ record { from = b.0; to = subst (λ (n : Node). Contains (targets ++ x ∷ []) n) (sym b.1) (Contains-push targets x) }
  ],
  λ h. elim (Contains-push_cases targets x e.to h.to) [ inl a ↦ inl (record { from = h.from; to = a }) | inr b ↦ inr (h.from, sym b) ],
)

pub no_sources : (targets : List Node) (e : Edge) → ¬ IsPairOf [] targets e
no_sources targets e h = none_in_nil e.from h.from

pub one_source : (sources targets : List Node) (x : Node) (e : Edge) → (IsPairOf sources targets e ⊎ LeadsTo x targets e) ↔ IsPairOf (sources ++ x ∷ []) targets e
one_source sources targets x e = (
  λ h. elim h [
    | inl a ↦ record { from = Contains-append_left sources (x ∷ []) e.from a.from; to = a.to }
    | inr b ↦ record { from = subst (λ (n : Node). Contains (sources ++ x ∷ []) n) (sym b.from) (Contains-push sources x); to = b.to }
  ],
  λ h. elim (Contains-push_cases sources x e.from h.from) [ inl a ↦ inl (record { from = a; to = h.to }) | inr b ↦ inr (record { from = sym b; to = h.to }) ],
)

-- ** stops

module _ (plans : BothPlans) (steps : List Step) (bits : List Bool) (ss : List (PathTree Kept)) (path : List ℕ) where
  pub no_steps : (e : Edge) → ¬ LeavesOneStep plans steps bits ss path [] e
  no_steps e h = none_in_nil h.step h.among

  pub one_step : (taken : List Step) (x : Step) (e : Edge) → (LeavesOneStep plans steps bits ss path taken e ⊎ LeavesStop plans steps bits ss path x.from e) ↔ LeavesOneStep plans steps bits ss path (taken ++ x ∷ []) e
  one_step taken x e = (
    λ h. elim h [
      | inl a ↦ record { step = a.step; among = Contains-append_left taken (x ∷ []) a.step a.among; leaves = a.leaves }
      | inr b ↦ record { step = x; among = Contains-push taken x; leaves = b }
    ],
    λ h. elim (Contains-push_cases taken x h.step h.among) [
      | inl a ↦ inl (record { step = h.step; among = a; leaves = h.leaves })
      | inr b ↦ inr (subst (λ (y : Step). LeavesStop plans steps bits ss path y.from e) (sym b) h.leaves)
    ],
  )

  -- the edges between the nodes that close a stop and those that it opens
  pub leaving_pairs : (from : Stop) (sources targets : List Node) (found : List Stop) → ((n : Node) → Contains sources n ↔ IsOpenedAt plans.back Last ss path (mirror from) n)
      → ((n : Node) → Contains targets n ↔ IsOpened plans.forth First ss path found n) → AreReached steps bits from found → (e : Edge) → IsPairOf sources targets e ↔ LeavesStop plans steps bits ss path from e
  leaving_pairs from sources targets found closes opens all e = (
    λ h. (let o = (opens e.to).0 h.to in record { closes = (closes e.from).0 h.from; to = o.stop; reached = (all o.stop).0 o.among; opens = o.opens }),
    λ h. record { from = (closes e.from).1 h.closes; to = (opens e.to).1 (record { stop = h.to; among = (all h.to).1 h.reached; opens = h.opens }) },
  )

  pub no_leaving : (from : Stop) → ((n : Node) → ¬ IsOpenedAt plans.back Last ss path (mirror from) n) → (e : Edge) → ¬ LeavesStop plans steps bits ss path from e
  no_leaving from none e h = none e.from h.closes

-- ** items

module _ (plans : BothPlans) (ss : List (PathTree Kept)) (path : List ℕ) where
  pub no_items : (e : Edge) → ¬ LeavesOneItem plans ss path 0 e
  no_items e h = absurd (let f : h.i < 0 = h.before in omega arith)

  pub one_item : (m : ℕ) (e : Edge) → (LeavesOneItem plans ss path m e ⊎ LeavesItem plans ss path m e) ↔ LeavesOneItem plans ss path (m + 1) e
  one_item m e = (
    λ h. elim h [
      | inl a ↦ record { i = a.i; before = (let f : a.i < m = a.before in omega arith); leaves = a.leaves }
      | inr b ↦ record { i = m; before = omega arith; leaves = b }
    ],
    λ h. elim (eq-or-lt_of_le (let f : h.i < m + 1 = h.before in omega arith)) [
      | inl same ↦ inr (subst (λ (i : ℕ). LeavesItem plans ss path i e) same h.leaves)
      | inr less ↦ inl (record { i = h.i; before = less; leaves = h.leaves })
    ],
  )

  pub item_pairs : (i : ℕ) (sources targets : List Node) → ((n : Node) → Contains sources n ↔ IsOuterOfChild plans.back Last ss path i n) → ((n : Node) → Contains targets n ↔ IsFirstFromItem plans.forth ss path (i + 1) (length ss) n)
      → (e : Edge) → IsPairOf sources targets e ↔ LeavesItem plans ss path i e
  item_pairs i sources targets last first e = (
    λ h. record { last = (last e.from).0 h.from; first = (first e.to).0 h.to },
    λ h. record { from = (last e.from).1 h.last; to = (first e.to).1 h.first },
  )

  pub no_last : (i : ℕ) → ((n : Node) → ¬ IsOuterOfChild plans.back Last ss path i n) → (e : Edge) → ¬ LeavesItem plans ss path i e
  no_last i none e h = none e.from h.last

module _ (plans : Plans) (ss : List (PathTree Kept)) (path : List ℕ) (start : ℕ) where
  abbrev pub ArePassedFrom : ℕ → Type 0
  ArePassedFrom k = (j : ℕ) (d : PathTree Kept) → start ≤ j → j < k → slice_get ss j ≡ Some d → would_pass d ≡ true

  pub no_firsts : (out : List Node) → Gains out out (IsFirstFromItem plans ss path start start)
  no_firsts out = Gains-none out (λ n h. absurd (let f : h.k < start = h.before in let g : start ≤ h.k = h.from in omega arith))

  pub passed_none : ArePassedFrom start
  passed_none j d from less = absurd (omega (arith, from, less))

  pub passed_more : (at : ℕ) (b : Bool) → ArePassedFrom at → ((d : PathTree Kept) → slice_get ss at ≡ Some d → b ≡ would_pass d) → b ≡ true → ArePassedFrom (at + 1)
  passed_more at b before now goes j d from h is = elim (eq-or-lt_of_le (let f : j < at + 1 = h in omega arith)) [
    | inl same ↦ sym (now d (subst (λ (i : ℕ). slice_get ss i ≡ Some d) same is)) ∙ goes
    | inr less ↦ before j d from less is
  ]

  pub firsts_more : (old mid new : List Node) (at : ℕ) → start ≤ at → ArePassedFrom at → Gains old mid (IsFirstFromItem plans ss path start at) → Gains mid new (IsOuterOfChild plans First ss path at)
      → Gains old new (IsFirstFromItem plans ss path start (at + 1))
  firsts_more old mid new at from passed p q = Gains-same (Gains-then p q) (λ n. (
    λ h. elim h [
      | inl before ↦ record { k = before.k; from = before.from; before = (let f : before.k < at = before.before in omega arith); passed = before.passed; first = before.first }
      | inr now ↦ record { k = at; from = from; before = omega arith; passed = passed; first = now }
    ],
    λ r. elim (eq-or-lt_of_le (let f : r.k < at + 1 = r.before in omega arith)) [
      | inl same ↦ inr (subst (λ (i : ℕ). IsOuterOfChild plans First ss path i n) same r.first)
      | inr less ↦ inl (record { k = r.k; from = r.from; before = less; passed = r.passed; first = r.first })
    ],
  ))

  -- behind an item that isn't passed there are no first nodes
  pub firsts_stop : (old new : List Node) (at : ℕ) (b : Bool) (here : PathTree Kept) → start ≤ at → at < length ss → slice_get ss at ≡ Some here → b ≡ would_pass here → b ≡ false
      → Gains old new (IsFirstFromItem plans ss path start (at + 1)) → Gains old new (IsFirstFromItem plans ss path start (length ss))
  firsts_stop old new at b here from within is now stops p = Gains-same p (λ n. (
    λ r. record { k = r.k; from = r.from; before = (let f : r.k < at + 1 = r.before in omega arith); passed = r.passed; first = r.first },
    λ r. record { k = r.k; from = r.from; before = by r.k (early r.k r.passed); passed = r.passed; first = r.first },
  ))
    where
      early : (k : ℕ) → ArePassedFrom k → ¬ (at < k)
      early k passed less = true≢false (sym (passed at here from less is) ∙ sym now ∙ stops)

      by : (k : ℕ) → ¬ (at < k) → k < at + 1
      by k h = omega (arith, h)

-- what is gained up to some item that there isn't is gained in all
pub firsts_all : (plans : Plans) (ss : List (PathTree Kept)) (path : List ℕ) (start at : ℕ) (old new : List Node) → start ≤ length ss → length ss ≤ at → at ≤ length ss → Gains old new (IsFirstFromItem plans ss path start at)
    → Gains old new (IsFirstFromItem plans ss path start (length ss))
firsts_all plans ss path start at old new from more less p = subst (λ (m : ℕ). Gains old new (IsFirstFromItem plans ss path start m)) (let e : at ≡ length ss = omega arith in e) p

-- ** a position

module _ (plans : BothPlans) (s : PathTree Kept) (path : List ℕ) where
  pub list_edges : (summary_of s).list ≡ true → (e : Edge) → LeavesOneItem plans (children_of s) path (length (children_of s)) e ↔ IsOwnedIn plans s path e
  list_edges items e = (λ h. in_list items h.i h.leaves, λ o. back o)
    where
      back : IsOwnedIn plans s path e → LeavesOneItem plans (children_of s) path (length (children_of s)) e
      back (by_rule plain from l) = absurd (true≢false (sym items ∙ plain))
      back (in_list _ i l) = record { i = i; before = slice_get_within (children_of s) i l.last.child l.last.at; leaves = l }

  first_step : (steps : List Step) (bits : List Bool) (from u : Stop) → ((j : ℕ) → ¬ (from ≡ ChildEntry j)) → Leads steps bits from u → (step : Step) × Contains steps step × (step.from ≡ from)
  first_step steps bits from _ other (by_link u (by_step h)) = (h.step, h.among, h.leaves)
  first_step steps bits from _ other (by_link u (by_child h)) = absurd (other h.k h.enters)
  first_step steps bits from _ other (over m u w i h) = first_step steps bits from m other w

  not_entry : (ss : List (PathTree Kept)) (from : Stop) (n : Node) → IsOpenedAt plans.back Last ss path (mirror from) n → (j : ℕ) → ¬ (from ≡ ChildEntry j)
  not_entry ss from n (node_there h) j e = let f : stop_node path (mirror (ChildEntry j)) ≡ Some n = subst (λ (x : Stop). stop_node path (mirror x) ≡ Some n) e h in cc (f)
  not_entry ss from n (child_there k d o) j e = let f : ChildExit j ≡ ChildEntry k = sym (ap mirror e) ∙ d in cc (f)

  pub rule_edges : (summary_of s).list ≡ false → (steps : List Step) (bits : List Bool) → steps ≡ steps_for plans.forth (summary_of s).rule → bits ≡ bits_of (children_of s) → (e : Edge)
      → LeavesOneStep plans steps bits (children_of s) path steps e ↔ IsOwnedIn plans s path e
  rule_edges plain steps bits f g e = (
    λ h. by_rule plain h.step.from (subst (λ (xs : List Step). LeavesStop plans xs (bits_of (children_of s)) (children_of s) path h.step.from e) f (subst (λ (b : List Bool). LeavesStop plans steps b (children_of s) path h.step.from e) g h.leaves)),
    λ o. back o,
  )
    where
      with_step : (from : Stop) → LeavesStop plans steps bits (children_of s) path from e → LeavesOneStep plans steps bits (children_of s) path steps e
      with_step from l =
          let first = first_step steps bits from l.to (not_entry (children_of s) from e.from l.closes) l.reached in
          record { step = first.0; among = first.1; leaves = subst (λ (u : Stop). LeavesStop plans steps bits (children_of s) path u e) (sym first.2) l }

      back : IsOwnedIn plans s path e → LeavesOneStep plans steps bits (children_of s) path steps e
      back (by_rule _ from l) = with_step from
          (subst (λ (b : List Bool). LeavesStop plans steps b (children_of s) path from e) (sym g) (subst (λ (xs : List Step). LeavesStop plans xs (bits_of (children_of s)) (children_of s) path from e) (sym f) l))
      back (in_list items i l) = absurd (true≢false (sym items ∙ plain))
