-- The links of chains, item by item and chain by chain.
use Rattle.std.proofs.Common.{◌≡◌, ℕ, zero, suc, ◌+◌, ◌-◌, ◌<◌, ◌≤◌, Bool, true, false, ◌||◌, true≢false, List, [], ◌∷◌, ◌++◌, length, Option, Some, refl, sym, ap, subst, ◌∙◌, inl, inr, add-one, arith}
use Rattle.std.specs.Prelude.{◌⊎◌, ◌↔◌, slice_get}
use Rattle.std.proofs.Math.Nat.{eq-or-lt_of_le}
use Rattle.std.proofs.lemmas.Option.{slice_get_within, same_Some}
use Rattle.std.proofs.lemmas.List.Elements.{Contains-push, Contains-push_cases, Contains-append_left}
use Rattle.flow_term.specs.declared.graph.Point.{Point}
use Rattle.flow_term.specs.declared.graph.Point.TheVariants as point
use Rattle.flow_term.specs.declared.term.Term.{Term}
use Rattle.flow_term.specs.Trees.{children}
use Rattle.flow_term.specs.declared.graph.Link.{Link}
use Rattle.flow_syntax.specs.declared.rule.FlowRule.{FlowRule}
use Rattle.flow_syntax.specs.declared.rule.Chain.{Chain}
use Rattle.flow_syntax.specs.declared.rule.Item.{Item}
use Rattle.flow_term.specs.Annotations.{term_layer}
use Rattle.flow_syntax.specs.Matching.{is_list}
use Rattle.flow_syntax.specs.Graph.{arriving, leaving, below, LinksAt, in_chain, through_empty, through_other}
use Rattle.flow_links.specs.Below.{Adds}
use Rattle.flow_links.specs.inner.Here.{PairsBelow, ChainsOf, RuleLinks, NextBelow, ListLinks, no_items, into_first, to_next, from_last, EnteredLinks, of_list, of_other}

-- nothing is added where nothing is to be
pub Adds-none : {P : Point → Point → Type 0} (xs : List Link) → ((a b : Point) → ¬ P a b) → Adds xs xs P
Adds-none xs h = record { each = λ a b. (λ k. inl k, λ k. elim k [ inl before ↦ before | inr p ↦ absurd (h a b p) ]) }

module _ (rule : FlowRule) (items : List Item) (path : List ℕ) (k j : ℕ) (left right : Item) (after_j : k ≡ j + 1) (is_left : slice_get items j ≡ Some left) (is_right : slice_get items k ≡ Some right) (a b : Point) where
  pair : (leaving rule path left.kind ≡ Some a) × (arriving rule path right.kind ≡ Some b) → PairsBelow rule items path (k + 1) a b
  pair h = record { k = j; before = omega arith; left = left; right = right; is_left = is_left; is_right = ap (slice_get items) (sym after_j) ∙ is_right; leaves = h.0; arrives = h.1 }

  last_pair : (p : PairsBelow rule items path (k + 1) a b) → (p.k + 1 ≡ k) ⊎ (p.k + 1 < k) → PairsBelow rule items path k a b ⊎ ((leaving rule path left.kind ≡ Some a) × (arriving rule path right.kind ≡ Some b))
  last_pair p (inr before) = inl (record { k = p.k; before = before; left = p.left; right = p.right; is_left = p.is_left; is_right = p.is_right; leaves = p.leaves; arrives = p.arrives })
  last_pair p (inl same) =
      let at_j : p.k ≡ j = omega arith in
      let one : p.left ≡ left = same_Some _ _ (sym p.is_left ∙ ap (slice_get items) at_j ∙ is_left) in
      let two : p.right ≡ right = same_Some _ _ (sym p.is_right ∙ ap (slice_get items) same ∙ is_right) in
      inr (ap (λ (i : Item). leaving rule path i.kind) (sym one) ∙ p.leaves, ap (λ (i : Item). arriving rule path i.kind) (sym two) ∙ p.arrives)

  pub pairs_next : (PairsBelow rule items path k a b ⊎ ((leaving rule path left.kind ≡ Some a) × (arriving rule path right.kind ≡ Some b))) ↔ PairsBelow rule items path (k + 1) a b
  pairs_next = (
    λ h. elim h [
      | inl p ↦ record { k = p.k; before = (let f : p.k + 1 < k = p.before in omega arith); left = p.left; right = p.right; is_left = p.is_left; is_right = p.is_right; leaves = p.leaves; arrives = p.arrives }
      | inr p ↦ pair p
    ],
    λ p. last_pair p (eq-or-lt_of_le (let f : p.k + 1 < k + 1 = p.before in omega arith)),
  )

-- past the end there are no more pairs
pub pairs_all : (rule : FlowRule) (items : List Item) (path : List ℕ) (k : ℕ) → length items ≤ k → (a b : Point) → PairsBelow rule items path k a b ↔ PairsBelow rule items path (length items) a b
pairs_all rule items path k h a b = (
  λ p. record { k = p.k; before = slice_get_within items (p.k + 1) p.right p.is_right; left = p.left; right = p.right; is_left = p.is_left; is_right = p.is_right; leaves = p.leaves; arrives = p.arrives },
  λ p. record { k = p.k; before = (let f : p.k + 1 < length items = p.before in omega arith); left = p.left; right = p.right; is_left = p.is_left; is_right = p.is_right; leaves = p.leaves; arrives = p.arrives },
)

-- one chain more
pub chains_push : (rule : FlowRule) (chains : List Chain) (chain : Chain) (path : List ℕ) (a b : Point)
    → (ChainsOf rule chains path a b ⊎ PairsBelow rule chain.items path (length chain.items) a b) ↔ ChainsOf rule (chains ++ chain ∷ []) path a b
chains_push rule chains chain path a b = (
  λ h. elim h [
    | inl p ↦ record { chain = p.chain; has = Contains-append_left chains (chain ∷ []) p.chain p.has; inside = p.inside }
    | inr p ↦ record { chain = chain; has = Contains-push chains chain; inside = p }
  ],
  λ p. elim (Contains-push_cases chains chain p.chain p.has) [
    | inl before ↦ inl (record { chain = p.chain; has = before; inside = p.inside })
    | inr same ↦ inr (subst (λ (c : Chain). PairsBelow rule c.items path (length c.items) a b) (sym same) p.inside)
  ],
)

-- the links between items, up to the item k + 1
pub nexts_more : (path : List ℕ) (k : ℕ) → 0 < k → (a b : Point)
    → (NextBelow path k a b ⊎ ((a ≡ point.Out (below path (k - 1))) × (b ≡ point.In (below path k)))) ↔ NextBelow path (k + 1) a b
nexts_more path k some a b = (
  λ h. elim h [
    | inl p ↦ record { k = p.k; before = (let f : p.k + 1 < k = p.before in omega arith); leaves = p.leaves; arrives = p.arrives }
    | inr p ↦ record { k = k - 1; before = omega arith; leaves = p.0; arrives = p.1 ∙ ap (λ (n : ℕ). point.In (below path n)) (let e : k ≡ k - 1 + 1 = omega arith in e) }
  ],
  λ p. last_next p (eq-or-lt_of_le (let f : p.k + 1 < k + 1 = p.before in omega arith)),
)
  where
    last_next : (p : NextBelow path (k + 1) a b) → (p.k + 1 ≡ k) ⊎ (p.k + 1 < k) → NextBelow path k a b ⊎ ((a ≡ point.Out (below path (k - 1))) × (b ≡ point.In (below path k)))
    last_next p (inr before) = inl (record { k = p.k; before = before; leaves = p.leaves; arrives = p.arrives })
    last_next p (inl same) = inr (
      p.leaves ∙ ap (λ (n : ℕ). point.Out (below path n)) (let e : p.k ≡ k - 1 = omega arith in e),
      p.arrives ∙ ap (λ (n : ℕ). point.In (below path n)) same,
    )

-- a list without items is passed through
pub empty_list : (path : List ℕ) (n : ℕ) → n ≡ 0 → (a b : Point) → ((a ≡ point.In path) × (b ≡ point.Out path)) ↔ ListLinks path n a b
empty_list path n none a b = (
  λ h. no_items none h.0 h.1,
  λ h. elim h [
    | no_items e p q ↦ (p, q)
    | into_first some p q ↦ absurd (omega arith)
    | to_next p ↦ absurd (let f : p.k + 1 < n = p.before in omega arith)
    | from_last k e p q ↦ absurd (omega arith)
  ],
)

-- the links of a list with items: into the first, between them, and out of the last
pub filled_list : (path : List ℕ) (n : ℕ) → 0 < n → (a b : Point)
    → ((((a ≡ point.In path) × (b ≡ point.In (below path 0))) ⊎ NextBelow path n a b) ⊎ ((a ≡ point.Out (below path (n - 1))) × (b ≡ point.Out path))) ↔ ListLinks path n a b
filled_list path n some a b = (
  λ h. elim h [
    | inl early ↦ elim early [ inl p ↦ into_first some p.0 p.1 | inr p ↦ to_next p ]
    | inr p ↦ from_last (n - 1) (omega arith) p.0 p.1
  ],
  λ h. elim h [
    | no_items e p q ↦ absurd (omega arith)
    | into_first e p q ↦ inl (inl (p, q))
    | to_next p ↦ inl (inr p)
    | from_last k e p q ↦ inr (p ∙ ap (λ (m : ℕ). point.Out (below path m)) (let f : k ≡ n - 1 = omega arith in f), q)
  ],
)

-- what an entered position makes, by its kind
pub entered_list : (matching : Option FlowRule) (t : Term) (path : List ℕ) (n : ℕ) → is_list (term_layer t) ≡ true → n ≡ length (children t) → (a b : Point)
    → ListLinks path n a b ↔ EnteredLinks matching t path a b
entered_list matching t path n list count a b = (
  λ h. of_list list (subst (λ (m : ℕ). ListLinks path m a b) count h),
  λ h. elim h [
    | of_list l p ↦ subst (λ (m : ℕ). ListLinks path m a b) (sym count) p
    | of_other other r p q ↦ absurd (true≢false (sym list ∙ other))
  ],
)

pub entered_through : (matching : Option FlowRule) (t : Term) (path : List ℕ) → is_list (term_layer t) ≡ false → ((rule : FlowRule) → matching ≡ Some rule → rule.root ≡ true) → (a b : Point)
    → ((a ≡ point.In path) × (b ≡ point.Out path)) ↔ EnteredLinks matching t path a b
entered_through matching t path other roots a b = (
  λ h. of_other other roots h.0 h.1,
  λ h. elim h [
    | of_list list p ↦ absurd (true≢false (sym list ∙ other))
    | of_other o r p q ↦ (p, q)
  ],
)

pub entered_plain : (matching : Option FlowRule) (t : Term) (path : List ℕ) → is_list (term_layer t) ≡ false → ((rule : FlowRule) × (matching ≡ Some rule) × (rule.root ≡ false)) → (a b : Point)
    → ¬ EnteredLinks matching t path a b
entered_plain matching t path other plain a b h = elim h [
  | of_list list p ↦ true≢false (sym list ∙ other)
  | of_other o roots p q ↦ true≢false (sym (roots plain.0 plain.1) ∙ plain.2)
]

-- the links of a position are those of its rule, and those that it makes since it is entered
pub here_split : (matching : Option FlowRule) (entered : Bool) (t : Term) (path : List ℕ) (a b : Point)
    → (RuleLinks matching entered path a b ⊎ ((entered ≡ true) × EnteredLinks matching t path a b)) ↔ LinksAt matching entered t path a b
here_split matching entered t path a b = (
  λ h. elim h [
    | inl p ↦ in_chain p.rule p.inside.chain p.inside.inside.left p.inside.inside.right p.counts p.inside.has
        (p.inside.inside.k, p.inside.inside.is_left, p.inside.inside.is_right) p.inside.inside.leaves p.inside.inside.arrives
    | inr p ↦ joined p.0 p.1
  ],
  λ h. split h,
)
  where
    of_items : entered ≡ true → is_list (term_layer t) ≡ true → ListLinks path (length (children t)) a b → LinksAt matching entered t path a b
    of_items e list (no_items none p q) = through_empty e (list, none) p q
    of_items e list (into_first some p q) = go (length (children t)) refl some
      where
        go : (n : ℕ) → length (children t) ≡ n → 0 < n → LinksAt matching entered t path a b
        go zero k f = absurd (omega arith)
        go (suc n) k f = LinksAt.into_first n e (list, k ∙ sym (add-one n)) p q
    of_items e list (to_next p) = LinksAt.to_next (length (children t)) p.k e (list, refl) p.before p.leaves p.arrives
    of_items e list (from_last k same p q) = LinksAt.from_last k e (list, sym same) p q

    joined : entered ≡ true → EnteredLinks matching t path a b → LinksAt matching entered t path a b
    joined e (of_list list p) = of_items e list p
    joined e (of_other other roots p q) = through_other e other roots p q

    split : LinksAt matching entered t path a b → RuleLinks matching entered path a b ⊎ ((entered ≡ true) × EnteredLinks matching t path a b)
    split (in_chain rule chain left right counts has pair leaves arrives) = inl (record {
      rule = rule;
      counts = counts;
      inside = record {
        chain = chain;
        has = has;
        inside = record {
          k = pair.0;
          before = slice_get_within chain.items (pair.0 + 1) right pair.2;
          left = left;
          right = right;
          is_left = pair.1;
          is_right = pair.2;
          leaves = leaves;
          arrives = arrives;
        };
      };
    })
    split (through_empty e list p q) = inr (e, of_list list.0 (no_items list.1 p q))
    split (LinksAt.into_first n e list p q) = inr (e, of_list list.0 (into_first (let f : length (children t) ≡ n + 1 = list.1 in omega arith) p q))
    split (LinksAt.to_next n k e list before p q) = inr (e, of_list list.0 (to_next (record { k = k; before = (let f : length (children t) ≡ n = list.1 in omega arith); leaves = p; arrives = q })))
    split (LinksAt.from_last n e list p q) = inr (e, of_list list.0 (from_last n (sym list.1) p q))
    split (through_other e other roots p q) = inr (e, of_other other roots p q)

pub here_entered : (matching : Option FlowRule) (entered : Bool) (t : Term) (path : List ℕ) → entered ≡ true → (a b : Point)
    → (RuleLinks matching entered path a b ⊎ EnteredLinks matching t path a b) ↔ LinksAt matching entered t path a b
here_entered matching entered t path e a b = (
  λ h. (here_split matching entered t path a b).0 (elim h [ inl p ↦ inl p | inr p ↦ inr (e, p) ]),
  λ h. elim ((here_split matching entered t path a b).1 h) [ inl p ↦ inl p | inr p ↦ inr p.1 ],
)

pub here_unentered : (matching : Option FlowRule) (entered : Bool) (t : Term) (path : List ℕ) → entered ≡ false → (a b : Point)
    → RuleLinks matching entered path a b ↔ LinksAt matching entered t path a b
here_unentered matching entered t path e a b = (
  λ p. (here_split matching entered t path a b).0 (inl p),
  λ h. elim ((here_split matching entered t path a b).1 h) [ inl p ↦ p | inr p ↦ absurd (true≢false (sym p.0 ∙ e)) ],
)

-- where a rule counts, its chains make the links
pub rule_here : (matching : Option FlowRule) (entered : Bool) (path : List ℕ) (rule : FlowRule) (chains : List Chain) → matching ≡ Some rule → (rule.root || entered) ≡ true
    → chains ≡ rule.chains → (a b : Point) → ChainsOf rule chains path a b ↔ RuleLinks matching entered path a b
rule_here matching entered path rule chains is counts same a b = (
  λ h. record { rule = rule; counts = (is, counts); inside = subst (λ (cs : List Chain). ChainsOf rule cs path a b) same h },
  λ p. let one : p.rule ≡ rule = same_Some p.rule rule (sym p.counts.0 ∙ is) in
      subst (λ (cs : List Chain). ChainsOf rule cs path a b) (sym same) (subst (λ (r : FlowRule). ChainsOf r r.chains path a b) one p.inside),
)
