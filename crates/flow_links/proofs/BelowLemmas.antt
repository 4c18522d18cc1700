-- The links below a term are its own and those below its children.
use Rattle.std.proofs.Common.{◌≡◌, ℕ, ◌+◌, ◌<◌, Bool, false, List, [], ◌∷◌, ◌++◌, length, get_or, Option, Some, None, refl, sym, ap, subst, ◌∙◌, inl, inr, append_assoc, append-nil, arith}
use Rattle.std.proofs.lemmas.Option.{slice_get_within, same_Some}
use Rattle.std.specs.Prelude.{◌⊎◌, ◌↔◌, Contains, slice_get, option_and_then}
use Rattle.std.proofs.Math.Nat.{eq-or-lt_of_le}
use Rattle.std.specs.Option.{option_map_or}
use Rattle.flow_term.specs.declared.term.Term.{Term}
use Rattle.flow_term.specs.declared.graph.Point.{Point}
use Rattle.flow_term.specs.declared.graph.Link.{Link}
use Rattle.flow_term.specs.Trees.{At, children}
use Rattle.flow_syntax.specs.declared.rule.FlowRule.{FlowRule}
use Rattle.flow_syntax.specs.declared.spec.Spec.{Spec}
use Rattle.flow_syntax.specs.Control.{entered_below, enters_child, rule_for}
use Rattle.flow_syntax.specs.Graph.{LinksAt, IsLink, below}
use Rattle.flow_links.specs.Below.{Adds, LinksBelow, LinksInChildren}
use Rattle.flow_links.specs.inner.Marks.{AreMarks}

-- one addition after another
pub Adds-then : {old mid new : List Link} {P Q : Point → Point → Type 0} → Adds old mid P → Adds mid new Q → Adds old new (λ a b. P a b ⊎ Q a b)
Adds-then p q = record {
  each = λ a b. (
    λ h. elim ((q.each a b).0 h) [ inl in_mid ↦ elim ((p.each a b).0 in_mid) [ inl in_old ↦ inl in_old | inr hp ↦ inr (inl hp) ] | inr hq ↦ inr (inr hq) ],
    λ h. elim h [ inl in_old ↦ (q.each a b).1 (inl ((p.each a b).1 (inl in_old))) | inr either ↦ elim either [ inl hp ↦ (q.each a b).1 (inl ((p.each a b).1 (inr hp))) | inr hq ↦ (q.each a b).1 (inr hq) ] ],
  );
}

-- the same, said in another way
pub Adds-same : {old new : List Link} {P Q : Point → Point → Type 0} → Adds old new P → ((a b : Point) → P a b ↔ Q a b) → Adds old new Q
Adds-same p same = record {
  each = λ a b. (
    λ h. elim ((p.each a b).0 h) [ inl in_old ↦ inl in_old | inr hp ↦ inr ((same a b).0 hp) ],
    λ h. elim h [ inl in_old ↦ (p.each a b).1 (inl in_old) | inr hq ↦ (p.each a b).1 (inr ((same a b).1 hq)) ],
  );
}

-- one link, by its ends
pub Adds-ends : {old new : List Link} {from to p q : Point} → from ≡ p → to ≡ q → Adds old new (λ a b. (a ≡ from) × (b ≡ to)) → Adds old new (λ a b. (a ≡ p) × (b ≡ q))
Adds-ends e f added = Adds-same added (λ a b. (λ h. (h.0 ∙ e, h.1 ∙ f), λ h. (h.0 ∙ sym e, h.1 ∙ sym f)))

-- the mark of a child says whether it is entered
inside_unmarked : (spec : Spec) (marks : List Bool) (p : ℕ → Bool) (t : Term) (path : List ℕ) (a b : Point) → AreMarks marks (length (children t)) p
    → (c : LinksInChildren spec marks t path (length (children t)) a b) → LinksBelow spec (p c.k) c.child (below path c.k) a b
inside_unmarked spec marks p t path a b are c = subst (λ (f : Bool). LinksBelow spec f c.child (below path c.k) a b) (are.each c.k c.first) c.inside

module _ (spec : Spec) (entered : Bool) (t : Term) (marks : List Bool) (are : AreMarks marks (length (children t)) (enters_child (rule_for spec t) entered t)) (path : List ℕ) (a b : Point) where
  own : LinksAt (rule_for spec t) entered t path a b → LinksBelow spec entered t path a b
  own h = record { rest = []; u = t; position = refl; made = subst (λ (p : List ℕ). LinksAt (rule_for spec t) entered t p a b) (sym (append-nil path)) h }

  of_children : LinksInChildren spec marks t path (length (children t)) a b → LinksBelow spec entered t path a b
  of_children c =
      let inside : LinksBelow spec (enters_child (rule_for spec t) entered t c.k) c.child (below path c.k) a b = inside_unmarked spec marks (enters_child (rule_for spec t) entered t) t path a b are c in
      record {
        rest = c.k ∷ inside.rest;
        u = inside.u;
        position = ap (option_and_then (λ (child : Term). At child inside.rest)) c.is ∙ inside.position;
        made = subst (λ (o : Option Term). LinksAt (rule_for spec inside.u) (option_map_or (λ child. entered_below spec (enters_child (rule_for spec t) entered t c.k) child inside.rest) o false) inside.u (path ++ c.k ∷ inside.rest) a b)
            (sym c.is) (subst (λ (p : List ℕ). LinksAt (rule_for spec inside.u) (entered_below spec (enters_child (rule_for spec t) entered t c.k) c.child inside.rest) inside.u p a b) (append_assoc path (c.k ∷ []) inside.rest) inside.made);
      }

  of_child : (n : ℕ) (rest : List ℕ) (u : Term) (o : Option Term) → slice_get (children t) n ≡ o → option_and_then (λ child. At child rest) o ≡ Some u
      → LinksAt (rule_for spec u) (option_map_or (λ child. entered_below spec (enters_child (rule_for spec t) entered t n) child rest) o false) u (path ++ n ∷ rest) a b
      → LinksInChildren spec marks t path (length (children t)) a b
  of_child n rest u None is position made = cc
  of_child n rest u (Some child) is position made =
      let within : n < length (children t) = slice_get_within (children t) n child is in
      record {
        k = n;
        first = within;
        child = child;
        is = is;
        inside = subst (λ (f : Bool). LinksBelow spec f child (below path n) a b) (sym (are.each n within)) (record {
          rest = rest;
          u = u;
          position = position;
          made =
              subst (λ (p : List ℕ). LinksAt (rule_for spec u) (entered_below spec (enters_child (rule_for spec t) entered t n) child rest) u p a b) (sym (append_assoc path (n ∷ []) rest)) made;
        });
      }

  either : (rest : List ℕ) (u : Term) → At t rest ≡ Some u → LinksAt (rule_for spec u) (entered_below spec entered t rest) u (path ++ rest) a b
      → LinksAt (rule_for spec t) entered t path a b ⊎ LinksInChildren spec marks t path (length (children t)) a b
  either [] u position made = inl (subst (λ (v : Term). LinksAt (rule_for spec v) entered v path a b) (sym (same_Some t u position))
      (subst (λ (p : List ℕ). LinksAt (rule_for spec u) entered u p a b) (append-nil path) made))
  either (n ∷ rest) u position made = inr (of_child n rest u (slice_get (children t) n) refl position made)

  pub below_split : (LinksAt (rule_for spec t) entered t path a b ⊎ LinksInChildren spec marks t path (length (children t)) a b) ↔ LinksBelow spec entered t path a b
  below_split = (λ h. elim h [ inl h ↦ own h | inr h ↦ of_children h ], λ h. either h.rest h.u h.position h.made)

-- the same where the code has other names for the rule and the marks
pub below_next : (spec : Spec) (entered : Bool) (t : Term) (path : List ℕ) (matching : Option FlowRule) (marks slice : List Bool) → matching ≡ rule_for spec t → slice ≡ marks
    → AreMarks marks (length (children t)) (enters_child matching entered t) → (a b : Point)
    → (LinksAt matching entered t path a b ⊎ LinksInChildren spec slice t path (length (children t)) a b) ↔ LinksBelow spec entered t path a b
below_next spec entered t path matching marks slice em es are a b =
    subst (λ (m : Option FlowRule). (LinksAt m entered t path a b ⊎ LinksInChildren spec slice t path (length (children t)) a b) ↔ LinksBelow spec entered t path a b) (sym em)
    (subst (λ (ms : List Bool). (LinksAt (rule_for spec t) entered t path a b ⊎ LinksInChildren spec ms t path (length (children t)) a b) ↔ LinksBelow spec entered t path a b) (sym es)
    (below_split spec entered t marks (subst (λ (m : Option FlowRule). AreMarks marks (length (children t)) (enters_child m entered t)) em are) path a b))

module _ (spec : Spec) (marks : List Bool) (t : Term) (path : List ℕ) (i : ℕ) (child : Term) (is : slice_get (children t) i ≡ Some child) (a b : Point) where
  forth : LinksInChildren spec marks t path i a b ⊎ LinksBelow spec (get_or marks i false) child (below path i) a b → LinksInChildren spec marks t path (i + 1) a b
  forth h = elim h [
    | inl c ↦ record { k = c.k; first = (let f : c.k < i = c.first in omega arith); child = c.child; is = c.is; inside = c.inside }
    | inr c ↦ record { k = i; first = omega arith; child = child; is = is; inside = c }
  ]

  last_or_before : (k : ℕ) (other : Term) → (k ≡ i) ⊎ (k < i) → slice_get (children t) k ≡ Some other → LinksBelow spec (get_or marks k false) other (below path k) a b
      → LinksInChildren spec marks t path i a b ⊎ LinksBelow spec (get_or marks i false) child (below path i) a b
  last_or_before k other (inr before) known inside = inl (record { k = k; first = before; child = other; is = known; inside = inside })
  last_or_before k other (inl same) known inside =
      let one : other ≡ child = same_Some other child (sym known ∙ ap (slice_get (children t)) same ∙ is) in
      inr (subst (λ (v : Term). LinksBelow spec (get_or marks i false) v (below path i) a b) one
      (subst (λ (n : ℕ). LinksBelow spec (get_or marks n false) other (below path n) a b) same inside))

  back : LinksInChildren spec marks t path (i + 1) a b → LinksInChildren spec marks t path i a b ⊎ LinksBelow spec (get_or marks i false) child (below path i) a b
  back c = last_or_before c.k c.child (eq-or-lt_of_le (let f : c.k < i + 1 = c.first in omega arith)) c.is c.inside

  pub children_more : (LinksInChildren spec marks t path i a b ⊎ LinksBelow spec (get_or marks i false) child (below path i) a b) ↔ LinksInChildren spec marks t path (i + 1) a b
  children_more = (forth, back)

-- the same where the code has other names for the flag, the number and the path
pub children_next : (spec : Spec) (marks : List Bool) (t : Term) (path before : List ℕ) (i n : ℕ) (passed : Bool) (child : Term)
    → n ≡ i → passed ≡ get_or marks n false → before ≡ path → slice_get (children t) i ≡ Some child → (a b : Point)
    → (LinksInChildren spec marks t path i a b ⊎ LinksBelow spec passed child (below before n) a b) ↔ LinksInChildren spec marks t path (i + 1) a b
children_next spec marks t path before i n passed child en ep el is a b =
    subst (λ (f : Bool). (LinksInChildren spec marks t path i a b ⊎ LinksBelow spec f child (below before n) a b) ↔ LinksInChildren spec marks t path (i + 1) a b)
    (sym (ep ∙ ap (λ k. get_or marks k false) en))
    (subst (λ (p : List ℕ). (LinksInChildren spec marks t path i a b ⊎ LinksBelow spec (get_or marks i false) child p a b) ↔ LinksInChildren spec marks t path (i + 1) a b)
    (sym (ap (λ p. below p n) el ∙ ap (below path) en)) (children_more spec marks t path i child is a b))

-- from no links, the links of a tree
pub whole_tree : (spec : Spec) (tree : Term) (old new : List Link) → old ≡ [] → Adds old new (LinksBelow spec false tree []) → (x : Link) → Contains new x ↔ IsLink spec tree x.from x.to
whole_tree spec tree old new nothing added x = (
  λ h. elim ((added.each x.from x.to).0 h) [
    | inl before ↦ absurd (none (subst (λ (xs : List Link). Contains xs x) nothing before))
    | inr p ↦ record { path = p.rest; t = p.u; position = p.position; made = p.made }
  ],
  λ p. (added.each x.from x.to).1 (inr (record { rest = p.path; u = p.t; position = p.position; made = p.made })),
)
  where
    none : Contains [] x → ⊥
    none h = let f : h.0 < 0 = h.1 in absurd (omega arith)
