-- The matches of a position and those of its children.
use Rattle.std.proofs.Common.{◌≡◌, ℕ, List, [], ◌∷◌, ◌++◌, length, Option, Some, None, refl, sym, ap, subst, ◌∙◌, inl, inr, append_assoc, append-nil}
use Rattle.std.specs.Prelude.{slice_get, option_and_then, option_map}
use Rattle.std.proofs.lemmas.Option.{same_Some}
use Rattle.flow_term.specs.declared.term.Term.{Term}
use Rattle.flow_term.specs.Trees.{At, children}
use Rattle.flow_syntax.specs.declared.rule.FlowRule.{FlowRule}
use Rattle.flow_syntax.specs.declared.spec.Spec.{Spec}
use Rattle.flow_syntax.specs.Control.{rule_for}
use Rattle.flow_syntax.specs.Graph.{below}
use Rattle.flow_syntax.specs.Matching.{matches}
use Rattle.flow_match.specs.declared.matched.Matched.{Matched}
use Rattle.flow_match.specs.declared.matched.RuleHit.{RuleHit}
use Rattle.flow_match.specs.Matched.{matched, matched_in}
use Rattle.flow_links.proofs.NumberLemmas.{get_longer}
use Rattle.graph_laws.proofs.Elsewhere.{at_append}
use Rattle.path_tree.specs.declared.tree.PathTree.{PathTree, out-roll-PathTree, roll-PathTree}
use Rattle.path_tree.specs.Shapes.{PartAt, children_of, value_of}
use Rattle.graph_shape.specs.declared.kept.Kept.{Kept}
use Rattle.graph_shape.specs.Shapes.{HasMatches, HaveMatches, KeepsMatched, matched_of}
use Rattle.graph_shape.proofs.Matching.{first_is}
use Rattle.graph_shape.proofs.Passable.{get_last, last_or_before}

-- the position of a child
pub at_child : (tree t c : Term) (path : List ℕ) (k : ℕ) → At tree path ≡ Some t → slice_get (children t) k ≡ Some c → At tree (below path k) ≡ Some c
at_child tree t c path k here is = at_append path (k ∷ []) tree t here ∙ ap (option_and_then (λ (x : Term). Some x)) is

-- what matches at a position of a tree
pub matched_here : (spec : Spec) (tree t : Term) (path : List ℕ) (m : Matched) → At tree path ≡ Some t → Some m ≡ matched_in spec tree path → m ≡ matched spec t path
matched_here spec tree t path m here is = same_Some m (matched spec t path) (is ∙ ap (option_map (λ (u : Term). matched spec u path)) here)

-- what matches, by its parts
pub matched_as : (m : Matched) (control : Option ℕ) (hits : List RuleHit) → control ≡ m.control → hits ≡ m.hits → record { control = control; hits = hits } ≡ m
matched_as m control hits e f =
    subst (λ (x : Option ℕ). record { control = x; hits = hits } ≡ m) (sym e) (subst (λ (y : List RuleHit). record { control = m.control; hits = y } ≡ m) (sym f) refl)

-- the number that matches is that of the matching rule
pub number_is : (spec : Spec) (t : Term) (path : List ℕ) (m : Matched) → m ≡ matched spec t path → option_and_then (slice_get spec.control) m.control ≡ rule_for spec t
number_is spec t path m e = ap (λ (x : Matched). option_and_then (slice_get spec.control) x.control) e ∙ first_is (λ (rule : FlowRule). matches rule.head t) spec.control

module _ (spec : Spec) where
  pub matches_from : (t : Term) (path : List ℕ) (s : PathTree Kept) → matched_of s ≡ matched spec t path → HaveMatches spec (children t) path (children_of s) → HasMatches spec t path s
  matches_from t path s here inner = record { each = by }
    where
      below_at : (k : ℕ) (rest : List ℕ) (u : Term) (o : Option Term) → slice_get (children t) k ≡ o → option_and_then (λ child. At child rest) o ≡ Some u → KeepsMatched spec u (path ++ k ∷ rest) s (k ∷ rest)
      below_at k rest u None is at = cc
      below_at k rest u (Some child) is at =
          let c = inner.each k child is in
          let p = c.is.each rest u at in
          record {
            part = p.part;
            at = ap (option_and_then (λ (x : PathTree Kept). PartAt x rest)) c.at ∙ p.at;
            is = p.is ∙ ap (matched spec u) (append_assoc path (k ∷ []) rest);
          }

      by : (rest : List ℕ) (u : Term) → At t rest ≡ Some u → KeepsMatched spec u (path ++ rest) s rest
      by [] u at = record { part = s; at = refl; is = here ∙ ap (λ (x : Term). matched spec x path) (same_Some t u at) ∙ ap (matched spec u) (sym (append-nil path)) }
      by (k ∷ rest) u at = below_at k rest u (slice_get (children t) k) refl at

  -- a shape that was just put together
  pub matches_rolled : (t : Term) (path : List ℕ) (k : Kept) (ss : List (PathTree Kept)) → record { control = k.summary.rule; hits = k.hits } ≡ matched spec t path → HaveMatches spec (children t) path ss
      → HasMatches spec t path (roll-PathTree Kept (record { value = k; children = ss }))
  matches_rolled t path k ss here inner =
      let s : PathTree Kept = roll-PathTree Kept (record { value = k; children = ss }) in
      let e = out-roll-PathTree Kept (record { value = k; children = ss }) in
      let value : k ≡ value_of s = sym (cc (e)) in
      let parts : ss ≡ children_of s = sym (cc (e)) in
      matches_from t path s
      (subst (λ (x : Kept). record { control = x.summary.rule; hits = x.hits } ≡ matched spec t path) value here)
      (subst (λ (x : List (PathTree Kept)). HaveMatches spec (children t) path x) parts inner)

  pub no_matches : (path : List ℕ) → HaveMatches spec [] path []
  no_matches path = record { each = λ k t h. cc }

  pub matches_more : (ts : List Term) (ss : List (PathTree Kept)) (path : List ℕ) (t : Term) (s : PathTree Kept) → length ss ≡ length ts → HaveMatches spec ts path ss → HasMatches spec t (below path (length ts)) s → HaveMatches spec (ts ++ t ∷ []) path (ss ++ s ∷ [])
  matches_more ts ss path t s count are is = record {
    each = λ k u at. elim (last_or_before ts t k u at) [
      | inl before ↦ (let c = are.each k u before in record { shape = c.shape; at = get_longer ss (s ∷ []) k c.shape c.at; is = c.is })
      | inr last ↦ record {
        shape = s;
        at = subst (λ (j : ℕ). slice_get (ss ++ s ∷ []) j ≡ Some s) (count ∙ sym last.0) (get_last ss s);
        is = subst (λ (x : Term). HasMatches spec x (below path k) s) last.1 (subst (λ (j : ℕ). HasMatches spec t (below path j) s) (sym last.0) is);
      }
    ];
  }
