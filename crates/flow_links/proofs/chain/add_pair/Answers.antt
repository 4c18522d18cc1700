use Rattle.std.proofs.Common.{◌≡◌, Some, sym, ap, ◌∙◌}
use Rattle.std.proofs.lemmas.Option.{same_Some}
use Rattle.flow_syntax.specs.Graph.{arriving, leaving}
use Rattle.flow_links.proofs.BelowLemmas.{Adds-same}
use Rattle.flow_term.proofs.Outcomes.{on_ok}
use Rattle.flow_links.proofs.chain.add_pair.Goals as goal

pub returns : goal.returns
returns c =
    let one : leaving c.args.rule.now c.args.path.now c.args.left.now ≡ Some c.in-Some.from = sym c.in_ok-from.ensures ∙ c.in-Some.is in
    let two : arriving c.args.rule.now c.args.path.now c.args.right.now ≡ Some c.in-Some-2.to = sym c.in_ok-to.ensures ∙ c.in-Some-2.is in
    on_ok c.insert.result c.insert.ensures (λ added. Adds-same added (λ a b.
    (λ h. (one ∙ ap Some (sym h.0), two ∙ ap Some (sym h.1)), λ h. (same_Some a c.in-Some.from (sym h.0 ∙ one), same_Some b c.in-Some-2.to (sym h.1 ∙ two)))))
