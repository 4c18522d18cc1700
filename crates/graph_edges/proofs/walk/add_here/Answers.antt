use Rattle.std.proofs.Common.{sym, ◌∙◌, true≢false}
use Rattle.flow_term.proofs.Outcomes.{on_ok}
use Rattle.flow_links.proofs.SetLemmas.{Gains-none, Gains-same}
use Rattle.graph_edges.proofs.walk.add_here.Goals as goal

pub returns-then-not-does_count : goal.returns-then-not-does_count
returns-then-not-does_count c = Gains-none c.args.out.now (λ e h. true≢false (sym h.0 ∙ sym c.does_count.ensures ∙ c.if-not-does_count.true))

pub returns : goal.returns
returns c = on_ok c.add_owned.result c.add_owned.ensures (λ g. Gains-same g (λ e. (λ o. (sym c.does_count.ensures ∙ c.if-not-does_count.false, o), λ h. h.1)))
