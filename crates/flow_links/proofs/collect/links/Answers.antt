use Rattle.std.proofs.Common.{List, Contains, subst}
use Rattle.std.specs.Prelude.{◌↔◌}
use Rattle.flow_term.specs.declared.graph.Link.{Link}
use Rattle.flow_syntax.specs.declared.spec.TypedSpec.{TypedSpec}
use Rattle.flow_syntax.specs.Graph.{IsLink}
use Rattle.flow_term.proofs.Outcomes.{if_ok}
use Rattle.flow_links.proofs.collect.links.Goals as goal

pub returns-clause-exactly : goal.returns-clause-exactly
returns-clause-exactly c = if_ok c.links_by.result c.links_by.ensures.exactly (λ (list : List Link) exact.
    subst (λ (s : TypedSpec). (x : Link) → Contains list x ↔ IsLink s.spec c.args.tree.now x.from x.to) c.in_ok-rules.ensures exact)
