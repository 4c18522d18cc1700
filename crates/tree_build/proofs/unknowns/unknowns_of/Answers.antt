use Rattle.std.proofs.Common.{List, sym, subst}
use Rattle.flow_term.proofs.Outcomes.{if_ok}
use Rattle.flow_term.specs.declared.graph.Unknown.{Unknown}
use Rattle.tree_constraints.specs.Solutions.{AreUnknowns}
use Rattle.tree_listing.proofs.Listed.{listed_are_unknowns}
use Rattle.tree_build.proofs.unknowns.unknowns_of.Goals as goal

pub returns-clause-unknowns : goal.returns-clause-unknowns
returns-clause-unknowns c = if_ok c.list_unknowns.result c.list_unknowns.ensures (λ list is spec tree properties nodes.
    subst (λ (us : List Unknown). AreUnknowns spec tree us) (sym is) (listed_are_unknowns spec tree c.args.properties.now c.args.nodes.now properties nodes))
