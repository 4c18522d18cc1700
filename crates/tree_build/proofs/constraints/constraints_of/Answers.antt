use Rattle.std.proofs.Common.{◌≡◌, ◌≢◌, List, None, sym, subst, ◌∙◌}
use Rattle.std.specs.Prelude.{All}
use Rattle.flow_term.proofs.Outcomes.{if_ok}
use Rattle.flow_term.specs.declared.graph.Edge.{Edge}
use Rattle.flow_term.specs.declared.graph.Node.{Node}
use Rattle.flow_term.specs.Trees.{At}
use Rattle.tree_constraints.specs.declared.constraint.Constraint.{Constraint}
use Rattle.tree_constraints.specs.Solutions.{AreConstraints}
use Rattle.tree_listing.specs.Listing.{listed}
use Rattle.tree_listing.proofs.Listed.{listing_exact}
use Rattle.tree_build.specs.Ends.{AreEnds}
use Rattle.tree_build.specs.Numbers.{AreOrigins, HasEnds}
use Rattle.tree_build.proofs.ListFacts.{have_ends}
use Rattle.tree_build.proofs.StandFacts.{nodes_stand}
use Rattle.tree_build.proofs.constraints.constraints_of.Goals as goal

pub origins_of-requires-clause-ends : goal.origins_of-requires-clause-ends
origins_of-requires-clause-ends g c =
    subst (λ (es : List Edge). All (HasEnds c.in_ok-numbers.numbers.keys) es) (sym c.as_slice-2.ensures)
    (subst (λ (ks : List Node). All (HasEnds ks) c.args.edges.now) (sym (c.in_ok-numbers.ensures ∙ c.as_slice.ensures))
    (have_ends (g.R.RuleSource.spec c.args.rules.now) c.args.tree.now c.args.nodes.now c.args.edges.now c.requires.nodes c.requires.edges))

pub list_all-requires-clause-stand : goal.list_all-requires-clause-stand
list_all-requires-clause-stand g c =
    subst (λ (ns : List Node). All (λ n. At c.args.tree.now n.path ≢ None) ns) (sym c.as_slice-3.ensures) (nodes_stand (g.R.RuleSource.spec c.args.rules.now) c.args.tree.now c.args.nodes.now c.requires.nodes)

pub returns-clause-constraints : goal.returns-clause-constraints
returns-clause-constraints g c = if_ok c.list_all.result c.list_all.ensures.constraints (λ rows h.
    let spec = g.R.RuleSource.spec c.args.rules.now in
    let tree = c.args.tree.now in
    let are : AreOrigins c.as_slice-3.result.now c.as_slice-2.result.now c.in_ok-origins.origins.forward.items c.in_ok-origins.origins.backward.items =
    subst (λ (ks : List Node). AreOrigins ks c.as_slice-2.result.now c.in_ok-origins.origins.forward.items c.in_ok-origins.origins.backward.items)
    (c.in_ok-numbers.ensures ∙ c.as_slice.ensures ∙ sym c.as_slice-3.ensures) (c.in_ok-origins.ensures.forward, c.in_ok-origins.ensures.backward) in
    let is : rows.constraints ≡ listed spec tree c.args.properties.now.list c.args.nodes.now c.args.edges.now =
    h c.as_slice-2.result.now are ∙ (λ i. listed spec tree c.args.properties.now.list (c.as_slice-3.ensures i) (c.as_slice-2.ensures i)) in
    subst (λ (cs : List Constraint). AreConstraints spec tree cs) (sym is)
    (listing_exact spec tree c.args.properties.now.list c.args.nodes.now c.args.edges.now c.requires.properties.are c.requires.nodes c.requires.edges).0)

pub returns-clause-ends : goal.returns-clause-ends
returns-clause-ends g c = if_ok c.list_all.result c.list_all.ensures.ends (λ rows are.
    subst (λ (ns : List Node). AreEnds c.args.properties.now.list ns rows.ends rows.constraints) c.as_slice-3.ensures are)
