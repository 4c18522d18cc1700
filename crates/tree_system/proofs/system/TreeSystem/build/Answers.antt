use Rattle.std.proofs.Common.{sym, subst, ◌∙◌}
use Rattle.flow_term.proofs.Outcomes.{if_ok}
use Rattle.flow_syntax.specs.declared.spec.Spec.{Spec}
use Rattle.tree_constraints.specs.Solutions.{AreConstraints, AreUnknowns}
use Rattle.tree_listing.specs.Given.{AreNodes}
use Rattle.tree_listing.specs.Listing.{listed_unknowns}
use Rattle.tree_listing.proofs.Listed.{listed_are_unknowns}
use Rattle.tree_build.specs.Prepared.{ArePrepared}
use Rattle.tree_system.proofs.system.TreeSystem.build.Goals as goal

pub in_tables-requires : goal.in_tables-requires
in_tables-requires g c = record {
  tree = c.args.tree.now;
  prepared = subst (λ (s : Spec). ArePrepared s c.args.properties.now) c.requires.same c.requires.properties;
  are_nodes = subst (λ (s : Spec). AreNodes s c.args.tree.now c.args.nodes.now) c.requires.same c.requires.nodes;
  are_constraints = subst (λ (s : Spec). AreConstraints s c.args.tree.now c.in_ok-rows.rows.constraints) c.requires.same c.in_ok-rows.ensures.constraints;
  are_ends = c.in_ok-rows.ensures.ends;
  unknowns_are = c.in_ok-unknowns.ensures.listed ∙ (λ i. listed_unknowns (c.as_slice.ensures i) (c.as_slice-2.ensures i));
}

pub returns-clause-constraints : goal.returns-clause-constraints
returns-clause-constraints g c =
    if_ok c.in_tables.result c.in_tables.ensures.constraints (λ s e.
    subst (AreConstraints (g.B.Bodies.spec c.args.bodies) c.args.tree.now) (sym e) (subst (λ (p : Spec). AreConstraints p c.args.tree.now c.in_ok-rows.rows.constraints) c.requires.same c.in_ok-rows.ensures.constraints))

pub returns-clause-unknowns : goal.returns-clause-unknowns
returns-clause-unknowns g c =
    let spec = g.B.Bodies.spec c.args.bodies in
    let us = listed_unknowns c.args.properties.now.list c.args.nodes.now in
    let prepared = subst (λ (s : Spec). ArePrepared s c.args.properties.now) c.requires.same c.requires.properties in
    let are_nodes = subst (λ (s : Spec). AreNodes s c.args.tree.now c.args.nodes.now) c.requires.same c.requires.nodes in
    if_ok c.in_tables.result c.in_tables.ensures.unknowns (λ s e.
    subst (AreUnknowns spec c.args.tree.now) (sym (e ∙ c.in_ok-unknowns.ensures.listed ∙ (λ i. listed_unknowns (c.as_slice.ensures i) (c.as_slice-2.ensures i))))
    (listed_are_unknowns spec c.args.tree.now c.args.properties.now.list c.args.nodes.now prepared.are are_nodes))
