use Rattle.std.proofs.Common.{Some}
use Rattle.tree_constraints.specs.declared.constraint.Origin.TheVariants as from
use Rattle.tree_build.proofs.EndFacts.{both_on, end_added}
use Rattle.tree_build.proofs.constraints.add_boundary.Goals as goal

pub returns-in_ok-made-in-Some-clause-ends : goal.returns-in_ok-made-in-Some-clause-ends
returns-in_ok-made-in-Some-clause-ends c = both_on c.push.result c.push.ensures.ends c.push.ensures.constraints (λ ends constraints properties nodes stands are.
    end_added properties nodes c.args.number c.args.place c.args.number c.args.node.now c.args.property.now.name from.Boundary (Some c.in-Some.hit.now)
    c.args.rows.now.ends c.push.new.self.ends c.args.rows.now.constraints c.push.new.self.constraints c.in_ok-made-in-Some.made stands c.in_ok-made-in-Some.ensures stands.number_within stands.node_is ends constraints are)
