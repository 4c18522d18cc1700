use Rattle.std.proofs.Common.{◌<◌, ℕ, length, sym, ap, subst, ◌∙◌}
use Rattle.flow_term.proofs.Outcomes.{if_ok}
use Rattle.value_domains.specs.Domains.{least_of}
use Rattle.lattice_any.specs.Types.{domain_of_any}
use Rattle.expr_meaning.specs.Meaning.{property_number}
use Rattle.tree_system.specs.Tables.{by_place}
use Rattle.tree_system.specs.TableLaws.{domain_is, property_in}
use Rattle.tree_system.proofs.EvalFacts.{at_place}
use Rattle.tree_system.proofs.system.TreeSystemSystem.fresh.Goals as goal

pub lattice-requires : goal.lattice-requires
lattice-requires g c =
    let s = c.args.self.now in
    let spec = g.B.Bodies.spec s.bodies in
    let types = g.B.Bodies.types s.bodies in
    let accepted = g.met.B.Bodies.accepted s.bodies in
    let n = by_place s.constraints s.unknowns s.keys s.in_use in
    let is = at_place s.properties.items 0 c.index.result.now (property_number spec (n.unknown c.args.unknown).property) c.args.unknown c.index.ensures (s.tables.properties_are c.args.unknown c.requires.used) in
    subst (λ (p : ℕ). p < length spec.properties) (sym is) (property_in spec types accepted n s.of_tree s.tables c.args.unknown c.requires.used)

pub returns : goal.returns
returns g c =
    let s = c.args.self.now in
    let spec = g.B.Bodies.spec s.bodies in
    let types = g.B.Bodies.types s.bodies in
    let accepted = g.met.B.Bodies.accepted s.bodies in
    let n = by_place s.constraints s.unknowns s.keys s.in_use in
    let is = at_place s.properties.items 0 c.index.result.now (property_number spec (n.unknown c.args.unknown).property) c.args.unknown c.index.ensures (s.tables.properties_are c.args.unknown c.requires.used) in
    if_ok c.bottom.result c.bottom.ensures (λ v e. e ∙ ap least_of (ap domain_of_any (c.lattice.ensures ∙ ap (g.B.Bodies.lattice_of s.bodies) is)
    ∙ domain_is spec types accepted n s.of_tree s.tables (g.B.Bodies.lattice_of s.bodies) (g.met.B.Bodies.lattices s.bodies) c.args.unknown c.requires.used))
