use Rattle.flow_term.specs.Elements.{elem_cmp}
use Rattle.value_domains.specs.Domains.{IsValueOf, least_of, joined_of}
use Rattle.lattice_sets.specs.MapLaws.{map_pointwise}
use Rattle.value_domains.specs.inner.Elements.{elem_total, elem_exact}
use Rattle.lattice_any.specs.TypeLaws.{any_laws}
use Rattle.lattice_any.specs.Types.{domain_of_any}
use Rattle.lattice_any.proofs.laws.map_joins_are_pointwise.Goals as goal

pub returns : goal.returns
returns c =
    let l = c.args._values.now in
    let t = domain_of_any l in
    map_pointwise elem_cmp elem_total elem_exact (IsValueOf t) (least_of t) (joined_of t) (any_laws l)
