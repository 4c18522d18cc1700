-- The domain of a lattice.
use Rattle.flow_syntax.specs.Types.{sort_of}
use Rattle.lattice_any.specs.declared.any.AnyL.{AnyL, AnyL-F, fold-AnyL}
use Rattle.lattice_any.specs.Tables.{table_of_names}
use Rattle.value_domains.specs.Domains.{Domain, may, must, flat, map_to, pair_of, listed}

abbrev pub domain_layer : AnyL-F Domain → Domain
domain_layer (AnyL-F.May sort) = may (sort_of sort)
domain_layer (AnyL-F.Must sort) = must (sort_of sort)
domain_layer (AnyL-F.Flat sort) = flat (sort_of sort)
domain_layer (AnyL-F.Map sort values) = map_to (sort_of sort) values
domain_layer (AnyL-F.Pair left right) = pair_of left right
domain_layer (AnyL-F.Table table) = listed (table_of_names table)

-- the domain of a lattice
abbrev pub domain_of_any : AnyL → Domain
domain_of_any = fold-AnyL Domain domain_layer
