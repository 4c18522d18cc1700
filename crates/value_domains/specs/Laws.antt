-- What holds of every domain.
use Rattle.std.specs.Prelude.{◌≡◌, List}
use Rattle.flow_syntax.specs.declared.tables.TableDecl.{TableDecl}
use Rattle.flow_syntax.specs.Types.{Lattice}
use Rattle.lattice_base.specs.Laws.{JoinLaws, OrderLaw}
use Rattle.value_domains.specs.Domains.{Domain, IsValueOf, least_of, joined_of, IsBelowIn, domain_of}
use Rattle.value_domains.specs.Lawful.{IsLawful, HasNoTable}

-- Where each table is lawful, bottom and joins are values of the domain, and join is that of a lattice.
abbrev pub DomainsHaveJoins : Type 0
DomainsHaveJoins = (d : Domain) → IsLawful d → JoinLaws (IsValueOf d) (least_of d) (joined_of d)

-- There one value is below another exactly where the join of the two is the other.
abbrev pub DomainsAreOrdered : Type 0
DomainsAreOrdered = (d : Domain) → IsLawful d → OrderLaw (IsValueOf d) (joined_of d) (IsBelowIn d)

-- A lattice that names no declared one has a domain with lawful tables, whatever is declared.
abbrev pub PlainIsLawful : Type 0
PlainIsLawful = (declared : List TableDecl) (l : Lattice) → HasNoTable l → IsLawful (domain_of declared l)

-- And its domain is the same, whatever is declared.
abbrev pub PlainIsOne : Type 0
PlainIsOne = (declared others : List TableDecl) (l : Lattice) → HasNoTable l → domain_of declared l ≡ domain_of others l
