-- What holds of tests, heights and ranks of every domain whose tables are lawful.
use Rattle.std.specs.Prelude.{◌≤◌, List}
use Rattle.std.specs.Bool.{Decides}
use Rattle.flow_term.specs.declared.elem.Elem.{Elem}
use Rattle.flow_term.specs.declared.value.Value.{Value}
use Rattle.flow_syntax.specs.Types.{Sort}
use Rattle.value_domains.specs.Domains.{Domain, IsValueOf, IsBelowIn, least_of, joined_of}
use Rattle.value_domains.specs.Lawful.{IsLawful}
use Rattle.value_heights.specs.Tests.{is_valid, is_below}
use Rattle.value_heights.specs.Heights.{HasNoMore, height_of}
use Rattle.value_heights.specs.Ranked.{IsLattice, IsRanked, ranked_of}

-- the test of values holds exactly of those of the domain
abbrev pub ValuesAreTold : Type 0
ValuesAreTold = (d : Domain) → IsLawful d → (v : Value) → Decides (is_valid d v) (IsValueOf d v)

-- the test of order holds of two values exactly where the first is below the second
abbrev pub OrdersAreTold : Type 0
OrdersAreTold = (d : Domain) → IsLawful d → (a b : Value) → IsValueOf d a → IsValueOf d b → Decides (is_below d a b) (IsBelowIn d a b)

-- by these tests a domain is a lattice, on all its values
abbrev pub DomainsAreLattices : Type 0
DomainsAreLattices = (d : Domain) → IsLawful d → IsLattice (is_valid d) (least_of d) (joined_of d) (is_below d)

-- and one of finite height on those that are made of given elements
abbrev pub DomainsAreRanked : Type 0
DomainsAreRanked = (elements : Sort → List Elem) (d : Domain) → IsLawful d → IsRanked (ranked_of elements d)

-- with more elements no height is less
abbrev pub HeightsAreMonotone : Type 0
HeightsAreMonotone = (few many : Sort → List Elem) → HasNoMore few many → (d : Domain) → height_of few d ≤ height_of many d
