-- What the meaning of an expression ranges over.
use Rattle.std.specs.Prelude.{List}
use Rattle.flow_syntax.specs.declared.tables.TableDecl.{TableDecl}
use Rattle.flow_syntax.specs.Types.{Sort, name_sort, Typing}
use Rattle.flow_syntax.specs.Types as typed
use Rattle.value_domains.specs.Domains.{Domain, flat, domain_of}

-- the values of a domain, the elements of a sort, or the truths
pub data Range : Type 0 where
  values : Domain → Range
  elements : Sort → Range
  truths : Range

-- the range of a type among these declared lattices
abbrev pub range_of : List TableDecl → Typing → Range
range_of declared (typed.lattice l) = values (domain_of declared l)
range_of declared (typed.element s) = elements s
range_of declared typed.truth = truths

-- the domain of a range of values; of another range it doesn't matter
abbrev pub domain_in : Range → Domain
domain_in (values d) = d
domain_in _ = flat name_sort
