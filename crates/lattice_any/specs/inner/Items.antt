-- Elements of declared lattices.
use Rattle.std.specs.Prelude.{⊤}
use Rattle.flow_term.specs.declared.value.Value.{Value-F}
use Rattle.value_domains.specs.Values.{ValueLayer}

-- a value is an element of some declared lattice
abbrev pub IsSomeItem : ValueLayer → Type 0
IsSomeItem (Value-F.Item x) = ⊤
IsSomeItem _ = ⊥
