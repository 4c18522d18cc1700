-- What a value must be to be one of a lattice, piece by piece.
use Rattle.std.specs.Prelude.{◌≡◌}
use Rattle.flow_term.specs.declared.value.Value.{Value}
use Rattle.value_domains.specs.Domains.{Domain, IsValueOf, least_of}

-- a value of the domain other than the least, which a map keeps
abbrev pub IsKeptIn : Domain → Value → Type 0
IsKeptIn own v = IsValueOf own v × (v ≡ least_of own → ⊥)
