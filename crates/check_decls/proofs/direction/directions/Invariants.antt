use Rattle.std.proofs.Common.{◌≡◌, map, take}
use Rattle.flow_syntax.specs.DeclFaults.{direction_of}
use Rattle.check_decls.proofs.direction.directions.Given as goal

-- the directions of the properties before this one were found
abbrev pub invariant-loop-property : goal.invariant-loop-property
invariant-loop-property l = l.directions ≡ map (direction_of l.spec) (take l.property-index l.spec.properties)
