-- What a walk over a pattern has added to the variables that it found before.
use Rattle.std.specs.Prelude.{Bool, true, false, List, ◌++◌, Option, Some, None}
use Rattle.flow_term.specs.declared.value.Bound.{Bound}

-- the new ones behind the old ones; none where the pattern doesn't match
abbrev pub onto : List Bound → Option (List Bound) → Option (List Bound)
onto old (Some bs) = Some (old ++ bs)
onto old None = None

-- what there is after a walk that says whether the pattern matches
abbrev pub told : Bool → List Bound → Option (List Bound)
told true new = Some new
told false new = None
