use Rattle.std.proofs.Common.{◌∙◌, sym}
use Rattle.lattice_any.proofs.FlatJoins.{flat_apart, flat_top, flat≢bottom}
use Rattle.lattice_any.proofs.parts.join_flat.Goals as goal
use Rattle.lattice_any.proofs.parts.join_flat.Goals.{in_default-via-in-Flat-Flat+else-is_same, in_default-via-in-Flat+in_default, in_default-via-in_default+in_default}

pub returns-in_default : goal.returns-in_default
returns-in_default c = elim c.in_default.branch [
  | in_default-via-in-Flat-Flat+else-is_same w ↦ flat_apart _ _ _ _ w.in-Flat-Flat.is-0 w.in-Flat-Flat.is-1 (sym w.is_same.ensures ∙ w.if-is_same.false)
  | in_default-via-in-Flat+in_default w ↦ flat_top _ _ (flat≢bottom _ _ w.in_default.is-0) w.in_default.not-Bottom-1 (λ u v e f. w.in_default.not-Flat-1 v f)
  | in_default-via-in_default+in_default w ↦ flat_top _ _ w.in_default.not-Bottom-0 w.in_default.not-Bottom-1 (λ u v e f. w.in_default.not-Flat-0 u e)
]
