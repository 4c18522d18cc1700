-- The flat lattice of elements.
use Rattle.std.specs.Prelude.{◌≡◌, Bool, cond, ⊤}
use Rattle.lattice_sets.specs.declared.flat.FlatV.{FlatV}
use Rattle.lattice_sets.specs.declared.flat.FlatV.TheVariants.{Bottom, Flat, Top}

-- equal elements stay, and different ones have no join but the greatest value; eq tells which are equal
abbrev pub flat_join : {E : Type 0} → (E → E → Bool) → FlatV E → FlatV E → FlatV E
flat_join eq Bottom b = b
flat_join eq (Flat x) Bottom = Flat x
flat_join eq (Flat x) (Flat y) = cond (eq x y) (Flat x) Top
flat_join eq (Flat x) Top = Top
flat_join eq Top b = Top

-- bottom is below all, all are below top, and an element is below itself alone
abbrev pub IsBelowFlat : {E : Type 0} → FlatV E → FlatV E → Type 0
IsBelowFlat Bottom b = ⊤
IsBelowFlat (Flat x) Bottom = ⊥
IsBelowFlat (Flat x) (Flat y) = x ≡ y
IsBelowFlat (Flat x) Top = ⊤
IsBelowFlat Top Bottom = ⊥
IsBelowFlat Top (Flat y) = ⊥
IsBelowFlat Top Top = ⊤
