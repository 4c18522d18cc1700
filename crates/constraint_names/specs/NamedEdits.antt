-- An edit of a system, by name.
use Rattle.std.specs.Prelude.{◌≡◌, ◌↔◌, Bool, true, map, filter}
use Rattle.list_theory.specs.Lists.{has}
use Rattle.constraint_theory.specs.Systems.{ConstraintSystem, Equality, Fits, IsKey, IsUnknown}
use Rattle.constraint_theory.specs.Edits.{Change, ChangesLists, Movable, stays, unknown_stays}
use Rattle.constraint_names.specs.Naming.{Naming}

-- whether the name is that of an unknown in use that is in the set
abbrev pub set_by_name : {K U V L W X : Type 0} → Equality L W → ConstraintSystem K U V → Naming K U V L W X → (U → Bool) → W → Bool
set_by_name other s n set w = has other.unknown (map n.unknown (filter set s.unknowns)) w

-- the system before the edit and the one after it, the same two by name, the names before and after, and what the edit says
-- of itself in both
module _ {K U V L W X : Type 0} (same : Equality K U) (other : Equality L W) (s s' : ConstraintSystem K U V) (t t' : ConstraintSystem L W X) (n n' : Naming K U V L W X) (e : Change K U V) (f : Change L W X) where
  -- The lists change as in each edit; what stays keeps its name; the same keys and unknowns are gone and added, by name; the
  -- same values can be renamed; and of the values that fit after the edit the renamed one stands for the renamed value.
  pub record IsNamedChange : Type 0 where
    pub lists : ChangesLists same s s' e
    pub same_key : (k : K) → stays same s s' e k ≡ true → n'.key k ≡ n.key k
    pub same_unknown : (u : U) → unknown_stays same s s' e u ≡ true → n'.unknown u ≡ n.unknown u
    pub gone : (k : K) → IsKey same s k → has other.key f.gone (n.key k) ≡ has same.key e.gone k
    pub added : (k : K) → IsKey same s' k → has other.key f.added (n'.key k) ≡ has same.key e.added k
    pub gone_unknowns : (u : U) → IsUnknown same s u → has other.unknown f.gone_unknowns (n.unknown u) ≡ has same.unknown e.gone_unknowns u
    pub added_unknowns : (u : U) → IsUnknown same s' u → has other.unknown f.added_unknowns (n'.unknown u) ≡ has same.unknown e.added_unknowns u
    pub movable : (u : U) (a : V) → unknown_stays same s s' e u ≡ true → Fits s u a → f.movable (n.value u a) ≡ e.movable a
    pub shift : (u : U) (a b : V) → unknown_stays same s s' e u ≡ true → Fits s u a → Movable e a → Fits s' u b → (n'.value u b ≡ f.shift (n.value u a)) ↔ (b ≡ e.shift a)
