-- What a list is, once the item that it lends is given back.
use Rattle.std.specs.Prelude.{ℕ, List, Option, slice_set}
use Rattle.std.specs.Borrow.{LendsIf, Fml, RattleType, MutBor}
use Rattle.flow_term.specs.contracts.list.List.{the_row}

-- the list ends with its item i as it is left behind r, and stays where there is none
abbrev pub LendsItem : (T : RattleType) → MutBor (List T.Denot) → ℕ → Option (MutBor T.Denot) → Fml
LendsItem T list i r = LendsIf (the_row T) T list r (slice_set list.now i) list.now
