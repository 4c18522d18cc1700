-- Ways put together.
use Rattle.way_theory.specs.Ways.{Way, by_link, over}

module _ {P : Type 0} (Inner : P → Type 0) where
  -- a way after a way
  pub way_join : (L : P → P → Type 0) (a m b : P) → Way Inner L a m → Inner m → Way Inner L m b → Way Inner L a b
  way_join L a m _ w i (by_link b l) = over m b w i l
  way_join L a m _ w i (over c b v j l) = over c b (way_join L a m c w i v) j l

  -- a way along links of another kind
  pub way_map : (L M : P → P → Type 0) (a b : P) → ((x y : P) → L x y → M x y) → Way Inner L a b → Way Inner M a b
  way_map L M a _ f (by_link b l) = by_link b (f a b l)
  way_map L M a _ f (over c b w i l) = over c b (way_map L M a c f w) i (f c b l)

  -- ways along ways are ways
  pub way_flat : (L M : P → P → Type 0) (a b : P) → ((x y : P) → L x y → Way Inner M x y) → Way Inner L a b → Way Inner M a b
  way_flat L M a _ f (by_link b l) = f a b l
  way_flat L M a _ f (over c b w i l) = way_join M a c b (way_flat L M a c f w) i (f c b l)
