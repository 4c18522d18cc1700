-- The lattices inside a lattice are less deep.
use Rattle.std.proofs.Common.{◌≡◌, ℕ, ◌+◌, ◌*◌, ◌<◌, ap, arith}
use Rattle.flow_syntax.specs.declared.types.ElemSort.{ElemSort}
use Rattle.lattice_any.specs.declared.any.AnyL.{AnyL, size-AnyL, the_lemmas}
use Rattle.lattice_any.specs.declared.any.AnyL.TheVariants as any

pub map_deeper : (sort : ElemSort) (values : AnyL) → size-AnyL values < size-AnyL (any.Map sort values)
map_deeper sort values = grind (arith, the_lemmas)

pub left_deeper : (left right : AnyL) → size-AnyL left < size-AnyL (any.Pair left right)
left_deeper left right = grind (arith, the_lemmas)

pub right_deeper : (left right : AnyL) → size-AnyL right < size-AnyL (any.Pair left right)
right_deeper left right = grind (arith, the_lemmas)

pub map_falls : (l : AnyL) (sort : ElemSort) (values : AnyL) (t : ℕ) → l ≡ any.Map sort values → 3 * size-AnyL l ≡ t → 3 * size-AnyL values + 2 < t
map_falls l sort values t e is = omega (arith, is, ap size-AnyL e, map_deeper sort values)

pub left_falls : (l left right : AnyL) (t : ℕ) → l ≡ any.Pair left right → 3 * size-AnyL l ≡ t → 3 * size-AnyL left < t
left_falls l left right t e is = omega (arith, is, ap size-AnyL e, left_deeper left right)

pub right_falls : (l left right : AnyL) (t : ℕ) → l ≡ any.Pair left right → 3 * size-AnyL l ≡ t → 3 * size-AnyL right < t
right_falls l left right t e is = omega (arith, is, ap size-AnyL e, right_deeper left right)
