-- The domain of an expression from its own type.
use Rattle.std.proofs.Common.{◌≡◌, List, Option, Some, slice_get, refl, sym, ap, ◌∙◌}
use Rattle.flow_syntax.specs.declared.spec.Spec.{Spec}
use Rattle.flow_syntax.specs.declared.types.ElemSort.{ElemSort}
use Rattle.flow_syntax.specs.declared.types.ExprType.{ExprType}
use Rattle.flow_syntax.specs.declared.types.ExprType.TheVariants as types
use Rattle.flow_syntax.specs.declared.types.LatticeType.{LatticeType, LatticeType-F, out-LatticeType, roll-LatticeType, map-LatticeType, fold_out-LatticeType, roll-out-LatticeType}
use Rattle.flow_syntax.specs.declared.types.LatticeType.TheVariants as lattices
use Rattle.flow_syntax.specs.Types.{Sort, Lattice, lattice_of, lattice_layer, sort_of, typing_of}
use Rattle.value_domains.specs.Domains.{Domain, map_to}
use Rattle.lattice_any.specs.declared.tables.DeclaredTable.{DeclaredTable}
use Rattle.lattice_any.specs.Tables.{declarations_in, domain_among, domain_in}
use Rattle.lattice_any.proofs.NamedTables.{have_domains}
use Rattle.expr_meaning.specs.Ranges.{Range, range_of, values, domain_in as domain_of_range}
use Rattle.code_laws.specs.inner.Compiled.{Setting, HasDomain, HasValues}
use Rattle.code_laws.proofs.RangeFacts.{values≢elements, values≢truths}
use Rattle.code_laws.proofs.Walks.{IsBeside}

abbrev within : Domain → Domain
within (map_to k d) = d
within other = other

module _ {spec : Spec} {tables : List DeclaredTable} (s : Setting spec tables) where
  -- a value's own type is a lattice, of its domain
  pub own_lattice : (own : Range) (ts : List ExprType) (o : Option ExprType) (d : Domain) → IsBeside spec.lattices own ts → o ≡ slice_get ts 0 → own ≡ values d → (l : LatticeType) × (o ≡ Some (types.Lattice l)) × (domain_in tables l ≡ d)
  own_lattice own ts o d (t, first, is) there has = by t (there ∙ first) is
    where
      by : (t : ExprType) → o ≡ Some t → own ≡ range_of spec.lattices (typing_of t) → (l : LatticeType) × (o ≡ Some (types.Lattice l)) × (domain_in tables l ≡ d)
      by (types.Lattice l) there is = (l, there, have_domains spec.lattices tables s.declared l ∙ ap domain_of_range (sym is ∙ has))
      by (types.Elem x) there is = absurd (values≢elements d (sort_of x) (sym has ∙ is))
      by types.Truth there is = absurd (values≢truths d (sym has ∙ is))

  -- so what has the domain of this type has its domain
  pub own_domain : (own : Range) (ts : List ExprType) (o : Option ExprType) (d given : Domain) → IsBeside spec.lattices own ts → o ≡ slice_get ts 0 → own ≡ values d → HasDomain tables o given → given ≡ d
  own_domain own ts o d given beside there has is =
      let found = own_lattice own ts o d beside there has in
      is found.0 found.1 ∙ found.2

  map_type : (l : LatticeType) (x : LatticeType-F LatticeType) (k : Sort) (d : Domain) → out-LatticeType l ≡ x → domain_in tables l ≡ map_to k d → (j : ElemSort) × (m : LatticeType) × (l ≡ lattices.Map j m) × (domain_in tables m ≡ d)
  map_type l x k d is has = by x is (ap (domain_among (declarations_in tables)) (sym (fold_out-LatticeType Lattice lattice_layer l ∙ ap (λ (y : LatticeType-F LatticeType). lattice_layer (map-LatticeType LatticeType Lattice lattice_of y)) is)) ∙ has)
    where
      by : (x : LatticeType-F LatticeType) → out-LatticeType l ≡ x → domain_among (declarations_in tables) (lattice_layer (map-LatticeType LatticeType Lattice lattice_of x)) ≡ map_to k d
          → (j : ElemSort) × (m : LatticeType) × (l ≡ lattices.Map j m) × (domain_in tables m ≡ d)
      by (LatticeType-F.Map j m) is has = (j, m, sym (roll-out-LatticeType l) ∙ ap roll-LatticeType is ∙ lattices.rolls-Map j m, ap within has)
      by (LatticeType-F.May j) is has = absurd cc
      by (LatticeType-F.Must j) is has = absurd cc
      by (LatticeType-F.Flat j) is has = absurd cc
      by (LatticeType-F.Pair a b) is has = absurd cc
      by (LatticeType-F.Table n) is has = absurd cc

  -- the domain of the values of a map, from its type
  pub own_values : (own : Range) (ts : List ExprType) (o : Option ExprType) (k : Sort) (d given : Domain) → IsBeside spec.lattices own ts → o ≡ slice_get ts 0 → own ≡ values (map_to k d) → HasValues tables o given → given ≡ d
  own_values own ts o k d given beside there has is =
      let found = own_lattice own ts o (map_to k d) beside there has in
      let map = map_type found.0 (out-LatticeType found.0) k d refl found.2 in
      is map.0 map.1 (found.1 ∙ ap (λ l. Some (types.Lattice l)) map.2) ∙ map.3
