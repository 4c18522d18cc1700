-- The faults of declarations: of signatures, sorts, lattices, functions, properties, and of which properties there are rules for.
use Rattle.std.specs.Prelude.{◌≡◌, ◌≢◌, ◌⊎◌, ℕ, suc, ◌*◌, ◌<◌, Bool, true, false, ◌||◌, max, List, [], ◌∷◌, ◌++◌, length, map, Option, Some, None, Contains, find, bytes_eq, slice_get, option_and_then}
use Rattle.std.specs.List.{flat_map, list_any}
use Rattle.std.specs.Option.{option_map_or}
use Rattle.flow_syntax.specs.declared.fault.SpecFaultKind.{SpecFaultKind}
use Rattle.flow_syntax.specs.declared.fault.SpecFaultKind.TheVariants as kinds
use Rattle.flow_syntax.specs.declared.property.Direction.{Direction}
use Rattle.flow_syntax.specs.declared.property.Direction.TheVariants as directions
use Rattle.flow_syntax.specs.declared.property.PropDecl.{PropDecl}
use Rattle.flow_syntax.specs.declared.property.PropRule.{PropRule}
use Rattle.flow_syntax.specs.declared.property.Trigger.{Trigger}
use Rattle.flow_syntax.specs.declared.property.Trigger.TheVariants as trigger
use Rattle.flow_syntax.specs.declared.signature.Constructor.{Constructor}
use Rattle.flow_syntax.specs.declared.signature.Signature.{Signature}
use Rattle.flow_syntax.specs.declared.signature.TreeSort.{TreeSort, TreeSort-F, fold-TreeSort}
use Rattle.flow_syntax.specs.declared.spec.Named.{Named}
use Rattle.flow_syntax.specs.declared.spec.Spec.{Spec}
use Rattle.flow_syntax.specs.declared.tables.EnumDecl.{EnumDecl}
use Rattle.flow_syntax.specs.declared.tables.FunctionDecl.{FunctionDecl}
use Rattle.flow_syntax.specs.declared.tables.TableDecl.{TableDecl}
use Rattle.flow_syntax.specs.declared.types.ElemSort.{ElemSort, ElemSort-F, fold-ElemSort}
use Rattle.flow_syntax.specs.declared.types.LatticeType.{LatticeType, LatticeType-F, fold-LatticeType}
use Rattle.flow_syntax.specs.Inferred.{property_named, is_among}
use Rattle.flow_syntax.specs.Types.{Sort, int_sort, pair_sort, Lattice, may, must, flat, map_to, pair_of, table, lattice_of}

-- DECLARED TWICE

-- the constructors of a specification: none where it has no signature
abbrev pub constructors : Spec → List Constructor
constructors spec = option_map_or (λ signature. signature.constructors) spec.signature []

-- the names that may not be shared, each space in the order of the text: those of enums and lattices
abbrev pub type_names : Spec → List Named
type_names spec = map (λ e. e.name) spec.enums ++ map (λ l. l.name) spec.lattices

-- those of functions and properties
abbrev pub reading_names : Spec → List Named
reading_names spec = map (λ f. f.name) spec.functions ++ map (λ p. p.name) spec.properties

-- those of items and elements
abbrev pub constant_names : Spec → List Named
constant_names spec = flat_map (λ e. e.items) spec.enums ++ flat_map (λ l. l.elements) spec.lattices

abbrev pub HaveOneName : Named → Named → Type 0
HaveOneName a b = a.text ≡ b.text

-- constructors are told apart by their names and numbers of arguments
abbrev pub HaveOneShape : Constructor → Constructor → Type 0
HaveOneShape a b = (a.name.text ≡ b.name.text) × (length a.args ≡ length b.args)

-- An item of a list is like an earlier one.
pub record IsRepeated {T : Type 0} (IsLike : T → T → Type 0) (xs : List T) (b : T) : Type 0 where
  pub earlier : ℕ
  pub later : ℕ
  pub a : T
  pub before : earlier < later
  pub first : slice_get xs earlier ≡ Some a
  pub second : slice_get xs later ≡ Some b
  pub like : IsLike a b

-- A name is declared a second time.
pub data IsDeclaredAgain (spec : Spec) : Named → Type 0 where
  type : (n : Named) → IsRepeated HaveOneName (type_names spec) n → IsDeclaredAgain spec n
  reading : (n : Named) → IsRepeated HaveOneName (reading_names spec) n → IsDeclaredAgain spec n
  constant : (n : Named) → IsRepeated HaveOneName (constant_names spec) n → IsDeclaredAgain spec n
  constructor : (c : Constructor) → IsRepeated HaveOneShape (constructors spec) c → IsDeclaredAgain spec c.name

-- NAMES THAT AREN'T DECLARED

-- whether a name is a sort of a signature: its start, or the result of a constructor
abbrev pub is_tree_sort : Signature → List ℕ → Bool
is_tree_sort signature x = bytes_eq x signature.start.text || list_any (λ c. bytes_eq x c.result.text) signature.constructors

abbrev pub enum_named : Spec → List ℕ → Option EnumDecl
enum_named spec x = find (λ e. bytes_eq x e.name.text) spec.enums

abbrev pub lattice_named : Spec → List ℕ → Option TableDecl
lattice_named spec x = find (λ l. bytes_eq x l.name.text) spec.lattices

-- the names of sorts in a tree sort
abbrev pub sort_names_layer : TreeSort-F (List Named) → List Named
sort_names_layer (TreeSort-F.Sort n) = n ∷ []
sort_names_layer (TreeSort-F.Items names) = names
sort_names_layer (TreeSort-F.Tuple parts) = flat_map (λ names. names) parts
sort_names_layer layer = []

abbrev pub sort_names : TreeSort → List Named
sort_names = fold-TreeSort (List Named) sort_names_layer

-- the names of enums in an element sort
abbrev pub enum_names_layer : ElemSort-F (List Named) → List Named
enum_names_layer (ElemSort-F.Enum n) = n ∷ []
enum_names_layer (ElemSort-F.Pair a b) = a ++ b
enum_names_layer layer = []

abbrev pub enum_names : ElemSort → List Named
enum_names = fold-ElemSort (List Named) enum_names_layer

-- the names of enums in a lattice type
abbrev pub type_enums_layer : LatticeType-F (List Named) → List Named
type_enums_layer (LatticeType-F.May s) = enum_names s
type_enums_layer (LatticeType-F.Must s) = enum_names s
type_enums_layer (LatticeType-F.Flat s) = enum_names s
type_enums_layer (LatticeType-F.Map s names) = enum_names s ++ names
type_enums_layer (LatticeType-F.Pair a b) = a ++ b
type_enums_layer (LatticeType-F.Table n) = []

abbrev pub type_enums : LatticeType → List Named
type_enums = fold-LatticeType (List Named) type_enums_layer

-- the names of lattices in a lattice type
abbrev pub type_lattices_layer : LatticeType-F (List Named) → List Named
type_lattices_layer (LatticeType-F.Map s names) = names
type_lattices_layer (LatticeType-F.Pair a b) = a ++ b
type_lattices_layer (LatticeType-F.Table n) = n ∷ []
type_lattices_layer layer = []

abbrev pub type_lattices : LatticeType → List Named
type_lattices = fold-LatticeType (List Named) type_lattices_layer

abbrev pub IsNoEnum : Spec → Named → Type 0
IsNoEnum spec n = enum_named spec n.text ≡ None

abbrev pub IsNoLattice : Spec → Named → Type 0
IsNoLattice spec n = lattice_named spec n.text ≡ None

abbrev pub IsNoElement : TableDecl → Named → Type 0
IsNoElement l n = is_among n.text l.elements ≡ false

-- A name stands for nothing that is declared:
pub data IsUnknown (spec : Spec) : Named → Type 0 where
  -- a sort of an argument of a constructor
  tree_sort : (signature : Signature) (c : Constructor) (s : TreeSort) (n : Named) → spec.signature ≡ Some signature → Contains signature.constructors c → Contains c.args s
      → Contains (sort_names s) n → is_tree_sort signature n.text ≡ false → IsUnknown spec n
  -- an enum or a lattice in the type of a property
  enum_of_type : (p : PropDecl) (n : Named) → Contains spec.properties p → Contains (type_enums p.lattice) n → IsNoEnum spec n → IsUnknown spec n
  lattice_of_type : (p : PropDecl) (n : Named) → Contains spec.properties p → Contains (type_lattices p.lattice) n → IsNoLattice spec n → IsUnknown spec n
  -- the lattice of an argument or of the result of a function
  argument : (f : FunctionDecl) (n : Named) → Contains spec.functions f → Contains f.args n → IsNoLattice spec n → IsUnknown spec n
  result : (f : FunctionDecl) → Contains spec.functions f → IsNoLattice spec f.result → IsUnknown spec f.result
  -- the bottom of a lattice, an entry of its join, an entry of a function
  bottom : (l : TableDecl) → Contains spec.lattices l → IsNoElement l l.bottom → IsUnknown spec l.bottom
  join_entry : (l : TableDecl) (n : Named) → Contains spec.lattices l → Contains l.join n → IsNoElement l n → IsUnknown spec n
  function_entry : (f : FunctionDecl) (l : TableDecl) (n : Named) → Contains spec.functions f → lattice_named spec f.result.text ≡ Some l → Contains f.table n → IsNoElement l n → IsUnknown spec n
  -- the property of a rule
  property : (rule : PropRule) → Contains spec.rules rule → property_named spec rule.property.text ≡ None → IsUnknown spec rule.property

-- TABLES

-- how many elements a lattice may have
abbrev pub element_limit : ℕ
element_limit = 24

-- A lattice has too many elements, or not an entry for each two of them.
abbrev pub IsMissized : TableDecl → Type 0
IsMissized l = (element_limit < length l.elements) ⊎ (length l.join ≢ length l.elements * length l.elements)

-- how many tuples of arguments there are, if the lattices of all are declared
abbrev pub tuple_count : Spec → List Named → Option ℕ
tuple_count spec [] = Some 1
tuple_count spec (n ∷ names) = option_and_then (λ l. option_and_then (λ count. Some (length l.elements * count)) (tuple_count spec names)) (lattice_named spec n.text)

-- A function whose arguments are all declared has not an entry for each tuple of arguments.
pub record IsIncomplete (spec : Spec) (f : FunctionDecl) : Type 0 where
  pub count : ℕ
  pub tuples : tuple_count spec f.args ≡ Some count
  pub other : length f.table ≢ count

-- TYPES

-- whether an element sort has `int` in it
abbrev pub has_int : Sort → Bool
has_int int_sort = true
has_int (pair_sort a b) = has_int a || has_int b
has_int s = false

-- whether an element sort has `int` in it, and isn't `int`
abbrev pub has_inner_int : Sort → Bool
has_inner_int int_sort = false
has_inner_int s = has_int s

-- whether a type has `int` elsewhere than as the sort of a flat type
abbrev pub has_loose_int : Lattice → Bool
has_loose_int (may s) = has_int s
has_loose_int (must s) = has_int s
has_loose_int (flat s) = has_inner_int s
has_loose_int (map_to k l) = has_int k || has_loose_int l
has_loose_int (pair_of a b) = has_loose_int a || has_loose_int b
has_loose_int (table x) = false

-- how deep an element sort is nested: each pair is a level
abbrev pub sort_depth : Sort → ℕ
sort_depth (pair_sort a b) = suc (max (sort_depth a) (sort_depth b))
sort_depth s = 0

-- how deep a type is nested: `MaySet`, `MustSet`, `Flat`, `Map` and `Pair` are a level each
abbrev pub type_depth : Lattice → ℕ
type_depth (may s) = suc (sort_depth s)
type_depth (must s) = suc (sort_depth s)
type_depth (flat s) = suc (sort_depth s)
type_depth (map_to k l) = suc (max (sort_depth k) (type_depth l))
type_depth (pair_of a b) = suc (max (type_depth a) (type_depth b))
type_depth (table x) = 0

-- how deep a type may be nested
abbrev pub type_limit : ℕ
type_limit = 8

-- DIRECTIONS

abbrev pub trigger_direction : Trigger → Direction
trigger_direction (trigger.Forward p) = directions.Forward
trigger_direction (trigger.AtStart p) = directions.Forward
trigger_direction (trigger.Backward p) = directions.Backward
trigger_direction (trigger.AtEnd p) = directions.Backward

-- the first rule of a property
abbrev pub first_rule : Spec → List ℕ → Option PropRule
first_rule spec x = find (λ rule. bytes_eq x rule.property.text) spec.rules

-- the direction of a property: that of its first rule, forward where it has none
abbrev pub direction_of : Spec → PropDecl → Direction
direction_of spec p = option_map_or (λ rule. trigger_direction rule.trigger) (first_rule spec p.name.text) directions.Forward

-- the directions of all properties
abbrev pub directions_of : Spec → List Direction
directions_of spec = map (direction_of spec) spec.properties

-- A rule has another direction than the first rule of its property.
pub record IsTurned (spec : Spec) (rule : PropRule) : Type 0 where
  pub first : PropRule
  pub is_first : first_rule spec rule.property.text ≡ Some first
  pub other : trigger_direction rule.trigger ≢ trigger_direction first.trigger

-- THE FAULTS

-- A declaration has a fault at a place:
pub data IsFaultyDeclaration (spec : Spec) (place : ℕ) : SpecFaultKind → Type 0 where
  unknown : (n : Named) → IsUnknown spec n → place ≡ n.place → IsFaultyDeclaration spec place kinds.Unknown
  duplicate : (n : Named) → IsDeclaredAgain spec n → place ≡ n.place → IsFaultyDeclaration spec place kinds.Duplicate
  lattice_arity : (l : TableDecl) → Contains spec.lattices l → IsMissized l → place ≡ l.name.place → IsFaultyDeclaration spec place kinds.Arity
  function_arity : (f : FunctionDecl) → Contains spec.functions f → IsIncomplete spec f → place ≡ f.name.place → IsFaultyDeclaration spec place kinds.Arity
  loose_int : (p : PropDecl) → Contains spec.properties p → has_loose_int (lattice_of p.lattice) ≡ true → place ≡ p.name.place → IsFaultyDeclaration spec place kinds.Sort
  mixed_direction : (rule : PropRule) → Contains spec.rules rule → IsTurned spec rule → place ≡ rule.property.place → IsFaultyDeclaration spec place kinds.MixedDirection
  deep_type : (p : PropDecl) → Contains spec.properties p → type_limit < type_depth (lattice_of p.lattice) → place ≡ p.name.place → IsFaultyDeclaration spec place kinds.Depth
