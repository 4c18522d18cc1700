-- The names in sorts and types, by their outermost forms.
use Rattle.std.proofs.Common.{◌≡◌, List, ◌++◌, sym, ap, ◌∙◌}
use Rattle.std.specs.List.{flat_map}
use Rattle.std.proofs.lemmas.List.Folds.{flat_map-map}
use Rattle.flow_syntax.specs.declared.signature.TreeSort.{TreeSort, TreeSort-F, out-TreeSort, map-TreeSort, fold_out-TreeSort}
use Rattle.flow_syntax.specs.declared.signature.TreeSort.TheVariants as tree
use Rattle.flow_syntax.specs.declared.spec.Named.{Named}
use Rattle.flow_syntax.specs.declared.types.ElemSort.{ElemSort, ElemSort-F, out-ElemSort, map-ElemSort, fold_out-ElemSort}
use Rattle.flow_syntax.specs.declared.types.ElemSort.TheVariants as elem
use Rattle.flow_syntax.specs.declared.types.LatticeType.{LatticeType, LatticeType-F, out-LatticeType, map-LatticeType, fold_out-LatticeType}
use Rattle.flow_syntax.specs.declared.types.LatticeType.TheVariants as lattice
use Rattle.flow_syntax.specs.DeclFaults.{sort_names, sort_names_layer, enum_names, enum_names_layer, type_enums, type_enums_layer, type_lattices, type_lattices_layer}

sort_names_of : (s : TreeSort) (x : TreeSort-F TreeSort) → out-TreeSort s ≡ x → sort_names s ≡ sort_names_layer (map-TreeSort TreeSort (List Named) sort_names x)
sort_names_of s x e = fold_out-TreeSort (List Named) sort_names_layer s ∙ ap (λ (y : TreeSort-F TreeSort). sort_names_layer (map-TreeSort TreeSort (List Named) sort_names y)) e

pub names_of_items : (s inner : TreeSort) → s ≡ tree.Items inner → sort_names inner ≡ sort_names s
names_of_items s inner e = sym (sort_names_of s (TreeSort-F.Items inner) (ap out-TreeSort e ∙ tree.outs-Items inner))

pub names_of_tuple : (s : TreeSort) (parts : List TreeSort) → s ≡ tree.Tuple parts → flat_map sort_names parts ≡ sort_names s
names_of_tuple s parts e = sym (flat_map-map (λ (names : List Named). names) sort_names parts) ∙ sym (sort_names_of s (TreeSort-F.Tuple parts) (ap out-TreeSort e ∙ tree.outs-Tuple parts))

enum_names_of : (s : ElemSort) (x : ElemSort-F ElemSort) → out-ElemSort s ≡ x → enum_names s ≡ enum_names_layer (map-ElemSort ElemSort (List Named) enum_names x)
enum_names_of s x e = fold_out-ElemSort (List Named) enum_names_layer s ∙ ap (λ (y : ElemSort-F ElemSort). enum_names_layer (map-ElemSort ElemSort (List Named) enum_names y)) e

pub enums_of_pair : (s a b : ElemSort) → s ≡ elem.Pair a b → enum_names a ++ enum_names b ≡ enum_names s
enums_of_pair s a b e = sym (enum_names_of s (ElemSort-F.Pair a b) (ap out-ElemSort e ∙ elem.outs-Pair a b))

type_enums_of : (l : LatticeType) (x : LatticeType-F LatticeType) → out-LatticeType l ≡ x → type_enums l ≡ type_enums_layer (map-LatticeType LatticeType (List Named) type_enums x)
type_enums_of l x e = fold_out-LatticeType (List Named) type_enums_layer l ∙ ap (λ (y : LatticeType-F LatticeType). type_enums_layer (map-LatticeType LatticeType (List Named) type_enums y)) e

module _ (l : LatticeType) where
  pub enums_of_may : (s : ElemSort) → l ≡ lattice.May s → enum_names s ≡ type_enums l
  enums_of_may s e = sym (type_enums_of l (LatticeType-F.May s) (ap out-LatticeType e ∙ lattice.outs-May s))

  pub enums_of_must : (s : ElemSort) → l ≡ lattice.Must s → enum_names s ≡ type_enums l
  enums_of_must s e = sym (type_enums_of l (LatticeType-F.Must s) (ap out-LatticeType e ∙ lattice.outs-Must s))

  pub enums_of_flat : (s : ElemSort) → l ≡ lattice.Flat s → enum_names s ≡ type_enums l
  enums_of_flat s e = sym (type_enums_of l (LatticeType-F.Flat s) (ap out-LatticeType e ∙ lattice.outs-Flat s))

  pub enums_of_map : (s : ElemSort) (v : LatticeType) → l ≡ lattice.Map s v → enum_names s ++ type_enums v ≡ type_enums l
  enums_of_map s v e = sym (type_enums_of l (LatticeType-F.Map s v) (ap out-LatticeType e ∙ lattice.outs-Map s v))

  pub enums_of_both : (a b : LatticeType) → l ≡ lattice.Pair a b → type_enums a ++ type_enums b ≡ type_enums l
  enums_of_both a b e = sym (type_enums_of l (LatticeType-F.Pair a b) (ap out-LatticeType e ∙ lattice.outs-Pair a b))

  type_lattices_of : (x : LatticeType-F LatticeType) → out-LatticeType l ≡ x → type_lattices l ≡ type_lattices_layer (map-LatticeType LatticeType (List Named) type_lattices x)
  type_lattices_of x e =
      fold_out-LatticeType (List Named) type_lattices_layer l ∙ ap (λ (y : LatticeType-F LatticeType). type_lattices_layer (map-LatticeType LatticeType (List Named) type_lattices y)) e

  pub lattices_of_map : (s : ElemSort) (v : LatticeType) → l ≡ lattice.Map s v → type_lattices v ≡ type_lattices l
  lattices_of_map s v e = sym (type_lattices_of (LatticeType-F.Map s v) (ap out-LatticeType e ∙ lattice.outs-Map s v))

  pub lattices_of_both : (a b : LatticeType) → l ≡ lattice.Pair a b → type_lattices a ++ type_lattices b ≡ type_lattices l
  lattices_of_both a b e = sym (type_lattices_of (LatticeType-F.Pair a b) (ap out-LatticeType e ∙ lattice.outs-Pair a b))
