-- What a look-up finds, and the number at which it finds it.
use Rattle.std.proofs.Common.{◌≡◌, ℕ, suc, ◌+◌, Bool, true, false, cond, List, [], ◌∷◌, Option, None, Some, is_some, refl, sym, ap, ◌∙◌, arith}
use Rattle.std.specs.Prelude.{find, slice_get, option_and_then}
use Rattle.std.specs.List.{position_from}
use Rattle.std.specs.Option.{option_map, option_map_or}
use Rattle.flow_syntax.specs.declared.signature.Signature.{Signature}
use Rattle.flow_syntax.specs.declared.spec.Spec.{Spec}
use Rattle.flow_syntax.specs.declared.tables.TableDecl.{TableDecl}
use Rattle.flow_syntax.specs.DeclFaults as decl
use Rattle.flow_syntax.specs.Inferred as told
use Rattle.flow_syntax.specs.Inferred.{is_among}
use Rattle.check_base.specs.declared.names.Names.{Names}
use Rattle.check_base.specs.Names.{is_called}
use Rattle.check_base.specs.Tables.{AreNames, enum_in, lattice_in, function_in, property_in, first_rule_in, enum_of_item_in, lattice_of_element_in, element_in, is_sort_in}
use Rattle.check_base.proofs.TableLemmas.{is_some-position_from}

-- the numbers of a list that starts at another number
position_from-next : {T : Type 0} (t : T → Bool) (n : ℕ) (xs : List T) → position_from t (n + 1) xs ≡ option_map (λ k. k + 1) (position_from t n xs)
position_from-next t n [] = refl
position_from-next t n (x ∷ xs) = by (position_from-next t (n + 1) xs) (t x)
  where
    by : position_from t (n + 1 + 1) xs ≡ option_map (λ k. k + 1) (position_from t (n + 1) xs) → (b : Bool)
        → cond b (Some (n + 1)) (position_from t (n + 1 + 1) xs) ≡ option_map (λ k. k + 1) (cond b (Some n) (position_from t (n + 1) xs))
    by rest true = refl
    by rest false = rest

-- what is found is the item with the number
pub find-position_from : {T : Type 0} (t : T → Bool) (xs : List T) → find t xs ≡ option_and_then (slice_get xs) (position_from t 0 xs)
find-position_from t [] = refl
find-position_from t (x ∷ xs) = by (find-position_from t xs) (t x)
  where
    one_more : (k : ℕ) → suc k ≡ k + 1
    one_more k = omega arith

    behind : (o : Option ℕ) → option_and_then (slice_get xs) o ≡ option_and_then (slice_get (x ∷ xs)) (option_map (λ k. k + 1) o)
    behind None = refl
    behind (Some k) = ap (slice_get (x ∷ xs)) (one_more k)

    by : find t xs ≡ option_and_then (slice_get xs) (position_from t 0 xs) → (b : Bool)
        → cond b (Some x) (find t xs) ≡ option_and_then (slice_get (x ∷ xs)) (cond b (Some 0) (position_from t 1 xs))
    by rest true = refl
    by rest false = rest ∙ behind (position_from t 0 xs) ∙ sym (ap (option_and_then (slice_get (x ∷ xs))) (position_from-next t 0 xs))

-- there is one exactly where there is a number
pub is_some-find : {T : Type 0} (t : T → Bool) (n : ℕ) (xs : List T) → is_some (find t xs) ≡ is_some (position_from t n xs)
is_some-find t n [] = refl
is_some-find t n (x ∷ xs) = by (is_some-find t (n + 1) xs) (t x)
  where
    by : is_some (find t xs) ≡ is_some (position_from t (n + 1) xs) → (b : Bool) → is_some (cond b (Some x) (find t xs)) ≡ is_some (cond b (Some n) (position_from t (n + 1) xs))
    by rest true = refl
    by rest false = rest

module _ {T : Type 0} (t : T → Bool) (xs : List T) (number : Option ℕ) (is : number ≡ position_from t 0 xs) where
  -- what is found, by the number of a look-up
  pub found_at : find t xs ≡ option_and_then (slice_get xs) number
  found_at = find-position_from t xs ∙ ap (option_and_then (slice_get xs)) (sym is)

  -- whether something is found, by the number of a look-up
  pub is_found : is_some (find t xs) ≡ is_some number
  is_found = is_some-find t 0 xs ∙ ap is_some (sym is)

module _ (spec : Spec) (names : Names) (are : AreNames spec names) (x : List ℕ) where
  pub is_some-enum : is_some (decl.enum_named spec x) ≡ is_some (enum_in names x)
  is_some-enum = is_found (λ d. is_called x d.name) spec.enums (enum_in names x) (are.enums x)

  pub found_lattice : decl.lattice_named spec x ≡ option_and_then (slice_get spec.lattices) (lattice_in names x)
  found_lattice = found_at (λ d. is_called x d.name) spec.lattices (lattice_in names x) (are.lattices x)

  pub is_some-lattice : is_some (decl.lattice_named spec x) ≡ is_some (lattice_in names x)
  is_some-lattice = is_found (λ d. is_called x d.name) spec.lattices (lattice_in names x) (are.lattices x)

  pub found_function : told.function_named spec x ≡ option_and_then (slice_get spec.functions) (function_in names x)
  found_function = found_at (λ d. is_called x d.name) spec.functions (function_in names x) (are.functions x)

  pub found_property : told.property_named spec x ≡ option_and_then (slice_get spec.properties) (property_in names x)
  found_property = found_at (λ d. is_called x d.name) spec.properties (property_in names x) (are.properties x)

  pub is_some-property : is_some (told.property_named spec x) ≡ is_some (property_in names x)
  is_some-property = is_found (λ d. is_called x d.name) spec.properties (property_in names x) (are.properties x)

  pub found_first_rule : decl.first_rule spec x ≡ option_and_then (slice_get spec.rules) (first_rule_in names x)
  found_first_rule = found_at (λ r. is_called x r.property) spec.rules (first_rule_in names x) (are.rules x)

  pub found_item : told.enum_with spec x ≡ option_and_then (slice_get spec.enums) (enum_of_item_in names x)
  found_item = found_at (λ d. is_among x d.items) spec.enums (enum_of_item_in names x) (are.items x)

  pub found_element : told.lattice_with spec x ≡ option_and_then (slice_get spec.lattices) (lattice_of_element_in names x)
  found_element = found_at (λ d. is_among x d.elements) spec.lattices (lattice_of_element_in names x) (are.elements x)

  -- whether a name is an element of the lattice with this number
  pub is_some-element_of : (n : ℕ) (l : TableDecl) → slice_get spec.lattices n ≡ Some l → is_some (element_in names n x) ≡ is_among x l.elements
  is_some-element_of n l at = ap is_some (are.elements_of n x ∙ ap (option_and_then (λ (m : TableDecl). position_from (is_called x) 0 m.elements)) at) ∙ is_some-position_from (is_called x) 0 l.elements

  -- the sorts of the signature
  pub is_sort-signature : (signature : Signature) → spec.signature ≡ Some signature → is_sort_in names x ≡ decl.is_tree_sort signature x
  is_sort-signature signature is = are.sorts x ∙ ap (λ (o : Option Signature). option_map_or (λ s. decl.is_tree_sort s x) o false) is
