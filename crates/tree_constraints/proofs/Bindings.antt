-- A pattern that matches in a tree binds its variables to elements of the tree.
use Rattle.std.proofs.Common.{◌≡◌, ℕ, Bool, true, false, List, [], ◌∷◌, ◌++◌, Option, Some, None, refl, ap, ◌∙◌}
use Rattle.std.specs.Prelude.{⊤, IsTrue, slice_get, option_and_then}
use Rattle.std.specs.List.{AllZip}
use Rattle.std.proofs.lemmas.Option.{same_Some}
use Rattle.flow_term.specs.declared.elem.Elem.{Elem}
use Rattle.flow_term.specs.declared.term.Term.{Term}
use Rattle.flow_term.specs.declared.value.Bound.{Bound}
use Rattle.flow_term.specs.Trees.{At, children}
use Rattle.flow_syntax.specs.declared.pattern.Pattern.{Pattern}
use Rattle.flow_syntax.specs.declared.spec.Spec.{Spec}
use Rattle.flow_syntax.specs.Binders as binders
use Rattle.flow_syntax.specs.Binders.{bound_in}
use Rattle.flow_syntax.specs.Types.{Sort, enum_sort, pair_sort}
use Rattle.flow_match.specs.Bindings.{bindings_at}
use Rattle.flow_match.proofs.EachVariable.{IsOfEach, binds_these}
use Rattle.tree_constraints.specs.Elements.{elements_of, is_one_of}
use Rattle.tree_constraints.proofs.Members.{position_had, name_had, text_had}

-- the child of a position
itself : (o : Option Term) → option_and_then (λ child. At child []) o ≡ o
itself (Some t) = refl
itself None = refl

pub at_child : (tree : Term) (path : List ℕ) (t : Term) (n : ℕ) → At tree path ≡ Some t → At tree (path ++ n ∷ []) ≡ slice_get (children t) n
at_child tree [] t n e = itself (slice_get (children tree) n) ∙ ap (λ (u : Term). slice_get (children u) n) (same_Some tree t e)
at_child tree (m ∷ path) t n e = by (slice_get (children tree) m) refl e (λ c k. at_child c path t n k)
  where
    by : (o : Option Term) → slice_get (children tree) m ≡ o → option_and_then (λ child. At child path) o ≡ Some t → ((c : Term) → At c path ≡ Some t → At c (path ++ n ∷ []) ≡ slice_get (children t) n)
        → option_and_then (λ child. At child (path ++ n ∷ [])) o ≡ slice_get (children t) n
    by (Some c) is k inner = inner c k
    by None is k inner = cc

-- what each variable stands for is one of these elements, of its sort
abbrev IsBoundAmong : (Sort → List Elem) → binders.Bound → Bound → Type 0
IsBoundAmong elements v b = IsTrue (is_one_of elements v.sort b.value)

abbrev pub AreBoundAmong : (Sort → List Elem) → List binders.Bound → List Bound → Type 0
AreBoundAmong elements = AllZip (IsBoundAmong elements)

-- the sorts of a pattern's variables have no parts and no declarations
abbrev pub is_plain : Sort → Bool
is_plain (enum_sort name) = false
is_plain (pair_sort first second) = false
is_plain sort = true

abbrev HasPlainSort : binders.Bound → Bound → Type 0
HasPlainSort v b = IsTrue (is_plain v.sort)

abbrev pub AreOfPlainSorts : List binders.Bound → List Bound → Type 0
AreOfPlainSorts = AllZip HasPlainSort

each_plain : IsOfEach HasPlainSort (λ t path. ⊤)
each_plain = record { child = λ t path here n u e. tt; position = λ t path here x at. refl; name = λ t path here n e x at. refl; text = λ t path here s e x at. refl; number = λ n x at. refl }

pub binds_plain : (p : Pattern) (t : Term) (path : List ℕ) (bs : List Bound) → bindings_at p t path ≡ Some bs → AreOfPlainSorts (bound_in p) bs
binds_plain p t path = binds_these HasPlainSort (λ t path. ⊤) each_plain p t path tt

module _ (spec : Spec) (tree : Term) where
  abbrev IsElementOf : binders.Bound → Bound → Type 0
  IsElementOf = IsBoundAmong (elements_of spec tree)

  abbrev pub AreElements : List binders.Bound → List Bound → Type 0
  AreElements = AreBoundAmong (elements_of spec tree)

  each_an_element : IsOfEach IsElementOf (λ t path. At tree path ≡ Some t)
  each_an_element = record {
    child = λ t path here n u e. at_child tree path t n here ∙ e;
    position = λ t path here x at. position_had spec tree path t here;
    name = λ t path here n e x at. name_had spec tree path t here n e;
    text = λ t path here s e x at. text_had spec tree path t here s e;
    number = λ n x at. refl;
  }

  pub binds_elements : (p : Pattern) (t : Term) (path : List ℕ) → At tree path ≡ Some t → (bs : List Bound) → bindings_at p t path ≡ Some bs → AreElements (bound_in p) bs
  binds_elements p = binds_these IsElementOf (λ t path. At tree path ≡ Some t) each_an_element p
