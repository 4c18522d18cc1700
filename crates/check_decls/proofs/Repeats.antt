-- What is met again in each name space is what is declared again.
use Rattle.std.proofs.Common.{◌≡◌, ℕ, true, List, [], ◌∷◌, ◌++◌, length, map, refl, sym, ap, ◌∙◌, inl, inr}
use Rattle.std.specs.Prelude.{◌==◌, bytes_eq}
use Rattle.std.specs.List.{flat_map}
use Rattle.std.specs.Cmp.Lexicographic.{bytes_decides}
use Rattle.std.proofs.lemmas.Bool.{and_from, and_parts, eq-eqb, eqb-true}
use Rattle.std.proofs.lemmas.List.{map-append}
use Rattle.flow_syntax.specs.declared.fault.SpecFaultKind.{SpecFaultKind}
use Rattle.flow_syntax.specs.declared.fault.SpecFaultKind.TheVariants as kinds
use Rattle.flow_syntax.specs.declared.signature.Constructor.{Constructor}
use Rattle.flow_syntax.specs.declared.spec.Named.{Named}
use Rattle.flow_syntax.specs.declared.spec.Spec.{Spec}
use Rattle.flow_syntax.specs.DeclFaults as decl
use Rattle.flow_syntax.specs.DeclFaults.{IsDeclaredAgain, IsRepeated, HaveOneName, HaveOneShape, constant_names, constructors, reading_names, type_names}
use Rattle.check_base.specs.Earliest.{Either, Gathers}
use Rattle.check_base.proofs.GathersLaws.{Found, Gathers-same, Gathers-then}
use Rattle.check_decls.specs.inner.Repeating.{AreRepeated, RepeatedFaults, is_shape}
use Rattle.check_decls.proofs.Meeting.{Shape, repeated_back, repeated_forth}

-- a name without arguments
abbrev pub plain : Named → Shape
plain n = (n, 0)

-- a constructor's name with its number of arguments
abbrev pub constructor_shape : Constructor → Shape
constructor_shape c = (c.name, length c.args)

plain_map : {A : Type 0} (f : A → Named) (xs : List A) → map (λ a. plain (f a)) xs ≡ map plain (map f xs)
plain_map f [] = refl
plain_map f (x ∷ xs) = ap (λ ss. plain (f x) ∷ ss) (plain_map f xs)

plain_flat : {A : Type 0} (f : A → List Named) (xs : List A) → flat_map (λ a. map plain (f a)) xs ≡ map plain (flat_map f xs)
plain_flat f [] = refl
plain_flat f (x ∷ xs) = ap (λ ss. map plain (f x) ++ ss) (plain_flat f xs) ∙ sym (map-append plain (f x) (flat_map f xs))

-- the names of the declarations of two sections
pub shapes_of_two : {A B : Type 0} (f : A → Named) (g : B → Named) (xs : List A) (ys : List B) → map (λ a. plain (f a)) xs ++ map (λ b. plain (g b)) ys ≡ map plain (map f xs ++ map g ys)
shapes_of_two f g xs ys = ap (λ ss. ss ++ map (λ b. plain (g b)) ys) (plain_map f xs) ∙ ap (λ ss. map plain (map f xs) ++ ss) (plain_map g ys) ∙ sym (map-append plain (map f xs) (map g ys))

-- the names that the declarations of two sections list
pub shapes_of_all : {A B : Type 0} (f : A → List Named) (g : B → List Named) (xs : List A) (ys : List B)
    → flat_map (λ a. map plain (f a)) xs ++ flat_map (λ b. map plain (g b)) ys ≡ map plain (flat_map f xs ++ flat_map g ys)
shapes_of_all f g xs ys =
    ap (λ ss. ss ++ flat_map (λ b. map plain (g b)) ys) (plain_flat f xs) ∙ ap (λ ss. map plain (flat_map f xs) ++ ss) (plain_flat g ys) ∙ sym (map-append plain (flat_map f xs) (flat_map g ys))

-- LIKE NAMES AND LIKE SHAPES

name_told : (a b : Named) → HaveOneName a b → is_shape b.text 0 (plain a) ≡ true
name_told a b like = and_from (bytes_eq b.text a.text) true ((bytes_decides b.text a.text).1 (sym like)) refl

name_tells : (a b : Named) → is_shape b.text 0 (plain a) ≡ true → HaveOneName a b
name_tells a b h = sym ((bytes_decides b.text a.text).0 (and_parts (bytes_eq b.text a.text) true h).0)

shape_told : (a b : Constructor) → HaveOneShape a b → is_shape b.name.text (length b.args) (constructor_shape a) ≡ true
shape_told a b like =
    and_from (bytes_eq b.name.text a.name.text) (length b.args == length a.args) ((bytes_decides b.name.text a.name.text).1 (sym like.0)) (eq-eqb (length b.args) (length a.args) (sym like.1))

shape_tells : (a b : Constructor) → is_shape b.name.text (length b.args) (constructor_shape a) ≡ true → HaveOneShape a b
shape_tells a b h =
    let parts = and_parts (bytes_eq b.name.text a.name.text) (length b.args == length a.args) h in
    (sym ((bytes_decides b.name.text a.name.text).0 parts.0), sym (eqb-true (length b.args) (length a.args) parts.1))

-- ALL NAME SPACES

module _ (spec : Spec) where
  abbrev Spaces : ℕ → SpecFaultKind → Type 0
  Spaces = Either (Either (Either (AreRepeated (map plain (type_names spec))) (AreRepeated (map plain (reading_names spec)))) (AreRepeated (map plain (constant_names spec)))) (AreRepeated (map constructor_shape (constructors spec)))

  module _ (place : ℕ) (kind : SpecFaultKind) where
    -- a name of this list, where a second one of a name is a name that is declared again
    of_names : (names : List Named) → ((n : Named) → IsRepeated HaveOneName names n → IsDeclaredAgain spec n) → AreRepeated (map plain names) place kind → RepeatedFaults spec place kind
    of_names names again h =
        let n = repeated_forth plain HaveOneName names name_told name_tells place kind h in
        record { name = n.0; again = again n.0 n.1; at = n.2; of = n.3 }

    forth : Spaces place kind → RepeatedFaults spec place kind
    forth (inl (inl (inl h))) = of_names (type_names spec) decl.type h
    forth (inl (inl (inr h))) = of_names (reading_names spec) decl.reading h
    forth (inl (inr h)) = of_names (constant_names spec) decl.constant h
    forth (inr h) =
        let c = repeated_forth constructor_shape HaveOneShape (constructors spec) shape_told shape_tells place kind h in
        record { name = c.0.name; again = decl.constructor c.0 c.1; at = c.2; of = c.3 }

    back : (n : Named) → IsDeclaredAgain spec n → place ≡ n.place → kind ≡ kinds.Duplicate → Spaces place kind
    back n (decl.type m r) at of = inl (inl (inl (repeated_back plain HaveOneName (type_names spec) name_told name_tells place kind n r at of)))
    back n (decl.reading m r) at of = inl (inl (inr (repeated_back plain HaveOneName (reading_names spec) name_told name_tells place kind n r at of)))
    back n (decl.constant m r) at of = inl (inr (repeated_back plain HaveOneName (constant_names spec) name_told name_tells place kind n r at of))
    back n (decl.constructor c r) at of = inr (repeated_back constructor_shape HaveOneShape (constructors spec) shape_told shape_tells place kind c r at of)

  -- what is declared again in any name space
  pub all_repeated : {old a b c new : Found} → Gathers old a (AreRepeated (map plain (type_names spec))) → Gathers a b (AreRepeated (map plain (reading_names spec))) → Gathers b c (AreRepeated (map plain (constant_names spec)))
      → Gathers c new (AreRepeated (map constructor_shape (constructors spec))) → Gathers old new (RepeatedFaults spec)
  all_repeated types readings constants shapes =
      Gathers-same (Gathers-then (Gathers-then (Gathers-then types readings) constants) shapes) (λ place kind. (forth place kind, λ r. back place kind r.name r.again r.at r.of))
