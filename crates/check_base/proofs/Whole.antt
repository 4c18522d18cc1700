-- The names of a specification, from those of its parts.
use Rattle.std.proofs.Common.{◌≡◌, ℕ, List, map, Option, None, Some, refl, sym, ap, ◌∙◌}
use Rattle.std.proofs.lemmas.Option.{slice_get-map}
use Rattle.std.specs.Prelude.{slice_get, option_and_then}
use Rattle.std.specs.Option.{option_map}
use Rattle.flow_syntax.specs.declared.spec.Spec.{Spec}
use Rattle.check_base.specs.declared.names.ConstructorNames.{ConstructorNames}
use Rattle.check_base.specs.declared.names.MemberNames.{MemberNames}
use Rattle.check_base.specs.declared.names.SectionNames.{SectionNames}
use Rattle.check_base.specs.Names.{element_named}
use Rattle.check_base.specs.Tables.{AreConstructorNames, AreMemberNames, AreNames, AreSectionNames, value_in}

-- what is looked up in an item of a list goes by the list of what is looked up
looked_up : {A C : Type 0} (f : A → Option C) (xs : List A) (n : ℕ) → option_and_then f (slice_get xs n) ≡ option_and_then (λ (o : Option C). o) (slice_get (map f xs) n)
looked_up f xs n = by (slice_get xs n) ∙ ap (option_and_then (λ o. o)) (sym (slice_get-map f xs n))
  where
    by : (o : Option _) → option_and_then f o ≡ option_and_then (λ p. p) (option_map f o)
    by None = refl
    by (Some a) = refl

pub whole_names : (spec : Spec) (sections : SectionNames) (members : MemberNames) (constructors : ConstructorNames) → AreSectionNames spec sections → AreMemberNames spec members → AreConstructorNames spec constructors
    → AreNames spec record { sections = sections; members = members; constructors = constructors }
whole_names spec sections members constructors s m c = record {
  enums = s.enums;
  lattices = s.lattices;
  functions = s.functions;
  properties = s.properties;
  rules = s.rules;
  items = m.items;
  elements = m.elements;
  elements_of = λ n x.
      looked_up (λ table. value_in table x) members.elements_of.items n ∙ ap (λ os. option_and_then (λ o. o) (slice_get os n)) (m.elements_of x) ∙ sym (looked_up (λ lattice. element_named lattice x) spec.lattices n);
  constructors = c.shapes;
  constructor_names = c.called;
  sorts = c.sorts;
}
