-- The properties of a specification, made ready.
use Rattle.std.specs.Prelude.{◌≡◌, ◌<◌, ℕ, List, Some, get_or, length, map, slice_get}
use Rattle.flow_syntax.specs.declared.property.PropDecl.{PropDecl}
use Rattle.flow_syntax.specs.declared.spec.Spec.{Spec}
use Rattle.expr_meaning.specs.Meaning.{property_number}
use Rattle.tree_listing.specs.Given.{AreProperties}
use Rattle.tree_listing.specs.declared.property.Property.{Property}
use Rattle.tree_build.specs.Ends.{property_at}
use Rattle.tree_build.specs.declared.properties.Properties.{Properties}

-- The property with this name stands at this place.
pub record IsPlaceOf (properties : List Property) (place : ℕ) (name : List ℕ) : Type 0 where
  pub within : place < length properties
  pub named : (property_at properties place).name ≡ name

-- These are the properties of the specification in order of their names, beside each its number, and for each number its place.
pub record ArePrepared (spec : Spec) (properties : Properties) : Type 0 where
  pub are : AreProperties spec properties.list
  pub numbered : properties.numbers ≡ map (λ p. property_number spec p.name) properties.list
  pub placed : length properties.places ≡ length spec.properties
  pub places_are : (p : ℕ) (d : PropDecl) → slice_get spec.properties p ≡ Some d → IsPlaceOf properties.list (get_or properties.places p 0) d.name.text
