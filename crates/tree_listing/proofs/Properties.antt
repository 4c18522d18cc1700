-- A specification has one list of its properties by name.
use Rattle.std.proofs.Common.{ℕ, List, [], map, ap, subst, ◌∙◌, inl, inr}
use Rattle.std.specs.Prelude.{Contains}
use Rattle.std.specs.Option.{option_map_or}
use Rattle.std.specs.Ordering.{nat_cmp}
use Rattle.std.specs.Cmp.{tied_itself}
use Rattle.std.specs.Cmp.Lexicographic.{slice_cmp}
use Rattle.std.proofs.lemmas.Cmp.{nat_list_cmp_total}
use Rattle.std.proofs.lemmas.Map.Lookups.{exact_bytes}
use Rattle.flow_syntax.specs.declared.property.Direction.TheVariants as direction
use Rattle.flow_syntax.specs.declared.property.PropDecl.{PropDecl}
use Rattle.flow_syntax.specs.declared.spec.Spec.{Spec}
use Rattle.flow_syntax.specs.DeclFaults.{first_rule, trigger_direction}
use Rattle.lattice_sets.specs.Sets.{IsUnion, union_of}
use Rattle.lattice_sets.specs.SetLaws.{rising_nothing, union_is_union}
use Rattle.tree_constraints.proofs.Lists.{none_in_nil, map_has, map_from, same_lists}
use Rattle.tree_listing.specs.declared.property.Property.{Property}
use Rattle.tree_listing.specs.Given.{AreProperties, name_cmp}
use Rattle.tree_listing.specs.Laws.{PropertiesExist, PropertiesAreOne}
use Rattle.tree_listing.proofs.Members.{sorted_map}

-- the property of a name
abbrev named : Spec → List ℕ → Property
named spec x = record { name = x; direction = option_map_or (λ rule. trigger_direction rule.trigger) (first_rule spec x) direction.Forward }

abbrev names_of : Spec → List (List ℕ)
names_of spec = map (λ (d : PropDecl). d.name.text) spec.properties

pub properties_exist : PropertiesExist
properties_exist spec =
    let names = names_of spec in
    let set : IsUnion (slice_cmp nat_cmp) [] names (union_of (slice_cmp nat_cmp) [] names) = union_is_union (slice_cmp nat_cmp) nat_list_cmp_total exact_bytes [] names (rising_nothing (slice_cmp nat_cmp) nat_list_cmp_total) in (
      map (named spec) (union_of (slice_cmp nat_cmp) [] names),
      record {
        declared = λ p h.
            let name = map_from (named spec) (union_of (slice_cmp nat_cmp) [] names) p h in
            elim ((set.items name.0).0 name.1) [
              | inl none ↦ absurd (none_in_nil name.0 none)
              | inr one ↦ let decl = map_from (λ (d : PropDecl). d.name.text) spec.properties name.0 one in (decl.0, decl.1, ap (named spec) decl.2 ∙ name.2)
            ];
        all = λ decl h.
            map_has (named spec) (union_of (slice_cmp nat_cmp) [] names) decl.name.text ((set.items decl.name.text).1 (inr (map_has (λ (d : PropDecl). d.name.text) spec.properties decl h)));
        ordered = sorted_map (slice_cmp nat_cmp) name_cmp (named spec) (union_of (slice_cmp nat_cmp) [] names) (λ x y _ _ less. less) set.rising;
      },
    )

-- what is among the properties of one list is among those of the other
among : (spec : Spec) (ps qs : List Property) → AreProperties spec ps → AreProperties spec qs → (p : Property) → Contains ps p → Contains qs p
among spec ps qs hp hq p h = let decl = hp.declared p h in subst (λ (q : Property). Contains qs q) decl.2 (hq.all decl.0 decl.1)

pub properties_one : PropertiesAreOne
properties_one spec ps qs hp hq =
    same_lists name_cmp (λ p. tied_itself nat_list_cmp_total p.name) (λ p q. nat_list_cmp_total.antisymm p.name q.name) ps qs hp.ordered hq.ordered (λ p. (among spec ps qs hp hq p, among spec qs ps hq hp p))
