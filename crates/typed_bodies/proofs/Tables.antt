-- Where the declared tables are lawful, the domain of each type is.
use Rattle.std.proofs.Common.{◌≡◌, ℕ, zero, suc, Bool, true, false, ◌||◌, ◌+◌, ◌*◌, length, List, [], Option, Some, None, refl, sym, subst, ◌∙◌, bytes_eq, find, get_or}
use Rattle.std.specs.Prelude.{Contains, IsTrue}
use Rattle.std.proofs.lemmas.Bool.{true≢false}
use Rattle.std.proofs.lemmas.Slice.Eq.{bytes_eq-Decides}
use Rattle.flow_syntax.specs.declared.spec.Spec.{Spec}
use Rattle.flow_syntax.specs.declared.tables.TableDecl.{TableDecl}
use Rattle.flow_syntax.specs.Types.{Lattice, may, must, flat, map_to, pair_of, table, Typing, lattice, element, truth}
use Rattle.flow_syntax.proofs.Listed.{at_in}
use Rattle.expr_meaning.specs.Ranges.{range_of, domain_in}
use Rattle.value_domains.specs.Domains.{domain_of, has_element, table_join, one_element, table_of, table_named, place_in}
use Rattle.value_domains.specs.Lawful.{IsLawfulTable, IsLawful}
use Rattle.typed_bodies.proofs.Names.{found_at}

-- THE LATTICE OF ONE ELEMENT

always_it : (n : ℕ) → get_or one_element.join n one_element.bottom ≡ one_element.bottom
always_it zero = refl
always_it (suc n) = refl

it : (x : List ℕ) → IsTrue (has_element one_element x) → x ≡ []
it x h = by (bytes_eq x []) refl h
  where
    by : (b : Bool) → bytes_eq x [] ≡ b → (b || false) ≡ true → x ≡ []
    by true e k = (bytes_eq-Decides x []).0 e
    by false e k = absurd (true≢false (sym k))

joins : (a b : List ℕ) → table_join one_element a b ≡ []
joins a b = always_it (place_in one_element.elements a * length one_element.elements + place_in one_element.elements b)

one_lawful : IsLawfulTable one_element
one_lawful = record {
  least_valid = refl;
  joined_valid = λ a b h k. subst (λ x. IsTrue (has_element one_element x)) (sym (joins a b)) refl;
  idempotent = λ a h. joins a a ∙ sym (it a h);
  commutative = λ a b h k. joins a b ∙ sym (joins b a);
  associative = λ a b c h k l. joins (table_join one_element a b) c ∙ sym (joins a (table_join one_element b c));
  neutral = λ a h. joins [] a ∙ sym (it a h);
}

module _ (spec : Spec) (lawful : (l : TableDecl) → Contains spec.lattices l → IsLawfulTable (table_of (Some l))) where
  named_lawful : (x : List ℕ) → IsLawfulTable (table_named spec.lattices x)
  named_lawful x = by (find (λ d. bytes_eq x d.name.text) spec.lattices) refl
    where
      by : (o : Option TableDecl) → find (λ d. bytes_eq x d.name.text) spec.lattices ≡ o → IsLawfulTable (table_of o)
      by None e = one_lawful
      by (Some l) e = let k = found_at (λ d. bytes_eq x d.name.text) spec.lattices l e in lawful l (at_in spec.lattices k.0 l k.1)

  domain_lawful : (l : Lattice) → IsLawful (domain_of spec.lattices l)
  domain_lawful (may s) = tt
  domain_lawful (must s) = tt
  domain_lawful (flat s) = tt
  domain_lawful (map_to s l) = domain_lawful l
  domain_lawful (pair_of a b) = (domain_lawful a, domain_lawful b)
  domain_lawful (table x) = named_lawful x

  pub range_lawful : (t : Typing) → IsLawful (domain_in (range_of spec.lattices t))
  range_lawful (lattice l) = domain_lawful l
  range_lawful (element s) = tt
  range_lawful truth = tt
