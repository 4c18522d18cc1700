-- In a specification without faults a declared function gives an element of its lattice.
use Rattle.std.proofs.Common.{◌≡◌, ℕ, zero, suc, ◌+◌, ◌*◌, ◌<◌, ◌≤◌, Bool, true, false, ◌||◌, List, [], ◌∷◌, length, arith, Option, Some, None, refl, sym, ap, subst, ◌∙◌, bytes_eq, get_or}
use Rattle.std.specs.Prelude.{◌==◌, Contains, IsTrue, option_and_then}
use Rattle.std.specs.List.{list_any}
use Rattle.std.proofs.Math.Numerals.{add-one}
use Rattle.std.proofs.Math.Nat.{mul_assoc, mul-le-mul_right, suc-mul}
use Rattle.std.proofs.lemmas.Bool.{true≢false}
use Rattle.std.proofs.lemmas.Bool.Decides.{Decides-eqb}
use Rattle.std.proofs.lemmas.List.{length-map}
use Rattle.flow_term.specs.declared.value.Value.{Value, Value-F, out-Value}
use Rattle.flow_term.specs.declared.value.Value.TheVariants as value
use Rattle.flow_syntax.specs.declared.fault.SpecFaultKind.TheVariants as kinds
use Rattle.flow_syntax.specs.declared.spec.Named.{Named}
use Rattle.flow_syntax.specs.declared.spec.Spec.{Spec}
use Rattle.flow_syntax.specs.declared.tables.FunctionDecl.{FunctionDecl}
use Rattle.flow_syntax.specs.declared.tables.TableDecl.{TableDecl}
use Rattle.flow_syntax.specs.DeclFaults.{lattice_named, tuple_count, unknown, function_arity, argument, result, function_entry}
use Rattle.flow_syntax.specs.Faults.{HasNoFault, declaration}
use Rattle.flow_syntax.specs.Inferred.{function_named, is_among}
use Rattle.flow_syntax.proofs.Listed.{at_in, Contains_here, Contains_behind}
use Rattle.value_domains.specs.Values.{ValueLayer}
use Rattle.value_domains.specs.Domains.{Table, table_of, table_named, texts_of, place_in, has_element, item_in, IsListed}
use Rattle.expr_typing.proofs.Clean.{passed}
use Rattle.expr_meaning.specs.Functions.{AreElements, GivesElements}
use Rattle.expr_meaning.specs.Meaning.{tuple_number}
use Rattle.typed_bodies.proofs.Names.{found_at, any_text}

-- PLACES IN TABLES

place_below : (xs : List (List ℕ)) (x : List ℕ) → list_any (bytes_eq x) xs ≡ true → place_in xs x < length xs
place_below [] x h = absurd (true≢false (sym h))
place_below (y ∷ ys) x h = by (bytes_eq x y) h (place_below ys x)
  where
    by : (b : Bool) → (b || list_any (bytes_eq x) ys) ≡ true → (list_any (bytes_eq x) ys ≡ true → place_in ys x < length ys) → elim b as (λ b. ℕ) [ true ↦ 0 | false ↦ place_in ys x + 1 ] < suc (length ys)
    by true k later = omega arith
    by false k later = omega (arith, later k)

item_listed : (t : Table) (l : ValueLayer) → IsListed t l → IsTrue (has_element t (item_in l))
item_listed t (Value-F.Item x) h = h
item_listed t _ h = absurd h

entry_at : (ns : List Named) (i : ℕ) → i < length ns → (n : Named) × Contains ns n × (get_or (texts_of ns) i [] ≡ n.text)
entry_at [] i h = absurd (omega (arith, h))
entry_at (n ∷ ns) zero h = (n, Contains_here n ns, refl)
entry_at (n ∷ ns) (suc i) h = let r = entry_at ns i (omega (arith, h)) in (r.0, Contains_behind n ns r.0 r.1, r.2)

-- the next digit of a number is within its bound
next_digit : (n p size c : ℕ) → p < size → (n * size + p + 1) * c ≤ (n + 1) * (size * c)
next_digit n p size c h =
    let times : (n + 1) * size ≡ n * size + size = ap (λ k. k * size) (add-one n) ∙ suc-mul n size in
    let fits : n * size + p + 1 ≤ (n + 1) * size = omega (arith, h, times) in
    subst (λ m. (n * size + p + 1) * c ≤ m) (mul_assoc (n + 1) size c) (mul-le-mul_right c fits)

module _ (spec : Spec) where
  -- how many tuples there are, and that the number of each is less
  record IsCounted (names : List Named) : Type 0 where
    pub count : ℕ
    pub tuples : tuple_count spec names ≡ Some count
    pub below : (n : ℕ) (vs : List Value) → AreElements spec names vs → tuple_number spec n names vs < (n + 1) * count

  counted : (names : List Named) → ((n : Named) → Contains names n → lattice_named spec n.text ≡ None → ⊥) → IsCounted names
  counted [] known = record { count = 1; tuples = refl; below = none_below }
    where
      none_below : (n : ℕ) (vs : List Value) → AreElements spec [] vs → tuple_number spec n [] vs < (n + 1) * 1
      none_below n [] h = omega arith
      none_below n (v ∷ vs) h = absurd h
  counted (m ∷ names) known = by (lattice_named spec m.text) refl (counted names (λ n among. known n (Contains_behind m names n among)))
    where
      by : (o : Option TableDecl) → lattice_named spec m.text ≡ o → IsCounted names → IsCounted (m ∷ names)
      by None e rest = absurd (known m (Contains_here m names) e)
      by (Some l) e rest = record {
        count = length l.elements * rest.count;
        tuples = ap (λ o. option_and_then (λ (l : TableDecl). option_and_then (λ count. Some (length l.elements * count)) (tuple_count spec names)) o) e ∙ ap (λ o. option_and_then (λ count. Some (length l.elements * count)) o) rest.tuples;
        below = one_below;
      }
        where
          one_below : (n : ℕ) (vs : List Value) → AreElements spec (m ∷ names) vs → tuple_number spec n (m ∷ names) vs < (n + 1) * (length l.elements * rest.count)
          one_below n [] h = absurd h
          one_below n (v ∷ vs) h =
              let t = table_named spec.lattices m.text in
              let p = place_in t.elements (item_in (out-Value v)) in
              let size : length t.elements ≡ length l.elements = ap (λ (o : Option TableDecl). length (table_of o).elements) e ∙ length-map l.elements (λ (n : Named). n.text) in
              let digit : p < length t.elements = place_below t.elements (item_in (out-Value v)) (item_listed t (out-Value v) h.0) in
              let inner = rest.below (n * length t.elements + p) vs h.1 in
              let bound = next_digit n p (length t.elements) rest.count digit in
              subst (λ k. tuple_number spec n (m ∷ names) (v ∷ vs) < (n + 1) * (k * rest.count)) size (omega (arith, inner, bound))

  module _ (faultless : HasNoFault spec) (f : FunctionDecl) (among : Contains spec.functions f) where
    lattice_known : (n : Named) → Contains f.args n → lattice_named spec n.text ≡ None → ⊥
    lattice_known n here none = faultless n.place kinds.Unknown (declaration (unknown n (argument f n among here none) refl))

    entry_listed : (l : TableDecl) → lattice_named spec f.result.text ≡ Some l → (n : Named) → Contains f.table n → IsTrue (has_element (table_of (Some l)) n.text)
    entry_listed l e n here = any_text n.text l.elements ∙ passed (is_among n.text l.elements) (λ no. faultless n.place kinds.Unknown (declaration (unknown n (function_entry f l n among e here no) refl)))

    pub gives_elements : GivesElements spec f
    gives_elements vs are = by (lattice_named spec f.result.text) refl
      where
        tuples : IsCounted f.args
        tuples = counted f.args lattice_known

        complete : length f.table ≡ tuples.count
        complete =
            (Decides-eqb (length f.table) tuples.count).0 (passed (length f.table == tuples.count) (λ no. faultless f.name.place kinds.Arity (declaration (function_arity f among (record {
              count = tuples.count;
              tuples = tuples.tuples;
              other = λ same. true≢false (sym ((Decides-eqb (length f.table) tuples.count).1 same) ∙ no);
            }) refl))))

        within : tuple_number spec 0 f.args vs < length f.table
        within = omega (arith, tuples.below 0 vs are, complete)

        by : (o : Option TableDecl) → lattice_named spec f.result.text ≡ o → IsListed (table_named spec.lattices f.result.text) (out-Value (value.Item (get_or (texts_of f.table) (tuple_number spec 0 f.args vs) [])))
        by None e = absurd (faultless f.result.place kinds.Unknown (declaration (unknown f.result (result f among e) refl)))
        by (Some l) e =
            let r = entry_at f.table (tuple_number spec 0 f.args vs) within in
            subst (λ (t : Table). IsListed t (out-Value (value.Item (get_or (texts_of f.table) (tuple_number spec 0 f.args vs) [])))) (sym (ap (λ (o : Option TableDecl). table_of o) e))
            (subst (IsListed (table_of (Some l))) (sym (value.outs-Item (get_or (texts_of f.table) (tuple_number spec 0 f.args vs) []))) (subst (λ (x : List ℕ). IsTrue (has_element (table_of (Some l)) x)) (sym r.2) (entry_listed l e r.0 r.1)))

pub functions_give : (spec : Spec) → HasNoFault spec → (x : List ℕ) (f : FunctionDecl) → function_named spec x ≡ Some f → GivesElements spec f
functions_give spec faultless x f e = let k = found_at (λ (f : FunctionDecl). bytes_eq x f.name.text) spec.functions f e in gives_elements spec faultless f (at_in spec.functions k.0 f k.1)
