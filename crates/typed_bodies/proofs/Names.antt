-- What the names in expressions without faults stand for.
use Rattle.std.proofs.Common.{◌≡◌, ℕ, zero, suc, ◌+◌, Bool, true, false, cond, List, [], ◌∷◌, ◌++◌, length, map, arith, Option, Some, None, refl, sym, ap, subst, ◌∙◌, bytes_eq}
use Rattle.std.specs.Prelude.{◌<◌, ◌||◌, find, slice_get, IsTrue}
use Rattle.std.specs.List.{list_any}
use Rattle.std.specs.Option.{option_map}
use Rattle.std.proofs.lemmas.Option.{slice_get-map}
use Rattle.std.proofs.lemmas.Slice.Eq.{bytes_eq-Decides}
use Rattle.flow_syntax.specs.declared.fault.SpecFaultKind.TheVariants as kinds
use Rattle.flow_syntax.specs.declared.property.PropDecl.{PropDecl}
use Rattle.flow_syntax.specs.declared.spec.Named.{Named}
use Rattle.flow_syntax.specs.declared.spec.Spec.{Spec}
use Rattle.flow_syntax.specs.declared.tables.EnumDecl.{EnumDecl}
use Rattle.flow_syntax.specs.declared.tables.TableDecl.{TableDecl}
use Rattle.flow_syntax.specs.DeclFaults.{type as declared_again, duplicate}
use Rattle.flow_syntax.specs.Faults.{HasNoFault, declaration}
use Rattle.flow_syntax.specs.Scopes.{Variable}
use Rattle.flow_syntax.specs.Inferred.{is, is_among, lattice_with, constant_typing, name_inferred}
use Rattle.flow_syntax.specs.Types.{Typing, lattice, table, element, enum_sort}
use Rattle.expr_meaning.specs.Ranges.{Range, range_of}
use Rattle.value_domains.specs.Domains.{place_in, has_element, table_named, table_of}
use Rattle.expr_meaning.specs.Typing.{Variable as Sorted, IsNamed}

-- the item that a search finds stands somewhere, and passes
pub found_at : {X : Type 0} (p : X → Bool) (xs : List X) (x : X) → find p xs ≡ Some x → (k : ℕ) × (slice_get xs k ≡ Some x) × (p x ≡ true)
found_at p [] x e = cc
found_at {X} p (y ∷ ys) x e = by (p y) refl e (found_at p ys x)
  where
    by : (b : Bool) → p y ≡ b → cond b (Some y) (find p ys) ≡ Some x → (find p ys ≡ Some x → (k : ℕ) × (slice_get ys k ≡ Some x) × (p x ≡ true)) → (k : ℕ) × (slice_get (y ∷ ys) k ≡ Some x) × (p x ≡ true)
    by true h k later = let same : y ≡ x = cc in (zero, k, subst (λ (z : X). p z ≡ true) same h)
    by false h k later = let r = later k in (suc r.0, r.1, r.2)

-- a declared lattice is the first of its name, if no earlier one has it
first_named : (ls : List TableDecl) (k : ℕ) (d : TableDecl) → slice_get ls k ≡ Some d → ((j : ℕ) (a : TableDecl) → j < k → slice_get ls j ≡ Some a → ¬ (a.name.text ≡ d.name.text)) → find (λ l. bytes_eq d.name.text l.name.text) ls ≡ Some d
first_named [] k d e earlier = cc
first_named (l ∷ ls) zero d e earlier =
    let same : l ≡ d = cc in
    ap (λ b. cond b (Some l) (find (λ l. bytes_eq d.name.text l.name.text) ls)) ((bytes_eq-Decides d.name.text l.name.text).1 (sym (ap (λ (t : TableDecl). t.name.text) same))) ∙ e
first_named (l ∷ ls) (suc k) d e earlier = by (bytes_eq d.name.text l.name.text) refl (first_named ls k d e (λ j a before at. earlier (suc j) a (omega (arith, before)) at))
  where
    by : (b : Bool) → bytes_eq d.name.text l.name.text ≡ b → find (λ l. bytes_eq d.name.text l.name.text) ls ≡ Some d → cond b (Some l) (find (λ l. bytes_eq d.name.text l.name.text) ls) ≡ Some d
    by true h later = absurd (earlier zero l (omega arith) refl (sym ((bytes_eq-Decides d.name.text l.name.text).0 h)))
    by false h later = later

get_behind : {X : Type 0} (xs ys : List X) (i k : ℕ) → i ≡ length xs + k → slice_get (xs ++ ys) i ≡ slice_get ys k
get_behind [] ys i k e = let same : i ≡ k = omega arith in ap (slice_get ys) same
get_behind (x ∷ xs) ys zero k e = absurd (omega arith)
get_behind (x ∷ xs) ys (suc i) k e = get_behind xs ys i k (omega arith)

pub any_text : (x : List ℕ) (ns : List Named) → list_any (bytes_eq x) (map (λ n. n.text) ns) ≡ is_among x ns
any_text x [] = refl
any_text x (n ∷ ns) = ap (λ b. bytes_eq x n.text || b) (any_text x ns)

-- a name of a lattice's element is in the table of that lattice's name
pub element_listed : (spec : Spec) → HasNoFault spec → (x : List ℕ) (d : TableDecl) → lattice_with spec x ≡ Some d → IsTrue (has_element (table_named spec.lattices d.name.text) x)
element_listed spec faultless x d e =
    let r = found_at (λ l. is_among x l.elements) spec.lattices d e in
    let enums = map (λ (e : EnumDecl). e.name) spec.enums in
    let names = map (λ (l : TableDecl). l.name) spec.lattices in
    let at = λ (k : ℕ) (a : TableDecl) (h : slice_get spec.lattices k ≡ Some a). get_behind enums names (length enums + k) k refl ∙ slice_get-map (λ (l : TableDecl). l.name) spec.lattices k ∙ ap (option_map (λ (l : TableDecl). l.name)) h in
    let first = first_named spec.lattices r.0 d r.1 (λ j a before is_a same. faultless d.name.place kinds.Duplicate (declaration (duplicate d.name (declared_again d.name (record {
      earlier = length enums + j;
      later = length enums + r.0;
      a = a.name;
      before = omega (arith, before);
      first = at j a is_a;
      second = at r.0 d r.1;
      like = same;
    })) refl))) in
    subst (λ (o : Option TableDecl). IsTrue (has_element (table_of o) x)) (sym first) (any_text x d.elements ∙ r.2)

-- the property of a name has its number
pub property_at : (ps : List PropDecl) (x : List ℕ) (d : PropDecl) → find (λ p. bytes_eq x p.name.text) ps ≡ Some d → slice_get ps (place_in (map (λ d. d.name.text) ps) x) ≡ Some d
property_at [] x d e = cc
property_at (p ∷ ps) x d e = by (bytes_eq x p.name.text) e (property_at ps x d)
  where
    by : (b : Bool) → cond b (Some p) (find (λ p. bytes_eq x p.name.text) ps) ≡ Some d → (find (λ p. bytes_eq x p.name.text) ps ≡ Some d → slice_get ps (place_in (map (λ d. d.name.text) ps) x) ≡ Some d)
        → slice_get (p ∷ ps) (elim b as (λ b. ℕ) [ true ↦ 0 | false ↦ place_in (map (λ d. d.name.text) ps) x + 1 ]) ≡ Some d
    by true k later = k
    by false k later = let next : place_in (map (λ d. d.name.text) ps) x + 1 ≡ suc (place_in (map (λ d. d.name.text) ps) x) = omega arith in ap (slice_get (p ∷ ps)) next ∙ later k

-- a variable of a scope, of which the sort is known
abbrev pub in_scope : Sorted → Variable
in_scope v = record { name = v.name; sort = Some v.sort }

pub variable_found : (x : List ℕ) (vs : List Sorted) → find (λ v. bytes_eq x v.name) (map in_scope vs) ≡ option_map in_scope (find (λ v. bytes_eq x v.name) vs)
variable_found x [] = refl
variable_found x (v ∷ vs) = by (bytes_eq x v.name) (variable_found x vs)
  where
    by : (b : Bool) → find (λ v. bytes_eq x v.name) (map in_scope vs) ≡ option_map in_scope (find (λ v. bytes_eq x v.name) vs)
        → cond b (Some (in_scope v)) (find (λ v. bytes_eq x v.name) (map in_scope vs)) ≡ option_map in_scope (cond b (Some v) (find (λ v. bytes_eq x v.name) vs))
    by true h = refl
    by false h = h

-- a name without a fault is a variable, an item or an element
pub name_right : (spec : Spec) (x : List ℕ) (own : Range) (o : Option Sorted) (c : Option EnumDecl) (l : Option TableDecl)
    → ((t : Typing) → name_inferred (option_map in_scope o) (constant_typing c l) ≡ is t → own ≡ range_of spec.lattices t)
    → ¬ ((option_map in_scope o ≡ None) × (constant_typing c l ≡ None))
    → ((d : TableDecl) → l ≡ Some d → IsTrue (has_element (table_named spec.lattices d.name.text) x))
    → IsNamed spec o c own x
name_right spec x own (Some v) c l inferred named listed = inferred (element v.sort) refl
name_right spec x own None (Some e) l inferred named listed = inferred (element (enum_sort e.name.text)) refl
name_right spec x own None None (Some d) inferred named listed = (d.name, inferred (lattice (table d.name.text)) refl, listed d refl)
name_right spec x own None None None inferred named listed = absurd (named (refl, refl))
