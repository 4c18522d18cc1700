-- The names of a table's elements, joined and compared by their numbers; tables among others by their names.
use Rattle.std.proofs.Common.{◌≡◌, ◌↔◌, ℕ, ◌+◌, ◌<◌, Bool, true, false, cond, List, [], ◌∷◌, length, map, drop, get_or, find, bytes_eq, Option, Some, None, arith, add-one, refl, sym, ap, ◌∙◌, subst, drop-cons}
use Rattle.std.specs.Prelude.{IsTrue}
use Rattle.std.proofs.lemmas.Bool.{true≢false}
use Rattle.std.proofs.lemmas.List.{length-map}
use Rattle.std.proofs.lemmas.Slice.Eq.{bytes_eq-Decides}
use Rattle.flow_syntax.specs.declared.spec.Named.{Named}
use Rattle.flow_syntax.specs.declared.tables.TableDecl.{TableDecl}
use Rattle.flow_syntax.specs.Types.{Lattice, lattice_of, may, must, flat, map_to, pair_of, table}
use Rattle.lattice_tables.specs.declared.lattice.TableL.{TableL}
use Rattle.lattice_tables.specs.Tables.{IsBuiltFrom, join_table}
use Rattle.table_laws.specs.JoinTables.{IsComplete, IsElement, join_of, named, numbered}
use Rattle.table_laws.specs.inner.Numbers.{place_below, place_listed, place_back, numbered_join, numbered_apart, joined_listed, names_back}
use Rattle.value_domains.specs.Domains as domain
use Rattle.value_domains.specs.Domains.{Table, has_element, place_in, table_join, table_named, table_of, texts_of, domain_of}
use Rattle.lattice_any.specs.declared.named.NamedTable.{NamedTable}
use Rattle.lattice_any.specs.declared.tables.DeclaredTable.{DeclaredTable}
use Rattle.lattice_any.specs.Tables.{Declared, AreDeclared, DeclaredHaveDomains, declaration_of, declarations_in, declared_by, domain_among, found_table, first_table, table_among, table_of_names}

-- ELEMENTS BY NAMES AND BY NUMBERS

module _ (n : NamedTable) where
  abbrev names : List (List ℕ)
  names = texts_of n.elements

  abbrev IsName : List ℕ → Type 0
  IsName x = IsTrue (has_element (table_of_names n) x)

  whole : IsComplete (numbered (table_of_names n))
  whole = subst IsComplete (sym n.numbers) n.table.complete

  size : length names ≡ n.table.count
  size = ap (λ t. t.count) n.numbers

  pub number_within : (x : List ℕ) (k : ℕ) → IsName x → k ≡ place_in names x → k < n.table.count
  number_within x k h e = omega (arith, place_below names x h, size, e)

  pub has_answer : (x : List ℕ) (k count : ℕ) (r : Bool) → k ≡ place_in names x → count ≡ length n.elements → (r ≡ true) ↔ (k < count) → (r ≡ true) ↔ IsName x
  has_answer x k count r e f is =
      let same : length names ≡ length n.elements = length-map n.elements (λ (n : Named). n.text) in
      (λ h. place_listed names x (omega (arith, is.0 h, e, f, same)), λ h. is.1 (omega (arith, place_below names x h, e, f, same)))

  -- the number of the join of two elements
  joined_number : (x y : List ℕ) → IsName x → IsName y → place_in names (table_join (table_of_names n) x y) ≡ join_of (join_table n.table) (place_in names x) (place_in names y)
  joined_number x y h k = numbered_join (table_of_names n) whole x y h k ∙ ap (λ t. join_of t (place_in names x) (place_in names y)) n.numbers

  pub joined_name : (x y z : List ℕ) (i j k : ℕ) → IsName x → IsName y → i ≡ place_in names x → j ≡ place_in names y → k ≡ join_of (join_table n.table) i j → z ≡ get_or names k [] → z ≡ table_join (table_of_names n) x y
  joined_name x y z i j k h l e f g is =
      is ∙ ap (λ k. get_or names k []) (g ∙ (λ t. join_of (join_table n.table) (e t) (f t)) ∙ sym (joined_number x y h l))
      ∙ place_back names (table_join (table_of_names n) x y) [] (joined_listed (table_of_names n) whole x y h l)

  pub below_answer : (x y : List ℕ) (i j k : ℕ) (r : Bool) → IsName x → IsName y → i ≡ place_in names x → j ≡ place_in names y → k ≡ join_of (join_table n.table) i j → (r ≡ true) ↔ (k ≡ j) → (r ≡ true) ↔ (table_join (table_of_names n) x y ≡ y)
  below_answer x y i j k r h l e f g is =
      let same : place_in names (table_join (table_of_names n) x y) ≡ k = joined_number x y h l ∙ sym (g ∙ (λ t. join_of (join_table n.table) (e t) (f t))) in (
        λ t. numbered_apart (table_of_names n) whole (table_join (table_of_names n) x y) y (joined_listed (table_of_names n) whole x y h l) l (same ∙ is.0 t ∙ f),
        λ t. is.1 (sym same ∙ ap (place_in names) t ∙ sym f),
      )

-- the table of a declaration by its numbers
pub declared_names : (decl : TableDecl) (made : TableL) → IsBuiltFrom decl made → named (texts_of decl.elements) (join_table made) ≡ table_of (Some decl)
declared_names decl made built = ap (named (texts_of decl.elements)) built ∙ names_back (table_of (Some decl)) (subst IsComplete built made.complete)

pub numbers_kept : (decl : TableDecl) (made : TableL) (elements : List Named) → IsBuiltFrom decl made → elements ≡ decl.elements → numbered (named (texts_of elements) (join_table made)) ≡ join_table made
numbers_kept decl made elements built e = ap (λ es. numbered (named (texts_of es) (join_table made))) e ∙ ap numbered (declared_names decl made built) ∙ sym built

pub declared_is : (decl : TableDecl) (made : TableL) (elements : List Named) (x : List ℕ) → IsBuiltFrom decl made → elements ≡ decl.elements → x ≡ decl.name.text
    → record { name = x; table = named (texts_of elements) (join_table made) } ≡ declaration_of decl
declared_is decl made elements x built e f i = record { name = f i; table = (ap (λ es. named (texts_of es) (join_table made)) e ∙ declared_names decl made built) i }

-- TABLES BY NAME

opened : (ts : List DeclaredTable) (i : ℕ) (d : DeclaredTable) → i < length ts → d ≡ get_or ts i d → drop i ts ≡ d ∷ drop (i + 1) ts
opened ts i d within is = drop-cons ts i d within ∙ (λ j. sym is j ∷ drop (sym (add-one i) j) ts)

pub table_found : (ts : List DeclaredTable) (i : ℕ) (d : DeclaredTable) (x : List ℕ) → i < length ts → d ≡ get_or ts i d → table_among (declarations_in ts) x ≡ table_among (declarations_in (drop i ts)) x → d.name ≡ x
    → table_of_names d.table ≡ table_among (declarations_in ts) x
table_found ts i d x within is so_far same =
    sym (so_far ∙ ap (λ ts. table_among (declarations_in ts) x) (opened ts i d within is)
    ∙ ap (λ b. first_table (cond b (Some (declared_by d)) (find (λ d. bytes_eq x d.name) (declarations_in (drop (i + 1) ts))))) ((bytes_eq-Decides x d.name).1 (sym same)))

pub table_passed : (ts : List DeclaredTable) (i : ℕ) (d : DeclaredTable) (x : List ℕ) → i < length ts → d ≡ get_or ts i d → table_among (declarations_in ts) x ≡ table_among (declarations_in (drop i ts)) x → (d.name ≡ x → ⊥)
    → table_among (declarations_in ts) x ≡ table_among (declarations_in (drop (i + 1) ts)) x
table_passed ts i d x within is so_far other = so_far ∙ ap (λ ts. table_among (declarations_in ts) x) (opened ts i d within is) ∙ by (bytes_eq x d.name) refl
  where
    by : (b : Bool) → bytes_eq x d.name ≡ b → first_table (cond b (Some (declared_by d)) (find (λ d. bytes_eq x d.name) (declarations_in (drop (i + 1) ts)))) ≡ table_among (declarations_in (drop (i + 1) ts)) x
    by true h = absurd (other (sym ((bytes_eq-Decides x d.name).0 h)))
    by false h = refl

-- DOMAINS BY DECLARATIONS

named_first : (declared : List TableDecl) (x : List ℕ) → table_among (map declaration_of declared) x ≡ table_named declared x
named_first [] x = refl
named_first (d ∷ ds) x = by (bytes_eq x d.name.text) (named_first ds x)
  where
    by : (b : Bool) → table_among (map declaration_of ds) x ≡ table_named ds x
        → first_table (cond b (Some (declaration_of d)) (find (λ d. bytes_eq x d.name) (map declaration_of ds))) ≡ table_of (cond b (Some d) (find (λ d. bytes_eq x d.name.text) ds))
    by true later = refl
    by false later = later

among_declared : (declared : List TableDecl) (l : Lattice) → domain_among (map declaration_of declared) l ≡ domain_of declared l
among_declared declared (may s) = refl
among_declared declared (must s) = refl
among_declared declared (flat s) = refl
among_declared declared (map_to s l) = λ i. domain.map_to s (among_declared declared l i)
among_declared declared (pair_of a b) = λ i. domain.pair_of (among_declared declared a i) (among_declared declared b i)
among_declared declared (table x) = ap domain.listed (named_first declared x)

pub have_domains : DeclaredHaveDomains
have_domains declared tables are type = ap (λ ds. domain_among ds (lattice_of type)) are ∙ among_declared declared (lattice_of type)
