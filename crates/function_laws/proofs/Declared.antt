-- The functions of a specification without faults are well declared.
use Rattle.std.proofs.Common.{◌≡◌, ℕ, zero, suc, ◌+◌, ◌*◌, ◌<◌, ◌≤◌, Bool, true, false, cond, List, [], ◌∷◌, length, map, arith, Option, Some, None, refl, sym, ap, ◌∙◌, subst, inl, inr}
use Rattle.std.specs.Prelude.{◌⊎◌, All, Contains, find, option_and_then}
use mathlib.Core.Logic.{⊎_elim}
use Rattle.std.proofs.lemmas.List.{length-map}
use Rattle.std.proofs.lemmas.List.Elements.{All-cons, All-nil, All-map, All-weaker, All-contains_itself}
use Rattle.flow_term.specs.Orders.{EachOnce}
use Rattle.flow_syntax.specs.declared.fault.SpecFaultKind.TheVariants as kinds
use Rattle.flow_syntax.specs.declared.spec.Named.{Named}
use Rattle.flow_syntax.specs.declared.spec.Spec.{Spec}
use Rattle.flow_syntax.specs.declared.tables.FunctionDecl.{FunctionDecl}
use Rattle.flow_syntax.specs.declared.tables.TableDecl.{TableDecl}
use Rattle.flow_syntax.specs.Accepted.{HasSmallFunctions}
use Rattle.flow_syntax.specs.DeclFaults.{lattice_named, tuple_count, unknown, function_arity, argument, result, function_entry}
use Rattle.flow_syntax.specs.Faults.{HasNoFault, declaration}
use Rattle.flow_syntax.specs.Inferred.{is_among}
use Rattle.flow_syntax.proofs.Listed.{Contains_here, Contains_behind}
use Rattle.value_domains.specs.Domains.{Table, one_element, place_in, table_named, table_of, texts_of}
use Rattle.table_laws.proofs.Declared.{any_text, declared_well, passed}
use Rattle.table_laws.specs.FunctionTables.{IsTotal}
use Rattle.table_laws.specs.JoinTables.{IsComplete, IsElement, numbered}
use Rattle.table_laws.specs.inner.Numbers.{place_below, same_numbers}
use Rattle.function_laws.specs.Laws.{AcceptedIsWellDeclared, HasDistinctElements, IsWellDeclared, first_lattice, numbered_function, second_lattice, to}

found_in : {X : Type 0} (p : X → Bool) (xs : List X) (x : X) → find p xs ≡ Some x → Contains xs x
found_in p [] x e = cc
found_in {X} p (y ∷ ys) x e = by (p y) e (found_in p ys x)
  where
    by : (b : Bool) → cond b (Some y) (find p ys) ≡ Some x → (find p ys ≡ Some x → Contains ys x) → Contains (y ∷ ys) x
    by true k later = let same : y ≡ x = cc in subst (Contains (y ∷ ys)) same (Contains_here y ys)
    by false k later = Contains_behind y ys x (later k)

one_complete : IsComplete (numbered one_element)
one_complete = record { bottom = omega arith; size = refl; entries = All-cons (IsElement (numbered one_element)) 0 [] (omega arith) (All-nil (IsElement (numbered one_element))) }

one_once : EachOnce one_element.elements
one_once = (λ h. omega (arith, h.1), tt)

-- a lattice with a complete table of distinct elements
abbrev IsSound : Table → Type 0
IsSound t = IsComplete (numbered t) × EachOnce t.elements

counted_step : (o : Option TableDecl) → (o ≡ None → ⊥) → (k : ℕ) → option_and_then (λ (l : TableDecl). option_and_then (λ count. Some (length l.elements * count)) (Some k)) o ≡ Some (length (table_of o).elements * k)
counted_step None known k = absurd (known refl)
counted_step (Some l) known k = ap (λ n. Some (n * k)) (sym (length-map l.elements (λ (n : Named). n.text)))

module _ (spec : Spec) (faultless : HasNoFault spec) where
  named_sound : (n : Named) → (lattice_named spec n.text ≡ None → ⊥) → IsSound (table_named spec.lattices n.text)
  named_sound n known = by (lattice_named spec n.text) refl
    where
      by : (o : Option TableDecl) → lattice_named spec n.text ≡ o → IsSound (table_of o)
      by None e = absurd (known e)
      by (Some l) e = let w = declared_well spec faultless l (found_in _ spec.lattices l e) in (w.complete, w.distinct)

  abbrev size_of : Named → ℕ
  size_of n = length (table_named spec.lattices n.text).elements

  module _ (f : FunctionDecl) (among : Contains spec.functions f) where
    known : (n : Named) → Contains f.args n → lattice_named spec n.text ≡ None → ⊥
    known n here none = faultless n.place kinds.Unknown (declaration (unknown n (argument f n among here none) refl))

    result_known : lattice_named spec f.result.text ≡ None → ⊥
    result_known none = faultless f.result.place kinds.Unknown (declaration (unknown f.result (result f among none) refl))

    first_sound : (args : List Named) → ((n : Named) → Contains args n → lattice_named spec n.text ≡ None → ⊥) → IsSound (first_lattice spec.lattices args)
    first_sound [] all = (one_complete, one_once)
    first_sound (n ∷ args) all = named_sound n (all n (Contains_here n args))

    second_sound : (args : List Named) → ((n : Named) → Contains args n → lattice_named spec n.text ≡ None → ⊥) → IsSound (second_lattice spec.lattices args)
    second_sound [] all = (one_complete, one_once)
    second_sound (n ∷ args) all = first_sound args (λ m here. all m (Contains_behind n args m here))

    -- how many tuples of one or two arguments there are
    counted : (args : List Named) → (length args ≡ 1) ⊎ (length args ≡ 2) → ((n : Named) → Contains args n → lattice_named spec n.text ≡ None → ⊥)
        → tuple_count spec args ≡ Some (length (first_lattice spec.lattices args).elements * length (second_lattice spec.lattices args).elements)
    counted [] few all = absurd (⊎_elim (λ (e : 0 ≡ 1). omega (arith, e)) (λ (e : 0 ≡ 2). omega (arith, e)) few)
    counted (n ∷ []) few all = counted_step (lattice_named spec n.text) (all n (Contains_here n [])) 1
    counted (n ∷ m ∷ []) few all =
        ap (λ o. option_and_then (λ (l : TableDecl). option_and_then (λ count. Some (length l.elements * count)) o) (lattice_named spec n.text)) (counted_step (lattice_named spec m.text) (all m (Contains_behind n (m ∷ []) m (Contains_here m []))) 1)
        ∙ counted_step (lattice_named spec n.text) (all n (Contains_here n (m ∷ []))) (size_of m * 1)
        ∙ (let once : size_of m * 1 ≡ size_of m = omega arith in ap (λ k. Some (size_of n * k)) once)
    counted (n ∷ m ∷ l ∷ args) few all = absurd (⊎_elim (λ (e : suc (suc (suc (length args))) ≡ 1). omega (arith, e)) (λ (e : suc (suc (suc (length args))) ≡ 2). omega (arith, e)) few)

    entry_within : All (IsElement (numbered (to spec f))) (map (place_in (to spec f).elements) (texts_of f.table))
    entry_within = by (lattice_named spec f.result.text) refl
      where
        by : (o : Option TableDecl) → lattice_named spec f.result.text ≡ o → All (IsElement (numbered (table_of o))) (map (place_in (table_of o).elements) (texts_of f.table))
        by None e = absurd (result_known e)
        by (Some l) e =
            All-map (λ i. i < length (texts_of l.elements)) (place_in (texts_of l.elements)) (texts_of f.table)
            (All-map (λ x. place_in (texts_of l.elements) x < length (texts_of l.elements)) (λ (n : Named). n.text) f.table
            (All-weaker (Contains f.table) (λ n. place_in (texts_of l.elements) n.text < length (texts_of l.elements))
            (λ n here. place_below (texts_of l.elements) n.text (any_text n.text l.elements ∙ passed (is_among n.text l.elements) (λ no. faultless n.place kinds.Unknown (declaration (unknown n (function_entry f l n among e here no) refl)))))
            f.table (All-contains_itself f.table)))

    function_well : (length f.args ≡ 1) ⊎ (length f.args ≡ 2) → IsWellDeclared spec f
    function_well few = record {
      few = few;
      first = (first_sound f.args known).0;
      second = (second_sound f.args known).0;
      result = (named_sound f.result result_known).0;
      total = record {
        size = length-map (texts_of f.table) (place_in (to spec f).elements) ∙ length-map f.table (λ (n : Named). n.text)
            ∙ same_numbers (length f.table) (length (first_lattice spec.lattices f.args).elements * length (second_lattice spec.lattices f.args).elements)
            (λ other. faultless f.name.place kinds.Arity (declaration (function_arity f among (record { count = length (first_lattice spec.lattices f.args).elements * length (second_lattice spec.lattices f.args).elements; tuples = counted f.args few known; other = other }) refl)));
        entries = entry_within;
      };
    }

    function_distinct : HasDistinctElements spec f
    function_distinct = record { first = (first_sound f.args known).1; second = (second_sound f.args known).1 }

one_or_two : (n : ℕ) → 1 ≤ n → n ≤ 2 → (n ≡ 1) ⊎ (n ≡ 2)
one_or_two zero l h = absurd (omega (arith, l))
one_or_two (suc zero) l h = inl refl
one_or_two (suc (suc zero)) l h = inr refl
one_or_two (suc (suc (suc n))) l h = absurd (omega (arith, h))

pub accepted : AcceptedIsWellDeclared
accepted spec faultless small f among = let s = small f among in (function_well spec faultless f among (one_or_two (length f.args) s.0 s.1), function_distinct spec faultless f among)
