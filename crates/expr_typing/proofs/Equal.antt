-- Equality of types is decided by a test.
use Rattle.std.proofs.Common.{◌≡◌, Bool, true, false, ◌&&◌, List, [], ◌∷◌, refl, sym, ap, ◌∙◌}
use Rattle.std.specs.Prelude.{◌≢◌, bytes_eq}
use Rattle.std.proofs.lemmas.Bool.{true≢false, and_parts, and_from}
use Rattle.std.proofs.lemmas.Slice.Eq.{bytes_eq-Decides}
use Rattle.flow_syntax.specs.Types.{Sort, name_sort, pos_sort, str_sort, int_sort, enum_sort, pair_sort, Lattice, may, must, flat, map_to, pair_of, table, Typing, lattice, element, truth}

abbrev same_sort : Sort → Sort → Bool
same_sort name_sort name_sort = true
same_sort pos_sort pos_sort = true
same_sort str_sort str_sort = true
same_sort int_sort int_sort = true
same_sort (enum_sort a) (enum_sort b) = bytes_eq a b
same_sort (pair_sort a b) (pair_sort c d) = same_sort a c && same_sort b d
same_sort _ _ = false

abbrev same_lattice : Lattice → Lattice → Bool
same_lattice (may a) (may b) = same_sort a b
same_lattice (must a) (must b) = same_sort a b
same_lattice (flat a) (flat b) = same_sort a b
same_lattice (map_to a l) (map_to b m) = same_sort a b && same_lattice l m
same_lattice (pair_of a b) (pair_of c d) = same_lattice a c && same_lattice b d
same_lattice (table a) (table b) = bytes_eq a b
same_lattice _ _ = false

abbrev same_typing : Typing → Typing → Bool
same_typing (lattice a) (lattice b) = same_lattice a b
same_typing (element a) (element b) = same_sort a b
same_typing truth truth = true
same_typing _ _ = false

sort_right : (s t : Sort) → same_sort s t ≡ true → s ≡ t
sort_right name_sort name_sort h = refl
sort_right pos_sort pos_sort h = refl
sort_right str_sort str_sort h = refl
sort_right int_sort int_sort h = refl
sort_right (enum_sort a) (enum_sort b) h = ap enum_sort ((bytes_eq-Decides a b).0 h)
sort_right (pair_sort a b) (pair_sort c d) h = let p = and_parts (same_sort a c) (same_sort b d) h in λ i. pair_sort (sort_right a c p.0 i) (sort_right b d p.1 i)
sort_right _ _ h = absurd (true≢false (sym h))

lattice_right : (l m : Lattice) → same_lattice l m ≡ true → l ≡ m
lattice_right (may a) (may b) h = ap may (sort_right a b h)
lattice_right (must a) (must b) h = ap must (sort_right a b h)
lattice_right (flat a) (flat b) h = ap flat (sort_right a b h)
lattice_right (map_to a l) (map_to b m) h = let p = and_parts (same_sort a b) (same_lattice l m) h in λ i. map_to (sort_right a b p.0 i) (lattice_right l m p.1 i)
lattice_right (pair_of a b) (pair_of c d) h = let p = and_parts (same_lattice a c) (same_lattice b d) h in λ i. pair_of (lattice_right a c p.0 i) (lattice_right b d p.1 i)
lattice_right (table a) (table b) h = ap table ((bytes_eq-Decides a b).0 h)
lattice_right _ _ h = absurd (true≢false (sym h))

typing_right : (t u : Typing) → same_typing t u ≡ true → t ≡ u
typing_right (lattice a) (lattice b) h = ap lattice (lattice_right a b h)
typing_right (element a) (element b) h = ap element (sort_right a b h)
typing_right truth truth h = refl
typing_right _ _ h = absurd (true≢false (sym h))

sort_itself : (s : Sort) → same_sort s s ≡ true
sort_itself name_sort = refl
sort_itself pos_sort = refl
sort_itself str_sort = refl
sort_itself int_sort = refl
sort_itself (enum_sort a) = (bytes_eq-Decides a a).1 refl
sort_itself (pair_sort a b) = and_from (same_sort a a) (same_sort b b) (sort_itself a) (sort_itself b)

lattice_itself : (l : Lattice) → same_lattice l l ≡ true
lattice_itself (may a) = sort_itself a
lattice_itself (must a) = sort_itself a
lattice_itself (flat a) = sort_itself a
lattice_itself (map_to a l) = and_from (same_sort a a) (same_lattice l l) (sort_itself a) (lattice_itself l)
lattice_itself (pair_of a b) = and_from (same_lattice a a) (same_lattice b b) (lattice_itself a) (lattice_itself b)
lattice_itself (table a) = (bytes_eq-Decides a a).1 refl

typing_itself : (t : Typing) → same_typing t t ≡ true
typing_itself (lattice a) = lattice_itself a
typing_itself (element a) = sort_itself a
typing_itself truth = refl

-- types that don't differ are the same
pub not_other : (t u : Typing) → ¬ (t ≢ u) → t ≡ u
not_other t u h = by (same_typing t u) refl
  where
    by : (b : Bool) → same_typing t u ≡ b → t ≡ u
    by true e = typing_right t u e
    by false e = absurd (h (λ same. true≢false (sym (typing_itself t) ∙ ap (same_typing t) same ∙ e)))

-- LISTS OF TYPES

abbrev same_typings : List Typing → List Typing → Bool
same_typings [] [] = true
same_typings (t ∷ ts) (u ∷ us) = same_typing t u && same_typings ts us
same_typings _ _ = false

typings_right : (ts us : List Typing) → same_typings ts us ≡ true → ts ≡ us
typings_right [] [] h = refl
typings_right (t ∷ ts) (u ∷ us) h = let p = and_parts (same_typing t u) (same_typings ts us) h in λ i. typing_right t u p.0 i ∷ typings_right ts us p.1 i
typings_right [] (u ∷ us) h = absurd (true≢false (sym h))
typings_right (t ∷ ts) [] h = absurd (true≢false (sym h))

typings_itself : (ts : List Typing) → same_typings ts ts ≡ true
typings_itself [] = refl
typings_itself (t ∷ ts) = and_from (same_typing t t) (same_typings ts ts) (typing_itself t) (typings_itself ts)

-- lists of types that don't differ are the same
pub not_others : (ts us : List Typing) → ¬ (ts ≢ us) → ts ≡ us
not_others ts us h = by (same_typings ts us) refl
  where
    by : (b : Bool) → same_typings ts us ≡ b → ts ≡ us
    by true e = typings_right ts us e
    by false e = absurd (h (λ same. true≢false (sym (typings_itself ts) ∙ ap (same_typings ts) same ∙ e)))
