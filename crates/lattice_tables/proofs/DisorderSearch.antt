-- The first disorder of a table of results, as the search for it finds it.
use Rattle.std.proofs.Common.{◌≡◌, ℕ, Bool, true, false, ◌&&◌, List, Some, None, refl, sym, ◌∙◌}
use Rattle.std.specs.Prelude.{not, Contains, find}
use Rattle.std.proofs.lemmas.Bool.{true≢false}
use Rattle.std.proofs.lemmas.Bool.Decides.{Decides-eqb}
use Rattle.table_laws.specs.FunctionTables.{FunctionTable, Arguments, IsDisordered, result_of}
use Rattle.table_laws.specs.JoinTables.{IsElement, join_of}
use Rattle.table_laws.specs.inner.Numbers.{same_numbers}
use Rattle.itertools.specs.Product.{rows}
use Rattle.lattice_tables.specs.inner.Disorders.{IsFirstOfFunction, are_disordered}
use Rattle.lattice_tables.specs.inner.Tests.{is_below}
use Rattle.lattice_tables.specs.inner.Tuples.{numbers_below, pairs_below, quadruples_below}
use Rattle.lattice_tables.proofs.Firsts.{Rises, number, longer, found_first, none_found, in_rows, rows_in, in_range, range_in, range_rises, rows_rise}
use Rattle.lattice_tables.proofs.LawSearch.{differ, told}

abbrev Quadruple : Type 0
Quadruple = ((ℕ × ℕ) × ℕ) × ℕ

both : (a b c : Bool) → a ≡ true → b ≡ true → c ≡ true → (a && b && c) ≡ true
both true true true h k l = refl
both true true false h k l = l
both true false c h k l = k
both false b c h k l = h

parts : (a b c : Bool) → (a && b && c) ≡ true → (a ≡ true) × (b ≡ true) × (c ≡ true)
parts true true true h = (refl, refl, refl)
parts true true false h = absurd (true≢false (sym h))
parts true false c h = absurd (true≢false (sym h))
parts false b c h = absurd (true≢false (sym h))

module _ (f : FunctionTable) where
  abbrev all : List Quadruple
  all = quadruples_below f.left.count f.right.count

  abbrev triples : List ((ℕ × ℕ) × ℕ)
  triples = rows (pairs_below f.left.count f.right.count) (numbers_below f.left.count)

  rises : Rises (longer (longer (longer number))) all
  rises =
      rows_rise (longer (longer number)) triples (numbers_below f.right.count)
      (rows_rise (longer number) (pairs_below f.left.count f.right.count) (numbers_below f.left.count)
      (rows_rise number (numbers_below f.left.count) (numbers_below f.right.count) (range_rises 0 f.left.count) (range_rises 0 f.right.count)) (range_rises 0 f.left.count)) (range_rises 0 f.right.count)

  among : (a b c d : ℕ) → IsElement f.left a → IsElement f.right b → IsElement f.left c → IsElement f.right d → Contains all (((a, b), c), d)
  among a b c d ha hb hc hd =
      in_rows triples (numbers_below f.right.count) ((a, b), c) d
      (in_rows (pairs_below f.left.count f.right.count) (numbers_below f.left.count) (a, b) c
      (in_rows (numbers_below f.left.count) (numbers_below f.right.count) a b (in_range f.left.count a ha) (in_range f.right.count b hb)) (in_range f.left.count c hc)) (in_range f.right.count d hd)

  abbrev lower : Quadruple → Arguments
  lower p = p.0.0

  abbrev higher : Quadruple → Arguments
  higher p = (p.0.1, p.1)

  abbrev whole : Arguments → Arguments → Quadruple
  whole low high = ((low, high.0), high.1)

  -- the test of a quadruple
  abbrev pub test : Quadruple → Bool
  test p = are_disordered f (lower p) (higher p)

  tested : (low high : Arguments) → IsDisordered f low high → test (whole low high) ≡ true
  tested low high h =
      both (is_below f.left low.0 high.0) (is_below f.right low.1 high.1) (not (is_below f.to (result_of f low.0 low.1) (result_of f high.0 high.1)))
      ((Decides-eqb (join_of f.left low.0 high.0) high.0).1 h.left_below) ((Decides-eqb (join_of f.right low.1 high.1) high.1).1 h.right_below)
      (told (join_of f.to (result_of f low.0 low.1) (result_of f high.0 high.1)) (result_of f high.0 high.1) h.results_apart)

  disordered : (p : Quadruple) → Contains all p → test p ≡ true → IsDisordered f (lower p) (higher p)
  disordered p c h =
      let last = rows_in triples (numbers_below f.right.count) p c in
      let third = rows_in (pairs_below f.left.count f.right.count) (numbers_below f.left.count) p.0 last.0 in
      let first = rows_in (numbers_below f.left.count) (numbers_below f.right.count) p.0.0 third.0 in
      let t = parts (is_below f.left p.0.0.0 p.0.1) (is_below f.right p.0.0.1 p.1) (not (is_below f.to (result_of f p.0.0.0 p.0.0.1) (result_of f p.0.1 p.1))) h in
      record {
        lower_are = (range_in f.left.count p.0.0.0 first.0, range_in f.right.count p.0.0.1 first.1);
        higher_are = (range_in f.left.count p.0.1 third.1, range_in f.right.count p.1 last.1);
        left_below = (Decides-eqb (join_of f.left p.0.0.0 p.0.1) p.0.1).0 t.0;
        right_below = (Decides-eqb (join_of f.right p.0.0.1 p.1) p.1).0 t.1;
        results_apart = differ (join_of f.to (result_of f p.0.0.0 p.0.0.1) (result_of f p.0.1 p.1)) (result_of f p.0.1 p.1) t.2;
      }

  pub no_disorder : find test all ≡ None → IsFirstOfFunction f None
  no_disorder e = λ a b c d ha hb hc hd left right.
      same_numbers (join_of f.to (result_of f a b) (result_of f c d)) (result_of f c d)
      (λ no. true≢false (sym (tested (a, b) (c, d) (record { lower_are = (ha, hb); higher_are = (hc, hd); left_below = left; right_below = right; results_apart = no }))
      ∙ none_found (longer (longer (longer number))) test all e (((a, b), c), d) (among a b c d ha hb hc hd)))

  pub first_is_disorder : (p : Quadruple) → find test all ≡ Some p → IsFirstOfFunction f (Some (lower p, higher p))
  first_is_disorder p e =
      let found = found_first (longer (longer (longer number))) test all p rises e in
      record {
        has = disordered p found.1 found.0;
        none_before = λ q b h.
            true≢false (sym (tested q.0 q.1 h)
            ∙ found.2 (whole q.0 q.1) (among q.0.0 q.0.1 q.1.0 q.1.1 h.lower_are.0 h.lower_are.1 h.higher_are.0 h.higher_are.1) b);
      }
