use Rattle.std.proofs.Common.{◌≡◌, ◌<◌, ℕ, List, [], map, filter, get_or, length, sym, ap, subst, ◌∙◌}
use Rattle.std.specs.Prelude.{nat_eq}
use Rattle.std.specs.List.{flat_map, range_with_len}
use Rattle.std.proofs.lemmas.List.{length-map}
use Rattle.list_theory.specs.Lists.{has}
use Rattle.tree_build.specs.Ends.{unknown_number}
use Rattle.tree_system.specs.inner.Rows.{bases_by}
use Rattle.tree_system.proofs.ListedFacts.{as_many, bases_are, bases_inside, copied_inside, numbers_inside, of_tree_is, read_inside, reading_is, rows_are, rows_inside, rows_long, rules_inside, tables_are, targets_inside}
use Rattle.tree_system.proofs.build.in_tables.Goals as goal

pub targets_of-requires : goal.targets_of-requires
targets_of-requires g c =
    targets_inside (g.B.Bodies.spec c.args.bodies) c.args.properties.now c.args.nodes.now c.args.rows.constraints c.args.rows.ends c.args.unknowns c.requires
    c.as_slice-ends.result.now c.as_slice-ends.ensures c.len-width.result c.len-width.ensures c.len-count.result c.len-count.ensures

pub bases_of-requires : goal.bases_of-requires
bases_of-requires g c =
    bases_inside (g.B.Bodies.spec c.args.bodies) c.args.properties.now c.args.nodes.now c.args.rows.constraints c.args.rows.ends c.args.unknowns c.requires
    c.as_slice-ends.result.now c.as_slice-ends.ensures c.len-width.result c.len-width.ensures c.len-count.result c.len-count.ensures

pub reads_of-requires-clause-there : goal.reads_of-requires-clause-there
reads_of-requires-clause-there g c = rules_inside (g.B.Bodies.spec c.args.bodies) c.args.properties.now c.args.nodes.now c.args.rows.constraints c.args.rows.ends c.args.unknowns c.requires c.as_slice.result.now c.as_slice.ensures

pub reads_of-requires-clause-ends : goal.reads_of-requires-clause-ends
reads_of-requires-clause-ends g c = ap length c.as_slice-ends.ensures ∙ as_many (g.B.Bodies.spec c.args.bodies) c.args.properties.now c.args.nodes.now c.args.rows.constraints c.args.rows.ends c.args.unknowns c.requires ∙ sym (ap length c.as_slice.ensures)

pub reads_of-requires-clause-bases : goal.reads_of-requires-clause-bases
reads_of-requires-clause-bases g c =
    ap length (c.deref.ensures.value ∙ c.in_ok-bases.ensures) ∙ length-map c.as_slice-ends.result.now (bases_by c.len-width.result)
    ∙ ap length c.as_slice-ends.ensures ∙ as_many (g.B.Bodies.spec c.args.bodies) c.args.properties.now c.args.nodes.now c.args.rows.constraints c.args.rows.ends c.args.unknowns c.requires ∙ sym (ap length c.as_slice.ensures)

pub reads_of-requires-clause-copied : goal.reads_of-requires-clause-copied
reads_of-requires-clause-copied g c =
    let spec = g.B.Bodies.spec c.args.bodies in
    let eb = bases_are spec c.args.properties.now c.args.nodes.now c.args.rows.constraints c.args.rows.ends c.args.unknowns c.requires c.deref.result.now c.as_slice-ends.result.now c.len-width.result
    (c.deref.ensures.value ∙ c.in_ok-bases.ensures) c.as_slice-ends.ensures c.len-width.ensures in
    copied_inside spec c.args.properties.now c.args.nodes.now c.args.rows.constraints c.args.rows.ends c.args.unknowns c.requires c.deref.result.now eb c.len-count.result c.len-count.ensures
    c.as_slice.result.now c.as_slice.ensures c.as_slice-ends.result.now c.as_slice-ends.ensures

pub reads_of-requires-clause-within : goal.reads_of-requires-clause-within
reads_of-requires-clause-within g c =
    let spec = g.B.Bodies.spec c.args.bodies in
    let eb = bases_are spec c.args.properties.now c.args.nodes.now c.args.rows.constraints c.args.rows.ends c.args.unknowns c.requires c.deref.result.now c.as_slice-ends.result.now c.len-width.result
    (c.deref.ensures.value ∙ c.in_ok-bases.ensures) c.as_slice-ends.ensures c.len-width.ensures in
    read_inside spec c.args.properties.now c.args.nodes.now c.args.rows.constraints c.args.rows.ends c.args.unknowns c.requires c.deref.result.now eb c.len-count.result c.len-count.ensures
    c.as_slice.result.now c.as_slice.ensures c.as_slice-2.result.now c.as_slice-2.ensures

pub reads_of-requires-clause-places : goal.reads_of-requires-clause-places
reads_of-requires-clause-places g c = ap length c.as_slice-2.ensures ∙ c.requires.prepared.placed

pub turned-requires : goal.turned-requires
turned-requires g c =
    let spec = g.B.Bodies.spec c.args.bodies in
    let eb = bases_are spec c.args.properties.now c.args.nodes.now c.args.rows.constraints c.args.rows.ends c.args.unknowns c.requires c.deref.result.now c.as_slice-ends.result.now c.len-width.result
    (c.deref.ensures.value ∙ c.in_ok-bases.ensures) c.as_slice-ends.ensures c.len-width.ensures in
    rows_inside spec c.args.properties.now c.args.nodes.now c.args.rows.constraints c.args.rows.ends c.args.unknowns c.requires c.deref.result.now eb c.len-count.result c.len-count.ensures
    c.as_slice.result.now c.as_slice.ensures c.as_slice-ends.result.now c.as_slice-ends.ensures c.as_slice-2.result.now c.as_slice-2.ensures
    c.in_ok-reads.reads.items c.in_ok-reads.ensures.len c.in_ok-reads.ensures.rows c.deref-2.result.now c.deref-2.ensures.value

pub grouped-requires : goal.grouped-requires
grouped-requires g c =
    let te : c.deref-3.result.now ≡ map (unknown_number (length c.args.properties.now.list)) c.args.rows.ends =
    c.deref-3.ensures.value ∙ c.in_ok-targets.ensures ∙ (λ i. map (unknown_number (c.len-width.ensures i)) (c.as_slice-ends.ensures i)) in
    numbers_inside (g.B.Bodies.spec c.args.bodies) c.args.properties.now c.args.nodes.now c.args.rows.constraints c.args.rows.ends c.args.unknowns c.requires c.deref-3.result.now te c.len-count.result c.len-count.ensures

pub invariant_of-result : goal.invariant_of-result
invariant_of-result g c =
    let spec = g.B.Bodies.spec c.args.bodies in
    let eb = bases_are spec c.args.properties.now c.args.nodes.now c.args.rows.constraints c.args.rows.ends c.args.unknowns c.requires c.deref.result.now c.as_slice-ends.result.now c.len-width.result
    (c.deref.ensures.value ∙ c.in_ok-bases.ensures) c.as_slice-ends.ensures c.len-width.ensures in
    let te : c.in_ok-targets.targets.items ≡ map (unknown_number (length c.args.properties.now.list)) c.args.rows.ends =
    c.in_ok-targets.ensures ∙ (λ i. map (unknown_number (c.len-width.ensures i)) (c.as_slice-ends.ensures i)) in
    let ke : c.in_ok-numbers_below.field-0 ≡ range_with_len 0 (length c.args.rows.constraints) = c.in_ok-numbers_below.ensures ∙ ap (λ m. range_with_len 0 m) c.len.ensures in
    let ie : c.in_ok-numbers_below-2.field-0 ≡ range_with_len 0 (length c.args.unknowns) = c.in_ok-numbers_below-2.ensures ∙ ap (λ m. range_with_len 0 m) c.len-count.ensures in
    let pe : c.in_ok-to_vec.field-0.items ≡ c.args.properties.now.places = c.in_ok-to_vec.ensures.items_if_clones_equal (λ _ _ e. e) ∙ c.as_slice-5.ensures in
    let fe = c.in_ok-properties_of.ensures ∙ (λ i. flat_map (λ _. c.as_slice-3.ensures i) (c.as_slice-4.ensures i)) in
    let wake = subst (λ (rs : List (List ℕ)). (u : ℕ) → u < c.len-count.result → get_or c.in_ok-readers.readers.items u [] ≡ filter (λ k. has nat_eq (get_or rs k []) u) (range_with_len 0 (length rs)))
    c.deref-2.ensures.value c.in_ok-readers.ensures.rows in
    let aim = subst (λ (ts : List ℕ). (u : ℕ) → u < c.len-count.result → get_or c.in_ok-aiming.aiming.items u [] ≡ filter (λ k. nat_eq (get_or ts k 0) u) (range_with_len 0 (length ts)))
    c.deref-3.ensures.value c.in_ok-aiming.ensures.rows in
    record {
      tables = tables_are spec c.args.properties.now c.args.nodes.now c.args.rows.constraints c.args.rows.ends c.args.unknowns c.requires
          c.in_ok-targets.targets.items c.in_ok-reads.reads.items c.in_ok-readers.readers.items c.in_ok-aiming.aiming.items c.in_ok-properties_of.field-0.items c.len-count.result c.len-count.ensures te
          (rows_long spec c.args.properties.now c.args.nodes.now c.args.rows.constraints c.args.rows.ends c.args.unknowns c.requires c.deref.result.now eb c.len-count.result c.len-count.ensures
          c.as_slice.result.now c.as_slice.ensures c.as_slice-ends.result.now c.as_slice-ends.ensures c.as_slice-2.result.now c.as_slice-2.ensures c.in_ok-reads.reads.items c.in_ok-reads.ensures.len c.in_ok-reads.ensures.rows)
          (rows_are spec c.args.properties.now c.args.nodes.now c.args.rows.constraints c.args.rows.ends c.args.unknowns c.requires c.deref.result.now eb c.len-count.result c.len-count.ensures
          c.as_slice.result.now c.as_slice.ensures c.as_slice-ends.result.now c.as_slice-ends.ensures c.as_slice-2.result.now c.as_slice-2.ensures c.in_ok-reads.reads.items c.in_ok-reads.ensures.len c.in_ok-reads.ensures.rows)
          c.in_ok-readers.ensures.len wake c.in_ok-aiming.ensures.len aim fe c.in_ok-numbers_below.field-0 c.in_ok-numbers_below-2.field-0 ke ie;
      reading = reading_is spec c.args.properties.now c.args.nodes.now c.args.rows.constraints c.args.rows.ends c.args.unknowns c.requires c.len-count.result c.len-count.ensures c.len-count.type_inv
          c.in_ok-bases.bases.items (sym c.deref.ensures.value ∙ eb) c.in_ok-to_vec.field-0.items pe c.in_ok-numbers_below.field-0 c.in_ok-numbers_below-2.field-0 ke ie;
      of_tree = of_tree_is spec c.args.properties.now c.args.nodes.now c.args.rows.constraints c.args.rows.ends c.args.unknowns c.requires c.in_ok-numbers_below.field-0 c.in_ok-numbers_below-2.field-0 ke ie;
      none_is = c.new.ensures;
    }
