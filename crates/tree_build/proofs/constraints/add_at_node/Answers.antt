use Rattle.std.proofs.Common.{◌≡◌, ◌<◌, ◌≤◌, ◌++◌, ℕ, List, get_or, length, map, refl, sym, ap, ◌∙◌, arith}
use Rattle.std.proofs.lemmas.List.{get_or_default, take_all}
use Rattle.tree_listing.specs.declared.property.Property.{Property}
use Rattle.tree_build.specs.Ends.{no_property}
use Rattle.tree_build.specs.Numbers.{node_of}
use Rattle.tree_build.specs.inner.Hits.{listed_at_each}
use Rattle.tree_build.proofs.ListFacts.{property_more}
use Rattle.tree_build.proofs.RowFacts.{row_named}
use Rattle.tree_build.proofs.constraints.add_at_node.Goals as goal

pub loop-place-preserved : goal.loop-place-preserved
loop-place-preserved c =
    let ps = c.args.properties.now.list in
    let place = c.loop-place.place in
    let node = node_of c.args.nodes.now c.args.number in
    let p = c.index-as_slice-place.result in
    let within : place < length ps = omega (arith, c.loop-place-test.true, c.len-place-end.ensures) in
    let is_property : p ≡ get_or ps place no_property =
    c.index-as_slice-place.is ∙ ap (λ (xs : List Property). get_or xs place p) c.as_slice.ensures ∙ get_or_default ps place p no_property within in (
      λ edges are.
          property_more c.args.hits.now edges node c.args.properties.now.numbers ps place (get_or c.as_slice-in-loop-place.result.now place 0) p c.args.rows.now.constraints c.loop-place.rows.constraints c.add_at.new.rows.constraints
          within c.requires.numbered (ap (λ (xs : List ℕ). get_or xs place 0) c.as_slice-in-loop-place.ensures) is_property (c.loop-place.invariant.0 edges are)
          (c.in_ok-add_at.ensures.constraints edges
          (ap (map (node_of c.args.nodes.now)) c.row-row.ensures ∙ row_named p.direction c.args.nodes.now edges c.args.origins.now.forward.items c.args.origins.now.backward.items c.args.number are c.requires.number)),
      λ are. c.in_ok-add_at.ensures.ends ps (record {
        number_within = c.requires.number;
        place_within = within;
        node_is = refl;
        name_is = ap (λ (q : Property). q.name) (sym is_property);
      }) (c.loop-place.invariant.1 are),
    )

pub returns-clause-constraints : goal.returns-clause-constraints
returns-clause-constraints c = λ edges are.
    let ps = c.args.properties.now.list in
    let place = c.loop-place.place in
    let all : length ps ≤ place = omega (arith, c.loop-place-test.false, c.len-place-end.ensures) in
    let all_numbers : length c.args.properties.now.numbers ≤ place = omega (arith, all, c.requires.numbered) in
    c.loop-place.invariant.0 edges are
    ∙ (λ i. c.args.rows.now.constraints ++ listed_at_each c.args.hits.now (take_all place c.args.properties.now.numbers all_numbers i) (take_all place ps all i) edges (node_of c.args.nodes.now c.args.number))
