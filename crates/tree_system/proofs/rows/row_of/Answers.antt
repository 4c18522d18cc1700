use Rattle.std.proofs.Common.{◌<◌, ◌∙◌, arith, get_or, inl, inr, length}
use Rattle.std.proofs.lemmas.Option.{slice_get_cases}
use Rattle.typed_bodies.specs.Anywhere.{reads_at}
use Rattle.tree_system.proofs.ReadFacts.{declared_all}
use Rattle.tree_system.proofs.rows.row_of.Goals as goal

pub add_readings-requires : goal.add_readings-requires
add_readings-requires g c = λ k d within.
    let spec = g.B.Bodies.spec c.args.bodies.now in
    let rs = c.as_slice.result.now in
    let there = c.requires.there c.in-Some.rule c.in-Some.is in
    elim ((slice_get_cases spec.rules c.in-Some.rule).1) [
      | inl r ↦ let lt = declared_all (reads_at spec r.0.body) spec.properties rs (c.as_slice.ensures ∙ c.readings.ensures r.0 r.2) k d within in
          let inside : (get_or rs k d).property < length c.args.places.now = omega (arith, lt, c.requires.places) in
          (inside, c.requires.within (get_or rs k d).property (get_or rs k d).side inside)
      | inr r ↦ let out = r.0 in absurd (omega (arith, there, out))
    ]
