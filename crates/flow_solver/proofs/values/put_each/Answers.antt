use Rattle.std.proofs.Common.{◌≡◌, ◌<◌, ◌++◌, ◌∷◌, [], length, ap, ◌∙◌, arith, rules}
use Rattle.std.proofs.lemmas.List.{length-set}
use Rattle.std.specs.Prelude.{Some}
use Rattle.flow_solver.proofs.LoopLemmas as loops
use Rattle.flow_solver.proofs.values.put_each.Goals as goal

pub set-requires : goal.set-requires
set-requires g c =
    let last : c.loop-unknown.pairs.items ≡ c.pop.new.self.items ++ (c.in-Some.unknown, c.in-Some.value) ∷ [] = search rules in
    c.loop-unknown.invariant.slots c.in-Some.unknown (loops.last_there c.loop-unknown.pairs.items c.pop.new.self.items c.in-Some.unknown c.in-Some.value last)

pub loop-unknown-preserved : goal.loop-unknown-preserved
loop-unknown-preserved g c =
    let last : c.loop-unknown.pairs.items ≡ c.pop.new.self.items ++ (c.in-Some.unknown, c.in-Some.value) ∷ [] = search rules in
    let here : c.in-Some.unknown < length c.loop-unknown.values = c.loop-unknown.invariant.slots c.in-Some.unknown (loops.last_there c.loop-unknown.pairs.items c.pop.new.self.items c.in-Some.unknown c.in-Some.value last) in
    record {
      given = λ u. loops.given_next c.loop-unknown.pairs.items c.pop.new.self.items c.in-Some.unknown c.in-Some.value last c.loop-unknown.values c.set.new.self c.set.ensures here u ∙ c.loop-unknown.invariant.given u;
      slots = λ u h. rw c.set.ensures (let lt : u < length c.loop-unknown.values = c.loop-unknown.invariant.slots u (loops.first_there c.loop-unknown.pairs.items c.pop.new.self.items c.in-Some.unknown c.in-Some.value last u h) in omega (arith, length-set c.loop-unknown.values c.in-Some.unknown (Some c.in-Some.value)));
      len = ap length c.set.ensures ∙ length-set c.loop-unknown.values c.in-Some.unknown (Some c.in-Some.value) ∙ c.loop-unknown.invariant.len;
    }
