use Rattle.std.proofs.Common.{◌≡◌, ◌==◌, ℕ, ◌+◌, List, [], ◌∷◌, ◌++◌, get_or, take, sym, subst, ◌∙◌}
use Rattle.std.specs.Prelude.{Contains}
use Rattle.std.proofs.lemmas.List.{take_more}
use Rattle.indexmap.specs.IndexSet.{insert_key}
use Rattle.flow_links.specs.inner.Gains.{Gains}
use Rattle.std.proofs.lemmas.Bool.{eqb-true}
use Rattle.flow_links.proofs.Insertions.{gains_insert, longer_insert, longer_still}
use Rattle.flow_links.proofs.ReachLemmas.{gains_more}
use Rattle.flow_links.proofs.reach.add_all.Goals as goal

pub loop-number-preserved : goal.loop-number-preserved
loop-number-preserved c =
    let n : ℕ = get_or c.args.numbers.now c.loop-number.number-index 0 in
    let longer : take (c.loop-number.number-index + 1) c.args.numbers.now ≡ take c.loop-number.number-index c.args.numbers.now ++ n ∷ [] =
    take_more c.args.numbers.now c.loop-number.number-index 0 c.loop-number-test.true in
    let last : (more : List ℕ) × (insert_key ◌==◌ c.loop-number.found.keys n ≡ c.loop-number.found.keys ++ more) = longer_insert ◌==◌ eqb-true c.loop-number.found.keys n in
    record {
      gains = subst (λ (xs : List ℕ). Gains c.args.found.now.keys c.insert.new.self.keys (Contains xs)) (sym longer)
          (gains_more c.args.found.now.keys c.loop-number.found.keys c.insert.new.self.keys (take c.loop-number.number-index c.args.numbers.now) n c.loop-number.invariant.gains
          (subst (λ (ks : List ℕ). Gains c.loop-number.found.keys ks (λ x. x ≡ n)) (sym c.in_ok-insert.ensures.keys) (gains_insert ◌==◌ eqb-true c.loop-number.found.keys n)));
      order = longer_still c.args.found.now.keys c.loop-number.found.keys c.insert.new.self.keys c.loop-number.invariant.order (last.0, c.in_ok-insert.ensures.keys ∙ last.1);
    }
