use Rattle.std.proofs.Common.{ℕ, List, [], ◌∷◌, ◌++◌, sym, subst}
use Rattle.flow_links.specs.inner.Numbers.{IsGraphOf}
use Rattle.flow_links.proofs.NumberLemmas.{added_arrow, added_point, kept_number}
use Rattle.flow_term.proofs.Outcomes.{on_ok}
use Rattle.flow_links.proofs.numbers.add_link.Goals as goal

pub returns-clause-graph : goal.returns-clause-graph
returns-clause-graph c = on_ok c.add_arrow.result c.add_arrow.ensures (λ rows links graph.
    let one : IsGraphOf links c.number_of.new.points.keys c.number_of.new.successors.items =
    added_point links c.args.points.now.keys c.args.successors.now.items graph c.number_of.new.points.keys c.number_of.new.successors.items c.args.link.now.from c.in_ok-from.from c.in_ok-from.ensures.numbered in
    let two : IsGraphOf links c.number_of-2.new.points.keys c.number_of-2.new.successors.items =
    added_point links c.number_of.new.points.keys c.number_of.new.successors.items one c.number_of-2.new.points.keys c.number_of-2.new.successors.items c.args.link.now.to c.in_ok-to.to c.in_ok-to.ensures.numbered in
    subst (λ (rs : List (List ℕ)). IsGraphOf (links ++ c.args.link.now ∷ []) c.number_of-2.new.points.keys rs) (sym rows)
    (added_arrow links c.number_of-2.new.points.keys c.number_of-2.new.successors.items two c.in_ok-from.from c.in_ok-to.to c.args.link.now.from c.args.link.now.to
    (kept_number c.number_of.new.points.keys c.number_of.new.successors.items c.number_of-2.new.points.keys c.number_of-2.new.successors.items c.args.link.now.to c.in_ok-to.to c.in_ok-to.ensures.numbered
    c.in_ok-from.from c.args.link.now.from c.in_ok-from.ensures.numbered.at)
    c.in_ok-to.ensures.numbered.at))
