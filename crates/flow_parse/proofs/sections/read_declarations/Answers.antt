use Rattle.std.proofs.Common.{rules, refl, sym, ◌∙◌}
use Rattle.flow_parse.proofs.SectionLaws.{one_takes, further_turn, further_end}
use Rattle.flow_parse.proofs.sections.read_declarations.Goals as goal

pub returns-in_err-declaration : goal.returns-in_err-declaration
returns-in_err-declaration g c = rw (sym c.loop-beginnings.invariant, further_turn g.D.Declaration.symbol c.loop-beginnings.declared c.loop-beginnings.rest.tokens.now (sym (rw c.beginnings-beginnings.ensures at c.loop-beginnings-test.ensures))) (search rules)

pub loop-beginnings-smaller : goal.loop-beginnings-smaller
loop-beginnings-smaller g c = one_takes g.D.Declaration.symbol c.loop-beginnings.rest.tokens.now c.in_ok-declaration.declaration c.in_ok-declaration.after.tokens.now c.in_ok-declaration.ensures

pub loop-beginnings-preserved : goal.loop-beginnings-preserved
loop-beginnings-preserved g c = rw c.in_ok-push.ensures.ok (sym (further_turn g.D.Declaration.symbol c.loop-beginnings.declared c.loop-beginnings.rest.tokens.now (sym (rw c.beginnings-beginnings.ensures at c.loop-beginnings-test.ensures)) ∙ rw c.in_ok-declaration.ensures refl) ∙ c.loop-beginnings.invariant)

pub returns : goal.returns
returns g c = sym c.loop-beginnings.invariant ∙ further_end g.D.Declaration.symbol c.loop-beginnings.declared c.loop-beginnings.rest.tokens.now (sym (rw c.beginnings-beginnings.ensures at c.loop-beginnings-test.ensures))
