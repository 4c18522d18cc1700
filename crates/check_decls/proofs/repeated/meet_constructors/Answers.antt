use Rattle.std.proofs.Common.{[], ◌∷◌, ap, length, map}
use Rattle.check_decls.proofs.Meeting.{Meets-none, Meets-one_more, Meets-those, Meets-whole}
use Rattle.check_decls.proofs.repeated.meet_constructors.Goals as goal

pub loop-constructor-init : goal.loop-constructor-init
loop-constructor-init c = Meets-none c.args.met.now c.args.earliest.now

pub loop-constructor-preserved : goal.loop-constructor-preserved
loop-constructor-preserved c =
    Meets-one_more (λ d. (d.name, length d.args)) c.args.constructors.now c.loop-constructor.constructor-index c.constructor-item.result c.loop-constructor-test.true c.constructor-item.is c.loop-constructor.invariant
    (Meets-those _ _ (ap (λ n. (c.constructor-item.result.name, n) ∷ []) c.len.ensures) c.in_ok-meet.ensures)

pub returns : goal.returns
returns c = Meets-whole (map (λ d. (d.name, length d.args))) c.args.constructors.now c.loop-constructor.constructor-index c.loop-constructor-test.false c.loop-constructor.invariant
