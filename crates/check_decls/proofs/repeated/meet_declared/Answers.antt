use Rattle.std.proofs.Common.{[], ◌∷◌, ap, map}
use Rattle.check_decls.proofs.Meeting.{Meets-none, Meets-one_more, Meets-those, Meets-whole}
use Rattle.check_decls.proofs.repeated.meet_declared.Goals as goal

pub loop-declaration-init : goal.loop-declaration-init
loop-declaration-init g c = Meets-none c.args.met.now c.args.earliest.now

pub loop-declaration-preserved : goal.loop-declaration-preserved
loop-declaration-preserved g c =
    Meets-one_more (λ d. (g.D.Declared.declared d, 0)) c.args.declarations.now c.loop-declaration.declaration-index c.declaration-item.result c.loop-declaration-test.true c.declaration-item.is c.loop-declaration.invariant
    (Meets-those _ _ (ap (λ n. (n, 0) ∷ []) c.declared_name.ensures) c.in_ok-meet.ensures)

pub returns : goal.returns
returns g c = Meets-whole (map (λ d. (g.D.Declared.declared d, 0))) c.args.declarations.now c.loop-declaration.declaration-index c.loop-declaration-test.false c.loop-declaration.invariant
