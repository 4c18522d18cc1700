use Rattle.std.proofs.Common.{ap, map}
use Rattle.std.specs.List.{flat_map}
use Rattle.check_decls.proofs.Meeting.{Meets-more, Meets-none, Meets-those, Meets-whole}
use Rattle.check_decls.proofs.repeated.meet_items.Goals as goal

pub loop-declaration-init : goal.loop-declaration-init
loop-declaration-init c = Meets-none c.args.met.now c.args.earliest.now

pub loop-declaration-preserved : goal.loop-declaration-preserved
loop-declaration-preserved c =
    Meets-more (λ d. map (λ n. (n, 0)) d.items) c.args.enums.now c.loop-declaration.declaration-index c.declaration-item.result c.loop-declaration-test.true c.declaration-item.is c.loop-declaration.invariant
    (Meets-those _ _ (ap (map (λ n. (n, 0))) c.as_slice.ensures) c.in_ok-meet_declared.ensures)

pub returns : goal.returns
returns c = Meets-whole (flat_map (λ d. map (λ n. (n, 0)) d.items)) c.args.enums.now c.loop-declaration.declaration-index c.loop-declaration-test.false c.loop-declaration.invariant
