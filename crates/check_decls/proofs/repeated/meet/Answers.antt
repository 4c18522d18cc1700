use Rattle.std.proofs.Common.{ap, bytes_eq, refl}
use Rattle.std.specs.Prelude.{◌==◌, ◌&&◌}
use Rattle.check_decls.proofs.Meeting.{Meets-one}
use Rattle.check_decls.proofs.repeated.meet.Goals as goal

pub returns : goal.returns
returns c =
    Meets-one c.args.met.now c.insert.new.self c.args.name.now c.args.count (c.as_str.result, c.args.count) _ c.in_ok-is_new.is_new (λ k. ap (λ x. bytes_eq x k.0.now && (c.args.count == k.1)) c.as_str.ensures) c.as_str.ensures refl
    c.in_ok-is_new.ensures.added c.in_ok-is_new.ensures.keys c.note_if.ensures
