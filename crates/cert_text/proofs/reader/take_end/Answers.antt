use Rattle.std.proofs.Common.{◌≡◌, Err}
use Rattle.std.specs.Prelude.{codes}
use Rattle.cert_text.specs.declared.place.CertFaultKind.TheVariants as fault
use Rattle.cert_text.specs.declared.place.Place.TheVariants.{Values}
use Rattle.cert_text.specs.declared.refusal.LineFault.TheVariants as line
use Rattle.cert_text.proofs.Moving.{moves_at, no_end}
use Rattle.cert_text.proofs.reader.take_end.Goals as goal

pub returns-then-not-is_same : goal.returns-then-not-is_same
returns-then-not-is_same c =
    moves_at {X = Unit {0}} c.args.progress.now c.args.progress.now (Values 0) c.args.body.now (Err (line.Fault fault.End)) c.requires
    (no_end c.args.progress.now.certificate c.args.body.now (λ (e : c.args.body.now ≡ codes "end"). let yes = c.is_same.ensures.1 e in cc (yes, c.if-not-is_same.true)))
