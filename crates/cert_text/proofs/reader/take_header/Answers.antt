use Rattle.std.proofs.Common.{◌≡◌, Err}
use Rattle.std.specs.Prelude.{codes}
use Rattle.cert_text.specs.declared.place.CertFaultKind.TheVariants as fault
use Rattle.cert_text.specs.declared.place.Place.TheVariants.{Header}
use Rattle.cert_text.specs.declared.refusal.LineFault.TheVariants as line
use Rattle.cert_text.proofs.Moving.{moves_at, no_header}
use Rattle.cert_text.proofs.reader.take_header.Goals as goal

pub returns-then-not-is_same : goal.returns-then-not-is_same
returns-then-not-is_same c =
    moves_at {X = Unit {0}} c.args.progress.now c.args.progress.now Header c.args.body.now (Err (line.Fault fault.Header)) c.requires
    (no_header c.args.progress.now.certificate c.args.body.now (λ (e : c.args.body.now ≡ codes "flowcert 1"). let yes = c.is_same.ensures.1 e in cc (yes, c.if-not-is_same.true)))
