use Rattle.cert_text.proofs.Counts.{name_utf8}
use Rattle.cert_text.proofs.entry.name_of.Goals as goal

pub returns-in_default : goal.returns-in_default
returns-in_default c = λ x h e. absurd (c.in_default.ensures.cases.0 (name_utf8 x c.args.bytes.now h e))
