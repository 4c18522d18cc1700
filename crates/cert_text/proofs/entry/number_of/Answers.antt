use Rattle.std.proofs.Common.{◌≡◌, ◌∙◌, ap, sym, decimal}
use Rattle.std.specs.Prelude.{Ok}
use Rattle.cert_text.proofs.Counts.{decimal_utf8, parsed}
use Rattle.cert_text.proofs.entry.number_of.Goals as goal

pub returns-in_default-clause-none : goal.returns-in_default-clause-none
returns-in_default-clause-none c = λ n small e. absurd (c.in_default.ensures.cases.0 (decimal_utf8 n c.args.digits.now small e))

pub returns-in_default-parse-clause-none : goal.returns-in_default-parse-clause-none
returns-in_default-parse-clause-none c = λ n small e.
    let told : c.parse.result ≡ Ok n = parsed n c.args.digits.now c.in-Ok.text.now c.parse.result small e c.in-Ok.ensures.cases.0 c.parse.ensures.value.0 in cc (told, c.in_default-parse.is)

pub returns-then-not-is_decimal-clause-none : goal.returns-then-not-is_decimal-clause-none
returns-then-not-is_decimal-clause-none c = λ n small e.
    let told : c.parse.result ≡ Ok n = parsed n c.args.digits.now c.in-Ok.text.now c.parse.result small e c.in-Ok.ensures.cases.0 c.parse.ensures.value.0 in
    let ok : Ok c.in-Ok-parse.number ≡ Ok n = sym c.in-Ok-parse.is ∙ told in
    let same : c.in-Ok-parse.number ≡ n = cc in
    let yes = c.is_decimal.ensures.1 (ap decimal same ∙ e) in cc (yes, c.if-not-is_decimal.true)
