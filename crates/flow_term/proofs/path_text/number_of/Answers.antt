use Rattle.std.proofs.Common.{◌≡◌, true, ap, ◌∙◌, sym, get_or, length, ◌≤◌}
use Rattle.std.specs.Prelude.{Ok, IfOk, decimal}
use Rattle.std.specs.Str.{all_ascii_digits}
use Rattle.flow_term.proofs.StepTexts.{no_leading_zero, parsed, parsed_decimal}
use Rattle.flow_term.proofs.path_text.number_of.Goals as goal

pub returns-then-has_leading_zero-clause-only : goal.returns-then-has_leading_zero-clause-only
returns-then-has_leading_zero-clause-only c = λ n small e.
    let long = c.has_leading_zero.ensures.yes c.if-has_leading_zero.true in
    absurd (no_leading_zero n c.args.digits.now small e long.0 long.1)

pub returns-in-Ok-parse-clause-found : goal.returns-in-Ok-parse-clause-found
returns-in-Ok-parse-clause-found c =
    let same : c.in-Ok.text.now ≡ c.args.digits.now = c.in-Ok.ensures.cases.0 in
    let digits : all_ascii_digits c.in-Ok.text.now ≡ true = ap all_ascii_digits same ∙ c.requires in
    let lead : get_or c.in-Ok.text.now 0 0 ≡ 48 → length c.in-Ok.text.now ≤ 1 = rw same (c.has_leading_zero.ensures.no c.if-has_leading_zero.false) in
    let told : IfOk c.parse.result (λ n. decimal n ≡ c.in-Ok.text.now) = parsed c.in-Ok.text.now c.parse.result digits lead c.parse.ensures.value.0 in
    let number : decimal c.in-Ok-parse.number ≡ c.in-Ok.text.now = rw c.in-Ok-parse.is at told in
    number ∙ same

pub returns-in-Ok-parse-clause-only : goal.returns-in-Ok-parse-clause-only
returns-in-Ok-parse-clause-only c = λ n small e.
    let same : c.in-Ok.text.now ≡ c.args.digits.now = c.in-Ok.ensures.cases.0 in
    let told : c.parse.result ≡ Ok n = parsed_decimal n c.in-Ok.text.now c.parse.result small (same ∙ e) c.parse.ensures.value.0 in
    let ok : Ok c.in-Ok-parse.number ≡ Ok n = sym c.in-Ok-parse.is ∙ told in
    cc

pub returns-in-Err-clause-only : goal.returns-in-Err-clause-only
returns-in-Err-clause-only c = λ n small e.
    let same : c.in-Ok.text.now ≡ c.args.digits.now = c.in-Ok.ensures.cases.0 in
    let told : c.parse.result ≡ Ok n = parsed_decimal n c.in-Ok.text.now c.parse.result small (same ∙ e) c.parse.ensures.value.0 in
    cc (told, c.in-Err.is)
