use Rattle.std.proofs.Common.{◌≡◌, ◌-◌, sym, ◌∙◌, Some, length, take, drop, add-one, refl}
use Rattle.flow_term.proofs.StepTexts.{digits_behind, digits_in_front}
use Rattle.flow_term.proofs.path_text.first_step.Goals as goal

pub number_of-requires : goal.number_of-requires
number_of-requires c = rw c.digits_len-len.ensures (digits_in_front (take (length c.args.bytes.now - 1) (drop 1 c.args.bytes.now)))

pub returns-in_err-step-clause-only : goal.returns-in_err-step-clause-only
returns-in_err-step-clause-only c = λ n rest small b e.
    let digits = digits_behind c.args.bytes.now rest n c.digits_len-len.result small b e c.digits_len-len.ensures in
    let told : c.number_of.result ≡ Some n = c.number_of.ensures.only n small digits.1 in
    cc (told, c.in_err-step.was)

pub returns-clause-only : goal.returns-clause-only
returns-clause-only c = λ n rest small b e.
    let digits = digits_behind c.args.bytes.now rest n c.digits_len-len.result small b e c.digits_len-len.ensures in
    let told : c.number_of.result ≡ Some n = c.number_of.ensures.only n small digits.1 in
    let same : Some c.in_ok-step.step ≡ Some n = sym c.in_ok-step.was ∙ told in
    let number : c.in_ok-step.step ≡ n = cc in
    rw (number, digits.0, add-one) refl
