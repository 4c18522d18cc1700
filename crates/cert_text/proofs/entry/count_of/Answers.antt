use Rattle.std.proofs.Common.{◌≡◌, ◌<◌, ◌^◌, arith}
use Rattle.cert_text.proofs.Counts.{count_behind, one_number}
use Rattle.cert_text.proofs.entry.count_of.Goals as goal

pub returns-in_default-clause-none : goal.returns-in_default-clause-none
returns-in_default-clause-none c = λ n small e. c.in_default.ensures.none n (omega (arith, small)) (count_behind c.args.word.now c.args.body.now c.in_ok-digits.digits.now n c.in_ok-digits.ensures.found e)

pub returns-then-number-ge10000000000000000000-clause-none : goal.returns-then-number-ge10000000000000000000-clause-none
returns-then-number-ge10000000000000000000-clause-none c = λ n small e.
    let same = one_number n c.in-Some.number c.in_ok-digits.digits.now small (omega arith) (count_behind c.args.word.now c.args.body.now c.in_ok-digits.digits.now n c.in_ok-digits.ensures.found e) c.in-Some.ensures.found in
    omega (arith, same, small)
