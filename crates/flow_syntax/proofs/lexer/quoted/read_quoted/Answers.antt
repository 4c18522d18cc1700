use Rattle.std.proofs.Common.{◌≡◌, ◌+◌, ◌<◌, Some, None, drop, length, sym, ap, subst, arith}
use Rattle.std.proofs.lemmas.List.{take_rest}
use Rattle.flow_syntax.specs.Lexing.{part_at, quoted_kind}
use Rattle.flow_syntax.proofs.QuotedTexts.{IsReadTo, begun, read_part, not_closed, value_utf8, closed, wrong_escape}
use Rattle.flow_syntax.proofs.Steps.{Passes}
use Rattle.flow_syntax.proofs.lexer.quoted.read_quoted.Goals as goal

pub loop-byte-init : goal.loop-byte-init
loop-byte-init c =
    let first = begun c.args.bytes.now c.requires.opens in
    record {
      within = first.0;
      begun = omega arith;
      spelled = subst (IsReadTo c.args.bytes.now 1) (sym c.new-value.ensures) first.1;
    }

pub loop-byte-preserved : goal.loop-byte-preserved
loop-byte-preserved c =
    let found : part_at (drop c.loop-byte.at c.args.bytes.now) ≡ Some (c.in-Some.byte, c.in-Some.len) = sym (rw take_rest at c.in-Some.ensures) in
    let read = read_part c.args.bytes.now c.loop-byte.value c.loop-byte.at c.in-Some.byte c.in-Some.len c.loop-byte.invariant.within c.loop-byte.invariant.spelled found in
    record {
      within = read.1;
      begun = omega arith;
      spelled = subst (IsReadTo c.args.bytes.now (c.loop-byte.at + c.in-Some.len)) (sym c.in_ok-push.ensures.ok) read.2;
    }

pub unreachable-requires : goal.unreachable-requires
unreachable-requires c =
    let within : c.loop-byte.at < length c.args.bytes.now = omega arith in
    let no = c.in_default-from_utf8.ensures.utf8.1 (value_utf8 c.args.bytes.now c.loop-byte.value c.loop-byte.at c.requires.utf8 within c.loop-byte.invariant.spelled c.if-bytes-at-ne34.false) in
    cc

pub returns-then-at-bytes : goal.returns-then-at-bytes
returns-then-at-bytes c = rw c.at.ensures (0, omega arith, not_closed c.args.bytes.now c.loop-byte.value c.loop-byte.at c.if-at-bytes.true c.loop-byte.invariant.spelled)

pub returns-then-bytes-at-ne34 : goal.returns-then-bytes-at-ne34
returns-then-bytes-at-ne34 c =
    let within : c.loop-byte.at < length c.args.bytes.now = omega arith in
    let none : part_at (drop c.loop-byte.at c.args.bytes.now) ≡ None = sym (rw take_rest at c.in_default.ensures) in
    let wrong = wrong_escape c.args.bytes.now c.loop-byte.value c.loop-byte.at within c.loop-byte.invariant.spelled c.if-bytes-at-ne34.true none in
    rw c.at-then-bytes-at-ne34.ensures (wrong.0, ap (λ n. c.args.place + n) wrong.1, wrong.2)

pub returns : goal.returns
returns c =
    let within : c.loop-byte.at < length c.args.bytes.now = omega arith in
    subst (λ text. Passes c.args.bytes.now (c.loop-byte.at + 1) (quoted_kind text)) (sym c.in-Some-from_utf8.ensures.found)
    (closed c.args.bytes.now c.loop-byte.value c.loop-byte.at within c.loop-byte.invariant.spelled c.if-bytes-at-ne34.false)
