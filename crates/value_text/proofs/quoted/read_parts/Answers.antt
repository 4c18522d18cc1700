use Rattle.std.proofs.Common.{sym, ◌∙◌, arith}
use Rattle.std.proofs.lemmas.Result.{err_from_is_err_and}
use Rattle.value_text.specs.inner.Reading.{all_until, part_of}
use Rattle.value_text.proofs.Turns.{continued_turn, continued_none, continued_end, none_along}
use Rattle.value_text.proofs.quoted.read_parts.Goals as goal

pub returns-in_err-byte-clause-read : goal.returns-in_err-byte-clause-read
returns-in_err-byte-clause-read c =
    let p = err_from_is_err_and c.from_residual.result c.from_residual.ensures.1 in
    rw (p.1, p.2) (none_along _ (part_of c.args.quote c.loop-rest.rest.now) (all_until c.args.quote (part_of c.args.quote) c.args.bytes.now)
    (λ e. sym c.loop-rest.invariant.read ∙ continued_none c.args.quote (part_of c.args.quote) c.loop-rest.parts c.loop-rest.rest.now (sym c.loop-rest-test.ensures) e) c.in_err-byte.ensures.read)

pub loop-rest-preserved : goal.loop-rest-preserved
loop-rest-preserved c = record {
  read = continued_turn c.args.quote (part_of c.args.quote) c.loop-rest.parts c.push.new.self c.loop-rest.rest.now c.in_ok-byte.after.now c.in_ok-byte.byte (sym c.loop-rest-test.ensures)
      c.in_ok-byte.ensures.read c.in_ok-byte.ensures.shorter c.in_ok-push.ensures.ok ∙ c.loop-rest.invariant.read;
  within = omega (arith, c.in_ok-byte.ensures.shorter, c.loop-rest.invariant.within);
}

pub returns-clause-read : goal.returns-clause-read
returns-clause-read c = sym c.loop-rest.invariant.read ∙ (rw c.behind_first.ensures (continued_end c.args.quote (part_of c.args.quote) c.loop-rest.parts c.loop-rest.rest.now (sym c.loop-rest-test.ensures)))
