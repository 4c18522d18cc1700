use Rattle.std.proofs.Common.{sym, ◌∙◌, ◌<◌, length, arith}
use Rattle.std.proofs.lemmas.Result.{err_from_is_err_and}
use Rattle.value_text.specs.inner.Reading.{all_listed, elem_below, listed_part, next_part}
use Rattle.value_text.proofs.Turns.{listed_none, listed_read, unparted, continued_turn, continued_none, continued_end, none_along}
use Rattle.value_text.proofs.elems.read_elems.Goals as goal

pub returns-in_err-elem-clause-read : goal.returns-in_err-elem-clause-read
returns-in_err-elem-clause-read c =
    let p = err_from_is_err_and c.from_residual.result c.from_residual.ensures.1 in
    rw (p.1, p.2) (none_along _ ((elem_below c.args.nesting) c.loop-alloc.rest.now) (all_listed 125 (elem_below c.args.nesting) c.args.bytes.now)
    (λ e. sym c.loop-alloc.invariant.read ∙ continued_none 125 (listed_part 125 (elem_below c.args.nesting)) c.loop-alloc.elems c.loop-alloc.rest.now (sym c.loop-alloc-test.ensures)
    (listed_none 125 (elem_below c.args.nesting) c.loop-alloc.rest.now e)) c.in_err-elem.ensures.read)

pub returns-in_err-rest-clause-read : goal.returns-in_err-rest-clause-read
returns-in_err-rest-clause-read c =
    let p = err_from_is_err_and c.from_residual-in_err-rest.result c.from_residual-in_err-rest.ensures.1 in
    rw (p.1, p.2) (none_along _ (next_part 125 c.in_ok-elem.after.now) (all_listed 125 (elem_below c.args.nesting) c.args.bytes.now)
    (λ e. sym c.loop-alloc.invariant.read ∙ continued_none 125 (listed_part 125 (elem_below c.args.nesting)) c.loop-alloc.elems c.loop-alloc.rest.now (sym c.loop-alloc-test.ensures)
    (unparted 125 (elem_below c.args.nesting) c.loop-alloc.rest.now c.in_ok-elem.after.now c.in_ok-elem.elem c.in_ok-elem.ensures.read e)) c.in_err-rest.ensures.read)

pub loop-alloc-preserved : goal.loop-alloc-preserved
loop-alloc-preserved c =
    let less : length c.in_ok-rest.rest.now < length c.loop-alloc.rest.now = omega (arith, c.in_ok-elem.ensures.shorter, c.in_ok-rest.ensures.shorter) in
    record {
      read = continued_turn 125 (listed_part 125 (elem_below c.args.nesting)) c.loop-alloc.elems c.push.new.self c.loop-alloc.rest.now c.in_ok-rest.rest.now c.in_ok-elem.elem (sym c.loop-alloc-test.ensures)
          (listed_read 125 (elem_below c.args.nesting) c.loop-alloc.rest.now c.in_ok-elem.after.now c.in_ok-rest.rest.now c.in_ok-elem.elem c.in_ok-elem.ensures.read c.in_ok-rest.ensures.read) less c.in_ok-push.ensures.ok ∙ c.loop-alloc.invariant.read;
      within = omega (arith, less, c.loop-alloc.invariant.within);
    }

pub returns-clause-read : goal.returns-clause-read
returns-clause-read c = sym c.loop-alloc.invariant.read ∙ (rw c.behind_first.ensures (continued_end 125 (listed_part 125 (elem_below c.args.nesting)) c.loop-alloc.elems c.loop-alloc.rest.now (sym c.loop-alloc-test.ensures)))
