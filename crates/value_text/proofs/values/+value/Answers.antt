use Rattle.std.proofs.Common.{ℕ, List, sym, ◌∙◌, ◌<◌, length, arith}
use Rattle.std.proofs.lemmas.Result.{err_from_is_err_and}
use Rattle.flow_term.specs.declared.value.Entry.{Entry}
use Rattle.value_text.specs.inner.Reading.{Reading, all_listed, elem_below, entry_with, listed_part, next_part, value_below}
use Rattle.value_text.proofs.Tokens.{not_zero}
use Rattle.value_text.proofs.Turns.{listed_none, listed_read, unparted, continued_turn, continued_none, continued_end, none_along}
use Rattle.value_text.proofs.ValueTexts.{map_found, map_refused}
use Rattle.value_text.proofs.values.+value.Goals as goal

abbrev entry : ℕ → List ℕ → Reading Entry
entry n = entry_with (elem_below n) (value_below n)

pub read_entries-returns-in_err-entry-clause-read : goal.read_entries-returns-in_err-entry-clause-read
read_entries-returns-in_err-entry-clause-read t c =
    let p = err_from_is_err_and c.from_residual.result c.from_residual.ensures.1 in
    rw (p.1, p.2) (none_along _ ((entry c.args.nesting) c.loop-alloc.rest.now) (all_listed 93 (entry c.args.nesting) c.args.bytes.now)
    (λ e. sym c.loop-alloc.invariant.read ∙ continued_none 93 (listed_part 93 (entry c.args.nesting)) c.loop-alloc.entries c.loop-alloc.rest.now (sym c.loop-alloc-test.ensures)
    (listed_none 93 (entry c.args.nesting) c.loop-alloc.rest.now e)) c.in_err-entry.ensures.read)

pub read_entries-returns-in_err-rest-clause-read : goal.read_entries-returns-in_err-rest-clause-read
read_entries-returns-in_err-rest-clause-read t c =
    let p = err_from_is_err_and c.from_residual-in_err-rest.result c.from_residual-in_err-rest.ensures.1 in
    rw (p.1, p.2) (none_along _ (next_part 93 c.in_ok-entry.after.now) (all_listed 93 (entry c.args.nesting) c.args.bytes.now)
    (λ e. sym c.loop-alloc.invariant.read ∙ continued_none 93 (listed_part 93 (entry c.args.nesting)) c.loop-alloc.entries c.loop-alloc.rest.now (sym c.loop-alloc-test.ensures)
    (unparted 93 (entry c.args.nesting) c.loop-alloc.rest.now c.in_ok-entry.after.now c.in_ok-entry.entry c.in_ok-entry.ensures.read e)) c.in_err-rest.ensures.read)

pub read_entries-loop-alloc-preserved : goal.read_entries-loop-alloc-preserved
read_entries-loop-alloc-preserved t c =
    let less : length c.in_ok-rest.rest.now < length c.loop-alloc.rest.now = omega (arith, c.in_ok-entry.ensures.shorter, c.in_ok-rest.ensures.shorter) in
    record {
      read = continued_turn 93 (listed_part 93 (entry c.args.nesting)) c.loop-alloc.entries c.push.new.self c.loop-alloc.rest.now c.in_ok-rest.rest.now c.in_ok-entry.entry (sym c.loop-alloc-test.ensures)
          (listed_read 93 (entry c.args.nesting) c.loop-alloc.rest.now c.in_ok-entry.after.now c.in_ok-rest.rest.now c.in_ok-entry.entry c.in_ok-entry.ensures.read c.in_ok-rest.ensures.read) less c.in_ok-push.ensures.ok ∙ c.loop-alloc.invariant.read;
      within = omega (arith, less, c.loop-alloc.invariant.within);
    }

pub read_entries-returns-clause-read : goal.read_entries-returns-clause-read
read_entries-returns-clause-read t c = sym c.loop-alloc.invariant.read ∙ (rw c.behind_first.ensures (continued_end 93 (listed_part 93 (entry c.args.nesting)) c.loop-alloc.entries c.loop-alloc.rest.now (sym c.loop-alloc-test.ensures)))

pub read_map-returns-then-not-keys_rise-clause-read : goal.read_map-returns-then-not-keys_rise-clause-read
read_map-returns-then-not-keys_rise-clause-read t c =
    map_refused c.args.nesting (elem_below c.args.nesting) (value_below c.args.nesting) _ _ _ _ _ (not_zero c.args.nesting (omega (arith, c.if-nesting-eq0.false))) c.in_ok-entries.ensures.read c.as_slice.ensures c.keys_rise.ensures c.if-not-keys_rise.true

pub read_map-returns-clause-read : goal.read_map-returns-clause-read
read_map-returns-clause-read t c =
    map_found c.args.nesting (elem_below c.args.nesting) (value_below c.args.nesting) _ _ _ _ _ (not_zero c.args.nesting (omega (arith, c.if-nesting-eq0.false))) c.in_ok-entries.ensures.read c.as_slice.ensures c.keys_rise.ensures c.if-not-keys_rise.false
