use Rattle.std.proofs.Common.{◌+◌, drop, sym, subst, arith}
use Rattle.std.proofs.lemmas.List.{take_rest}
use Rattle.std.proofs.lemmas.Result.{err_from_is_err_and}
use Rattle.flow_syntax.specs.Tokens.{TokensFrom}
use Rattle.flow_syntax.proofs.Steps.{Passes}
use Rattle.flow_syntax.proofs.TokenTexts.{Reached, pass_some, pass_within, pass_utf8, pass_tokens, pass_fault, at_end, at_fault}
use Rattle.flow_syntax.proofs.lexer.read_tokens.Goals as goal

pub returns-in_err-kind-clause-fault : goal.returns-in_err-kind-clause-fault
returns-in_err-kind-clause-fault c =
    let p = err_from_is_err_and c.from_residual.result c.from_residual.ensures.1 in
    rw (p.1, p.2) (at_fault c.loop-at.at c.args.bytes.now _ (λ kind. kind) c.in_err-kind.field-0.0 (take_rest c.args.bytes.now c.loop-at.at) c.in_err-kind.ensures c.loop-at.invariant.fault)

pub loop-at-smaller : goal.loop-at-smaller
loop-at-smaller c =
    let passes : Passes (drop c.loop-at.at c.args.bytes.now) c.in_ok-kind.len c.in_ok-kind.kind = rw take_rest at c.in_ok-kind.ensures in
    let some = pass_some (drop c.loop-at.at c.args.bytes.now) c.in_ok-kind.len c.in_ok-kind.kind passes in
    let within = pass_within c.loop-at.at c.args.bytes.now c.in_ok-kind.len c.in_ok-kind.kind c.loop-at.invariant.within passes in
    omega arith

pub loop-at-preserved : goal.loop-at-preserved
loop-at-preserved c =
    let bytes = c.args.bytes.now in
    let at = c.loop-at.at in
    let n = c.in_ok-kind.len in
    let kind = c.in_ok-kind.kind in
    let passes : Passes (drop at bytes) n kind = rw take_rest at c.in_ok-kind.ensures in
    record {
      within = pass_within at bytes n kind c.loop-at.invariant.within passes;
      utf8 = pass_utf8 at bytes n kind c.loop-at.invariant.utf8 passes;
      found = subst (Reached (at + n) bytes) (sym c.in_ok-push_token.ensures) (pass_tokens at bytes c.loop-at.tokens n kind passes c.loop-at.invariant.found);
      fault = pass_fault at bytes n kind passes c.loop-at.invariant.fault;
    }

pub returns-clause-found : goal.returns-clause-found
returns-clause-found c =
    subst (TokensFrom 0 c.args.bytes.now) (sym c.in_ok-push_token-2.ensures) (at_end c.loop-at.at c.args.bytes.now c.loop-at.tokens (omega arith) c.loop-at.invariant.found)
