use Rattle.std.proofs.Common.{sym, subst}
use Rattle.flow_syntax.specs.declared.lexer.refusal.LexFaultKind.TheVariants as faults
use Rattle.flow_syntax.specs.TokenFaults.{LexFaulty}
use Rattle.flow_syntax.proofs.TokenTexts.{invalid, faulty_same, told_only, told_fault, told_first, told_rising, told_last}
use Rattle.flow_syntax.proofs.IdentifierTexts.{told_identifiers}
use Rattle.flow_syntax.proofs.lexer.lex.Goals as goal

pub returns-in-Err-clause-fault : goal.returns-in-Err-clause-fault
returns-in-Err-clause-fault c = rw c.at.ensures (subst (λ n. LexFaulty c.args.bytes.now n faults.NotUtf8) (sym c.valid_up_to.ensures) (invalid c.args.bytes.now _ c.in-Err.ensures.cases.1))

pub returns-in-Err-clause-first : goal.returns-in-Err-clause-first
returns-in-Err-clause-first c offset kind f =
    let fault = subst (λ n. LexFaulty c.args.bytes.now n faults.NotUtf8) (sym c.valid_up_to.ensures) (invalid c.args.bytes.now _ c.in-Err.ensures.cases.1) in
    rw c.at.ensures (faulty_same c.args.bytes.now c.valid_up_to.result offset faults.NotUtf8 kind fault f)

pub returns-clause-only : goal.returns-clause-only
returns-clause-only c = told_only c.args.bytes.now c.in_default.ensures.cases.1 c.read_tokens.result c.read_tokens.ensures.found c.read_tokens.ensures.fault

pub returns-clause-fault : goal.returns-clause-fault
returns-clause-fault c = told_fault c.args.bytes.now c.in_default.ensures.cases.1 c.read_tokens.result c.read_tokens.ensures.fault

pub returns-clause-first : goal.returns-clause-first
returns-clause-first c = told_first c.args.bytes.now c.in_default.ensures.cases.1 c.read_tokens.result c.read_tokens.ensures.found c.read_tokens.ensures.fault

pub returns-clause-rising : goal.returns-clause-rising
returns-clause-rising c = told_rising c.args.bytes.now c.in_default.ensures.cases.1 c.read_tokens.result c.read_tokens.ensures.found

pub returns-clause-last : goal.returns-clause-last
returns-clause-last c = told_last c.args.bytes.now c.in_default.ensures.cases.1 c.read_tokens.result c.read_tokens.ensures.found

pub returns-clause-identifiers : goal.returns-clause-identifiers
returns-clause-identifiers c = told_identifiers c.args.bytes.now c.read_tokens.result c.read_tokens.ensures.found
