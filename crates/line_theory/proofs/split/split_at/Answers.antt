use Rattle.std.proofs.Common.{◌≡◌, length, arith}
use Rattle.line_theory.proofs.LineLemmas.{nothing_found, split_found}
use Rattle.line_theory.proofs.split.split_at.Goals as goal

pub returns-then-len-bytes-clause-none : goal.returns-then-len-bytes-clause-none
returns-then-len-bytes-clause-none c = nothing_found c.args.byte c.args.bytes.now c.len_before-len.result c.len_before-len.ensures.len (omega arith)

pub returns-clause-found : goal.returns-clause-found
returns-clause-found c = split_found c.args.byte c.args.bytes.now c.len_before-len.result c.len_before-len.ensures.len c.len_before-len.ensures.within (λ (e : c.len_before-len.result ≡ length c.args.bytes.now). omega arith)
