use Rattle.std.proofs.Common.{take}
use Rattle.check_base.specs.Earliest.{Gathers}
use Rattle.check_decls.specs.inner.Noting.{OneHas}
use Rattle.check_decls.specs.inner.Sections.{RuleFaults}
use Rattle.check_decls.proofs.section.note_rules.Given as goal

-- the rules before this one were looked at
abbrev pub invariant-loop-rule : goal.invariant-loop-rule
invariant-loop-rule l = Gathers l.fn.earliest l.earliest (OneHas (RuleFaults l.spec l.names) (take l.rule-index l.rules))
