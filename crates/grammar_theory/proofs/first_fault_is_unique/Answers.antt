use Rattle.grammar_theory.proofs.FaultLemmas.{no_text, same_fault}
use Rattle.grammar_theory.proofs.first_fault_is_unique.Goals as goal

pub returns : goal.returns
returns g c = record { one = same_fault g.S.Syntax.grammar; none = no_text g.S.Syntax.grammar }
