use Rattle.std.proofs.Common.{sym, ◌∙◌}
use Rattle.std.specs.Cmp.Lexicographic.{same_text}
use Rattle.flow_term.proofs.StepTexts.{only_root}
use Rattle.flow_term.proofs.path_text.read_path.Goals as goal

pub returns-then-eq-clause-only : goal.returns-then-eq-clause-only
returns-then-eq-clause-only c = λ path small text.
    c.from_vec.ensures ∙ c.new.ensures.items ∙ sym (only_root path small (text ∙ same_text c.args.bytes.now c.as_slice.result.now c.if-eq.ensures ∙ c.as_slice.ensures))
