use Rattle.std.proofs.Common.{Some, refl, ap, sym, ◌∙◌}
use Rattle.value_text.proofs.Tokens.{is_a_text, not_utf8}
use Rattle.value_text.proofs.bytes.text_of.Goals as goal

pub returns-in_default : goal.returns-in_default
returns-in_default c = rw (not_utf8 c.args.bytes.now c.in_default.ensures.cases.0) refl

pub returns : goal.returns
returns c = is_a_text c.args.bytes.now c.in-Ok.ensures.cases.1 ∙ ap Some (sym (c.from_string.ensures ∙ c.in_ok-from_str.ensures.ok ∙ c.in-Ok.ensures.cases.0))
