use Rattle.std.proofs.Common.{false, Some, refl, ap, sym, ◌∙◌}
use Rattle.std.proofs.lemmas.Bool.{both_ways}
use Rattle.value_text.proofs.Tokens.{is_a_text, is_no_text}
use Rattle.value_text.proofs.bytes.made_text.Goals as goal

pub returns-in-Some : goal.returns-in-Some
returns-in-Some c = is_a_text c.args.bytes (c.in-Some.ensures.utf8.0 refl) ∙ ap Some (sym c.in-Some.ensures.found)

pub returns-in-None : goal.returns-in-None
returns-in-None c = is_no_text c.args.bytes (λ u. both_ways false refl (c.in-None.ensures.utf8.1 u))
