use Rattle.std.proofs.Common.{sym, ◌∙◌}
use Rattle.flow_syntax.specs.Tokens.{reserved_words}
use Rattle.flow_syntax.proofs.Fronts.{any_found, found_any}
use Rattle.flow_syntax.proofs.words.is_reserved.Goals as goal

pub returns : goal.returns
returns c = (λ h. any_found reserved_words c.args.text.now (sym c.is_among.ensures ∙ h), λ h. c.is_among.ensures ∙ found_any reserved_words c.args.text.now h)
