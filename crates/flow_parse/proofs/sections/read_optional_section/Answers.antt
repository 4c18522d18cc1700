use Rattle.std.proofs.Common.{sym, ◌∙◌, refl}
use Rattle.flow_parse.proofs.SectionLaws.{section_there, section_left_out}
use Rattle.flow_parse.proofs.sections.read_optional_section.Goals as goal

pub returns-then-not-begins : goal.returns-then-not-begins
returns-then-not-begins g c = section_left_out g.D.Declaration.symbol c.args.word c.args.cursor.tokens.now (sym c.if-not-begins.ensures) ∙ rw c.new.ensures refl

pub returns : goal.returns
returns g c = rw (section_there g.D.Declaration.symbol c.args.word c.args.cursor.tokens.now (sym c.if-not-begins.ensures)) c.read_section.ensures
