use Rattle.std.proofs.Common.{rules}
use Rattle.flow_parse.proofs.SectionLaws.{section_at}
use Rattle.flow_parse.proofs.sections.read_section.Goals as goal

pub returns-in_err-rest : goal.returns-in_err-rest
returns-in_err-rest g c = rw (section_at g.D.Declaration.symbol c.args.word c.args.cursor.tokens.now) (search rules)

pub returns : goal.returns
returns g c = rw (section_at g.D.Declaration.symbol c.args.word c.args.cursor.tokens.now) (search rules)
