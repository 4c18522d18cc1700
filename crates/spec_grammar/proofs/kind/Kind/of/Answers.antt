use Rattle.std.proofs.Common.{sym, ap, ◌∙◌}
use Rattle.spec_grammar.proofs.kind.Kind.of.Goals as goal
use Rattle.spec_grammar.specs.Kinds.{kind_in, kind_named, word_kinds}

pub returns-in-Word : goal.returns-in-Word
returns-in-Word c = c.word_kind.ensures ∙ ap (kind_in word_kinds) c.as_str.ensures ∙ ap kind_named (sym c.in-Word.is)
