use Rattle.std.proofs.Common.{◌≡◌, ◌∷◌, [], ◌++◌, sym, ap, ◌∙◌}
use Rattle.flow_parse.proofs.RuleLaws.{parts_at}
use Rattle.flow_parse.proofs.message.read_parts.Goals as goal
use Rattle.spec_grammar.specs.Rules.{part_of}

pub returns : goal.returns
returns c =
    let parts : c.push.new.self ≡ part_of c.in_ok-first.first.now ∷ [] = c.in_ok-push.ensures.ok ∙ ap (λ xs. xs ++ c.in_ok-part.part ∷ []) c.new-parts.ensures ∙ ap (λ p. p ∷ []) c.in_ok-part.ensures in
    rw (parts_at c.args.cursor.tokens.now, c.in_ok-first.ensures.reads, sym parts) c.read_more_parts.ensures
