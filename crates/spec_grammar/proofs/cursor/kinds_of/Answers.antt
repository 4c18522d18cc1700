use Rattle.std.proofs.Common.{map, take, ◌++◌, ◌∷◌, [], sym, ap, ◌∙◌}
use Rattle.std.proofs.lemmas.List.{map-append, map_more}
use Rattle.flow_syntax.specs.declared.token.Token.{Token}
use Rattle.spec_grammar.specs.Kinds.{code_of, kind_of}
use Rattle.spec_grammar.proofs.cursor.kinds_of.Goals as goal

pub loop-token-preserved : goal.loop-token-preserved
unfolding kind_of
loop-token-preserved c =
    let i = c.loop-token.token-index in
    let ts = c.args.tokens.now in
    ap (map code_of) c.in_ok-push.ensures.ok ∙ map-append code_of c.loop-token.kinds (c.of.result ∷ []) ∙ ap (λ zs. zs ++ code_of c.of.result ∷ []) c.loop-token.invariant
    ∙ ap (λ k. map kind_of (take i ts) ++ code_of k ∷ []) c.of.ensures
    ∙ ap (λ (t : Token). map kind_of (take i ts) ++ kind_of t ∷ []) c.token-item.is
    ∙ sym (map_more kind_of ts i c.token-item.result c.loop-token-test.true)
