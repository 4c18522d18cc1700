use Rattle.std.proofs.Common.{sym, ap, subst, ◌∙◌}
use Rattle.std.specs.Prelude.{Contains}
use Rattle.std.proofs.lemmas.Bool.{false≢true}
use Rattle.flow_syntax.specs.declared.token.TokenKind.TheVariants as kinds
use Rattle.flow_syntax.specs.Tokens.{reserved_words}
use Rattle.flow_syntax.proofs.Lexemes.{reserved_kind, other_kind}
use Rattle.flow_syntax.proofs.lexer.name_kind.Goals as goal

pub returns-then-is_reserved : goal.returns-then-is_reserved
returns-then-is_reserved c =
    let same = c.as_str.ensures ∙ c.in_ok-text.ensures in
    ap kinds.Word c.in_ok-text.ensures ∙ sym (reserved_kind c.args.name.now (subst (Contains reserved_words) same (c.is_reserved.ensures.0 c.if-is_reserved.true)))

pub returns : goal.returns
returns c =
    let same = c.as_str.ensures ∙ c.in_ok-text.ensures in
    ap kinds.Ident c.in_ok-text.ensures
    ∙ sym (other_kind c.args.name.now (λ h. false≢true (sym c.if-is_reserved.false ∙ c.is_reserved.ensures.1 (subst (Contains reserved_words) (sym same) h))))
