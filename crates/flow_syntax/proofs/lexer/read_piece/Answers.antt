use Rattle.std.proofs.Common.{Some, take, sym, subst, arith}
use Rattle.flow_syntax.specs.declared.lexer.piece.Piece.TheVariants as pieces
use Rattle.flow_syntax.specs.declared.token.TokenKind.TheVariants as kinds
use Rattle.flow_syntax.proofs.Steps.{Passes, no_piece, blank_passes, name_passes, symbol_passes, number_passes, number_too_large}
use Rattle.flow_syntax.proofs.Lexemes.{piece_number}
use Rattle.flow_syntax.proofs.Numbers.{number_found, number_none}
use Rattle.flow_syntax.proofs.Pieces.{piece_taken, symbol_text, name_text}
use Rattle.flow_syntax.proofs.lexer.read_piece.Goals as goal

pub returns-in_default : goal.returns-in_default
returns-in_default c = rw c.at.ensures (0, omega arith, no_piece c.args.bytes.now (sym c.in_default.ensures) c.requires.some)

pub slice_bounds-name_kind-end : goal.slice_bounds-name_kind-end
slice_bounds-name_kind-end c =
    sym (piece_taken c.args.bytes.now (pieces.Name c.in-Name.len) cc)

pub name_kind-requires : goal.name_kind-requires
name_kind-requires c = name_text c.args.bytes.now c.in-Name.len cc

pub slice_bounds-number_of-end : goal.slice_bounds-number_of-end
slice_bounds-number_of-end c =
    sym (piece_taken c.args.bytes.now (pieces.Number c.in-Number.len) cc)

pub number_of-requires : goal.number_of-requires
number_of-requires c = piece_number c.args.bytes.now c.in-Number.len cc

pub slice_bounds-text_of-end : goal.slice_bounds-text_of-end
slice_bounds-text_of-end c =
    sym (piece_taken c.args.bytes.now (pieces.Symbol c.in-Symbol.len) cc)

pub text_of-requires : goal.text_of-requires
text_of-requires c = symbol_text c.args.bytes.now c.in-Symbol.len cc

pub returns-in-Blank : goal.returns-in-Blank
returns-in-Blank c = blank_passes c.args.bytes.now c.in-Blank.len cc

pub returns-in_ok-name_kind-in-Name : goal.returns-in_ok-name_kind-in-Name
returns-in_ok-name_kind-in-Name c =
    subst (λ kind. Passes c.args.bytes.now c.in-Name.len (Some kind)) (sym c.in_ok-name_kind-in-Name.ensures) (name_passes c.args.bytes.now c.in-Name.len cc)

pub returns-in-Some-number_of : goal.returns-in-Some-number_of
returns-in-Some-number_of c =
    let found = number_found (take c.in-Number.len c.args.bytes.now) c.in-Some-number_of.number (sym c.in-Some-number_of.ensures) in
    subst (λ z. Passes c.args.bytes.now c.in-Number.len (Some (kinds.Number z))) (sym found.1) (number_passes c.args.bytes.now c.in-Number.len (cc) found.0)

pub returns-in-None : goal.returns-in-None
returns-in-None c = rw c.at-in-None.ensures (0, omega arith, number_too_large c.args.bytes.now c.in-Number.len (cc) (number_none (take c.in-Number.len c.args.bytes.now) (sym c.in-None.ensures)))

pub returns-in_ok-text_of-in-Symbol : goal.returns-in_ok-text_of-in-Symbol
returns-in_ok-text_of-in-Symbol c =
    subst (λ text. Passes c.args.bytes.now c.in-Symbol.len (Some (kinds.Symbol text))) (sym c.in_ok-text_of-in-Symbol.ensures) (symbol_passes c.args.bytes.now c.in-Symbol.len cc)
