use Rattle.std.proofs.Common.{◌≡◌, drop, map}
use Rattle.std.specs.Prelude.{find, nat_eq}
use Rattle.std.specs.List.{starts_with}
use Rattle.flow_syntax.proofs.lexer.piece.prefix_len_among.Given as goal

abbrev pub invariant-loop-text : goal.invariant-loop-text
invariant-loop-text l =
    find (λ s. starts_with nat_eq l.bytes s) (map (λ s. s.now) (drop l.text-index l.texts))
    ≡ find (λ s. starts_with nat_eq l.bytes s) (map (λ s. s.now) l.texts)
