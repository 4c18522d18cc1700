-- The first token, by its kind.
use Rattle.std.proofs.Common.{◌≡◌, ℕ, ◌≤◌, true, false, arith}
use Rattle.std.specs.Prelude.{◌==◌, ◌||◌, nat_le}
use Rattle.std.proofs.lemmas.Bool.Decides.{nat_tests}
use Rattle.flow_syntax.specs.declared.token.Token.{Token}
use Rattle.spec_grammar.specs.Kinds.{code_of, kind_of}
use Rattle.spec_grammar.specs.declared.kind.Kind.{Kind}

pub kind_is : (k : Kind) (t : Token) → ((kind_of t == code_of k) || false) ≡ true → kind_of t ≡ code_of k
kind_is k t h = grind (arith, nat_tests)

pub fits : (l : ℕ) → l ≤ 256 → nat_le l 256 ≡ true
fits l h = grind (arith, nat_tests)
