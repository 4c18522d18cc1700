use Rattle.std.proofs.Common.{◌≡◌, ◌≢◌, ◌++◌, List, ℕ, Option, Some, None, Bor}
use Rattle.std.specs.Prelude.{IfNone, IfSome, MatchOption}
use Rattle.std.proofs.lemmas.Bool.Decides.{Decides-eqb}
use Rattle.std.proofs.lemmas.Slice.Eq.{strip_prefix_is}
use Rattle.line_theory.proofs.split.behind.Goals as goal

found : (r : Option (Bor (List ℕ))) (bs front : List ℕ) → MatchOption r ((rest : List ℕ) → bs ≢ front ++ rest) (λ x. bs ≡ front ++ x.now) → IfSome r (λ x. bs ≡ front ++ x.now)
found None bs front h = tt
found (Some x) bs front h = h

none : (r : Option (Bor (List ℕ))) (bs front : List ℕ) → MatchOption r ((rest : List ℕ) → bs ≢ front ++ rest) (λ x. bs ≡ front ++ x.now) → IfNone r ((rest : List ℕ) → bs ≢ front ++ rest)
none None bs front h = h
none (Some x) bs front h = tt

pub returns : goal.returns
returns c =
    let told = strip_prefix_is Decides-eqb c.args.bytes.now c.args.front.now c.strip_prefix.result c.strip_prefix.ensures.cases in record {
      found = found c.strip_prefix.result c.args.bytes.now c.args.front.now told;
      none = none c.strip_prefix.result c.args.bytes.now c.args.front.now told;
    }
