-- Walks over patterns, one part after another.
use Rattle.std.proofs.Common.{◌≡◌, ℕ, ◌+◌, ◌<◌, List, [], ◌∷◌, Option, Some, None, length, get_or, drop, drop-cons, add-one, refl, ap, suc}
use Rattle.std.specs.Prelude.{◌≢◌}
use Rattle.flow_term.specs.declared.term.Term.{Term}
use Rattle.flow_term.specs.declared.value.Bound.{Bound}
use Rattle.flow_syntax.specs.declared.pattern.Pattern.{Pattern}
use Rattle.flow_syntax.specs.Graph.{below}
use Rattle.flow_match.specs.Bindings.{bindings_at, bind_all, then_bound}
use Rattle.flow_match.specs.inner.Onto.{onto}

pub from_here : {X : Type 0} (xs : List X) (i : ℕ) (x : X) → i < length xs → drop i xs ≡ get_or xs i x ∷ drop (i + 1) xs
from_here xs i x h = rw add-one (drop-cons xs i x h)

short : (ps : List Pattern) (ts : List Term) (path : List ℕ) (n : ℕ) → length ps ≢ length ts → bind_all ps ts path n ≡ None
short [] [] path n h = absurd (h refl)
short [] (t ∷ ts) path n h = refl
short (p ∷ ps) [] path n h = refl
short (p ∷ ps) (t ∷ ts) path n h = stopped (bindings_at p t (below path n)) (bind_all ps ts path (n + 1)) (short ps ts path (n + 1) (λ e. h (ap suc e)))
  where
    stopped : (a rest : Option (List Bound)) → rest ≡ None → then_bound a rest ≡ None
    stopped (Some bs) (Some cs) e = cc
    stopped (Some bs) None e = refl
    stopped None rest e = refl

-- too few or too many terms
pub onto_short : (ps : List Pattern) (ts : List Term) (path : List ℕ) (old : List Bound) → length ps ≢ length ts → onto old (bind_all ps ts path 0) ≡ None
onto_short ps ts path old h = ap (onto old) (short ps ts path 0 h)
