-- Terms that are alike near their roots.
use Rattle.std.specs.Prelude.{◌≡◌, ℕ, zero, suc, []}
use Rattle.std.specs.List.{AllZip}
use Rattle.flow_term.specs.declared.term.Term.{Term, out-Term}
use Rattle.flow_term.specs.Annotations.{term_layer}
use Rattle.flow_term.specs.Trees.{children, with_parts}

-- Two terms are alike on so many levels: their roots have the same annotations and the same form, with the same name, number or text, and as many children, and these are alike on one level less.
abbrev pub AreAlike : ℕ → Term → Term → Type 0
AreAlike zero t u = Unit {0}
AreAlike (suc n) t u = ((out-Term u).annos ≡ (out-Term t).annos) × (with_parts (term_layer u) [] ≡ with_parts (term_layer t) []) × AllZip (AreAlike n) (children t) (children u)
