-- The size and the depth of a term, by one level.
use Rattle.std.proofs.Common.{◌≡◌, ℕ, ◌+◌, List, [], ◌∷◌, ◌++◌, max, ap, ◌∙◌, arith}
use Rattle.std.specs.Prelude.{sum_by, ℤ}
use Rattle.std.proofs.lemmas.List.Sums.{sum_by-append, sum_by-cons}
use Rattle.flow_term.specs.declared.term.Term.{Term, Term-F, out-roll-Term}
use Rattle.flow_term.specs.declared.term.Kind.{Kind, Kind-F, out-Kind}
use Rattle.flow_term.specs.declared.term.Kind.TheVariants as kind
use Rattle.flow_term.specs.declared.term.Kind.TheVariants.{outs-Apply, outs-Items, outs-Int, outs-Str, outs-Tuple}
use Rattle.flow_term.specs.Trees.{term_size, term_depth, deepest, parts}
use Rattle.flow_term.proofs.Sizes.{term_size_out, term_depth_out}
use Rattle.aterm_text.specs.Grammar.{term}

-- the parts of a kind
abbrev pub parts_of : Kind → List Term
parts_of k = parts (out-Kind k)

pub size_term : (k : Kind) (annos : List Term) → term_size (term k annos) ≡ 1 + sum_by term_size (parts_of k) + sum_by term_size annos
size_term k annos = term_size_out (term k annos) ∙ ap (λ (t : Term-F Kind Term). 1 + sum_by term_size (parts (out-Kind t.kind)) + sum_by term_size t.annos) (out-roll-Term (record { kind = k; annos = annos }))

pub depth_term : (k : Kind) (annos : List Term) → term_depth (term k annos) ≡ 1 + max (deepest (parts_of k)) (deepest annos)
depth_term k annos = term_depth_out (term k annos) ∙ ap (λ (t : Term-F Kind Term). 1 + max (deepest (parts (out-Kind t.kind))) (deepest t.annos)) (out-roll-Term (record { kind = k; annos = annos }))

pub parts_apply : (name : List ℕ) (args : List Term) → parts_of (kind.Apply name args) ≡ args
parts_apply name args = ap (λ (x : Kind-F Kind Term). parts x) (outs-Apply name args)

pub parts_tuple : (items : List Term) → parts_of (kind.Tuple items) ≡ items
parts_tuple items = ap (λ (x : Kind-F Kind Term). parts x) (outs-Tuple items)

pub parts_items : (items : List Term) → parts_of (kind.Items items) ≡ items
parts_items items = ap (λ (x : Kind-F Kind Term). parts x) (outs-Items items)

pub parts_int : (n : ℤ) → parts_of (kind.Int n) ≡ []
parts_int n = ap (λ (x : Kind-F Kind Term). parts x) (outs-Int n)

pub parts_text : (chars : List ℕ) → parts_of (kind.Str chars) ≡ []
parts_text chars = ap (λ (x : Kind-F Kind Term). parts x) (outs-Str chars)

-- one item more
pub deepest_more : (ts : List Term) (t : Term) → deepest (ts ++ t ∷ []) ≡ max (deepest ts) (term_depth t)
deepest_more [] t = omega arith
deepest_more (u ∷ ts) t = omega (arith, deepest_more ts t)

pub size_more : (ts : List Term) (t : Term) → sum_by term_size (ts ++ t ∷ []) ≡ sum_by term_size ts + term_size t
size_more ts t = sum_by-append term_size ts (t ∷ []) ∙ omega arith

pub sizes_cons : (t : Term) (ts : List Term) → sum_by term_size (t ∷ ts) ≡ term_size t + sum_by term_size ts
sizes_cons t ts = sum_by-cons term_size t ts
