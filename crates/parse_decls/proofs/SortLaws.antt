-- Tree sorts, by their first token.
use Rattle.std.proofs.Common.{◌≡◌, ℕ, ◌+◌, ◌≤◌, true, false, List, [], ◌∷◌, Ok, ◌∙◌, add-one}
use Rattle.flow_syntax.specs.declared.signature.TreeSort.TheVariants as sorts
use Rattle.flow_syntax.specs.declared.token.Token.{Token}
use Rattle.grammar_theory.specs.Reading.{◌>>=◌}
use Rattle.parse_decls.proofs.KindLaws.{kind_is, fits}
use Rattle.parse_decls.specs.inner.Pieces.{reads_in_round, reads_plain_tree_sort, reads_sorts}
use Rattle.spec_grammar.proofs.Turns.{starts}
use Rattle.spec_grammar.proofs.Unrolled.{reads_at, one_at, bind_bind}
use Rattle.spec_grammar.specs.Reading.{reads}
use Rattle.spec_grammar.specs.Symbols.{ATreeSort}
use Rattle.spec_grammar.specs.declared.kind.Kind.{Kind}
use Rattle.spec_grammar.specs.declared.kind.Kind.TheVariants as kinds

abbrev plain_sorts : List Kind
plain_sorts = kinds.Identifier ∷ kinds.Str ∷ kinds.Int ∷ kinds.Any ∷ []

pub sort_plain : (l : ℕ) (ts : List Token) → l ≤ 256 → starts plain_sorts ts ≡ true → reads l ATreeSort ts ≡ reads_plain_tree_sort l ts
sort_plain l ts h b = reads_at l ATreeSort ts h ∙ rw b (simp bind_bind)

pub sort_list : (l : ℕ) (ts : List Token) → l ≤ 256 → starts (kinds.List ∷ []) ts ≡ true → reads l ATreeSort ts ≡ (one_at l kinds.List ts >>= λ t. reads_in_round l ATreeSort t.1 >>= λ x. Ok (sorts.Items x.0, x.1))
sort_list l [] h b = absurd cc
sort_list l (t ∷ ts) h b = reads_at l ATreeSort (t ∷ ts) h ∙ rw (kind_is kinds.List t b, fits l h) (simp bind_bind)

pub sort_tuple : (l : ℕ) (ts : List Token) → l ≤ 256 → starts plain_sorts ts ≡ false → starts (kinds.List ∷ []) ts ≡ false
    → reads l ATreeSort ts ≡ (one_at (l + 1) kinds.OpenRound ts >>= λ o. reads_sorts (l + 1) kinds.Comma o.1 >>= λ x. one_at (l + 1) kinds.CloseRound x.1 >>= λ c. Ok (sorts.Tuple x.0, c.1))
sort_tuple l ts h n0 n1 = rw add-one (reads_at l ATreeSort ts h ∙ rw (n0, n1) (simp bind_bind))
