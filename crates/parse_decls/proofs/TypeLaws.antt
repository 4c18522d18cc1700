-- Element sorts and types, by their first token.
use Rattle.std.proofs.Common.{◌≡◌, ℕ, ◌≤◌, true, false, List, [], ◌∷◌, Ok, ◌∙◌}
use Rattle.flow_syntax.specs.declared.types.ElemSort.TheVariants as elems
use Rattle.flow_syntax.specs.declared.types.LatticeType.TheVariants as types
use Rattle.flow_syntax.specs.declared.token.Token.{Token}
use Rattle.grammar_theory.specs.Reading.{◌>>=◌}
use Rattle.parse_decls.proofs.KindLaws.{kind_is, fits}
use Rattle.parse_decls.specs.inner.Pieces.{reads_in_round, reads_name, reads_pair, reads_plain_elem_sort, reads_set_type}
use Rattle.spec_grammar.proofs.Turns.{starts}
use Rattle.spec_grammar.proofs.Unrolled.{reads_at, one_at, one_of_at, bind_bind}
use Rattle.spec_grammar.specs.Reading.{reads}
use Rattle.spec_grammar.specs.Types.{set_type_of}
use Rattle.spec_grammar.specs.Symbols.{AType, AnElemSort}
use Rattle.spec_grammar.specs.declared.kind.Kind.{Kind}
use Rattle.spec_grammar.specs.declared.kind.Kind.TheVariants as kinds

-- ** element sorts

abbrev plain_elem_sorts : List Kind
plain_elem_sorts = kinds.Name ∷ kinds.Pos ∷ kinds.Str ∷ kinds.Int ∷ kinds.Identifier ∷ []

pub elem_plain : (l : ℕ) (ts : List Token) → l ≤ 256 → starts plain_elem_sorts ts ≡ true → reads l AnElemSort ts ≡ reads_plain_elem_sort l ts
elem_plain l ts h b = reads_at l AnElemSort ts h ∙ rw b (simp bind_bind)

pub elem_pair : (l : ℕ) (ts : List Token) → l ≤ 256 → starts plain_elem_sorts ts ≡ false → reads l AnElemSort ts ≡ (reads_pair l AnElemSort AnElemSort ts >>= λ x. Ok (elems.Pair x.0.0 x.0.1, x.1))
elem_pair l ts h b = reads_at l AnElemSort ts h ∙ rw b (simp bind_bind)

-- ** types

abbrev set_words : List Kind
set_words = kinds.MaySet ∷ kinds.MustSet ∷ kinds.Flat ∷ []

pub type_set : (l : ℕ) (ts : List Token) → l ≤ 256 → starts set_words ts ≡ true → reads l AType ts ≡ reads_set_type l ts
type_set l ts h b = reads_at l AType ts h ∙ rw b (simp bind_bind)

-- its word, and then the sort
pub set_at : (l : ℕ) (ts : List Token) → reads_set_type l ts ≡ (one_of_at l set_words ts >>= λ t. reads_in_round l AnElemSort t.1 >>= λ x. Ok (set_type_of t.0 x.0, x.1))
set_at l ts = simp bind_bind

pub type_map : (l : ℕ) (ts : List Token) → l ≤ 256 → starts (kinds.Map ∷ []) ts ≡ true → reads l AType ts ≡ (one_at l kinds.Map ts >>= λ t. reads_pair l AnElemSort AType t.1 >>= λ x. Ok (types.Map x.0.0 x.0.1, x.1))
type_map l [] h b = absurd cc
type_map l (t ∷ ts) h b = reads_at l AType (t ∷ ts) h ∙ rw (kind_is kinds.Map t b, fits l h) (simp bind_bind)

pub type_pair : (l : ℕ) (ts : List Token) → l ≤ 256 → starts (kinds.Pair ∷ []) ts ≡ true → reads l AType ts ≡ (one_at l kinds.Pair ts >>= λ t. reads_pair l AType AType t.1 >>= λ x. Ok (types.Pair x.0.0 x.0.1, x.1))
type_pair l [] h b = absurd cc
type_pair l (t ∷ ts) h b = reads_at l AType (t ∷ ts) h ∙ rw (kind_is kinds.Pair t b, fits l h) (simp bind_bind)

pub type_table : (l : ℕ) (ts : List Token) → l ≤ 256 → starts set_words ts ≡ false → starts (kinds.Map ∷ []) ts ≡ false → starts (kinds.Pair ∷ []) ts ≡ false → reads l AType ts ≡ (reads_name l ts >>= λ x. Ok (types.Table x.0, x.1))
type_table l ts h n0 n1 n2 = reads_at l AType ts h ∙ rw (n0, n1, n2) (simp bind_bind)
