-- A file is refused with one line.
use Rattle.std.proofs.Common.{◌≡◌, ℕ, ◌<◌, ◌≤◌, List, [], ◌∷◌, Option, Some, None, length, get_or, refl, sym, ap, subst, ◌∙◌, inl, inr, arith}
use Rattle.std.specs.Prelude.{◌⊎◌, ◌++◌, codes}
use Rattle.std.proofs.lemmas.Option.{same_Some}
use Rattle.flow_term.specs.declared.term.Term.{Term}
use Rattle.flow_term.specs.Paths.{path_text}
use Rattle.aterm_text.proofs.Reading.{one_answer}
use Rattle.aterm_text.specs.Grammar.{TermText}
use Rattle.grammar_theory.proofs.FaultLemmas.{same_fault}
use Rattle.spec_grammar.specs.Symbols.{Whole}
use Rattle.spec_grammar.specs.Syntax.{spec_syntax, nesting_limit}
use Rattle.check_base.specs.Earliest.{IsNoLater, kind_rank}
use Rattle.flow_syntax.proofs.TokenTexts.{text_same, text_or_fault, faulty_same}
use Rattle.flow_syntax.specs.declared.fault.SpecFaultKind.{SpecFaultKind}
use Rattle.flow_syntax.specs.declared.fault.SpecFaultKind.TheVariants.{Unknown, Duplicate, Arity, Sort, Unbound, MixedDirection, WrongEnd, MixedItem, Nested, Depth}
use Rattle.flow_syntax.specs.declared.signature.Signature.{Signature}
use Rattle.flow_syntax.specs.declared.spec.Spec.{Spec}
use Rattle.flow_syntax.specs.declared.token.Token.{Token}
use Rattle.flow_parse.specs.Faults.{IsFaultAt, first_place}
use Rattle.flow_sorts.specs.First.{IsFirstFault}
use Rattle.tree_fitting.specs.Least.{IsLeastMisfit}
use Rattle.tree_fitting.proofs.OrderLemmas.{same_path}
use Rattle.flow_cli.specs.Accepted.{AreRefusedFor, IsNoSpecification, IsNoTree, IsRefusedFor, at_place, lexical_name, sort_name, syntax_name, term_name, faulty, not_yet, ill_formed, refused, no_tokens, refused_tokens, no_term, ill_sorted}
use Rattle.flow_cli.specs.Files.{IsRefusal, IsRefusedSpecification, IsRefusedTree, refusal_line, missing, too_large, specification_limit, tree_limit}
use Rattle.flow_cli.specs.Files.{ill_formed as ill_formed_bytes}
use Rattle.flow_cli.proofs.AcceptLemmas.{same_spec, text_or_syntax_fault}

-- the same cause at the same place
same_at : {K : Type 0} (name : K → List ℕ) (place at : ℕ) (kind of : K) (cause other : List ℕ) → (place ≡ at) × (kind ≡ of) → cause ≡ at_place (name kind) place → other ≡ at_place (name of) at → cause ≡ other
same_at name place at kind of cause other same e f = e ∙ (λ i. at_place (name (same.1 i)) (same.0 i)) ∙ sym f

-- ** what a specification says

-- each kind by its rank
abbrev kinds : List SpecFaultKind
kinds = Unknown ∷ Duplicate ∷ Arity ∷ Sort ∷ Unbound ∷ MixedDirection ∷ WrongEnd ∷ MixedItem ∷ Nested ∷ Depth ∷ []

by_rank : (k : SpecFaultKind) → get_or kinds (kind_rank k) Unknown ≡ k
by_rank Unknown = refl
by_rank Duplicate = refl
by_rank Arity = refl
by_rank Sort = refl
by_rank Unbound = refl
by_rank MixedDirection = refl
by_rank WrongEnd = refl
by_rank MixedItem = refl
by_rank Nested = refl
by_rank Depth = refl

same_kind : (k j : SpecFaultKind) → kind_rank k ≡ kind_rank j → k ≡ j
same_kind k j e = sym (by_rank k) ∙ ap (λ (n : ℕ). get_or kinds n Unknown) e ∙ by_rank j

both_no_later : (a b : ℕ × SpecFaultKind) → IsNoLater a b → IsNoLater b a → (a.0 ≡ b.0) × (a.1 ≡ b.1)
both_no_later a b (inl h) (inl g) = absurd (omega (arith, h, g))
both_no_later a b (inl h) (inr g) = absurd (omega (arith, h, g.0))
both_no_later a b (inr h) (inl g) = absurd (omega (arith, h.0, g))
both_no_later a b (inr h) (inr g) = (h.0, same_kind a.1 b.1 (omega (arith, h.1, g.1)))

same_first : (spec : Spec) (place at : ℕ) (kind of : SpecFaultKind) → IsFirstFault spec place kind → IsFirstFault spec at of → (place ≡ at) × (kind ≡ of)
same_first spec place at kind of f g = both_no_later (place, kind) (at, of) (f.first at of g.stands) (g.first place kind f.stands)

spec_cause : (spec : Spec) (cause other : List ℕ) → IsRefusedFor spec cause → IsRefusedFor spec other → cause ≡ other
spec_cause spec cause other (faulty place kind f e) (faulty at of g h) = same_at sort_name place at kind of cause other (same_first spec place at kind of f g) e h
spec_cause spec cause other (faulty place kind f e) (not_yet at none g h) = absurd (none place kind f.stands)
spec_cause spec cause other (not_yet place none f e) (faulty at of g h) = absurd (none at of g.stands)
spec_cause spec cause other (not_yet place none f e) (not_yet at none' g h) =
    let same : place ≡ at = omega (arith, f.least at g.stands, g.least place f.stands) in
    e ∙ ap (λ (n : ℕ). at_place (codes "not yet") n) same ∙ sym h

-- ** tokens and bytes

tokens_cause : (tokens : List Token) (cause other : List ℕ) → AreRefusedFor tokens cause → AreRefusedFor tokens other → cause ≡ other
tokens_cause tokens cause other (ill_formed place why f e) (ill_formed at of g h) =
    let same = same_fault spec_syntax nesting_limit Whole tokens why of f.rest g.rest f.fault g.fault in
    same_at syntax_name place at why of cause other (f.stands ∙ ap first_place same.1 ∙ sym g.stands, same.0) e h
tokens_cause tokens cause other (ill_formed place why f e) (refused spec text bad) = absurd (text_or_syntax_fault tokens spec place why text f)
tokens_cause tokens cause other (refused spec text bad) (ill_formed place why f e) = absurd (text_or_syntax_fault tokens spec place why text f)
tokens_cause tokens cause other (refused spec text bad) (refused spec' text' bad') =
    spec_cause spec cause other bad (subst (λ (s : Spec). IsRefusedFor s other) (same_spec tokens spec' spec text' text) bad')

bytes_cause : (bytes cause other : List ℕ) → IsNoSpecification bytes cause → IsNoSpecification bytes other → cause ≡ other
bytes_cause bytes cause other (no_tokens offset kind f e) (no_tokens at of g h) = same_at lexical_name offset at kind of cause other (faulty_same bytes offset at kind of f g) e h
bytes_cause bytes cause other (no_tokens offset kind f e) (refused_tokens tokens text bad) = absurd (text_or_fault bytes tokens offset kind text f)
bytes_cause bytes cause other (refused_tokens tokens text bad) (no_tokens offset kind f e) = absurd (text_or_fault bytes tokens offset kind text f)
bytes_cause bytes cause other (refused_tokens tokens text bad) (refused_tokens tokens' text' bad') =
    tokens_cause tokens cause other bad (subst (λ (ts : List Token). AreRefusedFor ts other) (text_same bytes tokens' tokens text' text) bad')

-- ** trees

same_least : (signature : Option Signature) (tree : Term) (path other : List ℕ) → IsLeastMisfit signature tree path → IsLeastMisfit signature tree other → path ≡ other
same_least None tree path other f g = absurd f
same_least (Some signature) tree path other f g = same_path path other (g.none_before path f.among) (f.none_before other g.among)

tree_cause : (signature : Option Signature) (bytes cause other : List ℕ) → IsNoTree signature bytes cause → IsNoTree signature bytes other → cause ≡ other
tree_cause signature bytes cause other (no_term offset kind f e) (no_term at of g h) = same_at term_name offset at kind of cause other ((one_answer bytes).one_fault offset at kind of f g) e h
tree_cause signature bytes cause other (no_term offset kind f e) (ill_sorted tree path text g h) = absurd ((one_answer bytes).not_both tree offset kind text f)
tree_cause signature bytes cause other (ill_sorted tree path text f e) (no_term offset kind g h) = absurd ((one_answer bytes).not_both tree offset kind text g)
tree_cause signature bytes cause other (ill_sorted tree path text f e) (ill_sorted tree' path' text' g h) =
    let g' = subst (λ (t : Term). IsLeastMisfit signature t path') ((one_answer bytes).one_term tree' tree text' text) g in
    e ∙ ap (λ (p : List ℕ). codes "ill-sorted at " ++ path_text p) (same_least signature tree path path' f g') ∙ sym h

-- ** files

none_or_some : {X : Type 0} (x : X) (o : Option X) → o ≡ None → o ≡ Some x → ⊥
none_or_some x o e f = let g : None ≡ Some x = sym e ∙ f in cc

module _ (file : List ℕ) (limit : ℕ) (IsBad : List ℕ → List ℕ → Type 0) (one_cause : (bytes cause other : List ℕ) → IsBad bytes cause → IsBad bytes other → cause ≡ other) (content : Option (List ℕ)) where
  long_or_short : (bytes other : List ℕ) → content ≡ Some bytes → content ≡ Some other → limit < length bytes → length other ≤ limit → ⊥
  long_or_short bytes other is there long short = let same : bytes ≡ other = same_Some bytes other (sym is ∙ there) in absurd (omega (arith, long, short, ap length same))

  one_line : (line other : List ℕ) → IsRefusal file limit IsBad content line → IsRefusal file limit IsBad content other → line ≡ other
  one_line line other (missing gone e) (missing gone' f) = e ∙ sym f
  one_line line other (missing gone e) (too_large bytes is long f) = absurd (none_or_some bytes content gone is)
  one_line line other (missing gone e) (ill_formed_bytes bytes cause is short bad f) = absurd (none_or_some bytes content gone is)
  one_line line other (too_large bytes is long e) (missing gone f) = absurd (none_or_some bytes content gone is)
  one_line line other (too_large bytes is long e) (too_large bytes' is' long' f) = e ∙ sym f
  one_line line other (too_large bytes is long e) (ill_formed_bytes bytes' cause is' short bad f) = absurd (long_or_short bytes bytes' is is' long short)
  one_line line other (ill_formed_bytes bytes cause is short bad e) (missing gone f) = absurd (none_or_some bytes content gone is)
  one_line line other (ill_formed_bytes bytes cause is short bad e) (too_large bytes' is' long f) = absurd (long_or_short bytes' bytes is' is long short)
  one_line line other (ill_formed_bytes bytes cause is short bad e) (ill_formed_bytes bytes' cause' is' short' bad' f) =
      let moved = subst (λ (bs : List ℕ). IsBad bs cause') (same_Some bytes' bytes (sym is' ∙ is)) bad' in
      e ∙ ap (refusal_line file) (one_cause bytes cause cause' bad moved) ∙ sym f

pub specification_line : (content : Option (List ℕ)) (line other : List ℕ) → IsRefusedSpecification content line → IsRefusedSpecification content other → line ≡ other
specification_line content = one_line (codes "specification") specification_limit IsNoSpecification bytes_cause content

pub tree_line : (signature : Option Signature) (content : Option (List ℕ)) (line other : List ℕ) → IsRefusedTree signature content line → IsRefusedTree signature content other → line ≡ other
tree_line signature content = one_line (codes "tree") tree_limit (IsNoTree signature) (tree_cause signature) content
