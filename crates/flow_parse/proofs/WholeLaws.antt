-- A specification, section by section.
use Rattle.std.proofs.Common.{◌≡◌, Bool, true, false, List, [], ◌∷◌, length, Ok, Err, refl, sym, ◌∙◌, arith}
use Rattle.std.specs.Prelude.{◌==◌}
use Rattle.std.proofs.lemmas.Bool.Decides.{nat_tests}
use Rattle.flow_syntax.specs.declared.spec.Spec.{Spec}
use Rattle.flow_syntax.specs.declared.token.Token.{Token}
use Rattle.grammar_theory.specs.Reading.{Outcome, ◌>>=◌, ended, read_in_turn}
use Rattle.grammar_theory.specs.declared.Cause.TheVariants.{Unexpected}
use Rattle.grammar_theory.specs.Texts.{Optional, Symbol}
use Rattle.spec_grammar.proofs.Unrolled.{reads_at, one_at, bind_bind}
use Rattle.spec_grammar.specs.Parts.{named}
use Rattle.spec_grammar.specs.Reading.{reads, reads_all, reads_as, reads_part}
use Rattle.spec_grammar.specs.Symbols.{Whole, ASignature, AnEnum}
use Rattle.spec_grammar.specs.Whole.{make_whole, section, section_of, sections_after_sorts}
use Rattle.spec_grammar.specs.declared.kind.Kind.TheVariants as kinds
use Rattle.flow_parse.specs.inner.Parts.{body_of, module_name, spec_of}

-- what is made of the value that is read
abbrev made : {X Y : Type 0} → (X → Y) → Outcome Token X → Outcome Token Y
made f o = o >>= λ x. Ok (f x.0, x.1)

module _ {M I S E B : Type 0} (m : List Token → Outcome Token M) (i : List Token → Outcome Token I) (s : List Token → Outcome Token S) (e : List Token → Outcome Token E) (b : List Token → Outcome Token B) where
  five_in_turn : {Z : Type 0} (make : M × (I × (S × (E × B))) → Z) (ts : List Token) → made make (read_in_turn m (read_in_turn i (read_in_turn s (read_in_turn e b))) ts)
      ≡ (m ts >>= λ w. i w.1 >>= λ n. s n.1 >>= λ g. e g.1 >>= λ d. made (λ y. make (w.0, (n.0, (g.0, (d.0, y))))) (b d.1))
  five_in_turn make ts = simp bind_bind

  four_in_turn : {N F D Z : Type 0} (name : I → N) (enums : E → F) (body : B → D) (whole : N → S → F → D → Z) (ts : List Token)
      → (made (λ x. name x.1) (read_in_turn m i ts) >>= λ n. s n.1 >>= λ g. made enums (e g.1) >>= λ d. made (whole n.0 g.0 d.0) (made body (b d.1)))
      ≡ (m ts >>= λ w. i w.1 >>= λ n. s n.1 >>= λ g. e g.1 >>= λ d. made (λ y. whole (name n.0) g.0 (enums d.0) (body y)) (b d.1))
  four_in_turn name enums body whole ts = simp bind_bind

pub spec_at : (ts : List Token)
    → reads 0 Whole ts ≡ (reads_as 0 module_name (λ x. named x.1) ts >>= λ n. reads_part 0 (Optional (Symbol ASignature)) n.1
    >>= λ s. reads_as 0 (Optional (section kinds.Sorts AnEnum)) section_of s.1 >>= λ e. reads_as 0 sections_after_sorts body_of e.1
    >>= λ b. Ok (spec_of n.0 s.0 e.0 b.0, b.1))
spec_at ts = reads_at 0 Whole ts (omega arith)
    ∙ five_in_turn (one_at 0 kinds.Module) (one_at 0 kinds.Identifier) (reads_part 0 (Optional (Symbol ASignature))) (reads_part 0 (Optional (section kinds.Sorts AnEnum))) (reads_part 0 sections_after_sorts) make_whole ts
    ∙ sym (four_in_turn (one_at 0 kinds.Module) (one_at 0 kinds.Identifier) (reads_part 0 (Optional (Symbol ASignature))) (reads_part 0 (Optional (section kinds.Sorts AnEnum))) (reads_part 0 sections_after_sorts) named section_of body_of spec_of ts)

-- all of the tokens are a specification where nothing stands behind it
pub all_at : (ts : List Token) → reads_all ts ≡ (reads 0 Whole ts >>= ended)
unfolding reads reads_all
all_at ts = refl

pub all_read : (ts : List Token) (spec : Spec) (rest : List Token) (b : Bool) → reads 0 Whole ts ≡ Ok (spec, rest) → b ≡ (length rest == 0) → b ≡ true → reads_all ts ≡ Ok spec
all_read ts spec [] b e h t = all_at ts ∙ rw e refl
all_read ts spec (x ∷ rest) b e h t = absurd (grind (arith, nat_tests))

pub more_left : (ts : List Token) (spec : Spec) (rest : List Token) (b : Bool) → reads 0 Whole ts ≡ Ok (spec, rest) → b ≡ (length rest == 0) → b ≡ false → reads_all ts ≡ Err (Unexpected, rest)
more_left ts spec [] b e h t = absurd cc
more_left ts spec (x ∷ rest) b e h t = all_at ts ∙ rw e refl
