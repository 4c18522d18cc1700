-- Bytes are accepted as one specification at most, and never both accepted and refused.
use Rattle.std.proofs.Common.{◌≡◌, ℕ, List, Option, Some, None, sym, subst, ◌∙◌}
use Rattle.std.specs.Prelude.{Ok, Err}
use Rattle.std.proofs.lemmas.Option.{same_Some}
use Rattle.flow_term.specs.declared.term.Term.{Term}
use Rattle.aterm_text.proofs.Reading.{one_answer}
use Rattle.aterm_text.specs.Grammar.{TermText}
use Rattle.grammar_theory.specs.Faults.{IsText}
use Rattle.grammar_theory.specs.declared.Cause.{Cause}
use Rattle.spec_grammar.proofs.Wholes.{all_only, all_fault_only}
use Rattle.spec_grammar.specs.Symbols.{Whole}
use Rattle.spec_grammar.specs.Syntax.{spec_syntax, nesting_limit}
use Rattle.flow_syntax.specs.declared.signature.Signature.{Signature}
use Rattle.flow_syntax.specs.declared.spec.Spec.{Spec}
use Rattle.flow_syntax.specs.declared.token.Token.{Token}
use Rattle.flow_syntax.proofs.TokenTexts.{text_same, text_or_fault}
use Rattle.flow_parse.specs.Faults.{IsFaultAt}
use Rattle.tree_fitting.specs.Fits.{TreeFits}
use Rattle.tree_fitting.specs.Least.{IsLeastMisfit}
use Rattle.flow_cli.specs.Accepted.{AreRefusedFor, AreSpecification, IsNoSpecification, IsNoTree, IsRefusedFor, IsTaken, SpecificationText, faulty, not_yet, ill_formed, refused, no_tokens, refused_tokens, no_term, ill_sorted}
use Rattle.flow_cli.specs.Files.{IsSpecification, IsTree}

abbrev pub TheText : List Token → Spec → Type 0
TheText tokens spec = IsText spec_syntax nesting_limit Whole tokens spec

pub same_spec : (tokens : List Token) (spec other : Spec) → TheText tokens spec → TheText tokens other → spec ≡ other
same_spec tokens spec other one two = let e : Ok spec ≡ Ok other = sym (all_only tokens spec one) ∙ all_only tokens other two in cc

ok_or_err : {X E : Type 0} (x : X) (e : E) → Ok x ≡ Err e → ⊥
ok_or_err x e h = cc

pub text_or_syntax_fault : (tokens : List Token) (spec : Spec) (place : ℕ) (why : Cause) → TheText tokens spec → IsFaultAt tokens place why → ⊥
text_or_syntax_fault tokens spec place why text fault =
    ok_or_err spec (why, fault.rest) (sym (all_only tokens spec text) ∙ all_fault_only tokens why fault.rest fault.fault)

taken_or_refused : (spec : Spec) (cause : List ℕ) → IsTaken spec → IsRefusedFor spec cause → ⊥
taken_or_refused spec cause taken (faulty place kind first e) = taken.faultless place kind first.stands
taken_or_refused spec cause taken (not_yet place faultless first e) = taken.simple place first.stands

tokens_or_refused : (tokens : List Token) (cause : List ℕ) (spec : Spec) → AreSpecification tokens spec → AreRefusedFor tokens cause → ⊥
tokens_or_refused tokens cause spec are (ill_formed place why fault e) = text_or_syntax_fault tokens spec place why are.text fault
tokens_or_refused tokens cause spec are (refused other text bad) =
    taken_or_refused spec cause are.taken (subst (λ (s : Spec). IsRefusedFor s cause) (same_spec tokens other spec text are.text) bad)

pub text_or_refused : (bytes cause : List ℕ) (spec : Spec) → SpecificationText bytes spec → IsNoSpecification bytes cause → ⊥
text_or_refused bytes cause spec form (no_tokens offset kind fault e) = text_or_fault bytes form.tokens offset kind form.lexed fault
text_or_refused bytes cause spec form (refused_tokens tokens lexed bad) =
    tokens_or_refused form.tokens cause spec form.parsed (subst (λ (ts : List Token). AreRefusedFor ts cause) (text_same bytes tokens form.tokens lexed form.lexed) bad)

same_text : (bytes : List ℕ) (spec other : Spec) → SpecificationText bytes spec → SpecificationText bytes other → spec ≡ other
same_text bytes spec other one two =
    same_spec two.tokens spec other (subst (λ (ts : List Token). TheText ts spec) (text_same bytes one.tokens two.tokens one.lexed two.lexed) one.parsed.text) two.parsed.text

pub same_specification : (content : Option (List ℕ)) (spec other : Spec) → IsSpecification content spec → IsSpecification content other → spec ≡ other
same_specification content spec other one two =
    same_text two.bytes spec other (subst (λ (bytes : List ℕ). SpecificationText bytes spec) (same_Some one.bytes two.bytes (sym one.is ∙ two.is)) one.form) two.form

fits_or_misfits : (signature : Option Signature) (tree : Term) (path : List ℕ) → TreeFits signature tree → IsLeastMisfit signature tree path → ⊥
fits_or_misfits None tree path fits least = least
fits_or_misfits (Some signature) tree path fits least = fits path least.among

pub tree_or_refused : (signature : Option Signature) (bytes cause : List ℕ) (tree : Term) → TermText bytes tree → TreeFits signature tree → IsNoTree signature bytes cause → ⊥
tree_or_refused signature bytes cause tree text fits (no_term offset kind fault e) = (one_answer bytes).not_both tree offset kind text fault
tree_or_refused signature bytes cause tree text fits (ill_sorted other path other_text least e) =
    fits_or_misfits signature tree path fits (subst (λ (t : Term). IsLeastMisfit signature t path) ((one_answer bytes).one_term other tree other_text text) least)

pub same_tree : (signature : Option Signature) (content : Option (List ℕ)) (tree other : Term) → IsTree signature content tree → IsTree signature content other → tree ≡ other
same_tree signature content tree other one two =
    (one_answer two.bytes).one_term tree other (subst (λ (bytes : List ℕ). TermText bytes tree) (same_Some one.bytes two.bytes (sym one.is ∙ two.is)) one.form) two.form
