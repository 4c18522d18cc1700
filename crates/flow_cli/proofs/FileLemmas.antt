-- What the content of a name gives, by what reading it gave.
use Rattle.std.proofs.Common.{ℕ, List, Option, Some, None, refl, sym, subst}
use Rattle.flow_term.specs.declared.term.Term.{Term}
use Rattle.aterm_text.specs.Grammar.{TermText}
use Rattle.grammar_theory.specs.Faults.{IsText}
use Rattle.spec_grammar.specs.Symbols.{Whole}
use Rattle.spec_grammar.specs.Syntax.{spec_syntax, nesting_limit}
use Rattle.flow_syntax.specs.declared.signature.Signature.{Signature}
use Rattle.flow_syntax.specs.declared.spec.Spec.{Spec}
use Rattle.flow_syntax.specs.declared.spec.TypedSpec.{TypedSpec}
use Rattle.flow_syntax.specs.declared.token.Token.{Token}
use Rattle.flow_syntax.specs.Tokens.{TokenText}
use Rattle.tree_fitting.specs.Fits.{TreeFits}
use Rattle.flow_io.specs.declared.reading.ReadRefusal.{ReadRefusal}
use Rattle.flow_io.specs.declared.reading.ReadRefusal.TheVariants as refusal
use Rattle.flow_io.specs.Whole.{IsCause, IsWhole}
use Rattle.flow_cli.specs.declared.files.Read.{Read}
use Rattle.flow_cli.specs.declared.files.Read.TheVariants.{Accepted, Refused}
use Rattle.std.specs.Prelude.{codes}
use Rattle.flow_cli.specs.Accepted.{IsNoSpecification, IsNoTree, IsTaken, refused_tokens, refused, ill_sorted}
use Rattle.flow_cli.specs.Files.{IsRefusal, missing, too_large, ill_formed, specification_limit, tree_limit}
use Rattle.flow_cli.specs.inner.Read.{IsFitted, IsFormOfSpec, IsFormOfSpecification, IsFormOfTokens, IsFormOfTree, IsLineOf, IsReadSpecification, IsReadTree}

pub read_form : (content : Option (List ℕ)) (bytes : List ℕ) → IsWhole content specification_limit bytes → (read : Read TypedSpec) → IsFormOfSpecification bytes read → IsReadSpecification content read
read_form content bytes whole (Accepted typed) h = record { bytes = bytes; is = whole.0; small = whole.1; form = h }
read_form content bytes whole (Refused line) h = ill_formed bytes h.0 whole.0 whole.1 h.1 h.2

pub read_form_of_tree : (signature : Option Signature) (content : Option (List ℕ)) (bytes : List ℕ) → IsWhole content tree_limit bytes → (read : Read Term) → IsFormOfTree signature bytes read → IsReadTree signature content read
read_form_of_tree signature content bytes whole (Accepted tree) h = record { bytes = bytes; is = whole.0; small = whole.1; form = h.0; fits = h.1 }
read_form_of_tree signature content bytes whole (Refused line) h = ill_formed bytes h.0 whole.0 whole.1 h.1 h.2

-- what tokens give is what their bytes give
pub read_tokens : (bytes : List ℕ) (tokens : List Token) → TokenText bytes tokens → (read : Read TypedSpec) → IsFormOfTokens tokens read → IsFormOfSpecification bytes read
read_tokens bytes tokens lexed (Accepted typed) h = record { tokens = tokens; lexed = lexed; parsed = h }
read_tokens bytes tokens lexed (Refused line) h = (h.0, refused_tokens tokens lexed h.1, h.2)

-- what a specification gives is what its tokens give
pub read_spec : (tokens : List Token) (spec : Spec) → IsText spec_syntax nesting_limit Whole tokens spec → (read : Read TypedSpec) → IsFormOfSpec spec read → IsFormOfTokens tokens read
read_spec tokens spec text (Accepted typed) h = record {
  text = subst (λ (s : Spec). IsText spec_syntax nesting_limit Whole tokens s) (sym h.0) text;
  taken = subst (λ (s : Spec). IsTaken s) (sym h.0) h.1;
}
read_spec tokens spec text (Refused line) h = (h.0, refused spec text h.1, h.2)

-- what fitting a tree gives is what its bytes give
pub read_fitted : (signature : Option Signature) (bytes : List ℕ) (tree : Term) → TermText bytes tree → (read : Read Term) → IsFitted signature tree read → IsFormOfTree signature bytes read
read_fitted signature bytes tree text (Accepted fitted) h = (subst (λ (t : Term). TermText bytes t) (sym h.0) text, subst (λ (t : Term). TreeFits signature t) (sym h.0) h.1)
read_fitted signature bytes tree text (Refused line) h = (_, ill_sorted tree h.0 text h.1 refl, h.2)

-- A line, or nothing.
abbrev IsRefusedRead : {T : Type 0} → (List ℕ → Type 0) → Read T → Type 0
IsRefusedRead P (Accepted x) = ⊥
IsRefusedRead P (Refused line) = P line.items

-- a file that was not read is refused with its line
refused_file : {T : Type 0} (file : List ℕ) (limit : ℕ) (IsBad : List ℕ → List ℕ → Type 0) (content : Option (List ℕ)) (r : ReadRefusal) → IsCause content limit r → (read : Read T) → IsLineOf file r read
    → IsRefusedRead (IsRefusal file limit IsBad content) read
refused_file file limit IsBad content refusal.Missing cause (Refused line) h = missing cause h
refused_file file limit IsBad None refusal.TooLarge cause (Refused line) h = absurd cause
refused_file file limit IsBad (Some bytes) refusal.TooLarge cause (Refused line) h = too_large bytes refl cause h
refused_file file limit IsBad content refusal.Failed cause (Refused line) h = absurd h
refused_file file limit IsBad content refusal.NoMemory cause (Refused line) h = absurd h
refused_file file limit IsBad content refusal.Missing cause (Accepted x) h = absurd h
refused_file file limit IsBad content refusal.TooLarge cause (Accepted x) h = absurd h
refused_file file limit IsBad content refusal.Failed cause (Accepted x) h = absurd h
refused_file file limit IsBad content refusal.NoMemory cause (Accepted x) h = absurd h

pub refused_specification : (content : Option (List ℕ)) (r : ReadRefusal) → IsCause content specification_limit r → (read : Read TypedSpec) → IsLineOf (codes "specification") r read → IsReadSpecification content read
refused_specification content r cause (Accepted typed) h = absurd (refused_file (codes "specification") specification_limit IsNoSpecification content r cause (let read : Read TypedSpec = Accepted typed in read) h)
refused_specification content r cause (Refused line) h = refused_file (codes "specification") specification_limit IsNoSpecification content r cause (let read : Read TypedSpec = Refused line in read) h

pub refused_tree_file : (signature : Option Signature) (content : Option (List ℕ)) (r : ReadRefusal) → IsCause content tree_limit r → (read : Read Term) → IsLineOf (codes "tree") r read → IsReadTree signature content read
refused_tree_file signature content r cause (Accepted tree) h = absurd (refused_file (codes "tree") tree_limit (IsNoTree signature) content r cause (let read : Read Term = Accepted tree in read) h)
refused_tree_file signature content r cause (Refused line) h = refused_file (codes "tree") tree_limit (IsNoTree signature) content r cause (let read : Read Term = Refused line in read) h
