-- What there is at most one of.
use Rattle.std.specs.Prelude.{◌≡◌, ℕ, List, Option}
use Rattle.flow_term.specs.declared.term.Term.{Term}
use Rattle.flow_syntax.specs.declared.signature.Signature.{Signature}
use Rattle.flow_syntax.specs.declared.spec.Spec.{Spec}
use Rattle.flow_io.specs.Contents.{Contents}
use Rattle.flow_cli.specs.declared.output.End.{End}
use Rattle.flow_cli.specs.Files.{IsRefusedSpecification, IsRefusedTree, IsSpecification, IsTree}
use Rattle.flow_cli.specs.GraphText.{GraphText}
use Rattle.flow_cli.specs.Outcome.{IsWhole}

-- Over the same files, two whole outputs of the same words are the same bytes with the same end.
abbrev pub RequestsHaveOneOutput : Type 0
RequestsHaveOneOutput = (words : List (List ℕ)) (files : Contents) (out other : List ℕ) (how way : End)
    → IsWhole words files out how → IsWhole words files other way → (out ≡ other) × (how ≡ way)

-- Two texts of the graph of the same tree by the same specification are the same.
abbrev pub GraphsHaveOneText : Type 0
GraphsHaveOneText = (spec : Spec) (tree : Term) (text other : List ℕ) → GraphText spec tree text → GraphText spec tree other → text ≡ other

-- What is accepted is one thing, what is refused is refused with one line, and nothing is both.
pub record HasOneAnswer {X : Type 0} (IsAccepted : X → Type 0) (IsRefused : List ℕ → Type 0) : Type 0 where
  pub one : (x y : X) → IsAccepted x → IsAccepted y → x ≡ y
  pub one_line : (line other : List ℕ) → IsRefused line → IsRefused other → line ≡ other
  pub not_both : (x : X) (line : List ℕ) → IsAccepted x → ¬ IsRefused line

-- The content of a name has one answer as a specification.
abbrev pub SpecificationsHaveOneAnswer : Type 0
SpecificationsHaveOneAnswer = (content : Option (List ℕ)) → HasOneAnswer (IsSpecification content) (IsRefusedSpecification content)

-- The content of a name has one answer as a tree that is to fit a signature.
abbrev pub TreesHaveOneAnswer : Type 0
TreesHaveOneAnswer = (signature : Option Signature) (content : Option (List ℕ)) → HasOneAnswer (IsTree signature content) (IsRefusedTree signature content)
