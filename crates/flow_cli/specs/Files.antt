-- Which files are accepted, and with which line a file is refused.
use Rattle.std.specs.Prelude.{◌≡◌, ℕ, ◌<◌, ◌≤◌, ◌^◌, List, [], ◌∷◌, ◌++◌, Option, Some, None, length, codes}
use Rattle.flow_term.specs.declared.term.Term.{Term}
use Rattle.aterm_text.specs.Grammar.{TermText}
use Rattle.flow_syntax.specs.declared.signature.Signature.{Signature}
use Rattle.flow_syntax.specs.declared.spec.Spec.{Spec}
use Rattle.tree_fitting.specs.Fits.{TreeFits}
use Rattle.flow_cli.specs.Accepted.{SpecificationText, IsNoSpecification, IsNoTree}

-- the greatest lengths, in bytes
abbrev pub specification_limit : ℕ
specification_limit = 2 ^ 20

abbrev pub tree_limit : ℕ
tree_limit = 2 ^ 25

-- The content of a name is a specification that is taken.
pub record IsSpecification (content : Option (List ℕ)) (spec : Spec) : Type 0 where
  pub bytes : List ℕ
  pub is : content ≡ Some bytes
  pub small : length bytes ≤ specification_limit
  pub form : SpecificationText bytes spec

-- The content of a name is a tree that fits the signature.
pub record IsTree (signature : Option Signature) (content : Option (List ℕ)) (tree : Term) : Type 0 where
  pub bytes : List ℕ
  pub is : content ≡ Some bytes
  pub small : length bytes ≤ tree_limit
  pub form : TermText bytes tree
  pub fits : TreeFits signature tree

-- the line with which a file is refused for a cause
abbrev pub refusal_line : List ℕ → List ℕ → List ℕ
refusal_line file cause = file ++ codes ": " ++ cause ++ 10 ∷ []

-- The line with which a file is refused, by the content of its name, where IsBad says which bytes are refused for which cause:
pub data IsRefusal (file : List ℕ) (limit : ℕ) (IsBad : List ℕ → List ℕ → Type 0) (content : Option (List ℕ)) (line : List ℕ) : Type 0 where
  -- the name isn't there
  missing : content ≡ None → line ≡ refusal_line file (codes "missing") → IsRefusal file limit IsBad content line
  -- the content is longer than the limit
  too_large : (bytes : List ℕ) → content ≡ Some bytes → limit < length bytes → line ≡ refusal_line file (codes "too large") → IsRefusal file limit IsBad content line
  -- the bytes are refused
  ill_formed : (bytes cause : List ℕ) → content ≡ Some bytes → length bytes ≤ limit → IsBad bytes cause → line ≡ refusal_line file cause → IsRefusal file limit IsBad content line

abbrev pub IsRefusedSpecification : Option (List ℕ) → List ℕ → Type 0
IsRefusedSpecification = IsRefusal (codes "specification") specification_limit IsNoSpecification

abbrev pub IsRefusedTree : Option Signature → Option (List ℕ) → List ℕ → Type 0
IsRefusedTree signature = IsRefusal (codes "tree") tree_limit (IsNoTree signature)
