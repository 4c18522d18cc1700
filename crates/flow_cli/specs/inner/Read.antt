-- What the content of a file gave.
use Rattle.std.specs.Prelude.{◌≡◌, ℕ, ◌<◌, ◌^◌, List, ◌++◌, Option, codes}
use Rattle.flow_term.specs.Paths.{path_text}
use Rattle.flow_term.specs.declared.term.Term.{Term}
use Rattle.aterm_text.specs.Grammar.{TermText}
use Rattle.flow_term.specs.Trees.{term_size}
use Rattle.flow_syntax.specs.declared.spec.TypedSpec.{TypedSpec}
use Rattle.flow_syntax.specs.declared.signature.Signature.{Signature}
use Rattle.flow_syntax.specs.declared.spec.Spec.{Spec}
use Rattle.flow_syntax.specs.declared.token.Token.{Token}
use Rattle.tree_fitting.specs.Fits.{TreeFits}
use Rattle.tree_fitting.specs.Least.{IsLeastMisfit}
use Rattle.flow_io.specs.declared.reading.ReadRefusal.{ReadRefusal}
use Rattle.flow_io.specs.declared.reading.ReadRefusal.TheVariants as refusal
use Rattle.flow_cli.specs.declared.files.Read.{Read}
use Rattle.flow_cli.specs.declared.files.Read.TheVariants.{Accepted, Refused}
use Rattle.flow_cli.specs.Accepted.{AreRefusedFor, AreSpecification, IsNoSpecification, IsNoTree, IsRefusedFor, IsTaken, SpecificationText}
use Rattle.flow_cli.specs.Files.{IsRefusedSpecification, IsRefusedTree, IsSpecification, IsTree, refusal_line}

-- a specification, or the line with which it is refused
abbrev pub IsReadSpecification : Option (List ℕ) → Read TypedSpec → Type 0
IsReadSpecification content (Accepted typed) = IsSpecification content typed.spec
IsReadSpecification content (Refused line) = IsRefusedSpecification content line.items

-- a tree, or the line with which it is refused
abbrev pub IsReadTree : Option Signature → Option (List ℕ) → Read Term → Type 0
IsReadTree signature content (Accepted tree) = IsTree signature content tree
IsReadTree signature content (Refused line) = IsRefusedTree signature content line.items

-- something is refused with this line
abbrev pub IsRefusedWith : {X : Type 0} → (X → List ℕ → Type 0) → List ℕ → X → List ℕ → Type 0
IsRefusedWith IsBad file x line = (cause : List ℕ) × IsBad x cause × (line ≡ refusal_line file cause)

-- bytes, tokens or what they say are a specification, or are none, and then this is the line
abbrev pub IsFormOfSpecification : List ℕ → Read TypedSpec → Type 0
IsFormOfSpecification bytes (Accepted typed) = SpecificationText bytes typed.spec
IsFormOfSpecification bytes (Refused line) = IsRefusedWith IsNoSpecification (codes "specification") bytes line.items

abbrev pub IsFormOfTokens : List Token → Read TypedSpec → Type 0
IsFormOfTokens tokens (Accepted typed) = AreSpecification tokens typed.spec
IsFormOfTokens tokens (Refused line) = IsRefusedWith AreRefusedFor (codes "specification") tokens line.items

abbrev pub IsFormOfSpec : Spec → Read TypedSpec → Type 0
IsFormOfSpec spec (Accepted typed) = (typed.spec ≡ spec) × IsTaken spec
IsFormOfSpec spec (Refused line) = IsRefusedWith IsRefusedFor (codes "specification") spec line.items

-- a tree fits the signature, or doesn't, and then this is the line
abbrev pub IsFitted : Option Signature → Term → Read Term → Type 0
IsFitted signature tree (Accepted fitted) = (fitted ≡ tree) × TreeFits signature tree
IsFitted signature tree (Refused line) = (path : List ℕ) × IsLeastMisfit signature tree path × (line.items ≡ refusal_line (codes "tree") (codes "ill-sorted at " ++ path_text path))

-- bytes are a tree that fits, or are none, and then this is the line
abbrev pub IsFormOfTree : Option Signature → List ℕ → Read Term → Type 0
IsFormOfTree signature bytes (Accepted tree) = TermText bytes tree × TreeFits signature tree
IsFormOfTree signature bytes (Refused line) = IsRefusedWith (IsNoTree signature) (codes "tree") bytes line.items

-- the line of a file that was not read, and a fact where a call failed
abbrev pub IsLineOf : {T : Type 0} → List ℕ → ReadRefusal → Read T → Type 0
IsLineOf file refusal.Missing (Refused line) = line.items ≡ refusal_line file (codes "missing")
IsLineOf file refusal.TooLarge (Refused line) = line.items ≡ refusal_line file (codes "too large")
IsLineOf file _ _ = ⊥

-- a tree, if it is one, is small enough that its parts can be counted in 32 bits
abbrev pub IsCountable : Read Term → Type 0
IsCountable (Accepted tree) = term_size tree < 2 ^ 32
IsCountable (Refused line) = Unit {0}
