-- The whole output of a request.
use Rattle.std.specs.Prelude.{◌≡◌, ℕ, List, Option}
use Rattle.std.specs.FinMap.{get}
use Rattle.flow_term.specs.declared.term.Term.{Term}
use Rattle.flow_syntax.specs.declared.spec.Spec.{Spec}
use Rattle.flow_io.specs.Contents.{Contents}
use Rattle.flow_cli.specs.declared.output.End.{End}
use Rattle.flow_cli.specs.declared.output.End.TheVariants as end
use Rattle.flow_cli.specs.declared.words.Request.{Request}
use Rattle.flow_cli.specs.declared.words.Request.TheVariants.{Graph}
use Rattle.flow_cli.specs.Files.{IsRefusedSpecification, IsRefusedTree, IsSpecification, IsTree}
use Rattle.flow_cli.specs.GraphText.{GraphText}

-- The whole output of `graph`, by the contents of its two files, and how it ends:
pub data IsGraphOutput (spec_content tree_content : Option (List ℕ)) (out : List ℕ) (how : End) : Type 0 where
  -- the specification is refused
  refused_specification : IsRefusedSpecification spec_content out → how ≡ end.Refused → IsGraphOutput spec_content tree_content out how
  -- the specification is accepted, and the tree is refused
  refused_tree : (spec : Spec) → IsSpecification spec_content spec → IsRefusedTree spec.signature tree_content out → how ≡ end.Refused → IsGraphOutput spec_content tree_content out how
  -- both are accepted, and the graph is written
  printed : (spec : Spec) (tree : Term) → IsSpecification spec_content spec → IsTree spec.signature tree_content tree → GraphText spec tree out → how ≡ end.Done → IsGraphOutput spec_content tree_content out how

-- The whole output of a request over these files, and how it ends.
abbrev pub Whole : Request → Contents → List ℕ → End → Type 0
Whole (Graph spec tree) files out how = IsGraphOutput (get files spec) (get files tree) out how
