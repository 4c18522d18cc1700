-- The texts of nodes.
use Rattle.std.specs.Prelude.{◌≡◌, ℕ, List, ◌++◌, Result, Ok, Err, codes}
use Rattle.flow_term.specs.declared.graph.Node.{Node}
use Rattle.flow_term.specs.declared.graph.NodeKind.{NodeKind}
use Rattle.flow_term.specs.declared.graph.NodeKind.TheVariants.{Start, Node as Single, End}
use Rattle.flow_term.specs.declared.path_text.PathRefusal.{PathRefusal}
use Rattle.flow_term.specs.declared.path_text.PathRefusal.TheVariants.{Form, NoMemory}
use Rattle.flow_term.specs.Paths.{path_text}

-- what a node is at its position
abbrev pub kind_text : NodeKind → List ℕ
kind_text Start = codes ":start"
kind_text Single = codes ":node"
kind_text End = codes ":end"

-- a node is its path, and what it is there
abbrev pub node_text : Node → List ℕ
node_text n = path_text n.path ++ kind_text n.kind

-- the answer is this node, unless memory ran out
abbrev pub IsNodeReadAs : Result Node PathRefusal → Node → Type 0
IsNodeReadAs (Ok read) node = read ≡ node
IsNodeReadAs (Err Form) node = ⊥
IsNodeReadAs (Err NoMemory) node = Unit {0}
