-- The lines of counts, nodes, edges and values, each with the line feed at its end.
use Rattle.std.specs.Prelude.{ℕ, List, [], ◌∷◌, ◌++◌, codes, decimal}
use Rattle.flow_term.specs.declared.graph.Edge.{Edge}
use Rattle.flow_term.specs.declared.graph.Node.{Node}
use Rattle.flow_term.specs.declared.value.Valued.{Valued}
use Rattle.flow_term.specs.Nodes.{node_text}
use Rattle.value_text.specs.Texts.{value_text}

-- a word, a number, and the end of the line
abbrev pub count_line : List ℕ → ℕ → List ℕ
count_line word n = word ++ decimal n ++ 10 ∷ []

abbrev pub node_line : Node → List ℕ
node_line n = node_text n ++ 10 ∷ []

abbrev pub edge_line : Edge → List ℕ
edge_line e = node_text e.from ++ codes " -> " ++ node_text e.to ++ 10 ∷ []

-- a node, a property, and the value that it has there
abbrev pub value_line : Valued → List ℕ
value_line v = node_text v.unknown.node ++ codes " " ++ v.unknown.property ++ codes " = " ++ value_text v.value ++ 10 ∷ []
