-- Lines without their line feed, and what reading one answers.
use Rattle.std.specs.Prelude.{◌≡◌, ℕ, List, ◌++◌, codes, decimal, Result, Ok, Err}
use Rattle.flow_term.specs.declared.graph.Edge.{Edge}
use Rattle.flow_term.specs.declared.value.Valued.{Valued}
use Rattle.flow_term.specs.Nodes.{node_text}
use Rattle.flow_term.specs.Paths.{AreSteps}
use Rattle.value_text.specs.Texts.{value_text}
use Rattle.tree_constraints.specs.declared.constraint.Key.{Key}
use Rattle.cert_text.specs.declared.entry.LineRefusal.{LineRefusal}
use Rattle.cert_text.specs.declared.entry.LineRefusal.TheVariants.{Form, NoMemory}
use Rattle.cert_text.specs.Texts.{IsFrom, origin_text}

abbrev pub count_body : List ℕ → ℕ → List ℕ
count_body word n = word ++ decimal n

abbrev pub edge_body : Edge → List ℕ
edge_body e = node_text e.from ++ codes " -> " ++ node_text e.to

abbrev pub step_body : Key → List ℕ
step_body k = k.target.property ++ codes " " ++ node_text k.target.node ++ codes " " ++ origin_text k.origin

abbrev pub value_body : Valued → List ℕ
value_body v = node_text v.unknown.node ++ codes " " ++ v.unknown.property ++ codes " = " ++ value_text v.value

-- the thing whose text these bytes are, or that there is none, unless memory ran out
abbrev pub Tells : {X : Type 0} → (X → Type 0) → (X → List ℕ) → List ℕ → Result X LineRefusal → Type 0
Tells {X} Is text bytes (Ok x) = Is x × (text x ≡ bytes)
Tells {X} Is text bytes (Err Form) = (x : X) → Is x → text x ≡ bytes → ⊥
Tells {X} Is text bytes (Err NoMemory) = Unit {0}

-- what the types of a step hold
abbrev pub HasStepPaths : Key → Type 0
HasStepPaths k = AreSteps k.target.node.path × IsFrom k.origin
