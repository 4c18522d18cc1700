-- The text of a certificate, and which have one.
use Rattle.std.specs.Prelude.{◌≡◌, ◌<◌, ◌^◌, ℕ, List, [], ◌∷◌, ◌++◌, All, codes, length, map}
use Rattle.std.specs.List.{flat_map}
use Rattle.std.specs.List.Sorted.{IsStrictlySortedBy}
use Rattle.std.specs.declared.cmp.Ordering.{Ordering}
use Rattle.flow_term.specs.declared.graph.Edge.{Edge}
use Rattle.flow_term.specs.declared.graph.Node.{Node}
use Rattle.flow_term.specs.declared.value.Valued.{Valued}
use Rattle.flow_term.specs.Nodes.{node_text}
use Rattle.flow_term.specs.Orders.{edge_cmp}
use Rattle.flow_term.specs.Paths.{AreSteps}
use Rattle.flow_syntax.specs.Accepted.{IsIdentifier}
use Rattle.value_text.specs.Texts.{HasText}
use Rattle.flow_lines.specs.Lines.{count_line, edge_line, value_line}
use Rattle.tree_constraints.specs.declared.constraint.Key.{Key}
use Rattle.tree_constraints.specs.declared.constraint.Origin.{Origin}
use Rattle.tree_constraints.specs.declared.constraint.Origin.TheVariants as origin
use Rattle.tree_constraints.specs.Orders.{unknown_cmp}
use Rattle.cert_text.specs.declared.certificate.Certificate.{Certificate}

-- THE TEXT

-- where the value of a step comes from
abbrev pub origin_text : Origin → List ℕ
origin_text origin.Boundary = codes "boundary"
origin_text (origin.Along n) = node_text n

-- a property, the node of the target, and where the value comes from
abbrev pub step_line : Key → List ℕ
step_line k = k.target.property ++ codes " " ++ node_text k.target.node ++ codes " " ++ origin_text k.origin ++ 10 ∷ []

abbrev pub header_line : List ℕ
header_line = codes "flowcert 1" ++ 10 ∷ []

abbrev pub end_line : List ℕ
end_line = codes "end" ++ 10 ∷ []

-- the lines: the header, the number of edges and a line for each, the same of steps and of values, and the end
abbrev pub cert_lines : Certificate → List (List ℕ)
cert_lines c =
    header_line ∷ count_line (codes "edges ") (length c.edges) ∷ (map edge_line c.edges
    ++ (count_line (codes "steps ") (length c.steps) ∷ (map step_line c.steps
    ++ (count_line (codes "values ") (length c.values) ∷ (map value_line c.values ++ end_line ∷ [])))))

abbrev pub cert_text : Certificate → List ℕ
cert_text c = flat_map (λ line. line) (cert_lines c)

-- WHICH HAVE ONE

abbrev pub value_cmp : Valued → Valued → Ordering
value_cmp v w = unknown_cmp v.unknown w.unknown

-- what the types hold anyway: the numbers of a path are below 2^32
abbrev pub IsEdgeEntry : Edge → Type 0
IsEdgeEntry e = AreSteps e.from.path × AreSteps e.to.path

abbrev pub IsFrom : Origin → Type 0
IsFrom origin.Boundary = Unit {0}
IsFrom (origin.Along n) = AreSteps n.path

-- the property is an identifier
abbrev pub IsStepEntry : Key → Type 0
IsStepEntry k = IsIdentifier k.target.property × AreSteps k.target.node.path × IsFrom k.origin

-- the property is an identifier, and the value has a text
abbrev pub IsValueEntry : Valued → Type 0
IsValueEntry v = IsIdentifier v.unknown.property × AreSteps v.unknown.node.path × HasText v.value

-- a count has at most nineteen digits
abbrev pub IsCount : ℕ → Type 0
IsCount n = n < 10 ^ 19

-- The certificate has a text: edges and values rise strictly, and each entry may be written.
pub record IsWritable (c : Certificate) : Type 0 where
  pub edges_rise : IsStrictlySortedBy edge_cmp c.edges
  pub values_rise : IsStrictlySortedBy value_cmp c.values
  pub edges : All IsEdgeEntry c.edges
  pub steps : All IsStepEntry c.steps
  pub values : All IsValueEntry c.values
  pub edge_count : IsCount (length c.edges)
  pub step_count : IsCount (length c.steps)
  pub value_count : IsCount (length c.values)

-- what is asked of a certificate that is written: edges and values rise strictly, properties are identifiers, and values have texts
pub record HasTexts (c : Certificate) : Type 0 where
  pub edges_rise : IsStrictlySortedBy edge_cmp c.edges
  pub values_rise : IsStrictlySortedBy value_cmp c.values
  pub steps : All (λ k. IsIdentifier k.target.property) c.steps
  pub values : All (λ v. IsIdentifier v.unknown.property × HasText v.value) c.values

-- The bytes are the text of the certificate.
pub record IsCertificate (bytes : List ℕ) (c : Certificate) : Type 0 where
  pub writable : IsWritable c
  pub text : cert_text c ≡ bytes
