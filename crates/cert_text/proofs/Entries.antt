-- Each line has one entry.
use Rattle.std.proofs.Common.{◌≡◌, ℕ, ◌<◌, ◌^◌, List, [], ◌∷◌, ◌++◌, Some, None, drop, get_or, decimal, refl, sym, ap, subst, ◌∙◌, arith, append_assoc}
use Rattle.std.specs.Prelude.{codes, true}
use Rattle.std.proofs.lemmas.Fmt.{decimal_injective}
use Rattle.std.proofs.lemmas.List.{append_cancel_left, append_cancel_right}
use Rattle.flow_term.specs.declared.graph.Edge.{Edge}
use Rattle.flow_term.specs.declared.graph.Node.{Node}
use Rattle.flow_term.specs.declared.graph.NodeKind.{NodeKind}
use Rattle.flow_term.specs.declared.graph.Unknown.{Unknown}
use Rattle.flow_term.specs.declared.value.Value.{Value}
use Rattle.flow_term.specs.declared.value.Valued.{Valued}
use Rattle.flow_term.specs.Nodes.{kind_text, node_text}
use Rattle.flow_term.specs.Paths.{AreSteps, path_text}
use Rattle.flow_term.proofs.NodeTexts.{split_once as node_split}
use Rattle.value_text.specs.Texts.{HasText, value_text}
use Rattle.value_text.proofs.Paths.{path_read}
use Rattle.value_text.proofs.Told.{one_is}
use Rattle.value_text.proofs.ValueTexts.{one_value as same_value}
use Rattle.tree_constraints.specs.declared.constraint.Key.{Key}
use Rattle.tree_constraints.specs.declared.constraint.Origin.{Origin}
use Rattle.tree_constraints.specs.declared.constraint.Origin.TheVariants as origin
use Rattle.line_theory.specs.Lines.{IsSplit, lacks}
use Rattle.line_theory.proofs.LineLemmas.{lacks_append, none_within, split_once}
use Rattle.cert_text.specs.Texts.{IsCount, IsEdgeEntry, IsFrom, IsStepEntry, IsValueEntry, origin_text}
use Rattle.cert_text.specs.inner.Bodies.{count_body, edge_body, step_body, value_body}
use Rattle.cert_text.proofs.Bare.{blank, feed, name_lacks, node_lacks}
use Rattle.cert_text.proofs.Values.{value_lacks}

-- ** nodes and origins

same_path : (p q : List ℕ) → AreSteps p → AreSteps q → path_text p ≡ path_text q → p ≡ q
same_path p q h k e = one_is p q (sym (path_read p (path_text p) h refl) ∙ path_read q (path_text p) k (sym e))

pub one_node : (n m : Node) → AreSteps n.path → AreSteps m.path → node_text n ≡ node_text m → n ≡ m
one_node n m h k e =
    let parts = node_split (path_text n.path) (path_text m.path) n.kind m.kind e in
    let path : n.path ≡ m.path = same_path n.path m.path h k parts.1 in
    λ i. record { path = path i; kind = parts.0 i }

slash_first : (path : List ℕ) (rest : List ℕ) → get_or (path_text path ++ rest) 0 0 ≡ 47
slash_first [] rest = refl
slash_first (n ∷ path) rest = refl

no_boundary : (n : Node) → codes "boundary" ≡ node_text n → ⊥
no_boundary n e = let first : get_or (codes "boundary") 0 0 ≡ 47 = ap (λ (bs : List ℕ). get_or bs 0 0) e ∙ slash_first n.path (kind_text n.kind) in omega (arith, first)

pub one_origin : (a b : Origin) → IsFrom a → IsFrom b → origin_text a ≡ origin_text b → a ≡ b
one_origin origin.Boundary origin.Boundary h k e = refl
one_origin origin.Boundary (origin.Along n) h k e = absurd (no_boundary n e)
one_origin (origin.Along n) origin.Boundary h k e = absurd (no_boundary n (sym e))
one_origin (origin.Along n) (origin.Along m) h k e = ap origin.Along (one_node n m h k e)

-- ** counts

pub one_count : (word : List ℕ) (m n : ℕ) → IsCount m → IsCount n → count_body word m ≡ count_body word n → m ≡ n
one_count word m n h k e = decimal_injective m n (omega (arith, h)) (omega (arith, k)) (append_cancel_left word (decimal m) (decimal n) e)

-- ** lines with a blank behind their first part

edge_flat : (a b : List ℕ) → a ++ codes " -> " ++ b ≡ a ++ 32 ∷ (codes "-> " ++ b)
edge_flat a b = append_assoc a (codes " -> ") b

pub edge_split : (e : Edge) → edge_body e ≡ node_text e.from ++ 32 ∷ (codes "-> " ++ node_text e.to)
edge_split e = edge_flat (node_text e.from) (node_text e.to)

three_flat : (a b c : List ℕ) → a ++ codes " " ++ b ++ codes " " ++ c ≡ a ++ 32 ∷ (b ++ 32 ∷ c)
three_flat a b c = append_assoc (a ++ codes " " ++ b) (codes " ") c ∙ append_assoc (a ++ codes " ") b (codes " " ++ c) ∙ append_assoc a (codes " ") (b ++ 32 ∷ c)

pub step_split : (k : Key) → step_body k ≡ k.target.property ++ 32 ∷ (node_text k.target.node ++ 32 ∷ origin_text k.origin)
step_split k = three_flat k.target.property (node_text k.target.node) (origin_text k.origin)

value_flat : (a b c : List ℕ) → a ++ codes " " ++ b ++ codes " = " ++ c ≡ a ++ 32 ∷ (b ++ 32 ∷ (codes "= " ++ c))
value_flat a b c = append_assoc (a ++ codes " " ++ b) (codes " = ") c ∙ append_assoc (a ++ codes " ") b (codes " = " ++ c) ∙ append_assoc a (codes " ") (b ++ 32 ∷ (codes "= " ++ c))

pub value_split : (v : Valued) → value_body v ≡ node_text v.unknown.node ++ 32 ∷ (v.unknown.property ++ 32 ∷ (codes "= " ++ value_text v.value))
value_split v = value_flat (node_text v.unknown.node) v.unknown.property (value_text v.value)

-- ** one entry

pub one_edge : (e f : Edge) → IsEdgeEntry e → IsEdgeEntry f → edge_body e ≡ edge_body f → e ≡ f
one_edge e f h k same =
    let parts = split_once 32 (node_text e.from) (codes "-> " ++ node_text e.to) (node_text f.from) (codes "-> " ++ node_text f.to) (node_lacks 32 blank e.from h.0) (node_lacks 32 blank f.from k.0)
    (sym (edge_split e) ∙ same ∙ edge_split f) in
    let from : e.from ≡ f.from = one_node e.from f.from h.0 k.0 parts.0 in
    let to : e.to ≡ f.to = one_node e.to f.to h.1 k.1 (ap (drop 3) parts.1) in
    λ i. record { from = from i; to = to i }

pub one_step : (j k : Key) → IsStepEntry j → IsStepEntry k → step_body j ≡ step_body k → j ≡ k
one_step j k h g same =
    let a = split_once 32 j.target.property (node_text j.target.node ++ 32 ∷ origin_text j.origin) k.target.property (node_text k.target.node ++ 32 ∷ origin_text k.origin)
    (name_lacks 32 blank j.target.property h.0) (name_lacks 32 blank k.target.property g.0) (sym (step_split j) ∙ same ∙ step_split k) in
    let b = split_once 32 (node_text j.target.node) (origin_text j.origin) (node_text k.target.node) (origin_text k.origin)
    (node_lacks 32 blank j.target.node h.1) (node_lacks 32 blank k.target.node g.1) a.1 in
    let node : j.target.node ≡ k.target.node = one_node j.target.node k.target.node h.1 g.1 b.0 in
    let from : j.origin ≡ k.origin = one_origin j.origin k.origin h.2 g.2 b.1 in
    λ i. record { target = record { node = node i; property = a.0 i }; origin = from i }

pub one_value : (v w : Valued) → IsValueEntry v → IsValueEntry w → value_body v ≡ value_body w → v ≡ w
one_value v w h k same =
    let a = split_once 32 (node_text v.unknown.node) (v.unknown.property ++ 32 ∷ (codes "= " ++ value_text v.value)) (node_text w.unknown.node) (w.unknown.property ++ 32 ∷ (codes "= " ++ value_text w.value))
    (node_lacks 32 blank v.unknown.node h.1) (node_lacks 32 blank w.unknown.node k.1) (sym (value_split v) ∙ same ∙ value_split w) in
    let b = split_once 32 v.unknown.property (codes "= " ++ value_text v.value) w.unknown.property (codes "= " ++ value_text w.value)
    (name_lacks 32 blank v.unknown.property h.0) (name_lacks 32 blank w.unknown.property k.0) a.1 in
    let node : v.unknown.node ≡ w.unknown.node = one_node v.unknown.node w.unknown.node h.1 k.1 a.0 in
    let value : v.value ≡ w.value = same_value (value_text v.value) v.value w.value record { has_text = h.2; text = refl } record { has_text = k.2; text = sym (ap (drop 2) b.1) } in
    λ i. record { unknown = record { node = node i; property = b.0 i }; value = value i }

-- ** no entry has a line feed

pub edge_lacks : (e : Edge) → IsEdgeEntry e → lacks 10 (edge_body e) ≡ true
edge_lacks e h = lacks_append 10 (node_text e.from ++ codes " -> ") (node_text e.to) (lacks_append 10 (node_text e.from) (codes " -> ") (node_lacks 10 feed e.from h.0) refl) (node_lacks 10 feed e.to h.1)

origin_lacks : (o : Origin) → IsFrom o → lacks 10 (origin_text o) ≡ true
origin_lacks origin.Boundary h = refl
origin_lacks (origin.Along n) h = node_lacks 10 feed n h

pub step_lacks : (k : Key) → IsStepEntry k → lacks 10 (step_body k) ≡ true
step_lacks k h =
    lacks_append 10 (k.target.property ++ codes " " ++ node_text k.target.node ++ codes " ") (origin_text k.origin)
    (lacks_append 10 (k.target.property ++ codes " " ++ node_text k.target.node) (codes " ")
    (lacks_append 10 (k.target.property ++ codes " ") (node_text k.target.node) (lacks_append 10 k.target.property (codes " ") (name_lacks 10 feed k.target.property h.0) refl) (node_lacks 10 feed k.target.node h.1)) refl)
    (origin_lacks k.origin h.2)

pub value_body_lacks : (v : Valued) → IsValueEntry v → lacks 10 (value_body v) ≡ true
value_body_lacks v h =
    lacks_append 10 (node_text v.unknown.node ++ codes " " ++ v.unknown.property ++ codes " = ") (value_text v.value)
    (lacks_append 10 (node_text v.unknown.node ++ codes " " ++ v.unknown.property) (codes " = ")
    (lacks_append 10 (node_text v.unknown.node ++ codes " ") v.unknown.property (lacks_append 10 (node_text v.unknown.node) (codes " ") (node_lacks 10 feed v.unknown.node h.1) refl) (name_lacks 10 feed v.unknown.property h.0)) refl)
    (value_lacks v.value h.2)
