-- What parts of a line tell of its entry.
use Rattle.std.proofs.Common.{◌≡◌, ℕ, ◌<◌, ◌≤◌, ◌^◌, Bool, List, ◌∷◌, ◌++◌, Result, Ok, Err, Some, None, drop, decimal, refl, sym, ap, subst, ◌∙◌, arith}
use Rattle.std.specs.Prelude.{◌≢◌, codes, true, IfNone, Option}
use Rattle.std.proofs.lemmas.List.{append_cancel_left}
use Rattle.flow_term.specs.declared.graph.Edge.{Edge}
use Rattle.flow_term.specs.declared.graph.Node.{Node}
use Rattle.flow_term.specs.declared.value.Value.{Value}
use Rattle.flow_term.specs.declared.value.Valued.{Valued}
use Rattle.flow_term.specs.Nodes.{node_text}
use Rattle.flow_term.specs.Paths.{AreSteps}
use Rattle.flow_syntax.specs.Accepted.{IsIdentifier}
use Rattle.value_text.specs.Texts.{HasText, value_text}
use Rattle.tree_constraints.specs.declared.constraint.Key.{Key}
use Rattle.tree_constraints.specs.declared.constraint.Origin.{Origin}
use Rattle.line_theory.specs.Lines.{IsSplit, lacks}
use Rattle.line_theory.proofs.LineLemmas.{none_within, split_once}
use Rattle.cert_text.specs.declared.entry.LineRefusal.{LineRefusal}
use Rattle.cert_text.specs.declared.entry.LineRefusal.TheVariants.{Form, NoMemory}
use Rattle.cert_text.specs.Texts.{IsEdgeEntry, IsFrom, IsStepEntry, IsValueEntry, origin_text}
use Rattle.cert_text.specs.inner.Bodies.{Tells, edge_body, step_body, value_body}
use Rattle.cert_text.proofs.Bare.{blank, name_lacks, node_lacks}
use Rattle.cert_text.proofs.Entries.{edge_split, step_split, value_split}

-- nothing of the kind has this text
abbrev pub HasNone : {X : Type 0} → (X → Type 0) → (X → List ℕ) → List ℕ → Type 0
HasNone {X} Is text bytes = (x : X) → Is x → text x ≡ bytes → ⊥

-- where a part has no text, the whole has none
module _ {X Y : Type 0} (Is : X → Type 0) (text : X → List ℕ) (Has : Y → Type 0) (whole : Y → List ℕ) where
  pub passes_on : (bytes all : List ℕ) (e f : LineRefusal) (r : Result Y LineRefusal) → Tells Is text bytes (Err e) → r ≡ Err f → f ≡ e → (HasNone Is text bytes → HasNone Has whole all) → Tells Has whole all r
  passes_on bytes all Form f r none is same carry = subst (λ (x : Result Y LineRefusal). Tells Has whole all x) (sym (is ∙ ap Err same)) (carry none)
  passes_on bytes all NoMemory f r none is same carry = subst (λ (x : Result Y LineRefusal). Tells Has whole all x) (sym (is ∙ ap Err same)) tt

-- a body with a blank behind a part without one is split there
at_blank : (body front rest part others : List ℕ) → IsSplit 32 body front rest → lacks 32 part ≡ true → body ≡ part ++ 32 ∷ others → (part ≡ front) × (others ≡ rest)
at_blank body front rest part others s bare is = split_once 32 part others front rest bare s.first (sym is ∙ s.whole)

-- ** edges

pub edge_parts : (e : Edge) (body front rest : List ℕ) → IsEdgeEntry e → edge_body e ≡ body → IsSplit 32 body front rest → (node_text e.from ≡ front) × (codes "-> " ++ node_text e.to ≡ rest)
edge_parts e body front rest h is s = at_blank body front rest (node_text e.from) (codes "-> " ++ node_text e.to) s (node_lacks 32 blank e.from h.0) (sym is ∙ edge_split e)

pub no_edge_unsplit : (body : List ℕ) → lacks 32 body ≡ true → HasNone IsEdgeEntry edge_body body
no_edge_unsplit body h e entry is = none_within 32 (node_text e.from) (codes "-> " ++ node_text e.to) (ap (lacks 32) (sym (edge_split e) ∙ is) ∙ h)

pub no_edge_arrow : (body front rest : List ℕ) → IsSplit 32 body front rest → ((to : List ℕ) → rest ≢ codes "-> " ++ to) → HasNone IsEdgeEntry edge_body body
no_edge_arrow body front rest s none e entry is = none (node_text e.to) (sym (edge_parts e body front rest entry is s).1)

pub no_edge_from : (body front rest : List ℕ) → IsSplit 32 body front rest → HasNone (λ (n : Node). AreSteps n.path) node_text front → HasNone IsEdgeEntry edge_body body
no_edge_from body front rest s none e entry is = none e.from entry.0 (edge_parts e body front rest entry is s).0

pub no_edge_to : (body front rest to : List ℕ) → IsSplit 32 body front rest → rest ≡ codes "-> " ++ to → HasNone (λ (n : Node). AreSteps n.path) node_text to → HasNone IsEdgeEntry edge_body body
no_edge_to body front rest to s is none e entry same = none e.to entry.1 (append_cancel_left (codes "-> ") (node_text e.to) to ((edge_parts e body front rest entry same s).1 ∙ is))

pub edge_made : (body front rest to : List ℕ) (e : Edge) → IsSplit 32 body front rest → rest ≡ codes "-> " ++ to → node_text e.from ≡ front → node_text e.to ≡ to → edge_body e ≡ body
edge_made body front rest to e s is f t = edge_split e ∙ (λ i. f i ++ 32 ∷ (codes "-> " ++ t i)) ∙ ap (λ (xs : List ℕ). front ++ 32 ∷ xs) (sym is) ∙ sym s.whole

-- ** steps

pub no_step_unsplit : (body : List ℕ) → lacks 32 body ≡ true → HasNone IsStepEntry step_body body
no_step_unsplit body h k entry is = none_within 32 k.target.property (node_text k.target.node ++ 32 ∷ origin_text k.origin) (ap (lacks 32) (sym (step_split k) ∙ is) ∙ h)

pub step_front : (k : Key) (body front rest : List ℕ) → IsStepEntry k → step_body k ≡ body → IsSplit 32 body front rest → (k.target.property ≡ front) × (node_text k.target.node ++ 32 ∷ origin_text k.origin ≡ rest)
step_front k body front rest h is s = at_blank body front rest k.target.property (node_text k.target.node ++ 32 ∷ origin_text k.origin) s (name_lacks 32 blank k.target.property h.0) (sym is ∙ step_split k)

pub no_step_source : (body front rest : List ℕ) → IsSplit 32 body front rest → lacks 32 rest ≡ true → HasNone IsStepEntry step_body body
no_step_source body front rest s h k entry is = none_within 32 (node_text k.target.node) (origin_text k.origin) (ap (lacks 32) (step_front k body front rest entry is s).1 ∙ h)

step_behind : (k : Key) (body front rest node source : List ℕ) → IsStepEntry k → step_body k ≡ body → IsSplit 32 body front rest → IsSplit 32 rest node source → (node_text k.target.node ≡ node) × (origin_text k.origin ≡ source)
step_behind k body front rest node source h is s t = at_blank rest node source (node_text k.target.node) (origin_text k.origin) t (node_lacks 32 blank k.target.node h.1) (sym (step_front k body front rest h is s).1)

pub no_step_name : (body front rest : List ℕ) → IsSplit 32 body front rest → HasNone IsIdentifier (λ text. text) front → HasNone IsStepEntry step_body body
no_step_name body front rest s none k entry is = none k.target.property entry.0 (step_front k body front rest entry is s).0

pub no_step_node : (body front rest node source : List ℕ) → IsSplit 32 body front rest → IsSplit 32 rest node source → HasNone (λ (n : Node). AreSteps n.path) node_text node → HasNone IsStepEntry step_body body
no_step_node body front rest node source s t none k entry is = none k.target.node entry.1 (step_behind k body front rest node source entry is s t).0

pub no_step_origin : (body front rest node source : List ℕ) → IsSplit 32 body front rest → IsSplit 32 rest node source → HasNone IsFrom origin_text source → HasNone IsStepEntry step_body body
no_step_origin body front rest node source s t none k entry is = none k.origin entry.2 (step_behind k body front rest node source entry is s t).1

pub step_made : (body front rest node source : List ℕ) (k : Key) → IsSplit 32 body front rest → IsSplit 32 rest node source → k.target.property ≡ front → node_text k.target.node ≡ node → origin_text k.origin ≡ source → step_body k ≡ body
step_made body front rest node source k s t p n o =
    step_split k ∙ (λ i. p i ++ 32 ∷ (n i ++ 32 ∷ o i)) ∙ ap (λ (xs : List ℕ). front ++ 32 ∷ xs) (sym t.whole) ∙ sym s.whole

-- ** values

pub no_value_unsplit : (body : List ℕ) → lacks 32 body ≡ true → HasNone IsValueEntry value_body body
no_value_unsplit body h v entry is = none_within 32 (node_text v.unknown.node) (v.unknown.property ++ 32 ∷ (codes "= " ++ value_text v.value)) (ap (lacks 32) (sym (value_split v) ∙ is) ∙ h)

value_front : (v : Valued) (body front rest : List ℕ) → IsValueEntry v → value_body v ≡ body → IsSplit 32 body front rest
    → (node_text v.unknown.node ≡ front) × (v.unknown.property ++ 32 ∷ (codes "= " ++ value_text v.value) ≡ rest)
value_front v body front rest h is s =
    at_blank body front rest (node_text v.unknown.node) (v.unknown.property ++ 32 ∷ (codes "= " ++ value_text v.value)) s (node_lacks 32 blank v.unknown.node h.1) (sym is ∙ value_split v)

pub no_value_sign : (body front rest : List ℕ) → IsSplit 32 body front rest → lacks 32 rest ≡ true → HasNone IsValueEntry value_body body
no_value_sign body front rest s h v entry is = none_within 32 v.unknown.property (codes "= " ++ value_text v.value) (ap (lacks 32) (value_front v body front rest entry is s).1 ∙ h)

value_behind : (v : Valued) (body front rest name more : List ℕ) → IsValueEntry v → value_body v ≡ body → IsSplit 32 body front rest → IsSplit 32 rest name more → (v.unknown.property ≡ name) × (codes "= " ++ value_text v.value ≡ more)
value_behind v body front rest name more h is s t = at_blank rest name more v.unknown.property (codes "= " ++ value_text v.value) t (name_lacks 32 blank v.unknown.property h.0) (sym (value_front v body front rest h is s).1)

pub no_value_equals : (body front rest name more : List ℕ) → IsSplit 32 body front rest → IsSplit 32 rest name more → ((text : List ℕ) → more ≢ codes "= " ++ text) → HasNone IsValueEntry value_body body
no_value_equals body front rest name more s t none v entry is = none (value_text v.value) (sym (value_behind v body front rest name more entry is s t).1)

pub no_value_node : (body front rest : List ℕ) → IsSplit 32 body front rest → HasNone (λ (n : Node). AreSteps n.path) node_text front → HasNone IsValueEntry value_body body
no_value_node body front rest s none v entry is = none v.unknown.node entry.1 (value_front v body front rest entry is s).0

pub no_value_name : (body front rest name more : List ℕ) → IsSplit 32 body front rest → IsSplit 32 rest name more → HasNone IsIdentifier (λ text. text) name → HasNone IsValueEntry value_body body
no_value_name body front rest name more s t none v entry is = none v.unknown.property entry.0 (value_behind v body front rest name more entry is s t).0

pub no_value_text : (body front rest name more text : List ℕ) → IsSplit 32 body front rest → IsSplit 32 rest name more → more ≡ codes "= " ++ text → HasNone HasText value_text text → HasNone IsValueEntry value_body body
no_value_text body front rest name more text s t is none v entry same =
    none v.value entry.2 (append_cancel_left (codes "= ") (value_text v.value) text ((value_behind v body front rest name more entry same s t).1 ∙ is))

pub value_made : (body front rest name more text : List ℕ) (v : Valued) → IsSplit 32 body front rest → IsSplit 32 rest name more → more ≡ codes "= " ++ text → node_text v.unknown.node ≡ front → v.unknown.property ≡ name → value_text v.value ≡ text
    → value_body v ≡ body
value_made body front rest name more text v s t is n p e =
    value_split v ∙ (λ i. n i ++ 32 ∷ (p i ++ 32 ∷ (codes "= " ++ e i))) ∙ ap (λ (xs : List ℕ). front ++ 32 ∷ (name ++ 32 ∷ xs)) (sym is) ∙ ap (λ (xs : List ℕ). front ++ 32 ∷ xs) (sym t.whole) ∙ sym s.whole
