-- Which lines may stand in a certificate where, and the first fault of others.
use Rattle.std.specs.Prelude.{◌≡◌, ◌≢◌, ◌⊎◌, ℕ, zero, suc, List, [], ◌∷◌, ◌++◌, Option, Some, None, codes}
use Rattle.std.specs.declared.cmp.Ordering.{Ordering}
use Rattle.std.specs.declared.cmp.Ordering.TheVariants.{Less}
use Rattle.flow_term.specs.declared.graph.Edge.{Edge}
use Rattle.flow_term.specs.declared.value.Valued.{Valued}
use Rattle.flow_term.specs.Orders.{edge_cmp}
use Rattle.flow_lines.specs.Lines.{count_line, edge_line, value_line}
use Rattle.line_theory.specs.Lines.{lines_of}
use Rattle.line_theory.specs.Places.{IsFaultAt}
use Rattle.tree_constraints.specs.declared.constraint.Key.{Key}
use Rattle.cert_text.specs.declared.certificate.Certificate.{Certificate}
use Rattle.cert_text.specs.declared.place.CertFaultKind.{CertFaultKind}
use Rattle.cert_text.specs.declared.place.CertFaultKind.TheVariants as fault
use Rattle.cert_text.specs.declared.place.Place.{Place}
use Rattle.cert_text.specs.declared.place.Place.TheVariants.{Header, EdgeCount, Edges, Steps, Values, Finished}
use Rattle.cert_text.specs.declared.place.Progress.{Progress}
use Rattle.cert_text.specs.Texts.{IsCount, IsEdgeEntry, IsStepEntry, IsValueEntry, end_line, header_line, step_line, value_cmp}

-- the item is above the last of the list, if there is one
abbrev pub IsAbove : {X : Type 0} → (X → X → Ordering) → List X → X → Type 0
IsAbove cmp [] x = Unit {0}
IsAbove cmp (y ∷ []) x = cmp y x ≡ Less
IsAbove cmp (y ∷ z ∷ zs) x = IsAbove cmp (z ∷ zs) x

-- the start: no line was read
abbrev pub start : Progress
start = record { place = Header; certificate = record { edges = []; steps = []; values = [] } }

-- one more entry
abbrev pub with_edge : Certificate → Edge → Certificate
with_edge c e = record c { edges = c.edges ++ e ∷ [] }

abbrev pub with_step : Certificate → Key → Certificate
with_step c k = record c { steps = c.steps ++ k ∷ [] }

abbrev pub with_value : Certificate → Valued → Certificate
with_value c v = record c { values = c.values ++ v ∷ [] }

abbrev pub at : Place → Certificate → Progress
at place c = record { place = place; certificate = c }

-- the line is this word with a count, and then so many entries are to come
abbrev pub CountFits : List ℕ → (ℕ → Place) → Certificate → List ℕ → Progress → Type 0
CountFits word entries c line next = (n : ℕ) × IsCount n × (line ≡ count_line word n) × (next ≡ at (entries n) c)

-- the line may stand at the place, behind what was read, and leads to the next one
abbrev pub FitsAt : Place → Certificate → List ℕ → Progress → Type 0
FitsAt Header c line next = (line ≡ header_line) × (next ≡ at EdgeCount c)
FitsAt EdgeCount c line next = CountFits (codes "edges ") Edges c line next
FitsAt (Edges zero) c line next = CountFits (codes "steps ") Steps c line next
FitsAt (Edges (suc n)) c line next = (e : Edge) × IsEdgeEntry e × (line ≡ edge_line e) × IsAbove edge_cmp c.edges e × (next ≡ at (Edges n) (with_edge c e))
FitsAt (Steps zero) c line next = CountFits (codes "values ") Values c line next
FitsAt (Steps (suc n)) c line next = (k : Key) × IsStepEntry k × (line ≡ step_line k) × (next ≡ at (Steps n) (with_step c k))
FitsAt (Values zero) c line next = (line ≡ end_line) × (next ≡ at Finished c)
FitsAt (Values (suc n)) c line next = (v : Valued) × IsValueEntry v × (line ≡ value_line v) × IsAbove value_cmp c.values v × (next ≡ at (Values n) (with_value c v))
FitsAt Finished c line next = ⊥

abbrev pub Fits : Progress → List ℕ → Progress → Type 0
Fits p = FitsAt p.place p.certificate

abbrev pub IsLast : Progress → Type 0
IsLast p = p.place ≡ Finished

-- what stands there is such an entry: then it isn't above the one before
abbrev pub EntryFault : {X : Type 0} → (X → Type 0) → (X → List ℕ) → List (List ℕ) → CertFaultKind → Type 0
EntryFault {X} IsEntry entry [] kind = kind ≡ fault.Form
EntryFault {X} IsEntry entry (line ∷ lines) kind = (((x : X) × IsEntry x × (line ≡ entry x)) × (kind ≡ fault.Order)) ⊎ (((x : X) → IsEntry x → line ≢ entry x) × (kind ≡ fault.Form))

-- the kind of a fault, by its place and the lines from it on
abbrev pub KindAt : Place → List (List ℕ) → CertFaultKind → Type 0
KindAt Header lines kind = kind ≡ fault.Header
KindAt EdgeCount lines kind = kind ≡ fault.Count
KindAt (Edges zero) lines kind = kind ≡ fault.Count
KindAt (Edges (suc n)) lines kind = EntryFault IsEdgeEntry edge_line lines kind
KindAt (Steps zero) lines kind = kind ≡ fault.Count
KindAt (Steps (suc n)) lines kind = kind ≡ fault.Form
KindAt (Values zero) lines kind = kind ≡ fault.End
KindAt (Values (suc n)) lines kind = EntryFault IsValueEntry value_line lines kind
KindAt Finished lines kind = kind ≡ fault.End

-- The bytes are no certificate: this line, counted from 1, is the first that may not stand in its place, and this is why.
pub record IsFaulty (bytes : List ℕ) (number : ℕ) (kind : CertFaultKind) : Type 0 where
  pub at_place : Progress
  pub back : List (List ℕ)
  pub first : IsFaultAt Fits IsLast start (lines_of bytes) at_place number back
  pub of_kind : KindAt at_place.place back kind
