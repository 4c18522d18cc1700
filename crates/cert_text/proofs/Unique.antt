-- A text has one answer.
use Rattle.std.proofs.Common.{◌≡◌, ℕ, zero, suc, List, [], ◌∷◌, ◌++◌, Result, Ok, Err, inl, inr, refl, sym, ap, subst, ◌∙◌}
use Rattle.std.specs.Prelude.{IfOk, IfErr, codes}
use Rattle.flow_lines.specs.Lines.{count_line, edge_line, value_line}
use Rattle.line_theory.specs.Lines.{lines_of}
use Rattle.line_theory.specs.Places.{IsDeterministic, LeadTo}
use Rattle.line_theory.proofs.PlaceLemmas.{not_both as whole_or_faulty, one_fault as same_fault, one_way}
use Rattle.cert_text.specs.declared.certificate.Certificate.{Certificate}
use Rattle.cert_text.specs.declared.place.CertFaultKind.{CertFaultKind}
use Rattle.cert_text.specs.declared.place.CertFaultKind.TheVariants as fault
use Rattle.cert_text.specs.declared.place.Place.{Place}
use Rattle.cert_text.specs.declared.place.Place.TheVariants.{Header, EdgeCount, Edges, Steps, Values, Finished}
use Rattle.cert_text.specs.declared.place.Progress.{Progress}
use Rattle.cert_text.specs.declared.refusal.CertRefusal.{CertRefusal}
use Rattle.cert_text.specs.declared.refusal.CertRefusal.TheVariants.{Fault, NoMemory}
use Rattle.cert_text.specs.Laws.{HasOneAnswer, IsReadAs, IsRefusedAs}
use Rattle.cert_text.specs.Lines.{CountFits, EntryFault, Fits, FitsAt, IsFaulty, IsLast, KindAt, at, start, with_edge, with_step, with_value}
use Rattle.cert_text.specs.Texts.{IsCertificate, IsEdgeEntry, IsValueEntry}
use Rattle.cert_text.specs.inner.Bodies.{count_body, edge_body, step_body, value_body}
use Rattle.cert_text.specs.inner.Moves.{Reads}
use Rattle.cert_text.proofs.Entries.{one_count, one_edge, one_step, one_value}
use Rattle.cert_text.proofs.Moving.{same_body}
use Rattle.cert_text.proofs.Whole.{certificate_leads, certificate_read}

-- ** one next place

same_count : (word : List ℕ) (entries : ℕ → Place) (c : Certificate) (l : List ℕ) (q r : Progress) → CountFits word entries c l q → CountFits word entries c l r → q ≡ r
same_count word entries c l q r a b =
    let same : a.0 ≡ b.0 = one_count word a.0 b.0 a.1 b.1 (same_body (count_body word a.0) (count_body word b.0) (sym a.2 ∙ b.2)) in
    a.3 ∙ ap (λ (n : ℕ). at (entries n) c) same ∙ sym b.3

one_next : (p : Place) (c : Certificate) (l : List ℕ) (q r : Progress) → FitsAt p c l q → FitsAt p c l r → q ≡ r
one_next Header c l q r a b = a.1 ∙ sym b.1
one_next EdgeCount c l q r a b = same_count (codes "edges ") Edges c l q r a b
one_next (Edges zero) c l q r a b = same_count (codes "steps ") Steps c l q r a b
one_next (Edges (suc n)) c l q r a b = a.4 ∙ (λ i. at (Edges n) (with_edge c (one_edge a.0 b.0 a.1 b.1 (same_body (edge_body a.0) (edge_body b.0) (sym a.2 ∙ b.2)) i))) ∙ sym b.4
one_next (Steps zero) c l q r a b = same_count (codes "values ") Values c l q r a b
one_next (Steps (suc n)) c l q r a b = a.3 ∙ (λ i. at (Steps n) (with_step c (one_step a.0 b.0 a.1 b.1 (same_body (step_body a.0) (step_body b.0) (sym a.2 ∙ b.2)) i))) ∙ sym b.3
one_next (Values zero) c l q r a b = a.1 ∙ sym b.1
one_next (Values (suc n)) c l q r a b = a.4 ∙ (λ i. at (Values n) (with_value c (one_value a.0 b.0 a.1 b.1 (same_body (value_body a.0) (value_body b.0) (sym a.2 ∙ b.2)) i))) ∙ sym b.4
one_next Finished c l q r a b = absurd a

none_behind : (p q : Progress) (l : List ℕ) → IsLast p → ¬ Fits p l q
none_behind p q l h = λ f. let no : ⊥ = subst (λ (x : Place). FitsAt x p.certificate l q) h f in no

deterministic : IsDeterministic Fits IsLast
deterministic = record { one = λ p q r l a b. one_next p.place p.certificate l q r a b; ends = none_behind }

-- ** one kind

module _ {X : Type 0} (Is : X → Type 0) (entry : X → List ℕ) where
  entry_kind : (ls : List (List ℕ)) (k j : CertFaultKind) → EntryFault Is entry ls k → EntryFault Is entry ls j → k ≡ j
  entry_kind [] k j a b = a ∙ sym b
  entry_kind (l ∷ ls) k j (inl a) (inl b) = a.1 ∙ sym b.1
  entry_kind (l ∷ ls) k j (inl a) (inr b) = absurd (b.0 a.0.0 a.0.1 a.0.2)
  entry_kind (l ∷ ls) k j (inr a) (inl b) = absurd (a.0 b.0.0 b.0.1 b.0.2)
  entry_kind (l ∷ ls) k j (inr a) (inr b) = a.1 ∙ sym b.1

one_kind : (p : Place) (ls : List (List ℕ)) (k j : CertFaultKind) → KindAt p ls k → KindAt p ls j → k ≡ j
one_kind Header ls k j a b = a ∙ sym b
one_kind EdgeCount ls k j a b = a ∙ sym b
one_kind (Edges zero) ls k j a b = a ∙ sym b
one_kind (Edges (suc n)) ls k j a b = entry_kind IsEdgeEntry edge_line ls k j a b
one_kind (Steps zero) ls k j a b = a ∙ sym b
one_kind (Steps (suc n)) ls k j a b = a ∙ sym b
one_kind (Values zero) ls k j a b = a ∙ sym b
one_kind (Values (suc n)) ls k j a b = entry_kind IsValueEntry value_line ls k j a b
one_kind Finished ls k j a b = a ∙ sym b

-- ** one answer

same_end : (bytes : List ℕ) (c d : Certificate) → LeadTo Fits IsLast start (lines_of bytes) (at Finished c) → LeadTo Fits IsLast start (lines_of bytes) (at Finished d) → c ≡ d
same_end bytes c d a b = ap (λ (p : Progress). p.certificate) (one_way Fits IsLast deterministic start (at Finished c) (at Finished d) (lines_of bytes) a b)

not_faulty : (bytes : List ℕ) (c : Certificate) (n : ℕ) (kind : CertFaultKind) → IsCertificate bytes c → ¬ IsFaulty bytes n kind
not_faulty bytes c n kind h = λ f. whole_or_faulty Fits IsLast deterministic start f.at_place (lines_of bytes) f.back n (at Finished c, certificate_leads bytes c h, refl) f.first

one_fault : (bytes : List ℕ) (m n : ℕ) (kind other : CertFaultKind) → IsFaulty bytes m kind → IsFaulty bytes n other → (m ≡ n) × (kind ≡ other)
one_fault bytes m n kind other f g =
    let same = same_fault Fits IsLast deterministic start (lines_of bytes) f.at_place g.at_place m n f.back g.back f.first g.first in
    let here : KindAt f.at_place.place f.back other = subst (λ (ls : List (List ℕ)). KindAt f.at_place.place ls other) (sym same.2) (subst (λ (p : Progress). KindAt p.place g.back other) (sym same.0) g.of_kind) in
    (same.1, one_kind f.at_place.place f.back kind other f.of_kind here)

pub one_answer : (bytes : List ℕ) → HasOneAnswer bytes
one_answer bytes = record {
  one = λ c d h k. same_end bytes c d (certificate_leads bytes c h) (certificate_leads bytes d k);
  one_fault = one_fault bytes;
  not_both = not_faulty bytes;
}

-- ** what was read

pub read_found : (bytes : List ℕ) (r : Result Certificate CertRefusal) → Reads bytes r → IfOk r (IsCertificate bytes)
read_found bytes (Ok c) h = certificate_read bytes c h
read_found bytes (Err e) h = tt

pub read_fault : (bytes : List ℕ) (r : Result Certificate CertRefusal) → Reads bytes r → IfErr r (IsRefusedAs bytes)
read_fault bytes (Ok c) h = tt
read_fault bytes (Err (Fault n kind)) h = h
read_fault bytes (Err NoMemory) h = tt

pub read_only : (bytes : List ℕ) (r : Result Certificate CertRefusal) → Reads bytes r → (c : Certificate) → IsCertificate bytes c → IsReadAs r c
read_only bytes (Ok d) h c is = same_end bytes d c h (certificate_leads bytes c is)
read_only bytes (Err (Fault n kind)) h c is = not_faulty bytes c n kind is h
read_only bytes (Err NoMemory) h c is = tt
