-- Where reading stops, a row of the table of faults stands.
use Rattle.std.proofs.Common.{◌≡◌, ℕ, ◌+◌, ◌≤◌, true, false, List, [], ◌∷◌, ◌++◌, length, Result, Ok, Err, refl, sym, ap, ◌∙◌, subst, append-nil, append_assoc, length-append, arith}
use Rattle.std.specs.Prelude.{IsUtf8}
use Rattle.flow_term.specs.declared.term.Term.{Term}
use Rattle.aterm_text.specs.declared.refusal.TermFaultKind.{TermFaultKind}
use Rattle.aterm_text.specs.declared.refusal.TermFaultKind.TheVariants.{NotUtf8, Unexpected}
use Rattle.aterm_text.specs.Faults.{Begins, IsFault}
use Rattle.aterm_text.specs.Grammar.{IsText}
use Rattle.aterm_text.specs.inner.Machine.{State, Next, step, run, finish, nothing, reading, ◌>>=◌}
use Rattle.aterm_text.proofs.Runs.{run_on}
use Rattle.aterm_text.proofs.Limits.{unexpected_same, bind_err, run_free}
use Rattle.aterm_text.proofs.Sound.{Stops}
use Rattle.aterm_text.proofs.Ends.{Ends, MeansEnd}
use Rattle.aterm_text.proofs.Traces.{nothing_means, Stopped, run_stops, front_utf8, stopped_outside, ReadsText, reads_text, end_of}

pub no_limits : {P : Type 0} → false ≡ true → P
no_limits e = cc

-- no text goes on with a byte at which reading stops
not_further : (p : List ℕ) (c offset : ℕ) (mid : State) → run true nothing 0 p ≡ Ok mid → step true mid (0 + length p) c ≡ Err (offset, Unexpected) → ¬ Begins (p ++ c ∷ [])
not_further p c offset mid runs steps = λ b.
    let r : ReadsText false ((p ++ c ∷ []) ++ b.more) b.value = reads_text false ((p ++ c ∷ []) ++ b.more) b.value b.text (λ e. no_limits e) in
    let free : run false nothing 0 p ≡ Ok mid = run_free nothing mid 0 p runs in
    let stop : run false nothing 0 ((p ++ c ∷ []) ++ b.more) ≡ Err (offset, Unexpected) =
    ap (run false nothing 0) (append_assoc p (c ∷ []) b.more) ∙ run_on false nothing mid 0 p (c ∷ b.more) free
    ∙ bind_err (step false mid (0 + length p) c) (λ next. run false next (0 + length p + 1) b.more) (offset, Unexpected) (unexpected_same mid (0 + length p) c offset steps) in
    let go : run false nothing 0 ((p ++ c ∷ []) ++ b.more) ≡ Ok r.end = r.runs in
    cc

-- nor are the bytes a text where reading stops at their end
not_ended : (bytes : List ℕ) (s : State) (e : ℕ × TermFaultKind) → run true nothing 0 bytes ≡ Ok s → finish s (length bytes) ≡ Err e → (t : Term) → ¬ IsText bytes t
not_ended bytes s e runs ends t = λ h.
    let r : ReadsText false bytes t = reads_text false bytes t h (λ x. no_limits x) in
    let free : run false nothing 0 bytes ≡ Ok s = run_free nothing s 0 bytes runs in
    let go : run false nothing 0 bytes ≡ Ok r.end = r.runs in
    let same : r.end ≡ s = cc in
    let done : finish r.end (length bytes) ≡ Ok t = r.finishes (length bytes) in
    let stop : finish r.end (length bytes) ≡ Err e = ap (λ (x : State). finish x (length bytes)) same ∙ ends in
    cc

pub stops_bound : (k : TermFaultKind) (p : List ℕ) (c offset : ℕ) → Stops k p c offset → offset ≤ length p
stops_bound Unexpected p c offset s = omega (arith, s.0)
stops_bound NotUtf8 p c offset s = absurd s
stops_bound k p c offset s = s.0

pub ends_bound : (k : TermFaultKind) (p : List ℕ) (offset : ℕ) → Ends k p offset → offset ≤ length p
ends_bound Unexpected p offset s = omega (arith, s.0)
ends_bound NotUtf8 p offset s = absurd s
ends_bound k p offset s = s.0

-- what is known of Unexpected alone
abbrev Known : TermFaultKind → Type 0 → Type 0
Known Unexpected P = P
Known _ P = Unit {0}

known : (k : TermFaultKind) (P : Type 0) → (k ≡ Unexpected → P) → Known k P
known Unexpected P h = h refl
known NotUtf8 P h = tt
known k P h = tt

stops_fault : (k : TermFaultKind) (p rest bytes : List ℕ) (c offset : ℕ) → bytes ≡ p ++ c ∷ rest → IsUtf8 bytes → Stops k p c offset → IsUtf8 p → Known k (¬ Begins (p ++ c ∷ [])) → IsFault bytes offset k
stops_fault Unexpected p rest bytes c offset e u s w n = record { readable = u; front = p; rest = c ∷ rest; whole = e; place = sym s.0; stands = (s.1 w, n) }
stops_fault NotUtf8 p rest bytes c offset e u s w n = absurd s
stops_fault k p rest bytes c offset e u s w n = let b = s.1 rest in record { readable = u; front = b.0; rest = b.1; whole = e ∙ b.2; place = b.3; stands = b.4 }

ends_fault : (k : TermFaultKind) (bytes : List ℕ) (offset : ℕ) → IsUtf8 bytes → Ends k bytes offset → Known k ((t : Term) → ¬ IsText bytes t) → IsFault bytes offset k
ends_fault Unexpected bytes offset u s n = record { readable = u; front = bytes; rest = []; whole = sym (append-nil bytes); place = sym s.0; stands = (s.1 u, n) }
ends_fault NotUtf8 bytes offset u s n = absurd s
ends_fault k bytes offset u s n = let b = s.1 in record { readable = u; front = b.0; rest = b.1; whole = b.2; place = b.3; stands = b.4 }

-- a fault that is read, and where
pub record Faulted (bytes : List ℕ) (offset : ℕ) (k : TermFaultKind) : Type 0 where
  pub stands : IsUtf8 bytes → IsFault bytes offset k
  pub bound : offset ≤ length bytes

from_stop : (bytes : List ℕ) (offset : ℕ) (k : TermFaultKind) → Stopped nothing 0 [] bytes offset k → Faulted bytes offset k
from_stop bytes offset k h = record {
  stands = λ u. stops_fault k h.passed h.rest bytes h.byte offset h.whole u h.stops
      (front_utf8 h.mid h.passed (h.byte ∷ h.rest) h.runs (stopped_outside h.mid (0 + length h.passed) h.byte (offset, k) h.steps) (subst IsUtf8 h.whole u))
      (known k (¬ Begins (h.passed ++ h.byte ∷ [])) (λ e. not_further h.passed h.byte offset h.mid h.runs (h.steps ∙ ap (λ (j : TermFaultKind). Err (offset, j)) e)));
  bound = omega (arith, stops_bound k h.passed h.byte offset h.stops, ap length h.whole, length-append h.passed (h.byte ∷ h.rest));
}

from_end : (bytes : List ℕ) (offset : ℕ) (k : TermFaultKind) (s : State) → run true nothing 0 bytes ≡ Ok s → finish s (length bytes) ≡ Err (offset, k) → Faulted bytes offset k
from_end bytes offset k s runs ends =
    let m : Ends k bytes offset = subst (λ (r : Result Term (ℕ × TermFaultKind)). MeansEnd r bytes) ends (end_of s bytes runs) in
    record {
      stands = λ u. ends_fault k bytes offset u m (known k ((t : Term) → ¬ IsText bytes t) (λ e t. not_ended bytes s (offset, k) runs ends t));
      bound = ends_bound k bytes offset m;
    }

by_run : (bytes : List ℕ) (offset : ℕ) (k : TermFaultKind) (o : Next) → run true nothing 0 bytes ≡ o → (o >>= λ s. finish s (length bytes)) ≡ Err (offset, k) → Faulted bytes offset k
by_run bytes offset k (Err e) h f = from_stop bytes offset k (run_stops nothing 0 [] bytes offset k refl nothing_means (h ∙ ap Err (err_is e (offset, k) f)))
  where
    err_is : (a b : ℕ × TermFaultKind) → ◌≡◌ {A = Result Term (ℕ × TermFaultKind)} (Err a) (Err b) → a ≡ b
    err_is a b x = cc
by_run bytes offset k (Ok s) h f = from_end bytes offset k s h f

-- the fault that is read
pub faulted : (bytes : List ℕ) (offset : ℕ) (k : TermFaultKind) → reading bytes ≡ Err (offset, k) → Faulted bytes offset k
faulted bytes offset k h = by_run bytes offset k (run true nothing 0 bytes) refl h
