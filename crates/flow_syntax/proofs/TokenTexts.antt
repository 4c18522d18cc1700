-- Texts of tokens, and first faults: there is at most one of these.
use Rattle.std.proofs.Common.{◌≡◌, ℕ, ◌+◌, ◌<◌, ◌≤◌, List, [], ◌∷◌, ◌++◌, length, take, drop, Some, None, Option, Ok, Err, Result, refl, sym, ap, subst, ◌∙◌, arith, length-append, length-drop, append_assoc, append-nil, add-zero, IsUtf8}
use Rattle.std.specs.Prelude.{IfOk}
use Rattle.std.specs.Str.{IsValidUpTo}
use Rattle.std.proofs.lemmas.List.{drop-drop, drop_all, take-append-drop, length-take-le}
use Rattle.flow_syntax.specs.declared.token.Token.{Token}
use Rattle.flow_syntax.specs.declared.token.TokenKind.{TokenKind}
use Rattle.flow_syntax.specs.declared.token.TokenKind.TheVariants as kinds
use Rattle.flow_syntax.specs.declared.lexer.refusal.LexFaultKind.{LexFaultKind}
use Rattle.flow_syntax.specs.declared.lexer.refusal.LexFaultKind.TheVariants as faults
use Rattle.flow_syntax.specs.declared.lexer.refusal.LexRefusal.{LexRefusal}
use Rattle.flow_syntax.specs.declared.lexer.refusal.LexRefusal.TheVariants as refusals
use Rattle.flow_syntax.specs.Tokens.{tokens_at, IsPassed, TokensFrom, finish, pass, TokenText, RiseFrom, HasRisingPlaces, EndsAt}
use Rattle.flow_syntax.specs.TokenFaults.{BeginsNoCharacter, IsFaultAt, bad_character, bad_escape, unclosed, int_range, FaultFrom, here, behind, LexFaulty, not_utf8, in_text, IsLexedAs, IsFaultedAs, IfFault}
use Rattle.flow_syntax.specs.Lexing.{IsStep}
use Rattle.flow_syntax.proofs.Steps.{Passes}
use Rattle.flow_syntax.proofs.Characters.{same_stuck, stuck_after, BeginsNoCharacter-nil}
use Rattle.flow_syntax.proofs.Determined.{same_pass, pass_or_fault, same_fault_at}
use Rattle.flow_syntax.proofs.Passing.{passed_some, passed_utf8}

not_empty : (text rest : List ℕ) (kind : Option TokenKind) → [] ≡ text ++ rest → IsPassed text rest kind → ⊥
not_empty text rest kind e p = absurd (omega (arith, ap length e, length-append text rest, passed_some text rest kind p))

no_fault_in_nothing : (n : ℕ) (kind : LexFaultKind) → IsFaultAt [] n kind → ⊥
no_fault_in_nothing n kind (bad_character b rest e nb nq ns nt) = cc
no_fault_in_nothing n kind (bad_escape inside rest value e s np) = cc
no_fault_in_nothing n kind (unclosed inside value e s) = cc
no_fault_in_nothing n kind (int_range text rest k e l large) = absurd (omega (arith, ap length e, length-append text rest, large.0.0))

tokens_same : {at : ℕ} {bytes : List ℕ} {tokens others : List Token} → TokensFrom at bytes tokens → TokensFrom at bytes others → tokens ≡ others
tokens_same finish finish = refl
tokens_same finish (pass text rest kind later e t p m) = absurd (not_empty text rest kind e p)
tokens_same (pass text rest kind later e t p m) finish = absurd (not_empty text rest kind e p)
tokens_same {at} {bytes} (pass text rest kind later e t p m) (pass text' rest' kind' later' e' t' p' m') =
    let same = same_pass bytes text rest text' rest' kind kind' e e' p p' in
    let moved = subst (λ x. TokensFrom (at + length x) rest later') (sym same.0) (subst (λ r. TokensFrom (at + length text') r later') (sym same.1) m') in
    t ∙ rw (same.2, tokens_same m moved) (sym t')

tokens_or_fault : {at : ℕ} {bytes : List ℕ} {tokens : List Token} {offset : ℕ} {kind : LexFaultKind} → TokensFrom at bytes tokens → FaultFrom at bytes offset kind → ⊥
tokens_or_fault {kind = k} finish (here n o f) = no_fault_in_nothing n k f
tokens_or_fault finish (behind text rest kind e p m) = not_empty text rest kind e p
tokens_or_fault {bytes = bytes} {kind = k} (pass text rest kind later e t p m) (here n o f) = pass_or_fault bytes text rest kind n k e p f
tokens_or_fault {at} {bytes} {offset = offset} {kind = k} (pass text rest kind later e t p m) (behind text' rest' kind' e' p' m') =
    let same = same_pass bytes text rest text' rest' kind kind' e e' p p' in
    tokens_or_fault m (subst (λ x. FaultFrom (at + length x) rest offset k) (sym same.0) (subst (λ r. FaultFrom (at + length text') r offset k) (sym same.1) m'))

fault_same : {at : ℕ} {bytes : List ℕ} {offset other : ℕ} {kind k : LexFaultKind} → FaultFrom at bytes offset kind → FaultFrom at bytes other k → (offset ≡ other) × (kind ≡ k)
fault_same {bytes = bytes} {kind = kind} {k = k} (here n o f) (here n' o' f') = let same = same_fault_at bytes n n' kind k f f' in (o ∙ rw same.0 (sym o'), same.1)
fault_same {bytes = bytes} {kind = kind} (here n o f) (behind text rest passed e p m) = absurd (pass_or_fault bytes text rest passed n kind e p f)
fault_same {bytes = bytes} {k = k} (behind text rest passed e p m) (here n o f) = absurd (pass_or_fault bytes text rest passed n k e p f)
fault_same {at} {bytes} {other = other} {k = k} (behind text rest passed e p m) (behind text' rest' passed' e' p' m') =
    let same = same_pass bytes text rest text' rest' passed passed' e e' p p' in
    fault_same m (subst (λ x. FaultFrom (at + length x) rest other k) (sym same.0) (subst (λ r. FaultFrom (at + length text') r other k) (sym same.1) m'))

-- THE WHOLE TEXT

valid_whole : (bytes front rest : List ℕ) → bytes ≡ front ++ rest → IsUtf8 bytes → IsUtf8 front → BeginsNoCharacter rest → [] ≡ rest
valid_whole bytes front rest e u v n = same_stuck bytes front [] rest u v (append-nil bytes ∙ e) BeginsNoCharacter-nil n

pub text_same : (bytes : List ℕ) (tokens others : List Token) → TokenText bytes tokens → TokenText bytes others → tokens ≡ others
text_same bytes tokens others t u = tokens_same t.read u.read

pub text_or_fault : (bytes : List ℕ) (tokens : List Token) (offset : ℕ) (kind : LexFaultKind) → TokenText bytes tokens → LexFaulty bytes offset kind → ⊥
text_or_fault bytes tokens offset kind t (not_utf8 front rest e o u some n) = absurd (omega (arith, some, ap length (valid_whole bytes front rest e t.utf8 u n)))
text_or_fault bytes tokens offset kind t (in_text u f) = tokens_or_fault t.read f

pub faulty_same : (bytes : List ℕ) (offset other : ℕ) (kind k : LexFaultKind) → LexFaulty bytes offset kind → LexFaulty bytes other k → (offset ≡ other) × (kind ≡ k)
faulty_same bytes offset other kind k (not_utf8 front rest e o u some n) (not_utf8 front' rest' e' o' u' some' n') =
    let rests = same_stuck front front' rest rest' u u' (sym e ∙ e') n n' in
    (omega (arith, o, o', ap length rests, ap length (sym e ∙ e'), length-append front rest, length-append front' rest'), refl)
faulty_same bytes offset other kind k (not_utf8 front rest e o u some n) (in_text v f) = absurd (omega (arith, some, ap length (valid_whole bytes front rest e v u n)))
faulty_same bytes offset other kind k (in_text v f) (not_utf8 front rest e o u some n) = absurd (omega (arith, some, ap length (valid_whole bytes front rest e v u n)))
faulty_same bytes offset other kind k (in_text v f) (in_text w g) = fault_same f g

-- PLACES

rise_lower : (low high : ℕ) (tokens : List Token) → low ≤ high → RiseFrom high tokens → RiseFrom low tokens
rise_lower low high [] h r = tt
rise_lower low high (t ∷ tokens) h r = (omega (arith, r.0), r.1)

rise_pass : (at n : ℕ) (kind : Option TokenKind) (later : List Token) → 0 < n → RiseFrom (at + n) later → RiseFrom at (tokens_at at kind ++ later)
rise_pass at n None later some r = rise_lower at (at + n) later (omega arith) r
rise_pass at n (Some kind) later some r = (omega arith, rise_lower (at + 1) (at + n) later (omega arith) r)

pub rises : {at : ℕ} {bytes : List ℕ} {tokens : List Token} → TokensFrom at bytes tokens → RiseFrom at tokens
rises finish = (omega arith, tt)
rises {at} (pass text rest kind later e t p m) = subst (RiseFrom at) (sym t) (rise_pass at (length text) kind later (passed_some text rest kind p) (rises m))

abbrev eof_at : ℕ → Token
eof_at len = record { place = len; kind = kinds.Eof }

pub ends : {at : ℕ} {bytes : List ℕ} {tokens : List Token} → TokensFrom at bytes tokens → EndsAt (at + length bytes) tokens
ends {at} finish = ([], rw add-zero refl)
ends {at} {bytes} (pass text rest kind later e t p m) =
    let more = ends m in
    let sum : (at + length text) + length rest ≡ at + length bytes = omega (arith, ap length e, length-append text rest) in
    (tokens_at at kind ++ more.0, t ∙ ap (λ z. tokens_at at kind ++ z) (more.1 ∙ ap (λ n. more.0 ++ eof_at n ∷ []) sum) ∙ sym (append_assoc (tokens_at at kind) more.0 (eof_at (at + length bytes) ∷ [])))

-- READING STEP BY STEP

abbrev pub Reached : ℕ → List ℕ → List Token → Type 0
Reached at bytes tokens = (more : List Token) → TokensFrom at (drop at bytes) more → TokensFrom 0 bytes (tokens ++ more)

abbrev pub ReachedFault : ℕ → List ℕ → Type 0
ReachedFault at bytes = (offset : ℕ) (kind : LexFaultKind) → FaultFrom at (drop at bytes) offset kind → FaultFrom 0 bytes offset kind

pub pass_some : (bytes : List ℕ) (n : ℕ) (kind : Option TokenKind) → Passes bytes n kind → 0 < n
pass_some bytes n kind p = omega (arith, passed_some (take n bytes) (drop n bytes) kind p.1, length-take-le n bytes p.0)

pub pass_within : (at : ℕ) (bytes : List ℕ) (n : ℕ) (kind : Option TokenKind) → at ≤ length bytes → Passes (drop at bytes) n kind → at + n ≤ length bytes
pass_within at bytes n kind h p = omega (arith, p.0, length-drop at bytes)

pub pass_utf8 : (at : ℕ) (bytes : List ℕ) (n : ℕ) (kind : Option TokenKind) → IsUtf8 (drop at bytes) → Passes (drop at bytes) n kind → IsUtf8 (drop (at + n) bytes)
pass_utf8 at bytes n kind u p =
    subst IsUtf8 (drop-drop n at bytes) (passed_utf8 (take n (drop at bytes)) (drop n (drop at bytes)) kind p.1 (subst IsUtf8 (sym (take-append-drop n (drop at bytes))) u))

pub pass_tokens : (at : ℕ) (bytes : List ℕ) (tokens : List Token) (n : ℕ) (kind : Option TokenKind) → Passes (drop at bytes) n kind → Reached at bytes tokens → Reached (at + n) bytes (tokens ++ tokens_at at kind)
pass_tokens at bytes tokens n kind p reached more m =
    let len : n ≡ length (take n (drop at bytes)) = sym (length-take-le n (drop at bytes) p.0) in
    let moved : TokensFrom (at + length (take n (drop at bytes))) (drop n (drop at bytes)) more =
    subst (λ k. TokensFrom (at + k) (drop n (drop at bytes)) more) len (subst (λ r. TokensFrom (at + n) r more) (sym (drop-drop n at bytes)) m) in
    subst (TokensFrom 0 bytes) (sym (append_assoc tokens (tokens_at at kind) more))
    (reached (tokens_at at kind ++ more) (pass (take n (drop at bytes)) (drop n (drop at bytes)) kind more (sym (take-append-drop n (drop at bytes))) refl p.1 moved))

pub pass_fault : (at : ℕ) (bytes : List ℕ) (n : ℕ) (kind : Option TokenKind) → Passes (drop at bytes) n kind → ReachedFault at bytes → ReachedFault (at + n) bytes
pass_fault at bytes n kind p reached offset fault m =
    let len : n ≡ length (take n (drop at bytes)) = sym (length-take-le n (drop at bytes) p.0) in
    let moved : FaultFrom (at + length (take n (drop at bytes))) (drop n (drop at bytes)) offset fault =
    subst (λ k. FaultFrom (at + k) (drop n (drop at bytes)) offset fault) len (subst (λ r. FaultFrom (at + n) r offset fault) (sym (drop-drop n at bytes)) m) in
    reached offset fault (behind (take n (drop at bytes)) (drop n (drop at bytes)) kind (sym (take-append-drop n (drop at bytes))) p.1 moved)

pub at_end : (at : ℕ) (bytes : List ℕ) (tokens : List Token) → length bytes ≤ at → Reached at bytes tokens → TokensFrom 0 bytes (tokens ++ eof_at at ∷ [])
at_end at bytes tokens h reached = reached (eof_at at ∷ []) (subst (λ r. TokensFrom at r (eof_at at ∷ [])) (sym (drop_all at bytes h)) finish)

pub at_fault : {X : Type 0} (at : ℕ) (bytes rest : List ℕ) (kind : X → Option TokenKind) (e : LexRefusal) → rest ≡ drop at bytes → IsStep at rest kind (Err e) → ReachedFault at bytes
    → IfFault {X = List Token} (Err e) (FaultFrom 0 bytes)
at_fault at bytes rest kind (refusals.Fault offset fault) r (n, o, f) reached = reached offset fault (here n o (subst (λ bs. IsFaultAt bs n fault) r f))
at_fault at bytes rest kind refusals.NoMemory r s reached = tt

-- WHAT THE LEXER ANSWERS

pub invalid : (bytes : List ℕ) (n : ℕ) → IsValidUpTo bytes n → LexFaulty bytes n faults.NotUtf8
invalid bytes n v =
    let within : n ≤ length bytes = omega (arith, v.short) in
    not_utf8 (take n bytes) (drop n bytes) (sym (take-append-drop n bytes)) (sym (length-take-le n bytes within)) v.front (omega (arith, v.short, length-drop n bytes)) (stuck_after bytes n v)

module _ (bytes : List ℕ) (u : IsUtf8 bytes) where
  pub told_only : (r : Result (List Token) LexRefusal) → IfOk r (TokensFrom 0 bytes) → IfFault r (FaultFrom 0 bytes) → (tokens : List Token) → TokenText bytes tokens → IsLexedAs r tokens
  told_only (Ok read) found fault tokens t = tokens_same found t.read
  told_only (Err (refusals.Fault offset kind)) found fault tokens t = tokens_or_fault t.read fault
  told_only (Err refusals.NoMemory) found fault tokens t = tt

  pub told_fault : (r : Result (List Token) LexRefusal) → IfFault r (FaultFrom 0 bytes) → IfFault r (LexFaulty bytes)
  told_fault (Ok read) fault = tt
  told_fault (Err (refusals.Fault offset kind)) fault = in_text u fault
  told_fault (Err refusals.NoMemory) fault = tt

  pub told_first : (r : Result (List Token) LexRefusal) → IfOk r (TokensFrom 0 bytes) → IfFault r (FaultFrom 0 bytes) → (offset : ℕ) (kind : LexFaultKind) → LexFaulty bytes offset kind → IsFaultedAs r offset kind
  told_first (Ok read) found fault offset kind f = text_or_fault bytes read offset kind (record { utf8 = u; read = found }) f
  told_first (Err (refusals.Fault o k)) found fault offset kind f = faulty_same bytes o offset k kind (in_text u fault) f
  told_first (Err refusals.NoMemory) found fault offset kind f = tt

  pub told_rising : (r : Result (List Token) LexRefusal) → IfOk r (TokensFrom 0 bytes) → IfOk r HasRisingPlaces
  told_rising (Ok read) found = rises found
  told_rising (Err e) found = tt

  pub told_last : (r : Result (List Token) LexRefusal) → IfOk r (TokensFrom 0 bytes) → IfOk r (EndsAt (length bytes))
  told_last (Ok read) found = let sum : 0 + length bytes ≡ length bytes = omega arith in subst (λ n. EndsAt n read) sum (ends found)
  told_last (Err e) found = tt
