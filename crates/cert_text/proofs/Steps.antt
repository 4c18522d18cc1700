-- What has been read when a line leads on, may not stand there, or was the last.
use Rattle.std.proofs.Common.{◌≡◌, ℕ, zero, suc, ◌+◌, ◌<◌, ◌≤◌, Bool, false, true, List, [], ◌∷◌, ◌++◌, Result, Ok, Err, length, inl, inr, refl, sym, ap, subst, ◌∙◌, arith, append_assoc, length-append}
use Rattle.std.specs.Prelude.{◌==◌, codes}
use Rattle.std.proofs.lemmas.Bool.Decides.{nat_tests}
use Rattle.flow_term.specs.declared.graph.Edge.{Edge}
use Rattle.flow_lines.specs.Lines.{count_line, edge_line, value_line}
use Rattle.line_theory.specs.Lines.{IsSplit, lacks, lines_of}
use Rattle.line_theory.specs.Places.{IsFaultAt, IsWrong, LeadTo}
use Rattle.line_theory.proofs.LineLemmas.{line_alone, line_before, none_within}
use Rattle.line_theory.proofs.PlaceLemmas.{lead_on}
use Rattle.cert_text.specs.declared.certificate.Certificate.{Certificate}
use Rattle.cert_text.specs.declared.place.CertFaultKind.{CertFaultKind}
use Rattle.cert_text.specs.declared.place.CertFaultKind.TheVariants as fault
use Rattle.cert_text.specs.declared.place.Place.{Place}
use Rattle.cert_text.specs.declared.place.Place.TheVariants.{Header, EdgeCount, Edges, Steps, Values, Finished}
use Rattle.cert_text.specs.declared.place.Progress.{Progress}
use Rattle.cert_text.specs.declared.refusal.CertRefusal.{CertRefusal}
use Rattle.cert_text.specs.declared.refusal.CertRefusal.TheVariants.{Fault, NoMemory}
use Rattle.cert_text.specs.declared.refusal.LineFault.{LineFault}
use Rattle.cert_text.specs.declared.refusal.LineFault.TheVariants as line
use Rattle.cert_text.specs.Lines.{Fits, FitsAt, IsFaulty, IsLast, KindAt, at, start}
use Rattle.cert_text.specs.Texts.{step_line}
use Rattle.cert_text.specs.inner.Bodies.{count_body, edge_body, step_body, value_body}
use Rattle.cert_text.specs.inner.Moves.{HasRead, IsRefused, Moves, Reads, Takes, at_line, kind_left, kind_without, lined}

-- ** lines without line feed

module _ (l : List ℕ) (bare : lacks 10 l ≡ true) where
  unended : (body : List ℕ) → l ≡ body ++ 10 ∷ [] → ⊥
  unended body e = none_within 10 body [] (ap (lacks 10) (sym e) ∙ bare)

  pub fits_nowhere : (p : Place) (c : Certificate) (q : Progress) → ¬ FitsAt p c l q
  fits_nowhere Header c q = λ h. unended (codes "flowcert 1") h.0
  fits_nowhere EdgeCount c q = λ h. unended (count_body (codes "edges ") h.0) h.2
  fits_nowhere (Edges zero) c q = λ h. unended (count_body (codes "steps ") h.0) h.2
  fits_nowhere (Edges (suc n)) c q = λ h. unended (edge_body h.0) h.2
  fits_nowhere (Steps zero) c q = λ h. unended (count_body (codes "values ") h.0) h.2
  fits_nowhere (Steps (suc n)) c q = λ h. unended (step_body h.0) h.2
  fits_nowhere (Values zero) c q = λ h. unended (codes "end") h.0
  fits_nowhere (Values (suc n)) c q = λ h. unended (value_body h.0) h.2
  fits_nowhere Finished c q = λ h. h

not_zero : (n : ℕ) → (suc n == 0) ≡ false
not_zero n = grind (arith, nat_tests)

form_left : (n : ℕ) (none : CertFaultKind) → kind_left (suc n) none ≡ fault.Form
form_left n none = rw (not_zero n) refl

pub kind_bare : (p : Place) (l : List ℕ) → lacks 10 l ≡ true → KindAt p (l ∷ []) (kind_without p)
kind_bare Header l h = refl
kind_bare EdgeCount l h = refl
kind_bare (Edges zero) l h = refl
kind_bare (Edges (suc n)) l h = inr (λ e entry is. unended l h (edge_body e) is, form_left n fault.Count)
kind_bare (Steps zero) l h = refl
kind_bare (Steps (suc n)) l h = form_left n fault.Count
kind_bare (Values zero) l h = refl
kind_bare (Values (suc n)) l h = inr (λ v entry is. unended l h (value_body v) is, form_left n fault.End)
kind_bare Finished l h = refl

pub kind_missing : (p : Place) → KindAt p [] (kind_without p)
kind_missing Header = refl
kind_missing EdgeCount = refl
kind_missing (Edges zero) = refl
kind_missing (Edges (suc n)) = form_left n fault.Count
kind_missing (Steps zero) = refl
kind_missing (Steps (suc n)) = form_left n fault.Count
kind_missing (Values zero) = refl
kind_missing (Values (suc n)) = form_left n fault.End
kind_missing Finished = refl

-- the last line has no line feed
pub refused_bare : (p : Progress) (bytes : List ℕ) (number n : ℕ) (kind : CertFaultKind) → 0 < length bytes → lacks 10 bytes ≡ true → n ≡ number → kind ≡ kind_without p.place → IsRefused p (lines_of bytes) number (Fault n kind)
refused_bare p [] number n kind some bare e k = absurd (omega arith)
refused_bare p (b ∷ bs) number n kind some bare e k =
    subst (λ (ls : List (List ℕ)). IsRefused p ls number (Fault n kind)) (sym (line_alone b bs bare))
    (e, fits_nowhere (b ∷ bs) bare p.place p.certificate, subst (KindAt p.place ((b ∷ bs) ∷ [])) (sym k) (kind_bare p.place (b ∷ bs) bare))

-- ** a line with its line feed

pub split_lines : (bytes body rest : List ℕ) → IsSplit 10 bytes body rest → lines_of bytes ≡ lined body ∷ lines_of rest
split_lines bytes body rest s = ap lines_of s.whole ∙ line_before body rest s.first

pub taken : (p q : Progress) (bytes body rest : List ℕ) → IsSplit 10 bytes body rest → Fits p (lined body) q → Takes p bytes rest q
taken p q bytes body rest s fits = record {
  first = lined body;
  lines = split_lines bytes body rest s;
  fits = fits;
  shorter = omega (arith, ap length s.whole, length-append body (10 ∷ rest));
}

pub refused_line : (X : Type 0) (p q : Progress) (bytes body rest : List ℕ) (number : ℕ) (f : LineFault) (r : CertRefusal) → IsSplit 10 bytes body rest → Moves {X = X} p body (Err f) q → r ≡ at_line f number → IsRefused p (lines_of bytes) number r
refused_line X p q bytes body rest number (line.Fault kind) r s h e =
    let told : IsRefused p (lined body ∷ lines_of rest) number (Fault number kind) = (refl, h.0, h.1 (lines_of rest)) in
    let here : IsRefused p (lines_of bytes) number (Fault number kind) = subst (λ (ls : List (List ℕ)). IsRefused p ls number (Fault number kind)) (sym (split_lines bytes body rest s)) told in
    subst (IsRefused p (lines_of bytes) number) (sym e) here
refused_line X p q bytes body rest number line.NoMemory r s h e = subst (IsRefused p (lines_of bytes) number) (sym e) tt

-- ** the loop

pub nothing : (bytes : List ℕ) (p : Progress) → p ≡ start → HasRead bytes bytes p 1
nothing bytes p e = record { front = []; split = refl; leads = e; is = refl; small = omega arith }

pub more : (bytes rest others : List ℕ) (p q : Progress) (n : ℕ) → HasRead bytes rest p n → Takes p rest others q → HasRead bytes others q (n + 1)
more bytes rest others p q n read takes = record {
  front = read.front ++ takes.first ∷ [];
  split = read.split ∙ ap (λ (ls : List (List ℕ)). read.front ++ ls) takes.lines ∙ sym (append_assoc read.front (takes.first ∷ []) (lines_of others));
  leads = lead_on Fits IsLast read.front (takes.first ∷ []) start p q read.leads (q, takes.fits, refl);
  is = omega (arith, read.is, length-append read.front (takes.first ∷ []));
  small = omega (arith, read.small, takes.shorter);
}

pub refused : (bytes rest : List ℕ) (p : Progress) (n : ℕ) (why : CertRefusal) → HasRead bytes rest p n → IsRefused p (lines_of rest) n why → Reads bytes (Err why)
refused bytes rest p n (Fault m kind) read h = record {
  at_place = p;
  back = lines_of rest;
  first = record { front = read.front; split = read.split; leads = read.leads; wrong = h.1; is = h.0 ∙ read.is };
  of_kind = h.2;
}
refused bytes rest p n NoMemory read h = tt

pub done : (bytes rest : List ℕ) (p : Progress) (n : ℕ) (c : Certificate) → HasRead bytes rest p n → rest ≡ [] → p ≡ at Finished c → Reads bytes (Ok c)
done bytes rest p n c read e is =
    let whole : lines_of bytes ≡ read.front ++ [] = read.split ∙ ap (λ (bs : List ℕ). read.front ++ lines_of bs) e in
    subst (λ (ls : List (List ℕ)). LeadTo Fits IsLast start ls (at Finished c)) (sym whole) (lead_on Fits IsLast read.front [] start p (at Finished c) read.leads (sym is))
