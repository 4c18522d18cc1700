-- Reading with the limits is reading without them, up to where a term begins that is too deep or one too many.
use Rattle.std.proofs.Common.{◌≡◌, ℕ, ◌+◌, ◌<◌, ◌^◌, Bool, true, false, List, [], ◌∷◌, length, Ok, Err, refl, sym, ap, ◌∙◌, subst, inl, inr, arith}
use Rattle.std.specs.Prelude.{◌⊎◌, if◌then◌else◌, nat_le}
use Rattle.aterm_text.specs.declared.class.ByteClass.{ByteClass}
use Rattle.aterm_text.specs.declared.class.ByteClass.TheVariants.{Blank, Closing}
use Rattle.aterm_text.specs.declared.open.Open.{Open}
use Rattle.aterm_text.specs.declared.reader.state.Last.{Last}
use Rattle.aterm_text.specs.declared.reader.state.Last.TheVariants as last
use Rattle.aterm_text.specs.declared.refusal.TermFaultKind.{TermFaultKind}
use Rattle.aterm_text.specs.declared.refusal.TermFaultKind.TheVariants.{Unexpected, TooDeep, TooMany}
use Rattle.aterm_text.specs.Bytes.{class_of, begins_term, misplaced}
use Rattle.aterm_text.specs.inner.Machine.{State, state, Next, begin_within, begin, step_by, step, run, ◌>>=◌}
use Rattle.aterm_text.proofs.Runs.{bind_is, bound_ok}

abbrev pub IsLimit : TermFaultKind → Type 0
IsLimit TooDeep = Unit {0}
IsLimit TooMany = Unit {0}
IsLimit _ = ⊥

-- one answer is the other, or a limit is met at the offset
abbrev pub SameOrLimit : Next → Next → ℕ → Type 0
SameOrLimit o p at = (o ≡ p) ⊎ ((k : TermFaultKind) × IsLimit k × (o ≡ Err (at, k)))

limited_chosen : (x y : Bool) (at : ℕ) (next : Next) → SameOrLimit (if x then Err (at, TooDeep) else (if y then Err (at, TooMany) else next)) next at
limited_chosen true y at next = inr (TooDeep, tt, refl)
limited_chosen false true at next = inr (TooMany, tt, refl)
limited_chosen false false at next = inl refl

begin_chosen : (x : Bool) (o p q : Next) (at : ℕ) → SameOrLimit o p at → SameOrLimit (if x then o else q) (if x then p else q) at
begin_chosen true o p q at h = h
begin_chosen false o p q at h = inl refl

begin_cases : (k : ByteClass) (stack : List Open) (begun at c : ℕ) → SameOrLimit (begin true k stack begun at c) (begin false k stack begun at c) at
begin_cases k stack begun at c =
    begin_chosen (begins_term k) _ _ (Err (at, misplaced k)) at (limited_chosen (nat_le 512 (length stack)) (nat_le (2 ^ 20) begun) at (begin_within k stack (begun + 1) at c))

start_cases : (k : ByteClass) (stack : List Open) (begun at c : ℕ) → SameOrLimit (step_by true last.Start k stack begun at c) (step_by false last.Start k stack begun at c) at
start_cases Blank stack begun at c = inl refl
start_cases k stack begun at c = begin_cases k stack begun at c

opening_cases : (k : ByteClass) (stack : List Open) (begun at c : ℕ) → SameOrLimit (step_by true last.Opening k stack begun at c) (step_by false last.Opening k stack begun at c) at
opening_cases Blank stack begun at c = inl refl
opening_cases Closing stack begun at c = inl refl
opening_cases k stack begun at c = begin_cases k stack begun at c

last_cases : (l : Last) (k : ByteClass) (stack : List Open) (begun at c : ℕ) → SameOrLimit (step_by true l k stack begun at c) (step_by false l k stack begun at c) at
last_cases last.Start k stack begun at c = start_cases k stack begun at c
last_cases last.Opening k stack begun at c = opening_cases k stack begun at c
last_cases _ k stack begun at c = inl refl

step_cases : (s : State) (at c : ℕ) → SameOrLimit (step true s at c) (step false s at c) at
step_cases (state stack begun l) at c = last_cases l (class_of c) stack begun at c

ok_same : (o p : Next) (at : ℕ) (q : State) → SameOrLimit o p at → o ≡ Ok q → p ≡ Ok q
ok_same o p at q (inl e) h = sym e ∙ h
ok_same o p at q (inr e) h = let g = e.2 in cc

pub same_err : (a b : ℕ × TermFaultKind) → ◌≡◌ {A = Next} (Err a) (Err b) → a ≡ b
same_err a b h = cc

pub unexpected_same : (s : State) (at c offset : ℕ) → step true s at c ≡ Err (offset, Unexpected) → step false s at c ≡ Err (offset, Unexpected)
unexpected_same s at c offset h = go (step_cases s at c)
  where
    go : SameOrLimit (step true s at c) (step false s at c) at → step false s at c ≡ Err (offset, Unexpected)
    go (inl e) = sym e ∙ h
    go (inr e) = absurd (subst IsLimit (ap (λ (x : ℕ × TermFaultKind). x.1) (same_err (at, e.0) (offset, Unexpected) (sym e.2 ∙ h))) e.1)

pub bind_err : (o : Next) (f : State → Next) (e : ℕ × TermFaultKind) → o ≡ Err e → (o >>= f) ≡ Err e
bind_err o f e h = ap (λ (x : Next). x >>= f) h

-- what is read with the limits is read without them
pub run_free : (s q : State) (at : ℕ) (bytes : List ℕ) → run true s at bytes ≡ Ok q → run false s at bytes ≡ Ok q
run_free s q at [] h = h
run_free s q at (c ∷ bytes) h =
    let p : (next : State) × (step true s at c ≡ Ok next) × (run true next (at + 1) bytes ≡ Ok q) = bound_ok (step true s at c) (λ next. run true next (at + 1) bytes) q h in
    bind_is (step false s at c) p.0 (λ next. run false next (at + 1) bytes) (Ok q) (ok_same (step true s at c) (step false s at c) at p.0 (step_cases s at c) p.1) (run_free p.0 q (at + 1) bytes p.2)

-- what is read without the limits is read with them, or a limit is met
pub record MeetsLimit (s : State) (at : ℕ) (bytes : List ℕ) : Type 0 where
  pub offset : ℕ
  pub kind : TermFaultKind
  pub is_limit : IsLimit kind
  pub runs : run true s at bytes ≡ Err (offset, kind)
  pub before : offset < at + length bytes

limit_here : (s : State) (at c : ℕ) (bytes : List ℕ) (k : TermFaultKind) → IsLimit k → step true s at c ≡ Err (at, k) → MeetsLimit s at (c ∷ bytes)
limit_here s at c bytes k is h = record { offset = at; kind = k; is_limit = is; runs = bind_err (step true s at c) (λ next. run true next (at + 1) bytes) (at, k) h; before = omega arith }

limit_later : (s next : State) (at c : ℕ) (bytes : List ℕ) → step true s at c ≡ Ok next → MeetsLimit next (at + 1) bytes → MeetsLimit s at (c ∷ bytes)
limit_later s next at c bytes h m = record {
  offset = m.offset;
  kind = m.kind;
  is_limit = m.is_limit;
  runs = bind_is (step true s at c) next (λ x. run true x (at + 1) bytes) (Err (m.offset, m.kind)) h m.runs;
  before = omega (arith, m.before);
}

pub run_limited : (s q : State) (at : ℕ) (bytes : List ℕ) → run false s at bytes ≡ Ok q → (run true s at bytes ≡ Ok q) ⊎ MeetsLimit s at bytes
run_limited s q at [] h = inl h
run_limited s q at (c ∷ bytes) h = first (bound_ok (step false s at c) (λ next. run false next (at + 1) bytes) q h) (step_cases s at c) (λ next r. run_limited next q (at + 1) bytes r)
  where
    later : (next : State) → step true s at c ≡ Ok next → (run true next (at + 1) bytes ≡ Ok q) ⊎ MeetsLimit next (at + 1) bytes → (run true s at (c ∷ bytes) ≡ Ok q) ⊎ MeetsLimit s at (c ∷ bytes)
    later next e (inl r) = inl (bind_is (step true s at c) next (λ x. run true x (at + 1) bytes) (Ok q) e r)
    later next e (inr m) = inr (limit_later s next at c bytes e m)

    first : (next : State) × (step false s at c ≡ Ok next) × (run false next (at + 1) bytes ≡ Ok q) → SameOrLimit (step true s at c) (step false s at c) at
        → ((next : State) → run false next (at + 1) bytes ≡ Ok q → (run true next (at + 1) bytes ≡ Ok q) ⊎ MeetsLimit next (at + 1) bytes) → (run true s at (c ∷ bytes) ≡ Ok q) ⊎ MeetsLimit s at (c ∷ bytes)
    first p (inl e) rest = later p.0 (e ∙ p.1) (rest p.0 p.2)
    first p (inr e) rest = inr (limit_here s at c bytes e.0 e.1 e.2)
