-- What it means that a function reads a language with one token of choice.
use Rattle.std.specs.Prelude.{◌≡◌, ℕ, ◌<◌, Bool, true, false, List, [], ◌∷◌, ◌++◌, Ok, Err}
use Rattle.grammar_theory.specs.Faults.{AllFit}
use Rattle.grammar_theory.specs.Reading.{Outcome}
use Rattle.grammar_theory.specs.Texts.{member, tokens_of}
use Rattle.grammar_theory.specs.declared.Cause.{Cause}
use Rattle.grammar_theory.specs.declared.Cause.TheVariants.{Unexpected, TooDeep}

-- what comes next is of none of these kinds
abbrev pub Stops : {T : Type 0} → (T → ℕ) → List ℕ → List T → Type 0
Stops kind ks [] = Unit {0}
Stops kind ks (t ∷ ts) = member (kind t) ks ≡ false

-- A value was read: its text is the front, and what was read doesn't hang on what follows the next token.
pub record Found {T V : Type 0} (limit : ℕ) (R : List (T × ℕ) → V → Type 0) (read : List T → Outcome T V) (ts : List T) (v : V) (rest : List T) : Type 0 where
  pub marks : List (T × ℕ)
  pub cut : ts ≡ tokens_of marks ++ rest
  pub text : R marks v
  pub fits : AllFit limit marks
  pub keeps : (t : T) (tail z : List T) → rest ≡ t ∷ tail → read (tokens_of marks ++ t ∷ z) ≡ Ok (v, t ∷ z)

-- at a token that is nested too deep that token is one of the text
abbrev pub Look : {T : Type 0} → Cause → List T → List (T × ℕ) → Type 0
Look Unexpected rest after = Unit {0}
Look {T} TooDeep rest after = (m : T × ℕ) × (tail : List T) × (more : List (T × ℕ)) × (rest ≡ m.0 ∷ tail) × (after ≡ m ∷ more)

-- The front begins a text, where no token of the front is nested too deep.
pub record Reach {T V : Type 0} (limit : ℕ) (R : List (T × ℕ) → V → Type 0) (cause : Cause) (front rest : List T) : Type 0 where
  pub before : List (T × ℕ)
  pub after : List (T × ℕ)
  pub value : V
  pub text : R (before ++ after) value
  pub tokens : tokens_of before ≡ front
  pub fits : AllFit limit before
  pub look : Look cause rest after

-- Reading stopped: the front begins a text, and that it stopped there doesn't hang on what follows the next token.
pub record Stuck {T V : Type 0} (limit : ℕ) (R : List (T × ℕ) → V → Type 0) (read : List T → Outcome T V) (ts : List T) (cause : Cause) (rest : List T) : Type 0 where
  pub front : List T
  pub cut : ts ≡ front ++ rest
  pub stays : (t : T) (tail z : List T) → rest ≡ t ∷ tail → read (front ++ t ∷ z) ≡ Err (cause, t ∷ z)
  pub reach : Reach limit R cause front rest

-- the first mark that is nested too deep
pub record Deep {T : Type 0} (limit : ℕ) (ms : List (T × ℕ)) (rest at : List T) : Type 0 where
  pub before : List (T × ℕ)
  pub token : T
  pub level : ℕ
  pub after : List (T × ℕ)
  pub marks : ms ≡ before ++ (token, level) ∷ after
  pub fits : AllFit limit before
  pub deep : limit < level
  pub here : at ≡ token ∷ tokens_of after ++ rest

-- What a text is read as: its value, or the first mark that is nested too deep.
abbrev pub Again : {T V : Type 0} → ℕ → List (T × ℕ) → V → List T → Outcome T V → Type 0
Again limit ms v rest (Ok x) = (x ≡ (v, rest)) × AllFit limit ms
Again limit ms v rest (Err e) = (e.0 ≡ TooDeep) × Deep limit ms rest e.1

pub record Reader {T V : Type 0} (kind : T → ℕ) (limit : ℕ) (R : List (T × ℕ) → V → Type 0) (c : List ℕ) (read : List T → Outcome T V) : Type 0 where
  pub sound : (ts : List T) (v : V) (rest : List T) → read ts ≡ Ok (v, rest) → Found limit R read ts v rest
  pub stuck : (ts : List T) (cause : Cause) (rest : List T) → read ts ≡ Err (cause, rest) → Stuck limit R read ts cause rest
  pub again : (ms : List (T × ℕ)) (v : V) (rest : List T) → R ms v → Stops kind c rest → Again limit ms v rest (read (tokens_of ms ++ rest))

-- what is known of a language apart from reading it: with what it begins, whether it may be empty, and that there is a text
pub record Facts {T V : Type 0} (kind : T → ℕ) (R : List (T × ℕ) → V → Type 0) (n : Bool) (f : List ℕ) : Type 0 where
  pub first_kinds : (m : T × ℕ) (ms : List (T × ℕ)) (v : V) → R (m ∷ ms) v → member (kind m.0) f ≡ true
  pub none : (v : V) → R [] v → n ≡ true
  pub some : (ms : List (T × ℕ)) × (v : V) × R ms v
