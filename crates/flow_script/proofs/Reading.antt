-- The loop over lines, and the answer to a whole text.
use Rattle.std.proofs.Common.{◌≡◌, ℕ, ◌+◌, ◌<◌, ◌≤◌, List, [], ◌∷◌, ◌++◌, length, get_or, drop, inl, inr, refl, sym, ap, ◌∙◌, subst, arith, append_assoc}
use Rattle.std.specs.Prelude.{◌⊎◌, Some, Result, Ok, Err, IfOk, IsUtf8, slice_get}
use Rattle.std.specs.Str.Lines.{lines}
use Rattle.std.proofs.lemmas.Bool.{cases_order}
use Rattle.std.proofs.lemmas.List.{append-nil, at_drop_all, at_drop_more}
use Rattle.std.proofs.lemmas.Option.{same_Some, slice_get-get_or}
use Rattle.flow_script.specs.declared.command.Command.{Command}
use Rattle.flow_script.specs.declared.command.Line.{Line}
use Rattle.flow_script.specs.declared.refusal.ScriptFaultKind.{ScriptFaultKind}
use Rattle.flow_script.specs.declared.refusal.ScriptRefusal.{ScriptRefusal}
use Rattle.flow_script.specs.declared.refusal.ScriptRefusal.TheVariants.{Fault, NoMemory}
use Rattle.flow_script.specs.Forms.{Form, form_of_line}
use Rattle.flow_script.specs.Results.{IfFault, UnlessNoMemory, fault_of}
use Rattle.flow_script.specs.Scripts.{AreCommands, HasFault, IsFirstFault, ScriptFaulty, ScriptText, of_line}
use Rattle.flow_script.specs.inner.Answers.{AddsLine, HasFaultAt}
use Rattle.flow_script.proofs.Single.{has_one_answer, no_fault, nothing_wrong}

-- So many lines were read: with what the others have, the commands so far are those of all; and no line so far has a fault.
pub record AreRead (count : ℕ) (all : List (List ℕ)) (script : List Line) : Type 0 where
  pub goes_on : (rest : List Line) → AreCommands (count + 1) (drop count all) rest → AreCommands 1 all (script ++ rest)
  pub faultless : (at : ℕ) (line : List ℕ) (kind : ScriptFaultKind) → at < count → slice_get all at ≡ Some line → ¬ HasFault (form_of_line line) kind

pub none_read : (all : List (List ℕ)) → AreRead 0 all []
none_read all = record {
  goes_on = λ rest h. h;
  faultless = λ at line kind less is f. omega (arith, less);
}

abbrev line_of : ℕ → Command → Line
line_of n c = record { number = n; command = c }

-- A line stands at the place.
abbrev pub StandsAt : List (List ℕ) → ℕ → List ℕ → Type 0
StandsAt all n line = (n < length all) × (line ≡ get_or all n line)

next_is : (all : List (List ℕ)) (n : ℕ) (line : List ℕ) → StandsAt all n line → drop n all ≡ line ∷ drop (n + 1) all
next_is all n line at = at_drop_more (λ xs. xs) all n line at.0 ∙ ap (λ x. x ∷ drop (n + 1) all) (sym at.1)

found_at : (all : List (List ℕ)) (n : ℕ) (line : List ℕ) → StandsAt all n line → slice_get all n ≡ Some line
found_at all n line at = slice_get-get_or all n line at.0 ∙ ap Some (sym at.1)

faultless_more : (count : ℕ) (all : List (List ℕ)) (script : List Line) (line : List ℕ) → AreRead count all script → StandsAt all count line → ((kind : ScriptFaultKind) → ¬ HasFault (form_of_line line) kind)
    → (at : ℕ) (other : List ℕ) (kind : ScriptFaultKind) → at < count + 1 → slice_get all at ≡ Some other → ¬ HasFault (form_of_line other) kind
faultless_more count all script line read stands right at other kind less is f = go (cases_order at count)
  where
    go : (at ≡ count) ⊎ ((at < count) ⊎ (count < at)) → ⊥
    go (inl same) =
        let one : line ≡ other = same_Some line other (sym (found_at all count line stands) ∙ ap (slice_get all) (sym same) ∙ is) in
        right kind (subst (λ x. HasFault (form_of_line x) kind) (sym one) f)
    go (inr (inl before)) = read.faultless at other kind before is f
    go (inr (inr behind)) = absurd (omega (arith, less, behind))

-- one more line was read
pub read_more : (count : ℕ) (all : List (List ℕ)) (before after : List Line) (line : List ℕ) → AreRead count all before → StandsAt all count line
    → AddsLine (count + 1) (form_of_line line) before after → AreRead (count + 1) all after
read_more count all before after line read stands (inl adds) = record {
  goes_on = λ rest h. subst (λ (xs : List Line). AreCommands 1 all (xs ++ rest)) (sym adds.1)
      (read.goes_on rest (subst (λ ls. AreCommands (count + 1) ls rest) (sym (next_is all count line stands)) (inl (adds.0, h))));
  faultless = faultless_more count all before line read stands (λ kind f. nothing_wrong (form_of_line line) kind adds.0 f);
}
read_more count all before after line read stands (inr adds) = record {
  goes_on = λ rest h. subst (λ (xs : List Line). AreCommands 1 all xs) (sym (ap (λ xs. xs ++ rest) adds.2 ∙ append_assoc before (line_of (count + 1) adds.0 ∷ []) rest))
      (read.goes_on (line_of (count + 1) adds.0 ∷ rest)
      (subst (λ ls. AreCommands (count + 1) ls (line_of (count + 1) adds.0 ∷ rest)) (sym (next_is all count line stands)) (inr (adds.0, rest, adds.1, h, refl))));
  faultless = faultless_more count all before line read stands (λ kind f. no_fault (form_of_line line) adds.0 kind adds.1 f);
}

-- the next line has a fault
pub first_fault : (count : ℕ) (all : List (List ℕ)) (script : List Line) (line : List ℕ) (kind : ScriptFaultKind) → AreRead count all script → StandsAt all count line
    → HasFault (form_of_line line) kind → IsFirstFault all (count + 1) kind
first_fault count all script line kind read stands f = record {
  at = count;
  counted = refl;
  line = line;
  stands = found_at all count line stands;
  fault = f;
  none_before = read.faultless;
}

-- all lines were read
pub all_read : (count : ℕ) (all : List (List ℕ)) (script : List Line) → AreRead count all script → length all ≤ count → AreCommands 1 all script
all_read count all script read whole = subst (AreCommands 1 all) (append-nil script)
    (read.goes_on [] (subst (λ ls. AreCommands (count + 1) ls []) (sym (at_drop_all (λ xs. xs) all count whole)) refl))

-- a line's fault is the script's
pub fault_told : {A : Type 0} (P : ℕ → ScriptFaultKind → Type 0) (r : Result A ScriptRefusal) (e : ScriptRefusal) (number : ℕ) (form : Form) → r ≡ Err e → HasFaultAt number form e
    → ((kind : ScriptFaultKind) → HasFault form kind → P number kind) → IfFault r P
fault_told {A} P r (Fault n k) number form is h f = subst (λ (x : Result A ScriptRefusal). IfFault x P) (sym is) (subst (λ m. P m k) (sym h.0) (f k h.1))
fault_told {A} P r NoMemory number form is h f = subst (λ (x : Result A ScriptRefusal). IfFault x P) (sym is) tt

-- a result is the answer to these bytes
abbrev IsAnswer : List ℕ → Result (List Line) ScriptRefusal → Type 0
IsAnswer bytes (Ok script) = ScriptText bytes script
IsAnswer bytes (Err (Fault number kind)) = ScriptFaulty bytes number kind
IsAnswer bytes (Err NoMemory) = Unit {0}

-- the answer to the lines of a text is that to its bytes
pub answered : (bytes text : List ℕ) (r : Result (List Line) ScriptRefusal) → text ≡ bytes → IsUtf8 bytes → IfOk r (λ script. AreCommands 1 (lines text) script)
    → IfFault r (λ number kind. IsFirstFault (lines text) number kind) → IsAnswer bytes r
answered bytes text (Ok script) same utf8 found fault = record { utf8 = utf8; commands = subst (λ bs. AreCommands 1 (lines bs) script) same found }
answered bytes text (Err (Fault number kind)) same utf8 found fault = of_line utf8 (subst (λ bs. IsFirstFault (lines bs) number kind) same fault)
answered bytes text (Err NoMemory) same utf8 found fault = tt

-- it is the only one, as a script and as a fault
pub only_script : (bytes : List ℕ) (r : Result (List Line) ScriptRefusal) → IsAnswer bytes r → (script : List Line) → ScriptText bytes script → UnlessNoMemory r (r ≡ Ok script)
only_script bytes (Ok other) h script is = ap Ok ((has_one_answer bytes).one_script other script h is)
only_script bytes (Err (Fault number kind)) h script is = absurd ((has_one_answer bytes).not_both script number kind is h)
only_script bytes (Err NoMemory) h script is = tt

pub only_fault : (bytes : List ℕ) (r : Result (List Line) ScriptRefusal) → IsAnswer bytes r → (number : ℕ) (kind : ScriptFaultKind) → ScriptFaulty bytes number kind
    → UnlessNoMemory r (r ≡ Err (fault_of number kind))
only_fault bytes (Ok script) h number kind is = absurd ((has_one_answer bytes).not_both script number kind h is)
only_fault bytes (Err (Fault place other)) h number kind is =
    let same = (has_one_answer bytes).one_fault place number other kind h is in
    ap (λ n. Err (Fault n other)) same.0 ∙ ap (λ k. Err (Fault number k)) same.1
only_fault bytes (Err NoMemory) h number kind is = tt
