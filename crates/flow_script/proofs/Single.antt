-- That a text has one answer.
use Rattle.std.proofs.Common.{◌≡◌, ℕ, suc, zero, ◌+◌, ◌<◌, List, [], ◌∷◌, length, take, inl, inr, sym, ap, ◌∙◌, subst, arith}
use Rattle.std.specs.Prelude.{◌⊎◌, Some, IsUtf8, slice_get}
use Rattle.std.specs.Str.{IsValidUpTo}
use Rattle.std.specs.Str.Lines.{lines}
use Rattle.std.proofs.lemmas.Bool.{cases_order}
use Rattle.std.proofs.lemmas.List.{take_all}
use Rattle.std.proofs.lemmas.Option.{same_Some, slice_get_within}
use Rattle.std.proofs.lemmas.Str.{utf8_valid_len-IsValidUpTo}
use Rattle.flow_term.specs.declared.term.Term.{Term}
use Rattle.aterm_text.specs.Grammar.{TermText}
use Rattle.aterm_text.proofs.Reading.{one_answer}
use Rattle.flow_script.specs.declared.command.Command.{Command}
use Rattle.flow_script.specs.declared.command.Command.TheVariants as command
use Rattle.flow_script.specs.declared.command.Line.{Line}
use Rattle.flow_script.specs.declared.refusal.ScriptFaultKind.{ScriptFaultKind}
use Rattle.flow_script.specs.Forms.{Form, edit, form_of_line, nothing, solve, unknown, word}
use Rattle.flow_script.specs.Laws.{HasOneAnswer}
use Rattle.flow_script.specs.Scripts.{AreCommands, HasFault, IsCommand, IsFirstFault, ScriptFaulty, ScriptText, line_behind, no_text, of_line}
use Rattle.flow_script.proofs.Paths.{same_path}

-- LINES

same_term : (text : List ℕ) (t u : Term) → TermText text t → TermText text u → t ≡ u
same_term text t u h k = (one_answer text).one_term t u h k

one_command : (form : Form) (c d : Command) → IsCommand form c → IsCommand form d → c ≡ d
one_command (edit p t) c d h k =
    let path : h.0 ≡ k.0 = same_path h.0 k.0 h.2.0 k.2.0 (h.2.1 ∙ sym k.2.1) in
    let term : h.1 ≡ k.1 = same_term t h.1 k.1 h.3 k.3 in
    h.4 ∙ ap (λ z. command.Edit z h.1) path ∙ ap (command.Edit k.0) term ∙ sym k.4
one_command (solve d) c c' h k = h.2 ∙ ap command.Solve (h.1.value ∙ sym k.1.value) ∙ sym k.2
one_command (word w) c d h k = h ∙ sym k
one_command nothing c d h k = elim h [ ]
one_command unknown c d h k = elim h [ ]

pub no_fault : (form : Form) (c : Command) (kind : ScriptFaultKind) → IsCommand form c → HasFault form kind → ⊥
no_fault (edit p t) c kind h (inl k) = k.0 h.0 h.2
no_fault (edit p t) c kind h (inr k) = k.1 h.1 h.3
no_fault (solve d) c kind h k = k.0 h.0 h.1
no_fault (word w) c kind h k = elim k [ ]
no_fault nothing c kind h k = elim h [ ]
no_fault unknown c kind h k = elim h [ ]

one_kind : (form : Form) (k l : ScriptFaultKind) → HasFault form k → HasFault form l → k ≡ l
one_kind (edit p t) k l (inl h) (inl i) = h.1 ∙ sym i.1
one_kind (edit p t) k l (inl h) (inr i) = absurd (h.0 i.0.0 i.0.1)
one_kind (edit p t) k l (inr h) (inl i) = absurd (i.0 h.0.0 h.0.1)
one_kind (edit p t) k l (inr h) (inr i) = h.2 ∙ sym i.2
one_kind (solve d) k l h i = h.1 ∙ sym i.1
one_kind unknown k l h i = h ∙ sym i
one_kind nothing k l h i = elim h [ ]
one_kind (word w) k l h i = elim h [ ]

no_command : (form : Form) (c : Command) → form ≡ nothing → IsCommand form c → ⊥
no_command form c is h = subst (λ f. IsCommand f c) is h

pub nothing_wrong : (form : Form) (kind : ScriptFaultKind) → form ≡ nothing → HasFault form kind → ⊥
nothing_wrong form kind is h = subst (λ f. HasFault f kind) is h

-- TEXTS

abbrev line_of : ℕ → Command → Line
line_of n c = record { number = n; command = c }

one_list : (n : ℕ) (ls : List (List ℕ)) (a b : List Line) → AreCommands n ls a → AreCommands n ls b → a ≡ b
one_list n [] a b h k = h ∙ sym k
one_list n (l ∷ ls) a b (inl h) (inl k) = one_list (n + 1) ls a b h.1 k.1
one_list n (l ∷ ls) a b (inl h) (inr k) = absurd (no_command (form_of_line l) k.0 h.0 k.2)
one_list n (l ∷ ls) a b (inr h) (inl k) = absurd (no_command (form_of_line l) h.0 k.0 h.2)
one_list n (l ∷ ls) a b (inr h) (inr k) =
    let same : h.0 ≡ k.0 = one_command (form_of_line l) h.0 k.0 h.2 k.2 in
    let others : h.1 ≡ k.1 = one_list (n + 1) ls h.1 k.1 h.3 k.3 in
    h.4 ∙ ap (λ c. line_of n c ∷ h.1) same ∙ ap (λ xs. line_of n k.0 ∷ xs) others ∙ sym k.4

faultless : (n : ℕ) (ls : List (List ℕ)) (script : List Line) (at : ℕ) (line : List ℕ) (kind : ScriptFaultKind) → AreCommands n ls script → slice_get ls at ≡ Some line
    → HasFault (form_of_line line) kind → ⊥
faultless n [] script at line kind h is f = absurd (omega (arith, slice_get_within [] at line is))
faultless n (l ∷ ls) script zero line kind (inl h) is f = nothing_wrong (form_of_line l) kind h.0 (subst (λ x. HasFault (form_of_line x) kind) (sym (same_Some l line is)) f)
faultless n (l ∷ ls) script zero line kind (inr h) is f = no_fault (form_of_line l) h.0 kind h.2 (subst (λ x. HasFault (form_of_line x) kind) (sym (same_Some l line is)) f)
faultless n (l ∷ ls) script (suc at) line kind (inl h) is f = faultless (n + 1) ls script at line kind h.1 is f
faultless n (l ∷ ls) script (suc at) line kind (inr h) is f = faultless (n + 1) ls h.1 at line kind h.3 is f

one_first : (ls : List (List ℕ)) (number place : ℕ) (kind other : ScriptFaultKind) (a : IsFirstFault ls number kind) (b : IsFirstFault ls place other)
    → (a.at ≡ b.at) ⊎ ((a.at < b.at) ⊎ (b.at < a.at)) → (number ≡ place) × (kind ≡ other)
one_first ls number place kind other a b (inl same) =
    let line : a.line ≡ b.line = same_Some a.line b.line (sym a.stands ∙ ap (slice_get ls) same ∙ b.stands) in
    (a.counted ∙ ap (λ n. n + 1) same ∙ sym b.counted, one_kind (form_of_line b.line) kind other (subst (λ x. HasFault (form_of_line x) kind) line a.fault) b.fault)
one_first ls number place kind other a b (inr (inl less)) = absurd (b.none_before a.at a.line kind less a.stands a.fault)
one_first ls number place kind other a b (inr (inr less)) = absurd (a.none_before b.at b.line other less b.stands b.fault)

utf8_is_valid : (bytes : List ℕ) (valid : ℕ) → IsUtf8 bytes → IsValidUpTo bytes valid → ⊥
utf8_is_valid bytes valid utf8 v = v.longest (length bytes) v.short (subst IsUtf8 (sym (take_all (length bytes) bytes (omega arith))) utf8)

one_valid : (bytes : List ℕ) (valid other : ℕ) → IsValidUpTo bytes valid → IsValidUpTo bytes other → valid ≡ other
one_valid bytes valid other h k = sym (utf8_valid_len-IsValidUpTo bytes valid h) ∙ utf8_valid_len-IsValidUpTo bytes other k

one_fault : (bytes : List ℕ) (number place : ℕ) (kind other : ScriptFaultKind) → ScriptFaulty bytes number kind → ScriptFaulty bytes place other → (number ≡ place) × (kind ≡ other)
one_fault bytes number place kind other (no_text v h n k) (no_text w i m l) = (n ∙ ap (λ x. line_behind (take x bytes)) (one_valid bytes v w h i) ∙ sym m, k ∙ sym l)
one_fault bytes number place kind other (no_text v h n k) (of_line utf8 b) = absurd (utf8_is_valid bytes v utf8 h)
one_fault bytes number place kind other (of_line utf8 a) (no_text w i m l) = absurd (utf8_is_valid bytes w utf8 i)
one_fault bytes number place kind other (of_line utf8 a) (of_line utf8' b) = one_first (lines bytes) number place kind other a b (cases_order a.at b.at)

not_both : (bytes : List ℕ) (script : List Line) (number : ℕ) (kind : ScriptFaultKind) → ScriptText bytes script → ScriptFaulty bytes number kind → ⊥
not_both bytes script number kind h (no_text v i n k) = utf8_is_valid bytes v h.utf8 i
not_both bytes script number kind h (of_line utf8 f) = faultless 1 (lines bytes) script f.at f.line kind h.commands f.stands f.fault

pub has_one_answer : (bytes : List ℕ) → HasOneAnswer bytes
has_one_answer bytes = record {
  one_script = λ script other h k. one_list 1 (lines bytes) script other h.commands k.commands;
  one_fault = one_fault bytes;
  not_both = not_both bytes;
}
