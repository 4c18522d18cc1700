-- The text of a value has no line feed.
use Rattle.std.proofs.Common.{◌≡◌, ℕ, zero, suc, ◌+◌, ◌<◌, ◌/◌, ◌%◌, Bool, true, false, List, [], ◌∷◌, ◌++◌, map, refl, sym, ap, ◌∙◌, subst, arith}
use Rattle.std.specs.Prelude.{◌==◌, ◌||◌, All, codes, not, nat_lt, if◌then◌else◌}
use Rattle.std.specs.Fmt.{signed_decimal}
use Rattle.std.specs.List.{flat_map}
use Rattle.std.proofs.lemmas.Bool.{and_from}
use Rattle.std.proofs.lemmas.Bool.Decides.{nat_tests}
use Rattle.std.proofs.lemmas.List.Elements.{All-head, All-tail}
use Rattle.flow_term.specs.declared.elem.Elem.{Elem, Elem-F, out-Elem, fold_out-Elem, map-Elem}
use Rattle.flow_term.specs.declared.value.Entry.{Entry}
use Rattle.flow_term.specs.declared.value.Value.{Value, Value-F, out-Value, fold_out-Value, map-Value}
use Rattle.quoted_text.specs.Spellings.{byte_text, octal_escape, quoted}
use Rattle.value_text.specs.Texts.{HasElemText, HasText, HasValueText, IsPlain, IsPlainOrAround, MayBeWritten, behind_comma, elem_layer_text, elem_text, entry_layer_text, entry_text, listed, pair_text, value_layer_text, value_text}
use Rattle.value_text.proofs.Leaves.{integer_token}
use Rattle.value_text.proofs.ValueTexts.{entries_are, written_entry}
use Rattle.line_theory.specs.Lines.{lacks}
use Rattle.line_theory.proofs.LineLemmas.{lacks_append}
use Rattle.cert_text.proofs.Bare.{feed, name_lacks, path_lacks, tokens_lack}

record IsLine (bs : List ℕ) : Type 0 where
  bare : lacks 10 bs ≡ true

now : {bs : List ℕ} → lacks 10 bs ≡ true → IsLine bs
now h = record { bare = h }

put : (xs ys : List ℕ) → IsLine xs → IsLine ys → IsLine (xs ++ ys)
put xs ys h k = now (lacks_append 10 xs ys h.bare k.bare)

either : (t : Bool) (xs ys : List ℕ) → (t ≡ true → IsLine xs) → (t ≡ false → IsLine ys) → IsLine (if t then xs else ys)
either true xs ys f g = f refl
either false xs ys f g = g refl

-- ** texts between quotes

above : (x : ℕ) → 10 < x → not (x == 10) ≡ true
above x h = grind (arith, nat_tests)

one : (c : ℕ) (bs : List ℕ) → not (c == 10) ≡ true → IsLine bs → IsLine (c ∷ bs)
one c bs h k = now (and_from (not (c == 10)) (lacks 10 bs) h k.bare)

none : IsLine []
none = now refl

octal : (c : ℕ) → IsLine (octal_escape c)
octal c = one 92 _ refl (one (48 + c / 64) _ (above (48 + c / 64) (omega arith)) (one (48 + c / 8 % 8) _ (above (48 + c / 8 % 8) (omega arith)) (one (48 + c % 8) [] (above (48 + c % 8) (omega arith)) none)))

byte : (quote c : ℕ) → not (quote == 10) ≡ true → IsLine (byte_text quote c)
byte quote c h =
    either (c == quote) _ _ (λ _. one 92 (quote ∷ []) refl (one quote [] h none)) (λ _.
    either (c == 92) _ _ (λ _. now refl) (λ _.
    either (c == 10) _ _ (λ _. now refl) (λ k.
    either (c == 9) _ _ (λ _. now refl) (λ _.
    either (c == 13) _ _ (λ _. now refl) (λ _.
    either (nat_lt c 32 || c == 127) _ _ (λ _. octal c) (λ _. one c [] (ap not k) none))))))

inside : (quote : ℕ) → not (quote == 10) ≡ true → (text : List ℕ) → IsLine (flat_map (byte_text quote) text)
inside quote h [] = none
inside quote h (c ∷ text) = put (byte_text quote c) (flat_map (byte_text quote) text) (byte quote c h) (inside quote h text)

between : (quote : ℕ) → not (quote == 10) ≡ true → (text : List ℕ) → IsLine (quoted quote text)
between quote h text = one quote _ h (put (flat_map (byte_text quote) text) (quote ∷ []) (inside quote h text) (one quote [] h none))

-- ** lists

pair : (a b : List ℕ) → IsLine a → IsLine b → IsLine (pair_text a b)
pair a b h k = put (codes "(" ++ a ++ codes ", " ++ b) (codes ")") (put (codes "(" ++ a ++ codes ", ") b (put (codes "(" ++ a) (codes ", ") (put (codes "(") a (now refl) h) (now refl)) k) (now refl)

module _ {X : Type 0} (P : X → Type 0) (text : X → List ℕ) (is_line : (x : X) → P x → IsLine (text x)) where
  behind : (xs : List X) → All P xs → IsLine (flat_map behind_comma (map text xs))
  behind [] h = none
  behind (x ∷ xs) h = put (behind_comma (text x)) (flat_map behind_comma (map text xs)) (put (codes ", ") (text x) (now refl) (is_line x (All-head P x xs h))) (behind xs (All-tail P x xs h))

  all_listed : (xs : List X) → All P xs → IsLine (listed (map text xs))
  all_listed [] h = none
  all_listed (x ∷ xs) h = put (text x) (flat_map behind_comma (map text xs)) (is_line x (All-head P x xs h)) (behind xs (All-tail P x xs h))

-- ** elements

module _ (P : Elem → Type 0) (part : (e : Elem) → P e → IsLine (elem_text e)) where
  elem_layer : (x : Elem-F Elem) → MayBeWritten P x → IsLine (elem_layer_text (map-Elem Elem (List ℕ) elem_text x))
  elem_layer (Elem-F.Name text) h = between 34 refl text
  elem_layer (Elem-F.Str text) h = between 39 refl text
  elem_layer (Elem-F.Pos path) h = now (path_lacks 10 feed path h)
  elem_layer (Elem-F.Item text) h = now (name_lacks 10 feed text h)
  elem_layer (Elem-F.Int number) h = now (tokens_lack 10 feed.token (signed_decimal number) (integer_token number h).bytes)
  elem_layer (Elem-F.Pair a b) h = pair (elem_text a) (elem_text b) (part a h.0) (part b h.1)

  elem_at : (e : Elem) → MayBeWritten P (out-Elem e) → IsLine (elem_text e)
  elem_at e h = subst IsLine (sym (fold_out-Elem (List ℕ) elem_layer_text e)) (elem_layer (out-Elem e) h)

elem_line : (n : ℕ) (e : Elem) → HasElemText n e → IsLine (elem_text e)
elem_line zero e h = elem_at (λ _. ⊥) (λ _ no. absurd no) e h
elem_line (suc n) e h = elem_at (HasElemText n) (elem_line n) e h

-- ** values

module _ (E : Elem → Type 0) (elem : (e : Elem) → E e → IsLine (elem_text e)) (P : Value → Type 0) (part : (v : Value) → P v → IsLine (value_text v)) where
  entry : (e : Entry) → E e.key × P e.value → IsLine (entry_text e)
  entry e h = put (elem_text e.key ++ codes " |-> ") (value_text e.value) (put (elem_text e.key) (codes " |-> ") (elem e.key h.0) (now refl)) (part e.value h.1)

  value_layer : (x : Value-F Value Entry) → IsPlainOrAround E P x → IsLine (value_layer_text (map-Value Value Entry (List ℕ) (List ℕ) value_text written_entry x))
  value_layer Value-F.Unreached h = now refl
  value_layer (Value-F.Set elems) h = put (codes "{" ++ listed (map elem_text elems)) (codes "}") (put (codes "{") (listed (map elem_text elems)) (now refl) (all_listed E elem_text elem elems h.1)) (now refl)
  value_layer Value-F.Bottom h = now refl
  value_layer Value-F.Top h = now refl
  value_layer (Value-F.Flat e) h = put (codes "flat(" ++ elem_text e) (codes ")") (put (codes "flat(") (elem_text e) (now refl) (elem e h)) (now refl)
  value_layer (Value-F.Map entries) h =
      subst (λ (ts : List (List ℕ)). IsLine (codes "[" ++ listed ts ++ codes "]")) (sym (entries_are entries))
      (put (codes "[" ++ listed (map entry_text entries)) (codes "]") (put (codes "[") (listed (map entry_text entries)) (now refl) (all_listed (λ e. E e.key × P e.value) entry_text entry entries h.1)) (now refl))
  value_layer (Value-F.Pair a b) h = pair (value_text a) (value_text b) (part a h.0) (part b h.1)
  value_layer (Value-F.Item text) h = now (name_lacks 10 feed text h)

  value_at : (v : Value) → IsPlainOrAround E P (out-Value v) → IsLine (value_text v)
  value_at v h = subst IsLine (sym (fold_out-Value (List ℕ) (List ℕ) value_layer_text entry_layer_text v)) (value_layer (out-Value v) h)

plain_layer : (x : Value-F Value Entry) → IsPlain x → IsLine (value_layer_text (map-Value Value Entry (List ℕ) (List ℕ) value_text written_entry x))
plain_layer Value-F.Unreached h = now refl
plain_layer Value-F.Bottom h = now refl
plain_layer Value-F.Top h = now refl
plain_layer (Value-F.Item text) h = now (name_lacks 10 feed text h)
plain_layer (Value-F.Set elems) h = absurd h
plain_layer (Value-F.Flat e) h = absurd h
plain_layer (Value-F.Map entries) h = absurd h
plain_layer (Value-F.Pair a b) h = absurd h

value_line_at : (n : ℕ) (v : Value) → HasValueText n v → IsLine (value_text v)
value_line_at zero v h = subst IsLine (sym (fold_out-Value (List ℕ) (List ℕ) value_layer_text entry_layer_text v)) (plain_layer (out-Value v) h)
value_line_at (suc n) v h = value_at (HasElemText n) (elem_line n) (HasValueText n) (value_line_at n) v h

pub value_lacks : (v : Value) → HasText v → lacks 10 (value_text v) ≡ true
value_lacks v h = (value_line_at 16 v h).bare
