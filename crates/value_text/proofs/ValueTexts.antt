-- Each value that has a text is read from it, and nothing else is read.
use Rattle.std.proofs.Common.{◌≡◌, ◌↔◌, ℕ, Bool, zero, suc, true, false, List, [], ◌∷◌, ◌++◌, drop, length, map, Some, None, Option, refl, sym, ap, ◌∙◌, subst, arith, append_assoc, append-nil, inl, inr}
use Rattle.std.specs.Prelude.{All, codes, Err, ◌==◌, bytes_eq, if◌then◌else◌}
use Rattle.std.specs.List.Sorted.{IsStrictlySortedBy}
use Rattle.std.proofs.lemmas.Bool.{both_ways}
use Rattle.std.proofs.lemmas.Slice.Eq.{bytes_eq-Decides}
use Rattle.flow_term.specs.declared.elem.Elem.{Elem}
use Rattle.flow_term.specs.declared.value.Entry.{Entry, fold-Entry, fold_out-Entry}
use Rattle.flow_term.specs.declared.value.Value.{Value, Value-F, out-Value, roll-Value, roll-out-Value, fold_out-Value, map-Value}
use Rattle.flow_term.specs.declared.value.Value.TheVariants as value
use Rattle.flow_term.specs.Elements.{elem_cmp}
use Rattle.flow_syntax.specs.Accepted.{IsIdentifier}
use Rattle.flow_syntax.proofs.Fronts.{chosen}
use Rattle.value_text.specs.declared.refusal.ValueRefusal.{ValueRefusal}
use Rattle.value_text.specs.declared.refusal.ValueRefusal.TheVariants as refusals
use Rattle.value_text.specs.Laws.{HasOneValue, IsReadAs, IsTextOf}
use Rattle.value_text.specs.Rising.{rises}
use Rattle.value_text.specs.Texts.{elem_text, entry_layer_text, entry_text, keys, listed, value_layer_text, value_text, HasElemText, HasValueText, IsPlain, IsPlainOrAround}
use Rattle.value_text.specs.inner.Reading.{Reading, GivesNone, ◌>>=◌, all_listed, begins_with, behind, elem_below, entry_with, flat_with, item_of, map_with, pair_with, plain_value, set_with, token_of, value_below, value_with, word_with}
use Rattle.value_text.proofs.Told.{both_are, bound, kept, passed}
use Rattle.value_text.proofs.ElemTexts.{brace, bracket_none, elem_is, elem_read, no_elem, pair_flat, pair_is, pair_read}
use Rattle.value_text.proofs.Forms.{rising, rising_is_told, tested}
use Rattle.value_text.proofs.Identifiers.{item_is}
use Rattle.value_text.proofs.Leaves.{identifier_read, identifier_token, not_reserved}
use Rattle.value_text.proofs.Lists.{Closes, IsRead, Reads, list_is, list_read}
use Rattle.value_text.proofs.Tokens.{EndsToken, IsToken, behind_is, is_first, not_begun, not_zero, token_is, token_read}

-- ** entries

-- an entry as a layer of a value writes it
abbrev pub written_entry : Entry → List ℕ
written_entry = fold-Entry (List ℕ) (List ℕ) value_layer_text entry_layer_text

pub entry_is : (e : Entry) → written_entry e ≡ entry_text e
entry_is e = fold_out-Entry (List ℕ) (List ℕ) value_layer_text entry_layer_text e

pub entries_are : (es : List Entry) → map written_entry es ≡ map entry_text es
entries_are [] = refl
entries_are (e ∷ es) = λ i. entry_is e i ∷ entries_are es i

entry_flat : (k v rest : List ℕ) → (k ++ codes " |-> " ++ v) ++ rest ≡ k ++ (codes " |-> " ++ (v ++ rest))
entry_flat k v rest = simp append_assoc

-- ** one layer

-- where brackets may nest so deep, only there are sets and maps
abbrev Fits : ℕ → Value-F Value Entry → Type 0
Fits n (Value-F.Set elems) = (n == 0) ≡ false
Fits n (Value-F.Map entries) = (n == 0) ≡ false
Fits n _ = Unit {0}

module _ (n : ℕ) (E : Elem → Type 0) (elem : List ℕ → Reading Elem) (elem_reads : Reads E elem_text elem) (closes : Closes 125 elem) (stops : (bs : List ℕ) → begins_with 93 bs ≡ true → elem bs ≡ None)
    (P : Value → Type 0) (part : List ℕ → Reading Value) (reads : Reads P value_text part) where
  abbrev IsEntry : Entry → Type 0
  IsEntry e = E e.key × P e.value

  flat_entry_read : (e : Entry) (rest : List ℕ) → IsEntry e → EndsToken rest → entry_with elem part (elem_text e.key ++ (codes " |-> " ++ (value_text e.value ++ rest))) ≡ Some (e, rest)
  unfolding entry_with
  flat_entry_read e rest h ends =
      let key = elem_reads e.key (codes " |-> " ++ (value_text e.value ++ rest)) h.0 refl in
      let val = reads e.value rest h.1 ends in
      rw (key, val) refl

  entry_read : Reads IsEntry entry_text (entry_with elem part)
  entry_read e rest h ends = ap (entry_with elem part) (entry_flat (elem_text e.key) (value_text e.value) rest) ∙ flat_entry_read e rest h ends

  no_entry : (bs : List ℕ) → elem bs ≡ None → entry_with elem part bs ≡ None
  unfolding entry_with
  no_entry bs h = rw h refl

  entries_close : Closes 93 (entry_with elem part)
  entries_close = record { itself = refl; ends = λ rest. refl; comma = λ rest. refl; stops = λ bs h. no_entry bs (stops bs h); empty = no_entry [] closes.empty }

  -- a word is no text in brackets
  plainly : (text rest : List ℕ) (r : Reading Value) → IsToken text → EndsToken rest → word_with elem text rest ≡ r → value_with n elem part (text ++ rest) ≡ r
  unfolding value_with plain_value
  plainly text rest r t ends is =
      rw (not_begun 123 text rest refl t, not_begun 91 text rest refl t, not_begun 40 text rest refl t, token_read text rest t ends) is

  bottom_token : IsToken (codes "bottom")
  bottom_token = record { bytes = refl; some = omega arith }

  top_token : IsToken (codes "top")
  top_token = record { bytes = refl; some = omega arith }

  unreached_token : IsToken (codes "unreached")
  unreached_token = record { bytes = refl; some = omega arith }

  flat_token : IsToken (codes "flat")
  flat_token = record { bytes = refl; some = omega arith }

  item_word : (text rest : List ℕ) → IsIdentifier text → word_with elem text rest ≡ Some (value.Item text, rest)
  item_word text rest h =
      let unreached = not_reserved text (codes "unreached") h (48, omega arith, refl) in
      let bottom = not_reserved text (codes "bottom") h (25, omega arith, refl) in
      let top = not_reserved text (codes "top") h (47, omega arith, refl) in
      let flat = not_reserved text (codes "flat") h (49, omega arith, refl) in
      rw (unreached, bottom, top, flat, identifier_read text h) refl

  flat_read : (e : Elem) (rest : List ℕ) → E e → flat_with elem (codes "(" ++ ((elem_text e ++ codes ")") ++ rest)) ≡ Some (value.Flat e, rest)
  unfolding flat_with
  flat_read e rest h = let inner = elem_reads e (codes ")" ++ rest) h refl in rw (append_assoc (elem_text e) (codes ")") rest, inner) refl

  set_read : (elems : List Elem) (rest : List ℕ) → (n == 0) ≡ false → IsStrictlySortedBy elem_cmp elems × All E elems → set_with n elem (listed (map elem_text elems) ++ 125 ∷ rest) ≡ Some (value.Set elems, rest)
  unfolding set_with
  set_read elems rest some h = rw (some, list_read E elem_text elem elem_reads 125 closes elems rest h.1, rising_is_told elems h.0) refl

  map_read : (entries : List Entry) (rest : List ℕ) → (n == 0) ≡ false → IsStrictlySortedBy elem_cmp (keys entries) × All IsEntry entries → map_with n elem part (listed (map entry_text entries) ++ 93 ∷ rest) ≡ Some (value.Map entries, rest)
  unfolding map_with
  map_read entries rest some h = rw (some, list_read IsEntry entry_text (entry_with elem part) entry_read 93 entries_close entries rest h.1, rising_is_told (keys entries) h.0) refl

  layer_read : (x : Value-F Value Entry) (rest : List ℕ) → IsPlainOrAround E P x → Fits n x → EndsToken rest
      → value_with n elem part (value_layer_text (map-Value Value Entry (List ℕ) (List ℕ) value_text written_entry x) ++ rest) ≡ Some (roll-Value x, rest)
  unfolding value_with
  layer_read Value-F.Unreached rest h fits ends = plainly (codes "unreached") rest (Some (value.Unreached, rest)) unreached_token ends refl ∙ ap (λ v. Some (v, rest)) (sym value.rolls-Unreached)
  layer_read (Value-F.Set elems) rest h fits ends =
      ap (set_with n elem) (append_assoc (listed (map elem_text elems)) (codes "}") rest) ∙ set_read elems rest fits h ∙ ap (λ v. Some (v, rest)) (sym (value.rolls-Set elems))
  layer_read Value-F.Bottom rest h fits ends = plainly (codes "bottom") rest (Some (value.Bottom, rest)) bottom_token ends refl ∙ ap (λ v. Some (v, rest)) (sym value.rolls-Bottom)
  layer_read Value-F.Top rest h fits ends = plainly (codes "top") rest (Some (value.Top, rest)) top_token ends refl ∙ ap (λ v. Some (v, rest)) (sym value.rolls-Top)
  layer_read (Value-F.Flat e) rest h fits ends =
      plainly (codes "flat") (codes "(" ++ ((elem_text e ++ codes ")") ++ rest)) (Some (value.Flat e, rest)) flat_token refl (flat_read e rest h) ∙ ap (λ v. Some (v, rest)) (sym (value.rolls-Flat e))
  layer_read (Value-F.Map entries) rest h fits ends =
      ap (λ ts. value_with n elem part ((codes "[" ++ (listed ts ++ codes "]")) ++ rest)) (entries_are entries)
      ∙ ap (map_with n elem part) (append_assoc (listed (map entry_text entries)) (codes "]") rest) ∙ map_read entries rest fits h ∙ ap (λ v. Some (v, rest)) (sym (value.rolls-Map entries))
  layer_read (Value-F.Pair a b) rest h fits ends =
      ap (λ bs. pair_with value.Pair part (drop 1 bs)) (pair_flat (value_text a) (value_text b) rest) ∙ pair_read P value_text part reads value.Pair a b rest h.0 h.1 ∙ ap (λ v. Some (v, rest)) (sym (value.rolls-Pair a b))
  layer_read (Value-F.Item text) rest h fits ends =
      plainly text rest (Some (value.Item text, rest)) (identifier_token text h) ends (item_word text rest h) ∙ ap (λ v. Some (v, rest)) (sym (value.rolls-Item text))

  pub read_at : (v : Value) (rest : List ℕ) → IsPlainOrAround E P (out-Value v) → Fits n (out-Value v) → EndsToken rest → value_with n elem part (value_text v ++ rest) ≡ Some (v, rest)
  read_at v rest h fits ends =
      ap (λ text. value_with n elem part (text ++ rest)) (fold_out-Value (List ℕ) (List ℕ) value_layer_text entry_layer_text v) ∙ layer_read (out-Value v) rest h fits ends ∙ ap (λ x. Some (x, rest)) (roll-out-Value v)

-- ** sets and maps that don't rise

pub set_refused : (n : ℕ) (elem : List ℕ → Reading Elem) (bs rest : List ℕ) (elems us : List Elem) (r : Bool) → (n == 0) ≡ false → all_listed 125 elem bs ≡ Some (elems, rest) → us ≡ elems
    → (r ≡ true) ↔ IsStrictlySortedBy elem_cmp us → r ≡ false → set_with n elem bs ≡ None
unfolding set_with
set_refused n elem bs rest elems us r some read same told falls = let up : rises elems ≡ false = ap rises (sym same) ∙ tested us r told ∙ falls in rw (some, read, up) refl

pub set_found : (n : ℕ) (elem : List ℕ → Reading Elem) (bs rest : List ℕ) (elems us : List Elem) (r : Bool) → (n == 0) ≡ false → all_listed 125 elem bs ≡ Some (elems, rest) → us ≡ elems
    → (r ≡ true) ↔ IsStrictlySortedBy elem_cmp us → r ≡ true → set_with n elem bs ≡ Some (value.Set elems, rest)
unfolding set_with
set_found n elem bs rest elems us r some read same told climbs = let up : rises elems ≡ true = ap rises (sym same) ∙ tested us r told ∙ climbs in rw (some, read, up) refl

pub map_refused : (n : ℕ) (elem : List ℕ → Reading Elem) (part : List ℕ → Reading Value) (bs rest : List ℕ) (entries us : List Entry) (r : Bool) → (n == 0) ≡ false → all_listed 93 (entry_with elem part) bs ≡ Some (entries, rest) → us ≡ entries
    → (r ≡ true) ↔ IsStrictlySortedBy elem_cmp (keys us) → r ≡ false → map_with n elem part bs ≡ None
unfolding map_with
map_refused n elem part bs rest entries us r some read same told falls = let up : rises (keys entries) ≡ false = ap (λ es. rises (keys es)) (sym same) ∙ tested (keys us) r told ∙ falls in rw (some, read, up) refl

pub map_found : (n : ℕ) (elem : List ℕ → Reading Elem) (part : List ℕ → Reading Value) (bs rest : List ℕ) (entries us : List Entry) (r : Bool) → (n == 0) ≡ false → all_listed 93 (entry_with elem part) bs ≡ Some (entries, rest) → us ≡ entries
    → (r ≡ true) ↔ IsStrictlySortedBy elem_cmp (keys us) → r ≡ true → map_with n elem part bs ≡ Some (value.Map entries, rest)
unfolding map_with
map_found n elem part bs rest entries us r some read same told climbs = let up : rises (keys entries) ≡ true = ap (λ es. rises (keys es)) (sym same) ∙ tested (keys us) r told ∙ climbs in rw (some, read, up) refl

-- ** what is told by what was read

module _ (n : ℕ) (E : Elem → Type 0) (elem : List ℕ → Reading Elem) (elems_are : IsRead E elem_text elem) (P : Value → Type 0) (part : List ℕ → Reading Value) (parts_are : IsRead P value_text part) where
  abbrev EntryIs : Entry → Type 0
  EntryIs e = E e.key × P e.value

  entries_read : IsRead EntryIs entry_text (entry_with elem part)
  unfolding entry_with
  entries_read bs rest e is =
      let k = bound (elem bs) (λ k. behind (codes " |-> ") k.1 >>= λ r. part r >>= λ v. Some (record { key = k.0; value = v.0 }, v.1)) (e, rest) is in
      let r = bound (behind (codes " |-> ") k.0.1) (λ r. part r >>= λ v. Some (record { key = k.0.0; value = v.0 }, v.1)) (e, rest) k.2 in
      let v = bound (part r.0) (λ v. Some (record { key = k.0.0; value = v.0 }, v.1)) (e, rest) r.2 in
      let s = both_are (record { key = k.0.0; value = v.0.0 }) e v.0.1 rest v.2 in
      let key = elems_are bs k.0.1 k.0.0 k.1 in
      let val = parts_are r.0 v.0.1 v.0.0 v.1 in (
        subst EntryIs s.0 (key.0, val.0),
        key.1 ∙ ap (λ (cs : List ℕ). elem_text k.0.0 ++ cs) (behind_is (codes " |-> ") k.0.1 r.0 r.1 ∙ ap (λ (cs : List ℕ). codes " |-> " ++ cs) (val.1 ∙ ap (λ (cs : List ℕ). value_text v.0.0 ++ cs) s.1))
            ∙ sym (entry_flat (elem_text k.0.0) (value_text v.0.0) rest) ∙ ap (λ (x : Entry). entry_text x ++ rest) s.0,
      )

  abbrev Stands : Value → List ℕ → List ℕ → Type 0
  Stands v bs rest = IsPlainOrAround E P (out-Value v) × Fits n (out-Value v) × (bs ≡ value_text v ++ rest)

  -- a value of this layer, whose text stands in front
  stands : (x : Value-F Value Entry) (v : Value) (bs rest : List ℕ) → out-Value v ≡ x → IsPlainOrAround E P x → Fits n x
      → bs ≡ value_layer_text (map-Value Value Entry (List ℕ) (List ℕ) value_text written_entry x) ++ rest → Stands v bs rest
  stands x v bs rest o h fits is = (
    subst (IsPlainOrAround E P) (sym o) h,
    subst (Fits n) (sym o) fits,
    is ∙ ap (λ (t : List ℕ). t ++ rest) (sym (fold_out-Value (List ℕ) (List ℕ) value_layer_text entry_layer_text v ∙ ap (λ y. value_layer_text (map-Value Value Entry (List ℕ) (List ℕ) value_text written_entry y)) o)),
  )

  -- a word that is a value
  word_stands : (x : Value-F Value Entry) (w v : Value) (word text after rest : List ℕ) → bytes_eq word text ≡ true → ◌≡◌ {A = Option (Value × List ℕ)} (Some (w, after)) (Some (v, rest)) → out-Value w ≡ x → IsPlainOrAround E P x → Fits n x
      → text ≡ value_layer_text (map-Value Value Entry (List ℕ) (List ℕ) value_text written_entry x) → Stands v (word ++ after) rest
  word_stands x w v word text after rest same e o h fits is =
      let s = both_are w v after rest e in
      stands x v (word ++ after) rest (ap out-Value (sym s.0) ∙ o) h fits (λ i. ((bytes_eq-Decides word text).0 same ∙ is) i ++ s.1 i)

  flat_stands : (bs rest : List ℕ) (v : Value) → flat_with elem bs ≡ Some (v, rest) → Stands v (codes "flat" ++ bs) rest
  unfolding flat_with
  flat_stands bs rest v is =
      let r = bound (behind (codes "(") bs) (λ r. elem r >>= λ e. behind (codes ")") e.1 >>= λ s. Some (value.Flat e.0, s)) (v, rest) is in
      let e = bound (elem r.0) (λ e. behind (codes ")") e.1 >>= λ s. Some (value.Flat e.0, s)) (v, rest) r.2 in
      let s = bound (behind (codes ")") e.0.1) (λ s. Some (value.Flat e.0.0, s)) (v, rest) e.2 in
      let t = both_are (value.Flat e.0.0) v s.0 rest s.2 in
      let inner = elems_are r.0 e.0.1 e.0.0 e.1 in
      stands (Value-F.Flat e.0.0) v (codes "flat" ++ bs) rest (ap out-Value (sym t.0) ∙ value.outs-Flat e.0.0) inner.0 tt
      (ap (λ (cs : List ℕ). codes "flat" ++ cs) (behind_is (codes "(") bs r.0 r.1 ∙ ap (λ (cs : List ℕ). codes "(" ++ cs) (inner.1
      ∙ ap (λ (cs : List ℕ). elem_text e.0.0 ++ cs) (behind_is (codes ")") e.0.1 s.0 s.1 ∙ ap (λ (cs : List ℕ). codes ")" ++ cs) t.1)
      ∙ sym (append_assoc (elem_text e.0.0) (codes ")") rest))))

  item_stands : (word after rest : List ℕ) (v : Value) → ◌>>=◌ {B = Value × List ℕ} (item_of word) (λ text. Some (value.Item text, after)) ≡ Some (v, rest) → Stands v (word ++ after) rest
  item_stands word after rest v is =
      let p = bound (item_of word) (λ text. Some (value.Item text, after)) (v, rest) is in
      let s = both_are (value.Item p.0) v after rest p.2 in
      let found = item_is word p.0 p.1 in
      stands (Value-F.Item p.0) v (word ++ after) rest (ap out-Value (sym s.0) ∙ value.outs-Item p.0) found.0 tt (λ i. found.1 i ++ s.1 i)

  words_stand : (word after rest : List ℕ) (v : Value) → word_with elem word after ≡ Some (v, rest) → Stands v (word ++ after) rest
  words_stand word after rest v is =
      elim (chosen (bytes_eq word (codes "unreached")) (Some (value.Unreached, after)) (if bytes_eq word (codes "bottom") then Some (value.Bottom, after) else (if bytes_eq word (codes "top") then Some (value.Top, after)
      else (if bytes_eq word (codes "flat") then flat_with elem after else (item_of word >>= λ text. Some (value.Item text, after))))) (Some (v, rest)) is) [
        | inl (h, e) ↦ word_stands Value-F.Unreached value.Unreached v word (codes "unreached") after rest h e value.outs-Unreached tt tt refl
        | inr (_, a) ↦ elim (chosen (bytes_eq word (codes "bottom")) (Some (value.Bottom, after)) (if bytes_eq word (codes "top") then Some (value.Top, after)
            else (if bytes_eq word (codes "flat") then flat_with elem after else (item_of word >>= λ text. Some (value.Item text, after)))) (Some (v, rest)) a) [
              | inl (h, e) ↦ word_stands Value-F.Bottom value.Bottom v word (codes "bottom") after rest h e value.outs-Bottom tt tt refl
              | inr (_, b) ↦ elim (chosen (bytes_eq word (codes "top")) (Some (value.Top, after)) (if bytes_eq word (codes "flat") then flat_with elem after else (item_of word >>= λ text. Some (value.Item text, after))) (Some (v, rest)) b) [
                | inl (h, e) ↦ word_stands Value-F.Top value.Top v word (codes "top") after rest h e value.outs-Top tt tt refl
                | inr (_, c) ↦ elim (chosen (bytes_eq word (codes "flat")) (flat_with elem after) (item_of word >>= λ text. Some (value.Item text, after)) (Some (v, rest)) c) [
                  | inl (h, flat) ↦ subst (λ (w : List ℕ). Stands v (w ++ after) rest) (sym ((bytes_eq-Decides word (codes "flat")).0 h)) (flat_stands after rest v flat)
                  | inr (_, item) ↦ item_stands word after rest v item
                ]
              ]
            ]
      ]

  plain_stands : (bs rest : List ℕ) (v : Value) → plain_value elem bs ≡ Some (v, rest) → Stands v bs rest
  unfolding plain_value
  plain_stands bs rest v is =
      let t = bound (token_of bs) (λ t. word_with elem t.0 t.1) (v, rest) is in
      subst (λ (cs : List ℕ). Stands v cs rest) (sym (token_is bs t.0 t.1)) (words_stand t.0.0 t.0.1 rest v t.2)

  set_stands : (bs rest : List ℕ) (v : Value) → set_with n elem bs ≡ Some (v, rest) → Stands v (123 ∷ bs) rest
  unfolding set_with
  set_stands bs rest v is =
      let some = kept (n == 0) (all_listed 125 elem bs >>= λ x. if rises x.0 then Some (value.Set x.0, x.1) else None) (v, rest) is in
      let x = bound (all_listed 125 elem bs) (λ x. if rises x.0 then Some (value.Set x.0, x.1) else None) (v, rest) some.1 in
      let up = passed (rises x.0.0) (Some (value.Set x.0.0, x.0.1)) (v, rest) x.2 in
      let s = both_are (value.Set x.0.0) v x.0.1 rest up.1 in
      let found = list_is E elem_text elem elems_are 125 refl bs x.0.1 x.0.0 x.1 in
      stands (Value-F.Set x.0.0) v (123 ∷ bs) rest (ap out-Value (sym s.0) ∙ value.outs-Set x.0.0) (rising x.0.0 up.0, found.0) some.0
      (ap (λ (cs : List ℕ). 123 ∷ cs) (found.1 ∙ ap (λ (cs : List ℕ). listed (map elem_text x.0.0) ++ 125 ∷ cs) s.1 ∙ sym (append_assoc (listed (map elem_text x.0.0)) (codes "}") rest)))

  map_stands : (bs rest : List ℕ) (v : Value) → map_with n elem part bs ≡ Some (v, rest) → Stands v (91 ∷ bs) rest
  unfolding map_with
  map_stands bs rest v is =
      let some = kept (n == 0) (all_listed 93 (entry_with elem part) bs >>= λ x. if rises (keys x.0) then Some (value.Map x.0, x.1) else None) (v, rest) is in
      let x = bound (all_listed 93 (entry_with elem part) bs) (λ x. if rises (keys x.0) then Some (value.Map x.0, x.1) else None) (v, rest) some.1 in
      let up = passed (rises (keys x.0.0)) (Some (value.Map x.0.0, x.0.1)) (v, rest) x.2 in
      let s = both_are (value.Map x.0.0) v x.0.1 rest up.1 in
      let found = list_is EntryIs entry_text (entry_with elem part) entries_read 93 refl bs x.0.1 x.0.0 x.1 in
      stands (Value-F.Map x.0.0) v (91 ∷ bs) rest (ap out-Value (sym s.0) ∙ value.outs-Map x.0.0) (rising (keys x.0.0) up.0, found.0) some.0
      (ap (λ (cs : List ℕ). 91 ∷ cs) (found.1 ∙ ap (λ (cs : List ℕ). listed (map entry_text x.0.0) ++ 93 ∷ cs) s.1 ∙ sym (append_assoc (listed (map entry_text x.0.0)) (codes "]") rest))
      ∙ ap (λ ts. (codes "[" ++ (listed ts ++ codes "]")) ++ rest) (sym (entries_are x.0.0)))

  pair_stands : (bs rest : List ℕ) (v : Value) → pair_with value.Pair part bs ≡ Some (v, rest) → Stands v (40 ∷ bs) rest
  pair_stands bs rest v is =
      let p = pair_is P value_text part parts_are value.Pair bs rest v is in
      stands (Value-F.Pair p.left p.right) v (40 ∷ bs) rest (ap out-Value (sym p.is) ∙ value.outs-Pair p.left p.right) (p.left_holds, p.right_holds) tt
      (ap (λ (cs : List ℕ). 40 ∷ cs) p.whole ∙ sym (pair_flat (value_text p.left) (value_text p.right) rest))

  value_stands : (bs rest : List ℕ) (v : Value) → value_with n elem part bs ≡ Some (v, rest) → Stands v bs rest
  unfolding value_with
  value_stands bs rest v is =
      elim (chosen (begins_with 123 bs) (set_with n elem (drop 1 bs))
      (if begins_with 91 bs then map_with n elem part (drop 1 bs) else (if begins_with 40 bs then pair_with value.Pair part (drop 1 bs) else plain_value elem bs)) (Some (v, rest)) is) [
        | inl (h, set) ↦ subst (λ (cs : List ℕ). Stands v cs rest) (sym (is_first 123 bs h)) (set_stands (drop 1 bs) rest v set)
        | inr (_, a) ↦ elim (chosen (begins_with 91 bs) (map_with n elem part (drop 1 bs)) (if begins_with 40 bs then pair_with value.Pair part (drop 1 bs) else plain_value elem bs) (Some (v, rest)) a) [
          | inl (h, entries) ↦ subst (λ (cs : List ℕ). Stands v cs rest) (sym (is_first 91 bs h)) (map_stands (drop 1 bs) rest v entries)
          | inr (_, b) ↦ elim (chosen (begins_with 40 bs) (pair_with value.Pair part (drop 1 bs)) (plain_value elem bs) (Some (v, rest)) b) [
            | inl (h, pair) ↦ subst (λ (cs : List ℕ). Stands v cs rest) (sym (is_first 40 bs h)) (pair_stands (drop 1 bs) rest v pair)
            | inr (_, plain) ↦ plain_stands bs rest v plain
          ]
        ]
      ]

-- ** all layers

abbrev Nothing : {X : Type 0} → X → Type 0
Nothing _ = ⊥

plain_at : (x : Value-F Value Entry) → IsPlain x → IsPlainOrAround Nothing Nothing x × Fits zero x
plain_at Value-F.Unreached h = (h, tt)
plain_at (Value-F.Set elems) h = absurd h
plain_at Value-F.Bottom h = (h, tt)
plain_at Value-F.Top h = (h, tt)
plain_at (Value-F.Flat e) h = absurd h
plain_at (Value-F.Map entries) h = absurd h
plain_at (Value-F.Pair a b) h = absurd h
plain_at (Value-F.Item text) h = (h, tt)

at_plain : (x : Value-F Value Entry) → IsPlainOrAround Nothing Nothing x → Fits zero x → IsPlain x
at_plain Value-F.Unreached h fits = h
at_plain (Value-F.Set elems) h fits = absurd cc
at_plain Value-F.Bottom h fits = h
at_plain Value-F.Top h fits = h
at_plain (Value-F.Flat e) h fits = absurd h
at_plain (Value-F.Map entries) h fits = absurd cc
at_plain (Value-F.Pair a b) h fits = absurd h.0
at_plain (Value-F.Item text) h fits = h

fits_some : (n : ℕ) (x : Value-F Value Entry) → Fits (suc n) x
fits_some n Value-F.Unreached = tt
fits_some n (Value-F.Set elems) = not_zero (suc n) (omega arith)
fits_some n Value-F.Bottom = tt
fits_some n Value-F.Top = tt
fits_some n (Value-F.Flat e) = tt
fits_some n (Value-F.Map entries) = not_zero (suc n) (omega arith)
fits_some n (Value-F.Pair a b) = tt
fits_some n (Value-F.Item text) = tt

no_key : (n : ℕ) (bs : List ℕ) → begins_with 93 bs ≡ true → elem_below n bs ≡ None
no_key n bs h = no_elem n 93 bs bracket_none h

pub value_read : (n : ℕ) → Reads (HasValueText n) value_text (value_below (suc n))
value_read zero v rest h ends =
    let plain = plain_at (out-Value v) h in
    read_at zero Nothing (elem_below zero) (λ _ _ no _. absurd no) (brace zero) (no_key zero) Nothing (value_below zero) (λ _ _ no _. absurd no) v rest plain.0 plain.1 ends
value_read (suc n) v rest h ends =
    read_at (suc n) (HasElemText n) (elem_below (suc n)) (elem_read n) (brace (suc n)) (no_key (suc n)) (HasValueText n) (value_below (suc n)) (value_read n) v rest h (fits_some n (out-Value v)) ends

pub value_is : (n : ℕ) → IsRead (HasValueText n) value_text (value_below (suc n))
value_is zero bs rest v is =
    let found = value_stands zero Nothing (elem_below zero) (λ _ _ _ none. absurd cc) Nothing (value_below zero) (λ _ _ _ none. absurd cc) bs rest v is in
    (at_plain (out-Value v) found.0 found.1, found.2)
value_is (suc n) bs rest v is =
    let found = value_stands (suc n) (HasElemText n) (elem_below (suc n)) (elem_is n) (HasValueText n) (value_below (suc n)) (value_is n) bs rest v is in
    (found.0, found.2)

-- what the reader makes of bytes
abbrev pub reading : List ℕ → Reading Value
reading bytes = value_below 17 bytes

-- the value of a text
pub text_read : (bytes : List ℕ) (v : Value) → IsTextOf bytes v → reading bytes ≡ Some (v, [])
text_read bytes v h = ap reading (sym (append-nil (value_text v) ∙ h.text)) ∙ value_read 16 v [] h.has_text tt

-- and nothing else
pub value_of_text : (bytes : List ℕ) (v : Value) (rest : List ℕ) → reading bytes ≡ Some (v, rest) → rest ≡ [] → IsTextOf bytes v
value_of_text bytes v rest is none =
    let found = value_is 16 bytes rest v is in
    record { has_text = found.0; text = sym (append-nil (value_text v)) ∙ ap (λ (cs : List ℕ). value_text v ++ cs) (sym none) ∙ sym found.1 }

read_is : (bytes : List ℕ) (v w : Value) (rest : List ℕ) → IsTextOf bytes v → reading bytes ≡ Some (w, rest) → (w ≡ v) × (rest ≡ [])
read_is bytes v w rest h e = both_are w v rest [] (sym e ∙ text_read bytes v h)

pub same_value : (bytes : List ℕ) (v w : Value) (rest : List ℕ) → IsTextOf bytes v → reading bytes ≡ Some (w, rest) → w ≡ v
same_value bytes v w rest h e = (read_is bytes v w rest h e).0

pub nothing_behind : (bytes : List ℕ) (v w : Value) (rest : List ℕ) → IsTextOf bytes v → reading bytes ≡ Some (w, rest) → rest ≡ []
nothing_behind bytes v w rest h e = (read_is bytes v w rest h e).1

pub nothing : (xs : List ℕ) → (length xs == 0) ≡ true → xs ≡ []
nothing [] h = refl
nothing (x ∷ xs) h = absurd (both_ways (length (x ∷ xs) == 0) (not_zero (length (x ∷ xs)) (omega arith)) h)

pub one_value : (bytes : List ℕ) → HasOneValue bytes
one_value bytes v w h k = same_value bytes w v [] k (text_read bytes v h)

-- nothing but want of memory refuses a text
pub not_refused : (bytes : List ℕ) (v : Value) (e : ValueRefusal) → GivesNone e (reading bytes) → IsTextOf bytes v → IsReadAs (Err e) v
not_refused bytes v refusals.Form none h = let some = text_read bytes v h in cc
not_refused bytes v refusals.NoMemory none h = tt
