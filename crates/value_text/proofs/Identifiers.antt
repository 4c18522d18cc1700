-- Which bytes are an identifier.
use Rattle.std.proofs.Common.{◌≡◌, ◌↔◌, ℕ, Bool, true, false, ◌&&◌, List, [], ◌∷◌, Some, None, refl, subst}
use Rattle.std.specs.Prelude.{bytes_eq, not}
use Rattle.std.specs.Char.{is_ascii_alphabetic}
use Rattle.std.specs.List.{list_all, list_any}
use Rattle.std.proofs.lemmas.Bool.{and_parts, both_ways}
use Rattle.std.proofs.lemmas.Bool.Decides.{same_from_decides}
use Rattle.flow_syntax.specs.Accepted.{IsIdentifier}
use Rattle.flow_syntax.specs.Tokens.{is_name_byte, reserved_words}
use Rattle.flow_syntax.proofs.Fronts.{any_found, found_any}
use Rattle.value_text.specs.inner.Reading.{is_item, item_of, text_of}
use Rattle.value_text.proofs.Told.{bound, not_holds, not_told, one_is, passed}
use Rattle.value_text.proofs.Numbers.{both}
use Rattle.value_text.proofs.Tokens.{text_is}

abbrev is_word : List ℕ → Bool
is_word text = list_any (λ w. bytes_eq w text) reserved_words

holds : (text : List ℕ) → IsIdentifier text → is_item text ≡ true
holds [] h = absurd h.0
holds (c ∷ cs) h =
    both (is_ascii_alphabetic c) (list_all is_name_byte cs && not (is_word (c ∷ cs))) h.0.0
    (both (list_all is_name_byte cs) (not (is_word (c ∷ cs))) h.0.1 (not_holds (is_word (c ∷ cs)) (λ e. h.1 (any_found reserved_words (c ∷ cs) e))))

told : (text : List ℕ) → is_item text ≡ true → IsIdentifier text
told [] h = absurd cc
told (c ∷ cs) h =
    let p = and_parts (is_ascii_alphabetic c) (list_all is_name_byte cs && not (is_word (c ∷ cs))) h in
    let q = and_parts (list_all is_name_byte cs) (not (is_word (c ∷ cs))) p.1 in
    ((p.0, q.0), λ k. both_ways (is_word (c ∷ cs)) (not_told (is_word (c ∷ cs)) q.1) (found_any reserved_words (c ∷ cs) k))

-- an identifier is read
pub item_read_of : (bs : List ℕ) → text_of bs ≡ Some bs → IsIdentifier bs → item_of bs ≡ Some bs
unfolding item_of
item_read_of bs e h = rw (e, holds bs h) refl

-- and nothing else
pub item_is : (bs text : List ℕ) → item_of bs ≡ Some text → IsIdentifier text × (bs ≡ text)
unfolding item_of
item_is bs text e =
    let p = bound (text_of bs) _ text e in
    let q = passed (is_item p.0) (Some p.0) text p.2 in
    let is = one_is p.0 text q.1 in
    let t = text_is bs p.0 p.1 in
    (subst IsIdentifier is (told p.0 q.0), subst (λ x. bs ≡ x) is t.1)

tested : (text : List ℕ) (r : Bool) → (r ≡ true) ↔ IsIdentifier text → is_item text ≡ r
tested text r h = same_from_decides (is_item text) r (told text, holds text) h

-- as it is tested
pub item_found : (bs text : List ℕ) (r : Bool) → text_of bs ≡ Some text → (r ≡ true) ↔ IsIdentifier text → r ≡ true → item_of bs ≡ Some text
unfolding item_of
item_found bs text r e h is = rw (e, tested text r h, is) refl

pub item_refused : (bs text : List ℕ) (r : Bool) → text_of bs ≡ Some text → (r ≡ true) ↔ IsIdentifier text → r ≡ false → item_of bs ≡ None
unfolding item_of
item_refused bs text r e h is = rw (e, tested text r h, is) refl
