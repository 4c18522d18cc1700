-- What the reader computes: a value and the bytes behind it, or nothing. Of a value it takes the one text.
use Rattle.std.specs.Prelude.{◌≡◌, ℕ, zero, suc, ◌+◌, ◌*◌, ◌^◌, ◌==◌, ◌&&◌, ◌||◌, not, nat_lt, if◌then◌else◌, Bool, false, ℤ, pos, negsuc, List, [], ◌∷◌, ◌++◌, length, take, drop, codes, bytes_eq, Option, Some, None, option_and_then, option_map, Result, Ok, Err}
use Rattle.std.specs.Char.{digit_value, is_ascii_alphabetic, is_ascii_alphanumeric, is_ascii_digit}
use Rattle.std.specs.Fmt.{signed_decimal}
use Rattle.std.specs.List.{prefix_len, list_all, list_any}
use Rattle.std.specs.Cmp.Lexicographic.{pointwise}
use Rattle.std.specs.Str.{all_ascii_digits, is_utf8}
use Rattle.std.specs.Str.Parse.{signed_digits_value, without_leading_sign}
use Rattle.flow_term.specs.declared.elem.Elem.{Elem}
use Rattle.flow_term.specs.declared.elem.Elem.TheVariants as elem
use Rattle.flow_term.specs.declared.value.Entry.{Entry}
use Rattle.flow_term.specs.declared.value.Value.{Value}
use Rattle.flow_term.specs.declared.value.Value.TheVariants as value
use Rattle.flow_term.specs.declared.path_text.PathRefusal.{PathRefusal}
use Rattle.flow_term.specs.declared.path_text.PathRefusal.TheVariants as paths
use Rattle.flow_term.specs.Paths.{path_text}
use Rattle.flow_syntax.specs.Tokens.{is_name_byte, reserved_words}
use Rattle.quoted_text.specs.Escapes.{octal_byte, short_escape}
use Rattle.quoted_text.specs.Spellings.{byte_text}
use Rattle.value_text.specs.declared.refusal.ValueRefusal.{ValueRefusal}
use Rattle.value_text.specs.declared.refusal.ValueRefusal.TheVariants.{Form, NoMemory}
use Rattle.value_text.specs.Rising.{rises}
use Rattle.value_text.specs.Texts.{keys}

-- -- answers

abbrev pub Reading : Type 0 → Type 0
Reading X = Option (X × List ℕ)

abbrev pub GivesNone : {Y : Type 0} → ValueRefusal → Option Y → Type 0
GivesNone Form o = o ≡ None
GivesNone NoMemory o = Unit {0}

-- the value, or `Form` where there is none, unless memory ran out
abbrev pub Gives : {X Y : Type 0} → (X → Y) → Result X ValueRefusal → Option Y → Type 0
Gives view (Ok x) o = o ≡ Some (view x)
Gives view (Err e) o = GivesNone e o

-- the refusal of a value for a refusal of a path in it
abbrev pub IsOfPath : PathRefusal → ValueRefusal → Type 0
IsOfPath paths.Form e = e ≡ Form
IsOfPath paths.NoMemory e = e ≡ NoMemory

infixl 10 ◌>>=◌
abbrev pub ◌>>=◌ : {A B : Type 0} → Option A → (A → Option B) → Option B
o >>= f = option_and_then f o

-- what was read, as a part of something else
abbrev pub as_part : {X Y : Type 0} → (X → Y) → Reading X → Reading Y
as_part f o = o >>= λ x. Some (f x.0, x.1)

-- -- bytes

abbrev pub begins_with : ℕ → List ℕ → Bool
begins_with b [] = false
begins_with b (c ∷ cs) = c == b

-- what stands behind a text, where the bytes begin with it
abbrev pub behind : List ℕ → List ℕ → Option (List ℕ)
behind text bs = if pointwise ◌==◌ (take (length text) bs) text then Some (drop (length text) bs) else None

-- what stands behind a thing in a list up to this byte: the byte itself, or the next thing behind a comma and a blank
abbrev pub next_part : ℕ → List ℕ → Option (List ℕ)
next_part closing bs = if begins_with closing bs then Some bs else (behind (codes ", ") bs >>= λ r. if begins_with closing r then None else Some r)

-- things up to this byte, each shorter than what it stands in, at most so many
unfoldable pub until : {X : Type 0} → ℕ → (List ℕ → Reading X) → ℕ → List ℕ → Reading (List X)
until closing read zero bs = None
until closing read (suc n) bs = if begins_with closing bs then Some ([], drop 1 bs)
    else (read bs >>= λ x. if nat_lt (length x.1) (length bs) then (until closing read n x.1 >>= λ xs. Some (x.0 ∷ xs.0, xs.1)) else None)

-- things up to this byte, and what stands behind it
abbrev pub all_until : {X : Type 0} → ℕ → (List ℕ → Reading X) → List ℕ → Reading (List X)
all_until closing read bs = until closing read (suc (length bs)) bs

-- more things behind those that were read before
abbrev pub continued : {X : Type 0} → List X → Reading (List X) → Reading (List X)
continued before more = more >>= λ xs. Some (before ++ xs.0, xs.1)

-- -- tokens

-- a letter, a digit, `_`, `/` or `-`
abbrev pub is_token_byte : ℕ → Bool
is_token_byte b = is_ascii_alphanumeric b || (b == 95) || (b == 47) || (b == 45)

abbrev pub token_len : List ℕ → ℕ
token_len bs = prefix_len is_token_byte bs

-- the longest front of such bytes, if it's not empty
abbrev pub token_of : List ℕ → Reading (List ℕ)
token_of bs = if token_len bs == 0 then None else Some (take (token_len bs) bs, drop (token_len bs) bs)

abbrev pub text_of : List ℕ → Option (List ℕ)
text_of bs = if is_utf8 bs then Some bs else None

-- -- between quotes

-- the byte that three octal digits stand for
abbrev pub octal_at : List ℕ → Reading ℕ
octal_at (h ∷ m ∷ l ∷ rest) = option_map (λ b. (b, rest)) (octal_byte h m l)
octal_at _ = None

-- what begins with no short escape: three octal digits, or a byte that stands for itself
abbrev pub long_of : List ℕ → Reading ℕ
long_of [] = None
long_of (b ∷ rest) = if is_ascii_digit b then octal_at (b ∷ rest) else Some (b, rest)

-- the same, from what the first byte stands for by itself
abbrev pub escape_from : Option ℕ → List ℕ → Reading ℕ
escape_from (Some c) bs = Some (c, drop 1 bs)
escape_from None bs = long_of bs

-- the byte that stands behind a backslash, or that it stands for
abbrev pub escape_of : List ℕ → Reading ℕ
escape_of [] = None
escape_of (b ∷ rest) = escape_from (short_escape b) (b ∷ rest)

abbrev pub spelled : List ℕ → Reading ℕ
spelled [] = None
spelled (b ∷ rest) = if b == 92 then escape_of rest else Some (b, rest)

-- the byte whose text between quotes of this kind stands in front
abbrev pub part_of : ℕ → List ℕ → Reading ℕ
part_of quote bs = spelled bs >>= λ x. behind (byte_text quote x.0) bs >>= λ r. Some (x.0, r)

-- the text up to a quote of this kind
unfoldable pub quoted_of : ℕ → List ℕ → Reading (List ℕ)
quoted_of quote bs = all_until quote (part_of quote) bs >>= λ x. text_of x.0 >>= λ text. Some (text, x.1)

-- -- identifiers

-- an identifier: a letter in front of letters, digits and `_`, and no reserved word
abbrev pub is_item : List ℕ → Bool
is_item [] = false
is_item (b ∷ bs) = is_ascii_alphabetic b && (list_all is_name_byte bs && not (list_any (λ w. bytes_eq w (b ∷ bs)) reserved_words))

unfoldable pub item_of : List ℕ → Option (List ℕ)
item_of bs = text_of bs >>= λ text. if is_item text then Some text else None

-- -- integers and paths

-- below 2^63, or not below -2^63
abbrev pub is_i64 : ℤ → Bool
is_i64 (pos n) = nat_lt n (2 ^ 63)
is_i64 (negsuc n) = nat_lt n (2 ^ 63)

-- one digit or more
abbrev pub is_numeral : List ℕ → Bool
is_numeral bs = nat_lt 0 (length bs) && all_ascii_digits bs

-- the integer of a sign and digits
abbrev pub number_in : List ℕ → Option ℤ
number_in bs = if is_numeral (without_leading_sign bs) && is_i64 (signed_digits_value 10 bs) then Some (signed_digits_value 10 bs) else None

unfoldable pub integer_of : List ℕ → Option ℤ
integer_of bs = if is_utf8 bs then number_in bs else None

-- the integer that these bytes are the decimal of
unfoldable pub decimal_of : List ℕ → Option ℤ
decimal_of bs = integer_of bs >>= λ z. if bytes_eq (signed_decimal z) bs then Some z else None

-- the numbers that digits and the slashes between them write, the first after n
abbrev pub steps_after : ℕ → List ℕ → List ℕ
steps_after n [] = n ∷ []
steps_after n (b ∷ bs) = if b == 47 then n ∷ steps_after 0 bs else steps_after (n * 10 + digit_value b) bs

abbrev pub steps_behind : List ℕ → List ℕ
steps_behind [] = []
steps_behind (b ∷ bs) = steps_after 0 (b ∷ bs)

-- these steps, if they are a path of this text
abbrev pub path_if : List ℕ → List ℕ → Option (List ℕ)
path_if bs path = if bytes_eq (path_text path) bs && list_all (λ n. nat_lt n (2 ^ 32)) path then Some path else None

-- the path of a text
unfoldable pub path_of : List ℕ → Option (List ℕ)
path_of bs = path_if bs (steps_behind (drop 1 bs))

-- -- elements

unfoldable pub pair_with : {X : Type 0} → (X → X → X) → (List ℕ → Reading X) → List ℕ → Reading X
pair_with pair part bs = part bs >>= λ a. behind (codes ", ") a.1 >>= λ r. part r >>= λ b. behind (codes ")") b.1 >>= λ s. Some (pair a.0 b.0, s)

-- the elements that one token is
abbrev pub begins_integer : List ℕ → Bool
begins_integer [] = false
begins_integer (b ∷ bs) = b == 45 || is_ascii_digit b

abbrev pub token_elem : List ℕ → Option Elem
token_elem token = if begins_with 47 token then option_map elem.Pos (path_of token)
    else (if begins_integer token then option_map elem.Int (decimal_of token) else option_map elem.Item (item_of token))

unfoldable pub plain_elem : List ℕ → Reading Elem
plain_elem bs = token_of bs >>= λ t. token_elem t.0 >>= λ e. Some (e, t.1)

-- an element, from a reader of its parts
unfoldable pub elem_with : (List ℕ → Reading Elem) → List ℕ → Reading Elem
elem_with part bs = if begins_with 34 bs then as_part elem.Name (quoted_of 34 (drop 1 bs))
    else (if begins_with 39 bs then as_part elem.Str (quoted_of 39 (drop 1 bs))
    else (if begins_with 40 bs then pair_with elem.Pair part (drop 1 bs) else plain_elem bs))

-- an element inside so many pairs of brackets less one
abbrev pub elem_below : ℕ → List ℕ → Reading Elem
elem_below zero bs = None
elem_below (suc n) bs = elem_with (elem_below n) bs

-- -- values

-- a thing in a list up to this byte, and what parts it from the next
abbrev pub listed_part : {X : Type 0} → ℕ → (List ℕ → Reading X) → List ℕ → Reading X
listed_part closing read bs = read bs >>= λ x. next_part closing x.1 >>= λ r. Some (x.0, r)

-- things up to this byte with commas between them, and what stands behind it
abbrev pub all_listed : {X : Type 0} → ℕ → (List ℕ → Reading X) → List ℕ → Reading (List X)
all_listed closing read bs = all_until closing (listed_part closing read) bs

unfoldable pub entry_with : (List ℕ → Reading Elem) → (List ℕ → Reading Value) → List ℕ → Reading Entry
entry_with elem value bs = elem bs >>= λ k. behind (codes " |-> ") k.1 >>= λ r. value r >>= λ v. Some (record { key = k.0; value = v.0 }, v.1)

unfoldable pub flat_with : (List ℕ → Reading Elem) → List ℕ → Reading Value
flat_with elem bs = behind (codes "(") bs >>= λ r. elem r >>= λ e. behind (codes ")") e.1 >>= λ s. Some (value.Flat e.0, s)

-- the value that begins with a word
abbrev pub word_with : (List ℕ → Reading Elem) → List ℕ → List ℕ → Reading Value
word_with elem word rest = if bytes_eq word (codes "unreached") then Some (value.Unreached, rest)
    else (if bytes_eq word (codes "bottom") then Some (value.Bottom, rest)
    else (if bytes_eq word (codes "top") then Some (value.Top, rest)
    else (if bytes_eq word (codes "flat") then flat_with elem rest else (item_of word >>= λ text. Some (value.Item text, rest)))))

unfoldable pub plain_value : (List ℕ → Reading Elem) → List ℕ → Reading Value
plain_value elem bs = token_of bs >>= λ t. word_with elem t.0 t.1

-- a set or a map of things that rise, behind its opening bracket, where brackets may nest so deep
unfoldable pub set_with : ℕ → (List ℕ → Reading Elem) → List ℕ → Reading Value
set_with n elem bs = if n == 0 then None else (all_listed 125 elem bs >>= λ x. if rises x.0 then Some (value.Set x.0, x.1) else None)

unfoldable pub map_with : ℕ → (List ℕ → Reading Elem) → (List ℕ → Reading Value) → List ℕ → Reading Value
map_with n elem part bs = if n == 0 then None else (all_listed 93 (entry_with elem part) bs >>= λ x. if rises (keys x.0) then Some (value.Map x.0, x.1) else None)

-- a value in which brackets may nest so deep, from readers of its parts
unfoldable pub value_with : ℕ → (List ℕ → Reading Elem) → (List ℕ → Reading Value) → List ℕ → Reading Value
value_with n elem part bs = if begins_with 123 bs then set_with n elem (drop 1 bs)
    else (if begins_with 91 bs then map_with n elem part (drop 1 bs)
    else (if begins_with 40 bs then pair_with value.Pair part (drop 1 bs) else plain_value elem bs))

-- a value inside so many pairs of brackets less one
abbrev pub value_below : ℕ → List ℕ → Reading Value
value_below zero bs = None
value_below (suc n) bs = value_with n (elem_below n) (value_below n) bs
