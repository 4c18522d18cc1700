-- The text of a value, and which values have one.
use Rattle.std.specs.Prelude.{ℕ, zero, suc, ◌==◌, if◌then◌else◌, ⊤, List, [], ◌∷◌, ◌++◌, codes, map, All, IsUtf8}
use Rattle.std.specs.Fmt.{signed_decimal}
use Rattle.std.specs.List.{flat_map}
use Rattle.std.specs.List.Sorted.{IsStrictlySortedBy}
use Rattle.flow_term.specs.declared.elem.Elem.{Elem, Elem-F, out-Elem, fold-Elem}
use Rattle.flow_term.specs.declared.value.Entry.{Entry, Entry-F}
use Rattle.flow_term.specs.declared.value.Value.{Value, Value-F, out-Value, fold-Value}
use Rattle.flow_term.specs.Elements.{elem_cmp}
use Rattle.flow_term.specs.Paths.{AreSteps, path_text}
use Rattle.flow_syntax.specs.Accepted.{IsIdentifier}
use Rattle.quoted_text.specs.Spellings.{quoted}
use Rattle.value_text.specs.Integers.{IsI64}

-- -- the texts

-- two texts between parentheses
abbrev pub pair_text : List ℕ → List ℕ → List ℕ
pair_text a b = codes "(" ++ a ++ codes ", " ++ b ++ codes ")"

-- an element, from the texts of its parts
abbrev pub elem_layer_text : Elem-F (List ℕ) → List ℕ
elem_layer_text (Elem-F.Name text) = quoted 34 text
elem_layer_text (Elem-F.Str text) = quoted 39 text
elem_layer_text (Elem-F.Pos path) = path_text path
elem_layer_text (Elem-F.Item text) = text
elem_layer_text (Elem-F.Int number) = signed_decimal number
elem_layer_text (Elem-F.Pair a b) = pair_text a b

-- an element
abbrev pub elem_text : Elem → List ℕ
elem_text = fold-Elem (List ℕ) elem_layer_text

-- texts with commas between them
abbrev pub behind_comma : List ℕ → List ℕ
behind_comma text = codes ", " ++ text

abbrev pub listed : List (List ℕ) → List ℕ
listed [] = []
listed (text ∷ texts) = text ++ flat_map behind_comma texts

-- what stands before a text with so many before it
abbrev pub separator : ℕ → List ℕ
separator n = if n == 0 then [] else codes ", "

-- a value, from the texts of its parts
abbrev pub value_layer_text : Value-F (List ℕ) (List ℕ) → List ℕ
value_layer_text Value-F.Unreached = codes "unreached"
value_layer_text (Value-F.Set elems) = codes "{" ++ listed (map elem_text elems) ++ codes "}"
value_layer_text Value-F.Bottom = codes "bottom"
value_layer_text Value-F.Top = codes "top"
value_layer_text (Value-F.Flat elem) = codes "flat(" ++ elem_text elem ++ codes ")"
value_layer_text (Value-F.Map entries) = codes "[" ++ listed entries ++ codes "]"
value_layer_text (Value-F.Pair a b) = pair_text a b
value_layer_text (Value-F.Item text) = text

-- a key and its value
abbrev pub entry_layer_text : Entry-F (List ℕ) (List ℕ) → List ℕ
entry_layer_text entry = elem_text entry.key ++ codes " |-> " ++ entry.value

-- a value
abbrev pub value_text : Value → List ℕ
value_text = fold-Value (List ℕ) (List ℕ) value_layer_text entry_layer_text

-- an entry of a map
abbrev pub entry_text : Entry → List ℕ
entry_text entry = elem_text entry.key ++ codes " |-> " ++ value_text entry.value

-- -- which have one

-- an item is an identifier, and each part may be written; what texts, positions and integers hold is what their types allow
abbrev pub MayBeWritten : (Elem → Type 0) → Elem-F Elem → Type 0
MayBeWritten Part (Elem-F.Name text) = IsUtf8 text
MayBeWritten Part (Elem-F.Str text) = IsUtf8 text
MayBeWritten Part (Elem-F.Pos path) = AreSteps path
MayBeWritten Part (Elem-F.Item text) = IsIdentifier text
MayBeWritten Part (Elem-F.Int number) = IsI64 number
MayBeWritten Part (Elem-F.Pair a b) = Part a × Part b

-- An element has a text, in which brackets nest at most so deep.
abbrev pub HasElemText : ℕ → Elem → Type 0
HasElemText zero elem = MayBeWritten (λ _. ⊥) (out-Elem elem)
HasElemText (suc n) elem = MayBeWritten (HasElemText n) (out-Elem elem)

-- the keys of entries
abbrev pub keys : List Entry → List Elem
keys entries = map (λ entry. entry.key) entries

-- a value without brackets: an item is an identifier
abbrev pub IsPlain : Value-F Value Entry → Type 0
IsPlain Value-F.Unreached = ⊤
IsPlain Value-F.Bottom = ⊤
IsPlain Value-F.Top = ⊤
IsPlain (Value-F.Item text) = IsIdentifier text
IsPlain _ = ⊥

-- or brackets round parts that may be written: the elements of a set and the keys of a map rise strictly
abbrev pub IsPlainOrAround : (Elem → Type 0) → (Value → Type 0) → Value-F Value Entry → Type 0
IsPlainOrAround IsElem IsPart (Value-F.Set elems) = IsStrictlySortedBy elem_cmp elems × All IsElem elems
IsPlainOrAround IsElem IsPart (Value-F.Flat elem) = IsElem elem
IsPlainOrAround IsElem IsPart (Value-F.Map entries) = IsStrictlySortedBy elem_cmp (keys entries) × All (λ entry. IsElem entry.key × IsPart entry.value) entries
IsPlainOrAround IsElem IsPart (Value-F.Pair a b) = IsPart a × IsPart b
IsPlainOrAround IsElem IsPart layer = IsPlain layer

-- A value has a text, in which brackets nest at most so deep.
abbrev pub HasValueText : ℕ → Value → Type 0
HasValueText zero value = IsPlain (out-Value value)
HasValueText (suc n) value = IsPlainOrAround (HasElemText n) (HasValueText n) (out-Value value)

-- A value has a text: brackets nest at most 16 deep.
abbrev pub HasText : Value → Type 0
HasText value = HasValueText 16 value
