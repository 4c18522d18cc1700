-- The one written form of a term.
use Rattle.std.specs.Prelude.{ℕ, Bool, true, false, ◌==◌, ◌&&◌, List, [], ◌∷◌, ◌++◌, IsUtf8, if◌then◌else◌}
use Rattle.std.specs.Fmt.{signed_decimal}
use Rattle.std.specs.List.{flat_map, list_all}
use Rattle.flow_term.specs.declared.term.Term.{Term, Term-F, fold-Term}
use Rattle.flow_term.specs.declared.term.Kind.{Kind, fold-Kind}
use Rattle.flow_term.specs.declared.term.Kind.TheOpen.{Kind-F}
use Rattle.quoted_text.specs.Spellings.{quoted}
use Rattle.aterm_text.specs.declared.class.ByteClass.{ByteClass}
use Rattle.aterm_text.specs.declared.class.ByteClass.TheVariants.{Letter}
use Rattle.aterm_text.specs.Bytes.{class_of, is_in_symbol}
use Rattle.aterm_text.specs.Grammar.{IsTerm, IsBody}

-- a letter or `_`, and then letters, `_`, digits and signs
abbrev pub is_letter_class : ByteClass → Bool
is_letter_class Letter = true
is_letter_class _ = false

abbrev pub may_go_on : ℕ → Bool
may_go_on c = is_in_symbol (class_of c)

abbrev pub is_symbol : List ℕ → Bool
is_symbol [] = false
is_symbol (c ∷ cs) = is_letter_class (class_of c) && list_all may_go_on cs

-- a name: plainly where it is a symbol, and else between quotes
abbrev pub name_text : List ℕ → List ℕ
name_text name = if is_symbol name then name else quoted 34 name

-- what stands before an item with so many before it
abbrev pub separator : ℕ → List ℕ
separator n = if n == 0 then [] else 44 ∷ []

-- texts with commas between them
abbrev pub behind_comma : List ℕ → List ℕ
behind_comma text = 44 ∷ text

abbrev pub listed : List (List ℕ) → List ℕ
listed [] = []
listed (text ∷ texts) = text ++ flat_map behind_comma texts

-- texts between brackets
abbrev pub bracketed : ℕ → List (List ℕ) → ℕ → List ℕ
bracketed opening texts closing = opening ∷ (listed texts ++ closing ∷ [])

-- annotations, where there are any
abbrev pub annotations_text : List (List ℕ) → List ℕ
annotations_text [] = []
annotations_text (text ∷ texts) = bracketed 123 (text ∷ texts) 125

-- a term without its annotations, from the texts of its parts
abbrev pub body_text : {K : Type 0} → Kind-F K (List ℕ) → List ℕ
body_text (Kind-F.Apply name args) = name_text name ++ bracketed 40 args 41
body_text (Kind-F.Tuple terms) = bracketed 40 terms 41
body_text (Kind-F.Items terms) = bracketed 91 terms 93
body_text (Kind-F.Int n) = signed_decimal n
body_text (Kind-F.Str text) = quoted 34 text

-- a kind, and a term
abbrev term_text : Term-F (List ℕ) (List ℕ) → List ℕ
term_text t = t.kind ++ annotations_text t.annos

abbrev pub kind_written : Kind → List ℕ
kind_written = fold-Kind (List ℕ) (List ℕ) body_text term_text

abbrev pub written : Term → List ℕ
written = fold-Term (List ℕ) (List ℕ) body_text term_text

-- The written form of the term is a text of it.
pub record ReadsBack (t : Term) : Type 0 where
  pub spells : IsTerm (written t) t
  pub utf8 : IsUtf8 (written t)

-- likewise of a kind
pub record KindReadsBack (k : Kind) : Type 0 where
  pub spells : IsBody (kind_written k) k
  pub utf8 : IsUtf8 (kind_written k)
