-- What has been read goes on to a text.
use Rattle.std.proofs.Common.{◌≡◌, ℕ, ◌<◌, List, [], ◌∷◌, ◌++◌, refl, sym, ap, ◌∙◌, subst, append-nil, append_assoc, arith, lit<, true, pos}
use Rattle.std.specs.Prelude.{IsUtf8}
use Rattle.flow_term.specs.declared.term.Term.{Term}
use Rattle.flow_term.specs.declared.term.Kind.{Kind}
use Rattle.flow_term.specs.declared.term.Kind.TheVariants as kind
use Rattle.quoted_text.proofs.Cuts.{with_byte}
use Rattle.aterm_text.specs.declared.open.Open.{Open}
use Rattle.aterm_text.specs.declared.open.Opener.{Opener}
use Rattle.aterm_text.specs.declared.open.Opener.TheVariants.{Call, Tuple, Items, Annotations}
use Rattle.aterm_text.specs.Bytes.{class_of}
use Rattle.aterm_text.specs.Faults.{Begins, IsDue}
use Rattle.aterm_text.specs.Grammar.{term, IsSymbol, IsNumeral, IsTerm, bare, IsBody, symbol, text, number, IsText}
use Rattle.aterm_text.specs.inner.Open.{closing_byte_of}
use Rattle.aterm_text.proofs.Spelled.{Behind, Quoting, Closes, closed_spelled, behind_as, behind_at, closes_with}

-- what begins a text begins one with less
pub begins_less : (p q : List ℕ) → Begins (p ++ q) → Begins p
begins_less p q h = record { more = q ++ h.more; value = h.value; text = subst (λ (xs : List ℕ). IsText xs h.value) (append_assoc p q h.more) h.text }

closing_ascii : (o : Opener) → closing_byte_of o < 128
closing_ascii (Call name) = lit< tt
closing_ascii Tuple = lit< tt
closing_ascii Items = lit< tt
closing_ascii (Annotations k) = lit< tt

-- the term that a closing bracket makes
closed_term : Opener → List Term → Term
closed_term (Call name) ts = term (kind.Apply name ts) []
closed_term Tuple ts = term (kind.Tuple ts) []
closed_term Items ts = term (kind.Items ts) []
closed_term (Annotations k) ts = term k ts

pub as_bare : (k : Kind) (s : List ℕ) → IsBody s k → IsTerm s (term k [])
as_bare k s h = bare k h refl

closed_behind : (opener : Opener) (ts : List Term) (below : List Open) (p : List ℕ) → Closes (record { opener = opener; items = ts }) below p → Behind (λ s. IsTerm s (closed_term opener ts)) below (p ++ closing_byte_of opener ∷ [])
unfolding closed_term
closed_behind (Call name) ts below p h = behind_as (λ s. IsBody s (kind.Apply name ts)) _ (as_bare (kind.Apply name ts)) below _ (closed_spelled (record { opener = Call name; items = ts }) below p h)
closed_behind Tuple ts below p h = behind_as (λ s. IsBody s (kind.Tuple ts)) _ (as_bare (kind.Tuple ts)) below _ (closed_spelled (record { opener = Tuple; items = ts }) below p h)
closed_behind Items ts below p h = behind_as (λ s. IsBody s (kind.Items ts)) _ (as_bare (kind.Items ts)) below _ (closed_spelled (record { opener = Items; items = ts }) below p h)
closed_behind (Annotations k) ts below p h = closed_spelled (record { opener = Annotations k; items = ts }) below p h

-- a whole term: close what is open
pub term_lives : (stack : List Open) (t : Term) (p : List ℕ) → Behind (λ s. IsTerm s t) stack p → IsUtf8 p → Begins p
term_lives [] t p h u = record {
  more = [];
  value = t;
  text = record {
    utf8 = subst IsUtf8 (sym (append-nil p)) u;
    before = h.front;
    spelling = h.spelling;
    behind = h.blank;
    blank_before = h.due;
    spells = h.spells;
    blank_behind = h.blanks;
    whole = append-nil p ∙ h.whole;
  };
}
term_lives (o ∷ below) t p h u =
    begins_less p (closing_byte_of o.opener ∷ [])
    (term_lives below (closed_term o.opener (o.items ++ t ∷ [])) (p ++ closing_byte_of o.opener ∷ []) (closed_behind o.opener (o.items ++ t ∷ []) below p (closes_with o below t p h)) (with_byte p (closing_byte_of o.opener) (closing_ascii o.opener) u))

-- a body
pub body_lives : (stack : List Open) (k : Kind) (p : List ℕ) → Behind (λ s. IsBody s k) stack p → IsUtf8 p → Begins p
body_lives stack k p h u = term_lives stack (term k []) p (behind_as (λ s. IsBody s k) _ (as_bare k) stack p h) u

letter_a : IsSymbol (97 ∷ [])
unfolding class_of
letter_a = (refl, tt)

-- a place where a term is to begin: a symbol
pub due_lives : (stack : List Open) (p : List ℕ) → IsDue stack p → IsUtf8 p → Begins p
due_lives stack p h u =
    begins_less p (97 ∷ [])
    (body_lives stack (kind.Apply (97 ∷ []) []) (p ++ 97 ∷ []) (behind_at (λ s. IsBody s (kind.Apply (97 ∷ []) [])) stack (p ++ 97 ∷ []) p (97 ∷ []) h (symbol letter_a refl) refl) (with_byte p 97 (lit< tt) u))

zero_below : IsNumeral (45 ∷ 48 ∷ []) (pos 0)
unfolding class_of
zero_below = record { negative = true; digits = 48 ∷ []; are_digits = record { digits = (refl, tt); some = omega arith }; value = refl; whole = refl }

-- the sign of a number: a digit
pub minus_lives : (stack : List Open) (p front : List ℕ) → IsDue stack front → p ≡ front ++ 45 ∷ [] → IsUtf8 p → Begins p
minus_lives stack p front h e u =
    begins_less p (48 ∷ [])
    (body_lives stack (kind.Int (pos 0)) (p ++ 48 ∷ [])
    (behind_at (λ s. IsBody s (kind.Int (pos 0))) stack (p ++ 48 ∷ []) front (45 ∷ 48 ∷ []) h (number (pos 0) zero_below (lit< tt) refl) (ap (λ (xs : List ℕ). xs ++ 48 ∷ []) e ∙ append_assoc front (45 ∷ []) (48 ∷ [])))
    (with_byte p 48 (lit< tt) u))

-- the inside of quotes: a closing quote
pub quoting_lives : (stack : List Open) (chars p : List ℕ) → Quoting stack chars p → IsUtf8 p → Begins p
quoting_lives stack chars p h u =
    begins_less p (34 ∷ [])
    (body_lives stack (kind.Str chars) (p ++ 34 ∷ [])
    (behind_at (λ s. IsBody s (kind.Str chars)) stack (p ++ 34 ∷ []) h.front (34 ∷ (h.inside ++ 34 ∷ [])) h.due (text chars (h.inside, h.is_inside, refl) refl) (ap (λ (xs : List ℕ). xs ++ 34 ∷ []) h.whole ∙ append_assoc h.front (34 ∷ h.inside) (34 ∷ [])))
    (with_byte p 34 (lit< tt) u))
