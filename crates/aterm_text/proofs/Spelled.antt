-- What the states of reading stand for: which bytes have been read, and how deep and large what is open is.
use Rattle.std.proofs.Common.{◌≡◌, ℕ, ◌+◌, ◌-◌, ◌*◌, ◌≤◌, ◌^◌, List, [], ◌∷◌, ◌++◌, length, refl, sym, ap, ◌∙◌, subst, append-nil, append_assoc, arith}
use Rattle.std.specs.Prelude.{IsTrue, sum_by}
use Rattle.flow_term.specs.Trees.{term_size, term_depth, deepest}
use Rattle.flow_term.specs.declared.term.Term.{Term}
use Rattle.flow_term.specs.declared.term.Kind.{Kind}
use Rattle.flow_term.specs.declared.term.Kind.TheVariants as kind
use Rattle.quoted_text.specs.Escapes.{is_low_octal, is_octal}
use Rattle.quoted_text.specs.Quotes.{IsInside, IsQuoted}
use Rattle.aterm_text.specs.declared.class.ByteClass.TheVariants.{Blank}
use Rattle.aterm_text.specs.declared.number.Number.{Number}
use Rattle.aterm_text.specs.declared.open.Open.{Open}
use Rattle.aterm_text.specs.declared.open.Opener.{Opener}
use Rattle.aterm_text.specs.declared.open.Opener.TheVariants.{Call, Tuple, Items, Annotations}
use Rattle.aterm_text.specs.declared.reader.state.Escape.{Escape}
use Rattle.aterm_text.specs.declared.reader.state.Last.{Last}
use Rattle.aterm_text.specs.declared.reader.state.Last.TheVariants as last
use Rattle.aterm_text.specs.Bytes.{class_of}
use Rattle.aterm_text.specs.Faults.{IsHead, AreFollowed, no_item, item, IsDue, begun_in}
use Rattle.aterm_text.specs.Grammar.{term, IsBlank, IsSymbol, IsDigits, number_of, sign_text, IsTerm, annotated, IsBody, application, tuple, items, AreTerms, some, AreItems, single, further}
use Rattle.aterm_text.specs.inner.Machine.{closed_as}
use Rattle.aterm_text.specs.inner.Open.{closing_byte_of, with_item}
use Rattle.aterm_text.proofs.Sizes.{parts_of, size_term, depth_term, parts_apply, parts_tuple, parts_items}
use Rattle.aterm_text.proofs.Runs.{NumberIs}
use Rattle.aterm_text.proofs.Complete.{body_size}

-- something and blanks stand where a term was to begin
pub record Behind (R : List ℕ → Type 0) (stack : List Open) (p : List ℕ) : Type 0 where
  pub front : List ℕ
  pub spelling : List ℕ
  pub blank : List ℕ
  pub due : IsDue stack front
  pub spells : R spelling
  pub blanks : IsBlank blank
  pub whole : p ≡ front ++ (spelling ++ blank)

-- a term is to begin right behind the innermost bracket
abbrev pub AtHead : List Open → List ℕ → Type 0
AtHead [] p = ⊥
AtHead (o ∷ below) p = (front head blank : List ℕ) × IsDue below front × IsHead o.opener head × IsBlank blank × (o.items ≡ []) × (p ≡ front ++ (head ++ blank))

-- a quote stands where a term was to begin, and these bytes behind it
pub record Quoting (stack : List Open) (chars p : List ℕ) : Type 0 where
  pub front : List ℕ
  pub inside : List ℕ
  pub due : IsDue stack front
  pub is_inside : IsInside inside chars
  pub whole : p ≡ front ++ 34 ∷ inside

-- a backslash stands there, and these bytes behind it
pub record Escaping (stack : List Open) (e : Escape) (tail p : List ℕ) : Type 0 where
  pub outside : List ℕ
  pub quoting : Quoting stack e.chars outside
  pub place : e.start ≡ length outside
  pub whole : p ≡ outside ++ 92 ∷ tail

-- a number stands where a term was to begin
pub record NumberAt (n : Number) (stack : List Open) (p : List ℕ) : Type 0 where
  pub front : List ℕ
  pub digits : List ℕ
  pub due : IsDue stack front
  pub are_digits : IsDigits digits
  pub is : NumberIs n n.negative (number_of digits) (length front)
  pub whole : p ≡ front ++ (sign_text n.negative ++ digits)

-- the bytes that have been read
abbrev pub Spelled : Last → List Open → List ℕ → Type 0
Spelled last.Start stack p = IsDue stack p
Spelled last.Opening stack p = AtHead stack p
Spelled (last.Symbol name) stack p = (front : List ℕ) × IsDue stack front × IsSymbol name × (p ≡ front ++ name)
Spelled (last.Name name) stack p = Behind (λ s. (s ≡ name) × IsSymbol name) stack p
Spelled (last.Inside chars) stack p = Quoting stack chars p
Spelled (last.Backslash e) stack p = Escaping stack e [] p
Spelled (last.OneOctal e value) stack p = (a : ℕ) × IsTrue (is_low_octal a) × (value ≡ a - 48) × Escaping stack e (a ∷ []) p
Spelled (last.TwoOctals e value) stack p = (a b : ℕ) × IsTrue (is_low_octal a) × IsTrue (is_octal b) × (value ≡ (a - 48) * 8 + (b - 48)) × Escaping stack e (a ∷ b ∷ []) p
Spelled (last.Quoted chars) stack p = Behind (λ s. IsQuoted s chars) stack p
Spelled (last.Minus start) stack p = (front : List ℕ) × IsDue stack front × (start ≡ length front) × (p ≡ front ++ 45 ∷ [])
Spelled (last.Number n) stack p = NumberAt n stack p
Spelled (last.Body k) stack p = Behind (λ s. IsBody s k) stack p
Spelled (last.Whole t) stack p = Behind (λ s. IsTerm s t) stack p

-- how deep and how large what was read last is
abbrev pub last_depth : Last → ℕ
last_depth last.Start = 0
last_depth last.Opening = 0
last_depth (last.Body k) = 1 + deepest (parts_of k)
last_depth (last.Whole t) = term_depth t
last_depth _ = 1

abbrev pub last_size : Last → ℕ
last_size last.Start = 0
last_size last.Opening = 0
last_size (last.Body k) = body_size k
last_size (last.Whole t) = term_size t
last_size _ = 1

-- how deep the body is whose annotations are open
abbrev pub opener_depth : Opener → ℕ
opener_depth (Annotations k) = deepest (parts_of k)
opener_depth _ = 0

-- what is open is within the limit of depth
abbrev pub Shallow : List Open → Type 0
Shallow [] = Unit {0}
Shallow (o ∷ below) = (length below + 1 + opener_depth o.opener ≤ 512) × (length below + 1 + deepest o.items ≤ 512) × Shallow below

-- the limits are kept, and the terms are counted
pub record Fits (stack : List Open) (begun depth size : ℕ) : Type 0 where
  pub shallow : Shallow stack
  pub deep : length stack + depth ≤ 512
  pub counted : begun ≡ begun_in stack + size
  pub few : begun ≤ 2 ^ 20

pub record Means (stack : List Open) (begun : ℕ) (l : Last) (p : List ℕ) : Type 0 where
  pub spelled : Spelled l stack p
  pub fits : Fits stack begun (last_depth l) (last_size l)

pub fits_as : (stack : List Open) (begun d n e m : ℕ) → d ≡ e → n ≡ m → Fits stack begun d n → Fits stack begun e m
fits_as stack begun d n e m x y h = record { shallow = h.shallow; deep = omega (arith, h.deep); counted = omega (arith, h.counted); few = h.few }

-- ** blanks

pub blank_more : (p : List ℕ) (c : ℕ) → IsBlank p → class_of c ≡ Blank → IsBlank (p ++ c ∷ [])
blank_more [] c h k = (k, tt)
blank_more (d ∷ p) c h k = (h.0, blank_more p c h.1 k)

blank_append : (p q : List ℕ) → IsBlank p → IsBlank q → IsBlank (p ++ q)
blank_append [] q h k = k
blank_append (c ∷ p) q h k = (h.0, blank_append p q h.1 k)

pub followed_blank : (ts : List Term) (bytes : List ℕ) (c : ℕ) → class_of c ≡ Blank → AreFollowed ts bytes → AreFollowed ts (bytes ++ c ∷ [])
followed_blank ts bytes c is (no_item e h) = no_item e (blank_more bytes c h is)
followed_blank ts bytes c is (item us t inside spelling behind blank i s b k e f) =
    item us t inside spelling behind (blank ++ c ∷ []) i s b (blank_more blank c k is) e (ap (λ (xs : List ℕ). xs ++ c ∷ []) f ∙ simp append_assoc)

pub due_blank : (stack : List Open) (p : List ℕ) (c : ℕ) → class_of c ≡ Blank → IsDue stack p → IsDue stack (p ++ c ∷ [])
due_blank [] p c is h = blank_more p c h is
due_blank (o ∷ below) p c is h =
    (h.0, h.1, h.2 ++ c ∷ [], h.3, h.4, followed_blank o.items h.2 c is h.5, ap (λ (xs : List ℕ). xs ++ c ∷ []) h.6 ∙ simp append_assoc)

pub head_due : (stack : List Open) (p : List ℕ) → AtHead stack p → IsDue stack p
head_due [] p h = absurd h
head_due (o ∷ below) p h = (h.0, h.1, h.2, h.3, h.4, no_item h.6 h.5, h.7)

pub head_blank : (stack : List Open) (p : List ℕ) (c : ℕ) → class_of c ≡ Blank → AtHead stack p → AtHead stack (p ++ c ∷ [])
head_blank [] p c is h = absurd h
head_blank (o ∷ below) p c is h = (h.0, h.1, h.2 ++ c ∷ [], h.3, h.4, blank_more h.2 c h.5 is, h.6, ap (λ (xs : List ℕ). xs ++ c ∷ []) h.7 ∙ simp append_assoc)

pub behind_blank : (R : List ℕ → Type 0) (stack : List Open) (p : List ℕ) (c : ℕ) → class_of c ≡ Blank → Behind R stack p → Behind R stack (p ++ c ∷ [])
behind_blank R stack p c is h = record {
  front = h.front;
  spelling = h.spelling;
  blank = h.blank ++ c ∷ [];
  due = h.due;
  spells = h.spells;
  blanks = blank_more h.blank c h.blanks is;
  whole = ap (λ (xs : List ℕ). xs ++ c ∷ []) h.whole ∙ simp append_assoc;
}

-- something of one sort is of another
pub behind_as : (R S : List ℕ → Type 0) → ((s : List ℕ) → R s → S s) → (stack : List Open) (p : List ℕ) → Behind R stack p → Behind S stack p
behind_as R S f stack p h = record { front = h.front; spelling = h.spelling; blank = h.blank; due = h.due; spells = f h.spelling h.spells; blanks = h.blanks; whole = h.whole }

-- something with no blanks yet
pub behind_at : (R : List ℕ → Type 0) (stack : List Open) (p front spelling : List ℕ) → IsDue stack front → R spelling → p ≡ front ++ spelling → Behind R stack p
behind_at R stack p front spelling due spells e = record { front = front; spelling = spelling; blank = []; due = due; spells = spells; blanks = tt; whole = e ∙ ap (λ (xs : List ℕ). front ++ xs) (sym (append-nil spelling)) }

-- ** items

items_blank : (blank rest : List ℕ) (ts : List Term) → IsBlank blank → AreItems rest ts → AreItems (blank ++ rest) ts
items_blank blank rest ts h (single before spelling behind t b s k e f) =
    single (blank ++ before) spelling behind t (blank_append blank before h b) s k e (ap (λ (xs : List ℕ). blank ++ xs) f ∙ simp append_assoc)
items_blank blank rest ts h (further before spelling behind others t us b s k later e f) =
    further (blank ++ before) spelling behind others t us (blank_append blank before h b) s k later e (ap (λ (xs : List ℕ). blank ++ xs) f ∙ simp append_assoc)

-- the items so far and the last ones
followed_items : (ts : List Term) (bytes : List ℕ) → AreFollowed ts bytes → (rest : List ℕ) (others : List Term) → AreItems rest others → AreItems (bytes ++ rest) (ts ++ others)
followed_items ts bytes (no_item e h) rest others later = subst (λ (us : List Term). AreItems (bytes ++ rest) (us ++ others)) (sym e) (items_blank bytes rest others h later)
followed_items ts bytes (item us t inside spelling behind blank i s b k e f) rest others later =
    let last_ones : AreItems (spelling ++ (behind ++ 44 ∷ (blank ++ rest))) (t ∷ others) =
    further [] spelling behind (blank ++ rest) t others tt s b (items_blank blank rest others k later) refl refl in
    subst (λ (xs : List ℕ). AreItems xs (ts ++ others)) (sym (ap (λ (xs : List ℕ). xs ++ rest) f ∙ simp append_assoc))
    (subst (λ (vs : List Term). AreItems (inside ++ (spelling ++ (behind ++ 44 ∷ (blank ++ rest)))) vs) (sym (ap (λ (vs : List Term). vs ++ others) e ∙ append_assoc us (t ∷ []) others))
    (followed_items us inside i (spelling ++ (behind ++ 44 ∷ (blank ++ rest))) (t ∷ others) last_ones))

-- the items so far and one more
with_last : (ts : List Term) (bytes : List ℕ) (t : Term) (spelling blank : List ℕ) → AreFollowed ts bytes → IsTerm spelling t → IsBlank blank → AreTerms (bytes ++ (spelling ++ blank)) (ts ++ t ∷ [])
with_last ts bytes t spelling blank h s b = some (followed_items ts bytes h (spelling ++ blank) (t ∷ []) (single [] spelling blank t tt s b refl refl))

-- ** closing brackets

-- a closing bracket stands behind the bytes of a head and of terms
pub record Closes (o : Open) (below : List Open) (p : List ℕ) : Type 0 where
  pub front : List ℕ
  pub head : List ℕ
  pub inside : List ℕ
  pub due : IsDue below front
  pub is_head : IsHead o.opener head
  pub terms : AreTerms inside o.items
  pub whole : p ≡ front ++ (head ++ inside)

-- likewise where one more term stands behind them
pub closes_with : (o : Open) (below : List Open) (t : Term) (p : List ℕ) → Behind (λ s. IsTerm s t) (o ∷ below) p → Closes (with_item o t) below p
closes_with o below t p b =
    let s : IsDue (o ∷ below) b.front = b.due in
    record {
      front = s.0;
      head = s.1;
      inside = s.2 ++ (b.spelling ++ b.blank);
      due = s.3;
      is_head = s.4;
      terms = with_last o.items s.2 t b.spelling b.blank s.5 b.spells b.blanks;
      whole = b.whole ∙ ap (λ (xs : List ℕ). xs ++ (b.spelling ++ b.blank)) s.6 ∙ simp append_assoc;
    }

closed_behind : (R : List ℕ → Type 0) (o : Open) (below : List Open) (p : List ℕ) (c : ℕ) (h : Closes o below p) → R (h.head ++ (h.inside ++ c ∷ [])) → Behind R below (p ++ c ∷ [])
closed_behind R o below p c h r = record {
  front = h.front;
  spelling = h.head ++ (h.inside ++ c ∷ []);
  blank = [];
  due = h.due;
  spells = r;
  blanks = tt;
  whole = ap (λ (xs : List ℕ). xs ++ c ∷ []) h.whole ∙ simp (append_assoc, append-nil);
}

closed_at : (opener : Opener) (ts : List Term) (below : List Open) (p : List ℕ) → Closes (record { opener = opener; items = ts }) below p
    → Spelled (closed_as opener ts) below (p ++ closing_byte_of opener ∷ [])
closed_at (Call name) ts below p h = closed_behind (λ s. IsBody s (kind.Apply name ts)) _ below p 41 h
    (application h.is_head.0 name h.is_head.1 h.inside ts h.is_head.2 h.is_head.3 h.terms refl (ap (λ (xs : List ℕ). xs ++ (h.inside ++ 41 ∷ [])) h.is_head.4 ∙ simp append_assoc))
closed_at Tuple ts below p h = closed_behind (λ s. IsBody s (kind.Tuple ts)) _ below p 41 h (tuple h.inside ts h.terms refl (ap (λ (xs : List ℕ). xs ++ (h.inside ++ 41 ∷ [])) h.is_head))
closed_at Items ts below p h = closed_behind (λ s. IsBody s (kind.Items ts)) _ below p 93 h (items h.inside ts h.terms refl (ap (λ (xs : List ℕ). xs ++ (h.inside ++ 93 ∷ [])) h.is_head))
closed_at (Annotations k) ts below p h = closed_behind (λ s. IsTerm s (term k ts)) _ below p 125 h
    (annotated h.is_head.0 h.is_head.1 h.inside k ts h.is_head.2 h.is_head.3 h.terms refl (ap (λ (xs : List ℕ). xs ++ (h.inside ++ 125 ∷ [])) h.is_head.4 ∙ simp append_assoc))

-- a closing bracket makes a body or a term
pub closed_spelled : (o : Open) (below : List Open) (p : List ℕ) → Closes o below p → Spelled (closed_as o.opener o.items) below (p ++ closing_byte_of o.opener ∷ [])
closed_spelled o below p h = closed_at o.opener o.items below p h

with_parts : (k : Kind) (ts : List Term) → parts_of k ≡ ts → deepest (parts_of k) ≡ deepest ts
with_parts k ts e = ap deepest e

with_sizes : (k : Kind) (ts : List Term) → parts_of k ≡ ts → sum_by term_size (parts_of k) ≡ sum_by term_size ts
with_sizes k ts e = ap (sum_by term_size) e

pub closed_fits : (opener : Opener) (ts : List Term) (below : List Open) (begun : ℕ) → Fits (record { opener = opener; items = ts } ∷ below) begun 0 0
    → Fits below begun (last_depth (closed_as opener ts)) (last_size (closed_as opener ts))
closed_fits (Call name) ts below begun h = record {
  shallow = h.shallow.2;
  deep = omega (arith, h.shallow.1, with_parts (kind.Apply name ts) ts (parts_apply name ts));
  counted = omega (arith, h.counted, with_sizes (kind.Apply name ts) ts (parts_apply name ts));
  few = h.few;
}
closed_fits Tuple ts below begun h = record {
  shallow = h.shallow.2;
  deep = omega (arith, h.shallow.1, with_parts (kind.Tuple ts) ts (parts_tuple ts));
  counted = omega (arith, h.counted, with_sizes (kind.Tuple ts) ts (parts_tuple ts));
  few = h.few;
}
closed_fits Items ts below begun h = record {
  shallow = h.shallow.2;
  deep = omega (arith, h.shallow.1, with_parts (kind.Items ts) ts (parts_items ts));
  counted = omega (arith, h.counted, with_sizes (kind.Items ts) ts (parts_items ts));
  few = h.few;
}
closed_fits (Annotations k) ts below begun h = record {
  shallow = h.shallow.2;
  deep = omega (arith, h.shallow.0, h.shallow.1, depth_term k ts);
  counted = omega (arith, h.counted, size_term k ts);
  few = h.few;
}
