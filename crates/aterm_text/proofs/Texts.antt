-- The written form of a term is a text of it.
use Rattle.std.proofs.Common.{◌≡◌, ℕ, suc, ◌+◌, ◌<◌, Bool, true, false, List, [], ◌∷◌, ◌++◌, length, map, take, get_or, refl, sym, ap, ◌∙◌, subst, inl, inr, append-nil, append_assoc, add-one, arith, lit<}
use Rattle.std.specs.Prelude.{ℤ, Result, Ok, Err, OnOk, ◌≢◌, ◌==◌, ◌&&◌, IsTrue, IsUtf8, if◌then◌else◌}
use Rattle.std.specs.Fmt.{signed_decimal}
use Rattle.std.specs.List.{AllByRecursion, flat_map, list_all}
use Rattle.std.proofs.Math.Seq.{take-suc}
use Rattle.std.proofs.lemmas.Bool.Decides.{nat_tests}
use Rattle.std.proofs.lemmas.Grind.{flat_map-append}
use Rattle.std.proofs.lemmas.List.{map-append, length-map, length-take-le}
use Rattle.std.proofs.lemmas.Str.{IsUtf8-nil, IsUtf8-append}
use Rattle.flow_term.specs.declared.term.Term.{Term, Term-F, out-Term, roll-out-Term, fold_out-Term}
use Rattle.flow_term.specs.declared.term.Kind.{Kind, Kind-F, fold_out-Kind, map-Kind}
use Rattle.flow_term.specs.declared.term.Kind.TheVariants as kind
use Rattle.flow_term.specs.declared.term.Kind.TheVariants.{outs-Apply, outs-Items, outs-Int, outs-Str, outs-Tuple}
use Rattle.quoted_text.proofs.Cuts.{before_text, with_byte}
use Rattle.quoted_text.specs.Spellings.{quoted}
use Rattle.quoted_text.proofs.Spelled.{quoted_is, quoted_utf8}
use Rattle.aterm_text.specs.declared.class.ByteClass.{ByteClass}
use Rattle.aterm_text.specs.declared.class.ByteClass.TheVariants.{Letter}
use Rattle.aterm_text.specs.Bytes.{class_of, is_in_symbol}
use Rattle.aterm_text.specs.Grammar.{term, IsSymbol, IsName, IsI64, IsTerm, bare, annotated, IsBody, application, text, tuple, items, number, AreTerms, none, some, AreItems, single, further}
use Rattle.aterm_text.specs.Written.{is_letter_class, may_go_on, is_symbol, name_text, separator, behind_comma, listed, bracketed, annotations_text, body_text, kind_written, written, ReadsBack, KindReadsBack}
use Rattle.aterm_text.proofs.Digits.{decimal_numeral, decimal_utf8}

-- ** names

both_of : (x y : Bool) → (x && y) ≡ true → (x ≡ true) × (y ≡ true)
both_of true true h = (refl, refl)
both_of true false h = cc
both_of false y h = cc

letter_is : (k : ByteClass) → is_letter_class k ≡ true → k ≡ Letter
letter_is Letter h = refl
letter_is _ h = cc

all_may : (cs : List ℕ) → list_all may_go_on cs ≡ true → AllByRecursion (λ d. IsTrue (is_in_symbol (class_of d))) cs
all_may [] h = tt
all_may (c ∷ cs) h = let both : (may_go_on c ≡ true) × (list_all may_go_on cs ≡ true) = both_of (may_go_on c) (list_all may_go_on cs) h in (both.0, all_may cs both.1)

symbol_is : (name : List ℕ) → is_symbol name ≡ true → IsSymbol name
symbol_is [] h = cc
symbol_is (c ∷ cs) h = let both : (is_letter_class (class_of c) ≡ true) × (list_all may_go_on cs ≡ true) = both_of (is_letter_class (class_of c)) (list_all may_go_on cs) h in (letter_is (class_of c) both.0, all_may cs both.1)

pub record NameIs (bytes name : List ℕ) : Type 0 where
  pub is_name : IsName bytes name
  pub utf8 : IsUtf8 bytes

name_chosen : (x : Bool) (name : List ℕ) → is_symbol name ≡ x → IsUtf8 name → NameIs (if x then name else quoted 34 name) name
name_chosen true name e u = record { is_name = inl (symbol_is name e, refl); utf8 = u }
name_chosen false name e u = record { is_name = inr (quoted_is name); utf8 = quoted_utf8 name u }

pub name_is : (name : List ℕ) → IsUtf8 name → NameIs (name_text name) name
name_is name u = name_chosen (is_symbol name) name refl u

-- ** terms between brackets

pub listed_more : (texts : List (List ℕ)) (last_text : List ℕ) → listed (texts ++ last_text ∷ []) ≡ listed texts ++ (separator (length texts) ++ last_text)
listed_more [] last_text = append-nil last_text
listed_more (first ∷ texts) last_text =
    ap (λ (xs : List ℕ). first ++ xs) (flat_map-append behind_comma texts (last_text ∷ []) ∙ ap (λ (xs : List ℕ). flat_map behind_comma texts ++ 44 ∷ xs) (append-nil last_text)) ∙ sym (append_assoc first (flat_map behind_comma texts) (44 ∷ last_text))
    ∙ ap (λ (x : Bool). (first ++ flat_map behind_comma texts) ++ ((if x then [] else 44 ∷ []) ++ last_text)) (sym (not_zero (length texts)))
  where
    not_zero : (n : ℕ) → (suc n == 0) ≡ false
    not_zero n = grind (arith, nat_tests)

items_written : (t : Term) (ts : List Term) → ReadsBack t → AllByRecursion ReadsBack ts → AreItems (listed (map written (t ∷ ts))) (t ∷ ts)
items_written t [] h hs = single [] (written t) [] t tt h.spells tt refl refl
items_written t (u ∷ ts) h hs = further [] (written t) [] (listed (map written (u ∷ ts))) t (u ∷ ts) tt h.spells tt (items_written u ts hs.0 hs.1) refl refl

pub terms_written : (ts : List Term) → AllByRecursion ReadsBack ts → AreTerms (listed (map written ts)) ts
terms_written [] hs = none tt refl
terms_written (t ∷ ts) hs = some (items_written t ts hs.0 hs.1)

commas_utf8 : (ts : List Term) → AllByRecursion ReadsBack ts → IsUtf8 (flat_map behind_comma (map written ts))
commas_utf8 [] hs = IsUtf8-nil
commas_utf8 (t ∷ ts) hs = before_text 44 (written t ++ flat_map behind_comma (map written ts)) (lit< tt) (IsUtf8-append (written t) (flat_map behind_comma (map written ts)) hs.0.utf8 (commas_utf8 ts hs.1))

listed_utf8 : (ts : List Term) → AllByRecursion ReadsBack ts → IsUtf8 (listed (map written ts))
listed_utf8 [] hs = IsUtf8-nil
listed_utf8 (t ∷ ts) hs = IsUtf8-append (written t) (flat_map behind_comma (map written ts)) hs.0.utf8 (commas_utf8 ts hs.1)

pub bracketed_utf8 : (opening closing : ℕ) (ts : List Term) → opening < 128 → closing < 128 → AllByRecursion ReadsBack ts → IsUtf8 (bracketed opening (map written ts) closing)
bracketed_utf8 opening closing ts h k hs = before_text opening (listed (map written ts) ++ closing ∷ []) h (with_byte (listed (map written ts)) closing k (listed_utf8 ts hs))

-- ** kinds

abbrev term_step : Term-F (List ℕ) (List ℕ) → List ℕ
term_step t = t.kind ++ annotations_text t.annos

apply_written : (name : List ℕ) (args : List Term) → kind_written (kind.Apply name args) ≡ name_text name ++ bracketed 40 (map written args) 41
apply_written name args = fold_out-Kind (List ℕ) (List ℕ) body_text term_step (kind.Apply name args) ∙ ap (λ (x : Kind-F Kind Term). body_text (map-Kind Kind Term (List ℕ) (List ℕ) kind_written written x)) (outs-Apply name args)

tuple_written : (ts : List Term) → kind_written (kind.Tuple ts) ≡ bracketed 40 (map written ts) 41
tuple_written ts = fold_out-Kind (List ℕ) (List ℕ) body_text term_step (kind.Tuple ts) ∙ ap (λ (x : Kind-F Kind Term). body_text (map-Kind Kind Term (List ℕ) (List ℕ) kind_written written x)) (outs-Tuple ts)

items_are : (ts : List Term) → kind_written (kind.Items ts) ≡ bracketed 91 (map written ts) 93
items_are ts = fold_out-Kind (List ℕ) (List ℕ) body_text term_step (kind.Items ts) ∙ ap (λ (x : Kind-F Kind Term). body_text (map-Kind Kind Term (List ℕ) (List ℕ) kind_written written x)) (outs-Items ts)

int_written : (n : ℤ) → kind_written (kind.Int n) ≡ signed_decimal n
int_written n = fold_out-Kind (List ℕ) (List ℕ) body_text term_step (kind.Int n) ∙ ap (λ (x : Kind-F Kind Term). body_text (map-Kind Kind Term (List ℕ) (List ℕ) kind_written written x)) (outs-Int n)

text_written : (chars : List ℕ) → kind_written (kind.Str chars) ≡ quoted 34 chars
text_written chars = fold_out-Kind (List ℕ) (List ℕ) body_text term_step (kind.Str chars) ∙ ap (λ (x : Kind-F Kind Term). body_text (map-Kind Kind Term (List ℕ) (List ℕ) kind_written written x)) (outs-Str chars)

record As (bytes : List ℕ) (k : Kind) : Type 0 where
  spells : IsBody bytes k
  utf8 : IsUtf8 bytes

as_written : (bytes : List ℕ) (k : Kind) → kind_written k ≡ bytes → As bytes k → KindReadsBack k
as_written bytes k e h = record { spells = subst (λ (xs : List ℕ). IsBody xs k) (sym e) h.spells; utf8 = subst IsUtf8 (sym e) h.utf8 }

pub apply_back : (name : List ℕ) (args : List Term) → IsUtf8 name → AllByRecursion ReadsBack args → KindReadsBack (kind.Apply name args)
apply_back name args u hs =
    let n : NameIs (name_text name) name = name_is name u in
    as_written (name_text name ++ bracketed 40 (map written args) 41) (kind.Apply name args) (apply_written name args) (record {
      spells = application (name_text name) name [] (listed (map written args)) args n.is_name tt (terms_written args hs) refl refl;
      utf8 = IsUtf8-append (name_text name) (bracketed 40 (map written args) 41) n.utf8 (bracketed_utf8 40 41 args (lit< tt) (lit< tt) hs);
    })

pub tuple_back : (ts : List Term) → AllByRecursion ReadsBack ts → KindReadsBack (kind.Tuple ts)
tuple_back ts hs = as_written (bracketed 40 (map written ts) 41) (kind.Tuple ts) (tuple_written ts) (record { spells = tuple (listed (map written ts)) ts (terms_written ts hs) refl refl; utf8 = bracketed_utf8 40 41 ts (lit< tt) (lit< tt) hs })

pub items_back : (ts : List Term) → AllByRecursion ReadsBack ts → KindReadsBack (kind.Items ts)
items_back ts hs = as_written (bracketed 91 (map written ts) 93) (kind.Items ts) (items_are ts) (record { spells = items (listed (map written ts)) ts (terms_written ts hs) refl refl; utf8 = bracketed_utf8 91 93 ts (lit< tt) (lit< tt) hs })

pub int_back : (n : ℤ) → IsI64 n → KindReadsBack (kind.Int n)
int_back n h = as_written (signed_decimal n) (kind.Int n) (int_written n) (record { spells = number n (decimal_numeral n h) h refl; utf8 = decimal_utf8 n h })

pub text_back : (chars : List ℕ) → IsUtf8 chars → KindReadsBack (kind.Str chars)
text_back chars u = as_written (quoted 34 chars) (kind.Str chars) (text_written chars) (record { spells = text chars (quoted_is chars) refl; utf8 = quoted_utf8 chars u })

-- ** terms

written_out : (t : Term) → written t ≡ kind_written (out-Term t).kind ++ annotations_text (map written (out-Term t).annos)
written_out t = fold_out-Term (List ℕ) (List ℕ) body_text term_step t

as_term : (t : Term) → term (out-Term t).kind (out-Term t).annos ≡ t
as_term t = roll-out-Term t

annotations_back : (k : Kind) (annos : List Term) (t : Term) → term k annos ≡ t → written t ≡ kind_written k ++ annotations_text (map written annos) → KindReadsBack k → AllByRecursion ReadsBack annos → ReadsBack t
annotations_back k [] t e w h hs = record {
  spells = subst (λ (xs : List ℕ). IsTerm xs t) (sym (w ∙ append-nil (kind_written k))) (bare k h.spells (sym e));
  utf8 = subst IsUtf8 (sym (w ∙ append-nil (kind_written k))) h.utf8;
}
annotations_back k (u ∷ annos) t e w h hs = record {
  spells = subst (λ (xs : List ℕ). IsTerm xs t) (sym w) (annotated (kind_written k) [] (listed (map written (u ∷ annos))) k (u ∷ annos) h.spells tt (terms_written (u ∷ annos) hs) (sym e) refl);
  utf8 = subst IsUtf8 (sym w) (IsUtf8-append (kind_written k) (bracketed 123 (map written (u ∷ annos)) 125) h.utf8 (bracketed_utf8 123 125 (u ∷ annos) (lit< tt) (lit< tt) hs));
}

pub term_back : (t : Term) → KindReadsBack (out-Term t).kind → AllByRecursion ReadsBack (out-Term t).annos → ReadsBack t
term_back t h hs = annotations_back (out-Term t).kind (out-Term t).annos t (as_term t) (written_out t) h hs

pub bare_back : (t : Term) → (out-Term t).annos ≡ [] → KindReadsBack (out-Term t).kind → ReadsBack t
bare_back t e h = term_back t h (subst (AllByRecursion ReadsBack) (sym e) tt)

some_annotations : (texts : List (List ℕ)) → (texts ≡ [] → ⊥) → annotations_text texts ≡ bracketed 123 texts 125
some_annotations [] h = absurd (h refl)
some_annotations (first ∷ texts) h = refl

pub annotated_written : (t : Term) (old new mid : List ℕ) → length (out-Term t).annos ≢ 0 → mid ≡ old ++ kind_written (out-Term t).kind → new ≡ mid ++ bracketed 123 (map written (out-Term t).annos) 125 → new ≡ old ++ written t
annotated_written t old new mid h e f =
    f ∙ ap (λ (xs : List ℕ). xs ++ bracketed 123 (map written (out-Term t).annos) 125) e ∙ append_assoc old (kind_written (out-Term t).kind) (bracketed 123 (map written (out-Term t).annos) 125)
    ∙ ap (λ (xs : List ℕ). old ++ (kind_written (out-Term t).kind ++ xs)) (sym (some_annotations (map written (out-Term t).annos) (λ g. h (sym (length-map (out-Term t).annos written) ∙ ap length g))))
    ∙ ap (λ (xs : List ℕ). old ++ xs) (sym (written_out t))

-- ** the loop over terms

pub read_back_more : (ts : List Term) (i : ℕ) (d : Term) → i < length ts → AllByRecursion ReadsBack (take i ts) → ReadsBack (get_or ts i d) → AllByRecursion ReadsBack (take (i + 1) ts)
read_back_more ts i d h hs k = subst (AllByRecursion ReadsBack) (sym (ap (λ (n : ℕ). take n ts) (add-one i) ∙ take-suc ts i d h)) (snoc (take i ts) hs)
  where
    snoc : (us : List Term) → AllByRecursion ReadsBack us → AllByRecursion ReadsBack (us ++ get_or ts i d ∷ [])
    snoc [] g = (k, tt)
    snoc (u ∷ us) g = (g.0, snoc us g.1)

regroup : (a b c d : List ℕ) → ((a ++ b) ++ c) ++ d ≡ a ++ (b ++ (c ++ d))
regroup a b c d = simp append_assoc

pub texts_more : (ts : List Term) (i : ℕ) (d : Term) (start old mid new : List ℕ) → i < length ts → old ≡ start ++ listed (map written (take i ts)) → mid ≡ old ++ separator i → new ≡ mid ++ written (get_or ts i d) → new ≡ start ++ listed (map written (take (i + 1) ts))
texts_more ts i d start old mid new h e f g =
    let shorter : length (map written (take i ts)) ≡ i = length-map (take i ts) written ∙ length-take-le i ts (omega arith) in
    g ∙ ap (λ (xs : List ℕ). xs ++ written (get_or ts i d)) (f ∙ ap (λ (xs : List ℕ). xs ++ separator i) e)
    ∙ ap (λ (n : ℕ). ((start ++ listed (map written (take i ts))) ++ separator n) ++ written (get_or ts i d)) (sym shorter)
    ∙ regroup start (listed (map written (take i ts))) (separator (length (map written (take i ts)))) (written (get_or ts i d))
    ∙ ap (λ (xs : List ℕ). start ++ xs) (sym (listed_more (map written (take i ts)) (written (get_or ts i d))))
    ∙ ap (λ (xs : List (List ℕ)). start ++ listed xs) (sym (map-append written (take i ts) (get_or ts i d ∷ [])))
    ∙ ap (λ (xs : List Term). start ++ listed (map written xs)) (sym (ap (λ (n : ℕ). take n ts) (add-one i) ∙ take-suc ts i d h))

-- ** what the writer's calls give

pub on_ok : {X E P Q : Type 0} (r : Result X E) → OnOk r P → (P → Q) → OnOk r Q
on_ok (Ok x) h f = f h
on_ok (Err e) h f = tt

pub on_any : {X E Q : Type 0} (r : Result X E) → Q → OnOk r Q
on_any (Ok x) q = q
on_any (Err e) q = tt

pub no_length : {X : Type 0} (xs : List X) → length xs ≡ 0 → xs ≡ []
no_length [] h = refl
no_length (x ∷ xs) h = absurd (omega arith)

pub texts_behind : (ts : List Term) (i : ℕ) (d : Term) (base : List ℕ) (o : ℕ) (old mid new : List ℕ) → i < length ts → d ≡ get_or ts i d → old ≡ base ++ o ∷ listed (map written (take i ts)) → mid ≡ old ++ separator i → new ≡ mid ++ written d
    → new ≡ base ++ o ∷ listed (map written (take (i + 1) ts))
texts_behind ts i d base o old mid new h is e f g =
    texts_more ts i d (base ++ o ∷ []) old mid new h (e ∙ sym (append_assoc base (o ∷ []) (listed (map written (take i ts))))) f (g ∙ ap (λ (t : Term). mid ++ written t) is)
    ∙ append_assoc base (o ∷ []) (listed (map written (take (i + 1) ts)))
