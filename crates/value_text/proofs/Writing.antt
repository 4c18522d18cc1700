-- What the writer adds.
use Rattle.std.proofs.Common.{◌≡◌, ℕ, suc, ◌+◌, ◌<◌, Bool, false, get_or, take, List, [], ◌∷◌, ◌++◌, length, map, sym, ap, ◌∙◌, arith, append_assoc, append-nil, add-one}
use Rattle.std.specs.Prelude.{◌==◌, codes, if◌then◌else◌, Result, Ok, Err, OnOk}
use Rattle.std.specs.List.{flat_map}
use Rattle.std.specs.Result.{is_ok}
use Rattle.std.proofs.lemmas.Bool.Decides.{nat_tests}
use Rattle.std.proofs.lemmas.Grind.{flat_map-append}
use Rattle.std.proofs.Math.Seq.{take-suc}
use Rattle.std.proofs.lemmas.List.{length-map, length-take-le, map-append}
use Rattle.flow_term.specs.declared.value.Entry.{Entry}
use Rattle.flow_term.specs.declared.value.Value.{Value, Value-F, out-Value, map-Value, fold_out-Value}
use Rattle.flow_term.specs.declared.value.Value.TheVariants as value
use Rattle.value_text.specs.Texts.{behind_comma, entry_layer_text, entry_text, listed, pair_text, separator, value_layer_text, value_text}
use Rattle.value_text.proofs.ValueTexts.{entries_are, written_entry}

-- ** layers

at_layer : (v : Value) (x : Value-F Value Entry) → out-Value v ≡ x → value_text v ≡ value_layer_text (map-Value Value Entry (List ℕ) (List ℕ) value_text written_entry x)
at_layer v x e = fold_out-Value (List ℕ) (List ℕ) value_layer_text entry_layer_text v ∙ ap (λ y. value_layer_text (map-Value Value Entry (List ℕ) (List ℕ) value_text written_entry y)) e

pub map_text : (v : Value) (es : List Entry) → v ≡ value.Map es → value_text v ≡ (codes "[" ++ listed (map entry_text es)) ++ codes "]"
map_text v es e = at_layer v (Value-F.Map es) (ap out-Value e ∙ value.outs-Map es) ∙ ap (λ ts. codes "[" ++ listed ts ++ codes "]") (entries_are es)

pub pair_is : (v a b : Value) → v ≡ value.Pair a b → value_text v ≡ pair_text (value_text a) (value_text b)
pair_is v a b e = at_layer v (Value-F.Pair a b) (ap out-Value e ∙ value.outs-Pair a b)

pub on_ok : {X E P Q : Type 0} (r : Result X E) → OnOk r P → (P → Q) → OnOk r Q
on_ok (Ok x) h f = f h
on_ok (Err e) h f = tt

-- ** lists

listed_more : (texts : List (List ℕ)) (last_text : List ℕ) → listed (texts ++ last_text ∷ []) ≡ listed texts ++ (separator (length texts) ++ last_text)
listed_more [] last_text = append-nil last_text
listed_more (first ∷ texts) last_text =
    ap (λ (xs : List ℕ). first ++ xs) (flat_map-append behind_comma texts (last_text ∷ []) ∙ ap (λ (xs : List ℕ). flat_map behind_comma texts ++ (codes ", " ++ xs)) (append-nil last_text))
    ∙ sym (append_assoc first (flat_map behind_comma texts) (codes ", " ++ last_text))
    ∙ ap (λ (x : Bool). (first ++ flat_map behind_comma texts) ++ ((if x then [] else codes ", ") ++ last_text)) (sym (not_zero (length texts)))
  where
    not_zero : (n : ℕ) → (suc n == 0) ≡ false
    not_zero n = grind (arith, nat_tests)

regroup : (a b c d : List ℕ) → ((a ++ b) ++ c) ++ d ≡ a ++ (b ++ (c ++ d))
regroup a b c d = simp append_assoc

module _ {X : Type 0} (text : X → List ℕ) where
  -- the text of one more thing behind those before it
  pub list_more : (xs : List X) (i : ℕ) (x : X) (start old mid new : List ℕ) → i < length xs → x ≡ get_or xs i x → old ≡ start ++ listed (map text (take i xs)) → mid ≡ old ++ separator i → new ≡ mid ++ text x
      → new ≡ start ++ listed (map text (take (i + 1) xs))
  list_more xs i x start old mid new h is e f g =
      let shorter : length (map text (take i xs)) ≡ i = length-map (take i xs) text ∙ length-take-le i xs (omega arith) in
      g ∙ ap (λ (ys : List ℕ). ys ++ text x) (f ∙ ap (λ (ys : List ℕ). ys ++ separator i) e)
      ∙ ap (λ (n : ℕ). ((start ++ listed (map text (take i xs))) ++ separator n) ++ text x) (sym shorter)
      ∙ regroup start (listed (map text (take i xs))) (separator (length (map text (take i xs)))) (text x)
      ∙ ap (λ (ys : List ℕ). start ++ ys) (sym (listed_more (map text (take i xs)) (text x)))
      ∙ ap (λ (y : X). start ++ listed (map text (take i xs) ++ text y ∷ [])) is
      ∙ ap (λ (ys : List (List ℕ)). start ++ listed ys) (sym (map-append text (take i xs) (get_or xs i x ∷ [])))
      ∙ ap (λ (ys : List X). start ++ listed (map text ys)) (sym (ap (λ (n : ℕ). take n xs) (add-one i) ∙ take-suc xs i x h))

-- ** values

pub map_added : (v : Value) (es us : List Entry) (old new : List ℕ) → v ≡ value.Map es → us ≡ es → new ≡ old ++ codes "[" ++ listed (map entry_text us) ++ codes "]" → new ≡ old ++ value_text v
map_added v es us old new is same e =
    e ∙ ap (λ (ys : List Entry). old ++ codes "[" ++ listed (map entry_text ys) ++ codes "]") same ∙ grouped old (codes "[") (listed (map entry_text es)) (codes "]") ∙ ap (λ (ys : List ℕ). old ++ ys) (sym (map_text v es is))
  where
    grouped : (a b c d : List ℕ) → a ++ b ++ c ++ d ≡ a ++ (b ++ c ++ d)
    grouped a b c d = simp append_assoc

pub pair_added : (v a b l r : Value) (s0 s1 s2 s3 s4 s5 : List ℕ) → v ≡ value.Pair a b → l ≡ a → r ≡ b → s1 ≡ s0 ++ codes "(" → s2 ≡ s1 ++ value_text l → s3 ≡ s2 ++ codes ", " → s4 ≡ s3 ++ value_text r → s5 ≡ s4 ++ codes ")"
    → s5 ≡ s0 ++ value_text v
pair_added v a b l r s0 s1 s2 s3 s4 s5 is left right e1 e2 e3 e4 e5 =
    e5 ∙ ap (λ (s : List ℕ). s ++ codes ")") (e4 ∙ (λ i. e3 i ++ value_text (right i)))
    ∙ ap (λ (s : List ℕ). s ++ codes ", " ++ value_text b ++ codes ")") (e2 ∙ (λ i. e1 i ++ value_text (left i)))
    ∙ grouped s0 (codes "(") (value_text a) (codes ", ") (value_text b) (codes ")") ∙ ap (λ (ys : List ℕ). s0 ++ ys) (sym (pair_is v a b is))
  where
    grouped : (s a b c d e : List ℕ) → s ++ a ++ b ++ c ++ d ++ e ≡ s ++ (a ++ b ++ c ++ d ++ e)
    grouped s a b c d e = simp append_assoc

-- what is added where memory is there
pub added : {E : Type 0} (r : Result (Unit {0}) E) (old new text : List ℕ) → new ≡ (if is_ok r then old ++ text else old) → OnOk r (new ≡ old ++ text)
added (Ok x) old new text e = e
added (Err x) old new text e = tt
