-- What begins a text by cases is what some text begins with.
use Rattle.std.proofs.Common.{◌≡◌, ℕ, zero, suc, true, List, [], ◌∷◌, ◌++◌, Some, None, refl, sym, ap, subst, ◌∙◌, append_assoc, append-nil, inl, inr}
use Rattle.std.specs.Prelude.{◌⊎◌, ◌&&◌, not}
use Rattle.grammar_theory.specs.Beginnings.{IsWholePart, BeginsTurns, BeginsPart, BeginsSymbol, BeginsByCases}
use Rattle.grammar_theory.specs.Choice.{Decided, is_decided, may_be_empty, are_apart, first_kinds, next_kinds}
use Rattle.grammar_theory.specs.Faults.{Begins}
use Rattle.grammar_theory.specs.Texts.{Part, One, Then, Or, Optional, Many, Chain, Nested, Symbol, PartValue, PartText, Repeated, Grammar, TextWithin, SymbolText, member, tokens_of}
use Rattle.grammar_theory.proofs.Composition.{both, tokens_of-append}
use Rattle.grammar_theory.proofs.PartLemmas.{lang_more, lang_some, or_decided, many_decided}
use Rattle.grammar_theory.proofs.SymbolLemmas.{text_in, text_none, text_first}

-- where a list is cut that is two others
cut : {X : Type 0} (before after a b : List X) → before ++ after ≡ a ++ b → ((x : List X) × (a ≡ before ++ x)) ⊎ ((y : List X) × (before ≡ a ++ y) × (b ≡ y ++ after))
cut [] after a b e = inl (a, refl)
cut (m ∷ before) after [] b e = inr (m ∷ before, refl, sym e)
cut (m ∷ before) after (k ∷ a) b e =
    let h : m ≡ k = cc in
    let t : before ++ after ≡ a ++ b = cc in
    elim (cut before after a b t) [
      | inl r ↦ inl (r.0, (let f = r.1 in cc))
      | inr r ↦ inr (r.0, (let f = r.1 in cc), r.2)
    ]

no_front : {X : Type 0} (before after : List X) → before ++ after ≡ [] → before ≡ []
no_front [] after e = refl
no_front (m ∷ before) after e = cc

-- ** what some text begins with

module _ {N T : Type 0} {V : N → Type 0} (kind : T → ℕ) (F C : N → List ℕ) (R S : ℕ → (i : N) → List (T × ℕ) → V i → Type 0) (B : ℕ → N → List T → Type 0)
    (more : (l : ℕ) (i : N) (ms : List (T × ℕ)) (v : V i) → R l i ms v → S l i ms v) (below : (l : ℕ) (i : N) (before after : List (T × ℕ)) (v : V i) → R l i (before ++ after) v → B l i (tokens_of before)) where
  front_one : (ks : List ℕ) (l : ℕ) (before after : List (T × ℕ)) (v : T) → before ++ after ≡ (v, l) ∷ [] → member (kind v) ks ≡ true → BeginsPart kind S B l (One ks) (tokens_of before)
  front_one ks l [] after v e h = inl refl
  front_one ks l (m ∷ before) after v e h =
      let first : m ≡ (v, l) = cc in
      let rest : before ++ after ≡ [] = cc in
      inr (v, ap (λ (zs : List (T × ℕ)). m.0 ∷ tokens_of zs) (no_front before after rest) ∙ ap (λ (x : T × ℕ). x.0 ∷ []) first, h)

  front_turns : (p : Part N) (up : ℕ → ℕ) → ((l : ℕ) (before after : List (T × ℕ)) (v : PartValue T V p) → PartText kind R l p (before ++ after) v → BeginsPart kind S B l p (tokens_of before))
      → (vs : List (PartValue T V p)) (l : ℕ) (before after : List (T × ℕ)) → Repeated up (λ k. PartText kind R k p) l (before ++ after) vs
      → (n : ℕ) × BeginsTurns up (λ k a. IsWholePart kind S k p a) (λ k b. BeginsPart kind S B k p b) l n (tokens_of before)
  front_turns p up item [] l before after t = (0, inl (ap tokens_of (no_front before after t)))
  front_turns p up item (v ∷ vs) l before after t = go (cut before after t.0 t.1 t.2) (λ y f. front_turns p up item vs (up l) y after f)
    where
      go : ((x : List (T × ℕ)) × (t.0 ≡ before ++ x)) ⊎ ((y : List (T × ℕ)) × (before ≡ t.0 ++ y) × (t.1 ≡ y ++ after))
          → ((y : List (T × ℕ)) → Repeated up (λ k. PartText kind R k p) (up l) (y ++ after) vs → (n : ℕ) × BeginsTurns up (λ k a. IsWholePart kind S k p a) (λ k b. BeginsPart kind S B k p b) (up l) n (tokens_of y))
          → (n : ℕ) × BeginsTurns up (λ k a. IsWholePart kind S k p a) (λ k b. BeginsPart kind S B k p b) l n (tokens_of before)
      go (inl r) later = (0, inr (item l before r.0 v (subst (λ zs. PartText kind R l p zs v) r.1 t.3)))
      go (inr r) later =
          let rest = later r.0 (subst (λ zs. Repeated up (λ k. PartText kind R k p) (up l) zs vs) r.2 t.4) in
          (suc rest.0, (tokens_of t.0, tokens_of r.0, ap tokens_of r.1 ∙ tokens_of-append t.0 r.0, (t.0, v, lang_more kind 0 F C R S more p l t.0 v t.3, refl), rest.1))

  front : (p : Part N) (l : ℕ) (before after : List (T × ℕ)) (v : PartValue T V p) → PartText kind R l p (before ++ after) v → BeginsPart kind S B l p (tokens_of before)
  front (One ks) l before after v t = front_one ks l before after v t.0 t.1
  front (Then p q) l before after v t =
      elim (cut before after t.0 t.1 t.2) [
        | inl r ↦ inl (front p l before r.0 v.0 (subst (λ zs. PartText kind R l p zs v.0) r.1 t.3))
        | inr r ↦ inr (tokens_of t.0, tokens_of r.0, ap tokens_of r.1 ∙ tokens_of-append t.0 r.0, (t.0, v.0, lang_more kind 0 F C R S more p l t.0 v.0 t.3, refl), front q l r.0 after v.1 (subst (λ zs. PartText kind R l q zs v.1) r.2 t.4))
      ]
  front (Or p q) l before after (inl x) t = inl (front p l before after x t)
  front (Or p q) l before after (inr y) t = inr (front q l before after y t)
  front (Optional p) l before after None t = inl (ap tokens_of (no_front before after t))
  front (Optional p) l before after (Some x) t = inr (front p l before after x t)
  front (Many p) l before after vs t = front_turns p (λ k. k) (λ k b a x u. front p k b a x u) vs l before after t
  front (Chain p) l before after vs t = front_turns p suc (λ k b a x u. front p k b a x u) vs l before after t
  front (Nested p) l before after v t = front p (suc l) before after v t
  front (Symbol i) l before after v t = below l i before after v t

-- ** what goes on to a text

record Continues {N T : Type 0} {V : N → Type 0} (kind : T → ℕ) (S : ℕ → (i : N) → List (T × ℕ) → V i → Type 0) (l : ℕ) (p : Part N) (ts : List T) : Type 0 where
  before : List (T × ℕ)
  after : List (T × ℕ)
  value : PartValue T V p
  text : PartText kind S l p (before ++ after) value
  tokens : tokens_of before ≡ ts

record ContinuesSymbol {N T : Type 0} {V : N → Type 0} (S : ℕ → (i : N) → List (T × ℕ) → V i → Type 0) (l : ℕ) (i : N) (ts : List T) : Type 0 where
  before : List (T × ℕ)
  after : List (T × ℕ)
  value : V i
  text : S l i (before ++ after) value
  tokens : tokens_of before ≡ ts

record ContinuesTurns {N T : Type 0} {V : N → Type 0} (kind : T → ℕ) (S : ℕ → (i : N) → List (T × ℕ) → V i → Type 0) (up : ℕ → ℕ) (l : ℕ) (p : Part N) (ts : List T) : Type 0 where
  before : List (T × ℕ)
  after : List (T × ℕ)
  values : List (PartValue T V p)
  text : Repeated up (λ k. PartText kind S k p) l (before ++ after) values
  tokens : tokens_of before ≡ ts

module _ {N T : Type 0} {V : N → Type 0} (G : Grammar N T V) (F C : N → List ℕ) (checks : Decided G F C) (B : ℕ → N → List T → Type 0) (below : (l : ℕ) (i : N) (ts : List T) → B l i ts → ContinuesSymbol (SymbolText G) l i ts) where
  some_text : (p : Part N) → is_decided checks.kinds F C p ≡ true → (l : ℕ) → (ms : List (T × ℕ)) × (v : PartValue T V p) × PartText G.kind (SymbolText G) l p ms v
  some_text p d l = lang_some G.kind checks.kinds F C (SymbolText G) (text_none G F C checks) (text_first G F C checks) checks.sample checks.sampled checks.some p d l

  turns_go_on : (p : Part N) (up : ℕ → ℕ) → ((l : ℕ) (ts : List T) → BeginsPart G.kind (SymbolText G) B l p ts → Continues G.kind (SymbolText G) l p ts) → (n l : ℕ) (ts : List T)
      → BeginsTurns up (λ k a. IsWholePart G.kind (SymbolText G) k p a) (λ k b. BeginsPart G.kind (SymbolText G) B k p b) l n ts → ContinuesTurns G.kind (SymbolText G) up l p ts
  turns_go_on p up item zero l ts (inl e) = record { before = []; after = []; values = []; text = refl; tokens = sym e }
  turns_go_on p up item zero l ts (inr b) =
      let r = item l ts b in
      record { before = r.before; after = r.after; values = r.value ∷ []; text = (r.before ++ r.after, [], sym (append-nil (r.before ++ r.after)), r.text, refl); tokens = r.tokens }
  turns_go_on p up item (suc n) l ts t =
      let r = turns_go_on p up item n (up l) t.1 t.4 in
      let w = t.3 in
      record {
        before = w.0 ++ r.before;
        after = r.after;
        values = w.1 ∷ r.values;
        text = (w.0, r.before ++ r.after, append_assoc w.0 r.before r.after, w.2, r.text);
        tokens = tokens_of-append w.0 r.before ∙ ap (λ zs. zs ++ tokens_of r.before) w.3 ∙ ap (λ zs. t.0 ++ zs) r.tokens ∙ sym t.2;
      }

  goes_on : (p : Part N) → is_decided checks.kinds F C p ≡ true → (l : ℕ) (ts : List T) → BeginsPart G.kind (SymbolText G) B l p ts → Continues G.kind (SymbolText G) l p ts
  goes_on (One ks) d l ts (inl e) = let x = some_text (One ks) d l in record { before = []; after = x.0; value = x.1; text = x.2; tokens = sym e }
  goes_on (One ks) d l ts (inr h) = record { before = (h.0, l) ∷ []; after = []; value = h.0; text = (refl, h.2); tokens = sym h.1 }
  goes_on (Then p q) d l ts (inl h) =
      let d1 = both (is_decided checks.kinds F C p && is_decided checks.kinds F C q) (are_apart (first_kinds F q) (next_kinds F C p)) d in
      let d2 = both (is_decided checks.kinds F C p) (is_decided checks.kinds F C q) d1.0 in
      let r = goes_on p d2.0 l ts h in
      let y = some_text q d2.1 l in
      record { before = r.before; after = r.after ++ y.0; value = (r.value, y.1); text = (r.before ++ r.after, y.0, sym (append_assoc r.before r.after y.0), r.text, y.2); tokens = r.tokens }
  goes_on (Then p q) d l ts (inr h) =
      let d1 = both (is_decided checks.kinds F C p && is_decided checks.kinds F C q) (are_apart (first_kinds F q) (next_kinds F C p)) d in
      let d2 = both (is_decided checks.kinds F C p) (is_decided checks.kinds F C q) d1.0 in
      let w = h.3 in
      let r = goes_on q d2.1 l h.1 h.4 in
      record {
        before = w.0 ++ r.before;
        after = r.after;
        value = (w.1, r.value);
        text = (w.0, r.before ++ r.after, append_assoc w.0 r.before r.after, w.2, r.text);
        tokens = tokens_of-append w.0 r.before ∙ ap (λ zs. zs ++ tokens_of r.before) w.3 ∙ ap (λ zs. h.0 ++ zs) r.tokens ∙ sym h.2;
      }
  goes_on (Or p q) d l ts (inl h) = let r = goes_on p (or_decided p q d).left l ts h in record { before = r.before; after = r.after; value = inl r.value; text = r.text; tokens = r.tokens }
  goes_on (Or p q) d l ts (inr h) = let r = goes_on q (or_decided p q d).right l ts h in record { before = r.before; after = r.after; value = inr r.value; text = r.text; tokens = r.tokens }
  goes_on (Optional p) d l ts (inl e) = record { before = []; after = []; value = None; text = refl; tokens = sym e }
  goes_on (Optional p) d l ts (inr h) =
      let r = goes_on p (both (is_decided checks.kinds F C p) (not (may_be_empty p)) d).0 l ts h in record { before = r.before; after = r.after; value = Some r.value; text = r.text; tokens = r.tokens }
  goes_on (Many p) d l ts h =
      let r = turns_go_on p (λ k. k) (λ k zs u. goes_on p (many_decided p d).item k zs u) h.0 l ts h.1 in record { before = r.before; after = r.after; value = r.values; text = r.text; tokens = r.tokens }
  goes_on (Chain p) d l ts h =
      let r = turns_go_on p suc (λ k zs u. goes_on p (many_decided p d).item k zs u) h.0 l ts h.1 in record { before = r.before; after = r.after; value = r.values; text = r.text; tokens = r.tokens }
  goes_on (Nested p) d l ts h = let r = goes_on p d (suc l) ts h in record { before = r.before; after = r.after; value = r.value; text = r.text; tokens = r.tokens }
  goes_on (Symbol i) d l ts h = let r = below l i ts h in record { before = r.before; after = r.after; value = r.value; text = r.text; tokens = r.tokens }

-- ** symbols

module _ {N T : Type 0} {V : N → Type 0} (G : Grammar N T V) (F C : N → List ℕ) (checks : Decided G F C) where
  symbol_front : (h l : ℕ) (i : N) (before after : List (T × ℕ)) (v : V i) → TextWithin G h l i (before ++ after) v → BeginsSymbol G h l i (tokens_of before)
  symbol_front zero l i before after v t = absurd t
  symbol_front (suc h) l i before after v t = front G.kind F C (TextWithin G h) (SymbolText G) (BeginsSymbol G h) (λ k j ms x u. (h, u)) (symbol_front h) (G.rule i) l before after t.0 t.1

  symbol_goes_on : (h l : ℕ) (i : N) (ts : List T) → BeginsSymbol G h l i ts → ContinuesSymbol (SymbolText G) l i ts
  symbol_goes_on zero l i ts e = let x = checks.some l i in record { before = []; after = x.0; value = x.1; text = x.2; tokens = sym e }
  symbol_goes_on (suc h) l i ts b =
      let r = goes_on G F C checks (BeginsSymbol G h) (symbol_goes_on h) (G.rule i) (checks.decided i) l ts b in
      record { before = r.before; after = r.after; value = G.make i r.value; text = text_in G F C l i (r.before ++ r.after) r.value r.text; tokens = r.tokens }

  pub to_cases : (i : N) (ts : List T) → Begins G i ts → BeginsByCases G i ts
  to_cases i ts b = (b.text.0, subst (BeginsSymbol G b.text.0 0 i) b.tokens (symbol_front b.text.0 0 i b.before b.after b.value b.text.1))

  pub from_cases : (i : N) (ts : List T) → BeginsByCases G i ts → Begins G i ts
  from_cases i ts b = let r = symbol_goes_on b.0 0 i ts b.1 in record { before = r.before; after = r.after; value = r.value; text = r.text; tokens = r.tokens }
