-- Reading a symbol of a decided grammar.
use Rattle.std.proofs.Common.{◌≡◌, ℕ, zero, suc, ◌+◌, ◌-◌, ◌*◌, ◌<◌, ◌≤◌, ◌||◌, Bool, true, false, List, [], ◌∷◌, ◌++◌, length, Some, None, Ok, Err, refl, sym, ap, subst, ◌∙◌, length-append, inl, inr, arith}
use Rattle.std.specs.Prelude.{◌==◌, nat_le, nat_lt}
use Rattle.std.proofs.Math.Nat.{mul-le-mul_left}
use Rattle.std.proofs.lemmas.Bool.Decides.{nat_tests}
use Rattle.std.proofs.lemmas.Bool.{eqb-true}
use Rattle.grammar_theory.proofs.Composition.{err_is, both, starts_same, made_sound, made_stuck, made_again, repeat_turn}
use Rattle.grammar_theory.proofs.PartLemmas.{lang_more, not_none, lang_low, lang_first, lang_opens, body_reader, same_body}
use Rattle.grammar_theory.proofs.Readings.{Stops, Stuck, Again, Reader}
use Rattle.grammar_theory.specs.Choice.{may_be_empty, first_kinds, next_kinds, is_decided, is_inside, is_subset, Decided}
use Rattle.grammar_theory.specs.Reading.{Outcome, ◌>>=◌, starts_with, read_repeated, read_part, too_deep, read_symbol, turn_count}
use Rattle.grammar_theory.specs.Texts.{member, Part, PartValue, tokens_of, Repeated, PartText, Grammar, TextWithin, SymbolText, One, Then, Or, Optional, Many, Chain, Nested, Symbol}
use Rattle.grammar_theory.specs.declared.Cause.{Cause}
use Rattle.grammar_theory.specs.declared.Cause.TheVariants.{Unexpected, TooDeep}

-- a height above two
raise : ℕ → ℕ → ℕ
raise zero k = k
raise (suc h) k = suc (raise h k)

module _ {N T : Type 0} {V : N → Type 0} (G : Grammar N T V) (F C : N → List ℕ) where
  within_more : (h l : ℕ) (i : N) (ms : List (T × ℕ)) (v : V i) → TextWithin G h l i ms v → TextWithin G (suc h) l i ms v
  within_more zero l i ms v t = absurd t
  within_more (suc h) l i ms v t = (t.0, lang_more G.kind 0 F C (TextWithin G h) (TextWithin G (suc h)) (within_more h) (G.rule i) l ms t.0 t.1, t.2)

  within_right : (h k l : ℕ) (i : N) (ms : List (T × ℕ)) (v : V i) → TextWithin G k l i ms v → TextWithin G (raise h k) l i ms v
  unfolding raise
  within_right zero k l i ms v t = t
  within_right (suc h) k l i ms v t = within_more (raise h k) l i ms v (within_right h k l i ms v t)

  within_left : (h k l : ℕ) (i : N) (ms : List (T × ℕ)) (v : V i) → TextWithin G h l i ms v → TextWithin G (raise h k) l i ms v
  unfolding raise
  within_left zero k l i ms v t = absurd t
  within_left (suc h) k l i ms v t = (t.0, lang_more G.kind 0 F C (TextWithin G h) (TextWithin G (raise h k)) (within_left h k) (G.rule i) l ms t.0 t.1, t.2)

  left : (h k : ℕ) (p : Part N) (l : ℕ) (ms : List (T × ℕ)) (v : PartValue T V p) → PartText G.kind (TextWithin G h) l p ms v → PartText G.kind (TextWithin G (raise h k)) l p ms v
  left h k p l ms v t = lang_more G.kind 0 F C (TextWithin G h) (TextWithin G (raise h k)) (within_left h k) p l ms v t

  right : (h k : ℕ) (p : Part N) (l : ℕ) (ms : List (T × ℕ)) (v : PartValue T V p) → PartText G.kind (TextWithin G k) l p ms v → PartText G.kind (TextWithin G (raise h k)) l p ms v
  right h k p l ms v t = lang_more G.kind 0 F C (TextWithin G k) (TextWithin G (raise h k)) (within_right h k) p l ms v t

  gather_turns : (p : Part N) (up : ℕ → ℕ) → ((n : ℕ) (ks : List (T × ℕ)) (x : PartValue T V p) → PartText G.kind (SymbolText G) n p ks x → (h : ℕ) × PartText G.kind (TextWithin G h) n p ks x)
      → (l : ℕ) (ms : List (T × ℕ)) (vs : List (PartValue T V p)) → Repeated up (λ n. PartText G.kind (SymbolText G) n p) l ms vs → (h : ℕ) × Repeated up (λ n. PartText G.kind (TextWithin G h) n p) l ms vs
  gather_turns p up g l ms [] t = (0, t)
  gather_turns p up g l ms (v ∷ vs) t =
      let x = g l t.0 v t.3 in
      let y = gather_turns p up g (up l) t.1 vs t.4 in
      (raise x.0 y.0, (t.0, t.1, t.2, left x.0 y.0 p l t.0 v x.1, turns_right x.0 y.0 (up l) t.1 vs y.1))
    where
      turns_right : (h k l : ℕ) (ms : List (T × ℕ)) (vs : List (PartValue T V p)) → Repeated up (λ n. PartText G.kind (TextWithin G k) n p) l ms vs → Repeated up (λ n. PartText G.kind (TextWithin G (raise h k)) n p) l ms vs
      turns_right h k l ms [] t = t
      turns_right h k l ms (v ∷ vs) t = (t.0, t.1, t.2, right h k p l t.0 v t.3, turns_right h k (up l) t.1 vs t.4)

  -- a text of texts has a height
  gather : (p : Part N) (l : ℕ) (ms : List (T × ℕ)) (v : PartValue T V p) → PartText G.kind (SymbolText G) l p ms v → (h : ℕ) × PartText G.kind (TextWithin G h) l p ms v
  gather (One ks) l ms v t = (0, t)
  gather (Then p q) l ms v t =
      let x = gather p l t.0 v.0 t.3 in
      let y = gather q l t.1 v.1 t.4 in
      (raise x.0 y.0, (t.0, t.1, t.2, left x.0 y.0 p l t.0 v.0 x.1, right x.0 y.0 q l t.1 v.1 y.1))
  gather (Or p q) l ms (inl x) t = gather p l ms x t
  gather (Or p q) l ms (inr x) t = gather q l ms x t
  gather (Optional p) l ms None t = (0, t)
  gather (Optional p) l ms (Some x) t = gather p l ms x t
  gather (Many p) l ms vs t = gather_turns p (λ n. n) (λ n ks x u. gather p n ks x u) l ms vs t
  gather (Chain p) l ms vs t = gather_turns p suc (λ n ks x u. gather p n ks x u) l ms vs t
  gather (Nested p) l ms v t = gather p (suc l) ms v t
  gather (Symbol i) l ms v t = t

  -- the production of a symbol gives its texts, and no others
  pub text_in : (l : ℕ) (i : N) (ms : List (T × ℕ)) (tree : PartValue T V (G.rule i)) → PartText G.kind (SymbolText G) l (G.rule i) ms tree → SymbolText G l i ms (G.make i tree)
  text_in l i ms tree t = let x = gather (G.rule i) l ms tree t in (suc x.0, (tree, x.1, refl))

  pub text_out : (l : ℕ) (i : N) (ms : List (T × ℕ)) (v : V i) → SymbolText G l i ms v → (tree : PartValue T V (G.rule i)) × PartText G.kind (SymbolText G) l (G.rule i) ms tree × (G.make i tree ≡ v)
  text_out l i ms v (zero, t) = absurd t
  text_out l i ms v (suc h, t) = (t.0, lang_more G.kind 0 F C (TextWithin G h) (SymbolText G) (λ n j ks x u. (h, u)) (G.rule i) l ms t.0 t.1, t.2)

  module _ (checks : Decided G F C) where
    within_none : (h l : ℕ) (i : N) (v : V i) → TextWithin G h l i [] v → ⊥
    within_none zero l i v t = t
    within_none (suc h) l i v t = not_none G.kind checks.kinds F C (TextWithin G h) (within_none h) (G.rule i) (checks.full i) l t.0 t.1

    within_first : (h l : ℕ) (i : N) (m : T × ℕ) (ms : List (T × ℕ)) (v : V i) → TextWithin G h l i (m ∷ ms) v → member (G.kind m.0) (F i) ≡ true
    within_first zero l i m ms v t = absurd t
    within_first (suc h) l i m ms v t =
        subst (λ f. member (G.kind m.0) f ≡ true) (checks.table i) (lang_first G.kind checks.kinds F C (TextWithin G h) (within_none h) (within_first h) (G.rule i) (checks.decided i) l m ms t.0 t.1)

    within_low : (h l : ℕ) (i : N) (m : T × ℕ) (ms : List (T × ℕ)) (v : V i) → TextWithin G h l i (m ∷ ms) v → l ≤ m.1
    within_low zero l i m ms v t = absurd t
    within_low (suc h) l i m ms v t = lang_low G.kind checks.kinds F C (TextWithin G h) (within_none h) (within_low h) (G.rule i) (checks.decided i) l m ms t.0 t.1

    pub text_none : (l : ℕ) (i : N) (v : V i) → SymbolText G l i [] v → ⊥
    text_none l i v t = within_none t.0 l i v t.1

    pub text_first : (l : ℕ) (i : N) (m : T × ℕ) (ms : List (T × ℕ)) (v : V i) → SymbolText G l i (m ∷ ms) v → member (G.kind m.0) (F i) ≡ true
    text_first l i m ms v t = within_first t.0 l i m ms v t.1

    text_low : (l : ℕ) (i : N) (m : T × ℕ) (ms : List (T × ℕ)) (v : V i) → SymbolText G l i (m ∷ ms) v → l ≤ m.1
    text_low l i m ms v t = within_low t.0 l i m ms v t.1

    text_opens : (n : ℕ) (i : N) → checks.rank i < n → (l : ℕ) (t : T) → member (G.kind t) (F i) ≡ true → (k : ℕ) × (ms : List (T × ℕ)) × (v : V i) × SymbolText G l i ((t, k) ∷ ms) v
    text_opens zero i h l t e = absurd (omega arith)
    text_opens (suc n) i h l t e =
        let below : (j : N) → nat_lt (checks.rank j) (checks.rank i) ≡ true → checks.rank j < n = λ j ok. grind (arith, nat_tests) in
        let x = lang_opens G.kind checks.kinds F C (SymbolText G) text_none text_first checks.sample checks.sampled checks.some (λ j. nat_lt (checks.rank j) (checks.rank i)) (λ j ok k u g. text_opens n j (below j ok) k u g)
        (G.rule i) (checks.decided i) (checks.headed i) l t (subst (λ f. member (G.kind t) f ≡ true) (sym (checks.table i)) e) in
        (x.0, x.1, G.make i x.2, text_in l i ((t, x.0) ∷ x.1) x.2 x.3)

    abbrev deep_read : (i : N) → List T → Outcome T (V i)
    deep_read i ts = too_deep G.kind (F i) ts

    -- a text that is nested too deep from its first token on
    deep_reader : (limit l : ℕ) → limit < l → (i : N) → Reader G.kind limit (SymbolText G l i) (C i) (too_deep G.kind (F i))
    deep_reader limit l deep i = record {
      sound = λ ts v rest e. absurd cc;
      stuck = λ ts cause rest e. deep_stuck ts cause rest (starts_with G.kind (F i) ts) refl e;
      again = λ ms v rest t st. deep_again ms v rest t;
    }
      where
        deep_stuck : (ts : List T) (cause : Cause) (rest : List T) (b : Bool) → starts_with G.kind (F i) ts ≡ b → deep_read i ts ≡ Err (cause, rest) → Stuck limit (SymbolText G l i) (deep_read i) ts cause rest
        deep_stuck [] cause rest true h e = absurd cc
        deep_stuck (t ∷ ts) cause rest true h e =
            let p : ◌≡◌ {A = Outcome T (V i)} (Err (TooDeep, t ∷ ts)) (Err (cause, rest)) = rw h at e in
            let x = text_opens (suc (checks.rank i)) i (omega arith) l t h in
            let made : Cause × List T = (TooDeep, t ∷ ts) in
            subst (λ (o : Cause × List T). Stuck limit (SymbolText G l i) (deep_read i) (t ∷ ts) o.0 o.1) (err_is {x = made} {y = (cause, rest)} p) (record {
              front = [];
              cut = refl;
              stays = λ s tail z g. let st : t ≡ s = cc in rw (← st, h) refl;
              reach = record { before = []; after = (t, x.0) ∷ x.1; value = x.2; text = x.3; tokens = refl; fits = tt; look = ((t, x.0), ts, x.1, refl, refl) };
            })
        deep_stuck ts cause rest false h e =
            let p : ◌≡◌ {A = Outcome T (V i)} (Err (Unexpected, ts)) (Err (cause, rest)) = rw h at e in
            let x = checks.some l i in
            let made : Cause × List T = (Unexpected, ts) in
            subst (λ (o : Cause × List T). Stuck limit (SymbolText G l i) (deep_read i) ts o.0 o.1) (err_is {x = made} {y = (cause, rest)} p) (record {
              front = [];
              cut = refl;
              stays = λ s tail z g. let u = starts_same G.kind (F i) [] ts ts s tail z refl g ∙ h in rw u refl;
              reach = record { before = []; after = x.0; value = x.1; text = x.2; tokens = refl; fits = tt; look = tt };
            })

        deep_again : (ms : List (T × ℕ)) (v : V i) (rest : List T) → SymbolText G l i ms v → Again limit ms v rest (deep_read i (tokens_of ms ++ rest))
        deep_again [] v rest t = absurd (text_none l i v t)
        deep_again (m ∷ ms) v rest t =
            rw (text_first l i m ms v t) (refl, record { before = []; token = m.0; level = m.1; after = ms; marks = refl; fits = tt; deep = (let h = text_low l i m ms v t in omega arith); here = refl })

    covered : (k : ℕ) (xs ys : List ℕ) → is_subset xs ys ≡ true → member k ys ≡ false → member k xs ≡ false
    covered k [] ys s e = refl
    covered k (x ∷ xs) ys s e =
        let p = both (member x ys) (is_subset xs ys) s in
        neither_of (k == x) (member k xs) (λ h. let g : member k ys ≡ true = subst (λ j. member j ys ≡ true) (sym (eqb-true k x h)) p.0 in absurd cc) (covered k xs ys p.1 e)
      where
        neither_of : (a b : Bool) → (a ≡ true → ⊥) → b ≡ false → (a || b) ≡ false
        neither_of true b h e = absurd (h refl)
        neither_of false b h e = e

    stops_less : (xs ys : List ℕ) (rest : List T) → is_subset xs ys ≡ true → Stops G.kind ys rest → Stops G.kind xs rest
    stops_less xs ys [] s st = tt
    stops_less xs ys (t ∷ rest) s st = covered (G.kind t) xs ys s st

    none_starts : (zs : List T) → starts_with G.kind [] zs ≡ false
    none_starts [] = refl
    none_starts (t ∷ zs) = refl

    -- the turns that a symbol takes at most
    abbrev Turns : ℕ → ℕ → ℕ → N → Type 0
    Turns limit n l i = l ≤ limit → checks.ranks * (suc limit - l) + checks.rank i < n

    below : (limit n l k : ℕ) (i j : N) → l ≤ limit → Turns limit (suc n) l i → l < k → Turns limit n k j
    below limit n l k i j le h g = λ u.
        let a = checks.ranked j in
        let b = h le in
        let d : suc (suc limit - k) ≤ suc limit - l = omega arith in
        let m = mul-le-mul_left checks.ranks d in
        omega arith

    beside : (limit n l k : ℕ) (i j : N) → l ≤ limit → Turns limit (suc n) l i → l ≤ k → nat_lt (checks.rank j) (checks.rank i) ≡ true → Turns limit n k j
    beside limit n l k i j le h g ok = λ u.
        let a : checks.rank j < checks.rank i = grind (arith, nat_tests) in
        let b = h le in
        let d : suc limit - k ≤ suc limit - l = omega arith in
        let m = mul-le-mul_left checks.ranks d in
        omega arith

    read_body : ℕ → ℕ → ℕ → (i : N) → List T → Outcome T (V i)
    read_body limit n l i ts = read_part G.kind F limit (read_symbol G F limit n) l (G.rule i) ts >>= λ x. Ok (G.make i x.0, x.1)

    body_made : (limit n l : ℕ) (i : N) → ((k : ℕ) → l < k → (j : N) → Reader G.kind limit (SymbolText G k j) (C j) (read_symbol G F limit n k j))
        → ((k : ℕ) → l ≤ k → (j : N) → nat_lt (checks.rank j) (checks.rank i) ≡ true → Reader G.kind limit (SymbolText G k j) (C j) (read_symbol G F limit n k j)) → Reader G.kind limit (SymbolText G l i) (C i) (read_body limit n l i)
    unfolding read_body
    body_made limit n l i known here =
        let p = G.rule i in
        let inner = body_reader G.kind checks.kinds F C (SymbolText G) text_none text_first checks.sample checks.sampled checks.some limit (read_symbol G F limit n) l (λ j. nat_lt (checks.rank j) (checks.rank i)) known here p false l (omega arith) (checks.inside i) (checks.decided i) in
        let same : (zs : List T) → starts_with G.kind [] zs ≡ false → read_body limit n l i zs ≡ (read_part G.kind F limit (read_symbol G F limit n) l p zs >>= λ x. Ok (G.make i x.0, x.1)) = λ zs _. refl in
        let into : (ms : List (T × ℕ)) (x : PartValue T V p) → PartText G.kind (SymbolText G) l p ms x → SymbolText G l i ms (G.make i x) = λ ms x t. text_in l i ms x t in
        record {
          sound = λ ts v rest e. made_sound G.kind limit (PartText G.kind (SymbolText G) l p) (SymbolText G l i) (next_kinds F C p) (read_part G.kind F limit (read_symbol G F limit n) l p) (read_body limit n l i) (G.make i) inner into [] false same ts v rest (none_starts ts) e;
          stuck = λ ts cause rest e. made_stuck G.kind limit (PartText G.kind (SymbolText G) l p) (SymbolText G l i) (next_kinds F C p) (read_part G.kind F limit (read_symbol G F limit n) l p) (read_body limit n l i) (G.make i) inner into [] false same ts cause rest (none_starts ts) e;
          again = λ ms v rest t st.
              let x = text_out l i ms v t in
              subst (λ u. Again limit ms u rest (read_body limit n l i (tokens_of ms ++ rest))) x.2
              (made_again G.kind limit (PartText G.kind (SymbolText G) l p) (SymbolText G l i) (next_kinds F C p) (read_part G.kind F limit (read_symbol G F limit n) l p) (read_body limit n l i) (G.make i) inner into [] false same ms x.0 rest x.1
              (stops_less (next_kinds F C p) (C i) rest (checks.covers i) st) (none_starts (tokens_of ms ++ rest)));
        }

    same_read : (limit n m l : ℕ) (i : N) → ((k : ℕ) (j : N) (zs : List T) → l < k → read_symbol G F limit n k j zs ≡ read_symbol G F limit m k j zs)
        → ((k : ℕ) (j : N) (zs : List T) → l ≤ k → nat_lt (checks.rank j) (checks.rank i) ≡ true → read_symbol G F limit n k j zs ≡ read_symbol G F limit m k j zs) → (ts : List T) → read_body limit n l i ts ≡ read_body limit m l i ts
    unfolding read_body
    same_read limit n m l i known here ts =
        rw (same_body G.kind F limit l (λ j. nat_lt (checks.rank j) (checks.rank i)) (read_symbol G F limit n) (read_symbol G F limit m) known here (G.rule i) false l (omega arith) (checks.inside i) ts) refl

    symbol_at : (limit n l : ℕ) (i : N) (ts : List T) → nat_le l limit ≡ true → read_symbol G F limit (suc n) l i ts ≡ read_body limit n l i ts
    unfolding read_body read_symbol
    symbol_at limit n l i ts e = rw e refl

    symbol_deep : (limit n l : ℕ) (i : N) (ts : List T) → nat_le l limit ≡ false → read_symbol G F limit (suc n) l i ts ≡ deep_read i ts
    unfolding read_symbol
    symbol_deep limit n l i ts e = rw e refl

    reader_same : (limit l : ℕ) (i : N) (r read : List T → Outcome T (V i)) → ((zs : List T) → read zs ≡ r zs) → Reader G.kind limit (SymbolText G l i) (C i) r → Reader G.kind limit (SymbolText G l i) (C i) read
    reader_same limit l i r read same rr = record {
      sound = λ ts v rest e. let x = rr.sound ts v rest (sym (same ts) ∙ e) in record { marks = x.marks; cut = x.cut; text = x.text; fits = x.fits; keeps = λ t tail z h. same (tokens_of x.marks ++ t ∷ z) ∙ x.keeps t tail z h };
      stuck = λ ts cause rest e. let x = rr.stuck ts cause rest (sym (same ts) ∙ e) in record { front = x.front; cut = x.cut; stays = λ t tail z h. same (x.front ++ t ∷ z) ∙ x.stays t tail z h; reach = x.reach };
      again = λ ms v rest t st. rw (same (tokens_of ms ++ rest)) (rr.again ms v rest t st);
    }

    symbol_reader_at : (limit n l : ℕ) (i : N) (b : Bool) → nat_le l limit ≡ b → Turns limit n l i → Reader G.kind limit (SymbolText G l i) (C i) (read_symbol G F limit n l i)
    unfolding read_symbol
    symbol_reader_at limit zero l i true e h = absurd (let le : l ≤ limit = grind (arith, nat_tests) in let k = h le in omega arith)
    symbol_reader_at limit zero l i false e h = deep_reader limit l (grind (arith, nat_tests)) i
    symbol_reader_at limit (suc n) l i false e h = reader_same limit l i (deep_read i) (read_symbol G F limit (suc n) l i) (λ zs. symbol_deep limit n l i zs e) (deep_reader limit l (grind (arith, nat_tests)) i)
    symbol_reader_at limit (suc n) l i true e h =
        let le : l ≤ limit = grind (arith, nat_tests) in
        reader_same limit l i (read_body limit n l i) (read_symbol G F limit (suc n) l i) (λ zs. symbol_at limit n l i zs e)
        (body_made limit n l i (λ k g j. symbol_reader_at limit n k j (nat_le k limit) refl (below limit n l k i j le h g)) (λ k g j ok. symbol_reader_at limit n k j (nat_le k limit) refl (beside limit n l k i j le h g ok)))

    enough_turns : (limit l : ℕ) (i : N) → Turns limit (turn_count limit checks.ranks) l i
    enough_turns limit l i = λ le.
        let a = checks.ranked i in
        let d : suc (suc limit - l) ≤ suc (suc limit) = omega arith in
        let m = mul-le-mul_left checks.ranks d in
        omega arith

    -- reading a symbol
    pub symbol_reader : (limit l : ℕ) (i : N) → Reader G.kind limit (SymbolText G l i) (C i) (read_symbol G F limit (turn_count limit checks.ranks) l i)
    symbol_reader limit l i = symbol_reader_at limit (turn_count limit checks.ranks) l i (nat_le l limit) refl (enough_turns limit l i)

    -- the number of turns makes no difference
    symbol_same : (limit n m l : ℕ) (i : N) (b : Bool) → nat_le l limit ≡ b → Turns limit n l i → Turns limit m l i → (ts : List T) → read_symbol G F limit n l i ts ≡ read_symbol G F limit m l i ts
    unfolding read_symbol
    symbol_same limit zero m l i true e h g ts = absurd (let le : l ≤ limit = grind (arith, nat_tests) in let k = h le in omega arith)
    symbol_same limit (suc n) zero l i true e h g ts = absurd (let le : l ≤ limit = grind (arith, nat_tests) in let k = g le in omega arith)
    symbol_same limit zero zero l i false e h g ts = refl
    symbol_same limit zero (suc m) l i false e h g ts = sym (symbol_deep limit m l i ts e)
    symbol_same limit (suc n) zero l i false e h g ts = symbol_deep limit n l i ts e
    symbol_same limit (suc n) (suc m) l i false e h g ts = symbol_deep limit n l i ts e ∙ sym (symbol_deep limit m l i ts e)
    symbol_same limit (suc n) (suc m) l i true e h g ts =
        let le : l ≤ limit = grind (arith, nat_tests) in
        symbol_at limit n l i ts e ∙ same_read limit n m l i
        (λ k j zs u. symbol_same limit n m k j (nat_le k limit) refl (below limit n l k i j le h u) (below limit m l k i j le g u) zs)
        (λ k j zs u ok. symbol_same limit n m k j (nat_le k limit) refl (beside limit n l k i j le h u ok) (beside limit m l k i j le g u ok) zs) ts
        ∙ sym (symbol_at limit m l i ts e)

    -- a symbol is read by its production
    pub unroll : (limit l : ℕ) (i : N) → l ≤ limit → (ts : List T) → read_symbol G F limit (turn_count limit checks.ranks) l i ts ≡ (read_part G.kind F limit (read_symbol G F limit (turn_count limit checks.ranks)) l (G.rule i) ts >>= λ x. Ok (G.make i x.0, x.1))
    unfolding read_body
    unroll limit l i le ts =
        let e : nat_le l limit ≡ true = grind (arith, nat_tests) in
        let n = checks.ranks * suc (suc limit) in
        let h = enough_turns limit l i in
        symbol_at limit n l i ts e ∙ same_read limit n (suc n) l i
        (λ k j zs u. symbol_same limit n (suc n) k j (nat_le k limit) refl (below limit n l k i j le h u) (enough_turns limit k j) zs)
        (λ k j zs u ok. symbol_same limit n (suc n) k j (nat_le k limit) refl (beside limit n l k i j le h u ok) (enough_turns limit k j) zs) ts

    pub unroll_deep : (limit l : ℕ) (i : N) → limit < l → (ts : List T) → read_symbol G F limit (turn_count limit checks.ranks) l i ts ≡ too_deep G.kind (F i) ts
    unroll_deep limit l i h ts = symbol_deep limit (checks.ranks * suc (suc limit)) l i ts (grind (arith, nat_tests))

    pub symbol_takes : (limit l : ℕ) (i : N) (ts : List T) (v : V i) (rest : List T) → read_symbol G F limit (turn_count limit checks.ranks) l i ts ≡ Ok (v, rest) → length rest < length ts
    symbol_takes limit l i ts v rest e =
        let f = (symbol_reader limit l i).sound ts v rest e in
        let fill = filled f.marks f.text in
        let len = ap length f.cut in
        omega (arith, length-append (tokens_of f.marks) rest)
      where
        filled : (ms : List (T × ℕ)) → SymbolText G l i ms v → 0 < length (tokens_of ms)
        filled [] t = absurd (text_none l i v t)
        filled (m ∷ ms) t = omega arith

    -- ** parts of a production

    part_reader : (limit : ℕ) (p : Part N) → is_decided checks.kinds F C p ≡ true → is_inside (λ j. true) false p ≡ true → (l : ℕ) → Reader G.kind limit (PartText G.kind (SymbolText G) l p) (next_kinds F C p) (read_part G.kind F limit (read_symbol G F limit (turn_count limit checks.ranks)) l p)
    part_reader limit p d i l =
        body_reader G.kind checks.kinds F C (SymbolText G) text_none text_first checks.sample checks.sampled checks.some limit (read_symbol G F limit (turn_count limit checks.ranks)) 0 (λ j. true) (λ k g j. symbol_reader limit k j) (λ k g j ok. symbol_reader limit k j) p false l (omega arith) i d

    -- one more turn
    pub turn_law : (limit : ℕ) (p : Part N) → is_decided checks.kinds F C p ≡ true → is_inside (λ j. true) false p ≡ true → may_be_empty p ≡ false → (up : ℕ → ℕ) (l : ℕ) (ts : List T) → starts_with G.kind (first_kinds F p) ts ≡ true
        → read_repeated G.kind (first_kinds F p) up (λ n. read_part G.kind F limit (read_symbol G F limit (turn_count limit checks.ranks)) n p) (length ts) l ts
        ≡ (read_part G.kind F limit (read_symbol G F limit (turn_count limit checks.ranks)) l p ts >>= λ x. read_repeated G.kind (first_kinds F p) up (λ n. read_part G.kind F limit (read_symbol G F limit (turn_count limit checks.ranks)) n p) (length x.1) (up l) x.1 >>= λ y. Ok (x.0 ∷ y.0, y.1))
    turn_law limit p d i full up l ts h =
        repeat_turn G.kind (first_kinds F p) up (λ n. read_part G.kind F limit (read_symbol G F limit (turn_count limit checks.ranks)) n p)
        (λ n zs x rest e.
        let f = (part_reader limit p d i n).sound zs x rest e in
        let fill = filled n f.marks x f.text in
        let len = ap length f.cut in
        omega (arith, length-append (tokens_of f.marks) rest))
        l ts h
      where
        filled : (n : ℕ) (ms : List (T × ℕ)) (x : PartValue T V p) → PartText G.kind (SymbolText G) n p ms x → 0 < length (tokens_of ms)
        filled n [] x t = absurd (not_none G.kind checks.kinds F C (SymbolText G) text_none p full n x t)
        filled n (m ∷ ms) x t = omega arith
