-- What holds of each part of a production, where it holds of the symbols.
use Rattle.std.proofs.Common.{◌≡◌, ℕ, zero, suc, ◌<◌, ◌≤◌, ◌||◌, Bool, true, false, cond, List, [], ◌∷◌, ◌++◌, length, Some, None, Result, Ok, Err, refl, sym, ap, subst, ◌∙◌, append-nil, inl, inr, arith}
use Rattle.std.specs.Prelude.{not, ◌&&◌, ◌==◌}
use Rattle.std.proofs.lemmas.Bool.Decides.{nat_tests}
use Rattle.grammar_theory.proofs.Composition.{one_reader, both, either, not_true, member-append, seq_reader, pick_reader, perhaps_reader, repeat_reader}
use Rattle.grammar_theory.proofs.Readings.{Reader, Facts}
use Rattle.grammar_theory.specs.Choice.{may_be_empty, first_kinds, next_kinds, are_apart, is_decided, is_inside, is_headed}
use Rattle.grammar_theory.specs.Reading.{Outcome, ◌>>=◌, starts_with, read_one_of_two, read_optional, read_repeated, read_part}
use Rattle.grammar_theory.specs.Texts.{member, Part, PartValue, Repeated, PartText, One, Then, Or, Optional, Many, Chain, Nested, Symbol}

same_kind : (k : ℕ) → (k == k) ≡ true
same_kind k = grind (arith, nat_tests)

or_left : (a b : Bool) → a ≡ true → (a || b) ≡ true
or_left a b e = rw e refl

or_right : (a b : Bool) → b ≡ true → (a || b) ≡ true
or_right true b e = refl
or_right false b e = e

and_both : (a b : Bool) → a ≡ true → b ≡ true → (a && b) ≡ true
and_both a b e h = rw (e, h) refl

in_left : (k : ℕ) (xs ys : List ℕ) → member k xs ≡ true → member k (xs ++ ys) ≡ true
in_left k xs ys h = member-append k xs ys ∙ or_left (member k xs) (member k ys) h

in_right : (k : ℕ) (xs ys : List ℕ) → member k ys ≡ true → member k (xs ++ ys) ≡ true
in_right k xs ys h = member-append k xs ys ∙ or_right (member k xs) (member k ys) h

repeat_more : {T X : Type 0} (up : ℕ → ℕ) (A B : ℕ → List (T × ℕ) → X → Type 0) → ((l : ℕ) (ms : List (T × ℕ)) (x : X) → A l ms x → B l ms x) → (l : ℕ) (ms : List (T × ℕ)) (vs : List X) → Repeated up A l ms vs → Repeated up B l ms vs
repeat_more up A B h l ms [] t = t
repeat_more up A B h l ms (v ∷ vs) t = (t.0, t.1, t.2, h l t.0 v t.3, repeat_more up A B h (up l) t.1 vs t.4)

-- what a list of texts begins with
repeat_first : {T X : Type 0} (kind : T → ℕ) (up : ℕ → ℕ) (A : ℕ → List (T × ℕ) → X → Type 0) (P : T × ℕ → Type 0) → ((l : ℕ) (x : X) → A l [] x → ⊥) → ((l : ℕ) (m : T × ℕ) (ms : List (T × ℕ)) (x : X) → A l (m ∷ ms) x → P m)
    → (l : ℕ) (m : T × ℕ) (ms : List (T × ℕ)) (vs : List X) → Repeated up A l (m ∷ ms) vs → P m
repeat_first kind up A P none some l m ms [] t = absurd cc
repeat_first {T} kind up A P none some l m ms (v ∷ vs) t = head_of t.0 t.2 t.3
  where
    head_of : (a : List (T × ℕ)) → (m ∷ ms) ≡ a ++ t.1 → A l a v → P m
    head_of [] e ra = absurd (none l v ra)
    head_of (k ∷ a) e ra = let s : k ≡ m = cc in subst P s (some l k a v ra)

then_first : {T : Type 0} (kind : T → ℕ) (A B : List (T × ℕ) → Type 0) (n : Bool) (f g : List ℕ) → (A [] → n ≡ true) → ((m : T × ℕ) (ms : List (T × ℕ)) → A (m ∷ ms) → member (kind m.0) f ≡ true) → ((m : T × ℕ) (ms : List (T × ℕ)) → B (m ∷ ms) → member (kind m.0) g ≡ true)
    → (m : T × ℕ) (ms a b : List (T × ℕ)) → (m ∷ ms) ≡ a ++ b → A a → B b → member (kind m.0) (f ++ cond n g []) ≡ true
then_first kind A B n f g none here there m ms [] b e x y = rw (none x) (in_right (kind m.0) f g (there m ms (subst B (sym e) y)))
then_first kind A B n f g none here there m ms (k ∷ a) b e x y = let s : k ≡ m = cc in in_left (kind m.0) f (cond n g []) (subst (λ z. member (kind z.0) f ≡ true) s (here k a x))

where_null : (k : ℕ) (n : Bool) (g : List ℕ) → member k (cond n g []) ≡ true → (n ≡ true) × (member k g ≡ true)
where_null k true g e = (refl, e)
where_null k false g e = absurd cc

repeat_low : {T X : Type 0} (up : ℕ → ℕ) (A : ℕ → List (T × ℕ) → X → Type 0) → ((l : ℕ) (x : X) → A l [] x → ⊥) → ((l : ℕ) (m : T × ℕ) (ms : List (T × ℕ)) (x : X) → A l (m ∷ ms) x → l ≤ m.1)
    → (l : ℕ) (m : T × ℕ) (ms : List (T × ℕ)) (vs : List X) → Repeated up A l (m ∷ ms) vs → l ≤ m.1
repeat_low up A none some l m ms [] t = absurd cc
repeat_low {T} up A none some l m ms (v ∷ vs) t = head_of t.0 t.2 t.3
  where
    head_of : (a : List (T × ℕ)) → (m ∷ ms) ≡ a ++ t.1 → A l a v → l ≤ m.1
    head_of [] e ra = absurd (none l v ra)
    head_of (k ∷ a) e ra = let s : k ≡ m = cc in subst (λ z. l ≤ z.1) s (some l k a v ra)

then_low : {T : Type 0} (A B : List (T × ℕ) → Type 0) (l : ℕ) → ((m : T × ℕ) (ms : List (T × ℕ)) → A (m ∷ ms) → l ≤ m.1) → ((m : T × ℕ) (ms : List (T × ℕ)) → B (m ∷ ms) → l ≤ m.1)
    → (m : T × ℕ) (ms a b : List (T × ℕ)) → (m ∷ ms) ≡ a ++ b → A a → B b → l ≤ m.1
then_low A B l here there m ms [] b e x y = there m ms (subst B (sym e) y)
then_low A B l here there m ms (k ∷ a) b e x y = let s : k ≡ m = cc in subst (λ z. l ≤ z.1) s (here k a x)

empty_both : {A : Type 0} (a b : List A) → [] ≡ a ++ b → (a ≡ []) × (b ≡ [])
empty_both [] [] e = (refl, refl)
empty_both [] (x ∷ b) e = absurd cc
empty_both (x ∷ a) b e = absurd cc

higher : (base : ℕ) (b : Bool) (l n : ℕ) → l ≤ n → base < cond b l (suc l) → base < cond b n (suc n)
higher base true l n g h = omega arith
higher base false l n g h = omega arith

deeper : (base : ℕ) (b : Bool) (l : ℕ) → base < cond b l (suc l) → base < suc l
deeper base true l h = omega arith
deeper base false l h = omega arith

-- what is checked of a part, by name
pub record Two {N : Type 0} (K : ℕ) (F C : N → List ℕ) (p q : Part N) : Type 0 where
  pub left : is_decided K F C p ≡ true
  pub right : is_decided K F C q ≡ true
  pub left_full : may_be_empty p ≡ false
  pub right_full : may_be_empty q ≡ false
  pub choice : are_apart (first_kinds F q) (first_kinds F p) ≡ true

pub or_decided : {N : Type 0} {K : ℕ} {F C : N → List ℕ} (p q : Part N) → is_decided K F C (Or p q) ≡ true → Two K F C p q
or_decided {N} {K} {F} {C} p q d =
    let a = both (((is_decided K F C p && is_decided K F C q) && not (may_be_empty p)) && not (may_be_empty q)) (are_apart (first_kinds F q) (first_kinds F p)) d in
    let b = both ((is_decided K F C p && is_decided K F C q) && not (may_be_empty p)) (not (may_be_empty q)) a.0 in
    let c = both (is_decided K F C p && is_decided K F C q) (not (may_be_empty p)) b.0 in
    let e = both (is_decided K F C p) (is_decided K F C q) c.0 in
    record { left = e.0; right = e.1; left_full = not_true (may_be_empty p) c.1; right_full = not_true (may_be_empty q) b.1; choice = a.1 }

pub record Turn {N : Type 0} (K : ℕ) (F C : N → List ℕ) (p : Part N) : Type 0 where
  pub item : is_decided K F C p ≡ true
  pub full : may_be_empty p ≡ false
  pub choice : are_apart (first_kinds F p) (next_kinds F C p) ≡ true

pub many_decided : {N : Type 0} {K : ℕ} {F C : N → List ℕ} (p : Part N) → is_decided K F C (Many p) ≡ true → Turn K F C p
many_decided {N} {K} {F} {C} p d =
    let a = both (is_decided K F C p && not (may_be_empty p)) (are_apart (first_kinds F p) (next_kinds F C p)) d in
    let b = both (is_decided K F C p) (not (may_be_empty p)) a.0 in
    record { item = b.0; full = not_true (may_be_empty p) b.1; choice = a.1 }

module _ {N T : Type 0} {V : N → Type 0} (kind : T → ℕ) (K : ℕ) (F C : N → List ℕ) (R : ℕ → (i : N) → List (T × ℕ) → V i → Type 0) where
  -- the texts of more symbols are texts
  pub lang_more : (S : ℕ → (i : N) → List (T × ℕ) → V i → Type 0) → ((l : ℕ) (i : N) (ms : List (T × ℕ)) (v : V i) → R l i ms v → S l i ms v)
      → (p : Part N) (l : ℕ) (ms : List (T × ℕ)) (v : PartValue T V p) → PartText kind R l p ms v → PartText kind S l p ms v
  lang_more S h (One ks) l ms v t = t
  lang_more S h (Then p q) l ms v t = (t.0, t.1, t.2, lang_more S h p l t.0 v.0 t.3, lang_more S h q l t.1 v.1 t.4)
  lang_more S h (Or p q) l ms (inl x) t = lang_more S h p l ms x t
  lang_more S h (Or p q) l ms (inr y) t = lang_more S h q l ms y t
  lang_more S h (Optional p) l ms None t = t
  lang_more S h (Optional p) l ms (Some x) t = lang_more S h p l ms x t
  lang_more S h (Many p) l ms vs t = repeat_more (λ n. n) (λ n. PartText kind R n p) (λ n. PartText kind S n p) (λ n ks x u. lang_more S h p n ks x u) l ms vs t
  lang_more S h (Chain p) l ms vs t = repeat_more suc (λ n. PartText kind R n p) (λ n. PartText kind S n p) (λ n ks x u. lang_more S h p n ks x u) l ms vs t
  lang_more S h (Nested p) l ms v t = lang_more S h p (suc l) ms v t
  lang_more S h (Symbol i) l ms v t = h l i ms v t

  module _ (ref_none : (l : ℕ) (i : N) (v : V i) → R l i [] v → ⊥) where
    pub lang_none : (p : Part N) (l : ℕ) (v : PartValue T V p) → PartText kind R l p [] v → may_be_empty p ≡ true
    lang_none (One ks) l v t = absurd (let e = t.0 in cc)
    lang_none (Then p q) l v t =
        let e = empty_both t.0 t.1 t.2 in
        and_both (may_be_empty p) (may_be_empty q) (lang_none p l v.0 (subst (λ a. PartText kind R l p a v.0) e.0 t.3)) (lang_none q l v.1 (subst (λ a. PartText kind R l q a v.1) e.1 t.4))
    lang_none (Or p q) l (inl x) t = or_left (may_be_empty p) (may_be_empty q) (lang_none p l x t)
    lang_none (Or p q) l (inr x) t = or_right (may_be_empty p) (may_be_empty q) (lang_none q l x t)
    lang_none (Optional p) l v t = refl
    lang_none (Many p) l v t = refl
    lang_none (Chain p) l v t = refl
    lang_none (Nested p) l v t = lang_none p (suc l) v t
    lang_none (Symbol i) l v t = absurd (ref_none l i v t)

    -- a part that begins with a token of its own takes at least one
    pub not_none : (p : Part N) → may_be_empty p ≡ false → (l : ℕ) (v : PartValue T V p) → PartText kind R l p [] v → ⊥
    not_none p e l v t = let h = lang_none p l v t in absurd cc

    -- ** nesting
    pub lang_low : ((l : ℕ) (i : N) (m : T × ℕ) (ms : List (T × ℕ)) (v : V i) → R l i (m ∷ ms) v → l ≤ m.1) → (p : Part N) → is_decided K F C p ≡ true → (l : ℕ) (m : T × ℕ) (ms : List (T × ℕ)) (v : PartValue T V p) → PartText kind R l p (m ∷ ms) v → l ≤ m.1
    lang_low g (One ks) d l m ms v t = let e = t.0 in let s : (v, l) ≡ m = cc in subst (λ x. l ≤ x.1) s (omega arith)
    lang_low g (Then p q) d l m ms v t =
        let d1 = both (is_decided K F C p && is_decided K F C q) (are_apart (first_kinds F q) (next_kinds F C p)) d in
        let d2 = both (is_decided K F C p) (is_decided K F C q) d1.0 in
        then_low (λ a. PartText kind R l p a v.0) (λ b. PartText kind R l q b v.1) l (λ k a u. lang_low g p d2.0 l k a v.0 u) (λ k b u. lang_low g q d2.1 l k b v.1 u) m ms t.0 t.1 t.2 t.3 t.4
    lang_low g (Or p q) d l m ms (inl x) t = lang_low g p (or_decided p q d).left l m ms x t
    lang_low g (Or p q) d l m ms (inr x) t = lang_low g q (or_decided p q d).right l m ms x t
    lang_low g (Optional p) d l m ms None t = absurd cc
    lang_low g (Optional p) d l m ms (Some x) t = lang_low g p (both (is_decided K F C p) (not (may_be_empty p)) d).0 l m ms x t
    lang_low g (Many p) d l m ms vs t =
        repeat_low (λ n. n) (λ n. PartText kind R n p) (λ n x u. not_none p (many_decided p d).full n x u) (λ n k ks x u. lang_low g p (many_decided p d).item n k ks x u) l m ms vs t
    lang_low g (Chain p) d l m ms vs t =
        repeat_low suc (λ n. PartText kind R n p) (λ n x u. not_none p (many_decided p d).full n x u) (λ n k ks x u. lang_low g p (many_decided p d).item n k ks x u) l m ms vs t
    lang_low g (Nested p) d l m ms v t = let h = lang_low g p d (suc l) m ms v t in omega arith
    lang_low g (Symbol i) d l m ms v t = g l i m ms v t

    module _ (ref_first : (l : ℕ) (i : N) (m : T × ℕ) (ms : List (T × ℕ)) (v : V i) → R l i (m ∷ ms) v → member (kind m.0) (F i) ≡ true) where
      pub lang_first : (p : Part N) → is_decided K F C p ≡ true → (l : ℕ) (m : T × ℕ) (ms : List (T × ℕ)) (v : PartValue T V p) → PartText kind R l p (m ∷ ms) v → member (kind m.0) (first_kinds F p) ≡ true
      lang_first (One ks) d l m ms v t = let e = t.0 in let s : (v, l) ≡ m = cc in subst (λ x. member (kind x.0) ks ≡ true) s t.1
      lang_first (Then p q) d l m ms v t =
          let d1 = both (is_decided K F C p && is_decided K F C q) (are_apart (first_kinds F q) (next_kinds F C p)) d in
          let d2 = both (is_decided K F C p) (is_decided K F C q) d1.0 in
          then_first kind (λ a. PartText kind R l p a v.0) (λ b. PartText kind R l q b v.1) (may_be_empty p) (first_kinds F p) (first_kinds F q) (λ u. lang_none p l v.0 u)
          (λ k a u. lang_first p d2.0 l k a v.0 u) (λ k b u. lang_first q d2.1 l k b v.1 u) m ms t.0 t.1 t.2 t.3 t.4
      lang_first (Or p q) d l m ms (inl x) t = in_left (kind m.0) (first_kinds F p) (first_kinds F q) (lang_first p (or_decided p q d).left l m ms x t)
      lang_first (Or p q) d l m ms (inr x) t = in_right (kind m.0) (first_kinds F p) (first_kinds F q) (lang_first q (or_decided p q d).right l m ms x t)
      lang_first (Optional p) d l m ms None t = absurd cc
      lang_first (Optional p) d l m ms (Some x) t = lang_first p (both (is_decided K F C p) (not (may_be_empty p)) d).0 l m ms x t
      lang_first (Many p) d l m ms vs t =
          repeat_first kind (λ n. n) (λ n. PartText kind R n p) (λ k. member (kind k.0) (first_kinds F p) ≡ true) (λ n x u. not_none p (many_decided p d).full n x u) (λ n k ks x u. lang_first p (many_decided p d).item n k ks x u) l m ms vs t
      lang_first (Chain p) d l m ms vs t =
          repeat_first kind suc (λ n. PartText kind R n p) (λ k. member (kind k.0) (first_kinds F p) ≡ true) (λ n x u. not_none p (many_decided p d).full n x u) (λ n k ks x u. lang_first p (many_decided p d).item n k ks x u) l m ms vs t
      lang_first (Nested p) d l m ms v t = lang_first p d (suc l) m ms v t
      lang_first (Symbol i) d l m ms v t = ref_first l i m ms v t

      module _ (sample : ℕ → T) (sampled : (k : ℕ) → k < K → kind (sample k) ≡ k) (ref_some : (l : ℕ) (i : N) → (ms : List (T × ℕ)) × (v : V i) × R l i ms v) where
        pub lang_some : (p : Part N) → is_decided K F C p ≡ true → (l : ℕ) → (ms : List (T × ℕ)) × (v : PartValue T V p) × PartText kind R l p ms v
        lang_some (One []) d l = absurd cc
        lang_some (One (k ∷ ks)) d l = ((sample k, l) ∷ [], sample k, (refl, subst (λ j. member j (k ∷ ks) ≡ true) (sym (sampled k (grind (arith, nat_tests)))) (or_left (k == k) (member k ks) (same_kind k))))
        lang_some (Then p q) d l =
            let d1 = both (is_decided K F C p && is_decided K F C q) (are_apart (first_kinds F q) (next_kinds F C p)) d in
            let d2 = both (is_decided K F C p) (is_decided K F C q) d1.0 in
            let x = lang_some p d2.0 l in
            let y = lang_some q d2.1 l in
            (x.0 ++ y.0, (x.1, y.1), (x.0, y.0, refl, x.2, y.2))
        lang_some (Or p q) d l = let x = lang_some p (or_decided p q d).left l in (x.0, inl x.1, x.2)
        lang_some (Optional p) d l = ([], None, refl)
        lang_some (Many p) d l = ([], [], refl)
        lang_some (Chain p) d l = ([], [], refl)
        lang_some (Nested p) d l = lang_some p d (suc l)
        lang_some (Symbol i) d l = ref_some l i

        pub lang_facts : (p : Part N) → is_decided K F C p ≡ true → (l : ℕ) → Facts kind (PartText kind R l p) (may_be_empty p) (first_kinds F p)
        lang_facts p d l = record { first_kinds = λ m ms v t. lang_first p d l m ms v t; none = λ v t. lang_none p l v t; some = lang_some p d l }

        full_facts : (p : Part N) → is_decided K F C p ≡ true → may_be_empty p ≡ false → (l : ℕ) → Facts kind (PartText kind R l p) false (first_kinds F p)
        full_facts p d e l = subst (λ n. Facts kind (PartText kind R l p) n (first_kinds F p)) e (lang_facts p d l)

        -- a part that may be empty has an empty text
        lang_empty : (p : Part N) → may_be_empty p ≡ true → (l : ℕ) → (v : PartValue T V p) × PartText kind R l p [] v
        lang_empty (One ks) e l = absurd cc
        lang_empty (Then p q) e l =
            let a = both (may_be_empty p) (may_be_empty q) e in
            let x = lang_empty p a.0 l in
            let y = lang_empty q a.1 l in
            ((x.0, y.0), ([], [], refl, x.1, y.1))
        lang_empty (Or p q) e l = elim (either (may_be_empty p) (may_be_empty q) e) [ inl g ↦ (let x = lang_empty p g l in (inl x.0, x.1)) | inr g ↦ (let x = lang_empty q g l in (inr x.0, x.1)) ]
        lang_empty (Optional p) e l = (None, refl)
        lang_empty (Many p) e l = ([], refl)
        lang_empty (Chain p) e l = ([], refl)
        lang_empty (Nested p) e l = lang_empty p e (suc l)
        lang_empty (Symbol i) e l = absurd cc

        -- a token with which a part begins begins a text of it
        pub lang_opens : (ok : N → Bool) → ((i : N) → ok i ≡ true → (l : ℕ) (t : T) → member (kind t) (F i) ≡ true → (k : ℕ) × (ms : List (T × ℕ)) × (v : V i) × R l i ((t, k) ∷ ms) v)
            → (p : Part N) → is_decided K F C p ≡ true → is_headed ok p ≡ true → (l : ℕ) (t : T) → member (kind t) (first_kinds F p) ≡ true → (k : ℕ) × (ms : List (T × ℕ)) × (v : PartValue T V p) × PartText kind R l p ((t, k) ∷ ms) v
        lang_opens ok known (One ks) d h l t e = (l, [], t, (refl, e))
        lang_opens ok known (Then p q) d h l t e =
            let d1 = both (is_decided K F C p && is_decided K F C q) (are_apart (first_kinds F q) (next_kinds F C p)) d in
            let d2 = both (is_decided K F C p) (is_decided K F C q) d1.0 in
            let h1 = both (is_headed ok p) (not (may_be_empty p) || is_headed ok q) h in
            elim (either (member (kind t) (first_kinds F p)) (member (kind t) (cond (may_be_empty p) (first_kinds F q) [])) (sym (member-append (kind t) (first_kinds F p) (cond (may_be_empty p) (first_kinds F q) [])) ∙ e)) [
              | inl g ↦
                  let x = lang_opens ok known p d2.0 h1.0 l t g in
                  let y = lang_some q d2.1 l in
                  (x.0, x.1 ++ y.0, (x.2, y.1), ((t, x.0) ∷ x.1, y.0, refl, x.3, y.2))
              | inr g ↦
                  let w = where_null (kind t) (may_be_empty p) (first_kinds F q) g in
                  let headed : is_headed ok q ≡ true = subst (λ n. (not n || is_headed ok q) ≡ true) w.0 h1.1 in
                  let x = lang_empty p w.0 l in
                  let y = lang_opens ok known q d2.1 headed l t w.1 in
                  (y.0, y.1, (x.0, y.2), ([], (t, y.0) ∷ y.1, refl, x.1, y.3))
            ]
        lang_opens ok known (Or p q) d h l t e =
            let h1 = both (is_headed ok p) (is_headed ok q) h in
            elim (either (member (kind t) (first_kinds F p)) (member (kind t) (first_kinds F q)) (sym (member-append (kind t) (first_kinds F p) (first_kinds F q)) ∙ e)) [
              | inl g ↦ let x = lang_opens ok known p (or_decided p q d).left h1.0 l t g in (x.0, x.1, inl x.2, x.3)
              | inr g ↦ let x = lang_opens ok known q (or_decided p q d).right h1.1 l t g in (x.0, x.1, inr x.2, x.3)
            ]
        lang_opens ok known (Optional p) d h l t e = let x = lang_opens ok known p (both (is_decided K F C p) (not (may_be_empty p)) d).0 h l t e in (x.0, x.1, Some x.2, x.3)
        lang_opens ok known (Many p) d h l t e = let x = lang_opens ok known p (many_decided p d).item h l t e in (x.0, x.1, x.2 ∷ [], ((t, x.0) ∷ x.1, [], sym (append-nil ((t, x.0) ∷ x.1)), x.3, refl))
        lang_opens ok known (Chain p) d h l t e = let x = lang_opens ok known p (many_decided p d).item h l t e in (x.0, x.1, x.2 ∷ [], ((t, x.0) ∷ x.1, [], sym (append-nil ((t, x.0) ∷ x.1)), x.3, refl))
        lang_opens ok known (Nested p) d h l t e = lang_opens ok known p d h (suc l) t e
        lang_opens ok known (Symbol i) d h l t e = known i h l t e

        -- ** reading
        module _ (limit : ℕ) (r : ℕ → (i : N) → List T → Outcome T (V i)) (base : ℕ) (ok : N → Bool) (known : (l : ℕ) → base < l → (i : N) → Reader kind limit (R l i) (C i) (r l i))
            (here : (l : ℕ) → base ≤ l → (i : N) → ok i ≡ true → Reader kind limit (R l i) (C i) (r l i)) where
          pub body_reader : (p : Part N) (b : Bool) (l : ℕ) → base < cond b l (suc l) → is_inside ok b p ≡ true → is_decided K F C p ≡ true → Reader kind limit (PartText kind R l p) (next_kinds F C p) (read_part kind F limit r l p)
          body_reader (One []) b l h s d = absurd cc
          body_reader (One (k ∷ ks)) b l h s d = one_reader kind limit l (k ∷ ks) (sample k) (subst (λ j. member j (k ∷ ks) ≡ true) (sym (sampled k (grind (arith, nat_tests)))) (or_left (k == k) (member k ks) (same_kind k)))
          body_reader (Then p q) b l h s d =
              let d1 = both (is_decided K F C p && is_decided K F C q) (are_apart (first_kinds F q) (next_kinds F C p)) d in
              let d2 = both (is_decided K F C p) (is_decided K F C q) d1.0 in
              let s1 = both (is_inside ok b p) (is_inside ok b q) s in
              seq_reader kind limit (PartText kind R l p) (PartText kind R l q) (may_be_empty q) (first_kinds F q) (next_kinds F C p) (next_kinds F C q) (read_part kind F limit r l p) (read_part kind F limit r l q)
              (body_reader p b l h s1.0 d2.0) (body_reader q b l h s1.1 d2.1) (lang_facts q d2.1 l) d1.1
          body_reader (Or p q) b l h s d =
              let d1 = or_decided p q d in
              let s1 = both (is_inside ok b p) (is_inside ok b q) s in
              pick_reader kind limit (PartText kind R l p) (PartText kind R l q) (first_kinds F p) (first_kinds F q) (next_kinds F C p) (next_kinds F C q) (read_part kind F limit r l p) (read_part kind F limit r l q)
              (body_reader p b l h s1.0 d1.left) (body_reader q b l h s1.1 d1.right) (full_facts p d1.left d1.left_full l) (full_facts q d1.right d1.right_full l) d1.choice
          body_reader (Optional p) b l h s d =
              let d1 = both (is_decided K F C p) (not (may_be_empty p)) d in
              perhaps_reader kind limit (PartText kind R l p) (first_kinds F p) (next_kinds F C p) (read_part kind F limit r l p) (body_reader p b l h s d1.0) (full_facts p d1.0 (not_true (may_be_empty p) d1.1) l)
          body_reader (Many p) b l h s d =
              let d1 = many_decided p d in
              repeat_reader kind limit l (λ n. n) (λ n g. g) (λ n. PartText kind R n p) (first_kinds F p) (next_kinds F C p) (λ n. read_part kind F limit r n p) (λ n g. body_reader p b n (higher base b l n g h) s d1.item)
              (λ n. full_facts p d1.item d1.full n) d1.choice l (omega arith)
          body_reader (Chain p) b l h s d =
              let d1 = many_decided p d in
              repeat_reader kind limit l suc (λ n g. omega arith) (λ n. PartText kind R n p) (first_kinds F p) (next_kinds F C p) (λ n. read_part kind F limit r n p) (λ n g. body_reader p b n (higher base b l n g h) s d1.item)
              (λ n. full_facts p d1.item d1.full n) d1.choice l (omega arith)
          body_reader (Nested p) b l h s d = body_reader p true (suc l) (deeper base b l h) s d
          body_reader (Symbol i) true l h s d = known l h i
          body_reader (Symbol i) false l h s d = here l (omega arith) i s

-- ** the same reading of the symbols

bind_same : {A B E : Type 0} (o p : Result A E) (f g : A → Result B E) → o ≡ p → ((x : A) → f x ≡ g x) → (o >>= f) ≡ (p >>= g)
bind_same {A} {B} {E} o p f g e h = ap (λ z. z >>= f) e ∙ at p
  where
    at : (p : Result A E) → (p >>= f) ≡ (p >>= g)
    at (Ok x) = h x
    at (Err d) = refl

pick_same : {T X Y : Type 0} (b : Bool) (r r' : List T → Outcome T X) (s s' : List T → Outcome T Y) (ts : List T) → r ts ≡ r' ts → s ts ≡ s' ts → read_one_of_two b r s ts ≡ read_one_of_two b r' s' ts
pick_same true r r' s s' ts e h = rw e refl
pick_same false r r' s s' ts e h = rw h refl

perhaps_same : {T X : Type 0} (b : Bool) (r r' : List T → Outcome T X) (ts : List T) → r ts ≡ r' ts → read_optional b r ts ≡ read_optional b r' ts
perhaps_same true r r' ts e = rw e refl
perhaps_same false r r' ts e = refl

repeat_same : {T X : Type 0} (kind : T → ℕ) (f : List ℕ) (base : ℕ) (up : ℕ → ℕ) → ((l : ℕ) → base ≤ l → base ≤ up l) → (r r' : ℕ → List T → Outcome T X) → ((l : ℕ) → base ≤ l → (ts : List T) → r l ts ≡ r' l ts)
    → (n l : ℕ) → base ≤ l → (ts : List T) → read_repeated kind f up r n l ts ≡ read_repeated kind f up r' n l ts
repeat_same kind f base up rises r r' same zero l h ts = refl
repeat_same {T} {X} kind f base up rises r r' same (suc n) l h ts =
    turn (starts_with kind f ts) (bind_same (r l ts) (r' l ts) (λ x. read_repeated kind f up r n (up l) x.1 >>= λ y. Ok (x.0 ∷ y.0, y.1)) (λ x. read_repeated kind f up r' n (up l) x.1 >>= λ y. Ok (x.0 ∷ y.0, y.1)) (same l h ts)
    (λ x. rw (repeat_same kind f base up rises r r' same n (up l) (rises l h) x.1) refl))
  where
    turn : (b : Bool) {x y : Outcome T (List X)} → x ≡ y → cond b x (Ok ([], ts)) ≡ cond b y (Ok ([], ts))
    turn b e = rw e refl

module _ {N T : Type 0} {V : N → Type 0} (kind : T → ℕ) (F : N → List ℕ) (limit base : ℕ) (ok : N → Bool) (r s : ℕ → (i : N) → List T → Outcome T (V i))
    (known : (k : ℕ) (j : N) (zs : List T) → base < k → r k j zs ≡ s k j zs) (here : (k : ℕ) (j : N) (zs : List T) → base ≤ k → ok j ≡ true → r k j zs ≡ s k j zs) where
  pub same_body : (p : Part N) (b : Bool) (l : ℕ) → base < cond b l (suc l) → is_inside ok b p ≡ true → (ts : List T) → read_part kind F limit r l p ts ≡ read_part kind F limit s l p ts
  same_body (One ks) b l h i ts = refl
  same_body (Then p q) b l h i ts =
      let i1 = both (is_inside ok b p) (is_inside ok b q) i in
      bind_same (read_part kind F limit r l p ts) (read_part kind F limit s l p ts) (λ x. read_part kind F limit r l q x.1 >>= λ y. Ok ((x.0, y.0), y.1)) (λ x. read_part kind F limit s l q x.1 >>= λ y. Ok ((x.0, y.0), y.1)) (same_body p b l h i1.0 ts)
      (λ x. rw (same_body q b l h i1.1 x.1) refl)
  same_body (Or p q) b l h i ts =
      let i1 = both (is_inside ok b p) (is_inside ok b q) i in
      pick_same (starts_with kind (first_kinds F p) ts) (read_part kind F limit r l p) (read_part kind F limit s l p) (read_part kind F limit r l q) (read_part kind F limit s l q) ts (same_body p b l h i1.0 ts) (same_body q b l h i1.1 ts)
  same_body (Optional p) b l h i ts = perhaps_same (starts_with kind (first_kinds F p) ts) (read_part kind F limit r l p) (read_part kind F limit s l p) ts (same_body p b l h i ts)
  same_body (Many p) b l h i ts = repeat_same kind (first_kinds F p) l (λ n. n) (λ n g. g) (λ n. read_part kind F limit r n p) (λ n. read_part kind F limit s n p) (λ n g zs. same_body p b n (higher base b l n g h) i zs) (length ts) l (omega arith) ts
  same_body (Chain p) b l h i ts = repeat_same kind (first_kinds F p) l suc (λ n g. omega arith) (λ n. read_part kind F limit r n p) (λ n. read_part kind F limit s n p) (λ n g zs. same_body p b n (higher base b l n g h) i zs) (length ts) l (omega arith) ts
  same_body (Nested p) b l h i ts = same_body p true (suc l) (deeper base b l h) i ts
  same_body (Symbol i) true l h e ts = known l i ts h
  same_body (Symbol i) false l h e ts = here l i ts (omega arith) e
