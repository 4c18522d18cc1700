-- Expressions that stand in a range of places, each once.
use Rattle.std.proofs.Common.{◌≡◌, ℕ, zero, suc, ◌<◌, ◌≤◌, List, [], ◌∷◌, ◌++◌, length, sym, ap, subst, inl, inr, arith, length-append}
use Rattle.std.proofs.lemmas.List.Elements.{Contains-append_cases, Contains-append_left, Contains-append_right, Contains-push_cases}
use Rattle.std.specs.Prelude.{Contains, ◌⊎◌}
use Rattle.std.specs.List.{flat_map}
use Rattle.flow_syntax.proofs.Listed.{Contains_here, Contains_behind}
use Rattle.flow_syntax.proofs.Preorders.{preorder_out}
use Rattle.flow_syntax.specs.Accepted.{IsEvenMap}
use Rattle.flow_syntax.specs.Expressions.{expr_layer, parts_of, preorder}
use Rattle.flow_syntax.specs.declared.expr.Expr.{Expr, out-Expr}
use Rattle.flow_term.specs.Orders.{EachOnce}

abbrev pub place_of : Expr → ℕ
place_of e = (out-Expr e).place

-- all expressions of some, with their parts
abbrev pub all_of : List Expr → List Expr
all_of es = flat_map preorder es

-- These expressions have their places in the range, no two of them are equal, and maps have as many values as keys.
pub record AreWithin (lo hi : ℕ) (es : List Expr) : Type 0 where
  pub each : (x : Expr) → Contains es x → (lo ≤ place_of x) × (place_of x < hi)
  pub once : EachOnce es
  pub even : (x : Expr) → Contains es x → IsEvenMap (expr_layer x)

-- ** lists without repeats

pub none_in_nothing : {X : Type 0} (x : X) → ¬ Contains [] x
none_in_nothing x h = absurd (omega (arith, h.1))

pub either : {A B C : Type 0} → (A → C) → (B → C) → A ⊎ B → C
either f g (inl a) = f a
either f g (inr b) = g b

-- an item of a list is its first or one behind
pub first_or_behind : {X : Type 0} (y : X) (xs : List X) (x : X) → Contains (y ∷ xs) x → (y ≡ x) ⊎ Contains xs x
first_or_behind y xs x h = either (λ f. inl (either (λ n. absurd (none_in_nothing x n)) (λ e. e) (Contains-push_cases [] y x f))) inr (Contains-append_cases (y ∷ []) xs x h)

pub once_both : {X : Type 0} (xs ys : List X) → EachOnce xs → EachOnce ys → ((x : X) → Contains xs x → Contains ys x → ⊥) → EachOnce (xs ++ ys)
once_both [] ys f g apart = g
once_both (x ∷ xs) ys f g apart =
    (λ h. either f.0 (apart x (Contains_here x xs)) (Contains-append_cases xs ys x h), once_both xs ys f.1 g (λ y l r. apart y (Contains_behind x xs y l) r))

pub once_front : {X : Type 0} (xs ys : List X) → EachOnce (xs ++ ys) → EachOnce xs
once_front [] ys h = tt
once_front (x ∷ xs) ys h = (λ k. h.0 (Contains-append_left xs ys x k), once_front xs ys h.1)

pub once_back : {X : Type 0} (xs ys : List X) → EachOnce (xs ++ ys) → EachOnce ys
once_back [] ys h = h
once_back (x ∷ xs) ys h = once_back xs ys h.1

pub once_apart : {X : Type 0} (xs ys : List X) → EachOnce (xs ++ ys) → (x : X) → Contains xs x → Contains ys x → ⊥
once_apart [] ys h x l r = none_in_nothing x l
once_apart (y ∷ xs) ys h x l r = either (λ e. h.0 (subst (λ z. Contains (xs ++ ys) z) (sym e) (Contains-append_right xs ys x r))) (λ k. once_apart xs ys h.1 x k r) (first_or_behind y xs x l)

-- ** ranges

pub none_within : (lo hi : ℕ) → AreWithin lo hi []
none_within lo hi = record { each = λ x h. absurd (none_in_nothing x h); once = tt; even = λ x h. absurd (none_in_nothing x h) }

pub widen : (lo hi lo' hi' : ℕ) (es : List Expr) → lo' ≤ lo → hi ≤ hi' → AreWithin lo hi es → AreWithin lo' hi' es
widen lo hi lo' hi' es below above w = record { each = λ x h. (omega (arith, below, (w.each x h).0), omega (arith, above, (w.each x h).1)); once = w.once; even = w.even }

pub both_within : (lo mid hi : ℕ) (xs ys : List Expr) → lo ≤ mid → mid ≤ hi → AreWithin lo mid xs → AreWithin mid hi ys → AreWithin lo hi (xs ++ ys)
both_within lo mid hi xs ys below above v w =
    let f = (widen lo mid lo hi xs (omega arith) above v) in
    let g = (widen mid hi lo hi ys below (omega arith) w) in
    record {
      each = λ x h. either (f.each x) (g.each x) (Contains-append_cases xs ys x h);
      once = once_both xs ys v.once w.once (λ x l r. absurd (omega (arith, (v.each x l).1, (w.each x r).0)));
      even = λ x h. either (v.even x) (w.even x) (Contains-append_cases xs ys x h);
    }

-- ** an expression and its parts

length_all : (es : List Expr) (e : Expr) → Contains es e → length (preorder e) ≤ length (all_of es)
length_all [] e h = absurd (none_in_nothing e h)
length_all (x ∷ es) e h = either
    (λ s. omega (arith, ap (λ (z : Expr). length (preorder z)) s, length-append (preorder x) (all_of es)))
    (λ k. omega (arith, length_all es e k, length-append (preorder x) (all_of es))) (first_or_behind x es e h)

-- an expression among those with parts of some belongs to one of these
pub from_one : (es : List Expr) (x : Expr) → Contains (all_of es) x → (e : Expr) × Contains es e × Contains (preorder e) x
from_one [] x h = absurd (none_in_nothing x h)
from_one (e ∷ es) x h = either (λ f. (e, Contains_here e es, f)) (λ b. let r = from_one es x b in (r.0, Contains_behind e es r.0 r.1, r.2)) (Contains-append_cases (preorder e) (all_of es) x h)

pub itself : (e : Expr) → Contains (preorder e) e
itself e = subst (λ (xs : List Expr). Contains xs e) (sym (preorder_out e)) (Contains_here e (all_of (parts_of e)))

pub in_parts : (e x : Expr) → Contains (all_of (parts_of e)) x → Contains (preorder e) x
in_parts e x h = subst (λ (xs : List Expr). Contains xs x) (sym (preorder_out e)) (Contains_behind e (all_of (parts_of e)) x h)

-- a part of an expression has no more parts than it
fewer_parts : (n : ℕ) (e x : Expr) → length (preorder e) ≤ n → Contains (preorder e) x → length (preorder x) ≤ length (preorder e)
fewer_parts zero e x b h = absurd (omega (arith, h.1, b))
fewer_parts (suc n) e x b h =
    let size : length (preorder e) ≡ suc (length (all_of (parts_of e))) = ap (λ (xs : List Expr). length xs) (preorder_out e) in
    either (λ s. omega (arith, ap (λ (z : Expr). length (preorder z)) s))
    (λ k. let r = from_one (parts_of e) x k in
    let within : length (preorder r.0) ≤ length (all_of (parts_of e)) = length_all (parts_of e) r.0 r.1 in
    omega (arith, size, within, fewer_parts n r.0 x (omega (arith, size, within, b)) r.2))
    (first_or_behind e (all_of (parts_of e)) x (subst (λ (xs : List Expr). Contains xs x) (preorder_out e) h))

-- no expression is a part of itself
pub not_its_part : (e : Expr) → ¬ Contains (all_of (parts_of e)) e
not_its_part e h =
    let r = from_one (parts_of e) e h in
    let size : length (preorder e) ≡ suc (length (all_of (parts_of e))) = ap (λ (xs : List Expr). length xs) (preorder_out e) in
    absurd (omega (arith, size, length_all (parts_of e) r.0 r.1, fewer_parts (length (preorder r.0)) r.0 e (omega arith) r.2))

-- an expression stands in a range where its parts do
pub whole_within : (lo hi : ℕ) (e : Expr) → lo ≤ place_of e → place_of e < hi → IsEvenMap (expr_layer e) → AreWithin lo hi (all_of (parts_of e)) → AreWithin lo hi (preorder e)
whole_within lo hi e below above even w = subst (AreWithin lo hi) (sym (preorder_out e)) (record {
  each = λ x h. either (λ s. subst (λ (z : Expr). (lo ≤ place_of z) × (place_of z < hi)) s (below, above)) (w.each x) (first_or_behind e (all_of (parts_of e)) x h);
  once = (not_its_part e, w.once);
  even = λ x h. either (λ s. subst (λ (z : Expr). IsEvenMap (expr_layer z)) s even) (w.even x) (first_or_behind e (all_of (parts_of e)) x h);
})

pub parts_within : (lo hi : ℕ) (e : Expr) → AreWithin lo hi (preorder e) → AreWithin lo hi (all_of (parts_of e))
parts_within lo hi e w =
    let v : AreWithin lo hi (e ∷ all_of (parts_of e)) = subst (AreWithin lo hi) (preorder_out e) w in
    record { each = λ x h. v.each x (Contains_behind e (all_of (parts_of e)) x h); once = v.once.1; even = λ x h. v.even x (Contains_behind e (all_of (parts_of e)) x h) }

pub place_within : (lo hi : ℕ) (e : Expr) → AreWithin lo hi (preorder e) → (lo ≤ place_of e) × (place_of e < hi)
place_within lo hi e w = w.each e (itself e)

-- ** several in turn

-- one in a part of a range, and nothing else
pub last_within : (lo hi l m : ℕ) (a : Expr) → lo ≤ l → m ≤ hi → AreWithin l m (preorder a) → lo ≤ hi → AreWithin lo hi (all_of (a ∷ []))
last_within lo hi l m a below above w order = both_within lo hi hi (preorder a) [] order (omega arith) (widen l m lo hi (preorder a) below above w) (none_within hi hi)

-- one in a part of a range, and others behind it
pub cons_within : (lo hi l m n : ℕ) (a : Expr) (es : List Expr) → lo ≤ l → m ≤ n → lo ≤ n → n ≤ hi → AreWithin l m (preorder a) → AreWithin n hi (all_of es) → AreWithin lo hi (all_of (a ∷ es))
cons_within lo hi l m n a es below above up down w v = both_within lo n hi (preorder a) (all_of es) up down (widen l m lo n (preorder a) below above w) v

-- two in the lower part of a range and two in the upper one, in another order
pub interleaved : (lo mid hi : ℕ) (a b c d : List Expr) → lo ≤ mid → mid ≤ hi → AreWithin lo mid (a ++ b) → AreWithin mid hi (c ++ d) → AreWithin lo hi ((a ++ c) ++ (b ++ d))
interleaved lo mid hi a b c d below above v w =
    let low : (x : Expr) → Contains a x ⊎ Contains b x → place_of x < mid = λ x h. (v.each x (either (Contains-append_left a b x) (Contains-append_right a b x) h)).1 in
    let high : (x : Expr) → Contains c x ⊎ Contains d x → mid ≤ place_of x = λ x h. (w.each x (either (Contains-append_left c d x) (Contains-append_right c d x) h)).0 in
    let clash : (x : Expr) → Contains a x ⊎ Contains b x → Contains c x ⊎ Contains d x → ⊥ = λ x l r. absurd (omega (arith, low x l, high x r)) in
    let sides : (x : Expr) → Contains ((a ++ c) ++ (b ++ d)) x → Contains (a ++ b) x ⊎ Contains (c ++ d) x = λ x h.
    either (λ k. either (λ l. inl (Contains-append_left a b x l)) (λ r. inr (Contains-append_left c d x r)) (Contains-append_cases a c x k))
    (λ k. either (λ l. inl (Contains-append_right a b x l)) (λ r. inr (Contains-append_right c d x r)) (Contains-append_cases b d x k)) (Contains-append_cases (a ++ c) (b ++ d) x h) in
    let f = widen lo mid lo hi (a ++ b) (omega arith) above v in
    let g = widen mid hi lo hi (c ++ d) below (omega arith) w in
    record {
      each = λ x h. either (f.each x) (g.each x) (sides x h);
      once = once_both (a ++ c) (b ++ d) (once_both a c (once_front a b v.once) (once_front c d w.once) (λ x l r. clash x (inl l) (inl r)))
          (once_both b d (once_back a b v.once) (once_back c d w.once) (λ x l r. clash x (inr l) (inr r)))
          (λ x l r. either (λ i. either (once_apart a b v.once x i) (λ j. clash x (inl i) (inr j)) (Contains-append_cases b d x r))
          (λ i. either (λ j. clash x (inr j) (inl i)) (once_apart c d w.once x i) (Contains-append_cases b d x r)) (Contains-append_cases a c x l));
      even = λ x h. either (v.even x) (w.even x) (sides x h);
    }
