-- Pairs, lists of parts and calls follow their parts by their modes.
use Rattle.std.proofs.Common.{◌≡◌, refl, sym, ap, subst}
use Rattle.flow_term.specs.declared.value.Value.{Value, out-Value}
use Rattle.flow_term.specs.declared.value.Value.TheVariants as value
use Rattle.flow_syntax.specs.declared.property.Mode.{Mode}
use Rattle.flow_syntax.specs.declared.property.Mode.TheVariants as mode
use Rattle.flow_syntax.specs.Types.{pair_sort}
use Rattle.value_domains.specs.Values.{left_in, right_in}
use Rattle.value_domains.specs.Lawful.{IsLawful}
use Rattle.expr_meaning.specs.Ranges.{Range, values, elements, domain_in}
use Rattle.value_domains.specs.Domains.{Domain, pair_of, IsBelowIn}
use Rattle.expr_meaning.specs.Meaning.{Meaning, a_value, value_in, first_of, second_of, pair_meaning}
use Rattle.expr_meaning.specs.Modes.{combined, needs}
use Rattle.expr_meaning.specs.Monotone.{Moves, IsBelowAs}
use Rattle.expr_meaning.specs.Typing.{IsIn, IsFirst, IsSecond, IsPair, of_values, of_elements}
use Rattle.expr_meaning.proofs.Moving.{combine, raise}
use Rattle.expr_meaning.proofs.FormMoves.{itself_as}

first_value : (d : Domain) (m : Meaning) → IsIn (values d) m → value_in (first_of m) ≡ left_in (out-Value (value_in m))
first_value d (a_value v) h = refl
first_value d _ h = absurd h

second_value : (d : Domain) (m : Meaning) → IsIn (values d) m → value_in (second_of m) ≡ right_in (out-Value (value_in m))
second_value d (a_value v) h = refl
second_value d _ h = absurd h

pair_value : (d : Domain) (a b : Meaning) → IsIn (values d) a → value_in (pair_meaning a b) ≡ value.Pair (value_in a) (value_in b)
pair_value d (a_value v) b h = refl
pair_value d _ b h = absurd h

pub first_moves : (own r : Range) → IsFirst own r → (m : Mode) (x y : Meaning) → IsIn r x → IsIn r y → Moves m (IsBelowAs r) x y → Moves m (IsBelowAs own) (first_of x) (first_of y)
first_moves _ _ (of_values l r) m x y inx iny h =
    raise (IsBelowAs (values (pair_of l r))) (IsBelowAs (values l)) x y (first_of x) (first_of y)
    (λ k. subst (λ v. IsBelowIn l v (value_in (first_of y))) (sym (first_value (pair_of l r) x inx)) (subst (IsBelowIn l (left_in (out-Value (value_in x)))) (sym (first_value (pair_of l r) y iny)) k.0))
    (λ k. subst (λ v. IsBelowIn l v (value_in (first_of x))) (sym (first_value (pair_of l r) y iny)) (subst (IsBelowIn l (left_in (out-Value (value_in y)))) (sym (first_value (pair_of l r) x inx)) k.0))
    (ap first_of) m h
first_moves _ _ (of_elements s t) m x y inx iny h = raise (IsBelowAs (elements (pair_sort s t))) (IsBelowAs (elements s)) x y (first_of x) (first_of y) (ap first_of) (ap first_of) (ap first_of) m h

pub second_moves : (own r : Range) → IsSecond own r → (m : Mode) (x y : Meaning) → IsIn r x → IsIn r y → Moves m (IsBelowAs r) x y → Moves m (IsBelowAs own) (second_of x) (second_of y)
second_moves _ _ (of_values l r) m x y inx iny h =
    raise (IsBelowAs (values (pair_of l r))) (IsBelowAs (values r)) x y (second_of x) (second_of y)
    (λ k. subst (λ v. IsBelowIn r v (value_in (second_of y))) (sym (second_value (pair_of l r) x inx)) (subst (IsBelowIn r (right_in (out-Value (value_in x)))) (sym (second_value (pair_of l r) y iny)) k.1))
    (λ k. subst (λ v. IsBelowIn r v (value_in (second_of x))) (sym (second_value (pair_of l r) y iny)) (subst (IsBelowIn r (right_in (out-Value (value_in y)))) (sym (second_value (pair_of l r) x inx)) k.1))
    (ap second_of) m h
second_moves _ _ (of_elements s t) m x y inx iny h = raise (IsBelowAs (elements (pair_sort s t))) (IsBelowAs (elements t)) x y (second_of x) (second_of y) (ap second_of) (ap second_of) (ap second_of) m h

pair_below : (l r : Domain) (a1 a2 b1 b2 : Value) → IsBelowIn l a1 a2 → IsBelowIn r b1 b2 → IsBelowIn (pair_of l r) (value.Pair a1 b1) (value.Pair a2 b2)
pair_below l r a1 a2 b1 b2 h k =
    subst (λ x. IsBelowIn l (left_in x) (left_in (out-Value (value.Pair a2 b2))) × IsBelowIn r (right_in x) (right_in (out-Value (value.Pair a2 b2)))) (sym (value.outs-Pair a1 b1))
    (subst (λ y. IsBelowIn l a1 (left_in y) × IsBelowIn r b1 (right_in y)) (sym (value.outs-Pair a2 b2)) (h, k))

pub pair_moves : (own r s : Range) → IsPair own r s → IsLawful (domain_in r) → IsLawful (domain_in s) → (m n : Mode) (a1 a2 b1 b2 : Meaning) → IsIn r a1 → IsIn r a2 → IsIn s b1
    → Moves m (IsBelowAs r) a1 a2 → Moves n (IsBelowAs s) b1 b2 → Moves (combined m n) (IsBelowAs own) (pair_meaning a1 b1) (pair_meaning a2 b2)
pair_moves _ _ _ (of_values l r) lawful_l lawful_r m n a1 a2 b1 b2 in1 in2 inb h k =
    combine (IsBelowAs (values l)) (IsBelowAs (values r)) (IsBelowAs (values (pair_of l r))) a1 a2 b1 b2 (pair_meaning a1 b1) (pair_meaning a2 b2) (itself_as (values l) lawful_l a1 in1) (itself_as (values r) lawful_r b1 inb)
    (λ h k. made a1 a2 b1 b2 in1 in2 h k) (λ h k. made a2 a1 b2 b1 in2 in1 h k) (λ h k i. pair_meaning (h i) (k i)) m n h k
  where
    made : (x y u v : Meaning) → IsIn (values l) x → IsIn (values l) y → IsBelowAs (values l) x y → IsBelowAs (values r) u v → IsBelowAs (values (pair_of l r)) (pair_meaning x u) (pair_meaning y v)
    made x y u v inx iny h k =
        subst (λ p. IsBelowIn (pair_of l r) p (value_in (pair_meaning y v))) (sym (pair_value l x u inx))
        (subst (IsBelowIn (pair_of l r) (value.Pair (value_in x) (value_in u))) (sym (pair_value l y v iny)) (pair_below l r (value_in x) (value_in y) (value_in u) (value_in v) h k))
pair_moves _ _ _ (of_elements s t) lawful_l lawful_r m n a1 a2 b1 b2 in1 in2 inb h k =
    combine (IsBelowAs (elements s)) (IsBelowAs (elements t)) (IsBelowAs (elements (pair_sort s t))) a1 a2 b1 b2 (pair_meaning a1 b1) (pair_meaning a2 b2) refl refl
    (λ h k i. pair_meaning (h i) (k i)) (λ h k i. pair_meaning (h i) (k i)) (λ h k i. pair_meaning (h i) (k i)) m n h k

-- LISTS OF PARTS

pub both_fixed : (m n : Mode) → combined m n ≡ mode.Fixed → (m ≡ mode.Fixed) × (n ≡ mode.Fixed)
both_fixed mode.Fixed n h = (refl, h)
both_fixed mode.Up mode.Fixed h = cc
both_fixed mode.Up mode.Up h = cc
both_fixed mode.Up mode.Down h = cc
both_fixed mode.Up mode.Mixed h = cc
both_fixed mode.Down mode.Fixed h = cc
both_fixed mode.Down mode.Up h = cc
both_fixed mode.Down mode.Down h = cc
both_fixed mode.Down mode.Mixed h = cc
both_fixed mode.Mixed mode.Fixed h = cc
both_fixed mode.Mixed mode.Up h = cc
both_fixed mode.Mixed mode.Down h = cc
both_fixed mode.Mixed mode.Mixed h = cc

pub fixed_needed : {C : Type 0} (Q : C → C → Type 0) (c1 c2 : C) (m : Mode) → (m ≡ mode.Fixed → c1 ≡ c2) → Moves (needs m mode.Fixed) Q c1 c2
fixed_needed Q c1 c2 mode.Fixed f = f refl
fixed_needed Q c1 c2 mode.Up f = tt
fixed_needed Q c1 c2 mode.Down f = tt
fixed_needed Q c1 c2 mode.Mixed f = tt
