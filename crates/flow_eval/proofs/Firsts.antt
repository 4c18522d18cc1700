-- Of things with tuples of numbers there is one first.
use Rattle.std.proofs.Common.{◌≡◌, ℕ, ◌<◌, zero, suc, List, [], ◌∷◌, length, arith, refl, sym, ap, ◌∙◌, inl, inr}
use Rattle.std.specs.Prelude.{◌⊎◌}
use Rattle.std.proofs.lemmas.Bool.{cases_order}
use Rattle.table_laws.specs.declared.fault.LawFault.{LawFault}
use Rattle.table_laws.specs.declared.fault.LawFault.TheVariants.{Idempotent, Commutative, Associative, BottomLaw}
use Rattle.table_laws.specs.FunctionTables.{Arguments, FunctionTable, IsFirstDisorder, tuple_of}
use Rattle.table_laws.specs.JoinTables.{JoinTable, IsFirstFault, elements_of, law_of}
use Rattle.table_laws.specs.Tuples.{IsBefore, IsFirst}

-- tuples of one length are the same, or one stands before the other
abbrev AreOrdered : List ℕ → List ℕ → Type 0
AreOrdered xs ys = (xs ≡ ys) ⊎ (IsBefore xs ys ⊎ IsBefore ys xs)

step : (x y : ℕ) (xs ys : List ℕ) → (x ≡ y) ⊎ ((x < y) ⊎ (y < x)) → AreOrdered xs ys → AreOrdered (x ∷ xs) (y ∷ ys)
step x y xs ys (inr (inl h)) k = inr (inl (inl h))
step x y xs ys (inr (inr h)) k = inr (inr (inl h))
step x y xs ys (inl e) (inl same) = inl (λ i. e i ∷ same i)
step x y xs ys (inl e) (inr (inl h)) = inr (inl (inr (e, h)))
step x y xs ys (inl e) (inr (inr h)) = inr (inr (inr (sym e, h)))

ordered : (xs ys : List ℕ) → length xs ≡ length ys → AreOrdered xs ys
ordered [] [] e = inl refl
ordered [] (y ∷ ys) e = absurd (omega (arith, e))
ordered (x ∷ xs) [] e = absurd (omega (arith, e))
ordered (x ∷ xs) (y ∷ ys) e = step x y xs ys (cases_order x y) (ordered xs ys (omega (arith, e)))

-- two firsts, whose tuples have one length where they begin alike, have one tuple
one_first : {X : Type 0} (tuple : X → List ℕ) (Has : X → Type 0) (x y : X) → IsFirst tuple Has x → IsFirst tuple Has y → AreOrdered (tuple x) (tuple y) → tuple x ≡ tuple y
one_first tuple Has x y f g (inl e) = e
one_first tuple Has x y f g (inr (inl h)) = absurd (g.none_before x h f.has)
one_first tuple Has x y f g (inr (inr h)) = absurd (f.none_before y h g.has)

-- FAULTS

abbrev tuple : LawFault → List ℕ
tuple f = law_of f ∷ elements_of f

same_law_length : (f g : LawFault) → law_of f ≡ law_of g → length (elements_of f) ≡ length (elements_of g)
same_law_length (Idempotent a) (Idempotent b) e = refl
same_law_length (Idempotent a) (Commutative b c) e = absurd (omega (arith, e))
same_law_length (Idempotent a) (Associative b c d) e = absurd (omega (arith, e))
same_law_length (Idempotent a) (BottomLaw b) e = refl
same_law_length (Commutative a b) (Idempotent c) e = absurd (omega (arith, e))
same_law_length (Commutative a b) (Commutative c d) e = refl
same_law_length (Commutative a b) (Associative c d x) e = absurd (omega (arith, e))
same_law_length (Commutative a b) (BottomLaw c) e = absurd (omega (arith, e))
same_law_length (Associative a b c) (Idempotent d) e = absurd (omega (arith, e))
same_law_length (Associative a b c) (Commutative d x) e = absurd (omega (arith, e))
same_law_length (Associative a b c) (Associative d x y) e = refl
same_law_length (Associative a b c) (BottomLaw d) e = absurd (omega (arith, e))
same_law_length (BottomLaw a) (Idempotent b) e = refl
same_law_length (BottomLaw a) (Commutative b c) e = absurd (omega (arith, e))
same_law_length (BottomLaw a) (Associative b c d) e = absurd (omega (arith, e))
same_law_length (BottomLaw a) (BottomLaw b) e = refl

faults_ordered : (f g : LawFault) → AreOrdered (tuple f) (tuple g)
faults_ordered f g = by (cases_order (law_of f) (law_of g))
  where
    by : (law_of f ≡ law_of g) ⊎ ((law_of f < law_of g) ⊎ (law_of g < law_of f)) → AreOrdered (tuple f) (tuple g)
    by (inl e) = step (law_of f) (law_of g) (elements_of f) (elements_of g) (inl e) (ordered (elements_of f) (elements_of g) (same_law_length f g e))
    by (inr (inl h)) = inr (inl (inl h))
    by (inr (inr h)) = inr (inr (inl h))

-- the fault of a tuple
abbrev fault_of : List ℕ → LawFault
fault_of (zero ∷ a ∷ xs) = Idempotent a
fault_of (suc zero ∷ a ∷ b ∷ xs) = Commutative a b
fault_of (suc (suc zero) ∷ a ∷ b ∷ c ∷ xs) = Associative a b c
fault_of (suc (suc (suc zero)) ∷ a ∷ xs) = BottomLaw a
fault_of _ = Idempotent 0

fault_back : (f : LawFault) → fault_of (tuple f) ≡ f
fault_back (Idempotent a) = refl
fault_back (Commutative a b) = refl
fault_back (Associative a b c) = refl
fault_back (BottomLaw a) = refl

pub one_fault : (t : JoinTable) (f g : LawFault) → IsFirstFault t f → IsFirstFault t g → f ≡ g
one_fault t f g one two = sym (fault_back f) ∙ ap fault_of (one_first tuple _ f g one two (faults_ordered f g)) ∙ fault_back g

-- DISORDERS

abbrev pair_of : List ℕ → Arguments × Arguments
pair_of (a ∷ b ∷ c ∷ d ∷ xs) = ((a, b), (c, d))
pair_of _ = ((0, 0), (0, 0))

pub one_disorder : (f : FunctionTable) (l h l' h' : Arguments) → IsFirstDisorder f l h → IsFirstDisorder f l' h' → (l ≡ l') × (h ≡ h')
one_disorder f l h l' h' one two =
    let same : tuple_of (l, h) ≡ tuple_of (l', h') = one_first tuple_of _ (l, h) (l', h') one two (ordered (tuple_of (l, h)) (tuple_of (l', h')) refl) in
    (ap (λ t. (pair_of t).0) same, ap (λ t. (pair_of t).1) same)
