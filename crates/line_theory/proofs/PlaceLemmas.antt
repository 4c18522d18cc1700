-- Lines are whole, or have one first fault, and not both.
use Rattle.std.proofs.Common.{◌≡◌, ℕ, suc, ◌+◌, List, [], ◌∷◌, ◌++◌, ◌⊎◌, inl, inr, length, refl, sym, ap, subst, ◌∙◌, arith}
use Rattle.line_theory.specs.Places.{AreWhole, IsDeterministic, IsFaultAt, IsWrong, LeadTo}

module _ {P L : Type 0} (Fits : P → L → P → Type 0) (IsLast : P → Type 0) (det : IsDeterministic Fits IsLast) where
  -- two faults stand at one place
  same_fault : (p q r : P) (front back other more : List L) → front ++ back ≡ other ++ more → LeadTo Fits IsLast p front q → IsWrong Fits IsLast q back → LeadTo Fits IsLast p other r → IsWrong Fits IsLast r more → (q ≡ r) × (length front ≡ length other) × (back ≡ more)
  same_fault p q r [] back [] more e lead wrong lead' wrong' = (lead ∙ sym lead', refl, e)
  same_fault p q r [] back (l ∷ other) more e lead wrong lead' wrong' =
      let w : IsWrong Fits IsLast p (l ∷ (other ++ more)) = subst (λ (ls : List L). IsWrong Fits IsLast p ls) e (subst (λ (x : P). IsWrong Fits IsLast x back) lead wrong) in
      absurd (w lead'.0 lead'.1)
  same_fault p q r (l ∷ front) back [] more e lead wrong lead' wrong' =
      let w : IsWrong Fits IsLast p (l ∷ (front ++ back)) = subst (λ (ls : List L). IsWrong Fits IsLast p ls) (sym e) (subst (λ (x : P). IsWrong Fits IsLast x more) lead' wrong') in
      absurd (w lead.0 lead.1)
  same_fault p q r (l ∷ front) back (k ∷ other) more e lead wrong lead' wrong' =
      let same : l ≡ k = cc in
      let rest : front ++ back ≡ other ++ more = cc in
      let next : lead'.0 ≡ lead.0 = det.one p lead'.0 lead.0 k lead'.1 (subst (λ (x : L). Fits p x lead.0) same lead.1) in
      let i : (q ≡ r) × (length front ≡ length other) × (back ≡ more) = same_fault lead.0 q r front back other more rest lead.2 wrong (subst (λ (x : P). LeadTo Fits IsLast x other r) next lead'.2) wrong' in
      (i.0, ap suc i.1, i.2)

  pub one_fault : (p : P) (ls : List L) (q r : P) (m n : ℕ) (back more : List L) → IsFaultAt Fits IsLast p ls q m back → IsFaultAt Fits IsLast p ls r n more → (q ≡ r) × (m ≡ n) × (back ≡ more)
  one_fault p ls q r m n back more a b =
      let i : (q ≡ r) × (length a.front ≡ length b.front) × (back ≡ more) = same_fault p q r a.front back b.front more (sym a.split ∙ b.split) a.leads a.wrong b.leads b.wrong in
      (i.0, a.is ∙ ap (λ (k : ℕ). 1 + k) i.1 ∙ sym b.is, i.2)

  -- whole lines have no fault
  whole_faultless : (p q r : P) (ls front back : List L) → ls ≡ front ++ back → LeadTo Fits IsLast p ls r → IsLast r → LeadTo Fits IsLast p front q → IsWrong Fits IsLast q back → ⊥
  whole_faultless p q r [] [] [] e lead last lead' wrong = wrong (subst IsLast (lead ∙ sym lead') last)
  whole_faultless p q r [] [] (l ∷ back) e lead last lead' wrong = absurd (cc)
  whole_faultless p q r [] (l ∷ front) back e lead last lead' wrong = absurd (cc)
  whole_faultless p q r (l ∷ ls) [] back e lead last lead' wrong =
      let w : IsWrong Fits IsLast p (l ∷ ls) = subst (λ (xs : List L). IsWrong Fits IsLast p xs) (sym e) (subst (λ (x : P). IsWrong Fits IsLast x back) lead' wrong) in w lead.0 lead.1
  whole_faultless p q r (l ∷ ls) (k ∷ front) back e lead last lead' wrong =
      let same : k ≡ l = cc in
      let rest : ls ≡ front ++ back = cc in
      let next : lead'.0 ≡ lead.0 = det.one p lead'.0 lead.0 l (subst (λ (x : L). Fits p x lead'.0) same lead'.1) lead.1 in
      whole_faultless lead.0 q r ls front back rest lead.2 last (subst (λ (x : P). LeadTo Fits IsLast x front q) next lead'.2) wrong

  pub not_both : (p q : P) (ls back : List L) (n : ℕ) → AreWhole Fits IsLast p ls → IsFaultAt Fits IsLast p ls q n back → ⊥
  not_both p q ls back n w f = whole_faultless p q w.0 ls f.front back f.split w.1 w.2 f.leads f.wrong

  -- lines lead to one place
  pub one_way : (p q r : P) (ls : List L) → LeadTo Fits IsLast p ls q → LeadTo Fits IsLast p ls r → q ≡ r
  one_way p q r [] a b = a ∙ sym b
  one_way p q r (l ∷ ls) a b =
      let next : b.0 ≡ a.0 = det.one p b.0 a.0 l b.1 a.1 in
      one_way a.0 q r ls a.2 (subst (λ (x : P). LeadTo Fits IsLast x ls r) next b.2)

-- lines and then others
module _ {P L : Type 0} (Fits : P → L → P → Type 0) (IsLast : P → Type 0) where
  pub lead_on : (xs ys : List L) (p q r : P) → LeadTo Fits IsLast p xs q → LeadTo Fits IsLast q ys r → LeadTo Fits IsLast p (xs ++ ys) r
  lead_on [] ys p q r a b = subst (λ (x : P). LeadTo Fits IsLast x ys r) a b
  lead_on (x ∷ xs) ys p q r a b = (a.0, a.1, lead_on xs ys a.0 q r a.2 b)
