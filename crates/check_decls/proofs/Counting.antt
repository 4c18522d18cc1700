-- Counts of tuples up to a limit.
use Rattle.std.proofs.Common.{◌≡◌, ◌≢◌, ℕ, zero, suc, ◌+◌, ◌*◌, ◌<◌, ◌≤◌, min, List, ◌∷◌, length, drop, get_or, Option, Some, None, refl, sym, ap, ◌∙◌, inl, inr, arith}
use Rattle.std.specs.Prelude.{◌↔◌, option_and_then}
use Rattle.std.specs.Option.{option_map}
use Rattle.std.proofs.Math.Nat.{mul_assoc}
use Rattle.std.proofs.lemmas.Bool.{cases_lt}
use Rattle.std.proofs.lemmas.List.{at_drop_more, at_drop_all}
use Rattle.std.proofs.lemmas.Option.{same_Some}
use Rattle.flow_syntax.specs.declared.spec.Named.{Named}
use Rattle.flow_syntax.specs.declared.spec.Spec.{Spec}
use Rattle.flow_syntax.specs.declared.tables.FunctionDecl.{FunctionDecl}
use Rattle.flow_syntax.specs.declared.tables.TableDecl.{TableDecl}
use Rattle.flow_syntax.specs.DeclFaults.{IsIncomplete, lattice_named, tuple_count}

-- a product of a number up to a limit
min_times : (cap a n : ℕ) → min (min a cap * n) cap ≡ min (a * n) cap
min_times cap a zero = omega arith
min_times cap a (suc n) = elim (cases_lt cap a) [
  | inl more ↦ (let is : min a cap ≡ cap = omega (arith, more) in ap (λ m. min (m * suc n) cap) is ∙ (omega (arith, more)))
  | inr less ↦ (let is : min a cap ≡ a = omega (arith, less) in ap (λ m. min (m * suc n) cap) is)
]

module _ (cap : ℕ) where
  -- a count of the rest, times what was counted so far
  abbrev pub counted : ℕ → Option ℕ → Option ℕ
  counted count rest = option_map (λ n. min (count * n) cap) rest

  counted_times : (k m : ℕ) (rest : Option ℕ) → counted (min (k * m) cap) rest ≡ counted k (option_and_then (λ n. Some (m * n)) rest)
  counted_times k m None = refl
  counted_times k m (Some n) = ap Some (min_times cap (k * m) n ∙ ap (λ p. min p cap) (mul_assoc k m n))

  pub counted_one : (rest : Option ℕ) → counted 1 rest ≡ option_map (λ n. min n cap) rest
  counted_one None = refl
  counted_one (Some n) = let same : 1 * n ≡ n = omega arith in ap (λ p. Some (min p cap)) same

  module _ (spec : Spec) (args : List Named) (i : ℕ) where
    -- one argument more
    pub counted_more : (name : Named) (l : TableDecl) (k : ℕ) → i < length args → name ≡ get_or args i name → Some l ≡ lattice_named spec name.text
        → counted k (tuple_count spec (drop i args)) ≡ counted (min (k * length l.elements) cap) (tuple_count spec (drop (i + 1) args))
    counted_more name l k within is found =
        ap (counted k) (at_drop_more (tuple_count spec) args i name within ∙ ap (λ n. tuple_count spec (n ∷ drop (i + 1) args)) (sym is)
        ∙ ap (option_and_then (λ (m : TableDecl). option_and_then (λ n. Some (length m.elements * n)) (tuple_count spec (drop (i + 1) args)))) (sym found))
        ∙ sym (counted_times k (length l.elements) (tuple_count spec (drop (i + 1) args)))

    -- an argument of which the lattice isn't declared
    pub counted_none : (name : Named) (k : ℕ) → i < length args → name ≡ get_or args i name → None ≡ lattice_named spec name.text → None ≡ counted k (tuple_count spec (drop i args))
    counted_none name k within is none =
        sym (ap (counted k) (at_drop_more (tuple_count spec) args i name within ∙ ap (λ n. tuple_count spec (n ∷ drop (i + 1) args)) (sym is)
        ∙ ap (option_and_then (λ (m : TableDecl). option_and_then (λ n. Some (length m.elements * n)) (tuple_count spec (drop (i + 1) args)))) (sym none)))

    -- no argument more
    pub counted_all : (k : ℕ) → length args ≤ i → k ≤ cap → Some k ≡ counted k (tuple_count spec (drop i args))
    counted_all k past within = let same : k ≡ min (k * 1) cap = omega (arith, within) in ap Some same ∙ sym (ap (counted k) (at_drop_all (tuple_count spec) args i past))

  -- a size that is another than the count up to a limit is another than the count
  pub incomplete_at : (spec : Spec) (f : FunctionDecl) (size count : ℕ) → size ≡ length f.table → size < cap → Some count ≡ option_map (λ n. min n cap) (tuple_count spec f.args)
      → (size ≢ count) ↔ IsIncomplete spec f
  incomplete_at spec f size count sized small counts = by (tuple_count spec f.args) refl counts
    where
      by : (o : Option ℕ) → tuple_count spec f.args ≡ o → Some count ≡ option_map (λ n. min n cap) o → (size ≢ count) ↔ IsIncomplete spec f
      by None e h = cc
      by (Some n) e h =
          let is : count ≡ min n cap = same_Some count (min n cap) h in (
            λ other. record { count = n; tuples = e; other = λ same. other (let s : size ≡ n = sized ∙ same in omega (arith, is, s, small)) },
            λ incomplete. λ same. incomplete.other (
                let it : n ≡ incomplete.count = same_Some n incomplete.count (sym e ∙ incomplete.tuples) in
                omega (arith, is, it, same, small, sized)),
          )
