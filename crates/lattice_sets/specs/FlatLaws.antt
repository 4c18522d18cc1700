-- The laws of the flat lattice, over elements that can be told apart.
use Rattle.std.proofs.Common.{◌≡◌, ◌↔◌, Bool, true, false, cond, refl, sym, ap, ◌∙◌}
use Rattle.std.specs.Prelude.{⊤}
use Rattle.std.specs.declared.cmp.Ordering.{Ordering}
use Rattle.std.specs.declared.cmp.Ordering.TheVariants.{Equal}
use Rattle.std.specs.Ordering.{eq_by_cmp}
use Rattle.std.specs.Cmp.{IsTotalOrder}
use Rattle.std.proofs.lemmas.Bool.{cond-true}
use Rattle.lattice_base.specs.Laws.{JoinLaws, OrderLaw}
use Rattle.lattice_sets.specs.declared.flat.FlatV.{FlatV}
use Rattle.lattice_sets.specs.declared.flat.FlatV.TheVariants.{Bottom, Flat, Top}
use Rattle.lattice_sets.specs.Flat.{IsBelowFlat, flat_join}
use Rattle.lattice_sets.specs.SetLaws.{same_tied, ties_itself}

same_flat : {E : Type 0} (a b : E) → Flat a ≡ Flat b → a ≡ b
same_flat a b e = cc

top≢flat : {E : Type 0} (a : E) → Top ≡ Flat a → ⊥
top≢flat a e = cc

flat≢bottom : {E : Type 0} (a : E) → Flat a ≡ Bottom → ⊥
flat≢bottom a e = cc

top≢bottom : {E : Type 0} → ◌≡◌ {A = FlatV E} Top Bottom → ⊥
top≢bottom e = cc

module _ {E : Type 0} (eq : E → E → Bool) (itself : (a : E) → eq a a ≡ true) (exact : (a b : E) → eq a b ≡ true → a ≡ b) where
  same_swapped : (a b : E) → eq a b ≡ eq b a
  same_swapped a b =
      elim (eq a b) as (λ v. eq a b ≡ v → v ≡ eq b a) [
        | true ↦ λ e. sym (ap (λ x. eq x a) (sym (exact a b e)) ∙ itself a)
        | false ↦ λ e. elim (eq b a) as (λ v. eq b a ≡ v → false ≡ v) [
          | true ↦ λ f. sym e ∙ ap (λ x. eq x b) (sym (exact b a f)) ∙ itself b
          | false ↦ λ _. refl
        ] refl
      ] refl

  join_commutes : (a b : FlatV E) → flat_join eq a b ≡ flat_join eq b a
  join_commutes Bottom Bottom = refl
  join_commutes Bottom (Flat b) = refl
  join_commutes Bottom Top = refl
  join_commutes (Flat a) Bottom = refl
  join_commutes (Flat a) (Flat b) =
      elim (eq a b) as (λ v. eq a b ≡ v → cond v (Flat a) Top ≡ cond (eq b a) (Flat b) Top) [
        | true ↦ λ e. ap Flat (exact a b e) ∙ sym (ap (λ v. cond v (Flat b) Top) (sym (same_swapped a b) ∙ e))
        | false ↦ λ e. sym (ap (λ v. cond v (Flat b) Top) (sym (same_swapped a b) ∙ e))
      ] refl
  join_commutes (Flat a) Top = refl
  join_commutes Top Bottom = refl
  join_commutes Top (Flat b) = refl
  join_commutes Top Top = refl

  join_top : (a : FlatV E) → flat_join eq a Top ≡ Top
  join_top Bottom = refl
  join_top (Flat a) = refl
  join_top Top = refl

  join_bottom : (a : FlatV E) → flat_join eq a Bottom ≡ a
  join_bottom Bottom = refl
  join_bottom (Flat a) = refl
  join_bottom Top = refl

  join_associates : (a b c : FlatV E) → flat_join eq (flat_join eq a b) c ≡ flat_join eq a (flat_join eq b c)
  join_associates Bottom b c = refl
  join_associates Top b c = refl
  join_associates (Flat a) Bottom c = refl
  join_associates (Flat a) Top c = refl
  join_associates (Flat a) (Flat b) Bottom = join_bottom (cond (eq a b) (Flat a) Top)
  join_associates (Flat a) (Flat b) Top = join_top (cond (eq a b) (Flat a) Top)
  join_associates (Flat a) (Flat b) (Flat c) =
      elim (eq a b) as (λ v. eq a b ≡ v → flat_join eq (cond v (Flat a) Top) (Flat c) ≡ flat_join eq (Flat a) (cond (eq b c) (Flat b) Top)) [
        | true ↦ λ e. elim (eq b c) as (λ w. eq b c ≡ w → cond (eq a c) (Flat a) Top ≡ flat_join eq (Flat a) (cond w (Flat b) Top)) [
          | true ↦ λ f. ap (λ x. cond (eq a x) (Flat a) Top) (sym (exact b c f))
          | false ↦ λ f. ap (λ v. cond v (Flat a) Top) (ap (λ x. eq x c) (exact a b e) ∙ f)
        ] refl
        | false ↦ λ e. elim (eq b c) as (λ w. eq b c ≡ w → Top ≡ flat_join eq (Flat a) (cond w (Flat b) Top)) [
          | true ↦ λ f. sym (ap (λ v. cond v (Flat a) Top) e)
          | false ↦ λ f. refl
        ] refl
      ] refl

  join_itself : (a : FlatV E) → flat_join eq a a ≡ a
  join_itself Bottom = refl
  join_itself (Flat a) = ap (λ v. cond v (Flat a) Top) (itself a)
  join_itself Top = refl

  -- a join that is the second element has found the two equal
  order_flat : (a b : E) → cond (eq a b) (Flat a) Top ≡ Flat b → a ≡ b
  order_flat a b = elim (eq a b) as (λ v. cond v (Flat a) Top ≡ Flat b → a ≡ b) [ true ↦ λ e. same_flat a b e | false ↦ λ e. absurd (top≢flat b e) ]

  join_order : (a b : FlatV E) → IsBelowFlat a b ↔ (flat_join eq a b ≡ b)
  join_order Bottom b = (λ h. refl, λ e. tt)
  join_order (Flat a) Bottom = (λ h. absurd h, λ e. flat≢bottom a e)
  join_order (Flat a) (Flat b) = (λ h. cond-true (eq a b) (Flat a) Top (ap (eq a) (sym h) ∙ itself a) ∙ ap Flat h, order_flat a b)
  join_order (Flat a) Top = (λ h. refl, λ e. tt)
  join_order Top Bottom = (λ h. absurd h, λ e. top≢bottom e)
  join_order Top (Flat b) = (λ h. absurd h, λ e. top≢flat b e)
  join_order Top Top = (λ h. refl, λ e. tt)

module _ {E : Type 0} (R : E → E → Ordering) (o : IsTotalOrder R) (exact : (x y : E) → R x y ≡ Equal → x ≡ y) where
  pub flat_laws : JoinLaws {V = FlatV E} (λ _. ⊤) Bottom (flat_join (eq_by_cmp R))
  flat_laws = record {
    least_valid = tt;
    joined_valid = λ a b _ _. tt;
    idempotent = λ a _. join_itself (eq_by_cmp R) (ties_itself R o exact) (same_tied R o exact) a;
    commutative = λ a b _ _. join_commutes (eq_by_cmp R) (ties_itself R o exact) (same_tied R o exact) a b;
    associative = λ a b c _ _ _. join_associates (eq_by_cmp R) (ties_itself R o exact) (same_tied R o exact) a b c;
    neutral = λ a _. refl;
  }

  -- the order by the join
  pub flat_order : OrderLaw {V = FlatV E} (λ _. ⊤) (flat_join (eq_by_cmp R)) IsBelowFlat
  flat_order a b _ _ = join_order (eq_by_cmp R) (ties_itself R o exact) (same_tied R o exact) a b
