-- A map after a value was put into it.
use Rattle.std.proofs.Common.{◌≡◌, Option, Some, None, sym, ap, ◌∙◌, subst, inl, inr}
use Rattle.std.specs.Prelude.{IfSome}
use Rattle.std.specs.declared.cmp.Ordering.{Ordering}
use Rattle.std.specs.declared.cmp.Ordering.TheVariants.{Equal}
use Rattle.std.specs.Ordering.{eq_by_cmp}
use Rattle.std.specs.Cmp.{IsTotalOrder, eq_by_cmp_equiv}
use Rattle.std.specs.Map.{keys_of}
use Rattle.std.proofs.lemmas.Bool.{cases_Bool, both_ways}
use Rattle.std.proofs.lemmas.Map.Keys.{IsDistinct-from_sorted}
use Rattle.std.proofs.lemmas.Map.Views.{All-values_from_lookup}
use Rattle.lattice_base.specs.Laws.{JoinLaws}
use Rattle.lattice_sets.specs.Maps.{IsMap, PutsKept, value_at}
use Rattle.lattice_sets.specs.MapLaws.{IsKept, kept_value}
use Rattle.lattice_sets.specs.SetLaws.{same_tied, ties_itself}

kept_is : {V : Type 0} (Valid : V → Type 0) (least : V) (a : Option V) → IsKept Valid least a → IfSome a (λ v. Valid v × (v ≡ least → ⊥))
kept_is Valid least None h = tt
kept_is Valid least (Some v) h = h

module _ {K V : Type 0} (R : K → K → Ordering) (o : IsTotalOrder R) (exact : (x y : K) → R x y ≡ Equal → x ≡ y) (Valid : V → Type 0) (least : V) (joined : V → V → V) (laws : JoinLaws Valid least joined) where
  pub puts_kept : PutsKept R Valid least (IsMap R Valid least)
  puts_kept k v old new map valid other put = record {
    rising = put.rising;
    kept = All-values_from_lookup (eq_by_cmp_equiv o) (λ x. Valid x × (x ≡ least → ⊥)) new (IsDistinct-from_sorted R (keys_of new) put.rising) (λ q. kept_is Valid least (value_at R new q) (elim (cases_Bool (eq_by_cmp R q k)) [
      | inl e ↦ subst (IsKept Valid least) (sym (ap (value_at R new) (same_tied R o exact q k e) ∙ put.here)) (valid, other)
      | inr e ↦ subst (IsKept Valid least) (sym (put.elsewhere q (λ same. both_ways (eq_by_cmp R q k) e (ap (eq_by_cmp R q) (sym same) ∙ ties_itself R o exact q)))) (kept_value R o exact Valid least joined laws old map.kept q)
    ]));
  }
