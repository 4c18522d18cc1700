-- Stops that `==` finds equal are the same.
use Rattle.std.proofs.Common.{◌≡◌, Bool, true, false, refl, sym, ap, eq-eqb, true≢false, ◌∙◌, subst}
use Rattle.std.proofs.lemmas.Bool.{eqb-true}
use Rattle.std.specs.Cmp.{IsEquivalence}
use Rattle.rule_plans.specs.declared.stop.Stop.{Stop}
use Rattle.rule_plans.specs.declared.stop.Stop.TheVariants.{Entry, Exit, Start, End, This, ChildEntry, ChildExit, Child}
use Rattle.rule_plans.specs.contracts.stop.StopPartialEq.TheImpl as stop

abbrev pub is_same_stop : Stop → Stop → Bool
is_same_stop = stop.ghosts.eq

pub stop_same : (a b : Stop) → is_same_stop a b ≡ true → a ≡ b
stop_same Entry Entry h = refl
stop_same Exit Exit h = refl
stop_same Start Start h = refl
stop_same End End h = refl
stop_same This This h = refl
stop_same (ChildEntry j) (ChildEntry k) h = ap ChildEntry (eqb-true j k h)
stop_same (ChildExit j) (ChildExit k) h = ap ChildExit (eqb-true j k h)
stop_same (Child j) (Child k) h = ap Child (eqb-true j k h)
stop_same _ _ h = cc

pub stop_itself : (a : Stop) → is_same_stop a a ≡ true
stop_itself Entry = refl
stop_itself Exit = refl
stop_itself Start = refl
stop_itself End = refl
stop_itself This = refl
stop_itself (ChildEntry j) = eq-eqb j j refl
stop_itself (ChildExit j) = eq-eqb j j refl
stop_itself (Child j) = eq-eqb j j refl

module _ {K : Type 0} (eq : K → K → Bool) (same : (a b : K) → eq a b ≡ true → a ≡ b) (itself : (a : K) → eq a a ≡ true) where
  turned : (a b : K) (c d : Bool) → eq a b ≡ c → eq b a ≡ d → c ≡ d
  turned a b true true h k = refl
  turned a b false false h k = refl
  turned a b true false h k = absurd (true≢false (sym (subst (λ (x : K). eq b x ≡ true) (sym (same a b h)) (itself b)) ∙ k))
  turned a b false true h k = absurd (true≢false (sym (subst (λ (x : K). eq a x ≡ true) (sym (same b a k)) (itself a)) ∙ h))

  pub exact_equiv : IsEquivalence eq
  exact_equiv = record {
    refl = itself;
    symm = λ a b. turned a b (eq a b) (eq b a) refl refl;
    congr = λ a b c h. ap (λ (x : K). eq x c) (same a b h);
  }

pub stops_equiv : IsEquivalence is_same_stop
stops_equiv = exact_equiv is_same_stop stop_same stop_itself
