-- The faults of a specification, gathered in turn, and what the earliest of them is.
use Rattle.std.proofs.Common.{◌≡◌, ℕ, Some, None, refl, sym, subst, ◌∙◌, inl, inr, arith}
use Rattle.std.specs.Prelude.{IsSomeAnd}
use Rattle.check_base.proofs.GathersLaws.{Found, Gathers-then, Gathers-same}
use Rattle.check_base.specs.Earliest.{Gathers, Either, IsNoLater, kind_rank}
use Rattle.flow_sorts.specs.First.{IsFirstFault}
use Rattle.flow_syntax.specs.DeclFaults.{IsFaultyDeclaration}
use Rattle.flow_syntax.specs.ExprFaults.{IsFaultyExpression}
use Rattle.flow_syntax.specs.Faults.{HasFault, HasNoFault, declaration, rule, variable, expression}
use Rattle.flow_syntax.specs.RuleFaults.{IsFaultyRule}
use Rattle.flow_syntax.specs.VariableFaults.{IsFaultyVariable}
use Rattle.flow_syntax.specs.declared.fault.SpecFaultKind.{SpecFaultKind}
use Rattle.flow_syntax.specs.declared.fault.SpecFaultKind.TheVariants as kinds
use Rattle.flow_syntax.specs.declared.spec.Spec.{Spec}

abbrev EachKind : Spec → ℕ → SpecFaultKind → Type 0
EachKind spec = Either (Either (Either (IsFaultyDeclaration spec) (IsFaultyRule spec)) (IsFaultyVariable spec)) (IsFaultyExpression spec)

forth : (spec : Spec) (place : ℕ) (kind : SpecFaultKind) → EachKind spec place kind → HasFault spec place kind
forth spec place kind (inl (inl (inl f))) = declaration f
forth spec place kind (inl (inl (inr f))) = rule f
forth spec place kind (inl (inr f)) = variable f
forth spec place kind (inr f) = expression f

back : (spec : Spec) (place : ℕ) (kind : SpecFaultKind) → HasFault spec place kind → EachKind spec place kind
back spec place kind (declaration f) = inl (inl (inl f))
back spec place kind (rule f) = inl (inl (inr f))
back spec place kind (variable f) = inl (inr f)
back spec place kind (expression f) = inr f

-- all faults are gathered, those of one kind of thing after the other
pub all_gathered : (spec : Spec) (a b c d e : Found) → Gathers a b (IsFaultyDeclaration spec) → Gathers b c (IsFaultyRule spec) → Gathers c d (IsFaultyVariable spec) → Gathers d e (IsFaultyExpression spec)
    → Gathers a e (HasFault spec)
all_gathered spec a b c d e p q r s = Gathers-same (Gathers-then (Gathers-then (Gathers-then p q) r) s) (λ place kind. (forth spec place kind, back spec place kind))

-- what is found from nothing is the first fault
pub found_first : (spec : Spec) (old new : Found) (place : ℕ) (kind : SpecFaultKind) → Gathers old new (HasFault spec) → old ≡ None → new ≡ Some (place, kind) → IsFirstFault spec place kind
found_first spec old new place kind g nothing is = record {
  stands = elim (g.known place kind is) [ inl before ↦ (let e : None ≡ Some (place, kind) = sym nothing ∙ before in cc) | inr fault ↦ fault ];
  first = λ other other_kind fault. subst (λ (o : Found). IsSomeAnd o (λ found. IsNoLater found (other, other_kind))) is (g.each other other_kind fault);
}

-- where nothing is found there is no fault
pub none_found : (spec : Spec) (old new : Found) → Gathers old new (HasFault spec) → new ≡ None → HasNoFault spec
none_found spec old new g nothing place kind fault = subst (λ (o : Found). IsSomeAnd o (λ found. IsNoLater found (place, kind))) nothing (g.each place kind fault)

kind_by_rank : (a b : SpecFaultKind) → kind_rank a ≡ kind_rank b → a ≡ b
kind_by_rank kinds.Unknown kinds.Unknown e = refl
kind_by_rank kinds.Duplicate kinds.Duplicate e = refl
kind_by_rank kinds.Arity kinds.Arity e = refl
kind_by_rank kinds.Sort kinds.Sort e = refl
kind_by_rank kinds.Unbound kinds.Unbound e = refl
kind_by_rank kinds.MixedDirection kinds.MixedDirection e = refl
kind_by_rank kinds.WrongEnd kinds.WrongEnd e = refl
kind_by_rank kinds.MixedItem kinds.MixedItem e = refl
kind_by_rank kinds.Nested kinds.Nested e = refl
kind_by_rank kinds.Depth kinds.Depth e = refl
kind_by_rank _ _ e = cc

-- a fault that is first is first alone
pub first_alone : (spec : Spec) (place other : ℕ) (kind other_kind : SpecFaultKind) → IsFirstFault spec place kind → IsFirstFault spec other other_kind → (place ≡ other) × (kind ≡ other_kind)
first_alone spec place other kind other_kind f g = both (f.first other other_kind g.stands) (g.first place kind f.stands)
  where
    both : IsNoLater (place, kind) (other, other_kind) → IsNoLater (other, other_kind) (place, kind) → (place ≡ other) × (kind ≡ other_kind)
    both (inl a) (inl b) = absurd (omega (arith, a, b))
    both (inl a) (inr b) = absurd (omega (arith, a, b.0))
    both (inr a) (inl b) = absurd (omega (arith, b, a.0))
    both (inr a) (inr b) = (a.0, kind_by_rank kind other_kind (omega (arith, a.1, b.1)))
