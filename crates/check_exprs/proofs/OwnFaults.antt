-- An expression's own faults, from the tests that are made of it.
use Rattle.std.proofs.Common.{◌≡◌, ℕ, Bool, true, false, Option, Some, None, is_some, length, List, refl, sym, subst, ◌∙◌, inl, inr}
use Rattle.std.specs.Prelude.{◌⊎◌, ◌↔◌, not, ◌==◌, ◌||◌, IsTrue}
use Rattle.std.specs.Option.{option_map_or}
use Rattle.std.proofs.lemmas.Bool.{true≢false}
use Rattle.std.proofs.lemmas.Bool.Decides.{Decides-eqb}
use Rattle.flow_syntax.specs.declared.expr.Expr.{Expr, out-Expr}
use Rattle.flow_syntax.specs.declared.expr.ExprKind.TheOpen.{ExprKind-F}
use Rattle.flow_syntax.specs.declared.expr.Side.{Side}
use Rattle.flow_syntax.specs.declared.fault.SpecFaultKind.{SpecFaultKind}
use Rattle.flow_syntax.specs.declared.fault.SpecFaultKind.TheVariants as kinds
use Rattle.flow_syntax.specs.declared.spec.Spec.{Spec}
use Rattle.flow_syntax.specs.declared.tables.FunctionDecl.{FunctionDecl}
use Rattle.flow_syntax.specs.Expressions.{ExprLayer, expr_layer}
use Rattle.flow_syntax.specs.Scopes.{Scope, can_read, variable_named}
use Rattle.flow_syntax.specs.Types.{Shape}
use Rattle.flow_syntax.specs.Inferred.{Inferred, property_named, function_named, constant_named}
use Rattle.flow_syntax.specs.Expected.{Expected, IsMismatch}
use Rattle.flow_syntax.specs.Occurrences.{Occurrence, form_shape}
use Rattle.flow_syntax.specs.ExprFaults.{IsMiscounted, IsMisnamed, IsOwnFault, mismatch, misnamed, own_inferred}
use Rattle.check_base.specs.Earliest.{Gathers, IsFaultWhere, Either}
use Rattle.check_base.proofs.GathersLaws.{Found, Gathers-then, Gathers-same}
use Rattle.check_exprs.specs.inner.Own.{is_undeclared, is_miscounted, is_unbound, OwnFaults}

-- the test of a mismatch, in the words of the definition
pub mismatch_at : (b : Bool) (w : Expected) (form other : Shape) (t u : Inferred) → form ≡ other → t ≡ u → (IsTrue b ↔ IsMismatch w form t) → (IsTrue b ↔ IsMismatch w other u)
mismatch_at b w form other t u same inferred h = subst (λ (y : Inferred). IsTrue b ↔ IsMismatch w other y) inferred (subst (λ (x : Shape). IsTrue b ↔ IsMismatch w x t) same h)

-- NAMES AND WORDS

-- what a misnamed name is, by its kind
abbrev NamedAs : Bool → Bool → Bool → SpecFaultKind → Type 0
NamedAs u a v kind = (IsTrue u × (kind ≡ kinds.Unknown)) ⊎ ((IsTrue a × (kind ≡ kinds.Arity)) ⊎ (IsTrue v × (kind ≡ kinds.Unbound)))

none_shown : {X : Type 0} (o : Option X) → (o ≡ None) ↔ IsTrue (not (is_some o))
none_shown None = (λ h. refl, λ h. refl)
none_shown (Some x) = (λ h. cc, λ h. absurd (true≢false (sym h)))

false_shown : (b : Bool) → (b ≡ false) ↔ IsTrue (not b)
false_shown true = (λ h. absurd (true≢false h), λ h. absurd (true≢false (sym h)))
false_shown false = (λ h. refl, λ h. refl)

other_counts : (m n : ℕ) → ((m ≡ n) → ⊥) ↔ IsTrue (not (m == n))
other_counts m n = by (m == n) refl
  where
    by : (b : Bool) → (m == n) ≡ b → ((m ≡ n) → ⊥) ↔ IsTrue (not b)
    by true e = (λ h. absurd (h ((Decides-eqb m n).0 e)), λ h. absurd (true≢false (sym h)))
    by false e = (λ h. refl, λ h same. true≢false (sym ((Decides-eqb m n).1 same) ∙ e))

miscounted_shown : (o : Option FunctionDecl) (args : List Expr) → IsMiscounted o args ↔ IsTrue (option_map_or (λ d. not (length d.args == length args)) o false)
miscounted_shown (Some f) args = other_counts (length f.args) (length args)
miscounted_shown None args = (λ h. absurd h, λ h. absurd (true≢false (sym h)))

unbound_shown : {X Y : Type 0} (o : Option X) (p : Option Y) → ((o ≡ None) × (p ≡ None)) ↔ IsTrue (not (is_some o || is_some p))
unbound_shown None None = (λ h. refl, λ h. (refl, refl))
unbound_shown None (Some y) = (λ h. absurd (some≢none h.1), λ h. absurd (true≢false (sym h)))
  where
    some≢none : Some y ≡ None → ⊥
    some≢none e = cc
unbound_shown (Some x) p = (λ h. absurd (some≢none h.0), λ h. absurd (true≢false (sym h)))
  where
    some≢none : Some x ≡ None → ⊥
    some≢none e = cc

none_named : (kind : SpecFaultKind) → ⊥ ↔ NamedAs false false false kind
none_named kind = (λ h. absurd h, back)
  where
    back : NamedAs false false false kind → ⊥
    back (inl h) = true≢false (sym h.0)
    back (inr (inl h)) = true≢false (sym h.0)
    back (inr (inr h)) = true≢false (sym h.0)

module _ (spec : Spec) (scope : Scope) where
  read_forth : (p : List ℕ) (side : Side) (kind : SpecFaultKind) → IsMisnamed spec scope (ExprKind-F.Read p side) kind → NamedAs (is_undeclared spec (ExprKind-F.Read p side)) false (is_unbound spec scope (ExprKind-F.Read p side)) kind
  read_forth p side kinds.Unknown h = inl ((none_shown (property_named spec p)).0 h, refl)
  read_forth p side kinds.Unbound h = inr (inr ((false_shown (can_read scope side)).0 h, refl))
  read_forth p side kind h = absurd h

  read_back : (p : List ℕ) (side : Side) (kind : SpecFaultKind) → NamedAs (is_undeclared spec (ExprKind-F.Read p side)) false (is_unbound spec scope (ExprKind-F.Read p side)) kind → IsMisnamed spec scope (ExprKind-F.Read p side) kind
  read_back p side kind (inl h) = subst (λ k. IsMisnamed spec scope (ExprKind-F.Read p side) k) (sym h.1) ((none_shown (property_named spec p)).1 h.0)
  read_back p side kind (inr (inl h)) = absurd (true≢false (sym h.0))
  read_back p side kind (inr (inr h)) = subst (λ k. IsMisnamed spec scope (ExprKind-F.Read p side) k) (sym h.1) ((false_shown (can_read scope side)).1 h.0)

  call_forth : (f : List ℕ) (args : List Expr) (kind : SpecFaultKind) → IsMisnamed spec scope (ExprKind-F.Call f args) kind → NamedAs (is_undeclared spec (ExprKind-F.Call f args)) (is_miscounted spec (ExprKind-F.Call f args)) false kind
  call_forth f args kinds.Unknown h = inl ((none_shown (function_named spec f)).0 h, refl)
  call_forth f args kinds.Arity h = inr (inl ((miscounted_shown (function_named spec f) args).0 h, refl))
  call_forth f args kind h = absurd h

  call_back : (f : List ℕ) (args : List Expr) (kind : SpecFaultKind) → NamedAs (is_undeclared spec (ExprKind-F.Call f args)) (is_miscounted spec (ExprKind-F.Call f args)) false kind → IsMisnamed spec scope (ExprKind-F.Call f args) kind
  call_back f args kind (inl h) = subst (λ k. IsMisnamed spec scope (ExprKind-F.Call f args) k) (sym h.1) ((none_shown (function_named spec f)).1 h.0)
  call_back f args kind (inr (inl h)) = subst (λ k. IsMisnamed spec scope (ExprKind-F.Call f args) k) (sym h.1) ((miscounted_shown (function_named spec f) args).1 h.0)
  call_back f args kind (inr (inr h)) = absurd (true≢false (sym h.0))

  ident_forth : (x : List ℕ) (kind : SpecFaultKind) → IsMisnamed spec scope (ExprKind-F.Ident x) kind → NamedAs false false (is_unbound spec scope (ExprKind-F.Ident x)) kind
  ident_forth x kinds.Unbound h = inr (inr ((unbound_shown (variable_named scope x) (constant_named spec x)).0 h, refl))
  ident_forth x kind h = absurd h

  ident_back : (x : List ℕ) (kind : SpecFaultKind) → NamedAs false false (is_unbound spec scope (ExprKind-F.Ident x)) kind → IsMisnamed spec scope (ExprKind-F.Ident x) kind
  ident_back x kind (inl h) = absurd (true≢false (sym h.0))
  ident_back x kind (inr (inl h)) = absurd (true≢false (sym h.0))
  ident_back x kind (inr (inr h)) = subst (λ k. IsMisnamed spec scope (ExprKind-F.Ident x) k) (sym h.1) ((unbound_shown (variable_named scope x) (constant_named spec x)).1 h.0)

  misnamed_shown : (layer : ExprLayer) (kind : SpecFaultKind) → IsMisnamed spec scope layer kind ↔ NamedAs (is_undeclared spec layer) (is_miscounted spec layer) (is_unbound spec scope layer) kind
  misnamed_shown (ExprKind-F.Read p side) kind = (read_forth p side kind, read_back p side kind)
  misnamed_shown (ExprKind-F.Call f args) kind = (call_forth f args kind, call_back f args kind)
  misnamed_shown (ExprKind-F.Ident x) kind = (ident_forth x kind, ident_back x kind)
  misnamed_shown layer kind = none_named kind

-- ALL OF THEM

module _ (spec : Spec) (p : Occurrence) where
  at_place : ℕ
  at_place = (out-Expr p.expr).place

  abbrev Tested : Bool → Bool → Bool → Bool → ℕ → SpecFaultKind → Type 0
  Tested b u a v = Either (Either (Either (IsFaultWhere (IsTrue b) (out-Expr p.expr).place kinds.Sort) (IsFaultWhere (IsTrue u) (out-Expr p.expr).place kinds.Unknown)) (IsFaultWhere (IsTrue a) (out-Expr p.expr).place kinds.Arity)) (IsFaultWhere (IsTrue v) (out-Expr p.expr).place kinds.Unbound)

  module _ (b u a v : Bool) (mismatches : IsTrue b ↔ IsMismatch p.expected (form_shape (expr_layer p.expr)) (own_inferred spec p)) (unknown : u ≡ is_undeclared spec (expr_layer p.expr)) (counted : a ≡ is_miscounted spec (expr_layer p.expr))
      (unbound : v ≡ is_unbound spec p.scope (expr_layer p.expr)) where
    named : (kind : SpecFaultKind) → IsMisnamed spec p.scope (expr_layer p.expr) kind ↔ NamedAs u a v kind
    named kind = subst (λ x. IsMisnamed spec p.scope (expr_layer p.expr) kind ↔ NamedAs x a v kind) (sym unknown)
        (subst (λ x. IsMisnamed spec p.scope (expr_layer p.expr) kind ↔ NamedAs (is_undeclared spec (expr_layer p.expr)) x v kind) (sym counted)
        (subst (λ x. IsMisnamed spec p.scope (expr_layer p.expr) kind ↔ NamedAs (is_undeclared spec (expr_layer p.expr)) (is_miscounted spec (expr_layer p.expr)) x kind) (sym unbound) (misnamed_shown spec p.scope (expr_layer p.expr) kind)))

    forth : (at : ℕ) (kind : SpecFaultKind) → Tested b u a v at kind → OwnFaults spec p at kind
    forth at kind (inl (inl (inl h))) = (h.1, subst (λ k. IsOwnFault spec p k) (sym h.2) (mismatch (mismatches.0 h.0)))
    forth at kind (inl (inl (inr h))) = (h.1, misnamed kind ((named kind).1 (inl (h.0, h.2))))
    forth at kind (inl (inr h)) = (h.1, misnamed kind ((named kind).1 (inr (inl (h.0, h.2)))))
    forth at kind (inr h) = (h.1, misnamed kind ((named kind).1 (inr (inr (h.0, h.2)))))

    by_name : (at : ℕ) (kind : SpecFaultKind) → at ≡ (out-Expr p.expr).place → NamedAs u a v kind → Tested b u a v at kind
    by_name at kind here (inl h) = inl (inl (inr (h.0, here, h.1)))
    by_name at kind here (inr (inl h)) = inl (inr (h.0, here, h.1))
    by_name at kind here (inr (inr h)) = inr (h.0, here, h.1)

    back : (at : ℕ) (kind : SpecFaultKind) → at ≡ (out-Expr p.expr).place → IsOwnFault spec p kind → Tested b u a v at kind
    back at kind here (mismatch h) = inl (inl (inl (mismatches.1 h, here, refl)))
    back at kind here (misnamed k h) = by_name at kind here ((named kind).0 h)

    -- the own faults are gathered, where each test is noted
    pub own_gathered : {o m n l new : Found} → Gathers o m (IsFaultWhere (IsTrue b) (out-Expr p.expr).place kinds.Sort) → Gathers m n (IsFaultWhere (IsTrue u) (out-Expr p.expr).place kinds.Unknown) → Gathers n l (IsFaultWhere (IsTrue a) (out-Expr p.expr).place kinds.Arity)
        → Gathers l new (IsFaultWhere (IsTrue v) (out-Expr p.expr).place kinds.Unbound) → Gathers o new (OwnFaults spec p)
    own_gathered g h i j = Gathers-same (Gathers-then (Gathers-then (Gathers-then g h) i) j) (λ at kind. (forth at kind, λ w. back at kind w.0 w.1))
