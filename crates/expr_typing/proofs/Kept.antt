-- A specification without faults has a list of types, and a list that is merely that of its types is that one.
use Rattle.std.proofs.Common.{◌≡◌, List, [], ◌∷◌, sym, subst}
use Rattle.std.specs.List.{AllByRecursion}
use Rattle.std.proofs.lemmas.Grind.{not_there}
use Rattle.flow_syntax.specs.declared.expr.Expr.{Expr}
use Rattle.flow_syntax.specs.declared.spec.Spec.{Spec}
use Rattle.flow_syntax.specs.Expressions.{expr_layer, parts_of as exprs_of}
use Rattle.flow_syntax.specs.Occurrences.{Occurrence, occurrence, parts_of}
use Rattle.flow_syntax.specs.ExprTypes.{AreTypes, wholes_of}
use Rattle.flow_syntax.specs.Scopes.{Scope}
use Rattle.flow_syntax.specs.Types.{Typing}
use Rattle.flow_syntax.specs.Expected.{Expected}
use Rattle.expr_typing.specs.Listing.{AreListed, none, next}
use Rattle.expr_typing.proofs.Laws.{faultless_have_types}
use Rattle.expr_typing.proofs.Order.{exprs, exprs_parts}
use Rattle.flow_syntax.proofs.Parts.{by_induction}
use Rattle.expr_typing.specs.Kept.{TypesExist, TypesAreKept}
use Rattle.expr_typing.proofs.Equal.{not_others}
use Rattle.expr_typing.proofs.One.{types_unique}

module _ (spec : Spec) where
  -- an expression is listed with types, wherever it stands
  abbrev pub IsListed : Expr → Type 0
  IsListed e = (s : Scope) (w : Expected) → (ts : List Typing) × AreListed spec (occurrence s w e ∷ []) ts

  pub list_all : (ps : List Occurrence) → AllByRecursion IsListed (exprs ps) → (ts : List Typing) × AreListed spec ps ts
  list_all [] h = ([], none)
  list_all (p ∷ ps) h = join (h.0 p.scope p.expected) (list_all ps h.1)
    where
      join : (ts : List Typing) × AreListed spec (p ∷ []) ts → (us : List Typing) × AreListed spec ps us → (vs : List Typing) × AreListed spec (p ∷ ps) vs
      join (_, next _ _ a b d e) rest = (_, next p ps a rest.0 d rest.1)

  list_step : (e : Expr) → AllByRecursion IsListed (exprs_of e) → IsListed e
  list_step e parts s w =
      let inner = list_all (parts_of spec (occurrence s w e)) (subst (λ (es : List Expr). AllByRecursion IsListed es) (sym (exprs_parts spec s w (expr_layer e))) parts) in
      (_, next (occurrence s w e) [] inner.0 [] inner.1 none)

  pub each_listed : (es : List Expr) → AllByRecursion IsListed es
  each_listed [] = tt
  each_listed (e ∷ es) = (by_induction IsListed list_step e, each_listed es)

pub types_exist : TypesExist
types_exist spec faultless = let l = list_all spec (wholes_of spec) (each_listed spec (exprs (wholes_of spec))) in (l.0, faultless_have_types spec l.0 faultless l.1)

pub types_kept : TypesAreKept
types_kept spec types faultless merely =
    let some = types_exist spec faultless in
    let same : some.0 ≡ types = not_others some.0 types (λ differ. not_there merely (λ are. differ (types_unique spec some.0 types faultless some.1 are))) in
    subst (λ (ts : List Typing). AreTypes spec ts) same some.1
