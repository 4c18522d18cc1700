-- The ranges of a specification's expressions are those of their types.
use Rattle.std.proofs.Common.{◌≡◌, Bool, true, false, cond, List, [], ◌∷◌, length, refl, ap, subst, ◌∙◌, arith}
use Rattle.std.specs.Prelude.{Contains}
use Rattle.std.specs.List.{AllZip}
use Rattle.flow_term.specs.Orders.{EachOnce}
use Rattle.flow_syntax.specs.declared.expr.Expr.{Expr}
use Rattle.flow_syntax.specs.Expressions.{expressions_of}
use Rattle.flow_syntax.specs.Types.{Typing}
use Rattle.flow_syntax.proofs.Listed.{Contains_here, Contains_behind}
use Rattle.expr_meaning.specs.Ranges.{range_of}
use Rattle.expr_meaning.specs.Laws.{RangesAgree}
use Rattle.expr_meaning.specs.SpecRanges.{type_beside}
use Rattle.expr_meaning.specs.Same.{is_same}
use Rattle.expr_meaning.proofs.Same.{same_right, same_itself}

-- the rest of a list doesn't see its first item
passes : (x : Expr) (xs : List Expr) (t : Typing) (ts : List Typing) → (Contains xs x → ⊥) → (e : Expr) → Contains xs e → type_beside (x ∷ xs) (t ∷ ts) e ≡ type_beside xs ts e
passes x xs t ts absent e among = by (is_same e x) refl
  where
    by : (b : Bool) → is_same e x ≡ b → cond b t (type_beside xs ts e) ≡ type_beside xs ts e
    by true h = absurd (absent (subst (Contains xs) (same_right e x h) among))
    by false h = refl

-- each expression of a list of which none stands twice has the type beside it
beside : (all : List Expr) (types : List Typing) (xs : List Expr) (ts : List Typing) → EachOnce xs → length ts ≡ length xs → ((e : Expr) → Contains xs e → type_beside all types e ≡ type_beside xs ts e)
    → AllZip (λ e t. type_beside all types e ≡ t) xs ts
beside all types [] [] once same sees = tt
beside all types [] (t ∷ ts) once same sees = absurd (no same)
  where
    no : length (t ∷ ts) ≡ 0 → ⊥
    no k = omega (arith, k)
beside all types (x ∷ xs) [] once same sees = absurd (no same)
  where
    no : 0 ≡ length (x ∷ xs) → ⊥
    no k = omega (arith, k)
beside all types (x ∷ xs) (t ∷ ts) once same sees = (
  sees x (Contains_here x xs) ∙ ap (λ b. cond b t (type_beside xs ts x)) (same_itself x),
  beside all types xs ts once.1 (omega (arith, same)) (λ e among. sees e (Contains_behind x xs e among) ∙ passes x xs t ts once.0 e among),
)

zip_map : (declared : _) (all : List Expr) (types : List Typing) (xs : List Expr) (ts : List Typing) → AllZip (λ e t. type_beside all types e ≡ t) xs ts → AllZip (λ e t. range_of declared (type_beside all types e) ≡ range_of declared t) xs ts
zip_map declared all types [] [] h = tt
zip_map declared all types [] (t ∷ ts) h = absurd h
zip_map declared all types (x ∷ xs) [] h = absurd h
zip_map declared all types (x ∷ xs) (t ∷ ts) h = (ap (range_of declared) h.0, zip_map declared all types xs ts h.1)

pub ranges_agree : RangesAgree
ranges_agree spec types once same = zip_map spec.lattices (expressions_of spec) types (expressions_of spec) types (beside (expressions_of spec) types (expressions_of spec) types once same (λ e among. refl))
