-- An expression with its parts, by its layer.
use Rattle.std.proofs.Common.{◌≡◌, List, [], ◌∷◌, ◌++◌, map, refl, ap, ◌∙◌}
use Rattle.std.specs.List.{flat_map}
use Rattle.flow_syntax.specs.declared.expr.Expr.{Expr}
use Rattle.flow_syntax.specs.Expressions.{expr_layer, parts_in, parts_of, preorder}
use Rattle.flow_syntax.specs.Parts.{Part, part}
use Rattle.flow_syntax.proofs.Parts.{given_parts, by_parts_out}

given_flat : (f : Expr → List Expr) (es : List Expr) → flat_map (λ (p : Part (List Expr)). p.given) (map (λ e. part e (f e)) es) ≡ flat_map f es
given_flat f [] = refl
given_flat f (e ∷ es) = ap (λ (xs : List Expr). f e ++ xs) (given_flat f es)

pub preorder_out : (e : Expr) → preorder e ≡ e ∷ flat_map preorder (parts_of e)
preorder_out e =
    by_parts_out (λ e layer. e ∷ flat_map (λ (p : Part (List Expr)). p.given) (parts_in layer)) e
    ∙ ap (λ (ps : List (Part (List Expr))). e ∷ flat_map (λ (p : Part (List Expr)). p.given) ps) (given_parts preorder (expr_layer e))
    ∙ ap (λ (xs : List Expr). e ∷ xs) (given_flat preorder (parts_of e))
