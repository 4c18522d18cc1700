-- Walks over lists of expressions beside their types.
use Rattle.std.proofs.Common.{◌≡◌, ℕ, ◌+◌, ◌<◌, ◌≤◌, Bool, List, [], ◌∷◌, ◌++◌, length, map, take, drop, get_or, refl, sym, ap, subst, ◌∙◌}
use Rattle.std.specs.List.{flat_map}
use Rattle.std.proofs.lemmas.List.{append_assoc, map-append, take_all, take_more}
use Rattle.flow_syntax.specs.declared.expr.Expr.{Expr}
use Rattle.flow_syntax.specs.declared.property.Mode.{Mode}
use Rattle.flow_syntax.specs.declared.tables.TableDecl.{TableDecl}
use Rattle.flow_syntax.specs.declared.types.ExprType.{ExprType}
use Rattle.flow_syntax.specs.Expressions.{ExprLayer, expr_layer, parts_in, parts_of, preorder}
use Rattle.flow_syntax.specs.Types.{Typing, lattice, element, truth, may, must, flat, map_to, pair_of, table, typing_of}
use Rattle.flow_syntax.proofs.Parts.{given_layer, by_parts_out}
use Rattle.flow_syntax.proofs.Preorders.{preorder_out}
use Rattle.expr_meaning.specs.Modes.{mode_of, form_mode, all_combined, combined, is_must}
use Rattle.expr_meaning.specs.Ranges.{Range, range_of, domain_in}
use Rattle.flow_modes.specs.inner.Walked.{AgreeWith, behind, is_must_type, begins_with_must, IsWalked, AllWalked}
use Rattle.flow_modes.proofs.Modes.{combined_behind}

-- LISTS

pub agree_split : (declared : List TableDecl) (range : Expr → Range) (xs ys : List Expr) (ts : List ExprType) → AgreeWith declared range (xs ++ ys) ts → AgreeWith declared range xs ts × AgreeWith declared range ys (behind xs ts)
agree_split declared range [] ys ts h = (tt, h)
agree_split declared range (x ∷ xs) ys [] h = absurd h
agree_split declared range (x ∷ xs) ys (t ∷ ts) h = let rest = agree_split declared range xs ys ts h.1 in ((h.0, rest.0), rest.1)

pub behind_both : (xs ys : List Expr) (ts : List ExprType) → behind (xs ++ ys) ts ≡ behind ys (behind xs ts)
behind_both [] ys ts = refl
behind_both (x ∷ xs) ys ts = behind_both xs ys (drop 1 ts)

pub flat_more : (xs ys : List Expr) → flat_map preorder (xs ++ ys) ≡ flat_map preorder xs ++ flat_map preorder ys
flat_more [] ys = refl
flat_more (x ∷ xs) ys = ap (λ (zs : List Expr). preorder x ++ zs) (flat_more xs ys) ∙ sym (append_assoc (preorder x) (flat_map preorder xs) (flat_map preorder ys))

-- WALKS

-- the modes of expressions, and what stands behind them
abbrev pub ModesWalked : List Expr → List ExprType → List Mode → List ExprType → Type 0
ModesWalked es ts ms rest = (declared : List TableDecl) (range : Expr → Range) → AgreeWith declared range (flat_map preorder es) ts → (map (mode_of range) es ≡ ms) × (behind (flat_map preorder es) ts ≡ rest)

pub none_walked : (ts : List ExprType) → ModesWalked [] ts [] ts
none_walked ts declared range h = (refl, refl)

pub more_walked : (e : Expr) (es : List Expr) (ts rest end : List ExprType) (m : Mode) (ms : List Mode) → IsWalked e ts m rest → ModesWalked es rest ms end → ModesWalked (e ∷ es) ts (m ∷ ms) end
more_walked e es ts rest end m ms one others declared range h =
    let split = agree_split declared range (preorder e) (flat_map preorder es) ts h in
    let first = one declared range split.0 in
    let then = others declared range (subst (AgreeWith declared range (flat_map preorder es)) first.1 split.1) in
    ((λ i. first.0 i ∷ then.0 i), behind_both (preorder e) (flat_map preorder es) ts ∙ ap (behind (flat_map preorder es)) first.1 ∙ then.1)

pub one_behind : (es : List Expr) (e : Expr) (ts rest end : List ExprType) (m n : Mode) → AllWalked es ts m rest → IsWalked e rest n end → AllWalked (es ++ e ∷ []) ts (combined m n) end
one_behind es e ts rest end m n all one declared range h =
    let split = agree_split declared range (flat_map preorder es) (flat_map preorder (e ∷ [])) ts (subst (λ (xs : List Expr). AgreeWith declared range xs ts) (flat_more es (e ∷ [])) h) in
    let before = all declared range split.0 in
    let own = agree_split declared range (preorder e) [] rest (subst (AgreeWith declared range (preorder e ++ [])) before.1 split.1) in
    let last = one declared range own.0 in (
      ap all_combined (map-append (mode_of range) es (e ∷ [])) ∙ combined_behind (map (mode_of range) es) (mode_of range e) ∙ (λ i. combined (before.0 i) (last.0 i)),
      ap (λ (xs : List Expr). behind xs ts) (flat_more es (e ∷ [])) ∙ behind_both (flat_map preorder es) (preorder e ++ []) ts ∙ ap (behind (preorder e ++ [])) before.1 ∙ behind_both (preorder e) [] rest ∙ last.1,
    )

-- OWN TYPES

must_type : (declared : List TableDecl) (t : Typing) → is_must (domain_in (range_of declared t)) ≡ is_must_type t
must_type declared (lattice (may s)) = refl
must_type declared (lattice (must s)) = refl
must_type declared (lattice (flat s)) = refl
must_type declared (lattice (map_to s l)) = refl
must_type declared (lattice (pair_of a b)) = refl
must_type declared (lattice (table x)) = refl
must_type declared (element s) = refl
must_type declared truth = refl

first_agrees : (declared : List TableDecl) (range : Expr → Range) (e : Expr) (es : List Expr) (ts : List ExprType) → AgreeWith declared range (e ∷ es) ts → (is_must (domain_in (range e)) ≡ begins_with_must ts) × AgreeWith declared range es (drop 1 ts)
first_agrees declared range e es [] h = absurd h
first_agrees declared range e es (t ∷ ts) h = (ap (λ r. is_must (domain_in r)) h.0 ∙ must_type declared (typing_of t), h.1)

-- whether an expression has must sets is told by the first of its types
pub own_must : (declared : List TableDecl) (range : Expr → Range) (e : Expr) (ts : List ExprType) → AgreeWith declared range (preorder e) ts → is_must (domain_in (range e)) ≡ begins_with_must ts
own_must declared range e ts h = (first_agrees declared range e (flat_map preorder (parts_of e)) ts (subst (λ (xs : List Expr). AgreeWith declared range xs ts) (preorder_out e) h)).0

-- an expression by its layer, from what is found of its parts
pub whole_walked : (e : Expr) (layer : ExprLayer) (ts rest : List ExprType) (m : Mode) → expr_layer e ≡ layer
    → ((declared : List TableDecl) (range : Expr → Range) → is_must (domain_in (range e)) ≡ begins_with_must ts → AgreeWith declared range (flat_map preorder (parts_in layer)) (drop 1 ts)
    → (form_mode range (domain_in (range e)) (given_layer (mode_of range) layer) ≡ m) × (behind (flat_map preorder (parts_in layer)) (drop 1 ts) ≡ rest))
    → IsWalked e ts m rest
whole_walked e layer ts rest m is parts declared range h =
    let out : preorder e ≡ e ∷ flat_map preorder (parts_in layer) = preorder_out e ∙ ap (λ (l : ExprLayer). e ∷ flat_map preorder (parts_in l)) is in
    let own = first_agrees declared range e (flat_map preorder (parts_in layer)) ts (subst (λ (xs : List Expr). AgreeWith declared range xs ts) out h) in
    let found = parts declared range own.0 own.1 in (
      by_parts_out (λ e l. form_mode range (domain_in (range e)) l) e ∙ ap (λ (l : ExprLayer). form_mode range (domain_in (range e)) (given_layer (mode_of range) l)) is ∙ found.0,
      ap (λ (xs : List Expr). behind xs ts) out ∙ found.1,
    )

-- the same where the modes of the parts, one by one, are what counts
pub by_modes : (e : Expr) (layer : ExprLayer) (ts rest : List ExprType) (ms : List Mode) (f : Bool → List Mode → Mode) → expr_layer e ≡ layer → ModesWalked (parts_in layer) (drop 1 ts) ms rest
    → ((range : Expr → Range) → form_mode range (domain_in (range e)) (given_layer (mode_of range) layer) ≡ f (is_must (domain_in (range e))) (map (mode_of range) (parts_in layer)))
    → IsWalked e ts (f (begins_with_must ts) ms) rest
by_modes e layer ts rest ms f is walked form =
    whole_walked e layer ts rest (f (begins_with_must ts) ms) is
    (λ declared range own agree. let found = walked declared range agree in (form range ∙ (λ i. f (own i) (found.0 i)), found.1))

-- THE NEXT OF A LIST

pub next_walked : (es : List Expr) (i : ℕ) (e : Expr) (ts rest end : List ExprType) (m n o : Mode) → i < length es → e ≡ get_or es i e → AllWalked (take i es) ts m rest → IsWalked e rest n end → o ≡ combined m n → AllWalked (take (i + 1) es) ts o end
next_walked es i e ts rest end m n o within is before one made =
    let taken : take (i + 1) es ≡ take i es ++ e ∷ [] = take_more es i e within ∙ ap (λ (x : Expr). take i es ++ x ∷ []) (sym is) in
    subst (λ (xs : List Expr). AllWalked xs ts o end) (sym taken) (subst (λ x. AllWalked (take i es ++ e ∷ []) ts x end) (sym made) (one_behind (take i es) e ts rest end m n before one))

pub all_walked : (es : List Expr) (i : ℕ) (ts rest : List ExprType) (m : Mode) → length es ≤ i → AllWalked (take i es) ts m rest → AllWalked es ts m rest
all_walked es i ts rest m end h = subst (λ (xs : List Expr). AllWalked xs ts m rest) (take_all i es end) h
