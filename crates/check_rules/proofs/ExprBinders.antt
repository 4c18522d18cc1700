-- The names that expressions bind, by their layers.
use Rattle.std.proofs.Common.{◌≡◌, ℕ, Bool, false, List, [], ◌∷◌, ◌++◌, map, Option, Some, None, zero, suc, ◌+◌, ◌<◌, ◌≤◌, drop, length, get_or, take, add-one, refl, sym, ap, ◌∙◌, inl, inr}
use Rattle.std.proofs.lemmas.List.{append-nil, append_assoc, drop_all, map-append, take_more}
use Rattle.std.proofs.lemmas.Option.{slice_get_past}
use Rattle.std.proofs.lemmas.Result.{on_ok_weaker}
use Rattle.std.specs.Prelude.{◌⊎◌, slice_get, Result, OnOk}
use Rattle.std.specs.Option.{option_map_or}
use Rattle.std.specs.List.{flat_map}
use Rattle.flow_syntax.specs.declared.expr.ArithOp.{ArithOp}
use Rattle.flow_syntax.specs.declared.expr.CompareOp.{CompareOp}
use Rattle.flow_syntax.specs.declared.expr.SetOp.{SetOp}
use Rattle.flow_syntax.specs.declared.expr.Expr.{Expr, out-Expr, fold_out-Expr}
use Rattle.flow_syntax.specs.declared.expr.ExprKind.{ExprKind, out-ExprKind, fold-ExprKind, fold_out-ExprKind, map-ExprKind}
use Rattle.flow_syntax.specs.declared.expr.ExprKind.TheVariants as exprs
use Rattle.flow_syntax.specs.declared.expr.ExprKind.TheOpen.{ExprKind-F}
use Rattle.flow_syntax.proofs.ExprLayers.{layer_of_and, layer_of_arith, layer_of_bind, layer_of_both, layer_of_call, layer_of_choose, layer_of_compare, layer_of_if, layer_of_look, layer_of_map_of, layer_of_member, layer_of_or, layer_of_set2, layer_of_set_of, layer_of_update}
use Rattle.flow_syntax.specs.Binders.{Binder, binder, binder_layer, binders_in, in_turn}
use Rattle.flow_syntax.specs.Expressions.{ExprLayer, expr_layer}
use Rattle.check_rules.specs.inner.Tables.{known_binder, names_at, names_in_turn, names_of_choice, names_of_choice_layer, names_of_map, names_of_map_layer}
use Rattle.check_rules.proofs.PatternLayers.{flat_again}

-- a layer with the names that its parts bind
abbrev pub bindings_of : ExprLayer → ExprKind-F (ℕ → List Binder) (List Binder)
bindings_of = map-ExprKind ExprKind Expr (ℕ → List Binder) (List Binder) (fold-ExprKind (ℕ → List Binder) (List Binder) binder_layer (λ e. e.kind e.place)) binders_in

binders_in_out : (e : Expr) → binders_in e ≡ binder_layer (bindings_of (expr_layer e)) (out-Expr e).place
binders_in_out e =
    fold_out-Expr (ℕ → List Binder) (List Binder) binder_layer (λ e. e.kind e.place) e
    ∙ ap (λ (f : ℕ → List Binder). f (out-Expr e).place) (fold_out-ExprKind (ℕ → List Binder) (List Binder) binder_layer (λ e. e.kind e.place) (out-Expr e).kind)

abbrev pub Known : Type 0
Known = List (Binder × Bool)

-- what is known of the names that an expression binds
abbrev pub names_in : Expr → Known
names_in e = map known_binder (binders_in e)

two : (xs ys : List Binder) → map known_binder (xs ++ ys) ≡ map known_binder xs ++ map known_binder ys
two xs ys = map-append known_binder xs ys

three : (xs ys zs : List Binder) → map known_binder (xs ++ ys ++ zs) ≡ map known_binder xs ++ map known_binder ys ++ map known_binder zs
three xs ys zs = two (xs ++ ys) zs ∙ ap (λ ws. ws ++ map known_binder zs) (two xs ys)

-- the names that an expression binds, by its layer
pub names_in_out : (e : Expr) → map known_binder (binders_in e) ≡ map known_binder (binder_layer (bindings_of (expr_layer e)) (out-Expr e).place)
names_in_out e = ap (map known_binder) (binders_in_out e)

-- a list alone
alone : (ks : List Expr) → in_turn (map binders_in ks) [] ≡ flat_map binders_in ks
alone [] = refl
alone (k ∷ ks) = ap (λ ys. binders_in k ++ ys) (alone ks)

-- the names of the expression with a number
abbrev names_of : List Expr → ℕ → List Binder
names_of es i = option_map_or binders_in (slice_get es i) []

step_alone : (es : List Expr) (i : ℕ) → flat_map binders_in (drop i es) ≡ names_of es i ++ flat_map binders_in (drop (suc i) es)
step_alone [] zero = refl
step_alone (e ∷ es) zero = refl
step_alone [] (suc i) = refl
step_alone (e ∷ es) (suc i) = step_alone es i

values_alone : (vs : List Expr) → in_turn [] (map binders_in vs) ≡ flat_map binders_in vs
values_alone vs = flat_again binders_in vs

step : (ks vs : List Expr) (i : ℕ)
    → in_turn (map binders_in (drop i ks)) (map binders_in (drop i vs)) ≡ (names_of ks i ++ names_of vs i) ++ in_turn (map binders_in (drop (suc i) ks)) (map binders_in (drop (suc i) vs))
step [] [] zero = refl
step [] (v ∷ vs) zero = refl
step (k ∷ ks) [] zero = ap (λ ys. ys ++ in_turn (map binders_in ks) []) (sym (append-nil (binders_in k)))
step (k ∷ ks) (v ∷ vs) zero = refl
step [] [] (suc i) = refl
step [] (v ∷ vs) (suc i) = values_alone (drop i vs) ∙ step_alone vs i ∙ ap (λ ys. names_of vs i ++ ys) (sym (values_alone (drop (suc i) vs)))
step (k ∷ ks) [] (suc i) =
    alone (drop i ks) ∙ step_alone ks i ∙ ap (λ ys. names_of ks i ++ ys) (sym (alone (drop (suc i) ks))) ∙ ap (λ ys. ys ++ in_turn (map binders_in (drop (suc i) ks)) []) (sym (append-nil (names_of ks i)))
step (k ∷ ks) (v ∷ vs) (suc i) = step ks vs i

-- the names in turn from a number on
pub turn_step : (ks vs : List Expr) (i : ℕ) → names_in_turn (drop i ks) (drop i vs) ≡ names_at ks i ++ names_at vs i ++ names_in_turn (drop (i + 1) ks) (drop (i + 1) vs)
turn_step ks vs i =
    ap (map known_binder) (step ks vs i) ∙ three (names_of ks i) (names_of vs i) (in_turn (map binders_in (drop (suc i) ks)) (map binders_in (drop (suc i) vs)))
    ∙ ap (λ (n : ℕ). names_at ks i ++ names_at vs i ++ names_in_turn (drop n ks) (drop n vs)) (sym (add-one i))

-- where both end
pub turn_end : (ks vs : List Expr) (i : ℕ) → length ks ≤ i → length vs ≤ i → names_in_turn (drop i ks) (drop i vs) ≡ []
turn_end ks vs i k v = ap (λ (ys : List Expr). names_in_turn ys (drop i vs)) (drop_all i ks k) ∙ ap (λ (ys : List Expr). names_in_turn [] ys) (drop_all i vs v)

-- what is added in one turn
pub turn_more : (ks vs : List Expr) (i : ℕ) (whole old mid new : Known) → mid ≡ old ++ names_at ks i → new ≡ mid ++ names_at vs i → old ++ names_in_turn (drop i ks) (drop i vs) ≡ whole
    → new ++ names_in_turn (drop (i + 1) ks) (drop (i + 1) vs) ≡ whole
turn_more ks vs i whole old mid new first second was =
    ap (λ ys. ys ++ names_in_turn (drop (i + 1) ks) (drop (i + 1) vs)) (second ∙ ap (λ ys. ys ++ names_at vs i) first ∙ append_assoc old (names_at ks i) (names_at vs i))
    ∙ append_assoc old (names_at ks i ++ names_at vs i) (names_in_turn (drop (i + 1) ks) (drop (i + 1) vs)) ∙ ap (λ ys. old ++ ys) (sym (turn_step ks vs i)) ∙ was

pub turns_done : (ks vs : List Expr) (i : ℕ) (whole new : Known) → length ks ≤ i → length vs ≤ i → new ++ names_in_turn (drop i ks) (drop i vs) ≡ whole → new ≡ whole
turns_done ks vs i whole new k v was = sym (append-nil new) ∙ ap (λ ys. new ++ ys) (sym (turn_end ks vs i k v)) ∙ was

pub at_past : (es : List Expr) (i : ℕ) → length es ≤ i → names_at es i ≡ []
at_past es i past = ap (λ o. map known_binder (option_map_or binders_in o [])) (slice_get_past es i past)

-- what is added in two steps
pub pushed_two : (old xs ys mid new whole : Known) → mid ≡ old ++ xs → new ≡ mid ++ ys → whole ≡ xs ++ ys → new ≡ old ++ whole
pushed_two old xs ys mid new whole first second e = second ∙ ap (λ zs. zs ++ ys) first ∙ append_assoc old xs ys ∙ ap (λ zs. old ++ zs) (sym e)

-- what is added by a call that may run out of memory
pub pushed : {R E : Type 0} (result : Result R E) (old xs new whole : Known) → OnOk result (new ≡ old ++ xs) → whole ≡ xs → OnOk result (new ≡ old ++ whole)
pushed result old xs new whole made e = on_ok_weaker result (λ is. is ∙ ap (λ zs. old ++ zs) (sym e)) made

-- the same where something was added before
pub pushed_behind : {R E : Type 0} (result : Result R E) (old xs ys mid new whole : Known) → mid ≡ old ++ xs → OnOk result (new ≡ mid ++ ys) → whole ≡ xs ++ ys → OnOk result (new ≡ old ++ whole)
pushed_behind result old xs ys mid new whole first made e = on_ok_weaker result (λ is. pushed_two old xs ys mid new whole first is e) made

-- one expression more
pub flat_more : (es : List Expr) (i : ℕ) (e : Expr) (old mid new : Known) → i < length es → e ≡ get_or es i e → mid ≡ old ++ map known_binder (flat_map binders_in (take i es)) → new ≡ mid ++ names_in e
    → new ≡ old ++ map known_binder (flat_map binders_in (take (i + 1) es))
flat_more es i e old mid new within is was made =
    pushed_two old (map known_binder (flat_map binders_in (take i es))) (names_in e) mid new (map known_binder (flat_map binders_in (take (i + 1) es))) was made
    (ap (λ xs. map known_binder (flat_map binders_in xs)) (take_more es i e within ∙ ap (λ z. take i es ++ z ∷ []) (sym is)) ∙ ap (map known_binder) (flat_end (take i es) e) ∙ two (flat_map binders_in (take i es)) (binders_in e))
  where
    flat_end : (xs : List Expr) (x : Expr) → flat_map binders_in (xs ++ x ∷ []) ≡ flat_map binders_in xs ++ binders_in x
    flat_end [] x = append-nil (binders_in x)
    flat_end (y ∷ xs) x = ap (λ ys. binders_in y ++ ys) (flat_end xs x) ∙ sym (append_assoc (binders_in y) (flat_map binders_in xs) (binders_in x))

-- WHAT FORMS BIND

binders_where : (e : Expr) (layer : ExprLayer) → expr_layer e ≡ layer → binders_in e ≡ binder_layer (bindings_of layer) (out-Expr e).place
binders_where e layer is = binders_in_out e ∙ ap (λ y. binder_layer (bindings_of y) (out-Expr e).place) is

pub names_bind : (e : Expr) (x : List ℕ) (a b p q : Expr) → (out-Expr e).kind ≡ exprs.Bind x a b → p ≡ a → q ≡ b → names_in e ≡ ((binder x (out-Expr e).place, false) ∷ []) ++ names_in p ++ names_in q
names_bind e x a b p q is f g =
    ap (map known_binder) (binders_where e (ExprKind-F.Bind x a b) (ap out-ExprKind is ∙ layer_of_bind x a b) ∙ ap (λ r. binder x (out-Expr e).place ∷ binders_in r ++ binders_in b) (sym f) ∙ ap (λ r. binder x (out-Expr e).place ∷ binders_in p ++ binders_in r) (sym g))
    ∙ two (binder x (out-Expr e).place ∷ binders_in p) (binders_in q)

known_of_choice : (a : Expr) (x : List ℕ) (s : Expr) (c : Option Expr) (at : ℕ) → map known_binder (binder_layer (bindings_of (ExprKind-F.Choose a x s c)) at) ≡ names_of_choice_layer (ExprKind-F.Choose a x s c) at
known_of_choice a x s c at =
    ap (map known_binder) (any c) ∙ three (binders_in a) (binder x at ∷ binders_in s) (option_map_or binders_in c [])
    ∙ ap (λ ys. ys ++ map known_binder (option_map_or binders_in c [])) (sym (append_assoc (names_in a) ((binder x at, false) ∷ []) (names_in s)))
  where
    any : (c : Option Expr) → binder_layer (bindings_of (ExprKind-F.Choose a x s c)) at ≡ binders_in a ++ binder x at ∷ binders_in s ++ option_map_or binders_in c []
    any None = refl
    any (Some d) = refl

choose_layer : (e a : Expr) (x : List ℕ) (s : Expr) (c : Option Expr) → (out-Expr e).kind ≡ exprs.Choose a x s c → expr_layer e ≡ ExprKind-F.Choose a x s c
choose_layer e a x s c is = ap out-ExprKind is ∙ layer_of_choose a x s c

-- what a choice of elements binds
pub names_choose : (e a : Expr) (x : List ℕ) (s : Expr) (c : Option Expr) → (out-Expr e).kind ≡ exprs.Choose a x s c → names_in e ≡ names_of_choice e
names_choose e a x s c is =
    ap (map known_binder) (binders_where e (ExprKind-F.Choose a x s c) (choose_layer e a x s c is)) ∙ known_of_choice a x s c (out-Expr e).place
    ∙ ap (λ y. names_of_choice_layer y (out-Expr e).place) (sym (choose_layer e a x s c is))

parts_of_choice : (e a : Expr) (x : List ℕ) (s p q : Expr) (c d : Option Expr) → (out-Expr e).kind ≡ exprs.Choose a x s c → c ≡ d → p ≡ a → q ≡ s
    → names_of_choice e ≡ names_in p ++ ((binder x (out-Expr e).place, false) ∷ []) ++ names_in q ++ map known_binder (option_map_or binders_in d [])
parts_of_choice e a x s p q c d is same f g =
    ap (λ y. names_of_choice_layer y (out-Expr e).place) (choose_layer e a x s c is)
    ∙ ap (λ o. names_in a ++ ((binder x (out-Expr e).place, false) ∷ []) ++ names_in s ++ map known_binder (option_map_or binders_in o [])) same
    ∙ ap (λ r. names_in r ++ ((binder x (out-Expr e).place, false) ∷ []) ++ names_in s ++ map known_binder (option_map_or binders_in d [])) (sym f)
    ∙ ap (λ r. names_in p ++ ((binder x (out-Expr e).place, false) ∷ []) ++ names_in r ++ map known_binder (option_map_or binders_in d [])) (sym g)

pub choice_without : (e a : Expr) (x : List ℕ) (s p q : Expr) (c : Option Expr) → (out-Expr e).kind ≡ exprs.Choose a x s c → c ≡ None → p ≡ a → q ≡ s
    → names_of_choice e ≡ names_in p ++ ((binder x (out-Expr e).place, false) ∷ []) ++ names_in q
choice_without e a x s p q c is none f g = parts_of_choice e a x s p q c None is none f g ∙ append-nil (names_in p ++ ((binder x (out-Expr e).place, false) ∷ []) ++ names_in q)

pub choice_with : (e a : Expr) (x : List ℕ) (s d p q r : Expr) (c : Option Expr) → (out-Expr e).kind ≡ exprs.Choose a x s c → c ≡ Some d → p ≡ a → q ≡ s → r ≡ d
    → names_of_choice e ≡ names_in p ++ ((binder x (out-Expr e).place, false) ∷ []) ++ names_in q ++ names_in r
choice_with e a x s d p q r c is some f g h =
    parts_of_choice e a x s p q c (Some d) is some f g ∙ ap (λ t. names_in p ++ ((binder x (out-Expr e).place, false) ∷ []) ++ names_in q ++ names_in t) (sym h)

names_of_list : (e : Expr) (parts ps : List Expr) → binders_in e ≡ flat_map (λ bs. bs) (map binders_in parts) → ps ≡ parts → names_in e ≡ map known_binder (flat_map binders_in ps)
names_of_list e parts ps is same = ap (map known_binder) (is ∙ flat_again binders_in parts ∙ ap (flat_map binders_in) (sym same))

-- what the arguments of a call or the elements of a set bind
pub names_list : (e : Expr) (parts ps : List Expr) → ((f : List ℕ) × ((out-Expr e).kind ≡ exprs.Call f parts)) ⊎ ((out-Expr e).kind ≡ exprs.SetOf parts) → ps ≡ parts → names_in e ≡ map known_binder (flat_map binders_in ps)
names_list e parts ps (inl h) = names_of_list e parts ps (binders_where e (ExprKind-F.Call h.0 parts) (ap out-ExprKind h.1 ∙ layer_of_call h.0 parts))
names_list e parts ps (inr h) = names_of_list e parts ps (binders_where e (ExprKind-F.SetOf parts) (ap out-ExprKind h ∙ layer_of_set_of parts))

map_layer : (e : Expr) (ks vs : List Expr) → (out-Expr e).kind ≡ exprs.MapOf ks vs → expr_layer e ≡ ExprKind-F.MapOf ks vs
map_layer e ks vs is = ap out-ExprKind is ∙ layer_of_map_of ks vs

-- what the keys and values of a map bind
pub names_of_keys : (e : Expr) (ks vs : List Expr) → (out-Expr e).kind ≡ exprs.MapOf ks vs → names_of_map e ≡ names_in_turn ks vs
names_of_keys e ks vs is = ap names_of_map_layer (map_layer e ks vs is)

pub names_map_of : (e : Expr) (ks vs : List Expr) → (out-Expr e).kind ≡ exprs.MapOf ks vs → names_in e ≡ names_of_map e
names_map_of e ks vs is = ap (map known_binder) (binders_where e (ExprKind-F.MapOf ks vs) (map_layer e ks vs is)) ∙ sym (names_of_keys e ks vs is)

names_of_two : (e a b p q : Expr) → binders_in e ≡ binders_in a ++ binders_in b → p ≡ a → q ≡ b → names_in e ≡ names_in p ++ names_in q
names_of_two e a b p q is f g = ap (map known_binder) (is ∙ ap (λ r. binders_in r ++ binders_in b) (sym f) ∙ ap (λ r. binders_in p ++ binders_in r) (sym g)) ∙ two (binders_in p) (binders_in q)

-- what the parts of a form of two parts bind
pub names_two : (e a b p q : Expr)
    → ((out-Expr e).kind ≡ exprs.Both a b) ⊎ (((out-Expr e).kind ≡ exprs.Look a b) ⊎ (((o : SetOp) × ((out-Expr e).kind ≡ exprs.Set2 o a b)) ⊎ (((o : ArithOp) × ((out-Expr e).kind ≡ exprs.Arith o a b))
    ⊎ (((o : CompareOp) × ((out-Expr e).kind ≡ exprs.Compare o a b)) ⊎ (((out-Expr e).kind ≡ exprs.Member a b) ⊎ (((out-Expr e).kind ≡ exprs.And a b) ⊎ ((out-Expr e).kind ≡ exprs.Or a b)))))))
    → p ≡ a → q ≡ b → names_in e ≡ names_in p ++ names_in q
names_two e a b p q (inl is) = names_of_two e a b p q (binders_where e (ExprKind-F.Both a b) (ap out-ExprKind is ∙ layer_of_both a b))
names_two e a b p q (inr (inl is)) = names_of_two e a b p q (binders_where e (ExprKind-F.Look a b) (ap out-ExprKind is ∙ layer_of_look a b))
names_two e a b p q (inr (inr (inl h))) = names_of_two e a b p q (binders_where e (ExprKind-F.Set2 h.0 a b) (ap out-ExprKind h.1 ∙ layer_of_set2 h.0 a b))
names_two e a b p q (inr (inr (inr (inl h)))) = names_of_two e a b p q (binders_where e (ExprKind-F.Arith h.0 a b) (ap out-ExprKind h.1 ∙ layer_of_arith h.0 a b))
names_two e a b p q (inr (inr (inr (inr (inl h))))) = names_of_two e a b p q (binders_where e (ExprKind-F.Compare h.0 a b) (ap out-ExprKind h.1 ∙ layer_of_compare h.0 a b))
names_two e a b p q (inr (inr (inr (inr (inr (inl is)))))) = names_of_two e a b p q (binders_where e (ExprKind-F.Member a b) (ap out-ExprKind is ∙ layer_of_member a b))
names_two e a b p q (inr (inr (inr (inr (inr (inr (inl is))))))) = names_of_two e a b p q (binders_where e (ExprKind-F.And a b) (ap out-ExprKind is ∙ layer_of_and a b))
names_two e a b p q (inr (inr (inr (inr (inr (inr (inr is))))))) = names_of_two e a b p q (binders_where e (ExprKind-F.Or a b) (ap out-ExprKind is ∙ layer_of_or a b))

pub names_three : (e a b c p q r : Expr) → ((out-Expr e).kind ≡ exprs.Update a b c) ⊎ ((out-Expr e).kind ≡ exprs.If a b c) → p ≡ a → q ≡ b → r ≡ c
    → names_in e ≡ names_in p ++ names_in q ++ names_in r
names_three e a b c p q r is f g h =
    ap (map known_binder) (by is ∙ ap (λ t. binders_in t ++ binders_in b ++ binders_in c) (sym f) ∙ ap (λ t. binders_in p ++ binders_in t ++ binders_in c) (sym g) ∙ ap (λ t. binders_in p ++ binders_in q ++ binders_in t) (sym h))
    ∙ three (binders_in p) (binders_in q) (binders_in r)
  where
    by : ((out-Expr e).kind ≡ exprs.Update a b c) ⊎ ((out-Expr e).kind ≡ exprs.If a b c) → binders_in e ≡ binders_in a ++ binders_in b ++ binders_in c
    by (inl is) = binders_where e (ExprKind-F.Update a b c) (ap out-ExprKind is ∙ layer_of_update a b c)
    by (inr is) = binders_where e (ExprKind-F.If a b c) (ap out-ExprKind is ∙ layer_of_if a b c)
