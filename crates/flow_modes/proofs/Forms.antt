-- Each form of expression: its mode from the modes of its parts, and the walk over it.
use Rattle.std.proofs.Common.{◌≡◌, ℕ, cond, List, [], ◌∷◌, ◌++◌, drop, get_or, map, Option, Some, None, refl, sym, ap, subst, ◌∙◌, inl, inr}
use Rattle.std.specs.Prelude.{◌⊎◌}
use Rattle.std.specs.List.{flat_map}
use Rattle.flow_syntax.specs.declared.expr.ArithOp.{ArithOp}
use Rattle.flow_syntax.specs.declared.expr.CompareOp.{CompareOp}
use Rattle.flow_syntax.specs.declared.expr.Expr.{Expr, out-Expr}
use Rattle.flow_syntax.specs.declared.expr.ExprKind.{ExprKind, out-ExprKind}
use Rattle.flow_syntax.specs.declared.expr.ExprKind.TheOpen.{ExprKind-F}
use Rattle.flow_syntax.specs.declared.expr.ExprKind.TheVariants as exprs
use Rattle.flow_syntax.specs.declared.expr.SetOp.{SetOp}
use Rattle.flow_syntax.specs.declared.expr.SetOp.TheVariants as op
use Rattle.flow_syntax.specs.declared.property.Mode.{Mode}
use Rattle.flow_syntax.specs.declared.property.Mode.TheVariants as mode
use Rattle.flow_syntax.specs.declared.types.ExprType.{ExprType}
use Rattle.flow_syntax.specs.Expressions.{ExprLayer, expr_layer, parts_in, preorder, all_of_option}
use Rattle.flow_syntax.proofs.ExprLayers.{layer_of_call, layer_of_both, layer_of_set_of, layer_of_choose, layer_of_map_of, layer_of_look, layer_of_update, layer_of_set2, layer_of_arith, layer_of_compare, layer_of_member, layer_of_and, layer_of_or, layer_of_bind, layer_of_if}
use Rattle.flow_syntax.proofs.Parts.{given_layer}
use Rattle.value_domains.specs.Domains.{Domain}
use Rattle.expr_meaning.specs.Modes.{mode_of, form_mode, all_combined, modes_of, turned, needs, is_must}
use Rattle.expr_meaning.specs.Ranges.{Range, domain_in}
use Rattle.flow_modes.specs.inner.Table.{two_mode, member_mode, three_mode, choose_mode}
use Rattle.flow_modes.specs.inner.Walked.{AgreeWith, behind, begins_with_must, IsWalked, AllWalked, IfWalked}
use Rattle.flow_modes.proofs.Modes.{combined_fixed}
use Rattle.flow_modes.proofs.Walks.{agree_split, behind_both, flat_more, ModesWalked, none_walked, more_walked, own_must, whole_walked, by_modes}

-- the mode of a layer with the modes of its parts
abbrev mode_at : (Expr → Range) → Domain → ExprLayer → Mode
mode_at range own layer = form_mode range own (given_layer (mode_of range) layer)

-- the mode of an optional condition
abbrev condition_at : (Expr → Range) → Option Expr → Mode
condition_at range None = mode.Fixed
condition_at range (Some c) = mode_of range c

-- A layer has these two parts.
pub record IsTwo (a b : Expr) (layer : ExprLayer) : Type 0 where
  pub parts : parts_in layer ≡ a ∷ b ∷ []
  pub gives : (range : Expr → Range) (own : Domain) → mode_at range own layer ≡ two_mode layer (is_must own) (mode_of range a) (mode_of range b)

-- A layer has these three parts.
pub record IsThree (a b c : Expr) (layer : ExprLayer) : Type 0 where
  pub parts : parts_in layer ≡ a ∷ b ∷ c ∷ []
  pub gives : (range : Expr → Range) (own : Domain) → mode_at range own layer ≡ three_mode layer (mode_of range a) (mode_of range b) (mode_of range c)

by_layer : (P : ExprLayer → Type 0) (k : ExprKind) (layer : ExprLayer) (made : ExprKind) → k ≡ made → out-ExprKind made ≡ layer → P layer → P (out-ExprKind k)
by_layer P k layer made is out h = subst P (sym (ap out-ExprKind is ∙ out)) h

-- WITH TWO OR THREE PARTS

set_two : (o : SetOp) (a b : Expr) → IsTwo a b (ExprKind-F.Set2 o a b)
set_two op.Join a b = record { parts = refl; gives = λ range own. refl }
set_two op.Union a b = record { parts = refl; gives = λ range own. refl }
set_two op.Inter a b = record { parts = refl; gives = λ range own. refl }
set_two op.Minus a b = record { parts = refl; gives = λ range own. refl }

abbrev HasTwo : ExprKind → Expr → Expr → Type 0
HasTwo k a b = (k ≡ exprs.Both a b) ⊎ ((k ≡ exprs.Look a b) ⊎ (((o : SetOp) × (k ≡ exprs.Set2 o a b)) ⊎ (((o : ArithOp) × (k ≡ exprs.Arith o a b)) ⊎ (((o : CompareOp) × (k ≡ exprs.Compare o a b))
    ⊎ ((k ≡ exprs.And a b) ⊎ ((k ≡ exprs.Or a b) ⊎ ((x : List ℕ) × (k ≡ exprs.Bind x a b))))))))

pub two_of : (k : ExprKind) (a b x y : Expr) → x ≡ a → y ≡ b → HasTwo k a b → IsTwo x y (out-ExprKind k)
two_of k a b x y p q is = subst (λ (z : Expr). IsTwo z y (out-ExprKind k)) (sym p) (subst (λ (z : Expr). IsTwo a z (out-ExprKind k)) (sym q) (by is))
  where
    by : HasTwo k a b → IsTwo a b (out-ExprKind k)
    by (inl h) = by_layer (IsTwo a b) k _ _ h (layer_of_both a b) (record { parts = refl; gives = λ range own. refl })
    by (inr (inl h)) = by_layer (IsTwo a b) k _ _ h (layer_of_look a b) (record { parts = refl; gives = λ range own. refl })
    by (inr (inr (inl h))) = by_layer (IsTwo a b) k _ _ h.1 (layer_of_set2 h.0 a b) (set_two h.0 a b)
    by (inr (inr (inr (inl h)))) = by_layer (IsTwo a b) k _ _ h.1 (layer_of_arith h.0 a b) (record { parts = refl; gives = λ range own. refl })
    by (inr (inr (inr (inr (inl h))))) = by_layer (IsTwo a b) k _ _ h.1 (layer_of_compare h.0 a b) (record { parts = refl; gives = λ range own. refl })
    by (inr (inr (inr (inr (inr (inl h)))))) = by_layer (IsTwo a b) k _ _ h (layer_of_and a b) (record { parts = refl; gives = λ range own. refl })
    by (inr (inr (inr (inr (inr (inr (inl h))))))) = by_layer (IsTwo a b) k _ _ h (layer_of_or a b) (record { parts = refl; gives = λ range own. refl })
    by (inr (inr (inr (inr (inr (inr (inr h))))))) = by_layer (IsTwo a b) k _ _ h.1 (layer_of_bind h.0 a b) (record { parts = refl; gives = λ range own. refl })

pub three_of : (k : ExprKind) (a b c x y z : Expr) → x ≡ a → y ≡ b → z ≡ c → (k ≡ exprs.Update a b c) ⊎ (k ≡ exprs.If a b c) → IsThree x y z (out-ExprKind k)
three_of k a b c x y z p q r is =
    subst (λ (v : Expr). IsThree v y z (out-ExprKind k)) (sym p) (subst (λ (v : Expr). IsThree a v z (out-ExprKind k)) (sym q) (subst (λ (v : Expr). IsThree a b v (out-ExprKind k)) (sym r) (by is)))
  where
    by : (k ≡ exprs.Update a b c) ⊎ (k ≡ exprs.If a b c) → IsThree a b c (out-ExprKind k)
    by (inl h) = by_layer (IsThree a b c) k _ _ h (layer_of_update a b c) (record { parts = refl; gives = λ range own. refl })
    by (inr h) = by_layer (IsThree a b c) k _ _ h (layer_of_if a b c) (record { parts = refl; gives = λ range own. refl })

-- THE WALKS

module _ (e : Expr) (ts : List ExprType) where
  pub two_walked : (a b : Expr) (m n o : Mode) (first second rest : List ExprType) → IsTwo a b (expr_layer e) → first ≡ drop 1 ts → IsWalked a first m second → IsWalked b second n rest
      → o ≡ two_mode (expr_layer e) (begins_with_must ts) m n → IsWalked e ts o rest
  two_walked a b m n o first second rest two is walked then made =
      subst (λ x. IsWalked e ts x rest) (sym made)
      (by_modes e (expr_layer e) ts rest (m ∷ n ∷ []) (λ must ms. two_mode (expr_layer e) must (get_or ms 0 mode.Fixed) (get_or ms 1 mode.Fixed)) refl
      (subst (λ (es : List Expr). ModesWalked es (drop 1 ts) (m ∷ n ∷ []) rest) (sym two.parts)
      (more_walked a (b ∷ []) (drop 1 ts) second rest m (n ∷ []) (subst (λ xs. IsWalked a xs m second) is walked) (more_walked b [] second rest rest n [] then (none_walked rest))))
      (λ range. two.gives range (domain_in (range e)) ∙ ap (λ (es : List Expr). two_mode (expr_layer e) (is_must (domain_in (range e))) (get_or (map (mode_of range) es) 0 mode.Fixed) (get_or (map (mode_of range) es) 1 mode.Fixed)) (sym two.parts)))

  pub three_walked : (a b c : Expr) (m n o q : Mode) (first second third rest : List ExprType) → IsThree a b c (expr_layer e) → first ≡ drop 1 ts → IsWalked a first m second → IsWalked b second n third → IsWalked c third o rest
      → q ≡ three_mode (expr_layer e) m n o → IsWalked e ts q rest
  three_walked a b c m n o q first second third rest three is walked then last made =
      subst (λ x. IsWalked e ts x rest) (sym made)
      (by_modes e (expr_layer e) ts rest (m ∷ n ∷ o ∷ []) (λ must ms. three_mode (expr_layer e) (get_or ms 0 mode.Fixed) (get_or ms 1 mode.Fixed) (get_or ms 2 mode.Fixed)) refl
      (subst (λ (es : List Expr). ModesWalked es (drop 1 ts) (m ∷ n ∷ o ∷ []) rest) (sym three.parts)
      (more_walked a (b ∷ c ∷ []) (drop 1 ts) second rest m (n ∷ o ∷ []) (subst (λ xs. IsWalked a xs m second) is walked)
      (more_walked b (c ∷ []) second third rest n (o ∷ []) then (more_walked c [] third rest rest o [] last (none_walked rest)))))
      (λ range. three.gives range (domain_in (range e))
      ∙ ap (λ (es : List Expr). three_mode (expr_layer e) (get_or (map (mode_of range) es) 0 mode.Fixed) (get_or (map (mode_of range) es) 1 mode.Fixed) (get_or (map (mode_of range) es) 2 mode.Fixed)) (sym three.parts)))

  -- the modes that are given of parts are their modes
  given_modes : (range : Expr → Range) (es : List Expr) → modes_of (map (λ x. record { expr = x; given = mode_of range x }) es) ≡ map (mode_of range) es
  given_modes range [] = refl
  given_modes range (x ∷ xs) = ap (λ (ms : List Mode). mode_of range x ∷ ms) (given_modes range xs)

  pub call_walked : (f : List ℕ) (es us : List Expr) (m : Mode) (first rest : List ExprType) → (out-Expr e).kind ≡ exprs.Call f es → us ≡ es → first ≡ drop 1 ts → AllWalked us first m rest → IsWalked e ts m rest
  call_walked f es us m first rest kind same is walked =
      whole_walked e (ExprKind-F.Call f es) ts rest m (ap out-ExprKind kind ∙ layer_of_call f es)
      (λ declared range own agree.
      let found = subst (λ (xs : List Expr). AllWalked xs (drop 1 ts) m rest) same (subst (λ zs. AllWalked us zs m rest) is walked) declared range agree in
      (ap all_combined (given_modes range es) ∙ found.0, found.1))

  pub set_walked : (es us : List Expr) (m n : Mode) (first rest : List ExprType) → (out-Expr e).kind ≡ exprs.SetOf es → us ≡ es → first ≡ drop 1 ts → AllWalked us first m rest → n ≡ needs m mode.Fixed → IsWalked e ts n rest
  set_walked es us m n first rest kind same is walked made =
      whole_walked e (ExprKind-F.SetOf es) ts rest n (ap out-ExprKind kind ∙ layer_of_set_of es)
      (λ declared range own agree.
      let found = subst (λ (xs : List Expr). AllWalked xs (drop 1 ts) m rest) same (subst (λ zs. AllWalked us zs m rest) is walked) declared range agree in
      (ap (λ ms. needs (all_combined ms) mode.Fixed) (given_modes range es) ∙ ap (λ x. needs x mode.Fixed) found.0 ∙ sym made, found.1))

  pub map_walked : (ks vs ls ws : List Expr) (m n o : Mode) (first second rest : List ExprType) → (out-Expr e).kind ≡ exprs.MapOf ks vs → ls ≡ ks → ws ≡ vs → first ≡ drop 1 ts → AllWalked ls first m second → AllWalked ws second n rest
      → o ≡ needs m n → IsWalked e ts o rest
  map_walked ks vs ls ws m n o first second rest kind same others is keys values made =
      whole_walked e (ExprKind-F.MapOf ks vs) ts rest o (ap out-ExprKind kind ∙ layer_of_map_of ks vs)
      (λ declared range own agree.
      let split = agree_split declared range (flat_map preorder ks) (flat_map preorder vs) (drop 1 ts) (subst (λ (xs : List Expr). AgreeWith declared range xs (drop 1 ts)) (flat_more ks vs) agree) in
      let before = subst (λ (xs : List Expr). AllWalked xs (drop 1 ts) m second) same (subst (λ zs. AllWalked ls zs m second) is keys) declared range split.0 in
      let after = subst (λ (xs : List Expr). AllWalked xs second n rest) others values declared range (subst (AgreeWith declared range (flat_map preorder vs)) before.1 split.1) in (
        (λ i. needs (all_combined (given_modes range ks i)) (all_combined (given_modes range vs i))) ∙ (λ i. needs (before.0 i) (after.0 i)) ∙ sym made,
        ap (λ (xs : List Expr). behind xs (drop 1 ts)) (flat_more ks vs) ∙ behind_both (flat_map preorder ks) (flat_map preorder vs) (drop 1 ts) ∙ ap (behind (flat_map preorder vs)) before.1 ∙ after.1,
      ))

  pub member_walked : (a s : Expr) (m n o : Mode) (first second rest : List ExprType) → (out-Expr e).kind ≡ exprs.Member a s → first ≡ drop 1 ts → IsWalked a first m second → IsWalked s second n rest
      → o ≡ member_mode (begins_with_must second) m n → IsWalked e ts o rest
  member_walked a s m n o first second rest kind is walked then made =
      whole_walked e (ExprKind-F.Member a s) ts rest o (ap out-ExprKind kind ∙ layer_of_member a s)
      (λ declared range own agree.
      let split = agree_split declared range (preorder a) (preorder s ++ []) (drop 1 ts) agree in
      let before = subst (λ zs. IsWalked a zs m second) is walked declared range split.0 in
      let there = (agree_split declared range (preorder s) [] second (subst (AgreeWith declared range (preorder s ++ [])) before.1 split.1)).0 in
      let after = then declared range there in (
        (λ i. needs (before.0 i) (cond (own_must declared range s second there i) (turned (after.0 i)) (after.0 i))) ∙ sym made,
        behind_both (preorder a) (preorder s ++ []) (drop 1 ts) ∙ ap (behind (preorder s ++ [])) before.1 ∙ behind_both (preorder s) [] second ∙ after.1,
      ))

  condition_given : (range : Expr → Range) (c : Option Expr) → all_combined (map (mode_of range) (all_of_option c)) ≡ condition_at range c
  condition_given range None = refl
  condition_given range (Some c) = combined_fixed (mode_of range c)

  choose_form : (range : Expr → Range) (a : Expr) (x : List ℕ) (s : Expr) (c : Option Expr)
      → mode_at range (domain_in (range e)) (ExprKind-F.Choose a x s c) ≡ choose_mode (is_must (domain_in (range e))) (mode_of range a) (mode_of range s) (condition_at range c)
  choose_form range a x s None = refl
  choose_form range a x s (Some c) = refl

  pub choice_walked : (a s b t : Expr) (x : List ℕ) (c : Option Expr) (m n o q : Mode) (first second third rest : List ExprType) → (out-Expr e).kind ≡ exprs.Choose a x s c → b ≡ a → t ≡ s → first ≡ drop 1 ts
      → IsWalked b first m second → IsWalked t second n third → IfWalked c third o rest → q ≡ choose_mode (begins_with_must ts) m n o → IsWalked e ts q rest
  choice_walked a s b t x c m n o q first second third rest kind same others is walked then last made =
      whole_walked e (ExprKind-F.Choose a x s c) ts rest q (ap out-ExprKind kind ∙ layer_of_choose a x s c)
      (λ declared range own agree.
      let split = agree_split declared range (preorder a) (preorder s ++ flat_map preorder (all_of_option c)) (drop 1 ts) agree in
      let before = subst (λ (y : Expr). IsWalked y (drop 1 ts) m second) same (subst (λ zs. IsWalked b zs m second) is walked) declared range split.0 in
      let inner = agree_split declared range (preorder s) (flat_map preorder (all_of_option c)) second (subst (AgreeWith declared range (preorder s ++ flat_map preorder (all_of_option c))) before.1 split.1) in
      let after = subst (λ (y : Expr). IsWalked y second n third) others then declared range inner.0 in
      let end = last declared range (subst (AgreeWith declared range (flat_map preorder (all_of_option c))) after.1 inner.1) in (
        choose_form range a x s c ∙ (λ i. choose_mode (own i) (before.0 i) (after.0 i) ((sym (condition_given range c) ∙ end.0) i)) ∙ sym made,
        behind_both (preorder a) (preorder s ++ flat_map preorder (all_of_option c)) (drop 1 ts) ∙ ap (behind (preorder s ++ flat_map preorder (all_of_option c))) before.1
            ∙ behind_both (preorder s) (flat_map preorder (all_of_option c)) second ∙ ap (behind (flat_map preorder (all_of_option c))) after.1 ∙ end.1,
      ))

pub no_condition : (c : Option Expr) (ts : List ExprType) → c ≡ None → IfWalked c ts mode.Fixed ts
no_condition c ts is = subst (λ (o : Option Expr). IfWalked o ts mode.Fixed ts) (sym is) (λ declared range agree. (refl, refl))
