-- What holds of a variable in each form of a pattern holds of all that a pattern binds.
use Rattle.std.proofs.Common.{◌≡◌, ℕ, suc, ◌+◌, Bool, true, false, cond, List, [], ◌∷◌, ◌++◌, map, Option, Some, None, refl, sym, subst, arith}
use Rattle.std.specs.Prelude.{slice_get}
use Rattle.std.specs.List.{AllZip, flat_map}
use Rattle.std.specs.Option.{option_map}
use Rattle.flow_term.specs.declared.elem.Elem.{Elem}
use Rattle.flow_term.specs.declared.elem.Elem.TheVariants as elem
use Rattle.flow_term.specs.declared.term.Term.{Term}
use Rattle.flow_term.specs.declared.value.Bound.{Bound}
use Rattle.flow_term.specs.Annotations.{name_of, term_layer, text_in}
use Rattle.flow_term.specs.Trees.{children}
use Rattle.flow_syntax.specs.declared.pattern.Pattern.{Pattern, roll-Pattern, ind-Pattern, fold-roll-Pattern}
use Rattle.flow_syntax.specs.declared.pattern.PatternKind.{PatternKind, PatternKind-F, roll-PatternKind, map-PatternKind, fold-PatternKind, fold-roll-PatternKind}
use Rattle.flow_syntax.specs.Binders as binders
use Rattle.flow_syntax.specs.Binders.{bound_in, bound_layer}
use Rattle.flow_syntax.specs.Types.{Sort, name_sort, pos_sort, str_sort, int_sort}
use Rattle.flow_match.specs.Bindings.{Binding, bindings_at, binding_layer, bind_each, bound, then_bound, if_holds}

abbrev kind_binding : PatternKind → Binding
kind_binding = fold-PatternKind Binding Binding binding_layer (λ p. p.kind)

abbrev kind_bound : PatternKind → ℕ → List binders.Bound
kind_bound = fold-PatternKind (ℕ → List binders.Bound) (List binders.Bound) bound_layer (λ p. p.kind p.place)

-- what a variable of a sort stands for, wherever it is declared
abbrev pub Holds : (binders.Bound → Bound → Type 0) → Sort → Elem → Type 0
Holds R s e = (x : List ℕ) (at : ℕ) → R (binders.bound x s at) (record { name = x; value = e })

-- a relation between variables and what they stand for, at the terms and paths at which a property holds
pub record IsOfEach (R : binders.Bound → Bound → Type 0) (Here : Term → List ℕ → Type 0) : Type 0 where
  pub child : (t : Term) (path : List ℕ) → Here t path → (n : ℕ) (u : Term) → slice_get (children t) n ≡ Some u → Here u (path ++ n ∷ [])
  pub position : (t : Term) (path : List ℕ) → Here t path → Holds R pos_sort (elem.Pos path)
  pub name : (t : Term) (path : List ℕ) → Here t path → (n : List ℕ) → name_of t ≡ Some n → Holds R name_sort (elem.Name n)
  pub text : (t : Term) (path : List ℕ) → Here t path → (s : List ℕ) → text_in (term_layer t) ≡ Some s → Holds R str_sort (elem.Str s)
  pub number : (n : _) → Holds R int_sort (elem.Int n)

module _ (R : binders.Bound → Bound → Type 0) (Here : Term → List ℕ → Type 0) (each_form : IsOfEach R Here) where
  abbrev Fits : List binders.Bound → Option (List Bound) → Type 0
  Fits vs o = (bs : List Bound) → o ≡ Some bs → AllZip R vs bs

  abbrev pub BindsThese : Pattern → Type 0
  BindsThese p = (t : Term) (path : List ℕ) → Here t path → Fits (bound_in p) (bindings_at p t path)

  abbrev FitsKind : PatternKind → Type 0
  FitsKind k = (at : ℕ) (t : Term) (path : List ℕ) → Here t path → Fits (kind_bound k at) (kind_binding k t path)

  fits_some : (vs : List binders.Bound) (bs : List Bound) → AllZip R vs bs → Fits vs (Some bs)
  fits_some vs bs h cs e = let same : bs ≡ cs = cc in subst (AllZip R vs) same h

  fits_map : {A : Type 0} (vs : List binders.Bound) (f : A → List Bound) (o : Option A) → ((a : A) → o ≡ Some a → AllZip R vs (f a)) → Fits vs (option_map f o)
  fits_map vs f (Some a) h = fits_some vs (f a) (h a refl)
  fits_map vs f None h = λ bs e. cc

  fits_if : (b : Bool) → Fits [] (if_holds b)
  fits_if true = fits_some [] [] tt
  fits_if false = λ bs e. cc

  fits_cond : (vs : List binders.Bound) (b : Bool) (o : Option (List Bound)) → Fits vs o → Fits vs (cond b o None)
  fits_cond vs true o h = h
  fits_cond vs false o h = λ bs e. cc

  zip_append : (vs ws : List binders.Bound) (bs cs : List Bound) → AllZip R vs bs → AllZip R ws cs → AllZip R (vs ++ ws) (bs ++ cs)
  zip_append [] ws [] cs h k = k
  zip_append [] ws (b ∷ bs) cs h k = absurd h
  zip_append (v ∷ vs) ws [] cs h k = absurd h
  zip_append (v ∷ vs) ws (b ∷ bs) cs h k = (h.0, zip_append vs ws bs cs h.1 k)

  fits_then : (vs ws : List binders.Bound) (o q : Option (List Bound)) → Fits vs o → Fits ws q → Fits (vs ++ ws) (then_bound o q)
  fits_then vs ws (Some bs) (Some cs) h k = fits_some (vs ++ ws) (bs ++ cs) (zip_append vs ws bs cs (h bs refl) (k cs refl))
  fits_then vs ws (Some bs) None h k = λ ds e. cc
  fits_then vs ws None q h k = λ ds e. cc

  abbrev Part : Type 0
  Part = (p : Pattern) × BindsThese p

  abbrev PartKind : Type 0
  PartKind = (k : PatternKind) × FitsKind k

  -- terms of which each is there, from this number on
  abbrev AreHere : List Term → List ℕ → ℕ → Type 0
  AreHere ts path n = (i : ℕ) (u : Term) → slice_get ts i ≡ Some u → Here u (path ++ (n + i) ∷ [])

  all_here : (t : Term) (path : List ℕ) → Here t path → AreHere (children t) path 0
  all_here t path here i u e = subst (λ (m : ℕ). Here u (path ++ m ∷ [])) (omega arith) (each_form.child t path here i u e)

  each : (ps : List Part) (ts : List Term) (path : List ℕ) (n : ℕ) → AreHere ts path n
      → Fits (flat_map (λ (vs : List binders.Bound). vs) (map bound_in (map (λ (p : Part). p.0) ps))) (bind_each (map bindings_at (map (λ (p : Part). p.0) ps)) ts path n)
  each [] [] path n are = fits_some [] [] tt
  each [] (t ∷ ts) path n are = λ bs e. cc
  each (p ∷ ps) [] path n are = λ bs e. cc
  each (p ∷ ps) (t ∷ ts) path n are =
      let here : Here t (path ++ n ∷ []) = subst (λ (m : ℕ). Here t (path ++ m ∷ [])) (omega arith) (are 0 t refl) in
      let later : AreHere ts path (n + 1) = λ i u e. subst (λ (m : ℕ). Here u (path ++ m ∷ [])) (omega arith) (are (suc i) u e) in
      fits_then (bound_in p.0) _ (bindings_at p.0 t (path ++ n ∷ [])) _ (p.1 t (path ++ n ∷ []) here) (each ps ts path (n + 1) later)

  fit_layer : (y : PatternKind-F PartKind Part) (at : ℕ) (t : Term) (path : List ℕ) → Here t path
      → Fits (bound_layer (map-PatternKind PatternKind Pattern (ℕ → List binders.Bound) (List binders.Bound) kind_bound bound_in (map-PatternKind PartKind Part PatternKind Pattern (λ k. k.0) (λ p. p.0) y)) at)
      (binding_layer (map-PatternKind PatternKind Pattern Binding Binding kind_binding bindings_at (map-PatternKind PartKind Part PatternKind Pattern (λ k. k.0) (λ p. p.0) y)) t path)
  fit_layer PatternKind-F.Wild at t path here = fits_some [] [] tt
  fit_layer (PatternKind-F.Var x) at t path here = fits_some (binders.bound x pos_sort at ∷ []) (bound x (elem.Pos path)) (each_form.position t path here x at, tt)
  fit_layer (PatternKind-F.NameVar x) at t path here = fits_map (binders.bound x name_sort at ∷ []) (λ n. bound x (elem.Name n)) _ (λ n e. (each_form.name t path here n e x at, tt))
  fit_layer (PatternKind-F.StrVar x) at t path here = fits_map (binders.bound x str_sort at ∷ []) (λ s. bound x (elem.Str s)) _ (λ s e. (each_form.text t path here s e x at, tt))
  fit_layer (PatternKind-F.IntVar x) at t path here = fits_map (binders.bound x int_sort at ∷ []) (λ n. bound x (elem.Int n)) _ (λ n e. (each_form.number n x at, tt))
  fit_layer (PatternKind-F.IntLit n) at t path here = fits_if _
  fit_layer (PatternKind-F.StrLit s) at t path here = fits_if _
  fit_layer (PatternKind-F.Apply c ps) at t path here = fits_cond _ _ _ (each ps (children t) path 0 (all_here t path here))
  fit_layer (PatternKind-F.Tuple ps) at t path here = fits_cond _ _ _ (each ps (children t) path 0 (all_here t path here))
  fit_layer (PatternKind-F.Items ps) at t path here = fits_cond _ _ _ (each ps (children t) path 0 (all_here t path here))
  fit_layer (PatternKind-F.Held x p) at t path here =
      fits_map (binders.bound x pos_sort at ∷ bound_in p.0) (λ bs. bound x (elem.Pos path) ++ bs) (bindings_at p.0 t path) (λ bs e. (each_form.position t path here x at, p.1 t path here bs e))

  fit_kind : (y : PatternKind-F PartKind Part) → FitsKind (roll-PatternKind (map-PatternKind PartKind Part PatternKind Pattern (λ k. k.0) (λ p. p.0) y))
  fit_kind y at t path here =
      let d = map-PatternKind PartKind Part PatternKind Pattern (λ k. k.0) (λ p. p.0) y in
      subst (λ (v : ℕ → List binders.Bound). Fits (v at) (kind_binding (roll-PatternKind d) t path)) (sym (fold-roll-PatternKind (ℕ → List binders.Bound) (List binders.Bound) bound_layer (λ p. p.kind p.place) d))
      (subst (λ (b : Binding). Fits (bound_layer (map-PatternKind PatternKind Pattern (ℕ → List binders.Bound) (List binders.Bound) kind_bound bound_in d) at) (b t path)) (sym (fold-roll-PatternKind Binding Binding binding_layer (λ p. p.kind) d)) (fit_layer y at t path here))

  fit_placed : (n : _) (k : PatternKind) → FitsKind k → BindsThese (roll-Pattern (record { place = n; kind = k }))
  fit_placed n k h t path here =
      subst (λ (vs : List binders.Bound). Fits vs (bindings_at (roll-Pattern (record { place = n; kind = k })) t path)) (sym (fold-roll-Pattern (ℕ → List binders.Bound) (List binders.Bound) bound_layer (λ p. p.kind p.place) (record { place = n; kind = k })))
      (subst (λ (b : Binding). Fits (kind_bound k n) (b t path)) (sym (fold-roll-Pattern Binding Binding binding_layer (λ p. p.kind) (record { place = n; kind = k }))) (h n t path here))

  pub binds_these : (p : Pattern) → BindsThese p
  binds_these =
      ind-Pattern FitsKind BindsThese (λ x y e. subst (λ d. FitsKind (roll-PatternKind d)) e (fit_kind y)) (λ x y e. subst (λ d. BindsThese (roll-Pattern d)) e (fit_placed y.place y.kind.0 y.kind.1))
