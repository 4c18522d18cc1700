-- Expressions without faults are typed where they stand: the induction.
use Rattle.std.proofs.Common.{◌≡◌, ℕ, Bool, true, List, [], ◌∷◌, ◌++◌, map, Option, Some, None, refl, sym, ap, subst, cond, ◌∙◌}
use Rattle.std.specs.Prelude.{IsTrue}
use Rattle.std.specs.List.{AllByRecursion, AllZip}
use Rattle.std.proofs.lemmas.List.{map-append}
use Rattle.flow_syntax.specs.declared.expr.Expr.{Expr}
use Rattle.flow_syntax.specs.declared.expr.ExprKind.TheOpen.{ExprKind-F}
use Rattle.flow_syntax.specs.declared.expr.Side.{Side}
use Rattle.flow_syntax.specs.declared.expr.Side.TheVariants as side
use Rattle.flow_syntax.specs.declared.spec.Named.{Named}
use Rattle.flow_syntax.specs.declared.spec.Spec.{Spec}
use Rattle.flow_syntax.specs.declared.tables.TableDecl.{TableDecl}
use Rattle.flow_syntax.specs.Expressions.{ExprLayer, expr_layer}
use Rattle.flow_syntax.specs.Occurrences.{Occurrence, occurrence, parts_in, parts_of, arguments, declared_arguments, optional, expected_truth, chosen_sort}
use Rattle.flow_syntax.specs.ExprTypes.{HasType, expected_type, infers}
use Rattle.flow_syntax.specs.Scopes.{Scope, can_read, with_variable}
use Rattle.flow_syntax.specs.Inferred.{Inferred, is, faulty, inferred, function_named, lattice_with, set_sort, flat_sort}
use Rattle.flow_syntax.specs.Types.{Sort, Typing, lattice, may, must, flat, any_set, any_flat, has_shape}
use Rattle.flow_syntax.specs.Expected.{Expected, known, source_shape, expected_source, expected_key, expected_value}
use Rattle.expr_typing.specs.Listing.{AreListed, none as none_listed, next as next_listed, AreOccurrences, nowhere, there}
use Rattle.expr_typing.proofs.Clean.{IsClean, inferred_own, fits, names_right}
use Rattle.expr_typing.proofs.Shown.{IsSorted, IsSound, inferred_part, parts_sound}
use Rattle.expr_typing.proofs.Typed.{IsTyped}
use Rattle.expr_typing.proofs.Laws.{IsGood, typed_inside}
use Rattle.expr_meaning.specs.Ranges.{Range}
use Rattle.value_domains.specs.Domains.{has_element, table_named}
use Rattle.expr_meaning.specs.Typing.{Variable, Held, held, and_variable, elements_of, optional_held, held_parts, AreTyped, none, next}
use Rattle.typed_bodies.proofs.Forms.{is_may, is_must, is_flat, R, usable, IsRangeOf, IsRanged, StandsIn, sorted_scope, sets_of, form_right}
use Rattle.expr_meaning.proofs.TypedParts.{split_all}
use Rattle.typed_bodies.proofs.Names.{in_scope}
use Rattle.expr_typing.proofs.Single.{one_type}

module _ (spec : Spec) (range : Expr → Range) (has : ℕ → Side → Bool) where
  -- an expression stands at a place, where these variables are bound
  pub record Stands (q : Occurrence) (h : Held) : Type 0 where
    pub expr : q.expr ≡ h.expr
    pub scope : StandsIn spec range has q.scope h.variables

  stands_more : (s : Scope) (vs : List Variable) → StandsIn spec range has s vs → (x : List ℕ) (o : Option Sort) (k : Sort) → o ≡ Some k → StandsIn spec range has (with_variable s x o) (and_variable vs x k)
  stands_more s vs st x o k e = record {
    variables = (λ i. st.variables i ++ record { name = x; sort = e i } ∷ []) ∙ sym (map-append in_scope vs (record { name = x; sort = k } ∷ []));
    sides = λ p d side e h. st.sides p d side e (same side h);
  }
    where
      same : (a : Side) → can_read (with_variable s x o) a ≡ true → can_read s a ≡ true
      same side.This h = h
      same side.Prev h = h
      same side.Next h = h

  module _ (s : Scope) (vs : List Variable) (st : StandsIn spec range has s vs) where
    here : (w : Expected) (e : Expr) → Stands (occurrence s w e) (held vs e)
    here w e = record { expr = refl; scope = st }

    each_stands : (w : Expected) (es : List Expr) → AllZip Stands (map (occurrence s w) es) (map (held vs) es)
    each_stands w [] = tt
    each_stands w (e ∷ es) = (here w e, each_stands w es)

    arguments_stand : (names : List Named) (es : List Expr) → AllZip Stands (arguments s names es) (map (held vs) es)
    arguments_stand [] [] = tt
    arguments_stand (n ∷ names) [] = tt
    arguments_stand [] (e ∷ es) = (here _ e, arguments_stand [] es)
    arguments_stand (n ∷ names) (e ∷ es) = (here _ e, arguments_stand names es)

    condition_stands : (w : Expected) (c : Option Expr) → AllZip Stands (optional s w c) (optional_held vs c)
    condition_stands w None = tt
    condition_stands w (Some c) = (here w c, tt)

  zip_append : (ps : List Occurrence) (hs : List Held) (qs : List Occurrence) (ks : List Held) → AllZip Stands ps hs → AllZip Stands qs ks → AllZip Stands (ps ++ qs) (hs ++ ks)
  zip_append [] [] qs ks h k = k
  zip_append [] (x ∷ hs) qs ks h k = absurd h
  zip_append (p ∷ ps) [] qs ks h k = absurd h
  zip_append (p ∷ ps) (x ∷ hs) qs ks h k = (h.0, zip_append ps hs qs ks h.1 k)

  -- what another set is made from is a set
  source_set : (w : Expected) (t : Typing) → has_shape (source_shape w) t ≡ true → has_shape any_set t ≡ true
  source_set (known (lattice (may k))) t h = ap (has_shape any_set) (is_may t h).1
  source_set (known (lattice (must k))) t h = ap (has_shape any_set) (is_must t h).1
  source_set w t h = h

  set_bound : (s : Scope) → IsSorted s → (from : Expr) (w : Expected) → IsSound spec (occurrence s (expected_source w) from) → IsRanged spec range has (occurrence s (expected_source w) from) → chosen_sort w (inferred spec s from) ≡ Some (elements_of (range from))
  set_bound s sorted from w sound ranged =
      let t = inferred_part spec s (source_shape w) from sound sorted in
      let q = sets_of spec range has t.0 (source_set w t.0 t.2) in
      ap (chosen_sort w) t.1 ∙ ap (λ b. set_sort (cond b (is t.0) faulty)) t.2 ∙ q.3 ∙ ap (λ r. Some (elements_of r)) (sym (ranged.from_inferred t.0 t.1 ∙ q.2))

  -- the parts of an expression stand at their places
  parts_stand : (s : Scope) (vs : List Variable) → StandsIn spec range has s vs → (w : Expected) (layer : ExprLayer) → AllByRecursion (IsSound spec) (parts_in spec s w layer) → AllByRecursion (IsRanged spec range has) (parts_in spec s w layer)
      → AllZip Stands (parts_in spec s w layer) (held_parts range vs layer)
  parts_stand s vs st w (ExprKind-F.Call f args) sound ranged = arguments_stand s vs st (declared_arguments (function_named spec f)) args
  parts_stand s vs st w (ExprKind-F.MakeFlat e) sound ranged = (here s vs st _ e, tt)
  parts_stand s vs st w (ExprKind-F.Fst a) sound ranged = (here s vs st _ a, tt)
  parts_stand s vs st w (ExprKind-F.Snd a) sound ranged = (here s vs st _ a, tt)
  parts_stand s vs st w (ExprKind-F.Both a b) sound ranged = (here s vs st _ a, (here s vs st _ b, tt))
  parts_stand s vs st w (ExprKind-F.SetOf es) sound ranged = each_stands s vs st _ es
  parts_stand s vs st w (ExprKind-F.Choose e x from c) sound ranged =
      let more = stands_more s vs st x (chosen_sort w (inferred spec s from)) (elements_of (range from)) (set_bound s (sorted_scope spec range has s vs st) from w sound.1.0 ranged.1.0) in
      (here _ _ more _ e, (here s vs st _ from, condition_stands _ _ more expected_truth c))
  parts_stand s vs st w (ExprKind-F.MapOf ks ws) sound ranged =
      zip_append (map (occurrence s (expected_key w)) ks) (map (held vs) ks) (map (occurrence s (expected_value w)) ws) (map (held vs) ws) (each_stands s vs st (expected_key w) ks) (each_stands s vs st (expected_value w) ws)
  parts_stand s vs st w (ExprKind-F.Look m k) sound ranged = (here s vs st _ m, (here s vs st _ k, tt))
  parts_stand s vs st w (ExprKind-F.Update m k v) sound ranged = (here s vs st _ m, (here s vs st _ k, (here s vs st _ v, tt)))
  parts_stand s vs st w (ExprKind-F.Set2 o a b) sound ranged = (here s vs st _ a, (here s vs st _ b, tt))
  parts_stand s vs st w (ExprKind-F.Arith o a b) sound ranged = (here s vs st _ a, (here s vs st _ b, tt))
  parts_stand s vs st w (ExprKind-F.Minus a) sound ranged = (here s vs st _ a, tt)
  parts_stand s vs st w (ExprKind-F.Compare o a b) sound ranged = (here s vs st _ a, (here s vs st _ b, tt))
  parts_stand s vs st w (ExprKind-F.Member e set) sound ranged = (here s vs st _ e, (here s vs st _ set, tt))
  parts_stand s vs st w (ExprKind-F.And a b) sound ranged = (here s vs st _ a, (here s vs st _ b, tt))
  parts_stand s vs st w (ExprKind-F.Or a b) sound ranged = (here s vs st _ a, (here s vs st _ b, tt))
  parts_stand s vs st w (ExprKind-F.Not a) sound ranged = (here s vs st _ a, tt)
  parts_stand s vs st w (ExprKind-F.Bind x a b) sound ranged =
      let t = inferred_part spec s any_flat a sound.0 (sorted_scope spec range has s vs st) in
      let q = is_flat t.0 t.2 in
      let e = t.1 ∙ ap is q.1 in
      let more = stands_more s vs st x (flat_sort (inferred spec s a)) (elements_of (range a)) (ap flat_sort e ∙ ap (λ r. Some (elements_of r)) (sym (ranged.0.from_inferred (lattice (flat q.0)) e))) in
      (here s vs st _ a, (here _ _ more _ b, tt))
  parts_stand s vs st w (ExprKind-F.If c a b) sound ranged = (here s vs st _ c, (here s vs st _ a, (here s vs st _ b, tt)))
  parts_stand s vs st w layer sound ranged = tt

  -- an expression has the range of a type that it has
  abbrev pub HasRange : Occurrence → Type 0
  HasRange q = (t : Typing) × HasType spec q t × (range q.expr ≡ R spec range has t)

  pub ranged_of : (q : Occurrence) → IsClean spec q → HasRange q → IsRanged spec range has q
  ranged_of q clean h = record {
    from_expected = λ t e. h.2 ∙ ap (R spec range has) (one_type spec q clean h.0 t h.1 (expected_type e));
    from_inferred = λ t e. h.2 ∙ ap (R spec range has) (one_type spec q clean h.0 t h.1 (infers e));
  }

  all_ranged : (qs : List Occurrence) → AllByRecursion (IsGood spec) qs → AllByRecursion HasRange qs → AllByRecursion (IsRanged spec range has) qs
  all_ranged [] good h = tt
  all_ranged (q ∷ qs) good h = (ranged_of q good.0.0 h.0, all_ranged qs good.1 h.1)

  -- what holds at all places holds at the first ones
  pub heads : (P : Occurrence → Type 0) (ps occurrences : List Occurrence) → AreOccurrences spec ps occurrences → AllByRecursion P occurrences → AllByRecursion P ps
  heads P _ _ nowhere h = tt
  heads P _ _ (there p ps inner others d e) h = (h.0, heads P ps others e (split_all P inner others h.1).1)

  listed_at : (ps occurrences : List Occurrence) → AreOccurrences spec ps occurrences → (ts : List Typing) × AreListed spec ps ts
  listed_at _ _ nowhere = ([], none_listed)
  listed_at _ _ (there p ps inner others d e) = let a = listed_at (parts_of spec p) inner d in let b = listed_at ps others e in (_, next_listed p ps a.0 b.0 a.1 b.1)

  -- expressions without faults that have the ranges of their types are typed
  pub all_typed : ((x : List ℕ) (d : TableDecl) → lattice_with spec x ≡ Some d → IsTrue (has_element (table_named spec.lattices d.name.text) x))
      → (ps occurrences : List Occurrence) → AreOccurrences spec ps occurrences → AllByRecursion HasRange occurrences → AllByRecursion (IsGood spec) ps → (hs : List Held) → AllZip Stands ps hs → AreTyped spec (usable spec range has) range hs
  all_typed li _ _ nowhere ranged good [] stand = none
  all_typed li _ _ nowhere ranged good (h ∷ hs) stand = absurd stand
  all_typed li _ _ (there p ps inner others d e) ranged good [] stand = absurd stand
  all_typed li _ _ (there p ps inner others d e) ranged good (h ∷ hs) stand =
      let rest = split_all HasRange inner others ranged.1 in
      let listed = listed_at (parts_of spec p) inner d in
      let clean = good.0.0 in
      let inside = typed_inside spec p listed.0 good.0 listed.1 in
      let sound = parts_sound spec p listed.0 listed.1 clean in
      let parts = all_ranged (parts_of spec p) inside (heads HasRange (parts_of spec p) inner d rest.0) in
      let form = form_right spec range has p.scope h.variables stand.0.scope li p.expected (expr_layer p.expr) (range p.expr)
      (subst (λ (u : Inferred). IsRangeOf spec range has p.expected u (range p.expr)) (inferred_own spec p clean) (ranged_of p clean ranged.0))
      (subst (λ (u : Inferred). IsTyped p.expected u) (inferred_own spec p clean) good.0.1.1) (fits spec p clean) (names_right spec p clean) sound parts in
      let stands = parts_stand p.scope h.variables stand.0.scope p.expected (expr_layer p.expr) sound parts in
      subst (λ (x : Expr). AreTyped spec (usable spec range has) range (held h.variables x ∷ hs)) stand.0.expr
      (next (held h.variables p.expr) hs form
      (all_typed li (parts_of spec p) inner d rest.0 inside (held_parts range h.variables (expr_layer p.expr)) stands)
      (all_typed li ps others e rest.1 good.1 hs stand.1))
