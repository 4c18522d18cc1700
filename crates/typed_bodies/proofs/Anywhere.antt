-- The expressions of an accepted specification, wherever they stand.
use Rattle.std.proofs.Common.{◌≡◌, ℕ, Bool, true, List, [], ◌∷◌, ◌++◌, map, arith, Option, Some, None, refl, sym, ap, subst, ◌∙◌}
use Rattle.std.specs.Prelude.{Contains, IsTrue, slice_get, ◌==◌}
use Rattle.std.specs.List.{AllByRecursion, list_any}
use Rattle.std.specs.Option.{option_map}
use Rattle.std.proofs.lemmas.Bool.{and_from}
use Rattle.std.proofs.lemmas.Bool.Decides.{Decides-eqb}
use Rattle.std.proofs.lemmas.List.{map-append}
use Rattle.std.proofs.lemmas.Option.{slice_get-map}
use Rattle.std.proofs.lemmas.Slice.Eq.{bytes_eq-Decides}
use Rattle.flow_syntax.specs.declared.expr.Expr.{Expr}
use Rattle.flow_syntax.specs.declared.expr.ExprKind.TheOpen.{ExprKind-F}
use Rattle.flow_syntax.specs.declared.expr.Side.{Side}
use Rattle.flow_syntax.specs.declared.expr.Side.TheVariants as side
use Rattle.flow_syntax.specs.declared.spec.Spec.{Spec}
use Rattle.flow_syntax.specs.Expressions.{ExprLayer, expr_layer, expressions_of, parts_in as exprs_in}
use Rattle.flow_syntax.specs.Occurrences.{Occurrence, parts_of}
use Rattle.flow_syntax.specs.ExprTypes.{wholes_of}
use Rattle.flow_syntax.specs.Scopes.{Variable as Scoped}
use Rattle.flow_syntax.specs.Types.{Typing}
use Rattle.flow_syntax.proofs.Listed.{at_in, in_at, in_any, Contains_here, Contains_behind}
use Rattle.expr_typing.specs.Listing.{AreOccurrences, nowhere, there}
use Rattle.expr_typing.proofs.Clean.{all_append, at_each}
use Rattle.expr_typing.proofs.Laws.{IsGood, typed_inside, good_wholes}
use Rattle.expr_typing.proofs.Order.{exprs, types_in_order}
use Rattle.expr_typing.proofs.Shown.{HasSort}
use Rattle.expr_meaning.specs.Ranges.{Range, values}
use Rattle.value_domains.specs.Domains.{Domain}
use Rattle.expr_meaning.specs.SpecRanges.{can_read_in, ranges_of}
use Rattle.expr_meaning.specs.Meaning.{Usable, property_number}
use Rattle.flow_syntax.specs.Parts.{part as with_given}
use Rattle.expr_meaning.specs.Same.{same_side}
use Rattle.expr_meaning.specs.Typing.{Variable, Held, held, held_parts, HasForm, AreTyped, none, next}
use Rattle.expr_meaning.proofs.Laws.{meanings_in_range, modes_right, no_others_made}
use Rattle.flow_syntax.proofs.Parts.{given_layer, by_parts_out, given_parts}
use Rattle.typed_bodies.specs.Accepted.{IsTypedBy}
use Rattle.typed_bodies.specs.Anywhere.{IsOccurrenceIn, whole, part, reads_in, reads_at, names_in, names_at, sort_or_int, variables_at, used_by, ExpressionsAreGood, ExpressionsMakeNoOthers, ExpressionsStand}
use Rattle.typed_bodies.proofs.Bodies.{in_map, can_read_there, HoldsWithin, within, whole_ranged}
use Rattle.typed_bodies.proofs.Forms.{usable}
use Rattle.expr_meaning.proofs.TypedParts.{split_all, all_from}
use Rattle.typed_bodies.proofs.Good.{agree, tables}
use Rattle.expr_typing.proofs.Kept.{list_all, each_listed}
use Rattle.typed_bodies.proofs.Listed.{expressions_parts, place_listed}
use Rattle.typed_bodies.proofs.Names.{in_scope, element_listed}
use Rattle.typed_bodies.proofs.Occurrences.{HasRange, all_typed}

-- WHAT AN EXPRESSION READS

side_itself : (s : Side) → same_side s s ≡ true
side_itself side.This = refl
side_itself side.Prev = refl
side_itself side.Next = refl

-- a test that what is given of a part passes
any_given : {M : Type 0} (f : Expr → M) (test : M → Bool) (layer : ExprLayer) (e : Expr) → Contains (exprs_in layer) e → test (f e) ≡ true → list_any (λ p. test p.given) (exprs_in (given_layer f layer)) ≡ true
any_given f test layer e among h =
    ap (list_any (λ p. test p.given)) (given_parts f layer)
    ∙ in_any (λ p. test p.given) (map (λ e. with_given e (f e)) (exprs_in layer)) (with_given e (f e)) (in_map (λ e. with_given e (f e)) (exprs_in layer) e among) h

names_out : (e : Expr) → names_at e ≡ names_in (given_layer names_at (expr_layer e))
names_out e = by_parts_out (λ e layer. names_in layer) e

-- a name that a part has is one that the whole has
part_names : (layer : ExprLayer) (y : List ℕ) (e : Expr) → Contains (exprs_in layer) e → names_at e y ≡ true → names_in (given_layer names_at layer) y ≡ true
part_names (ExprKind-F.Ident x) y e (k, l, i) h = absurd (omega (arith, l))
part_names layer y e among h = any_given names_at (λ f. f y) layer e among h

module _ (spec : Spec) where
  reads_out : (e : Expr) → reads_at spec e ≡ reads_in spec (given_layer (reads_at spec) (expr_layer e))
  reads_out e = by_parts_out (λ e layer. reads_in spec layer) e

  -- what a part reads is read by the whole
  part_reads : (layer : ExprLayer) (n : ℕ) (a : Side) (e : Expr) → Contains (exprs_in layer) e → reads_at spec e n a ≡ true → reads_in spec (given_layer (reads_at spec) layer) n a ≡ true
  part_reads (ExprKind-F.Read p s) n a e (k, l, i) h = absurd (omega (arith, l))
  part_reads layer n a e among h = any_given (reads_at spec) (λ f. f n a) layer e among h

held_map : (vs : List Variable) (es : List Expr) → map (λ (h : Held). h.expr) (map (held vs) es) ≡ es
held_map vs [] = refl
held_map vs (e ∷ es) = ap (λ (xs : List Expr). e ∷ xs) (held_map vs es)

held_exprs : (range : Expr → Range) (vs : List Variable) (layer : ExprLayer) → map (λ (h : Held). h.expr) (held_parts range vs layer) ≡ exprs_in layer
held_exprs range vs (ExprKind-F.Call f args) = held_map vs args
held_exprs range vs (ExprKind-F.SetOf es) = held_map vs es
held_exprs range vs (ExprKind-F.Choose e x s None) = refl
held_exprs range vs (ExprKind-F.Choose e x s (Some c)) = refl
held_exprs range vs (ExprKind-F.MapOf ks ws) =
    map-append (λ (h : Held). h.expr) (map (held vs) ks) (map (held vs) ws) ∙ (λ i. held_map vs ks i ++ held_map vs ws i)
held_exprs range vs _ = refl

all_held : (P : Expr → Type 0) (hs : List Held) → ((e : Expr) → Contains (map (λ (h : Held). h.expr) hs) e → P e) → AllByRecursion (λ h. P h.expr) hs
all_held P [] h = tt
all_held P (x ∷ hs) h = (h x.expr (Contains_here x.expr (map (λ (h : Held). h.expr) hs)), all_held P hs (λ e among. h e (Contains_behind x.expr (map (λ (h : Held). h.expr) hs) e among)))

module _ (spec : Spec) (range : Expr → Range) (wide narrow : Usable) (same : wide.domain ≡ narrow.domain) where
  -- what an expression uses is there
  record IsServed (e : Expr) : Type 0 where
    pub reads : (n : ℕ) (a : Side) → reads_at spec e n a ≡ true → IsTrue (narrow.has n a)
    pub names : (x : List ℕ) → names_at e x ≡ true → IsTrue (narrow.names x)

  -- what a form uses is there
  record FormServed (layer : ExprLayer) : Type 0 where
    pub reads : (n : ℕ) (a : Side) → reads_in spec (given_layer (reads_at spec) layer) n a ≡ true → IsTrue (narrow.has n a)
    pub names : (x : List ℕ) → names_in (given_layer names_at layer) x ≡ true → IsTrue (narrow.names x)

  form_served : (vs : List Variable) (own : Range) (layer : ExprLayer) → HasForm spec wide range vs own layer → FormServed layer → HasForm spec narrow range vs own layer
  form_served vs own (ExprKind-F.Read p s) (e, k) h =
      let n = property_number spec p in
      (e ∙ ap (λ (f : ℕ → Domain). values (f n)) same, h.reads n s (and_from (n == n) (same_side s s) ((Decides-eqb n n).1 refl) (side_itself s)))
  form_served vs own (ExprKind-F.Ident x) (e, k) h = (e, h.names x ((bytes_eq-Decides x x).1 refl))
  form_served vs own layer form h = form

  -- expressions that are typed are so where only what they use is there
  served : (hs : List Held) → AreTyped spec wide range hs → AllByRecursion (λ h. IsServed h.expr) hs → AreTyped spec narrow range hs
  served _ none h = none
  served _ (next p ps form inner others) h =
      let layer = expr_layer p.expr in
      let here : FormServed layer = record {
        reads = λ n a reads. h.0.reads n a (ap (λ (f : ℕ → Side → Bool). f n a) (reads_out spec p.expr) ∙ reads);
        names = λ x named. h.0.names x (ap (λ (f : List ℕ → Bool). f x) (names_out p.expr) ∙ named);
      } in
      let parts = held_parts range p.variables layer in
      let inside = λ (e : Expr) (among : Contains (map (λ (h : Held). h.expr) parts) e). subst (λ (es : List Expr). Contains es e) (held_exprs range p.variables layer) among in
      next p ps (form_served p.variables (range p.expr) layer form here)
      (served parts inner (all_held IsServed parts (λ e among. record {
        reads = λ n a reads. here.reads n a (part_reads spec layer n a e (inside e among) reads);
        names = λ x named. here.names x (part_names layer x e (inside e among) named);
      })))
      (served ps others h.1)

-- PLACES

variables_right : (vs : List Scoped) → AllByRecursion HasSort vs → vs ≡ map in_scope (map (λ v. record { name = v.name; sort = sort_or_int v.sort }) vs)
variables_right [] h = refl
variables_right (v ∷ vs) h = λ i. record { name = v.name; sort = known i } ∷ variables_right vs h.1 i
  where
    known : v.sort ≡ Some (sort_or_int v.sort)
    known = h.0.1 ∙ sym (ap (λ o. Some (sort_or_int o)) h.0.1)

module _ (spec : Spec) where
  all_placed : (ps occurrences : List Occurrence) → AreOccurrences spec ps occurrences → AllByRecursion (IsOccurrenceIn spec) ps → AllByRecursion (IsOccurrenceIn spec) occurrences
  all_placed _ _ nowhere h = tt
  all_placed _ _ (there p ps inner others d e) h =
      (h.0, all_append (IsOccurrenceIn spec) inner others (all_placed (parts_of spec p) inner d (all_from (IsOccurrenceIn spec) (parts_of spec p) (λ q among. part p q h.0 among))) (all_placed ps others e h.1))

  inner_within : (P : Occurrence → Type 0) (p : Occurrence) (occurrences : List Occurrence) → AreOccurrences spec (p ∷ []) occurrences → AllByRecursion P occurrences → AllByRecursion (HoldsWithin spec P) (parts_of spec p)
  inner_within P _ _ (there p ps inner others d e) h = within spec P (parts_of spec p) inner d (split_all P inner others h.1).0

  module _ (types : List Typing) (typed : IsTypedBy spec types) where
    abbrev range : Expr → Range
    range = ranges_of spec types

    good_at : (has : ℕ → Side → Bool) (q : Occurrence) → IsOccurrenceIn spec q → IsGood spec q × HoldsWithin spec (HasRange spec range has) q
    good_at has _ (whole q among) =
        (at_each (IsGood spec) (wholes_of spec) q (good_wholes spec typed.faultless) among, whole_ranged spec types range typed.faultless typed.are (agree spec types typed) has q among)
    good_at has _ (part p q place among) =
        let outer = good_at has p place in
        let listed = list_all spec (parts_of spec p) (each_listed spec (exprs (parts_of spec p))) in (
          at_each (IsGood spec) (parts_of spec p) q (typed_inside spec p listed.0 outer.0 listed.1) among,
          at_each (HoldsWithin spec (HasRange spec range has)) (parts_of spec p) q (inner_within (HasRange spec range has) p outer.1.occurrences outer.1.are outer.1.hold) among,
        )

    typed_here : (q : Occurrence) → IsOccurrenceIn spec q → AreTyped spec (used_by spec q.expr) range (held (variables_at q.scope) q.expr ∷ [])
    typed_here q place =
        let good = good_at (can_read_in spec q.scope) q place in
        served spec range (usable spec range (can_read_in spec q.scope)) (used_by spec q.expr) refl (held (variables_at q.scope) q.expr ∷ [])
        (all_typed spec range (can_read_in spec q.scope) (element_listed spec typed.faultless) (q ∷ []) good.1.occurrences good.1.are good.1.hold (good.0, tt) (held (variables_at q.scope) q.expr ∷ [])
        (record { expr = refl; scope = record { variables = variables_right q.scope.variables good.0.1.0; sides = can_read_there spec q.scope } }, tt))
        (record { reads = λ n a h. h; names = λ x h. h }, tt)

pub expressions_good : ExpressionsAreGood
expressions_good spec types typed lawful q place = record {
  value = λ at can. meanings_in_range spec (used_by spec q.expr) (ranges_of spec types) (tables spec types typed lawful) (variables_at q.scope) q.expr (typed_here spec types typed q place) at can;
  follows = modes_right spec (used_by spec q.expr) (ranges_of spec types) (tables spec types typed lawful) (variables_at q.scope) q.expr (typed_here spec types typed q place);
}

pub makes_no_others : ExpressionsMakeNoOthers
makes_no_others spec types typed lawful among made q place at can known =
    no_others_made spec (used_by spec q.expr) (ranges_of spec types) (tables spec types typed lawful) among (expressions_of spec) (expressions_parts spec) made (variables_at q.scope) q.expr (typed_here spec types typed q place)
    (place_listed spec types typed q place) at can known

pub expressions_stand : ExpressionsStand
expressions_stand spec types typed e among =
    let order = (types_in_order spec types).0 typed.are in
    let placed = all_placed spec (wholes_of spec) order.occurrences order.all (all_from (IsOccurrenceIn spec) (wholes_of spec) (λ q in_wholes. whole q in_wholes)) in
    let k = in_at (exprs order.occurrences) e (subst (λ (es : List Expr). Contains es e) (sym order.stand) among) in
    let q = of_map order.occurrences k.0 e k.1 in
    (q.0, at_each (IsOccurrenceIn spec) order.occurrences q.0 placed (at_in order.occurrences k.0 q.0 q.1), q.2)
  where
    of_map : (qs : List Occurrence) (k : ℕ) (e : Expr) → slice_get (exprs qs) k ≡ Some e → (q : Occurrence) × (slice_get qs k ≡ Some q) × (q.expr ≡ e)
    of_map qs k e h = by (slice_get qs k) refl (sym (slice_get-map (λ (q : Occurrence). q.expr) qs k) ∙ h)
      where
        by : (o : Option Occurrence) → slice_get qs k ≡ o → option_map (λ (q : Occurrence). q.expr) o ≡ Some e → (q : Occurrence) × (slice_get qs k ≡ Some q) × (q.expr ≡ e)
        by (Some q) at is = (q, at, cc)
        by None at is = absurd (no is)
          where
            no : None ≡ Some e → ⊥
            no i = cc
