-- Codes of expressions in turn.
use Rattle.std.proofs.Common.{◌≡◌, ℕ, ◌+◌, ◌<◌, ◌≤◌, List, [], ◌∷◌, ◌++◌, length, map, take, get_or, refl, sym, ap, subst, ◌∙◌}
use Rattle.std.specs.List.{flat_map, AllZip, AllByRecursion}
use Rattle.std.proofs.lemmas.List.{map-append, take_all, take_more}
use Rattle.flow_syntax.specs.declared.expr.Expr.{Expr}
use Rattle.flow_syntax.specs.declared.spec.Spec.{Spec}
use Rattle.flow_syntax.specs.declared.types.ExprType.{ExprType}
use Rattle.flow_syntax.specs.Expressions.{preorder}
use Rattle.flow_syntax.specs.Parts.{part}
use Rattle.lattice_any.specs.declared.tables.DeclaredTable.{DeclaredTable}
use Rattle.expr_meaning.specs.Meaning.{Meaning, Situation, elem_in, value_in, elems_given, values_given}
use Rattle.expr_meaning.specs.Typing.{AreTyped, Suits, Variable, held}
use Rattle.expr_meaning.proofs.TypedParts.{split_typed, split_all}
use Rattle.flow_modes.specs.inner.Walked.{AgreeWith, behind}
use Rattle.eval_code.specs.declared.code.ElemCode.{ElemCode}
use Rattle.eval_code.specs.declared.code.ValueCode.{ValueCode}
use Rattle.eval_code.specs.Needs.{IsMet, all_of}
use Rattle.eval_code.specs.Senses.{Given, given_elem, given_value}
use Rattle.code_laws.specs.Codes.{GivesMeant, elem_meant, value_meant, slots_at, names_of}
use Rattle.code_laws.specs.inner.Compiled.{Kind, HasKind, a_value, an_element, Setting, IsCompiled, IsElemCode, IsValueCode, AreCompiled, AreElemCodes, AreValueCodes}
use Rattle.code_laws.proofs.Walks.{M, agree_split, behind_both, flat_more, part_taken}

zip_behind : {X Y : Type 0} (R : X → Y → Type 0) (xs : List X) (ys : List Y) (x : X) (y : Y) → AllZip R xs ys → R x y → AllZip R (xs ++ x ∷ []) (ys ++ y ∷ [])
zip_behind R [] [] x y h k = (k, tt)
zip_behind R [] (w ∷ ws) x y h k = absurd h
zip_behind R (v ∷ vs) [] x y h k = absurd h
zip_behind R (v ∷ vs) (w ∷ ws) x y h k = (h.0, zip_behind R vs ws x y h.1 k)

pub has_kinds : {X : Type 0} (P Q : X → Type 0) → ((x : X) → P x → Q x) → (xs : List X) → AllByRecursion P xs → AllByRecursion Q xs
has_kinds P Q f [] h = tt
has_kinds P Q f (x ∷ xs) h = (f x h.0, has_kinds P Q f xs h.1)

-- WHAT THEY GIVE AND NEED

module _ {spec : Spec} {tables : List DeclaredTable} (names : List (List ℕ)) (s : Setting spec tables) (vs : List Variable) (at : Situation) (suits : Suits s.usable vs at) (bound : names_of at.bindings ≡ names) where
  abbrev pub AreMeant : List Expr → List (Given Meaning) → Type 0
  AreMeant es gs = AllZip (λ e g. GivesMeant s.usable vs names g (M s e)) es gs

  pub elems_same : (es : List Expr) (cs : List ElemCode) → AreMeant es (map elem_meant cs) → map (λ g. g.sense (slots_at s.usable at)) (map given_elem cs) ≡ elems_given at (map (λ e. part e (M s e)) es)
  elems_same [] [] h = refl
  elems_same [] (c ∷ cs) h = absurd h
  elems_same (e ∷ es) [] h = absurd h
  elems_same (e ∷ es) (c ∷ cs) h = λ i. elem_in (h.0.gives at suits bound i) ∷ elems_same es cs h.1 i

  pub elems_met : (es : List Expr) (cs : List ElemCode) → AreMeant es (map elem_meant cs) → IsMet (all_of (map (λ g. g.demand (slots_at s.usable at)) (map given_elem cs)))
  elems_met [] [] h = tt
  elems_met [] (c ∷ cs) h = absurd h
  elems_met (e ∷ es) [] h = absurd h
  elems_met (e ∷ es) (c ∷ cs) h = (h.0.needs at suits bound, elems_met es cs h.1)

  pub values_same : (es : List Expr) (cs : List ValueCode) → AreMeant es (map value_meant cs) → map (λ g. g.sense (slots_at s.usable at)) (map given_value cs) ≡ values_given at (map (λ e. part e (M s e)) es)
  values_same [] [] h = refl
  values_same [] (c ∷ cs) h = absurd h
  values_same (e ∷ es) [] h = absurd h
  values_same (e ∷ es) (c ∷ cs) h = λ i. value_in (h.0.gives at suits bound i) ∷ values_same es cs h.1 i

  pub values_met : (es : List Expr) (cs : List ValueCode) → AreMeant es (map value_meant cs) → IsMet (all_of (map (λ g. g.demand (slots_at s.usable at)) (map given_value cs)))
  values_met [] [] h = tt
  values_met [] (c ∷ cs) h = absurd h
  values_met (e ∷ es) [] h = absurd h
  values_met (e ∷ es) (c ∷ cs) h = (h.0.needs at suits bound, values_met es cs h.1)

-- ONE BY ONE

module _ {spec : Spec} {tables : List DeclaredTable} (names : List (List ℕ)) where
  pub no_codes : (kind : Kind) (ts : List ExprType) → AreCompiled spec tables names kind [] ts [] ts
  no_codes kind ts = record { found = λ s vs typed agree kinds. (tt, refl) }

  pub code_behind : (kind : Kind) (es : List Expr) (e : Expr) (ts mid rest : List ExprType) (gs : List (Given Meaning)) (g : Given Meaning) → AreCompiled spec tables names kind es ts gs mid → IsCompiled spec tables names kind e mid g rest
      → AreCompiled spec tables names kind (es ++ e ∷ []) ts (gs ++ g ∷ []) rest
  code_behind kind es e ts mid rest gs g all one = record {
    found = λ s vs typed agree kinds.
        let parts = split_typed (map (held vs) es) (held vs e ∷ []) (subst (AreTyped spec s.usable s.range) (map-append (held vs) es (e ∷ [])) typed) in
        let split = agree_split spec.lattices s.range (flat_map preorder es) (flat_map preorder (e ∷ [])) ts (subst (λ (xs : List Expr). AgreeWith spec.lattices s.range xs ts) (flat_more es (e ∷ [])) agree) in
        let apart = split_all (λ e. HasKind kind (s.range e)) es (e ∷ []) kinds in
        let before = all.found s vs parts.0 split.0 apart.0 in
        let last = part_taken s vs names kind e [] [] mid rest g one parts.1 (subst (AgreeWith spec.lattices s.range (preorder e ++ [])) before.1 split.1) apart.1.0 in (
          zip_behind (λ e g. GivesMeant s.usable vs names g (M s e)) es gs e g before.0 last.0,
          ap (λ (xs : List Expr). behind xs ts) (flat_more es (e ∷ [])) ∙ behind_both (flat_map preorder es) (preorder e ++ []) ts ∙ ap (behind (preorder e ++ [])) before.1 ∙ last.1.1,
        );
  }

  pub one_code : (kind : Kind) (e : Expr) (ts rest : List ExprType) (g : Given Meaning) → IsCompiled spec tables names kind e ts g rest → AreCompiled spec tables names kind (e ∷ []) ts (g ∷ []) rest
  one_code kind e ts rest g one = code_behind kind [] e ts ts rest [] g (no_codes kind ts) one

  next_code : (kind : Kind) (es : List Expr) (i : ℕ) (e : Expr) (ts mid rest : List ExprType) (gs hs : List (Given Meaning)) (g : Given Meaning) → i < length es → e ≡ get_or es i e → AreCompiled spec tables names kind (take i es) ts gs mid
      → IsCompiled spec tables names kind e mid g rest → hs ≡ gs ++ g ∷ [] → AreCompiled spec tables names kind (take (i + 1) es) ts hs rest
  next_code kind es i e ts mid rest gs hs g within is before one made =
      let taken : take (i + 1) es ≡ take i es ++ e ∷ [] = take_more es i e within ∙ ap (λ (x : Expr). take i es ++ x ∷ []) (sym is) in
      subst (λ (xs : List Expr). AreCompiled spec tables names kind xs ts hs rest) (sym taken) (subst (λ (zs : List (Given Meaning)). AreCompiled spec tables names kind (take i es ++ e ∷ []) ts zs rest) (sym made) (code_behind kind (take i es) e ts mid rest gs g before one))

  pub next_elem : (es : List Expr) (i : ℕ) (e : Expr) (ts mid rest : List ExprType) (cs ds : List ElemCode) (c : ElemCode) → i < length es → e ≡ get_or es i e → AreElemCodes spec tables names (take i es) ts cs mid → IsElemCode spec tables names e mid c rest
      → ds ≡ cs ++ c ∷ [] → AreElemCodes spec tables names (take (i + 1) es) ts ds rest
  next_elem es i e ts mid rest cs ds c within is before one made =
      next_code an_element es i e ts mid rest (map elem_meant cs) (map elem_meant ds) (elem_meant c) within is before one (ap (map elem_meant) made ∙ map-append elem_meant cs (c ∷ []))

  pub next_value : (es : List Expr) (i : ℕ) (e : Expr) (ts mid rest : List ExprType) (cs ds : List ValueCode) (c : ValueCode) → i < length es → e ≡ get_or es i e → AreValueCodes spec tables names (take i es) ts cs mid → IsValueCode spec tables names e mid c rest
      → ds ≡ cs ++ c ∷ [] → AreValueCodes spec tables names (take (i + 1) es) ts ds rest
  next_value es i e ts mid rest cs ds c within is before one made =
      next_code a_value es i e ts mid rest (map value_meant cs) (map value_meant ds) (value_meant c) within is before one (ap (map value_meant) made ∙ map-append value_meant cs (c ∷ []))

  pub all_codes : (kind : Kind) (es : List Expr) (i : ℕ) (ts rest : List ExprType) (gs : List (Given Meaning)) → length es ≤ i → AreCompiled spec tables names kind (take i es) ts gs rest → AreCompiled spec tables names kind es ts gs rest
  all_codes kind es i ts rest gs end h = subst (λ (xs : List Expr). AreCompiled spec tables names kind xs ts gs rest) (take_all i es end) h
