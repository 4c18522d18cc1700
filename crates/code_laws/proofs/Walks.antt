-- An expression's code from that of its parts.
use Rattle.std.proofs.Common.{◌≡◌, ℕ, List, [], ◌∷◌, ◌++◌, drop, Some, slice_get, refl, sym, ap, subst, ◌∙◌}
use Rattle.std.specs.List.{flat_map}
use Rattle.std.proofs.lemmas.List.{append_assoc}
use Rattle.flow_syntax.specs.declared.expr.Expr.{Expr}
use Rattle.flow_syntax.specs.declared.spec.Spec.{Spec}
use Rattle.flow_syntax.specs.declared.tables.TableDecl.{TableDecl}
use Rattle.flow_syntax.specs.declared.types.ExprType.{ExprType}
use Rattle.flow_syntax.specs.Expressions.{ExprLayer, expr_layer, parts_in, preorder}
use Rattle.flow_syntax.specs.Types.{typing_of}
use Rattle.flow_syntax.proofs.Parts.{given_layer, by_parts_out}
use Rattle.flow_syntax.proofs.Preorders.{preorder_out}
use Rattle.lattice_any.specs.declared.tables.DeclaredTable.{DeclaredTable}
use Rattle.expr_meaning.specs.Meaning.{Meaning, Sense, Situation, meaning, form_meaning}
use Rattle.expr_meaning.specs.Ranges.{Range, range_of, domain_in}
use Rattle.expr_meaning.specs.Typing.{AreTyped, Held, HasForm, IsIn, Suits, Variable, held, held_parts}
use Rattle.expr_meaning.proofs.Laws.{meanings_in_range}
use Rattle.expr_meaning.proofs.TypedParts.{first_typed, rest_typed, inner_typed}
use Rattle.flow_modes.specs.inner.Walked.{AgreeWith, behind}
use Rattle.eval_code.specs.Senses.{Given}
use Rattle.code_laws.specs.Codes.{GivesMeant}
use Rattle.code_laws.specs.inner.Compiled.{Kind, HasKind, Setting, IsCompiled}

-- LISTS

pub agree_split : (declared : List TableDecl) (range : Expr → Range) (xs ys : List Expr) (ts : List ExprType) → AgreeWith declared range (xs ++ ys) ts → AgreeWith declared range xs ts × AgreeWith declared range ys (behind xs ts)
agree_split declared range [] ys ts h = (tt, h)
agree_split declared range (x ∷ xs) ys [] h = absurd h
agree_split declared range (x ∷ xs) ys (t ∷ ts) h = let rest = agree_split declared range xs ys ts h.1 in ((h.0, rest.0), rest.1)

pub behind_both : (xs ys : List Expr) (ts : List ExprType) → behind (xs ++ ys) ts ≡ behind ys (behind xs ts)
behind_both [] ys ts = refl
behind_both (x ∷ xs) ys ts = behind_both xs ys (drop 1 ts)

pub flat_more : (xs ys : List Expr) → flat_map preorder (xs ++ ys) ≡ flat_map preorder xs ++ flat_map preorder ys
flat_more [] ys = refl
flat_more (x ∷ xs) ys = ap (λ (zs : List Expr). preorder x ++ zs) (flat_more xs ys) ∙ sym (append_assoc (preorder x) (flat_map preorder xs) (flat_map preorder ys))

-- ONE LAYER

-- the range is that of the first of the types
abbrev pub IsBeside : List TableDecl → Range → List ExprType → Type 0
IsBeside declared own ts = (t : ExprType) × (slice_get ts 0 ≡ Some t) × (own ≡ range_of declared (typing_of t))

first_beside : (declared : List TableDecl) (range : Expr → Range) (e : Expr) (es : List Expr) (ts : List ExprType) → AgreeWith declared range (e ∷ es) ts → IsBeside declared (range e) ts × AgreeWith declared range es (drop 1 ts)
first_beside declared range e es [] h = absurd h
first_beside declared range e es (t ∷ ts) h = ((t, refl, h.0), h.1)

module _ {spec : Spec} {tables : List DeclaredTable} where
  abbrev pub M : Setting spec tables → Expr → Sense
  M s = meaning spec s.range

  -- what is known inside an expression of this range and layer
  pub record Inside (s : Setting spec tables) (vs : List Variable) (own : Range) (layer : ExprLayer) (ts : List ExprType) : Type 0 where
    pub form : HasForm spec s.usable s.range vs own layer
    pub typed : AreTyped spec s.usable s.range (held_parts s.range vs layer)
    pub agree : AgreeWith spec.lattices s.range (flat_map preorder (parts_in layer)) (drop 1 ts)
    pub beside : IsBeside spec.lattices own ts

  -- what is meant is in range
  pub is_sound : (s : Setting spec tables) (vs : List Variable) (e : Expr) (hs : List Held) → AreTyped spec s.usable s.range (held vs e ∷ hs) → (at : Situation) → Suits s.usable vs at → IsIn (s.range e) (M s e at)
  is_sound s vs e hs typed = meanings_in_range spec s.usable s.range s.laws vs e (first_typed _ _ typed)

  -- an expression by its layer
  pub whole : (names : List (List ℕ)) (kind : Kind) (e : Expr) (layer : ExprLayer) (ts rest : List ExprType) (g : Given Meaning) → expr_layer e ≡ layer
      → ((s : Setting spec tables) (vs : List Variable) → Inside s vs (s.range e) layer ts → HasKind kind (s.range e)
      → GivesMeant s.usable vs names g (form_meaning spec (domain_in (s.range e)) (given_layer (M s) layer)) × (behind (flat_map preorder (parts_in layer)) (drop 1 ts) ≡ rest))
      → IsCompiled spec tables names kind e ts g rest
  whole names kind e layer ts rest g is parts = record {
    found = λ s vs typed agree has.
        let out : preorder e ≡ e ∷ flat_map preorder (parts_in layer) = preorder_out e ∙ ap (λ (l : ExprLayer). e ∷ flat_map preorder (parts_in l)) is in
        let first = first_beside spec.lattices s.range e (flat_map preorder (parts_in layer)) ts (subst (λ (xs : List Expr). AgreeWith spec.lattices s.range xs ts) out agree) in
        let inner = inner_typed (held vs e) typed in
        let known = parts s vs (record {
          form = subst (HasForm spec s.usable s.range vs (s.range e)) is inner.0;
          typed = subst (λ (l : ExprLayer). AreTyped spec s.usable s.range (held_parts s.range vs l)) is inner.1;
          agree = first.1;
          beside = first.0;
        }) has in (
          subst (GivesMeant s.usable vs names g) (sym (by_parts_out (λ e l. form_meaning spec (domain_in (s.range e)) l) e ∙ ap (λ (l : ExprLayer). form_meaning spec (domain_in (s.range e)) (given_layer (M s) l)) is)) known.0,
          ap (λ (xs : List Expr). behind xs ts) out ∙ known.1,
        );
  }

  -- a first part, and what is known of the others
  pub part_taken : (s : Setting spec tables) (vs : List Variable) (names : List (List ℕ)) (kind : Kind) (a : Expr) (more : List Expr) (hs : List Held) (ts mid : List ExprType) (g : Given Meaning) → IsCompiled spec tables names kind a ts g mid
      → AreTyped spec s.usable s.range (held vs a ∷ hs) → AgreeWith spec.lattices s.range (preorder a ++ more) ts → HasKind kind (s.range a)
      → GivesMeant s.usable vs names g (M s a) × (AgreeWith spec.lattices s.range more mid × (behind (preorder a ++ more) ts ≡ behind more mid))
  part_taken s vs names kind a more hs ts mid g c typed agree has =
      let split = agree_split spec.lattices s.range (preorder a) more ts agree in
      let found = c.found s vs (first_typed _ _ typed) split.0 has in
      (found.0, (subst (AgreeWith spec.lattices s.range more) found.1 split.1, behind_both (preorder a) more ts ∙ ap (behind more) found.1))

  module _ (names : List (List ℕ)) (kind : Kind) (e : Expr) (layer : ExprLayer) (g : Given Meaning) where
    abbrev pub Gives : Setting spec tables → List Variable → Type 0
    Gives s vs = GivesMeant s.usable vs names g (form_meaning spec (domain_in (s.range e)) (given_layer (M s) layer))

    -- without parts
    pub no_parts : (ts rest : List ExprType) → expr_layer e ≡ layer → parts_in layer ≡ [] → rest ≡ drop 1 ts
        → ((s : Setting spec tables) (vs : List Variable) → Inside s vs (s.range e) layer ts → HasKind kind (s.range e) → Gives s vs)
        → IsCompiled spec tables names kind e ts g rest
    no_parts ts rest is parts moved gives =
        whole names kind e layer ts rest g is (λ s vs inside has. (gives s vs inside has, ap (λ (es : List Expr). behind (flat_map preorder es) (drop 1 ts)) parts ∙ sym moved))

    -- with one part
    pub one_part : (k : Kind) (a : Expr) (ts first rest : List ExprType) (ga : Given Meaning) → expr_layer e ≡ layer → parts_in layer ≡ a ∷ [] → ((s : Setting spec tables) (vs : List Variable) → held_parts s.range vs layer ≡ held vs a ∷ [])
        → first ≡ drop 1 ts → IsCompiled spec tables names k a first ga rest
        → ((s : Setting spec tables) (vs : List Variable) → Inside s vs (s.range e) layer ts → HasKind kind (s.range e) → HasKind k (s.range a))
        → ((s : Setting spec tables) (vs : List Variable) → Inside s vs (s.range e) layer ts → HasKind kind (s.range e) → AreTyped spec s.usable s.range (held vs a ∷ []) → GivesMeant s.usable vs names ga (M s a) → Gives s vs)
        → IsCompiled spec tables names kind e ts g rest
    one_part k a ts first rest ga is parts helds moved ca kinds gives =
        whole names kind e layer ts rest g is
        (λ s vs inside has.
        let typed = subst (AreTyped spec s.usable s.range) (helds s vs) inside.typed in
        let agree = subst (λ (es : List Expr). AgreeWith spec.lattices s.range (flat_map preorder es) (drop 1 ts)) parts inside.agree in
        let one = part_taken s vs names k a [] [] (drop 1 ts) rest ga (subst (λ us. IsCompiled spec tables names k a us ga rest) moved ca) typed agree (kinds s vs inside has) in
        (gives s vs inside has typed one.0, ap (λ (es : List Expr). behind (flat_map preorder es) (drop 1 ts)) parts ∙ one.1.1))

    -- with two parts
    pub two_parts : (k l : Kind) (a b : Expr) (ts first mid rest : List ExprType) (ga gb : Given Meaning) → expr_layer e ≡ layer → parts_in layer ≡ a ∷ b ∷ []
        → ((s : Setting spec tables) (vs : List Variable) → held_parts s.range vs layer ≡ held vs a ∷ held vs b ∷ [])
        → first ≡ drop 1 ts → IsCompiled spec tables names k a first ga mid → IsCompiled spec tables names l b mid gb rest
        → ((s : Setting spec tables) (vs : List Variable) → Inside s vs (s.range e) layer ts → HasKind kind (s.range e) → HasKind k (s.range a) × HasKind l (s.range b))
        → ((s : Setting spec tables) (vs : List Variable) → Inside s vs (s.range e) layer ts → HasKind kind (s.range e) → AreTyped spec s.usable s.range (held vs a ∷ held vs b ∷ []) → GivesMeant s.usable vs names ga (M s a)
        → GivesMeant s.usable vs names gb (M s b) → Gives s vs)
        → IsCompiled spec tables names kind e ts g rest
    two_parts k l a b ts first mid rest ga gb is parts helds moved ca cb kinds gives =
        whole names kind e layer ts rest g is
        (λ s vs inside has.
        let typed = subst (AreTyped spec s.usable s.range) (helds s vs) inside.typed in
        let agree = subst (λ (es : List Expr). AgreeWith spec.lattices s.range (flat_map preorder es) (drop 1 ts)) parts inside.agree in
        let both = kinds s vs inside has in
        let one = part_taken s vs names k a (preorder b ++ []) (held vs b ∷ []) (drop 1 ts) mid ga (subst (λ us. IsCompiled spec tables names k a us ga mid) moved ca) typed agree both.0 in
        let two = part_taken s vs names l b [] [] mid rest gb cb (rest_typed _ _ typed) one.1.0 both.1 in
        (gives s vs inside has typed one.0 two.0, ap (λ (es : List Expr). behind (flat_map preorder es) (drop 1 ts)) parts ∙ one.1.1 ∙ two.1.1))

    -- with three parts
    pub three_parts : (k l m : Kind) (a b c : Expr) (ts first second third rest : List ExprType) (ga gb gc : Given Meaning) → expr_layer e ≡ layer → parts_in layer ≡ a ∷ b ∷ c ∷ []
        → ((s : Setting spec tables) (vs : List Variable) → held_parts s.range vs layer ≡ held vs a ∷ held vs b ∷ held vs c ∷ [])
        → first ≡ drop 1 ts → IsCompiled spec tables names k a first ga second → IsCompiled spec tables names l b second gb third → IsCompiled spec tables names m c third gc rest
        → ((s : Setting spec tables) (vs : List Variable) → Inside s vs (s.range e) layer ts → HasKind kind (s.range e) → HasKind k (s.range a) × (HasKind l (s.range b) × HasKind m (s.range c)))
        → ((s : Setting spec tables) (vs : List Variable) → Inside s vs (s.range e) layer ts → HasKind kind (s.range e) → AreTyped spec s.usable s.range (held vs a ∷ held vs b ∷ held vs c ∷ []) → GivesMeant s.usable vs names ga (M s a)
        → GivesMeant s.usable vs names gb (M s b) → GivesMeant s.usable vs names gc (M s c) → Gives s vs)
        → IsCompiled spec tables names kind e ts g rest
    three_parts k l m a b c ts first second third rest ga gb gc is parts helds moved ca cb cc kinds gives =
        whole names kind e layer ts rest g is
        (λ s vs inside has.
        let typed = subst (AreTyped spec s.usable s.range) (helds s vs) inside.typed in
        let agree = subst (λ (es : List Expr). AgreeWith spec.lattices s.range (flat_map preorder es) (drop 1 ts)) parts inside.agree in
        let all = kinds s vs inside has in
        let one = part_taken s vs names k a (preorder b ++ (preorder c ++ [])) (held vs b ∷ held vs c ∷ []) (drop 1 ts) second ga (subst (λ us. IsCompiled spec tables names k a us ga second) moved ca) typed agree all.0 in
        let two = part_taken s vs names l b (preorder c ++ []) (held vs c ∷ []) second third gb cb (rest_typed _ _ typed) one.1.0 all.1.0 in
        let three = part_taken s vs names m c [] [] third rest gc cc (rest_typed _ _ (rest_typed _ _ typed)) two.1.0 all.1.1 in
        (gives s vs inside has typed one.0 two.0 three.0, ap (λ (es : List Expr). behind (flat_map preorder es) (drop 1 ts)) parts ∙ one.1.1 ∙ two.1.1 ∙ three.1.1))
