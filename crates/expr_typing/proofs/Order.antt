-- The types of the expressions of a specification stand in the order of the expressions.
use Rattle.std.proofs.Common.{◌≡◌, List, [], ◌∷◌, ◌++◌, map, Option, Some, None, refl, sym, ap, subst, ◌∙◌}
use Rattle.std.proofs.lemmas.List.{map-append}
use Rattle.std.proofs.lemmas.Grind.{flat_map-append}
use Rattle.std.specs.List.{AllZip, flat_map}
use Rattle.flow_syntax.specs.declared.expr.Expr.{Expr}
use Rattle.flow_syntax.specs.declared.expr.ExprKind.TheOpen.{ExprKind-F}
use Rattle.flow_syntax.specs.declared.message.Message.{Message}
use Rattle.flow_syntax.specs.declared.property.PropRule.{PropRule}
use Rattle.flow_syntax.specs.declared.spec.Named.{Named}
use Rattle.flow_syntax.specs.declared.spec.Spec.{Spec}
use Rattle.flow_syntax.specs.Expressions.{ExprLayer, expr_layer, parts_in, parts_of, preorder, all_of_option, expressions_of_message, expressions_of}
use Rattle.flow_syntax.specs.ExprFaults.{body_of, message_scope}
use Rattle.flow_syntax.specs.Occurrences.{Occurrence, occurrence, optional, arguments, declared_arguments, expected_truth, parts_in as places_in, parts_of as places_of}
use Rattle.flow_syntax.specs.ExprTypes.{HasType, HaveTypes, none, next, AreTypes, wholes_of}
use Rattle.flow_syntax.specs.Scopes.{Scope}
use Rattle.flow_syntax.specs.Inferred.{function_named}
use Rattle.flow_syntax.specs.Types.{Typing}
use Rattle.flow_syntax.specs.Expected.{Expected, expected_key, expected_value, expected_element}
use Rattle.flow_syntax.proofs.Preorders.{preorder_out}
use Rattle.expr_typing.specs.Listing.{AreOccurrences, nowhere, there, AreInOrder, TypesAreInOrder}

-- the expressions at places
abbrev pub exprs : List Occurrence → List Expr
exprs ps = map (λ p. p.expr) ps

exprs_map : (s : Scope) (w : Expected) (es : List Expr) → exprs (map (occurrence s w) es) ≡ es
exprs_map s w [] = refl
exprs_map s w (e ∷ es) = ap (λ (xs : List Expr). e ∷ xs) (exprs_map s w es)

exprs_arguments : (s : Scope) (names : List Named) (es : List Expr) → exprs (arguments s names es) ≡ es
exprs_arguments s names [] = refl
exprs_arguments s [] (e ∷ es) = ap (λ (xs : List Expr). e ∷ xs) (exprs_arguments s [] es)
exprs_arguments s (n ∷ names) (e ∷ es) = ap (λ (xs : List Expr). e ∷ xs) (exprs_arguments s names es)

exprs_optional : (s : Scope) (w : Expected) (c : Option Expr) → exprs (optional s w c) ≡ all_of_option c
exprs_optional s w None = refl
exprs_optional s w (Some e) = refl

zip_append : {X Y : Type 0} (R : X → Y → Type 0) (xs : List X) (ys : List Y) (us : List X) (vs : List Y) → AllZip R xs ys → AllZip R us vs → AllZip R (xs ++ us) (ys ++ vs)
zip_append R [] [] us vs h k = k
zip_append R [] (y ∷ ys) us vs h k = absurd h
zip_append R (x ∷ xs) [] us vs h k = absurd h
zip_append R (x ∷ xs) (y ∷ ys) us vs h k = (h.0, zip_append R xs ys us vs h.1 k)

zip_split : {X Y : Type 0} (R : X → Y → Type 0) (xs us : List X) (vs : List Y) → AllZip R (xs ++ us) vs → (ys : List Y) × ((ws : List Y) × ((vs ≡ ys ++ ws) × (AllZip R xs ys × AllZip R us ws)))
zip_split R [] us vs h = ([], (vs, (refl, (tt, h))))
zip_split R (x ∷ xs) us [] h = absurd h
zip_split {Y} R (x ∷ xs) us (v ∷ vs) h = let k = zip_split R xs us vs h.1 in (v ∷ k.0, (k.1.0, (ap (λ (l : List Y). v ∷ l) k.1.1.0, ((h.0, k.1.1.1.0), k.1.1.1.1))))

module _ (spec : Spec) where
  -- the places of the parts of an expression are those of its parts, in their order
  pub exprs_parts : (s : Scope) (w : Expected) (layer : ExprLayer) → exprs (places_in spec s w layer) ≡ parts_in layer
  exprs_parts s w (ExprKind-F.Call f args) = exprs_arguments s (declared_arguments (function_named spec f)) args
  exprs_parts s w (ExprKind-F.SetOf es) = exprs_map s (expected_element w) es
  exprs_parts s w (ExprKind-F.Choose e x from c) = ap (λ (xs : List Expr). e ∷ from ∷ xs) (exprs_optional _ expected_truth c)
  exprs_parts s w (ExprKind-F.MapOf ks vs) =
      map-append (λ (p : Occurrence). p.expr) (map (occurrence s (expected_key w)) ks) (map (occurrence s (expected_value w)) vs)
      ∙ ap (λ (xs : List Expr). xs ++ exprs (map (occurrence s (expected_value w)) vs)) (exprs_map s (expected_key w) ks) ∙ ap (λ (xs : List Expr). ks ++ xs) (exprs_map s (expected_value w) vs)
  exprs_parts s w layer = refl

  -- the places of expressions and all their parts: those stand there, and have their types
  record InOrder (ps : List Occurrence) (ts : List Typing) : Type 0 where
    pub occurrences : List Occurrence
    pub all : AreOccurrences spec ps occurrences
    pub stand : exprs occurrences ≡ flat_map preorder (exprs ps)
    pub have : AllZip (HasType spec) occurrences ts

  in_order : (ps : List Occurrence) (ts : List Typing) → HaveTypes spec ps ts → InOrder ps ts
  in_order _ _ none = record { occurrences = []; all = nowhere; stand = refl; have = tt }
  in_order _ _ (next p ps t inside others has d e) =
      let i = in_order (places_of spec p) inside d in
      let o = in_order ps others e in
      record {
        occurrences = p ∷ i.occurrences ++ o.occurrences;
        all = there p ps i.occurrences o.occurrences i.all o.all;
        stand = ap (λ (es : List Expr). p.expr ∷ es) (
            map-append (λ (q : Occurrence). q.expr) i.occurrences o.occurrences
            ∙ ap (λ (es : List Expr). es ++ exprs o.occurrences) i.stand
            ∙ ap (λ (es : List Expr). flat_map preorder es ++ exprs o.occurrences) (exprs_parts p.scope p.expected (expr_layer p.expr))
            ∙ ap (λ (es : List Expr). flat_map preorder (parts_of p.expr) ++ es) o.stand)
            ∙ ap (λ (es : List Expr). es ++ flat_map preorder (exprs ps)) (sym (preorder_out p.expr));
        have = (has, zip_append (HasType spec) i.occurrences inside o.occurrences others i.have o.have);
      }

  -- types that the places have are those of the expressions there and all their parts
  typed_at : (ps occurrences : List Occurrence) (ts : List Typing) → AreOccurrences spec ps occurrences → AllZip (HasType spec) occurrences ts → HaveTypes spec ps ts
  typed_at _ _ [] nowhere h = none
  typed_at _ _ (t ∷ ts) nowhere h = absurd h
  typed_at _ _ [] (there p ps inner others d e) h = absurd h
  typed_at _ _ (t ∷ ts) (there p ps inner others d e) h =
      let k = zip_split (HasType spec) inner others ts h.1 in
      subst (λ (l : List Typing). HaveTypes spec (p ∷ ps) (t ∷ l)) (sym k.1.1.0) (next p ps t k.0 k.1.0 h.0 (typed_at (places_of spec p) inner k.0 d k.1.1.1.0) (typed_at ps others k.1.0 e k.1.1.1.1))

  -- WHOLE EXPRESSIONS

  bodies : (rules : List PropRule) → flat_map preorder (exprs (map (body_of spec) rules)) ≡ flat_map (λ rule. preorder rule.body) rules
  bodies [] = refl
  bodies (rule ∷ rules) = ap (λ (es : List Expr). preorder rule.body ++ es) (bodies rules)

  conditions : (ms : List Message) → flat_map preorder (exprs (flat_map (λ m. optional (message_scope m) expected_truth m.condition) ms)) ≡ flat_map expressions_of_message ms
  conditions [] = refl
  conditions (m ∷ ms) =
      ap (flat_map preorder) (map-append (λ (p : Occurrence). p.expr) (optional (message_scope m) expected_truth m.condition) (flat_map (λ n. optional (message_scope n) expected_truth n.condition) ms))
      ∙ flat_map-append preorder (exprs (optional (message_scope m) expected_truth m.condition)) (exprs (flat_map (λ n. optional (message_scope n) expected_truth n.condition) ms))
      ∙ ap (λ (es : List Expr). flat_map preorder es ++ flat_map preorder (exprs (flat_map (λ n. optional (message_scope n) expected_truth n.condition) ms))) (exprs_optional (message_scope m) expected_truth m.condition)
      ∙ ap (λ (es : List Expr). expressions_of_message m ++ es) (conditions ms)

  wholes : flat_map preorder (exprs (wholes_of spec)) ≡ expressions_of spec
  wholes =
      ap (flat_map preorder) (map-append (λ (p : Occurrence). p.expr) (map (body_of spec) spec.rules) (flat_map (λ m. optional (message_scope m) expected_truth m.condition) spec.messages))
      ∙ flat_map-append preorder (exprs (map (body_of spec) spec.rules)) (exprs (flat_map (λ m. optional (message_scope m) expected_truth m.condition) spec.messages))
      ∙ ap (λ (es : List Expr). es ++ flat_map preorder (exprs (flat_map (λ m. optional (message_scope m) expected_truth m.condition) spec.messages))) (bodies spec.rules)
      ∙ ap (λ (es : List Expr). flat_map (λ rule. preorder rule.body) spec.rules ++ es) (conditions spec.messages)

types_stand : (spec : Spec) (types : List Typing) → AreTypes spec types → AreInOrder spec types
types_stand spec types have =
    let h = in_order spec (wholes_of spec) types have in
    record { occurrences = h.occurrences; all = h.all; stand = h.stand ∙ wholes spec; have = h.have }

pub types_in_order : TypesAreInOrder
types_in_order spec types = (types_stand spec types, λ h. typed_at spec (wholes_of spec) h.occurrences types h.all h.have)
