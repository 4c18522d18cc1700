-- The first fault among the bodies of rules.
use Rattle.std.proofs.Common.{◌≡◌, ◌↔◌, ℕ, suc, ◌+◌, ◌<◌, Bool, true, false, cond, List, [], ◌∷◌, ◌++◌, length, map, drop, drop-cons, get_or, find, Option, Some, None, refl, sym, ap, subst, ◌∙◌, arith}
use Rattle.std.specs.Prelude.{Contains, Result, Ok, Err}
use Rattle.std.specs.List.{AllByRecursion, AllZip, flat_map}
use Rattle.std.specs.Option.{option_map}
use Rattle.flow_syntax.specs.declared.expr.Expr.{Expr, out-Expr}
use Rattle.flow_syntax.specs.declared.property.Mode.{Mode}
use Rattle.flow_syntax.specs.declared.property.PropRule.{PropRule}
use Rattle.flow_syntax.specs.declared.spec.TypedSpec.{TypedSpec}
use Rattle.flow_syntax.specs.declared.tables.TableDecl.{TableDecl}
use Rattle.flow_syntax.specs.declared.types.ExprType.{ExprType}
use Rattle.flow_syntax.specs.Expressions.{preorder, expressions_of_message}
use Rattle.flow_syntax.specs.Types.{typing_of}
use Rattle.flow_syntax.proofs.Listed.{Contains_here, Contains_behind}
use Rattle.expr_meaning.specs.Modes.{mode_of}
use Rattle.expr_meaning.specs.Ranges.{Range, range_of}
use Rattle.flow_modes.specs.declared.check.ModeFault.{ModeFault}
use Rattle.flow_modes.specs.Modes.{is_refused, typed_ranges, HaveGoodModes, body_fault, first_fault_by, first_mode_fault}
use Rattle.flow_modes.specs.inner.Walked.{AgreeWith, IsWalked, bodies_in}
use Rattle.expr_typing.proofs.Clean.{at_each}
use Rattle.expr_typing.proofs.Kept.{types_kept}
use Rattle.typed_bodies.proofs.Good.{agree}
use Rattle.flow_modes.proofs.Walks.{agree_split}

-- what is found so far: the types that are left agree with the rules that are left, and the first fault is the first of these
abbrev pub IsLeft : List PropRule → List ExprType → List PropRule → List ExprType → Type 0
IsLeft rules types left rest = (declared : List TableDecl) (range : Expr → Range) → AgreeWith declared range (bodies_in rules) types
    → AgreeWith declared range (bodies_in left) rest × (first_fault_by range rules ≡ first_fault_by range left)

-- the rules from one on
pub left_at : (rules : List PropRule) (i : ℕ) (rule : PropRule) → i < length rules → rule ≡ get_or rules i rule → drop i rules ≡ rule ∷ drop (i + 1) rules
left_at rules i rule within is =
    let next : suc i ≡ i + 1 = omega arith in
    drop-cons rules i rule within ∙ (λ j. sym is j ∷ drop (next j) rules)

module _ (rules : List PropRule) (types : List ExprType) (rule : PropRule) (left : List PropRule) (rest end : List ExprType) (m : Mode) where
  pub one_passed : IsLeft rules types (rule ∷ left) rest → IsWalked rule.body rest m end → is_refused m ≡ false → IsLeft rules types left end
  one_passed before walked good declared range agree =
      let now = before declared range agree in
      let split = agree_split declared range (preorder rule.body) (bodies_in left) rest now.0 in
      let found = walked declared range split.0 in (
        subst (AgreeWith declared range (bodies_in left)) found.1 split.1,
        now.1 ∙ ap (λ b. option_map (body_fault range) (cond b (Some rule) (find (λ rule. is_refused (mode_of range rule.body)) left))) (ap is_refused found.0 ∙ good),
      )

  pub fault_here : (fault : ModeFault) → IsLeft rules types (rule ∷ left) rest → IsWalked rule.body rest m end → is_refused m ≡ true → fault ≡ record { place = (out-Expr rule.body).place; mode = m }
      → (declared : List TableDecl) (range : Expr → Range) → AgreeWith declared range (bodies_in rules) types → Some fault ≡ first_fault_by range rules
  fault_here fault before walked bad is declared range agree =
      let now = before declared range agree in
      let found = walked declared range (agree_split declared range (preorder rule.body) (bodies_in left) rest now.0).0 in
      sym (now.1 ∙ ap (λ b. option_map (body_fault range) (cond b (Some rule) (find (λ rule. is_refused (mode_of range rule.body)) left))) (ap is_refused found.0 ∙ bad)
      ∙ ap (λ x. Some (record { place = (out-Expr rule.body).place; mode = x })) found.0 ∙ ap Some (sym is))

-- THE SPECIFICATION

-- types that are listed for expressions agree with the ranges of these
pub zipped : (declared : List TableDecl) (range : Expr → Range) (xs ys : List Expr) (ts : List ExprType) → AllZip (λ e t. range e ≡ range_of declared t) (xs ++ ys) (map typing_of ts) → AgreeWith declared range xs ts
zipped declared range [] ys ts h = tt
zipped declared range (x ∷ xs) ys [] h = h
zipped declared range (x ∷ xs) ys (t ∷ ts) h = (h.0, zipped declared range xs ys ts h.1)

-- a specification's types agree with the ranges of its bodies
pub bodies_agree : (spec : TypedSpec) → AgreeWith spec.spec.lattices (typed_ranges spec) (bodies_in spec.spec.rules) spec.types
bodies_agree spec =
    zipped spec.spec.lattices (typed_ranges spec) (bodies_in spec.spec.rules) (flat_map expressions_of_message spec.spec.messages) spec.types
    (agree spec.spec (map typing_of spec.types) (record { faultless = spec.faultless; distinct = spec.distinct; are = types_kept spec.spec (map typing_of spec.types) spec.faultless spec.typed }))

-- there is no first fault exactly where each body is good
module _ (range : Expr → Range) where
  abbrev AreGood : List PropRule → Type 0
  AreGood rules = (rule : PropRule) → Contains rules rule → is_refused (mode_of range rule.body) ≡ false

  some≢none : (fault : ModeFault) → Some fault ≡ None → ⊥
  some≢none fault e = cc

  good_rules : (rules : List PropRule) → first_fault_by range rules ≡ None → AllByRecursion (λ rule. is_refused (mode_of range rule.body) ≡ false) rules
  good_rules [] h = tt
  good_rules (rule ∷ rules) h = by (is_refused (mode_of range rule.body)) refl h (good_rules rules)
    where
      by : (b : Bool) → is_refused (mode_of range rule.body) ≡ b → option_map (body_fault range) (cond b (Some rule) (find (λ rule. is_refused (mode_of range rule.body)) rules)) ≡ None
          → (first_fault_by range rules ≡ None → AllByRecursion (λ rule. is_refused (mode_of range rule.body) ≡ false) rules) → AllByRecursion (λ rule. is_refused (mode_of range rule.body) ≡ false) (rule ∷ rules)
      by true is none others = absurd (some≢none (body_fault range rule) none)
      by false is none others = (is, others none)

  pub all_good : (rules : List PropRule) → first_fault_by range rules ≡ None → AreGood rules
  all_good rules none rule among = at_each (λ rule. is_refused (mode_of range rule.body) ≡ false) rules rule (good_rules rules none) among

  pub none_bad : (rules : List PropRule) → AreGood rules → first_fault_by range rules ≡ None
  none_bad [] good = refl
  none_bad (rule ∷ rules) good =
      ap (λ b. option_map (body_fault range) (cond b (Some rule) (find (λ rule. is_refused (mode_of range rule.body)) rules))) (good rule (Contains_here rule rules))
      ∙ none_bad rules (λ r among. good r (Contains_behind rule rules r among))

-- ANSWERS

-- what is found among the rules of a specification is its first fault
pub found : (spec : TypedSpec) (rules : List PropRule) (types : List ExprType) (o : Option ModeFault) → rules ≡ spec.spec.rules → types ≡ spec.types
    → ((declared : List TableDecl) (range : Expr → Range) → AgreeWith declared range (bodies_in rules) types → o ≡ first_fault_by range rules) → o ≡ first_mode_fault spec
found spec rules types o is are h =
    let at_rules = subst (λ (rs : List PropRule). (declared : List TableDecl) (range : Expr → Range) → AgreeWith declared range (bodies_in rs) types → o ≡ first_fault_by range rs) is h in
    subst (λ (ts : List ExprType). (declared : List TableDecl) (range : Expr → Range) → AgreeWith declared range (bodies_in spec.spec.rules) ts → o ≡ first_fault_by range spec.spec.rules) are at_rules
    spec.spec.lattices (typed_ranges spec) (bodies_agree spec)

abbrev Answer : Type 0
Answer = Result (Unit {0}) ModeFault

abbrev accepted : Answer
accepted = Ok tt

abbrev refused : ModeFault → Answer
refused fault = Err fault

ok≢err : (fault : ModeFault) → accepted ≡ refused fault → ⊥
ok≢err fault e = cc

pub none_accepted : (spec : TypedSpec) → first_mode_fault spec ≡ None → (accepted ≡ accepted) ↔ HaveGoodModes spec
none_accepted spec none = (λ e. all_good (typed_ranges spec) spec.spec.rules none, λ good. refl)

pub none_refused : (spec : TypedSpec) → first_mode_fault spec ≡ None → (fault : ModeFault) → (accepted ≡ refused fault) ↔ (first_mode_fault spec ≡ Some fault)
none_refused spec none fault = (λ e. absurd (ok≢err fault e), λ e. absurd (some≢none (typed_ranges spec) fault (sym e ∙ none)))

pub some_accepted : (spec : TypedSpec) (first : ModeFault) → first_mode_fault spec ≡ Some first → (refused first ≡ accepted) ↔ HaveGoodModes spec
some_accepted spec first some = (λ e. absurd (ok≢err first (sym e)), λ good. absurd (some≢none (typed_ranges spec) first (sym some ∙ none_bad (typed_ranges spec) spec.spec.rules good)))

pub some_refused : (spec : TypedSpec) (first : ModeFault) → first_mode_fault spec ≡ Some first → (fault : ModeFault) → (refused first ≡ refused fault) ↔ (first_mode_fault spec ≡ Some fault)
some_refused spec first some fault = (λ e. some ∙ ap Some (same_err e), λ e. ap (λ f. refused f) (same_some (sym some ∙ e)))
  where
    same_err : refused first ≡ refused fault → first ≡ fault
    same_err e = cc

    same_some : Some first ≡ Some fault → first ≡ fault
    same_some e = cc
