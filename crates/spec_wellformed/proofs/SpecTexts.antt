-- What each text of a specification has.
use Rattle.std.proofs.Common.{◌≡◌, ℕ, ◌≤◌, ◌==◌, ◌&&◌, ◌||◌, Bool, true, false, not, List, [], ◌∷◌, Some, None, length, map, refl, sym, ap, subst, inl, inr, arith}
use Rattle.std.specs.Prelude.{pos, negsuc, Contains, IsTrue, bytes_eq, if◌then◌else◌}
use Rattle.std.specs.List.{list_all}
use Rattle.flow_syntax.specs.Accepted.{IsIdentifier, is_application}
use Rattle.flow_syntax.specs.Expressions.{preorder, expressions_of_message}
use Rattle.flow_syntax.specs.Matching.{pattern_layer}
use Rattle.flow_syntax.specs.declared.pattern.Pattern.{Pattern}
use Rattle.flow_syntax.specs.declared.pattern.PatternKind.{out-PatternKind, roll-PatternKind, out-roll-PatternKind}
use Rattle.flow_syntax.specs.declared.pattern.PatternKind.TheVariants as patterns
use Rattle.flow_syntax.specs.declared.pattern.PatternKind.TheOpen.{PatternKind-F}
use Rattle.flow_syntax.specs.declared.rule.Chain.{Chain}
use Rattle.flow_syntax.specs.declared.spec.Named.{Named}
use Rattle.flow_syntax.specs.declared.token.Token.{Token}
use Rattle.flow_syntax.specs.declared.token.TokenKind.{TokenKind}
use Rattle.flow_syntax.specs.declared.token.TokenKind.TheVariants as tokens
use Rattle.grammar_theory.specs.Texts.{member, PartValue, Symbol, Then}
use Rattle.spec_wellformed.proofs.Attributes.{TurnFacts}
use Rattle.spec_wellformed.proofs.Facts.{AreIdentifiers, Fact}
use Rattle.spec_wellformed.proofs.Ranges.{AreWithin, either, none_in_nothing, first_or_behind, none_within, widen, last_within}
use Rattle.spec_grammar.specs.Control.{control_rule_rule, make_control_rule, node_chain, head_rule, make_head, chain_rule, make_chain}
use Rattle.spec_grammar.specs.Kinds.{code_of, kind_in, kind_named, kind_of, word_kinds, symbol_kinds}
use Rattle.spec_grammar.specs.Parts.{the, identifier, behind, text_in, text_of, named}
use Rattle.spec_grammar.specs.Rules.{rule_rule, make_rule, message_rule, make_message}
use Rattle.spec_grammar.specs.Symbols.{ValueOf, AChain}
use Rattle.spec_grammar.specs.Tables.{enum_rule, make_enum, table_rule, make_table, function_rule, make_function}
use Rattle.spec_grammar.specs.Types.{property_rule, make_property}
use Rattle.spec_grammar.specs.declared.kind.Kind.{Kind}
use Rattle.spec_grammar.specs.declared.kind.Kind.TheVariants as kinds

-- ** identifiers

other_kind : (rows : List (List ℕ × Kind)) (text : List ℕ) → list_all (λ (r : List ℕ × Kind). not (code_of r.1 == 0)) rows ≡ true → (code_of (kind_in rows text) == 0) ≡ false
other_kind [] text h = refl
other_kind (row ∷ rows) text h = here (bytes_eq row.0 text) (code_of row.1 == 0) refl h (other_kind rows text)
  where
    here : (b c : Bool) → c ≡ (code_of row.1 == 0) → (not c && list_all (λ (r : List ℕ × Kind). not (code_of r.1 == 0)) rows) ≡ true
        → (list_all (λ (r : List ℕ × Kind). not (code_of r.1 == 0)) rows ≡ true → (code_of (kind_in rows text) == 0) ≡ false) → (code_of (if b then row.1 else kind_in rows text) == 0) ≡ false
    here b true e k next = absurd cc
    here true false e k next = sym e
    here false false e k next = next k

both_ways : (b : Bool) → b ≡ false → (b || false) ≡ true → ⊥
both_ways true o h = absurd cc
both_ways false o h = absurd cc

kind_tells : (k : TokenKind) → member (code_of (kind_named k)) (code_of kinds.Identifier ∷ []) ≡ true → k ≡ tokens.Ident (text_in k)
kind_tells (tokens.Ident text) h = refl
kind_tells (tokens.Number (pos n)) h = absurd cc
kind_tells (tokens.Number (negsuc n)) h = absurd cc
kind_tells (tokens.Quoted text) h = absurd cc
kind_tells (tokens.Word text) h = absurd (both_ways (code_of (kind_in word_kinds text) == 0) (other_kind word_kinds text refl) h)
kind_tells (tokens.Symbol text) h = absurd (both_ways (code_of (kind_in symbol_kinds text) == 0) (other_kind symbol_kinds text refl) h)
kind_tells tokens.Eof h = absurd cc

-- a token of that kind is an identifier
told_identifier : (t : Token) → member (kind_of t) (code_of kinds.Identifier ∷ []) ≡ true → t.kind ≡ tokens.Ident (text_of t)
unfolding kind_of
told_identifier t h = kind_tells t.kind h

-- ** patterns, chains and rules of control

applied_layer : (name : List ℕ) (ps : List Pattern) → out-PatternKind (patterns.Apply name ps) ≡ PatternKind-F.Apply name ps
unfolding roll-PatternKind out-PatternKind denote.Hole.Carrier.roll
applied_layer name ps = out-roll-PatternKind (PatternKind-F.Apply name ps)

module _ (ids : Type 0) where
  pub head_step : (lo hi : ℕ) (x : PartValue Token ValueOf head_rule) → Fact ids head_rule lo hi x → IsTrue (is_application (pattern_layer (make_head x)))
  head_step lo hi x f = ap is_application (applied_layer (text_of x.0) x.1)

  pub chain_step : (lo hi : ℕ) (x : PartValue Token ValueOf chain_rule) → Fact ids chain_rule lo hi x → 2 ≤ length (make_chain x).items
  chain_step lo hi x f = omega arith

  chains_behind : (lo hi : ℕ) (xs : List (Token × Chain)) → TurnFacts (Fact ids (Then (the kinds.Comma) (Symbol AChain))) lo hi xs → (chain : Chain) → Contains (behind xs) chain → 2 ≤ length chain.items
  chains_behind lo hi [] f chain h = absurd (none_in_nothing chain h)
  chains_behind lo hi (x ∷ xs) (n, b, a, (m, c, d, t, two), later) chain h =
      either (λ e. subst (λ (k : Chain). 2 ≤ length k.items) e two) (chains_behind n hi xs later chain) (first_or_behind x.1 (behind xs) chain h)

  pub control_rule_step : (lo hi : ℕ) (x : PartValue Token ValueOf control_rule_rule) → Fact ids control_rule_rule lo hi x
      → IsTrue (is_application (pattern_layer (make_control_rule x).head)) × ((chain : Chain) → Contains (make_control_rule x).chains chain → 2 ≤ length chain.items)
  control_rule_step lo hi (inl x) (m, b, a, t, h) =
      (h, λ chain c. either (λ e. subst (λ (k : Chain). 2 ≤ length k.items) e (omega arith)) (λ k. absurd (none_in_nothing chain k)) (first_or_behind (node_chain x.0.place) [] chain c))
  control_rule_step lo hi (inr (r, (p, (i, (first, xs))))) (m1, b1, a1, f, (m2, b2, a2, h, (m3, b3, a3, g, (m4, b4, a4, two, later)))) =
      (h, λ chain c. either (λ e. subst (λ (k : Chain). 2 ≤ length k.items) e two) (chains_behind m4 hi xs later chain) (first_or_behind first (behind xs) chain c))

  -- ** tables

  pub function_step : (lo hi : ℕ) (x : PartValue Token ValueOf function_rule) → Fact ids function_rule lo hi x → (1 ≤ length (make_function x).args) × (length (make_function x).args ≤ 2)
  function_step lo hi (n, ((o, ((a, None), c)), rest)) f = (omega arith, omega arith)
  function_step lo hi (n, ((o, ((a, Some b), c)), rest)) f = (omega arith, omega arith)

  one_named : (lo hi : ℕ) (t : Token) → Fact ids identifier lo hi t → ids → IsIdentifier (text_of t)
  one_named lo hi t f known = f.2 known (text_of t) (told_identifier t f.3)

  names_behind : (lo hi : ℕ) (xs : List (Token × Token)) → TurnFacts (Fact ids (Then (the kinds.Bar) identifier)) lo hi xs → AreIdentifiers ids (map named (behind xs))
  names_behind lo hi [] f known name h = absurd (none_in_nothing name h)
  names_behind lo hi (x ∷ xs) (n, b, a, (m, c, d, t, i), later) known name h =
      either (λ e. subst (λ (k : Named). IsIdentifier k.text) e (one_named m n x.1 i known)) (names_behind n hi xs later known name) (first_or_behind (named x.1) (map named (behind xs)) name h)

  pub enum_step : (lo hi : ℕ) (x : PartValue Token ValueOf enum_rule) → Fact ids enum_rule lo hi x → AreIdentifiers ids (make_enum x).items
  enum_step lo hi (n, (i, (t, xs))) (m1, b1, a1, f, (m2, b2, a2, g, (m3, b3, a3, h, later))) known name c =
      either (λ e. subst (λ (k : Named). IsIdentifier k.text) e (one_named m2 m3 t h known)) (names_behind m3 hi xs later known name) (first_or_behind (named t) (map named (behind xs)) name c)

  names_after : (lo hi : ℕ) (ts : List Token) → TurnFacts (Fact ids identifier) lo hi ts → AreIdentifiers ids (map named ts)
  names_after lo hi [] f known name h = absurd (none_in_nothing name h)
  names_after lo hi (t ∷ ts) (n, b, a, i, later) known name h =
      either (λ e. subst (λ (k : Named). IsIdentifier k.text) e (one_named lo n t i known)) (names_after n hi ts later known name) (first_or_behind (named t) (map named ts) name h)

  pub table_step : (lo hi : ℕ) (x : PartValue Token ValueOf table_rule) → Fact ids table_rule lo hi x → AreIdentifiers ids (make_table x).elements
  table_step lo hi (n, (o, ((w, ((t, ts), rest)), c))) (m1, b1, a1, f, (m2, b2, a2, g, (m3, b3, a3, (m4, b4, a4, e, (m5, b5, a5, (m6, b6, a6, i, later), z)), h))) known name k =
      either (λ s. subst (λ (j : Named). IsIdentifier j.text) s (one_named m4 m6 t i known)) (names_after m6 m5 ts later known name) (first_or_behind (named t) (map named ts) name k)

  pub property_step : (lo hi : ℕ) (x : PartValue Token ValueOf property_rule) → Fact ids property_rule lo hi x → ids → IsIdentifier (make_property x).name.text
  property_step lo hi x (m, b, a, f, rest) known = one_named lo m x.0 f known

  -- ** rules of properties, and messages

  pub rule_step : (lo hi : ℕ) (x : PartValue Token ValueOf rule_rule) → Fact ids rule_rule lo hi x → AreWithin lo hi (preorder (make_rule x).body)
  rule_step lo hi x (m1, b1, a1, f, (m2, b2, a2, g, (m3, b3, a3, h, w))) = widen m3 hi lo hi (preorder x.1.1.1) (omega (arith, b1, b2, b3)) (omega arith) w

  pub message_step : (lo hi : ℕ) (x : PartValue Token ValueOf message_rule) → Fact ids message_rule lo hi x → AreWithin lo hi (expressions_of_message (make_message x))
  message_step lo hi (l, (ps, (on, (p, None)))) f = none_within lo hi
  message_step lo hi (l, (ps, (on, (p, Some c)))) (m1, b1, a1, f, (m2, b2, a2, g, (m3, b3, a3, h, (m4, b4, a4, i, (m5, b5, a5, j, w))))) =
      last_within lo hi m5 hi c.1 (omega (arith, b1, b2, b3, b4, b5)) (omega arith) w (omega (arith, b1, a1))
