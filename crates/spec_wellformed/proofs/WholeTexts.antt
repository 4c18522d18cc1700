-- What each text of a whole specification has.
use Rattle.std.proofs.Common.{◌≡◌, ℕ, suc, ◌+◌, List, [], ◌∷◌, ◌++◌, Option, Some, None, refl, sym, subst, arith}
use Rattle.std.specs.Prelude.{Contains, IsTrue}
use Rattle.std.specs.List.{flat_map}
use Rattle.std.proofs.lemmas.List.Elements.{Contains-append_right}
use Rattle.flow_syntax.specs.Accepted.{is_application, HasIdentifierTokens}
use Rattle.flow_syntax.specs.Expressions.{preorder, expressions_of_message}
use Rattle.flow_syntax.specs.Matching.{pattern_layer}
use Rattle.flow_syntax.specs.Tokens.{RiseFrom}
use Rattle.flow_syntax.specs.declared.message.Message.{Message}
use Rattle.flow_syntax.specs.declared.property.PropRule.{PropRule}
use Rattle.flow_syntax.specs.declared.token.Token.{Token}
use Rattle.grammar_theory.specs.Texts.{PartValue}
use Rattle.spec_wellformed.proofs.Attributes.{Spans, TurnFacts, OneOrNoFact, symbol_fact}
use Rattle.spec_wellformed.proofs.ExprTexts as texts
use Rattle.spec_wellformed.proofs.Facts.{IsNamed, Meets, Fact, token_place}
use Rattle.spec_wellformed.proofs.Ranges.{AreWithin, either, none_in_nothing, first_or_behind, none_within, widen, both_within}
use Rattle.spec_wellformed.proofs.SpecTexts as sections
use Rattle.spec_wellformed.specs.Laws.{TextsAreWellFormed}
use Rattle.spec_grammar.specs.Symbols.{Nonterminal, ValueOf, Whole, ASignature, AConstructor, ATreeSort, AnEnum, ATable, AFunction, AControlRule, AHead, AChain, AnItem, AProperty, AType, AnElemSort, ARule, ATrigger, AMessage, APattern, AFirmPattern, AnUnnamedPattern, PatternArguments, AnExpr, ALevel, AnOperand, ANegation, AComparison, AnOpposite, ALookup, ASuffix, APrimary, ANamedExpr, AParenthesis, ABrace, AMap}
use Rattle.spec_grammar.specs.Syntax.{spec_syntax, rule, make}
use Rattle.spec_grammar.specs.Whole.{section, section_of, whole_rule, make_whole}
use Rattle.spec_grammar.specs.declared.kind.Kind.{Kind}
use Rattle.spec_grammar.specs.declared.kind.Kind.TheVariants as kinds

-- ** sections

-- what holds of each declaration holds of each in the list
each_of : {X : Type 0} (P : X → Type 0) (lo hi : ℕ) (xs : List X) → TurnFacts (λ l h x. P x) lo hi xs → (x : X) → Contains xs x → P x
each_of P lo hi [] f x h = absurd (none_in_nothing x h)
each_of P lo hi (y ∷ xs) (n, b, a, p, later) x h = either (λ e. subst P e p) (each_of P n hi xs later x) (first_or_behind y xs x h)

rules_within : (lo hi : ℕ) (rules : List PropRule) → TurnFacts (λ l h (r : PropRule). AreWithin l h (preorder r.body)) lo hi rules → AreWithin lo hi (flat_map (λ (r : PropRule). preorder r.body) rules)
rules_within lo hi [] f = none_within lo hi
rules_within lo hi (r ∷ rules) (n, b, a, w, later) = both_within lo n hi (preorder r.body) (flat_map (λ (r : PropRule). preorder r.body) rules) b a w (rules_within n hi rules later)

messages_within : (lo hi : ℕ) (ms : List Message) → TurnFacts (λ l h m. AreWithin l h (expressions_of_message m)) lo hi ms → AreWithin lo hi (flat_map expressions_of_message ms)
messages_within lo hi [] f = none_within lo hi
messages_within lo hi (m ∷ ms) (n, b, a, w, later) = both_within lo n hi (expressions_of_message m) (flat_map expressions_of_message ms) b a w (messages_within n hi ms later)

module _ (ids : Type 0) where
  -- what holds of each declaration of a section that may be left out
  each_in : (word : Kind) (i : Nonterminal) (P : ValueOf i → Type 0) → ((lo hi : ℕ) (x : ValueOf i) → Meets ids i lo hi x → P x)
      → (lo hi : ℕ) (o : Option (Token × List (ValueOf i))) → OneOrNoFact (Fact ids (section word i)) lo hi o → (x : ValueOf i) → Contains (section_of o) x → P x
  each_in word i P told lo hi None f x h = absurd (none_in_nothing x h)
  each_in word i P told lo hi (Some (w, xs)) (n, b, a, t, fs) x h = each_of P n hi xs (turned n hi xs fs) x h
    where
      turned : (l h : ℕ) (ys : List (ValueOf i)) → TurnFacts (Meets ids i) l h ys → TurnFacts (λ l h y. P y) l h ys
      turned l h [] g = g
      turned l h (y ∷ ys) (m, c, d, p, later) = (m, c, d, told l m y p, turned m h ys later)

  section_rules : (word : Kind) (lo hi : ℕ) (o : Option (Token × List PropRule)) → OneOrNoFact (Fact ids (section word ARule)) lo hi o → AreWithin lo hi (flat_map (λ (r : PropRule). preorder r.body) (section_of o))
  section_rules word lo hi None f = none_within lo hi
  section_rules word lo hi (Some (w, xs)) (n, b, a, t, fs) = widen n hi lo hi (flat_map (λ (r : PropRule). preorder r.body) xs) b (omega arith) (rules_within n hi xs fs)

  section_messages : (word : Kind) (lo hi : ℕ) (o : Option (Token × List Message)) → OneOrNoFact (Fact ids (section word AMessage)) lo hi o → AreWithin lo hi (flat_map expressions_of_message (section_of o))
  section_messages word lo hi None f = none_within lo hi
  section_messages word lo hi (Some (w, xs)) (n, b, a, t, fs) = widen n hi lo hi (flat_map expressions_of_message xs) b (omega arith) (messages_within n hi xs fs)

  whole_step : (lo hi : ℕ) (x : PartValue Token ValueOf whole_rule) → Fact ids whole_rule lo hi x → Meets ids Whole lo hi (make_whole x)
  whole_step lo hi (mw, (name, (signature, (enums, (lattices, (functions, (control, (properties, (rules, (messages, end))))))))))
      (m1, b1, a1, f1, (m2, b2, a2, f2, (m3, b3, a3, f3, (m4, b4, a4, f4, (m5, b5, a5, f5, (m6, b6, a6, f6, (m7, b7, a7, f7, (m8, b8, a8, f8, (m9, b9, a9, f9, (m10, b10, a10, f10, z)))))))))) =
      let all : AreWithin m8 m10 (flat_map (λ (r : PropRule). preorder r.body) (section_of rules) ++ flat_map expressions_of_message (section_of messages)) =
      both_within m8 m9 m10 _ _ b9 b10 (section_rules kinds.Rules m8 m9 rules f9) (section_messages kinds.Messages m9 m10 messages f10) in (
        record {
          applied_heads = λ r h. (each_in kinds.Control AControlRule (λ r. IsTrue (is_application (pattern_layer r.head))) (λ l u r m. m.0) m6 m7 (Some control) f7 r h);
          long_chains = λ r h. each_in kinds.Control AControlRule _ (λ l u r m. m.1) m6 m7 (Some control) f7 r h;
          small_functions = λ g h. each_in kinds.Functions AFunction _ (λ l u g m. m) m5 m6 functions f6 g h;
          even_maps = all.even;
          distinct = all.once;
        },
        λ known. record {
          properties = λ p h. each_in kinds.Properties AProperty _ (λ l u p m. m known) m7 m8 properties f8 p h;
          items = λ e item h. each_in kinds.Sorts AnEnum _ (λ l u e m. m known) m3 m4 enums f4 e h item;
          elements = λ t element h. each_in kinds.Lattices ATable _ (λ l u t m. m known) m4 m5 lattices f5 t h element;
        },
      )

  step : (i : Nonterminal) (lo hi : ℕ) (x : PartValue Token ValueOf (rule i)) → Fact ids (rule i) lo hi x → Meets ids i lo hi (make i x)
  step Whole lo hi x f = whole_step lo hi x f
  step ASignature lo hi x f = tt
  step AConstructor lo hi x f = tt
  step ATreeSort lo hi x f = tt
  step AnEnum lo hi x f = sections.enum_step ids lo hi x f
  step ATable lo hi x f = sections.table_step ids lo hi x f
  step AFunction lo hi x f = sections.function_step ids lo hi x f
  step AControlRule lo hi x f = sections.control_rule_step ids lo hi x f
  step AHead lo hi x f = sections.head_step ids lo hi x f
  step AChain lo hi x f = sections.chain_step ids lo hi x f
  step AnItem lo hi x f = tt
  step AProperty lo hi x f = sections.property_step ids lo hi x f
  step AType lo hi x f = tt
  step AnElemSort lo hi x f = tt
  step ARule lo hi x f = sections.rule_step ids lo hi x f
  step ATrigger lo hi x f = tt
  step AMessage lo hi x f = sections.message_step ids lo hi x f
  step APattern lo hi x f = tt
  step AFirmPattern lo hi x f = tt
  step AnUnnamedPattern lo hi x f = tt
  step PatternArguments lo hi x f = tt
  step AnExpr lo hi x f = texts.expr_step ids lo hi x f
  step (ALevel level) lo hi x f = texts.level_step ids level lo hi x f
  step (AnOperand level) lo hi x f = texts.operand_step ids level lo hi x f
  step ANegation lo hi x f = texts.negation_step ids lo hi x f
  step AComparison lo hi x f = texts.comparison_step ids lo hi x f
  step AnOpposite lo hi x f = texts.opposite_step ids lo hi x f
  step ALookup lo hi x f = texts.lookup_step ids lo hi x f
  step ASuffix lo hi x f = texts.suffix_step ids lo hi x f
  step APrimary lo hi x f = texts.primary_step ids lo hi x f
  step ANamedExpr lo hi x f = texts.named_expr_step ids lo hi x f
  step AParenthesis lo hi x f = texts.parenthesis_step ids lo hi x f
  step ABrace lo hi x f = texts.brace_step ids lo hi x f
  step AMap lo hi x f = texts.map_step ids lo hi x f

-- ** the places of tokens

-- behind the last of places that rise from one on
end_of : ℕ → List Token → ℕ
end_of at [] = at
end_of at (t ∷ ts) = end_of (suc t.place) ts

spanned : (Q : Token → Type 0) (at : ℕ) (ts : List Token) → ((t : Token) → Contains ts t → Q t) → RiseFrom at ts → Spans token_place Q at (end_of at ts) ts
unfolding end_of
spanned Q at [] q r = omega arith
spanned Q at (t ∷ ts) q r =
    let next : t.place + 1 ≡ suc t.place = omega arith in
    (r.0, q t (0, omega arith, refl), spanned Q (suc t.place) ts (λ s h. q s (Contains-append_right (t ∷ []) ts s h)) (subst (λ n. RiseFrom n ts) next r.1))

pub texts_well_formed : TextsAreWellFormed
texts_well_formed ts spec h rising =
    let ids : Type 0 = HasIdentifierTokens ts in
    let spans : Spans token_place (IsNamed (HasIdentifierTokens ts)) 0 (end_of 0 ts) ts = spanned (IsNamed (HasIdentifierTokens ts)) 0 ts (λ t c known text e. known t text c e) rising in
    symbol_fact spec_syntax token_place (IsNamed (HasIdentifierTokens ts)) (Meets (HasIdentifierTokens ts)) (step (HasIdentifierTokens ts)) 0 Whole h.marks spec 0 (end_of 0 ts) h.text
    (subst (Spans token_place (IsNamed (HasIdentifierTokens ts)) 0 (end_of 0 ts)) (sym h.tokens) spans)
