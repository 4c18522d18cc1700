-- How primaries are read, branch by branch.
use Rattle.std.proofs.Common.{◌≡◌, ℕ, ◌+◌, ◌<◌, ◌≤◌, Bool, true, false, List, [], ◌∷◌, ◌++◌, length, Ok, refl, sym, ap, ◌∙◌, add-one, append_assoc, append-nil, arith}
use Rattle.std.specs.Prelude.{fold}
use Rattle.flow_syntax.specs.declared.expr.Expr.{Expr, out-Expr}
use Rattle.flow_syntax.specs.declared.expr.ExprKind.TheVariants as exprs
use Rattle.flow_syntax.specs.declared.token.Token.{Token}
use Rattle.grammar_theory.proofs.Composition.{ok_is}
use Rattle.grammar_theory.specs.Reading.{Outcome, ◌>>=◌}
use Rattle.grammar_theory.specs.Texts.{Many, Optional, Then}
use Rattle.spec_grammar.proofs.Turns.{after_turn, more_after, starts, starts_with_two}
use Rattle.spec_grammar.proofs.Unrolled.{reads_at, reads_take, one_at, one_of_at, one_take, bind_bind, bind_ok, bind_on, many_end, reads_fold, fold_turn}
use Rattle.spec_grammar.specs.Expressions.{expr_after, expr_at, first_and_second, one_or_two}
use Rattle.spec_grammar.specs.Kinds.{code_of, kind_of}
use Rattle.spec_grammar.specs.Parts.{any_of, between, behind, behind_in, second, several, text_of, the}
use Rattle.spec_grammar.specs.Primaries.{applied, applied_to, applied_words, arguments_of, brace_parts, brace_rule, call_parts, called, comprehension, keys_of, literals, literal_of, make_applied, make_brace, make_map, make_named_expr, make_parenthesis, map_entry, map_rule, named_expr_rule, parenthesis_rule, parenthesised, set_of_parts, sides_of_node, values_of}
use Rattle.spec_grammar.specs.Reading.{reads, reads_as, reads_part}
use Rattle.spec_grammar.specs.Rules.{condition}
use Rattle.spec_grammar.specs.Symbols.{AnExpr, ALevel, APrimary, ANamedExpr, AParenthesis, ABrace, AMap}
use Rattle.spec_grammar.specs.Choice.{beginnings}
use Rattle.spec_grammar.specs.declared.kind.Kind.TheVariants as kinds
use Rattle.spec_grammar.specs.declared.level.BinaryLevel.TheVariants.{Disjunction}
use Rattle.parse_exprs.specs.inner.Entries.{chosen, further_entry, keys_and_values, with_entry, with_further_entry}

-- ** a primary

pub primary_literal : (l : ℕ) (ts : List Token) → l ≤ 256 → starts literals ts ≡ true → reads l APrimary ts ≡ reads_as l (any_of literals) (λ token. expr_at token.place (literal_of token)) ts
primary_literal l ts h b = reads_at l APrimary ts h ∙ rw b (simp bind_bind)

pub primary_applied : (l : ℕ) (ts : List Token) → l ≤ 256 → starts literals ts ≡ false → starts applied_words ts ≡ true → reads l APrimary ts ≡ reads_as l applied make_applied ts
primary_applied l ts h b d = reads_at l APrimary ts h ∙ rw (b, d) (simp bind_bind)

pub primary_named : (l : ℕ) (ts : List Token) → l ≤ 256 → starts literals ts ≡ false → starts applied_words ts ≡ false → starts (kinds.Identifier ∷ []) ts ≡ true
    → reads l APrimary ts ≡ reads_as l named_expr_rule make_named_expr ts
primary_named l ts h b d e = reads_at l APrimary ts h ∙ rw (b, d, e, reads_at l ANamedExpr ts h) (simp bind_bind)

pub primary_parenthesis : (l : ℕ) (ts : List Token) → l ≤ 256 → starts literals ts ≡ false → starts applied_words ts ≡ false → starts (kinds.Identifier ∷ []) ts ≡ false → starts (kinds.OpenRound ∷ []) ts ≡ true
    → reads l APrimary ts ≡ reads_as l parenthesis_rule make_parenthesis ts
primary_parenthesis l ts h b d e f = reads_at l APrimary ts h ∙ rw (b, d, e, f, reads_at l AParenthesis ts h) (simp bind_bind)

pub primary_brace : (l : ℕ) (ts : List Token) → l ≤ 256 → starts literals ts ≡ false → starts applied_words ts ≡ false → starts (kinds.Identifier ∷ []) ts ≡ false → starts (kinds.OpenRound ∷ []) ts ≡ false
    → starts (kinds.OpenBrace ∷ []) ts ≡ true → reads l APrimary ts ≡ reads_as l brace_rule make_brace ts
primary_brace l ts h b d e f g = reads_at l APrimary ts h ∙ rw (b, d, e, f, g, reads_at l ABrace ts h) (simp bind_bind)

pub primary_map : (l : ℕ) (ts : List Token) → l ≤ 256 → starts literals ts ≡ false → starts applied_words ts ≡ false → starts (kinds.Identifier ∷ []) ts ≡ false → starts (kinds.OpenRound ∷ []) ts ≡ false
    → starts (kinds.OpenBrace ∷ []) ts ≡ false → reads l APrimary ts ≡ reads_as l map_rule make_map ts
primary_map l ts h b d e f g = reads_at l APrimary ts h ∙ rw (b, d, e, f, g, reads_at l AMap ts h) (simp bind_bind)

-- ** `flat`, `fst` and `snd`

pub applied_at : (l : ℕ) (ts : List Token)
    → reads_as l applied make_applied ts ≡ (one_of_at l applied_words ts >>= λ w. one_at (l + 1) kinds.OpenRound w.1 >>= λ t. reads (l + 1) AnExpr t.1 >>= λ e. one_at (l + 1) kinds.CloseRound e.1 >>= λ u. Ok (expr_at w.0.place (applied_to (kind_of w.0) e.0), u.1))
applied_at l ts = rw add-one (simp bind_bind)

-- ** names, reads and calls

pub named_called : (l : ℕ) (ts : List Token) (t : Token) (us : List Token) → one_at l kinds.Identifier ts ≡ Ok (t, us) → starts (kinds.OpenRound ∷ []) us ≡ true
    → reads_as l named_expr_rule make_named_expr ts ≡ (reads_as (l + 1) (between kinds.OpenRound call_parts kinds.CloseRound) (λ x. called (text_of t) x.1.0) us >>= λ x. Ok (expr_at t.place x.0, x.1))
named_called l ts t us o b = rw (add-one, o, b) (simp bind_bind)

-- the arguments of a call, up to the end of their bracket
abbrev pub reads_arguments : ℕ → List Token → Outcome Token (List Expr)
reads_arguments l ts = reads_as l (Then (one_or_two kinds.Comma) (the kinds.CloseRound)) (λ x. arguments_of (first_and_second x.0)) ts

pub called_arguments : (l : ℕ) (text : List ℕ) (ts : List Token) (t : Token) (us : List Token) → one_at l kinds.OpenRound ts ≡ Ok (t, us) → starts sides_of_node us ≡ false
    → reads_as l (between kinds.OpenRound call_parts kinds.CloseRound) (λ x. called text x.1.0) ts ≡ (reads_arguments l us >>= λ x. Ok (exprs.Call text x.0, x.1))
called_arguments l text ts t us o b = rw (o, b) (simp bind_bind)

pub one_argument : (l : ℕ) (ts : List Token) (e : Expr) (us : List Token) → reads l AnExpr ts ≡ Ok (e, us) → starts (kinds.Comma ∷ []) us ≡ false
    → reads_arguments l ts ≡ (one_at l kinds.CloseRound us >>= λ u. Ok (e ∷ [], u.1))
one_argument l ts e us o b = rw (o, b) (simp bind_bind)

pub two_arguments : (l : ℕ) (ts : List Token) (e : Expr) (us : List Token) → reads l AnExpr ts ≡ Ok (e, us) → starts (kinds.Comma ∷ []) us ≡ true
    → reads_arguments l ts ≡ (reads_part l (expr_after kinds.Comma) us >>= λ x. one_at l kinds.CloseRound x.1 >>= λ u. Ok (e ∷ x.0.1 ∷ [], u.1))
two_arguments l ts e us o b = rw (o, b) (simp bind_bind)

pub parenthesis_at : (l : ℕ) (ts : List Token)
    → reads_as l parenthesis_rule make_parenthesis ts ≡ (one_at (l + 1) kinds.OpenRound ts >>= λ t. reads (l + 1) AnExpr t.1 >>= λ e. reads_as (l + 1) (Optional (expr_after kinds.Comma)) behind_in e.1 >>= λ o. one_at (l + 1) kinds.CloseRound o.1 >>= λ u. Ok (expr_at t.0.place (parenthesised (e.0, o.0)), u.1))
parenthesis_at l ts = rw add-one (simp bind_bind)

pub parenthesis_alone : (l : ℕ) (ts : List Token) (t : Token) (us : List Token) (e : Expr) (vs : List Token) → one_at (l + 1) kinds.OpenRound ts ≡ Ok (t, us) → reads (l + 1) AnExpr us ≡ Ok (e, vs) → starts (kinds.Comma ∷ []) vs ≡ false
    → reads_as l parenthesis_rule make_parenthesis ts ≡ reads_as (l + 1) (the kinds.CloseRound) (λ u. expr_at t.place (out-Expr e).kind) vs
parenthesis_alone l ts t us e vs o r b = parenthesis_at l ts ∙ rw (o, r, b) (simp bind_bind)

pub parenthesis_pair : (l : ℕ) (ts : List Token) (t : Token) (us : List Token) (e : Expr) (vs : List Token) → one_at (l + 1) kinds.OpenRound ts ≡ Ok (t, us) → reads (l + 1) AnExpr us ≡ Ok (e, vs) → starts (kinds.Comma ∷ []) vs ≡ true
    → reads_as l parenthesis_rule make_parenthesis ts ≡ reads_as (l + 1) (Then (expr_after kinds.Comma) (the kinds.CloseRound)) (λ x. expr_at t.place (exprs.Both e x.0.1)) vs
parenthesis_pair l ts t us e vs o r b = parenthesis_at l ts ∙ rw (o, r, b) (simp bind_bind)

pub pair_at : (l place : ℕ) (e : Expr) (ts : List Token)
    → reads_as l (Then (expr_after kinds.Comma) (the kinds.CloseRound)) (λ x. expr_at place (exprs.Both e x.0.1)) ts ≡ (reads_part l (expr_after kinds.Comma) ts >>= λ x. one_at l kinds.CloseRound x.1 >>= λ u. Ok (expr_at place (exprs.Both e x.0.1), u.1))
pair_at l place e ts = simp bind_bind

-- ** sets

pub brace_some : (l : ℕ) (ts : List Token) (t : Token) (us : List Token) → one_at (l + 1) kinds.OpenBrace ts ≡ Ok (t, us) → starts (beginnings AnExpr) us ≡ true
    → reads_as l brace_rule make_brace ts ≡ (reads_as (l + 1) brace_parts set_of_parts us >>= λ x. one_at (l + 1) kinds.CloseBrace x.1 >>= λ u. Ok (expr_at t.place x.0, u.1))
brace_some l ts t us o b = let p = rw add-one at o in rw (add-one, p, b) (simp bind_bind)

pub elements_chosen : (l : ℕ) (ts : List Token) (e : Expr) (us : List Token) → reads l AnExpr ts ≡ Ok (e, us) → starts (kinds.For ∷ []) us ≡ true
    → reads_as l brace_parts set_of_parts ts ≡ reads_as l comprehension (chosen e) us
elements_chosen l ts e us o b =
    let two : starts (kinds.For ∷ kinds.Comma ∷ []) us ≡ true = starts_with_two kinds.For kinds.Comma us ∙ rw b refl in
    rw (o, two, b) (simp bind_bind)

pub elements_listed : (l : ℕ) (ts : List Token) (e : Expr) (us : List Token) → reads l AnExpr ts ≡ Ok (e, us) → starts (kinds.For ∷ []) us ≡ false
    → reads_as l brace_parts set_of_parts ts ≡ (more_after l kinds.Comma AnExpr (e ∷ []) us >>= λ x. Ok (exprs.SetOf x.0, x.1))
elements_listed l ts e us o b = by_comma (starts (kinds.Comma ∷ []) us) refl
  where
    by_comma : (d : Bool) → starts (kinds.Comma ∷ []) us ≡ d → reads_as l brace_parts set_of_parts ts ≡ (more_after l kinds.Comma AnExpr (e ∷ []) us >>= λ x. Ok (exprs.SetOf x.0, x.1))
    by_comma true d =
        let two : starts (kinds.For ∷ kinds.Comma ∷ []) us ≡ true = starts_with_two kinds.For kinds.Comma us ∙ rw (b, d) refl in
        rw (o, two, b, after_turn l kinds.Comma AnExpr (e ∷ []) us (omega arith) d) (simp bind_bind)
    by_comma false d =
        let two : starts (kinds.For ∷ kinds.Comma ∷ []) us ≡ false = starts_with_two kinds.For kinds.Comma us ∙ rw (b, d) refl in
        rw (o, two, many_end (expr_after kinds.Comma) second l (e ∷ []) us d) refl

pub comprehension_at : (l : ℕ) (e : Expr) (ts : List Token)
    → reads_as l comprehension (chosen e) ts ≡ (one_at l kinds.For ts >>= λ f. one_at l kinds.Identifier f.1 >>= λ n. one_at l kinds.In n.1 >>= λ i. reads l (ALevel Disjunction) i.1 >>= λ s. reads_as (l + 1) (Optional (expr_after kinds.If)) behind_in s.1 >>= λ c. Ok (exprs.Choose e (text_of n.0) s.0 c.0, c.1))
comprehension_at l e ts = rw add-one (simp bind_bind)

pub condition_at : (l : ℕ) (ts : List Token) → reads_as l condition behind_in ts ≡ reads_as (l + 1) (Optional (expr_after kinds.If)) behind_in ts
condition_at l ts = rw add-one refl

-- ** maps

pub map_some : (l : ℕ) (ts : List Token) (t : Token) (us : List Token) → one_at (l + 1) kinds.OpenSquare ts ≡ Ok (t, us) → starts (beginnings AnExpr) us ≡ true
    → reads_as l map_rule make_map ts ≡ (reads_as (l + 1) (several kinds.Comma map_entry) keys_and_values us >>= λ x. one_at (l + 1) kinds.CloseSquare x.1 >>= λ u. Ok (expr_at t.place (exprs.MapOf x.0.0 x.0.1), u.1))
map_some l ts t us o b = let p = rw add-one at o in rw (add-one, p, b) (simp bind_bind)

-- the keys and the values so far, and those of the entries that follow
abbrev pub reads_entries : ℕ → List Expr × List Expr → List Token → Outcome Token (List Expr × List Expr)
reads_entries l a ts = reads_fold l further_entry with_further_entry a ts

pub entries_turn : (l : ℕ) (a : List Expr × List Expr) (ts : List Token) → starts (kinds.Comma ∷ []) ts ≡ true
    → reads_entries l a ts ≡ (one_at l kinds.Comma ts >>= λ t. reads_as l map_entry (with_entry a) t.1 >>= λ x. reads_entries l x.0 x.1)
entries_turn l a ts h = fold_turn further_entry refl refl refl with_further_entry l a ts h ∙ simp bind_bind

fold_entries : (xs : List (Token × (Expr × (Token × Expr)))) (ks vs : List Expr) → fold with_further_entry (ks, vs) xs ≡ (ks ++ keys_of (behind xs), vs ++ values_of (behind xs))
fold_entries [] ks vs = rw (append-nil ks, append-nil vs) refl
fold_entries (x ∷ xs) ks vs = fold_entries xs (ks ++ x.1.0 ∷ []) (vs ++ x.1.1.1 ∷ []) ∙ rw (append_assoc ks (x.1.0 ∷ []) (keys_of (behind xs)), append_assoc vs (x.1.1.1 ∷ []) (values_of (behind xs))) refl

pub entries_at : (l : ℕ) (ts : List Token)
    → reads_as l (several kinds.Comma map_entry) keys_and_values ts ≡ (reads_as l map_entry (with_entry ([], [])) ts >>= λ x. reads_entries l x.0 x.1)
entries_at l ts = bind_bind (reads_part l map_entry ts) _ _
    ∙ bind_on (reads_part l map_entry ts) _ _ (λ x. bind_bind (reads_part l (Many further_entry) x.1) _ _
    ∙ bind_on (reads_part l (Many further_entry) x.1) _ _ (λ y. ap (λ (z : List Expr × List Expr). Ok (z, y.1)) (sym (fold_entries y.0 (x.0.0 ∷ []) (x.0.1.1 ∷ [])))))
    ∙ sym (bind_bind (reads_part l map_entry ts) _ _)

-- an entry takes tokens
pub entry_take : (l : ℕ) (c : List Expr × List Expr) (ts : List Token) (es : List Expr × List Expr) (rest : List Token) → reads_as l map_entry (with_entry c) ts ≡ Ok (es, rest) → length rest < length ts
entry_take l c ts es rest e =
    let a = bind_ok (reads_part l map_entry ts) _ _ e in
    let b = bind_ok (reads l AnExpr ts) _ _ a.1 in
    let d = bind_ok (reads_part l (expr_after kinds.MapsTo) b.0.1) _ _ b.2 in
    let f = bind_ok (one_at l kinds.MapsTo b.0.1) _ _ d.1 in
    let g = bind_ok (reads l AnExpr f.0.1) _ _ f.2 in
    let x = reads_take l AnExpr ts b.0.0 b.0.1 b.1 in
    let y = one_take l (code_of kinds.MapsTo ∷ []) b.0.1 f.0.0 f.0.1 f.1 in
    let z = reads_take l AnExpr f.0.1 g.0.0 g.0.1 g.1 in
    let p : a.0.1 ≡ rest = ap (λ q. q.1) (ok_is a.2) in
    let q : d.0.1 ≡ a.0.1 = ap (λ q. q.1) (ok_is d.2) in
    let r : g.0.1 ≡ d.0.1 = ap (λ q. q.1) (ok_is g.2) in
    omega (arith, ap length p, ap length q, ap length r)
