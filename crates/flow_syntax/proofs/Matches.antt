-- Matching, by one layer of the pattern.
use Rattle.std.proofs.Common.{◌≡◌, suc, ◌≤◌, Bool, true, false, ◌&&◌, List, [], ◌∷◌, Some, length, map, find, cond, refl, sym, ap, subst, ◌∙◌, arith}
use Rattle.std.specs.Prelude.{Contains}
use Rattle.std.proofs.lemmas.List.{length-map}
use Rattle.std.proofs.lemmas.List.Elements.{Contains-get_or, Contains-append_right}
use Rattle.std.proofs.lemmas.Option.{same_Some}
use Rattle.flow_term.specs.Annotations.{term_layer}
use Rattle.flow_term.specs.Trees.{children}
use Rattle.flow_syntax.specs.Control.{arguments_in}
use Rattle.flow_term.specs.declared.term.Term.{Term}
use Rattle.flow_syntax.specs.declared.pattern.Pattern.{Pattern, Pattern-F, out-Pattern, fold_out-Pattern}
use Rattle.flow_syntax.specs.declared.pattern.PatternKind.{PatternKind, PatternKind-F, fold-PatternKind, fold_out-PatternKind, map-PatternKind}
use Rattle.flow_syntax.specs.Matching.{matches, Matcher, match_layer, PatternLayer, pattern_layer, fit, is_apply}

abbrev outer_step : Pattern-F Matcher Matcher → Matcher
outer_step p = p.kind

abbrev kind_matches : PatternKind → Matcher
kind_matches = fold-PatternKind Matcher Matcher match_layer outer_step

-- a layer with the tests that its parts make
abbrev pub tests_of : PatternLayer → PatternKind-F Matcher Matcher
tests_of = map-PatternKind PatternKind Pattern Matcher Matcher kind_matches matches

-- what a pattern matches, by its layer
pub matches_out : (p : Pattern) (t : Term) → matches p t ≡ match_layer (tests_of (pattern_layer p)) t
matches_out p t = ap (λ (m : Matcher). m t)
    (fold_out-Pattern Matcher Matcher match_layer outer_step p ∙ fold_out-PatternKind Matcher Matcher match_layer outer_step (out-Pattern p).kind)

both_true : (a b : Bool) → (a && b) ≡ true → b ≡ true
both_true true b h = h
both_true false b h = cc

fit_length : (ms : List Matcher) (ts : List Term) → fit ms ts ≡ true → length ms ≡ length ts
fit_length [] [] h = refl
fit_length [] (t ∷ ts) h = cc
fit_length (m ∷ ms) [] h = cc
fit_length (m ∷ ms) (t ∷ ts) h = ap suc (fit_length ms ts (both_true (m t) (fit ms ts) h))

few_in : (x : PatternLayer) (t : Term) → match_layer (tests_of x) t ≡ true → length (arguments_in x) ≤ length (children t)
few_in (PatternKind-F.Apply name parts) t h =
    let same : length (map matches parts) ≡ length (children t) = fit_length (map matches parts) (children t) (both_true (is_apply name (term_layer t)) (fit (map matches parts) (children t)) h) in
    omega (arith, same, length-map parts matches)
few_in _ t h = omega arith

-- a pattern that matches has at most as many arguments as the term has children
pub few_arguments : (p : Pattern) (t : Term) → matches p t ≡ true → length (arguments_in (pattern_layer p)) ≤ length (children t)
few_arguments p t h = few_in (pattern_layer p) t (sym (matches_out p t) ∙ h)

-- what `find` finds passes its test
pub found_passes : {X : Type 0} (test : X → Bool) (xs : List X) (x : X) → find test xs ≡ Some x → test x ≡ true
found_passes {X} test [] x h = cc
found_passes {X} test (y ∷ xs) x h = go (test y) refl h (found_passes test xs x)
  where
    go : (b : Bool) → test y ≡ b → cond b (Some y) (find test xs) ≡ Some x → (find test xs ≡ Some x → test x ≡ true) → test x ≡ true
    go true e k rest = subst (λ (z : X). test z ≡ true) (same_Some y x k) e
    go false e k rest = rest k

-- what `find` finds is in the list
pub found_among : {X : Type 0} (test : X → Bool) (xs : List X) (x : X) → find test xs ≡ Some x → Contains xs x
found_among test [] x h = cc
found_among {X} test (y ∷ xs) x h = go (test y) h (found_among test xs x)
  where
    go : (b : Bool) → cond b (Some y) (find test xs) ≡ Some x → (find test xs ≡ Some x → Contains xs x) → Contains (y ∷ xs) x
    go true k rest = subst (λ (z : X). Contains (y ∷ xs) z) (same_Some y x k) (Contains-get_or (y ∷ xs) 0 y (omega arith))
    go false k rest = Contains-append_right (y ∷ []) xs x (rest k)
