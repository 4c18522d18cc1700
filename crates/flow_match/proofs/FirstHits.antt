-- The first that gives something, one after another.
use Rattle.std.proofs.Common.{◌≡◌, ℕ, ◌+◌, ◌<◌, Bool, true, false, ◌&&◌, cond, List, Option, Some, None, length, get_or, drop, refl, sym, ap, ◌∙◌}
use Rattle.std.specs.Prelude.{is_some, option_map}
use Rattle.std.specs.Option.{option_or}
use Rattle.flow_term.specs.declared.term.Term.{Term}
use Rattle.flow_term.specs.declared.value.Bound.{Bound}
use Rattle.flow_syntax.specs.declared.property.PropRule.{PropRule}
use Rattle.flow_syntax.specs.Matching.{matches}
use Rattle.flow_match.specs.declared.matched.RuleHit.{RuleHit}
use Rattle.flow_match.specs.Bindings.{bindings_at}
use Rattle.flow_syntax.specs.ExprFaults.{trigger_pattern}
use Rattle.flow_match.specs.Matched.{first_some, hit_by, hit_of, is_rule_of}
use Rattle.flow_match.proofs.Bindings.{binds_where_it_matches}
use Rattle.flow_match.proofs.Onto.{from_here}

some_next : {X Y : Type 0} (f : ℕ → X → Option Y) (xs : List X) (n : ℕ) (x : X) → n < length xs → x ≡ get_or xs n x
    → first_some f n (drop n xs) ≡ option_or (f n x) (first_some f (n + 1) (drop (n + 1) xs))
some_next f xs n x h is =
    ap (first_some f n) (from_here xs n x h) ∙ ap (λ y. option_or (f n y) (first_some f (n + 1) (drop (n + 1) xs))) (sym is)

first_of_two : {Y : Type 0} (a b : Option Y) → is_some a ≡ true → option_or a b ≡ a
first_of_two (Some y) b h = refl
first_of_two None b h = cc

-- the one with the number n gives nothing
pub some_later : {X Y : Type 0} (f : ℕ → X → Option Y) (xs : List X) (n : ℕ) (x : X) → n < length xs → x ≡ get_or xs n x → f n x ≡ None
    → first_some f (n + 1) (drop (n + 1) xs) ≡ first_some f n (drop n xs)
some_later f xs n x h is nothing = sym (some_next f xs n x h is ∙ ap (λ o. option_or o (first_some f (n + 1) (drop (n + 1) xs))) nothing)

-- the one with the number n gives something
pub some_now : {X Y : Type 0} (f : ℕ → X → Option Y) (xs : List X) (n : ℕ) (x : X) → n < length xs → x ≡ get_or xs n x → is_some (f n x) ≡ true → first_some f n (drop n xs) ≡ f n x
some_now f xs n x h is there = some_next f xs n x h is ∙ first_of_two (f n x) (first_some f (n + 1) (drop (n + 1) xs)) there

none_of : (b m : Bool) (f : List Bound → RuleHit) (o : Option (List Bound)) → is_some o ≡ m → (b && m) ≡ false → cond b (option_map f o) None ≡ None
none_of true m f (Some bs) e h = cc
none_of true m f None e h = refl
none_of false m f o e h = refl

one_of : (b m : Bool) (f : List Bound → RuleHit) (o : Option (List Bound)) → is_some o ≡ m → (b && m) ≡ true → cond b (option_map f o) None ≡ option_map f o
one_of true m f o e h = refl
one_of false m f o e h = cc

some_of : (b m : Bool) (f : List Bound → RuleHit) (o : Option (List Bound)) → is_some o ≡ m → (b && m) ≡ true → is_some (cond b (option_map f o) None) ≡ true
some_of true m f (Some bs) e h = refl
some_of true m f None e h = cc
some_of false m f o e h = cc

module _ (property : ℕ) (name : List ℕ) (boundary : Bool) (t : Term) (path : List ℕ) (n : ℕ) (rule : PropRule) where
  -- a rule that isn't one of the property, or doesn't match
  pub no_hit : (is_rule_of name boundary rule && matches (trigger_pattern rule.trigger) t) ≡ false → hit_by property name boundary t path n rule ≡ None
  no_hit = none_of (is_rule_of name boundary rule) (matches (trigger_pattern rule.trigger) t) (hit_of property boundary n) (bindings_at (trigger_pattern rule.trigger) t path) (binds_where_it_matches (trigger_pattern rule.trigger) t path)

  -- a rule that is one of the property and matches
  pub one_hit : (is_rule_of name boundary rule && matches (trigger_pattern rule.trigger) t) ≡ true
      → hit_by property name boundary t path n rule ≡ option_map (hit_of property boundary n) (bindings_at (trigger_pattern rule.trigger) t path)
  one_hit = one_of (is_rule_of name boundary rule) (matches (trigger_pattern rule.trigger) t) (hit_of property boundary n) (bindings_at (trigger_pattern rule.trigger) t path) (binds_where_it_matches (trigger_pattern rule.trigger) t path)

  pub some_hit : (is_rule_of name boundary rule && matches (trigger_pattern rule.trigger) t) ≡ true → is_some (hit_by property name boundary t path n rule) ≡ true
  some_hit = some_of (is_rule_of name boundary rule) (matches (trigger_pattern rule.trigger) t) (hit_of property boundary n) (bindings_at (trigger_pattern rule.trigger) t path) (binds_where_it_matches (trigger_pattern rule.trigger) t path)
