-- The first variable of each name.
use Rattle.std.proofs.Common.{◌≡◌, ℕ, ◌+◌, ◌<◌, Bool, true, false, cond, List, [], ◌∷◌, ◌++◌, length, map, take, get_or, find, Option, Some, None, bytes_eq, refl, sym, ap, ◌∙◌}
use Rattle.std.specs.Option.{option_map}
use Rattle.std.proofs.lemmas.List.{map-append, take_more}
use Rattle.flow_syntax.specs.Binders.{Binder, Bound}
use Rattle.check_rules.specs.declared.bindings.Binding.{Binding}
use Rattle.check_rules.specs.inner.Tables.{first_position, is_position, known_bound, known_by}
use Rattle.check_base.specs.Tables.{or_where}

first_push : (x : List ℕ) (bs : List (Binder × Bool)) (b : Binder × Bool) → first_position x (bs ++ b ∷ []) ≡ or_where (first_position x bs) (bytes_eq x b.0.name) b.1
first_push x [] b = by (bytes_eq x b.0.name)
  where
    by : (t : Bool) → option_map (λ (c : Binder × Bool). c.1) (cond t (Some b) None) ≡ or_where None t b.1
    by true = refl
    by false = refl
first_push x (a ∷ bs) b = by (first_push x bs b) (bytes_eq x a.0.name)
  where
    by : first_position x (bs ++ b ∷ []) ≡ or_where (first_position x bs) (bytes_eq x b.0.name) b.1 → (t : Bool)
        → option_map (λ (c : Binder × Bool). c.1) (cond t (Some a) (find (λ (c : Binder × Bool). bytes_eq x c.0.name) (bs ++ b ∷ [])))
        ≡ or_where (option_map (λ (c : Binder × Bool). c.1) (cond t (Some a) (find (λ (c : Binder × Bool). bytes_eq x c.0.name) bs))) (bytes_eq x b.0.name) b.1
    by rest true = refl
    by rest false = rest

-- one variable more
pub first_more : (vs : List Binding) (i : ℕ) (v : Binding) (x : List ℕ) (old new : Option Bool) → i < length vs → v ≡ get_or vs i v → old ≡ first_position x (map known_by (take i vs)) → new ≡ or_where old (bytes_eq x v.name.now) v.is_position
    → new ≡ first_position x (map known_by (take (i + 1) vs))
first_more vs i v x old new within is was made =
    made ∙ ap (λ o. or_where o (bytes_eq x v.name.now) v.is_position) was ∙ sym (first_push x (map known_by (take i vs)) (known_by v)) ∙ ap (first_position x) (sym (map-append known_by (take i vs) (v ∷ [])))
    ∙ ap (λ ws. first_position x (map known_by ws)) (sym (take_more vs i v within ∙ ap (λ z. take i vs ++ z ∷ []) (sym is)))

-- the first of the variables of a pattern
pub first_known : (x : List ℕ) (bs : List Bound) → first_position x (map known_bound bs) ≡ option_map (λ (b : Bound). is_position b.sort) (find (λ (b : Bound). bytes_eq x b.name) bs)
first_known x [] = refl
first_known x (b ∷ bs) = by (first_known x bs) (bytes_eq x b.name)
  where
    by : first_position x (map known_bound bs) ≡ option_map (λ (b : Bound). is_position b.sort) (find (λ (b : Bound). bytes_eq x b.name) bs) → (t : Bool)
        → option_map (λ (c : Binder × Bool). c.1) (cond t (Some (known_bound b)) (find (λ (c : Binder × Bool). bytes_eq x c.0.name) (map known_bound bs)))
        ≡ option_map (λ (b : Bound). is_position b.sort) (cond t (Some b) (find (λ (b : Bound). bytes_eq x b.name) bs))
    by rest true = refl
    by rest false = rest
