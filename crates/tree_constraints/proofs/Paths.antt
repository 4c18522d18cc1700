-- The listed paths of a tree are those of its positions.
use Rattle.std.proofs.Common.{◌≡◌, ℕ, zero, suc, ◌+◌, List, [], ◌∷◌, map, Option, Some, None, refl, sym, ap, subst, ◌∙◌, inl, inr, arith}
use Rattle.std.specs.Prelude.{Contains, IsSome, slice_get, option_map, option_and_then}
use Rattle.std.proofs.lemmas.Option.{slice_get-map}
use Rattle.std.proofs.lemmas.List.Elements.{Contains-append_left, Contains-append_right, Contains-append_cases}
use Rattle.flow_term.specs.declared.term.Term.{Term, Term-F, out-Term, fold_out-Term}
use Rattle.flow_term.specs.declared.term.Kind.{Kind, Kind-F, out-Kind, fold-Kind, fold_out-Kind, map-Kind}
use Rattle.flow_term.specs.Trees.{At, IsPosition, children, parts}
use Rattle.tree_constraints.specs.Elements.{below_each, paths_of}
use Rattle.tree_constraints.specs.Laws.{PathsArePositions}
use Rattle.tree_constraints.proofs.Lists.{none_in_nil, at_head, in_tail, cons_cases, map_has, map_from}

abbrev Paths : Type 0
Paths = List (List ℕ)

-- ONE LEVEL

abbrev kind_step : Kind-F Paths Paths → Paths
kind_step kind = below_each 0 (parts kind)

abbrev term_step : Term-F Paths Paths → Paths
term_step t = [] ∷ t.kind

abbrev kind_paths : Kind → Paths
kind_paths = fold-Kind Paths Paths kind_step term_step

parts_listed : (x : Kind-F Kind Term) → parts (map-Kind Kind Term Paths Paths kind_paths paths_of x) ≡ map paths_of (parts x)
parts_listed (Kind-F.Apply name args) = refl
parts_listed (Kind-F.Tuple items) = refl
parts_listed (Kind-F.Items items) = refl
parts_listed (Kind-F.Int n) = refl
parts_listed (Kind-F.Str text) = refl

paths_out : (t : Term) → paths_of t ≡ [] ∷ below_each 0 (map paths_of (children t))
paths_out t =
    fold_out-Term Paths Paths kind_step term_step t
    ∙ ap (λ (ps : Paths). [] ∷ ps) (fold_out-Kind Paths Paths kind_step term_step (out-Term t).kind ∙ ap (below_each 0) (parts_listed (out-Kind (out-Term t).kind)))

-- BELOW EACH CHILD

below_has : (start : ℕ) (xs : List Paths) (n : ℕ) (paths : Paths) (path : List ℕ) → slice_get xs n ≡ Some paths → Contains paths path → Contains (below_each start xs) ((start + n) ∷ path)
below_has start [] n paths path at h = cc
below_has start (x ∷ xs) zero paths path at h =
    let same : paths ≡ x = cc in
    let here : Contains x path = subst (λ (p : Paths). Contains p path) same h in
    Contains-append_left (map (λ path. start ∷ path) x) (below_each (start + 1) xs) ((start + 0) ∷ path)
    (subst (λ (m : ℕ). Contains (map (λ path. start ∷ path) x) (m ∷ path)) (omega arith) (map_has (λ (path : List ℕ). start ∷ path) x path here))
below_has start (x ∷ xs) (suc n) paths path at h =
    Contains-append_right (map (λ path. start ∷ path) x) (below_each (start + 1) xs) ((start + suc n) ∷ path)
    (subst (λ (m : ℕ). Contains (below_each (start + 1) xs) (m ∷ path)) (omega arith) (below_has (start + 1) xs n paths path at h))

below_from : (start : ℕ) (xs : List Paths) (whole : List ℕ) → Contains (below_each start xs) whole → (n : ℕ) × (paths : Paths) × (path : List ℕ) × (slice_get xs n ≡ Some paths) × Contains paths path × ((start + n) ∷ path ≡ whole)
below_from start [] whole h = absurd (none_in_nil whole h)
below_from start (x ∷ xs) whole h = elim (Contains-append_cases (map (λ path. start ∷ path) x) (below_each (start + 1) xs) whole h) [
  | inl here ↦ let found = map_from (λ (path : List ℕ). start ∷ path) x whole here in (0, x, found.0, refl, found.1, ap (λ (m : ℕ). m ∷ found.0) (omega arith) ∙ found.2)
  | inr later ↦ let found = below_from (start + 1) xs whole later in (suc found.0, found.1, found.2, found.3, found.4, ap (λ (m : ℕ). m ∷ found.2) (omega arith) ∙ found.5)
]

-- POSITIONS

pub has_path : (path : List ℕ) (t u : Term) → At t path ≡ Some u → Contains (paths_of t) path
has_path [] t u at = subst (λ (ps : Paths). Contains ps []) (sym (paths_out t)) (at_head [] (below_each 0 (map paths_of (children t))))
has_path (n ∷ path) t u at = by (slice_get (children t) n) refl at (λ c below. has_path path c u below)
  where
    by : (o : Option Term) → slice_get (children t) n ≡ o → option_and_then (λ child. At child path) o ≡ Some u → ((c : Term) → At c path ≡ Some u → Contains (paths_of c) path) → Contains (paths_of t) (n ∷ path)
    by None e below inner = cc
    by (Some c) e below inner =
        let listed : slice_get (map paths_of (children t)) n ≡ Some (paths_of c) = slice_get-map paths_of (children t) n ∙ ap (option_map paths_of) e in
        let deeper : Contains (below_each 0 (map paths_of (children t))) (n ∷ path) =
        subst (λ (m : ℕ). Contains (below_each 0 (map paths_of (children t))) (m ∷ path)) (omega arith) (below_has 0 (map paths_of (children t)) n (paths_of c) path listed (inner c below)) in
        subst (λ (ps : Paths). Contains ps (n ∷ path)) (sym (paths_out t)) (in_tail [] (below_each 0 (map paths_of (children t))) (n ∷ path) deeper)

path_leads : (path : List ℕ) (t : Term) → Contains (paths_of t) path → IsPosition t path
path_leads [] t h = refl
path_leads (n ∷ path) t h = elim (cons_cases [] (below_each 0 (map paths_of (children t))) (n ∷ path) (subst (λ (ps : Paths). Contains ps (n ∷ path)) (paths_out t) h)) [
  | inl e ↦ cc
  | inr below ↦ by (below_from 0 (map paths_of (children t)) (n ∷ path) below) (λ c inner. path_leads path c inner)
]
  where
    child : (o : Option Term) (paths : Paths) → slice_get (children t) n ≡ o → option_map paths_of o ≡ Some paths → Contains paths path → ((c : Term) → Contains (paths_of c) path → IsPosition c path)
        → IsSome (option_and_then (λ child. At child path) o)
    child None paths e same h inner = cc
    child (Some c) paths e same h inner = let is : paths ≡ paths_of c = cc in inner c (subst (λ (ps : Paths). Contains ps path) is h)

    by : ((m : ℕ) × (paths : Paths) × (rest : List ℕ) × (slice_get (map paths_of (children t)) m ≡ Some paths) × Contains paths rest × ((0 + m) ∷ rest ≡ n ∷ path)) → ((c : Term) → Contains (paths_of c) path → IsPosition c path) → IsPosition t (n ∷ path)
    by (m, paths, rest, at, among, same) inner =
        let number : 0 + m ≡ n = cc in
        let tails : rest ≡ path = cc in
        let place : slice_get (map paths_of (children t)) n ≡ Some paths = ap (slice_get (map paths_of (children t))) (sym number ∙ omega arith) ∙ at in
        child (slice_get (children t) n) paths refl (sym (slice_get-map paths_of (children t) n) ∙ place) (subst (λ (r : List ℕ). Contains paths r) tails among) inner

pub paths_positions : PathsArePositions
paths_positions tree path = (path_leads path tree, λ h. by (At tree path) refl h)
  where
    by : (o : Option Term) → At tree path ≡ o → IsSome o → Contains (paths_of tree) path
    by (Some u) e h = has_path path tree u e
    by None e h = cc
