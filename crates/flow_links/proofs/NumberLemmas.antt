-- Points and links by numbers.
use Rattle.std.proofs.Common.{◌≡◌, ℕ, zero, suc, ◌<◌, Bool, true, false, not, ◌==◌, List, [], ◌∷◌, ◌++◌, length, Some, refl, sym, ap, subst, ◌∙◌, inl, inr, true≢false, arith, length-append}
use Rattle.std.specs.Prelude.{◌≢◌, ◌⊎◌, Contains, slice_get, slice_set}
use Rattle.std.specs.List.{list_any, AllByRecursion, IsDistinct}
use Rattle.std.proofs.lemmas.Option.{slice_get_within, slice_get-get_or, same_Some}
use Rattle.std.proofs.lemmas.List.Elements.{Contains-push, Contains-push_cases, Contains-append_left}
use borrow.Author.Tests.{eqb-true, eqb-false}
use Rattle.indexmap.specs.IndexSet.{insert_key}
use Rattle.flow_term.specs.declared.graph.Point.{Point}
use Rattle.flow_term.specs.declared.graph.Link.{Link}
use Rattle.flow_term.proofs.Same.{point_same, point_itself}
use Rattle.flow_syntax.proofs.LinkEnds.{contains_at}
use Rattle.flow_links.specs.Below.{link}
use Rattle.flow_links.specs.inner.Numbers.{is_same_point, HasOwnNumbers, IsGraphOf, IsLinkAt, IsNumbered}
use Rattle.flow_links.specs.inner.Reach.{row, IsArrow}
use Rattle.flow_links.proofs.SetLemmas.{none_in_nil}

pub index_in : {X : Type 0} (xs : List X) (x : X) → Contains xs x → (i : ℕ) × (slice_get xs i ≡ Some x)
index_in xs x h = (h.0, slice_get-get_or xs h.0 x h.1 ∙ ap Some h.2)

-- what stands in a list stands there in a longer one
pub get_longer : {X : Type 0} (xs ys : List X) (i : ℕ) (x : X) → slice_get xs i ≡ Some x → slice_get (xs ++ ys) i ≡ Some x
get_longer [] ys i x h = cc
get_longer (y ∷ xs) ys zero x h = h
get_longer (y ∷ xs) ys (suc i) x h = get_longer xs ys i x h

none_at : (x : Point) (xs : List Point) (j : ℕ) (y : Point) → AllByRecursion (λ z. is_same_point x z ≡ false) xs → slice_get xs j ≡ Some y → is_same_point x y ≡ false
none_at x [] j y h at = cc
none_at x (z ∷ xs) zero y h at = subst (λ (w : Point). is_same_point x w ≡ false) (same_Some z y at) h.0
none_at x (z ∷ xs) (suc j) y h at = none_at x xs j y h.1 at

not_later : (x : Point) (xs : List Point) (j : ℕ) (p : Point) → AllByRecursion (λ z. is_same_point x z ≡ false) xs → Some x ≡ Some p → slice_get xs j ≡ Some p → ⊥
not_later x xs j p h here later =
    true≢false (sym (point_itself x) ∙ ap (λ (q : Point). is_same_point x q) (same_Some x p here) ∙ none_at x xs j p h later)

-- points that `==` tells apart have numbers of their own
pub own_numbers : (points : List Point) → IsDistinct is_same_point points → HasOwnNumbers points
unfolding IsDistinct
own_numbers [] d i j p h k = cc
own_numbers (x ∷ xs) d zero zero p h k = refl
own_numbers (x ∷ xs) d zero (suc j) p h k = absurd (not_later x xs j p d.0 h k)
own_numbers (x ∷ xs) d (suc i) zero p h k = absurd (not_later x xs i p d.0 k h)
own_numbers (x ∷ xs) d (suc i) (suc j) p h k = ap suc (own_numbers xs d.1 i j p h k)

at_number : (after : List Point) (p v : Point) (n : ℕ) → v ≡ p → ((k : Point) × (slice_get after n ≡ Some k) × (is_same_point v k ≡ true)) → slice_get after n ≡ Some p
at_number after p v n e stored = stored.1 ∙ ap Some (sym (point_same v stored.0 stored.2) ∙ e)

is_new : (b : Bool) → true ≡ not b → b ≡ false
is_new true h = cc
is_new false h = refl

is_old : (b : Bool) → false ≡ not b → b ≡ true
is_old true h = refl
is_old false h = cc

module _ (before : List Point) (rows_before : List (List ℕ)) (after : List Point) (p v : Point) (n : ℕ) (same : v ≡ p) (keys : after ≡ insert_key is_same_point before v)
    (distinct : IsDistinct is_same_point after) (stored : (k : Point) × (slice_get after n ≡ Some k) × (is_same_point v k ≡ true)) where
  pub numbered_new : (rows_after : List (List ℕ)) (empty : List ℕ) → true ≡ not (list_any (is_same_point v) before) → rows_after ≡ rows_before ++ empty ∷ [] → empty ≡ []
      → IsNumbered before rows_before after rows_after p n
  numbered_new rows_after empty new rows none = record {
    own = own_numbers after distinct;
    at = at_number after p v n same stored;
    either = inr (
      subst (λ (ps : List Point). ps ≡ before ++ p ∷ []) (sym keys) (rw (is_new (list_any (is_same_point v) before) new) (ap (λ (q : Point). before ++ q ∷ []) same)),
      rows ∙ ap (λ (r : List ℕ). rows_before ++ r ∷ []) none,
    );
  }

  pub numbered_old : false ≡ not (list_any (is_same_point v) before) → IsNumbered before rows_before after rows_before p n
  numbered_old old = record {
    own = own_numbers after distinct;
    at = at_number after p v n same stored;
    either = inl (subst (λ (ps : List Point). ps ≡ before) (sym keys) (rw (is_old (list_any (is_same_point v) before) old) refl), refl);
  }

-- an empty row at the end is as none
row_longer : (rows : List (List ℕ)) (j : ℕ) → row (rows ++ [] ∷ []) j ≡ row rows j
row_longer [] zero = refl
row_longer [] (suc j) = refl
row_longer (r ∷ rows) zero = refl
row_longer (r ∷ rows) (suc j) = row_longer rows j

row_set_same : (rows : List (List ℕ)) (j : ℕ) (r : List ℕ) → j < length rows → row (slice_set rows j r) j ≡ r
row_set_same [] j r h = absurd (omega arith)
row_set_same (x ∷ rows) zero r h = refl
row_set_same (x ∷ rows) (suc j) r h = row_set_same rows j r (omega arith)

row_set_other : (rows : List (List ℕ)) (j k : ℕ) (r : List ℕ) → k ≢ j → row (slice_set rows j r) k ≡ row rows k
row_set_other [] j k r h = refl
row_set_other (x ∷ rows) zero zero r h = absurd (h refl)
row_set_other (x ∷ rows) zero (suc k) r h = refl
row_set_other (x ∷ rows) (suc j) zero r h = refl
row_set_other (x ∷ rows) (suc j) (suc k) r h = row_set_other rows j k r (λ e. h (ap suc e))

length_set : (rows : List (List ℕ)) (j : ℕ) (r : List ℕ) → length (slice_set rows j r) ≡ length rows
length_set [] j r = refl
length_set (x ∷ rows) zero r = refl
length_set (x ∷ rows) (suc j) r = ap suc (length_set rows j r)

module _ (links : List Link) (points : List Point) (rows : List (List ℕ)) (graph : IsGraphOf links points rows) where
  -- a last point without arrows
  longer_graph : (p : Point) → HasOwnNumbers (points ++ p ∷ []) → IsGraphOf links (points ++ p ∷ []) (rows ++ [] ∷ [])
  longer_graph p own = record {
    own = own;
    sizes = (let e : length rows ≡ length points = graph.sizes in omega (arith, length-append rows ([] ∷ []), length-append points (p ∷ [])));
    has = λ x h. (Contains-append_left points (p ∷ []) x.from (graph.has x h).0, Contains-append_left points (p ∷ []) x.to (graph.has x h).1);
    arrows = λ j k. (
      λ h. grown j k ((graph.arrows j k).0 (subst (λ (r : List ℕ). Contains r k) (row_longer rows j) h)),
      λ h. subst (λ (r : List ℕ). Contains r k) (sym (row_longer rows j)) ((graph.arrows j k).1 (shrunk j k h)),
    );
  }
    where
      grown : (j k : ℕ) → IsLinkAt links points j k → IsLinkAt links (points ++ p ∷ []) j k
      grown j k h = record { a = h.a; b = h.b; at_source = get_longer points (p ∷ []) j h.a h.at_source; at_target = get_longer points (p ∷ []) k h.b h.at_target; among = h.among }

      place : (j : ℕ) (a : Point) → slice_get (points ++ p ∷ []) j ≡ Some a → Contains points a → slice_get points j ≡ Some a
      place j a at inside =
          let there : (i : ℕ) × (slice_get points i ≡ Some a) = index_in points a inside in
          subst (λ (i : ℕ). slice_get points i ≡ Some a) (own there.0 j a (get_longer points (p ∷ []) there.0 a there.1) at) there.1

      shrunk : (j k : ℕ) → IsLinkAt links (points ++ p ∷ []) j k → IsLinkAt links points j k
      shrunk j k h = record {
        a = h.a;
        b = h.b;
        at_source = place j h.a h.at_source (graph.has (link h.a h.b) h.among).0;
        at_target = place k h.b h.at_target (graph.has (link h.a h.b) h.among).1;
        among = h.among;
      }

  -- after a point was numbered, the graph is that of the same links
  pub added_point : (after : List Point) (rows_after : List (List ℕ)) (p : Point) (n : ℕ) → IsNumbered points rows after rows_after p n → IsGraphOf links after rows_after
  added_point after rows_after p n h = elim h.either [
    | inl e ↦ subst (λ (ps : List Point). IsGraphOf links ps rows_after) (sym e.0) (subst (λ (rs : List (List ℕ)). IsGraphOf links points rs) (sym e.1) graph)
    | inr e ↦ subst (λ (ps : List Point). IsGraphOf links ps rows_after) (sym e.0) (subst (λ (rs : List (List ℕ)). IsGraphOf links (points ++ p ∷ []) rs) (sym e.1)
        (longer_graph p (subst (λ (ps : List Point). HasOwnNumbers ps) e.0 h.own)))
  ]

  -- an arrow between the numbers of two points adds the link between them
  pub added_arrow : (j k : ℕ) (a b : Point) → slice_get points j ≡ Some a → slice_get points k ≡ Some b → IsGraphOf (links ++ link a b ∷ []) points (slice_set rows j (row rows j ++ k ∷ []))
  added_arrow j k a b at_j at_k = record {
    own = graph.own;
    sizes = length_set rows j (row rows j ++ k ∷ []) ∙ graph.sizes;
    has = λ x h. has x (Contains-push_cases links (link a b) x h);
    arrows = λ i m. (λ h. forth i m (i == j) refl h, λ h. back i m h (Contains-push_cases links (link a b) (link h.a h.b) h.among) (i == j) refl);
  }
    where
      within : j < length rows
      within = let f : j < length points = slice_get_within points j a at_j in let e : length rows ≡ length points = graph.sizes in omega arith

      has : (x : Link) → Contains links x ⊎ (link a b ≡ x) → Contains points x.from × Contains points x.to
      has x (inl h) = graph.has x h
      has x (inr e) = (subst (λ (y : Link). Contains points y.from) e (contains_at points j a at_j), subst (λ (y : Link). Contains points y.to) e (contains_at points k b at_k))

      more : (i m : ℕ) → IsLinkAt links points i m → IsLinkAt (links ++ link a b ∷ []) points i m
      more i m h = record { a = h.a; b = h.b; at_source = h.at_source; at_target = h.at_target; among = Contains-append_left links (link a b ∷ []) (link h.a h.b) h.among }

      here : (m : ℕ) → Contains (row rows j) m ⊎ (k ≡ m) → IsLinkAt (links ++ link a b ∷ []) points j m
      here m (inl h) = more j m ((graph.arrows j m).0 h)
      here m (inr e) = record { a = a; b = b; at_source = at_j; at_target = ap (slice_get points) (sym e) ∙ at_k; among = Contains-push links (link a b) }

      forth : (i m : ℕ) (c : Bool) → (i == j) ≡ c → IsArrow (slice_set rows j (row rows j ++ k ∷ [])) i m → IsLinkAt (links ++ link a b ∷ []) points i m
      forth i m true e h =
          let same : i ≡ j = eqb-true i j e in
          subst (λ (n : ℕ). IsLinkAt (links ++ link a b ∷ []) points n m) (sym same)
          (here m (Contains-push_cases (row rows j) k m (subst (λ (r : List ℕ). Contains r m) (row_set_same rows j (row rows j ++ k ∷ []) within)
          (subst (λ (n : ℕ). IsArrow (slice_set rows j (row rows j ++ k ∷ [])) n m) same h))))
      forth i m false e h =
          more i m ((graph.arrows i m).0 (subst (λ (r : List ℕ). Contains r m) (row_set_other rows j i (row rows j ++ k ∷ []) (eqb-false i j e)) h))

      kept : (i m : ℕ) (c : Bool) → (i == j) ≡ c → IsArrow rows i m → IsArrow (slice_set rows j (row rows j ++ k ∷ [])) i m
      kept i m true e h =
          let same : i ≡ j = eqb-true i j e in
          subst (λ (n : ℕ). IsArrow (slice_set rows j (row rows j ++ k ∷ [])) n m) (sym same)
          (subst (λ (r : List ℕ). Contains r m) (sym (row_set_same rows j (row rows j ++ k ∷ []) within))
          (Contains-append_left (row rows j) (k ∷ []) m (subst (λ (n : ℕ). IsArrow rows n m) same h)))
      kept i m false e h = subst (λ (r : List ℕ). Contains r m) (sym (row_set_other rows j i (row rows j ++ k ∷ []) (eqb-false i j e))) h

      back : (i m : ℕ) → (h : IsLinkAt (links ++ link a b ∷ []) points i m) → Contains links (link h.a h.b) ⊎ (link a b ≡ link h.a h.b) → (c : Bool) → (i == j) ≡ c
          → IsArrow (slice_set rows j (row rows j ++ k ∷ [])) i m
      back i m h (inl before) c e = kept i m c e ((graph.arrows i m).1 (record { a = h.a; b = h.b; at_source = h.at_source; at_target = h.at_target; among = before }))
      back i m h (inr same) c e =
          let from : a ≡ h.a = ap (λ (x : Link). x.from) same in
          let to : b ≡ h.b = ap (λ (x : Link). x.to) same in
          let at_i : j ≡ i = graph.own j i a at_j (h.at_source ∙ ap Some (sym from)) in
          let at_m : k ≡ m = graph.own k m b at_k (h.at_target ∙ ap Some (sym to)) in
          subst (λ (n : ℕ). IsArrow (slice_set rows j (row rows j ++ k ∷ [])) n m) at_i
          (subst (λ (n : ℕ). IsArrow (slice_set rows j (row rows j ++ k ∷ [])) j n) at_m
          (subst (λ (r : List ℕ). Contains r k) (sym (row_set_same rows j (row rows j ++ k ∷ []) within)) (Contains-push (row rows j) k)))

-- a number stays that of its point
pub kept_number : (before : List Point) (rows_before : List (List ℕ)) (after : List Point) (rows_after : List (List ℕ)) (p : Point) (n : ℕ) → IsNumbered before rows_before after rows_after p n
    → (m : ℕ) (q : Point) → slice_get before m ≡ Some q → slice_get after m ≡ Some q
kept_number before rows_before after rows_after p n h m q at = elim h.either [
  | inl e ↦ subst (λ (ps : List Point). slice_get ps m ≡ Some q) (sym e.0) at
  | inr e ↦ subst (λ (ps : List Point). slice_get ps m ≡ Some q) (sym e.0) (get_longer before (p ∷ []) m q at)
]

pub no_links : IsGraphOf [] [] []
no_links = record {
  own = λ i j p h k. cc;
  sizes = refl;
  has = λ x h. absurd (none_in_nil x h);
  arrows = λ j k. (λ h. absurd (none_in_nil k (subst (λ (r : List ℕ). Contains r k) (no_row j) h)), λ h. absurd (none_in_nil (link h.a h.b) h.among));
}
  where
    no_row : (j : ℕ) → row [] j ≡ []
    no_row j = refl
