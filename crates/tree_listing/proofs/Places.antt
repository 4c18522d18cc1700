-- The number of an unknown is that of its node times the number of properties, and the place of its property.
use Rattle.std.proofs.Common.{◌≡◌, ℕ, zero, suc, ◌+◌, ◌*◌, ◌<◌, List, [], ◌∷◌, ◌++◌, Some, length, get_or, sym, ap, ◌∙◌, arith, length-append}
use Rattle.std.specs.Prelude.{slice_get, option_map}
use Rattle.std.specs.List.{position_or_len}
use Rattle.std.specs.List.Sorted.{IsStrictlySortedBy}
use Rattle.std.proofs.lemmas.Bool.{false_from_ne_true}
use Rattle.std.proofs.lemmas.List.{length-map}
use Rattle.std.proofs.lemmas.List.Sums.{position_or_len_is}
use Rattle.std.proofs.lemmas.Map.Keys.{Less-from_sorted}
use Rattle.std.proofs.lemmas.Option.{slice_get_within, slice_get-map, get_or_from_slice_get}
use Rattle.flow_term.specs.declared.graph.Node.{Node}
use Rattle.flow_term.specs.declared.graph.Unknown.{Unknown}
use Rattle.tree_constraints.specs.Constraints.{unknown_at}
use Rattle.tree_constraints.specs.Orders.{by_parts, unknown_cmp}
use Rattle.tree_constraints.proofs.Exact.{parts_tell, unknown_ties}
use Rattle.tree_constraints.proofs.Lists.{not_itself}
use Rattle.tree_listing.specs.declared.property.Property.{Property}
use Rattle.tree_listing.specs.Laws.{UnknownsAreByPlace, UnknownsAreCounted, NumbersAreByPlace}
use Rattle.tree_listing.specs.Listing.{listed_unknowns, unknowns_at}
use Rattle.tree_listing.proofs.Listed.{unknowns_sorted}

suc_times : (a b : ℕ) → suc a * b ≡ b + a * b
suc_times a b = grind arith

pub counted : UnknownsAreCounted
counted properties [] = grind arith
counted properties (n ∷ nodes) =
    length-append (unknowns_at properties n) (listed_unknowns properties nodes) ∙ (λ i. length-map properties (λ (p : Property). unknown_at n p.name) i + counted properties nodes i)
    ∙ sym (suc_times (length nodes) (length properties))

-- an item of the first of two lists, and of the second
in_front : {X : Type 0} (xs ys : List X) (k : ℕ) (x : X) → slice_get xs k ≡ Some x → slice_get (xs ++ ys) k ≡ Some x
in_front [] ys k x e = cc
in_front (z ∷ xs) ys zero x e = e
in_front (z ∷ xs) ys (suc k) x e = in_front xs ys k x e

behind : {X : Type 0} (xs ys : List X) (k : ℕ) → slice_get (xs ++ ys) (length xs + k) ≡ slice_get ys k
behind [] ys k = ap (slice_get ys) (omega arith)
behind (x ∷ xs) ys k =
    let next : suc (length xs) + k ≡ suc (length xs + k) = omega arith in
    ap (slice_get (x ∷ xs ++ ys)) next ∙ behind xs ys k

pub by_place : UnknownsAreByPlace
by_place properties [] i j n p at_i at_j = cc
by_place properties (m ∷ nodes) zero j n p at_i at_j =
    let same : m ≡ n = cc in
    let place : 0 * length properties + j ≡ j = omega arith in
    ap (slice_get (listed_unknowns properties (m ∷ nodes))) place
    ∙ in_front (unknowns_at properties m) (listed_unknowns properties nodes) j (unknown_at n p.name)
    (slice_get-map (λ (q : Property). unknown_at m q.name) properties j ∙ ap (option_map (λ (q : Property). unknown_at m q.name)) at_j ∙ ap (λ (k : Node). Some (unknown_at k p.name)) same)
by_place properties (m ∷ nodes) (suc i) j n p at_i at_j =
    let rest : List Unknown = listed_unknowns properties nodes in
    let place : suc i * length properties + j ≡ length (unknowns_at properties m) + (i * length properties + j) =
    ap (λ k. k + j) (suc_times i (length properties)) ∙ ap (λ k. k + i * length properties + j) (sym (length-map properties (λ (q : Property). unknown_at m q.name))) ∙ omega arith in
    ap (slice_get (unknowns_at properties m ++ rest)) place ∙ behind (unknowns_at properties m) rest (i * length properties + j) ∙ by_place properties nodes i j n p at_i at_j

-- in a list in order each unknown is found at its own place
pub own_place : (us : List Unknown) (u : Unknown) (k : ℕ) → IsStrictlySortedBy unknown_cmp us → slice_get us k ≡ Some u → position_or_len (by_parts.unknown u) us ≡ k
own_place us u k sorted at_k =
    let within : k < length us = slice_get_within us k u at_k in
    let is : get_or us k u ≡ u = get_or_from_slice_get us k u u at_k in
    position_or_len_is (by_parts.unknown u) us k u (let w = within in omega (arith, w))
    (λ i lt. false_from_ne_true (by_parts.unknown u (get_or us i u)) (λ same.
    not_itself (unknown_cmp (get_or us i u) (get_or us k u)) (ap (λ x. unknown_cmp (get_or us i u) x) (is ∙ parts_tell.unknowns.exact u (get_or us i u) same) ∙ unknown_ties (get_or us i u))
    (Less-from_sorted unknown_cmp us i k u sorted lt within)))
    (λ _. ap (by_parts.unknown u) is ∙ parts_tell.unknowns.itself u)

pub numbers : NumbersAreByPlace
numbers properties nodes by_name in_order i j n p at_i at_j =
    own_place (listed_unknowns properties nodes) (unknown_at n p.name) (i * length properties + j) (unknowns_sorted properties nodes by_name in_order) (by_place properties nodes i j n p at_i at_j)
