-- Lattices with tests, and those of finite height.
use Rattle.std.specs.Prelude.{◌≡◌, ℕ, ◌<◌, ◌≤◌, Bool, true, false, ◌&&◌, List}
use Rattle.flow_term.specs.declared.elem.Elem.{Elem}
use Rattle.flow_term.specs.declared.value.Value.{Value}
use Rattle.flow_syntax.specs.Types.{Sort}
use Rattle.lattice_base.specs.Laws.{JoinLaws, OrderLaw}
use Rattle.value_domains.specs.Domains.{Domain, least_of, joined_of}
use Rattle.value_heights.specs.Tests.{is_valid, is_below}
use Rattle.value_heights.specs.Heights.{is_within, height_of, rank_of}

-- a lattice on the values that pass a test, with a test of its order, a height, and a rank of each value
pub record Ranked (V : Type 0) : Type 0 where
  pub fits : V → Bool
  pub bottom : V
  pub join : V → V → V
  pub leq : V → V → Bool
  pub height : ℕ
  pub rank : V → ℕ

-- it is a lattice: the laws of joins, and of the order
pub record IsLattice {V : Type 0} (fits : V → Bool) (bottom : V) (join : V → V → V) (leq : V → V → Bool) : Type 0 where
  pub joins : JoinLaws (λ v. fits v ≡ true) bottom join
  pub order : OrderLaw (λ v. fits v ≡ true) join (λ a b. leq a b ≡ true)

-- and on the values that fit, a rank is at most the height and rises strictly with the value
pub record IsRanked {V : Type 0} (r : Ranked V) : Type 0 where
  pub lattice : IsLattice r.fits r.bottom r.join r.leq
  pub rank_within : (a : V) → r.fits a ≡ true → r.rank a ≤ r.height
  pub rank_rises : (a b : V) → r.fits a ≡ true → r.fits b ≡ true → r.leq a b ≡ true → r.leq b a ≡ false → r.rank a < r.rank b

-- a domain over the elements of each sort: its values that are made of them
abbrev pub ranked_of : (Sort → List Elem) → Domain → Ranked Value
ranked_of elements d = record {
  fits = λ v. is_valid d v && is_within elements d v;
  bottom = least_of d;
  join = joined_of d;
  leq = is_below d;
  height = height_of elements d;
  rank = rank_of elements d;
}
