-- The laws of pairs, over the laws of their parts.
use Rattle.std.proofs.Common.{◌≡◌, ap, ◌∙◌}
use Rattle.lattice_base.specs.Laws.{JoinLaws, OrderLaw}
use Rattle.lattice_sets.specs.declared.pair.PairV.{PairV}
use Rattle.lattice_sets.specs.Pairs.{IsPair, IsBelowPair, pair, pair_join}

-- pairs whose parts are the same are the same
pub same_pair : {V W : Type 0} (v x : V) (w y : W) → v ≡ x → w ≡ y → pair v w ≡ pair x y
same_pair v x w y e f = ap (λ z. pair z w) e ∙ ap (pair x) f

module _ {V W : Type 0} (ValidLeft : V → Type 0) (least_left : V) (left : V → V → V) (laws_left : JoinLaws ValidLeft least_left left)
    (ValidRight : W → Type 0) (least_right : W) (right : W → W → W) (laws_right : JoinLaws ValidRight least_right right) where
  pub pair_laws : JoinLaws {V = PairV V W} (IsPair ValidLeft ValidRight) (pair least_left least_right) (pair_join left right)
  pair_laws = record {
    least_valid = (laws_left.least_valid, laws_right.least_valid);
    joined_valid = λ a b va vb. (laws_left.joined_valid a.left b.left va.0 vb.0, laws_right.joined_valid a.right b.right va.1 vb.1);
    idempotent = λ a va. same_pair (left a.left a.left) a.left (right a.right a.right) a.right (laws_left.idempotent a.left va.0) (laws_right.idempotent a.right va.1);
    commutative = λ a b va vb. same_pair (left a.left b.left) (left b.left a.left) (right a.right b.right) (right b.right a.right) (laws_left.commutative a.left b.left va.0 vb.0) (laws_right.commutative a.right b.right va.1 vb.1);
    associative = λ a b c va vb vc. same_pair (left (left a.left b.left) c.left) (left a.left (left b.left c.left)) (right (right a.right b.right) c.right) (right a.right (right b.right c.right))
        (laws_left.associative a.left b.left c.left va.0 vb.0 vc.0) (laws_right.associative a.right b.right c.right va.1 vb.1 vc.1);
    neutral = λ a va. same_pair (left least_left a.left) a.left (right least_right a.right) a.right (laws_left.neutral a.left va.0) (laws_right.neutral a.right va.1);
  }

  module _ (BelowLeft : V → V → Type 0) (order_left : OrderLaw ValidLeft left BelowLeft) (BelowRight : W → W → Type 0) (order_right : OrderLaw ValidRight right BelowRight) where
    -- the order of the parts is the order by the join
    pub pair_order : OrderLaw {V = PairV V W} (IsPair ValidLeft ValidRight) (pair_join left right) (IsBelowPair BelowLeft BelowRight)
    pair_order a b va vb = (
      λ h. same_pair (left a.left b.left) b.left (right a.right b.right) b.right ((order_left a.left b.left va.0 vb.0).0 h.0) ((order_right a.right b.right va.1 vb.1).0 h.1),
      λ e. ((order_left a.left b.left va.0 vb.0).1 (ap (λ p. p.left) e), (order_right a.right b.right va.1 vb.1).1 (ap (λ p. p.right) e)),
    )
