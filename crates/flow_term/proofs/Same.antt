-- Points and links that `==` finds equal are the same.
use Rattle.std.proofs.Common.{◌≡◌, ℕ, Bool, true, false, ◌&&◌, List, [], ◌∷◌, refl, sym, ap, eq-eqb}
use Rattle.std.specs.Prelude.{◌==◌}
use Rattle.std.specs.Cmp.Lexicographic.{pointwise, same_text}
use Rattle.flow_term.specs.declared.graph.Point.{Point}
use Rattle.flow_term.specs.declared.graph.Point.TheVariants.{In, Out, Node, Start, End}
use Rattle.flow_term.specs.declared.graph.Link.{Link}
use Rattle.flow_term.specs.contracts.graph.PointPartialEq.TheImpl as point
use Rattle.flow_term.specs.contracts.graph.LinkPartialEq.TheImpl as link

path_same : (p q : List ℕ) → pointwise ◌==◌ p q ≡ true → p ≡ q
path_same p q h = same_text p q (sym h)

both : (a b : Bool) → a ≡ true → b ≡ true → (a && b) ≡ true
both true true h k = refl
both true false h k = cc
both false b h k = cc

eqb_itself : (n : ℕ) → (n == n) ≡ true
eqb_itself n = eq-eqb n n refl

path_itself : (p : List ℕ) → pointwise ◌==◌ p p ≡ true
path_itself [] = refl
path_itself (n ∷ p) = both (n == n) (pointwise ◌==◌ p p) (eqb_itself n) (path_itself p)

pub point_same : (a b : Point) → point.ghosts.eq a b ≡ true → a ≡ b
point_same (In p) (In q) h = ap In (path_same p q h)
point_same (Out p) (Out q) h = ap Out (path_same p q h)
point_same (Node p) (Node q) h = ap Node (path_same p q h)
point_same (Start p) (Start q) h = ap Start (path_same p q h)
point_same (End p) (End q) h = ap End (path_same p q h)
point_same _ _ h = cc

pub point_itself : (a : Point) → point.ghosts.eq a a ≡ true
point_itself (In p) = path_itself p
point_itself (Out p) = path_itself p
point_itself (Node p) = path_itself p
point_itself (Start p) = path_itself p
point_itself (End p) = path_itself p

pair_same : (a b c d : Point) → a ≡ b → c ≡ d → (let p : Point × Point = (a, c) in p) ≡ (b, d)
pair_same a b c d h k = cc

both_true : (a b : Bool) → (a && b) ≡ true → (a ≡ true) × (b ≡ true)
both_true true true h = (refl, refl)
both_true true false h = cc
both_true false b h = cc

pub link_same : (x y : Link) → link.ghosts.eq x y ≡ true → x ≡ y
link_same x y h =
    let parts : (point.ghosts.eq x.from y.from ≡ true) × (point.ghosts.eq x.to y.to ≡ true) = both_true (point.ghosts.eq x.from y.from) (point.ghosts.eq x.to y.to) h in
    ap (λ (p : Point × Point). record { from = p.0; to = p.1 }) (pair_same x.from y.from x.to y.to (point_same x.from y.from parts.0) (point_same x.to y.to parts.1))

pub link_itself : (x : Link) → link.ghosts.eq x x ≡ true
link_itself x = both (point.ghosts.eq x.from x.from) (point.ghosts.eq x.to x.to) (point_itself x.from) (point_itself x.to)
