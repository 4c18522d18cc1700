-- Tables of candidates by the names of roots.
use Rattle.std.proofs.Common.{◌≡◌, ℕ, ◌+◌, Bool, true, false, ◌||◌, cond, List, [], ◌∷◌, Option, Some, None, refl, sym, ap, ◌∙◌}
use Rattle.std.specs.Prelude.{unwrap_or}
use Rattle.std.specs.List.{list_any}
use Rattle.flow_syntax.specs.declared.pattern.Pattern.{Pattern}
use Rattle.flow_match.specs.declared.index.PatternIndex.{PatternIndex}
use Rattle.flow_match.specs.Index.{candidates, IsIndexOf, may_match, numbers_where, root_name}
use Rattle.flow_match.specs.inner.Named.{HasNames, is_named}

-- where no root has a name, the candidates of the name are those of other terms
module _ {X : Type 0} (pattern : X → Pattern) (name : List ℕ) where
  alike : (root : Option (List ℕ)) → is_named name root ≡ false → may_match None root ≡ may_match (Some name) root
  alike None h = refl
  alike (Some c) h = sym h

  front : (a b : Bool) → (a || b) ≡ false → a ≡ false
  front true b h = h
  front false b h = refl

  back : (a b : Bool) → (a || b) ≡ false → b ≡ false
  back true b h = cc
  back false b h = h

  unnamed : (xs : List X) (n : ℕ) → list_any (λ x. is_named name (root_name (pattern x))) xs ≡ false
      → numbers_where (λ x. may_match None (root_name (pattern x))) n xs ≡ numbers_where (λ x. may_match (Some name) (root_name (pattern x))) n xs
  unnamed [] n h = refl
  unnamed (x ∷ xs) n h =
      let rest : numbers_where (λ x. may_match None (root_name (pattern x))) (n + 1) xs ≡ numbers_where (λ x. may_match (Some name) (root_name (pattern x))) (n + 1) xs =
      unnamed xs (n + 1) (back (is_named name (root_name (pattern x))) (list_any (λ x. is_named name (root_name (pattern x))) xs) h) in
      ap (λ ns. cond (may_match None (root_name (pattern x))) (n ∷ ns) ns) rest
      ∙ ap (λ b. cond b (n ∷ numbers_where (λ x. may_match (Some name) (root_name (pattern x))) (n + 1) xs) (numbers_where (λ x. may_match (Some name) (root_name (pattern x))) (n + 1) xs))
      (alike (root_name (pattern x)) (front (is_named name (root_name (pattern x))) (list_any (λ x. is_named name (root_name (pattern x))) xs) h))

-- such a table and the others are an index
pub indexed : {X : Type 0} (pattern : X → Pattern) (xs : List X) (index : PatternIndex) → index.others ≡ candidates pattern xs None → HasNames pattern xs xs index.by_name → IsIndexOf pattern xs index
indexed pattern xs index others names None = others
indexed {X} pattern xs index others names (Some name) =
    ap (λ o. unwrap_or o index.others) (names name) ∙ go (list_any (λ x. is_named name (root_name (pattern x))) xs) refl
  where
    go : (b : Bool) → list_any (λ x. is_named name (root_name (pattern x))) xs ≡ b
        → unwrap_or (cond b (Some (candidates pattern xs (Some name))) None) index.others ≡ candidates pattern xs (Some name)
    go true e = refl
    go false e = others ∙ unnamed pattern name xs 0 e
