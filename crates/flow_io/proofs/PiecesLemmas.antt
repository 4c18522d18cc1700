-- What is appended piece by piece.
use Rattle.std.proofs.Common.{◌≡◌, ℕ, ◌+◌, List, ◌++◌, Option, None, Some, take, drop, refl, sym, ap, ◌∙◌, append_assoc, take-add}
use Rattle.flow_io.specs.Pieces.{appended}

appended_twice : (written : Option (List ℕ)) (xs ys : List ℕ) → appended (appended written xs) ys ≡ appended written (xs ++ ys)
appended_twice None xs ys = refl
appended_twice (Some before) xs ys = ap Some (append_assoc before xs ys)

-- one piece more
pub appended_more : (before now later : Option (List ℕ)) (bytes : List ℕ) (done n : ℕ) → now ≡ appended before (take done bytes) → later ≡ appended now (take n (drop done bytes)) → later ≡ appended before (take (done + n) bytes)
appended_more before now later bytes done n so_far then =
    then ∙ ap (λ w. appended w (take n (drop done bytes))) so_far ∙ appended_twice before _ _ ∙ ap (appended before) (sym (take-add done n bytes))
