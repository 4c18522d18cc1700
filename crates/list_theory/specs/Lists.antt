-- Lists whose items a test tells apart.
use Rattle.std.specs.Prelude.{◌≡◌, Bool, true, false, not, ◌||◌, ◌&&◌, if◌then◌else◌, List, [], ◌∷◌, ◌++◌, filter}

module _ {A : Type 0} (same : A → A → Bool) where
  -- whether the item is in the list
  abbrev pub has : List A → A → Bool
  has [] x = false
  has (y ∷ ys) x = same y x || has ys x

  -- the list without the item
  abbrev pub without : List A → A → List A
  without ys x = filter (λ y. not (same y x)) ys

  -- the list with the item last; the list as it is where the item is there
  abbrev pub push_one : List A → A → List A
  push_one ys x = if has ys x then ys else ys ++ x ∷ []

  -- the same for each of the items in turn
  abbrev pub push_all : List A → List A → List A
  push_all ys [] = ys
  push_all ys (x ∷ xs) = push_all (push_one ys x) xs

  -- whether no item is in the list twice
  abbrev pub distinct : List A → Bool
  distinct [] = true
  distinct (x ∷ xs) = not (has xs x) && distinct xs

-- the test says of two items whether they are equal
pub record IsExact {A : Type 0} (same : A → A → Bool) : Type 0 where
  pub itself : (a : A) → same a a ≡ true
  pub exact : (a b : A) → same a b ≡ true → a ≡ b
