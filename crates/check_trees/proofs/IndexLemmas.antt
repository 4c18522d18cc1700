-- Constructors by their names: one constructor more, and what a look-up finds.
use Rattle.std.proofs.Common.{◌≡◌, ℕ, ◌+◌, ◌<◌, Bool, true, false, cond, List, [], ◌∷◌, ◌++◌, length, get_or, drop, drop-cons, add-one, Option, Some, None, find, refl, sym, ap, ◌∙◌, append-nil}
use Rattle.std.specs.Prelude.{◌==◌, slice_get, option_and_then, unwrap_or, bytes_eq}
use Rattle.std.specs.Cmp.Lexicographic.{pointwise, same_text}
use Rattle.indexmap.specs.IndexMap.{IndexMap, get, Updates}
use Rattle.flow_syntax.specs.declared.signature.Constructor.{Constructor}
use Rattle.tree_fitting.specs.Fits.{constructor_of}
use Rattle.check_trees.specs.inner.Index.{numbered, overloads, numbers_in, IsIndexOfFirst}

-- one number more
pub numbered_push : (cs : List Constructor) (numbers : List ℕ) (number : ℕ) (c : Constructor) → slice_get cs number ≡ Some c → numbered cs (numbers ++ number ∷ []) ≡ numbered cs numbers ++ c ∷ []
numbered_push cs [] number c at = rw at refl
numbered_push cs (n ∷ numbers) number c at = go (slice_get cs n) refl (numbered_push cs numbers number c at)
  where
    go : (o : Option Constructor) → slice_get cs n ≡ o → numbered cs (numbers ++ number ∷ []) ≡ numbered cs numbers ++ c ∷ [] → numbered cs ((n ∷ numbers) ++ number ∷ []) ≡ numbered cs (n ∷ numbers) ++ c ∷ []
    go None e rest = rw e rest
    go (Some d) e rest = rw e (ap (λ ds. d ∷ ds) rest)

-- one constructor more
pub overloads_push : (cs : List Constructor) (c : Constructor) (name : List ℕ) (same : Bool) → bytes_eq c.name.text name ≡ same → overloads (cs ++ c ∷ []) name ≡ overloads cs name ++ cond same (c ∷ []) []
overloads_push [] c name true e = rw e refl
overloads_push [] c name false e = rw e refl
overloads_push (d ∷ cs) c name same e = go (bytes_eq d.name.text name) refl (overloads_push cs c name same e)
  where
    go : (b : Bool) → bytes_eq d.name.text name ≡ b → overloads (cs ++ c ∷ []) name ≡ overloads cs name ++ cond same (c ∷ []) [] → overloads ((d ∷ cs) ++ c ∷ []) name ≡ overloads (d ∷ cs) name ++ cond same (c ∷ []) []
    go true f rest = rw f (ap (λ ds. d ∷ ds) rest)
    go false f rest = rw f rest

-- the first of a name with this number of arguments is the first of both
pub found_among : (cs : List Constructor) (name : List ℕ) (count : ℕ) → find (λ c. length c.args == count) (overloads cs name) ≡ constructor_of cs name count
found_among [] name count = refl
found_among (d ∷ cs) name count = go (bytes_eq d.name.text name) refl (length d.args == count) refl (found_among cs name count)
  where
    go : (b : Bool) → bytes_eq d.name.text name ≡ b → (k : Bool) → (length d.args == count) ≡ k → find (λ c. length c.args == count) (overloads cs name) ≡ constructor_of cs name count
        → find (λ c. length c.args == count) (overloads (d ∷ cs) name) ≡ constructor_of (d ∷ cs) name count
    go true e true f rest = rw (e, f) refl
    go true e false f rest = rw (e, f) rest
    go false e k f rest = rw e rest

module _ (cs : List Constructor) (numbers : List ℕ) (i count : ℕ) (within : i < length numbers) where
  next : numbered cs (drop i numbers) ≡ numbered cs (get_or numbers i 0 ∷ drop (i + 1) numbers)
  next = rw (add-one, drop-cons numbers i 0) refl

  -- a number without such a constructor is passed over
  pub pass : option_and_then (λ (d : Constructor). cond (length d.args == count) (Some d) None) (slice_get cs (get_or numbers i 0)) ≡ None
      → find (λ d. length d.args == count) (numbered cs (drop (i + 1) numbers)) ≡ find (λ d. length d.args == count) (numbered cs (drop i numbers))
  pass none = rw next (at_first (slice_get cs (get_or numbers i 0)) refl none)
    where
      of_test : (d : Constructor) (b : Bool) → (length d.args == count) ≡ b → cond b (Some d) None ≡ None
          → find (λ d. length d.args == count) (numbered cs (drop (i + 1) numbers)) ≡ find (λ d. length d.args == count) (d ∷ numbered cs (drop (i + 1) numbers))
      of_test d true e h = cc
      of_test d false e h = rw e refl

      at_first : (o : Option Constructor) → slice_get cs (get_or numbers i 0) ≡ o → option_and_then (λ (d : Constructor). cond (length d.args == count) (Some d) None) o ≡ None
          → find (λ d. length d.args == count) (numbered cs (drop (i + 1) numbers)) ≡ find (λ d. length d.args == count) (numbered cs (get_or numbers i 0 ∷ drop (i + 1) numbers))
      at_first None e h = rw e refl
      at_first (Some d) e h = rw e (of_test d (length d.args == count) refl h)

  -- the first that is left
  pub hit : (c : Constructor) → option_and_then (λ (d : Constructor). cond (length d.args == count) (Some d) None) (slice_get cs (get_or numbers i 0)) ≡ Some c
      → Some c ≡ find (λ d. length d.args == count) (numbered cs (drop i numbers))
  hit c some = rw next (at_first (slice_get cs (get_or numbers i 0)) refl some)
    where
      of_test : (d : Constructor) (b : Bool) → (length d.args == count) ≡ b → cond b (Some d) None ≡ Some c → Some c ≡ find (λ d. length d.args == count) (d ∷ numbered cs (drop (i + 1) numbers))
      of_test d true e h = rw e (sym h)
      of_test d false e h = cc

      at_first : (o : Option Constructor) → slice_get cs (get_or numbers i 0) ≡ o → option_and_then (λ (d : Constructor). cond (length d.args == count) (Some d) None) o ≡ Some c
          → Some c ≡ find (λ d. length d.args == count) (numbered cs (get_or numbers i 0 ∷ drop (i + 1) numbers))
      at_first None e h = cc
      at_first (Some d) e h = rw e (of_test d (length d.args == count) refl h)

-- the index of one constructor more
pub indexed_push : {S : Type 0} (all first : List Constructor) (old new : IndexMap (List ℕ) (List ℕ) S) (c : Constructor) (number : ℕ) → IsIndexOfFirst all first old → slice_get all number ≡ Some c
    → Updates (pointwise ◌==◌) old new c.name.text (Some (numbers_in old c.name.text ++ number ∷ [])) → IsIndexOfFirst all (first ++ c ∷ []) new
indexed_push {S} all first old new c number before at updates name = go (bytes_eq c.name.text name) refl (updates.0 name)
  where
    go : (same : Bool) → bytes_eq c.name.text name ≡ same → get (pointwise ◌==◌) new name ≡ cond (pointwise ◌==◌ c.name.text name) (Some (numbers_in old c.name.text ++ number ∷ [])) (get (pointwise ◌==◌) old name)
        → numbered all (numbers_in new name) ≡ overloads (first ++ c ∷ []) name
    go true e is =
        let one : c.name.text ≡ name = same_text c.name.text name (sym e) in
        ap (λ (o : Option (List ℕ)). numbered all (unwrap_or o [])) (is ∙ ap (λ (b : Bool). cond b (Some (numbers_in old c.name.text ++ number ∷ [])) (get (pointwise ◌==◌) old name)) e)
        ∙ numbered_push all (numbers_in old c.name.text) number c at
        ∙ ap (λ ds. ds ++ c ∷ []) (before c.name.text ∙ ap (overloads first) one)
        ∙ sym (overloads_push first c name true e)
    go false e is =
        ap (λ (o : Option (List ℕ)). numbered all (unwrap_or o [])) (is ∙ ap (λ (b : Bool). cond b (Some (numbers_in old c.name.text ++ number ∷ [])) (get (pointwise ◌==◌) old name)) e)
        ∙ before name ∙ sym (append-nil (overloads first name)) ∙ sym (overloads_push first c name false e)
