-- What is gathered from lists of items, of which each has faults.
use Rattle.std.proofs.Common.{◌≡◌, ℕ, ◌+◌, ◌<◌, ◌≤◌, List, [], ◌∷◌, ◌++◌, length, take, get_or, sym, ap, subst, ◌∙◌, inl, inr}
use Rattle.std.specs.List.{flat_map}
use Rattle.std.proofs.lemmas.List.{append-nil, take_all, take_more}
use Rattle.std.proofs.lemmas.List.Concat.{flat_map-append}
use Rattle.std.proofs.lemmas.List.Elements.{Contains-append_left, Contains-append_right, Contains-append_cases, Contains-push}
use Rattle.flow_syntax.specs.declared.fault.SpecFaultKind.{SpecFaultKind}
use Rattle.check_base.specs.Earliest.{Gathers, Either, IsFaultWhere}
use Rattle.check_base.proofs.GathersLaws.{Found, Gathers-none, Gathers-same, Gathers-then}
use Rattle.check_base.proofs.ListLaws.{in_none, in_one}
use Rattle.check_decls.specs.inner.Noting.{OneHas}

module _ {old new : Found} {P Q : Type 0} {at : ℕ} {of : SpecFaultKind} where
  -- the same condition, said in another way
  pub Gathers-where : (P → Q) → (Q → P) → Gathers old new (IsFaultWhere P at of) → Gathers old new (IsFaultWhere Q at of)
  Gathers-where forth back g = Gathers-same g (λ place kind. (λ h. (forth h.0, h.1, h.2), λ h. (back h.0, h.1, h.2)))

module _ {T : Type 0} (P : T → ℕ → SpecFaultKind → Type 0) where
  -- no item
  pub Gathers-no_item : (old : Found) → Gathers old old (OneHas P [])
  Gathers-no_item old = Gathers-none old (λ place kind h. in_none h.item h.among)

  module _ {old new : Found} where
    -- one item
    pub Gathers-item : (x : T) → Gathers old new (P x) → Gathers old new (OneHas P (x ∷ []))
    Gathers-item x g = Gathers-same g (λ place kind. (
      λ h. record { item = x; among = Contains-push [] x; has = h },
      λ h. subst (λ (y : T). P y place kind) (sym (in_one x h.item h.among)) h.has,
    ))

  module _ {old mid new : Found} where
    -- the items of two lists
    pub Gathers-append : (xs ys : List T) → Gathers old mid (OneHas P xs) → Gathers mid new (OneHas P ys) → Gathers old new (OneHas P (xs ++ ys))
    Gathers-append xs ys g h = Gathers-same (Gathers-then g h) (λ place kind. (forth place kind, back place kind))
      where
        forth : (place : ℕ) (kind : SpecFaultKind) → Either (OneHas P xs) (OneHas P ys) place kind → OneHas P (xs ++ ys) place kind
        forth place kind (inl o) = record { item = o.item; among = Contains-append_left xs ys o.item o.among; has = o.has }
        forth place kind (inr o) = record { item = o.item; among = Contains-append_right xs ys o.item o.among; has = o.has }

        back : (place : ℕ) (kind : SpecFaultKind) → OneHas P (xs ++ ys) place kind → Either (OneHas P xs) (OneHas P ys) place kind
        back place kind o = elim (Contains-append_cases xs ys o.item o.among) [
          | inl a ↦ inl (record { item = o.item; among = a; has = o.has })
          | inr a ↦ inr (record { item = o.item; among = a; has = o.has })
        ]

    -- one item more of a list
    pub Gathers-one_more : (xs : List T) (i : ℕ) (x : T) → i < length xs → x ≡ get_or xs i x → Gathers old mid (OneHas P (take i xs)) → Gathers mid new (P x) → Gathers old new (OneHas P (take (i + 1) xs))
    Gathers-one_more xs i x within is g h =
        subst (λ (ys : List T). Gathers old new (OneHas P ys)) (ap (λ (y : T). take i xs ++ y ∷ []) is ∙ sym (take_more xs i x within)) (Gathers-append (take i xs) (x ∷ []) g (Gathers-item x h))

    -- the items that one item more of a list stands for
    pub Gathers-more : {S : Type 0} (f : S → List T) (xs : List S) (i : ℕ) (x : S) → i < length xs → x ≡ get_or xs i x
        → Gathers old mid (OneHas P (flat_map f (take i xs))) → Gathers mid new (OneHas P (f x)) → Gathers old new (OneHas P (flat_map f (take (i + 1) xs)))
    Gathers-more {S} f xs i x within is g h =
        let ends : flat_map f (take i xs) ++ f x ≡ flat_map f (take (i + 1) xs) =
        ap (λ (ys : List T). flat_map f (take i xs) ++ ys) (sym (append-nil (f x))) ∙ sym (flat_map-append f (take i xs) (x ∷ []))
        ∙ ap (flat_map f) (ap (λ (y : S). take i xs ++ y ∷ []) is ∙ sym (take_more xs i x within)) in
        subst (λ (ys : List T). Gathers old new (OneHas P ys)) ends (Gathers-append (flat_map f (take i xs)) (f x) g h)

  module _ {old new : Found} where
    -- all of a list
    pub Gathers-whole : {S : Type 0} (f : List S → List T) (xs : List S) (i : ℕ) → length xs ≤ i → Gathers old new (OneHas P (f (take i xs))) → Gathers old new (OneHas P (f xs))
    Gathers-whole {S} f xs i all g = subst (λ (ys : List S). Gathers old new (OneHas P (f ys))) (take_all i xs all) g

    -- another list with the same items
    pub Gathers-those : (xs ys : List T) → xs ≡ ys → Gathers old new (OneHas P xs) → Gathers old new (OneHas P ys)
    Gathers-those xs ys same g = subst (λ (zs : List T). Gathers old new (OneHas P zs)) same g
