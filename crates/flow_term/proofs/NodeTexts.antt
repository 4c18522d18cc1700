-- A node's text is split in one way.
use Rattle.std.proofs.Common.{◌≡◌, ℕ, List, ◌++◌, drop, get_or, reverse, refl, sym, ap, ◌∙◌, arith}
use Rattle.std.proofs.lemmas.List.{reverse-append, reverse-reverse}
use Rattle.flow_term.specs.declared.graph.NodeKind.{NodeKind}
use Rattle.flow_term.specs.declared.graph.NodeKind.TheVariants.{Start, Node as Single, End}
use Rattle.flow_term.specs.Nodes.{kind_text}

backwards : (f g : List ℕ) (k j : NodeKind) → f ++ kind_text k ≡ g ++ kind_text j → reverse (kind_text k) ++ reverse f ≡ reverse (kind_text j) ++ reverse g
backwards f g k j e = sym (reverse-append f (kind_text k)) ∙ ap reverse e ∙ reverse-append g (kind_text j)

forwards : (f g : List ℕ) → reverse f ≡ reverse g → f ≡ g
forwards f g e = sym (reverse-reverse f) ∙ ap reverse e ∙ reverse-reverse g

first_byte : (bs cs : List ℕ) → bs ≡ cs → get_or bs 0 0 ≡ get_or cs 0 0
first_byte bs cs e = ap (λ (xs : List ℕ). get_or xs 0 0) e

-- one text has one kind and one front
pub split_once : (f g : List ℕ) (k j : NodeKind) → f ++ kind_text k ≡ g ++ kind_text j → (k ≡ j) × (f ≡ g)
split_once f g Start Start e = (refl, forwards f g (ap (drop 6) (backwards f g Start Start e)))
split_once f g Start Single e = absurd (omega (arith, first_byte _ _ (backwards f g Start Single e)))
split_once f g Start End e = absurd (omega (arith, first_byte _ _ (backwards f g Start End e)))
split_once f g Single Start e = absurd (omega (arith, first_byte _ _ (backwards f g Single Start e)))
split_once f g Single Single e = (refl, forwards f g (ap (drop 5) (backwards f g Single Single e)))
split_once f g Single End e = absurd (omega (arith, first_byte _ _ (backwards f g Single End e)))
split_once f g End Start e = absurd (omega (arith, first_byte _ _ (backwards f g End Start e)))
split_once f g End Single e = absurd (omega (arith, first_byte _ _ (backwards f g End Single e)))
split_once f g End End e = (refl, forwards f g (ap (drop 4) (backwards f g End End e)))
