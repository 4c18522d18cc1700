-- What marks gain.
use Rattle.std.proofs.Common.{◌≡◌, ℕ, ◌<◌, Bool, false, ◌||◌, List, length, get_or, refl, sym, ap, ◌∙◌, arith}
use Rattle.std.proofs.Math.Bool.{or-false, or_assoc}
use Rattle.flow_links.specs.inner.Marks.{Marks}

-- nothing is marked
pub Marks-none : (marks : List Bool) (p : ℕ → Bool) → ((k : ℕ) → k < length marks → p k ≡ false) → Marks marks marks p
Marks-none marks p none = record { sizes = refl; each = λ k h. sym (ap (λ (b : Bool). get_or marks k false || b) (none k h) ∙ or-false (get_or marks k false)) }

-- one marking after another, said in another way
pub Marks-then : {old mid new : List Bool} {p q : ℕ → Bool} (r : ℕ → Bool) → Marks old mid p → Marks mid new q → ((k : ℕ) → r k ≡ (p k || q k)) → Marks old new r
Marks-then {old} {mid} {new} {p} {q} r f g same = record {
  sizes = g.sizes ∙ f.sizes;
  each = λ k h. g.each k (let e : length mid ≡ length old = f.sizes in omega (arith, h, e)) ∙ ap (λ (b : Bool). b || q k) (f.each k h) ∙ or_assoc (get_or old k false) (p k) (q k) ∙ ap (λ (b : Bool). get_or old k false || b) (sym (same k));
}
