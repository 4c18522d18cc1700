-- Names that are declared again, told by what was met before.
use Rattle.std.specs.Prelude.{◌≡◌, ℕ, Bool, true, false, ◌&&◌, ◌||◌, ◌==◌, List, Option, take, bytes_eq}
use Rattle.std.specs.List.{list_any}
use Rattle.std.specs.Borrow.{Bor}
use Rattle.std.specs.HashSet.{HashSet}
use Rattle.check_base.specs.Earliest.{Gathers, SomeHas, IsFaultWhere}
use Rattle.flow_syntax.specs.declared.fault.SpecFaultKind.{SpecFaultKind}
use Rattle.flow_syntax.specs.declared.fault.SpecFaultKind.TheVariants as kinds
use Rattle.flow_syntax.specs.declared.spec.Named.{Named}
use Rattle.flow_syntax.specs.declared.spec.Spec.{Spec}
use Rattle.flow_syntax.specs.DeclFaults.{IsDeclaredAgain}

-- whether a name with a number of arguments is the text x with n arguments
abbrev pub is_shape : List ℕ → ℕ → Named × ℕ → Bool
is_shape x n s = bytes_eq x s.0.text && (n == s.1)

-- whether a set of texts and numbers has this one
abbrev pub has_met : {S : Type 0} → HashSet (Bor (List ℕ) × ℕ) S → List ℕ → ℕ → Bool
has_met met x n = list_any (λ key. bytes_eq x key.0.now && (n == key.1)) met.keys

-- whether a name with its number of arguments was met before, or stands among the first k of a list
abbrev pub is_met_again : (List ℕ → ℕ → Bool) → List (Named × ℕ) → ℕ → Named × ℕ → Bool
is_met_again met shapes k s = met s.0.text s.1 || list_any (is_shape s.0.text s.1) (take k shapes)

-- A name of a list was met before, or stands earlier in the list.
abbrev pub AreMetAgain : (List ℕ → ℕ → Bool) → List (Named × ℕ) → ℕ → SpecFaultKind → Type 0
AreMetAgain met shapes = SomeHas (λ k s. IsFaultWhere (is_met_again met shapes k s ≡ true) s.0.place kinds.Duplicate) shapes

-- A name with its number of arguments stands earlier in the list.
abbrev pub AreRepeated : List (Named × ℕ) → ℕ → SpecFaultKind → Type 0
AreRepeated shapes = AreMetAgain (λ x n. false) shapes

-- The names of a list were met: they are added to those that were met before, and the ones that are met again are noted.
pub record Meets {S : Type 0} (shapes : List (Named × ℕ)) (before after : HashSet (Bor (List ℕ) × ℕ) S) (old new : Option (ℕ × SpecFaultKind)) : Type 0 where
  pub met : (x : List ℕ) (n : ℕ) → has_met after x n ≡ (has_met before x n || list_any (is_shape x n) shapes)
  pub noted : Gathers old new (AreMetAgain (has_met before) shapes)

-- A name is declared a second time, as a fault at the later name.
pub record RepeatedFaults (spec : Spec) (place : ℕ) (kind : SpecFaultKind) : Type 0 where
  pub name : Named
  pub again : IsDeclaredAgain spec name
  pub at : place ≡ name.place
  pub of : kind ≡ kinds.Duplicate
