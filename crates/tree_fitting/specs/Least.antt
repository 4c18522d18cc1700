-- The least position that doesn't fit.
use Rattle.std.specs.Prelude.{◌≢◌, ℕ, List, Option, Some, None}
use Rattle.std.specs.declared.cmp.Ordering.TheVariants.{Less}
use Rattle.flow_term.specs.declared.term.Term.{Term}
use Rattle.flow_term.specs.Paths.{path_cmp}
use Rattle.flow_syntax.specs.declared.signature.Signature.{Signature}
use Rattle.tree_fitting.specs.Fits.{Misfits}

-- The path is among these, and none of them is before it.
pub record IsLeastOf (P : List ℕ → Type 0) (path : List ℕ) : Type 0 where
  pub among : P path
  pub none_before : (other : List ℕ) → P other → path_cmp other path ≢ Less

-- The path misfits, and no position that misfits is before it. Without a signature there is none.
abbrev pub IsLeastMisfit : Option Signature → Term → List ℕ → Type 0
IsLeastMisfit None tree path = ⊥
IsLeastMisfit (Some signature) tree path = IsLeastOf (Misfits signature tree) path
