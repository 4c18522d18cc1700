-- The combination of modes.
use Rattle.std.proofs.Common.{◌≡◌, List, [], ◌∷◌, ◌++◌, refl, sym, ap, ◌∙◌}
use Rattle.flow_syntax.specs.declared.property.Mode.{Mode}
use Rattle.flow_syntax.specs.declared.property.Mode.TheVariants as mode
use Rattle.expr_meaning.specs.Modes.{combined, all_combined}

pub combined_fixed : (m : Mode) → combined m mode.Fixed ≡ m
combined_fixed mode.Fixed = refl
combined_fixed mode.Up = refl
combined_fixed mode.Down = refl
combined_fixed mode.Mixed = refl

combined_mixed : (m : Mode) → combined m mode.Mixed ≡ mode.Mixed
combined_mixed mode.Fixed = refl
combined_mixed mode.Up = refl
combined_mixed mode.Down = refl
combined_mixed mode.Mixed = refl

mixed_combined : (m : Mode) → combined mode.Mixed m ≡ mode.Mixed
mixed_combined mode.Fixed = refl
mixed_combined mode.Up = refl
mixed_combined mode.Down = refl
mixed_combined mode.Mixed = refl

pub combined_again : (a b c : Mode) → combined (combined a b) c ≡ combined a (combined b c)
combined_again mode.Fixed b c = refl
combined_again a mode.Fixed c = ap (λ x. combined x c) (combined_fixed a)
combined_again a b mode.Fixed = combined_fixed (combined a b) ∙ ap (combined a) (sym (combined_fixed b))
combined_again mode.Mixed b c = ap (λ x. combined x c) (mixed_combined b) ∙ mixed_combined c ∙ sym (mixed_combined (combined b c))
combined_again a mode.Mixed c = ap (λ x. combined x c) (combined_mixed a) ∙ mixed_combined c ∙ sym (combined_mixed a) ∙ ap (combined a) (sym (mixed_combined c))
combined_again a b mode.Mixed = combined_mixed (combined a b) ∙ sym (combined_mixed a) ∙ ap (combined a) (sym (combined_mixed b))
combined_again mode.Up mode.Up mode.Up = refl
combined_again mode.Up mode.Up mode.Down = refl
combined_again mode.Up mode.Down mode.Up = refl
combined_again mode.Up mode.Down mode.Down = refl
combined_again mode.Down mode.Up mode.Up = refl
combined_again mode.Down mode.Up mode.Down = refl
combined_again mode.Down mode.Down mode.Up = refl
combined_again mode.Down mode.Down mode.Down = refl

-- the combination of a list and one more mode
pub combined_behind : (ms : List Mode) (n : Mode) → all_combined (ms ++ n ∷ []) ≡ combined (all_combined ms) n
combined_behind [] n = combined_fixed n
combined_behind (m ∷ ms) n = ap (combined m) (combined_behind ms n) ∙ sym (combined_again m (all_combined ms) n)
