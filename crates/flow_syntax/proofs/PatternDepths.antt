-- How deep a pattern looks, by one layer of it.
use Rattle.std.proofs.Common.{◌≡◌, ℕ, suc, ◌+◌, Bool, false, ◌||◌, List, [], ◌∷◌, map, add-one, refl, sym, ap, ◌∙◌, nat_lt}
use Rattle.std.specs.List.{list_any}
use Rattle.flow_syntax.specs.declared.pattern.Pattern.{Pattern, out-Pattern, fold_out-Pattern}
use Rattle.flow_syntax.specs.declared.pattern.PatternKind.{PatternKind, PatternKind-F, fold-PatternKind, fold_out-PatternKind, map-PatternKind}
use Rattle.flow_syntax.specs.Matching.{PatternLayer, pattern_layer}
use Rattle.flow_syntax.specs.RuleFaults.{looks_deep, looks_deep_layer, pattern_limit}

-- a layer with how deep its parts look
abbrev pub depths_of : PatternLayer → PatternKind-F (ℕ → Bool) (ℕ → Bool)
depths_of = map-PatternKind PatternKind Pattern (ℕ → Bool) (ℕ → Bool) (fold-PatternKind (ℕ → Bool) (ℕ → Bool) looks_deep_layer (λ p. p.kind)) looks_deep

deep_again : (ps : List Pattern) (level : ℕ) → list_any (λ (p : ℕ → Bool). p (suc level)) (map looks_deep ps) ≡ list_any (λ p. looks_deep p (level + 1)) ps
deep_again [] level = refl
deep_again (p ∷ ps) level = ap (λ (n : ℕ). looks_deep p n || list_any (λ (q : ℕ → Bool). q (suc level)) (map looks_deep ps)) (sym (add-one level)) ∙ ap (λ b. looks_deep p (level + 1) || b) (deep_again ps level)

-- how deep a layer looks, by its parts
abbrev pub deep_layer : PatternLayer → ℕ → Bool
deep_layer PatternKind-F.Wild level = false
deep_layer (PatternKind-F.Var x) level = false
deep_layer (PatternKind-F.Apply c parts) level = nat_lt pattern_limit level || list_any (λ p. looks_deep p (level + 1)) parts
deep_layer (PatternKind-F.Tuple parts) level = nat_lt pattern_limit level || list_any (λ p. looks_deep p (level + 1)) parts
deep_layer (PatternKind-F.Items parts) level = nat_lt pattern_limit level || list_any (λ p. looks_deep p (level + 1)) parts
deep_layer (PatternKind-F.Held x p) level = nat_lt pattern_limit level || looks_deep p level
deep_layer layer level = nat_lt pattern_limit level

deep_by_layer : (layer : PatternLayer) (level : ℕ) → looks_deep_layer (depths_of layer) level ≡ deep_layer layer level
deep_by_layer PatternKind-F.Wild level = refl
deep_by_layer (PatternKind-F.Var x) level = refl
deep_by_layer (PatternKind-F.NameVar x) level = refl
deep_by_layer (PatternKind-F.StrVar x) level = refl
deep_by_layer (PatternKind-F.IntVar x) level = refl
deep_by_layer (PatternKind-F.IntLit n) level = refl
deep_by_layer (PatternKind-F.StrLit s) level = refl
deep_by_layer (PatternKind-F.Held x p) level = refl
deep_by_layer (PatternKind-F.Apply c parts) level = ap (λ b. nat_lt pattern_limit level || b) (deep_again parts level)
deep_by_layer (PatternKind-F.Tuple parts) level = ap (λ b. nat_lt pattern_limit level || b) (deep_again parts level)
deep_by_layer (PatternKind-F.Items parts) level = ap (λ b. nat_lt pattern_limit level || b) (deep_again parts level)

pub looks_deep_out : (p : Pattern) (level : ℕ) → looks_deep p level ≡ deep_layer (pattern_layer p) level
looks_deep_out p level = ap (λ (m : ℕ → Bool). m level)
    (fold_out-Pattern (ℕ → Bool) (ℕ → Bool) looks_deep_layer (λ p. p.kind) p ∙ fold_out-PatternKind (ℕ → Bool) (ℕ → Bool) looks_deep_layer (λ p. p.kind) (out-Pattern p).kind)
    ∙ deep_by_layer (pattern_layer p) level
