-- What the root of a pattern asks for, by one layer of the pattern, and that no pattern matches a term for which it isn't a candidate.
use Rattle.std.proofs.Common.{◌≡◌, ℕ, Bool, true, false, ◌&&◌, List, Option, refl, sym, ap, subst, ◌∙◌}
use Rattle.std.specs.Prelude.{bytes_eq}
use Rattle.std.specs.Option.{option_map_or}
use Rattle.flow_term.specs.declared.term.Term.{Term}
use Rattle.flow_term.specs.declared.term.Kind.TheOpen.{Kind-F}
use Rattle.flow_term.specs.Annotations.{TermLayer, term_layer}
use Rattle.flow_syntax.specs.declared.pattern.Pattern.{Pattern, Pattern-F, out-Pattern, roll-Pattern, ind-Pattern, fold-roll-Pattern, fold_out-Pattern}
use Rattle.flow_syntax.specs.declared.pattern.PatternKind.{PatternKind, PatternKind-F, roll-PatternKind, map-PatternKind, fold-PatternKind, fold-roll-PatternKind, fold_out-PatternKind}
use Rattle.flow_syntax.specs.Matching.{Matcher, PatternLayer, is_apply, match_layer, matches, pattern_layer}
use Rattle.flow_match.specs.Index.{head_in, head_name, may_match, root_layer, root_name}

abbrev Root : Type 0
Root = Option (List ℕ)

abbrev outer_step : Pattern-F Root Root → Root
outer_step p = p.kind

abbrev kind_root : PatternKind → Root
kind_root = fold-PatternKind Root Root root_layer outer_step

-- a layer with the roots of its parts
abbrev pub parts_rooted : PatternLayer → PatternKind-F Root Root
parts_rooted = map-PatternKind PatternKind Pattern Root Root kind_root root_name

-- the root of a pattern, by its layer
pub root_out : (p : Pattern) → root_name p ≡ root_layer (parts_rooted (pattern_layer p))
root_out p = fold_out-Pattern Root Root root_layer outer_step p ∙ fold_out-PatternKind Root Root root_layer outer_step (out-Pattern p).kind

abbrev kind_test : PatternKind → Matcher
kind_test = fold-PatternKind Matcher Matcher match_layer (λ p. p.kind)

-- A pattern that matches is a candidate.
abbrev IsSound : Pattern → Type 0
IsSound p = (t : Term) → matches p t ≡ true → may_match (head_name t) (root_name p) ≡ true

abbrev IsSoundKind : PatternKind → Type 0
IsSoundKind k = (t : Term) → kind_test k t ≡ true → may_match (head_name t) (kind_root k) ≡ true

abbrev Part : Type 0
Part = (p : Pattern) × IsSound p

abbrev PartKind : Type 0
PartKind = (k : PatternKind) × IsSoundKind k

applied : (name : List ℕ) (layer : TermLayer) (b : Bool) → (is_apply name layer && b) ≡ true → option_map_or (bytes_eq name) (head_in layer) false ≡ true
applied name (Kind-F.Apply other args) b h = go (bytes_eq name other) h
  where
    go : (a : Bool) → (a && b) ≡ true → a ≡ true
    go true e = refl
    go false e = cc
applied name (Kind-F.Tuple items) b h = cc
applied name (Kind-F.Items items) b h = cc
applied name (Kind-F.Int n) b h = cc
applied name (Kind-F.Str text) b h = cc

sound_layer : (y : PatternKind-F PartKind Part) (t : Term)
    → match_layer (map-PatternKind PatternKind Pattern Matcher Matcher kind_test matches (map-PatternKind PartKind Part PatternKind Pattern (λ k. k.0) (λ p. p.0) y)) t ≡ true
    → may_match (head_name t) (root_layer (map-PatternKind PatternKind Pattern Root Root kind_root root_name (map-PatternKind PartKind Part PatternKind Pattern (λ k. k.0) (λ p. p.0) y))) ≡ true
sound_layer PatternKind-F.Wild t h = refl
sound_layer (PatternKind-F.Var x) t h = refl
sound_layer (PatternKind-F.NameVar x) t h = refl
sound_layer (PatternKind-F.StrVar x) t h = refl
sound_layer (PatternKind-F.IntVar x) t h = refl
sound_layer (PatternKind-F.IntLit n) t h = refl
sound_layer (PatternKind-F.StrLit s) t h = refl
sound_layer (PatternKind-F.Apply c ps) t h = applied c (term_layer t) _ h
sound_layer (PatternKind-F.Tuple ps) t h = refl
sound_layer (PatternKind-F.Items ps) t h = refl
sound_layer (PatternKind-F.Held x p) t h = p.1 t h

sound_kind : (y : PatternKind-F PartKind Part) → IsSoundKind (roll-PatternKind (map-PatternKind PartKind Part PatternKind Pattern (λ k. k.0) (λ p. p.0) y))
sound_kind y t h =
    let d = map-PatternKind PartKind Part PatternKind Pattern (λ k. k.0) (λ p. p.0) y in
    ap (may_match (head_name t)) (fold-roll-PatternKind Root Root root_layer (λ p. p.kind) d)
    ∙ sound_layer y t (sym (ap (λ (m : Matcher). m t) (fold-roll-PatternKind Matcher Matcher match_layer (λ p. p.kind) d)) ∙ h)

sound_placed : (n : _) (k : PatternKind) → IsSoundKind k → IsSound (roll-Pattern (record { place = n; kind = k }))
sound_placed n k sound t h =
    ap (may_match (head_name t)) (fold-roll-Pattern Root Root root_layer (λ p. p.kind) (record { place = n; kind = k }))
    ∙ sound t (sym (ap (λ (m : Matcher). m t) (fold-roll-Pattern Matcher Matcher match_layer (λ p. p.kind) (record { place = n; kind = k }))) ∙ h)

-- a pattern that matches is a candidate
pub candidate : (p : Pattern) → IsSound p
candidate =
    ind-Pattern IsSoundKind IsSound (λ x y e. subst (λ d. IsSoundKind (roll-PatternKind d)) e (sound_kind y)) (λ x y e. subst (λ d. IsSound (roll-Pattern d)) e (sound_placed y.place y.kind.0 y.kind.1))
