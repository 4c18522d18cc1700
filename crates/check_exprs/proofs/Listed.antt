-- The types of expressions, listed in turn.
use Rattle.std.proofs.Common.{◌≡◌, ℕ, ◌+◌, ◌-◌, List, [], ◌∷◌, ◌++◌, length, take, drop, sym, ap, subst, ◌∙◌, append_assoc, arith}
use Rattle.std.proofs.lemmas.List.{append-nil, length-append}
use Rattle.std.proofs.Math.ListN.{set}
use Rattle.std.proofs.Math.Seq.{drop-append_seam, set-append_seam, take-append_seam}
use Rattle.flow_syntax.specs.declared.spec.Spec.{Spec}
use Rattle.flow_syntax.specs.Inferred.{inferred}
use Rattle.flow_syntax.specs.Types.{Typing}
use Rattle.flow_syntax.specs.Occurrences.{Occurrence, parts_of}
use Rattle.expr_typing.specs.Listing.{AreListed, Lists, listed_type, none, next}
use Rattle.check_exprs.specs.inner.Noted.{put_behind}

-- three lists one behind another, of which the last two are turned
turned : (os fs ps : List Typing) → put_behind (length os) (length (os ++ fs)) (os ++ fs ++ ps) ≡ os ++ (ps ++ fs)
turned os fs ps =
    ap (λ (ts : List Typing). ts ++ drop (length (os ++ fs)) (os ++ fs ++ ps) ++ take (length (os ++ fs) - length os) (drop (length os) (os ++ fs ++ ps))) (ap (take (length os)) (append_assoc os fs ps) ∙ take-append_seam os (fs ++ ps))
    ∙ ap (λ (ts : List Typing). os ++ ts ++ take (length (os ++ fs) - length os) (drop (length os) (os ++ fs ++ ps))) (drop-append_seam (os ++ fs) ps)
    ∙ ap (λ (ts : List Typing). os ++ ps ++ take (length (os ++ fs) - length os) ts) (ap (drop (length os)) (append_assoc os fs ps) ∙ drop-append_seam os (fs ++ ps))
    ∙ ap (λ (n : ℕ). os ++ ps ++ take n (fs ++ ps)) counted ∙ ap (λ (ts : List Typing). os ++ ps ++ ts) (take-append_seam fs ps) ∙ append_assoc os ps fs
  where
    less : (m n : ℕ) → m + n - m ≡ n
    less m n = omega arith

    counted : length (os ++ fs) - length os ≡ length fs
    counted = ap (λ n. n - length os) (length-append os fs) ∙ less (length os) (length fs)

module _ (spec : Spec) where
  -- one list of expressions behind another
  pub AreListed-then : (ps qs : List Occurrence) (ts us : List Typing) → AreListed spec ps ts → AreListed spec qs us → AreListed spec (ps ++ qs) (ts ++ us)
  AreListed-then _ qs _ us none h = h
  AreListed-then _ qs _ us (next p ps inner others g rest) h =
      subst (λ (xs : List Typing). AreListed spec (p ∷ ps ++ qs) (listed_type p.expected (inferred spec p.scope p.expr) ∷ xs)) (sym (append_assoc inner others us))
      (next p (ps ++ qs) inner (others ++ us) g (AreListed-then ps qs others us rest h))

  pub Lists-none : (o : List Typing) → Lists spec [] o o
  Lists-none o = record { types = []; added = sym (append-nil o); listed = none }

  module _ {o m n : List Typing} where
    pub Lists-then : (ps qs : List Occurrence) → Lists spec ps o m → Lists spec qs m n → Lists spec (ps ++ qs) o n
    Lists-then ps qs g h = record {
      types = g.types ++ h.types;
      added = h.added ∙ ap (λ (xs : List Typing). xs ++ h.types) g.added ∙ append_assoc o g.types h.types;
      listed = AreListed-then ps qs g.types h.types g.listed h.listed;
    }

  -- the types of expressions that are looked at first are put behind those of expressions that stand before them
  pub Lists-turned : {o m k n : List Typing} (ps qs : List Occurrence) (start middle : ℕ) → start ≡ length o → Lists spec qs o m → middle ≡ length m → Lists spec ps m k → n ≡ put_behind start middle k → Lists spec (ps ++ qs) o n
  Lists-turned {o} {m} {k} {n} ps qs start middle here g there h is = record {
    types = h.types ++ g.types;
    added = is ∙ ap (λ i. put_behind i middle k) here ∙ ap (λ i. put_behind (length o) i k) (there ∙ ap length g.added) ∙ ap (put_behind (length o) (length (o ++ g.types))) (h.added ∙ ap (λ (ts : List Typing). ts ++ h.types) g.added)
        ∙ turned o g.types h.types;
    listed = AreListed-then ps qs h.types g.types h.listed g.listed;
  }

  -- what is added to nothing
  pub from_nothing : {o n : List Typing} (ps : List Occurrence) → o ≡ [] → Lists spec ps o n → AreListed spec ps n
  from_nothing {o} {n} ps nothing g = subst (λ (xs : List Typing). AreListed spec ps xs) (sym (g.added ∙ ap (λ (xs : List Typing). xs ++ g.types) nothing)) g.listed

  -- a place is held for the type of the whole, and the types of the parts are added
  held_within : (o ts : List Typing) (held : Typing) (at : ℕ) (m n : List Typing) → at ≡ length o → m ≡ o ++ held ∷ [] → n ≡ m ++ ts → n ≡ o ++ held ∷ ts
  held_within o ts held at m n here start is = is ∙ ap (λ (xs : List Typing). xs ++ ts) start ∙ append_assoc o (held ∷ []) ts

  -- the type of a whole is set before those of its parts
  pub Lists-whole : {o m n k : List Typing} (p : Occurrence) (held t : Typing) (at : ℕ) → at ≡ length o → m ≡ o ++ held ∷ [] → Lists spec (parts_of spec p) m n → t ≡ listed_type p.expected (inferred spec p.scope p.expr)
      → k ≡ set n at t → Lists spec (p ∷ []) o k
  Lists-whole {o} {m} {n} {k} p held t at here start g typed is = record {
    types = listed_type p.expected (inferred spec p.scope p.expr) ∷ g.types ++ [];
    added = is ∙ ap (λ i. set n i t) here ∙ ap (λ (xs : List Typing). set xs (length o) t) (held_within o g.types held at m n here start g.added) ∙ set-append_seam o held g.types t
        ∙ ap (λ (u : Typing). o ++ u ∷ g.types) typed ∙ ap (λ (us : List Typing). o ++ listed_type p.expected (inferred spec p.scope p.expr) ∷ us) (sym (append-nil g.types));
    listed = next p [] g.types [] g.listed none;
  }
