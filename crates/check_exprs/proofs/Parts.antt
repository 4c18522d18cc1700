-- The faults of an expression, from those of its own and those of its parts, and what is noted of parts in turn.
use Rattle.std.proofs.Common.{◌≡◌, ℕ, List, [], ◌∷◌, ◌++◌, length, refl, sym, ap, subst, ◌∙◌, inl, inr}
use Rattle.std.specs.Prelude.{◌⊎◌, Contains, if◌then◌else◌}
use Rattle.std.proofs.Math.ListN.{set}
use Rattle.std.proofs.lemmas.List.Elements.{Contains-append_left, Contains-append_right, Contains-append_cases, Contains-push}
use Rattle.flow_syntax.specs.declared.expr.Expr.{Expr}
use Rattle.flow_syntax.specs.declared.fault.SpecFaultKind.{SpecFaultKind}
use Rattle.flow_syntax.specs.declared.spec.Spec.{Spec}
use Rattle.flow_syntax.specs.Expressions.{expr_layer}
use Rattle.flow_syntax.specs.Scopes.{Scope}
use Rattle.flow_syntax.specs.Inferred.{Inferred, faulty, is_well_named, form_inferred, inferred, inferred_parts}
use Rattle.flow_syntax.specs.Types.{Typing, truth}
use Rattle.flow_syntax.specs.Expected.{Expected}
use Rattle.flow_syntax.specs.Occurrences.{Occurrence, occurrence, parts_of}
use Rattle.flow_syntax.specs.ExprFaults.{FaultsWithin, own, inner, own_inferred}
use Rattle.check_base.specs.Earliest.{Gathers}
use Rattle.expr_typing.specs.Listing.{listed_type}
use Rattle.check_base.proofs.GathersLaws.{Found, Gathers-then, Gathers-same, Gathers-none}
use Rattle.check_base.proofs.ListLaws.{in_none, in_one}
use Rattle.expr_typing.proofs.Clean.{told_out, well_named_parts}
use Rattle.check_exprs.specs.inner.Own.{OwnFaults, WholeHas, PartsHave}
use Rattle.check_exprs.specs.declared.notes.Notes.{Notes}
use Rattle.check_exprs.specs.inner.Checked.{IsChecked, HasCheckedParts}
use Rattle.check_exprs.specs.inner.Noted.{IsNoted, AreNoted, IsNotedBefore, noted_types, put_behind}
use Rattle.check_exprs.proofs.Listed.{Lists-none, Lists-then, Lists-turned, Lists-whole}

module _ (spec : Spec) (at : ℕ) (kind : SpecFaultKind) where
  among_parts : (ps : List Occurrence) → PartsHave spec ps at kind → (q : Occurrence) × Contains ps q × FaultsWithin spec at kind q
  among_parts [] h = absurd h
  among_parts (p ∷ ps) (inl h) = (p, Contains-append_left (p ∷ []) ps p (Contains-push [] p), h)
  among_parts (p ∷ ps) (inr h) = let r : (q : Occurrence) × Contains ps q × FaultsWithin spec at kind q = among_parts ps h in (r.0, Contains-append_right (p ∷ []) ps r.0 r.1, r.2)

  in_parts : (ps : List Occurrence) (q : Occurrence) → Contains ps q → FaultsWithin spec at kind q → PartsHave spec ps at kind
  in_parts [] q h w = absurd (in_none q h)
  in_parts (p ∷ ps) q h w = elim (Contains-append_cases (p ∷ []) ps q h) [
    | inl a ↦ inl (subst (λ (x : Occurrence). FaultsWithin spec at kind x) (sym (in_one p q a)) w)
    | inr b ↦ inr (in_parts ps q b w)
  ]

  whole_forth : (p : Occurrence) → PartsHave spec (parts_of spec p) at kind ⊎ OwnFaults spec p at kind → FaultsWithin spec at kind p
  whole_forth p (inl h) = let r : (q : Occurrence) × Contains (parts_of spec p) q × FaultsWithin spec at kind q = among_parts (parts_of spec p) h in inner p r.0 r.1 r.2
  whole_forth p (inr h) = own p h.0 h.1

  whole_back : (p : Occurrence) → FaultsWithin spec at kind p → PartsHave spec (parts_of spec p) at kind ⊎ OwnFaults spec p at kind
  whole_back _ (own p here h) = inr (here, h)
  whole_back _ (inner p q among w) = inl (in_parts (parts_of spec p) q among w)

  split_parts : (ps qs : List Occurrence) → PartsHave spec (ps ++ qs) at kind → PartsHave spec ps at kind ⊎ PartsHave spec qs at kind
  split_parts [] qs h = inr h
  split_parts (p ∷ ps) qs (inl h) = inl (inl h)
  split_parts (p ∷ ps) qs (inr h) = elim (split_parts ps qs h) [ inl a ↦ inl (inr a) | inr b ↦ inr b ]

  join_parts : (ps qs : List Occurrence) → PartsHave spec ps at kind ⊎ PartsHave spec qs at kind → PartsHave spec (ps ++ qs) at kind
  join_parts [] qs (inl h) = absurd h
  join_parts [] qs (inr h) = h
  join_parts (p ∷ ps) qs (inl (inl h)) = inl h
  join_parts (p ∷ ps) qs (inl (inr h)) = inr (join_parts ps qs (inl h))
  join_parts (p ∷ ps) qs (inr h) = inr (join_parts ps qs (inr h))

module _ (spec : Spec) where
  -- no parts, no faults of them
  pub no_parts : (old : Found) → Gathers old old (PartsHave spec [])
  no_parts old = Gathers-none old (λ place kind h. h)

  module _ {o m n : Found} where
    -- the faults of parts and then the own ones
    pub whole_gathered : (p : Occurrence) → Gathers o m (PartsHave spec (parts_of spec p)) → Gathers m n (OwnFaults spec p) → Gathers o n (WholeHas spec p)
    whole_gathered p g h = Gathers-same (Gathers-then g h) (λ at kind. (whole_forth spec at kind p, whole_back spec at kind p))

    -- the faults of a part and then those of the parts behind it
    pub part_then : (p : Occurrence) (ps : List Occurrence) → Gathers o m (WholeHas spec p) → Gathers m n (PartsHave spec ps) → Gathers o n (PartsHave spec (p ∷ ps))
    part_then p ps g h = Gathers-same (Gathers-then g h) (λ at kind. (λ x. x, λ x. x))

    -- the faults of the parts behind a part and then those of the part
    pub part_last : (p : Occurrence) (ps : List Occurrence) → Gathers o m (PartsHave spec ps) → Gathers m n (WholeHas spec p) → Gathers o n (PartsHave spec (p ∷ ps))
    part_last p ps g h = Gathers-same (Gathers-then g h) (λ at kind. (λ x. elim x [ inl a ↦ inr a | inr b ↦ inl b ], λ x. elim x [ inl a ↦ inr a | inr b ↦ inl b ]))

    -- the faults of two lists of parts
    pub parts_then : (ps qs : List Occurrence) → Gathers o m (PartsHave spec ps) → Gathers m n (PartsHave spec qs) → Gathers o n (PartsHave spec (ps ++ qs))
    parts_then ps qs g h = Gathers-same (Gathers-then g h) (λ at kind. (join_parts spec at kind ps qs, split_parts spec at kind ps qs))

  pub one_part : {o n : Found} (p : Occurrence) → Gathers o n (WholeHas spec p) → Gathers o n (PartsHave spec (p ∷ []))
  one_part p g = part_then p [] g (no_parts _)

  -- nothing is noted of no parts
  pub none_noted : (o : Notes) → AreNoted spec [] o o
  none_noted o = record { gathers = no_parts o.earliest; lists = Lists-none spec (noted_types o) }

  module _ {o n : Notes} where
    -- a part alone
    pub part_noted : (p : Occurrence) → IsNoted spec p o n → AreNoted spec (p ∷ []) o n
    part_noted p h = record { gathers = one_part p h.gathers; lists = h.lists }

  module _ {o m n : Notes} where
    -- parts and then those behind them
    pub parts_noted : (ps qs : List Occurrence) → AreNoted spec ps o m → AreNoted spec qs m n → AreNoted spec (ps ++ qs) o n
    parts_noted ps qs g h = record { gathers = parts_then ps qs g.gathers h.gathers; lists = Lists-then spec ps qs g.lists h.lists }

    -- a part and then those behind it
    pub part_noted_then : (p : Occurrence) (ps : List Occurrence) → IsNoted spec p o m → AreNoted spec ps m n → AreNoted spec (p ∷ ps) o n
    part_noted_then p ps g h = parts_noted (p ∷ []) ps (part_noted p g) h

    -- one part more at the end
    pub parts_push : (ps : List Occurrence) (p : Occurrence) → AreNoted spec ps o m → IsNoted spec p m n → AreNoted spec (ps ++ p ∷ []) o n
    parts_push ps p g h = parts_noted ps (p ∷ []) g (part_noted p h)

  -- a part that is looked at first and then the one that stands before it
  pub part_ahead : {o m n : Notes} {t : Inferred} (f p : Occurrence) (start : ℕ) → start ≡ length (noted_types o) → IsChecked spec f o m t → IsNotedBefore spec p start m n → AreNoted spec (p ∷ f ∷ []) o n
  part_ahead {o} {m} {n} f p start here g h = record {
    gathers = part_last p (f ∷ []) (one_part f g.noted.gathers) h.gathers;
    lists = Lists-turned spec (p ∷ []) (f ∷ []) start (length (noted_types m)) here g.noted.lists refl h.lists h.turned;
  }

  -- a part is looked at, and its types are put before others
  pub part_before : {m k n : Notes} (p : Occurrence) (start middle : ℕ) → middle ≡ length (noted_types m) → IsNoted spec p m k → n.earliest ≡ k.earliest → noted_types n ≡ put_behind start middle (noted_types k) → IsNotedBefore spec p start m n
  part_before {m} {k} {n} p start middle there h earliest types = record {
    gathers = subst (λ (x : Found). Gathers m.earliest x (WholeHas spec p)) (sym earliest) h.gathers;
    between = noted_types k;
    lists = h.lists;
    turned = types ∙ ap (λ i. put_behind start i (noted_types k)) there;
  }

-- what is inferred of an expression for those that need its type, where its form gives this
pub inferred_outside : (spec : Spec) (s : Scope) (w : Expected) (e : Expr) (t answer : Inferred) → t ≡ own_inferred spec (occurrence s w e) → answer ≡ (if is_well_named spec s (expr_layer e) then t else faulty) → answer ≡ inferred spec s e
inferred_outside spec s w e t answer infers is =
    is ∙ ap (λ x. if is_well_named spec s (expr_layer e) then x else faulty) infers
    ∙ ap (λ b. if b then form_inferred spec s (inferred_parts spec s (expr_layer e)) else faulty) (sym (well_named_parts spec s (expr_layer e))) ∙ sym (told_out spec s e)

-- an expression is checked, where its parts are, its own faults are noted and its own type is listed before those of the parts
pub whole_checked : (spec : Spec) (s : Scope) (w : Expected) (e : Expr) {o a m n : Notes} {t answer : Inferred} (typing : Typing) (at : ℕ) → at ≡ length (noted_types o) → noted_types a ≡ noted_types o ++ truth ∷ [] → a.earliest ≡ o.earliest
    → HasCheckedParts spec (occurrence s w e) a m t → Gathers m.earliest n.earliest (OwnFaults spec (occurrence s w e)) → answer ≡ (if is_well_named spec s (expr_layer e) then t else faulty)
    → typing ≡ listed_type w answer → noted_types n ≡ set (noted_types m) at typing → IsChecked spec (occurrence s w e) o n answer
whole_checked spec s w e {o} {a} {m} {n} {t} {answer} typing at here held earliest parts faults is listed types =
    let infers : answer ≡ inferred spec s e = inferred_outside spec s w e t answer parts.infers is in
    record {
      noted = record {
        gathers = whole_gathered spec (occurrence s w e) (subst (λ (f : Found). Gathers f m.earliest (PartsHave spec (parts_of spec (occurrence s w e)))) earliest parts.noted.gathers) faults;
        lists = Lists-whole spec (occurrence s w e) truth typing at here held parts.noted.lists (listed ∙ ap (listed_type w) infers) types;
      };
      infers = infers;
    }
