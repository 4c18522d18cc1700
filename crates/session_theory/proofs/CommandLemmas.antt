-- Commands keep moments sound; the tree follows the edits; outputs go on; and a spent budget has its cause.
use Rattle.std.proofs.Common.{◌≡◌, ℕ, ◌<◌, ◌⊎◌, inl, inr, List, [], ◌∷◌, ◌++◌, Option, Some, refl, sym, ap, subst, ◌∙◌, append_assoc}
use Rattle.constraint_theory.specs.Systems.{Equality, IsEquality, ConstraintSystem, bound}
use Rattle.session_theory.specs.Commands.{Command, edit, solve, print, tree, Does, EditsLead, IsSpent, Leads, Meaning, Stops}
use Rattle.session_theory.specs.Files.{AreApart, Ends, IsNoRefusal}
use Rattle.session_theory.specs.Laws.{AreEdits, AreSystems, IsReached}
use Rattle.session_theory.specs.Moments.{Moment, IsSoundMoment}
use Rattle.session_theory.specs.Outputs.{Outputs, SessionOutput, all, stopped}
use Rattle.session_theory.proofs.MomentLemmas.{sound_after, spent_below}

module _ {T E K U V : Type 0} (same : Equality K U) (tells : IsEquality same) (IsSystemOf : T → ConstraintSystem K U V → Type 0) (systems : AreSystems same IsSystemOf) (says : Meaning T E K)
    (edits : AreEdits same IsSystemOf says) (budget : Option ℕ) where
  does_sound : (c : Command E) (m next : Moment T K) (text : List ℕ) → IsSoundMoment same IsSystemOf m → Does same IsSystemOf says budget c m text next → IsSoundMoment same IsSystemOf next
  does_sound (edit e) m next text sound (inl h) = subst (λ (x : Moment T K). IsSoundMoment same IsSystemOf x) (sym h.1) sound
  does_sound (edit e) m next text sound (inr h) = edits.sound m next h.0 sound h.2
  does_sound (solve n) m next text sound (inl h) = sound_after same tells IsSystemOf systems h.0.count m next sound h.0.visits
  does_sound (solve n) m next text sound (inr h) = sound_after same tells IsSystemOf systems n m next sound h.0.visits
  does_sound print m next text sound h = sound_after same tells IsSystemOf systems h.0.count m next sound h.0.visits
  does_sound tree m next text sound h = subst (λ (x : Moment T K). IsSoundMoment same IsSystemOf x) (sym h.1) sound

  pub leads_sound : (cs : List (Command E)) (m next : Moment T K) (text : List ℕ) → IsSoundMoment same IsSystemOf m → Leads same IsSystemOf says budget cs m text next → IsSoundMoment same IsSystemOf next
  leads_sound [] m next text sound h = subst (λ (x : Moment T K). IsSoundMoment same IsSystemOf x) (sym h.1) sound
  leads_sound (c ∷ cs) m next text sound h = leads_sound cs h.2 next h.1 (does_sound c m h.2 h.0 sound h.3) h.4

  -- what follows leads on from the tree
  from_tree : (cs : List (Command E)) (t u last : T) → t ≡ u → EditsLead says cs t last → EditsLead says cs u last
  from_tree cs t u last e h = subst (λ x. EditsLead says cs x last) e h

  pub trees_follow : (cs : List (Command E)) (m next : Moment T K) (text : List ℕ) → Leads same IsSystemOf says budget cs m text next → EditsLead says cs m.tree next.tree
  trees_follow [] m next text h = ap (λ (x : Moment T K). x.tree) h.1
  trees_follow (c ∷ cs) m next text h = one c h.0 h.2 h.3 (trees_follow cs h.2 next h.1 h.4)
    where
      one : (c : Command E) (text : List ℕ) (mid : Moment T K) → Does same IsSystemOf says budget c m text mid → EditsLead says cs mid.tree next.tree → EditsLead says (c ∷ cs) m.tree next.tree
      one (edit e) text mid (inl d) more = inl ((text, d.0), from_tree cs mid.tree m.tree next.tree (ap (λ (x : Moment T K). x.tree) d.1) more)
      one (edit e) text mid (inr d) more = inr (d.0, d.1, from_tree cs mid.tree d.0 next.tree (edits.put m mid d.0 d.2) more)
      one (solve n) text mid (inl d) more = from_tree cs mid.tree m.tree next.tree (ap (λ (x : Moment T K). x.tree) d.0.visits.is) more
      one (solve n) text mid (inr d) more = from_tree cs mid.tree m.tree next.tree (ap (λ (x : Moment T K). x.tree) d.0.visits.is) more
      one print text mid d more = from_tree cs mid.tree m.tree next.tree (ap (λ (x : Moment T K). x.tree) d.0.visits.is) more
      one tree text mid d more = from_tree cs mid.tree m.tree next.tree (ap (λ (x : Moment T K). x.tree) d.1) more

  stop_is_spent : (c : Command E) (m : Moment T K) → Stops same IsSystemOf says budget c m → IsSpent same IsSystemOf says budget m
  stop_is_spent print m h = h
  stop_is_spent (edit _) m h = elim h [ ]
  stop_is_spent (solve _) m h = elim h [ ]
  stop_is_spent tree m h = elim h [ ]

  module _ {How : Type 0} (ends : Ends How) where
    -- a command, and then the output of the others
    pub output_after : (c : Command E) (cs : List (Command E)) (m mid : Moment T K) (text out : List ℕ) (how : How) → Does same IsSystemOf says budget c m text mid
        → Outputs ends same IsSystemOf says budget cs mid out how → Outputs ends same IsSystemOf says budget (c ∷ cs) m (text ++ out) how
    output_after c cs m mid text out how does (all next leads e) = all next (text, out, mid, does, leads, refl) e
    output_after c cs m mid text out how does (stopped front back d at split leads stops e) =
        stopped (c ∷ front) back d at (ap (λ (xs : List (Command E)). c ∷ xs) split) (text, out, mid, does, leads, refl) stops e

    pub go_on : (cs rest : List (Command E)) (m mid : Moment T K) (text out : List ℕ) (how : How) → Leads same IsSystemOf says budget cs m text mid
        → Outputs ends same IsSystemOf says budget rest mid out how → Outputs ends same IsSystemOf says budget (cs ++ rest) m (text ++ out) how
    go_on [] rest m mid text out how leads o = rw leads.0 (subst (λ (x : Moment T K). Outputs ends same IsSystemOf says budget rest x out how) leads.1 o)
    go_on (c ∷ cs) rest m mid text out how leads o =
        let more : Outputs ends same IsSystemOf says budget (cs ++ rest) leads.2 (leads.1 ++ out) how = go_on cs rest leads.2 mid leads.1 out how leads.4 o in
        subst (λ (bytes : List ℕ). Outputs ends same IsSystemOf says budget (c ∷ cs ++ rest) m bytes how) (sym (ap (λ (bytes : List ℕ). bytes ++ out) leads.5 ∙ append_assoc leads.0 leads.1 out))
        (output_after c (cs ++ rest) m leads.2 leads.0 (leads.1 ++ out) how leads.3 more)

    pub spent_cause : (cs : List (Command E)) (m : Moment T K) (out : List ℕ) (how : How) → IsSoundMoment same IsSystemOf m → Outputs ends same IsSystemOf says budget cs m out how
        → (how ≡ ends.done) ⊎ ((n : ℕ) × (mid : Moment T K) × (s : ConstraintSystem K U V) × (how ≡ ends.spent) × (budget ≡ Some n) × IsReached same IsSystemOf says budget cs m mid × IsSystemOf mid.tree s × (n < bound same s))
    spent_cause cs m out how sound (all next leads e) = inl e
    spent_cause cs m out how sound (stopped front back c mid split leads stops e) =
        let there : IsSoundMoment same IsSystemOf mid = leads_sound front m mid out sound leads in
        let spent : IsSpent same IsSystemOf says budget mid = stop_is_spent c mid stops in
        inr (spent.0, mid, there.system, e, spent.2, (front, c ∷ back, out, split, leads), there.of_tree, spent_below same tells IsSystemOf systems spent.0 mid spent.1 there.system there there.of_tree spent.3)

    -- the output of a session is no refusal
    pub session_refuses_nothing : AreApart ends → (t : T) (cs : List (Command E)) → IsNoRefusal ends (SessionOutput ends same IsSystemOf says budget t cs)
    session_refuses_nothing apart t cs out how h = ended how h.output
      where
        ended : (how : How) → Outputs ends same IsSystemOf says budget cs h.start out how → how ≡ ends.refused → ⊥
        ended how (all next leads e) r = apart.done (sym e ∙ r)
        ended how (stopped front back c mid split leads stops e) r = apart.spent (sym e ∙ r)
