-- A settled system by number has the values of its tree's solution.
use Rattle.std.proofs.Common.{◌≡◌, ◌∙◌, ℕ, true, List, [], ◌∷◌, map, refl, sym, ap}
use Rattle.std.specs.Prelude.{nat_eq, Contains}
use Rattle.std.proofs.lemmas.Bool.{or_left, or_right}
use Rattle.list_theory.specs.Lists.{has}
use Rattle.list_theory.proofs.NumberLemmas.{numbers_exact}
use Rattle.flow_term.specs.declared.graph.Unknown.{Unknown}
use Rattle.flow_term.specs.declared.term.Term.{Term}
use Rattle.flow_term.specs.declared.value.Value.{Value}
use Rattle.flow_term.specs.declared.value.Valued.{Valued}
use Rattle.flow_syntax.specs.declared.spec.Spec.{Spec}
use Rattle.flow_syntax.specs.Types.{Typing}
use Rattle.constraint_theory.specs.Machine.{State, IsSound, replay}
use Rattle.constraint_theory.specs.Systems.{ConstraintSystem, IsLawful, numbers}
use Rattle.constraint_theory.proofs.NumberLemmas.{numbers_tell}
use Rattle.constraint_names.specs.Naming.{IsNamed, named}
use Rattle.constraint_names.specs.Numbering.{Numbering, IsNumbering, names_of, numbered}
use Rattle.constraint_names.proofs.NamingLemmas as names
use Rattle.constraint_names.proofs.NumberingLemmas.{numbered_monotone, numbered_named}
use Rattle.tree_constraints.specs.declared.constraint.Constraint.{Constraint}
use Rattle.tree_constraints.specs.Laws.{IsAnalysed}
use Rattle.tree_constraints.specs.Orders.{by_parts}
use Rattle.tree_constraints.specs.Solutions.{AreConstraints, AreUnknowns}
use Rattle.tree_constraints.proofs.Exact.{parts_tell}
use Rattle.tree_constraints.proofs.Facts.{unknowns_one}
use Rattle.tree_constraints.proofs.Lists.{at_head, in_tail}
use Rattle.tree_constraints.proofs.Monotone.{solutions_one}
use Rattle.tree_constraints.proofs.Solved.{replays_solve}
use Rattle.tree_solutions.specs.Analysis.{IsAnalysis, valued, values_at}
use Rattle.tree_solutions.specs.Brought.{brought, brought_system}
use Rattle.tree_solutions.specs.Laws.{AnalysesAreOne, SettledIsAnalysis}
use Rattle.tree_solutions.proofs.Lawful.{lawful}

listed_by_name : (unknown : ℕ → Unknown) (f : ℕ → Valued) (g : Unknown → Valued) (us : List ℕ) → ((u : ℕ) → has nat_eq us u ≡ true → f u ≡ g (unknown u)) → map f us ≡ map g (map unknown us)
listed_by_name unknown f g [] agree = refl
listed_by_name unknown f g (u ∷ us) agree =
    λ i. agree u (or_left (nat_eq u u) (has nat_eq us u) (numbers_exact.itself u)) i ∷ listed_by_name unknown f g us (λ v h. agree v (or_right (nat_eq u v) (has nat_eq us v) h)) i

module _ (spec : Spec) (types : List Typing) (analysed : IsAnalysed spec types) (tree : Term) (cs : List Constraint) (us : List Unknown) (hc : AreConstraints spec tree cs) (hu : AreUnknowns spec tree us) where
  abbrev t : ConstraintSystem Constraint Unknown Value
  t = brought_system spec types cs us

  law : IsLawful by_parts t
  law = lawful spec types analysed cs us ∣ record { tree = tree; are_constraints = hc; are_unknowns = hu } ∣₁

  module _ (n : Numbering Constraint Unknown) (is : IsNumbering t n) (st : State ℕ) (sound : IsSound numbers (numbered t n) st) (rest : st.waiting ≡ []) where
    by_name : IsNamed numbers by_parts (numbered t n) t (names_of n)
    by_name = numbered_named by_parts parts_tell t n law.monotone is

    sound_by_name : IsSound by_parts t (named n.key st)
    sound_by_name = names.sound_named numbers by_parts numbers_tell parts_tell (numbered t n) t (names_of n) by_name (numbered_monotone by_parts parts_tell t n law.monotone is) st sound

    pub analysis : IsAnalysis spec types tree (map (λ u. valued (n.unknown u) (replay numbers (numbered t n) st.steps u)) n.unknowns)
    analysis = record {
      unknowns = us;
      are_unknowns = hu;
      solution = replay by_parts t (map n.key st.steps);
      is_solution = replays_solve spec types analysed (brought spec cs) tree cs us hc hu (map n.key st.steps) sound_by_name.steps_known
          (λ c known. sound_by_name.satisfied c known (ap (λ ks. has by_parts.key (map n.key ks) c) rest));
      listed = listed_by_name n.unknown (λ u. valued (n.unknown u) (replay numbers (numbered t n) st.steps u)) (λ w. valued w (replay by_parts t (map n.key st.steps) w)) n.unknowns
          (λ u used. ap (valued (n.unknown u)) (sym (names.agrees_replay numbers by_parts numbers_tell parts_tell (numbered t n) t (names_of n) by_name (numbered_monotone by_parts parts_tell t n law.monotone is) st.steps sound.steps_known u used)))
          ∙ ap (values_at (replay by_parts t (map n.key st.steps))) is.unknowns;
    }

pub settled_analysis : SettledIsAnalysis
settled_analysis = analysis

-- ONE ANALYSIS

same_values : (a b : Unknown → Value) (us : List Unknown) → ((u : Unknown) → Contains us u → a u ≡ b u) → values_at a us ≡ values_at b us
same_values a b [] agree = refl
same_values a b (u ∷ us) agree = λ i. valued u (agree u (at_head u us) i) ∷ same_values a b us (λ v h. agree v (in_tail u us v h)) i

pub analyses_one : AnalysesAreOne
analyses_one spec types analysed tree xs ys x y =
    x.listed ∙ same_values x.solution y.solution x.unknowns (λ u h. solutions_one spec types analysed tree x.solution y.solution x.is_solution y.is_solution u ((x.are_unknowns.exactly u).0 h))
    ∙ ap (values_at y.solution) (unknowns_one spec tree x.unknowns y.unknowns x.are_unknowns y.are_unknowns) ∙ sym y.listed
