-- Runs of visits, one after another.
use Rattle.std.proofs.Common.{◌≡◌, ℕ, ◌+◌, ◌<◌, ◌≤◌, true, [], ◌∷◌, ◌++◌, length, refl, ap, ◌∙◌, arith, length-append, add-zero}
use Rattle.std.specs.Prelude.{nat_eq, Result, Ok, Err, OnOk, IfErr, IsErrAnd}
use Rattle.list_theory.specs.Lists.{has}
use Rattle.constraint_theory.specs.Systems.{ConstraintSystem, IsLawful, IsLeast, bound, numbers}
use Rattle.constraint_theory.specs.Machine.{IsSound, State, potential, replay, visited}
use Rattle.constraint_theory.proofs.LeastLemmas as least
use Rattle.constraint_theory.proofs.BoundLemmas as bounds
use Rattle.constraint_theory.proofs.VisitLemmas as visits
use Rattle.constraint_theory.proofs.NumberLemmas.{numbers_tell}
use Rattle.flow_solver.specs.declared.answers.Visited.{Visited}
use Rattle.flow_solver.specs.declared.answers.Visited.TheVariants.{Idle, Held, Raised}
use Rattle.flow_solver.specs.declared.answers.SettleRefusal.{SettleRefusal}
use Rattle.flow_solver.specs.declared.answers.SettleRefusal.TheVariants.{Spent, NoMemory}
use Rattle.flow_solver.specs.Runs.{CountedRun, IsEarly, IsRefused, IsRun, IsSettled, IsVisit, RefusedRun, IsAsBefore, visits_of}

module _ {V : Type 0} (s : ConstraintSystem ℕ ℕ V) (law : IsLawful numbers s) where
  -- where something waits, a visit counts
  pub one_visit : (old new : State ℕ) (v : Visited) → 0 < length old.waiting → IsVisit s old v new → visits_of v ≡ 1
  one_visit old new Idle some visit = let none : length old.waiting ≡ 0 = ap length visit.0 in absurd (omega arith)
  one_visit old new Held some visit = refl
  one_visit old new Raised some visit = refl

  pub run_none : (st : State ℕ) → IsRun s 0 st st
  run_none st = ([], refl, tt, refl)

  pub run_push : (n : ℕ) (old mid : State ℕ) (k : ℕ) → IsRun s n old mid → has nat_eq mid.waiting k ≡ true → IsRun s (n + 1) old (visited numbers s mid k)
  run_push n old mid k run waits =
      (run.0 ++ k ∷ [], omega (arith, run.1, length-append run.0 (k ∷ [])), visits.legal_push numbers numbers_tell s law.monotone run.0 old k run.2 (ap (λ (st : State ℕ). has nat_eq st.waiting k) run.3 ∙ waits), visits.after_push numbers numbers_tell s law.monotone run.0 old k ∙ ap (λ st. visited numbers s st k) run.3)

  -- a visit carries a run on
  pub run_visit : (n : ℕ) (old mid new : State ℕ) (v : Visited) → IsRun s n old mid → IsVisit s mid v new → IsRun s (n + visits_of v) old new
  run_visit n old mid new Idle run visit = rw (add-zero, visit.1) run
  run_visit n old mid new Held run visit = rw visit.2.1 (run_push n old mid visit.0 run visit.2.0)
  run_visit n old mid new Raised run visit = rw visit.2.1 (run_push n old mid visit.0 run visit.2.0)

  pub run_bounded : (n : ℕ) (old new : State ℕ) → IsSound numbers s old → IsRun s n old new → n ≤ bound numbers s
  run_bounded n old new sound run = omega (arith, run.1, bounds.visits_from_sound numbers numbers_tell s law run.0 old sound run.2)

  -- a run after which something waits is below the bound
  pub run_below : (n : ℕ) (old new : State ℕ) → IsSound numbers s old → IsRun s n old new → 0 < length new.waiting → n < bound numbers s
  run_below n old new sound run more =
      omega (arith, run.1, bounds.unfinished_from_sound numbers numbers_tell s law run.0 old sound run.2 (rw run.3 more))

  visit_falls_at : (mid new : State ℕ) (k : ℕ) → IsSound numbers s mid → has nat_eq mid.waiting k ≡ true → new ≡ visited numbers s mid k → potential numbers s new s.unknowns < potential numbers s mid s.unknowns
  visit_falls_at mid new k sound waits e = rw e (bounds.potential_falls numbers numbers_tell s law s.unknowns mid k sound (visits.closed_all numbers numbers_tell s law.monotone mid.waiting sound.waiting_known) waits)

  pub visit_falls : (mid new : State ℕ) (v : Visited) → IsSound numbers s mid → IsVisit s mid v new → visits_of v ≡ 1 → potential numbers s new s.unknowns < potential numbers s mid s.unknowns
  visit_falls mid new Idle sound visit one = absurd (omega arith)
  visit_falls mid new Held sound visit one = visit_falls_at mid new visit.0 sound visit.2.0 visit.2.1
  visit_falls mid new Raised sound visit one = visit_falls_at mid new visit.0 sound visit.2.0 visit.2.1

  pub counted_none : (st : State ℕ) (b : ℕ) → CountedRun s st st b b
  counted_none st b = (0, run_none st, omega arith)

  pub counted_visit : (old mid new : State ℕ) (v : Visited) (b m e : ℕ) → CountedRun s old mid b m → IsVisit s mid v new → e ≡ m + visits_of v → CountedRun s old new b e
  counted_visit old mid new v b m e run visit counted = (run.0 + visits_of v, run_visit run.0 old mid new v run.1 visit, omega (arith, run.2))

  -- a visit that memory refused ends a run
  pub refused_visit : {k : ℕ} (old mid new : State ℕ) (n b m e : ℕ) → IsRun s n old mid → m ≡ b + n → IsAsBefore k mid new → (m ≤ e) × (e ≤ m + 1) → RefusedRun s old new b e
  refused_visit {k = k} old mid new n b m e run counted before more = (n, (mid, run, k, before), omega (arith, more.0), omega (arith, more.1))

  pub early_no_memory : (r : Result (Unit {0}) SettleRefusal) (old new : State ℕ) (b e limit : ℕ) → IsErrAnd r (λ refusal. refusal ≡ NoMemory) → RefusedRun s old new b e → IfErr r (IsEarly s old new b e limit)
  early_no_memory (Ok u) old new b e limit is run = absurd is
  early_no_memory (Err refusal) old new b e limit is run = rw is run

  pub settled_bounded : (old new : State ℕ) (b e : ℕ) → IsSound numbers s old → IsSettled s old new b e → e ≤ b + bound numbers s
  settled_bounded old new b e sound settled = omega (arith, run_bounded settled.1.0 old new sound settled.1.1, settled.1.2)

  refused_bounded : (old new : State ℕ) (b e : ℕ) → IsSound numbers s old → RefusedRun s old new b e → e ≤ b + bound numbers s + 1
  refused_bounded old new b e sound run = omega (arith, run_bounded run.0 old run.1.0 sound run.1.1, run.3)

  early_bounded : (old new : State ℕ) (b e limit : ℕ) (r : SettleRefusal) → IsSound numbers s old → IsEarly s old new b e limit r → e ≤ b + bound numbers s + 1
  early_bounded old new b e limit (Spent n) sound early = omega (arith, run_bounded n old new sound early.1.2, early.1.3)
  early_bounded old new b e limit NoMemory sound early = refused_bounded old new b e sound early

  refusal_bounded : (old new : State ℕ) (b e : ℕ) (r : SettleRefusal) → IsSound numbers s old → IsRefused s old new b e r → e ≤ b + bound numbers s + 1
  refusal_bounded old new b e (Spent n) sound refused = absurd refused
  refusal_bounded old new b e NoMemory sound refused = refused_bounded old new b e sound refused

  pub within_bounded : (r : Result (Unit {0}) SettleRefusal) (old new : State ℕ) (b e limit : ℕ) → IsSound numbers s old → OnOk r (IsSettled s old new b e) → IfErr r (IsEarly s old new b e limit) → e ≤ b + bound numbers s + 1
  within_bounded (Ok u) old new b e limit sound ok err = omega (arith, settled_bounded old new b e sound ok)
  within_bounded (Err r) old new b e limit sound ok err = early_bounded old new b e limit r sound err

  pub all_bounded : (r : Result (Unit {0}) SettleRefusal) (old new : State ℕ) (b e : ℕ) → IsSound numbers s old → OnOk r (IsSettled s old new b e) → IfErr r (IsRefused s old new b e) → e ≤ b + bound numbers s + 1
  all_bounded (Ok u) old new b e sound ok err = omega (arith, settled_bounded old new b e sound ok)
  all_bounded (Err r) old new b e sound ok err = refusal_bounded old new b e r sound err

  pub least_where_empty : (st : State ℕ) → IsSound numbers s st → st.waiting ≡ [] → IsLeast numbers s (replay numbers s st.steps)
  least_where_empty st sound e = least.least_at_rest numbers numbers_tell s law.monotone st sound (λ k. ap (λ w. has nat_eq w k) e)
