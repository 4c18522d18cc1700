-- What was written, by the status.
use Rattle.std.proofs.Common.{◌≡◌, ℕ, List, [], Option, Some, None, take, refl, sym, ap, subst, ◌∙◌, inl, inr, append-nil}
use Rattle.std.specs.Prelude.{IfSome}
use Rattle.flow_io.specs.Contents.{Contents}
use Rattle.flow_io.specs.Pieces.{appended}
use Rattle.flow_cli.specs.declared.output.End.{End}
use Rattle.flow_cli.specs.declared.output.End.TheVariants as end
use Rattle.flow_cli.specs.declared.status.Status.{Status}
use Rattle.flow_cli.specs.declared.status.Status.TheVariants as status
use Rattle.flow_cli.specs.declared.words.Request.{Request}
use Rattle.flow_cli.specs.inner.Written.{IsWritten, all, part}
use Rattle.flow_cli.specs.Outcome.{IsOutcome, IsCompleted, Outcome, WritesNothing, status_of}
use Rattle.flow_cli.specs.Whole.{Whole}
use Rattle.flow_cli.specs.Words.{request_of}
use Rattle.flow_cli.proofs.WholeLemmas.{ends_agree}

-- what holds for each content of a folder holds where it tells
pub where_told : {X : Type 0} {P : X → Type 0} (told : Option X) → ((x : X) → P x) → IfSome told P
where_told None h = tt
where_told (Some x) h = h x

-- nothing more was written
pub nothing_more : (before : Option (List ℕ)) → before ≡ appended before []
nothing_more None = refl
nothing_more (Some bytes) = ap Some (sym (append-nil bytes))

-- with nothing written, a status that says so is as it says
pub nothing_written : (words : List (List ℕ)) (files : Contents) (before after : Option (List ℕ)) (s : Status) → WritesNothing s → after ≡ before → IsOutcome words files before after s
nothing_written words files before after status.Done silent same = absurd silent
nothing_written words files before after status.Refused silent same = absurd silent
nothing_written words files before after status.WriteFault silent same = absurd silent
nothing_written words files before after status.Usage silent same = record { written = []; behind = same ∙ nothing_more before; outcome = refl }
nothing_written words files before after status.ReadFault silent same = record { written = []; behind = same ∙ nothing_more before; outcome = refl }
nothing_written words files before after status.NoMemory silent same = record { written = []; behind = same ∙ nothing_more before; outcome = refl }

module _ (words : List (List ℕ)) (files : Contents) (request : Request) (asked : request_of words ≡ Some request) (before after : Option (List ℕ)) where
  -- what was written of a whole output is as the status says
  pub outcome_of_written : (bytes : List ℕ) (how : End) (s : Status) → Whole request files bytes how → IsWritten bytes how before after s → IsOutcome words files before after s
  outcome_of_written bytes end.Done s whole (all e a) = record {
    written = bytes;
    behind = a;
    outcome = subst (λ (t : Status). Outcome words files bytes t) (sym e) (record { request = request; asked = asked; whole = whole });
  }
  outcome_of_written bytes end.Refused s whole (all e a) = record {
    written = bytes;
    behind = a;
    outcome = subst (λ (t : Status). Outcome words files bytes t) (sym e) (record { request = request; asked = asked; whole = whole });
  }
  outcome_of_written bytes how s whole (part e n short a) = record {
    written = take n bytes;
    behind = a;
    outcome = subst (λ (t : Status). Outcome words files (take n bytes) t) (sym e)
        (record { out = bytes; how = how; whole = record { request = request; asked = asked; whole = whole }; n = n; short = short; part = refl });
  }

-- without faults a run whose words ask for something ends with the status of its whole output, unless memory ran out
pub completed : (words : List (List ℕ)) (files : Contents) (before after : Option (List ℕ)) (s : Status) → IsOutcome words files before after s
    → (s ≡ status.ReadFault → ⊥) → (s ≡ status.WriteFault → ⊥) → (s ≡ status.Usage → ⊥) → IsCompleted words files s
completed words files before after status.Done o no_read no_write asked out how whole = inl (ap status_of (ends_agree words files o.written out end.Done how o.outcome whole))
completed words files before after status.Refused o no_read no_write asked out how whole = inl (ap status_of (ends_agree words files o.written out end.Refused how o.outcome whole))
completed words files before after status.Usage o no_read no_write asked out how whole = absurd (asked refl)
completed words files before after status.ReadFault o no_read no_write asked out how whole = absurd (no_read refl)
completed words files before after status.WriteFault o no_read no_write asked out how whole = absurd (no_write refl)
completed words files before after status.NoMemory o no_read no_write asked out how whole = inr refl

-- words that ask for nothing have no whole output
pub nothing_to_complete : (words : List (List ℕ)) (files : Contents) (s : Status) → request_of words ≡ None → IsCompleted words files s
nothing_to_complete words files s none out how whole = let e : None ≡ Some whole.request = sym none ∙ whole.asked in cc
