-- What is noted of expressions.
use Rattle.std.specs.Prelude.{◌≡◌, ℕ, ◌-◌, List, [], ◌∷◌, ◌++◌, length, take, drop, map}
use Rattle.std.specs.List.{flat_map}
use Rattle.flow_syntax.specs.declared.message.Message.{Message}
use Rattle.flow_syntax.specs.declared.spec.Spec.{Spec}
use Rattle.flow_syntax.specs.ExprFaults.{message_scope}
use Rattle.flow_syntax.specs.Occurrences.{Occurrence, optional, expected_truth}
use Rattle.flow_syntax.specs.Inferred.{Inferred, is}
use Rattle.flow_syntax.specs.Types.{Typing, truth, typing_of}
use Rattle.check_base.specs.Earliest.{Gathers}
use Rattle.expr_typing.specs.Listing.{Lists}
use Rattle.check_exprs.specs.declared.notes.Notes.{Notes}
use Rattle.check_exprs.specs.inner.Own.{WholeHas, PartsHave}

-- the types that are listed
abbrev pub noted_types : Notes → List Typing
noted_types n = map typing_of n.types.items

-- a list in which the items from one place to another stand behind those that follow them
abbrev pub put_behind : ℕ → ℕ → List Typing → List Typing
put_behind start middle ts = take start ts ++ drop middle ts ++ take (middle - start) (drop start ts)

-- the type that is inferred, or else truth
abbrev pub inferred_or_expected : Inferred → Typing
inferred_or_expected (is t) = t
inferred_or_expected inferred_type = truth

-- The faults of an expression and its parts are noted, and their types are listed.
pub record IsNoted (spec : Spec) (p : Occurrence) (old new : Notes) : Type 0 where
  pub gathers : Gathers old.earliest new.earliest (WholeHas spec p)
  pub lists : Lists spec (p ∷ []) (noted_types old) (noted_types new)

-- The faults of expressions and their parts are noted, and their types are listed.
pub record AreNoted (spec : Spec) (ps : List Occurrence) (old new : Notes) : Type 0 where
  pub gathers : Gathers old.earliest new.earliest (PartsHave spec ps)
  pub lists : Lists spec ps (noted_types old) (noted_types new)

-- The faults of an expression and its parts are noted, and their types are listed before those that stood from a place on.
pub record IsNotedBefore (spec : Spec) (p : Occurrence) (start : ℕ) (old new : Notes) : Type 0 where
  pub gathers : Gathers old.earliest new.earliest (WholeHas spec p)
  pub between : List Typing
  pub lists : Lists spec (p ∷ []) (noted_types old) between
  pub turned : noted_types new ≡ put_behind start (length (noted_types old)) between

-- the conditions of messages at their places
abbrev pub conditions_of : List Message → List Occurrence
conditions_of ms = flat_map (λ m. optional (message_scope m) expected_truth m.condition) ms
