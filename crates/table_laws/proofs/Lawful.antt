-- The laws by numbers, by faults and by names.
use Rattle.std.proofs.Common.{◌∙◌}
use mathlib.Core.Logic.{⊎_elim, inl}
use Rattle.table_laws.specs.declared.fault.LawFault.TheVariants.{Idempotent, Commutative, Associative, BottomLaw}
use Rattle.table_laws.specs.JoinTables.{JoinTable, IsLawful, HasNoFault, join_of}
use Rattle.table_laws.specs.Laws.{FaultlessIsLawful, LawfulByNumbers, LawfulInNumbers}
use Rattle.table_laws.specs.inner.Numbers.{join_within, same_numbers, lawful_names, lawful_numbers}

pub by_numbers : LawfulByNumbers
by_numbers t complete laws = lawful_names t complete laws

pub in_numbers : LawfulInNumbers
in_numbers t once complete laws = lawful_numbers t complete once laws

broken : (t : JoinTable) → IsLawful t → HasNoFault t
broken t laws (Idempotent a) f = f.1 (laws.idempotent a f.0)
broken t laws (Commutative a b) f = f.2 (laws.commutative a b f.0 f.1)
broken t laws (Associative a b c) f = f.3 (laws.associative a b c f.0 f.1 f.2)
broken t laws (BottomLaw a) f =
    ⊎_elim (λ k. k (laws.neutral a f.0)) (λ k. k (laws.commutative a t.bottom f.0 laws.least_valid ∙ laws.neutral a f.0)) f.1

pub faultless : FaultlessIsLawful
faultless t complete = (
  λ none. record {
    least_valid = complete.bottom;
    joined_valid = join_within t complete;
    idempotent = λ a h. same_numbers (join_of t a a) a (λ k. none (Idempotent a) (h, k));
    commutative = λ a b h k. same_numbers (join_of t a b) (join_of t b a) (λ l. none (Commutative a b) (h, k, l));
    associative = λ a b c h k l. same_numbers (join_of t (join_of t a b) c) (join_of t a (join_of t b c)) (λ m. none (Associative a b c) (h, k, l, m));
    neutral = λ a h. same_numbers (join_of t t.bottom a) a (λ k. none (BottomLaw a) (h, inl k));
  },
  broken t,
)
