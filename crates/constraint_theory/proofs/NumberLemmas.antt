-- Numbers as keys and unknowns.
use Rattle.list_theory.proofs.NumberLemmas.{numbers_exact}
use Rattle.constraint_theory.specs.Systems.{IsEquality, numbers}

pub numbers_tell : IsEquality numbers
numbers_tell = record { keys = numbers_exact; unknowns = numbers_exact }
