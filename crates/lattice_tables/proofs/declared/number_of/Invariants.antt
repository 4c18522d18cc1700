use Rattle.std.proofs.Common.{◌≡◌, ◌+◌, drop}
use Rattle.value_domains.specs.Domains.{place_in, texts_of}
use Rattle.lattice_tables.proofs.declared.number_of.Given as goal

abbrev pub invariant-loop-at : goal.invariant-loop-at
invariant-loop-at l = place_in (texts_of l.elements) l.name ≡ l.at + place_in (texts_of (drop l.at l.elements)) l.name
