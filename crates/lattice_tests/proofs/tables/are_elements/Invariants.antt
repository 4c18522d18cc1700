use Rattle.std.specs.Prelude.{All}
use Rattle.std.proofs.Common.{◌<◌, length, take}
use Rattle.value_domains.specs.Domains.{place_in, texts_of}
use Rattle.lattice_tests.proofs.tables.are_elements.Given as goal

abbrev pub invariant-loop-name : goal.invariant-loop-name
invariant-loop-name l = All (λ name. place_in (texts_of l.elements) name.text < length l.elements) (take l.name-index l.names)
