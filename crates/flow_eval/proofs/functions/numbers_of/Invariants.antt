use Rattle.std.proofs.Common.{◌≡◌, map, take}
use Rattle.value_domains.specs.Domains.{place_in, texts_of}
use Rattle.flow_eval.proofs.functions.numbers_of.Given as goal

abbrev pub invariant-loop-name : goal.invariant-loop-name
invariant-loop-name l = l.numbers ≡ map (place_in (texts_of l.elements)) (texts_of (take l.name-index l.names))
