use Rattle.std.proofs.Common.{◌≡◌, bytes_eq, drop, find}
use Rattle.flow_eval.proofs.lattices.lattice_number.Given as goal

abbrev pub invariant-loop-number : goal.invariant-loop-number
invariant-loop-number l = find (λ d. bytes_eq l.name d.name.text) l.declared ≡ find (λ d. bytes_eq l.name d.name.text) (drop l.number l.declared)
