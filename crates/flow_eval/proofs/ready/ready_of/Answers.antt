use Rattle.flow_eval.proofs.Parts.{all_monotone}
use Rattle.flow_eval.proofs.ready.ready_of.Goals as goal

pub invariant_of-result : goal.invariant_of-result
invariant_of-result c = record {
  few = c.requires.few;
  declared = ∣ c.requires.declared ∣₁;
  built = ∣ c.requires.built ∣₁;
  lawful = c.requires.lawful;
  monotone = all_monotone c.args.spec.spec c.args.spec.spec.functions _ c.requires.built;
  modes = c.requires.modes;
}
