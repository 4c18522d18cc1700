use Rattle.spec_grammar.proofs.Wholes.{all_found, all_only, all_fault, all_fault_only}
use Rattle.spec_grammar.proofs.one_token_decides.Goals as goal

pub returns : goal.returns
returns c = record {
  value = λ ts spec. (all_found ts spec, all_only ts spec);
  fault = λ ts cause rest. (all_fault ts cause rest, all_fault_only ts cause rest);
}
