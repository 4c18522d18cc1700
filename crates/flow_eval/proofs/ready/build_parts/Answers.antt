use Rattle.std.proofs.Common.{refl}
use Rattle.flow_eval.proofs.Parts.{all_lawful, mode_refused}
use Rattle.flow_eval.proofs.ready.build_parts.Goals as goal

pub returns-in-Err-clause-refused : goal.returns-in-Err-clause-refused
returns-in-Err-clause-refused c =
    mode_refused c.args.spec.now c.in_ok-lattices.lattices c.in_ok-functions.functions c.in-Err.fault c.in_ok-lattices.ensures.built c.in_ok-functions.ensures.built ((c.in-Err.ensures.refused c.in-Err.fault).0 refl)

pub returns-clause-lawful : goal.returns-clause-lawful
returns-clause-lawful c = all_lawful c.args.spec.now.spec.lattices c.in_ok-lattices.lattices c.in_ok-lattices.ensures.built
