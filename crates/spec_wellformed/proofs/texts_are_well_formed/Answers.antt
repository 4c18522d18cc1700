use Rattle.spec_wellformed.proofs.WholeTexts.{texts_well_formed}
use Rattle.spec_wellformed.proofs.texts_are_well_formed.Goals as goal

pub returns : goal.returns
returns c = texts_well_formed
