use Rattle.check_base.proofs.Whole.{whole_names}
use Rattle.check_base.proofs.names.names_of.Goals as goal

pub returns : goal.returns
returns c = whole_names c.args.spec.now c.in_ok-sections.sections c.in_ok-members.members c.in_ok-constructors.constructors c.in_ok-sections.ensures c.in_ok-members.ensures c.in_ok-constructors.ensures
