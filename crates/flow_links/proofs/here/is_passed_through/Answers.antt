use Rattle.std.proofs.Common.{ap}
use Rattle.std.specs.Option.{option_copied}
use Rattle.flow_links.proofs.here.is_passed_through.Goals as goal

pub returns-in-Some-clause-plain : goal.returns-in-Some-clause-plain
returns-in-Some-clause-plain c = λ h. (c.in-Some.rule.now, ap option_copied c.in-Some.is, h)
