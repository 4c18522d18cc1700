use Rattle.std.proofs.Common.{subst}
use Rattle.simple_rules.specs.inner.Least.{IsLeast}
use Rattle.simple_rules.specs.Simple.{IsNotYet}
use Rattle.simple_rules.proofs.PlaceLemmas.{accepted_refuses_none, refused_at_first, refused_is_no_ok}
use Rattle.simple_rules.proofs.first.only_simple.Goals as goal

pub returns-in-None-clause-refused : goal.returns-in-None-clause-refused
returns-in-None-clause-refused c = accepted_refuses_none c.args.spec.now.spec (subst (IsLeast (IsNotYet c.args.spec.now.spec)) c.in-None.is c.first_not_yet.ensures)

pub returns-in-Some-clause-accepted : goal.returns-in-Some-clause-accepted
returns-in-Some-clause-accepted c = refused_is_no_ok c.args.spec.now.spec c.in-Some.place (subst (IsLeast (IsNotYet c.args.spec.now.spec)) c.in-Some.is c.first_not_yet.ensures)

pub returns-in-Some-clause-refused : goal.returns-in-Some-clause-refused
returns-in-Some-clause-refused c = refused_at_first c.args.spec.now.spec c.in-Some.place (subst (IsLeast (IsNotYet c.args.spec.now.spec)) c.in-Some.is c.first_not_yet.ensures)
