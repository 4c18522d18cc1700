use Rattle.cert_text.proofs.Steps.{refused_bare, refused_line, taken}
use Rattle.std.proofs.Common.{refl}
use Rattle.cert_text.proofs.reading.read_line.Goals as goal

pub returns-in_default-clause-refused : goal.returns-in_default-clause-refused
returns-in_default-clause-refused c = refused_bare c.args.progress.now c.args.rest.now c.args.number c.args.number c.unended.result c.requires c.in_default.ensures.none refl c.unended.ensures

pub returns-in-Ok-clause-taken : goal.returns-in-Ok-clause-taken
returns-in-Ok-clause-taken c = taken c.args.progress.now c.take_line.new.progress c.args.rest.now c.in-Some.body.now c.in-Some.others.now c.in-Some.ensures.found c.in-Ok.ensures

pub returns-in-Err-clause-refused : goal.returns-in-Err-clause-refused
returns-in-Err-clause-refused c =
    refused_line (Unit {0}) c.args.progress.now c.take_line.new.progress c.args.rest.now c.in-Some.body.now c.in-Some.others.now c.args.number c.in-Err.fault c.at_line.result c.in-Some.ensures.found c.in-Err.ensures c.at_line.ensures
