use Rattle.std.proofs.Common.{◌≡◌, true, refl, subst, w64}
use Rattle.std.specs.Str.{is_utf8}
use Rattle.std.specs.Str.Parse.{ParsesSigned}
use Rattle.std.proofs.lemmas.Str.{is_utf8-from_IsUtf8}
use Rattle.value_text.specs.inner.Reading.{integer_of}
use Rattle.value_text.proofs.Numbers.{number_found, number_none}
use Rattle.value_text.proofs.Tokens.{not_utf8}
use Rattle.value_text.proofs.elems.integer_of.Goals as goal

pub returns-in_default : goal.returns-in_default
unfolding integer_of
returns-in_default c = rw (not_utf8 c.args.bytes.now c.in_default.ensures.cases.0) refl

pub returns-in-Ok-parse : goal.returns-in-Ok-parse
unfolding integer_of
returns-in-Ok-parse c =
    let utf8 : is_utf8 c.args.bytes.now ≡ true = is_utf8-from_IsUtf8 c.args.bytes.now c.in-Ok.ensures.cases.1 in
    rw utf8 (number_found c.args.bytes.now c.parse.result c.in-Ok-parse.number (subst (λ bs. ParsesSigned w64 10 bs c.parse.result) c.in-Ok.ensures.cases.0 c.parse.ensures.value.0) c.in-Ok-parse.is)

pub returns-in-Err : goal.returns-in-Err
unfolding integer_of
returns-in-Err c =
    let utf8 : is_utf8 c.args.bytes.now ≡ true = is_utf8-from_IsUtf8 c.args.bytes.now c.in-Ok.ensures.cases.1 in
    rw utf8 (number_none c.args.bytes.now c.parse.result c.in-Err.field-0 (subst (λ bs. ParsesSigned w64 10 bs c.parse.result) c.in-Ok.ensures.cases.0 c.parse.ensures.value.0) c.in-Err.is)
