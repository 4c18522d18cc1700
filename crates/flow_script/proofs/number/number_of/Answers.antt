use Rattle.std.proofs.Common.{◌≡◌, ap, ◌∙◌}
use Rattle.std.specs.Prelude.{Ok}
use Rattle.std.specs.Char.{is_ascii_digit}
use Rattle.std.specs.List.{list_all}
use Rattle.std.specs.Str.Parse.{digits_value}
use Rattle.flow_script.proofs.Numbers.{parsed}
use Rattle.flow_script.proofs.number.number_of.Goals as goal

pub unreachable-requires-in-Err : goal.unreachable-requires-in-Err
unreachable-requires-in-Err c =
    let same : c.in-Ok.text.now ≡ c.args.digits.now = c.in-Ok.ensures.cases.0 in
    let told : c.parse.result ≡ Ok (digits_value 10 c.in-Ok.text.now) = parsed c.in-Ok.text.now c.parse.result (ap (list_all is_ascii_digit) same ∙ c.requires.digits) (rw same c.requires.some) (rw same c.requires.few) c.parse.ensures.value.0 in
    cc (told, c.in-Err.is)
