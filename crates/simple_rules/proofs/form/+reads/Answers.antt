use Rattle.std.proofs.Common.{ap, ◌∙◌, refl}
use Rattle.std.specs.List.{list_any}
use Rattle.flow_syntax.specs.declared.expr.ExprKind.TheOpen.{ExprKind-F}
use Rattle.flow_syntax.specs.Expressions.{all_of_option}
use Rattle.flow_syntax.proofs.ExprLayers.{layer_of_choose, layer_of_map_of}
use Rattle.simple_rules.specs.Simple.{holds_read}
use Rattle.simple_rules.proofs.HeldReads.{held_by_lists, held_by_more, held_by_parts, held_by_three, held_by_two, held_list, held_one, held_three, held_two}
use Rattle.simple_rules.proofs.form.+reads.Goals as goal

pub holds_read-returns-in-Call : goal.holds_read-returns-in-Call
holds_read-returns-in-Call t c = c.any_holds_read-in-Call.ensures ∙ ap (list_any holds_read) c.as_slice-in-Call.ensures ∙ held_list c.args.e.now c.in-Call.parts c.in-Call.is

pub holds_read-returns-in-MapOf : goal.holds_read-returns-in-MapOf
holds_read-returns-in-MapOf t c =
    held_by_lists _ _ c.in-MapOf.keys c.in-MapOf.values (c.any_holds_read.ensures ∙ ap (list_any holds_read) c.as_slice.ensures) (c.any_holds_read-in-MapOf.ensures ∙ ap (list_any holds_read) c.as_slice-in-MapOf.ensures)
    ∙ held_by_parts c.args.e.now _ (ExprKind-F.MapOf c.in-MapOf.keys c.in-MapOf.values) c.in-MapOf.is (layer_of_map_of c.in-MapOf.keys c.in-MapOf.values) refl

pub holds_read-returns-in-MakeFlat : goal.holds_read-returns-in-MakeFlat
holds_read-returns-in-MakeFlat t c = c.holds_read-in-MakeFlat.ensures ∙ ap holds_read c.get-in-MakeFlat.ensures ∙ held_one c.args.e.now c.in-MakeFlat.a c.in-MakeFlat.is

pub holds_read-returns-in-Both : goal.holds_read-returns-in-Both
holds_read-returns-in-Both t c =
    held_by_two _ _ c.in-Both.a c.in-Both.b (c.holds_read-in-Both.ensures ∙ ap holds_read c.get-in-Both.ensures) (c.holds_read-in-Both-2.ensures ∙ ap holds_read c.get-in-Both-2.ensures)
    ∙ held_two c.args.e.now c.in-Both.a c.in-Both.b c.in-Both.is

pub holds_read-returns-in-Update : goal.holds_read-returns-in-Update
holds_read-returns-in-Update t c =
    held_by_three _ _ _ c.in-Update.a c.in-Update.b c.in-Update.c (c.holds_read-in-Update.ensures ∙ ap holds_read c.get-in-Update.ensures) (c.holds_read-in-Update-2.ensures ∙ ap holds_read c.get-in-Update-2.ensures) (c.holds_read-in-Update-3.ensures ∙ ap holds_read c.get-in-Update-3.ensures)
    ∙ held_three c.args.e.now c.in-Update.a c.in-Update.b c.in-Update.c c.in-Update.is

pub holds_read-returns-in-Choose : goal.holds_read-returns-in-Choose
holds_read-returns-in-Choose t c =
    held_by_more _ _ _ c.in-Choose.element c.in-Choose.set (all_of_option c.in-Choose.condition) (c.holds_read.ensures ∙ ap holds_read c.get.ensures) (c.holds_read-in-Choose.ensures ∙ ap holds_read c.get-in-Choose.ensures) c.some_holds_read.ensures
    ∙ held_by_parts c.args.e.now _ (ExprKind-F.Choose c.in-Choose.element c.in-Choose.field-1 c.in-Choose.set c.in-Choose.condition) c.in-Choose.is (layer_of_choose c.in-Choose.element c.in-Choose.field-1 c.in-Choose.set c.in-Choose.condition) refl
