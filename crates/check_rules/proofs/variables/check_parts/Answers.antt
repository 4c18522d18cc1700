use Rattle.std.proofs.Common.{List, ◌≡◌, ◌++◌, ◌∙◌, ap, bytes_eq, map, subst}
use Rattle.std.specs.List.{list_any}
use Rattle.check_base.specs.Earliest.{Gathers, SomeHas}
use Rattle.flow_syntax.specs.declared.message.Part.{Part}
use Rattle.flow_syntax.specs.Binders.{Binder, bound_in}
use Rattle.check_rules.specs.Faults.{IsLooseIn}
use Rattle.check_rules.specs.inner.Tables.{has_name, known_bound, known_by}
use Rattle.check_rules.proofs.Repeats.{gathers_loose, of_pattern}
use Rattle.check_rules.proofs.variables.check_parts.Goals as goal

pub returns : goal.returns
returns c =
    let same : map known_by c.as_slice.result.now ≡ map known_bound (bound_in c.args.message.now.pattern) =
    ap (map known_by) c.as_slice.ensures.value ∙ c.in_ok-push_variables.ensures ∙ ap (λ xs. map known_by xs ++ map known_bound (bound_in c.args.message.now.pattern)) c.new-bindings.ensures.items in
    gathers_loose c.args.message.now (has_name c.in_ok-variables.variables)
    (λ x. c.in_ok-variables.ensures x ∙ ap (list_any (λ (b : Binder). bytes_eq x b.name)) (of_pattern c.as_slice.result.now (bound_in c.args.message.now.pattern) same))
    (subst (λ (parts : List Part). Gathers c.args.earliest.now c.note_loose_parts.new.earliest (SomeHas (λ k. IsLooseIn c.in_ok-variables.variables) parts)) c.as_slice-2.ensures c.note_loose_parts.ensures)
