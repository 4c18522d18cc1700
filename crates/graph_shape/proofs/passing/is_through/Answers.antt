use Rattle.std.proofs.Common.{◌≡◌, Bool, List, sym, subst, ◌∙◌}
use Rattle.std.specs.List.{list_any}
use Rattle.std.proofs.lemmas.Map.Views.{list_any-from_Contains, Contains-from_any}
use Rattle.rule_plans.specs.declared.stop.Stop.TheVariants.{Entry, Exit}
use Rattle.rule_plans.specs.Hops.{Leads}
use Rattle.rule_plans.proofs.Stops.{is_same_stop, stop_same, stops_equiv}
use Rattle.graph_shape.specs.Shapes.{bits_of}
use Rattle.graph_shape.proofs.passing.is_through.Goals as goal

pub returns : goal.returns
returns c =
    let each = c.in_ok-found.ensures Exit in
    let bits : c.as_slice.result.now ≡ bits_of c.args.children.now = c.as_slice.ensures ∙ c.in_ok-bits.ensures in
    let answer : c.contains.result ≡ list_any (is_same_stop Exit) c.in_ok-found.found.keys = c.contains.ensures in (
      λ h. subst (λ (b : List Bool). Leads c.args.steps.now b Entry Exit) bits (each.0 (Contains-from_any stop_same Exit c.in_ok-found.found.keys (sym answer ∙ h))),
      λ l. answer ∙ list_any-from_Contains stops_equiv Exit c.in_ok-found.found.keys (each.1 (subst (λ (b : List Bool). Leads c.args.steps.now b Entry Exit) (sym bits) l)),
    )
