use Rattle.std.proofs.Common.{ℕ, false, List, [], Contains, subst, sym}
use Rattle.std.specs.Prelude.{◌↔◌}
use Rattle.flow_term.specs.declared.graph.Link.{Link}
use Rattle.flow_syntax.specs.Graph.{IsLink}
use Rattle.flow_links.specs.Below.{Adds, LinksBelow}
use Rattle.flow_links.proofs.BelowLemmas.{whole_tree}
use Rattle.flow_term.proofs.Outcomes.{if_ok}
use Rattle.flow_links.proofs.collect.links_by.Goals as goal

pub returns-clause-exactly : goal.returns-clause-exactly
returns-clause-exactly c =
    let from_root : Adds c.new-out.result c.add_below.new.out (LinksBelow c.args.rules.now.spec.now.spec false c.args.tree.now []) =
    subst (λ (path : List ℕ). Adds c.new-out.result c.add_below.new.out (LinksBelow c.args.rules.now.spec.now.spec false c.args.tree.now path)) c.new-path.ensures.items c.in_ok-add_below.ensures.links in
    if_ok c.into_list.result c.into_list.ensures.same (λ (list : List Link) same (x : Link).
    subst (λ (xs : List Link). Contains xs x ↔ IsLink c.args.rules.now.spec.now.spec c.args.tree.now x.from x.to) (sym same)
    (whole_tree c.args.rules.now.spec.now.spec c.args.tree.now c.new-out.result c.add_below.new.out c.new-out.ensures from_root x))
