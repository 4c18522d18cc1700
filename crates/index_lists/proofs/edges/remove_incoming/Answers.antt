use Rattle.std.proofs.Common.{◌≡◌, ◌∙◌, ap, arith, nat_eq, sym, true}
use Rattle.list_theory.specs.Lists.{has}
use Rattle.linked_lists.specs.Chains.{list_in}
use Rattle.index_lists.specs.Records.{second, has_key}
use Rattle.index_lists.proofs.GroupLemmas.{first_has, has_passed, list_shrinks, no_others, others_stay}
use Rattle.index_lists.proofs.edges.remove_incoming.Goals as goal

pub remove_edge-requires-clause-there : goal.remove_edge-requires-clause-there
remove_edge-requires-clause-there c =
    let there : has nat_eq (list_in c.loop-edge.incoming c.args.node) c.in-Some.edge ≡ true = first_has _ _ (sym c.first.ensures ∙ c.in-Some.is) in
    has_passed (has_key second c.args.node) c.loop-edge.records.entries c.in-Some.edge (ap (λ xs. has nat_eq xs c.in-Some.edge) (sym (c.loop-edge.invariant.edges.incoming_are c.args.node)) ∙ there)

pub loop-edge-smaller : goal.loop-edge-smaller
loop-edge-smaller c =
    let there : has nat_eq (list_in c.loop-edge.incoming c.args.node) c.in-Some.edge ≡ true = first_has _ _ (sym c.first.ensures ∙ c.in-Some.is) in
    list_shrinks second c.loop-edge.records.entries c.remove_edge.new.records.entries c.loop-edge.incoming c.remove_edge.new.incoming c.in-Some.edge c.args.node c.loop-edge.invariant.edges.incoming_are c.remove_edge.ensures.edges.incoming_are c.remove_edge.ensures.entries there

pub loop-edge-preserved : goal.loop-edge-preserved
loop-edge-preserved c =
    let there : has nat_eq (list_in c.loop-edge.incoming c.args.node) c.in-Some.edge ≡ true = first_has _ _ (sym c.first.ensures ∙ c.in-Some.is) in
    record {
      edges = c.remove_edge.ensures.edges;
      rest = others_stay second c.loop-edge.records.entries c.remove_edge.new.records.entries c.loop-edge.incoming c.in-Some.edge c.args.node c.loop-edge.invariant.edges.incoming_are c.loop-edge.invariant.edges.once c.remove_edge.ensures.entries there ∙ c.loop-edge.invariant.rest;
      spare = omega (arith, c.loop-edge.invariant.spare, c.remove_edge.ensures.spare);
      nodes = c.remove_edge.ensures.nodes ∙ c.loop-edge.invariant.nodes;
    }

pub returns-clause-entries : goal.returns-clause-entries
returns-clause-entries c = sym (no_others second c.loop-edge.records.entries c.loop-edge.incoming c.args.node c.loop-edge.invariant.edges.incoming_are (λ x h. c.in_default.not-Some x (c.first.ensures ∙ h))) ∙ c.loop-edge.invariant.rest
