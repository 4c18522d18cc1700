use Rattle.std.proofs.Common.{ap, ◌∙◌, sym, nat_eq}
use Rattle.list_theory.specs.Lists.{distinct}
use Rattle.linked_lists.specs.Chains.{Lists, list_in}
use Rattle.linked_lists.proofs.ChainLemmas.{any_chain, list_in_model}
use Rattle.linked_lists.proofs.chains.Chains.iter.Goals as goal

pub returns-clause-once : goal.returns-clause-once
returns-clause-once c =
    ap (λ (v : Lists). distinct nat_eq (list_in v c.args.list)) (sym c.self.view_is)
    ∙ ap (distinct nat_eq) (list_in_model c.self.inside.heads.items c.self.inside.links.items c.args.list)
    ∙ (any_chain c.self.inside.heads.items c.self.inside.links.items c.args.list c.self.invariant).once
