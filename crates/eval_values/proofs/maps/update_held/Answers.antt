use Rattle.std.proofs.Common.{sym, ap, ◌∙◌}
use Rattle.flow_term.specs.declared.value.Value.TheVariants as value
use Rattle.value_domains.specs.Values.{entries_of, pairs_of}
use Rattle.value_domains.specs.inner.DomainLaws.{entries_back}
use Rattle.lattice_any.specs.Types.{domain_of_any}
use Rattle.expr_meaning.specs.Meaning.{updated}
use Rattle.eval_values.specs.Held.{elem_of, value_of}
use Rattle.eval_values.proofs.maps.update_held.Goals as goal

pub returns : goal.returns
returns c =
    ap value.Map
    (c.from_vec.ensures ∙ sym (entries_back _) ∙ ap entries_of (c.in_ok-replace.ensures ∙ ap (λ es. updated (domain_of_any c.args.lattice.now) (pairs_of es) (elem_of c.args.key) (value_of c.args.value)) c.in_ok-entries.ensures))
