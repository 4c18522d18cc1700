use Rattle.std.proofs.Common.{rules, ◌≡◌, ap, ◌∙◌}
use Rattle.std.specs.Prelude.{not}
use Rattle.std.specs.List.{filter}
use Rattle.std.specs.Ordering.{eq_by_cmp}
use Rattle.std.proofs.lemmas.Fn.{filter_same}
use Rattle.flow_term.specs.Elements.{elem_cmp}
use Rattle.value_domains.specs.Values.{pairs_of}
use Rattle.eval_values.proofs.EntryLists.{kept_pairs}
use Rattle.eval_values.proofs.maps.take_out.Goals as goal

pub returns : goal.returns
returns c =
    let kept : c.retain.new.self.items ≡ filter (λ e. not (eq_by_cmp elem_cmp e.key c.args.key.now)) c.args.entries.now.items = filter_same _ _ _ (λ x b f' k. search rules) _ _ c.retain.ensures.filtered in
    ap pairs_of kept ∙ kept_pairs c.args.entries.now.items c.args.key.now
