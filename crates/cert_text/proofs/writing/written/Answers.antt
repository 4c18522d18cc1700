use Rattle.std.proofs.Common.{ℕ, List, ◌++◌, ap, ◌∙◌}
use Rattle.std.specs.Prelude.{codes}
use Rattle.std.specs.List.{flat_map}
use Rattle.flow_term.specs.declared.graph.Edge.{Edge}
use Rattle.flow_term.specs.declared.value.Valued.{Valued}
use Rattle.flow_lines.specs.Lines.{count_line, edge_line, value_line}
use Rattle.tree_constraints.specs.declared.constraint.Key.{Key}
use Rattle.cert_text.specs.Texts.{step_line}
use Rattle.cert_text.proofs.Written.{written}
use Rattle.cert_text.proofs.writing.written.Goals as goal

pub returns : goal.returns
returns c =
    written c.args.certificate.now c.new-bytes.result.items c.extend_from_slice.new.self.items c.push_count.new.bytes.items c.push_edges.new.bytes.items c.push_count-2.new.bytes.items c.push_steps.new.bytes.items c.push_count-3.new.bytes.items
    c.push_values.new.bytes.items c.extend_from_slice-2.new.self.items
    c.new-bytes.ensures.items c.in_ok-extend_from_slice.ensures.items
    (c.in_ok-push_count.ensures ∙ ap (λ (n : ℕ). c.extend_from_slice.new.self.items ++ count_line (codes "edges ") n) c.len.ensures)
    (c.in_ok-push_edges.ensures ∙ ap (λ (xs : List Edge). c.push_count.new.bytes.items ++ flat_map edge_line xs) c.as_slice.ensures)
    (c.in_ok-push_count-2.ensures ∙ ap (λ (n : ℕ). c.push_edges.new.bytes.items ++ count_line (codes "steps ") n) c.len-2.ensures)
    (c.in_ok-push_steps.ensures ∙ ap (λ (xs : List Key). c.push_count-2.new.bytes.items ++ flat_map step_line xs) c.as_slice-2.ensures)
    (c.in_ok-push_count-3.ensures ∙ ap (λ (n : ℕ). c.push_steps.new.bytes.items ++ count_line (codes "values ") n) c.len-3.ensures)
    (c.in_ok-push_values.ensures ∙ ap (λ (xs : List Valued). c.push_count-3.new.bytes.items ++ flat_map value_line xs) c.as_slice-3.ensures)
    c.in_ok-extend_from_slice-2.ensures.items
