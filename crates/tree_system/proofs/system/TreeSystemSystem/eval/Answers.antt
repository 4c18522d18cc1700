use Rattle.std.proofs.Common.{◌≡◌, ℕ, Bool, List, [], Some, None, get_or, sym, ap, subst, ◌∙◌}
use Rattle.std.specs.Prelude.{IsSome}
use Rattle.std.proofs.lemmas.List.{get_or_default}
use Rattle.flow_term.proofs.Outcomes.{if_ok}
use Rattle.flow_term.specs.declared.value.Value.{Value}
use Rattle.flow_syntax.specs.declared.expr.Side.{Side}
use Rattle.constraint_names.specs.Numbering.{numbered}
use Rattle.expr_meaning.specs.Meaning.{Situation}
use Rattle.tree_constraints.specs.declared.constraint.Constraint.{Constraint}
use Rattle.tree_system.specs.Bodies.{CanRead, CanRun, IsBodyValue}
use Rattle.tree_system.specs.Reading.{has_value, value_there}
use Rattle.tree_system.specs.Tables.{by_place, no_bases, no_constraint, read_numbers}
use Rattle.tree_system.specs.TableLaws.{system_in}
use Rattle.tree_system.proofs.EvalFacts.{at_place, can_read, can_run, copied_there, copy_used, rule_in, value_is}
use Rattle.tree_system.proofs.system.TreeSystemSystem.eval.Goals as goal

pub value-requires-clause-there : goal.value-requires-clause-there
value-requires-clause-there g c =
    let s = c.args.self.now in
    let spec = g.B.Bodies.spec s.bodies in
    let types = g.B.Bodies.types s.bodies in
    let accepted = g.met.B.Bodies.accepted s.bodies in
    let n = by_place s.constraints s.unknowns s.keys s.in_use in
    let k = c.args.key in
    let one : c.index-as_slice-key.result ≡ get_or s.constraints k no_constraint =
    c.index-as_slice-key.is ∙ ap (λ (cs : List Constraint). get_or cs k c.index-as_slice-key.result) c.as_slice.ensures ∙ get_or_default s.constraints k c.index-as_slice-key.result no_constraint (s.tables.has_constraint k c.requires.key) in
    rule_in spec types accepted n s.of_tree s.tables s.bases.items s.places.items s.reading k c.requires.key c.in-Some.rule (sym (ap (λ (d : Constraint). d.rule) one) ∙ c.in-Some.is)

pub value-requires-clause-suits : goal.value-requires-clause-suits
value-requires-clause-suits g c =
    let s = c.args.self.now in
    let spec = g.B.Bodies.spec s.bodies in
    let types = g.B.Bodies.types s.bodies in
    let accepted = g.met.B.Bodies.accepted s.bodies in
    let n = by_place s.constraints s.unknowns s.keys s.in_use in
    let k = c.args.key in
    let one : c.index-as_slice-key.result ≡ get_or s.constraints k no_constraint =
    c.index-as_slice-key.is ∙ ap (λ (cs : List Constraint). get_or cs k c.index-as_slice-key.result) c.as_slice.ensures ∙ get_or_default s.constraints k c.index-as_slice-key.result no_constraint (s.tables.has_constraint k c.requires.key) in
    let e : (n.key k).rule ≡ Some c.in-Some.rule = sym (ap (λ (d : Constraint). d.rule) one) ∙ c.in-Some.is in
    let e1 : c.as_slice-in-Some-2.result.now ≡ (n.key k).bindings = c.as_slice-in-Some-2.ensures ∙ ap (λ (d : Constraint). d.bindings) one in
    let e2 : c.as_slice-in-Some.result.now ≡ s.places.items = c.as_slice-in-Some.ensures.value in
    let e3 : c.index.result.now ≡ get_or s.bases.items k no_bases = c.index.ensures ∙ get_or_default s.bases.items k c.index.result.now no_bases (s.reading.within k c.requires.key) in
    let now : Situation = record { bindings = c.as_slice-in-Some-2.result.now; reads = λ p side. value_there c.args.values.now c.index.result.now c.as_slice-in-Some.result.now p side } in
    let here : Situation = record { bindings = (n.key k).bindings; reads = λ p side. value_there c.args.values.now (get_or s.bases.items k no_bases) s.places.items p side } in
    let same : now ≡ here = λ i. record { bindings = e1 i; reads = λ p side. value_there c.args.values.now (e3 i) (e2 i) p side } in
    let bottom : ℕ → Value = (numbered (system_in spec types n) n).bottom in
    subst (λ (w : Situation). CanRun spec c.in-Some.rule w) (sym same)
    (can_run spec types accepted n s.of_tree s.tables s.bases.items s.places.items s.reading k c.requires.key c.args.values.now bottom c.requires.present c.requires.fitting c.in-Some.rule e)

pub value-requires-clause-reads : goal.value-requires-clause-reads
value-requires-clause-reads g c =
    let s = c.args.self.now in
    let spec = g.B.Bodies.spec s.bodies in
    let types = g.B.Bodies.types s.bodies in
    let accepted = g.met.B.Bodies.accepted s.bodies in
    let n = by_place s.constraints s.unknowns s.keys s.in_use in
    let k = c.args.key in
    let one : c.index-as_slice-key.result ≡ get_or s.constraints k no_constraint =
    c.index-as_slice-key.is ∙ ap (λ (cs : List Constraint). get_or cs k c.index-as_slice-key.result) c.as_slice.ensures ∙ get_or_default s.constraints k c.index-as_slice-key.result no_constraint (s.tables.has_constraint k c.requires.key) in
    let e : (n.key k).rule ≡ Some c.in-Some.rule = sym (ap (λ (d : Constraint). d.rule) one) ∙ c.in-Some.is in
    let e1 : c.as_slice-in-Some-2.result.now ≡ (n.key k).bindings = c.as_slice-in-Some-2.ensures ∙ ap (λ (d : Constraint). d.bindings) one in
    let e2 : c.as_slice-in-Some.result.now ≡ s.places.items = c.as_slice-in-Some.ensures.value in
    let e3 : c.index.result.now ≡ get_or s.bases.items k no_bases = c.index.ensures ∙ get_or_default s.bases.items k c.index.result.now no_bases (s.reading.within k c.requires.key) in
    let now : Situation = record { bindings = c.as_slice-in-Some-2.result.now; reads = λ p side. value_there c.args.values.now c.index.result.now c.as_slice-in-Some.result.now p side } in
    let here : Situation = record { bindings = (n.key k).bindings; reads = λ p side. value_there c.args.values.now (get_or s.bases.items k no_bases) s.places.items p side } in
    let same : now ≡ here = λ i. record { bindings = e1 i; reads = λ p side. value_there c.args.values.now (e3 i) (e2 i) p side } in
    let bottom : ℕ → Value = (numbered (system_in spec types n) n).bottom in
    let has_same : (λ p side. has_value c.args.values.now c.index.result.now c.as_slice-in-Some.result.now p side) ≡ (λ p side. has_value c.args.values.now (get_or s.bases.items k no_bases) s.places.items p side) =
    λ i p side. has_value c.args.values.now (e3 i) (e2 i) p side in
    subst (λ (has : ℕ → Side → Bool). CanRead spec c.in-Some.rule has) (sym has_same)
    (can_read spec types accepted n s.of_tree s.tables s.bases.items s.places.items s.reading k c.requires.key c.args.values.now bottom c.requires.present c.in-Some.rule)

pub unwrap-requires : goal.unwrap-requires
unwrap-requires g c =
    let s = c.args.self.now in
    let spec = g.B.Bodies.spec s.bodies in
    let types = g.B.Bodies.types s.bodies in
    let accepted = g.met.B.Bodies.accepted s.bodies in
    let n = by_place s.constraints s.unknowns s.keys s.in_use in
    let k = c.args.key in
    let one : c.index-as_slice-key.result ≡ get_or s.constraints k no_constraint =
    c.index-as_slice-key.is ∙ ap (λ (cs : List Constraint). get_or cs k c.index-as_slice-key.result) c.as_slice.ensures ∙ get_or_default s.constraints k c.index-as_slice-key.result no_constraint (s.tables.has_constraint k c.requires.key) in
    let e : (n.key k).rule ≡ None = sym (ap (λ (d : Constraint). d.rule) one) ∙ c.in-None.is in
    let row = c.as_slice-in-None.ensures ∙ at_place s.reads.items [] c.index-in-None.result.now (read_numbers spec n k) k c.index-in-None.ensures (s.tables.reads_are k c.requires.key) in
    let u = get_or c.as_slice-in-None.result.now 0 0 in
    copied_there c.get.result (subst (λ o. IsSome o) (sym c.get.ensures)
    (c.requires.present u (copy_used spec types accepted n s.of_tree s.tables s.bases.items s.places.items s.reading k c.requires.key e c.as_slice-in-None.result.now row)))

pub returns-in-Some-clause-value : goal.returns-in-Some-clause-value
returns-in-Some-clause-value g c =
    let s = c.args.self.now in
    let spec = g.B.Bodies.spec s.bodies in
    let types = g.B.Bodies.types s.bodies in
    let accepted = g.met.B.Bodies.accepted s.bodies in
    let n = by_place s.constraints s.unknowns s.keys s.in_use in
    let k = c.args.key in
    let one : c.index-as_slice-key.result ≡ get_or s.constraints k no_constraint =
    c.index-as_slice-key.is ∙ ap (λ (cs : List Constraint). get_or cs k c.index-as_slice-key.result) c.as_slice.ensures ∙ get_or_default s.constraints k c.index-as_slice-key.result no_constraint (s.tables.has_constraint k c.requires.key) in
    let e : (n.key k).rule ≡ Some c.in-Some.rule = sym (ap (λ (d : Constraint). d.rule) one) ∙ c.in-Some.is in
    let e1 : c.as_slice-in-Some-2.result.now ≡ (n.key k).bindings = c.as_slice-in-Some-2.ensures ∙ ap (λ (d : Constraint). d.bindings) one in
    let e2 : c.as_slice-in-Some.result.now ≡ s.places.items = c.as_slice-in-Some.ensures.value in
    let e3 : c.index.result.now ≡ get_or s.bases.items k no_bases = c.index.ensures ∙ get_or_default s.bases.items k c.index.result.now no_bases (s.reading.within k c.requires.key) in
    let now : Situation = record { bindings = c.as_slice-in-Some-2.result.now; reads = λ p side. value_there c.args.values.now c.index.result.now c.as_slice-in-Some.result.now p side } in
    let here : Situation = record { bindings = (n.key k).bindings; reads = λ p side. value_there c.args.values.now (get_or s.bases.items k no_bases) s.places.items p side } in
    let same : now ≡ here = λ i. record { bindings = e1 i; reads = λ p side. value_there c.args.values.now (e3 i) (e2 i) p side } in
    let bottom : ℕ → Value = (numbered (system_in spec types n) n).bottom in
    if_ok c.value.result c.value.ensures (λ v is.
    value_is spec types accepted n s.of_tree s.tables s.bases.items s.places.items s.reading k c.requires.key c.args.values.now bottom c.requires.present c.in-Some.rule e v
    (subst (λ (w : Situation). IsBodyValue spec types c.in-Some.rule w v) same is))
