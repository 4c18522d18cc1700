use Rattle.std.proofs.Common.{rules, arith, ◌≡◌, ◌*◌, ◌<◌, ap, sym, ◌∙◌, length}
use Rattle.std.proofs.lemmas.List.{length-map}
use Rattle.std.proofs.lemmas.List.Elements.{All-map}
use Rattle.flow_syntax.specs.declared.spec.Named.{Named}
use Rattle.value_domains.specs.Domains.{place_in, texts_of}
use Rattle.lattice_tests.proofs.tables.is_well_declared.Goals as goal

pub returns-then-bottom-count-clause-complete : goal.returns-then-bottom-count-clause-complete
returns-then-bottom-count-clause-complete c = λ told.
    let elements = c.args.decl.now.elements in
    let join = c.args.decl.now.join in
    let many = length-map elements (λ (n : Named). n.text) in
    record {
      bottom = search rules;
      size = length-map (texts_of join) (place_in (texts_of elements)) ∙ length-map join (λ (n : Named). n.text) ∙ search rules ∙ ap (λ n. n * n) (sym many);
      entries = All-map (λ i. i < length (texts_of elements)) (place_in (texts_of elements)) (texts_of join)
          (All-map (λ x. place_in (texts_of elements) x < length (texts_of elements)) (λ (n : Named). n.text) join (search rules));
    }
