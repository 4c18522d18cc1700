use Rattle.std.proofs.Common.{◌≡◌, ◌+◌, sym, ◌∙◌, ap, subst, ◌++◌, ◌∷◌, [], List, take, length, refl}
use Rattle.std.proofs.lemmas.List.{take_more}
use Rattle.std.proofs.lemmas.Option.{slice_get_read}
use Rattle.flow_syntax.specs.declared.signature.Constructor.{Constructor}
use Rattle.check_trees.specs.inner.Index.{IsIndexOfFirst}
use Rattle.check_trees.proofs.IndexLemmas.{indexed_push}
use Rattle.check_trees.proofs.constructors.index_names.Goals as goal

pub loop-number-preserved : goal.loop-number-preserved
loop-number-preserved c =
    let longer : take (c.loop-number.number + 1) c.args.constructors.now ≡ take c.loop-number.number c.args.constructors.now ++ c.index-constructors-number.result ∷ [] =
    take_more c.args.constructors.now c.loop-number.number c.index-constructors-number.result c.loop-number-test.true
    ∙ ap (λ (x : Constructor). take c.loop-number.number c.args.constructors.now ++ x ∷ []) (sym c.index-constructors-number.is) in
    subst (λ (cs : List Constructor). IsIndexOfFirst c.args.constructors.now cs c.add_number.new.by_name) (sym longer)
    (indexed_push c.args.constructors.now (take c.loop-number.number c.args.constructors.now) c.loop-number.by_name c.add_number.new.by_name c.index-constructors-number.result c.loop-number.number
    c.loop-number.invariant (slice_get_read c.args.constructors.now (length c.args.constructors.now) c.loop-number.number c.index-constructors-number.result refl c.loop-number-test.true c.index-constructors-number.is) c.in_ok-add_number.ensures)
