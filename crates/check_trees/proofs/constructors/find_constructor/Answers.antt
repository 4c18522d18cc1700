use Rattle.std.proofs.Common.{◌∙◌, ap, find, length, ◌==◌, List, [], ℕ, Option}
use Rattle.std.specs.Prelude.{unwrap_or}
use Rattle.std.specs.Option.{option_copied}
use Rattle.flow_syntax.specs.declared.signature.Constructor.{Constructor}
use Rattle.check_trees.specs.inner.Index.{numbered}
use Rattle.check_trees.proofs.IndexLemmas.{found_among}
use Rattle.check_trees.proofs.constructors.find_constructor.Goals as goal

pub returns-in_err-numbers : goal.returns-in_err-numbers
returns-in_err-numbers c =
    ap option_copied c.from_residual.ensures
    ∙ ap (λ (o : Option (List ℕ)). find (λ (d : Constructor). length d.args == c.args.count) (numbered c.args.constructors.now (unwrap_or o []))) c.in_err-numbers.ensures.value
    ∙ ap (find (λ (d : Constructor). length d.args == c.args.count)) (c.requires c.args.name.now)
    ∙ found_among c.args.constructors.now c.args.name.now c.args.count

pub returns : goal.returns
returns c =
    c.with_count.ensures
    ∙ ap (λ (ns : List ℕ). find (λ (d : Constructor). length d.args == c.args.count) (numbered c.args.constructors.now ns)) c.as_slice.ensures
    ∙ ap (λ (o : Option (List ℕ)). find (λ (d : Constructor). length d.args == c.args.count) (numbered c.args.constructors.now (unwrap_or o []))) c.in_ok-numbers.ensures.value
    ∙ ap (find (λ (d : Constructor). length d.args == c.args.count)) (c.requires c.args.name.now)
    ∙ found_among c.args.constructors.now c.args.name.now c.args.count
