use Rattle.std.proofs.Common.{◌≡◌, ap, ◌∙◌}
use Rattle.std.specs.Prelude.{string_bytes}
use Rattle.flow_io.specs.declared.memory_folder.File.{File}
use Rattle.flow_io.proofs.EntriesLemmas.{contents-push, contents-set}
use Rattle.flow_io.proofs.memory_folder.put_file.Goals as goal

pub returns-in-Some-clause-ok : goal.returns-in-Some-clause-ok
returns-in-Some-clause-ok c =
    let found = rw c.deref.ensures.value at c.in-Some.ensures.found in
    let kept : string_bytes c.index_mut.result.now.name ≡ c.args.name.now = ap (λ (file : File). string_bytes file.name) c.index_mut.ensures.value ∙ found.1 c.index_mut.result.now in
    contents-set c.args.files.now.items c.args.name.now c.args.bytes.now c.in-Some.at _ found kept (c.in_ok-content.ensures.items_if_clones_equal (λ _ _ e. e))

pub returns-in_ok-push-in-None-clause-ok : goal.returns-in_ok-push-in-None-clause-ok
returns-in_ok-push-in-None-clause-ok c =
    let none = rw c.deref.ensures.value at c.in-None.ensures.none in
    rw c.in_ok-push-in-None.ensures.items
    (contents-push c.args.files.now.items c.args.name.now c.args.bytes.now _ none c.in_ok-name-in-None.ensures.ok (c.in_ok-content.ensures.items_if_clones_equal (λ _ _ e. e)))
