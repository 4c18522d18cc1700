use Rattle.std.proofs.Common.{◌≡◌, true, false, arith, sym, ◌∙◌}
use Rattle.std.specs.Prelude.{string_bytes}
use Rattle.flow_io.proofs.EntriesLemmas.{named, named_at, none_more, same_name}
use Rattle.flow_io.proofs.memory_folder.place_of.Goals as goal

pub returns-then-eq-clause-found : goal.returns-then-eq-clause-found
returns-then-eq-clause-found c =
    let name = c.args.name.now in
    let test = rw c.as_str.ensures.value at c.eq.ensures in
    let same : same_name name (string_bytes c.index-files-i.result.name) ≡ true = named name _ true (sym test ∙ c.if-eq.true) in
    (omega arith, named_at c.args.files.now name c.loop-i.i c.index-files-i.result (omega arith) c.index-files-i.is same, c.loop-i.invariant)

pub loop-i-preserved : goal.loop-i-preserved
loop-i-preserved c =
    let name = c.args.name.now in
    let test = rw c.as_str.ensures.value at c.eq.ensures in
    let other : same_name name (string_bytes c.index-files-i.result.name) ≡ false = named name _ false (sym test ∙ c.if-eq.false) in
    none_more c.args.files.now name c.loop-i.i c.index-files-i.result (omega arith) c.index-files-i.is c.loop-i.invariant other
