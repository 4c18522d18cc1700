use Rattle.std.specs.Prelude.{All, IsTrue}
use Rattle.std.proofs.Common.{rules, ◌↔◌}
use Rattle.flow_syntax.specs.Types.{sort_of}
use Rattle.value_domains.specs.Values.{IsOfSort}
use Rattle.lattice_any.proofs.Members.{keys_answer}
use Rattle.lattice_any.proofs.member.keys_have_sort.Goals as goal

pub returns : goal.returns
returns c =
    let told : IsTrue c.all.result ↔ All (λ e. IsOfSort (sort_of c.args.sort.now) e.key) c.args.entries.now = search rules in
    keys_answer (IsOfSort (sort_of c.args.sort.now)) c.args.entries.now c.all.result told
