use Rattle.std.proofs.Common.{List, ℕ, ap, ◌∙◌, ◌||◌, bytes_eq}
use Rattle.check_rules.specs.inner.Tables.{has_name}
use Rattle.check_rules.proofs.Sets.{has_more}
use Rattle.check_rules.proofs.name_set.add_name.Goals as goal

pub returns : goal.returns
returns c = λ x. has_more c.args.names.now.keys c.insert.new.self.keys c.as_str.result c.in_ok-insert.ensures.keys x ∙ ap (λ (n : List ℕ). has_name c.args.names.now x || bytes_eq x n) c.as_str.ensures
