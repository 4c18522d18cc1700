use Rattle.std.proofs.Common.{ap, length, is_some, ◌∙◌}
use Rattle.std.specs.Prelude.{◌==◌, ◌&&◌}
use Rattle.std.specs.List.{list_any, position_from}
use Rattle.check_base.specs.Names.{is_called}
use Rattle.check_base.proofs.TableLemmas.{is_some-position_from}
use Rattle.check_base.proofs.names.constructor_names.Goals as goal

pub returns : goal.returns
returns c = record {
  shapes = λ x n. c.in_ok-shapes.ensures x n ∙ ap (position_from (λ d. is_called x d.name && (n == length d.args)) 0) c.constructors_of-2.ensures;
  called = λ x. ap is_some (c.in_ok-names.ensures x) ∙ is_some-position_from (λ d. is_called x d.name) 0 _ ∙ ap (list_any (λ d. is_called x d.name)) c.constructors_of.ensures;
  sorts = c.in_ok-sorts.ensures;
}
