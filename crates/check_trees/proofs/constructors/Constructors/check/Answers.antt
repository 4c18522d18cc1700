use Rattle.std.proofs.Common.{List, [], subst}
use Rattle.flow_syntax.specs.declared.signature.Constructor.{Constructor}
use Rattle.tree_fitting.specs.Fits.{Misfits, MisfitsBelow, named_sort}
use Rattle.check_trees.specs.inner.Searching.{IsFound, IsFoundBehind}
use Rattle.check_trees.proofs.AnswerLemmas.{accepting_answer, behind_root, refusing_answer, right_answer}
use Rattle.check_trees.proofs.constructors.Constructors.check.Goals as goal

-- what was found
found : (c : goal.After-answer) → IsFoundBehind (Misfits c.args.signature.now c.args.tree.now) [] c.in_ok-found.found
found c = behind_root (Misfits c.args.signature.now c.args.tree.now) c.in_ok-found.found
    (subst (λ (cs : List Constructor). IsFound (MisfitsBelow cs (named_sort c.args.signature.now.start) c.args.tree.now) c.in_ok-found.found) c.as_slice-constructors.ensures c.in_ok-found.ensures)

pub returns-clause-right : goal.returns-clause-right
returns-clause-right c = right_answer c.args.signature.now c.args.tree.now [] c.in_ok-found.found c.answer.result (found c) c.answer.ensures

pub returns-clause-accepted : goal.returns-clause-accepted
returns-clause-accepted c = accepting_answer c.args.signature.now c.args.tree.now [] c.in_ok-found.found c.answer.result (found c) c.answer.ensures

pub returns-clause-refused : goal.returns-clause-refused
returns-clause-refused c = refusing_answer c.args.signature.now c.args.tree.now [] c.in_ok-found.found c.answer.result (found c) c.answer.ensures
