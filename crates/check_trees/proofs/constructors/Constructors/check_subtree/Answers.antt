use Rattle.std.proofs.Common.{List, ℕ, refl, subst}
use Rattle.flow_term.specs.Trees.{Put}
use Rattle.tree_fitting.specs.Fits.{Misfits, expected_at, named_sort}
use Rattle.check_trees.specs.inner.Searching.{IsFoundAt, IsFoundBehind, Tells}
use Rattle.check_trees.proofs.AnswerLemmas.{accepting_answer, refusing_answer, right_answer}
use Rattle.check_trees.proofs.PutLemmas.{put_found}
use Rattle.check_trees.proofs.constructors.Constructors.check_subtree.Goals as goal

-- what was found, and what was told of it
found : (c : goal.After-answer) → IsFoundBehind (Misfits c.args.signature.now (Put c.args.tree.now c.args.path.now c.args.new.now)) c.args.path.now c.in_ok-found.found
found c =
    put_found c.args.signature.now.constructors c.args.path.now (named_sort c.args.signature.now.start) c.args.tree.now c.args.new.now c.requires.fits
    (expected_at c.args.signature.now c.args.tree.now c.args.path.now) refl c.in_ok-found.found
    (subst (λ (path : List ℕ). IsFoundAt c.args.signature.now.constructors (expected_at c.args.signature.now c.args.tree.now path) c.args.new.now c.in_ok-found.found) c.as_slice.ensures c.in_ok-found.ensures)

told : (c : goal.After-answer) → Tells c.args.path.now c.in_ok-found.found c.answer.result
told c = subst (λ (path : List ℕ). Tells path c.in_ok-found.found c.answer.result) c.as_slice-2.ensures c.answer.ensures

pub returns-clause-right : goal.returns-clause-right
returns-clause-right c = right_answer c.args.signature.now (Put c.args.tree.now c.args.path.now c.args.new.now) c.args.path.now c.in_ok-found.found c.answer.result (found c) (told c)

pub returns-clause-accepted : goal.returns-clause-accepted
returns-clause-accepted c = accepting_answer c.args.signature.now (Put c.args.tree.now c.args.path.now c.args.new.now) c.args.path.now c.in_ok-found.found c.answer.result (found c) (told c)

pub returns-clause-refused : goal.returns-clause-refused
returns-clause-refused c = refusing_answer c.args.signature.now (Put c.args.tree.now c.args.path.now c.args.new.now) c.args.path.now c.in_ok-found.found c.answer.result (found c) (told c)
