-- The terms so far are written, and are texts of themselves.
use Rattle.std.specs.Prelude.{sum_by}
use Rattle.std.proofs.Common.{◌≡◌, ◌+◌, ◌*◌, ◌++◌, ◌∷◌, map, take}
use Rattle.std.specs.List.{AllByRecursion}
use Rattle.flow_term.specs.Trees.{term_size}
use Rattle.aterm_text.specs.Written.{ReadsBack, listed, written}
use Rattle.aterm_text.proofs.Sizes.{parts_of}
use Rattle.aterm_text.proofs.writer.+write.Given as goal

abbrev pub decreases-push_term : goal.decreases-push_term
decreases-push_term l = 3 * term_size l.term.now

abbrev pub decreases-push_kind : goal.decreases-push_kind
decreases-push_kind l = 3 * sum_by term_size (parts_of l.kind.now) + 2

abbrev pub decreases-push_bracketed : goal.decreases-push_bracketed
decreases-push_bracketed l = 3 * sum_by term_size l.terms.now + 1

abbrev pub invariant-push_bracketed-loop-at : goal.invariant-push_bracketed-loop-at
invariant-push_bracketed-loop-at l = record {
  texts : l.bytes.items ≡ l.fn.bytes.items ++ l.opening ∷ listed (map written (take l.at l.terms));
  read_back : AllByRecursion ReadsBack (take l.at l.terms);
}
