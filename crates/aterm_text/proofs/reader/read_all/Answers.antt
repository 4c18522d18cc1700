use Rattle.std.proofs.Common.{true}
use Rattle.aterm_text.specs.inner.Answers.{state_of}
use Rattle.aterm_text.specs.inner.Machine.{run, nothing}
use Rattle.aterm_text.proofs.Reading.{ready_at, behind_more, ahead_more}
use Rattle.aterm_text.proofs.reader.read_all.Goals as goal

pub step-requires : goal.step-requires
step-requires c = ready_at c.loop-at.reader c.args.bytes.now c.loop-at.at c.requires c.loop-at-test.true c.loop-at.invariant.behind

pub loop-at-preserved : goal.loop-at-preserved
loop-at-preserved c = record {
  behind = behind_more (state_of c.loop-at.reader) (state_of c.in_ok-reader.reader) c.args.bytes.now c.loop-at.at c.loop-at-test.true c.loop-at.invariant.behind c.in_ok-reader.ensures;
  ahead = ahead_more (state_of c.loop-at.reader) (state_of c.in_ok-reader.reader) c.args.bytes.now c.loop-at.at (run true nothing 0 c.args.bytes.now) c.loop-at-test.true c.loop-at.invariant.ahead c.in_ok-reader.ensures;
}
