use Rattle.aterm_text.proofs.Reading.{one_answer}
use Rattle.aterm_text.proofs.laws.texts_have_one_answer.Goals as goal

pub returns : goal.returns
returns c = one_answer
