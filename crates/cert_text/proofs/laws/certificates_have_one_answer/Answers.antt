use Rattle.cert_text.proofs.Unique.{one_answer}
use Rattle.cert_text.proofs.laws.certificates_have_one_answer.Goals as goal

-- the law
pub returns : goal.returns
returns c = one_answer
