use Rattle.jade_run.proofs.Plain.{same_by_all}
use Rattle.jade_run.proofs.laws.plain_texts_have_one_answer.Goals as goal

pub returns : goal.returns
returns c = same_by_all c.without_cm.ensures c.runs_plainly.ensures
