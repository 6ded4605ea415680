use Rattle.jade_meaning.proofs.Talks.{more_answers}
use Rattle.jade_meaning.proofs.laws.more_answers.Goals as goal

pub returns : goal.returns
returns c = more_answers
