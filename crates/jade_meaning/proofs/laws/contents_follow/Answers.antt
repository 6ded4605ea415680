use Rattle.jade_meaning.proofs.Plainly.{contents_follow}
use Rattle.jade_meaning.proofs.laws.contents_follow.Goals as goal

pub returns : goal.returns
returns c = contents_follow
