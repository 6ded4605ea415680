use Rattle.jade_run.proofs.Right.{recording_right}
use Rattle.jade_run.proofs.laws.recordings_are_right.Goals as goal

pub returns : goal.returns
returns c = recording_right
