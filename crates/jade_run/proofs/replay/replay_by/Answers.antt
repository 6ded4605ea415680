use Rattle.jade_run.proofs.replay.replay_by.Goals as goal

pub returns-in-Some : goal.returns-in-Some
returns-in-Some g c = rw c.in-Some.is at c.in_ok-answer.ensures
