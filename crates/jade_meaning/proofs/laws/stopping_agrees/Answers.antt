use Rattle.jade_meaning.proofs.Stops.{stopping_agrees}
use Rattle.jade_meaning.proofs.laws.stopping_agrees.Goals as goal

pub returns : goal.returns
returns c = stopping_agrees
