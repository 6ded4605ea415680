use Rattle.jade_run.proofs.Deciding.{limit_is}
use Rattle.jade_run.proofs.run.place_of_limit.Goals as goal

pub returns : goal.returns
returns c = limit_is c.args.steps.now c.args.limit c.limit_place.result c.limit_place.ensures.passed c.limit_place.ensures.kept
