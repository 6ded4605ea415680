use Rattle.jade_run.proofs.Wordless.{drill_plain}
use Rattle.jade_run.proofs.laws.drills_are_plain.Goals as goal

pub returns : goal.returns
returns c = λ tasks le tree home good. drill_plain c.reading_is_cut.ensures.cut tasks tree home le good.read
