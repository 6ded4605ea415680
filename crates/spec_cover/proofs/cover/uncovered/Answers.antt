use Rattle.spec_cover.proofs.Merged.{found, least, none}
use Rattle.spec_cover.proofs.cover.uncovered.Goals as goal

pub returns-clause-found : goal.returns-clause-found
returns-clause-found c = found c.merged.result c.args.parent.now c.args.child.now c.merged.ensures.ascending c.merged.ensures.first

pub returns-clause-least : goal.returns-clause-least
returns-clause-least c = least c.merged.result c.args.parent.now c.args.child.now c.merged.ensures.ascending c.merged.ensures.first

pub returns-clause-none : goal.returns-clause-none
returns-clause-none c = none c.merged.result c.args.parent.now c.args.child.now c.merged.ensures.ascending c.merged.ensures.first
