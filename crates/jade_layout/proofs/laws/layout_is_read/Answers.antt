use Rattle.jade_layout.specs.Layout.{layout}
use Rattle.jade_layout.specs.Spelling.{spelling}
use Rattle.jade_layout.proofs.Blocks.{spelling_readable}
use Rattle.jade_layout.proofs.Reading.{layout_is_cut, reads_as}
use Rattle.jade_layout.proofs.laws.layout_is_read.Goals as goal

pub returns-clause-tokens : goal.returns-clause-tokens
returns-clause-tokens c = λ ts h. reads_as (layout ts) ts (c.reading_is_cut.ensures.whole (layout ts)) (layout_is_cut ts h)

pub returns-clause-program : goal.returns-clause-program
returns-clause-program c = λ p h. reads_as (layout (spelling p)) (spelling p) (c.reading_is_cut.ensures.whole (layout (spelling p)))
    (layout_is_cut (spelling p) (spelling_readable p h))
