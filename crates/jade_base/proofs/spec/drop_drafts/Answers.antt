use Rattle.std.proofs.Common.{arith}
use Rattle.std.proofs.lemmas.List.Edits.{map_over_more}
use Rattle.jade_base.proofs.Drafts.{with_same_draft}
use Rattle.jade_base.proofs.Drafts.{changed-all, settled-same}
use Rattle.jade_base.proofs.spec.drop_drafts.Goals as goal

pub loop-i-preserved : goal.loop-i-preserved
loop-i-preserved c =
    map_over_more with_same_draft c.args.entries.now.items c.loop-i.entries.items c.loop-i.i c.index-entry.result.now (omega arith) c.loop-i.invariant
    c.index-entry.ensures

pub returns : goal.returns
returns c =
    rw (changed-all with_same_draft c.args.entries.now.items c.loop-i.entries.items c.loop-i.i c.loop-i.invariant (omega arith))
    (settled-same c.args.entries.now.items)
