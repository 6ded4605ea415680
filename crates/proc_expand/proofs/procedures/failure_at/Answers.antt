use Rattle.std.proofs.Common.{◌∙◌}
use Rattle.proc_expand.proofs.Heads.{begins_none, head_stops, body_fails, not_so, so_then}
use Rattle.proc_expand.proofs.procedures.failure_at.Goals as goal

pub returns-then-not-begins : goal.returns-then-not-begins
returns-then-not-begins c = begins_none c.args.signs.now c.args.place c.args.begins c.if-not-begins.true

pub returns-then-not-head : goal.returns-then-not-head
returns-then-not-head c =
    head_stops c.args.signs.now c.args.place c.args.begins c.if-not-begins.false c.read_head-head.result c.read_head-head.ensures.value
    (not_so c.read_head-head.result.fits c.if-not-head.true) c.read_head-head.ensures.within

pub returns : goal.returns
returns c =
    c.unclosed.ensures
    ∙ body_fails c.args.signs.now c.args.place c.args.begins c.if-not-begins.false c.read_head-head.result c.read_head-head.ensures.value
    (so_then c.read_head-head.result.fits c.if-not-head.false) c.body_end.result c.body_end.ensures.value
