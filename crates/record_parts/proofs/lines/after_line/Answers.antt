use Rattle.std.proofs.Common.{◌∷◌}
use Rattle.record_parts.proofs.Cutting.{after_none}
use Rattle.record_parts.proofs.lines.after_line.Goals as goal

pub returns-in-None-after_feed : goal.returns-in-None-after_feed
returns-in-None-after_feed c = after_none c.args.bytes.now c.args.line.now c.in-Some.left.now c.in-Some.ensures c.in-None-after_feed.ensures

pub returns-in-None : goal.returns-in-None
returns-in-None c rest e = c.in-None.ensures (10 ∷ rest) e
