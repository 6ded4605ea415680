use Rattle.std.proofs.Common.{sym, arith}
use Rattle.schedule_core.proofs.Picking.{pick_here, pick_past}
use Rattle.schedule_core.proofs.picks.picked.Goals as goal

pub returns-then-turn-picks : goal.returns-then-turn-picks
returns-then-turn-picks c = pick_here c.args.picks.now c.args.turn

pub returns-else-turn-picks : goal.returns-else-turn-picks
returns-else-turn-picks c = sym (pick_past c.args.picks.now c.args.turn (omega (arith, c.if-turn-picks.false)))
