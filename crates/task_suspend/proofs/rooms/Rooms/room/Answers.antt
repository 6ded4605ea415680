use Rattle.std.proofs.Common.{◌≡◌, ◌+◌, arith}
use Rattle.task_suspend.proofs.Asking.{numbered_at}
use Rattle.task_suspend.proofs.rooms.Rooms.room.Goals as goal

pub returns : goal.returns
returns g c =
    let rooms = c.self.inside.rooms in
    let e : c.index.result.now.object.0 ≡ 0 + c.args.object.0 =
    numbered_at rooms.items 0 c.args.object.0 c.index.result.now c.self.invariant (omega (arith, c.requires, c.self.view_is, rooms.ok.0)) c.index.ensures in
    omega (arith, e)
