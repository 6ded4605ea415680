use Rattle.std.proofs.Common.{arith}
use Rattle.schedule_core.proofs.Dues.{none_kept, free_kept, is_kept, match_map}
use Rattle.schedule_core.proofs.schedule.kept_by.Goals as goal

pub returns-then-place-len : goal.returns-then-place-len
returns-then-place-len c =
    none_kept c.args.roll.now.items c.args.shelves.now c.args.path.now c.seat_place-place.result c.seat_place-place.ensures
    (omega (arith, c.len.ensures, c.if-place-len.true))

pub returns : goal.returns
returns c =
    let kept = free_kept c.args.roll.now.items c.args.shelves.now c.args.path.now c.seat_place-place.result c.seat_place-place.ensures c.index.result.now
    (omega (arith, c.len.ensures, c.if-place-len.false)) c.index.ensures in
    let by = is_kept c.args.roll.now.items c.args.shelves.now c.args.path.now c.seat_place-place.result c.seat_place-place.ensures c.index.result.now
    (omega (arith, c.len.ensures, c.if-place-len.false)) c.index.ensures in
    match_map c.keeper_of.result _ _ _ _ c.keeper_of.ensures kept (λ e h. by e.now h)
