use Rattle.std.proofs.Common.{◌+◌, ◌∙◌, refl, arith}
use Rattle.object_table.proofs.AtRoll.{looking}
use Rattle.object_table.proofs.RollCalls.{may_join, joined_is, joined_rests, joined_shown}
use Rattle.object_table.proofs.turns.take_in.Goals as goal

pub join_seat-requires : goal.join_seat-requires
join_seat-requires c =
    let t = c.args.keeper.now in
    let u = c.args.ended in
    let r = c.requires.rests in
    let g = c.requires.gone in
    let wide = c.requires.laid.wide in
    let deep = c.requires.laid.deep in (
      c.requires.mark.0,
      c.requires.mark.1,
      r.1.holds,
      omega (arith, wide, deep),
      may_join t r.0 u r.1 g.0 g.1 c.args.words.now.key (c.core_laws.ensures c.args.words.now.key) t.seat.id u.seat.id,
    )

pub load-requires : goal.load-requires
load-requires c =
    let words = c.args.words.now in
    let wide = c.requires.laid.wide in
    let deep = c.requires.laid.deep in (
      c.join_seat.ensures.0 ∙ c.requires.mark.0,
      omega (arith, wide, deep),
      looking words.key words.table_id.slots c.join_seat.new.seat.id c.join_seat.new.seat.me,
    )

pub returns-clause-rests : goal.returns-clause-rests
returns-clause-rests c =
    let t = c.args.keeper.now in
    let u = c.args.ended in
    let r = c.requires.rests in
    let g = c.requires.gone in
    joined_rests t r.0 u r.1 g.0 g.1 c.load.new.seat
    (joined_is t r.0 u r.1 g.0 g.1 c.args.words.now.table_id.slots c.load.result c.join_seat.new.seat c.load.new.seat c.join_seat.ensures.2 c.load.ensures.2)
    c.either-keeper.result c.either-keeper.ensures _ refl _ c.append.ensures.items

pub returns-clause-shows : goal.returns-clause-shows
returns-clause-shows c =
    let t = c.args.keeper.now in
    let u = c.args.ended in
    let r = c.requires.rests in
    let g = c.requires.gone in
    joined_shown t r.0 u r.1 g.0 g.1 c.load.new.seat
    (joined_is t r.0 u r.1 g.0 g.1 c.args.words.now.table_id.slots c.load.result c.join_seat.new.seat c.load.new.seat c.join_seat.ensures.2 c.load.ensures.2)
    c.either-keeper.result c.either-keeper.ensures (t.tickets + u.tickets) refl c.append.new.self c.append.ensures.items
