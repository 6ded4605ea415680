use Rattle.std.proofs.Common.{inl, subst, sym, ap, ◌∙◌, arith}
use Rattle.schedule_core.specs.Plain.{CoreView}
use Rattle.schedule_core.specs.Picks.{IsTurn}
use Rattle.schedule_core.proofs.Picking.{plays_from, plays_on}
use Rattle.schedule_core.proofs.picks.play.Goals as goal

pub turns-init : goal.turns-init
turns-init c =
    let e = c.in_ok-core.ensures in (
      ap (λ (v : CoreView). v.program) e,
      ap (λ (v : CoreView). v.numbers) e,
      ap (λ (v : CoreView). v.limit) e,
      inl (sym (ap (λ (v : CoreView). v.done) e)),
      plays_from c.args.checked.now.program c.args.numbers.now c.args.limit c.args.picks.now c.in_ok-core.core e,
    )

pub turns-smaller : goal.turns-smaller
turns-smaller c =
    let s = c.in_ok-go_on_at.ensures.done in
    let room = c.in_ok-go_on_at.ensures.room in
    let more = s.done in
    omega (arith, more, room)

pub turns-preserved : goal.turns-preserved
turns-preserved c =
    let s = c.in_ok-go_on_at.ensures.done in
    let i = c.turns.invariant in (
      s.program ∙ i.0,
      s.numbers ∙ i.1,
      s.limit ∙ i.2,
      subst (IsTurn c.args.picks.now c.next_turn-turn.result) (sym s.done) (c.next_turn-turn.ensures c.turns.core.done i.3),
      plays_on c.args.checked.now.program c.args.numbers.now c.args.limit c.args.picks.now c.turns.core c.go_on_at.new.self c.turns.turn c.picked.result
          c.pick-place.result i.3 i.4 c.picked.ensures c.pick-place.ensures.place s,
    )
