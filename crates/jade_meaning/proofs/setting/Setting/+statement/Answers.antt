use Rattle.std.proofs.Common.{arith, rules, w64, to_z, of_z}
use Rattle.std.specs.Prelude.{◌<ℤ◌}
use Rattle.std.proofs.lemmas.Int.{ints, to_z-of_z}
use borrow.Author.Gap.{counting}
use Rattle.jade_meaning.proofs.Following.{comes_more, comes_fails, turns_more, turns_stop}
use Rattle.jade_meaning.proofs.setting.Setting.+statement.Goals as goal

pub block-returns-in-Err : goal.block-returns-in-Err
block-returns-in-Err t c = comes_fails c.at.result.now c.in-Err.stop _ _ c.at.ensures c.in-Err.ensures c.loop-i.invariant

pub block-loop-i-preserved : goal.block-loop-i-preserved
block-loop-i-preserved t c = comes_more c.at.result.now _ _ c.at.ensures c.in-Ok.ensures c.loop-i.invariant

pub turns-returns-in-Err : goal.turns-returns-in-Err
turns-returns-in-Err t c =
    let lt : to_z w64 c.loop-index.index-bits <ℤ to_z w64 (of_z w64 c.args.high) = omega (arith, ints) in
    simp (to_z-of_z w64 c.args.high c.ranges.high, to_z-of_z w64 c.args.low c.ranges.low) at
    (turns_stop c.in-Err.stop c.turn.new.task c.turn.new.state lt c.in-Err.ensures c.loop-index.invariant)

pub turns-loop-index-smaller : goal.turns-loop-index-smaller
turns-loop-index-smaller t c = search (rules, counting)

pub turns-loop-index-preserved : goal.turns-loop-index-preserved
turns-loop-index-preserved t c =
    let lt : to_z w64 c.loop-index.index-bits <ℤ to_z w64 (of_z w64 c.args.high) = omega (arith, ints) in
    turns_more c.turn.new.task c.turn.new.state _ lt (search rules) c.in-Ok.ensures c.loop-index.invariant
