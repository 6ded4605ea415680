use Rattle.std.proofs.Common.{◌+◌, ◌-◌, ◌/◌, ◌<◌, ◌≤◌, arith}
use Rattle.std.specs.Prelude.{slice_index_or}
use Rattle.task_machine.specs.Executions.{objects_in}
use Rattle.task_machine.proofs.Halving.{lower_half, upper_half, row_object}
use Rattle.task_machine.proofs.Searching.{rows_ascend, rows_count}
use Rattle.task_machine.proofs.holdings.place_from.Goals as goal

pub halves-preserved-then-rows-middle : goal.halves-preserved-then-rows-middle
halves-preserved-then-rows-middle c =
    let rs = c.args.rows.now in
    let m = c.halves.low + (c.halves.high - c.halves.low) / 2 in
    let less : c.halves.low < c.halves.high = omega (arith, c.halves-test.true) in
    let next : m + 1 ≤ c.halves.high = omega (arith, less) in
    let count = rows_count rs in
    let there = row_object rs m c.index-rows-middle.result (omega (arith, next, count, c.halves.invariant.within)) in
    record {
      order = next;
      within = c.halves.invariant.within;
      below = lower_half c.args.object (objects_in rs) m _ (rows_ascend rs c.requires) there c.if-rows-middle.true;
      above = c.halves.invariant.above;
    }

pub halves-preserved : goal.halves-preserved
halves-preserved c =
    let rs = c.args.rows.now in
    let m = c.halves.low + (c.halves.high - c.halves.low) / 2 in
    let less : c.halves.low < c.halves.high = omega (arith, c.halves-test.true) in
    let next : m + 1 ≤ c.halves.high = omega (arith, less) in
    let count = rows_count rs in
    let there = row_object rs m c.index-rows-middle.result (omega (arith, next, count, c.halves.invariant.within)) in
    let far : c.args.object ≤ (slice_index_or rs m c.index-rows-middle.result).object.0 = omega (arith, c.if-rows-middle.false) in
    record {
      order = omega (arith, less);
      within = omega (arith, next, c.halves.invariant.within);
      below = c.halves.invariant.below;
      above = upper_half c.args.object (objects_in rs) m _ (rows_ascend rs c.requires) there far;
    }

pub returns-then-rows-place : goal.returns-then-rows-place
returns-then-rows-place c =
    let rs = c.args.rows.now in
    let row = slice_index_or rs c.few.place c.index-rows-place.result in
    let less : c.few.place < c.halves.high = c.few-test.true in
    let there = row_object rs c.few.place c.index-rows-place.result (omega (arith, less, rows_count rs, c.few.invariant.within)) in
    let far : c.args.object ≤ row.object.0 = omega (arith, c.if-rows-place.true) in
    record {
      within = omega (arith, less, c.few.invariant.within);
      below = c.few.invariant.below;
      above = upper_half c.args.object (objects_in rs) c.few.place _ (rows_ascend rs c.requires) there far;
    }

pub few-preserved : goal.few-preserved
few-preserved c =
    let rs = c.args.rows.now in
    let row = slice_index_or rs c.few.place c.index-rows-place.result in
    let less : c.few.place < c.halves.high = c.few-test.true in
    let there = row_object rs c.few.place c.index-rows-place.result (omega (arith, less, rows_count rs, c.few.invariant.within)) in
    let near : row.object.0 < c.args.object = omega (arith, c.if-rows-place.false) in
    record {
      order = omega (arith, less);
      within = c.few.invariant.within;
      below = lower_half c.args.object (objects_in rs) c.few.place _ (rows_ascend rs c.requires) there near;
      above = c.few.invariant.above;
    }
