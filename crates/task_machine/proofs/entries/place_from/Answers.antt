use Rattle.std.proofs.Common.{◌+◌, ◌-◌, ◌/◌, ◌<◌, ◌≤◌, arith}
use Rattle.task_machine.proofs.Finding.{above_half, below_half}
use Rattle.task_machine.proofs.entries.place_from.Goals as goal

pub halves-preserved-then-object-from : goal.halves-preserved-then-object-from
halves-preserved-then-object-from c =
    let m = c.halves.low + (c.halves.high - c.halves.low) / 2 in
    let less : c.halves.low < c.halves.high = omega (arith, c.halves-test.true) in
    let next : m + 1 ≤ c.halves.high = omega (arith, less) in
    record {
      order = next;
      within = c.halves.invariant.within;
      below = below_half c.args.from.0 c.args.spec.now.entries m c.entry.result c.len-high.ensures.ascending c.entry.ensures c.if-object-from.true;
      above = c.halves.invariant.above;
    }

pub halves-preserved : goal.halves-preserved
halves-preserved c =
    let m = c.halves.low + (c.halves.high - c.halves.low) / 2 in
    let less : c.halves.low < c.halves.high = omega (arith, c.halves-test.true) in
    let far : c.args.from.0 ≤ c.entry.result.0.0 = omega (arith, c.if-object-from.false) in
    let within : m ≤ c.halves.high = omega (arith, less) in
    record {
      order = omega (arith, less);
      within = omega (arith, within, c.halves.invariant.within);
      below = c.halves.invariant.below;
      above = above_half c.args.from.0 c.args.spec.now.entries m c.entry.result c.len-high.ensures.ascending c.entry.ensures far;
    }

pub returns-then-object-from-2 : goal.returns-then-object-from-2
returns-then-object-from-2 c =
    let es = c.args.spec.now.entries in
    let far : c.args.from.0 ≤ c.entry-in-few.result.0.0 = omega (arith, c.if-object-from-2.true) in
    let less : c.few.place < c.halves.high = c.few-test.true in
    record {
      within = omega (arith, less, c.few.invariant.within);
      below = c.few.invariant.below;
      above = above_half c.args.from.0 es c.few.place c.entry-in-few.result c.len-high.ensures.ascending c.entry-in-few.ensures far;
    }

pub few-preserved : goal.few-preserved
few-preserved c =
    let es = c.args.spec.now.entries in
    let near : c.entry-in-few.result.0.0 < c.args.from.0 = omega (arith, c.if-object-from-2.false) in
    let less : c.few.place < c.halves.high = c.few-test.true in
    record {
      order = omega (arith, less);
      within = c.few.invariant.within;
      below = below_half c.args.from.0 es c.few.place c.entry-in-few.result c.len-high.ensures.ascending c.entry-in-few.ensures near;
      above = c.few.invariant.above;
    }
