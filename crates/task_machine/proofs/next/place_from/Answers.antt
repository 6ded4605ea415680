use Rattle.std.proofs.Common.{◌+◌, ◌-◌, ◌/◌, ◌<◌, ◌≤◌, arith}
use Rattle.task_machine.specs.Machines.{candidates}
use Rattle.task_machine.proofs.Halving.{lower_half, upper_half}
use Rattle.task_machine.proofs.next.place_from.Goals as goal

pub halves-preserved-then-candidate-from : goal.halves-preserved-then-candidate-from
halves-preserved-then-candidate-from c =
    let m = c.halves.low + (c.halves.high - c.halves.low) / 2 in
    let less : c.halves.low < c.halves.high = omega (arith, c.halves-test.true) in
    let next : m + 1 ≤ c.halves.high = omega (arith, less) in
    record {
      order = next;
      within = c.halves.invariant.within;
      below = lower_half c.args.from.0 (candidates c.args.phase c.args.execution.now) m c.candidate.result c.count-high.ensures.ascend c.candidate.ensures
          c.if-candidate-from.true;
      above = c.halves.invariant.above;
    }

pub halves-preserved : goal.halves-preserved
halves-preserved c =
    let m = c.halves.low + (c.halves.high - c.halves.low) / 2 in
    let less : c.halves.low < c.halves.high = omega (arith, c.halves-test.true) in
    let far : c.args.from.0 ≤ c.candidate.result.0 = omega (arith, c.if-candidate-from.false) in
    let within : m ≤ c.halves.high = omega (arith, less) in
    record {
      order = omega (arith, less);
      within = omega (arith, within, c.halves.invariant.within);
      below = c.halves.invariant.below;
      above = upper_half c.args.from.0 (candidates c.args.phase c.args.execution.now) m c.candidate.result c.count-high.ensures.ascend c.candidate.ensures far;
    }

pub returns-then-candidate-from-2 : goal.returns-then-candidate-from-2
returns-then-candidate-from-2 c =
    let far : c.args.from.0 ≤ c.candidate-in-few.result.0 = omega (arith, c.if-candidate-from-2.true) in
    let less : c.few.place < c.halves.high = c.few-test.true in
    record {
      within = omega (arith, less, c.few.invariant.within);
      below = c.few.invariant.below;
      above = upper_half c.args.from.0 (candidates c.args.phase c.args.execution.now) c.few.place c.candidate-in-few.result c.count-high.ensures.ascend
          c.candidate-in-few.ensures far;
    }

pub few-preserved : goal.few-preserved
few-preserved c =
    let near : c.candidate-in-few.result.0 < c.args.from.0 = omega (arith, c.if-candidate-from-2.false) in
    let less : c.few.place < c.halves.high = c.few-test.true in
    record {
      order = omega (arith, less);
      within = c.few.invariant.within;
      below = lower_half c.args.from.0 (candidates c.args.phase c.args.execution.now) c.few.place c.candidate-in-few.result c.count-high.ensures.ascend
          c.candidate-in-few.ensures near;
      above = c.few.invariant.above;
    }
