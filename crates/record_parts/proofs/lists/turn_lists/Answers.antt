use Rattle.std.proofs.Common.{arith}
use Rattle.run_record.proofs.Options.{went_well}
use Rattle.record_parts.proofs.Apart.{program_apart}
use Rattle.record_parts.proofs.Matching.{all_matched, none_named, one_matched}
use Rattle.record_parts.proofs.lists.turn_lists.Goals as goal

pub loop-object-preserved : goal.loop-object-preserved
loop-object-preserved c =
    one_matched c.args.checked.now.program.items c.args.turns.now c.loop-object.object c.loop-object.place c.in_ok-paths.next c.loop-object.lists c.push.new.self c.in_ok-paths.paths
    (program_apart c.args.checked.now.program c.requires.shaped c.program-program.ensures.checked.faultless) c.requires.fit (omega arith) c.loop-object.invariant
    c.in_ok-paths.ensures (went_well _ _ _ c.if-is_err.ensures.value c.push.ensures)

pub returns-then-place-len : goal.returns-then-place-len
returns-then-place-len c =
    none_named c.args.checked.now.program.items c.args.turns.now c.loop-object.object c.loop-object.place c.loop-object.lists c.loop-object.invariant (omega arith) (omega arith)

pub returns : goal.returns
returns c =
    all_matched c.args.checked.now.program.items c.args.turns.now c.loop-object.object c.loop-object.place c.loop-object.lists c.loop-object.invariant (omega arith) (omega arith)
