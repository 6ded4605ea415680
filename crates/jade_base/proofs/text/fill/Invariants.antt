-- The buffer's head is filled.
use Rattle.std.proofs.Common.{◌-◌, ◌≤◌, length}
use Rattle.jade_base.specs.Bytes.{Filled}
use Rattle.jade_base.proofs.text.fill.Given as goal

abbrev pub invariant-loop-filled : goal.invariant-loop-filled
invariant-loop-filled g l =
    Filled (g.S.Source.left l.initial.source) (g.S.Source.left l.source) l.filled l.buffer
    × (g.S.Source.faults l.initial.source ≤ g.S.Source.faults l.source)

abbrev pub decreases-loop-filled : goal.decreases-loop-filled
decreases-loop-filled g l = length l.buffer - l.filled
