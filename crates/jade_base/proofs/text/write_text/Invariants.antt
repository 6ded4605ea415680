-- The first bytes of the text were written.
use Rattle.std.proofs.Common.{length, ◌-◌, ◌≡◌}
use Rattle.jade_base.proofs.Writing.{Written}
use Rattle.jade_base.proofs.text.write_text.Given as goal

abbrev pub invariant-loop-written : goal.invariant-loop-written
invariant-loop-written g l =
    Written l.text l.written (g.K.Sink.taken l.initial.sink) (g.K.Sink.taken l.sink)
    (g.K.Sink.room l.initial.sink) (g.K.Sink.room l.sink) (g.K.Sink.faults l.initial.sink) (g.K.Sink.faults l.sink)
    × (length l.text ≡ 0 → l.sink ≡ l.initial.sink)

abbrev pub decreases-loop-written : goal.decreases-loop-written
decreases-loop-written g l = length l.text - l.written
