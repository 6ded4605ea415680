use Rattle.std.proofs.Common.{◌≡◌, take, All}
use Rattle.jade_syntax.specs.Objects.{labels}
use Rattle.run_record.specs.Recording.{IsTurn}
use Rattle.record_parts.specs.Labels.{turns_from}
use Rattle.record_parts.proofs.Naming.{by}
use Rattle.record_parts.proofs.turns.labelled.Given as goal

abbrev pub invariant-loop-object : goal.invariant-loop-object
invariant-loop-object l = (l.turns ≡ turns_from 0 (take l.object (labels l.checked.program.items)) (by l.lists)) × All IsTurn l.turns
