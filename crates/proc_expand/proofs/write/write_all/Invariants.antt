use Rattle.std.proofs.Common.{◌≡◌}
use Rattle.proc_expand.specs.Written.{expansion}
use Rattle.proc_expand.specs.steps.Sources.{IsWriting, whole, room}
use Rattle.proc_expand.proofs.write.write_all.Given as goal

abbrev pub invariant-writing : goal.invariant-writing
invariant-writing l = record {
  writing : IsWriting l.tokens.lexemes l.tokens.end l.source.outer.items l.pen l.frames.items l.given;
  same : whole l.tokens.lexemes l.tokens.end l.source.outer.items l.pen l.frames.items l.given ≡ expansion l.tokens.lexemes l.tokens.end;
}

abbrev pub decreases-writing : goal.decreases-writing
decreases-writing l = room l.pen l.frames.items
