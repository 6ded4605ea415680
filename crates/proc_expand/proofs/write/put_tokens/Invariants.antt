use Rattle.std.proofs.Common.{◌-◌}
use Rattle.std.specs.Prelude.{map}
use Rattle.proc_expand.specs.Written.{text_names, from, token_at}
use Rattle.proc_expand.specs.steps.Frames.{names_in}
use Rattle.proc_expand.proofs.PenFacts.{IsLeft}
use Rattle.proc_expand.proofs.write.put_tokens.Given as goal

abbrev pub invariant-loop-place : goal.invariant-loop-place
invariant-loop-place l =
    IsLeft (text_names l.tokens.lexemes l.tokens.end) l.initial.pen l.pen
    (map (token_at l.tokens.lexemes l.tokens.end (names_in l.tokens.lexemes l.tokens.end l.call)) (from l.tokens.lexemes l.tokens.end l.start (l.stop - l.start)))
    (map (token_at l.tokens.lexemes l.tokens.end (names_in l.tokens.lexemes l.tokens.end l.call)) (from l.tokens.lexemes l.tokens.end l.place (l.stop - l.place)))
