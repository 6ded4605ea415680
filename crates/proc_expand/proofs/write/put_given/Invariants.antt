use Rattle.std.proofs.Common.{◌≡◌, ◌+◌, ◌<◌, ◌≤◌, suc, length}
use Rattle.proc_expand.specs.Words.{signs}
use Rattle.proc_expand.specs.Written.{text_names}
use Rattle.proc_expand.specs.steps.Sources.{commas_after, given_all, given_from, InBrackets}
use Rattle.proc_expand.proofs.PenFacts.{IsLeft}
use Rattle.proc_expand.proofs.write.put_given.Given as goal

abbrev pub invariant-loop-i : goal.invariant-loop-i
invariant-loop-i l = record {
  left : IsLeft (text_names l.tokens.lexemes l.tokens.end) l.initial.pen l.pen (given_all l.tokens.lexemes l.tokens.end l.around l.call)
      (given_from l.tokens.lexemes l.tokens.end l.around l.call l.i-end l.i l.start l.close);
  next : l.i < l.i-end → length (commas_after (signs l.tokens.lexemes) l.start) + suc l.i ≡ l.i-end;
  inside : l.i < l.i-end → InBrackets (signs l.tokens.lexemes) l.start l.close;
  after : l.call.place ≤ l.start;
}
