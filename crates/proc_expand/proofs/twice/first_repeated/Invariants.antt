use Rattle.std.proofs.Common.{◌≡◌, None}
use Rattle.proc_expand.proofs.Repeated.{first_param, Seen}
use Rattle.proc_expand.proofs.twice.first_repeated.Given as goal

abbrev pub invariant-loop-index : goal.invariant-loop-index
invariant-loop-index l = record {
  none_yet : first_param l.tokens.lexemes l.fn.place l.index ≡ None;
  seen : Seen l.tokens.lexemes l.fn.place l.seen l.index;
}
