use Rattle.std.proofs.Common.{◌≤◌, vec_len}
use Rattle.picture_base.proofs.words.numbers_from.Given as goal

abbrev pub invariant-loop-count : goal.invariant-loop-count
invariant-loop-count g l = (vec_len l.numbers ≤ l.count) × (l.count ≤ 65)
