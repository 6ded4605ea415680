use Rattle.std.proofs.Common.{◌≡◌, ℕ, ◌-◌, ◌<◌, ◌≤◌, length, None}
use Rattle.std.specs.Prelude.{slice_index_or}
use Rattle.proc_expand.specs.Written.{from, names_at}
use Rattle.proc_expand.specs.steps.Replaced.{names_of, with_names, AreNumbered, IsMark}
use Rattle.proc_expand.proofs.naming.number_body.Given as goal

abbrev pub invariant-loop-place : goal.invariant-loop-place
invariant-loop-place l = record {
  names : names_of l.seen
      ≡ with_names (names_of l.items) (names_of l.initial.seen)
      (names_at l.tokens.lexemes l.tokens.end (from l.tokens.lexemes l.tokens.end l.start (l.place - l.start)));
  numbered : AreNumbered l.seen;
  marked : (k : ℕ) → l.start ≤ k → k < l.place
      → IsMark l.tokens.lexemes l.tokens.end (names_of l.items) (names_of l.seen) k (slice_index_or l.marks k None);
  before : (k : ℕ) → k < l.start → slice_index_or l.marks k None ≡ slice_index_or l.initial.marks k None;
  as_many : length l.marks ≡ length l.initial.marks;
}
