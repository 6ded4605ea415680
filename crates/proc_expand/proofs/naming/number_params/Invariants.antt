use Rattle.std.proofs.Common.{◌≡◌, ℕ, ◌<◌, length, None}
use Rattle.std.specs.Prelude.{map, slice_index_or}
use Rattle.proc_expand.specs.Words.{bytes_at}
use Rattle.proc_expand.specs.Refusals.{param_place}
use Rattle.proc_expand.specs.Written.{from}
use Rattle.proc_expand.specs.steps.Replaced.{names_of, with_names, AreNumbered, IsNumber}
use Rattle.proc_expand.proofs.naming.number_params.Given as goal

abbrev pub invariant-loop-i : goal.invariant-loop-i
invariant-loop-i l = record {
  names : names_of l.seen
      ≡ with_names (names_of l.items) (names_of l.initial.seen)
      (map (bytes_at l.tokens.lexemes) (map (param_place l.place) (from l.tokens.lexemes l.tokens.end 0 l.i)));
  numbered : AreNumbered l.seen;
  marked : (j : ℕ) → j < l.i
      → IsNumber (names_of l.items) (names_of l.seen) (bytes_at l.tokens.lexemes (param_place l.place j))
      (slice_index_or l.marks (param_place l.place j) None);
  before : (k : ℕ) → k < l.place → slice_index_or l.marks k None ≡ slice_index_or l.initial.marks k None;
  as_many : length l.marks ≡ length l.initial.marks;
}
