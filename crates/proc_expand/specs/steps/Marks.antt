-- The numbers of the names that calls replace, for the procedures of a text.
use Rattle.std.specs.Prelude.{◌≡◌, ℕ, ◌<◌, true, List, length, Option, None, slice_index_or}
use Rattle.jade_base.specs.declared.place.Pos.{Pos}
use Rattle.jade_lexer.specs.Lexemes.{TokenAt}
use Rattle.proc_expand.specs.declared.marks.Marks.{Marks}
use Rattle.proc_expand.specs.Words.{signs, bytes_at}
use Rattle.proc_expand.specs.Refusals.{begins, head, body_end, procedure, param_place}
use Rattle.proc_expand.specs.Written.{items, closed_at, replaced_at}
use Rattle.proc_expand.specs.steps.Replaced.{IsNumber, IsMark}

-- those of the procedure at a place stand at its parameters and in its body
pub record AreMarked (ts : List TokenAt) (end : Pos) (p : ℕ) (numbers : List (Option ℕ)) : Type 0 where
  pub params : (i : ℕ) → i < (head (signs ts) p).params
      → IsNumber (items ts end) (replaced_at ts end (procedure (signs ts) p)) (bytes_at ts (param_place p i))
      (slice_index_or numbers (param_place p i) None)
  pub body : (k : ℕ) → (head (signs ts) p).stop < k → k < closed_at ts end (body_end (signs ts) p)
      → IsMark ts end (items ts end) (replaced_at ts end (procedure (signs ts) p)) k (slice_index_or numbers k None)

-- so it is for the procedures that begin before n, and it is known how many names each of them replaces
pub record AreMarks (ts : List TokenAt) (end : Pos) (n : ℕ) (numbers : List (Option ℕ)) (counts : List ℕ) : Type 0 where
  pub as_many : length numbers ≡ length ts
  pub counted : length counts ≡ n
  pub marked : (p : ℕ) → p < n → begins (signs ts) p ≡ true → AreMarked ts end p numbers
  pub count : (p : ℕ) → p < n → begins (signs ts) p ≡ true → slice_index_or counts p 0 ≡ length (replaced_at ts end (procedure (signs ts) p))

-- for all procedures of the text
pub record IsMarked (ts : List TokenAt) (end : Pos) (m : Marks) : Type 0 where
  pub all : AreMarks ts end (length ts) m.numbers.items m.counts.items
