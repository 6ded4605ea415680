-- Laws on recordings.
use Rattle.std.specs.Prelude.{◌≡◌, ℕ, suc, ◌<◌, List, ◌++◌, length, map, take}
use Rattle.run_record.specs.Recording.{Recorded, IsRecorded, lines, ended}
use Rattle.std.specs.List.{join_with_byte}
use Rattle.std.specs.Fmt.{decimal}
use Rattle.run_record.specs.Form.{at_head, BreaksAt}
use Rattle.run_record.specs.Pieces.{path_text}

-- where bytes begin with the first n lines of a recording, or with all where it has fewer before its program's text, line n is not the first that breaks the form
pub record NoneBreaks (r : Recorded) (n : ℕ) (after : List ℕ) : Type 0 where
  pub none : IsRecorded r → BreaksAt n at_head 1 (ended (take n (lines r)) ++ after) → ⊥

-- the lines before line n of bytes are the first of a recording that has more lines
pub record BeginsSome (bytes : List ℕ) (n : ℕ) : Type 0 where
  pub record_of : Recorded
  pub fit : IsRecorded record_of
  pub before : ℕ
  pub counted : n ≡ suc before
  pub more : before < length (lines record_of)
  pub after : List ℕ
  pub begins : bytes ≡ ended (take before (lines record_of)) ++ after

-- where line n of bytes is the first that breaks the form, those before it are the first of a recording
pub record IsLeast (bytes : List ℕ) (n : ℕ) : Type 0 where
  pub some : BreaksAt n at_head 1 bytes → BeginsSome bytes n

-- a path is spelled with a dot between its numbers
pub record IsDotted (path : List ℕ) : Type 0 where
  pub dotted : path_text path ≡ join_with_byte 46 (map decimal path)
