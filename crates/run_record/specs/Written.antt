-- What comes of a recording that is written.
use Rattle.std.specs.Prelude.{◌≡◌, ℕ, ◌<◌, ◌≤◌, List, length}
use Rattle.run_record.specs.declared.write.RecordError.{RecordError}
use Rattle.run_record.specs.declared.write.RecordError.TheVariants.{Long, Memory}
use Rattle.run_record.specs.Recording.{Recorded, recording}

-- the text is the recording, which is not too long
pub record IsWritten (r : Recorded) (text : List ℕ) : Type 0 where
  pub whole : text ≡ recording r
  pub short : length text ≤ 1048576

-- the recording is too long; want of memory says nothing of it
abbrev pub IsUnwritten : Recorded → RecordError → Type 0
IsUnwritten r Long = 1048576 < length (recording r)
IsUnwritten r Memory = Unit {0}
