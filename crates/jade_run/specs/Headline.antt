-- The headline: what a whole call reads, writes and answers.
use Rattle.std.specs.Prelude.{◌≡◌, ℕ, ◌<◌, List, length, take, drop, Option, Some}
use Rattle.jade_base.specs.Bytes.{Rose, taken_with}
use Rattle.jade_run.specs.declared.status.Status.{Status}
use Rattle.jade_run.specs.declared.status.Status.TheVariants.{Good, Fault, Refused, Words, Numbers, Reading, Writing, Memory, Replay}
use Rattle.jade_run.specs.Answered.{TurnLists}
use Rattle.jade_run.specs.Outcome.{IsOutcome}
use Rattle.jade_run.specs.Witnessed.{SeenRun, SawWords}
use Rattle.jade_run.specs.Words.{NeedsText, NeedsNoText}

-- what a source, a sink and a witness tell at one moment: the bytes left, the bytes taken and the room where they tell them, their counts of faults, and
-- the runs that were shown
pub record Moment : Type 0 where
  pub left : Option (List ℕ)
  pub taken : Option (List ℕ)
  pub room : Option ℕ
  pub source_faults : ℕ
  pub sink_faults : ℕ
  pub seen : Option (List SeenRun)

-- the most bytes that are taken out of a source: one more than a text may have
abbrev pub most_read : ℕ
most_read = 1048577

-- a text that is the outcome of the words and of the bytes that the source had, for some turn lists; where it tells no bytes, of some bytes. Where workers
-- ran the program of the text, the witness was shown this run before, and the turn lists are full and those that it was told
pub record Comes (words : List (List ℕ)) (left : Option (List ℕ)) (text : List ℕ) (status : Status) (before after : Option (List SeenRun)) : Type 0 where
  pub bytes : List ℕ
  pub told : (b : List ℕ) → left ≡ Some b → bytes ≡ b
  pub turns : TurnLists
  pub outcome : IsOutcome words bytes turns text status
  pub saw : SawWords words bytes turns status before after

-- the outcome of the words and of what a source had left, and what it has left then: nothing, unless the text was too long, where the words need a text;
-- and else what it had
pub record Answers (words : List (List ℕ)) (left rest : Option (List ℕ)) (text : List ℕ) (status : Status) (before after : Option (List SeenRun)) : Type 0 where
  pub comes : Comes words left text status before after
  pub read : NeedsText words → (b : List ℕ) → left ≡ Some b → rest ≡ Some (drop most_read b)
  pub unread : NeedsNoText words → rest ≡ left

-- why there is no outcome: the source failed, or memory was wanting
abbrev pub Stops : Status → (before after : ℕ) → Type 0
Stops Reading before after = Rose before after
Stops Memory before after = Unit {0}
Stops Good before after = ⊥
Stops Fault before after = ⊥
Stops Refused before after = ⊥
Stops Words before after = ⊥
Stops Numbers before after = ⊥
Stops Writing before after = ⊥
Stops Replay before after = ⊥

-- the outcome was written whole, and nothing is left to read, unless the text was too long; words that need no text leave all of it
pub record WroteAll (words : List (List ℕ)) (status : Status) (before after : Moment) : Type 0 where
  pub text : List ℕ
  pub answers : Answers words before.left after.left text status before.seen after.seen
  pub written : after.taken ≡ taken_with before.taken text

-- the sink failed before all of the outcome was written, and a told room was too small for it
pub record WrotePart (words : List (List ℕ)) (before after : Moment) : Type 0 where
  pub rose : Rose before.sink_faults after.sink_faults
  pub text : List ℕ
  pub status : Status
  pub comes : Comes words before.left text status before.seen after.seen
  pub count : ℕ
  pub part : count < length text
  pub written : after.taken ≡ taken_with before.taken (take count text)
  pub short : (r : ℕ) → before.room ≡ Some r → r < length text

-- the source failed, and nothing was written or run
pub record ReadFailed (before after : Moment) : Type 0 where
  pub rose : Rose before.source_faults after.source_faults
  pub written : after.taken ≡ before.taken
  pub unseen : after.seen ≡ before.seen

-- what a status says of a whole call
abbrev pub Headline : List (List ℕ) → Status → (before after : Moment) → Type 0
Headline words Good before after = WroteAll words Good before after
Headline words Fault before after = WroteAll words Fault before after
Headline words Refused before after = WroteAll words Refused before after
Headline words Words before after = WroteAll words Words before after
Headline words Numbers before after = WroteAll words Numbers before after
Headline words Reading before after = ReadFailed before after
Headline words Writing before after = WrotePart words before after
Headline words Memory before after = after.taken ≡ before.taken
Headline words Replay before after = WroteAll words Replay before after
