-- The form of a recording, line by line: what each line may be after those before it, and the first line that is not of its form.
use Rattle.std.specs.Prelude.{◌≡◌, ◌≢◌, ℕ, zero, suc, ◌≤◌, true, ◌⊎◌, List, ◌∷◌, ◌++◌, length, ℤ}
use Rattle.std.specs.List.{list_all}
use Rattle.run_record.specs.declared.turns.LabelledTurn.{LabelledTurn}
use Rattle.run_record.specs.declared.read.ReadError.{ReadError}
use Rattle.run_record.specs.declared.read.ReadError.TheVariants.{Form, Memory}
use Rattle.number_words.specs.Numbers.{is_number}
use Rattle.run_record.specs.Pieces.{Lacks}
use Rattle.run_record.specs.Recording.{Recorded, IsRecorded, IsTurn, head_line, limit_line, numbers_line, turns_line, answer_line, text_line, recording}

-- which line comes next: the first, the limit, the numbers, turns or the count of the answer's lines, a line of the answer or the last before the text when
-- so many lines of the answer are left, and none, as the text has begun
pub data Stage : Type 0 where
  at_head : Stage
  at_limit : Stage
  at_numbers : Stage
  at_turns : Stage
  at_answer : (left : ℕ) → Stage
  at_text : Stage

-- the line is `limit` with a limit
pub record IsLimitLine (line : List ℕ) (limit : ℕ) : Type 0 where
  pub some : 1 ≤ limit
  pub within : limit ≤ 4294967295
  pub spelled : line ≡ limit_line limit

-- the line is `numbers` with these numbers
pub record IsNumbersLine (line : List ℕ) (numbers : List ℤ) : Type 0 where
  pub fit : list_all is_number numbers ≡ true
  pub few : length numbers ≤ 64
  pub spelled : line ≡ numbers_line numbers

-- the line is `turns` with these turns
pub record IsTurnsLine (line : List ℕ) (turn : LabelledTurn) : Type 0 where
  pub fit : IsTurn turn
  pub spelled : line ≡ turns_line turn

-- the line is `answer` with this count
pub record IsAnswerLine (line : List ℕ) (count : ℕ) : Type 0 where
  pub few : count ≤ 4096
  pub spelled : line ≡ answer_line count

-- what a line may be at a stage, and the stage after it
abbrev pub Takes : Stage → (line : List ℕ) → (next : Stage) → Type 0
Takes at_head line next = (line ≡ head_line) × (next ≡ at_limit)
Takes at_limit line next = ((limit : ℕ) × IsLimitLine line limit) × (next ≡ at_numbers)
Takes at_numbers line next = ((numbers : List ℤ) × IsNumbersLine line numbers) × (next ≡ at_turns)
Takes at_turns line next = (((turn : LabelledTurn) × IsTurnsLine line turn) × (next ≡ at_turns)) ⊎ ((count : ℕ) × IsAnswerLine line count × (next ≡ at_answer count))
Takes (at_answer zero) line next = (line ≡ text_line) × (next ≡ at_text)
Takes (at_answer (suc left)) line next = next ≡ at_answer left
Takes at_text line next = ⊥

-- bytes begin with a line
pub record FirstLine (bytes line after : List ℕ) : Type 0 where
  pub whole : bytes ≡ line ++ 10 ∷ after
  pub one : Lacks 10 line

-- of the lines of bytes, which are counted from a number on and begin at a stage, line n is the first that is not of its form, or that is not there
pub data BreaksAt (n : ℕ) : Stage → (number : ℕ) → (bytes : List ℕ) → Type 0 where
  here : {s : Stage} {number : ℕ} {bytes : List ℕ} → number ≡ n → s ≢ at_text
      → ((line after : List ℕ) (next : Stage) → FirstLine bytes line after → Takes s line next → ⊥) → BreaksAt n s number bytes
  later : {s : Stage} {number : ℕ} {bytes : List ℕ} → (line after : List ℕ) (next : Stage) → FirstLine bytes line after → Takes s line next
      → BreaksAt n next (suc number) after → BreaksAt n s number bytes

-- what is read of bytes is a recording's content, and the only one with these bytes
pub record IsRead (bytes : List ℕ) (r : Recorded) : Type 0 where
  pub whole : recording r ≡ bytes
  pub fit : IsRecorded r
  pub only : (other : Recorded) → IsRecorded other → recording other ≡ bytes → other ≡ r

-- why bytes from a stage on are not read: the number of the line that breaks the form; want of memory says nothing of them
abbrev pub IsUnread : Stage → (number : ℕ) → (bytes : List ℕ) → ReadError → Type 0
IsUnread s number bytes (Form n) = BreaksAt n s number bytes
IsUnread s number bytes Memory = Unit {0}

-- bytes are no recording, and this line is the first that breaks the form
abbrev pub IsRefused : (bytes : List ℕ) → ReadError → Type 0
IsRefused bytes error = IsUnread at_head 1 bytes error
