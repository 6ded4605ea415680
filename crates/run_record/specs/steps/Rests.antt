-- What stands between two places of a recording.
use Rattle.std.specs.Prelude.{◌≡◌, ℕ, ◌≤◌, List, [], ◌∷◌, ◌++◌, length, map, All}
use Rattle.run_record.specs.declared.turns.LabelledTurn.{LabelledTurn}
use Rattle.run_record.specs.declared.paths.Unfit.{Unfit}
use Rattle.run_record.specs.declared.paths.Unfit.TheVariants.{Form, Memory}
use Rattle.run_record.specs.declared.read.ReadError.{ReadError}
use Rattle.run_record.specs.declared.read.ReadError.TheVariants.{Form as Broken, Memory as NoMemory}
use Rattle.run_record.specs.Form.{Stage, at_turns, at_answer, BreaksAt}
use Rattle.run_record.specs.Recording.{IsTurn, turns_line, answer_line, text_line, ended}
use Rattle.run_record.specs.Pieces.{Lacks}

-- lines were passed from one place to another: whatever breaks the form after them is the first to do so also before them
pub record Passed (from : Stage) (number : ℕ) (bytes : List ℕ) (to : Stage) (next : ℕ) (after : List ℕ) (lines : List (List ℕ)) : Type 0 where
  pub whole : bytes ≡ ended lines ++ after
  pub breaks : (n : ℕ) → BreaksAt n to next after → BreaksAt n from number bytes

-- the lines of turns, and that of the answer's count, were passed
pub record TurnsRead (number : ℕ) (bytes : List ℕ) (turns : List LabelledTurn) (count next : ℕ) (after : List ℕ) : Type 0 where
  pub turns_fit : All IsTurn turns
  pub few : count ≤ 4096
  pub passed : Passed at_turns number bytes (at_answer count) next after (map turns_line turns ++ answer_line count ∷ [])

-- lines of an answer and a text are all that bytes have
pub record EndingRead (count : ℕ) (bytes : List ℕ) (answer : List (List ℕ)) (text : List ℕ) : Type 0 where
  pub counted : length answer ≡ count
  pub lines : All (Lacks 10) answer
  pub whole : bytes ≡ ended (answer ++ text_line ∷ []) ++ text

-- why a recording is not read whose line of a number is not
abbrev pub error_at : ℕ → Unfit → ReadError
error_at number Form = Broken number
error_at number Memory = NoMemory
