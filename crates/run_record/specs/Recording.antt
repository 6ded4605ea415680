-- A recording of a run: what it keeps, and its text, line by line.
use Rattle.std.specs.Prelude.{◌≡◌, ◌≢◌, ℕ, ◌≤◌, true, List, [], ◌∷◌, ◌++◌, length, map, codes, ℤ, All}
use Rattle.std.specs.List.{list_all}
use Rattle.std.specs.Fmt.{decimal, signed_decimal}
use Rattle.run_record.specs.declared.turns.LabelledTurn.{LabelledTurn}
use Rattle.number_words.specs.Numbers.{is_number}
use Rattle.run_record.specs.Pieces.{Lacks, each_after, path_text, IsPath, IsLabel}

-- what a recording keeps: the limit and the numbers of a run, the turns on the objects that any task took in turn, the lines of its answer, and the text of its
-- program
pub record Recorded : Type 0 where
  pub limit : ℕ
  pub numbers : List ℤ
  pub turns : List LabelledTurn
  pub answer : List (List ℕ)
  pub text : List ℕ

-- turns on an object: a label, and the paths of one or more tasks
pub record IsTurn (turn : LabelledTurn) : Type 0 where
  pub label : IsLabel turn.label
  pub some : turn.paths ≢ []
  pub paths : All IsPath turn.paths

-- a recording has a limit of 1 to 4,294,967,295 steps, at most 64 numbers, each of 64 bits with its sign, and at most 4,096 lines of answer
pub record IsRecorded (r : Recorded) : Type 0 where
  pub some_steps : 1 ≤ r.limit
  pub steps_within : r.limit ≤ 4294967295
  pub numbers_fit : list_all is_number r.numbers ≡ true
  pub few_numbers : length r.numbers ≤ 64
  pub turns_fit : All IsTurn r.turns
  pub few_lines : length r.answer ≤ 4096
  pub one_line_each : All (Lacks 10) r.answer

-- the first line
abbrev pub head_line : List ℕ
head_line = codes "jade record 1"

-- limit LIMIT
abbrev pub limit_line : ℕ → List ℕ
limit_line limit = codes "limit " ++ decimal limit

-- numbers, and each number after a space
abbrev pub numbers_line : List ℤ → List ℕ
numbers_line numbers = codes "numbers" ++ each_after 32 (map signed_decimal numbers)

-- turns LABEL, and each path after a space
abbrev pub turns_line : LabelledTurn → List ℕ
turns_line turn = codes "turns " ++ (turn.label ++ each_after 32 (map path_text turn.paths))

-- answer K
abbrev pub answer_line : (lines : ℕ) → List ℕ
answer_line lines = codes "answer " ++ decimal lines

-- the line before the program's text
abbrev pub text_line : List ℕ
text_line = codes "text"

-- the lines of a recording before the program's text
abbrev pub lines : Recorded → List (List ℕ)
lines r =
    head_line ∷ limit_line r.limit ∷ numbers_line r.numbers
    ∷ (map turns_line r.turns ++ answer_line (length r.answer) ∷ (r.answer ++ text_line ∷ []))

-- lines, each ended by a line feed
abbrev pub ended : List (List ℕ) → List ℕ
ended [] = []
ended (line ∷ more) = line ++ 10 ∷ ended more

-- the text of a recording
abbrev pub recording : Recorded → List ℕ
recording r = ended (lines r) ++ r.text
