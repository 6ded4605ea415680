-- The words of a command. A number is spelled in decimal, without a needless zero.
use Rattle.std.specs.Prelude.{◌≡◌, ℕ, ◌≤◌, Bool, true, false, List, [], ◌∷◌, length, map, codes, ℤ}
use Rattle.std.specs.List.{list_all}
use Rattle.std.specs.Fmt.{decimal, signed_decimal}
use Rattle.number_words.specs.Numbers.{is_number}
use Rattle.jade_run.specs.declared.words.Command.{Command}
use Rattle.jade_run.specs.declared.words.Command.TheVariants.{Run, Serial, Check, Show, Drill, Record, Replay, Expand}
use Rattle.jade_run.specs.declared.words.WordsError.{WordsError}
use Rattle.jade_run.specs.declared.words.WordsError.TheVariants.{Usage, Memory}

-- a word spells a number from 1 to the most allowed
pub record SpellsAmount (word : List ℕ) (most n : ℕ) : Type 0 where
  pub spelled : word ≡ decimal n
  pub some : 1 ≤ n
  pub within : n ≤ most

-- words spell these numbers, of which there are at most 64, each of 64 bits with its sign
pub record SpellsNumbers (words : List (List ℕ)) (numbers : List ℤ) : Type 0 where
  pub spelled : words ≡ map signed_decimal numbers
  pub fit : list_all is_number numbers ≡ true
  pub few : length numbers ≤ 64

-- words spell a limit of 1 to 4,294,967,295 steps, and then the numbers for the inputs
pub record SpellsExecution (words : List (List ℕ)) (limit : ℕ) (numbers : List ℤ) : Type 0 where
  pub first : List ℕ
  pub more : List (List ℕ)
  pub two : words ≡ first ∷ more
  pub steps : SpellsAmount first 4294967295 limit
  pub given : SpellsNumbers more numbers

-- words spell 1 to 64 workers, and then a limit and numbers
pub record SpellsRun (words : List (List ℕ)) (workers limit : ℕ) (numbers : List ℤ) : Type 0 where
  pub first : List ℕ
  pub more : List (List ℕ)
  pub two : words ≡ first ∷ more
  pub crew : SpellsAmount first 64 workers
  pub execution : SpellsExecution more limit numbers

-- `run WORKERS LIMIT NUMBER*`
pub record RunWords (words : List (List ℕ)) (workers limit : ℕ) (numbers : List ℤ) : Type 0 where
  pub more : List (List ℕ)
  pub two : words ≡ codes "run" ∷ more
  pub run : SpellsRun more workers limit numbers

-- `record WORKERS LIMIT NUMBER*`
pub record RecordWords (words : List (List ℕ)) (workers limit : ℕ) (numbers : List ℤ) : Type 0 where
  pub more : List (List ℕ)
  pub two : words ≡ codes "record" ∷ more
  pub run : SpellsRun more workers limit numbers

-- `replay`
pub record ReplayWords (words : List (List ℕ)) : Type 0 where
  pub spelled : words ≡ codes "replay" ∷ []

-- `expand`
pub record ExpandWords (words : List (List ℕ)) : Type 0 where
  pub spelled : words ≡ codes "expand" ∷ []

-- `serial LIMIT NUMBER*`
pub record SerialWords (words : List (List ℕ)) (limit : ℕ) (numbers : List ℤ) : Type 0 where
  pub more : List (List ℕ)
  pub two : words ≡ codes "serial" ∷ more
  pub execution : SpellsExecution more limit numbers

-- `check`
pub record CheckWords (words : List (List ℕ)) : Type 0 where
  pub spelled : words ≡ codes "check" ∷ []

-- `show`
pub record ShowWords (words : List (List ℕ)) : Type 0 where
  pub spelled : words ≡ codes "show" ∷ []

-- words spell 1 to 10,000 tasks and then 1 to 64 workers, and nothing more
pub record SpellsDrill (words : List (List ℕ)) (tasks workers : ℕ) : Type 0 where
  pub first : List ℕ
  pub second : List ℕ
  pub two : words ≡ first ∷ second ∷ []
  pub amount : SpellsAmount first 10000 tasks
  pub crew : SpellsAmount second 64 workers

-- `drill TASKS WORKERS`
pub record DrillWords (words : List (List ℕ)) (tasks workers : ℕ) : Type 0 where
  pub more : List (List ℕ)
  pub two : words ≡ codes "drill" ∷ more
  pub drill : SpellsDrill more tasks workers

-- the words are those of a command that works on a text
pub data NeedsText (words : List (List ℕ)) : Type 0 where
  to_run : (workers limit : ℕ) (numbers : List ℤ) → RunWords words workers limit numbers → NeedsText words
  to_serial : (limit : ℕ) (numbers : List ℤ) → SerialWords words limit numbers → NeedsText words
  to_check : CheckWords words → NeedsText words
  to_show : ShowWords words → NeedsText words
  to_record : (workers limit : ℕ) (numbers : List ℤ) → RecordWords words workers limit numbers → NeedsText words
  to_replay : ReplayWords words → NeedsText words
  to_expand : ExpandWords words → NeedsText words

-- no text is needed for the words: they are a drill's, or are refused
abbrev pub NeedsNoText : List (List ℕ) → Type 0
NeedsNoText words = NeedsText words → ⊥

-- the words are those of a command
pub data AcceptsWords (words : List (List ℕ)) : Type 0 where
  on_text : NeedsText words → AcceptsWords words
  to_drill : (tasks workers : ℕ) → DrillWords words tasks workers → AcceptsWords words

-- the words are those of no command
abbrev pub RefusesWords : List (List ℕ) → Type 0
RefusesWords words = AcceptsWords words → ⊥

-- the words ask for this command
abbrev pub Asks : List (List ℕ) → Command → Type 0
Asks words (Run workers e) = RunWords words workers e.limit e.numbers
Asks words (Serial e) = SerialWords words e.limit e.numbers
Asks words Check = CheckWords words
Asks words Show = ShowWords words
Asks words (Drill tasks workers) = DrillWords words tasks workers
Asks words (Record workers e) = RecordWords words workers e.limit e.numbers
Asks words Replay = ReplayWords words
Asks words Expand = ExpandWords words

-- whether a command works on a text
abbrev pub works_on_text : Command → Bool
works_on_text (Run workers e) = true
works_on_text (Serial e) = true
works_on_text Check = true
works_on_text Show = true
works_on_text (Drill tasks workers) = false
works_on_text (Record workers e) = true
works_on_text Replay = true
works_on_text Expand = true

-- words are refused that are those of no command; want of memory says nothing of them
abbrev pub IsUsage : List (List ℕ) → WordsError → Type 0
IsUsage words Usage = RefusesWords words
IsUsage words Memory = Unit {0}

-- the same of words that should spell numbers, a limit and numbers, or workers, a limit and numbers
abbrev pub NoNumbers : List (List ℕ) → WordsError → Type 0
NoNumbers words Usage = (numbers : List ℤ) → SpellsNumbers words numbers → ⊥
NoNumbers words Memory = Unit {0}

-- no limit and numbers are spelled
abbrev pub NoExecution : List (List ℕ) → WordsError → Type 0
NoExecution words Usage = (limit : ℕ) (numbers : List ℤ) → SpellsExecution words limit numbers → ⊥
NoExecution words Memory = Unit {0}

-- no workers, limit and numbers are spelled
abbrev pub NoRun : List (List ℕ) → WordsError → Type 0
NoRun words Usage = (workers limit : ℕ) (numbers : List ℤ) → SpellsRun words workers limit numbers → ⊥
NoRun words Memory = Unit {0}

-- no tasks and workers of a drill are spelled
abbrev pub NoDrill : List (List ℕ) → Type 0
NoDrill words = (tasks workers : ℕ) → SpellsDrill words tasks workers → ⊥
