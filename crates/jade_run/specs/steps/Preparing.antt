-- A text that is ready to be run, or is answered without a run.
use Rattle.std.specs.Prelude.{◌≡◌, ℕ, ◌⊎◌, List, length, ℤ}
use Rattle.jade_run.specs.declared.answer.Ready.{Ready}
use Rattle.jade_run.specs.declared.answer.Ready.TheVariants.{Program, Answered}
use Rattle.jade_run.specs.declared.status.Status.{Status}
use Rattle.jade_run.specs.declared.status.Status.TheVariants.{Refused, Numbers}
use Rattle.jade_run.specs.steps.Homes.{home_of}
use Rattle.jade_run.specs.Answered.{IsGood, IsAnswered, TurnLists, input_count}

-- what a text comes to under whatever limit and turn lists, which is a refusal or a word on the count of numbers
pub record IsSettled (bytes : List ℕ) (numbers : List ℤ) (text : List ℕ) (status : Status) : Type 0 where
  pub answered : (limit : ℕ) (turns : TurnLists) → IsAnswered bytes numbers limit turns text status
  pub unrun : (status ≡ Refused) ⊎ (status ≡ Numbers)

-- the program of the text, with a number for each of its inputs, or what the text comes to without one
abbrev pub IsReady : List ℕ → List ℤ → Ready → Type 0
IsReady bytes numbers (Program c home) = IsGood bytes c.program (home_of home) × (length numbers ≡ input_count c.program)
IsReady bytes numbers (Answered a) = IsSettled bytes numbers a.text.items a.status
