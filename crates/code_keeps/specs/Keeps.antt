-- Rules that the code of every program keeps.
use Rattle.std.specs.Prelude.{◌≡◌, ℕ, true, Some, slice_get}
use Rattle.jade_syntax.specs.Abstract.{AbstractProgram}
use Rattle.code_meaning.specs.declared.code.Instruction.{Instruction}
use Rattle.code_meaning.specs.Meaning.{Body}
use Rattle.jade_syntax.specs.Objects.{sizes}
use Rattle.task_translation.specs.Compile.{inputs_in, compiled}
use Rattle.task_code.specs.Rules.{TaskCode, begins, slots_are_there, places_are_there, Valid}

-- the slots that its instructions name are there
abbrev pub KeepsSlots : AbstractProgram → Type 0
KeepsSlots p =
    (own place : ℕ) (b : Body) (x : Instruction) → slice_get (compiled p) own ≡ Some b → slice_get b.code place ≡ Some x → slots_are_there b.slots x ≡ true

-- the places to which its instructions may go are there
abbrev pub KeepsPlaces : AbstractProgram → Type 0
KeepsPlaces p =
    (own place : ℕ) (b : Body) (x : Instruction) → slice_get (compiled p) own ≡ Some b → slice_get b.code place ≡ Some x → places_are_there b.code place x
    ≡ true

-- the code of a program, with its inputs and objects
abbrev pub whole_code : AbstractProgram → TaskCode
whole_code p = record { bodies = compiled p; inputs = inputs_in p.items; sizes = sizes p.items }

-- each body has an instruction, and slots for the inputs and for what it is given, which is nothing for the first one
abbrev pub KeepsBeginnings : AbstractProgram → Type 0
KeepsBeginnings p = (own : ℕ) (b : Body) → slice_get (compiled p) own ≡ Some b → begins (whole_code p) own b ≡ true

-- no rule is broken
abbrev pub KeepsRules : AbstractProgram → Type 0
KeepsRules p = Valid (whole_code p)
