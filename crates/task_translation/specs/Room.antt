-- How many slots a body has: as many as its inputs, what it is given, and its instructions need.
use Rattle.std.specs.Prelude.{ℕ, suc, ◌+◌, max, List, [], ◌∷◌, length, map, slice_index_or}
use Rattle.code_meaning.specs.declared.code.Operand.{Operand}
use Rattle.code_meaning.specs.declared.code.Operand.TheVariants as operand
use Rattle.code_meaning.specs.declared.code.Instruction.{Instruction}
use Rattle.code_meaning.specs.declared.code.Instruction.TheVariants as i
use Rattle.code_meaning.specs.Meaning.{Body}

-- what each body is given
abbrev pub Calls : Type 0
Calls = List (List Operand)

abbrev pub calls_of : List Body → Calls
calls_of bodies = map (λ b. b.call) bodies

-- how many slots there are up to that of an operand
abbrev pub reach : Operand → ℕ
reach (operand.Slot k) = suc k
reach (operand.Whole z) = 0
reach (operand.Truth b) = 0

abbrev pub reaches : List Operand → ℕ
reaches [] = 0
reaches (o ∷ os) = max (reach o) (reaches os)

-- how many slots there are up to the last that an instruction names; one that creates a body names those from which it is given
abbrev pub needs : Calls → Instruction → ℕ
needs calls i.Step = 0
needs calls (i.Set t o) = max (suc t) (reach o)
needs calls (i.Sign s t k at) = max (suc t) (reach k)
needs calls (i.Operate o t j k at) = max (suc t) (max (reach j) (reach k))
needs calls (i.Decide l k m) = suc k
needs calls (i.Jump m) = 0
needs calls (i.JumpFalse k m) = reach k
needs calls (i.Turn base m) = base + 3
needs calls (i.Next base m) = base + 3
needs calls (i.Member f c t k at) = max (suc t) (reach k)
needs calls (i.Within s k at) = reach k
needs calls (i.Reach f c s t k o at) = max (suc t) (max (reach k) (reach o))
needs calls (i.ReadOf o s t c at) = max (suc t) (reach c)
needs calls (i.ReadIn f c s t k o at) = max (suc t) (max (reach k) (reach o))
needs calls (i.Read s t o c at) = max (suc t) (max (suc o) (reach c))
needs calls (i.WriteOf o c v at) = max (reach c) (reach v)
needs calls (i.Write o c v at) = max (suc o) (max (reach c) (reach v))
needs calls (i.Fresh c at) = 0
needs calls (i.Draft at) = 0
needs calls (i.Declare how o at) = reach o
needs calls (i.Create b at) = reaches (slice_index_or calls b [])
needs calls i.Commit = 0
needs calls i.Finish = 0

-- how many slots instructions need, at least so many
abbrev pub room : Calls → (least : ℕ) → List Instruction → ℕ
room calls least [] = least
room calls least (x ∷ code) = max (needs calls x) (room calls least code)

-- a body with its slots
abbrev pub with_slots : (inputs : ℕ) → Calls → Body → Body
with_slots inputs calls b =
    record { call = b.call; slots = room calls (inputs + length b.call) b.code; code = b.code }

-- bodies with their slots
abbrev pub sized : (inputs : ℕ) → List Body → List Body
sized inputs bodies = map (with_slots inputs (calls_of bodies)) bodies
