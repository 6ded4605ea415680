-- The code of a chain whose operands are passed where a value decides, before and after its jumps are written.
use Rattle.std.specs.Prelude.{◌≡◌, ℕ, ◌+◌, List, [], ◌∷◌, ◌++◌, length, Some, slice_get, take}
use Rattle.code_meaning.specs.declared.code.Logic.{Logic}
use Rattle.code_meaning.specs.declared.code.Instruction.{Instruction}
use Rattle.code_meaning.specs.declared.code.Instruction.TheVariants as i

abbrev pub Codes : Type 0
Codes = List (List Instruction)

-- an instruction with another count
abbrev pub counted : Instruction → ℕ → Instruction
counted (i.Decide l k n) m = i.Decide l k m
counted (i.Jump n) m = i.Jump m
counted (i.JumpFalse k n) m = i.JumpFalse k m
counted (i.Turn b n) m = i.Turn b m
counted i.Step m = i.Step
counted (i.Set t o) m = i.Set t o
counted (i.Sign s t k at) m = i.Sign s t k at
counted (i.Operate o t j k at) m = i.Operate o t j k at
counted (i.Next b n) m = i.Next b n
counted (i.Member f c t k at) m = i.Member f c t k at
counted (i.Within s k at) m = i.Within s k at
counted (i.Reach f c s t k o at) m = i.Reach f c s t k o at
counted (i.ReadOf o s t c at) m = i.ReadOf o s t c at
counted (i.ReadIn f c s t k o at) m = i.ReadIn f c s t k o at
counted (i.Read s t o c at) m = i.Read s t o c at
counted (i.WriteOf o c v at) m = i.WriteOf o c v at
counted (i.Write o c v at) m = i.Write o c v at
counted (i.Fresh c at) m = i.Fresh c at
counted (i.Draft at) m = i.Draft at
counted (i.Declare h o at) m = i.Declare h o at
counted (i.Create n at) m = i.Create n at
counted i.Commit m = i.Commit
counted i.Finish m = i.Finish

-- the operands, with no jumps yet
abbrev pub opened : Logic → ℕ → Codes → List Instruction
opened l t [] = []
opened l t (c ∷ cs) = i.Decide l t 0 ∷ (c ++ opened l t cs)

-- each jump passes all that is left
abbrev pub closed : Logic → ℕ → Codes → List Instruction
closed l t [] = []
closed l t (c ∷ cs) = i.Decide l t (length c + length (closed l t cs)) ∷ (c ++ closed l t cs)

-- where the jumps are
pub record Places (l : Logic) (t : ℕ) (base : List Instruction) (cs : Codes) (places : List ℕ) : Type 0 where
  pub count : length places ≡ length cs
  pub each : (j at : ℕ) → slice_get places j ≡ Some at → at ≡ length base + length (opened l t (take j cs))
