-- Forms that create nothing.
use Rattle.std.proofs.Common.{◌≡◌, ℕ, Some, None, refl, sym, ap, ◌∙◌}
use Rattle.std.proofs.lemmas.Option.{none-some}
use Rattle.jade_base.specs.declared.place.Pos.{Pos}
use Rattle.code_meaning.specs.declared.code.Instruction.{Instruction}
use Rattle.code_meaning.specs.declared.code.Instruction.TheVariants as i
use Rattle.task_code.specs.declared.decoded.Form.{Form}
use Rattle.task_code.specs.declared.decoded.Form.TheVariants as form
use Rattle.task_code.specs.Decoding.{meant}
use Rattle.task_machine.specs.Executions.{created_by}

-- a form that is no creation stands for none
pub creates_nothing : (f : Form) → ((n : ℕ) (at : Pos) → f ≡ form.Create n at → ⊥) → created_by (Some (meant f)) ≡ None
creates_nothing form.Step h = refl
creates_nothing (form.Set t o) h = refl
creates_nothing (form.SetNumber t z) h = refl
creates_nothing (form.SetSlot t k) h = refl
creates_nothing (form.Sign sign t k at) h = refl
creates_nothing (form.Operate o t j k at) h = refl
creates_nothing (form.AddSlots t j k at) h = refl
creates_nothing (form.AddNumber t j z at) h = refl
creates_nothing (form.SubtractSlots t j k at) h = refl
creates_nothing (form.SubtractNumber t j z at) h = refl
creates_nothing (form.MultiplySlots t j k at) h = refl
creates_nothing (form.MultiplyNumber t j z at) h = refl
creates_nothing (form.MultiplyBy t z k at) h = refl
creates_nothing (form.DivideSlots t j k at) h = refl
creates_nothing (form.DivideNumber t j z at) h = refl
creates_nothing (form.DividePower t j e at) h = refl
creates_nothing (form.RemainderSlots t j k at) h = refl
creates_nothing (form.RemainderNumber t j z at) h = refl
creates_nothing (form.RemainderPower t j e at) h = refl
creates_nothing (form.RelateSlots r t j k at) h = refl
creates_nothing (form.RelateNumber r t j z at) h = refl
creates_nothing (form.Decide l k n) h = refl
creates_nothing (form.Jump n) h = refl
creates_nothing (form.JumpFalse k n) h = refl
creates_nothing (form.JumpFalseSlot k n) h = refl
creates_nothing (form.Turn base n) h = refl
creates_nothing (form.Next base back) h = refl
creates_nothing (form.Member first count t k at) h = refl
creates_nothing (form.Within size k at) h = refl
creates_nothing (form.WithinSlot size k at) h = refl
creates_nothing (form.Reach first count size t k c at) h = refl
creates_nothing (form.ReachSlots first count size t k c at) h = refl
creates_nothing (form.ReadOf o size t c at) h = refl
creates_nothing (form.ReadOfSlot o size t c at) h = refl
creates_nothing (form.ReadIn first count size t k c at) h = refl
creates_nothing (form.ReadInSlots first count size t k c at) h = refl
creates_nothing (form.Read size t o c at) h = refl
creates_nothing (form.ReadSlot size t o c at) h = refl
creates_nothing (form.WriteOf o c v at) h = refl
creates_nothing (form.WriteOfSlots o c v at) h = refl
creates_nothing (form.Write o c v at) h = refl
creates_nothing (form.WriteSlots o c v at) h = refl
creates_nothing (form.Fresh count at) h = refl
creates_nothing (form.Draft at) h = refl
creates_nothing (form.Declare how o at) h = refl
creates_nothing (form.Create n at) h = absurd (h n at refl)
creates_nothing form.Commit h = refl
creates_nothing form.Finish h = refl

pub no_creation : (f : Form) → ((n : ℕ) (at : Pos) → f ≡ form.Create n at → ⊥) → (n : ℕ) (at : Pos) → meant f ≡ i.Create n at → ⊥
no_creation f h n at e = none-some n (sym (creates_nothing f h) ∙ ap (λ (x : Instruction). created_by (Some x)) e)
