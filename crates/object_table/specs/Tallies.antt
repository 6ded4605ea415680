-- The roll's slot: how many notes may still come, and those that were handed in.
-- Who has a ticket may note one part of a task that has ended, and hand the note in later. Each live task has a ticket, for its last part.
use Rattle.std.specs.Prelude.{ℕ, ◌+◌, ◌-◌, ◌/◌, ◌^◌, Bool, List, [], ◌++◌, nat_eq}
use Rattle.task_roll.specs.declared.note.PartNote.{PartNote}

-- what the roll's slot has: how many tickets are out with passes and notes in their hands, and the notes that were handed in
pub record TallyView : Type 0 where
  pub due : ℕ
  pub notes : List PartNote

-- how many tickets a pass is given at once, and how many notes there are room for in all
abbrev pub stock : ℕ
stock = 2 ^ 32

abbrev pub most : ℕ
most = 2 ^ 62

-- how many of so many tickets a child is given
abbrev pub share : ℕ → ℕ
share t = 1 + t / 16

-- the root has all tickets that are out
abbrev pub opened : TallyView
opened = record { due = stock; notes = [] }

-- a pass is given more tickets
abbrev pub restocked : TallyView → TallyView
restocked r = record r { due = r.due + stock }

-- so many tickets and notes come in, these notes among them
abbrev pub received : ℕ → List PartNote → TallyView → TallyView
received k ns r = record { due = r.due - k; notes = r.notes ++ ns }

-- nothing may still come
abbrev pub is_settled : TallyView → Bool
is_settled r = nat_eq r.due 0
