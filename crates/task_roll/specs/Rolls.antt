-- The roll: the live tasks in serial order, and the notes of the parts that have ended.
use Rattle.std.specs.Prelude.{ℕ, List, [], ◌∷◌, ◌++◌, Option, None, if◌then◌else◌}
use Rattle.jade_base.specs.Places.{key, is_before}
use Rattle.jade_base.specs.declared.report.Blame.{Blame}
use Rattle.task_roll.specs.declared.note.PartNote.{PartNote}
use Rattle.task_roll.specs.Order.{entered, without, fits, is_among}

-- what a roll is seen as; the notes stand in the order in which the parts ended
pub record RollView : Type 0 where
  pub live : List (List ℕ)
  pub notes : List PartNote

abbrev pub on_roll : List (List ℕ) → List PartNote → RollView
on_roll ps ns = record { live = ps; notes = ns }

-- the root alone, which has left no note
abbrev pub started : RollView
started = record { live = (0 ∷ []) ∷ []; notes = [] }

-- one note more
abbrev pub noting : PartNote → List PartNote → List PartNote
noting n ns = ns ++ n ∷ []

-- the child of this number stands directly before its parent, and the parent's part has ended with so many steps; where the parent is not
-- live, or its child would break the serial order, all is as before
abbrev pub enrolled : (parent : List ℕ) (children steps : ℕ) → RollView → RollView
enrolled p n k r =
    if fits p (p ++ n ∷ []) r.live then
    record { live = entered p (p ++ n ∷ []) r.live; notes = noting (record { path = p; children = n; steps = k; blame = None }) r.notes }
    else r

-- the task is live no longer, and its last part has ended with so many steps and with this fault, if with one; where it is not live, all is
-- as before
abbrev pub resigned : List ℕ → (children : ℕ) → Option Blame → (steps : ℕ) → RollView → RollView
resigned p n b k r =
    if is_among p r.live then
    record { live = without p r.live; notes = noting (record { path = p; children = n; steps = k; blame = b }) r.notes }
    else r

-- the key of the part that a note tells of
abbrev pub note_key : PartNote → List ℕ
note_key n = key n.path n.children

-- a note among others, before the first of greater key
abbrev pub filed : PartNote → List PartNote → List PartNote
filed n [] = n ∷ []
filed n (m ∷ ms) = if is_before (note_key n) (note_key m) then n ∷ (m ∷ ms) else m ∷ filed n ms

-- some notes, filed one by one among others
abbrev pub filed_into : List PartNote → List PartNote → List PartNote
filed_into [] ms = ms
filed_into (n ∷ ns) ms = filed_into ns (filed n ms)

-- notes by ascending key; of equal keys the earlier first
abbrev pub by_key : List PartNote → List PartNote
by_key ns = filed_into ns []
