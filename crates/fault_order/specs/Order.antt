-- Which fault note comes first, and where the steps of the parts pass a limit.
use Rattle.std.specs.Prelude.{◌≡◌, ℕ, ◌+◌, ◌<◌, ◌≤◌, Bool, List, length, take, Some, slice_get}
use Rattle.std.specs.List.{IsFirstBest, sum_by}
use Rattle.jade_base.specs.declared.report.FaultNote.{FaultNote}
use Rattle.jade_base.specs.declared.report.PartStep.{PartStep}
use Rattle.jade_base.specs.Places.{is_before, key}

-- the key of a fault note
abbrev pub key_of : FaultNote → List ℕ
key_of note = key note.path note.children

-- the first note has the lesser key
abbrev pub comes_before : FaultNote → FaultNote → Bool
comes_before a b = is_before (key_of a) (key_of b)

-- no note of the list has a lesser key, and those that stand before it in the list have greater ones
abbrev pub IsFirstNote : List FaultNote → FaultNote → Type 0
IsFirstNote notes note =
    (place : ℕ) × (slice_get notes place ≡ Some note) × IsFirstBest comes_before notes (length notes) place

-- the steps of these parts together
abbrev pub steps_in : List PartStep → ℕ
steps_in parts = sum_by (λ part. part.steps) parts

-- the parts before it have no more steps than the limit, and with it they have more
abbrev pub PassesLimit : List PartStep → ℕ → PartStep → Type 0
PassesLimit parts limit part =
    (place : ℕ) × (slice_get parts place ≡ Some part) × (steps_in (take place parts) ≤ limit)
    × (limit < steps_in (take place parts) + part.steps)
