-- What the ask that stands is for.
use Rattle.std.specs.Prelude.{ℕ, Bool, true, false, List, [], ◌∷◌, Option, Some, None, nat_eq}
use Rattle.jade_base.specs.declared.report.Blame.{Blame}
use Rattle.jade_meaning.specs.Talk.{Event}
use Rattle.task_machine.specs.declared.machine.Ask.{Ask}
use Rattle.task_machine.specs.declared.machine.Ask.TheVariants as ask
use Rattle.task_suspend.specs.declared.modes.Modes.{Modes}
use Rattle.task_suspend.specs.Modes.{has_mode}

-- a content is asked for in one of these modes
abbrev pub is_take_in : Modes → Ask → Bool
is_take_in ms (ask.Take o m) = has_mode ms m
is_take_in ms (ask.GiveBack o) = false
is_take_in ms ask.Create = false
is_take_in ms ask.Change = false
is_take_in ms ask.End = false
is_take_in ms (ask.Fault b) = false

-- the content of this object is asked for
abbrev pub is_take_of : ℕ → Ask → Bool
is_take_of n (ask.Take o m) = nat_eq o.0 n
is_take_of n (ask.GiveBack o) = false
is_take_of n ask.Create = false
is_take_of n ask.Change = false
is_take_of n ask.End = false
is_take_of n (ask.Fault b) = false

-- an ask stands, of which this is true
abbrev pub asks : (Ask → Bool) → Option Ask → Bool
asks f None = false
asks f (Some a) = f a

-- the task is to end, with a fault or without one
abbrev pub is_end : Ask → Bool
is_end (ask.Take o m) = false
is_end (ask.GiveBack o) = false
is_end ask.Create = false
is_end ask.Change = false
is_end ask.End = true
is_end (ask.Fault b) = true

-- the ask of a task that ends, with this fault, if with one
abbrev pub ending : Option Blame → Ask
ending None = ask.End
ending (Some b) = ask.Fault b

-- no event is left
abbrev pub is_over : List Event → Bool
is_over [] = true
is_over (e ∷ es) = false
