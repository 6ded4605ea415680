-- Why the clauses of Fit and the test of a commuting specification say what they say: computed.
use Rattle.std.specs.Prelude.{◌≡◌, ℕ, false, List, [], ◌∷◌, Some, None, pos, refl}
use Rattle.jade_base.specs.declared.rights.Right.{Right}
use Rattle.jade_base.specs.declared.rights.Rights.{Rights}
use Rattle.jade_base.specs.Rights.{no_rights}
use Rattle.jade_meaning.specs.Specification.{rights_on, commuting_on, allows_commuting}
use Rattle.jade_base.specs.declared.rights.Mode.TheVariants.{Writing, Commuting}
use Rattle.jade_meaning.specs.Course.{Ends}
use Rattle.jade_meaning.specs.Talk.{Event, Take, start_takes, start_holds}
use Rattle.jade_meaning.specs.Serial.{DidTurn, DidEnd}
use Rattle.jade_meaning.specs.Turns.{World, at_path, turn, kept_from}
use Rattle.schedule_core.specs.Core.{Live, Bare}
use Rattle.jade_meaning.specs.Doing.{opened, preceded}
use Rattle.schedule_core.specs.Sound.{settling, awaits, left}
use Rattle.schedule_core.specs.Onwards.{sited}
use Rattle.schedule_core.proofs.Opened.{live_of}

abbrev own : Rights
own = record { reads = Right.Absent; writes = Right.Absent; commutes = Right.Immediate }

abbrev later : Rights
later = record { reads = Right.Absent; writes = Right.Absent; commutes = Right.Deferred }

abbrev reading : Rights
reading = record { reads = Right.Immediate; writes = Right.Absent; commutes = Right.Absent }

-- a deferred commuting right would be the task's own, and would never be taken; so the test refuses it
deferred_own : commuting_on (later ∷ []) ≡ Some 0
deferred_own = refl

deferred_never : start_takes (later ∷ []) ≡ []
deferred_never = refl

deferred_refused : allows_commuting (Some 0) (later ∷ []) ≡ false
deferred_refused = refl

-- part 0 while it waits: its turn is run from part 0, and what it does itself is of its part
abbrev ends_now : ℕ → List Event → Live Bare
ends_now k es = live_of (0 ∷ []) k (λ o. own) (λ o. None) (λ o. None) (record { pending = es; spec = own ∷ []; plan = Some Commuting ∷ []; steps = 0; course = Ends None })

abbrev w : World
w = record { store = (pos 5 ∷ []) ∷ []; waiting = [] }

by_turn : turn (record { path = 0 ∷ []; object = 0; course = Ends None; steps = 0; kept = [] }) w.store ≡ at_path (0 ∷ []) 0 (DidTurn 0) ∷ (at_path (0 ∷ []) 0 (DidEnd None 0) ∷ [])
by_turn = refl

by_itself : (left (λ o. []) (sited (ends_now 1 []) w)).marks ≡ at_path (0 ∷ []) 1 (DidEnd None 0) ∷ []
by_itself = refl

-- a body that ends at once: it waits, and its specification is empty already
waits_at_end : awaits (preceded (start_takes (own ∷ [])) (opened (Ends None) (own ∷ []) (start_holds (own ∷ [])) 0)).pending ≡ Some 0
waits_at_end = refl

empty_at_end : commuting_on (preceded (start_takes (own ∷ [])) (opened (Ends None) (own ∷ []) (start_holds (own ∷ [])) 0)).spec ≡ None
empty_at_end = refl

-- nothing but Takes while it waits: a right that goes changes what is kept for it
kept_before : kept_from 0 (rights_on (reading ∷ [])) w.store ≡ (pos 5 ∷ []) ∷ []
kept_before = refl

kept_after : kept_from 0 (rights_on (no_rights ∷ [])) w.store ≡ [] ∷ []
kept_after = refl

-- no write right while it waits: after a Take for writing what it reads is neither to be taken nor kept
was_to_be_taken : settling (Take 1 Writing ∷ (Take 0 Commuting ∷ [])) ≡ 1 ∷ []
was_to_be_taken = refl

is_not : settling (Take 0 Commuting ∷ []) ≡ []
is_not = refl
