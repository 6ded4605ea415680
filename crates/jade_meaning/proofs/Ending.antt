-- The last event of a task is its end, or a read that has no answer.
use Rattle.std.proofs.Common.{◌≡◌, ℕ, zero, suc, Bool, true, false, List, [], ◌∷◌, ◌++◌, map, refl, ap, subst, drop, None}
use Rattle.std.specs.Prelude.{ℤ}
use Rattle.jade_syntax.specs.declared.tree.Statement.{Statement}
use Rattle.jade_meaning.specs.declared.holds.PendingEvent.{PendingEvent}
use Rattle.jade_meaning.specs.declared.holds.PendingEvent.TheVariants as pending_event
use Rattle.jade_meaning.specs.declared.frames.Transition.{Transition}
use Rattle.jade_meaning.specs.declared.configuration.Configuration.{Configuration}
use Rattle.jade_meaning.specs.declared.configuration.Stage.{Stage}
use Rattle.jade_meaning.specs.declared.configuration.Stage.TheVariants.{Going, Asking, Over}
use Rattle.jade_meaning.specs.Specification.{Specification}
use Rattle.jade_meaning.specs.Course.{Course, Reads, Writes, Steps, Creates, Changes, Ends, Environment, Setting}
use Rattle.jade_meaning.specs.Talk.{Task, Event, Enter, Enroll, Take, TouchRead, TouchWrite, Wants, Give, Leave, Shift, Resign, Holds, talk, events}
use Rattle.jade_meaning.specs.Talk.{first_take, touched, creation_gives, enters, kept, change_gives, shifts, change_takes, changed, end_gives, end_leaves}
use Rattle.jade_meaning.specs.Talk.{start_takes, start_holds}
use Rattle.jade_meaning.specs.Walk.{Passes}
use Rattle.jade_meaning.specs.steps.Frames.{course_of, transition_on}
use Rattle.jade_meaning.specs.steps.Holding.{event_of}
use Rattle.jade_meaning.specs.steps.Configuration.{newborn_task, later, ahead, ready, over, task_from, TellsTransition, Resumes}

abbrev closes : Event → Bool
closes (Resign b n) = true
closes (Wants o c) = true
closes (Enter o a) = false
closes (Enroll t n) = false
closes (Take o m) = false
closes (TouchRead o c v) = false
closes (TouchWrite o c v) = false
closes (Give o) = false
closes (Leave o) = false
closes (Shift o a) = false

abbrev closed : List Event → Bool
closed [] = false
closed (e ∷ []) = closes e
closed (e ∷ f ∷ es) = closed (f ∷ es)

closed_after : (xs ys : List Event) → closed ys ≡ true → closed (xs ++ ys) ≡ true
closed_after [] ys h = h
closed_after (x ∷ []) [] h = absurd (cc)
closed_after (x ∷ []) (y ∷ ys) h = h
closed_after (x ∷ z ∷ xs) ys h = closed_after (z ∷ xs) ys h

events_closed : (c : Course) (spec : Specification) (h : Holds) (n : ℕ) (vs : List ℤ) → closed (events c spec h n vs) ≡ true
events_closed (Reads o c on) spec h n [] = closed_after (first_take spec h o) (Wants o c ∷ []) refl
events_closed (Reads o c on) spec h n (v ∷ vs) =
    closed_after (first_take spec h o) (TouchRead o c v ∷ events (on v) spec (touched spec h o) n vs)
    (closed_after (TouchRead o c v ∷ []) (events (on v) spec (touched spec h o) n vs) (events_closed (on v) spec (touched spec h o) n vs))
events_closed (Writes o c v on) spec h n vs =
    closed_after (first_take spec h o) (TouchWrite o c v ∷ events on spec (touched spec h o) n vs)
    (closed_after (TouchWrite o c v ∷ []) (events on spec (touched spec h o) n vs) (events_closed on spec (touched spec h o) n vs))
events_closed (Steps on) spec h n vs = events_closed on spec h (suc n) vs
events_closed (Creates child body on) spec h n vs =
    let e = Enroll (record { spec = child; course = body }) n in
    closed_after (creation_gives child h ++ enters child) (e ∷ events on spec (kept child h) 0 vs)
    (closed_after (e ∷ []) (events on spec (kept child h) 0 vs) (events_closed on spec (kept child h) 0 vs))
events_closed (Changes new on) spec h n vs =
    closed_after (change_gives new h ++ shifts spec new ++ change_takes spec new h) (events on new (changed spec new h) n vs)
    (events_closed on new (changed spec new h) n vs)
events_closed (Ends b) spec h n vs = closed_after (end_gives spec h ++ end_leaves spec) (Resign b n ∷ []) refl

pub talk_closed : (t : Task) (vs : List ℤ) → closed (talk t vs) ≡ true
talk_closed t vs = closed_after (start_takes t.spec) (events t.course t.spec (start_holds t.spec) 0 vs)
    (events_closed t.course t.spec (start_holds t.spec) 0 vs)

pub last_closes : (k : ℕ) (xs : List Event) (e : Event) → closed xs ≡ true → drop k xs ≡ e ∷ [] → closes e ≡ true
last_closes zero xs e h d = subst (λ ys. closed ys ≡ true) d h
last_closes (suc k) [] e h d = absurd (cc)
last_closes (suc zero) (x ∷ []) e h d = absurd (cc)
last_closes (suc (suc k)) (x ∷ []) e h d = absurd (cc)
last_closes (suc k) (x ∷ y ∷ ys) e h d = last_closes k (y ∷ ys) e h d

-- an event that a task goes past without a value is not its last one
pub not_last : (w : Task) (e : PendingEvent) → Passes None (event_of w e) → closes (event_of w e) ≡ true → ⊥
not_last w (pending_event.Enter o a) p h = absurd (cc)
not_last w (pending_event.Enroll n) p h = absurd (cc)
not_last w (pending_event.Take o m) p h = absurd (cc)
not_last w (pending_event.Write o c v) p h = absurd (cc)
not_last w (pending_event.Give o) p h = absurd (cc)
not_last w (pending_event.Leave o) p h = absurd (cc)
not_last w (pending_event.Shift o a) p h = absurd (cc)
not_last w (pending_event.Resign b n) p h = p

-- events that close are told to their end by what has something to tell
told_still : (w : Task) (ps : List PendingEvent) (stage : Stage) (c : Course) (spec : Specification) (h : Holds) (n : ℕ) (vs : List ℤ)
    → closed (map (event_of w) ps ++ later stage c spec h n vs) ≡ true → over stage ≡ true → ready ps stage ≡ true
told_still w (e ∷ es) stage c spec h n vs k g = refl
told_still w [] Going c spec h n vs k g = absurd (cc)
told_still w [] (Asking o a) c spec h n vs k g = absurd (cc)
told_still w [] Over c spec h n vs k g = absurd (cc)

-- a transition is told to its end
pub transition_ends : (s : Setting) (d : Transition) (t u : Configuration) → TellsTransition s d t u → over u.stage ≡ true
    → ready u.pending.items u.stage ≡ true
transition_ends s d t u h =
    told_still (newborn_task s u.newborn) u.pending.items u.stage (Ends None) u.spec u.holds u.part []
    (subst (λ es. closed es ≡ true) (h.0 (Ends None) []) (events_closed (transition_on s d (Ends None)) t.spec t.holds t.part []))

-- a task that begins has something to tell, or goes on
pub begun_ends : (s : Setting) (env : Environment) (spec : Specification) (body : List Statement) (t : Configuration)
    → ((vs : List ℤ) → talk (task_from s env spec body) vs ≡ ahead s [] t 0 vs) → over t.stage ≡ true → ready t.pending.items t.stage ≡ true
begun_ends s env spec body t h =
    told_still (newborn_task s t.newborn) t.pending.items t.stage (course_of s [] t.run) t.spec t.holds t.part []
    (subst (λ es. closed es ≡ true) (h []) (talk_closed (task_from s env spec body) []))

-- a task that goes on once all is told goes on
pub resumed_goes : (t u : Configuration) → Resumes t u → over u.stage ≡ true → ready u.pending.items u.stage ≡ true
resumed_goes t u r h = let e : over u.stage ≡ false = ap over r.7 in absurd (cc)

-- a task that has nothing to tell has not told its end
pub not_over_yet : (ps : List PendingEvent) (stage : Stage) → (over stage ≡ true → ready ps stage ≡ true) → ready ps stage ≡ false → over stage ≡ false
not_over_yet ps Going f h = refl
not_over_yet ps (Asking o a) f h = refl
not_over_yet ps Over f h = absurd (let e = f refl in cc)
