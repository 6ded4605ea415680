-- What a task has still to do, one event further.
use Rattle.std.proofs.Common.{◌≡◌, ℕ, zero, suc, List, [], ◌∷◌, ◌++◌, drop, append_assoc, None, Some, refl, sym, ap, ◌∙◌, subst}
use Rattle.std.specs.Prelude.{ℤ}
use Rattle.std.proofs.lemmas.List.{append-nil}
use Rattle.jade_meaning.specs.Talk.{Task, Event, Enroll, talk}
use Rattle.jade_meaning.specs.Walks.{Walk}
use Rattle.jade_meaning.specs.Walk.{task_of, upcoming, First, moved, IsChildOf, Bears}
use Rattle.task_suspend.specs.Ties.{to_go}

abbrev rest : List Event → List Event
rest [] = []
rest (e ∷ es) = es

-- one element less
drop_more : (d : ℕ) (l : List Event) → drop (suc d) l ≡ rest (drop d l)
drop_more zero [] = refl
drop_more zero (e ∷ es) = refl
drop_more (suc d) [] = refl
drop_more (suc d) (e ∷ es) = drop_more d es

-- the events that come next are those that are to do where no further read is answered
pub upcoming_is : (w : Walk) → upcoming w ≡ to_go w []
upcoming_is w = ap (λ vs. drop w.done (talk (task_of w) vs)) (sym (append-nil w.answers))

-- the next event
pub next_is : (w : Walk) (e : Event) (es : List Event) → to_go w [] ≡ e ∷ es → First (upcoming w) (λ x. x ≡ e)
next_is w e es h = let P : List Event → Type 0 = λ l. First l (λ x. x ≡ e) in subst P (sym (upcoming_is w ∙ h)) refl

-- an event that is no read
pub moved_on : (w : Walk) (vs : List ℤ) (e : Event) (es : List Event) → to_go w vs ≡ e ∷ es → to_go (moved None w) vs ≡ es
moved_on w vs e es h = drop_more w.done (talk (task_of w) (w.answers ++ vs)) ∙ ap rest h

-- a read with its answer
pub answered : (w : Walk) (v : ℤ) (vs : List ℤ) (e : Event) (es : List Event) → to_go w (v ∷ vs) ≡ e ∷ es → to_go (moved (Some v) w) vs ≡ es
answered w v vs e es h =
    ap (λ l. drop (suc w.done) (talk (task_of w) l)) (append_assoc w.answers (v ∷ []) vs)
    ∙ drop_more w.done (talk (task_of w) (w.answers ++ v ∷ vs)) ∙ ap rest h

-- the child of a creation is at its first event
pub child_is : (w child : Walk) (t : Task) (n : ℕ) (es : List Event) → to_go w [] ≡ Enroll t n ∷ es → First (upcoming w) (Bears w (Some child))
    → IsChildOf w t child
child_is w child t n es h b = let P : List Event → Type 0 = λ l. First l (Bears w (Some child)) in subst P (upcoming_is w ∙ h) b

-- it has all of its talk to do
pub child_to_do : (w child : Walk) (t : Task) → IsChildOf w t child → (vs : List ℤ) → to_go child vs ≡ talk t vs
child_to_do w child t is vs =
    ap (λ d. drop d (talk (task_of child) (child.answers ++ vs))) is.done ∙ ap (λ l. talk (task_of child) (l ++ vs)) is.answers ∙ ap (λ x. talk x vs) is.task
