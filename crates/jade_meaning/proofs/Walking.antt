-- A task that is walked, event by event.
use Rattle.std.proofs.Common.{◌≡◌, ℕ, zero, suc, ◌+◌, ◌≤◌, true, false, List, [], ◌∷◌, ◌++◌, map, length, refl, ap, sym, ◌∙◌, subst, append_assoc, drop}
use Rattle.std.proofs.Common.{append-nil, Option, Some, None, ◌<◌, arith, add-one}
use Rattle.std.specs.Prelude.{ℤ, slice_get}
use Rattle.std.proofs.lemmas.List.{drop_all, drop-append-le}
use Rattle.jade_base.specs.declared.place.ObjectId.{ObjectId}
use Rattle.jade_syntax.specs.declared.tree.Statement.{Statement}
use Rattle.jade_meaning.specs.declared.holds.PendingEvent.{PendingEvent}
use Rattle.jade_meaning.specs.declared.holds.PendingEvent.TheVariants as tells
use Rattle.jade_meaning.specs.declared.configuration.Configuration.{Configuration}
use Rattle.jade_meaning.specs.declared.configuration.Stage.{Stage}
use Rattle.jade_meaning.specs.declared.configuration.Stage.TheVariants.{Going, Asking, Over}
use Rattle.jade_meaning.specs.declared.walker.Act.TheVariants as act
use Rattle.jade_meaning.specs.declared.walker.Carried.{Carried}
use Rattle.jade_meaning.specs.Specification.{Specification}
use Rattle.jade_meaning.specs.Course.{Course, Environment, Setting}
use Rattle.jade_meaning.specs.Talk.{Task, Event, Enter, Enroll, Take, TouchRead, TouchWrite, Wants, Give, Leave, Shift, Resign, Holds, talk, events}
use Rattle.jade_meaning.specs.steps.Perform.{mine_of}
use Rattle.jade_meaning.specs.steps.Frames.{fed, course_of, frames_on}
use Rattle.jade_meaning.specs.steps.Holding.{event_of}
use Rattle.jade_meaning.specs.steps.Configuration.{newborn_task, later, ahead, ready, over, task_from}
use Rattle.jade_meaning.specs.steps.Agreement.{AgreesWithTalk}
use Rattle.jade_meaning.specs.Walks.{Walk}
use Rattle.jade_meaning.specs.declared.frames.Newborn.{Newborn}
use Rattle.jade_syntax.specs.declared.tree.Item.{Item}
use Rattle.jade_meaning.specs.Walk.{setting_of, begun_as, First, act_of, carried_of, is_answered, Passes, Bears, IsChildOf, task_of}
use Rattle.jade_meaning.specs.steps.Walking.{goes_with, read_of, enrolls, creates}
use Rattle.jade_meaning.proofs.Ending.{talk_closed, last_closes, not_last}
use Rattle.jade_syntax.proofs.Limits.{drop_item}
use Rattle.jade_meaning.proofs.Evaluating.{fed_append}

-- what a task is seen as, of what every task of the run has, what it began with, its answers, and how many of its events are done
abbrev pub walk_of : Setting → Environment → Specification → List Statement → List ℤ → ℕ → Walk
walk_of s env spec body answers done = record {
  items = s.items;
  given = s.given;
  limit = s.limit;
  env = env;
  spec = spec;
  body = body;
  answers = answers;
  done = done;
}

-- the first that is pending comes first
pub first_pending : (w : Task) (ps : List PendingEvent) (k : ℕ) (x : PendingEvent) (rest : List Event) (P : Event → Type 0) → slice_get ps k ≡ Some x
    → P (event_of w x) → First (map (event_of w) (drop k ps) ++ rest) P
first_pending w ps k x rest P h p = subst (λ xs. First (map (event_of w) xs ++ rest) P) (sym (drop_item ps k x h)) p

-- where nothing is pending, a read is asked for
asked_first : (w : Task) (xs : List PendingEvent) (stage : Stage) (c : Course) (spec : Specification) (h : Holds) (n : ℕ) (P : Event → Type 0) → xs ≡ []
    → ready xs stage ≡ true → ((o : ObjectId) (a : ℕ) → stage ≡ Asking o a → P (Wants o.0 a)) → First (map (event_of w) xs ++ later stage c spec h n []) P
asked_first w (x ∷ xs) stage c spec h n P e g f = absurd (cc)
asked_first w [] Going c spec h n P e g f = absurd (cc)
asked_first w [] (Asking o a) c spec h n P e g f = f o a refl
asked_first w [] Over c spec h n P e g f = absurd (cc)

pub act_asked : (w : Task) (ps : List PendingEvent) (k : ℕ) (stage : Stage) (c : Course) (spec : Specification) (h : Holds) (n : ℕ) → length ps ≤ k
    → ready (drop k ps) stage ≡ true → First (map (event_of w) (drop k ps) ++ later stage c spec h n []) (λ e. act_of e ≡ act.Touch)
act_asked w ps k stage c spec h n le g = asked_first w (drop k ps) stage c spec h n (λ e. act_of e ≡ act.Touch) (drop_all k ps le) g (λ o a e. refl)

pub carried_asked : (w : Task) (ps : List PendingEvent) (k : ℕ) (stage : Stage) (c : Course) (spec : Specification) (h : Holds) (n : ℕ) → length ps ≤ k
    → ready (drop k ps) stage ≡ true → First (map (event_of w) (drop k ps) ++ later stage c spec h n []) (λ e. carried_of e ≡ read_of stage)
carried_asked w ps k stage c spec h n le g = asked_first w (drop k ps) stage c spec h n (λ e. carried_of e ≡ read_of stage) (drop_all k ps le) g
    (λ o a e. ap read_of (sym e))

-- the next event of a task that stands so
module _ {s : Setting} {env : Environment} {spec : Specification} {body : List Statement} {answers : List ℤ} {done told : ℕ} {t : Configuration} where
  now_known : AgreesWithTalk s env spec body answers done told t → drop done (talk (task_from s env spec body) answers) ≡ ahead s answers t told []
  now_known st = ap (λ a. drop done (talk (task_from s env spec body) a)) (sym (append-nil answers)) ∙ st.known []

  pub first_known : AgreesWithTalk s env spec body answers done told t → (P : Event → Type 0) → First (ahead s answers t told []) P
      → First (drop done (talk (task_from s env spec body) answers)) P
  first_known st P p = subst (λ es. First es P) (sym (now_known st)) p

  pub first_told : AgreesWithTalk s env spec body answers done told t → (P : Event → Type 0) → First (drop done (talk (task_from s env spec body) answers)) P
      → First (ahead s answers t told []) P
  first_told st P p = subst (λ es. First es P) (now_known st) p

-- the events after the next one
drop_next : {A : Type 0} (n : ℕ) (xs : List A) (y : A) (ys : List A) → drop n xs ≡ y ∷ ys → drop (n + 1) xs ≡ ys
drop_next n xs y ys h = rw add-one (go n xs h)
  where
    go : (n : ℕ) (xs : List _) → drop n xs ≡ y ∷ ys → drop (suc n) xs ≡ ys
    go zero [] h = absurd (cc)
    go zero (x ∷ xs) h = cc
    go (suc n) [] h = absurd (cc)
    go (suc n) (x ∷ xs) h = go n xs h

-- a value is given exactly to a read
no_value : (w : Task) (e : PendingEvent) (v : ℤ) → Passes (Some v) (event_of w e) → ⊥
no_value w (tells.Enter o a) v h = h
no_value w (tells.Enroll n) v h = h
no_value w (tells.Take o m) v h = h
no_value w (tells.Write o c z) v h = h
no_value w (tells.Give o) v h = h
no_value w (tells.Leave o) v h = h
no_value w (tells.Shift o a) v h = h
no_value w (tells.Resign b n) v h = h

reads_next : (w : Task) (xs : List PendingEvent) (stage : Stage) (c : Course) (spec : Specification) (h : Holds) (n : ℕ) (v : ℤ) → ready xs stage ≡ true
    → First (map (event_of w) xs ++ later stage c spec h n []) (Passes (Some v)) → (vs : List ℤ) → (o : ℕ) × (a : ℕ)
    × (map (event_of w) xs ++ later stage c spec h n (v ∷ vs) ≡ TouchRead o a v ∷ events (fed (v ∷ []) c) spec h n vs)
reads_next w (x ∷ xs) stage c spec h n v g f vs = absurd (no_value w x v f)
reads_next w [] Going c spec h n v g f vs = absurd (cc)
reads_next w [] (Asking o a) c spec h n v g f vs = (o.0, a, refl)
reads_next w [] Over c spec h n v g f vs = absurd (cc)

-- a read is answered
pub answer_agrees : (s : Setting) (env : Environment) (spec : Specification) (body : List Statement) (answers more : List ℤ) (done next told : ℕ)
    (t u : Configuration) (v : ℤ) → AgreesWithTalk s env spec body answers done told t → First (drop done (talk (task_from s env spec body) answers))
    (Passes (Some v)) → t.run.used ≤ length answers → more ≡ answers ++ v ∷ [] → next ≡ done + 1
    → ((vs : List ℤ) → events (course_of s more t.run) t.spec t.holds t.part vs ≡ ahead s more u 0 vs) → ready u.pending.items u.stage ≡ true
    → AgreesWithTalk s env spec body more next 0 u
answer_agrees s env spec body answers more done next told t u v st f le m n same rd =
    let T : Task = task_from s env spec body in
    let W : Task = newborn_task s t.newborn in
    let c : Course = course_of s answers t.run in
    let X : Course = frames_on s t.run.frames.items (mine_of t.run.task) in
    let course : course_of s more t.run ≡ fed (v ∷ []) c = ap (λ vs. fed (drop t.run.used vs) X) m
    ∙ ap (λ vs. fed vs X) (drop-append-le t.run.used answers (v ∷ []) le) ∙ fed_append X (drop t.run.used answers) (v ∷ []) in
    record {
      known = λ vs.
          let r = reads_next W (drop told t.pending.items) t.stage c t.spec t.holds t.part v st.ready (first_told st (Passes (Some v)) f) vs in
          let all : drop done (talk T (answers ++ v ∷ vs)) ≡ TouchRead r.0 r.1 v ∷ events (fed (v ∷ []) c) t.spec t.holds t.part vs = st.known (v ∷ vs) ∙ r.2 in
          ap (λ k. drop k (talk T (more ++ vs))) n
          ∙ ap (λ a. drop (done + 1) (talk T (a ++ vs))) m
          ∙ ap (λ a. drop (done + 1) (talk T a)) (append_assoc answers (v ∷ []) vs)
          ∙ drop_next done (talk T (answers ++ v ∷ vs)) (TouchRead r.0 r.1 v) (events (fed (v ∷ []) c) t.spec t.holds t.part vs) all
          ∙ ap (λ x. events x t.spec t.holds t.part vs) (sym course)
          ∙ same vs;
      ready = rd;
    }

-- an event that is no read
passes_next : (w : Task) (xs : List PendingEvent) (stage : Stage) (c : Course) (spec : Specification) (h : Holds) (n : ℕ) → ready xs stage ≡ true
    → First (map (event_of w) xs ++ later stage c spec h n []) (Passes None) → (e : PendingEvent) × (more : List PendingEvent) × (xs ≡ e ∷ more)
passes_next w (x ∷ xs) stage c spec h n g f = (x, xs, refl)
passes_next w [] Going c spec h n g f = absurd (cc)
passes_next w [] (Asking o a) c spec h n g f = absurd f
passes_next w [] Over c spec h n g f = absurd (cc)

pub pass_left : (s : Setting) (env : Environment) (spec : Specification) (body : List Statement) (answers : List ℤ) (done next told later' : ℕ)
    (t : Configuration) → AgreesWithTalk s env spec body answers done told t → First (drop done (talk (task_from s env spec body) answers)) (Passes None)
    → next ≡ done + 1 → later' ≡ told + 1 → ready (drop later' t.pending.items) t.stage ≡ true → AgreesWithTalk s env spec body answers next later' t
pass_left s env spec body answers done next told later' t st f n k rd =
    let T : Task = task_from s env spec body in
    let W : Task = newborn_task s t.newborn in
    let c : Course = course_of s answers t.run in
    let r = passes_next W (drop told t.pending.items) t.stage c t.spec t.holds t.part st.ready (first_told st (Passes None) f) in
    record {
      known = λ vs.
          let rest : List Event = later t.stage c t.spec t.holds t.part vs in
          let all : drop done (talk T (answers ++ vs)) ≡ event_of W r.0 ∷ (map (event_of W) r.1 ++ rest) = st.known vs
          ∙ ap (λ xs. map (event_of W) xs ++ rest) r.2 in
          ap (λ k. drop k (talk T (answers ++ vs))) n
          ∙ drop_next done (talk T (answers ++ vs)) (event_of W r.0) (map (event_of W) r.1 ++ rest) all
          ∙ ap (λ xs. map (event_of W) xs ++ rest) (sym (ap (λ j. drop j t.pending.items) k ∙ drop_next told t.pending.items r.0 r.1 r.2));
      ready = rd;
    }

-- nothing is left to tell
gone : (ps : List PendingEvent) (stage : Stage) → ready ps stage ≡ false → over stage ≡ false → (ps ≡ []) × (stage ≡ Going)
gone (e ∷ es) stage h g = absurd (cc)
gone [] Going h g = (refl, refl)
gone [] (Asking o a) h g = absurd (cc)
gone [] Over h g = absurd (cc)

none_left : (ps : List PendingEvent) (stage : Stage) → ready ps stage ≡ false → ps ≡ []
none_left (e ∷ es) stage h = absurd (cc)
none_left [] stage h = refl

not_the_end : (g : Stage) → (g ≡ Over → ⊥) → over g ≡ false
not_the_end Going h = refl
not_the_end (Asking o a) h = refl
not_the_end Over h = absurd (h refl)

-- what is told last of a task that goes past an event is not its end
pub not_over : (s : Setting) (env : Environment) (spec : Specification) (body : List Statement) (answers : List ℤ) (done told later' : ℕ) (t : Configuration)
    → AgreesWithTalk s env spec body answers done told t → First (drop done (talk (task_from s env spec body) answers)) (Passes None) → later' ≡ told + 1
    → ready (drop later' t.pending.items) t.stage ≡ false → over t.stage ≡ false
not_over s env spec body answers done told later' t st f k rd =
    let T : Task = task_from s env spec body in
    let W : Task = newborn_task s t.newborn in
    let c : Course = course_of s answers t.run in
    let r = passes_next W (drop told t.pending.items) t.stage c t.spec t.holds t.part st.ready (first_told st (Passes None) f) in
    let nil : r.1 ≡ [] = sym (ap (λ j. drop j t.pending.items) k ∙ drop_next told t.pending.items r.0 r.1 r.2)
    ∙ none_left (drop later' t.pending.items) t.stage rd in
    not_the_end t.stage (λ e.
    let one : drop done (talk T answers) ≡ event_of W r.0 ∷ [] =
    now_known st
    ∙ ap (λ xs. map (event_of W) xs ++ later t.stage c t.spec t.holds t.part []) (r.2 ∙ ap (λ xs. r.0 ∷ xs) nil)
    ∙ ap (λ x. event_of W r.0 ∷ later x c t.spec t.holds t.part []) e in
    not_last W r.0 (subst (λ xs. First xs (Passes None)) one f) (last_closes done (talk T answers) (event_of W r.0) (talk_closed T answers) one))

pub pass_on : (s : Setting) (env : Environment) (spec : Specification) (body : List Statement) (answers : List ℤ) (done next told later' : ℕ)
    (t u : Configuration) → AgreesWithTalk s env spec body answers done told t → First (drop done (talk (task_from s env spec body) answers)) (Passes None)
    → next ≡ done + 1 → later' ≡ told + 1 → ready (drop later' t.pending.items) t.stage ≡ false → over t.stage ≡ false
    → ((vs : List ℤ) → events (course_of s answers t.run) t.spec t.holds t.part vs ≡ ahead s answers u 0 vs) → ready u.pending.items u.stage ≡ true
    → AgreesWithTalk s env spec body answers next 0 u
pass_on s env spec body answers done next told later' t u st f n k rd ov same ru =
    let T : Task = task_from s env spec body in
    let W : Task = newborn_task s t.newborn in
    let c : Course = course_of s answers t.run in
    let r = passes_next W (drop told t.pending.items) t.stage c t.spec t.holds t.part st.ready (first_told st (Passes None) f) in
    let g = gone (drop later' t.pending.items) t.stage rd ov in
    let nil : r.1 ≡ [] = sym (ap (λ j. drop j t.pending.items) k ∙ drop_next told t.pending.items r.0 r.1 r.2) ∙ g.0 in
    record {
      known = λ vs.
          let rest : List Event = later t.stage c t.spec t.holds t.part vs in
          let all : drop done (talk T (answers ++ vs)) ≡ event_of W r.0 ∷ (map (event_of W) r.1 ++ rest) = st.known vs
          ∙ ap (λ xs. map (event_of W) xs ++ rest) r.2 in
          ap (λ k. drop k (talk T (answers ++ vs))) n
          ∙ drop_next done (talk T (answers ++ vs)) (event_of W r.0) (map (event_of W) r.1 ++ rest) all
          ∙ ap (λ xs. map (event_of W) xs ++ rest) nil
          ∙ ap (λ x. later x c t.spec t.holds t.part vs) g.1
          ∙ same vs;
      ready = ru;
    }

-- the child of a creation
enroll_bears : (v : Walk) (w : Task) (e : PendingEvent) (child : Walk) → enrolls e ≡ true → IsChildOf v w child → Bears v (Some child) (event_of w e)
enroll_bears v w (tells.Enroll n) child h c = c
enroll_bears v w (tells.Enter o a) child h c = absurd (cc)
enroll_bears v w (tells.Take o m) child h c = absurd (cc)
enroll_bears v w (tells.Write o k z) child h c = absurd (cc)
enroll_bears v w (tells.Give o) child h c = absurd (cc)
enroll_bears v w (tells.Leave o) child h c = absurd (cc)
enroll_bears v w (tells.Shift o a) child h c = absurd (cc)
enroll_bears v w (tells.Resign b n) child h c = absurd (cc)

other_bears : (v : Walk) (w : Task) (e : PendingEvent) → enrolls e ≡ false → Bears v None (event_of w e)
other_bears v w (tells.Enroll n) h = absurd (cc)
other_bears v w (tells.Enter o a) h = refl
other_bears v w (tells.Take o m) h = refl
other_bears v w (tells.Write o k z) h = refl
other_bears v w (tells.Give o) h = refl
other_bears v w (tells.Leave o) h = refl
other_bears v w (tells.Shift o a) h = refl
other_bears v w (tells.Resign b n) h = refl

pub child_first : (v : Walk) (w : Task) (xs : List PendingEvent) (rest : List Event) (child : Walk) → creates xs ≡ true → IsChildOf v w child
    → First (map (event_of w) xs ++ rest) (Bears v (Some child))
child_first v w [] rest child h c = absurd (cc)
child_first v w (x ∷ xs) rest child h c = enroll_bears v w x child h c

pub none_first : (v : Walk) (w : Task) (xs : List PendingEvent) (stage : Stage) (c : Course) (spec : Specification) (h : Holds) (n : ℕ) → ready xs stage ≡ true
    → creates xs ≡ false → First (map (event_of w) xs ++ later stage c spec h n []) (Bears v None)
none_first v w (x ∷ xs) stage c spec h n g f = other_bears v w x f
none_first v w [] Going c spec h n g f = absurd (cc)
none_first v w [] (Asking o a) c spec h n g f = refl
none_first v w [] Over c spec h n g f = absurd (cc)

-- something is pending
pub left_ready : (ps : List PendingEvent) (k : ℕ) (stage : Stage) → k < length ps → true ≡ ready (drop k ps) stage
left_ready [] k stage h = absurd (omega arith)
left_ready (p ∷ ps) zero stage h = refl
left_ready (p ∷ ps) (suc k) stage h = left_ready ps k stage (omega arith)

-- a child that begins with what a creation hands on
pub is_child : (v : Walk) (nb : Newborn) (items : List Item) (given : Environment) (limit : ℕ) (env : Environment) (spec : Specification) (child : Walk)
    → child ≡ begun_as items given limit env spec nb.body.now → items ≡ v.items → given ≡ v.given → limit ≡ v.limit → env ≡ nb.scope → spec ≡ nb.spec
    → IsChildOf v (newborn_task (setting_of v) nb) child
is_child v nb items given limit env spec child e a b c d f =
    let body = nb.body.now in
    let same : child ≡ begun_as v.items v.given v.limit nb.scope nb.spec body =
    e ∙ ap (λ x. begun_as x given limit env spec body) a ∙ ap (λ x. begun_as v.items x limit env spec body) b
    ∙ ap (λ x. begun_as v.items v.given x env spec body) c ∙ ap (λ x. begun_as v.items v.given v.limit x spec body) d
    ∙ ap (λ x. begun_as v.items v.given v.limit nb.scope x body) f in
    record {
      task = ap task_of same;
      items = ap (λ (w : Walk). w.items) same;
      given = ap (λ (w : Walk). w.given) same;
      limit = ap (λ (w : Walk). w.limit) same;
      answers = ap (λ (w : Walk). w.answers) same;
      done = ap (λ (w : Walk). w.done) same;
    }

-- the next event is no read that has its answer
told_unanswered : (w : Task) (e : PendingEvent) → is_answered (event_of w e) ≡ false
told_unanswered w (tells.Enter o a) = refl
told_unanswered w (tells.Enroll n) = refl
told_unanswered w (tells.Take o m) = refl
told_unanswered w (tells.Write o c z) = refl
told_unanswered w (tells.Give o) = refl
told_unanswered w (tells.Leave o) = refl
told_unanswered w (tells.Shift o a) = refl
told_unanswered w (tells.Resign b n) = refl

pub unanswered_first : (w : Task) (xs : List PendingEvent) (stage : Stage) (c : Course) (spec : Specification) (h : Holds) (n : ℕ) → ready xs stage ≡ true
    → First (map (event_of w) xs ++ later stage c spec h n []) (λ e. is_answered e ≡ false)
unanswered_first w (x ∷ xs) stage c spec h n g = told_unanswered w x
unanswered_first w [] Going c spec h n g = absurd (cc)
unanswered_first w [] (Asking o a) c spec h n g = refl
unanswered_first w [] Over c spec h n g = absurd (cc)

-- what an event carries says whether a task may go past it
goes_past : (v : Option ℤ) (e : Event) → is_answered e ≡ false → goes_with (carried_of e) v ≡ true → Passes v e
goes_past (Some v) (Wants o c) a g = tt
goes_past (Some v) (TouchRead o c w) a g = absurd (cc)
goes_past (Some v) (Enter o r) a g = absurd (cc)
goes_past (Some v) (Enroll t n) a g = absurd (cc)
goes_past (Some v) (Take o m) a g = absurd (cc)
goes_past (Some v) (TouchWrite o c w) a g = absurd (cc)
goes_past (Some v) (Give o) a g = absurd (cc)
goes_past (Some v) (Leave o) a g = absurd (cc)
goes_past (Some v) (Shift o r) a g = absurd (cc)
goes_past (Some v) (Resign b n) a g = absurd (cc)
goes_past None (Wants o c) a g = absurd (cc)
goes_past None (TouchRead o c w) a g = tt
goes_past None (Enter o r) a g = tt
goes_past None (Enroll t n) a g = tt
goes_past None (Take o m) a g = tt
goes_past None (TouchWrite o c w) a g = tt
goes_past None (Give o) a g = tt
goes_past None (Leave o) a g = tt
goes_past None (Shift o r) a g = tt
goes_past None (Resign b n) a g = absurd (cc)

stays_at : (v : Option ℤ) (e : Event) → is_answered e ≡ false → goes_with (carried_of e) v ≡ false → Passes v e → ⊥
stays_at (Some v) (Wants o c) a g p = absurd (cc)
stays_at (Some v) (TouchRead o c w) a g p = p
stays_at (Some v) (Enter o r) a g p = p
stays_at (Some v) (Enroll t n) a g p = p
stays_at (Some v) (Take o m) a g p = p
stays_at (Some v) (TouchWrite o c w) a g p = p
stays_at (Some v) (Give o) a g p = p
stays_at (Some v) (Leave o) a g p = p
stays_at (Some v) (Shift o r) a g p = p
stays_at (Some v) (Resign b n) a g p = p
stays_at None (Wants o c) a g p = p
stays_at None (TouchRead o c w) a g p = absurd (cc)
stays_at None (Enter o r) a g p = absurd (cc)
stays_at None (Enroll t n) a g p = absurd (cc)
stays_at None (Take o m) a g p = absurd (cc)
stays_at None (TouchWrite o c w) a g p = absurd (cc)
stays_at None (Give o) a g p = absurd (cc)
stays_at None (Leave o) a g p = absurd (cc)
stays_at None (Shift o r) a g p = absurd (cc)
stays_at None (Resign b n) a g p = p

pub can_pass : (v : Option ℤ) (es : List Event) (r : Carried) → First es (λ e. carried_of e ≡ r) → First es (λ e. is_answered e ≡ false) → goes_with r v ≡ true
    → First es (Passes v)
can_pass v [] r h a g = h
can_pass v (e ∷ es) r h a g = goes_past v e a (subst (λ c. goes_with c v ≡ true) (sym h) g)

pub cannot_pass : (v : Option ℤ) (es : List Event) (r : Carried) → First es (λ e. carried_of e ≡ r) → First es (λ e. is_answered e ≡ false)
    → goes_with r v ≡ false → First es (λ e. Passes v e → ⊥)
cannot_pass v [] r h a g = h
cannot_pass v (e ∷ es) r h a g = stays_at v e a (subst (λ c. goes_with c v ≡ false) (sym h) g)
