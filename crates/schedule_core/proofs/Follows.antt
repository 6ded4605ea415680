-- A seat follows the serial run: its task is one of the run, and the events that it has told are the deeds that are done.
use Rattle.std.proofs.Common.{◌≡◌, ℕ, suc, List, [], ◌∷◌, ◌++◌, length, refl, sym, ap, ◌∙◌, subst, Some, None, arith, append-nil, append_assoc, length-append}
use Rattle.std.specs.Prelude.{ℤ, if◌then◌else◌}
use Rattle.std.specs.List.{filter_map, cons_option}
use Rattle.std.proofs.lemmas.List.Elements.{filter_map-append}
use Rattle.jade_base.specs.declared.rights.Rights.{Rights}
use Rattle.jade_meaning.specs.Specification.{rights_on}
use Rattle.jade_meaning.specs.Course.{Course, Reads, Writes, Steps, Creates, Changes, Ends}
use Rattle.jade_meaning.specs.Talk.{Task, Event, Enter, Enroll, Take, TouchRead, TouchWrite, Wants, Give, Leave, Shift, Resign}
use Rattle.jade_meaning.specs.Serial.{Mark, Path, Deed, DidTurn, DidRead, DidWrite, DidCreate, DidEnd, deeds_at, reads_at, read_of, same_path}
use Rattle.jade_meaning.specs.Laws.{Every, deeds, deed_of, but_turn}
use Rattle.jade_meaning.specs.Walks.{Walk}
use Rattle.jade_meaning.specs.Walk.{First, task_of, moved}
use Rattle.jade_meaning.specs.Doing.{from_deed}
use Rattle.object_shelf.specs.Views.{ObjectView}
use Rattle.schedule_core.specs.declared.steps.Seat.{Seat}
use Rattle.schedule_core.specs.Core.{Cells, mark, value_in, content_for, going_on, child_of, quietly, with_pending}
use Rattle.schedule_core.specs.Unplaced.{Live, event_done, deed_done}
use Rattle.schedule_core.specs.Sound.{Orderly}
use Rattle.schedule_core.specs.Plain.{seat_after, value_at, Does}
use Rattle.schedule_core.specs.Shown.{Sits, Seated}
use Rattle.schedule_core.specs.Serially.{IsTask, is_root, is_created}
use Rattle.schedule_core.specs.EntryRights.{rights_then, rights_after}
use Rattle.schedule_core.proofs.Walks.{Walks, walks_start, walks_quiet, walks_read, walks_write, walks_create}
use Rattle.schedule_core.proofs.Showing.{path_same, not_same}
use Rattle.jade_base.specs.declared.rights.Mode.TheVariants.{Reading, Writing, Commuting}

pub deeds_both : (p : Path) (a b : List Mark) → deeds_at p (a ++ b) ≡ deeds_at p a ++ deeds_at p b
deeds_both p a b = filter_map-append _ a b

pub record Follows (root : Task) (log : List Mark) (s : Seat) (t : Live) : Type 0 where
  pub done : List Event
  pub walks : Walks (task_of s.walker) s.walker.answers done t.doing
  pub many : length done ≡ s.walker.done
  pub deeds : deeds done ≡ filter_map but_turn (deeds_at s.path log)
  pub answers : reads_at s.path log ≡ s.walker.answers
  pub task : IsTask log root s.path (task_of s.walker)
  pub rights : (o : ℕ) → t.rights o ≡ rights_after o done (rights_on (task_of s.walker).spec o)

-- one event more
rights_more : (o : ℕ) (es : List Event) (e : Event) (a : Rights) → rights_after o (es ++ e ∷ []) a ≡ rights_then o e (rights_after o es a)
rights_more o [] e a = refl
rights_more o (x ∷ es) e a = rights_more o es e (rights_then o x a)

-- a fact of each seat and its task
abbrev pub Beside : (Seat → Live → Type 0) → List Seat → List Live → Type 0
Beside P [] [] = Unit {0}
Beside P (s ∷ ss) (t ∷ ts) = P s t × Beside P ss ts
Beside P [] (t ∷ ts) = ⊥
Beside P (s ∷ ss) [] = ⊥

pub beside_join : (P : Seat → Live → Type 0) (a c : List Seat) (b d : List Live) → Beside P a b → Beside P c d → Beside P (a ++ c) (b ++ d)
beside_join P [] c [] d h g = g
beside_join P [] c (t ∷ b) d h g = absurd h
beside_join P (s ∷ a) c [] d h g = absurd h
beside_join P (s ∷ a) c (t ∷ b) d h g = (h.0, beside_join P a c b d h.1 g)

reads_both : (p : Path) (a b : List Mark) → reads_at p (a ++ b) ≡ reads_at p a ++ reads_at p b
reads_both p a b = ap (filter_map read_of) (deeds_both p a b) ∙ filter_map-append read_of (deeds_at p a) (deeds_at p b)

-- what others have done changes nothing
task_more : (root : Task) (log added : List Mark) (q : Path) (t : Task) → IsTask log root q t → IsTask (log ++ added) root q t
task_more root log added _ _ is_root = is_root
task_more root log added q t (is_created parent k steps front back path is) =
    is_created parent k steps front (back ++ added) path (ap (λ ms. ms ++ added) is ∙ append_assoc front (record { path = parent; children = k; deed = DidCreate t steps } ∷ back) added)

follows_still : (root : Task) (log added : List Mark) (s : Seat) (t : Live) → deeds_at s.path added ≡ [] → Follows root log s t
    → Follows root (log ++ added) s t
follows_still root log added s t none x = record {
  done = x.done;
  walks = x.walks;
  many = x.many;
  deeds = x.deeds ∙ ap (filter_map but_turn) (sym (deeds_both s.path log added ∙ ap (λ ds. deeds_at s.path log ++ ds) none ∙ append-nil (deeds_at s.path log)));
  answers = reads_both s.path log added ∙ ap (λ ds. reads_at s.path log ++ filter_map read_of ds) none ∙ append-nil (reads_at s.path log) ∙ x.answers;
  task = task_more root log added s.path (task_of s.walker) x.task;
  rights = x.rights;
}

pub others_follow : (root : Task) (log added : List Mark) (seats : List Seat) (ts : List Live) → Seated seats ts
    → Every (λ (u : Live). deeds_at u.path added ≡ []) ts → Beside (Follows root log) seats ts → Beside (Follows root (log ++ added)) seats ts
others_follow root log added [] [] g n h = tt
others_follow root log added [] (t ∷ ts) g n h = absurd h
others_follow root log added (s ∷ seats) [] g n h = absurd h
others_follow root log added (s ∷ seats) (t ∷ ts) g n h =
    (follows_still root log added s t (ap (λ p. deeds_at p added) (sym g.0.path) ∙ n.0) h.0, others_follow root log added seats ts g.1 n.1 h.1)

-- an event does deeds of its own task alone
pub marks_off : (f : ℕ → Cells) (t : Live) (es : List Event) (p : Path) → (p ≡ t.path → ⊥) → deeds_at p (event_done es f t).marks ≡ []
marks_off f t es p n = go es
  where
    one : (d : Deed) → deeds_at p (mark t d ∷ []) ≡ []
    one d = ap (λ b. cons_option (if b then Some d else None) []) (not_same t.path p (λ e. n (sym e)))

    deed : (c : Course) → deeds_at p (deed_done c f t).marks ≡ []
    deed (Reads o c on) = one (DidRead o c (value_in (content_for t o (f o)) c))
    deed (Writes o c v on) = one (DidWrite o c v)
    deed (Creates child body on) = one (DidCreate (record { spec = child; course = body }) t.doing.steps)
    deed (Ends x) = one (DidEnd x t.doing.steps)
    deed (Steps on) = refl
    deed (Changes new on) = refl

    go : (es : List Event) → deeds_at p (event_done es f t).marks ≡ []
    go [] = deed t.doing.course
    go (Take o Reading ∷ es) = refl
    go (Take o Writing ∷ es) = refl
    go (Take o Commuting ∷ es) = one (DidTurn o)
    go (Give o ∷ es) = refl
    go (Shift o a ∷ es) = refl
    go (Leave o ∷ es) = refl
    go (Enter o a ∷ es) = refl
    go (Enroll x k ∷ es) = refl
    go (TouchRead o c v ∷ es) = refl
    go (TouchWrite o c v ∷ es) = refl
    go (Wants o c ∷ es) = refl
    go (Resign b k ∷ es) = refl

module _ (root : Task) (log : List Mark) (s : Seat) (t : Live) (f : ℕ
    → Cells) (ss ss' : List ObjectView) (new : List Seat) (sits : Sits s t) (x : Follows root log s t) where
  same_task : (added : List Mark) → IsTask (log ++ added) root s.path (task_of s.walker)
  same_task added = task_more root log added s.path (task_of s.walker) x.task

  abbrev w : Walk
  w = s.walker

  own_mark : (d : Deed) → deeds_at s.path (mark t d ∷ []) ≡ d ∷ []
  own_mark d = ap (λ b. cons_option (if b then Some d else None) []) (ap (λ p. same_path p s.path) sits.path ∙ path_same s.path)

  more_deeds : (e : Event) (d : Deed) → deed_of e ≡ but_turn d → deeds (x.done ++ e ∷ []) ≡ filter_map but_turn (deeds_at s.path (log ++ mark t d ∷ []))
  more_deeds e d q =
      filter_map-append deed_of x.done (e ∷ []) ∙ ap (λ z. deeds x.done ++ cons_option z []) q ∙ ap (λ ds. ds ++ filter_map but_turn (d ∷ [])) x.deeds
      ∙ sym (filter_map-append but_turn (deeds_at s.path log) (d ∷ []))
      ∙ ap (λ ds. filter_map but_turn (deeds_at s.path log ++ ds)) (sym (own_mark d)) ∙ ap (filter_map but_turn) (sym (deeds_both s.path log (mark t d ∷ [])))

  more_many : (e : Event) → length (x.done ++ e ∷ []) ≡ suc w.done
  more_many e = let a = length-append x.done (e ∷ []) in let b = x.many in omega arith

  more_reads : (d : Deed) → reads_at s.path (log ++ mark t d ∷ []) ≡ w.answers ++ filter_map read_of (d ∷ [])
  more_reads d = reads_both s.path log (mark t d ∷ []) ∙ ap (λ vs. vs ++ filter_map read_of (deeds_at s.path (mark t d ∷ []))) x.answers
      ∙ ap (λ ds. w.answers ++ filter_map read_of ds) (own_mark d)

  no_more : (e : Event) → deed_of e ≡ None → deeds (x.done ++ e ∷ []) ≡ filter_map but_turn (deeds_at s.path (log ++ []))
  no_more e q =
      filter_map-append deed_of x.done (e ∷ []) ∙ ap (λ z. deeds x.done ++ cons_option z []) q ∙ append-nil (deeds x.done) ∙ x.deeds
      ∙ ap (λ ms. filter_map but_turn (deeds_at s.path ms)) (sym (append-nil log))

  quiet_follows : (e : Event) (es : List Event) → t.doing.pending ≡ e ∷ es → deed_of e ≡ None → (u : Live) → u.doing ≡ record t.doing { pending = es }
      → ((o : ℕ) → u.rights o ≡ rights_then o e (t.rights o)) → Follows root (log ++ []) (seat_after None s) u
  quiet_follows e es is q u d r = record {
    done = x.done ++ e ∷ [];
    walks = subst (Walks (task_of w) w.answers (x.done ++ e ∷ [])) (sym d)
        (walks_quiet (task_of w) w.answers x.done es e t.doing.spec t.doing.plan t.doing.steps t.doing.course
        (subst (λ (y : List Event). Walks (task_of w) w.answers x.done (record t.doing { pending = y })) is x.walks));
    many = more_many e;
    deeds = no_more e q;
    answers = ap (reads_at s.path) (append-nil log) ∙ x.answers;
    task = same_task [];
    rights = λ o. r o ∙ ap (rights_then o e) (x.rights o) ∙ sym (rights_more o x.done e (rights_on (task_of w).spec o));
  }

  -- the task at its deed
  at_course : (c : Course) → t.doing.course ≡ c → t.doing.pending ≡ []
      → Walks (task_of w) w.answers x.done (record { pending = []; spec = t.doing.spec; plan = t.doing.plan; steps = t.doing.steps; course = c })
  at_course c is p = subst (λ (z : Course). Walks (task_of w) w.answers x.done (record t.doing {
    pending = [];
    course =
        z;
  })) is (subst (λ (y : List Event). Walks (task_of w) w.answers x.done (record t.doing { pending = y })) p x.walks)

  module _ (value : (o c : ℕ) (on : ℤ → Course) → t.doing.course ≡ Reads o c on → t.doing.pending ≡ [] → value_at o c s.path ss
      ≡ value_in (content_for t o (f o)) c) (unborn : deeds_at (t.path ++ t.part ∷ []) log ≡ []) where
    deed_follows : (c : Course) → t.doing.course ≡ c → t.doing.pending ≡ [] → (e : Event)
        → First (from_deed c t.doing.spec t.doing.plan t.doing.steps []) (λ y. y ≡ e) → Does e s ss new ss'
        → Beside (Follows root (log ++ (deed_done c f t).marks)) new (deed_done c f t).tasks
    deed_follows (Reads o c on) is p e first does =
        let d = subst (λ y. Does y s ss new ss') (sym first) does in
        let v = value_in (content_for t o (f o)) c in
        let u = going_on (on v) t.doing.steps t in
        let deed = DidRead o c v in
        let mine : Follows root (log ++ mark t deed ∷ []) (seat_after (Some v) s) u = record {
          done = x.done ++ TouchRead o c v ∷ [];
          walks = walks_read (task_of w) w.answers x.done t.doing.spec t.doing.plan t.doing.steps o c on v (at_course (Reads o c on) is p);
          many = more_many (TouchRead o c v);
          deeds = more_deeds (TouchRead o c v) deed refl;
          answers = more_reads deed;
          task = same_task (mark t deed ∷ []);
          rights = λ q. x.rights q ∙ sym (rights_more q x.done (TouchRead o c v) (rights_on (task_of w).spec q));
        } in
        subst (λ z. Beside (Follows root (log ++ mark t deed ∷ [])) z (u ∷ [])) (sym (d.0
        ∙ ap (λ z. seat_after (Some z) s ∷ []) (value o c on is p))) (mine, tt)
    deed_follows (Writes o c v on) is p e first does =
        let d = subst (λ y. Does y s ss new ss') (sym first) does in
        let u : Live = going_on on t.doing.steps (record t { place = tt }) in
        let deed = DidWrite o c v in
        let mine : Follows root (log ++ mark t deed ∷ []) (seat_after None s) u = record {
          done = x.done ++ TouchWrite o c v ∷ [];
          walks = walks_write (task_of w) w.answers x.done t.doing.spec t.doing.plan t.doing.steps o c v on (at_course (Writes o c v on) is p);
          many = more_many (TouchWrite o c v);
          deeds = more_deeds (TouchWrite o c v) deed refl;
          answers = more_reads deed ∙ append-nil w.answers;
          task = same_task (mark t deed ∷ []);
          rights = λ q. x.rights q ∙ sym (rights_more q x.done (TouchWrite o c v) (rights_on (task_of w).spec q));
        } in
        subst (λ z. Beside (Follows root (log ++ mark t deed ∷ [])) z (u ∷ [])) (sym d.0) (mine, tt)
    deed_follows (Creates child body on) is p e first does =
        let d = subst (λ y. Does y s ss new ss') (sym first) does in
        let kid_task : Task = record { spec = child; course = body } in
        let u : Live = going_on on 0 (record t { part = suc t.part; place = tt }) in
        let kid = child_of child body t in
        let deed = DidCreate kid_task t.doing.steps in
        let m = mark t deed in
        let walk = d.0 in
        let born = d.1 in
        let mine : Follows root (log ++ m ∷ []) (record s { walker = moved None s.walker; children = suc s.children }) u = record {
          done = x.done ++ Enroll kid_task t.doing.steps ∷ [];
          walks = walks_create (task_of w) w.answers x.done t.doing.spec t.doing.plan t.doing.steps child body on (at_course (Creates child body on) is p);
          many = more_many (Enroll kid_task t.doing.steps);
          deeds = more_deeds (Enroll kid_task t.doing.steps) deed refl;
          answers = more_reads deed ∙ append-nil w.answers;
          task = same_task (m ∷ []);
          rights = λ q. x.rights q ∙ sym (rights_more q x.done (Enroll kid_task t.doing.steps) (rights_on (task_of w).spec q));
        } in
        let path : s.path ++ s.children ∷ [] ≡ t.path ++ t.part ∷ [] = ap (λ q. q ++ s.children ∷ []) (sym sits.path)
        ∙ ap (λ k. t.path ++ k ∷ []) (sym sits.part) in
        let none : deeds_at (s.path ++ s.children ∷ []) (log ++ m ∷ []) ≡ [] = ap (λ q. deeds_at q (log ++ m ∷ [])) path
        ∙ deeds_both (t.path ++ t.part ∷ []) log (m ∷ []) ∙ ap (λ ds. ds ++ deeds_at (t.path ++ t.part ∷ []) (m ∷ [])) unborn
        ∙ ap (λ b. cons_option (if b then Some deed else None) []) (not_same t.path (t.path ++ t.part ∷ []) (λ q. longer t.path t.part q)) in
        let young : Follows root (log ++ m ∷ []) (record { path = s.path ++ s.children ∷ []; walker = walk; children = 0 }) kid = record {
          done = [];
          walks = subst (λ z. Walks z walk.answers [] kid.doing) (sym born.task)
              (subst (λ z. Walks kid_task z [] kid.doing) (sym born.answers) (walks_start kid_task));
          many = sym born.done;
          deeds = sym (ap (filter_map but_turn) none);
          answers = ap (filter_map read_of) none ∙ sym born.answers;
          task = subst (IsTask (log ++ m ∷ []) root (s.path ++ s.children ∷ [])) (sym born.task)
              (is_created t.path t.part t.doing.steps log [] path refl);
          rights = λ q. ap (λ (y : Task). rights_on y.spec q) (sym born.task);
        } in
        subst (λ z. Beside (Follows root (log ++ m ∷ [])) z (kid ∷ (u ∷ []))) (sym d.2) (young, (mine, tt))
      where
        longer : (p : Path) (k : ℕ) → p ≡ p ++ k ∷ [] → ⊥
        longer [] k e = absurd (cc)
        longer (i ∷ p) k e = longer p k (cc)
    deed_follows (Ends blame) is p e first does =
        let d = subst (λ y. Does y s ss new ss') (sym first) does in
        subst (λ z. Beside (Follows root (log ++ (deed_done (Ends blame) f t).marks)) z []) (sym d.0) tt
    deed_follows (Steps on) is p e first does = absurd first
    deed_follows (Changes c on) is p e first does = absurd first

    pub event_follows : (es : List Event) → t.doing.pending ≡ es → Orderly t.doing.spec t.doing.plan t.doing.course es t.rights t.held
        → (e : Event)
        → First (es ++ from_deed t.doing.course t.doing.spec t.doing.plan t.doing.steps []) (λ y. y ≡ e) → Does e s ss new ss'
        → Beside (Follows root (log ++ (event_done es f t).marks)) new (event_done es f t).tasks
    event_follows [] is order e first does = deed_follows t.doing.course refl is e first does
    event_follows (Take o Reading ∷ es) is order e first does =
        let d = subst (λ y. Does y s ss new ss') (sym first) does in
        let u = with_pending es (quietly (Take o Reading) f t) in
        subst (λ z. Beside (Follows root (log ++ [])) z (u ∷ [])) (sym d.1) (quiet_follows (Take o Reading) es is refl u refl (λ q. refl), tt)
    event_follows (Take o Writing ∷ es) is order e first does =
        let d = subst (λ y. Does y s ss new ss') (sym first) does in
        let u = with_pending es (quietly (Take o Writing) f t) in
        subst (λ z. Beside (Follows root (log ++ [])) z (u ∷ [])) (sym d.1) (quiet_follows (Take o Writing) es is refl u refl (λ q. refl), tt)
    event_follows (Take o Commuting ∷ es) is order e first does =
        let d = subst (λ y. Does y s ss new ss') (sym first) does in
        let u = with_pending es (quietly (Take o Commuting) f t) in
        let deed = DidTurn o in
        let mine : Follows root (log ++ mark t deed ∷ []) (seat_after None s) u = record {
          done = x.done ++ Take o Commuting ∷ [];
          walks = walks_quiet (task_of w) w.answers x.done es (Take o Commuting) t.doing.spec t.doing.plan t.doing.steps t.doing.course
              (subst (λ (y : List Event). Walks (task_of w) w.answers x.done (record t.doing { pending = y })) is x.walks);
          many = more_many (Take o Commuting);
          deeds = more_deeds (Take o Commuting) deed refl;
          answers = more_reads deed ∙ append-nil w.answers;
          task = same_task (mark t deed ∷ []);
          rights = λ q. x.rights q ∙ sym (rights_more q x.done (Take o Commuting) (rights_on (task_of w).spec q));
        } in
        subst (λ z. Beside (Follows root (log ++ mark t deed ∷ [])) z (u ∷ [])) (sym d.1) (mine, tt)
    event_follows (Give o ∷ es) is order e first does =
        let d = subst (λ y. Does y s ss new ss') (sym first) does in
        let u = with_pending es (quietly (Give o) f t) in
        subst (λ z. Beside (Follows root (log ++ [])) z (u ∷ [])) (sym d.0) (quiet_follows (Give o) es is refl u refl (λ q. refl), tt)
    event_follows (Shift o a ∷ es) is order e first does =
        let d = subst (λ y. Does y s ss new ss') (sym first) does in
        let u = with_pending es (quietly (Shift o a) f t) in
        subst (λ z. Beside (Follows root (log ++ [])) z (u ∷ [])) (sym d.0) (quiet_follows (Shift o a) es is refl u refl (λ q. refl), tt)
    event_follows (Leave o ∷ es) is order e first does =
        let d = subst (λ y. Does y s ss new ss') (sym first) does in
        let u = with_pending es (quietly (Leave o) f t) in
        subst (λ z. Beside (Follows root (log ++ [])) z (u ∷ [])) (sym d.0) (quiet_follows (Leave o) es is refl u refl (λ q. refl), tt)
    event_follows (Enter o a ∷ es) is order e first does =
        let d = subst (λ y. Does y s ss new ss') (sym first) does in
        let u = with_pending es (quietly (Enter o a) f t) in
        subst (λ z. Beside (Follows root (log ++ [])) z (u ∷ [])) (sym d.0) (quiet_follows (Enter o a) es is refl u refl (λ q. refl), tt)
    event_follows (Enroll y n ∷ es) is order e first does = absurd order
    event_follows (TouchRead o c v ∷ es) is order e first does = absurd order
    event_follows (TouchWrite o c v ∷ es) is order e first does = absurd order
    event_follows (Wants o c ∷ es) is order e first does = absurd order
    event_follows (Resign b n ∷ es) is order e first does = absurd order
