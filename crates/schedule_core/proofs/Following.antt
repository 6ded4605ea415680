-- Live tasks are tasks of the meaning by any turn lists that go on from those in the objects.
use Rattle.std.proofs.Common.{◌≡◌, ℕ, zero, suc, Bool, true, false, List, [], ◌∷◌, ◌++◌, length, map, take, drop, refl, sym, ap, ◌∙◌, subst, Some, None, append-nil, append_assoc}
use Rattle.std.specs.Prelude.{ℤ, slice_get, if◌then◌else◌}
use Rattle.std.specs.List.{filter_map, cons_option}
use Rattle.std.proofs.Math.Path.{fun_ext}
use Rattle.std.proofs.Math.Seq.{take-append_seam}
use Rattle.std.proofs.lemmas.List.Elements.{filter_map-append}
use Rattle.jade_syntax.specs.declared.tree.Program.{Program}
use Rattle.jade_syntax.specs.Abstract.{AbstractProgram}
use Rattle.jade_syntax.specs.Image.{program}
use Rattle.jade_syntax.specs.Objects.{sizes}
use Rattle.jade_meaning.specs.Course.{root_spec, root_course}
use Rattle.jade_meaning.specs.Talk.{Task, Wants, talk}
use Rattle.jade_meaning.specs.Serial.{Path, Mark, DidCreate, zeros, marks_at, deeds_at, reads_at, read_of, same_path}
use Rattle.jade_meaning.specs.Laws.{root_task}
use Rattle.jade_meaning.specs.Turns.{marks_by}
use Rattle.jade_meaning.specs.Proper.{Proper}
use Rattle.jade_meaning.specs.Walk.{task_of}
use Rattle.jade_meaning.specs.Doing.{to_come as still_to_come}
use Rattle.object_shelf.specs.Views.{ObjectView}
use Rattle.schedule_core.specs.declared.steps.Seat.{Seat}
use Rattle.task_roll.specs.declared.note.PartNote.{PartNote}
use Rattle.schedule_core.specs.Going.{Going, to_come}
use Rattle.schedule_core.specs.Plain.{Reached, value_at, NotedIn, goes_on, seat_after}
use Rattle.schedule_core.specs.Serially.{events_done, IsTask, is_root, is_created, Begins, TasksAreSerial, ReadsAreSerial}
use Rattle.schedule_core.specs.Soundness.{and_then}
use Rattle.schedule_core.proofs.Showing.{path_same}
use Rattle.schedule_core.proofs.Follows.{Follows, deeds_both}
use Rattle.schedule_core.proofs.Mirrors.{Kept, kept, sound_of, Split, split_at, beside_at}
use Rattle.schedule_core.proofs.Reporting.{turns_at}

-- deeds and marks of a path
deeds_of_marks : (q : Path) (ms : List Mark) → deeds_at q ms ≡ map (λ (m : Mark). m.deed) (marks_at q ms)
deeds_of_marks q [] = refl
deeds_of_marks q (m ∷ ms) = go (same_path m.path q) (deeds_of_marks q ms)
  where
    go : (b : Bool) → deeds_at q ms ≡ map (λ (m : Mark). m.deed) (marks_at q ms)
        → cons_option (if b then Some m.deed else None) (deeds_at q ms) ≡ map (λ (m : Mark). m.deed) (cons_option (if b then Some m else None) (marks_at q ms))
    go true h = ap (λ z. m.deed ∷ z) h
    go false h = h

pub same_deeds : (q : Path) (xs ys : List Mark) → marks_at q xs ≡ marks_at q ys → deeds_at q xs ≡ deeds_at q ys
same_deeds q xs ys e = deeds_of_marks q xs ∙ ap (map (λ (m : Mark). m.deed)) e ∙ sym (deeds_of_marks q ys)

-- a mark of a path is a mark of the whole
record Among (m : Mark) (ms : List Mark) : Type 0 where
  front : List Mark
  back : List Mark
  is : ms ≡ front ++ (m ∷ back)

among : (q : Path) (ms xs ys : List Mark) (m : Mark) → marks_at q ms ≡ xs ++ (m ∷ ys) → Among m ms
among q [] [] ys m e = absurd (cc)
among q [] (x ∷ xs) ys m e = absurd (cc)
among q (k ∷ ms) xs ys m e = go (same_path k.path q) refl xs e (λ zs f. among q ms zs ys m f)
  where
    more : Among m ms → Among m (k ∷ ms)
    more a = record { front = k ∷ a.front; back = a.back; is = ap (λ z. k ∷ z) a.is }

    go : (b : Bool) → same_path k.path q ≡ b → (xs : List Mark) → cons_option (if b then Some k else None) (marks_at q ms) ≡ xs ++ (m ∷ ys)
        → ((zs : List Mark) → marks_at q ms ≡ zs ++ (m ∷ ys) → Among m ms) → Among m (k ∷ ms)
    go true h [] e f = let i : k ≡ m = cc in record { front = []; back = ms; is = ap (λ z. z ∷ ms) i }
    go true h (x ∷ xs) e f = more (f xs (let r : marks_at q ms ≡ xs ++ (m ∷ ys) = cc in r))
    go false h xs e f = more (f xs e)

task_among : (root : Task) (log run : List Mark) → ((q : Path) → (later : List Mark) × (marks_at q run ≡ marks_at q log ++ later)) → (q : Path) (t : Task)
    → IsTask log root q t → IsTask run root q t
task_among root log run all _ _ is_root = is_root
task_among root log run all q t (is_created parent k steps front back path is) =
    let m : Mark = record { path = parent; children = k; deed = DidCreate t steps } in
    let x = all parent in
    let own : marks_at parent (m ∷ back) ≡ m ∷ marks_at parent back = ap (λ b. cons_option (if b then Some m else None) (marks_at parent back)) (path_same parent) in
    let here : marks_at parent log ≡ marks_at parent front ++ (m ∷ marks_at parent back) = ap (marks_at parent) is ∙ filter_map-append _ front (m ∷ back) ∙ ap (λ z. marks_at parent front ++ z) own in
    let a = among parent run (marks_at parent front) (marks_at parent back ++ x.0) m (x.1 ∙ ap (λ z. z ++ x.0) here ∙ append_assoc (marks_at parent front) (m ∷ marks_at parent back) x.0) in
    is_created parent k steps a.front a.back path a.is

module _ (proper : (p : AbstractProgram) (ns : List ℤ) (limit : ℕ) → Proper (root_spec p) (root_course p ns limit)) (p : Program) (ns : List ℤ) (limit : ℕ) where
  -- one sound state by these lists
  pub going_by : (k : ℕ) (seats : List Seat) (ss : List ObjectView) (notes : List PartNote) (x : Kept p ns limit k seats ss notes) (rest : ℕ → List Path)
      → Going rest (length (sizes p.items)) (marks_by (program p) ns limit (and_then ss rest)) (zeros (sizes p.items)) x.state
  going_by k seats ss notes x rest =
      subst (λ z. Going rest (length (sizes p.items)) (marks_by (program p) ns limit z) (zeros (sizes p.items)) x.state)
      (fun_ext (λ o. ap (λ z. z ++ rest o) (sym (ap (λ s. s.turns) (x.shown.shelves o)) ∙ sym (turns_at ss o))))
      ((sound_of proper p ns limit x.state x.reached).by rest)

  module _ (k : ℕ) (seats : List Seat) (ss : List ObjectView) (notes : List PartNote) (x : Kept p ns limit k seats ss notes) (rest : ℕ → List Path) (i : ℕ) (s : Seat)
      (at : slice_get seats i ≡ Some s) where
    abbrev run : List Mark
    run = marks_by (program p) ns limit (and_then ss rest)

    abbrev size : ℕ
    size = length (sizes p.items)

    abbrev log : List Mark
    log = x.state.log

    abbrev later : List Mark
    later = to_come rest size x.state

    abbrev root : Task
    root = root_task (program p) ns limit

    abbrev sp : Split seats x.state.roll i s
    sp = split_at seats x.state.roll i s x.shown.seated at

    pub follow : Follows root log s (split_at seats x.state.roll i s x.shown.seated at).task
    follow = (beside_at (Follows root log) seats x.state.roll i s x.shown.seated at x.follows).1

    pub marks_are : (q : Path) → marks_at q run ≡ marks_at q log ++ marks_at q later
    marks_are q = (going_by k seats ss notes x rest).deeds q ∙ filter_map-append _ log later

    task_of_it : IsTask run root s.path (task_of s.walker)
    task_of_it = task_among root log run (λ q. (marks_at q later, marks_are q)) s.path (task_of s.walker) follow.task

    reads_are : reads_at s.path run ≡ s.walker.answers ++ reads_at s.path later
    reads_are =
        ap (filter_map read_of) (same_deeds s.path run (log ++ later) ((going_by k seats ss notes x rest).deeds s.path) ∙ deeds_both s.path log later)
        ∙ filter_map-append read_of (deeds_at s.path log) (deeds_at s.path later) ∙ ap (λ vs. vs ++ reads_at s.path later) follow.answers

    pub answers_of : Begins (reads_at s.path run) s.walker.answers
    answers_of = record { rest = reads_at s.path later; is = reads_are }

    pub events_are : events_done s.walker ≡ follow.done
    events_are =
        ap (λ n. take n (talk (task_of s.walker) s.walker.answers)) (sym follow.many)
        ∙ ap (λ vs. take (length follow.done) (talk (task_of s.walker) vs)) (sym (append-nil s.walker.answers))
        ∙ ap (take (length follow.done)) (follow.walks.talks []) ∙ take-append_seam follow.done (still_to_come (split_at seats x.state.roll i s x.shown.seated at).task.doing [])

    pub events_of : Begins (talk (task_of s.walker) (reads_at s.path run)) (events_done s.walker)
    events_of = record {
      rest = still_to_come (split_at seats x.state.roll i s x.shown.seated at).task.doing (reads_at s.path later);
      is = ap (talk (task_of s.walker)) reads_are ∙ follow.walks.talks (reads_at s.path later)
          ∙ ap (λ es. es ++ still_to_come (split_at seats x.state.roll i s x.shown.seated at).task.doing (reads_at s.path later)) (sym events_are);
    }

  whole : (k : ℕ) (roll : List Seat) (ss : List ObjectView) (notes : List PartNote) → Reached p ns limit k roll ss notes → Kept p ns limit k roll ss notes
  whole k roll ss notes r = kept proper p ns limit k roll ss notes r

  pub tasks_are_serial : TasksAreSerial p ns limit
  tasks_are_serial = record {
    task = λ k roll ss notes r rest i s e. task_of_it k roll ss notes (whole k roll ss notes r) rest i s e;
    answers = λ k roll ss notes r rest i s e. answers_of k roll ss notes (whole k roll ss notes r) rest i s e;
    events = λ k roll ss notes r rest i s e. events_of k roll ss notes (whole k roll ss notes r) rest i s e;
  }

  -- the read done
  after_get : (seats : List Seat) (i : ℕ) (s s' : Seat) → slice_get seats i ≡ Some s → slice_get (take i seats ++ (s' ∷ drop (suc i) seats)) i ≡ Some s'
  after_get [] i s s' e = absurd (cc)
  after_get (x ∷ seats) zero s s' e = refl
  after_get (x ∷ seats) (suc i) s s' e = after_get seats i s s' e

  pub reads_are_serial : ReadsAreSerial p ns limit
  reads_are_serial = record {
    read = λ k roll ss notes r rest i s e o c first.
        let s' = seat_after (Some (value_at o c s.path ss)) s in
        let roll' = take i roll ++ (s' ∷ drop (suc i) roll) in
        let step : NotedIn roll ss notes i roll' ss notes = record {
          step = record { seat = s; event = Wants o c; new = s' ∷ []; here = e; next = first; does = (refl, refl); roll = refl };
          notes = refl;
        } in
        answers_of (suc k) roll' ss notes (whole (suc k) roll' ss notes (goes_on r i step)) rest i s' (after_get roll i s s' e);
  }
