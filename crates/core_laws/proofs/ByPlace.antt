-- What a live task has is the meaning's content at its place.
use Rattle.std.proofs.Common.{◌≡◌, ℕ, suc, ◌+◌, Bool, true, false, ◌||◌, List, [], ◌∷◌, ◌++◌, Some, None, refl, sym, ap, ◌∙◌, arith}
use Rattle.std.specs.Prelude.{ℤ, pred, nat_eq, slice_get, slice_set, if◌then◌else◌}
use Rattle.std.specs.List.{filter_map, cons_option}
use Rattle.std.proofs.lemmas.Bool.{ne_eqb}
use Rattle.jade_base.specs.Places.{same_path, is_before, key}
use Rattle.jade_base.specs.Rights.{is_there}
use Rattle.jade_syntax.specs.declared.tree.Program.{Program}
use Rattle.jade_syntax.specs.Image.{program}
use Rattle.jade_syntax.specs.Objects.{sizes}
use Rattle.jade_meaning.specs.Laws.{Every, deeds, but_turn}
use Rattle.jade_meaning.specs.Serial.{Path, Mark, Deed, DidTurn, DidRead, DidWrite, DidCreate, DidEnd, deeds_at, zeros, at_object}
use Rattle.jade_meaning.specs.Talk.{Event, Enter, Enroll, Take, TouchRead, TouchWrite, Wants, Give, Leave, Shift, Resign}
use Rattle.jade_meaning.specs.Turns.{marks_by}
use Rattle.object_shelf.specs.declared.queue.Entry.{Entry}
use Rattle.object_shelf.specs.Shelves.{find, content_for}
use Rattle.object_shelf.specs.Views.{ObjectView}
use Rattle.task_roll.specs.declared.note.PartNote.{PartNote}
use Rattle.schedule_core.specs.declared.steps.Seat.{Seat}
use Rattle.schedule_core.specs.ByNumber.{shelf_at}
use Rattle.schedule_core.specs.Plain.{Reached}
use Rattle.schedule_core.specs.Places.{upto}
use Rattle.schedule_core.specs.Remains.{Behind, HasIt, ContentsAreSerial}
use Rattle.schedule_core.specs.Serially.{events_done}
use Rattle.schedule_core.specs.Soundness.{and_then}
use Rattle.schedule_core.specs.Works.{Work, Wrote, Turned, work_on, works_on, worked}
use Rattle.core_laws.specs.ByPlace.{writes_among, before_place, content_at}

-- how many works are writes of the task at a path
abbrev pub own_many : Path → List Work → ℕ
own_many p [] = 0
own_many p (Turned q ∷ ws) = own_many p ws
own_many p (Wrote q k c v ∷ ws) = if same_path q p then suc (own_many p ws) else own_many p ws

own_both : (p : Path) (a b : List Work) → own_many p (a ++ b) ≡ own_many p a + own_many p b
own_both p [] b = omega arith
own_both p (Turned q ∷ a) b = own_both p a b
own_both p (Wrote q k c v ∷ a) b = go (same_path q p) (own_both p a b)
  where
    go : (x : Bool) → own_many p (a ++ b) ≡ own_many p a + own_many p b
        → (if x then suc (own_many p (a ++ b)) else own_many p (a ++ b)) ≡ (if x then suc (own_many p a) else own_many p a) + own_many p b
    go true e = omega (arith, e)
    go false e = e

-- how many deeds write to an object
abbrev pub writes_in : ℕ → List Deed → ℕ
writes_in o [] = 0
writes_in o (DidWrite q c v ∷ ds) = if nat_eq q o then suc (writes_in o ds) else writes_in o ds
writes_in o (DidTurn q ∷ ds) = writes_in o ds
writes_in o (DidRead q c v ∷ ds) = writes_in o ds
writes_in o (DidCreate t n ∷ ds) = writes_in o ds
writes_in o (DidEnd b n ∷ ds) = writes_in o ds

writes_both : (o : ℕ) (a b : List Deed) → writes_in o (a ++ b) ≡ writes_in o a + writes_in o b
writes_both o [] b = omega arith
writes_both o (DidTurn q ∷ a) b = writes_both o a b
writes_both o (DidRead q c v ∷ a) b = writes_both o a b
writes_both o (DidCreate t n ∷ a) b = writes_both o a b
writes_both o (DidEnd x n ∷ a) b = writes_both o a b
writes_both o (DidWrite q c v ∷ a) b = go (nat_eq q o) (writes_both o a b)
  where
    go : (x : Bool) → writes_in o (a ++ b) ≡ writes_in o a + writes_in o b
        → (if x then suc (writes_in o (a ++ b)) else writes_in o (a ++ b)) ≡ (if x then suc (writes_in o a) else writes_in o a) + writes_in o b
    go true e = omega (arith, e)
    go false e = e

but_turns_write : (o : ℕ) (ds : List Deed) → writes_in o (filter_map but_turn ds) ≡ writes_in o ds
but_turns_write o [] = refl
but_turns_write o (DidTurn q ∷ ds) = but_turns_write o ds
but_turns_write o (DidRead q c v ∷ ds) = but_turns_write o ds
but_turns_write o (DidCreate t n ∷ ds) = but_turns_write o ds
but_turns_write o (DidEnd x n ∷ ds) = but_turns_write o ds
but_turns_write o (DidWrite q c v ∷ ds) = ap (λ n. if nat_eq q o then suc n else n) (but_turns_write o ds)

events_write : (o : ℕ) (es : List Event) → writes_in o (deeds es) ≡ writes_among o es
events_write o [] = refl
events_write o (TouchWrite q c v ∷ es) = ap (λ n. if nat_eq q o then suc n else n) (events_write o es)
events_write o (TouchRead q c v ∷ es) = events_write o es
events_write o (Wants q c ∷ es) = events_write o es
events_write o (Enter q a ∷ es) = events_write o es
events_write o (Enroll t n ∷ es) = events_write o es
events_write o (Take q m ∷ es) = events_write o es
events_write o (Give q ∷ es) = events_write o es
events_write o (Leave q ∷ es) = events_write o es
events_write o (Shift q a ∷ es) = events_write o es
events_write o (Resign b n ∷ es) = events_write o es

-- a task's own writes among the works of a run are those of its deeds there
pub marks_write : (o : ℕ) (p : Path) (ms : List Mark) → writes_in o (deeds_at p ms) ≡ own_many p (works_on o ms)
marks_write o p [] = refl
marks_write o p (m ∷ ms) = one m.deed (same_path m.path p) refl (marks_write o p ms)
  where
    one : (d : Deed) (b : Bool) → same_path m.path p ≡ b → writes_in o (deeds_at p ms) ≡ own_many p (works_on o ms) → writes_in o (cons_option (if b then Some d else None) (deeds_at p ms))
        ≡ own_many p (cons_option (work_on o d m.path m.children) (works_on o ms))
    one (DidTurn q) true e h = go (nat_eq q o)
      where
        go : (x : Bool) → writes_in o (deeds_at p ms) ≡ own_many p (cons_option (if x then Some (Turned m.path) else None) (works_on o ms))
        go true = h
        go false = h
    one (DidTurn q) false e h = go (nat_eq q o)
      where
        go : (x : Bool) → writes_in o (deeds_at p ms) ≡ own_many p (cons_option (if x then Some (Turned m.path) else None) (works_on o ms))
        go true = h
        go false = h
    one (DidRead q c v) true e h = h
    one (DidRead q c v) false e h = h
    one (DidCreate t n) true e h = h
    one (DidCreate t n) false e h = h
    one (DidEnd x n) true e h = h
    one (DidEnd x n) false e h = h
    one (DidWrite q c v) true e h = go (nat_eq q o)
      where
        go : (x : Bool) → (if x then suc (writes_in o (deeds_at p ms)) else writes_in o (deeds_at p ms))
            ≡ own_many p (cons_option (if x then Some (Wrote m.path m.children c v) else None) (works_on o ms))
        go true = ap suc h ∙ ap (λ b. if b then suc (own_many p (works_on o ms)) else own_many p (works_on o ms)) (sym e)
        go false = h
    one (DidWrite q c v) false e h = go (nat_eq q o)
      where
        go : (x : Bool) → writes_in o (deeds_at p ms)
            ≡ own_many p (cons_option (if x then Some (Wrote m.path m.children c v) else None) (works_on o ms))
        go true = h ∙ ap (λ b. if b then suc (own_many p (works_on o ms)) else own_many p (works_on o ms)) (sym e)
        go false = h

-- none of the works that do not stand before a place is taken
pub none_after : (p : Path) (n : ℕ) (ws : List Work) → Every (Behind p n) ws → (xs : List ℤ) → worked (before_place p n 0 ws) xs ≡ xs
none_after p n [] h xs = refl
none_after p n (Turned q ∷ ws) h xs = none_after p n ws h.1 xs
none_after p n (Wrote q k c v ∷ ws) h xs = go (same_path q p) (is_before (key q k) (key p n)) h.0 (none_after p n ws h.1 xs)
  where
    go : (a b : Bool) → b ≡ false → worked (before_place p n 0 ws) xs ≡ xs
        → worked (if a then before_place p n 0 ws else (if b then Wrote q k c v ∷ before_place p n 0 ws else before_place p n 0 ws)) xs ≡ xs
    go true b f e = e
    go false true f e = absurd (cc)
    go false false f e = e

-- the works that are gone are taken as far as they stand before a place or are the task's own
pub all_gone : (p : Path) (n : ℕ) (later gone : List Work) (xs : List ℤ)
    → worked (before_place p n (own_many p gone) (gone ++ later)) xs ≡ worked (before_place p n 0 later) (worked (upto p n gone) xs)
all_gone p n later [] xs = refl
all_gone p n later (Turned q ∷ ws) xs = all_gone p n later ws xs
all_gone p n later (Wrote q k c v ∷ ws) xs = go (same_path q p) (is_before (key q k) (key p n)) (all_gone p n later ws (slice_set xs c v)) (all_gone p n later ws xs)
  where
    go : (a b : Bool) → worked (before_place p n (own_many p ws) (ws ++ later)) (slice_set xs c v) ≡ worked (before_place p n 0 later) (worked (upto p n ws) (slice_set xs c v))
        → worked (before_place p n (own_many p ws) (ws ++ later)) xs ≡ worked (before_place p n 0 later) (worked (upto p n ws) xs)
        → worked (if a then (if nat_eq (if a then suc (own_many p ws) else own_many p ws) 0 then before_place p n 0 (ws ++ later)
        else Wrote q k c v ∷ before_place p n (pred (if a then suc (own_many p ws) else own_many p ws)) (ws ++ later))
        else (if b then Wrote q k c v ∷ before_place p n (if a then suc (own_many p ws) else own_many p ws) (ws ++ later) else before_place p n (if a then suc (own_many p ws) else own_many p ws) (ws ++ later))) xs
        ≡ worked (before_place p n 0 later) (worked (if a || b then Wrote q k c v ∷ upto p n ws else upto p n ws) xs)
    go true b e f =
        ap (λ x. worked (if x then before_place p n 0 (ws ++ later) else Wrote q k c v ∷ before_place p n (own_many p ws) (ws ++ later)) xs)
        (ne_eqb (suc (own_many p ws)) 0 (λ z. absurd (let y : suc (own_many p ws) ≡ 0 = z in omega (arith, y)))) ∙ e
    go false true e f = e
    go false false e f = f

pub has_by_place : (p : Program) (ns : List ℤ) (limit : ℕ) → ContentsAreSerial p ns limit → (k : ℕ) (roll : List Seat) (ss : List ObjectView) (notes : List PartNote)
    → Reached p ns limit k roll ss notes → (rest : ℕ → List Path) → (i : ℕ) (s : Seat) → slice_get roll i ≡ Some s → (o : ℕ) (e : Entry)
    → find s.path (shelf_at ss o).queue ≡ Some e → is_there e.rights.reads || is_there e.rights.writes ≡ true → is_there e.rights.commutes ≡ false
    → HasIt s ss o e → content_for s.path (shelf_at ss o) ≡ content_at p s o (marks_by (program p) ns limit (and_then ss rest))
has_by_place p ns limit c k roll ss notes reached rest i s live o e there some plain has =
    let h = c.places k roll ss notes reached rest in
    let ms = marks_by (program p) ns limit (and_then ss rest) in
    let d = writes_among o (events_done s.walker) in
    let later = works_on o h.remains.left in
    let zero = at_object (zeros (sizes p.items)) o in
    let behind = h.behind i s live o e there some plain has in
    let own = ap (writes_in o) (h.remains.own i s live) ∙ writes_both o (deeds (events_done s.walker)) (filter_map but_turn (deeds_at s.path h.remains.left)) in
    let whole = sym (but_turns_write o (deeds_at s.path ms)) ∙ own in
    let done = events_write o (events_done s.walker) in
    let left = but_turns_write o (deeds_at s.path h.remains.left) ∙ marks_write o s.path h.remains.left in
    let all = sym (marks_write o s.path ms) in
    let two = ap (own_many s.path) (h.remains.first o) ∙ own_both s.path (h.remains.gone o) later in
    let many : own_many s.path (h.remains.gone o) ≡ d = omega (arith, whole, done, left, all, two) in
    h.stand i s live o e there some
    ∙ sym (none_after s.path s.children later behind (worked (upto s.path s.children (h.remains.gone o)) zero))
    ∙ sym (all_gone s.path s.children later (h.remains.gone o) zero)
    ∙ ap (λ n. worked (before_place s.path s.children n (h.remains.gone o ++ later)) zero) many
    ∙ ap (λ ws. worked (before_place s.path s.children d ws) zero) (sym (h.remains.first o))
