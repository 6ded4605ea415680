-- An entered child has its entry.
use Rattle.std.proofs.Common.{◌≡◌, ℕ, true, false, ◌||◌, List, [], ◌∷◌, ◌++◌, drop, refl, sym, ap, ◌∙◌, subst, Some, None, append-nil}
use Rattle.std.specs.Prelude.{ℤ, slice_get, if◌then◌else◌}
use Rattle.std.proofs.lemmas.Bool.{ne_eqb}
use Rattle.jade_base.specs.Rights.{has_rights}
use Rattle.jade_syntax.specs.Abstract.{AbstractProgram}
use Rattle.jade_syntax.specs.declared.tree.Program.{Program}
use Rattle.jade_meaning.specs.Specification.{Specification, rights_on}
use Rattle.jade_meaning.specs.Course.{Course, Reads, Writes, Steps, Creates, Changes, Ends, root_spec, root_course}
use Rattle.jade_meaning.specs.Talk.{Task, Holds, Event, Enter, Enroll, Take, TouchRead, TouchWrite, Wants, Give, Leave, Shift, Resign, talk}
use Rattle.jade_meaning.specs.Serial.{Path}
use Rattle.jade_meaning.specs.Laws.{Every, child_path, deed_of}
use Rattle.jade_meaning.specs.Proper.{Proper}
use Rattle.jade_meaning.specs.Walk.{task_of, upcoming}
use Rattle.jade_meaning.specs.Doing.{from_deed}
use Rattle.object_shelf.specs.declared.queue.Entry.{Entry}
use Rattle.object_shelf.specs.Shelves.{find}
use Rattle.schedule_core.specs.declared.steps.Seat.{Seat}
use Rattle.object_shelf.specs.Views.{ObjectView}
use Rattle.task_roll.specs.declared.note.PartNote.{PartNote}
use Rattle.schedule_core.specs.Core.{touches, enters_still, handed_on}
use Rattle.schedule_core.specs.Unplaced.{Live}
use Rattle.schedule_core.specs.Sound.{Apart, Pairs}
use Rattle.schedule_core.specs.Shown.{slot, born_slots, line, shelf_at}
use Rattle.schedule_core.specs.EntryRights.{rights_of}
use Rattle.schedule_core.specs.EntriesBefore.{EntersNone, ChildrenAreEntered}
use Rattle.schedule_core.proofs.Lines.{every_back}
use Rattle.schedule_core.proofs.Changing.{touches_is}
use Rattle.schedule_core.proofs.Showing.{path_same}
use Rattle.schedule_core.proofs.Mirrors.{Kept, kept, split_at}
use Rattle.schedule_core.proofs.EntryOwners.{quiet_pending, kid_behind, kid_rest, fit_at, far_at, rows_at}

-- nothing more is entered on an object
none_still : (o : ℕ) (es : List Event) → Every (EntersNone o) es → enters_still o es ≡ false
none_still o [] h = refl
none_still o (Enter q a ∷ es) h =
    ap (λ b. b || enters_still o es) (ne_eqb q o (λ e. h.0 a (ap (λ x. Enter x a) e))) ∙ none_still o es h.1
none_still o (Enroll t n ∷ es) h = none_still o es h.1
none_still o (Take q m ∷ es) h = none_still o es h.1
none_still o (TouchRead q c v ∷ es) h = none_still o es h.1
none_still o (TouchWrite q c v ∷ es) h = none_still o es h.1
none_still o (Wants q c ∷ es) h = none_still o es h.1
none_still o (Give q ∷ es) h = none_still o es h.1
none_still o (Leave q ∷ es) h = none_still o es h.1
none_still o (Shift q a ∷ es) h = none_still o es h.1
none_still o (Resign b n ∷ es) h = none_still o es h.1

-- the events before the first deed
record Cut (xs ys before : List Event) (x : Event) (later : List Event) : Type 0 where
  mid : List Event
  first : before ≡ xs ++ mid
  rest : ys ≡ mid ++ (x ∷ later)

cut : (xs ys before : List Event) (x : Event) (later : List Event) → xs ++ ys ≡ before ++ (x ∷ later) → Every (λ e. deed_of e ≡ None) xs
    → (deed_of x ≡ None → ⊥) → Cut xs ys before x later
cut [] ys before x later e q n = record { mid = before; first = refl; rest = e }
cut (z ∷ xs) ys [] x later e q n = absurd (let i : z ≡ x = cc in n (subst (λ w. deed_of w ≡ None) i q.0))
cut (z ∷ xs) ys (w ∷ before) x later e q n =
    let i : w ≡ z = cc in
    let r = cut xs ys before x later (cc) q.1 n in
    record { mid = r.mid; first = ap (λ v. v ∷ before) i ∙ ap (λ vs. z ∷ vs) r.first; rest = r.rest }

-- what a course that goes on with a creation is
record Creating (c : Course) (child : Task) : Type 0 where
  body : Course
  on : Course
  creates : c ≡ Creates child.spec body on

creating : (c : Course) (spec : Specification) (plan : Holds) (n : ℕ) (mid later : List Event) (child : Task) (steps : ℕ)
    → from_deed c spec plan n [] ≡ mid ++ (Enroll child steps ∷ later) → Every (λ e. deed_of e ≡ None) mid → Creating c child × (mid ≡ [])
creating (Creates cs body on) spec plan n [] later child steps e q =
    let i : record { spec = cs; course = body } ≡ child = cc in
    (record { body = body; on = on; creates = ap (λ (z : Task). Creates z.spec body on) i }, refl)
creating (Creates cs body on) spec plan n (m ∷ mid) later child steps e q =
    let i : Enroll (record { spec = cs; course = body }) n ≡ m = cc in
    absurd (let j : deed_of (Enroll (record { spec = cs; course = body }) n) ≡ None = ap deed_of i ∙ q.0 in cc)
creating (Reads o c on) spec plan n [] later child steps e q = absurd (cc)
creating (Reads o c on) spec plan n (m ∷ []) later child steps e q = absurd (cc)
creating (Reads o c on) spec plan n (m ∷ (k ∷ mid)) later child steps e q = absurd (cc)
creating (Writes o c v on) spec plan n [] later child steps e q = absurd (cc)
creating (Writes o c v on) spec plan n (m ∷ mid) later child steps e q =
    let i : TouchWrite o c v ≡ m = cc in
    absurd (let j : deed_of (TouchWrite o c v) ≡ None = ap deed_of i ∙ q.0 in cc)
creating (Ends b) spec plan n [] later child steps e q = absurd (cc)
creating (Ends b) spec plan n (m ∷ mid) later child steps e q =
    let i : Resign b n ≡ m = cc in
    absurd (let j : deed_of (Resign b n) ≡ None = ap deed_of i ∙ q.0 in cc)
creating (Steps on) spec plan n [] later child steps e q = absurd (cc)
creating (Steps on) spec plan n (m ∷ mid) later child steps e q = absurd (cc)
creating (Changes new on) spec plan n [] later child steps e q = absurd (cc)
creating (Changes new on) spec plan n (m ∷ mid) later child steps e q = absurd (cc)

kid_there : (o : ℕ) (b l : List Live) (t : Live) (far : Pairs Apart (b ++ (t ∷ l))) (child : Specification) (body on : Course) → t.doing.course ≡ Creates child body on
    → enters_still o t.doing.pending ≡ false → touches (rights_on child o) ≡ true
    → rights_of (find (t.path ++ t.part ∷ []) (line o (b ++ (t ∷ l)))) ≡ Some (rights_on child o)
kid_there o b l t far child body on e q r =
    ap rights_of (kid_rest o b l t far ∙ ap (λ c. find kid (born_slots c o t ++ behind)) e ∙ ap (λ x. find kid ((if x then [] else slot kid (rights_on child o) None (handed_on t o)) ++ behind)) q
    ∙ ap (λ x. find kid ((if x then row ∷ [] else []) ++ behind)) r ∙ ap (λ x. if x then Some row else find kid behind) (path_same kid))
  where
    kid : Path
    kid = t.path ++ t.part ∷ []

    behind : List Entry
    behind = kid_behind o l t

    row : Entry
    row = record { path = kid; rights = rights_on child o; hold = None; version = handed_on t o }

module _ (proper : (p : AbstractProgram) (ns : List ℤ) (limit : ℕ) → Proper (root_spec p) (root_course p ns limit)) (p : Program) (ns : List ℤ) (limit : ℕ) where
  module _ (k : ℕ) (seats : List Seat) (ss : List ObjectView) (notes : List PartNote) (x : Kept p ns limit k seats ss notes) (i : ℕ) (s : Seat) (at : slice_get seats i ≡ Some s) where
    abbrev b : List Live
    b = (split_at seats x.state.roll i s x.shown.seated at).before

    abbrev t : Live
    t = (split_at seats x.state.roll i s x.shown.seated at).task

    abbrev l : List Live
    l = (split_at seats x.state.roll i s x.shown.seated at).later

    entered_so : (child : Task) (steps : ℕ) (before later : List Event) → upcoming s.walker ≡ before ++ (Enroll child steps ∷ later)
        → Every (λ x. deed_of x ≡ None) before → (o : ℕ) → Every (EntersNone o) before → has_rights (rights_on child.spec o) ≡ true
        → rights_of (find (child_path s.path s.children) (shelf_at ss o).queue) ≡ Some (rights_on child.spec o)
    entered_so child steps before later e quiet o none some =
        let sits = (split_at seats x.state.roll i s x.shown.seated at).sits in
        let coming : upcoming s.walker ≡ t.doing.pending ++ from_deed t.doing.course t.doing.spec t.doing.plan t.doing.steps [] =
        ap (λ vs. drop s.walker.done (talk (task_of s.walker) vs)) (sym (append-nil s.walker.answers)) ∙ sits.known [] in
        let fit = fit_at proper p ns limit k seats ss notes x i s at in
        let far = far_at proper p ns limit k seats ss notes x i s at in
        let calm = quiet_pending t.doing.spec t.doing.plan t.doing.course t.doing.pending t.rights t.held fit.orderly in
        let c = cut t.doing.pending (from_deed t.doing.course t.doing.spec t.doing.plan t.doing.steps []) before (Enroll child steps) later (sym coming ∙ e) calm (λ q. absurd (cc)) in
        let mids = every_back (λ x. deed_of x ≡ None) t.doing.pending c.mid (subst (Every (λ x. deed_of x ≡ None)) c.first quiet) in
        let r = creating t.doing.course t.doing.spec t.doing.plan t.doing.steps c.mid later child steps c.rest mids in
        let here : before ≡ t.doing.pending = c.first ∙ ap (λ es. t.doing.pending ++ es) r.1 ∙ append-nil t.doing.pending in
        let kid : child_path s.path s.children ≡ t.path ++ t.part ∷ [] = ap (λ q. q ++ s.children ∷ []) (sym sits.path) ∙ ap (λ n. t.path ++ n ∷ []) (sym sits.part) in
        ap rights_of (ap (find (child_path s.path s.children)) (rows_at proper p ns limit k seats ss notes x i s at o) ∙ ap (λ q. find q (line o (b ++ (t ∷ l)))) kid)
        ∙ kid_there o b l t far child.spec r.0.body r.0.on r.0.creates (none_still o t.doing.pending (subst (Every (EntersNone o)) here none)) (touches_is (rights_on child.spec o) ∙ some)

  pub children_are_entered : ChildrenAreEntered p ns limit
  children_are_entered = record {
    entered = λ k roll ss notes r i s at. entered_so k roll ss notes (kept proper p ns limit k roll ss notes r) i s at;
  }
