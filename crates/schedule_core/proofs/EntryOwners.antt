-- The entries of an object have exactly the rights of their tasks.
use Rattle.std.proofs.Common.{◌≡◌, ℕ, Bool, true, false, List, [], ◌∷◌, ◌++◌, drop, refl, sym, ap, ◌∙◌, subst, Option, Some, None, append-nil, append_assoc}
use Rattle.std.specs.Prelude.{ℤ, slice_get, if◌then◌else◌}
use Rattle.jade_base.specs.declared.rights.Rights.{Rights}
use Rattle.jade_base.specs.declared.rights.Mode.{Mode}
use Rattle.jade_base.specs.Rights.{no_rights}
use Rattle.jade_syntax.specs.declared.tree.Program.{Program}
use Rattle.jade_syntax.specs.Abstract.{AbstractProgram}
use Rattle.jade_meaning.specs.Specification.{Specification, rights_on}
use Rattle.jade_meaning.specs.Course.{Course, Reads, Writes, Steps, Creates, Changes, Ends, root_spec, root_course}
use Rattle.jade_meaning.specs.Talk.{Holds, Event, Enter, Enroll, Take, TouchRead, TouchWrite, Wants, Give, Leave, Shift, Resign, talk, events}
use Rattle.jade_meaning.specs.Serial.{Path}
use Rattle.jade_meaning.specs.Laws.{Every, child_path, deed_of}
use Rattle.jade_meaning.specs.Proper.{Proper}
use Rattle.jade_meaning.specs.Walk.{task_of}
use Rattle.jade_meaning.specs.Doing.{from_deed}
use Rattle.object_shelf.specs.declared.queue.Entry.{Entry}
use Rattle.object_shelf.specs.Shelves.{find}
use Rattle.object_shelf.specs.Views.{ObjectView}
use Rattle.schedule_core.specs.declared.steps.Seat.{Seat}
use Rattle.task_roll.specs.declared.note.PartNote.{PartNote}
use Rattle.schedule_core.specs.Core.{touches, enters_still, handed_on, put}
use Rattle.schedule_core.specs.Unplaced.{Live}
use Rattle.schedule_core.specs.Sound.{Fit, Orderly, Apart, Pairs}
use Rattle.schedule_core.specs.Shown.{slot, slots, born_slots, line, shelf_at}
use Rattle.schedule_core.specs.EntryRights.{rights_after, rights_now, if_some, rights_of, ChildEntry, EntriesHaveRights}
use Rattle.schedule_core.proofs.Lines.{every_append, every_back, every_with, pairs_front, pairs_back}
use Rattle.schedule_core.proofs.Changing.{touches_is}
use Rattle.schedule_core.proofs.Showing.{Away, Elsewhere, path_same, slot_away, line_away, line_both}
use Rattle.schedule_core.proofs.Tells.{own_found, find_none, kid_before, kid_after}
use Rattle.schedule_core.proofs.Mirrors.{Kept, kept, sound_of, split_at, find_away, not_kid}
use Rattle.schedule_core.proofs.Following.{follow, events_are}
use Rattle.schedule_core.proofs.NoEntry.{no_entry}

some_entry : (d e : Entry) → ◌≡◌ {A = Option Entry} (Some d) (Some e) → d ≡ e
some_entry d e q = cc

pub record Kid_entry (o : ℕ) (t : Live) (e : Entry) : Type 0 where
  pub child : _
  pub body : Course
  pub on : Course
  pub creates : t.doing.course ≡ Creates child body on
  pub some : touches (rights_on child o) ≡ true
  pub version : e.version ≡ handed_on t o
  pub rights : e.rights ≡ rights_on child o

-- the entries behind the child's
abbrev pub kid_behind : (o : ℕ) (l : List Live) (t : Live) → List Entry
kid_behind o l t = slot t.path (t.rights o) (t.held o) (t.versions o) ++ line o l

pub kid_rest : (o : ℕ) (b l : List Live) (t : Live) → Pairs Apart (b ++ (t ∷ l)) → find (t.path ++ t.part ∷ []) (line o (b ++ (t ∷ l)))
    ≡ find (t.path ++ t.part ∷ []) (born_slots t.doing.course o t ++ kid_behind o l t)
kid_rest o b l t far =
    let kid = t.path ++ t.part ∷ [] in
    let born = born_slots t.doing.course o t in
    let mine = slot t.path (t.rights o) (t.held o) (t.versions o) in
    ap (find kid) (line_both o b (t ∷ l)) ∙ find_away kid (line o b) (line o (t ∷ l))
    (line_away kid o b (every_with (λ z. Apart z t) (λ z. Away kid (slots o z)) (λ z g. kid_before o t z g) b (pairs_front Apart b t l far)))
    ∙ ap (find kid) (append_assoc born mine (line o l))

pub kid_entry : (o : ℕ) (b l : List Live) (t : Live) → Pairs Apart (b ++ (t ∷ l)) → (e : Entry) → find (t.path ++ t.part ∷ []) (line o (b ++ (t ∷ l))) ≡ Some e
    → Kid_entry o t e
kid_entry o b l t far e h = by t.doing.course refl
  where
    kid : Path
    kid = t.path ++ t.part ∷ []

    behind : List Entry
    behind = slot t.path (t.rights o) (t.held o) (t.versions o) ++ line o l

    none : find kid behind ≡ None
    none = find_none kid behind (every_append (Elsewhere kid) (slot t.path (t.rights o) (t.held o) (t.versions o)) (line o l)
        (slot_away kid t.path (t.rights o) (t.held o) (t.versions o) (λ q. not_kid t.path t.part (sym q)))
        (line_away kid o l (every_with (Apart t) (λ u. Away kid (slots o u)) (λ u g. kid_after o t u g) l (pairs_back Apart b t l far))))

    rest : find kid (line o (b ++ (t ∷ l))) ≡ find kid (born_slots t.doing.course o t ++ behind)
    rest =
        let born = born_slots t.doing.course o t in
        let mine = slot t.path (t.rights o) (t.held o) (t.versions o) in
        ap (find kid) (line_both o b (t ∷ l)) ∙ find_away kid (line o b) (line o (t ∷ l))
        (line_away kid o b (every_with (λ z. Apart z t) (λ z. Away kid (slots o z)) (λ z g. kid_before o t z g) b (pairs_front Apart b t l far)))
        ∙ ap (find kid) (append_assoc born mine (line o l))

    never : (es : List Entry) → es ≡ [] → find kid (es ++ behind) ≡ Some e → ⊥
    never es q g = let n : None ≡ Some e = sym none ∙ sym (ap (λ xs. find kid (xs ++ behind)) q) ∙ g in absurd (cc)

    found_by : (c : Course) → t.doing.course ≡ c → find kid (born_slots c o t ++ behind) ≡ Some e
    found_by c q = ap (λ d. find kid (born_slots d o t ++ behind)) (sym q) ∙ sym rest ∙ h

    by : (c : Course) → t.doing.course ≡ c → Kid_entry o t e
    by (Creates child body on) q = still (enters_still o t.doing.pending) (found_by (Creates child body on) q)
      where
        row : Entry
        row = record { path = kid; rights = rights_on child o; hold = None; version = handed_on t o }

        there : (x : Bool) → touches (rights_on child o) ≡ x → find kid ((if x then row ∷ [] else []) ++ behind) ≡ Some e → Kid_entry o t e
        there true r g = record {
          child = child;
          body = body;
          on = on;
          creates = q;
          some = r;
          version =
              ap (λ (z : Entry). z.version) (sym (some_entry row e (sym (ap (λ b. if b then Some row else find kid behind) (path_same kid)) ∙ g)));
          rights =
              ap (λ (z : Entry). z.rights) (sym (some_entry row e (sym (ap (λ b. if b then Some row else find kid behind) (path_same kid)) ∙ g)));
        }
        there false r g = absurd (never [] refl g)

        still : (x : Bool) → find kid ((if x then [] else slot kid (rights_on child o) None (handed_on t o)) ++ behind) ≡ Some e → Kid_entry o t e
        still true g = absurd (never [] refl g)
        still false g = there (touches (rights_on child o)) refl g
    by (Reads p c on) q = absurd (never [] refl (found_by (Reads p c on) q))
    by (Writes p c v on) q = absurd (never [] refl (found_by (Writes p c v on) q))
    by (Steps on) q = absurd (never [] refl (found_by (Steps on) q))
    by (Changes new on) q = absurd (never [] refl (found_by (Changes new on) q))
    by (Ends x) q = absurd (never [] refl (found_by (Ends x) q))

pub quiet_pending : (spec : Specification) (plan : Holds) (c : Course) (es : List Event) (r : ℕ → Rights) (h : ℕ → Option Mode) → Orderly spec plan c es r h
    → Every (λ x. deed_of x ≡ None) es
quiet_pending spec plan c [] r h k = tt
quiet_pending spec plan c (Take o m ∷ es) r h k = (refl, quiet_pending spec plan c es r (put h o (Some m)) k.2)
quiet_pending spec plan c (Give o ∷ es) r h k = (refl, quiet_pending spec plan c es r (put h o None) k.1)
quiet_pending spec plan c (Enter o a ∷ es) r h k = (refl, quiet_pending spec plan c es r h k.2)
quiet_pending spec plan c (Shift o a ∷ es) r h k = (refl, quiet_pending spec plan c es (put r o a) h k.4)
quiet_pending spec plan c (Leave o ∷ es) r h k = (refl, quiet_pending spec plan c es (put r o no_rights) h k.3)
quiet_pending spec plan c (Enroll t n ∷ es) r h k = absurd k
quiet_pending spec plan c (TouchRead o d v ∷ es) r h k = absurd k
quiet_pending spec plan c (TouchWrite o d v ∷ es) r h k = absurd k
quiet_pending spec plan c (Wants o d ∷ es) r h k = absurd k
quiet_pending spec plan c (Resign b n ∷ es) r h k = absurd k

module _ (proper : (p : AbstractProgram) (ns : List ℤ) (limit : ℕ) → Proper (root_spec p) (root_course p ns limit)) (p : Program) (ns : List ℤ) (limit : ℕ) where
  module _ (k : ℕ) (seats : List Seat) (ss : List ObjectView) (notes : List PartNote) (x : Kept p ns limit k seats ss notes) (i : ℕ) (s : Seat) (at : slice_get seats i ≡ Some s) where
    abbrev b : List Live
    b = (split_at seats x.state.roll i s x.shown.seated at).before

    abbrev t : Live
    t = (split_at seats x.state.roll i s x.shown.seated at).task

    abbrev l : List Live
    l = (split_at seats x.state.roll i s x.shown.seated at).later

    roll_is : x.state.roll ≡ b ++ (t ∷ l)
    roll_is = (split_at seats x.state.roll i s x.shown.seated at).is

    pub fit_at : Fit t
    fit_at = (every_back Fit b (t ∷ l) (subst (Every Fit) roll_is ((sound_of proper p ns limit x.state x.reached).by (λ o. [])).fits)).0

    pub far_at : Pairs Apart (b ++ (t ∷ l))
    far_at = subst (Pairs Apart) roll_is ((sound_of proper p ns limit x.state x.reached).by (λ o. [])).apart

    pub rows_at : (o : ℕ) → (shelf_at ss o).queue ≡ line o (b ++ (t ∷ l))
    rows_at o = ap (λ (z : ObjectView). z.queue) (x.shown.shelves o) ∙ ap (line o) roll_is

    own_rights : (o : ℕ) → rights_of (find s.path (shelf_at ss o).queue) ≡ if_some (rights_now s o)
    own_rights o =
        go (touches (t.rights o)) refl
        ∙ ap if_some ((follow proper p ns limit k seats ss notes x (λ q. []) i s at).rights o
        ∙ ap (λ es. rights_after o es (rights_on (task_of s.walker).spec o)) (sym (events_are proper p ns limit k seats ss notes x (λ q. []) i s at)))
      where
        own : find s.path (shelf_at ss o).queue ≡ find t.path (line o (b ++ (t ∷ l)))
        own = ap (find s.path) (rows_at o) ∙ ap (λ q. find q (line o (b ++ (t ∷ l)))) (sym (split_at seats x.state.roll i s x.shown.seated at).sits.path)

        some : (z : Bool) → touches (t.rights o) ≡ z → if_some (t.rights o) ≡ (if z then Some (t.rights o) else None)
        some z q = ap (λ y. if y then Some (t.rights o) else None) (sym (touches_is (t.rights o)) ∙ q)

        go : (z : Bool) → touches (t.rights o) ≡ z → rights_of (find s.path (shelf_at ss o).queue) ≡ if_some (t.rights o)
        go true q = ap rights_of (own ∙ own_found o b l t far_at q) ∙ sym (some true q)
        go false q = ap rights_of (own ∙ no_entry o b l t far_at q) ∙ sym (some false q)

    child_rights : (o : ℕ) (e : Entry) → find (child_path s.path s.children) (shelf_at ss o).queue ≡ Some e → ChildEntry s o e
    child_rights o e h =
        let sits = (split_at seats x.state.roll i s x.shown.seated at).sits in
        let kid : child_path s.path s.children ≡ t.path ++ t.part ∷ [] = ap (λ q. q ++ s.children ∷ []) (sym sits.path) ∙ ap (λ n. t.path ++ n ∷ []) (sym sits.part) in
        let row = kid_entry o b l t far_at e (ap (λ q. find q (line o (b ++ (t ∷ l)))) (sym kid) ∙ ap (find (child_path s.path s.children)) (sym (rows_at o)) ∙ h) in
        record {
          child = record { spec = row.child; course = row.body };
          steps = t.doing.steps;
          before = t.doing.pending;
          later = events row.on t.doing.spec t.doing.plan 0 [];
          next = ap (λ vs. drop s.walker.done (talk (task_of s.walker) vs)) (sym (append-nil s.walker.answers)) ∙ sits.known []
              ∙ ap (λ c. t.doing.pending ++ from_deed c t.doing.spec t.doing.plan t.doing.steps []) row.creates;
          no_deed = quiet_pending t.doing.spec t.doing.plan t.doing.course t.doing.pending t.rights t.held fit_at.orderly;
          rights = row.rights;
        }

  pub entries_have_rights : EntriesHaveRights p ns limit
  entries_have_rights = record {
    own = λ k roll ss notes r i s e. own_rights k roll ss notes (kept proper p ns limit k roll ss notes r) i s e;
    child = λ k roll ss notes r i s e. child_rights k roll ss notes (kept proper p ns limit k roll ss notes r) i s e;
  }
