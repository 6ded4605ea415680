-- Where turn lists are full, some live task can go on in step with them.
use Rattle.std.proofs.Common.{◌≡◌, ◌≢◌, ℕ, zero, suc, ◌<◌, ◌+◌, Bool, true, false, not, ◌||◌, ◌&&◌, List, [], ◌∷◌, ◌++◌, map, length, refl, sym, ap, ◌∙◌, subst, Option, Some, None, arith, append-nil, append_assoc, ◌⊎◌, inl, inr}
use Rattle.std.specs.Prelude.{ℤ, nat_eq, if◌then◌else◌, is_some, is_none, drop}
use Rattle.std.specs.List.{cons_option}
use Rattle.std.proofs.lemmas.Bool.Decides.{eqb_tells}
use Rattle.std.proofs.lemmas.Bool.{ne_eqb, eq-eqb}
use Rattle.jade_base.specs.declared.rights.Right.{Right}
use Rattle.jade_base.specs.declared.rights.Mode.{Mode}
use Rattle.jade_base.specs.declared.rights.Mode.TheVariants.{Reading, Writing, Commuting}
use Rattle.jade_base.specs.Rights.{is_immediate, is_there, same_right}
use Rattle.jade_syntax.specs.declared.tree.Program.{Program}
use Rattle.jade_syntax.specs.Abstract.{AbstractProgram}
use Rattle.jade_syntax.specs.Image.{program}
use Rattle.jade_syntax.specs.Objects.{sizes}
use Rattle.jade_meaning.specs.Course.{Course, Reads, Writes, Steps, Creates, Changes, Ends, root_spec, root_course}
use Rattle.jade_meaning.specs.Doing.{from_deed}
use Rattle.jade_meaning.specs.Laws.{Every}
use Rattle.jade_meaning.specs.Proper.{Proper}
use Rattle.jade_meaning.specs.Serial.{Path, Mark, after, serial, same_path}
use Rattle.jade_meaning.specs.Specification.{numbers, commuting_on}
use Rattle.jade_meaning.specs.Talk.{Event, Enter, Enroll, Take, TouchRead, TouchWrite, Wants, Give, Leave, Shift, Resign, talk}
use Rattle.jade_meaning.specs.Turns.{Member, World, Ran, below, group, named, unnamed, arranged, turn, turns_taken, seen_by, kept_from, settle, settled, settle_all, first, turns_on, marks_by, Full}
use Rattle.jade_meaning.specs.Walk.{upcoming, First, task_of}
use Rattle.jade_meaning.proofs.Filling.{same_path_is, same_self, turns_both}
use Rattle.jade_meaning.proofs.Groups.{every_arranged, every_group, group_of, group_both}
use Rattle.object_shelf.specs.declared.queue.Entry.{Entry}
use Rattle.object_shelf.specs.Shelves.{blocker_in, keeper_in, holder_in, out_for, or_else, conflicts}
use Rattle.object_shelf.specs.Views.{ObjectView}
use Rattle.task_roll.specs.declared.note.PartNote.{PartNote}
use Rattle.schedule_core.specs.declared.steps.Seat.{Seat}
use Rattle.schedule_core.specs.Core.{Cells, changes, touches, is_out, allows}
use Rattle.schedule_core.specs.Going.{Small, to_come, world_of}
use Rattle.schedule_core.specs.Onwards.{sees, sited, onwards, onwards_all}
use Rattle.schedule_core.specs.Plain.{free_in, any_free}
use Rattle.schedule_core.specs.Remains.{turns_among}
use Rattle.schedule_core.specs.Serially.{Begins}
use Rattle.schedule_core.specs.Shown.{Sits, Seated, slot, slots, born_slots, line, shelf_at}
use Rattle.schedule_core.specs.Sound.{Fit, Orderly, OwnLast, Has, Pairs, Before, settling, awaits, left_from, may}
use Rattle.schedule_core.specs.Soundness.{and_then, turns_of}
use Rattle.schedule_core.specs.Unplaced.{Live}
use Rattle.schedule_core.proofs.Acts.{own_only}
use Rattle.schedule_core.proofs.Alone.{mode_may}
use Rattle.schedule_core.proofs.Calm.{mode_commutes, awaits_right}
use Rattle.schedule_core.proofs.Changing.{may_some}
use Rattle.schedule_core.proofs.Lines.{every_append, every_front, every_back, pairs_back}
use Rattle.schedule_core.proofs.Located.{going, turns_are}
use Rattle.schedule_core.proofs.Mirrors.{TidyLive, Kept, kept, seated_nil, blocker_own}
use Rattle.schedule_core.proofs.Opens.{empty_ran}
use Rattle.schedule_core.proofs.Pairs.{every_m}
use Rattle.schedule_core.proofs.Queues.{Unentered}
use Rattle.schedule_core.proofs.Reporting.{turns_at}
use Rattle.schedule_core.proofs.Showing.{blocked_is, line_both}
use Rattle.schedule_core.proofs.Stuck.{holder_both, born_out, slot_home, Out, home, out, out_of, none_waits, seat_of}
use Rattle.schedule_core.proofs.Waits.{Waiting}
use Rattle.schedule_core.proofs.Whole.{settle_none}
use Rattle.core_laws.specs.FullListsGoOn.{GoesInStep, FullListsGoOn}

clash : {A : Type 0} (b : Bool) → b ≡ true → b ≡ false → A
clash b e f = absurd (let z : true ≡ false = sym e ∙ f in cc)

-- the first of an arrangement
record Some_of (ms : List Member) : Type 0 where
  head : Member
  tail : List Member
  is : ms ≡ head ∷ tail

unnamed_same : (p : Path) (ms : List Member) → named p ms ≡ [] → unnamed p ms ≡ ms
unnamed_same p [] h = refl
unnamed_same p (m ∷ ms) h = go (same_path m.path p) h (λ e. unnamed_same p ms e)
  where
    go : (b : Bool) → (if b then m ∷ [] else named p ms) ≡ [] → (named p ms ≡ [] → unnamed p ms ≡ ms) → (if b then ms else m ∷ unnamed p ms) ≡ m ∷ ms
    go true h k = absurd (cc)
    go false h k = ap (λ z. m ∷ z) (k h)

arranged_some : (ts : List Path) (m : Member) (g : List Member) → Some_of (arranged ts (m ∷ g))
arranged_some [] m g = record { head = m; tail = g; is = refl }
arranged_some (t ∷ ts) m g = go (named t (m ∷ g)) refl (arranged_some ts m g)
  where
    go : (xs : List Member) → named t (m ∷ g) ≡ xs → Some_of (arranged ts (m ∷ g)) → Some_of (named t (m ∷ g) ++ arranged ts (unnamed t (m ∷ g)))
    go [] e r = record {
      head = r.head;
      tail = r.tail;
      is = ap (λ z. z ++ arranged ts (unnamed t (m ∷ g))) e ∙ ap (arranged ts) (unnamed_same t (m ∷ g) e) ∙ r.is;
    }
    go (x ∷ xs) e r =
        record { head = x; tail = xs ++ arranged ts (unnamed t (m ∷ g)); is = ap (λ z. z ++ arranged ts (unnamed t (m ∷ g))) e }

-- the turn of a member does not come next on its object
record NotNext (t : ℕ → List Path) (m : Member) : Type 0 where
  not : (more : List Path) → t m.object ≡ m.path ∷ more → ⊥

numbers_have : (n a i : ℕ) → i < n → Has (a + i) (numbers a n)
numbers_have zero a i lt = absurd (omega (arith, lt))
numbers_have (suc n) a zero lt = inl (let z : a ≡ a + 0 = omega arith in z)
numbers_have (suc n) a (suc i) lt =
    let z : suc a + i ≡ a + suc i = omega arith in
    inr (subst (λ j. Has j (numbers (suc a) n)) z (numbers_have n (suc a) i (omega (arith, lt))))

-- No group whose members all do not come next is settled, since the lists name what is to come.
module _ (t : ℕ → List Path) where
  settles_not : (x : ℕ) (v : World) (rest : List Mark) → Every (NotNext t) v.waiting → (group x v.waiting ≡ [] → ⊥)
      → ((o : ℕ) → t o ≡ turns_on o (settle t x v ++ rest)) → ⊥
  settles_not x v rest none some all = go (group x v.waiting) refl
    where
      takes : (m : Member) (ms : List Member) → m.object ≡ x → NotNext t m → arranged (t x) (group x v.waiting) ≡ m ∷ ms → ⊥
      takes m ms of n order =
          let body = map (below m.path) (serial m.course 0 m.steps (seen_by m v.store)) in
          let later = (body ++ turns_taken ms (after (turn m v.store) v.store)) ++ rest in
          n.not (turns_on x later) (ap t of ∙ all x ∙ ap (λ z. turns_on x (turns_taken z v.store ++ rest)) order
          ∙ ap (λ b. cons_option (if b then Some m.path else None) (turns_on x later)) (eq-eqb m.object x of))

      go : (g : List Member) → group x v.waiting ≡ g → ⊥
      go [] e = some e
      go (m ∷ g) e =
          let a = arranged_some (t x) m g in
          let order : arranged (t x) (group x v.waiting) ≡ a.head ∷ a.tail = ap (arranged (t x)) e ∙ a.is in
          let of = every_arranged (λ q. q.object ≡ x) (t x) (group x v.waiting) (group_of x v.waiting) in
          let strange = every_arranged (NotNext t) (t x) (group x v.waiting) (every_group (NotNext t) x v.waiting none) in
          takes a.head a.tail (subst (Every (λ q. q.object ≡ x)) order of).0 (subst (Every (NotNext t)) order strange).0 order

  all_settle_not : (os : List ℕ) (w : World) (y : ℕ) → Has y os → (group y w.waiting ≡ [] → ⊥) → Every (NotNext t) w.waiting
      → ((o : ℕ) → t o ≡ turns_on o (settle_all t os w).marks) → ⊥
  all_settle_not [] w y h some none all = h
  all_settle_not (x ∷ os) w y h some none all = go (group x w.waiting) refl (λ i a. all_settle_not os w y i some none a)
    where
      go : (g : List Member) → group x w.waiting ≡ g → (Has y os → ((o : ℕ) → t o ≡ turns_on o (settle_all t os w).marks) → ⊥) → ⊥
      go (m ∷ g) e k =
          settles_not x w (settle_all t os (settled t x w)).marks none (λ n. absurd (let z : m ∷ g ≡ [] = sym e ∙ n in cc)) all
      go [] e k = by h
        where
          by : (x ≡ y) ⊎ Has y os → ⊥
          by (inl i) = some (subst (λ z. group z w.waiting ≡ []) i e)
          by (inr i) = k i (λ o. all o ∙ ap (λ (r : Ran). turns_on o (first r.marks (settle_all t os r.world)).marks) (empty_ran t x w e))

-- A task that waits for its turn as its next event.
module _ (d : Live) (fit : Fit d) (y : ℕ) (later : List Event) (next : d.doing.pending ≡ Take y Commuting ∷ later) where
  turn_awaited : awaits d.doing.pending ≡ Some y
  turn_awaited = ap awaits next

  nothing_settled : settling d.doing.pending ≡ []
  nothing_settled = ap settling next ∙ (subst OwnLast next fit.own_last).0

  -- it has no content
  waits_home : (o : ℕ) → is_out (d.held o) ≡ false
  waits_home o = go (d.held o) refl (fit.holds o)
    where
      go : (m : Option Mode) → d.held o ≡ m → may m (d.rights o) ≡ true → is_out m ≡ false
      go None e h = refl
      go (Some Reading) e h = refl
      go (Some Writing) e h = clash (is_there (d.rights o).writes) h ((fit.begun y turn_awaited).3 o)
      go (Some Commuting) e h = absurd (let z : Some y ≡ None = sym turn_awaited ∙ (fit.last o e).1 in cc)

  -- and has only read what is not its own
  others_read : (o : ℕ) → y ≢ o
      → (changes (d.rights o) ≡ false) × (not (is_there (d.rights o).reads) || is_some (d.versions o) ≡ true) × (is_there (d.rights o).writes ≡ false)
  others_read o ne =
      go (d.rights o).reads refl (is_there (d.rights o).writes) (is_there (d.rights o).commutes)
      (subst (λ b. (if b then not (is_there (d.rights o).reads) && not (is_there (d.rights o).writes) && is_immediate (d.rights o).commutes
      else (not (same_right (d.rights o).reads Right.Deferred) && not (is_there (d.rights o).writes) && not (is_there (d.rights o).commutes))) ≡ true) (ne_eqb y o ne)
      ((fit.begun y turn_awaited).4 o))
    where
      seen : is_immediate (d.rights o).reads ≡ true → is_some (d.versions o) ≡ true
      seen e = by (fit.reads o y turn_awaited e)
        where
          by : Has o (settling d.doing.pending) ⊎ (is_some (d.versions o) ≡ true) → is_some (d.versions o) ≡ true
          by (inl h) = absurd (subst (Has o) nothing_settled h)
          by (inr h) = h

      go : (r : Right) → (d.rights o).reads ≡ r → (w c : Bool) → not (same_right r Right.Deferred) && not w && not c ≡ true
          → (w || c ≡ false) × (not (is_there r) || is_some (d.versions o) ≡ true) × (w ≡ false)
      go Right.Deferred e w c h = absurd (cc)
      go Right.Absent e false false h = (refl, refl, refl)
      go Right.Absent e false true h = absurd (cc)
      go Right.Absent e true c h = absurd (cc)
      go Right.Immediate e false false h = (refl, seen (ap is_immediate e), refl)
      go Right.Immediate e false true h = absurd (cc)
      go Right.Immediate e true c h = absurd (cc)

  -- so it keeps nobody from any object, but from reading and writing its own
  waits_allows : (o : ℕ) (m : Mode) → (y ≡ o → m ≡ Commuting) → allows o m d ≡ true
  waits_allows o m own = go (eqb_tells y o) m own
    where
      both : (c r v : Bool) → c ≡ false → not r || v ≡ true → not c && (not r || v) ≡ true
      both true r v e h = absurd (cc)
      both false r v e h = h

      three : (r w v c : Bool) → c ≡ false → not r || v ≡ true → w ≡ false → not (r || w) || (v && not c) ≡ true
      three r w v true e h k = absurd (cc)
      three r true v false e h k = absurd (cc)
      three false false v false e h k = refl
      three true false true false e h k = refl
      three true false false false e h k = absurd (cc)

      only : (r w c z : Bool) → not r && not w && c ≡ true → not (r || w) || z ≡ true
      only false false c z h = refl
      only false true c z h = absurd (cc)
      only true w c z h = absurd (cc)

      go : ((nat_eq y o ≡ true) × (y ≡ o)) ⊎ ((nat_eq y o ≡ false) × (y ≢ o)) → (n : Mode) → (y ≡ o → n ≡ Commuting) → allows o n d ≡ true
      go (inr e) Reading k = ap not (others_read o e.1).0
      go (inr e) Writing k =
          both (changes (d.rights o)) (is_there (d.rights o).reads) (is_some (d.versions o)) (others_read o e.1).0 (others_read o e.1).1
      go (inr e) Commuting k =
          three (is_there (d.rights o).reads) (is_there (d.rights o).writes) (is_some (d.versions o)) (changes (d.rights o)) (others_read o e.1).0 (others_read o e.1).1 (others_read o e.1).2
      go (inl e) Reading k = absurd (let z : Reading ≡ Commuting = k e.1 in cc)
      go (inl e) Writing k = absurd (let z : Writing ≡ Commuting = k e.1 in cc)
      go (inl e) Commuting k =
          only (is_there (d.rights o).reads) (is_there (d.rights o).writes) (is_immediate (d.rights o).commutes) (is_some (d.versions o) && not (changes (d.rights o)))
          (subst (λ b. (if b then not (is_there (d.rights o).reads) && not (is_there (d.rights o).writes) && is_immediate (d.rights o).commutes
          else (not (same_right (d.rights o).reads Right.Deferred) && not (is_there (d.rights o).writes) && not (is_there (d.rights o).commutes))) ≡ true) e.0
          ((fit.begun y turn_awaited).4 o))

-- its entry does not conflict
calm_slot : (o : ℕ) (m : Mode) (s : Live) → allows o m s ≡ true → Every (λ e. conflicts m e ≡ false) (slot s.path (s.rights o) (s.held o) (s.versions o))
calm_slot o m s h = go (touches (s.rights o)) m h
  where
    flip : (b : Bool) → not b ≡ true → b ≡ false
    flip true e = absurd (cc)
    flip false e = refl

    shared : (c r : Bool) (v : Option Cells) → not c && (not r || is_some v) ≡ true → c || (r && is_none v) ≡ false
    shared true r v e = absurd (cc)
    shared false false v e = refl
    shared false true None e = absurd (cc)
    shared false true (Some xs) e = refl

    alone : (x k : Bool) (v : Option Cells) → not x || (is_some v && not k) ≡ true → x && (k || is_none v) ≡ false
    alone false k v e = refl
    alone true true None e = absurd (cc)
    alone true true (Some xs) e = absurd (cc)
    alone true false None e = absurd (cc)
    alone true false (Some xs) e = refl

    go : (b : Bool) (n : Mode) → allows o n s ≡ true
        → Every (λ e. conflicts n e ≡ false) (if b then record { path = s.path; rights = s.rights o; hold = s.held o; version = s.versions o } ∷ [] else [])
    go false n h = tt
    go true Reading h = (flip (changes (s.rights o)) h, tt)
    go true Writing h = (shared (changes (s.rights o)) (is_there (s.rights o).reads) (s.versions o) h, tt)
    go true Commuting h = (alone (is_there (s.rights o).reads || is_there (s.rights o).writes) (changes (s.rights o)) (s.versions o) h, tt)

-- entries that do not conflict are passed
past_calm : (p : Path) (m : Mode) (es fs : List Entry) → Every (λ e. conflicts m e ≡ false) es → blocker_in p m fs ≡ None → blocker_in p m (es ++ fs) ≡ None
past_calm p m [] fs h n = n
past_calm p m (e ∷ es) fs h n = go (same_path e.path p) (conflicts m e) h.0 (past_calm p m es fs h.1 n)
  where
    go : (a b : Bool) → b ≡ false → blocker_in p m (es ++ fs) ≡ None → (if a then None else (if b then Some e else blocker_in p m (es ++ fs))) ≡ None
    go true b k r = refl
    go false true k r = absurd (cc)
    go false false k r = r

-- A task that waits for its turn on an object, among these members.
record Waits (ms : List Member) (d : Live) : Type 0 where
  object : ℕ
  later : List Event
  next : d.doing.pending ≡ Take object Commuting ∷ later
  among : group object ms ≡ [] → ⊥

calm_line : (ms : List Member) (o : ℕ) (m : Mode) → ((y : ℕ) → (group y ms ≡ [] → ⊥) → y ≡ o → m ≡ Commuting) → (b : List Live) → Every (Waits ms) b
    → Every Fit b → Every TidyLive b → Every (λ e. conflicts m e ≡ false) (line o b)
calm_line ms o m own [] w f t = tt
calm_line ms o m own (d ∷ b) w f t =
    every_append (λ e. conflicts m e ≡ false) (slots o d) (line o b)
    (subst (Every (λ e. conflicts m e ≡ false)) (sym (own_only o d unentered))
    (calm_slot o m d (waits_allows d f.0 w.0.object w.0.later w.0.next o m (own w.0.object w.0.among)))) (calm_line ms o m own b w.1 f.1 t.1)
  where
    unentered : Unentered d.doing.course d.doing.pending o
    unentered = subst (λ z. Unentered d.doing.course z o) (sym w.0.next) ((subst (Waiting d.doing.course) w.0.next t.0.waits).0 o)

-- nor has anybody who waits the content
home_slots : (o : ℕ) (u : Live) → is_out (u.held o) ≡ false → (fs : List Entry) → holder_in (slots o u ++ fs) ≡ holder_in fs
home_slots o u e fs =
    by (born_slots u.doing.course o u) (born_out u.doing.course o u)
    ∙ holder_both (slot u.path (u.rights o) (u.held o) (u.versions o)) fs (slot_home u.path (u.rights o) (u.held o) (u.versions o) e)
  where
    by : (es : List Entry) → holder_in es ≡ None → holder_in ((es ++ slot u.path (u.rights o) (u.held o) (u.versions o)) ++ fs)
        ≡ holder_in (slot u.path (u.rights o) (u.held o) (u.versions o) ++ fs)
    by es e = ap holder_in (append_assoc es (slot u.path (u.rights o) (u.held o) (u.versions o)) fs) ∙ holder_both es _ e

home_line : (ms : List Member) (o : ℕ) (b : List Live) → Every (Waits ms) b → Every Fit b → (fs : List Entry) → holder_in (line o b ++ fs) ≡ holder_in fs
home_line ms o [] w f fs = refl
home_line ms o (d ∷ b) w f fs =
    ap holder_in (append_assoc (slots o d) (line o b) fs) ∙ home_slots o d (waits_home d f.0 w.0.object w.0.later w.0.next o) (line o b ++ fs)
    ∙ home_line ms o b w.1 f.1 fs

-- one more member
waits_more : (ms : List Member) (m : Member) (b : List Live) → Every (Waits ms) b → Every (Waits (ms ++ m ∷ [])) b
waits_more ms m [] h = tt
waits_more ms m (d ∷ b) h =
    (record { object = h.0.object; later = h.0.later; next = h.0.next; among = λ n. h.0.among (front _ _ (sym (group_both h.0.object ms (m ∷ [])) ∙ n)) }, waits_more ms m b h.1)
  where
    front : (xs ys : List Member) → xs ++ ys ≡ [] → xs ≡ []
    front [] ys e = refl
    front (x ∷ xs) ys e = absurd (cc)

-- the turn comes next, or not
names : (ts : List Path) (q : Path) → Begins ts (q ∷ []) ⊎ ((more : List Path) → ts ≡ q ∷ more → ⊥)
names [] q = inr (λ more e. absurd (cc))
names (p ∷ ts) q = go (same_path p q) refl
  where
    head_is : (more : List Path) → ◌≡◌ {A = List Path} (p ∷ ts) (q ∷ more) → p ≡ q
    head_is more e = cc

    go : (b : Bool) → same_path p q ≡ b → Begins (p ∷ ts) (q ∷ []) ⊎ ((more : List Path) → p ∷ ts ≡ q ∷ more → ⊥)
    go true e = inl (record { rest = ts; is = ap (λ z. z ∷ ts) (same_path_is p q e) })
    go false e = inr (λ more i. clash (same_path p q) (subst (λ z. same_path p z ≡ true) (head_is more i) (same_self p)) e)

-- what a task does next
abbrev deed : Live → List Event
deed u = from_deed u.doing.course u.doing.spec u.doing.plan u.doing.steps []

coming : (s : Seat) (u : Live) → Sits s u → upcoming s.walker ≡ u.doing.pending ++ deed u
coming s u h = ap (λ vs. drop s.walker.done (talk (task_of s.walker) vs)) (sym (append-nil s.walker.answers)) ∙ h.known []

free_first : (es : List Event) (p : Path) (ss : List ObjectView) → First es (λ e. free_in e p ss ≡ true) → any_free es p ss ≡ true
free_first [] p ss h = absurd h
free_first (e ∷ es) p ss h = h

-- a deed is no turn
deed_no_turn : (c : Course) (u : Live) (x : ℕ) → First (from_deed c u.doing.spec u.doing.plan u.doing.steps []) (λ e. e ≡ Take x Commuting) → ⊥
deed_no_turn (Reads o c on) u x h = absurd (cc)
deed_no_turn (Writes o c v on) u x h = absurd (cc)
deed_no_turn (Creates child body on) u x h = absurd (cc)
deed_no_turn (Ends b) u x h = absurd (cc)
deed_no_turn (Steps on) u x h = h
deed_no_turn (Changes new on) u x h = h

-- nor is what a task does next that waits for none
no_turn : (u : Live) (es : List Event) → awaits es ≡ None → (x : ℕ) → First (es ++ deed u) (λ e. e ≡ Take x Commuting) → ⊥
no_turn u [] a x h = deed_no_turn u.doing.course u x h
no_turn u (Take o Reading ∷ es) a x h = absurd (cc)
no_turn u (Take o Writing ∷ es) a x h = absurd (cc)
no_turn u (Take o Commuting ∷ es) a x h = absurd (let z : Some o ≡ None = a in cc)
no_turn u (Give o ∷ es) a x h = absurd (cc)
no_turn u (Enter o r ∷ es) a x h = absurd (cc)
no_turn u (Shift o r ∷ es) a x h = absurd (cc)
no_turn u (Leave o ∷ es) a x h = absurd (cc)
no_turn u (Enroll k n ∷ es) a x h = absurd (cc)
no_turn u (TouchRead o c v ∷ es) a x h = absurd (cc)
no_turn u (TouchWrite o c v ∷ es) a x h = absurd (cc)
no_turn u (Wants o c ∷ es) a x h = absurd (cc)
no_turn u (Resign b n ∷ es) a x h = absurd (cc)

not_nil : {A : Type 0} (xs : List A) (x : A) → xs ++ x ∷ [] ≡ [] → ⊥
not_nil [] x e = absurd (cc)
not_nil (y ∷ xs) x e = absurd (cc)

four : (x a b c d : List Mark) → (((x ++ a) ++ b) ++ c) ++ d ≡ x ++ (((a ++ b) ++ c) ++ d)
four x a b c d = ap (λ z. (z ++ c) ++ d) (append_assoc x a b) ∙ ap (λ z. z ++ d) (append_assoc x (a ++ b) c) ∙ append_assoc x ((a ++ b) ++ c) d

-- The roll from its front on: whoever waits for a turn that does not come next is passed, and the first other task can go on, or whoever has the
-- content that it is to take.
module _ (t : ℕ → List Path) (size : ℕ) (seats : List Seat) (ss : List ObjectView) (roll : List Live) (f : ℕ → Cells) (T : ℕ → List Path)
    (sits : Seated seats roll) (fits : Every Fit roll) (small : Every (Small size) roll) (befores : (o : ℕ) → Pairs (Before o) roll)
    (tidy : Every TidyLive roll) (shelves : (q : ℕ) → shelf_at ss q ≡ record { queue = line q roll; content = f q; turns = T q }) where
  module _ (b l : List Live) (c : Live) (w : World) (is : roll ≡ b ++ (c ∷ l)) (waits : Every (Waits w.waiting) b) (none : Every (NotNext t) w.waiting)
      (all : (o : ℕ) → t o ≡ turns_on o (onwards_all t (numbers 0 size) (c ∷ l) w).marks) where
    fits_here : Every Fit (b ++ (c ∷ l))
    fits_here = subst (Every Fit) is fits

    tidy_here : Every TidyLive (b ++ (c ∷ l))
    tidy_here = subst (Every TidyLive) is tidy

    fit : Fit c
    fit = every_m Fit b l c fits_here

    order : (es : List Event) → c.doing.pending ≡ es → Orderly c.doing.spec c.doing.plan c.doing.course es c.rights c.held
    order es e = subst (λ z. Orderly c.doing.spec c.doing.plan c.doing.course z c.rights c.held) e fit.orderly

    calm : (o : ℕ) (m : Mode) → ((y : ℕ) → (group y w.waiting ≡ [] → ⊥) → y ≡ o → m ≡ Commuting) → Every (λ e. conflicts m e ≡ false) (line o b)
    calm o m own = calm_line w.waiting o m own b waits (every_front Fit b (c ∷ l) fits_here) (every_front TidyLive b (c ∷ l) tidy_here)

    -- the entry that keeps it from a hold: that of the task that has the content, if it is to take it for commuting
    keeper : (o : ℕ) (m : Mode) (es : List Event) → c.doing.pending ≡ Take o m ∷ es → Every (λ e. conflicts m e ≡ false) (line o b)
        → keeper_in c.path m (shelf_at ss o).queue ≡ out_for m (line o b ++ (slots o c ++ line o l))
    keeper o m es e still =
        let touched = may_some (Some m) (c.rights o) refl (mode_may (c.rights o) m (order (Take o m ∷ es) e).1) in
        let mine : blocker_in c.path m (slots o c ++ line o l) ≡ None = ap (λ z. blocker_in c.path m (z ++ line o l)) (own_only o c unentered)
        ∙ blocker_own c.path m (c.rights o) (c.held o) (c.versions o) (line o l) touched in
        ap (λ (z : ObjectView). keeper_in c.path m z.queue) (shelves o) ∙ ap (keeper_in c.path m) (ap (line o) is ∙ line_both o b (c ∷ l))
        ∙ ap (λ z. or_else z (out_for m (line o b ++ (slots o c ++ line o l)))) (past_calm c.path m (line o b) (slots o c ++ line o l) still mine)
      where
        unentered : Unentered c.doing.course c.doing.pending o
        unentered = subst (λ z. Unentered c.doing.course z o) (sym e) ((subst (Waiting c.doing.course) e (every_m TidyLive b l c tidy_here).waits).0 o)

    free_take : (o : ℕ) (m : Mode) → keeper_in c.path m (shelf_at ss o).queue ≡ None → free_in (Take o m) c.path ss ≡ true
    free_take o m e = ap is_none (blocked_is o c.path m ss ∙ e)

    -- it goes on
    goes : (es : List Event) → c.doing.pending ≡ es → First (es ++ deed c) (λ e. free_in e c.path ss ≡ true)
        → ((x : ℕ) → First (es ++ deed c) (λ e. e ≡ Take x Commuting) → Begins (t x) (c.path ∷ [])) → GoesInStep seats ss t
    goes es e free turn =
        let k = seat_of seats b l c (subst (Seated seats) is sits) in
        let come = coming k.seat c k.sits ∙ ap (λ z. z ++ deed c) e in
        record {
          place = k.place;
          seat = k.seat;
          live = k.here;
          free = free_first (upcoming k.seat.walker) k.seat.path ss
              (subst (λ z. First z (λ e. free_in e k.seat.path ss ≡ true)) (sym come) (subst (λ q. First (es ++ deed c) (λ e. free_in e q ss ≡ true)) k.sits.path free));
          turn = λ x h. subst (λ q. Begins (t x) (q ∷ [])) k.sits.path (turn x (subst (λ z. First z (λ e. e ≡ Take x Commuting)) come h));
        }

    plain : (es : List Event) → c.doing.pending ≡ es → First (es ++ deed c) (λ e. free_in e c.path ss ≡ true) → awaits es ≡ None → GoesInStep seats ss t
    plain es e free a = goes es e free (λ x h. absurd (no_turn c es a x h))

    by_course : (d : Course) → Orderly c.doing.spec c.doing.plan d [] c.rights c.held
        → First (from_deed d c.doing.spec c.doing.plan c.doing.steps []) (λ e. free_in e c.path ss ≡ true)
    by_course (Reads o x on) g = refl
    by_course (Writes o x v on) g = refl
    by_course (Creates child body on) g = refl
    by_course (Ends x) g = refl
    by_course (Steps on) g = absurd g.1
    by_course (Changes new on) g = absurd g.1

    -- what is to come, by what is left of this task
    abbrev place : World
    place = record { store = sees c 0 w.store; waiting = w.waiting }

    abbrev left_by : List ℕ → Option ℕ → Ran
    left_by os a = let s = settle_all t os place in first s.marks (left_from t a (commuting_on c.doing.spec) (sited c w) s.world)

    abbrev world_then : Ran → World
    world_then r = record { store = after r.marks w.store; waiting = r.world.waiting }

    abbrev marks_then : Ran → List Mark
    marks_then r = (r.marks ++ (onwards t l (world_then r)).marks) ++ (settle_all t (numbers 0 size) (onwards t l (world_then r)).world).marks

    -- to read or to write an object: nobody waits there
    touches_it : (o : ℕ) (m : Mode) (es : List Event) → c.doing.pending ≡ Take o m ∷ es → settling (Take o m ∷ es) ≡ o ∷ settling es
        → ((xs : List Entry) → out_for m xs ≡ None) → ((x : ℕ) → Take o m ≡ Take x Commuting → ⊥) → GoesInStep seats ss t
    touches_it o m es e settles at_home other = go (group o w.waiting) refl
      where
        go : (g : List Member) → group o w.waiting ≡ g → GoesInStep seats ss t
        go [] q =
            goes (Take o m ∷ es) e
            (free_take o m (keeper o m es e (calm o m (λ y some i. absurd (some (subst (λ z. group z w.waiting ≡ []) (sym i) q)))) ∙ at_home (line o b ++ (slots o c ++ line o l))))
            (λ x h. absurd (other x h))
        go (n ∷ g) q =
            let a = awaits c.doing.pending in
            let r = left_by (o ∷ settling es) a in
            let s = settle_all t (settling es) (settled t o place) in
            let own = (left_from t a (commuting_on c.doing.spec) (sited c w) s.world).marks in
            let next = (onwards t l (world_then r)).marks in
            let last = (settle_all t (numbers 0 size) (onwards t l (world_then r)).world).marks in
            absurd (settles_not t o place (((s.marks ++ own) ++ next) ++ last) none (λ i. absurd (let z : n ∷ g ≡ [] = sym q ∙ i in cc))
            (λ x. all x ∙ ap (λ os. turns_on x (marks_then (left_by os a))) (ap settling e ∙ settles)
            ∙ ap (turns_on x) (four (settle t o place) s.marks own next last)))

    -- a turn
    module _ (k : (v : World) → Every (Waits v.waiting) (b ++ c ∷ []) → Every (NotNext t) v.waiting
        → ((o : ℕ) → t o ≡ turns_on o (onwards_all t (numbers 0 size) l v).marks) → GoesInStep seats ss t) (o : ℕ) (es : List Event)
        (e : c.doing.pending ≡ Take o Commuting ∷ es) where
      -- of another: it waits
      waits_too : ((more : List Path) → t o ≡ c.path ∷ more → ⊥) → GoesInStep seats ss t
      waits_too later =
          k (record { store = w.store; waiting = w.waiting ++ m ∷ [] })
          (every_append (Waits (w.waiting ++ m ∷ [])) b (c ∷ []) (waits_more w.waiting m b waits) (record { object = o; later = es; next = e; among = among }, tt))
          (every_append (NotNext t) w.waiting (m ∷ []) none (record { not = later }, tt))
          (λ x. all x ∙ ap (λ os. turns_on x (marks_then (left_by os (awaits c.doing.pending)))) (nothing_settled c fit o es e)
          ∙ ap (λ a. turns_on x (marks_then (left_by [] a))) (turn_awaited c fit o es e))
        where
          m : Member
          m = record { path = c.path; object = o; course = c.doing.course; steps = c.doing.steps; kept = kept_from 0 c.rights (sees c 0 w.store) }

          among : group o (w.waiting ++ m ∷ []) ≡ [] → ⊥
          among n =
              not_nil (group o w.waiting) m (ap (λ x. group o w.waiting ++ (if x then m ∷ [] else [])) (sym (eq-eqb o o refl)) ∙ sym (group_both o w.waiting (m ∷ [])) ∙ n)

      -- its own: it takes it, or whoever has the content goes on
      takes_it : Begins (t o) (c.path ∷ []) → GoesInStep seats ss t
      takes_it next = go (out_of o l (every_back Fit b (c ∷ l) fits_here).1)
        where
          same : (x : ℕ) → Take o Commuting ≡ Take x Commuting → o ≡ x
          same x i = cc

          mine : is_there (c.rights o).commutes ≡ true
          mine = mode_commutes (c.rights o) (order (Take o Commuting ∷ es) e).1

          commutes : (u : Live) → Before o c u → (m : Option Mode) → u.held o ≡ m → is_out m ≡ true → u.held o ≡ Some Commuting
          commutes u k None i j = absurd (cc)
          commutes u k (Some Reading) i j = absurd (cc)
          commutes u k (Some Commuting) i j = i
          commutes u k (Some Writing) i j =
              absurd (no_quiet (is_there (c.rights o).writes) (is_there (c.rights o).commutes) (is_there (c.rights o).reads) (is_some (c.versions o)) mine (k.writing i))
            where
              no_quiet : (w x r v : Bool) → x ≡ true → not (w || x) && (not r || v) ≡ true → ⊥
              no_quiet true true r v e h = absurd (cc)
              no_quiet false true r v e h = absurd (cc)
              no_quiet w false r v e h = absurd (cc)

          go : Out o l → GoesInStep seats ss t
          go (home h) =
              goes (Take o Commuting ∷ es) e
              (free_take o Commuting (keeper o Commuting es e (calm o Commuting (λ y some i. refl))
              ∙ home_line w.waiting o b waits (every_front Fit b (c ∷ l) fits_here) (slots o c ++ line o l)
              ∙ home_slots o c (ap is_out (order (Take o Commuting ∷ es) e).0) (line o l) ∙ h))
              (λ x h. subst (λ z. Begins (t z) (c.path ∷ [])) (same x h) next)
          go (out d r u i j h) =
              let fit_u = every_m Fit d r u (subst (Every Fit) i (every_back Fit b (c ∷ l) fits_here).1) in
              let before = every_m (Before o c) d r u (subst (Every (Before o c)) i (pairs_back (Before o) b c l (subst (Pairs (Before o)) is (befores o)))) in
              let holds = commutes u before (u.held o) refl j in
              let whole : roll ≡ (b ++ (c ∷ d)) ++ (u ∷ r) = is ∙ ap (λ z. b ++ (c ∷ z)) i ∙ sym (append_assoc b (c ∷ d) (u ∷ r)) in
              let s = seat_of seats (b ++ (c ∷ d)) r u (subst (Seated seats) whole sits) in
              record {
                place = s.place;
                seat = s.seat;
                live = s.here;
                free = free_first (upcoming s.seat.walker) s.seat.path ss (none_waits u s.seat ss o s.sits fit_u holds);
                turn = λ x h. absurd (no_turn u u.doing.pending (fit_u.last o holds).1 x (subst (λ z. First z (λ e. e ≡ Take x Commuting)) (coming s.seat u s.sits) h));
              }

      turn_here : GoesInStep seats ss t
      turn_here = by (names (t o) c.path)
        where
          by : Begins (t o) (c.path ∷ []) ⊎ ((more : List Path) → t o ≡ c.path ∷ more → ⊥) → GoesInStep seats ss t
          by (inl h) = takes_it h
          by (inr h) = waits_too h

    here : ((v : World) → Every (Waits v.waiting) (b ++ c ∷ []) → Every (NotNext t) v.waiting
        → ((o : ℕ) → t o ≡ turns_on o (onwards_all t (numbers 0 size) l v).marks) → GoesInStep seats ss t) → (es : List Event) → c.doing.pending ≡ es → GoesInStep seats ss t
    here k [] e = plain [] e (by_course c.doing.course (order [] e)) refl
    here k (Take o Reading ∷ es) e = touches_it o Reading es e refl (λ xs. refl) (λ x h. absurd (cc))
    here k (Take o Writing ∷ es) e = touches_it o Writing es e refl (λ xs. refl) (λ x h. absurd (cc))
    here k (Take o Commuting ∷ es) e = turn_here k o es e
    here k (Give o ∷ es) e = goes (Give o ∷ es) e refl (λ x h. absurd (cc))
    here k (Enter o r ∷ es) e = goes (Enter o r ∷ es) e refl (λ x h. absurd (cc))
    here k (Shift o r ∷ es) e = goes (Shift o r ∷ es) e refl (λ x h. absurd (cc))
    here k (Leave o ∷ es) e = goes (Leave o ∷ es) e refl (λ x h. absurd (cc))
    here k (Enroll x n ∷ es) e = goes (Enroll x n ∷ es) e refl (λ x h. absurd (cc))
    here k (TouchRead o x v ∷ es) e = goes (TouchRead o x v ∷ es) e refl (λ x h. absurd (cc))
    here k (TouchWrite o x v ∷ es) e = goes (TouchWrite o x v ∷ es) e refl (λ x h. absurd (cc))
    here k (Wants o x ∷ es) e = goes (Wants o x ∷ es) e refl (λ x h. absurd (cc))
    here k (Resign x n ∷ es) e = goes (Resign x n ∷ es) e refl (λ x h. absurd (cc))

  -- at the end of the roll all would wait
  inside : (d : Live) (b : List Live) → roll ≡ d ∷ b → (y : ℕ) → awaits d.doing.pending ≡ Some y → Has y (numbers 0 size)
  inside d b is y a =
      let fit = (subst (Every Fit) is fits).0 in
      let commutes = awaits_right d.doing.spec d.doing.plan d.doing.course d.doing.pending d.rights d.held y fit.orderly a in
      let z : 0 + y ≡ y = omega arith in
      subst (λ i. Has i (numbers 0 size)) z
      (numbers_have size 0 y ((subst (Every (Small size)) is small).0.rights y (some (is_there (d.rights y).reads) (is_there (d.rights y).writes) (is_there (d.rights y).commutes) commutes)))
    where
      some : (r w c : Bool) → c ≡ true → r || w || c ≡ true
      some r w false e = absurd (cc)
      some true w true e = refl
      some false true true e = refl
      some false false true e = refl

  walk : (b us : List Live) (w : World) → roll ≡ b ++ us → Every (Waits w.waiting) b → Every (NotNext t) w.waiting
      → ((o : ℕ) → t o ≡ turns_on o (onwards_all t (numbers 0 size) us w).marks) → (b ≡ [] → us ≡ [] → ⊥) → GoesInStep seats ss t
  walk b (c ∷ l) w is waits none all some =
      here b l c w is waits none all (λ v x y z. walk (b ++ c ∷ []) l v (is ∙ sym (append_assoc b (c ∷ []) l)) x y z (λ e i. not_nil b c e)) c.doing.pending refl
  walk [] [] w is waits none all some = absurd (some refl refl)
  walk (d ∷ b) [] w is waits none all some =
      absurd (all_settle_not t (numbers 0 size) w waits.0.object (inside d (b ++ []) is waits.0.object (ap awaits waits.0.next)) waits.0.among none all)

same_after : (xs a b : List Path) → xs ++ a ≡ xs ++ b → a ≡ b
same_after [] a b e = e
same_after (x ∷ xs) a b e = same_after xs a b (tail_is (xs ++ a) (xs ++ b) e)
  where
    tail_is : (c d : List Path) → ◌≡◌ {A = List Path} (x ∷ c) (x ∷ d) → c ≡ d
    tail_is c d e = cc

none_seated : (seats : List Seat) → Seated seats [] → seats ≡ []
none_seated [] h = refl
none_seated (s ∷ seats) h = absurd h

module _ (keeps : (p : AbstractProgram) (ns : List ℤ) (limit : ℕ) → Proper (root_spec p) (root_course p ns limit)) (p : Program) (ns : List ℤ) (limit : ℕ) where
  module _ (k : ℕ) (seats : List Seat) (ss : List ObjectView) (notes : List PartNote) (x : Kept p ns limit k seats ss notes) (rest : ℕ → List Path)
      (full : Full (program p) ns limit (and_then ss rest)) where
    abbrev size : ℕ
    size = length (sizes p.items)

    abbrev later : List Mark
    later = to_come rest size x.state

    -- the lists name what is to come
    names_all : (o : ℕ) → rest o ≡ turns_on o later
    names_all o =
        let run = marks_by (program p) ns limit (and_then ss rest) in
        let log = x.state.log in
        let now : turns_of ss o ≡ turns_on o log = turns_at ss o ∙ ap (λ (z : ObjectView). z.turns) (x.shown.shelves o) in
        let told : turns_on o run ≡ turns_on o log ++ turns_on o later = turns_are o run
        ∙ ap turns_among ((going keeps p ns limit k seats ss notes x rest).works o) ∙ sym (turns_are o (log ++ later)) ∙ turns_both o log later in
        same_after (turns_on o log) (rest o) (turns_on o later) (ap (λ z. z ++ rest o) (sym now) ∙ sym (full.same o) ∙ told)

    goes_in_step : seats ≢ [] → GoesInStep seats ss rest
    goes_in_step some =
        let g = going keeps p ns limit k seats ss notes x rest in
        let st = x.state in
        walk rest size seats ss st.roll st.contents (λ o. turns_on o st.log) x.shown.seated g.fits g.small g.before x.tidy x.shown.shelves [] st.roll
        (world_of size st.contents) refl tt tt names_all (λ e i. some (none_seated seats (subst (Seated seats) i x.shown.seated)))

    ends_all : x.state.roll ≡ [] → (o : ℕ) → rest o ≡ []
    ends_all over o =
        let w = world_of size x.state.contents in
        names_all o ∙ ap (λ us. turns_on o (onwards_all rest (numbers 0 size) us w).marks) over
        ∙ ap (λ (r : Ran). turns_on o r.marks) (settle_none rest (numbers 0 size) w.store)

  pub full_lists_go_on : FullListsGoOn p ns limit
  full_lists_go_on = record {
    goes = λ k roll ss notes r rest full some. goes_in_step k roll ss notes (kept keeps p ns limit k roll ss notes r) rest full some;
    ends = λ k ss notes r rest full. let x = kept keeps p ns limit k [] ss notes r in
        ends_all k [] ss notes x rest full (seated_nil x.state.roll x.shown.seated);
  }
