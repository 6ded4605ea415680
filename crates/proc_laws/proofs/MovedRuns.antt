-- A course whose faults stand at other positions does by turn lists what it did, with its faults at those positions.
use Rattle.std.proofs.Common.{◌≡◌, ℕ, suc, Bool, true, false, List, [], ◌∷◌, ◌++◌, map, refl, sym, ap, ◌∙◌, Option, Some, None}
use Rattle.std.proofs.lemmas.List.{map-append}
use Rattle.std.specs.Prelude.{if◌then◌else◌}
use Rattle.jade_base.specs.declared.place.Pos.{Pos}
use Rattle.jade_base.specs.declared.rights.Rights.{Rights}
use Rattle.jade_meaning.specs.Specification.{Specification, rights_on, objects, commuting_on}
use Rattle.jade_meaning.specs.Course.{Course, Reads, Writes, Steps, Creates, Changes, Ends}
use Rattle.jade_meaning.specs.Serial.{Path, Store, Deed, DidTurn, DidRead, DidWrite, DidCreate, DidEnd, Mark, own, under, done_to, after, cell, with_cell, serial, same_path, zeros}
use Rattle.jade_meaning.specs.Turns.{Member, World, Ran, below, at_path, is_of, group, others, named, unnamed, arranged, seen_by, turn, turns_taken, bared}
use Rattle.jade_meaning.specs.Turns.{kept_from, joined, touched_at_once, made_touchable, first, entered, settle, settled, settle_all, run}
use Rattle.proc_laws.specs.Moved.{moved_ending, moved_course}
use Rattle.proc_laws.specs.SourceAnswer.{course_run}

-- a choice under a function
pub chosen_under : {A B : Type 0} (g : A → B) (b : Bool) (x y : A) (u v : B) → u ≡ g x → v ≡ g y → (if b then u else v) ≡ g (if b then x else y)
chosen_under g true x y u v h k = h
chosen_under g false x y u v h k = k

module _ (f : Pos → Pos) where
  -- what a run has of courses and their ends, moved
  abbrev pub moved_deed : Deed → Deed
  moved_deed (DidTurn o) = DidTurn o
  moved_deed (DidRead o c v) = DidRead o c v
  moved_deed (DidWrite o c v) = DidWrite o c v
  moved_deed (DidCreate t n) = DidCreate (record { spec = t.spec; course = moved_course f t.course }) n
  moved_deed (DidEnd b n) = DidEnd (moved_ending f b) n

  abbrev pub moved_mark : Mark → Mark
  moved_mark m = record { path = m.path; children = m.children; deed = moved_deed m.deed }

  abbrev pub moved_member : Member → Member
  moved_member m = record m { course = moved_course f m.course }

  abbrev world : Store → List Member → World
  world store ms = record { store = store; waiting = ms }

  abbrev moved_world : World → World
  moved_world w = world w.store (map moved_member w.waiting)

  abbrev pub moved_ran : Ran → Ran
  moved_ran r = record { marks = map moved_mark r.marks; world = moved_world r.world }

  -- marks
  done_moved : (d : Deed) (s : Store) → done_to (moved_deed d) s ≡ done_to d s
  done_moved (DidTurn o) s = refl
  done_moved (DidRead o c v) s = refl
  done_moved (DidWrite o c v) s = refl
  done_moved (DidCreate t n) s = refl
  done_moved (DidEnd b n) s = refl

  pub after_moved : (ms : List Mark) (s : Store) → after (map moved_mark ms) s ≡ after ms s
  after_moved [] s = refl
  after_moved (m ∷ ms) s = ap (after (map moved_mark ms)) (done_moved m.deed s) ∙ after_moved ms (done_to m.deed s)

  under_moved : (k : ℕ) (ms : List Mark) → map (under k) (map moved_mark ms) ≡ map moved_mark (map (under k) ms)
  under_moved k [] = refl
  under_moved k (m ∷ ms) = ap (λ l. moved_mark (under k m) ∷ l) (under_moved k ms)

  below_moved : (p : Path) (ms : List Mark) → map (below p) (map moved_mark ms) ≡ map moved_mark (map (below p) ms)
  below_moved p [] = refl
  below_moved p (m ∷ ms) = ap (λ l. moved_mark (below p m) ∷ l) (below_moved p ms)

  serial_moved : (c : Course) (k n : ℕ) (s : Store) → serial (moved_course f c) k n s ≡ map moved_mark (serial c k n s)
  serial_moved (Reads o c on) k n s = ap (λ l. own k (DidRead o c (cell s o c)) ∷ l) (serial_moved (on (cell s o c)) k n s)
  serial_moved (Writes o c v on) k n s = ap (λ l. own k (DidWrite o c v) ∷ l) (serial_moved on k n (with_cell s o c v))
  serial_moved (Steps on) k n s = serial_moved on k (suc n) s
  serial_moved (Creates child body on) k n s =
      let made = own k (DidCreate (record { spec = child; course = moved_course f body }) n) in
      let inner = serial body 0 0 s in
      let more = serial on (suc k) 0 (after inner s) in
      ap (λ l. made ∷ (map (under k) l ++ serial (moved_course f on) (suc k) 0 (after l s))) (serial_moved body 0 0 s)
      ∙ ap (λ t. made ∷ (map (under k) (map moved_mark inner) ++ serial (moved_course f on) (suc k) 0 t)) (after_moved inner s)
      ∙ ap (λ l. made ∷ (map (under k) (map moved_mark inner) ++ l)) (serial_moved on (suc k) 0 (after inner s))
      ∙ ap (λ l. made ∷ (l ++ map moved_mark more)) (under_moved k inner)
      ∙ ap (λ l. made ∷ l) (sym (map-append moved_mark (map (under k) inner) more))
  serial_moved (Changes new on) k n s = serial_moved on k n s
  serial_moved (Ends b) k n s = refl

  -- members and their turns
  turn_moved : (m : Member) (s : Store) → turn (moved_member m) s ≡ map moved_mark (turn m s)
  turn_moved m s =
      let begin = at_path m.path 0 (DidTurn m.object) in
      ap (λ l. begin ∷ map (below m.path) l) (serial_moved m.course 0 m.steps (seen_by m s))
      ∙ ap (λ l. begin ∷ l) (below_moved m.path (serial m.course 0 m.steps (seen_by m s)))

  taken_moved : (ms : List Member) (s : Store) → turns_taken (map moved_member ms) s ≡ map moved_mark (turns_taken ms s)
  taken_moved [] s = refl
  taken_moved (m ∷ ms) s =
      let ds = turn m s in
      ap (λ l. l ++ turns_taken (map moved_member ms) (after l s)) (turn_moved m s)
      ∙ ap (λ t. map moved_mark ds ++ turns_taken (map moved_member ms) t) (after_moved ds s)
      ∙ ap (λ l. map moved_mark ds ++ l) (taken_moved ms (after ds s)) ∙ sym (map-append moved_mark ds (turns_taken ms (after ds s)))

  group_moved : (o : ℕ) (ms : List Member) → group o (map moved_member ms) ≡ map moved_member (group o ms)
  group_moved o [] = refl
  group_moved o (m ∷ ms) =
      chosen_under (map moved_member) (is_of o m) (m ∷ group o ms) (group o ms) _ _ (ap (λ l. moved_member m ∷ l) (group_moved o ms)) (group_moved o ms)

  others_moved : (o : ℕ) (ms : List Member) → others o (map moved_member ms) ≡ map moved_member (others o ms)
  others_moved o [] = refl
  others_moved o (m ∷ ms) =
      chosen_under (map moved_member) (is_of o m) (others o ms) (m ∷ others o ms) _ _ (others_moved o ms) (ap (λ l. moved_member m ∷ l) (others_moved o ms))

  named_moved : (p : Path) (ms : List Member) → named p (map moved_member ms) ≡ map moved_member (named p ms)
  named_moved p [] = refl
  named_moved p (m ∷ ms) = chosen_under (map moved_member) (same_path m.path p) (m ∷ []) (named p ms) _ _ refl (named_moved p ms)

  unnamed_moved : (p : Path) (ms : List Member) → unnamed p (map moved_member ms) ≡ map moved_member (unnamed p ms)
  unnamed_moved p [] = refl
  unnamed_moved p (m ∷ ms) =
      chosen_under (map moved_member) (same_path m.path p) ms (m ∷ unnamed p ms) _ _ refl (ap (λ l. moved_member m ∷ l) (unnamed_moved p ms))

  arranged_moved : (ts : List Path) (ms : List Member) → arranged ts (map moved_member ms) ≡ map moved_member (arranged ts ms)
  arranged_moved ts [] = arranged_none ts
    where
      arranged_none : (ts : List Path) → arranged ts (map moved_member []) ≡ map moved_member (arranged ts [])
      arranged_none [] = refl
      arranged_none (t ∷ ts) = refl
  arranged_moved [] (m ∷ ms) = refl
  arranged_moved (t ∷ ts) (m ∷ ms) =
      ap (λ l. l ++ arranged ts (unnamed t (map moved_member (m ∷ ms)))) (named_moved t (m ∷ ms))
      ∙ ap (λ l. map moved_member (named t (m ∷ ms)) ++ arranged ts l) (unnamed_moved t (m ∷ ms))
      ∙ ap (λ l. map moved_member (named t (m ∷ ms)) ++ l) (arranged_moved ts (unnamed t (m ∷ ms)))
      ∙ sym (map-append moved_member (named t (m ∷ ms)) (arranged ts (unnamed t (m ∷ ms))))

  bared_moved : (c : Course) (n : ℕ) → bared (moved_course f c) n ≡ record { course = moved_course f (bared c n).course; steps = (bared c n).steps }
  bared_moved (Steps on) n = bared_moved on (suc n)
  bared_moved (Reads o c on) n = refl
  bared_moved (Writes o c v on) n = refl
  bared_moved (Creates child body on) n = refl
  bared_moved (Changes new on) n = refl
  bared_moved (Ends b) n = refl

  joined_moved : (p : Path) (o : ℕ) (rights : ℕ → Rights) (body : Course) (w : World)
      → joined p o rights (bared (moved_course f body) 0) (moved_world w) ≡ moved_world (joined p o rights (bared body 0) w)
  joined_moved p o rights body w =
      let b = bared body 0 in
      let m : Member = record { path = p; object = o; course = b.course; steps = b.steps; kept = kept_from 0 rights w.store } in
      ap (λ x. joined p o rights x (moved_world w)) (bared_moved body 0) ∙ ap (world w.store) (sym (map-append moved_member w.waiting (m ∷ [])))

  -- runs
  first_moved : (ms : List Mark) (r : Ran) → first (map moved_mark ms) (moved_ran r) ≡ moved_ran (first ms r)
  first_moved ms r =
      let ran : List Mark → Ran = λ l. record { marks = l; world = moved_world r.world } in
      ap ran (sym (map-append moved_mark ms r.marks))

  module _ (turns : ℕ → List Path) where
    settle_moved : (o : ℕ) (w : World) → settle turns o (moved_world w) ≡ map moved_mark (settle turns o w)
    settle_moved o w =
        ap (λ g. turns_taken (arranged (turns o) g) w.store) (group_moved o w.waiting)
        ∙ ap (λ g. turns_taken g w.store) (arranged_moved (turns o) (group o w.waiting)) ∙ taken_moved (arranged (turns o) (group o w.waiting)) w.store

    settled_moved : (o : ℕ) (w : World) → settled turns o (moved_world w) ≡ moved_world (settled turns o w)
    settled_moved o w =
        ap (λ l. world (after l w.store) (others o (map moved_member w.waiting))) (settle_moved o w)
        ∙ ap (λ t. world t (others o (map moved_member w.waiting))) (after_moved (settle turns o w) w.store)
        ∙ ap (world (after (settle turns o w) w.store)) (others_moved o w.waiting)

    settle_all_moved : (os : List ℕ) (w : World) → settle_all turns os (moved_world w) ≡ moved_ran (settle_all turns os w)
    settle_all_moved [] w = refl
    settle_all_moved (o ∷ os) w =
        ap (λ l. first l (settle_all turns os (settled turns o (moved_world w)))) (settle_moved o w)
        ∙ ap (λ x. first (map moved_mark (settle turns o w)) (settle_all turns os x)) (settled_moved o w)
        ∙ ap (first (map moved_mark (settle turns o w))) (settle_all_moved os (settled turns o w))
        ∙ first_moved (settle turns o w) (settle_all turns os (settled turns o w))

    entered_moved : (o : Option ℕ) (p : Path) (child : Specification) (body : Course)
        → ((w : World) → run turns p child (moved_course f body) 0 0 (moved_world w) ≡ moved_ran (run turns p child body 0 0 w)) → (w : World)
        → entered o p child (moved_course f body) (λ x. run turns p child (moved_course f body) 0 0 x) (moved_world w)
        ≡ moved_ran (entered o p child body (λ x. run turns p child body 0 0 x) w)
    entered_moved None p child body h w = h w
    entered_moved (Some o) p child body h w =
        let ran : World → Ran = λ x. record { marks = []; world = x } in
        ap ran (joined_moved p o (rights_on child) body w)

    -- a group is settled, a deed follows, and a run
    deed_moved : (o : ℕ) (w : World) (deed : World → Mark) (on : World → Ran) (d : Mark) (r : Ran)
        → deed (moved_world (settled turns o w)) ≡ moved_mark d → on (moved_world (settled turns o w)) ≡ moved_ran r
        → first (settle turns o (moved_world w) ++ deed (settled turns o (moved_world w)) ∷ []) (on (settled turns o (moved_world w)))
        ≡ moved_ran (first (settle turns o w ++ d ∷ []) r)
    deed_moved o w deed on d r g h =
        let ms = settle turns o w in
        let x = settled turns o (moved_world w) in
        ap (λ l. first (l ++ deed x ∷ []) (on x)) (settle_moved o w)
        ∙ ap (λ y. first (map moved_mark ms ++ deed y ∷ []) (on y)) (settled_moved o w)
        ∙ ap (λ m. first (map moved_mark ms ++ m ∷ []) (on (moved_world (settled turns o w)))) g
        ∙ ap (first (map moved_mark ms ++ moved_mark d ∷ [])) h
        ∙ ap (λ l. first l (moved_ran r)) (sym (map-append moved_mark ms (d ∷ []))) ∙ first_moved (ms ++ d ∷ []) r

    run_moved : (c : Course) (p : Path) (spec : Specification) (k n : ℕ) (w : World)
        → run turns p spec (moved_course f c) k n (moved_world w) ≡ moved_ran (run turns p spec c k n w)
    run_moved (Reads o c on) p spec k n w =
        let x = settled turns o w in
        let deed : World → Mark = λ y. at_path p k (DidRead o c (cell y.store o c)) in
        let more : World → Ran = λ y. run turns p spec (moved_course f (on (cell y.store o c))) k n y in
        deed_moved o w deed more (at_path p k (DidRead o c (cell x.store o c))) (run turns p spec (on (cell x.store o c)) k n x) refl
        (run_moved (on (cell x.store o c)) p spec k n x)
    run_moved (Writes o c v on) p spec k n w =
        let x = settled turns o w in
        let y = world (with_cell x.store o c v) x.waiting in
        let d = at_path p k (DidWrite o c v) in
        let more : World → Ran = λ z. run turns p spec (moved_course f on) k n (world (with_cell z.store o c v) z.waiting) in
        deed_moved o w (λ z. d) more d (run turns p spec on k n y) refl (run_moved on p spec k n y)
    run_moved (Steps on) p spec k n w = run_moved on p spec k (suc n) w
    run_moved (Creates child body on) p spec k n w =
        let q = p ++ k ∷ [] in
        let made = at_path p k (DidCreate (record { spec = child; course = body }) n) in
        let s = settle_all turns (touched_at_once child) w in
        let inner = entered (commuting_on child) q child body (λ x. run turns q child body 0 0 x) s.world in
        let enter : World → Ran = λ x. entered (commuting_on child) q child (moved_course f body) (λ y. run turns q child (moved_course f body) 0 0 y) x in
        let go : List Mark → Ran → Ran = λ l x. first (moved_mark made ∷ (l ++ x.marks)) (run turns p spec (moved_course f on) (suc k) 0 x.world) in
        let more = run turns p spec on (suc k) 0 inner.world in
        ap (λ (x : Ran). go x.marks (enter x.world)) (settle_all_moved (touched_at_once child) w)
        ∙ ap (go (map moved_mark s.marks)) (entered_moved (commuting_on child) q child body (λ x. run_moved body q child 0 0 x) s.world)
        ∙ ap (first (moved_mark made ∷ (map moved_mark s.marks ++ map moved_mark inner.marks))) (run_moved on p spec (suc k) 0 inner.world)
        ∙ ap (λ l. first (moved_mark made ∷ l) (moved_ran more)) (sym (map-append moved_mark s.marks inner.marks))
        ∙ first_moved (made ∷ (s.marks ++ inner.marks)) more
    run_moved (Changes new on) p spec k n w =
        let s = settle_all turns (made_touchable spec new) w in
        ap (λ (x : Ran). first x.marks (run turns p new (moved_course f on) k n x.world)) (settle_all_moved (made_touchable spec new) w)
        ∙ ap (first (map moved_mark s.marks)) (run_moved on p new k n s.world) ∙ first_moved s.marks (run turns p new on k n s.world)
    run_moved (Ends b) p spec k n w = refl

    pub course_run_moved : (spec : Specification) (c : Course) (ns : List ℕ)
        → course_run turns spec (moved_course f c) ns ≡ moved_ran (course_run turns spec c ns)
    course_run_moved spec c ns =
        let w : World = record { store = zeros ns; waiting = [] } in
        let r = run turns (0 ∷ []) spec c 0 0 w in
        ap (λ (x : Ran). first x.marks (settle_all turns (objects spec) x.world)) (run_moved c (0 ∷ []) spec 0 0 w)
        ∙ ap (first (map moved_mark r.marks)) (settle_all_moved (objects spec) r.world) ∙ first_moved r.marks (settle_all turns (objects spec) r.world)
