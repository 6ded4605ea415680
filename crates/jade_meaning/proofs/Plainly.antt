-- A run in which no task that commutes is created is the plain serial run; and what a run leaves of the contents.
use Rattle.std.proofs.Common.{◌≡◌, ℕ, zero, suc, length, replicate, false, List, [], ◌∷◌, ◌++◌, map, refl, sym, ap, ◌∙◌, subst, Option, Some, None, append-nil, append_assoc}
use Rattle.std.specs.Prelude.{ℤ}
use Rattle.jade_syntax.specs.Abstract.{AbstractProgram}
use Rattle.jade_syntax.specs.Objects.{sizes}
use Rattle.jade_meaning.specs.Specification.{Specification, numbers, objects, commuting_on}
use Rattle.jade_meaning.specs.Course.{Course, Reads, Writes, Steps, Creates, Changes, Ends, root_spec, root_course}
use Rattle.jade_meaning.specs.Serial.{Mark, Path, Store, Deed, DidRead, DidWrite, DidCreate, DidEnd, serial, own, under, after, cell, with_cell, serial_run, zeros}
use Rattle.jade_meaning.specs.Turns.{World, Ran, run, settle, settled, settle_all, first, entered, below, at_path, made_touchable, touched_at_once}
use Rattle.jade_meaning.specs.Turns.{marks_by, turns_on}
use Rattle.jade_meaning.specs.Laws.{Every, CreatesPlain, NoneCommutes, RunsPlainly, ContentsFollow}
use Rattle.jade_meaning.specs.Report.{faults, steps_of, reported, report}
use Rattle.jade_meaning.specs.Uncommuting.{uses_cm}
use Rattle.jade_meaning.proofs.Groups.{every_append, every_front, every_back}
use Rattle.jade_meaning.proofs.Alone.{Lone, alone, after_both, none_settle, as_ran, same, child_is}
use Rattle.jade_meaning.proofs.Filling.{serial_turnless}
use Rattle.jade_meaning.proofs.Lones.{lone_root}

-- what creates no task that commutes
abbrev AllPlain : List Mark → Type 0
AllPlain ms = Every (λ m. CreatesPlain m.deed) ms

plain_below : (p : Path) (ms : List Mark) → AllPlain ms → AllPlain (map (below p) ms)
plain_below p [] h = tt
plain_below p (m ∷ ms) h = (h.0, plain_below p ms h.1)

plain_under : (k : ℕ) (ms : List Mark) → AllPlain ms → AllPlain (map (under k) ms)
plain_under k [] h = tt
plain_under k (m ∷ ms) h = (h.0, plain_under k ms h.1)

lone_plain : (c : Course) → Lone c → (k n : ℕ) (s : Store) → AllPlain (serial c k n s)
lone_plain (Reads o c on) h k n s = (tt, lone_plain (on (cell s o c)) (h _) k n s)
lone_plain (Writes o c v on) h k n s = (tt, lone_plain on h k n (with_cell s o c v))
lone_plain (Steps on) h k n s = lone_plain on h k (suc n) s
lone_plain (Creates child body on) h k n s =
    let inner = serial body 0 0 s in (
      h.0,
      every_append (λ m. CreatesPlain m.deed) (map (under k) inner) (serial on (suc k) 0 (after inner s))
          (plain_under k inner (lone_plain body h.1 0 0 s)) (lone_plain on h.2 (suc k) 0 (after inner s)),
    )
lone_plain (Changes new on) h k n s = lone_plain on h k n s
lone_plain (Ends b) h k n s = (tt, tt)

module _ (turns : ℕ → List Path) where
  -- where a run creates no task that commutes, it is the serial run
  plainly : (c : Course) (p : Path) (spec : Specification) (k n : ℕ) (s : Store) → AllPlain (run turns p spec c k n (alone s)).marks
      → run turns p spec c k n (alone s) ≡ as_ran p (serial c k n s) s
  plainly (Reads o c on) p spec k n s h =
      let d = DidRead o c (cell s o c) in
      ap (first (at_path p k d ∷ [])) (plainly (on (cell s o c)) p spec k n s h.1)
      ∙ ap (λ m. first (m ∷ []) (as_ran p (serial (on (cell s o c)) k n s) s)) (own_at p k d)
    where
      own_at : (p : Path) (k : ℕ) (d : Deed) → at_path p k d ≡ below p (own k d)
      own_at p k d = ap (λ (q : Path). at_path q k d) (sym (append-nil p))
  plainly (Writes o c v on) p spec k n s h =
      let d = DidWrite o c v in
      ap (first (at_path p k d ∷ [])) (plainly on p spec k n (with_cell s o c v) h.1)
      ∙ ap (λ m. first (m ∷ []) (as_ran p (serial on k n (with_cell s o c v)) (with_cell s o c v))) (own_at p k d)
    where
      own_at : (p : Path) (k : ℕ) (d : Deed) → at_path p k d ≡ below p (own k d)
      own_at p k d = ap (λ (q : Path). at_path q k d) (sym (append-nil p))
  plainly (Steps on) p spec k n s h = plainly on p spec k (suc n) s h
  plainly (Changes new on) p spec k n s h =
      let go = λ (r : Ran). first r.marks (run turns p new on k n r.world) in
      let e = none_settle turns (made_touchable spec new) s in
      ap go e ∙ plainly on p new k n s (subst (λ (r : Ran). AllPlain (go r).marks) e h)
  plainly (Ends b) p spec k n s h = ap (λ m. record { marks = m ∷ []; world = alone s }) (ap (λ (q : Path). at_path q k (DidEnd b n)) (sym (append-nil p)))
  plainly (Creates child body on) p spec k n s h =
      let q = p ++ k ∷ [] in
      let d = at_path p k (DidCreate (record { spec = child; course = body }) n) in
      let enter = λ (r : Ran). entered (commuting_on child) q child body (λ x. run turns q child body 0 0 x) r.world in
      let go = λ (r : Ran) (x : Ran). first (d ∷ (r.marks ++ x.marks)) (run turns p spec on (suc k) 0 x.world) in
      let nothing : Ran = record { marks = []; world = alone s } in
      let e = none_settle turns (touched_at_once child) s in
      let inner = run turns q child body 0 0 (alone s) in
      let one : enter nothing ≡ inner = ap (λ x. entered x q child body (λ x. run turns q child body 0 0 x) (alone s)) h.0 in
      let start : run turns p spec (Creates child body on) k n (alone s) ≡ go nothing inner = ap (λ (r : Ran). go r (enter r)) e ∙ ap (go nothing) one in
      let all : AllPlain (go nothing inner).marks = subst (λ (r : Ran). AllPlain r.marks) start h in
      let two : inner ≡ as_ran q (serial body 0 0 s) s = plainly body q child 0 0 s (every_front (λ m. CreatesPlain m.deed) inner.marks _ all.1) in
      let there : AllPlain (go nothing (as_ran q (serial body 0 0 s) s)).marks = subst (λ (r : Ran). AllPlain (go nothing r).marks) two all in
      let rest = plainly on p spec (suc k) 0 (after (serial body 0 0 s) s) (every_back (λ m. CreatesPlain m.deed) (map (below q) (serial body 0 0 s)) _ there.1) in
      start ∙ ap (go nothing) two ∙ ap (first (d ∷ map (below q) (serial body 0 0 s))) rest ∙ child_is p k n child body on s

  -- the contents after a run are those after its writes
  all_store : (os : List ℕ) (w : World) → (settle_all turns os w).world.store ≡ after (settle_all turns os w).marks w.store
  all_store [] w = refl
  all_store (o ∷ os) w =
      all_store os (settled turns o w) ∙ sym (after_both (settle turns o w) (settle_all turns os (settled turns o w)).marks w.store)

  entered_store : (x : Option ℕ) (q : Path) (child : Specification) (body : Course) (on : World → Ran) (w : World)
      → (on w).world.store ≡ after (on w).marks w.store → (entered x q child body on w).world.store ≡ after (entered x q child body on w).marks w.store
  entered_store None q child body on w h = h
  entered_store (Some o) q child body on w h = refl

  run_store : (c : Course) (p : Path) (spec : Specification) (k n : ℕ) (w : World) → (run turns p spec c k n w).world.store
      ≡ after (run turns p spec c k n w).marks w.store
  run_store (Reads o c on) p spec k n w =
      let x = settled turns o w in
      let m = at_path p k (DidRead o c (cell x.store o c)) in
      let r = run turns p spec (on (cell x.store o c)) k n x in
      run_store (on (cell x.store o c)) p spec k n x ∙ sym (ap (λ ms. after ms w.store) (append_assoc (settle turns o w) (m ∷ []) r.marks)
      ∙ after_both (settle turns o w) (m ∷ r.marks) w.store)
  run_store (Writes o c v on) p spec k n w =
      let x = settled turns o w in
      let m = at_path p k (DidWrite o c v) in
      let y : World = record x { store = with_cell x.store o c v } in
      let r = run turns p spec on k n y in
      run_store on p spec k n y ∙ sym (ap (λ ms. after ms w.store) (append_assoc (settle turns o w) (m ∷ []) r.marks)
      ∙ after_both (settle turns o w) (m ∷ r.marks) w.store)
  run_store (Steps on) p spec k n w = run_store on p spec k (suc n) w
  run_store (Changes new on) p spec k n w =
      let s = settle_all turns (made_touchable spec new) w in
      let r = run turns p new on k n s.world in
      run_store on p new k n s.world ∙ ap (after r.marks) (all_store (made_touchable spec new) w) ∙ sym (after_both s.marks r.marks w.store)
  run_store (Creates child body on) p spec k n w =
      let q = p ++ k ∷ [] in
      let s = settle_all turns (touched_at_once child) w in
      let inner = entered (commuting_on child) q child body (λ x. run turns q child body 0 0 x) s.world in
      let r = run turns p spec on (suc k) 0 inner.world in
      let e = entered_store (commuting_on child) q child body (λ x. run turns q child body 0 0 x) s.world (run_store body q child 0 0 s.world) in
      run_store on p spec (suc k) 0 inner.world
      ∙ ap (after r.marks) (e ∙ ap (after inner.marks) (all_store (touched_at_once child) w) ∙ sym (after_both s.marks inner.marks w.store))
      ∙ sym (after_both (s.marks ++ inner.marks) r.marks w.store)
  run_store (Ends b) p spec k n w = refl

abbrev root : Path
root = 0 ∷ []

root_marks : (ms : List Mark) → map (below root) ms ≡ map (under 0) ms
root_marks ms = refl

-- the end of a run settles nothing where nobody waits
ended_plainly : (p : AbstractProgram) (ns : List ℤ) (limit : ℕ) (turns : ℕ → List Path)
    → run turns root (root_spec p) (root_course p ns limit) 0 0 (alone (zeros (sizes p.items)))
    ≡ as_ran root (serial (root_course p ns limit) 0 0 (zeros (sizes p.items))) (zeros (sizes p.items))
    → marks_by p ns limit turns ≡ serial_run p ns limit
ended_plainly p ns limit turns e =
    let s = zeros (sizes p.items) in
    let ms = serial (root_course p ns limit) 0 0 s in
    let go = λ (r : Ran). (first r.marks (settle_all turns (objects (root_spec p)) r.world)).marks in
    ap go e ∙ ap (λ (r : Ran). map (below root) ms ++ r.marks) (none_settle turns (objects (root_spec p)) (after ms s)) ∙ append-nil _ ∙ root_marks ms

pub runs_plainly : (p : AbstractProgram) (ns : List ℤ) (limit : ℕ) (turns : ℕ → List Path) → NoneCommutes p ns limit turns → RunsPlainly p ns limit turns
runs_plainly p ns limit turns h =
    let s = zeros (sizes p.items) in
    let c = root_course p ns limit in
    let r = run turns root (root_spec p) c 0 0 (alone s) in
    let e = ended_plainly p ns limit turns (plainly turns c root (root_spec p) 0 0 s (every_front (λ m. CreatesPlain m.deed) r.marks _ h.each)) in
    record { marks = e; none = λ o. ap (turns_on o) e ∙ serial_turnless o root c 0 0 s }

pub without_cm : (p : AbstractProgram) (ns : List ℤ) (limit : ℕ) (turns : ℕ → List Path) → uses_cm p ≡ false → NoneCommutes p ns limit turns
without_cm p ns limit turns n =
    let s = zeros (sizes p.items) in
    let c = root_course p ns limit in
    let lone = lone_root p ns limit n in
    record {
      each = subst AllPlain (sym (ended_plainly p ns limit turns (same turns c lone root (root_spec p) 0 0 s)))
          (plain_under 0 (serial c 0 0 s) (lone_plain c lone 0 0 s));
    }

pub contents_follow : (p : AbstractProgram) (ns : List ℤ) (limit : ℕ) (turns : ℕ → List Path) → ContentsFollow p ns limit turns
contents_follow p ns limit turns =
    let w : World = alone (zeros (sizes p.items)) in
    let r = run turns root (root_spec p) (root_course p ns limit) 0 0 w in
    let e = settle_all turns (objects (root_spec p)) r.world in
    record {
      same = all_store turns (objects (root_spec p)) r.world ∙ ap (after e.marks) (run_store turns (root_course p ns limit) root (root_spec p) 0 0 w)
          ∙ sym (after_both r.marks e.marks w.store);
    }

-- the report of a program without the word `cm`
turnless : (n i : ℕ) (ms : List Mark) → ((o : ℕ) → turns_on o ms ≡ []) → map (λ o. turns_on o ms) (numbers i n) ≡ replicate n []
turnless zero i ms h = refl
turnless (suc n) i ms h = ap (λ t. t ∷ map (λ o. turns_on o ms) (numbers (suc i) n)) (h i) ∙ ap (λ l. [] ∷ l) (turnless n (suc i) ms h)

pub plain_report : (p : AbstractProgram) (ns : List ℤ) (limit : ℕ) (turns : ℕ → List Path) → uses_cm p ≡ false → report p ns limit turns ≡ record {
  objects = after (serial_run p ns limit) (zeros (sizes p.items));
  faults = faults (serial_run p ns limit);
  turns = replicate (length (sizes p.items)) [];
  steps = steps_of (serial_run p ns limit);
}
plain_report p ns limit turns n =
    let r = runs_plainly p ns limit turns (without_cm p ns limit turns n) in
    let ms = serial_run p ns limit in
    ap (reported (sizes p.items)) r.marks ∙ ap (λ (l : List (List Path)). record { objects = after ms (zeros (sizes p.items)); faults = faults ms; turns = l; steps = steps_of ms })
    (turnless (length (sizes p.items)) 0 ms (λ o. ap (turns_on o) (sym r.marks) ∙ r.none o))
