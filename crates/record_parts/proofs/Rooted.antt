-- Turns are those of tasks, whose paths begin at the root.
use Rattle.std.proofs.Common.{ℕ, suc, Bool, true, false, List, [], ◌∷◌, ◌++◌, refl, ap, sym, subst, Option, Some, None, All}
use Rattle.std.specs.Prelude.{ℤ, nat_eq, if◌then◌else◌}
use Rattle.std.proofs.lemmas.List.Elements.{All-nil, All-cons, All-append, All-from_get_or}
use Rattle.jade_syntax.specs.Abstract.{AbstractProgram}
use Rattle.jade_syntax.specs.Objects.{sizes}
use Rattle.jade_meaning.specs.Specification.{Specification, objects, commuting_on}
use Rattle.jade_meaning.specs.Course.{Course, Reads, Writes, Steps, Creates, Changes, Ends, root_spec, root_course}
use Rattle.jade_meaning.specs.Serial.{Mark, Path, Store, DidRead, DidWrite, after, cell, with_cell, zeros}
use Rattle.jade_meaning.specs.Turns.{Full, Member, World, Ran, at_path, group, arranged, turn, turns_taken, settle, settled, settle_all, entered, run}
use Rattle.jade_meaning.specs.Turns.{touched_at_once, made_touchable, turns_on, turns_in, marks_by}
use Rattle.jade_meaning.specs.Laws.{Every}
use Rattle.jade_meaning.proofs.Groups.{every_append, every_arranged, every_group, every_others}
use Rattle.jade_meaning.proofs.Filling.{turns_both, turn_turns}
use Rattle.record_parts.specs.Named.{IsRooted}

-- who waits is a task
abbrev AreTasks : List Member → Type 0
AreTasks ms = Every (λ m. IsRooted m.path) ms

-- the turns on an object are those of tasks, and so are those to come
abbrev Told : ℕ → Ran → Type 0
Told o r = All IsRooted (turns_on o r.marks) × AreTasks r.world.waiting

child : (p : Path) (k : ℕ) → IsRooted p → IsRooted (p ++ k ∷ [])
child p k r = record { more = r.more ++ k ∷ []; root = ap (λ l. l ++ k ∷ []) r.root }

one_turn : (b : Bool) (p : Path) → IsRooted p → All IsRooted (if b then p ∷ [] else [])
one_turn true p r = All-cons IsRooted p [] r (All-nil IsRooted)
one_turn false p r = All-nil IsRooted

both_told : (o : ℕ) (a b : List Mark) → All IsRooted (turns_on o a) → All IsRooted (turns_on o b) → All IsRooted (turns_on o (a ++ b))
both_told o a b h g = subst (All IsRooted) (sym (turns_both o a b)) (All-append IsRooted (turns_on o a) (turns_on o b) h g)

taken_told : (o : ℕ) (ms : List Member) (s : Store) → AreTasks ms → All IsRooted (turns_on o (turns_taken ms s))
taken_told o [] s h = All-nil IsRooted
taken_told o (m ∷ ms) s h =
    both_told o (turn m s) (turns_taken ms (after (turn m s) s)) (subst (All IsRooted) (sym (turn_turns o m s)) (one_turn (nat_eq m.object o) m.path h.0))
    (taken_told o ms (after (turn m s) s) h.1)

module _ (T : ℕ → List Path) (o : ℕ) where
  settle_told : (x : ℕ) (w : World) → AreTasks w.waiting → All IsRooted (turns_on o (settle T x w))
  settle_told x w h =
      taken_told o (arranged (T x) (group x w.waiting)) w.store
      (every_arranged (λ m. IsRooted m.path) (T x) (group x w.waiting) (every_group (λ m. IsRooted m.path) x w.waiting h))

  all_told : (xs : List ℕ) (w : World) → AreTasks w.waiting → Told o (settle_all T xs w)
  all_told [] w h = (All-nil IsRooted, h)
  all_told (x ∷ xs) w h =
      let r = all_told xs (settled T x w) (every_others (λ m. IsRooted m.path) x w.waiting h) in
      (both_told o (settle T x w) (settle_all T xs (settled T x w)).marks (settle_told x w h) r.0, r.1)

  run_told : (c : Course) (spec : Specification) (p : Path) → IsRooted p → (k n : ℕ) (w : World) → AreTasks w.waiting → Told o (run T p spec c k n w)
  run_told (Reads x c on) spec p q k n w h =
      let v = settled T x w in
      let m = at_path p k (DidRead x c (cell v.store x c)) in
      let r = run_told (on (cell v.store x c)) spec p q k n v (every_others (λ m. IsRooted m.path) x w.waiting h) in
      (both_told o (settle T x w ++ m ∷ []) _ (both_told o (settle T x w) (m ∷ []) (settle_told x w h) (All-nil IsRooted)) r.0, r.1)
  run_told (Writes x c z on) spec p q k n w h =
      let v = settled T x w in
      let m = at_path p k (DidWrite x c z) in
      let r = run_told on spec p q k n (record v { store = with_cell v.store x c z }) (every_others (λ m. IsRooted m.path) x w.waiting h) in
      (both_told o (settle T x w ++ m ∷ []) _ (both_told o (settle T x w) (m ∷ []) (settle_told x w h) (All-nil IsRooted)) r.0, r.1)
  run_told (Steps on) spec p q k n w h = run_told on spec p q k (suc n) w h
  run_told (Creates child_spec body on) spec p q k n w h =
      let path = p ++ k ∷ [] in
      let rooted = child p k q in
      let s = settle_all T (touched_at_once child_spec) w in
      let a = all_told (touched_at_once child_spec) w h in
      let inner = entered (commuting_on child_spec) path child_spec body (λ y. run T path child_spec body 0 0 y) s.world in
      let b : Told o inner = inside (commuting_on child_spec) path rooted s.world a.1 (run_told body child_spec path rooted 0 0 s.world a.1) in
      let r = run_told on spec p q (suc k) 0 inner.world b.1 in
      (both_told o (s.marks ++ inner.marks) (run T p spec on (suc k) 0 inner.world).marks (both_told o s.marks inner.marks a.0 b.0) r.0, r.1)
    where
      inside : (x : Option ℕ) (path : Path) → IsRooted path → (w : World) → AreTasks w.waiting → Told o (run T path child_spec body 0 0 w)
          → Told o (entered x path child_spec body (λ y. run T path child_spec body 0 0 y) w)
      inside None path rooted w h r = r
      inside (Some y) path rooted w h r = (All-nil IsRooted, every_append (λ m. IsRooted m.path) w.waiting _ h (rooted, tt))
  run_told (Changes new on) spec p q k n w h =
      let s = settle_all T (made_touchable spec new) w in
      let a = all_told (made_touchable spec new) w h in
      let r = run_told on new p q k n s.world a.1 in
      (both_told o s.marks _ a.0 r.0, r.1)
  run_told (Ends b) spec p q k n w h = (All-nil IsRooted, h)

told : (p : AbstractProgram) (ns : List ℤ) (limit : ℕ) (T : ℕ → List Path) (o : ℕ) → All IsRooted (turns_on o (marks_by p ns limit T))
told p ns limit T o =
    let spec = root_spec p in
    let w : World = record { store = zeros (sizes p.items); waiting = [] } in
    let r = run_told T o (root_course p ns limit) spec (0 ∷ []) (record { more = []; root = refl }) 0 0 w tt in
    let e = all_told T o (objects spec) (run T (0 ∷ []) spec (root_course p ns limit) 0 0 w).world r.1 in
    both_told o (run T (0 ∷ []) spec (root_course p ns limit) 0 0 w).marks _ r.0 e.0

pub turns_are_rooted : (p : AbstractProgram) (ns : List ℤ) (limit : ℕ) (lists : List (List (List ℕ))) → Full p ns limit (turns_in lists) → All (All IsRooted) lists
turns_are_rooted p ns limit lists full =
    All-from_get_or (All IsRooted) lists [] (λ i lt. subst (All IsRooted) (full.same i) (told p ns limit (turns_in lists) i))
