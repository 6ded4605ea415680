-- A report is that of the run by its own turn lists: no task has a turn on an object that the program does not have.
use Rattle.std.proofs.Common.{◌≡◌, ◌≢◌, ℕ, zero, suc, ◌+◌, ◌≤◌, ◌<◌, add-zero, Bool, true, false, List, [], ◌∷◌, ◌++◌, map, length, refl, sym, ap, ◌∙◌, subst, Option}
use Rattle.std.proofs.Common.{Some, None, arith}
use Rattle.std.specs.Prelude.{ℤ, nat_lt, slice_index_or, if◌then◌else◌}
use Rattle.std.proofs.lemmas.List.{length-replicate}
use Rattle.std.proofs.lemmas.Bool.{ltb-true, ltb-false, ne_eqb}
use Rattle.jade_base.specs.Rights.{both_rights}
use Rattle.jade_syntax.specs.Abstract.{AbstractProgram}
use Rattle.jade_syntax.specs.Objects.{sizes}
use Rattle.jade_meaning.specs.Specification.{Specification, numbers, objects, commuting_on}
use Rattle.jade_meaning.specs.Course.{Course, Reads, Writes, Steps, Creates, Changes, Ends, root_spec, root_course}
use Rattle.jade_meaning.specs.Proper.{Proper, proper_read, proper_write, proper_step, proper_create, proper_change, proper_end}
use Rattle.jade_meaning.specs.Serial.{Mark, Path, Store, DidRead, DidWrite, after, cell, with_cell, zeros}
use Rattle.jade_meaning.specs.Turns.{Member, World, Ran, at_path, group, arranged, turn, turns_taken, settle, settled, settle_all, entered, run}
use Rattle.jade_meaning.specs.Turns.{touched_at_once, made_touchable, turns_on, turns_in, marks_by, fill}
use Rattle.jade_meaning.specs.Report.{reported, report, ByItsTurns}
use Rattle.jade_meaning.specs.Laws.{Every}
use Rattle.jade_meaning.proofs.Bounds.{keeps}
use Rattle.jade_meaning.proofs.Groups.{every_append, every_arranged, every_group, every_others}
use Rattle.jade_meaning.proofs.Filling.{turns_both, turn_turns, fill_same}
use Rattle.jade_meaning.proofs.Telling.{among_below}

-- nobody waits for this object
abbrev Clear : ℕ → World → Type 0
Clear o w = Every (λ m. m.object ≢ o) w.waiting

-- no turn on it, and nobody waits for it
abbrev Calm : ℕ → Ran → Type 0
Calm o r = (turns_on o r.marks ≡ []) × Clear o r.world

taken_calm : (o : ℕ) (ms : List Member) (s : Store) → Every (λ m. m.object ≢ o) ms → turns_on o (turns_taken ms s) ≡ []
taken_calm o [] s h = refl
taken_calm o (m ∷ ms) s h =
    turns_both o (turn m s) (turns_taken ms (after (turn m s) s))
    ∙ ap (λ l. l ++ turns_on o (turns_taken ms (after (turn m s) s))) (turn_turns o m s ∙ ap (λ b. if b then m.path ∷ [] else []) (ne_eqb m.object o h.0))
    ∙ taken_calm o ms (after (turn m s) s) h.1

both_calm : (o : ℕ) (a b : List Mark) → turns_on o a ≡ [] → turns_on o b ≡ [] → turns_on o (a ++ b) ≡ []
both_calm o a b h g = turns_both o a b ∙ ap (λ l. l ++ turns_on o b) h ∙ g

module _ (T : ℕ → List Path) (o : ℕ) where
  settle_calm : (x : ℕ) (w : World) → Clear o w → turns_on o (settle T x w) ≡ []
  settle_calm x w h =
      taken_calm o (arranged (T x) (group x w.waiting)) w.store
      (every_arranged (λ m. m.object ≢ o) (T x) (group x w.waiting) (every_group (λ m. m.object ≢ o) x w.waiting h))

  all_calm : (xs : List ℕ) (w : World) → Clear o w → Calm o (settle_all T xs w)
  all_calm [] w h = (refl, h)
  all_calm (x ∷ xs) w h =
      let r = all_calm xs (settled T x w) (every_others (λ m. m.object ≢ o) x w.waiting h) in
      (both_calm o (settle T x w) (settle_all T xs (settled T x w)).marks (settle_calm x w h) r.0, r.1)

  run_calm : (c : Course) (spec : Specification) → Proper spec c → length spec ≤ o → (p : Path) (k n : ℕ) (w : World) → Clear o w → Calm o (run T p spec c k n w)
  run_calm (Reads x c on) spec (proper_read i f) le p k n w h =
      let v = settled T x w in
      let m = at_path p k (DidRead x c (cell v.store x c)) in
      let r = run_calm (on (cell v.store x c)) spec (f _) le p k n v (every_others (λ m. m.object ≢ o) x w.waiting h) in
      (both_calm o (settle T x w ++ m ∷ []) _ (both_calm o (settle T x w) (m ∷ []) (settle_calm x w h) refl) r.0, r.1)
  run_calm (Writes x c z on) spec (proper_write i f) le p k n w h =
      let v = settled T x w in
      let m = at_path p k (DidWrite x c z) in
      let r = run_calm on spec f le p k n (record v { store = with_cell v.store x c z }) (every_others (λ m. m.object ≢ o) x w.waiting h) in
      (both_calm o (settle T x w ++ m ∷ []) _ (both_calm o (settle T x w) (m ∷ []) (settle_calm x w h) refl) r.0, r.1)
  run_calm (Steps on) spec (proper_step f) le p k n w h = run_calm on spec f le p k (suc n) w h
  run_calm (Creates child body on) spec (proper_create none may covered long f g) le p k n w h =
      let q = p ++ k ∷ [] in
      let s = settle_all T (touched_at_once child) w in
      let a = all_calm (touched_at_once child) w h in
      let lc : length child ≤ o = subst (λ n. n ≤ o) (sym long) le in
      let inner = entered (commuting_on child) q child body (λ y. run T q child body 0 0 y) s.world in
      let b : Calm o inner = inside (commuting_on child) refl lc q s.world a.1 (run_calm body child f lc q 0 0 s.world a.1) in
      let r = run_calm on spec g le p (suc k) 0 inner.world b.1 in
      (both_calm o (s.marks ++ inner.marks) (run T p spec on (suc k) 0 inner.world).marks (both_calm o s.marks inner.marks a.0 b.0) r.0, r.1)
    where
      inside : (x : Option ℕ) → commuting_on child ≡ x → length child ≤ o → (q : Path) (w : World) → Clear o w → Calm o (run T q child body 0 0 w)
          → Calm o (entered x q child body (λ y. run T q child body 0 0 y) w)
      inside None e lc q w h r = r
      inside (Some y) e lc q w h r =
          (refl, every_append (λ m. m.object ≢ o) w.waiting _ h ((λ i. let l = among_below child 0 (length child) y e in absurd (omega (arith, l, i, lc))), tt))
  run_calm (Changes new on) spec (proper_change none more f) le p k n w h =
      let s = settle_all T (made_touchable spec new) w in
      let a = all_calm (made_touchable spec new) w h in
      let r = run_calm on new f (subst (λ n. n ≤ o) (sym more.sized) le) p k n s.world a.1 in
      (both_calm o s.marks _ a.0 r.0, r.1)
  run_calm (Ends b) spec proper_end le p k n w h = (refl, h)

-- no turn beyond the objects
beyond : (p : AbstractProgram) (ns : List ℤ) (limit : ℕ) (T : ℕ → List Path) (o : ℕ) → length (sizes p.items) ≤ o → turns_on o (marks_by p ns limit T) ≡ []
beyond p ns limit T o le =
    let spec = root_spec p in
    let long : length spec ≡ length (sizes p.items) = length-replicate (length (sizes p.items)) both_rights in
    let w : World = record { store = zeros (sizes p.items); waiting = [] } in
    let r = run_calm T o (root_course p ns limit) spec (keeps p ns limit) (subst (λ n. n ≤ o) (sym long) le) (0 ∷ []) 0 0 w tt in
    let e = all_calm T o (objects spec) (run T (0 ∷ []) spec (root_course p ns limit) 0 0 w).world r.1 in
    both_calm o (run T (0 ∷ []) spec (root_course p ns limit) 0 0 w).marks _ r.0 e.0

-- the lists of a report by object
list_at : (f : ℕ → List Path) (n i x : ℕ) → x < n → slice_index_or (map f (numbers i n)) x [] ≡ f (i + x)
list_at f zero i x lt = absurd (omega arith)
list_at f (suc n) i zero lt = ap f (sym (add-zero i))
list_at f (suc n) i (suc x) lt = let e : suc i + x ≡ i + suc x = omega arith in list_at f n (suc i) x (omega arith) ∙ ap f e

list_past : (f : ℕ → List Path) (n i x : ℕ) → n ≤ x → slice_index_or (map f (numbers i n)) x [] ≡ []
list_past f zero i x le = refl
list_past f (suc n) i zero le = absurd (omega arith)
list_past f (suc n) i (suc x) le = list_past f n (suc i) x (omega arith)

own_lists : (p : AbstractProgram) (ns : List ℤ) (limit : ℕ) (T : ℕ → List Path) (o : ℕ) → turns_in (report p ns limit T).turns o ≡ fill p ns limit T o
own_lists p ns limit T o = go (nat_lt o (length (sizes p.items))) refl
  where
    go : (b : Bool) → nat_lt o (length (sizes p.items)) ≡ b → turns_in (report p ns limit T).turns o ≡ fill p ns limit T o
    go true e =
        let z : 0 + o ≡ o = omega arith in
        list_at (λ x. turns_on x (marks_by p ns limit T)) (length (sizes p.items)) 0 o (ltb-true o (length (sizes p.items)) e)
        ∙ ap (λ x. turns_on x (marks_by p ns limit T)) z
    go false e =
        let le = ltb-false o (length (sizes p.items)) e in
        list_past (λ x. turns_on x (marks_by p ns limit T)) (length (sizes p.items)) 0 o le ∙ sym (beyond p ns limit T o le)

funext : {A B : Type 0} {f g : A → B} → ((x : A) → f x ≡ g x) → f ≡ g
funext h = λ i. λ x. h x i

pub by_its_turns : (p : AbstractProgram) (ns : List ℤ) (limit : ℕ) (T : ℕ → List Path) → ByItsTurns p ns limit T
by_its_turns p ns limit T =
    let same : turns_in (report p ns limit T).turns ≡ fill p ns limit T = funext (own_lists p ns limit T) in
    record { same = ap (report p ns limit) same ∙ ap (λ (r : Ran). reported (sizes p.items) r.marks) (fill_same p ns limit T) }
