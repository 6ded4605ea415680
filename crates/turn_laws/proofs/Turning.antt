-- Each task of a run by turn lists has its turn first, if it commutes, and none if it does not: one induction over the course.
use Rattle.std.proofs.Common.{◌≡◌, ◌≢◌, ℕ, suc, ◌+◌, ◌≤◌, true, false, ◌&&◌, List, [], ◌∷◌, ◌++◌, map, length, refl, sym, ap, ◌∙◌, subst, Option, Some, None, arith, append-nil, append_assoc, inl, inr}
use Rattle.std.specs.Prelude.{ℤ}
use Rattle.std.specs.List.{filter_map, cons_option}
use Rattle.std.proofs.lemmas.Bool.{ne_eqb, eq-eqb}
use Rattle.jade_syntax.specs.Abstract.{AbstractProgram}
use Rattle.jade_syntax.specs.Objects.{sizes}
use Rattle.jade_meaning.specs.Specification.{Specification, rights_on, objects, commuting_on, may_commute}
use Rattle.jade_meaning.specs.Course.{Course, Reads, Writes, Steps, Creates, Changes, Ends, root_spec, root_course}
use Rattle.jade_meaning.specs.Proper.{Proper, proper_read, proper_write, proper_step, proper_create, proper_change, proper_end}
use Rattle.jade_meaning.specs.Talk.{Task, Event, Enter, Enroll, Take, TouchRead, TouchWrite, Wants, Give, Leave, Shift, Resign, talk}
use Rattle.jade_meaning.specs.Serial.{Mark, Path, Store, Deed, DidTurn, DidRead, DidWrite, DidCreate, DidEnd, serial, same_path, deeds_at, after, cell, with_cell, zeros}
use Rattle.jade_meaning.specs.Turns.{Member, World, Ran, Bared, below, at_path, group, arranged, turn, turns_taken, seen_by, bared, kept_from, joined}
use Rattle.jade_meaning.specs.Turns.{settle, settled, settle_all, first, entered, run, touched_at_once, made_touchable}
use Rattle.jade_meaning.specs.Laws.{Every, deeds, ends_with_resign, but_turn, child_path, DoesIts, ChildDoesIts, TalkFollowsSerial, root_task}
use Rattle.jade_meaning.proofs.Groups.{every_append, every_arranged, every_group, every_others}
use Rattle.jade_meaning.proofs.Filling.{Off, From, Within, ran_of, same_self, same_front, every_with, every_two, far_on, first_both, create_shape}
use Rattle.turn_laws.specs.Told.{TurnIsFirst, TellsIts, ChildTellsIts, TurnIsTold}
use Rattle.turn_laws.proofs.Takes.{own_turn, talk_told, root_plain, root_may}
use Rattle.turn_laws.proofs.Stages.{Flat, flat_of, flat_bared, counted, counted_both, At, Quiet, none_at, seen, at_both, at_off, at_on, more_deeds, Plainly, Stage, Keeps, goes_on, then_keeps, mark_keeps, still_keeps, settle_keeps, all_quiet, all_keeps}

-- paths below another, from child number k on
record Below (p : Path) (k : ℕ) (q : Path) : Type 0 where
  child : ℕ
  rest : Path
  is : q ≡ p ++ (child ∷ rest)
  from : k ≤ child

below_within : (p : Path) (k : ℕ) (q : Path) → Below p k q → Within p k q
below_within p k q b = record { rest = b.child ∷ b.rest; is = b.is; from = b.from }

longer : (p : Path) (j : ℕ) (r : Path) → same_path p (p ++ (j ∷ r)) ≡ false
longer [] j r = refl
longer (i ∷ p) j r = ap (λ x. x && same_path p (p ++ (j ∷ r))) (eq-eqb i i refl) ∙ longer p j r

below_off : (p : Path) (k : ℕ) (q : Path) → Below p k q → same_path p q ≡ false
below_off p k q b = ap (same_path p) b.is ∙ longer p b.child b.rest

far : (p : Path) (k : ℕ) (q : Path) → Within p (suc k) q → Off (Within (p ++ k ∷ []) 0) q
far p k q j y i =
    ap (λ x. same_path x q) (i.is ∙ append_assoc p (k ∷ []) i.rest) ∙ ap (λ x. same_path (p ++ (k ∷ i.rest)) x) j.is
    ∙ same_front p (k ∷ i.rest) j.rest ∙ go j.rest j.from
  where
    go : (r : Path) → From (suc k) r → same_path (k ∷ i.rest) r ≡ false
    go [] f = refl
    go (a ∷ r) f = ap (λ b. b && same_path i.rest r) (ne_eqb k a (λ e. absurd (let lt : suc k ≤ a = f in omega arith)))

inner_below : (p : Path) (k : ℕ) (q : Path) → Within (p ++ k ∷ []) 0 q → Below p k q
inner_below p k q i = record { child = k; rest = i.rest; is = i.is ∙ append_assoc p (k ∷ []) i.rest; from = omega arith }

inner_within : (p : Path) (k : ℕ) (q : Path) → Within (p ++ k ∷ []) 0 q → Within p k q
inner_within p k q i = below_within p k q (inner_below p k q i)

later_below : (p : Path) (k : ℕ) (q : Path) → Below p (suc k) q → Below p k q
later_below p k q b = let le : suc k ≤ b.child = b.from in record { child = b.child; rest = b.rest; is = b.is; from = omega arith }

later_within : (p : Path) (k : ℕ) (q : Path) → Within p (suc k) q → Within p k q
later_within p k q i = record { rest = i.rest; is = i.is; from = go i.rest i.from }
  where
    go : (r : Path) → From (suc k) r → From k r
    go [] f = tt
    go (j ∷ r) f = omega arith

here : (p : Path) (k : ℕ) → Within p k p
here p k = record { rest = []; is = sym (append-nil p); from = tt }

-- marks that create nobody
abbrev Creating : Deed → Type 0
Creating (DidCreate t n) = ⊥
Creating (DidTurn o) = Unit {0}
Creating (DidRead o c v) = Unit {0}
Creating (DidWrite o c v) = Unit {0}
Creating (DidEnd b n) = Unit {0}

abbrev Barren : List Mark → Type 0
Barren ms = Every (λ m. Creating m.deed) ms

flat_barren : (c : Course) → Flat c → (p : Path) (k n : ℕ) (s : Store) → Barren (map (below p) (serial c k n s))
flat_barren (Reads o c on) h p k n s = (tt, flat_barren (on (cell s o c)) (h _) p k n s)
flat_barren (Writes o c v on) h p k n s = (tt, flat_barren on h p k n (with_cell s o c v))
flat_barren (Steps on) h p k n s = flat_barren on h p k (suc n) s
flat_barren (Creates child body on) h p k n s = absurd h
flat_barren (Changes new on) h p k n s = absurd h
flat_barren (Ends b) h p k n s = (tt, tt)

taken_barren : (ms : List Member) (s : Store) → Every Quiet ms → Barren (turns_taken ms s)
taken_barren [] s h = tt
taken_barren (m ∷ ms) s h =
    every_append (λ m. Creating m.deed) (turn m s) (turns_taken ms (after (turn m s) s)) (tt, flat_barren m.course h.0 m.path 0 m.steps (seen_by m s))
    (taken_barren ms (after (turn m s) s) h.1)

-- a created task at a path below, and what it has done by the end of a run
record Makes' (p : Path) (k : ℕ) (r : Ran) (q : Path) (t : Task) : Type 0 where
  below : Below p k q
  proper : Proper t.spec t.course
  may : may_commute t.spec ≡ true
  stage : Stage q (commuting_on t.spec) (deeds_at q r.marks) r.world.waiting

abbrev MadeBy : Path → ℕ → Ran → Path → Deed → Type 0
MadeBy p k r q (DidCreate t n) = Makes' p k r q t
MadeBy p k r q (DidTurn o) = Unit {0}
MadeBy p k r q (DidRead o c v) = Unit {0}
MadeBy p k r q (DidWrite o c v) = Unit {0}
MadeBy p k r q (DidEnd b n) = Unit {0}

abbrev Made : Path → ℕ → Ran → Mark → Type 0
Made p k r m = MadeBy p k r (child_path m.path m.children) m.deed

-- what is made in a run is made in one around it
move_by : (p p' : Path) (k k' : ℕ) (r s : Ran) → ((q : Path) → Below p k q → Below p' k' q)
    → ((q : Path) (x : Option ℕ) → Below p k q → Stage q x (deeds_at q r.marks) r.world.waiting → Stage q x (deeds_at q s.marks) s.world.waiting)
    → (q : Path) (d : Deed) → MadeBy p k r q d → MadeBy p' k' s q d
move_by p p' k k' r s f g q (DidCreate t n) h =
    record { below = f q h.below; proper = h.proper; may = h.may; stage = g q (commuting_on t.spec) h.below h.stage }
move_by p p' k k' r s f g q (DidTurn o) h = tt
move_by p p' k k' r s f g q (DidRead o c v) h = tt
move_by p p' k k' r s f g q (DidWrite o c v) h = tt
move_by p p' k k' r s f g q (DidEnd b n) h = tt

moved : (p p' : Path) (k k' : ℕ) (r s : Ran) → ((q : Path) → Below p k q → Below p' k' q)
    → ((q : Path) (x : Option ℕ) → Below p k q → Stage q x (deeds_at q r.marks) r.world.waiting → Stage q x (deeds_at q s.marks) s.world.waiting)
    → (ms : List Mark) → Every (Made p k r) ms → Every (Made p' k' s) ms
moved p p' k k' r s f g ms h =
    every_with (Made p k r) (Made p' k' s) (λ m i. move_by p p' k k' r s f g (child_path m.path m.children) m.deed i) ms h

barren_by : (p : Path) (k : ℕ) (r : Ran) (q : Path) (d : Deed) → Creating d → MadeBy p k r q d
barren_by p k r q (DidCreate t n) h = absurd h
barren_by p k r q (DidTurn o) h = tt
barren_by p k r q (DidRead o c v) h = tt
barren_by p k r q (DidWrite o c v) h = tt
barren_by p k r q (DidEnd b n) h = tt

barren_made : (p : Path) (k : ℕ) (r : Ran) (ms : List Mark) → Barren ms → Every (Made p k r) ms
barren_made p k r ms h =
    every_with (λ (m : Mark). Creating m.deed) (Made p k r) (λ m i. barren_by p k r (child_path m.path m.children) m.deed i) ms h

-- a stage with marks before it that are none of the task's
staged : (q : Path) (x : Option ℕ) (ms : List Mark) (r : Ran) → deeds_at q ms ≡ [] → Stage q x (deeds_at q r.marks) r.world.waiting
    → Stage q x (deeds_at q (ms ++ r.marks)) r.world.waiting
staged q x ms r e h =
    subst (λ ds. Stage q x ds r.world.waiting) (sym (at_both q ms r.marks ∙ ap (λ ds. ds ++ deeds_at q r.marks) e)) h

-- what a run of the task at a path tells of its own deeds and of those whom it creates
record Tells (p : Path) (k : ℕ) (r : Ran) : Type 0 where
  own : Plainly p (deeds_at p r.marks) r.world.waiting
  made : Every (Made p k r) r.marks

settled_first : (p : Path) (k : ℕ) (a r : Ran) → Barren a.marks → ((q : Path) → Within p k q → deeds_at q a.marks ≡ []) → Tells p k r → Tells p k (first a.marks r)
settled_first p k a r barren quiet t = record {
  own = staged p None a.marks r (quiet p (here p k)) t.own;
  made = every_append (Made p k (first a.marks r)) a.marks r.marks (barren_made p k (first a.marks r) a.marks barren)
      (moved p p k k r (first a.marks r) (λ q b. b) (λ q x b s. staged q x a.marks r (quiet q (below_within p k q b)) s) r.marks t.made);
}

own_first : (p : Path) (k : ℕ) (d : Deed) (r : Ran) → but_turn d ≡ Some d → Creating d → Tells p k r → Tells p k (first (at_path p k d ∷ []) r)
own_first p k d r plain not t =
    let m = at_path p k d in
    record {
      own = record { plain = more_deeds d (deeds_at p r.marks) _ plain (at_on p m r.marks (same_self p)) t.own.plain; gone = t.own.gone };
      made = (
        barren_by p k (first (m ∷ []) r) (child_path p k) d not,
        moved p p k k r (first (m ∷ []) r) (λ q b. b) (λ q x b s. staged q x (m ∷ []) r (at_off q m [] (below_off p k q b)) s) r.marks t.made,
      );
    }

-- the run of a created task, or its waiting
record Inner (q : Path) (x : Option ℕ) (w : World) (r : Ran) : Type 0 where
  quiet : Every Quiet r.world.waiting
  keeps : (z : Path) → Off (Within q 0) z → Keeps z w r
  stage : Stage q x (deeds_at q r.marks) r.world.waiting
  made : Every (Made q 0 r) r.marks

module _ (T : ℕ → List Path) where
  settle_barren : (o : ℕ) (w : World) → Every Quiet w.waiting → Barren (settle T o w)
  settle_barren o w h =
      taken_barren (arranged (T o) (group o w.waiting)) w.store (every_arranged Quiet (T o) (group o w.waiting) (every_group Quiet o w.waiting h))

  all_barren : (os : List ℕ) (w : World) → Every Quiet w.waiting → Barren (settle_all T os w).marks
  all_barren [] w h = tt
  all_barren (o ∷ os) w h =
      every_append (λ m. Creating m.deed) (settle T o w) (settle_all T os (settled T o w)).marks (settle_barren o w h)
      (all_barren os (settled T o w) (every_others Quiet o w.waiting h))

  -- a run leaves quiet members, and keeps those elsewhere
  record Calm (p : Path) (k : ℕ) (w : World) (r : Ran) : Type 0 where
    quiet : Every Quiet r.world.waiting
    keeps : (q : Path) → Off (Within p k) q → Keeps q w r

  -- a commuting task joins those that wait
  joined_keeps : (q y : Path) (o : ℕ) (child : Specification) (b : Bared) (w : World) → same_path y q ≡ false
      → Keeps q w (record { marks = []; world = joined y o (rights_on child) b w })
  joined_keeps q y o child b w e =
      let m : Member = record { path = y; object = o; course = b.course; steps = b.steps; kept = kept_from 0 (rights_on child) w.store } in
      still_keeps q w (record { marks = []; world = joined y o (rights_on child) b w }) refl
      (counted_both q w.waiting (m ∷ []) ∙ none (counted q w.waiting) _ (seen q m false e))
      (λ x a. every_append (At q x) w.waiting (m ∷ []) a ((λ i. absurd (let z : false ≡ true = sym e ∙ i in cc)), tt))
    where
      none : (a b : ℕ) → b ≡ 0 → a + (b + 0) ≡ a
      none a b e = omega arith

  entered_calm : (x : Option ℕ) (q : Path) (child : Specification) (body : Course) (w : World) → commuting_on child ≡ x → Proper child body → Every Quiet w.waiting
      → Calm q 0 w (run T q child body 0 0 w) → Calm q 0 w (entered x q child body (λ y. run T q child body 0 0 y) w)
  entered_calm None q child body w e f h c = c
  entered_calm (Some o) q child body w e f h c = record {
    quiet = every_append Quiet w.waiting _ h (flat_bared body (flat_of f o e) 0, tt);
    keeps = λ z off. joined_keeps z q o child (bared body 0) w (off q (here q 0));
  }

  run_calm : {spec : Specification} {c : Course} → Proper spec c → (p : Path) (k n : ℕ) (w : World) → Every Quiet w.waiting → Calm p k w (run T p spec c k n w)
  run_calm {spec} (proper_read {o = o} {c = c} {on = on} i f) p k n w h =
      let v = settled T o w in
      let m = at_path p k (DidRead o c (cell v.store o c)) in
      let rest = run T p spec (on (cell v.store o c)) k n v in
      let r = run_calm (f (cell v.store o c)) p k n v (every_others Quiet o w.waiting h) in
      record {
        quiet = r.quiet;
        keeps = λ q off. subst (Keeps q w) (sym (first_both T T (settle T o w) (m ∷ []) rest))
            (then_keeps q w (ran_of T o w) (first (m ∷ []) rest) (settle_keeps T o w h q) (mark_keeps q v m rest (off p (here p k)) (r.keeps q off)));
      }
  run_calm {spec} (proper_write {o = o} {c = c} {v = z} {on = on} i f) p k n w h =
      let v = settled T o w in
      let u : World = record v { store = with_cell v.store o c z } in
      let m = at_path p k (DidWrite o c z) in
      let rest = run T p spec on k n u in
      let r = run_calm f p k n u (every_others Quiet o w.waiting h) in
      record {
        quiet = r.quiet;
        keeps = λ q off. let s = r.keeps q off in subst (Keeps q w) (sym (first_both T T (settle T o w) (m ∷ []) rest))
            (then_keeps q w (ran_of T o w) (first (m ∷ []) rest) (settle_keeps T o w h q)
            (mark_keeps q v m rest (off p (here p k)) (record { none = s.none; one = s.one })));
      }
  run_calm (proper_step f) p k n w h = let r = run_calm f p k (suc n) w h in record { quiet = r.quiet; keeps = r.keeps }
  run_calm {spec} (proper_create {child = child} {body = body} {on = on} none may covered sized f g) p k n w h =
      let y = p ++ k ∷ [] in
      let d = at_path p k (DidCreate (record { spec = child; course = body }) n) in
      let s = settle_all T (touched_at_once child) w in
      let hs = all_quiet T (touched_at_once child) w h in
      let i = entered (commuting_on child) y child body (λ x. run T y child body 0 0 x) s.world in
      let e = entered_calm (commuting_on child) y child body s.world refl f hs (run_calm f y 0 0 s.world hs) in
      let rest = run T p spec on (suc k) 0 i.world in
      let r = run_calm g p (suc k) 0 i.world e.quiet in
      record {
        quiet = r.quiet;
        keeps = λ q off. subst (Keeps q w) (sym (create_shape T T T p spec child body on k n w))
            (mark_keeps q w d (first s.marks (first i.marks rest)) (off p (here p k))
            (then_keeps q w s (first i.marks rest) (all_keeps T (touched_at_once child) w h q)
            (then_keeps q s.world i rest (e.keeps q (λ z j. off z (inner_within p k z j))) (r.keeps q (λ z j. off z (later_within p k z j))))));
      }
  run_calm {spec} (proper_change {new = new} {on = on} none more f) p k n w h =
      let s = settle_all T (made_touchable spec new) w in
      let r = run_calm f p k n s.world (all_quiet T (made_touchable spec new) w h) in
      record {
        quiet = r.quiet;
        keeps = λ q off. then_keeps q w s (run T p new on k n s.world) (all_keeps T (made_touchable spec new) w h q) (r.keeps q off);
      }
  run_calm (proper_end {b = b}) p k n w h = record {
    quiet = h;
    keeps = λ q off. mark_keeps q w (at_path p k (DidEnd b n)) (record { marks = []; world = w }) (off p (here p k))
        (still_keeps q w (record { marks = []; world = w }) refl refl (λ o a. a));
  }

  abbrev Fresh : (Path → Type 0) → World → Type 0
  Fresh N w = (q : Path) → N q → counted q w.waiting ≡ 0

  entered_inner : (x : Option ℕ) (q : Path) (child : Specification) (body : Course) (w : World) → Fresh (Within q 0) w
      → Calm q 0 w (entered x q child body (λ y. run T q child body 0 0 y) w) → Tells q 0 (run T q child body 0 0 w)
      → Inner q x w (entered x q child body (λ y. run T q child body 0 0 y) w)
  entered_inner None q child body w fresh c t = record { quiet = c.quiet; keeps = c.keeps; stage = t.own; made = t.made }
  entered_inner (Some o) q child body w fresh c t =
      let b = bared body 0 in
      let m : Member = record { path = q; object = o; course = b.course; steps = b.steps; kept = kept_from 0 (rights_on child) w.store } in
      let none = fresh q (here q 0) in
      record {
        quiet = c.quiet;
        keeps = c.keeps;
        stage = inl (record {
          none = refl;
          one = counted_both q w.waiting (m ∷ []) ∙ one_more (counted q w.waiting) _ none (seen q m true (same_self q));
          at = every_append (At q o) w.waiting (m ∷ []) (none_at q o w.waiting none) ((λ i. refl), tt);
        });
        made = tt;
      }
    where
      one_more : (a b : ℕ) → a ≡ 0 → b ≡ 1 → a + (b + 0) ≡ 1
      one_more a b e f = omega arith

  run_tells : {spec : Specification} {c : Course} → Proper spec c → (p : Path) (k n : ℕ) (w : World) → Every Quiet w.waiting → Fresh (Within p k) w
      → Tells p k (run T p spec c k n w)
  run_tells {spec} (proper_read {o = o} {c = c} {on = on} i f) p k n w h fresh =
      let v = settled T o w in
      let d = DidRead o c (cell v.store o c) in
      let rest = run T p spec (on (cell v.store o c)) k n v in
      let quiet = λ (q : Path) (j : Within p k q). (settle_keeps T o w h q).none (fresh q j) in
      let r = run_tells (f (cell v.store o c)) p k n v (every_others Quiet o w.waiting h) (λ q j. (quiet q j).1) in
      subst (Tells p k) (sym (first_both T T (settle T o w) (at_path p k d ∷ []) rest))
      (settled_first p k (ran_of T o w) (first (at_path p k d ∷ []) rest) (settle_barren o w h) (λ q j. (quiet q j).0) (own_first p k d rest refl tt r))
  run_tells {spec} (proper_write {o = o} {c = c} {v = z} {on = on} i f) p k n w h fresh =
      let v = settled T o w in
      let u : World = record v { store = with_cell v.store o c z } in
      let d = DidWrite o c z in
      let rest = run T p spec on k n u in
      let quiet = λ (q : Path) (j : Within p k q). (settle_keeps T o w h q).none (fresh q j) in
      let r = run_tells f p k n u (every_others Quiet o w.waiting h) (λ q j. (quiet q j).1) in
      subst (Tells p k) (sym (first_both T T (settle T o w) (at_path p k d ∷ []) rest))
      (settled_first p k (ran_of T o w) (first (at_path p k d ∷ []) rest) (settle_barren o w h) (λ q j. (quiet q j).0) (own_first p k d rest refl tt r))
  run_tells (proper_step f) p k n w h fresh = run_tells f p k (suc n) w h fresh
  run_tells {spec} (proper_create {child = child} {body = body} {on = on} none may covered sized f g) p k n w h fresh =
      let y = p ++ k ∷ [] in
      let t : Task = record { spec = child; course = body } in
      let x = commuting_on child in
      let d = DidCreate t n in
      let m = at_path p k d in
      let s = settle_all T (touched_at_once child) w in
      let hs = all_quiet T (touched_at_once child) w h in
      let quiet = λ (q : Path) (j : Within p k q). (all_keeps T (touched_at_once child) w h q).none (fresh q j) in
      let below : Fresh (Within y 0) s.world = λ q j. (quiet q (inner_within p k q j)).1 in
      let i = entered x y child body (λ z. run T y child body 0 0 z) s.world in
      let b = entered_inner x y child body s.world below (entered_calm x y child body s.world refl f hs (run_calm f y 0 0 s.world hs))
      (run_tells f y 0 0 s.world hs below) in
      let apart = λ (q : Path) (j : Within p (suc k) q). (b.keeps q (far p k q j)).none (quiet q (later_within p k q j)).1 in
      let rest = run T p spec on (suc k) 0 i.world in
      let c = run_calm g p (suc k) 0 i.world b.quiet in
      let r = run_tells g p (suc k) 0 i.world b.quiet (λ q j. (apart q j).1) in
      let two = first i.marks rest in
      let three = first s.marks two in
      let all = first (m ∷ []) three in
      let inner_on = λ (q : Path) (z : Option ℕ) (j : Within y 0 q) (a : Stage q z (deeds_at q i.marks) i.world.waiting).
      let stage : Stage q z (deeds_at q two.marks) two.world.waiting =
      subst (λ ds. Stage q z ds rest.world.waiting) (sym (at_both q i.marks rest.marks))
      (goes_on q z (deeds_at q i.marks) i.world rest (c.keeps q (far_on T T p k q j)) a) in stage in
      let front = λ (q : Path) (z : Option ℕ) (j : Below p k q) (a : Stage q z (deeds_at q two.marks) two.world.waiting).
      let stage : Stage q z (deeds_at q all.marks) all.world.waiting =
      staged q z (m ∷ []) three (at_off q m [] (below_off p k q j)) (staged q z s.marks two (quiet q (below_within p k q j)).0 a) in stage in
      let own_two : Plainly p (deeds_at p two.marks) two.world.waiting = staged p None i.marks rest (apart p (here p (suc k))).0 r.own in
      let own_three : Plainly p (deeds_at p three.marks) three.world.waiting = staged p None s.marks two (quiet p (here p k)).0 own_two in
      let self : Within y 0 y = here y 0 in
      subst (Tells p k) (sym (create_shape T T T p spec child body on k n w)) (record {
        own = record { plain = more_deeds d (deeds_at p three.marks) _ refl (at_on p m three.marks (same_self p)) own_three.plain; gone = own_three.gone };
        made = (
          record { below = inner_below p k y self; proper = f; may = may; stage = front y x (inner_below p k y self) (inner_on y x self b.stage) },
          every_append (Made p k all) s.marks two.marks (barren_made p k all s.marks (all_barren (touched_at_once child) w h))
              (every_append (Made p k all) i.marks rest.marks
              (moved y p 0 k i all (λ q j. inner_below p k q (below_within y 0 q j))
              (λ q z j a. front q z (inner_below p k q (below_within y 0 q j)) (inner_on q z (below_within y 0 q j) a)) i.marks b.made)
              (moved p p (suc k) k rest all (later_below p k)
              (λ q z j a. front q z (later_below p k q j) (staged q z i.marks rest (apart q (below_within p (suc k) q j)).0 a)) rest.marks r.made)),
        );
      })
  run_tells {spec} (proper_change {new = new} {on = on} none more f) p k n w h fresh =
      let s = settle_all T (made_touchable spec new) w in
      let quiet = λ (q : Path) (j : Within p k q). (all_keeps T (made_touchable spec new) w h q).none (fresh q j) in
      settled_first p k s (run T p new on k n s.world) (all_barren (made_touchable spec new) w h) (λ q j. (quiet q j).0)
      (run_tells f p k n s.world (all_quiet T (made_touchable spec new) w h) (λ q j. (quiet q j).1))
  run_tells (proper_end {b = b}) p k n w h fresh =
      own_first p k (DidEnd b n) (record { marks = []; world = w }) refl tt
      (record { own = record { plain = record { same = refl }; gone = fresh p (here p k) }; made = tt })

-- a task that has come to its end has done something
over_does : (es : List Event) → ends_with_resign es ≡ true → deeds es ≢ []
over_does [] h e = absurd (let z : true ≡ false = sym h in cc)
over_does (Resign b n ∷ []) h e = absurd (cc)
over_does (Enter o a ∷ []) h e = absurd (cc)
over_does (Enroll t n ∷ []) h e = absurd (cc)
over_does (Take o m ∷ []) h e = absurd (cc)
over_does (TouchRead o c v ∷ []) h e = absurd (cc)
over_does (TouchWrite o c v ∷ []) h e = absurd (cc)
over_does (Wants o c ∷ []) h e = absurd (cc)
over_does (Give o ∷ []) h e = absurd (cc)
over_does (Leave o ∷ []) h e = absurd (cc)
over_does (Shift o a ∷ []) h e = absurd (cc)
over_does (x ∷ (y ∷ es)) h e = over_does (y ∷ es) h (behind _ (deeds (y ∷ es)) e)
  where
    behind : (d : Option Deed) (ds : List Deed) → cons_option d ds ≡ [] → ds ≡ []
    behind None ds e = e
    behind (Some d) ds e = absurd (cc)

-- what is told of a task of which the turn is first
tells_its : (t : Task) (ds : List Deed) → Proper t.spec t.course → may_commute t.spec ≡ true → DoesIts ds t → TurnIsFirst (commuting_on t.spec) ds → TellsIts ds t
tells_its t ds proper may d f = record {
  first = f;
  same = talk_told t proper may _ ∙ ap (λ x. own_turn (commuting_on t.spec) ++ x) d.same ∙ whole (commuting_on t.spec) f;
}
  where
    whole : (x : Option ℕ) → TurnIsFirst x ds → own_turn x ++ filter_map but_turn ds ≡ ds
    whole None f = f.same
    whole (Some o) f = f.same

stage_first : (q : Path) (x : Option ℕ) (t : Task) (ds : List Deed) (ws : List Member) → DoesIts ds t → Stage q x ds ws → TurnIsFirst x ds
stage_first q None t ds ws d s = s.plain
stage_first q (Some o) t ds ws d (inl s) =
    let e : DoesIts [] t = subst (λ z. DoesIts z t) s.none d in
    absurd (over_does (talk t []) e.over.over e.same)
stage_first q (Some o) t ds ws d (inr s) = s.begins

made_tells : (p : Path) (k : ℕ) (r : Ran) (q : Path) (d : Deed) → MadeBy p k r q d → ChildDoesIts r.marks q d → ChildTellsIts r.marks q d
made_tells p k r q (DidCreate t n) m d =
    tells_its t (deeds_at q r.marks) m.proper m.may d (stage_first q (commuting_on t.spec) t (deeds_at q r.marks) r.world.waiting d m.stage)
made_tells p k r q (DidTurn o) m d = tt
made_tells p k r q (DidRead o c v) m d = tt
made_tells p k r q (DidWrite o c v) m d = tt
made_tells p k r q (DidEnd b n) m d = tt

pub turn_is_told : (p : AbstractProgram) (ns : List ℤ) (limit : ℕ) (T : ℕ → List Path) → Proper (root_spec p) (root_course p ns limit) → TalkFollowsSerial p ns limit T
    → TurnIsTold p ns limit T
turn_is_told p ns limit T proper follows =
    let root = 0 ∷ [] in
    let spec = root_spec p in
    let c = root_course p ns limit in
    let w : World = record { store = zeros (sizes p.items); waiting = [] } in
    let r = run T root spec c 0 0 w in
    let e = settle_all T (objects spec) r.world in
    let all = first r.marks e in
    let calm = run_calm T proper root 0 0 w tt in
    let t = run_tells T proper root 0 0 w tt (λ q i. refl) in
    let keeps = all_keeps T (objects spec) r.world calm.quiet in
    let on = λ (q : Path) (x : Option ℕ) (s : Stage q x (deeds_at q r.marks) r.world.waiting).
    let z : Stage q x (deeds_at q all.marks) all.world.waiting =
    subst (λ ds. Stage q x ds e.world.waiting) (sym (at_both q r.marks e.marks)) (goes_on q x (deeds_at q r.marks) r.world e (keeps q) s) in z in
    let made : Every (Made root 0 all) all.marks =
    every_append (Made root 0 all) r.marks e.marks (moved root root 0 0 r all (λ q b. b) (λ q x b s. on q x s) r.marks t.made)
    (barren_made root 0 all e.marks (all_barren T (objects spec) r.world calm.quiet)) in
    let plain = on root None t.own in
    record {
      root = tells_its (root_task p ns limit) (deeds_at root all.marks) proper (root_may (length (sizes p.items))) follows.root
          (subst (λ x. TurnIsFirst x (deeds_at root all.marks)) (sym (root_plain (length (sizes p.items)))) plain.plain);
      children = every_two (Made root 0 all) (λ m. ChildDoesIts all.marks (child_path m.path m.children) m.deed)
          (λ m. ChildTellsIts all.marks (child_path m.path m.children) m.deed)
          (λ m a b. made_tells root 0 all (child_path m.path m.children) m.deed a b) all.marks made follows.children;
    }
