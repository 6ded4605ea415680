-- Each task of a run by turn lists does by itself what the run has at its path, and its parts rise: one induction over the course.
use Rattle.std.proofs.Common.{◌≡◌, ◌≢◌, ℕ, zero, suc, ◌+◌, ◌≤◌, ◌<◌, Bool, true, false, ◌&&◌, List, [], ◌∷◌, ◌++◌, map, length, refl, sym, ap, ◌∙◌, subst, Option, Some, None}
use Rattle.std.proofs.Common.{arith, append-nil, append_assoc, ◌⊎◌, inl, inr}
use Rattle.std.specs.Prelude.{ℤ, nat_eq, if◌then◌else◌}
use Rattle.std.specs.List.{cons_option}
use Rattle.std.proofs.lemmas.Bool.{ne_eqb, eq-eqb}
use Rattle.std.proofs.lemmas.Bool.Decides.{eqb_tells}
use Rattle.jade_base.specs.Rights.{is_there}
use Rattle.jade_syntax.specs.Abstract.{AbstractProgram}
use Rattle.jade_syntax.specs.Objects.{sizes}
use Rattle.jade_meaning.specs.Specification.{Specification, rights_on, numbers, objects, commuting_among, commuting_on}
use Rattle.jade_meaning.specs.Course.{Course, Reads, Writes, Steps, Creates, Changes, Ends, root_spec, root_course}
use Rattle.jade_meaning.specs.Talk.{Task}
use Rattle.jade_meaning.specs.Proper.{Proper, proper_read, proper_write, proper_step, proper_create, proper_change, proper_end}
use Rattle.jade_meaning.specs.Serial.{Mark, Path, Store, Deed, DidTurn, DidRead, DidWrite, DidCreate, DidEnd, serial, own, same_path, marks_at, deeds_at, after, cell}
use Rattle.jade_meaning.specs.Serial.{with_cell, Part, part_of_deed, parts, zeros}
use Rattle.jade_meaning.specs.Turns.{Member, World, Ran, below, at_path, group, others, arranged, turn, turns_taken, seen_by, bared, kept_from, joined}
use Rattle.jade_meaning.specs.Turns.{settle, settled, settle_all, first, entered, run, touched_at_once, made_touchable, whole_run, marks_by}
use Rattle.jade_meaning.specs.Laws.{Every, DoesIts, ChildDoesIts, child_path, root_task, TalkFollowsSerial}
use Rattle.jade_meaning.proofs.Bounds.{keeps}
use Rattle.jade_meaning.proofs.Groups.{every_append, every_arranged, every_group}
use Rattle.jade_meaning.proofs.Filling.{Off, Nothing, From, Within, ran_of, same_self, same_front, every_with}
use Rattle.jade_meaning.proofs.Pieces.{Childless, less_read, less_write, less_step, less_change, less_end, at_q, marks_both, at_both, mark_off, mark_on, at_off, at_on}
use Rattle.jade_meaning.proofs.Pieces.{Waits, Fares, still, turned, Piece, nothing_piece, then_piece, mark_piece, settle_piece, all_piece}
use Rattle.jade_meaning.proofs.Talks.{Says, read_says, write_says, step_says, create_says, change_says, end_says, does_its}

-- deeds
abbrev pub deeds_of : List Mark → List Deed
deeds_of ms = map (λ m. m.deed) ms

deeds_here : (q : Path) (ms : List Mark) → deeds_at q ms ≡ deeds_of (marks_at q ms)
deeds_here q [] = refl
deeds_here q (m ∷ ms) = go (same_path m.path q) (deeds_here q ms)
  where
    go : (b : Bool) → deeds_at q ms ≡ deeds_of (marks_at q ms) → cons_option (if b then Some m.deed else None) (deeds_at q ms)
        ≡ deeds_of (cons_option (if b then Some m else None) (marks_at q ms))
    go true e = ap (λ ds. m.deed ∷ ds) e
    go false e = e

-- the numbers of the parts of one task rise, from k on
abbrev pub Rise : ℕ → List Part → Type 0
Rise k [] = Unit {0}
Rise k (p ∷ ps) = k ≤ p.children × Rise (suc p.children) ps

-- a childless course says its deeds
childless_says : {c : Course} → Childless c → (p : Path) (k n : ℕ) (s : Store) → Says c n (deeds_of (marks_at p (map (below p) (serial c k n s))))
childless_says (less_read {o = o} {c = c} {on = on} h) p k n s =
    let rest = map (below p) (serial (on (cell s o c)) k n s) in
    subst (λ ms. Says (Reads o c on) n (deeds_of ms)) (sym (mark_on p (below p (own k (DidRead o c (cell s o c)))) rest (self_nil p)))
    (read_says o c (cell s o c) on n (deeds_of (marks_at p rest)) (childless_says (h (cell s o c)) p k n s))
  where
    self_nil : (p : Path) → same_path (p ++ []) p ≡ true
    self_nil p = ap (λ x. same_path x p) (append-nil p) ∙ same_self p
childless_says (less_write {o = o} {c = c} {v = v} {on = on} h) p k n s =
    let rest = map (below p) (serial on k n (with_cell s o c v)) in
    subst (λ ms. Says (Writes o c v on) n (deeds_of ms)) (sym (mark_on p (below p (own k (DidWrite o c v))) rest (self_nil p)))
    (write_says o c v on n (deeds_of (marks_at p rest)) (childless_says h p k n (with_cell s o c v)))
  where
    self_nil : (p : Path) → same_path (p ++ []) p ≡ true
    self_nil p = ap (λ x. same_path x p) (append-nil p) ∙ same_self p
childless_says (less_step {on = on} h) p k n s = step_says on n _ (childless_says h p k (suc n) s)
childless_says (less_change {new = new} {on = on} h) p k n s = change_says new on n _ (childless_says h p k n s)
childless_says (less_end {b = b}) p k n s =
    subst (λ ms. Says (Ends b) n (deeds_of ms)) (sym (mark_on p (below p (own k (DidEnd b n))) [] (ap (λ x. same_path x p) (append-nil p) ∙ same_self p)))
    (end_says b n)

childless_rise : {c : Course} → Childless c → (p : Path) (j k n : ℕ) (s : Store) → j ≤ k → Rise j (parts (marks_at p (map (below p) (serial c k n s))))
childless_rise (less_read {o = o} {c = c} {on = on} h) p j k n s le =
    subst (λ ms. Rise j (parts ms)) (sym (mark_on p (below p (own k (DidRead o c (cell s o c)))) (map (below p) (serial (on (cell s o c)) k n s))
    (ap (λ x. same_path x p) (append-nil p) ∙ same_self p))) (childless_rise (h (cell s o c)) p j k n s le)
childless_rise (less_write {o = o} {c = c} {v = v} {on = on} h) p j k n s le =
    subst (λ ms. Rise j (parts ms)) (sym (mark_on p (below p (own k (DidWrite o c v))) (map (below p) (serial on k n (with_cell s o c v)))
    (ap (λ x. same_path x p) (append-nil p) ∙ same_self p))) (childless_rise h p j k n (with_cell s o c v) le)
childless_rise (less_step h) p j k n s le = childless_rise h p j k (suc n) s le
childless_rise (less_change h) p j k n s le = childless_rise h p j k n s le
childless_rise (less_end {b = b}) p j k n s le =
    subst (λ ms. Rise j (parts ms)) (sym (mark_on p (below p (own k (DidEnd b n))) [] (ap (λ x. same_path x p) (append-nil p) ∙ same_self p))) (le, tt)

-- a course without its first steps
bared_says : (c : Course) (n : ℕ) (ds : List Deed) → Says (bared c n).course (bared c n).steps ds → Says c n ds
bared_says (Steps on) n ds h = step_says on n ds (bared_says on (suc n) ds h)
bared_says (Reads o c on) n ds h = h
bared_says (Writes o c v on) n ds h = h
bared_says (Creates child body on) n ds h = h
bared_says (Changes new on) n ds h = h
bared_says (Ends b) n ds h = h

bared_childless : {c : Course} → Childless c → (n : ℕ) → Childless (bared c n).course
bared_childless (less_step h) n = bared_childless h (suc n)
bared_childless (less_read h) n = less_read h
bared_childless (less_write h) n = less_write h
bared_childless (less_change h) n = less_change h
bared_childless less_end n = less_end

-- a task that commutes creates none
commuting_childless : {spec : Specification} {c : Course} → Proper spec c → (o : ℕ) → commuting_on spec ≡ Some o → Childless c
commuting_childless (proper_read i f) o e = less_read (λ v. commuting_childless (f v) o e)
commuting_childless (proper_write i f) o e = less_write (commuting_childless f o e)
commuting_childless (proper_step f) o e = less_step (commuting_childless f o e)
commuting_childless (proper_create none may i z p q) o e = absurd (cc)
commuting_childless (proper_change none m p) o e = absurd (cc)
commuting_childless proper_end o e = less_end

pub among_below : (spec : Specification) (a n o : ℕ) → commuting_among spec (numbers a n) ≡ Some o → o < a + n
among_below spec a zero o e = absurd (cc)
among_below spec a (suc n) o e = go (is_there (rights_on spec a).commutes) e (λ i. among_below spec (suc a) n o i)
  where
    go : (b : Bool) → (if b then Some a else commuting_among spec (numbers (suc a) n)) ≡ Some o
        → (commuting_among spec (numbers (suc a) n) ≡ Some o → o < suc a + n) → o < a + suc n
    go true e h = let i : a ≡ o = cc in omega (arith, i)
    go false e h = omega (arith, h e)

-- paths below another, from child number k on
pub record Below (p : Path) (k : ℕ) (q : Path) : Type 0 where
  pub child : ℕ
  pub rest : Path
  pub is : q ≡ p ++ (child ∷ rest)
  pub from : k ≤ child

pub below_within : (p : Path) (k : ℕ) (q : Path) → Below p k q → Within p k q
below_within p k q b = record { rest = b.child ∷ b.rest; is = b.is; from = b.from }

longer : (p : Path) (j : ℕ) (r : Path) → same_path p (p ++ (j ∷ r)) ≡ false
longer [] j r = refl
longer (i ∷ p) j r = ap (λ x. x && same_path p (p ++ (j ∷ r))) (eq-eqb i i refl) ∙ longer p j r

below_off : (p : Path) (k : ℕ) (q : Path) → Below p k q → same_path p q ≡ false
below_off p k q b = ap (same_path p) b.is ∙ longer p b.child b.rest

-- what lies at a child or below it is nothing of what comes later, and the other way round
near : (p : Path) (k : ℕ) (q : Path) → Within (p ++ k ∷ []) 0 q → Off (Within p (suc k)) q
near p k q i y j =
    ap (λ x. same_path y x) (i.is ∙ append_assoc p (k ∷ []) i.rest) ∙ ap (λ x. same_path x (p ++ (k ∷ i.rest))) j.is
    ∙ same_front p j.rest (k ∷ i.rest) ∙ go j.rest j.from
  where
    go : (r : Path) → From (suc k) r → same_path r (k ∷ i.rest) ≡ false
    go [] f = refl
    go (a ∷ r) f = ap (λ b. b && same_path r i.rest) (ne_eqb a k (λ e. absurd (let lt : suc k ≤ a = f in omega arith)))

far : (p : Path) (k : ℕ) (q : Path) → Within p (suc k) q → Off (Within (p ++ k ∷ []) 0) q
far p k q j y i =
    ap (λ x. same_path x q) (i.is ∙ append_assoc p (k ∷ []) i.rest) ∙ ap (λ x. same_path (p ++ (k ∷ i.rest)) x) j.is
    ∙ same_front p (k ∷ i.rest) j.rest ∙ go j.rest j.from
  where
    go : (r : Path) → From (suc k) r → same_path (k ∷ i.rest) r ≡ false
    go [] f = refl
    go (a ∷ r) f = ap (λ b. b && same_path i.rest r) (ne_eqb k a (λ e. absurd (let lt : suc k ≤ a = f in omega arith)))

inner_below : (p : Path) (k : ℕ) (q : Path) → Within (p ++ k ∷ []) 0 q → Below p k q
inner_below p k q i = record { child = k; rest = i.rest; is = i.is ∙ append_assoc p (k ∷ []) i.rest; from = omega arith }

inner_within : (p : Path) (k : ℕ) (q : Path) → Within (p ++ k ∷ []) 0 q → Within p k q
inner_within p k q i = below_within p k q (inner_below p k q i)

later_below : (p : Path) (k : ℕ) (q : Path) → Below p (suc k) q → Below p k q
later_below p k q b = let le : suc k ≤ b.child = b.from in record { child = b.child; rest = b.rest; is = b.is; from = omega arith }

later_within : (p : Path) (k : ℕ) (q : Path) → Within p (suc k) q → Within p k q
later_within p k q i = record { rest = i.rest; is = i.is; from = go i.rest i.from }
  where
    go : (r : Path) → From (suc k) r → From k r
    go [] f = tt
    go (j ∷ r) f = omega arith

here : (p : Path) (k : ℕ) → Within p k p
here p k = record { rest = []; is = sym (append-nil p); from = tt }

split_below : (p : Path) (k : ℕ) (q : Path) → Below p k q → (Within (p ++ k ∷ []) 0 q) ⊎ Below p (suc k) q
split_below p k q b = go (eqb_tells k b.child)
  where
    from_zero : (r : Path) → From 0 r
    from_zero [] = tt
    from_zero (j ∷ r) = omega arith

    go : ((nat_eq k b.child ≡ true) × (k ≡ b.child)) ⊎ ((nat_eq k b.child ≡ false) × (k ≢ b.child)) → (Within (p ++ k ∷ []) 0 q) ⊎ Below p (suc k) q
    go (inl e) =
        inl (record { rest = b.rest; is = b.is ∙ ap (λ j. p ++ (j ∷ b.rest)) (sym e.1) ∙ sym (append_assoc p (k ∷ []) b.rest); from = from_zero b.rest })
    go (inr e) =
        let le : k ≤ b.child = b.from in
        let ne : k ≢ b.child = e.1 in
        inr (record { child = b.child; rest = b.rest; is = b.is; from = omega arith })

split_inner : (q : Path) (z : Path) → Within q 0 z → (z ≡ q) ⊎ Below q 0 z
split_inner q z i = go i.rest i.is
  where
    go : (r : Path) → z ≡ q ++ r → (z ≡ q) ⊎ Below q 0 z
    go [] e = inl (e ∙ append-nil q)
    go (j ∷ r) e = inr (record { child = j; rest = r; is = e; from = omega arith })

-- the task at a path is done, and its marks are good, or it waits, and they will be
pub data State (G : List Mark → Type 0) (q : Path) (r : Ran) : Type 0 where
  is_done : at_q q r.world.waiting ≡ [] → G (marks_at q r.marks) → State G q r
  is_waiting : (m : Member) → at_q q r.world.waiting ≡ m ∷ [] → marks_at q r.marks ≡ [] → ((s : Store) → G (marks_at q (turn m s))) → State G q r

then_state : (G : List Mark → Type 0) (n : ℕ) (B : Path → Type 0) (q : Path) (r s : Ran) → Piece n B r.world s → Off B q → State G q r → State G q (first r.marks s)
then_state G n B q r s b off (is_done e g) =
    let y = b.calm q off e in
    is_done y.1 (subst G (sym (marks_both q r.marks s.marks ∙ ap (λ l. marks_at q r.marks ++ l) y.0 ∙ append-nil _)) g)
then_state G n B q r s b off (is_waiting m e z g) = go (b.fares q off m e)
  where
    front : marks_at q (r.marks ++ s.marks) ≡ marks_at q s.marks
    front = marks_both q r.marks s.marks ∙ ap (λ l. l ++ marks_at q s.marks) z

    go : Fares q m s → State G q (first r.marks s)
    go (still a i) = is_waiting m i (front ∙ a) g
    go (turned t i) = is_done i (subst G (sym (front ∙ t.same)) (g t.store))

before_state : (G : List Mark → Type 0) (q : Path) (ms : List Mark) (r : Ran) → marks_at q ms ≡ [] → State G q r → State G q (first ms r)
before_state G q ms r z (is_done e g) = is_done e (subst G (sym (marks_both q ms r.marks ∙ ap (λ l. l ++ marks_at q r.marks) z)) g)
before_state G q ms r z (is_waiting m e a g) = is_waiting m e (marks_both q ms r.marks ∙ ap (λ l. l ++ marks_at q r.marks) z ∙ a) g

-- a created task does what the run has at its path, or will do so
abbrev pub Does : Task → List Mark → Type 0
Does t ms = DoesIts (deeds_of ms) t

abbrev Rises : List Mark → Type 0
Rises ms = Rise 0 (parts ms)

abbrev MadeBy : Path → ℕ → Ran → Path → Deed → Type 0
MadeBy p k r q (DidCreate t n) = Below p k q × State (Does t) q r
MadeBy p k r q (DidTurn o) = Unit {0}
MadeBy p k r q (DidRead o c v) = Unit {0}
MadeBy p k r q (DidWrite o c v) = Unit {0}
MadeBy p k r q (DidEnd b n) = Unit {0}

abbrev Made : Path → ℕ → Ran → Mark → Type 0
Made p k r m = MadeBy p k r (child_path m.path m.children) m.deed

move_made : (p p' : Path) (k k' : ℕ) (r s : Ran) → ((q : Path) → Below p k q → Below p' k' q)
    → ((G : List Mark → Type 0) (q : Path) → Below p k q → State G q r → State G q s) → (q : Path) (d : Deed) → MadeBy p k r q d → MadeBy p' k' s q d
move_made p p' k k' r s f g q (DidCreate t n) h = (f q h.0, g (Does t) q h.0 h.1)
move_made p p' k k' r s f g q (DidTurn o) h = tt
move_made p p' k k' r s f g q (DidRead o c v) h = tt
move_made p p' k k' r s f g q (DidWrite o c v) h = tt
move_made p p' k k' r s f g q (DidEnd b n) h = tt

-- marks that create nobody
abbrev Creating : Deed → Type 0
Creating (DidCreate t n) = ⊥
Creating (DidTurn o) = Unit {0}
Creating (DidRead o c v) = Unit {0}
Creating (DidWrite o c v) = Unit {0}
Creating (DidEnd b n) = Unit {0}

abbrev Barren : List Mark → Type 0
Barren ms = Every (λ m. Creating m.deed) ms

barren_made : (p : Path) (k : ℕ) (r : Ran) (q : Path) (d : Deed) → Creating d → MadeBy p k r q d
barren_made p k r q (DidCreate t n) h = absurd h
barren_made p k r q (DidTurn o) h = tt
barren_made p k r q (DidRead o c v) h = tt
barren_made p k r q (DidWrite o c v) h = tt
barren_made p k r q (DidEnd b n) h = tt

childless_barren : {c : Course} → Childless c → (p : Path) (k n : ℕ) (s : Store) → Barren (map (below p) (serial c k n s))
childless_barren (less_read {o = o} {c = c} h) p k n s = (tt, childless_barren (h (cell s o c)) p k n s)
childless_barren (less_write {o = o} {c = c} {v = v} h) p k n s = (tt, childless_barren h p k n (with_cell s o c v))
childless_barren (less_step h) p k n s = childless_barren h p k (suc n) s
childless_barren (less_change h) p k n s = childless_barren h p k n s
childless_barren less_end p k n s = (tt, tt)

taken_barren : (n : ℕ) (ms : List Member) (s : Store) → Every (Waits n) ms → Barren (turns_taken ms s)
taken_barren n [] s h = tt
taken_barren n (m ∷ ms) s h =
    every_append (λ m. Creating m.deed) (turn m s) (turns_taken ms (after (turn m s) s)) (tt, childless_barren h.0.0 m.path 0 m.steps (seen_by m s))
    (taken_barren n ms (after (turn m s) s) h.1)

-- what a run of the task at a path tells of its own parts and of those below it
record Tells (size : ℕ) (p : Path) (k : ℕ) (w : World) (r : Ran) : Type 1 where
  piece : Piece size (Within p k) w r
  own : at_q p r.world.waiting ≡ []
  rises : Rise k (parts (marks_at p r.marks))
  below : (q : Path) → Below p k q → State Rises q r
  made : Every (Made p k r) r.marks

-- the run of a created task, or its waiting
record Inner (size : ℕ) (t : Task) (q : Path) (w : World) (r : Ran) : Type 1 where
  piece : Piece size (Within q 0) w r
  does : State (Does t) q r
  rises : State Rises q r
  below : (z : Path) → Below q 0 z → State Rises z r
  made : Every (Made q 0 r) r.marks

abbrev Fresh : (Path → Type 0) → World → Type 0
Fresh N w = (q : Path) → N q → at_q q w.waiting ≡ []

-- a deed of its own in front that creates nobody
own_first : (size : ℕ) (p : Path) (k : ℕ) (w : World) (d : Deed) (r : Ran) → Creating d → part_of_deed d (at_path p k d) ≡ None → Tells size p k w r
    → Tells size p k w (first (at_path p k d ∷ []) r)
own_first size p k w d r not none t =
    let m = at_path p k d in
    record {
      piece = mark_piece size (Within p k) w m r (here p k) t.piece;
      own = t.own;
      rises = subst (λ ms. Rise k (parts ms)) (sym (mark_on p m r.marks (same_self p)))
          (subst (λ (x : Option Part). Rise k (cons_option x (parts (marks_at p r.marks)))) (sym none) t.rises);
      below = λ q b. before_state Rises q (m ∷ []) r (mark_off q m [] (below_off p k q b)) (t.below q b);
      made = (
        barren_made p k _ (child_path p k) d not,
        every_with (Made p k r) (Made p k (first (m ∷ []) r)) (λ x h.
            move_made p p k k r (first (m ∷ []) r) (λ q b. b) (λ G q b s. before_state G q (m ∷ []) r (mark_off q m [] (below_off p k q b)) s)
            (child_path x.path x.children) x.deed h) r.marks t.made,
      );
    }

-- groups that are settled in front
settled_first : (size : ℕ) (p : Path) (k : ℕ) (w : World) (a r : Ran) → Barren a.marks → Piece size Nothing w a → Fresh (Within p k) w
    → Tells size p k a.world r → Tells size p k w (first a.marks r)
settled_first size p k w a r barren q fresh t =
    let quiet = λ (z : Path) (i : Within p k z). (q.calm z (λ y i. absurd i) (fresh z i)).0 in
    record {
      piece = then_piece size Nothing (Within p k) (Within p k) w a r (λ z i. absurd i) (λ z i. i) q t.piece;
      own = t.own;
      rises = subst (λ ms. Rise k (parts ms)) (sym (marks_both p a.marks r.marks ∙ ap (λ l. l ++ marks_at p r.marks) (quiet p (here p k)))) t.rises;
      below = λ z b. before_state Rises z a.marks r (quiet z (below_within p k z b)) (t.below z b);
      made = every_append (Made p k (first a.marks r)) a.marks r.marks
          (every_with (λ (m : Mark). Creating m.deed) (Made p k (first a.marks r))
          (λ m h. barren_made p k (first a.marks r) (child_path m.path m.children) m.deed h) a.marks barren)
          (every_with (Made p k r) (Made p k (first a.marks r)) (λ x h.
          move_made p p k k r (first a.marks r) (λ z b. b) (λ G z b s. before_state G z a.marks r (quiet z (below_within p k z b)) s)
          (child_path x.path x.children) x.deed h) r.marks t.made);
    }

-- and the deeds of its own
own_deeds : (q : Path) (m : Mark) (ms : List Mark) → same_path m.path q ≡ true → deeds_of (marks_at q (m ∷ ms)) ≡ m.deed ∷ deeds_of (marks_at q ms)
own_deeds q m ms e = ap deeds_of (mark_on q m ms e)

quiet_deeds : (q : Path) (a b : List Mark) → marks_at q a ≡ [] → deeds_of (marks_at q (a ++ b)) ≡ deeds_of (marks_at q b)
quiet_deeds q a b z = ap deeds_of (marks_both q a b ∙ ap (λ l. l ++ marks_at q b) z)

module _ (T : ℕ → List Path) (size : ℕ) where
  settle_barren : (o : ℕ) (w : World) → Every (Waits size) w.waiting → Barren (settle T o w)
  settle_barren o w h =
      taken_barren size (arranged (T o) (group o w.waiting)) w.store (every_arranged (Waits size) (T o) (group o w.waiting)
      (every_group (Waits size) o w.waiting h))

  all_barren : (os : List ℕ) (w : World) → Every (Waits size) w.waiting → Barren (settle_all T os w).marks
  all_barren [] w h = tt
  all_barren (o ∷ os) w h =
      every_append (λ m. Creating m.deed) (settle T o w) (settle_all T os (settled T o w)).marks (settle_barren o w h)
      (all_barren os (settled T o w) (settle_piece T size o w h).idle)

  -- a created task that commutes waits
  joined_inner : (child : Specification) (body : Course) (o : ℕ) (q : Path) (w : World) → commuting_on child ≡ Some o → Proper child body → length child ≡ size
      → Every (Waits size) w.waiting → Fresh (Within q 0) w
      → Inner size (record { spec = child; course = body }) q w (record { marks = []; world = joined q o (rights_on child) (bared body 0) w })
  joined_inner child body o q w e proper z idle fresh =
      let t : Task = record { spec = child; course = body } in
      let less = bared_childless (commuting_childless proper o e) 0 in
      let b = bared body 0 in
      let m : Member = record { path = q; object = o; course = b.course; steps = b.steps; kept = kept_from 0 (rights_on child) w.store } in
      let r : Ran = record { marks = []; world = joined q o (rights_on child) b w } in
      let within : o < length child = let l = among_below child 0 (length child) o e in omega (arith, l) in
      let lt : o < size = subst (λ n. o < n) z within in
      let there : at_q q (w.waiting ++ m ∷ []) ≡ m ∷ [] = at_both q w.waiting (m ∷ []) ∙ ap (λ l. l ++ at_q q (m ∷ [])) (fresh q (here q 0))
      ∙ at_on q m [] (same_self q) in
      let elsewhere = λ (y : Path) (n : same_path q y ≡ false). at_both y w.waiting (m ∷ []) ∙ ap (λ l. at_q y w.waiting ++ l) (at_off y m [] n) ∙ append-nil _ in
      let body_marks = λ (s : Store). map (below q) (serial b.course 0 b.steps (seen_by m s)) in
      let at = λ (s : Store). mark_on q (at_path q 0 (DidTurn o)) (body_marks s) (same_self q) in
      record {
        piece = record {
          idle = every_append (Waits size) w.waiting (m ∷ []) idle ((less, lt), tt);
          calm = λ y off i. (refl, elsewhere y (off q (here q 0)) ∙ i);
          fares = λ y off x i. still refl (elsewhere y (off q (here q 0)) ∙ i);
        };
        does = is_waiting m there refl (λ s. subst (Does t) (sym (at s)) (turn_does t o (deeds_of (marks_at q (body_marks s)))
            (bared_says body 0 _ (childless_says less q 0 b.steps (seen_by m s)))));
        rises = is_waiting m there refl (λ s. subst Rises (sym (at s)) (childless_rise less q 0 0 b.steps (seen_by m s) (omega arith)));
        below = λ y i. is_done (elsewhere y (below_off q 0 y i) ∙ fresh y (below_within q 0 y i)) tt;
        made = tt;
      }
    where
      turn_does : (t : Task) (o : ℕ) (ds : List Deed) → Says t.course 0 ds → DoesIts (DidTurn o ∷ ds) t
      turn_does t o ds h = let d = does_its t ds h in record { same = d.same; over = d.over }

  told_inner : (child : Specification) (body : Course) (q : Path) (w : World) (r : Ran) → Tells size q 0 w r → Says body 0 (deeds_of (marks_at q r.marks))
      → Inner size (record { spec = child; course = body }) q w r
  told_inner child body q w r t says =
      let k : Task = record { spec = child; course = body } in
      record {
        piece = t.piece;
        does = is_done t.own (does_its k (deeds_of (marks_at q r.marks)) says);
        rises = is_done t.own t.rises;
        below = t.below;
        made = t.made;
      }

  entered_inner : (x : Option ℕ) (child : Specification) (body : Course) (q : Path) (w : World) → commuting_on child ≡ x → Proper child body → length child ≡ size
      → Every (Waits size) w.waiting → Fresh (Within q 0) w → Inner size (record { spec = child; course = body }) q w (run T q child body 0 0 w)
      → Inner size (record { spec = child; course = body }) q w (entered x q child body (λ y. run T q child body 0 0 y) w)
  entered_inner None child body q w e proper z idle fresh h = h
  entered_inner (Some o) child body q w e proper z idle fresh h = joined_inner child body o q w e proper z idle fresh

  -- a creation, with the groups that it settles, the created task, and the rest
  module _ (p : Path) (k : ℕ) (w : World) (t : Task) (n : ℕ) (s inner rest : Ran) (fresh : Fresh (Within p k) w) (barren : Barren s.marks) (a : Piece size Nothing w s)
      (b : Inner size t (p ++ k ∷ []) s.world inner) (c : Tells size p (suc k) inner.world rest) where
    abbrev child : Path
    child = p ++ k ∷ []

    abbrev m : Mark
    m = at_path p k (DidCreate t n)

    abbrev all : Ran
    all = first (m ∷ []) (first s.marks (first inner.marks rest))

    quiet : (q : Path) → Within p k q → (marks_at q s.marks ≡ []) × (at_q q s.world.waiting ≡ [])
    quiet q i = a.calm q (λ y j. absurd j) (fresh q i)

    inner_quiet : (q : Path) → Within p (suc k) q → (marks_at q inner.marks ≡ []) × (at_q q inner.world.waiting ≡ [])
    inner_quiet q i = b.piece.calm q (far p k q i) (quiet q (later_within p k q i)).1

    lift_inner : (G : List Mark → Type 0) (q : Path) → Within child 0 q → State G q inner → State G q all
    lift_inner G q i h =
        let below = inner_below p k q i in
        before_state G q (m ∷ []) (first s.marks (first inner.marks rest)) (mark_off q m [] (below_off p k q below))
        (before_state G q s.marks (first inner.marks rest) (quiet q (below_within p k q below)).0
        (then_state G size (Within p (suc k)) q inner rest c.piece (near p k q i) h))

    lift_rest : (G : List Mark → Type 0) (q : Path) → Below p (suc k) q → State G q rest → State G q all
    lift_rest G q i h =
        before_state G q (m ∷ []) (first s.marks (first inner.marks rest)) (mark_off q m [] (below_off p k q (later_below p k q i)))
        (before_state G q s.marks (first inner.marks rest) (quiet q (below_within p k q (later_below p k q i))).0
        (before_state G q inner.marks rest (inner_quiet q (below_within p (suc k) q i)).0 h))

    own_marks : marks_at p all.marks ≡ m ∷ marks_at p rest.marks
    own_marks =
        mark_on p m (s.marks ++ (inner.marks ++ rest.marks)) (same_self p)
        ∙ ap (λ l. m ∷ l) (marks_both p s.marks (inner.marks ++ rest.marks) ∙ ap (λ l. l ++ marks_at p (inner.marks ++ rest.marks)) (quiet p (here p k)).0
        ∙ marks_both p inner.marks rest.marks ∙ ap (λ l. l ++ marks_at p rest.marks) (inner_quiet p (here p (suc k))).0)

    created_tells : Tells size p k w all
    created_tells = record {
      piece = mark_piece size (Within p k) w m (first s.marks (first inner.marks rest)) (here p k)
          (then_piece size Nothing (Within p k) (Within p k) w s (first inner.marks rest) (λ z i. absurd i) (λ z i. i) a
          (then_piece size (Within child 0) (Within p (suc k)) (Within p k) s.world inner rest (inner_within p k) (later_within p k) b.piece c.piece));
      own = c.own;
      rises = subst (λ ms. Rise k (parts ms)) (sym own_marks) (omega arith, c.rises);
      below = λ q i. at q (split_below p k q i);
      made = (
        (inner_below p k child (here child 0), lift_inner (Does t) child (here child 0) b.does),
        every_append (Made p k all) s.marks (inner.marks ++ rest.marks)
            (every_with (λ (m : Mark). Creating m.deed) (Made p k all) (λ x h. barren_made p k all (child_path x.path x.children) x.deed h) s.marks barren)
            (every_append (Made p k all) inner.marks rest.marks
            (every_with (Made child 0 inner) (Made p k all) (λ x h. move_made child p 0 k inner all
            (λ q i. inner_below p k q (below_within child 0 q i)) (λ G q i. lift_inner G q (below_within child 0 q i))
            (child_path x.path x.children) x.deed h) inner.marks b.made)
            (every_with (Made p (suc k) rest) (Made p k all) (λ x h. move_made p p (suc k) k rest all (later_below p k) lift_rest
            (child_path x.path x.children) x.deed h) rest.marks c.made)),
      );
    }
      where
        inside : (q : Path) → (q ≡ child) ⊎ Below child 0 q → State Rises q inner
        inside q (inl e) = subst (λ z. State Rises z inner) (sym e) b.rises
        inside q (inr i) = b.below q i

        at : (q : Path) → (Within child 0 q) ⊎ Below p (suc k) q → State Rises q all
        at q (inl i) = lift_inner Rises q i (inside q (split_inner child q i))
        at q (inr i) = lift_rest Rises q i (c.below q i)

  abbrev Told : Path → ℕ → Course → ℕ → World → Ran → Type 1
  Told p k c n w r = Tells size p k w r × Says c n (deeds_of (marks_at p r.marks))

  first_two : (a b : List Mark) (r : Ran) → first (a ++ b) r ≡ first a (first b r)
  first_two a b r = ap (λ ms. record { marks = ms; world = r.world }) (append_assoc a b r.marks)

  run_tells : (c : Course) (spec : Specification) → Proper spec c → length spec ≡ size → (p : Path) (k n : ℕ) (w : World) → Every (Waits size) w.waiting
      → Fresh (Within p k) w → Told p k c n w (run T p spec c k n w)
  run_tells (Reads o c on) spec (proper_read i f) z p k n w idle fresh =
      let v = settled T o w in
      let a = settle_piece T size o w idle in
      let d = DidRead o c (cell v.store o c) in
      let m = at_path p k d in
      let rest = run T p spec (on (cell v.store o c)) k n v in
      let h = run_tells (on (cell v.store o c)) spec (f _) z p k n v a.idle (λ q j. (a.calm q (λ y i. absurd i) (fresh q j)).1) in
      let quiet = (a.calm p (λ y i. absurd i) (fresh p (here p k))).0 in
      subst (Told p k (Reads o c on) n w) (sym (first_two (settle T o w) (m ∷ []) rest)) (
        settled_first size p k w (ran_of T o w) (first (m ∷ []) rest) (settle_barren o w idle) a fresh (own_first size p k v d rest tt refl h.0),
        subst (Says (Reads o c on) n) (sym (quiet_deeds p (settle T o w) (m ∷ rest.marks) quiet ∙ own_deeds p m rest.marks (same_self p)))
            (read_says o c (cell v.store o c) on n (deeds_of (marks_at p rest.marks)) h.1),
      )
  run_tells (Writes o c x on) spec (proper_write i f) z p k n w idle fresh =
      let v = settled T o w in
      let a = settle_piece T size o w idle in
      let d = DidWrite o c x in
      let m = at_path p k d in
      let u : World = record v { store = with_cell v.store o c x } in
      let rest = run T p spec on k n u in
      let h = run_tells on spec f z p k n u a.idle (λ q j. (a.calm q (λ y i. absurd i) (fresh q j)).1) in
      let quiet = (a.calm p (λ y i. absurd i) (fresh p (here p k))).0 in
      let moved : Tells size p k v rest = record {
        piece = record { idle = h.0.piece.idle; calm = h.0.piece.calm; fares = h.0.piece.fares };
        own = h.0.own;
        rises = h.0.rises;
        below = h.0.below;
        made = h.0.made;
      } in
      subst (Told p k (Writes o c x on) n w) (sym (first_two (settle T o w) (m ∷ []) rest)) (
        settled_first size p k w (ran_of T o w) (first (m ∷ []) rest) (settle_barren o w idle) a fresh (own_first size p k v d rest tt refl moved),
        subst (Says (Writes o c x on) n) (sym (quiet_deeds p (settle T o w) (m ∷ rest.marks) quiet ∙ own_deeds p m rest.marks (same_self p)))
            (write_says o c x on n (deeds_of (marks_at p rest.marks)) h.1),
      )
  run_tells (Steps on) spec (proper_step f) z p k n w idle fresh =
      let h = run_tells on spec f z p k (suc n) w idle fresh in
      (h.0, step_says on n _ h.1)
  run_tells (Creates child body on) spec (proper_create none may covered sized f g) z p k n w idle fresh =
      let q = p ++ k ∷ [] in
      let t : Task = record { spec = child; course = body } in
      let d = at_path p k (DidCreate t n) in
      let s = settle_all T (touched_at_once child) w in
      let a = all_piece T size (touched_at_once child) w idle in
      let quiet = λ (y : Path) (i : Within p k y). a.calm y (λ x j. absurd j) (fresh y i) in
      let below : Fresh (Within q 0) s.world = λ y i. (quiet y (inner_within p k y i)).1 in
      let long : length child ≡ size = sized ∙ z in
      let h = run_tells body child f long q 0 0 s.world a.idle below in
      let inner = entered (commuting_on child) q child body (λ x. run T q child body 0 0 x) s.world in
      let b = entered_inner (commuting_on child) child body q s.world refl f long a.idle below (told_inner child body q s.world _ h.0 h.1) in
      let rest = run T p spec on (suc k) 0 inner.world in
      let later : Fresh (Within p (suc k)) inner.world = λ y i. (b.piece.calm y (far p k y i) (quiet y (later_within p k y i)).1).1 in
      let c = run_tells on spec g z p (suc k) 0 inner.world b.piece.idle later in
      let barren = all_barren (touched_at_once child) w idle in
      let all = first (d ∷ []) (first s.marks (first inner.marks rest)) in
      let shape : first (d ∷ (s.marks ++ inner.marks)) rest ≡ all = ap (first (d ∷ [])) (first_two s.marks inner.marks rest) in
      subst (Told p k (Creates child body on) n w) (sym shape) (
        created_tells p k w t n s inner rest fresh barren a b c.0,
        subst (λ ms. Says (Creates child body on) n (deeds_of ms)) (sym (own_marks p k w t n s inner rest fresh barren a b c.0))
            (create_says child body on n (deeds_of (marks_at p rest.marks)) c.1),
      )
  run_tells (Changes new on) spec (proper_change none more f) z p k n w idle fresh =
      let s = settle_all T (made_touchable spec new) w in
      let a = all_piece T size (made_touchable spec new) w idle in
      let rest = run T p new on k n s.world in
      let h = run_tells on new f (more.sized ∙ z) p k n s.world a.idle (λ q j. (a.calm q (λ y i. absurd i) (fresh q j)).1) in (
        settled_first size p k w s rest (all_barren (made_touchable spec new) w idle) a fresh h.0,
        subst (Says (Changes new on) n) (sym (quiet_deeds p s.marks rest.marks (a.calm p (λ y i. absurd i) (fresh p (here p k))).0))
            (change_says new on n (deeds_of (marks_at p rest.marks)) h.1),
      )
  run_tells (Ends b) spec proper_end z p k n w idle fresh =
      let m = at_path p k (DidEnd b n) in
      let e = mark_on p m [] (same_self p) in (
        record {
          piece = mark_piece size (Within p k) w m (record { marks = []; world = w }) (here p k) (nothing_piece size (Within p k) w idle);
          own = fresh p (here p k);
          rises = subst (λ ms. Rise k (parts ms)) (sym e) (omega arith, tt);
          below = λ q i. is_done (fresh q (below_within p k q i)) (subst Rises (sym (mark_off q m [] (below_off p k q i))) tt);
          made = (tt, tt);
        },
        subst (λ ms. Says (Ends b) n (deeds_of ms)) (sym e) (end_says b n),
      )

  -- once all groups are settled nobody waits
  pub none_left : (n a : ℕ) (w : World) → Every (λ m. (a ≤ m.object) × (m.object < a + n)) w.waiting → (settle_all T (numbers a n) w).world.waiting ≡ []
  none_left zero a w h = go w.waiting h
    where
      go : (ms : List Member) → Every (λ m. (a ≤ m.object) × (m.object < a + zero)) ms → ms ≡ []
      go [] h = refl
      go (m ∷ ms) h = absurd (omega (arith, h.0.0, h.0.1))
  none_left (suc n) a w h = none_left n (suc a) (settled T a w) (go w.waiting h)
    where
      keep : (m : Member) (ms : List Member) (b : Bool) → nat_eq m.object a ≡ b → (a ≤ m.object) × (m.object < a + suc n)
          → Every (λ m. (suc a ≤ m.object) × (m.object < suc a + n)) (others a ms)
          → Every (λ m. (suc a ≤ m.object) × (m.object < suc a + n)) (if b then others a ms else m ∷ others a ms)
      keep m ms true e h g = g
      keep m ms false e h g =
          let ne : m.object ≢ a = λ i. let y : true ≡ false = sym (eq-eqb m.object a i) ∙ e in absurd (cc) in
          ((omega (arith, h.0, h.1), omega (arith, h.0, h.1)), g)

      go : (ms : List Member) → Every (λ m. (a ≤ m.object) × (m.object < a + suc n)) ms → Every (λ m. (suc a ≤ m.object) × (m.object < suc a + n)) (others a ms)
      go [] h = tt
      go (m ∷ ms) h = keep m ms (nat_eq m.object a) refl h.0 (go ms h.1)

-- the whole run
abbrev pub root : Path
root = 0 ∷ []

-- what the run of a whole program tells
pub record Whole (ms : List Mark) (t : Task) : Type 1 where
  pub own : DoesIts (deeds_of (marks_at root ms)) t
  pub rises : (q : Path) → Within root 0 q → Rise 0 (parts (marks_at q ms))
  pub elsewhere : (q : Path) → Off (Within root 0) q → marks_at q ms ≡ []
  pub children : Every (λ m. ChildDoesIts ms (child_path m.path m.children) m.deed) ms

over : (G : List Mark → Type 0) (q : Path) (r : Ran) → r.world.waiting ≡ [] → State G q r → G (marks_at q r.marks)
over G q r e (is_done i g) = g
over G q r e (is_waiting m i z g) = absurd (let y : [] ≡ m ∷ [] = sym (ap (at_q q) e) ∙ i in cc)

made_does : (r : Ran) (q : Path) (d : Deed) → r.world.waiting ≡ [] → MadeBy root 0 r q d → ChildDoesIts r.marks q d
made_does r q (DidCreate t n) e h = subst (λ ds. DoesIts ds t) (sym (deeds_here q r.marks)) (over (Does t) q r e h.1)
made_does r q (DidTurn o) e h = tt
made_does r q (DidRead o c v) e h = tt
made_does r q (DidWrite o c v) e h = tt
made_does r q (DidEnd b n) e h = tt

-- nobody waits at the end
pub nobody_left : (p : AbstractProgram) (ns : List ℤ) (limit : ℕ) (T : ℕ → List Path) → (whole_run T p ns limit).world.waiting ≡ []
nobody_left p ns limit T =
    let spec = root_spec p in
    let size = length spec in
    let w : World = record { store = zeros (sizes p.items); waiting = [] } in
    let r = run T root spec (root_course p ns limit) 0 0 w in
    let h = run_tells T size (root_course p ns limit) spec (keeps p ns limit) refl root 0 0 w tt (λ q i. refl) in
    none_left T size size 0 r.world (every_with (Waits size) (λ m. (0 ≤ m.object) × (m.object < 0 + size))
    (λ m g. (omega arith, omega (arith, g.1))) r.world.waiting h.0.piece.idle)

pub whole : (p : AbstractProgram) (ns : List ℤ) (limit : ℕ) (T : ℕ → List Path) → Whole (marks_by p ns limit T) (root_task p ns limit)
whole p ns limit T =
    let spec = root_spec p in
    let size = length spec in
    let c = root_course p ns limit in
    let w : World = record { store = zeros (sizes p.items); waiting = [] } in
    let r = run T root spec c 0 0 w in
    let h = run_tells T size c spec (keeps p ns limit) refl root 0 0 w tt (λ q i. refl) in
    let e = settle_all T (objects spec) r.world in
    let a = all_piece T size (objects spec) r.world h.0.piece.idle in
    let all = first r.marks e in
    let none : all.world.waiting ≡ [] = none_left T size size 0 r.world (every_with (Waits size) (λ m. (0 ≤ m.object) × (m.object < 0 + size))
    (λ m g. (omega arith, omega (arith, g.1))) r.world.waiting h.0.piece.idle) in
    let off = λ (q : Path) (y : Path) (i : Nothing y). let z : same_path y q ≡ false = absurd i in z in
    let lift = λ (G : List Mark → Type 0) (q : Path) (s : State G q r). then_state G size Nothing q r e a (off q) s in
    let root_marks = marks_both root r.marks e.marks ∙ ap (λ l. marks_at root r.marks ++ l) (a.calm root (off root) h.0.own).0 ∙ append-nil _ in
    let barren = all_barren T size (objects spec) r.world h.0.piece.idle in
    record {
      own = subst (λ ms. DoesIts (deeds_of ms) (root_task p ns limit)) (sym root_marks) (does_its (root_task p ns limit) _ h.1);
      rises = λ q i. at q (split_inner root q i) all (subst (λ ms. Rise 0 (parts ms)) (sym root_marks) h.0.rises)
          (λ b. over Rises q all none (lift Rises q (h.0.below q b)));
      elsewhere = λ q o. let x = h.0.piece.calm q o refl in marks_both q r.marks e.marks ∙ ap (λ l. l ++ marks_at q e.marks) x.0 ∙ (a.calm q (off q) x.1).0;
      children = every_append _ r.marks e.marks
          (every_with (Made root 0 r) (λ m. ChildDoesIts all.marks (child_path m.path m.children) m.deed) (λ m g.
          made_does all (child_path m.path m.children) m.deed none (move_made root root 0 0 r all (λ q b. b) (λ G q b s. lift G q s)
          (child_path m.path m.children) m.deed g)) r.marks h.0.made)
          (every_with (λ (m : Mark). Creating m.deed) (λ m. ChildDoesIts all.marks (child_path m.path m.children) m.deed) (λ m g.
          made_does all (child_path m.path m.children) m.deed none (barren_made root 0 all (child_path m.path m.children) m.deed g)) e.marks barren);
    }
  where
    at : (q : Path) → (q ≡ root) ⊎ Below root 0 q → (all : Ran) → Rise 0 (parts (marks_at root all.marks))
        → (Below root 0 q → Rise 0 (parts (marks_at q all.marks))) → Rise 0 (parts (marks_at q all.marks))
    at q (inl i) all own h = subst (λ z. Rise 0 (parts (marks_at z all.marks))) (sym i) own
    at q (inr b) all own h = h b

pub talk_follows_serial : (p : AbstractProgram) (ns : List ℤ) (limit : ℕ) (T : ℕ → List Path) → TalkFollowsSerial p ns limit T
talk_follows_serial p ns limit T =
    let h = whole p ns limit T in
    record {
      root = subst (λ ds. DoesIts ds (root_task p ns limit)) (sym (deeds_here root (marks_by p ns limit T))) h.own;
      children = h.children;
    }
