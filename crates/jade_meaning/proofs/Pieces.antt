-- A piece of a run by turn lists, task by task: who waited has had its turn or still waits, and nobody else but new tasks did anything.
use Rattle.std.proofs.Common.{◌≡◌, ℕ, suc, ◌<◌, Bool, true, false, List, [], ◌∷◌, ◌++◌, map, refl, sym, ap, ◌∙◌, subst, Option, Some, None, append-nil}
use Rattle.std.proofs.Common.{◌⊎◌, inl, inr}
use Rattle.std.specs.Prelude.{if◌then◌else◌}
use Rattle.std.specs.List.{filter_map, cons_option}
use Rattle.std.proofs.lemmas.List.Elements.{filter_map-append}
use Rattle.jade_meaning.specs.Specification.{Specification}
use Rattle.jade_meaning.specs.Course.{Course, Reads, Writes, Steps, Creates, Changes, Ends}
use Rattle.jade_base.specs.declared.report.Blame.{Blame}
use Rattle.std.specs.Prelude.{ℤ}
use Rattle.jade_meaning.specs.Serial.{Mark, Path, Store, DidTurn, serial, same_path, marks_at, after, cell, with_cell}
use Rattle.jade_meaning.specs.Turns.{Member, World, Ran, below, at_path, is_of, group, others, named, unnamed, arranged, turn, turns_taken, seen_by}
use Rattle.jade_meaning.specs.Turns.{settled, settle_all, first}
use Rattle.jade_meaning.specs.Laws.{Every}
use Rattle.jade_meaning.proofs.Groups.{every_arranged, every_group, every_others}
use Rattle.jade_meaning.proofs.Filling.{Off, Nothing, ran_of}

-- a course in which no task is created
pub data Childless : Course → Type 0 where
  less_read : {o c : ℕ} {on : ℤ → Course} → ((v : ℤ) → Childless (on v)) → Childless (Reads o c on)
  less_write : {o c : ℕ} {v : ℤ} {on : Course} → Childless on → Childless (Writes o c v on)
  less_step : {on : Course} → Childless on → Childless (Steps on)
  less_change : {new : Specification} {on : Course} → Childless on → Childless (Changes new on)
  less_end : {b : Option Blame} → Childless (Ends b)

-- who waits at a path
abbrev pub at_q : Path → List Member → List Member
at_q q ws = filter_map (λ m. if same_path m.path q then Some m else None) ws

pub marks_both : (q : Path) (a b : List Mark) → marks_at q (a ++ b) ≡ marks_at q a ++ marks_at q b
marks_both q a b = filter_map-append _ a b

pub at_both : (q : Path) (a b : List Member) → at_q q (a ++ b) ≡ at_q q a ++ at_q q b
at_both q a b = filter_map-append _ a b

-- a mark that is not at a path, in front
pub mark_off : (q : Path) (m : Mark) (ms : List Mark) → same_path m.path q ≡ false → marks_at q (m ∷ ms) ≡ marks_at q ms
mark_off q m ms e = ap (λ b. cons_option (if b then Some m else None) (marks_at q ms)) e

pub mark_on : (q : Path) (m : Mark) (ms : List Mark) → same_path m.path q ≡ true → marks_at q (m ∷ ms) ≡ m ∷ marks_at q ms
mark_on q m ms e = ap (λ b. cons_option (if b then Some m else None) (marks_at q ms)) e

pub at_off : (q : Path) (m : Member) (ms : List Member) → same_path m.path q ≡ false → at_q q (m ∷ ms) ≡ at_q q ms
at_off q m ms e = ap (λ b. cons_option (if b then Some m else None) (at_q q ms)) e

pub at_on : (q : Path) (m : Member) (ms : List Member) → same_path m.path q ≡ true → at_q q (m ∷ ms) ≡ m ∷ at_q q ms
at_on q m ms e = ap (λ b. cons_option (if b then Some m else None) (at_q q ms)) e

-- at most one
abbrev Few : List Member → Type 0
Few [] = Unit {0}
Few (m ∷ []) = Unit {0}
Few (m ∷ (y ∷ l)) = ⊥

nil_left : (a b : List Member) → a ++ b ≡ [] → a ≡ []
nil_left [] b e = refl
nil_left (m ∷ a) b e = absurd (cc)

nil_right : (a b : List Member) → a ++ b ≡ [] → b ≡ []
nil_right [] b e = e
nil_right (m ∷ a) b e = absurd (cc)

-- one of two has the one
abbrev OneOf : List Member → List Member → Member → Type 0
OneOf a b m = ((a ≡ m ∷ []) × (b ≡ [])) ⊎ ((a ≡ []) × (b ≡ m ∷ []))

one_of : (a b : List Member) (m : Member) → a ++ b ≡ m ∷ [] → OneOf a b m
one_of [] b m e = inr (refl, e)
one_of (x ∷ a) b m e =
    let i : x ≡ m = cc in
    let n : a ++ b ≡ [] = cc in
    inl (ap (λ y. y ∷ a) i ∙ ap (λ l. m ∷ l) (nil_left a b n), nil_right a b n)

-- a member in front of one part or the other of a list that has at most one at the path
in_front : (x : Option Member) (a b l : List Member) → Few (cons_option x l) → (Few l → a ++ b ≡ l) → a ++ cons_option x b ≡ cons_option x l
in_front None a b l f h = h f
in_front (Some m) a b [] f h =
    let e : a ++ b ≡ [] = h tt in
    ap (λ z. z ++ (m ∷ b)) (nil_left a b e) ∙ ap (λ z. m ∷ z) (nil_right a b e)
in_front (Some m) a b (y ∷ l) f h = absurd f

cons_both : (x : Option Member) (l r : List Member) → cons_option x l ++ r ≡ cons_option x (l ++ r)
cons_both None l r = refl
cons_both (Some m) l r = refl

few_tail : (x : Option Member) (l : List Member) → Few (cons_option x l) → Few l
few_tail None l f = f
few_tail (Some m) [] f = tt
few_tail (Some m) (y ∷ l) f = absurd f

few_back : (a b c : List Member) → a ++ b ≡ c → Few c → Few b
few_back [] b c e f = subst Few (sym e) f
few_back (x ∷ a) b c e f = go c e f
  where
    go : (c : List Member) → x ∷ (a ++ b) ≡ c → Few c → Few b
    go [] e f = absurd (cc)
    go (m ∷ []) e f = let n : a ++ b ≡ [] = cc in subst Few (sym (nil_right a b n)) tt
    go (m ∷ (y ∷ l)) e f = absurd f

module _ (q : Path) where
  abbrev tag : Member → Option Member
  tag m = if same_path m.path q then Some m else None

  -- naming one splits off who is there
  split_named : (t : Path) (g : List Member) → Few (at_q q g) → at_q q (named t g) ++ at_q q (unnamed t g) ≡ at_q q g
  split_named t [] f = refl
  split_named t (m ∷ g) f = go (same_path m.path t) (λ k. split_named t g k)
    where
      go : (b : Bool) → (Few (at_q q g) → at_q q (named t g) ++ at_q q (unnamed t g) ≡ at_q q g)
          → at_q q (if b then m ∷ [] else named t g) ++ at_q q (if b then g else m ∷ unnamed t g) ≡ cons_option (tag m) (at_q q g)
      go true h = cons_both (tag m) [] (at_q q g)
      go false h = in_front (tag m) (at_q q (named t g)) (at_q q (unnamed t g)) (at_q q g) f h

  at_arranged : (ts : List Path) (g : List Member) → Few (at_q q g) → at_q q (arranged ts g) ≡ at_q q g
  at_arranged ts [] f = refl
  at_arranged [] (m ∷ g) f = refl
  at_arranged (t ∷ ts) (m ∷ g) f =
      let u = unnamed t (m ∷ g) in
      let e = split_named t (m ∷ g) f in
      at_both q (named t (m ∷ g)) (arranged ts u)
      ∙ ap (λ z. at_q q (named t (m ∷ g)) ++ z) (at_arranged ts u (few_back (at_q q (named t (m ∷ g))) (at_q q u) _ e f)) ∙ e

  split_group : (o : ℕ) (ws : List Member) → Few (at_q q ws) → at_q q (group o ws) ++ at_q q (others o ws) ≡ at_q q ws
  split_group o [] f = refl
  split_group o (m ∷ ws) f = go (is_of o m) (λ k. split_group o ws k)
    where
      go : (b : Bool) → (Few (at_q q ws) → at_q q (group o ws) ++ at_q q (others o ws) ≡ at_q q ws)
          → at_q q (if b then m ∷ group o ws else group o ws) ++ at_q q (if b then others o ws else m ∷ others o ws) ≡ cons_option (tag m) (at_q q ws)
      go true h = cons_both (tag m) (at_q q (group o ws)) (at_q q (others o ws)) ∙ ap (cons_option (tag m)) (h (few_tail (tag m) (at_q q ws) f))
      go false h = in_front (tag m) (at_q q (group o ws)) (at_q q (others o ws)) (at_q q ws) f h

-- what a childless course does lies at the path itself
own_off : (p q : Path) → same_path p q ≡ false → same_path (p ++ []) q ≡ false
own_off p q e = ap (λ x. same_path x q) (append-nil p) ∙ e

pub childless_off : (c : Course) → Childless c → (p q : Path) → same_path p q ≡ false → (k n : ℕ) (s : Store) → marks_at q (map (below p) (serial c k n s)) ≡ []
childless_off (Reads o c on) (less_read h) p q e k n s =
    mark_off q _ (map (below p) (serial (on (cell s o c)) k n s)) (own_off p q e) ∙ childless_off (on (cell s o c)) (h _) p q e k n s
childless_off (Writes o c v on) (less_write h) p q e k n s =
    mark_off q _ (map (below p) (serial on k n (with_cell s o c v))) (own_off p q e) ∙ childless_off on h p q e k n (with_cell s o c v)
childless_off (Steps on) (less_step h) p q e k n s = childless_off on h p q e k (suc n) s
childless_off (Changes new on) (less_change h) p q e k n s = childless_off on h p q e k n s
childless_off (Creates child body on) h p q e k n s = elim h [ ]
childless_off (Ends b) less_end p q e k n s = mark_off q _ [] (own_off p q e)

-- members that create nobody and wait for objects below n
abbrev pub Waits : ℕ → Member → Type 0
Waits n m = Childless m.course × (m.object < n)

turn_off : (n : ℕ) (m : Member) (s : Store) (q : Path) → Waits n m → same_path m.path q ≡ false → marks_at q (turn m s) ≡ []
turn_off n m s q h e =
    mark_off q (at_path m.path 0 (DidTurn m.object)) (map (below m.path) (serial m.course 0 m.steps (seen_by m s))) e
    ∙ childless_off m.course h.0 m.path q e 0 m.steps (seen_by m s)

-- the marks at a path are those of a turn
pub record Taken (q : Path) (m : Member) (ms : List Mark) : Type 0 where
  pub store : Store
  pub same : marks_at q ms ≡ marks_at q (turn m store)

taken_none : (n : ℕ) (q : Path) (ms : List Member) (s : Store) → Every (Waits n) ms → at_q q ms ≡ [] → marks_at q (turns_taken ms s) ≡ []
taken_none n q [] s h e = refl
taken_none n q (m ∷ ms) s h e = go (same_path m.path q) refl (λ i. taken_none n q ms (after (turn m s) s) h.1 i)
  where
    go : (b : Bool) → same_path m.path q ≡ b → (at_q q ms ≡ [] → marks_at q (turns_taken ms (after (turn m s) s)) ≡ [])
        → marks_at q (turn m s ++ turns_taken ms (after (turn m s) s)) ≡ []
    go true i f = absurd (let z : m ∷ at_q q ms ≡ [] = sym (at_on q m ms i) ∙ e in cc)
    go false i f =
        marks_both q (turn m s) _ ∙ ap (λ x. x ++ marks_at q (turns_taken ms (after (turn m s) s))) (turn_off n m s q h.0 i)
        ∙ f (sym (at_off q m ms i) ∙ e)

taken_one : (n : ℕ) (q : Path) (x : Member) (ms : List Member) (s : Store) → Every (Waits n) ms → at_q q ms ≡ x ∷ [] → Taken q x (turns_taken ms s)
taken_one n q x [] s h e = absurd (cc)
taken_one n q x (m ∷ ms) s h e =
    go (same_path m.path q) refl (λ i. taken_none n q ms (after (turn m s) s) h.1 i) (λ i. taken_one n q x ms (after (turn m s) s) h.1 i)
  where
    go : (b : Bool) → same_path m.path q ≡ b → (at_q q ms ≡ [] → marks_at q (turns_taken ms (after (turn m s) s)) ≡ [])
        → (at_q q ms ≡ x ∷ [] → Taken q x (turns_taken ms (after (turn m s) s))) → Taken q x (turn m s ++ turns_taken ms (after (turn m s) s))
    go true i f g =
        let z : m ∷ at_q q ms ≡ x ∷ [] = sym (at_on q m ms i) ∙ e in
        let same : m ≡ x = cc in
        let none : at_q q ms ≡ [] = cc in
        record {
          store = s;
          same = marks_both q (turn m s) _ ∙ ap (λ l. marks_at q (turn m s) ++ l) (f none) ∙ append-nil _
              ∙ ap (λ y. marks_at q (turn y s)) same;
        }
    go false i f g =
        let t = g (sym (at_off q m ms i) ∙ e) in
        record {
          store = t.store;
          same = marks_both q (turn m s) _
              ∙ ap (λ l. l ++ marks_at q (turns_taken ms (after (turn m s) s))) (turn_off n m s q h.0 i) ∙ t.same;
        }

-- who waited at a path still waits, or has had its turn
pub data Fares (q : Path) (m : Member) (r : Ran) : Type 0 where
  still : marks_at q r.marks ≡ [] → at_q q r.world.waiting ≡ m ∷ [] → Fares q m r
  turned : Taken q m r.marks → at_q q r.world.waiting ≡ [] → Fares q m r

-- a piece of a run, in which tasks with new paths may begin
pub record Piece (n : ℕ) (N : Path → Type 0) (w : World) (r : Ran) : Type 0 where
  pub idle : Every (Waits n) r.world.waiting
  pub calm : (q : Path) → Off N q → at_q q w.waiting ≡ [] → (marks_at q r.marks ≡ []) × (at_q q r.world.waiting ≡ [])
  pub fares : (q : Path) → Off N q → (m : Member) → at_q q w.waiting ≡ m ∷ [] → Fares q m r

pub nothing_piece : (n : ℕ) (N : Path → Type 0) (w : World) → Every (Waits n) w.waiting → Piece n N w (record { marks = []; world = w })
nothing_piece n N w h = record { idle = h; calm = λ q off e. (refl, e); fares = λ q off m e. still refl e }

-- one piece and then another
pub then_piece : (n : ℕ) (A B N : Path → Type 0) (w : World) (r s : Ran) → ((z : Path) → A z → N z) → ((z : Path) → B z → N z)
    → Piece n A w r → Piece n B r.world s → Piece n N w (first r.marks s)
then_piece n A B N w r s ia ib a b = record {
  idle = b.idle;
  calm = λ q off e.
      let x = a.calm q (λ y i. off y (ia y i)) e in
      let y = b.calm q (λ y i. off y (ib y i)) x.1 in
      (marks_both q r.marks s.marks ∙ ap (λ l. l ++ marks_at q s.marks) x.0 ∙ y.0, y.1);
  fares = λ q off m e. go q (λ y i. off y (ib y i)) m (a.fares q (λ y i. off y (ia y i)) m e);
}
  where
    later : (q : Path) (m : Member) → marks_at q r.marks ≡ [] → Fares q m s → Fares q m (first r.marks s)
    later q m z (still e i) = still (marks_both q r.marks s.marks ∙ ap (λ l. l ++ marks_at q s.marks) z ∙ e) i
    later q m z (turned t i) =
        turned (record { store = t.store; same = marks_both q r.marks s.marks ∙ ap (λ l. l ++ marks_at q s.marks) z ∙ t.same }) i

    go : (q : Path) → Off B q → (m : Member) → Fares q m r → Fares q m (first r.marks s)
    go q off m (still e i) = later q m e (b.fares q off m i)
    go q off m (turned t i) =
        let y = b.calm q off i in
        turned (record { store = t.store; same = marks_both q r.marks s.marks ∙ ap (λ l. marks_at q r.marks ++ l) y.0 ∙ append-nil _ ∙ t.same }) y.1

-- a mark at a new path
pub mark_piece : (n : ℕ) (N : Path → Type 0) (w : World) (m : Mark) (r : Ran) → N m.path → Piece n N w r → Piece n N w (first (m ∷ []) r)
mark_piece n N w m r new p = record {
  idle = p.idle;
  calm = λ q off e. let x = p.calm q off e in (mark_off q m r.marks (off m.path new) ∙ x.0, x.1);
  fares = λ q off x e. go q off x (p.fares q off x e);
}
  where
    go : (q : Path) → Off N q → (x : Member) → Fares q x r → Fares q x (first (m ∷ []) r)
    go q off x (still e i) = still (mark_off q m r.marks (off m.path new) ∙ e) i
    go q off x (turned t i) = turned (record { store = t.store; same = mark_off q m r.marks (off m.path new) ∙ t.same }) i

module _ (T : ℕ → List Path) where
  pub settle_piece : (n o : ℕ) (w : World) → Every (Waits n) w.waiting → Piece n Nothing w (ran_of T o w)
  settle_piece n o w h =
      let g = group o w.waiting in
      let idle = every_arranged (Waits n) (T o) g (every_group (Waits n) o w.waiting h) in
      record {
        idle = every_others (Waits n) o w.waiting h;
        calm = λ q off e.
            let f : Few (at_q q w.waiting) = subst Few (sym e) tt in
            let s = split_group q o w.waiting f ∙ e in
            let z : at_q q g ≡ [] = nil_left (at_q q g) _ s in
            (taken_none n q (arranged (T o) g) w.store idle (at_arranged q (T o) g (subst Few (sym z) tt) ∙ z), nil_right (at_q q g) _ s);
        fares = λ q off m e.
            let f : Few (at_q q w.waiting) = subst Few (sym e) tt in
            go q m (one_of (at_q q g) (at_q q (others o w.waiting)) m (split_group q o w.waiting f ∙ e)) idle;
      }
    where
      go : (q : Path) (m : Member) → OneOf (at_q q (group o w.waiting)) (at_q q (others o w.waiting)) m
          → Every (Waits n) (arranged (T o) (group o w.waiting)) → Fares q m (ran_of T o w)
      go q m (inl e) idle =
          let g = group o w.waiting in
          turned (taken_one n q m (arranged (T o) g) w.store idle (at_arranged q (T o) g (subst Few (sym e.0) tt) ∙ e.0)) e.1
      go q m (inr e) idle =
          let g = group o w.waiting in
          still (taken_none n q (arranged (T o) g) w.store idle (at_arranged q (T o) g (subst Few (sym e.0) tt) ∙ e.0)) e.1

  pub all_piece : (n : ℕ) (os : List ℕ) (w : World) → Every (Waits n) w.waiting → Piece n Nothing w (settle_all T os w)
  all_piece n [] w h = nothing_piece n Nothing w h
  all_piece n (o ∷ os) w h =
      let a = settle_piece n o w h in
      then_piece n Nothing Nothing Nothing w (ran_of T o w) (settle_all T os (settled T o w)) (λ z i. i) (λ z i. i) a (all_piece n os (settled T o w) a.idle)
