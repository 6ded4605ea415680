-- What the run has at the path of a task: a task that commutes has its turn first, and no other has one.
use Rattle.std.proofs.Common.{◌≡◌, ℕ, zero, suc, ◌+◌, Bool, true, false, List, [], ◌∷◌, ◌++◌, map, refl, sym, ap, ◌∙◌, subst, Option, Some, None, arith, append-nil, ◌⊎◌, inl, inr}
use Rattle.std.specs.Prelude.{ℤ, if◌then◌else◌}
use Rattle.std.specs.List.{filter_map, cons_option}
use Rattle.std.proofs.lemmas.List.Elements.{filter_map-append}
use Rattle.jade_meaning.specs.Specification.{Specification, commuting_on}
use Rattle.jade_meaning.specs.Course.{Course, Reads, Writes, Steps, Creates, Changes, Ends}
use Rattle.jade_meaning.specs.Proper.{Proper, proper_read, proper_write, proper_step, proper_create, proper_change, proper_end}
use Rattle.jade_meaning.specs.Serial.{Mark, Path, Store, Deed, DidTurn, DidRead, DidWrite, DidEnd, serial, own, same_path, deeds_at, after, cell, with_cell}
use Rattle.jade_meaning.specs.Turns.{Member, World, Ran, below, at_path, is_of, group, others, named, unnamed, arranged, turn, turns_taken, seen_by, bared}
use Rattle.jade_meaning.specs.Turns.{settle, settled, settle_all, first}
use Rattle.jade_meaning.specs.Laws.{Every, but_turn}
use Rattle.jade_meaning.proofs.Groups.{every_arranged, every_group, every_others}
use Rattle.jade_meaning.proofs.Filling.{ran_of}
use Rattle.turn_laws.specs.Told.{HasNoTurn, BeginsByTurn}

-- deeds without a turn
no_turn_both : (a b : List Deed) → HasNoTurn a → HasNoTurn b → HasNoTurn (a ++ b)
no_turn_both a b h g = record { same = filter_map-append but_turn a b ∙ ap (λ x. x ++ filter_map but_turn b) h.same ∙ ap (λ x. a ++ x) g.same }

begins_both : (o : ℕ) (a b : List Deed) → BeginsByTurn o a → HasNoTurn b → BeginsByTurn o (a ++ b)
begins_both o a b h g = record {
  same = ap (λ x. DidTurn o ∷ x) (filter_map-append but_turn a b) ∙ ap (λ x. x ++ filter_map but_turn b) h.same ∙ ap (λ x. a ++ x) g.same;
}

-- deeds at a path
pub at_both : (q : Path) (a b : List Mark) → deeds_at q (a ++ b) ≡ deeds_at q a ++ deeds_at q b
at_both q a b = filter_map-append _ a b

pub at_off : (q : Path) (m : Mark) (ms : List Mark) → same_path m.path q ≡ false → deeds_at q (m ∷ ms) ≡ deeds_at q ms
at_off q m ms e = ap (λ b. cons_option (if b then Some m.deed else None) (deeds_at q ms)) e

pub at_on : (q : Path) (m : Mark) (ms : List Mark) → same_path m.path q ≡ true → deeds_at q (m ∷ ms) ≡ m.deed ∷ deeds_at q ms
at_on q m ms e = ap (λ b. cons_option (if b then Some m.deed else None) (deeds_at q ms)) e

-- a course in which no task is created and no right changes
abbrev pub Flat : Course → Type 0
Flat (Reads o c on) = (v : ℤ) → Flat (on v)
Flat (Writes o c v on) = Flat on
Flat (Steps on) = Flat on
Flat (Creates child body on) = ⊥
Flat (Changes new on) = ⊥
Flat (Ends b) = Unit {0}

pub flat_of : {spec : Specification} {c : Course} → Proper spec c → (o : ℕ) → commuting_on spec ≡ Some o → Flat c
flat_of (proper_read i f) o e = λ v. flat_of (f v) o e
flat_of (proper_write i f) o e = flat_of f o e
flat_of (proper_step f) o e = flat_of f o e
flat_of (proper_create none a b d f g) o e = absurd (let z : Some o ≡ None = sym e ∙ none in cc)
flat_of (proper_change none m f) o e = absurd (let z : Some o ≡ None = sym e ∙ none in cc)
flat_of proper_end o e = tt

pub flat_bared : (c : Course) → Flat c → (n : ℕ) → Flat (bared c n).course
flat_bared (Steps on) h n = flat_bared on h (suc n)
flat_bared (Reads o c on) h n = h
flat_bared (Writes o c v on) h n = h
flat_bared (Creates child body on) h n = absurd h
flat_bared (Changes new on) h n = absurd h
flat_bared (Ends b) h n = tt

-- its deeds lie at its own path
own_path : (p q : Path) (b : Bool) → same_path p q ≡ b → same_path (p ++ []) q ≡ b
own_path p q b e = ap (λ x. same_path x q) (append-nil p) ∙ e

flat_off : (c : Course) → Flat c → (p q : Path) → same_path p q ≡ false → (k n : ℕ) (s : Store) → deeds_at q (map (below p) (serial c k n s)) ≡ []
flat_off (Reads o c on) h p q e k n s =
    at_off q (below p (own k (DidRead o c (cell s o c)))) (map (below p) (serial (on (cell s o c)) k n s)) (own_path p q false e)
    ∙ flat_off (on (cell s o c)) (h _) p q e k n s
flat_off (Writes o c v on) h p q e k n s =
    at_off q (below p (own k (DidWrite o c v))) (map (below p) (serial on k n (with_cell s o c v))) (own_path p q false e)
    ∙ flat_off on h p q e k n (with_cell s o c v)
flat_off (Steps on) h p q e k n s = flat_off on h p q e k (suc n) s
flat_off (Creates child body on) h p q e k n s = absurd h
flat_off (Changes new on) h p q e k n s = absurd h
flat_off (Ends b) h p q e k n s = at_off q (below p (own k (DidEnd b n))) [] (own_path p q false e)

pub more_deeds : (d : Deed) (ds es : List Deed) → but_turn d ≡ Some d → es ≡ d ∷ ds → HasNoTurn ds → HasNoTurn es
more_deeds d ds es i e h =
    subst HasNoTurn (sym e) (record { same = ap (λ x. cons_option x (filter_map but_turn ds)) i ∙ ap (λ x. d ∷ x) h.same })

flat_on : (c : Course) → Flat c → (p q : Path) → same_path p q ≡ true → (k n : ℕ) (s : Store) → HasNoTurn (deeds_at q (map (below p) (serial c k n s)))
flat_on (Reads o c on) h p q e k n s =
    more_deeds (DidRead o c (cell s o c)) _ _ refl
    (at_on q (below p (own k (DidRead o c (cell s o c)))) (map (below p) (serial (on (cell s o c)) k n s)) (own_path p q true e))
    (flat_on (on (cell s o c)) (h _) p q e k n s)
flat_on (Writes o c v on) h p q e k n s =
    more_deeds (DidWrite o c v) _ _ refl
    (at_on q (below p (own k (DidWrite o c v))) (map (below p) (serial on k n (with_cell s o c v))) (own_path p q true e))
    (flat_on on h p q e k n (with_cell s o c v))
flat_on (Steps on) h p q e k n s = flat_on on h p q e k (suc n) s
flat_on (Creates child body on) h p q e k n s = absurd h
flat_on (Changes new on) h p q e k n s = absurd h
flat_on (Ends b) h p q e k n s =
    more_deeds (DidEnd b n) [] _ refl (at_on q (below p (own k (DidEnd b n))) [] (own_path p q true e)) (record { same = refl })

-- how many members have a path
abbrev one_at : Path → Member → ℕ
one_at q m = if same_path m.path q then 1 else 0

abbrev pub counted : Path → List Member → ℕ
counted q [] = 0
counted q (m ∷ ms) = one_at q m + counted q ms

pub counted_both : (q : Path) (a b : List Member) → counted q (a ++ b) ≡ counted q a + counted q b
counted_both q [] b = omega arith
counted_both q (m ∷ a) b = join (one_at q m) (counted q (a ++ b)) (counted q a) (counted q b) (counted_both q a b)
  where
    join : (x n a b : ℕ) → n ≡ a + b → x + n ≡ (x + a) + b
    join x n a b e = omega arith

front : (x n g a : ℕ) → n + g ≡ a → (x + n) + g ≡ x + a
front x n g a e = omega arith

back : (x n g a : ℕ) → n + g ≡ a → n + (x + g) ≡ x + a
back x n g a e = omega arith

counted_named : (q t : Path) (g : List Member) → counted q (named t g) + counted q (unnamed t g) ≡ counted q g
counted_named q t [] = omega arith
counted_named q t (m ∷ g) = go (same_path m.path t) (counted_named q t g)
  where
    go : (b : Bool) → counted q (named t g) + counted q (unnamed t g) ≡ counted q g
        → counted q (if b then m ∷ [] else named t g) + counted q (if b then g else m ∷ unnamed t g) ≡ one_at q m + counted q g
    go true e = let z : 0 + counted q g ≡ counted q g = omega arith in front (one_at q m) 0 (counted q g) (counted q g) z
    go false e = back (one_at q m) (counted q (named t g)) (counted q (unnamed t g)) (counted q g) e

counted_arranged : (q : Path) (ts : List Path) (g : List Member) → counted q (arranged ts g) ≡ counted q g
counted_arranged q ts [] = refl
counted_arranged q [] (m ∷ g) = refl
counted_arranged q (t ∷ ts) (m ∷ g) =
    counted_both q (named t (m ∷ g)) (arranged ts (unnamed t (m ∷ g)))
    ∙ ap (λ n. counted q (named t (m ∷ g)) + n) (counted_arranged q ts (unnamed t (m ∷ g))) ∙ counted_named q t (m ∷ g)

counted_group : (q : Path) (o : ℕ) (ms : List Member) → counted q (group o ms) + counted q (others o ms) ≡ counted q ms
counted_group q o [] = omega arith
counted_group q o (m ∷ ms) = go (is_of o m) (counted_group q o ms)
  where
    go : (b : Bool) → counted q (group o ms) + counted q (others o ms) ≡ counted q ms
        → counted q (if b then m ∷ group o ms else group o ms) + counted q (if b then others o ms else m ∷ others o ms) ≡ one_at q m + counted q ms
    go true e = front (one_at q m) (counted q (group o ms)) (counted q (others o ms)) (counted q ms) e
    go false e = back (one_at q m) (counted q (group o ms)) (counted q (others o ms)) (counted q ms) e

-- who has the path waits for the object
abbrev pub At : Path → ℕ → Member → Type 0
At q o m = same_path m.path q ≡ true → m.object ≡ o

abbrev pub Quiet : Member → Type 0
Quiet m = Flat m.course

-- what is counted of a member
pub seen : (q : Path) (m : Member) (b : Bool) → same_path m.path q ≡ b → one_at q m ≡ (if b then 1 else 0)
seen q m b e = ap (λ x. if x then 1 else 0) e

sum_none : (x n : ℕ) → x + n ≡ 0 → (x ≡ 0) × (n ≡ 0)
sum_none x n e = (omega arith, omega arith)

sum_one : (x n : ℕ) → x + n ≡ 1 → ((x ≡ 1) × (n ≡ 0)) ⊎ ((x ≡ 0) × (n ≡ 1))
sum_one zero n e = inr (refl, omega arith)
sum_one (suc zero) n e = inl (refl, omega arith)
sum_one (suc (suc x)) n e = absurd (omega arith)

pub none_at : (q : Path) (o : ℕ) (ms : List Member) → counted q ms ≡ 0 → Every (At q o) ms
none_at q o [] e = tt
none_at q o (m ∷ ms) e =
    let s = sum_none (one_at q m) (counted q ms) e in
    ((λ i. absurd (let z : 1 ≡ 0 = sym (seen q m true i) ∙ s.0 in cc)), none_at q o ms s.1)

-- turns
turn_off : (q : Path) (m : Member) (s : Store) → Quiet m → same_path m.path q ≡ false → deeds_at q (turn m s) ≡ []
turn_off q m s h e =
    at_off q (at_path m.path 0 (DidTurn m.object)) (map (below m.path) (serial m.course 0 m.steps (seen_by m s))) e
    ∙ flat_off m.course h m.path q e 0 m.steps (seen_by m s)

turn_on : (q : Path) (o : ℕ) (m : Member) (s : Store) → Quiet m → same_path m.path q ≡ true → At q o m → BeginsByTurn o (deeds_at q (turn m s))
turn_on q o m s h e a =
    let body = map (below m.path) (serial m.course 0 m.steps (seen_by m s)) in
    let g = flat_on m.course h m.path q e 0 m.steps (seen_by m s) in
    subst (BeginsByTurn o) (sym (at_on q (at_path m.path 0 (DidTurn m.object)) body e))
    (record { same = ap (λ ds. DidTurn o ∷ ds) g.same ∙ ap (λ x. DidTurn x ∷ deeds_at q body) (sym (a e)) })

taken_none : (q : Path) (ms : List Member) (s : Store) → Every Quiet ms → counted q ms ≡ 0 → deeds_at q (turns_taken ms s) ≡ []
taken_none q [] s h e = refl
taken_none q (m ∷ ms) s h e =
    go (same_path m.path q) refl (sum_none (one_at q m) (counted q ms) e) (λ i. taken_none q ms (after (turn m s) s) h.1 i)
  where
    more : List Mark
    more = turns_taken ms (after (turn m s) s)

    go : (b : Bool) → same_path m.path q ≡ b → (one_at q m ≡ 0) × (counted q ms ≡ 0) → (counted q ms ≡ 0 → deeds_at q more ≡ [])
        → deeds_at q (turn m s ++ more) ≡ []
    go true i z k = absurd (let y : 1 ≡ 0 = sym (seen q m true i) ∙ z.0 in cc)
    go false i z k = at_both q (turn m s) more ∙ ap (λ x. x ++ deeds_at q more) (turn_off q m s h.0 i) ∙ k z.1

taken_one : (q : Path) (o : ℕ) (ms : List Member) (s : Store) → Every Quiet ms → Every (At q o) ms → counted q ms ≡ 1 → BeginsByTurn o (deeds_at q (turns_taken ms s))
taken_one q o [] s h a e = absurd (let z : 0 ≡ 1 = e in cc)
taken_one q o (m ∷ ms) s h a e =
    go (same_path m.path q) refl (sum_one (one_at q m) (counted q ms) e) (taken_none q ms (after (turn m s) s) h.1)
    (λ i. taken_one q o ms (after (turn m s) s) h.1 a.1 i)
  where
    more : List Mark
    more = turns_taken ms (after (turn m s) s)

    go : (b : Bool) → same_path m.path q ≡ b → ((one_at q m ≡ 1) × (counted q ms ≡ 0)) ⊎ ((one_at q m ≡ 0) × (counted q ms ≡ 1))
        → (counted q ms ≡ 0 → deeds_at q more ≡ []) → (counted q ms ≡ 1 → BeginsByTurn o (deeds_at q more)) → BeginsByTurn o (deeds_at q (turn m s ++ more))
    go true i (inl z) f g =
        subst (BeginsByTurn o) (sym (at_both q (turn m s) more ∙ ap (λ x. deeds_at q (turn m s) ++ x) (f z.1) ∙ append-nil _)) (turn_on q o m s h.0 i a.0)
    go true i (inr z) f g = absurd (let y : 1 ≡ 0 = sym (seen q m true i) ∙ z.0 in cc)
    go false i (inl z) f g = absurd (let y : 0 ≡ 1 = sym (seen q m false i) ∙ z.0 in cc)
    go false i (inr z) f g = subst (BeginsByTurn o) (sym (at_both q (turn m s) more ∙ ap (λ x. x ++ deeds_at q more) (turn_off q m s h.0 i))) (g z.1)

-- who has not had its turn yet, and who has had it
pub record Waits (q : Path) (o : ℕ) (ds : List Deed) (ws : List Member) : Type 0 where
  pub none : ds ≡ []
  pub one : counted q ws ≡ 1
  pub at : Every (At q o) ws

pub record Had (q : Path) (o : ℕ) (ds : List Deed) (ws : List Member) : Type 0 where
  pub begins : BeginsByTurn o ds
  pub gone : counted q ws ≡ 0

pub record Plainly (q : Path) (ds : List Deed) (ws : List Member) : Type 0 where
  pub plain : HasNoTurn ds
  pub gone : counted q ws ≡ 0

-- a task at a path that commutes on an object, or on none, with its deeds so far
abbrev pub Stage : Path → Option ℕ → List Deed → List Member → Type 0
Stage q None ds ws = Plainly q ds ws
Stage q (Some o) ds ws = Waits q o ds ws ⊎ Had q o ds ws

-- a piece of a run that begins no task at a path
pub record Keeps (q : Path) (w : World) (r : Ran) : Type 0 where
  pub none : counted q w.waiting ≡ 0 → (deeds_at q r.marks ≡ []) × (counted q r.world.waiting ≡ 0)
  pub one : (o : ℕ) → counted q w.waiting ≡ 1 → Every (At q o) w.waiting → Stage q (Some o) (deeds_at q r.marks) r.world.waiting

-- stages go on
pub goes_on : (q : Path) (x : Option ℕ) (ds : List Deed) (w : World) (r : Ran) → Keeps q w r → Stage q x ds w.waiting → Stage q x (ds ++ deeds_at q r.marks) r.world.waiting
goes_on q None ds w r k s =
    let n = k.none s.gone in
    record { plain = no_turn_both ds (deeds_at q r.marks) s.plain (subst HasNoTurn (sym n.0) (record { same = refl })); gone = n.1 }
goes_on q (Some o) ds w r k (inl s) =
    subst (λ l. Stage q (Some o) (l ++ deeds_at q r.marks) r.world.waiting) (sym s.none) (k.one o s.one s.at)
goes_on q (Some o) ds w r k (inr s) =
    let n = k.none s.gone in
    inr (record { begins = begins_both o ds (deeds_at q r.marks) s.begins (subst HasNoTurn (sym n.0) (record { same = refl })); gone = n.1 })

pub then_keeps : (q : Path) (w : World) (a r : Ran) → Keeps q w a → Keeps q a.world r → Keeps q w (first a.marks r)
then_keeps q w a r h k = record {
  none = λ e. let n = h.none e in let m = k.none n.1 in
      (at_both q a.marks r.marks ∙ ap (λ x. x ++ deeds_at q r.marks) n.0 ∙ m.0, m.1);
  one = λ o e f. subst (λ l. Stage q (Some o) l r.world.waiting) (sym (at_both q a.marks r.marks)) (goes_on q (Some o) (deeds_at q a.marks) a.world r k (h.one o e f));
}

pub mark_keeps : (q : Path) (w : World) (m : Mark) (r : Ran) → same_path m.path q ≡ false → Keeps q w r → Keeps q w (first (m ∷ []) r)
mark_keeps q w m r e k = record {
  none = λ i. let n = k.none i in (at_off q m r.marks e ∙ n.0, n.1);
  one = λ o i f. subst (λ l. Stage q (Some o) l r.world.waiting) (sym (at_off q m r.marks e)) (k.one o i f);
}

pub still_keeps : (q : Path) (w : World) (r : Ran) → deeds_at q r.marks ≡ [] → counted q r.world.waiting ≡ counted q w.waiting
    → ((o : ℕ) → Every (At q o) w.waiting → Every (At q o) r.world.waiting) → Keeps q w r
still_keeps q w r e n a = record {
  none = λ i. (e, n ∙ i);
  one = λ o i f. inl (record { none = e; one = n ∙ i; at = a o f });
}

module _ (T : ℕ → List Path) where
  pub settle_keeps : (o : ℕ) (w : World) → Every Quiet w.waiting → (q : Path) → Keeps q w (ran_of T o w)
  settle_keeps o w h q = record {
    none = λ e.
        let s = sum_none (counted q g) (counted q rest) (counted_group q o w.waiting ∙ e) in
        (taken_none q ms w.store idle (counted_arranged q (T o) g ∙ s.0), s.1);
    one = λ x e f. go x f (sum_one (counted q g) (counted q rest) (counted_group q o w.waiting ∙ e));
  }
    where
      g : List Member
      g = group o w.waiting

      rest : List Member
      rest = others o w.waiting

      ms : List Member
      ms = arranged (T o) g

      idle : Every Quiet ms
      idle = every_arranged Quiet (T o) g (every_group Quiet o w.waiting h)

      go : (x : ℕ) → Every (At q x) w.waiting → ((counted q g ≡ 1) × (counted q rest ≡ 0)) ⊎ ((counted q g ≡ 0) × (counted q rest ≡ 1))
          → Stage q (Some x) (deeds_at q (settle T o w)) rest
      go x f (inl s) =
          inr (record {
            begins = taken_one q x ms w.store idle (every_arranged (At q x) (T o) g (every_group (At q x) o w.waiting f)) (counted_arranged q (T o) g ∙ s.0);
            gone = s.1;
          })
      go x f (inr s) =
          inl (record {
            none = taken_none q ms w.store idle (counted_arranged q (T o) g ∙ s.0);
            one = s.1;
            at = every_others (At q x) o w.waiting f;
          })

  pub all_quiet : (os : List ℕ) (w : World) → Every Quiet w.waiting → Every Quiet (settle_all T os w).world.waiting
  all_quiet [] w h = h
  all_quiet (o ∷ os) w h = all_quiet os (settled T o w) (every_others Quiet o w.waiting h)

  pub all_keeps : (os : List ℕ) (w : World) → Every Quiet w.waiting → (q : Path) → Keeps q w (settle_all T os w)
  all_keeps [] w h q = still_keeps q w (record { marks = []; world = w }) refl refl (λ o a. a)
  all_keeps (o ∷ os) w h q =
      then_keeps q w (ran_of T o w) (settle_all T os (settled T o w)) (settle_keeps o w h q) (all_keeps os (settled T o w) (every_others Quiet o w.waiting h) q)
