-- Lists that are filled are full: the run by the turns of a run is that run.
use Rattle.std.proofs.Common.{◌≡◌, ◌≢◌, ℕ, suc, ◌≤◌, Bool, true, false, ◌&&◌, List, [], ◌∷◌, ◌++◌, map, refl, sym, ap, ◌∙◌, subst, Option, Some, None, arith, append-nil, append_assoc, ◌⊎◌, inl, inr}
use Rattle.std.specs.Prelude.{ℤ, nat_eq, if◌then◌else◌}
use Rattle.std.specs.List.{cons_option}
use Rattle.std.proofs.lemmas.List.Elements.{filter_map-append}
use Rattle.std.proofs.lemmas.Bool.Decides.{eqb_tells}
use Rattle.std.proofs.lemmas.Bool.{ne_eqb, eq-eqb}
use Rattle.jade_syntax.specs.Abstract.{AbstractProgram}
use Rattle.jade_syntax.specs.Objects.{sizes}
use Rattle.jade_meaning.specs.Specification.{Specification, objects, commuting_on}
use Rattle.jade_meaning.specs.Course.{Course, Reads, Writes, Steps, Creates, Changes, Ends, root_spec, root_course}
use Rattle.jade_meaning.specs.Serial.{Mark, Path, Store, DidRead, DidWrite, DidCreate, DidEnd, after, cell, with_cell, serial, under, same_path, zeros}
use Rattle.jade_meaning.specs.Turns.{Member, World, Ran, at_path, below, group, others, arranged, turn, turns_taken, seen_by, settle, settled, settle_all, first, entered, run, whole_run, touched_at_once, made_touchable, turns_on, turn_of, marks_by, fill, Full}
use Rattle.jade_meaning.specs.Laws.{Every}
use Rattle.jade_meaning.proofs.Groups.{every_append, every_arranged, every_group, every_others, group_of, Strange, arranged_skip, arranged_ahead}

-- a path from child number k on
abbrev pub From : ℕ → Path → Type 0
From k [] = Unit {0}
From k (j ∷ q) = k ≤ j

-- the path itself, or one below it, from child number k on
pub record Within (path : Path) (k : ℕ) (p : Path) : Type 0 where
  pub rest : Path
  pub is : p ≡ path ++ rest
  pub from : From k rest

-- a group that is settled, as a run
abbrev pub ran_of : (ℕ → List Path) → ℕ → World → Ran
ran_of t x w = record { marks = settle t x w; world = settled t x w }

-- paths
and_left : (a b : Bool) → a && b ≡ true → a ≡ true
and_left true b h = refl
and_left false b h = h

and_right : (a b : Bool) → a && b ≡ true → b ≡ true
and_right true b h = h
and_right false b h = absurd (cc)

pub same_path_is : (p q : Path) → same_path p q ≡ true → p ≡ q
same_path_is [] [] h = refl
same_path_is (i ∷ p) (j ∷ q) h = go (eqb_tells i j) (same_path_is p q (and_right _ _ h))
  where
    go : ((nat_eq i j ≡ true) × (i ≡ j)) ⊎ ((nat_eq i j ≡ false) × (i ≢ j)) → p ≡ q → i ∷ p ≡ j ∷ q
    go (inl e) r = cc
    go (inr e) r = absurd (let t : nat_eq i j ≡ true = and_left _ _ h in cc)
same_path_is [] (j ∷ q) h = absurd (cc)
same_path_is (i ∷ p) [] h = absurd (cc)

pub same_self : (p : Path) → same_path p p ≡ true
same_self [] = refl
same_self (i ∷ p) = ap (λ b. b && same_path p p) (eq-eqb i i refl) ∙ same_self p

pub same_front : (p a b : Path) → same_path (p ++ a) (p ++ b) ≡ same_path a b
same_front [] a b = refl
same_front (i ∷ p) a b = ap (λ x. x && same_path (p ++ a) (p ++ b)) (eq-eqb i i refl) ∙ same_front p a b

-- an arrangement names itself
abbrev paths : List Member → List Path
paths ms = map (λ (m : Member). m.path) ms

self : (g : List Member) (rest : List Path) → arranged (paths g ++ rest) g ≡ g
self [] rest = refl
self (m ∷ g) rest =
    arranged_ahead m.path (paths g ++ rest) [] g m tt (same_self m.path) ∙ ap (λ x. m ∷ x) (self g rest)

pub record Found (t : Path) (g : List Member) : Type 0 where
  pub front : List Member
  pub here : Member
  pub back : List Member
  pub is : g ≡ front ++ (here ∷ back)
  pub strange : Every (Strange t) front
  pub same : same_path here.path t ≡ true

find : (t : Path) (g : List Member) → Every (Strange t) g ⊎ Found t g
find t [] = inl tt
find t (m ∷ g) = go (same_path m.path t) refl (find t g)
  where
    go : (b : Bool) → same_path m.path t ≡ b → Every (Strange t) g ⊎ Found t g → Every (Strange t) (m ∷ g) ⊎ Found t (m ∷ g)
    go true e r = inr (record { front = []; here = m; back = g; is = refl; strange = tt; same = e })
    go false e (inl h) = inl (e, h)
    go false e (inr f) =
        inr (record { front = m ∷ f.front; here = f.here; back = f.back; is = ap (λ x. m ∷ x) f.is; strange = (e, f.strange); same = f.same })

pub again : (ts : List Path) (g : List Member) (rest : List Path) → arranged (paths (arranged ts g) ++ rest) g ≡ arranged ts g
again [] [] rest = refl
again (t ∷ ts) [] rest = refl
again [] (m ∷ g) rest = self (m ∷ g) rest
again (t ∷ ts) (m ∷ g) rest = go (find t (m ∷ g)) (λ x. again ts x rest)
  where
    go : Every (Strange t) (m ∷ g) ⊎ Found t (m ∷ g) → ((x : List Member) → arranged (paths (arranged ts x) ++ rest) x ≡ arranged ts x) → arranged (paths (arranged (t ∷ ts) (m ∷ g)) ++ rest) (m ∷ g) ≡ arranged (t ∷ ts) (m ∷ g)
    go (inl h) k =
        subst (λ z. arranged (paths z ++ rest) (m ∷ g) ≡ z) (sym (arranged_skip t ts (m ∷ g) h)) (k (m ∷ g))
    go (inr f) k =
        let z = arranged ts (f.front ++ f.back) in
        let path : f.here.path ≡ t = same_path_is f.here.path t f.same in
        let order : arranged (t ∷ ts) (f.front ++ (f.here ∷ f.back)) ≡ f.here ∷ z = arranged_ahead t ts f.front f.back f.here f.strange f.same in
        let now : arranged (f.here.path ∷ (paths z ++ rest)) (f.front ++ (f.here ∷ f.back)) ≡ f.here ∷ z = arranged_ahead f.here.path (paths z ++ rest) f.front f.back f.here (subst (λ x. Every (Strange x) f.front) (sym path) f.strange) (same_self f.here.path) ∙ ap (λ x. f.here ∷ x) (k (f.front ++ f.back)) in
        subst (λ w. arranged (paths (arranged (t ∷ ts) w) ++ rest) w ≡ arranged (t ∷ ts) w) (sym f.is) (subst (λ x. arranged (paths x ++ rest) (f.front ++ (f.here ∷ f.back)) ≡ x) (sym order) now)

skip_all : (pre ts : List Path) (g : List Member) → Every (λ z. Every (Strange z) g) pre → arranged (pre ++ ts) g ≡ arranged ts g
skip_all [] ts g h = refl
skip_all (z ∷ pre) ts g h = arranged_skip z (pre ++ ts) g h.0 ∙ skip_all pre ts g h.1

-- the turns that marks tell of
pub turns_both : (o : ℕ) (a b : List Mark) → turns_on o (a ++ b) ≡ turns_on o a ++ turns_on o b
turns_both o a b = filter_map-append _ a b

pub serial_turnless : (o : ℕ) (p : Path) (c : Course) (k n : ℕ) (s : Store) → turns_on o (map (below p) (serial c k n s)) ≡ []
serial_turnless o p (Reads x c on) k n s = serial_turnless o p (on (cell s x c)) k n s
serial_turnless o p (Writes x c v on) k n s = serial_turnless o p on k n (with_cell s x c v)
serial_turnless o p (Steps on) k n s = serial_turnless o p on k (suc n) s
serial_turnless o p (Creates child body on) k n s =
    let ins = serial body 0 0 s in
    ap (turns_on o) (map_both (map (under k) ins) (serial on (suc k) 0 (after ins s))) ∙ turns_both o (map (below p) (map (under k) ins)) (map (below p) (serial on (suc k) 0 (after ins s))) ∙ ap (λ x. turns_on o x ++ turns_on o (map (below p) (serial on (suc k) 0 (after ins s)))) (below_under p k ins) ∙ ap (λ x. x ++ turns_on o (map (below p) (serial on (suc k) 0 (after ins s)))) (serial_turnless o (p ++ k ∷ []) body 0 0 s) ∙ serial_turnless o p on (suc k) 0 (after ins s)
  where
    map_both : (xs ys : List Mark) → map (below p) (xs ++ ys) ≡ map (below p) xs ++ map (below p) ys
    map_both [] ys = refl
    map_both (x ∷ xs) ys = ap (λ zs. below p x ∷ zs) (map_both xs ys)

    below_under : (p : Path) (k : ℕ) (ms : List Mark) → map (below p) (map (under k) ms) ≡ map (below (p ++ k ∷ [])) ms
    below_under p k [] = refl
    below_under p k (m ∷ ms) =
        ap (λ (q : Path). record m { path = q } ∷ map (below p) (map (under k) ms)) (sym (append_assoc p (k ∷ []) m.path)) ∙ ap (λ ns. below (p ++ k ∷ []) m ∷ ns) (below_under p k ms)
serial_turnless o p (Changes new on) k n s = serial_turnless o p on k n s
serial_turnless o p (Ends b) k n s = refl

pub turn_turns : (o : ℕ) (m : Member) (s : Store) → turns_on o (turn m s) ≡ (if nat_eq m.object o then m.path ∷ [] else [])
turn_turns o m s = go (nat_eq m.object o) (serial_turnless o m.path m.course 0 m.steps (seen_by m s))
  where
    body : List Mark
    body = map (below m.path) (serial m.course 0 m.steps (seen_by m s))

    go : (b : Bool) → turns_on o body ≡ [] → cons_option (if b then Some m.path else None) (turns_on o body) ≡ (if b then m.path ∷ [] else [])
    go true e = ap (λ x. m.path ∷ x) e
    go false e = e

taken_turns : (o : ℕ) (ms : List Member) (s : Store) → Every (λ m. m.object ≡ o) ms → turns_on o (turns_taken ms s) ≡ paths ms
taken_turns o [] s h = refl
taken_turns o (m ∷ ms) s h =
    turns_both o (turn m s) (turns_taken ms (after (turn m s) s)) ∙ ap (λ x. x ++ turns_on o (turns_taken ms (after (turn m s) s))) (turn_turns o m s ∙ ap (λ b. if b then m.path ∷ [] else []) (eq-eqb m.object o h.0)) ∙ ap (λ x. m.path ∷ x) (taken_turns o ms (after (turn m s) s) h.1)

pub taken_elsewhere : (o x : ℕ) (ms : List Member) (s : Store) → x ≢ o → Every (λ m. m.object ≡ x) ms → turns_on o (turns_taken ms s) ≡ []
taken_elsewhere o x [] s ne h = refl
taken_elsewhere o x (m ∷ ms) s ne h =
    turns_both o (turn m s) (turns_taken ms (after (turn m s) s)) ∙ ap (λ z. z ++ turns_on o (turns_taken ms (after (turn m s) s))) (turn_turns o m s ∙ ap (λ b. if b then m.path ∷ [] else []) (ne_eqb m.object o (λ e. ne (sym h.0 ∙ e)))) ∙ taken_elsewhere o x ms (after (turn m s) s) ne h.1

-- a path that is none of these
abbrev pub Off : (Path → Type 0) → Path → Type 0
Off N z = (y : Path) → N y → same_path y z ≡ false

abbrev pub Nothing : Path → Type 0
Nothing z = ⊥

pub every_with : {A : Type 0} (P Q : A → Type 0) → ((x : A) → P x → Q x) → (xs : List A) → Every P xs → Every Q xs
every_with P Q f [] h = tt
every_with P Q f (x ∷ xs) h = (f x h.0, every_with P Q f xs h.1)

pub every_two : {A : Type 0} (P R Q : A → Type 0) → ((x : A) → P x → R x → Q x) → (xs : List A) → Every P xs → Every R xs → Every Q xs
every_two P R Q f [] h g = tt
every_two P R Q f (x ∷ xs) h g = (f x h.0 g.0, every_two P R Q f xs h.1 g.1)

every_true : {A : Type 0} (P : A → Type 0) → ((x : A) → P x) → (xs : List A) → Every P xs
every_true P f [] = tt
every_true P f (x ∷ xs) = (f x, every_true P f xs)

every_paths : (Q : Path → Type 0) (ms : List Member) → Every (λ m. Q m.path) ms → Every Q (paths ms)
every_paths Q [] h = tt
every_paths Q (m ∷ ms) h = (h.0, every_paths Q ms h.1)

pub others_not : (o : ℕ) (ms : List Member) → Every (λ m. m.object ≢ o) (others o ms)
others_not o [] = tt
others_not o (m ∷ ms) = go (eqb_tells m.object o) (others_not o ms)
  where
    go : ((nat_eq m.object o ≡ true) × (m.object ≡ o)) ⊎ ((nat_eq m.object o ≡ false) × (m.object ≢ o)) → Every (λ m. m.object ≢ o) (others o ms) → Every (λ m. m.object ≢ o) (others o (m ∷ ms))
    go (inl e) r = subst (λ b. Every (λ m. m.object ≢ o) (if b then others o ms else m ∷ others o ms)) (sym e.0) r
    go (inr e) r = subst (λ b. Every (λ m. m.object ≢ o) (if b then others o ms else m ∷ others o ms)) (sym e.0) (e.1, r)

-- no member of the object has the path
abbrev Free : ℕ → List Member → Path → Type 0
Free o ms z = Every (λ m. m.object ≡ o → Strange z m) ms

-- who waits and who had a turn after a run: those who waited before, and new ones
pub record Out (w : World) (N : Path → Type 0) (r : Ran) : Type 1 where
  pub keeps : (P : Member → Type 0) → Every P w.waiting → ((m : Member) → N m.path → P m) → Every P r.world.waiting
  pub turned : (o : ℕ) (Q : Path → Type 0) → Every (λ m. Q m.path) w.waiting → ((z : Path) → N z → Q z) → Every Q (turns_on o r.marks)
  pub apart : (o : ℕ) → Every (Free o r.world.waiting) (turns_on o r.marks)

module _ (T U : ℕ → List Path) where
  -- lists that name what this run takes, after paths that play no part, give this run
  pub record Refills (w : World) (N : Path → Type 0) (rt ru : Ran) : Type 1 where
    pub out : Out w N rt
    pub same : (pre post : ℕ → List Path) → ((o : ℕ) → Every (Free o w.waiting) (pre o)) → ((o : ℕ) → Every (Off N) (pre o)) → ((o : ℕ) → U o ≡ pre o ++ (turns_on o rt.marks ++ post o)) → ru ≡ rt

  then_refills : (w : World) (NA NK N : Path → Type 0) (at au : Ran) (kt ku : World → Ran) → ((z : Path) → NA z → N z) → ((z : Path) → NK z → N z) → ((z : Path) → NA z → Off NK z) → Every (λ m. Off N m.path) w.waiting → Refills w NA at au → Refills at.world NK (kt at.world) (ku at.world) → Refills w N (first at.marks (kt at.world)) (first au.marks (ku au.world))
  then_refills w NA NK N at au kt ku ia ik far off a k =
      let k2 = kt at.world in
      let offs = λ (o : ℕ). a.out.turned o (Off NK) (every_with (λ (m : Member). Off N m.path) (λ (m : Member). Off NK m.path) (λ m f y n. f y (ik y n)) w.waiting off) far in
      record {
        out = record {
          keeps = λ P h g. k.out.keeps P (a.out.keeps P h (λ m n. g m (ia m.path n))) (λ m n. g m (ik m.path n));
          turned = λ o Q h g. subst (Every Q) (sym (turns_both o at.marks k2.marks)) (every_append Q (turns_on o at.marks) (turns_on o k2.marks) (a.out.turned o Q h (λ z n. g z (ia z n))) (k.out.turned o Q (a.out.keeps (λ m. Q m.path) h (λ m n. g m.path (ia m.path n))) (λ z n. g z (ik z n))));
          apart = λ o. subst (Every (Free o k2.world.waiting)) (sym (turns_both o at.marks k2.marks)) (every_append (Free o k2.world.waiting) (turns_on o at.marks) (turns_on o k2.marks) (every_two (Free o at.world.waiting) (Off NK) (Free o k2.world.waiting) (λ z s f. k.out.keeps (λ m. m.object ≡ o → Strange z m) s (λ m n e. f m.path n)) (turns_on o at.marks) (a.out.apart o) (offs o)) (k.out.apart o));
        };
        same = λ pre post h1 h2 e. let one : au ≡ at = a.same pre (λ o. turns_on o k2.marks ++ post o) h1 (λ o. every_with (Off N) (Off NA) (λ z f y n. f y (ia y n)) (pre o) (h2 o)) (λ o. e o ∙ ap (λ x. pre o ++ (x ++ post o)) (turns_both o at.marks k2.marks) ∙ ap (λ x. pre o ++ x) (append_assoc (turns_on o at.marks) (turns_on o k2.marks) (post o))) in let two : ku at.world ≡ kt at.world = k.same (λ o. pre o ++ turns_on o at.marks) post (λ o. every_append (Free o at.world.waiting) (pre o) (turns_on o at.marks) (every_two (Free o w.waiting) (Off N) (Free o at.world.waiting) (λ z s f. a.out.keeps (λ m. m.object ≡ o → Strange z m) s (λ m n i. f m.path (ia m.path n))) (pre o) (h1 o) (h2 o)) (a.out.apart o)) (λ o. every_append (Off NK) (pre o) (turns_on o at.marks) (every_with (Off N) (Off NK) (λ z f y n. f y (ik y n)) (pre o) (h2 o)) (offs o)) (λ o. e o ∙ ap (λ x. pre o ++ (x ++ post o)) (turns_both o at.marks k2.marks) ∙ ap (λ x. pre o ++ x) (append_assoc (turns_on o at.marks) (turns_on o k2.marks) (post o)) ∙ sym (append_assoc (pre o) (turns_on o at.marks) (turns_on o k2.marks ++ post o))) in ap (λ (r : Ran). first r.marks (ku r.world)) one ∙ ap (first at.marks) two;
      }

  settle_refills : (x : ℕ) (w : World) → Refills w Nothing (ran_of T x w) (ran_of U x w)
  settle_refills x w =
      let g = arranged (T x) (group x w.waiting) in
      let of = every_arranged (λ m. m.object ≡ x) (T x) (group x w.waiting) (group_of x w.waiting) in
      record {
        out = record {
          keeps = λ P h i. every_others P x w.waiting h;
          turned = λ o Q h i. turned_at o Q (eqb_tells x o) (every_paths Q g (every_arranged (λ m. Q m.path) (T x) (group x w.waiting) (every_group (λ m. Q m.path) x w.waiting h)));
          apart = λ o. apart_at o (eqb_tells x o);
        };
        same = λ pre post h1 h2 e. let named : U x ≡ pre x ++ (paths g ++ post x) = e x ∙ ap (λ z. pre x ++ (z ++ post x)) (taken_turns x g w.store of) in let order : arranged (U x) (group x w.waiting) ≡ g = ap (λ z. arranged z (group x w.waiting)) named ∙ skip_all (pre x) (paths g ++ post x) (group x w.waiting) (every_with (Free x w.waiting) (λ z. Every (Strange z) (group x w.waiting)) (λ z h. every_two (λ m. m.object ≡ x) (λ m. m.object ≡ x → Strange z m) (Strange z) (λ m i f. f i) (group x w.waiting) (group_of x w.waiting) (every_group (λ m. m.object ≡ x → Strange z m) x w.waiting h)) (pre x) (h1 x)) ∙ again (T x) (group x w.waiting) (post x) in ap (λ z. record { marks = turns_taken z w.store; world = record { store = after (turns_taken z w.store) w.store; waiting = others x w.waiting } }) order;
      }
    where
      turned_at : (o : ℕ) (Q : Path → Type 0) → ((nat_eq x o ≡ true) × (x ≡ o)) ⊎ ((nat_eq x o ≡ false) × (x ≢ o)) → Every Q (paths (arranged (T x) (group x w.waiting))) → Every Q (turns_on o (settle T x w))
      turned_at o Q (inl e) h =
          subst (λ z. Every Q (turns_on z (settle T x w))) e.1 (subst (Every Q) (sym (taken_turns x (arranged (T x) (group x w.waiting)) w.store (every_arranged (λ m. m.object ≡ x) (T x) (group x w.waiting) (group_of x w.waiting)))) h)
      turned_at o Q (inr e) h =
          subst (Every Q) (sym (taken_elsewhere o x (arranged (T x) (group x w.waiting)) w.store e.1 (every_arranged (λ m. m.object ≡ x) (T x) (group x w.waiting) (group_of x w.waiting)))) tt

      apart_at : (o : ℕ) → ((nat_eq x o ≡ true) × (x ≡ o)) ⊎ ((nat_eq x o ≡ false) × (x ≢ o)) → Every (Free o (others x w.waiting)) (turns_on o (settle T x w))
      apart_at o (inl e) =
          every_true (Free o (others x w.waiting)) (λ z. every_with (λ m. m.object ≢ x) (λ m. m.object ≡ o → Strange z m) (λ m n i. absurd (n (i ∙ sym e.1))) (others x w.waiting) (others_not x w.waiting)) (turns_on o (settle T x w))
      apart_at o (inr e) =
          subst (Every (Free o (others x w.waiting))) (sym (taken_elsewhere o x (arranged (T x) (group x w.waiting)) w.store e.1 (every_arranged (λ m. m.object ≡ x) (T x) (group x w.waiting) (group_of x w.waiting)))) tt

  still_refills : (w : World) (ms : List Mark) → ((o : ℕ) → turns_on o ms ≡ []) → (N : Path → Type 0) → Refills w N (record { marks = ms; world = w }) (record { marks = ms; world = w })
  still_refills w ms none N = record {
    out = record {
      keeps = λ P h g. h;
      turned = λ o Q h g. subst (Every Q) (sym (none o)) tt;
      apart = λ o. subst (Every (Free o w.waiting)) (sym (none o)) tt;
    };
    same = λ pre post h1 h2 e. refl;
  }

  all_refills : (os : List ℕ) (w : World) → Refills w Nothing (settle_all T os w) (settle_all U os w)
  all_refills [] w = still_refills w [] (λ o. refl) Nothing
  all_refills (x ∷ os) w =
      then_refills w Nothing Nothing Nothing (ran_of T x w) (ran_of U x w) (settle_all T os) (settle_all U os) (λ z n. n) (λ z n. n) (λ z n. absurd n) (every_true (λ m. Off Nothing m.path) (λ m y n. absurd n) w.waiting) (settle_refills x w) (all_refills os (settled T x w))

  mark_refills : (w : World) (N : Path → Type 0) (d : Mark) (rt ru : Ran) → ((o : ℕ) → turn_of o d.deed d.path ≡ None) → Refills w N rt ru → Refills w N (first (d ∷ []) rt) (first (d ∷ []) ru)
  mark_refills w N d rt ru none r =
      let same = λ (o : ℕ). let z : turns_on o (d ∷ rt.marks) ≡ turns_on o rt.marks = ap (λ x. cons_option x (turns_on o rt.marks)) (none o) in z in
      record {
        out = record {
          keeps = r.out.keeps;
          turned = λ o Q h g. subst (Every Q) (sym (same o)) (r.out.turned o Q h g);
          apart = λ o. subst (Every (Free o rt.world.waiting)) (sym (same o)) (r.out.apart o);
        };
        same = λ pre post h1 h2 e. ap (first (d ∷ [])) (r.same pre post h1 h2 (λ o. e o ∙ ap (λ x. pre o ++ (x ++ post o)) (same o)));
      }

  shape_refills : (w : World) (N : Path → Type 0) (rt rt' ru ru' : Ran) → rt ≡ rt' → ru ≡ ru' → Refills w N rt' ru' → Refills w N rt ru
  shape_refills w N rt rt' ru ru' a b h =
      subst (λ r. Refills w N r ru) (sym a) (subst (λ r. Refills w N rt' r) (sym b) h)

  entered_refills : (x : Option ℕ) (q : Path) (child : Specification) (body : Course) (ft fu : World → Ran) (w : World) → Refills w (Within q 0) (ft w) (fu w) → Refills w (Within q 0) (entered x q child body ft w) (entered x q child body fu w)
  entered_refills None q child body ft fu w r = r
  entered_refills (Some y) q child body ft fu w r = record {
    out = record {
      keeps = λ P h g. every_append P w.waiting _ h (g _ (record { rest = []; is = sym (append-nil q); from = tt }), tt);
      turned = λ o Q h g. tt;
      apart = λ o. tt;
    };
    same = λ pre post h1 h2 e. refl;
  }

  pub far_on : (p : Path) (k : ℕ) (z : Path) → Within (p ++ k ∷ []) 0 z → Off (Within p (suc k)) z
  far_on p k z i y j =
      ap (λ x. same_path y x) (i.is ∙ append_assoc p (k ∷ []) i.rest) ∙ ap (λ x. same_path x (p ++ (k ∷ i.rest))) j.is ∙ same_front p j.rest (k ∷ i.rest) ∙ go j.rest j.from
    where
      go : (r : Path) → From (suc k) r → same_path r (k ∷ i.rest) ≡ false
      go [] f = refl
      go (a ∷ r) f = ap (λ b. b && same_path r i.rest) (ne_eqb a k (λ e. absurd (let lt : suc k ≤ a = f in omega arith)))

  pub first_both : (a b : List Mark) (r : Ran) → first (a ++ b) r ≡ first a (first b r)
  first_both a b r = ap (λ ms. record { marks = ms; world = r.world }) (append_assoc a b r.marks)

  abbrev read_on : (ℕ → List Path) → Path → Specification → (o c : ℕ) → (ℤ → Course) → (k n : ℕ) → World → Ran
  read_on t p spec o c on k n v =
      first (at_path p k (DidRead o c (cell v.store o c)) ∷ []) (run t p spec (on (cell v.store o c)) k n v)

  abbrev write_on : (ℕ → List Path) → Path → Specification → (o c : ℕ) → ℤ → Course → (k n : ℕ) → World → Ran
  write_on t p spec o c z on k n v =
      first (at_path p k (DidWrite o c z) ∷ []) (run t p spec on k n (record v { store = with_cell v.store o c z }))

  abbrev pub create_on : (ℕ → List Path) → Path → Specification → Specification → Course → Course → ℕ → World → Ran
  create_on t p spec child body on k v =
      let i = entered (commuting_on child) (p ++ k ∷ []) child body (λ x. run t (p ++ k ∷ []) child body 0 0 x) v in
      first i.marks (run t p spec on (suc k) 0 i.world)

  pub create_shape : (t : ℕ → List Path) (p : Path) (spec child : Specification) (body on : Course) (k n : ℕ) (w : World) → run t p spec (Creates child body on) k n w ≡ first (at_path p k (DidCreate (record { spec = child; course = body }) n) ∷ []) (first (settle_all t (touched_at_once child) w).marks (create_on t p spec child body on k (settle_all t (touched_at_once child) w).world))
  create_shape t p spec child body on k n w =
      let s = settle_all t (touched_at_once child) w in
      let i = entered (commuting_on child) (p ++ k ∷ []) child body (λ x. run t (p ++ k ∷ []) child body 0 0 x) s.world in
      ap (λ r. first (at_path p k (DidCreate (record { spec = child; course = body }) n) ∷ []) r) (first_both s.marks i.marks (run t p spec on (suc k) 0 i.world))

  pub refills : (c : Course) (p : Path) (spec : Specification) (k n : ℕ) (w : World) → Every (λ m. Off (Within p k) m.path) w.waiting → Refills w (Within p k) (run T p spec c k n w) (run U p spec c k n w)
  refills (Reads o c on) p spec k n w h =
      let v = settled T o w in
      shape_refills w (Within p k) _ _ _ _ (first_both (settle T o w) _ _) (first_both (settle U o w) _ _) (then_refills w Nothing (Within p k) (Within p k) (ran_of T o w) (ran_of U o w) (read_on T p spec o c on k n) (read_on U p spec o c on k n) (λ z i. absurd i) (λ z i. i) (λ z i. absurd i) h (settle_refills o w) (mark_refills v (Within p k) (at_path p k (DidRead o c (cell v.store o c))) _ _ (λ x. refl) (refills (on (cell v.store o c)) p spec k n v (every_others (λ m. Off (Within p k) m.path) o w.waiting h))))
  refills (Writes o c z on) p spec k n w h =
      let v = settled T o w in
      let r = refills on p spec k n (record v { store = with_cell v.store o c z }) (every_others (λ m. Off (Within p k) m.path) o w.waiting h) in
      shape_refills w (Within p k) _ _ _ _ (first_both (settle T o w) _ _) (first_both (settle U o w) _ _) (then_refills w Nothing (Within p k) (Within p k) (ran_of T o w) (ran_of U o w) (write_on T p spec o c z on k n) (write_on U p spec o c z on k n) (λ y i. absurd i) (λ y i. i) (λ y i. absurd i) h (settle_refills o w) (mark_refills v (Within p k) (at_path p k (DidWrite o c z)) _ _ (λ x. refl) (record { out = record { keeps = r.out.keeps; turned = r.out.turned; apart = r.out.apart }; same = r.same })))
  refills (Steps on) p spec k n w h = refills on p spec k (suc n) w h
  refills (Creates child body on) p spec k n w h =
      let q = p ++ k ∷ [] in
      let d = at_path p k (DidCreate (record { spec = child; course = body }) n) in
      let s = settle_all T (touched_at_once child) w in
      let a = all_refills (touched_at_once child) w in
      let hs = a.out.keeps (λ m. Off (Within p k) m.path) h (λ m i. absurd i) in
      let inside = λ (z : Path) (i : Within q 0 z). let x : Within p k z = record { rest = k ∷ i.rest; is = i.is ∙ append_assoc p (k ∷ []) i.rest; from = omega arith } in x in
      let onwards = λ (z : Path) (i : Within p (suc k) z). let x : Within p k z = record { rest = i.rest; is = i.is; from = later i.rest i.from } in x in
      let e = entered_refills (commuting_on child) q child body (λ x. run T q child body 0 0 x) (λ x. run U q child body 0 0 x) s.world (refills body q child 0 0 s.world (every_with (λ (m : Member). Off (Within p k) m.path) (λ (m : Member). Off (Within q 0) m.path) (λ m f y i. f y (inside y i)) s.world.waiting hs)) in
      let i = entered (commuting_on child) q child body (λ x. run T q child body 0 0 x) s.world in
      let r = refills on p spec (suc k) 0 i.world (e.out.keeps (λ m. Off (Within p (suc k)) m.path) (every_with (λ (m : Member). Off (Within p k) m.path) (λ (m : Member). Off (Within p (suc k)) m.path) (λ m f y j. f y (onwards y j)) s.world.waiting hs) (λ m j. far_on p k m.path j)) in
      shape_refills w (Within p k) _ _ _ _ (create_shape T p spec child body on k n w) (create_shape U p spec child body on k n w) (mark_refills w (Within p k) d _ _ (λ x. refl) (then_refills w Nothing (Within p k) (Within p k) (settle_all T (touched_at_once child) w) (settle_all U (touched_at_once child) w) (create_on T p spec child body on k) (create_on U p spec child body on k) (λ z j. absurd j) (λ z j. j) (λ z j. absurd j) h a (then_refills s.world (Within q 0) (Within p (suc k)) (Within p k) i (entered (commuting_on child) q child body (λ x. run U q child body 0 0 x) s.world) (λ x. run T p spec on (suc k) 0 x) (λ x. run U p spec on (suc k) 0 x) inside onwards (far_on p k) hs e r)))
    where
      later : (r : Path) → From (suc k) r → From k r
      later [] f = tt
      later (j ∷ r) f = omega arith
  refills (Changes new on) p spec k n w h =
      let s = settle_all T (made_touchable spec new) w in
      let a = all_refills (made_touchable spec new) w in
      then_refills w Nothing (Within p k) (Within p k) s (settle_all U (made_touchable spec new) w) (λ v. run T p new on k n v) (λ v. run U p new on k n v) (λ z i. absurd i) (λ z i. i) (λ z i. absurd i) h a (refills on p new k n s.world (a.out.keeps (λ m. Off (Within p k) m.path) h (λ m i. absurd i)))
  refills (Ends b) p spec k n w h = still_refills w (at_path p k (DidEnd b n) ∷ []) (λ o. refl) (Within p k)

-- the run by the turns that a run takes is that run
pub fill_same : (p : AbstractProgram) (ns : List ℤ) (limit : ℕ) (T : ℕ → List Path) → whole_run (fill p ns limit T) p ns limit ≡ whole_run T p ns limit
fill_same p ns limit T =
    let U = fill p ns limit T in
    let root = 0 ∷ [] in
    let c = root_course p ns limit in
    let w : World = record { store = zeros (sizes p.items); waiting = [] } in
    let r = run T root (root_spec p) c 0 0 w in
    let all = then_refills T U w (Within root 0) Nothing (Within root 0) r (run U root (root_spec p) c 0 0 w) (settle_all T (objects (root_spec p))) (settle_all U (objects (root_spec p))) (λ z i. i) (λ z i. absurd i) (λ z i y j. absurd j) tt (refills T U c root (root_spec p) 0 0 w tt) (all_refills T U (objects (root_spec p)) r.world) in
    all.same (λ o. []) (λ o. []) (λ o. tt) (λ o. tt) (λ o. sym (append-nil (turns_on o (marks_by p ns limit T))))

-- filled lists are full
pub fill_full : (p : AbstractProgram) (ns : List ℤ) (limit : ℕ) (T : ℕ → List Path) → Full p ns limit (fill p ns limit T)
fill_full p ns limit T = record { same = λ o. ap (λ (r : Ran). turns_on o r.marks) (fill_same p ns limit T) }
