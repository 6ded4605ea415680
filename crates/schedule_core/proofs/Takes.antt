-- What a Take for Commuting needs to know, from the clauses of a sound state.
use Rattle.std.proofs.Common.{◌≡◌, ◌≢◌, ℕ, zero, suc, ◌<◌, ◌+◌, add-zero, Bool, true, false, ◌||◌, List, [], ◌∷◌, ◌++◌, map, length, refl, sym, ap, ◌∙◌, subst, Option, Some, None, arith, append-nil, ◌⊎◌, inl, inr, get_or-set_other}
use Rattle.std.specs.Prelude.{nat_eq, if◌then◌else◌, is_some, slice_set}
use Rattle.std.proofs.lemmas.Bool.Decides.{eqb_tells}
use Rattle.jade_base.specs.declared.rights.Rights.{Rights}
use Rattle.jade_meaning.specs.Specification.{rights_on, numbers, commuting_on, allows_commuting}
use Rattle.jade_base.specs.Rights.{is_immediate, is_there, mode_of}
use Rattle.jade_base.specs.declared.rights.Mode.{Mode}
use Rattle.jade_base.specs.declared.rights.Mode.TheVariants.{Reading, Writing, Commuting}
use Rattle.jade_meaning.specs.Course.{Course, Reads, Writes, Steps, Creates, Changes, Ends}
use Rattle.jade_base.specs.Rights.{may_read}
use Rattle.jade_meaning.specs.Talk.{Event, Enter, Enroll, Take, TouchRead, TouchWrite, Wants, Give, Leave, Shift, Resign}
use Rattle.jade_meaning.specs.Serial.{Mark, Path, Store, DidTurn, DidEnd, after, serial, same_path}
use Rattle.jade_meaning.specs.Turns.{Member, World, Ran, at_path, below, turn, settle_all, first, run}
use Rattle.jade_meaning.specs.Serial.{at_object}
use Rattle.schedule_core.specs.Core.{Cells, Live, Bare, writes_there, is_out, content_for, version_or}
use Rattle.jade_meaning.specs.Laws.{Every}
use Rattle.schedule_core.specs.Sound.{Has, Fit, Orderly, Pairs, Before, Apart, IsEnd, TakesOnly, OwnLast, settling, awaits, left, left_from}
use Rattle.schedule_core.specs.Onwards.{sees, sited, step, onwards, onwards_all}
use Rattle.schedule_core.specs.Going.{world_of}
use Rattle.schedule_core.proofs.Groups.{Leaves, Sole, Aside, after_at, after_both}
use Rattle.schedule_core.proofs.Soles.{proper_clean, flat_leaves, cells_after, after_only}
use Rattle.schedule_core.proofs.Calm.{mode_commutes}
use Rattle.jade_meaning.proofs.Filling.{same_self, same_path_is}
use Rattle.schedule_core.proofs.Running.{every_by}
use Rattle.schedule_core.proofs.Idle.{Away, away_self, false_true}
use Rattle.schedule_core.proofs.Blind.{Alike, serial_blind, length_sees, length_kept, kept_at, set_at}
use Rattle.schedule_core.proofs.Front.{Front, HasTurn, has_turn, own_mode, only_one, waits_sole, fronts_idle, fronts_aside}
use Rattle.schedule_core.proofs.Taking.{Other, Behind, sees_at}
use Rattle.schedule_core.proofs.Taken.{Takes, Same, member_of, take_same}

map_at : (f : ℕ → Cells) (n a i : ℕ) → i < n → at_object (map f (numbers a n)) i ≡ f (a + i)
map_at f zero a i lt = absurd (omega arith)
map_at f (suc n) a zero lt = ap f (sym (add-zero a))
map_at f (suc n) a (suc i) lt =
    let z : suc a + i ≡ a + suc i = omega arith in map_at f n (suc a) i (omega arith) ∙ ap f z

pub world_at : (size : ℕ) (f : ℕ → Cells) (o : ℕ) → o < size → at_object (world_of size f).store o ≡ f o
world_at size f o lt = let z : 0 + o ≡ o = omega arith in map_at f size 0 o lt ∙ ap f z

pub onwards_store : (t : ℕ → List Path) (us : List (Live Bare)) (w : World) → (onwards t us w).world.store ≡ after (onwards t us w).marks w.store
onwards_store t [] w = refl
onwards_store t (u ∷ us) w =
    onwards_store t us (step t u w).world ∙ sym (after_both (step t u w).marks (onwards t us (step t u w).world).marks w.store)

pub sees_same : (u v : Live Bare) → ((x : ℕ) → u.versions x ≡ v.versions x) → (i : ℕ) (s : Store) → sees u i s ≡ sees v i s
sees_same u v h i [] = refl
sees_same u v h i (xs ∷ s) =
    ap (λ z. version_or z xs ∷ sees u (suc i) s) (h i) ∙ ap (λ z. content_for v i xs ∷ z) (sees_same u v h (suc i) s)

-- what is left of one that has its turn, or is to do nothing
pub turn_left : (t : ℕ → List Path) (u : Live World) → settling u.doing.pending ≡ [] → awaits u.doing.pending ≡ None → (y : ℕ) → (commuting_on u.doing.spec ≡ Some y) ⊎ IsEnd u.doing.course → left t u ≡ record { marks = map (below u.path) (serial u.doing.course u.part u.doing.steps u.place.store); world = record { store = after (map (below u.path) (serial u.doing.course u.part u.doing.steps u.place.store)) u.place.store; waiting = u.place.waiting } }
turn_left t u s a y h =
    ap (λ os. first (settle_all t os u.place).marks (left_from t (awaits u.doing.pending) (commuting_on u.doing.spec) u (settle_all t os u.place).world)) s ∙ ap (λ x. first [] (left_from t x (commuting_on u.doing.spec) u u.place)) a ∙ go h
  where
    W : Course → World
    W c = record { store = after (map (below u.path) (serial c u.part u.doing.steps u.place.store)) u.place.store; waiting = u.place.waiting }

    ends : (c : Course) → IsEnd c → (x : Option ℕ) → x ≡ commuting_on u.doing.spec → u.doing.course ≡ c → left_from t None (commuting_on u.doing.spec) u u.place ≡ record { marks = map (below u.path) (serial c u.part u.doing.steps u.place.store); world = W c }
    ends (Ends b) e None i j =
        ap (λ x. left_from t None x u u.place) (sym i) ∙ ap (λ c. run t u.path u.doing.spec c u.part u.doing.steps u.place) j ∙ ap (λ p. record { marks = at_path p u.part (DidEnd b u.doing.steps) ∷ []; world = u.place }) (sym (append-nil u.path))
    ends (Ends b) e (Some z) i j =
        ap (λ x. left_from t None x u u.place) (sym i) ∙ ap (λ c. record { marks = map (below u.path) (serial c u.part u.doing.steps u.place.store); world = W c }) j
    ends (Reads o c on) e x i j = absurd e
    ends (Writes o c v on) e x i j = absurd e
    ends (Steps on) e x i j = absurd e
    ends (Creates child body on) e x i j = absurd e
    ends (Changes new on) e x i j = absurd e

    go : (commuting_on u.doing.spec ≡ Some y) ⊎ IsEnd u.doing.course → left_from t None (commuting_on u.doing.spec) u u.place ≡ record { marks = map (below u.path) (serial u.doing.course u.part u.doing.steps u.place.store); world = W u.doing.course }
    go (inl e) = ap (λ x. left_from t None x u u.place) e
    go (inr e) = ends u.doing.course e (commuting_on u.doing.spec) refl refl

-- c takes o for its turn: the tasks before it, and those behind
pub record Now (size : ℕ) (f : ℕ → Cells) (o : ℕ) (es : List Event) (b l : List (Live Bare)) (c : Live Bare) : Type 0 where
  pub pends : c.doing.pending ≡ Take o Commuting ∷ es
  pub fits_b : Every Fit b
  pub fit : Fit c
  pub fits_l : Every Fit l
  pub apart_b : Every (λ s. Apart s c) b
  pub apart_l : Every (Apart c) l
  pub before_bb : Pairs (Before o) b
  pub before_l : Every (Before o c) l
  pub front : Every (Front o) b
  pub home_l : Every (λ u. is_out (u.held o) ≡ false) l
  pub inside : o < size

pub read_mode : (a : Rights) → may_read a ≡ true → is_some (mode_of a) ≡ true
read_mode a h = go (is_immediate a.commutes) (is_immediate a.writes) (is_immediate a.reads) h
  where
    go : (c w r : Bool) → r || c ≡ true → is_some (if c then Some Commuting else (if w then Some Writing else (if r then Some Reading else None))) ≡ true
    go true w r h = refl
    go false true r h = refl
    go false false true h = refl
    go false false false h = absurd (cc)

module _ (size : ℕ) (f : ℕ → Cells) (o : ℕ) (es : List Event) (b l : List (Live Bare)) (c : Live Bare) (n : Now size f o es b l c) where
  pub orderly : Orderly c.doing.spec c.doing.plan c.doing.course (Take o Commuting ∷ es) c.rights c.held
  orderly = subst (λ z. Orderly c.doing.spec c.doing.plan c.doing.course z c.rights c.held) n.pends n.fit.orderly

  pub commutes : is_there (c.rights o).commutes ≡ true
  commutes = mode_commutes (c.rights o) orderly.1

  pub waits : awaits c.doing.pending ≡ Some o
  waits = ap awaits n.pends

  pub after_it : (settling es ≡ []) × (awaits es ≡ None)
  after_it = subst OwnLast n.pends n.fit.own_last

  or_true : (a b : Bool) → b ≡ true → a || b ≡ true
  or_true true b e = refl
  or_true false b e = e

  pub writes_c : writes_there o c ≡ true
  writes_c = or_true (is_there (c.rights o).writes) (is_there (c.rights o).commutes) commutes

  pub unseen_c : c.versions o ≡ None
  unseen_c = go (c.versions o) refl
    where
      go : (x : Option Cells) → c.versions o ≡ x → x ≡ None
      go None e = refl
      go (Some xs) e =
          absurd (let h : c.held o ≡ Some Reading = n.fit.keeps o (ap is_some e) writes_c in let z : None ≡ Some Reading = sym orderly.0 ∙ h in cc)

  part_zero : c.part ≡ 0
  part_zero = (n.fit.begun o waits).0

  own_one : (commuting_on c.doing.spec ≡ Some o) ⊎ IsEnd c.doing.course
  own_one = (n.fit.begun o waits).1

  -- no path of another
  pub away_b : (s : Live Bare) → Apart s c → Away c.path s.path s.part
  away_b s a r g = go (same_path (s.path ++ r) c.path) refl
    where
      go : (x : Bool) → same_path (s.path ++ r) c.path ≡ x → x ≡ false
      go false e = refl
      go true e =
          absurd (a c.path (record { rest = r; is = sym (same_path_is (s.path ++ r) c.path e); from = g }) (record { rest = []; is = sym (append-nil c.path); from = tt }))

  pub away_l : (u : Live Bare) → Apart c u → Away c.path u.path u.part
  away_l u a r g = go (same_path (u.path ++ r) c.path) refl
    where
      go : (x : Bool) → same_path (u.path ++ r) c.path ≡ x → x ≡ false
      go false e = refl
      go true e =
          absurd (a c.path (record { rest = []; is = sym (append-nil c.path); from = tt }) (record { rest = r; is = sym (same_path_is (u.path ++ r) c.path e); from = g }))

  unseen_l : (u : Live Bare) → Before o c u → u.versions o ≡ None
  unseen_l u h = go (u.versions o) refl
    where
      go : (x : Option Cells) → u.versions o ≡ x → x ≡ None
      go None e = refl
      go (Some xs) e = false_true (writes_there o c) (h.reading (ap is_some e)) writes_c

  module _ (t1 t2 : ℕ → List Path) (here : t1 o ≡ c.path ∷ t2 o) (there : (x : ℕ) → x ≢ o → t1 x ≡ t2 x) where
    abbrev w0 : World
    w0 = world_of size f

    abbrev wc : World
    wc = (onwards t2 b w0).world

    abbrev m : Member
    m = member_of c o wc

    abbrev turn_mark : Mark
    turn_mark = at_path c.path 0 (DidTurn o)

    abbrev raw : List Mark
    raw = turn_mark ∷ map (below c.path) (serial c.doing.course 0 c.doing.steps (slice_set m.kept o (f o)))

    abbrev ys : Cells
    ys = cells_after o raw (f o)

    idle : Leaves o (onwards t2 b w0).marks × Every Sole wc.waiting
    idle = fronts_idle t2 o b w0 n.fits_b n.front n.before_bb (inl refl) tt

    aside : Aside c.path (onwards t2 b w0).marks
    aside =
        (fronts_aside t2 c.path b w0 n.fits_b (every_by (λ s. Apart s c) (λ s. Away c.path s.path s.part) away_b b n.apart_b) tt).0

    content : at_object wc.store o ≡ f o
    content =
        ap (λ s. at_object s o) (onwards_store t2 b w0) ∙ after_at o (onwards t2 b w0).marks w0.store idle.0 ∙ world_at size f o n.inside

    raw_is : raw ≡ turn m wc.store
    raw_is =
        ap (λ xs. turn_mark ∷ map (below c.path) (serial c.doing.course 0 c.doing.steps (slice_set m.kept o xs))) (sym content)

    sole : Sole m
    sole = waits_sole c n.fit o waits m.kept

    raw_leaves : (x : ℕ) → x ≢ o → Leaves x raw
    raw_leaves x ne = subst (Leaves x) (sym raw_is) (sole.0 wc.store x (λ i. ne (sym i)))

    raw_own : Every (λ (k : Mark). k.path ≡ c.path) raw
    raw_own = subst (Every (λ (k : Mark). k.path ≡ c.path)) (sym raw_is) (sole.1 wc.store)

    acts : (s : Store) → at_object s o ≡ f o → after raw s ≡ slice_set s o ys
    acts s h = after_only o raw s raw_leaves ∙ ap (λ xs. slice_set s o (cells_after o raw xs)) h

    pub other_b : (s : Live Bare) → Apart s c → Other m t1 t2 here there s
    other_b s a = record { fresh = away_b s a; path = away_self c.path s.path s.part (away_b s a) }

    pub other_l : (u : Live Bare) → Apart c u → Other m t1 t2 here there u
    other_l u a = record { fresh = away_l u a; path = away_self c.path u.path u.part (away_l u a) }

    behind : (u : Live Bare) → Fit u → Apart c u → Before o c u → is_out (u.held o) ≡ false → Behind m t1 t2 here there (f o) ys (same_self c.path) acts u
    behind u g a h out = record {
      other = other_l u a;
      clean = proper_clean g.proper;
      unseen = unseen_l u h;
      reads = λ y e. reads y e (is_immediate (u.rights o).reads) refl;
      sole = λ y kept e. waits_sole u g y e kept;
      apart = λ y e i s. turns y (has_turn u g y i e) e s;
    }
      where
        none : u.versions o ≡ None
        none = unseen_l u h

        reads : (y : ℕ) → awaits u.doing.pending ≡ Some y → (x : Bool) → is_immediate (u.rights o).reads ≡ x → (is_immediate (u.rights o).reads ≡ false) ⊎ Has o (settling u.doing.pending)
        reads y e false i = inl i
        reads y e true i = go (g.reads o y e i)
          where
            go : Has o (settling u.doing.pending) ⊎ (is_some (u.versions o) ≡ true) → (is_immediate (u.rights o).reads ≡ false) ⊎ Has o (settling u.doing.pending)
            go (inl k) = inr k
            go (inr k) = false_true (is_some (u.versions o)) (ap is_some none) k

        not_held : (x : Option Mode) → u.held o ≡ x → is_some x ≡ true → ⊥
        not_held None e k = absurd (cc)
        not_held (Some Reading) e k = false_true (is_some (u.versions o)) (ap is_some none) (g.reading o e)
        not_held (Some Writing) e k = false_true (is_out (u.held o)) out (ap is_out e)
        not_held (Some Commuting) e k = false_true (is_out (u.held o)) out (ap is_out e)

        turns : (y : ℕ) → HasTurn u y → commuting_on u.doing.spec ≡ Some y → (s : Store) → (Leaves o (map (below u.path) (serial u.doing.course u.part u.doing.steps s)) × Aside c.path (map (below u.path) (serial u.doing.course u.part u.doing.steps s))) × (serial u.doing.course u.part u.doing.steps (slice_set s o ys) ≡ serial u.doing.course u.part u.doing.steps s)
        turns y k e s =
            let ne : y ≢ o = λ i. not_held (u.held o) refl (ap is_some (k.holds o ∙ subst (λ z. mode_of (rights_on u.doing.spec z) ≡ Some Commuting) i (own_mode u.doing.spec y e k.fits))) in
            let flat = flat_leaves g.proper y e k.writes u.path u.part u.doing.steps s in
            let strange = away_self c.path u.path u.part (away_l u a) in
            ((flat.0 o ne, every_by (λ (x : Mark). x.path ≡ u.path) (λ (x : Mark). same_path x.path c.path ≡ false) (λ x i. ap (λ z. same_path z c.path) i ∙ strange) _ flat.1), serial_blind g.proper y e u.part u.doing.steps (slice_set s o ys) s (record { at = λ x i. get_or-set_other s o x ys [] (λ j. not_held (u.held o) refl (ap is_some (k.holds o) ∙ read_mode (rights_on u.doing.spec o) (subst (λ z. may_read (rights_on u.doing.spec z) ≡ true) j i))) }))

    -- what the Take makes of it
    module _ (d : Live Bare) (path : d.path ≡ c.path) (part : d.part ≡ c.part) (versions : (x : ℕ) → d.versions x ≡ c.versions x) (doing : d.doing ≡ record c.doing { pending = es }) where
      abbrev place : Store
      place = sees d 0 wc.store

      abbrev mine : List Mark
      mine = map (below c.path) (serial c.doing.course c.part c.doing.steps place)

      goes : left t2 (sited d wc) ≡ record { marks = mine; world = record { store = after mine place; waiting = wc.waiting } }
      goes =
          let s : settling d.doing.pending ≡ [] = ap (λ z. settling z.pending) doing ∙ after_it.0 in
          let a : awaits d.doing.pending ≡ None = ap (λ z. awaits z.pending) doing ∙ after_it.1 in
          let e : (commuting_on d.doing.spec ≡ Some o) ⊎ IsEnd d.doing.course = subst (λ z. (commuting_on z.spec ≡ Some o) ⊎ IsEnd z.course) (sym doing) own_one in
          let R : Path → Course → ℕ → ℕ → Ran = λ p x k i. record { marks = map (below p) (serial x k i place); world = record { store = after (map (below p) (serial x k i place)) place; waiting = wc.waiting } } in
          turn_left t2 (sited d wc) s a o e ∙ ap (λ z. R d.path z.course d.part z.steps) doing ∙ ap (λ p. R p c.doing.course d.part c.doing.steps) path ∙ ap (λ k. R c.path c.doing.course k c.doing.steps) part

      -- its turn sees what it would see at its place
      alike : (commuting_on c.doing.spec ≡ Some o) → Alike c.doing.spec (slice_set m.kept o (f o)) place
      alike e = record { at = λ x i. go x i (eqb_tells x o) }
        where
          g : (x : ℕ) → c.rights x ≡ rights_on c.doing.spec x
          g = rights_at es c.rights _ orderly.2 (takes_tail (n.fit.turned o e).0)
            where
              takes_tail : TakesOnly c.doing.pending → TakesOnly es
              takes_tail h = subst (λ z. TakesOnly z) n.pends h

              rights_at : (es : List Event) (r : ℕ → Rights) (h : ℕ → Option Mode) → Orderly c.doing.spec c.doing.plan c.doing.course es r h → TakesOnly es → (x : ℕ) → r x ≡ rights_on c.doing.spec x
              rights_at [] r h k i = k.0.rights
              rights_at (Take y z ∷ es) r h k i = rights_at es r _ k.2 i
              rights_at (Give y ∷ es) r h k i = absurd i
              rights_at (Enter y a ∷ es) r h k i = absurd i
              rights_at (Shift y a ∷ es) r h k i = absurd i
              rights_at (Leave y ∷ es) r h k i = absurd i
              rights_at (Enroll y a ∷ es) r h k i = absurd i
              rights_at (TouchRead y a v ∷ es) r h k i = absurd i
              rights_at (TouchWrite y a v ∷ es) r h k i = absurd i
              rights_at (Wants y a ∷ es) r h k i = absurd i
              rights_at (Resign y a ∷ es) r h k i = absurd i

          lengths : length m.kept ≡ length wc.store
          lengths = length_kept c.rights 0 (sees c 0 wc.store) ∙ length_sees c 0 wc.store

          go : (x : ℕ) → may_read (rights_on c.doing.spec x) ≡ true → ((nat_eq x o ≡ true) × (x ≡ o)) ⊎ ((nat_eq x o ≡ false) × (x ≢ o)) → at_object (slice_set m.kept o (f o)) x ≡ at_object place x
          go x i (inl k) =
              let z : 0 + o ≡ o = omega arith in
              subst (λ y. at_object (slice_set m.kept o (f o)) y ≡ at_object place y) (sym k.1) (ap (λ xs. at_object (slice_set m.kept o xs) o) (sym content) ∙ set_at m.kept wc.store o lengths ∙ sym (sees_at d 0 o wc.store (subst (λ y. d.versions y ≡ None) (sym z) (versions o ∙ unseen_c))))
          go x i (inr k) =
              let z : 0 + x ≡ x = omega arith in
              let imm : is_immediate (c.rights x).reads ≡ true = reads_there x i k.1 in
              get_or-set_other m.kept o x (f o) [] (λ j. k.1 j) ∙ kept_at c.rights 0 (sees c 0 wc.store) x (subst (λ y. is_immediate (c.rights y).reads ≡ true) (sym z) imm) ∙ ap (λ s. at_object s x) (sees_same c d (λ y. sym (versions y)) 0 wc.store)
            where
              or_first : (a b : Bool) → b ≡ false → a || b ≡ true → a ≡ true
              or_first true b e h = refl
              or_first false b e h = absurd (let z : false ≡ true = sym e ∙ h in cc)

              reads_there : (x : ℕ) → may_read (rights_on c.doing.spec x) ≡ true → x ≢ o → is_immediate (c.rights x).reads ≡ true
              reads_there x i ne =
                  subst (λ a. is_immediate a.reads ≡ true) (sym (g x)) (or_first (is_immediate (rights_on c.doing.spec x).reads) (is_immediate (rights_on c.doing.spec x).commutes) (only_one c.doing.spec o x e (subst (λ z. allows_commuting z c.doing.spec ≡ true) e n.fit.commuting) ne) i)

      same : raw ≡ turn_mark ∷ mine
      same = go own_one
        where
          body : serial c.doing.course 0 c.doing.steps (slice_set m.kept o (f o)) ≡ serial c.doing.course 0 c.doing.steps place → raw ≡ turn_mark ∷ mine
          body e =
              ap (λ ms. turn_mark ∷ map (below c.path) ms) (e ∙ ap (λ k. serial c.doing.course k c.doing.steps place) (sym part_zero))

          ends : (x : Course) → IsEnd x → serial x 0 c.doing.steps (slice_set m.kept o (f o)) ≡ serial x 0 c.doing.steps place
          ends (Ends b) e = refl
          ends (Reads o c on) e = absurd e
          ends (Writes o c v on) e = absurd e
          ends (Steps on) e = absurd e
          ends (Creates child body on) e = absurd e
          ends (Changes new on) e = absurd e

          go : (commuting_on c.doing.spec ≡ Some o) ⊎ IsEnd c.doing.course → raw ≡ turn_mark ∷ mine
          go (inl e) =
              body (serial_blind n.fit.proper o e 0 c.doing.steps (slice_set m.kept o (f o)) place (alike e))
          go (inr e) = body (ends c.doing.course e)

      abbrev takes : (settling c.doing.pending ≡ []) → (os : List ℕ) → (inside : Every (λ x. x ≢ o) os → ⊥) → Takes o t1 t2 os inside b l c d w0 here there (f o) ys mine
      takes s os inside = record {
        waits = (s, waits);
        goes = goes;
        same = same;
        acts = acts;
        content = content;
        own = subst (Every (λ (k : Mark). k.path ≡ c.path)) same raw_own;
        sole = λ x ne. subst (Leaves x) same (raw_leaves x ne);
        before = every_by (λ s. Apart s c) (Other m t1 t2 here there) other_b b n.apart_b;
        nobody = tt;
        soles = idle.1;
        idle = (idle.0, aside);
      }

      pub take_deeds : (log : List Mark) → Same (log ++ (onwards_all t1 (numbers 0 size) (b ++ (c ∷ l)) w0).marks) ((log ++ turn_mark ∷ []) ++ (onwards_all t2 (numbers 0 size) (b ++ (d ∷ l)) w0).marks)
      take_deeds log =
          take_same o t1 t2 (numbers 0 size) inside b l c d w0 here there (f o) ys mine (takes (ap settling n.pends ∙ after_it.0) (numbers 0 size) inside) (all l n.fits_l n.apart_l n.before_l n.home_l) log
        where
          inside : Every (λ x. x ≢ o) (numbers 0 size) → ⊥
          inside h = let z : 0 + o ≡ o = omega arith in missing size 0 o n.inside (subst (λ k. Every (λ x. x ≢ k) (numbers 0 size)) (sym z) h)
            where
              missing : (n a i : ℕ) → i < n → Every (λ x. x ≢ a + i) (numbers a n) → ⊥
              missing zero a i lt h = absurd (omega arith)
              missing (suc n) a zero lt h = h.0 (sym (add-zero a))
              missing (suc n) a (suc i) lt h =
                  let z : suc a + i ≡ a + suc i = omega arith in
                  missing n (suc a) i (omega arith) (subst (λ k. Every (λ x. x ≢ k) (numbers (suc a) n)) (sym z) h.1)

          all : (us : List (Live Bare)) → Every Fit us → Every (Apart c) us → Every (Before o c) us → Every (λ u. is_out (u.held o) ≡ false) us → Every (Behind m t1 t2 here there (f o) ys (same_self c.path) acts) us
          all [] g a h k = tt
          all (u ∷ us) g a h k = (behind u g.0 a.0 h.0 k.0, all us g.1 a.1 h.1 k.1)
