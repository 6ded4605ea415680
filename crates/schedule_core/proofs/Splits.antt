-- What a deed does of what is left, for a task that does not commute: the same as without commuting, since no group waits on what it holds.
use Rattle.std.proofs.Common.{◌≡◌, ◌≢◌, ℕ, zero, suc, ◌<◌, ◌+◌, add-zero, Bool, true, false, not, ◌||◌, ◌&&◌, List, [], ◌∷◌, ◌++◌, map, length, refl, sym, ap, ◌∙◌, subst, Option, Some, None, arith}
use Rattle.std.specs.Prelude.{ℤ, nat_lt, if◌then◌else◌, is_some}
use Rattle.std.specs.List.{flat_map}
use Rattle.std.proofs.lemmas.List.{get_or_past}
use Rattle.std.proofs.lemmas.Bool.{ltb-true, ltb-false, ne_eqb}
use Rattle.jade_base.specs.declared.rights.Rights.{Rights}
use Rattle.jade_base.specs.Rights.{no_rights, is_immediate, is_there, mode_of, covered}
use Rattle.jade_meaning.specs.Specification.{Specification, rights_on, numbers, objects, all_covered, covers, commuting_on, commuting_among}
use Rattle.jade_base.specs.declared.rights.Mode.{Mode}
use Rattle.jade_base.specs.declared.rights.Mode.TheVariants.{Reading, Writing, Commuting}
use Rattle.jade_meaning.specs.Course.{Course, Reads, Writes, Creates}
use Rattle.jade_meaning.specs.Talk.{Event, Take, Holds, held, take_in, start_takes, start_holds, own_last}
use Rattle.jade_meaning.specs.Serial.{Path, DidRead, DidWrite, DidCreate, cell, with_cell}
use Rattle.jade_meaning.specs.Turns.{Member, World, Ran, at_path, group, settled, settle_all, first, entered, joined, Bared, bared, kept_from, run, touched_at_once, made_touchable, chosen}
use Rattle.jade_meaning.specs.Doing.{Doing, opened, preceded}
use Rattle.jade_meaning.specs.Proper.{Proper, proper_read, proper_write, proper_step, proper_create, proper_change, proper_end}
use Rattle.schedule_core.specs.Sound.{settling}
use Rattle.schedule_core.proofs.Groups.{group_both}
use Rattle.schedule_core.proofs.Opens.{Clear, Plain, AllPlain, left_of, opens, empty_ran, stays_empty, gets_empty, group_others, first_twice, all_both, settling_both, chosen_has, Has}

-- cover
and_left : (a b : Bool) → a && b ≡ true → a ≡ true
and_left true b h = refl
and_left false b h = h

and_right : (a b : Bool) → a && b ≡ true → b ≡ true
and_right true b h = h
and_right false b h = absurd (cc)

covered_from : (parent child : Specification) (o n i : ℕ) → all_covered parent child (numbers o n) ≡ true → i < n → covered (rights_on parent (o + i)) (rights_on child (o + i)) ≡ true
covered_from parent child o zero i h lt = absurd (omega arith)
covered_from parent child o (suc n) zero h lt = rw add-zero (and_left _ _ h)
covered_from parent child o (suc n) (suc i) h lt =
    let e : suc o + i ≡ o + suc i = omega arith in
    subst (λ x. covered (rights_on parent x) (rights_on child x) ≡ true) e (covered_from parent child (suc o) n i (and_right _ _ h) (omega arith))

pub covers_each : (parent child : Specification) → covers parent child ≡ true → (o : ℕ) → covered (rights_on parent o) (rights_on child o) ≡ true
covers_each parent child h o = go (nat_lt o (length child)) refl
  where
    go : (b : Bool) → nat_lt o (length child) ≡ b → covered (rights_on parent o) (rights_on child o) ≡ true
    go true e =
        let lt : o < length child = ltb-true o (length child) e in
        let zero_more : 0 + o ≡ o = omega arith in
        subst (λ i. covered (rights_on parent i) (rights_on child i) ≡ true) zero_more (covered_from parent child 0 (length child) o h lt)
    go false e =
        let none : rights_on child o ≡ no_rights = get_or_past child o no_rights (ltb-false o (length child) e) in
        subst (λ a. covered (rights_on parent o) a ≡ true) (sym none) refl

pub no_writes : (a b : Rights) → covered a b ≡ true → is_there a.writes ≡ false → is_there b.writes ≡ false
no_writes a b h e = go (is_there b.reads) (is_there a.reads) (is_there a.writes) (is_there b.writes) (is_there b.commutes) h e
  where
    go : (r r' w' w c : Bool) → (not r || r') && (not w || w') && (not c || (r' && w')) ≡ true → w' ≡ false → w ≡ false
    go r r' w' false c h e = refl
    go r r' true true c h e = absurd (cc)
    go r r' false true c h e = absurd (let x = and_left ((not r || r') && false) _ h in let y = and_right (not r || r') false x in cc)

pub no_commutes : (a b : Rights) → covered a b ≡ true → is_there a.writes ≡ false → is_there b.commutes ≡ false
no_commutes a b h e = go (is_there b.reads) (is_there a.reads) (is_there a.writes) (is_there b.writes) (is_there b.commutes) h e
  where
    go : (r r' w' w c : Bool) → (not r || r') && (not w || w') && (not c || (r' && w')) ≡ true → w' ≡ false → c ≡ false
    go r r' w' w false h e = refl
    go r r' true w true h e = absurd (cc)
    go r true false w true h e = absurd (let x = and_right ((not r || true) && (not w || false)) false h in cc)
    go r false false w true h e = absurd (let x = and_right ((not r || false) && (not w || false)) false h in cc)

pub commutes_there : (spec : Specification) (os : List ℕ) (y : ℕ) → commuting_among spec os ≡ Some y → is_there (rights_on spec y).commutes ≡ true
commutes_there spec [] y h = absurd (cc)
commutes_there spec (o ∷ os) y h = go (is_there (rights_on spec o).commutes) refl h (λ e. commutes_there spec os y e)
  where
    go : (b : Bool) → is_there (rights_on spec o).commutes ≡ b → (if b then Some o else commuting_among spec os) ≡ Some y → (commuting_among spec os ≡ Some y → is_there (rights_on spec y).commutes ≡ true) → is_there (rights_on spec y).commutes ≡ true
    go true e h k = let i : o ≡ y = cc in subst (λ z. is_there (rights_on spec z).commutes ≡ true) i e
    go false e h k = k h

not_more : (a b : Bool) → (a ≡ true → b ≡ true) → b ≡ false → a ≡ false
not_more true b f e = absurd (let t : b ≡ true = f refl in cc)
not_more false b f e = refl

pub join_group : (o : ℕ) (q : Path) (y : ℕ) (r : ℕ → Rights) (b : Bared) (w : World) → y ≢ o → group o w.waiting ≡ [] → group o (joined q y r b w).waiting ≡ []
join_group o q y r b w ne h =
    let m : Member = record { path = q; object = y; course = b.course; steps = b.steps; kept = kept_from 0 r w.store } in
    group_both o w.waiting (m ∷ []) ∙ ap (λ g. g ++ group o (m ∷ [])) h ∙ ap (λ x. if x then m ∷ [] else []) (ne_eqb y o ne)

module _ (t : ℕ → List Path) where
  -- who may not write an object lets nobody wait there
  pub no_add : (o : ℕ) {spec : Specification} {c : Course} → Proper spec c → is_there (rights_on spec o).writes ≡ false → (p : Path) (k n : ℕ) (w : World) → group o w.waiting ≡ [] → group o (run t p spec c k n w).world.waiting ≡ []
  no_add o (proper_read {o = x} i f) e p k n w h = no_add o (f _) e p k n (settled t x w) (group_others o x w.waiting h)
  no_add o (proper_write {o = x} {c = c} {v = v} i q) e p k n w h =
      no_add o q e p k n _ (group_others o x w.waiting h)
  no_add o (proper_step q) e p k n w h = no_add o q e p k (suc n) w h
  no_add o {spec} (proper_create {child = child} {body = body} {on = on} none may cov size b q) e p k n w h =
      let s = settle_all t (touched_at_once child) w in
      let i = stays_empty t o (touched_at_once child) w h in
      let c = covers_each spec child cov o in
      no_add o q e p (suc k) 0 _ (go (commuting_on child) refl s.world i (no_add o b (no_writes (rights_on spec o) (rights_on child o) c e) (p ++ k ∷ []) 0 0 s.world i) (no_commutes (rights_on spec o) (rights_on child o) c e))
    where
      go : (x : Option ℕ) → commuting_on child ≡ x → (v : World) → group o v.waiting ≡ [] → group o (run t (p ++ k ∷ []) child body 0 0 v).world.waiting ≡ [] → is_there (rights_on child o).commutes ≡ false → group o (entered x (p ++ k ∷ []) child body (λ z. run t (p ++ k ∷ []) child body 0 0 z) v).world.waiting ≡ []
      go None q v i r c = r
      go (Some y) q v i r c =
          let ne : y ≢ o = λ u. let a : is_there (rights_on child o).commutes ≡ true = subst (λ z. is_there (rights_on child z).commutes ≡ true) u (commutes_there child (objects child) y q) in let z : false ≡ true = sym c ∙ a in absurd (cc) in
          join_group o (p ++ k ∷ []) y (rights_on child) (bared body 0) v ne i
  no_add o {spec} (proper_change {new = new} none m q) e p k n w h =
      no_add o q (not_more (is_there (rights_on new o).writes) (is_there (rights_on spec o).writes) (m.writes o) e) p k n _ (stays_empty t o (made_touchable spec new) w h)
  no_add o proper_end e p k n w h = h

  -- a read of an object on which nobody waits
  pub read_splits : (p : Path) (spec : Specification) (h : Holds) (o c : ℕ) (on : ℤ → Course) (k n : ℕ) (w : World) → AllPlain (on (cell w.store o c)) → Clear h w → group o w.waiting ≡ [] → run t p spec (Reads o c on) k n w ≡ first (at_path p k (DidRead o c (cell w.store o c)) ∷ []) (left_of t p k (opened (on (cell w.store o c)) spec h n) w)
  read_splits p spec h o c on k n w plain clear none =
      ap (λ (r : Ran). first (r.marks ++ at_path p k (DidRead o c (cell r.world.store o c)) ∷ []) (run t p spec (on (cell r.world.store o c)) k n r.world)) (empty_ran t o w none) ∙ ap (first (at_path p k (DidRead o c (cell w.store o c)) ∷ [])) (sym (opens t (on (cell w.store o c)) spec h n p k w plain clear))

  pub write_splits : (p : Path) (spec : Specification) (h : Holds) (o c : ℕ) (v : ℤ) (on : Course) (k n : ℕ) (w : World) → AllPlain on → Clear h w → group o w.waiting ≡ [] → run t p spec (Writes o c v on) k n w ≡ first (at_path p k (DidWrite o c v) ∷ []) (left_of t p k (opened on spec h n) (record w { store = with_cell w.store o c v }))
  write_splits p spec h o c v on k n w plain clear none =
      ap (λ (r : Ran). first (r.marks ++ at_path p k (DidWrite o c v) ∷ []) (run t p spec on k n (record r.world { store = with_cell r.world.store o c v }))) (empty_ran t o w none) ∙ ap (first (at_path p k (DidWrite o c v) ∷ [])) (sym (opens t on spec h n p k (record w { store = with_cell w.store o c v }) plain clear))

  -- a Take where nobody waits
  pub take_splits : (p : Path) (k : ℕ) (o : ℕ) (m : Mode) (es : List Event) (d : Doing) (w : World) → group o w.waiting ≡ [] → left_of t p k (record d { pending = Take o m ∷ es }) w ≡ left_of t p k (record d { pending = es }) w
  take_splits p k o Commuting es d w none = refl
  take_splits p k o Reading es d w none =
      ap (λ (r : Ran). first (r.marks ++ (settle_all t (settling es) r.world).marks) (run t p d.spec d.course k d.steps (settle_all t (settling es) r.world).world)) (empty_ran t o w none)
  take_splits p k o Writing es d w none =
      ap (λ (r : Ran). first (r.marks ++ (settle_all t (settling es) r.world).marks) (run t p d.spec d.course k d.steps (settle_all t (settling es) r.world).world)) (empty_ran t o w none)

-- the start of a task that does not commute
starts_settle : (child : Specification) → Plain child → (n a : ℕ) → settling (flat_map (λ o. take_in (mode_of (rights_on child o)) o) (numbers a n)) ≡ chosen (λ o. is_immediate (rights_on child o).reads || is_immediate (rights_on child o).writes) (numbers a n)
starts_settle child plain zero a = refl
starts_settle child plain (suc n) a =
    go (is_immediate (rights_on child a).commutes) (is_immediate (rights_on child a).writes) (is_immediate (rights_on child a).reads) (plain a) (starts_settle child plain n (suc a))
  where
    E : List Event
    E = flat_map (λ o. take_in (mode_of (rights_on child o)) o) (numbers (suc a) n)

    L : List ℕ
    L = chosen (λ o. is_immediate (rights_on child o).reads || is_immediate (rights_on child o).writes) (numbers (suc a) n)

    go : (c w r : Bool) → c ≡ false → settling E ≡ L → settling (take_in (if c then Some Commuting else (if w then Some Writing else (if r then Some Reading else None))) a ++ E) ≡ (if r || w then a ∷ L else L)
    go true w r e k = absurd (cc)
    go false true true e k = ap (λ z. a ∷ z) k
    go false true false e k = ap (λ z. a ∷ z) k
    go false false true e k = ap (λ z. a ∷ z) k
    go false false false e k = k

held_map : (s : Specification) (i : ℕ) → held (map mode_of s) i ≡ mode_of (rights_on s i)
held_map [] i = refl
held_map (a ∷ s) zero = refl
held_map (a ∷ s) (suc i) = held_map s i

module _ (t : ℕ → List Path) where
  start_clear : (child : Specification) → Plain child → (w : World) → Clear (start_holds child) (settle_all t (touched_at_once child) w).world
  start_clear child plain w i some =
      there (nat_lt i (length child)) refl (touches (is_immediate (rights_on child i).commutes) (is_immediate (rights_on child i).writes) (is_immediate (rights_on child i).reads) (plain i) (sym (ap is_some (held_map child i)) ∙ some))
    where
      f : ℕ → Bool
      f o = is_immediate (rights_on child o).reads || is_immediate (rights_on child o).writes

      touches : (c w r : Bool) → c ≡ false → is_some (if c then Some Commuting else (if w then Some Writing else (if r then Some Reading else None))) ≡ true → r || w ≡ true
      touches true w r e h = absurd (cc)
      touches false true true e h = refl
      touches false true false e h = refl
      touches false false true e h = refl
      touches false false false e h = absurd (cc)

      there : (b : Bool) → nat_lt i (length child) ≡ b → f i ≡ true → group i (settle_all t (touched_at_once child) w).world.waiting ≡ []
      there true e q =
          let z : 0 + i ≡ i = omega arith in
          gets_empty t i (touched_at_once child) w (subst (λ j. Has j (touched_at_once child)) z (chosen_has f (length child) 0 i (ltb-true i (length child) e) (subst (λ j. f j ≡ true) (sym z) q)))
      there false e q =
          absurd (let none : rights_on child i ≡ no_rights = get_or_past child i no_rights (ltb-false i (length child) e) in let no : false ≡ true = sym (ap (λ (a : Rights). is_immediate a.reads || is_immediate a.writes) none) ∙ q in cc)

  abbrev pub kid_doing : Specification → Course → Doing
  kid_doing child body = preceded (start_takes child) (opened body child (start_holds child) 0)

  -- a child that does not commute
  pub child_runs : (q : Path) (child : Specification) (body : Course) (w : World) → commuting_on child ≡ None → Plain child → AllPlain body → left_of t q 0 (kid_doing child body) w ≡ first (settle_all t (touched_at_once child) w).marks (run t q child body 0 0 (settle_all t (touched_at_once child) w).world)
  child_runs q child body w none plain all =
      let d = opened body child (start_holds child) 0 in
      let s = settle_all t (touched_at_once child) w in
      let go = λ (os : List ℕ). first (settle_all t os w).marks (run t q d.spec d.course 0 d.steps (settle_all t os w).world) in
      let starts : start_takes child ≡ flat_map (λ o. take_in (mode_of (rights_on child o)) o) (objects child) = ap (λ x. flat_map (λ o. take_in (mode_of (rights_on child o)) o) (own_last x (objects child))) none in
      let split : settling (start_takes child ++ d.pending) ≡ touched_at_once child ++ settling d.pending = settling_both (start_takes child) d.pending ∙ ap (λ z. z ++ settling d.pending) (ap settling starts ∙ starts_settle child plain (length child) 0) in
      let r = settle_all t (settling d.pending) s.world in
      ap go split ∙ ap (λ (x : Ran). first x.marks (run t q d.spec d.course 0 d.steps x.world)) (all_both t (touched_at_once child) (settling d.pending) w) ∙ first_twice t s.marks r.marks (run t q d.spec d.course 0 d.steps r.world) ∙ ap (first s.marks) (opens t body child (start_holds child) 0 q 0 s.world all (start_clear child plain w))

  pub create_splits : (p : Path) (spec : Specification) (h : Holds) (child : Specification) (body on : Course) (k n : ℕ) (w : World) → commuting_on child ≡ None → Plain child → AllPlain body → AllPlain on → Clear h (left_of t (p ++ k ∷ []) 0 (kid_doing child body) w).world → run t p spec (Creates child body on) k n w ≡ first (at_path p k (DidCreate (record { spec = child; course = body }) n) ∷ []) (first (left_of t (p ++ k ∷ []) 0 (kid_doing child body) w).marks (left_of t p (suc k) (opened on spec h 0) (left_of t (p ++ k ∷ []) 0 (kid_doing child body) w).world))
  create_splits p spec h child body on k n w none plain all plain_on clear =
      let q = p ++ k ∷ [] in
      let d = at_path p k (DidCreate (record { spec = child; course = body }) n) in
      let s = settle_all t (touched_at_once child) w in
      let kid = left_of t q 0 (kid_doing child body) w in
      let inner : first s.marks (entered (commuting_on child) q child body (λ x. run t q child body 0 0 x) s.world) ≡ kid = ap (λ x. first s.marks (entered x q child body (λ x. run t q child body 0 0 x) s.world)) none ∙ sym (child_runs q child body w none plain all) in
      ap (λ (r : Ran). first (d ∷ []) (first r.marks (run t p spec on (suc k) 0 r.world))) inner ∙ ap (λ r. first (d ∷ []) (first kid.marks r)) (sym (opens t on spec h 0 p (suc k) kid.world plain_on clear))
