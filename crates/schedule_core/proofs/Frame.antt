-- An event that changes no turn list: the tasks before it, it, and those behind.
use Rattle.std.proofs.Common.{◌≡◌, ◌≢◌, ℕ, zero, suc, ◌+◌, add-zero, Bool, true, false, not, ◌||◌, ◌&&◌, List, [], ◌∷◌, ◌++◌, map, refl, sym, ap, ◌∙◌, subst, Option, Some, None, arith, append-nil, append_assoc, ◌⊎◌, inl, inr, get_or-set_other}
use Rattle.std.specs.Prelude.{is_some, slice_set}
use Rattle.std.specs.List.{filter_map}
use Rattle.std.proofs.lemmas.List.Elements.{filter_map-append}
use Rattle.jade_base.specs.declared.rights.Right.{Right}
use Rattle.jade_meaning.specs.Specification.{rights_on, commuting_on, allows_commuting}
use Rattle.jade_base.specs.Rights.{is_immediate, is_there, mode_of}
use Rattle.jade_base.specs.declared.rights.Mode.TheVariants.{Commuting}
use Rattle.jade_base.specs.Rights.{may_read}
use Rattle.jade_meaning.specs.Serial.{Mark, Path, Store, after, serial, same_path, marks_at}
use Rattle.jade_meaning.specs.Turns.{World, Ran, below, group, settle_all, first}
use Rattle.schedule_core.specs.Core.{Cells, Live, Bare, writes_there, is_out, version_or}
use Rattle.jade_meaning.specs.Laws.{Every}
use Rattle.schedule_core.specs.Sound.{Fit, Pairs, Before, Apart, settling, awaits, left, left_from, works_on}
use Rattle.schedule_core.specs.Onwards.{sees, sited, step, onwards, onwards_all}
use Rattle.schedule_core.specs.Going.{world_of}
use Rattle.schedule_core.proofs.Groups.{every_append, Leaves, Sole, after_set, after_both}
use Rattle.schedule_core.proofs.Soles.{flat_leaves}
use Rattle.schedule_core.proofs.Calm.{left_empty}
use Rattle.jade_meaning.proofs.Filling.{same_path_is}
use Rattle.schedule_core.proofs.Idle.{Away, Sparing, less_false, none_commutes, false_true}
use Rattle.schedule_core.proofs.Blind.{serial_blind}
use Rattle.schedule_core.proofs.Front.{Front, Unseen, has_turn, own_mode, only_one, waits_sole, fit_sited, front_free, front_calm, settles_not}
use Rattle.schedule_core.proofs.Blinds.{Blind, set_world, then_blind, all_blind, join_blind, run_blind}
use Rattle.schedule_core.proofs.Taking.{sees_set}
use Rattle.schedule_core.proofs.Taken.{Same}

pub away_of : (s c : Live Bare) → Apart s c → Away c.path s.path s.part
away_of s c a r g = go (same_path (s.path ++ r) c.path) refl
  where
    go : (x : Bool) → same_path (s.path ++ r) c.path ≡ x → x ≡ false
    go false e = refl
    go true e =
        absurd (a c.path (record { rest = r; is = sym (same_path_is (s.path ++ r) c.path e); from = g }) (record { rest = []; is = sym (append-nil c.path); from = tt }))

moves : {X : Type 0} (F : Mark → Option X) (log bs ms rest : List Mark) → (filter_map F ms ≡ []) ⊎ (filter_map F bs ≡ []) → filter_map F (log ++ (bs ++ (ms ++ rest))) ≡ filter_map F ((log ++ ms) ++ (bs ++ rest))
moves F log bs ms rest why =
    let g : List Mark → List _ = filter_map F in
    let old : g (log ++ (bs ++ (ms ++ rest))) ≡ g log ++ (g bs ++ (g ms ++ g rest)) = simp (filter_map-append) in
    let new : g ((log ++ ms) ++ (bs ++ rest)) ≡ (g log ++ g ms) ++ (g bs ++ g rest) = simp (filter_map-append) in
    old ∙ moved (g log) (g bs) (g ms) (g rest) why ∙ sym new
  where
    moved : {X : Type 0} (l b m r : List X) → (m ≡ []) ⊎ (b ≡ []) → l ++ (b ++ (m ++ r)) ≡ (l ++ m) ++ (b ++ r)
    moved l b m r (inl e) =
        ap (λ z. l ++ (b ++ (z ++ r))) e ∙ ap (λ z. z ++ (b ++ r)) (sym (append-nil l)) ∙ ap (λ z. (l ++ z) ++ (b ++ r)) (sym e)
    moved l b m r (inr e) = ap (λ z. l ++ (z ++ (m ++ r))) e ∙ sym (append_assoc l m r) ∙ ap (λ z. (l ++ m) ++ (z ++ r)) (sym e)

module _ (t : ℕ → List Path) where
  pub onwards_both : (a r : List (Live Bare)) (w : World) → onwards t (a ++ r) w ≡ first (onwards t a w).marks (onwards t r (onwards t a w).world)
  onwards_both [] r w = refl
  onwards_both (u ∷ a) r w =
      ap (first (step t u w).marks) (onwards_both a r (step t u w).world) ∙ ap (λ ms. record { marks = ms; world = (onwards t r (onwards t a (step t u w).world).world).world }) (sym (append_assoc (step t u w).marks (onwards t a (step t u w).world).marks (onwards t r (onwards t a (step t u w).world).world).marks))

  pub onwards_one : (u : Live Bare) (w : World) → onwards t (u ∷ []) w ≡ step t u w
  onwards_one u w = ap (λ ms. record { marks = ms; world = (step t u w).world }) (append-nil (step t u w).marks)

  abbrev pub past : List Mark → World → World
  past ms w = record { store = after ms w.store; waiting = w.waiting }

  -- the frame
  pub plain_same : (size : ℕ) (f f' : ℕ → Cells) (ms : List Mark) (b l ds : List (Live Bare)) (c : Live Bare) → let r = onwards t b (world_of size f) in onwards t b (world_of size f') ≡ record { marks = r.marks; world = past ms r.world } → step t c r.world ≡ first ms (onwards t ds (past ms r.world)) → ((p : Path) → (marks_at p ms ≡ []) ⊎ (marks_at p r.marks ≡ [])) → ((x : ℕ) → (works_on x ms ≡ []) ⊎ (works_on x r.marks ≡ [])) → (log : List Mark) (os : List ℕ) → Same (log ++ (onwards_all t os (b ++ (c ∷ l)) (world_of size f)).marks) ((log ++ ms) ++ (onwards_all t os (b ++ (ds ++ l)) (world_of size f')).marks)
  plain_same size f f' ms b l ds c front middle deeds works log os =
      record {
        deeds = λ p. ap (λ z. marks_at p (log ++ z)) old ∙ moves _ log bs ms rest (deeds p) ∙ ap (λ z. marks_at p ((log ++ ms) ++ z)) (sym new);
        works = λ x. ap (λ z. works_on x (log ++ z)) old ∙ moves _ log bs ms rest (works x) ∙ ap (λ z. works_on x ((log ++ ms) ++ z)) (sym new);
      }
    where
      r : Ran
      r = onwards t b (world_of size f)

      bs : List Mark
      bs = (onwards t b (world_of size f)).marks

      wb : World
      wb = (onwards t b (world_of size f)).world

      D : Ran
      D = onwards t ds (past ms wb)

      L : Ran
      L = onwards t l D.world

      rest : List Mark
      rest = D.marks ++ (L.marks ++ (settle_all t os L.world).marks)

      all_of : Ran → List Mark
      all_of x = x.marks ++ (settle_all t os x.world).marks

      old : (onwards_all t os (b ++ (c ∷ l)) (world_of size f)).marks ≡ bs ++ (ms ++ rest)
      old =
          ap (λ (x : Ran). x.marks ++ (settle_all t os x.world).marks) (onwards_both b (c ∷ l) (world_of size f) ∙ ap (λ (x : Ran). first bs (first x.marks (onwards t l x.world))) middle) ∙ append_assoc bs ((ms ++ D.marks) ++ L.marks) (settle_all t os L.world).marks ∙ ap (λ z. bs ++ z) (append_assoc (ms ++ D.marks) L.marks (settle_all t os L.world).marks ∙ append_assoc ms D.marks (L.marks ++ (settle_all t os L.world).marks))

      new : (onwards_all t os (b ++ (ds ++ l)) (world_of size f')).marks ≡ bs ++ rest
      new =
          ap (λ (x : Ran). x.marks ++ (settle_all t os x.world).marks) (onwards_both b (ds ++ l) (world_of size f') ∙ ap (λ (x : Ran). first x.marks (onwards t (ds ++ l) x.world)) front ∙ ap (first bs) (onwards_both ds l (past ms wb))) ∙ append_assoc bs (D.marks ++ L.marks) (settle_all t os L.world).marks ∙ ap (λ z. bs ++ z) (append_assoc D.marks L.marks (settle_all t os L.world).marks)

  -- one task in its place
  pub one_middle : (c d : Live Bare) (w : World) (ms : List Mark) → (left t (sited c w)).marks ≡ ms ++ (left t (sited d (past ms w))).marks → (left t (sited c w)).world.waiting ≡ (left t (sited d (past ms w))).world.waiting → step t c w ≡ first ms (onwards t (d ∷ []) (past ms w))
  one_middle c d w ms e i =
      let r = left t (sited d (past ms w)) in
      ap (λ z. record { marks = z; world = record { store = after z w.store; waiting = (left t (sited c w)).world.waiting } }) e ∙ ap (λ z. record { marks = ms ++ r.marks; world = record { store = after (ms ++ r.marks) w.store; waiting = z } }) i ∙ ap (λ s. record { marks = ms ++ r.marks; world = record { store = s; waiting = r.world.waiting } }) (after_both ms r.marks w.store) ∙ ap (first ms) (sym (onwards_one d (past ms w)))

  -- the tasks before, where none of them may write an object
  pub fronts_quiet : (o : ℕ) (us : List (Live Bare)) (w : World) → Every Fit us → Every (λ s. writes_there o s ≡ false) us → group o w.waiting ≡ [] → Every Sole w.waiting → Leaves o (onwards t us w).marks × (group o (onwards t us w).world.waiting ≡ []) × (Every Sole (onwards t us w).world.waiting)
  fronts_quiet o [] w f h g s = (tt, g, s)
  fronts_quiet o (u ∷ us) w f h g s =
      let a = front_calm t o u w f.0 (or_left _ _ h.0) (or_right (is_there (u.rights o).writes) _ h.0) g s in
      let e : group o (step t u w).world.waiting ≡ [] = left_empty t o (sited u w) (fit_sited u w f.0) h.0 g in
      let r = fronts_quiet o us (step t u w).world f.1 h.1 e a.1 in
      (every_append (Sparing o) (step t u w).marks _ a.0 r.0, r.1, r.2)
    where
      or_left : (a b : Bool) → a || b ≡ false → a ≡ false
      or_left true b e = absurd (cc)
      or_left false b e = refl

      or_right : (a b : Bool) → a || b ≡ false → b ≡ false
      or_right true b e = absurd (cc)
      or_right false b e = e

  -- the tasks before, where none of them may do anything with an object, but commute
  pub data Way (o : ℕ) (u : Live Bare) (w : World) : Type 0 where
    free : is_there (u.rights o).reads ≡ false → is_there (u.rights o).writes ≡ false → is_out (u.held o) ≡ false → Way o u w
    calm : (xs : Cells) → is_there (u.rights o).writes ≡ false → is_there (u.rights o).commutes ≡ false → u.versions o ≡ Some xs → group o w.waiting ≡ [] → Way o u w

  pub way_leaves : (o : ℕ) (u : Live Bare) (w : World) → Fit u → Way o u w → Every Sole w.waiting → Leaves o (step t u w).marks × Every Sole (step t u w).world.waiting
  way_leaves o u w f (free a b c) h = front_free t o u w f a b c h
  way_leaves o u w f (calm xs a b c d) h = front_calm t o u w f a b d h

  abbrev pub Ways : ℕ → List (Live Bare) → World → Type 0
  Ways o [] w = Unit {0}
  Ways o (u ∷ us) w = Way o u w × Ways o us (step t u w).world

  pub ways : (o : ℕ) (us : List (Live Bare)) (w : World) → Every Fit us → Every (Front o) us → Pairs (Before o) us → (group o w.waiting ≡ []) ⊎ Every (Unseen o) us → Ways o us w
  ways o [] w f g b s = tt
  ways o (u ∷ us) w f g b s =
      go (cases (is_there (u.rights o).reads) (is_there (u.rights o).writes) (is_there (u.rights o).commutes) (is_some (u.versions o)) g.0.0) s (is_there (u.rights o).commutes) refl (u.versions o) refl (λ w k. ways o us w f.1 g.1 b.1 k)
    where
      unseen : writes_there o u ≡ true → (vs : List (Live Bare)) → Every (Before o u) vs → Every (Unseen o) vs
      unseen e [] k = tt
      unseen e (v ∷ vs) k = (no (is_some (v.versions o)) refl, unseen e vs k.1)
        where
          no : (x : Bool) → is_some (v.versions o) ≡ x → x ≡ false
          no true i = false_true (writes_there o u) (k.0.reading i) e
          no false i = refl

      stays : is_there (u.rights o).writes ≡ false → is_there (u.rights o).commutes ≡ false → group o w.waiting ≡ [] → group o (step t u w).world.waiting ≡ []
      stays e i n = left_empty t o (sited u w) (fit_sited u w f.0) (ap (λ x. x || is_there (u.rights o).commutes) e ∙ i) n

      cases : (r x c v : Bool) → (not (x || c) && (not r || v)) || (not r && not x) ≡ true → ((r ≡ false) × (x ≡ false)) ⊎ ((x ≡ false) × (c ≡ false) × (v ≡ true))
      cases false false c v q = inl (refl, refl)
      cases false true c v q = absurd (cc)
      cases true true c v q = absurd (cc)
      cases true false true v q = absurd (cc)
      cases true false false true q = inr (refl, refl, refl)
      cases true false false false q = absurd (cc)

      go : ((is_there (u.rights o).reads ≡ false) × (is_there (u.rights o).writes ≡ false)) ⊎ ((is_there (u.rights o).writes ≡ false) × (is_there (u.rights o).commutes ≡ false) × (is_some (u.versions o) ≡ true)) → (group o w.waiting ≡ []) ⊎ Every (Unseen o) (u ∷ us) → (c : Bool) → is_there (u.rights o).commutes ≡ c → (v : Option Cells) → u.versions o ≡ v → ((w : World) → (group o w.waiting ≡ []) ⊎ Every (Unseen o) us → Ways o us w) → Ways o (u ∷ us) w
      go (inl e) (inr s) c ec v ev k = (free e.0 e.1 g.0.1, k _ (inr s.1))
      go (inl e) (inl n) true ec v ev k =
          (free e.0 e.1 g.0.1, k _ (inr (unseen (ap (λ x. x || is_there (u.rights o).commutes) e.1 ∙ ec) us b.0)))
      go (inl e) (inl n) false ec v ev k = (free e.0 e.1 g.0.1, k _ (inl (stays e.1 ec n)))
      go (inr e) (inl n) c ec (Some xs) ev k = (calm xs e.0 e.1 ev n, k _ (inl (stays e.0 e.1 n)))
      go (inr e) (inl n) c ec None ev k = false_true (is_some (u.versions o)) (ap is_some ev) e.2
      go (inr e) (inr s) c ec v ev k = false_true (is_some (u.versions o)) s.0 e.2

  pub ways_leave : (o : ℕ) (us : List (Live Bare)) (w : World) → Every Fit us → Ways o us w → Every Sole w.waiting → Leaves o (onwards t us w).marks × Every Sole (onwards t us w).world.waiting
  ways_leave o [] w f h s = (tt, s)
  ways_leave o (u ∷ us) w f h s =
      let a = way_leaves o u w f.0 h.0 s in
      let r = ways_leave o us (step t u w).world f.1 h.1 a.1 in
      (every_append (Sparing o) (step t u w).marks _ a.0 r.0, r.1)

  sees_seen : (u : Live Bare) (i j : ℕ) (s : Store) (xs ys : Cells) → u.versions (i + j) ≡ Some xs → sees u i (slice_set s j ys) ≡ sees u i s
  sees_seen u i j [] xs ys e = refl
  sees_seen u i zero (x ∷ s) xs ys e =
      let z = subst (λ z. u.versions z ≡ Some xs) (add-zero i) e in
      ap (λ v. version_or v ys ∷ sees u (suc i) s) z ∙ sym (ap (λ v. version_or v x ∷ sees u (suc i) s) z)
  sees_seen u i (suc j) (x ∷ s) xs ys e =
      let z : i + suc j ≡ suc i + j = omega arith in
      ap (λ l. version_or (u.versions i) x ∷ l) (sees_seen u (suc i) j s xs ys (subst (λ k. u.versions k ≡ Some xs) z e))

  not_imm : (r : Right) → is_there r ≡ false → is_immediate r ≡ false
  not_imm r e = grind arith

  -- what is left of one that may only commute there
  pub left_blind : (o : ℕ) (ys : Cells) (u : Live World) → Fit u → is_there (u.rights o).reads ≡ false → is_there (u.rights o).writes ≡ false → is_out (u.held o) ≡ false → ((y : ℕ) → awaits u.doing.pending ≡ Some y → (kept : Store) → Sole (record { path = u.path; object = y; course = u.doing.course; steps = u.doing.steps; kept = kept })) → Every Sole u.place.waiting → Blind t o ys (left t (record u { place = set_world t o ys u.place })) (left t u)
  left_blind o ys u f r wr out sole h =
      then_blind t o ys (settle_all t (settling u.doing.pending) (set_world t o ys u.place)) (settle_all t (settling u.doing.pending) u.place) (left_from t (awaits u.doing.pending) (commuting_on u.doing.spec) (record u { place = set_world t o ys u.place })) (left_from t (awaits u.doing.pending) (commuting_on u.doing.spec) u) (all_blind t o ys (settling u.doing.pending) u.place (settles_not o u.doing.spec u.doing.plan u.doing.course u.doing.pending u.rights u.held f.orderly r wr) h) (λ w g. go (awaits u.doing.pending) refl (commuting_on u.doing.spec) refl w g)
    where
      neither : (a b : Bool) → a ≡ false → b ≡ false → a || b ≡ true → ⊥
      neither true b e i h = absurd (cc)
      neither false true e i h = absurd (cc)
      neither false false e i h = absurd (cc)

      unread : (y : ℕ) → y ≢ o → commuting_on u.doing.spec ≡ Some y → may_read (rights_on u.doing.spec o) ≡ true → ⊥
      unread y ne e h =
          neither _ _ (not_imm (rights_on u.doing.spec o).reads (less_false _ _ (f.less o).reads r)) (only_one u.doing.spec y o e (subst (λ z. allows_commuting z u.doing.spec ≡ true) e f.commuting) (λ i. ne (sym i))) h

      go : (x : Option ℕ) → awaits u.doing.pending ≡ x → (y : Option ℕ) → commuting_on u.doing.spec ≡ y → (w : World) → Every Sole w.waiting → Blind t o ys (left_from t x y (record u { place = set_world t o ys u.place }) (set_world t o ys w)) (left_from t x y u w)
      go (Some x) ex y ey w g =
          join_blind t o ys u.path x u.rights u.doing.course u.doing.steps w (not_imm (u.rights o).reads r) (λ kept. sole x ex kept) g
      go None ex None ey w g =
          run_blind t o ys f.proper (less_false _ _ (f.less o).reads r) (less_false _ _ (f.less o).writes wr) (none_commutes u.doing.spec ey o) u.path u.part u.doing.steps w g
      go None ex (Some y) ey w g =
          let k = has_turn u f y ex ey in
          let ne : y ≢ o = λ i. false_true _ out (ap is_out (k.holds o ∙ subst (λ z. mode_of (rights_on u.doing.spec z) ≡ Some Commuting) i (own_mode u.doing.spec y ey k.fits))) in
          let ms = map (below u.path) (serial u.doing.course u.part u.doing.steps w.store) in
          let flat = flat_leaves f.proper y ey k.writes u.path u.part u.doing.steps w.store in
          let same : serial u.doing.course u.part u.doing.steps (slice_set w.store o ys) ≡ serial u.doing.course u.part u.doing.steps w.store = serial_blind f.proper y ey u.part u.doing.steps (slice_set w.store o ys) w.store (record { at = λ x i. get_or-set_other w.store o x ys [] (λ j. unread y ne ey (subst (λ z. may_read (rights_on u.doing.spec z) ≡ true) j i)) }) in
          record {
            same = ap (λ ds. record { marks = map (below u.path) ds; world = record { store = after (map (below u.path) ds) (slice_set w.store o ys); waiting = w.waiting } }) same ∙ ap (λ s. record { marks = ms; world = record { store = s; waiting = w.waiting } }) (after_set o ys ms w.store (flat.0 o ne));
            soles = g;
          }

  with_after : (ys : Cells) (o : ℕ) (w : World) (r1 r2 : Ran) → Leaves o r2.marks × Every Sole r2.world.waiting → r1.marks ≡ r2.marks → r1.world.waiting ≡ r2.world.waiting → Blind t o ys (record { marks = r1.marks; world = record { store = after r1.marks (slice_set w.store o ys); waiting = r1.world.waiting } }) (record { marks = r2.marks; world = record { store = after r2.marks w.store; waiting = r2.world.waiting } })
  with_after ys o w r1 r2 h e i = record {
    same = ap (λ ms. record { marks = ms; world = record { store = after ms (slice_set w.store o ys); waiting = r1.world.waiting } }) e ∙ ap (λ ms. record { marks = r2.marks; world = record { store = after r2.marks (slice_set w.store o ys); waiting = ms } }) i ∙ ap (λ s. record { marks = r2.marks; world = record { store = s; waiting = r2.world.waiting } }) (after_set o ys r2.marks w.store h.0);
    soles = h.1;
  }

  step_blind : (o : ℕ) (ys : Cells) (u : Live Bare) (w : World) → Fit u → Way o u w → Every Sole w.waiting → Blind t o ys (step t u (set_world t o ys w)) (step t u w)
  step_blind o ys u w f way h = go (u.versions o) refl way
    where
      r1 : Ran
      r1 = left t (sited u (set_world t o ys w))

      r2 : Ran
      r2 = left t (sited u w)

      z : 0 + o ≡ o
      z = omega arith

      put_in : Store → Ran
      put_in s = left t (record { path = u.path; part = u.part; place = record { store = s; waiting = w.waiting }; rights = u.rights; held = u.held; versions = u.versions; doing = u.doing })

      go : (v : Option Cells) → u.versions o ≡ v → Way o u w → Blind t o ys (step t u (set_world t o ys w)) (step t u w)
      go (Some xs) e way =
          let same : put_in (sees u 0 (slice_set w.store o ys)) ≡ put_in (sees u 0 w.store) = ap put_in (sees_seen u 0 o w.store xs ys (subst (λ k. u.versions k ≡ Some xs) (sym z) e)) in
          with_after ys o w r1 r2 (way_leaves o u w f way h) (ap (λ (r : Ran). r.marks) same) (ap (λ (r : Ran). r.world.waiting) same)
      go None e (free r wr out) =
          let same : put_in (sees u 0 (slice_set w.store o ys)) ≡ put_in (slice_set (sees u 0 w.store) o ys) = ap put_in (sees_set u 0 o w.store ys (subst (λ k. u.versions k ≡ None) (sym z) e)) in
          let blind = left_blind o ys (sited u w) (fit_sited u w f) r wr out (λ y a kept. waits_sole u f y a kept) h in
          with_after ys o w r1 r2 (way_leaves o u w f (free r wr out) h) (ap (λ (r : Ran). r.marks) same ∙ ap (λ (r : Ran). r.marks) blind.same) (ap (λ (r : Ran). r.world.waiting) same ∙ ap (λ (r : Ran). r.world.waiting) blind.same)
      go None e (calm xs wr cm v g) = absurd (let k : None ≡ Some xs = sym e ∙ v in cc)

  -- the tasks before, where the content is set
  pub fronts_blind : (o : ℕ) (ys : Cells) (us : List (Live Bare)) (w : World) → Every Fit us → Ways o us w → Every Sole w.waiting → Blind t o ys (onwards t us (set_world t o ys w)) (onwards t us w)
  fronts_blind o ys [] w f h s = record { same = refl; soles = s }
  fronts_blind o ys (u ∷ us) w f h s =
      let a = way_leaves o u w f.0 h.0 s in
      let b = step_blind o ys u w f.0 h.0 s in
      let c = fronts_blind o ys us (step t u w).world f.1 h.1 a.1 in
      record { same = ap (λ (r : Ran). first r.marks (onwards t us r.world)) b.same ∙ ap (first (step t u w).marks) c.same; soles = c.soles }
