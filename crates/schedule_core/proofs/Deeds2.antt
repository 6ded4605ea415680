-- Reads and writes keep a state sound.
use Rattle.std.proofs.Common.{◌≡◌, ◌≢◌, ℕ, zero, suc, ◌≤◌, ◌<◌, ◌+◌, add-zero, Bool, true, false, not, ◌||◌, ◌&&◌, List, [], ◌∷◌, ◌++◌, map, length, refl, sym, ap, ◌∙◌, subst, Option, Some, None, arith, append-nil, ◌⊎◌, inl, inr}
use Rattle.std.specs.Prelude.{ℤ, nat_eq, if◌then◌else◌, is_some, slice_set}
use Rattle.std.specs.List.{cons_option}
use Rattle.std.proofs.lemmas.Bool.Decides.{eqb_tells}
use Rattle.std.proofs.lemmas.Bool.{eq-eqb, ne_eqb}
use Rattle.jade_base.specs.declared.rights.Rights.{Rights}
use Rattle.jade_meaning.specs.Specification.{Specification, numbers, commuting_on}
use Rattle.jade_base.specs.Rights.{is_there}
use Rattle.jade_base.specs.declared.rights.Mode.{Mode}
use Rattle.jade_base.specs.declared.rights.Mode.TheVariants.{Reading, Writing, Commuting}
use Rattle.jade_meaning.specs.Course.{Course, Reads, Writes}
use Rattle.jade_meaning.specs.Talk.{Holds, changed}
use Rattle.jade_meaning.specs.Serial.{Mark, Path, Store, DidRead, DidWrite, after, with_cell, serial}
use Rattle.jade_meaning.specs.Turns.{World, Ran, at_path, below, first}
use Rattle.jade_meaning.specs.Serial.{at_object}
use Rattle.schedule_core.specs.Core.{Cells, Live, Bare, put, writes_there, is_out, content_for, version_or, value_in}
use Rattle.jade_meaning.specs.Doing.{Doing, opened}
use Rattle.jade_meaning.specs.Proper.{Proper, proper_read, proper_write, proper_step, proper_create, proper_change, proper_end}
use Rattle.jade_meaning.specs.Laws.{Every}
use Rattle.schedule_core.specs.Sound.{Fit, Even, Before, Apart, Fresh, IsEnd, left, may, works_on, worked, Wrote}
use Rattle.schedule_core.specs.Onwards.{sees, sited, onwards}
use Rattle.schedule_core.specs.Going.{world_of, Small, Going}
use Rattle.schedule_core.proofs.Opens.{left_of}
use Rattle.schedule_core.proofs.Splits.{write_splits}
use Rattle.schedule_core.proofs.Running.{every_by, every_two}
use Rattle.schedule_core.proofs.Idle.{none_commutes, false_true}
use Rattle.schedule_core.proofs.Front.{Front}
use Rattle.schedule_core.proofs.Blinds.{set_world}
use Rattle.schedule_core.proofs.Pairs.{every_m, every_j, pairs_l, put_here, put_there}
use Rattle.schedule_core.proofs.Taking.{sees_at, sees_set}
use Rattle.schedule_core.proofs.Taken.{no_works}
use Rattle.schedule_core.proofs.Takes.{turn_left, sees_same}
use Rattle.schedule_core.proofs.Frame.{plain_same, one_middle, past, fronts_blind}
use Rattle.schedule_core.proofs.Pend.{every_all, plain_left}
use Rattle.schedule_core.proofs.Opened.{proper_plain, opened_plain, opened_turn, Whole, live_of, at_deed, turning, settled_on, fit_on}
use Rattle.schedule_core.proofs.Deeds.{every_in, Here, here_of, Leaves_sound, deed_goes, inside, out_content, front_leaves, front_ways, fronts, own_deeds, clear_plan, next_proper, read_left}

pub opened_length : {S : Specification} {c : Course} → Proper S c → (A : Holds) (n : ℕ) → length (opened c S A n).spec ≤ length S
opened_length (proper_read i f) A n = omega arith
opened_length (proper_write i q) A n = omega arith
opened_length (proper_step q) A n = opened_length q A (suc n)
opened_length (proper_create none may cov size b q) A n = omega arith
opened_length {S} (proper_change {new = new} none m q) A n =
    let e : length new ≡ length S = m.sized in let r = opened_length q (changed S new A) n in omega arith
opened_length proper_end A n = omega arith

-- one task that goes on with the same rights, holds and versions
pub same_sound : (size : ℕ) (b l : List (Live Bare)) (f' : ℕ → Cells) (P : Path) (K : ℕ) (R : ℕ → Rights) (H : ℕ → Option Mode) (V : ℕ → Option Cells) (one two : Doing) → Small size (live_of P K R H V one) → length two.spec ≤ length one.spec → Fit (live_of P K R H V two) → ((x : ℕ) → Every (Fresh x (f' x)) (b ++ (live_of P K R H V two ∷ l))) → Leaves_sound size b l f' (live_of P K R H V one) (live_of P K R H V two ∷ [])
same_sound size b l f' P K R H V one two small shorter fit fresh =
    let c = live_of P K R H V one in
    let d = live_of P K R H V two in
    record {
      small = (record { spec = let a = small.spec in omega arith; rights = small.rights }, tt);
      fits = (fit, tt);
      apart_b = every_all (λ s. Apart s c → Apart s d × Unit {0}) (λ s k. (k, tt)) b;
      apart_l = every_all (λ u. Apart c u → Apart d u × Unit {0}) (λ u k. (k, tt)) l;
      apart = (tt, tt);
      before_b = λ x. every_all (λ s. Before x s c → Before x s d × Unit {0}) (λ s k. (record { writing = k.writing; reading = k.reading; commuting = k.commuting; one = k.one }, tt)) b;
      before_l = λ x. every_all (λ u. Before x c u → Before x d u × Unit {0}) (λ u k. (record { writing = k.writing; reading = k.reading; commuting = k.commuting; one = k.one }, tt)) l;
      before = λ x. (tt, tt);
      fresh = fresh;
    }

module _ (t : ℕ → List Path) (size : ℕ) (serially : List Mark) (zero' : Store) (f : ℕ → Cells) (log : List Mark) (b l : List (Live Bare)) (P : Path) (K : ℕ) (R : ℕ → Rights) (H : ℕ → Option Mode) (V : ℕ → Option Cells) (S : Specification) (A : Holds) (N : ℕ) where
  pub read_goes : (o cl : ℕ) (on : ℤ → Course) → let c = live_of P K R H V (at_deed S A N (Reads o cl on)) in let v = value_in (content_for c o (f o)) cl in Going t size serially zero' (record { roll = b ++ (c ∷ l); contents = f; log = log }) → Going t size serially zero' (record { roll = b ++ (live_of P K R H V (opened (on v) S A N) ∷ l); contents = f; log = log ++ at_path P K (DidRead o cl v) ∷ [] })
  read_goes o cl on g =
      let c = live_of P K R H V (at_deed S A N (Reads o cl on)) in
      let v = value_in (content_for c o (f o)) cl in
      let d = live_of P K R H V (opened (on v) S A N) in
      let h = here_of t size serially zero' f log b l c g in
      let w = (onwards t b (world_of size f)).world in
      let m = at_path P K (DidRead o cl v) in
      let p : Proper S (on v) = next_proper t size serially zero' f log b l P K R H V S A N o cl on h in
      let e = read_left t size serially zero' f log b l P K R H V S A N o cl on h in
      deed_goes t size serially zero' f f log (m ∷ []) b l c (d ∷ []) g (same_sound size b l f P K R H V (at_deed S A N (Reads o cl on)) (opened (on v) S A N) h.small (opened_length p A N) (fit_on P K R H V S A N (Reads o cl on) h.fit (on v) N K p (h.fit.orderly.0.even v)) (λ x. every_in (Fresh x (f x)) b c (d ∷ []) l (g.fresh x) (every_m (Fresh x (f x)) b l c (g.fresh x), tt))) (plain_same t size f f (m ∷ []) b l (d ∷ []) c refl (one_middle t c d w (m ∷ []) (ap (λ (r : Ran). r.marks) e) (ap (λ (r : Ran). r.world.waiting) e)) (own_deeds t size f b c h K (DidRead o cl v)) (λ x. inl refl) log (numbers 0 size)) (λ x. refl)

  -- a write
  module _ (o cl : ℕ) (v : ℤ) (on : Course) where
    abbrev writes_now : Live Bare
    writes_now = live_of P K R H V (at_deed S A N (Writes o cl v on))

    abbrev has_written : Live Bare
    has_written = live_of P K R H V (opened on S A N)

    module _ (h : Here size b writes_now) where
      abbrev w : World
      w = (onwards t b (world_of size f)).world

      abbrev place : Store
      place = sees writes_now 0 w.store

      abbrev m : Mark
      m = at_path P K (DidWrite o cl v)

      out : is_out (H o) ≡ true
      out = h.fit.orderly.1

      held_some : (x : Option Mode) → is_out x ≡ true → is_some x ≡ true
      held_some None e = absurd (cc)
      held_some (Some y) e = refl

      lt : o < size
      lt = inside t size f b writes_now h o (held_some (H o) out)

      content : at_object w.store o ≡ f o
      content = out_content t size f b writes_now h o out lt

      out_writes : (x : Option Mode) → is_out x ≡ true → may x (R o) ≡ true → is_there (R o).writes || is_there (R o).commutes ≡ true
      out_writes None e k = absurd (cc)
      out_writes (Some Reading) e k = absurd (cc)
      out_writes (Some Writing) e k = ap (λ z. z || is_there (R o).commutes) k
      out_writes (Some Commuting) e k = or_true (is_there (R o).writes) (is_there (R o).commutes) k
        where
          or_true : (a b : Bool) → b ≡ true → a || b ≡ true
          or_true true b e = refl
          or_true false b e = e

      writes_here : writes_there o writes_now ≡ true
      writes_here = out_writes (H o) out (h.fit.holds o)

      unseen : V o ≡ None
      unseen = go (V o) refl
        where
          go : (x : Option Cells) → V o ≡ x → x ≡ None
          go None e = refl
          go (Some xs) e = absurd (let k : H o ≡ Some Reading = h.fit.keeps o (ap is_some e) writes_here in false_true (is_out (H o)) (ap is_out k) out)

      next_writes : Proper S on
      next_writes = go (Writes o cl v on) refl h.fit.proper
        where
          go : (c : Course) → c ≡ Writes o cl v on → Proper S c → Proper S on
          go _ e (proper_read i k) = absurd (cc)
          go _ e (proper_write {o = o'} {c = c'} {v = v'} {on = on'} i k) = subst (Proper S) (same_on e) k
            where
              same_on : {o' c' : ℕ} {v' : ℤ} {on' : Course} → Writes o' c' v' on' ≡ Writes o cl v on → on' ≡ on
              same_on e = cc
          go _ e (proper_step k) = absurd (cc)
          go _ e (proper_create n x y z i k) = absurd (cc)
          go _ e (proper_change n x k) = absurd (cc)
          go _ e proper_end = absurd (cc)

      -- its place after the write
      place_after : sees has_written 0 (with_cell w.store o cl v) ≡ with_cell place o cl v
      place_after =
          let z : 0 + o ≡ o = omega arith in
          let n : V (0 + o) ≡ None = subst (λ k. V k ≡ None) (sym z) unseen in
          sees_same has_written writes_now (λ x. refl) 0 (with_cell w.store o cl v) ∙ sees_set writes_now 0 o w.store (slice_set (at_object w.store o) cl v) n ∙ ap (λ (xs : Cells). slice_set place o (slice_set xs cl v)) (sym (sees_at writes_now 0 o w.store n))

      write_left : left t (sited writes_now w) ≡ first (m ∷ []) (left t (sited has_written (past t (m ∷ []) w)))
      write_left = go (commuting_on S) refl
        where
          even : Even (length S) on
          even = h.fit.orderly.0.even

          go : (x : Option ℕ) → commuting_on S ≡ x → left t (sited writes_now w) ≡ first (m ∷ []) (left t (sited has_written (past t (m ∷ []) w)))
          go None e =
              let pl = opened_plain on S A N R H next_writes (settled_on P K R H V S A N (Writes o cl v on) h.fit on even) e in
              let Q : World = record { store = place; waiting = w.waiting } in
              let clear = clear_plan t size serially zero' f log b l P K R H V S A N (Writes o cl v on) h e place in
              plain_left t (sited writes_now w) refl e ∙ write_splits t P S A o cl v on K N Q (proper_plain next_writes (none_commutes S e)) clear (clear o (sym (ap is_some (h.fit.orderly.0.holds o)) ∙ held_some (H o) out)) ∙ ap (λ s. first (m ∷ []) (left_of t P K (opened on S A N) (record { store = s; waiting = w.waiting }))) (sym place_after) ∙ ap (first (m ∷ [])) (sym (plain_left t (sited has_written (past t (m ∷ []) w)) pl.0 pl.1))
          go (Some y) e =
              let T = opened_turn next_writes y e A (turning P K R H V S A N (Writes o cl v on) h.fit y e) N in
              let G : List Mark → Store → Ran = λ ms s. record { marks = m ∷ ms; world = record { store = after ms s; waiting = w.waiting } } in
              turn_left t (sited writes_now w) refl refl y (inl e) ∙ ap (λ p. record { marks = at_path p K (DidWrite o cl v) ∷ map (below P) (serial on K N (with_cell place o cl v)); world = record { store = after (map (below P) (serial on K N (with_cell place o cl v))) (with_cell place o cl v); waiting = w.waiting } }) (append-nil P) ∙ ap (λ ms. G (map (below P) ms) (with_cell place o cl v)) (sym (T.same K (with_cell place o cl v))) ∙ ap (λ s. G (map (below P) (serial (opened on S A N).course K (opened on S A N).steps s)) s) (sym place_after) ∙ ap (first (m ∷ [])) (sym (turn_left t (sited has_written (past t (m ∷ []) w)) T.settles T.waits y (still T.goes)))
            where
              still : ((opened on S A N).spec ≡ S × ((opened on S A N).pending ≡ []) × Whole S (opened on S A N).plan) ⊎ (IsEnd (opened on S A N).course × ((opened on S A N).spec ≡ [])) → (commuting_on (opened on S A N).spec ≡ Some y) ⊎ IsEnd (opened on S A N).course
              still (inl g) = inl (ap commuting_on g.0 ∙ e)
              still (inr g) = inr g.0

      -- the tasks before it see nothing of this
      map_put : (xs : Cells) (n a i : ℕ) → i < n → map (put f (a + i) xs) (numbers a n) ≡ slice_set (map f (numbers a n)) i xs
      map_put xs zero a i lt = absurd (omega arith)
      map_put xs (suc n) a zero lt =
          ap (λ z. z ∷ map (put f (a + 0) xs) (numbers (suc a) n)) (put_here f (a + 0) xs a (sym (add-zero a))) ∙ ap (λ z. xs ∷ z) (others n (suc a) (omega arith))
        where
          others : (n i : ℕ) → a < i → map (put f (a + 0) xs) (numbers i n) ≡ map f (numbers i n)
          others zero i lt = refl
          others (suc n) i lt =
              ap (λ z. z ∷ map (put f (a + 0) xs) (numbers (suc i) n)) (put_there f (a + 0) xs i (λ e. absurd (omega arith))) ∙ ap (λ z. f i ∷ z) (others n (suc i) (omega arith))
      map_put xs (suc n) a (suc i) lt =
          let z : a + suc i ≡ suc a + i = omega arith in
          ap (λ y. y ∷ map (put f (a + suc i) xs) (numbers (suc a) n)) (put_there f (a + suc i) xs a (λ e. absurd (omega arith))) ∙ ap (λ k. f a ∷ map (put f k xs) (numbers (suc a) n)) z ∙ ap (λ y. f a ∷ y) (map_put xs n (suc a) i (omega arith))

      abbrev ys : Cells
      ys = slice_set (f o) cl v

      front_same : onwards t b (world_of size (put f o ys)) ≡ record { marks = (onwards t b (world_of size f)).marks; world = past t (m ∷ []) w }
      front_same =
          let z : 0 + o ≡ o = omega arith in
          let one : world_of size (put f o ys) ≡ set_world t o ys (world_of size f) = ap (λ s. record { store = s; waiting = [] }) (subst (λ k. map (put f k ys) (numbers 0 size) ≡ slice_set (map f (numbers 0 size)) o ys) z (map_put ys size 0 o lt')) in
          ap (onwards t b) one ∙ (fronts_blind t o ys b (world_of size f) h.fits_b (front_ways t size f b writes_now h o out) tt).same ∙ ap (λ (xs : Cells). record { marks = (onwards t b (world_of size f)).marks; world = record { store = slice_set w.store o (slice_set xs cl v); waiting = w.waiting } }) (sym content)
        where
          lt' : o < size
          lt' = lt

      work : (x : ℕ) → (works_on x (m ∷ []) ≡ []) ⊎ (works_on x (onwards t b (world_of size f)).marks ≡ [])
      work x = go (eqb_tells o x)
        where
          go : ((nat_eq o x ≡ true) × (o ≡ x)) ⊎ ((nat_eq o x ≡ false) × (o ≢ x)) → (works_on x (m ∷ []) ≡ []) ⊎ (works_on x (onwards t b (world_of size f)).marks ≡ [])
          go (inl e) = inr (subst (λ z. works_on z (onwards t b (world_of size f)).marks ≡ []) e.1 (no_works o (onwards t b (world_of size f)).marks (front_leaves t size f b writes_now h o out)))
          go (inr e) = inl (ap (λ z. cons_option (if z then Some (Wrote P K cl v) else None) []) e.0)

      new_contents : (x : ℕ) → put f o ys x ≡ worked (works_on x (m ∷ [])) (f x)
      new_contents x = go (eqb_tells x o)
        where
          go : ((nat_eq x o ≡ true) × (x ≡ o)) ⊎ ((nat_eq x o ≡ false) × (x ≢ o)) → put f o ys x ≡ worked (works_on x (m ∷ [])) (f x)
          go (inl e) =
              subst (λ z. put f o ys z ≡ worked (works_on z (m ∷ [])) (f z)) (sym e.1) (put_here f o ys o refl ∙ sym (ap (λ z. worked (cons_option (if z then Some (Wrote P K cl v) else None) []) (f o)) (eq-eqb o o refl)))
          go (inr e) = put_there f o ys x e.1 ∙ sym (ap (λ z. worked (cons_option (if z then Some (Wrote P K cl v) else None) []) (f x)) (ne_eqb o x (λ i. e.1 (sym i))))

      -- no other task has an unseen version of it
      fresh_b : (s : Live Bare) → Front o s → Fit s → Fresh o ys s
      fresh_b s k fit wr = go (s.versions o) refl
        where
          no_case : (x c r v rd : Bool) → x || c ≡ true → (not (x || c) && (not r || v)) || (not r && not x) ≡ true → r ≡ false
          no_case x c false v rd a q = refl
          no_case true c true v rd a q = absurd (cc)
          no_case false true true v rd a q = absurd (cc)
          no_case false false true v rd a q = absurd (cc)

          go : (x : Option Cells) → s.versions o ≡ x → version_or x ys ≡ ys
          go None e = refl
          go (Some xs) e =
              let i : s.held o ≡ Some Reading = fit.keeps o (ap is_some e) wr in
              let r : is_there (s.rights o).reads ≡ true = subst (λ z. may z (s.rights o) ≡ true) i (fit.holds o) in
              false_true (is_there (s.rights o).reads) (no_case (is_there (s.rights o).writes) (is_there (s.rights o).commutes) (is_there (s.rights o).reads) (is_some (s.versions o)) true wr k.0) r

      fresh_l : (u : Live Bare) → Before o writes_now u → Fresh o ys u
      fresh_l u k wr = go (u.versions o) refl
        where
          go : (x : Option Cells) → u.versions o ≡ x → version_or x ys ≡ ys
          go None e = refl
          go (Some xs) e = false_true (writes_there o writes_now) (k.reading (ap is_some e)) writes_here

      fresh_after : Every (Before o writes_now) l → ((x : ℕ) → Every (Fresh x (f x)) (b ++ (writes_now ∷ l))) → (x : ℕ) → Every (Fresh x (put f o ys x)) (b ++ (has_written ∷ l))
      fresh_after behind old x = go (eqb_tells x o)
        where
          go : ((nat_eq x o ≡ true) × (x ≡ o)) ⊎ ((nat_eq x o ≡ false) × (x ≢ o)) → Every (Fresh x (put f o ys x)) (b ++ (has_written ∷ l))
          go (inl e) =
              subst (λ z. Every (Fresh z (put f o ys z)) (b ++ (has_written ∷ l))) (sym e.1) (subst (λ xs. Every (Fresh o xs) (b ++ (has_written ∷ l))) (sym (put_here f o ys o refl)) (every_j (Fresh o ys) b l has_written (every_by (λ s. Front o s × Fit s) (Fresh o ys) (λ s k. fresh_b s k.0 k.1) b (every_two (Front o) Fit b (fronts t size f b writes_now h o out) h.fits_b)) (λ k. ap (λ z. version_or z ys) unseen) (every_by (Before o writes_now) (Fresh o ys) fresh_l l behind)))
          go (inr e) =
              subst (λ xs. Every (Fresh x xs) (b ++ (has_written ∷ l))) (sym (put_there f o ys x e.1)) (every_in (Fresh x (f x)) b writes_now (has_written ∷ []) l (old x) (every_m (Fresh x (f x)) b l writes_now (old x), tt))

    pub write_goes : Going t size serially zero' (record { roll = b ++ (writes_now ∷ l); contents = f; log = log }) → Going t size serially zero' (record { roll = b ++ (has_written ∷ l); contents = put f o (slice_set (f o) cl v); log = log ++ at_path P K (DidWrite o cl v) ∷ [] })
    write_goes g =
        let h = here_of t size serially zero' f log b l writes_now g in
        let w = (onwards t b (world_of size f)).world in
        let m = at_path P K (DidWrite o cl v) in
        let f' = put f o (slice_set (f o) cl v) in
        let p = next_writes h in
        let e = write_left h in
        deed_goes t size serially zero' f f' log (m ∷ []) b l writes_now (has_written ∷ []) g (same_sound size b l f' P K R H V (at_deed S A N (Writes o cl v on)) (opened on S A N) h.small (opened_length p A N) (fit_on P K R H V S A N (Writes o cl v on) h.fit on N K p h.fit.orderly.0.even) (fresh_after h (pairs_l (Before o) b l writes_now (g.before o)) g.fresh)) (plain_same t size f f' (m ∷ []) b l (has_written ∷ []) writes_now (front_same h) (one_middle t writes_now has_written w (m ∷ []) (ap (λ (r : Ran). r.marks) e) (ap (λ (r : Ran). r.world.waiting) e)) (own_deeds t size f b writes_now h K (DidWrite o cl v)) (work h) log (numbers 0 size)) (new_contents h)
