-- A Take for Commuting over the whole roll.
use Rattle.std.proofs.Common.{◌≡◌, ◌≢◌, ℕ, zero, suc, ◌+◌, add-zero, true, false, List, [], ◌∷◌, ◌++◌, map, refl, sym, ap, ◌∙◌, subst, Option, Some, None, arith, append_assoc, ◌⊎◌, inl, inr}
use Rattle.std.specs.Prelude.{ℤ, slice_set}
use Rattle.jade_base.specs.Rights.{is_immediate}
use Rattle.jade_meaning.specs.Specification.{commuting_on}
use Rattle.jade_meaning.specs.Serial.{Mark, Path, Store, serial, after, same_path}
use Rattle.jade_meaning.specs.Turns.{Member, World, Ran, below, settle_all, joined, kept_from}
use Rattle.jade_meaning.specs.Serial.{at_object}
use Rattle.schedule_core.specs.Core.{Live, Bare, content_for, version_or}
use Rattle.jade_meaning.specs.Laws.{Every}
use Rattle.schedule_core.specs.Sound.{Has, settling, awaits, left, left_from}
use Rattle.schedule_core.specs.Onwards.{sees, sited, step, onwards, onwards_all}
use Rattle.schedule_core.proofs.Groups.{every_append, Strange, Sole, after_set, after_at, after_both}
use Rattle.schedule_core.proofs.Ahead.{Clean, Fresh, kept_set, Skipped, all_skip, then_skip, skip, its, Apart_by, apart_by, Later, still, done, Quiet, Else, all_later, then_later, ahead, by_store}

-- what a task without a version sees of an object is the content
pub sees_set : (u : Live Bare) (i j : ℕ) (s : Store) (ys : List ℤ) → u.versions (i + j) ≡ None → sees u i (slice_set s j ys) ≡ slice_set (sees u i s) j ys
sees_set u i j [] ys e = refl
sees_set u i zero (x ∷ s) ys e =
    ap (λ v. version_or v ys ∷ sees u (suc i) s) (subst (λ z. u.versions z ≡ None) (add-zero i) e)
sees_set u i (suc j) (x ∷ s) ys e =
    let z : i + suc j ≡ suc i + j = omega arith in
    ap (λ l. content_for u i x ∷ l) (sees_set u (suc i) j s ys (subst (λ k. u.versions k ≡ None) z e))

pub sees_at : (u : Live Bare) (i j : ℕ) (s : Store) → u.versions (i + j) ≡ None → at_object (sees u i s) j ≡ at_object s j
sees_at u i j [] e = refl
sees_at u i zero (x ∷ s) e = ap (λ v. version_or v x) (subst (λ z. u.versions z ≡ None) (add-zero i) e)
sees_at u i (suc j) (x ∷ s) e =
    let z : i + suc j ≡ suc i + j = omega arith in
    sees_at u (suc i) j s (subst (λ k. u.versions k ≡ None) z e)

module _ (m : Member) (t1 t2 : ℕ → List Path) (here : t1 m.object ≡ m.path ∷ t2 m.object) (there : (x : ℕ) → x ≢ m.object → t1 x ≡ t2 x) where
  -- what each other task of the roll must be
  pub record Other (u : Live Bare) : Type 0 where
    pub fresh : Fresh m t1 t2 here there u.path u.part
    pub path : same_path u.path m.path ≡ false

  left_skips : (u : Live Bare) (w : World) → Other u → Every (Strange m.path) w.waiting → Skipped m t1 t2 here there (left t1 (sited u w)) (left t2 (sited u w))
  left_skips u w o h =
      then_skip m t1 t2 here there (settle_all t1 (settling u.doing.pending) (sited u w).place) (settle_all t2 (settling u.doing.pending) (sited u w).place) (left_from t1 (awaits u.doing.pending) (commuting_on u.doing.spec) (sited u w)) (left_from t2 (awaits u.doing.pending) (commuting_on u.doing.spec) (sited u w)) (all_skip m t1 t2 here there (settling u.doing.pending) (sited u w).place h) (λ v g. go (awaits u.doing.pending) (commuting_on u.doing.spec) v g)
    where
      go : (x y : Option ℕ) (v : World) → Every (Strange m.path) v.waiting → Skipped m t1 t2 here there (left_from t1 x y (sited u w) v) (left_from t2 x y (sited u w) v)
      go (Some x) y v g =
          record { same = refl; strange = every_append (Strange m.path) v.waiting _ g (o.path, tt) }
      go None (Some y) v g = record { same = refl; strange = g }
      go None None v g = skip m t1 t2 here there u.doing.course u.path u.doing.spec u.part u.doing.steps v o.fresh g

  step_skips : (u : Live Bare) (w : World) → Other u → Every (Strange m.path) w.waiting → Skipped m t1 t2 here there (step t1 u w) (step t2 u w)
  step_skips u w o h =
      let s = left_skips u w o h in
      record { same = ap (λ (r : Ran). record { marks = r.marks; world = record { store = after r.marks w.store; waiting = r.world.waiting } }) s.same; strange = s.strange }

  pub onwards_skips : (us : List (Live Bare)) (w : World) → Every Other us → Every (Strange m.path) w.waiting → Skipped m t1 t2 here there (onwards t1 us w) (onwards t2 us w)
  onwards_skips [] w o h = record { same = refl; strange = h }
  onwards_skips (u ∷ us) w o h =
      then_skip m t1 t2 here there (step t1 u w) (step t2 u w) (onwards t1 us) (onwards t2 us) (step_skips u w o.0 h) (λ v g. onwards_skips us v o.1 g)

  module _ (xs ys : List ℤ) (own : same_path m.path m.path ≡ true) (acts : (s : Store) → at_object s m.object ≡ xs → after (its m t1 t2 here there xs ys own) s ≡ slice_set s m.object ys) where
    abbrev Apart2 : World → World → Type 0
    Apart2 = Apart_by m t1 t2 here there xs ys own acts

    abbrev Later2 : Type 0 → Ran → Ran → Type 0
    Later2 = Later m t1 t2 here there xs ys own acts

    abbrev Quiet2 : List Mark → Type 0
    Quiet2 = Quiet m t1 t2 here there xs ys own acts

    -- and each behind the member
    pub record Behind (u : Live Bare) : Type 0 where
      pub other : Other u
      pub clean : Clean u.doing.course
      -- it has not been given the object for reading
      pub unseen : u.versions m.object ≡ None
      -- where it waits: it does not read the object, or is to take it first, and its turn will be its own
      pub reads : (y : ℕ) → awaits u.doing.pending ≡ Some y → (is_immediate (u.rights m.object).reads ≡ false) ⊎ Has m.object (settling u.doing.pending)
      pub sole : (y : ℕ) (kept : Store) → awaits u.doing.pending ≡ Some y → Sole (record { path = u.path; object = y; course = u.doing.course; steps = u.doing.steps; kept = kept })
      -- where it has its turn on another object: it has nothing to do with this one
      pub apart : (y : ℕ) → commuting_on u.doing.spec ≡ Some y → awaits u.doing.pending ≡ None → (s : Store) → (Quiet2 (map (below u.path) (serial u.doing.course u.part u.doing.steps s))) × (serial u.doing.course u.part u.doing.steps (slice_set s m.object ys) ≡ serial u.doing.course u.part u.doing.steps s)

    with_stores : (v1 v2 : World) (s s' : Store) → Apart2 v1 v2 → s' ≡ slice_set s m.object ys → at_object s m.object ≡ xs → Apart2 (record { store = s; waiting = v1.waiting }) (record { store = s'; waiting = v2.waiting })
    with_stores v1 v2 s s' (apart_by r a b h sa sb la lb) e f =
        by_store m t1 t2 here there xs ys own acts s s' a b e f sa sb la lb (a ++ (m ∷ b)) (a ++ b) refl refl

    places : (u : Live Bare) (w1 w2 : World) → u.versions m.object ≡ None → Apart2 w1 w2 → Apart2 (sited u w1).place (sited u w2).place
    places u w1 w2 e (apart_by s a b h sa sb la lb) =
        let z : 0 + m.object ≡ m.object = omega arith in
        let n : u.versions (0 + m.object) ≡ None = subst (λ k. u.versions k ≡ None) (sym z) e in
        by_store m t1 t2 here there xs ys own acts (sees u 0 s) (sees u 0 (slice_set s m.object ys)) a b (sees_set u 0 m.object s ys n) (sees_at u 0 m.object s n ∙ h) sa sb la lb (a ++ (m ∷ b)) (a ++ b) refl refl

    serial_later : (u : Live Bare) (w1 w2 : World) (v w : World) → ((s : Store) → (Quiet2 (map (below u.path) (serial u.doing.course u.part u.doing.steps s))) × (serial u.doing.course u.part u.doing.steps (slice_set s m.object ys) ≡ serial u.doing.course u.part u.doing.steps s)) → (y : ℕ) → Apart2 v w → Later2 (Unit {0}) (left_from t1 None (Some y) (sited u w1) v) (left_from t2 None (Some y) (sited u w2) w)
    serial_later u w1 w2 v w f y (apart_by s a b h sa sb la lb) =
        let ms = map (below u.path) (serial u.doing.course u.part u.doing.steps s) in
        let same : map (below u.path) (serial u.doing.course u.part u.doing.steps (slice_set s m.object ys)) ≡ ms = ap (map (below u.path)) (f s).1 in
        let q = (f s).0 in
        still tt q (sym same) (by_store m t1 t2 here there xs ys own acts (after ms s) (after (map (below u.path) (serial u.doing.course u.part u.doing.steps (slice_set s m.object ys))) (slice_set s m.object ys)) a b (ap (λ z. after z (slice_set s m.object ys)) same ∙ after_set m.object ys ms s q.0) (after_at m.object ms s q.0 ∙ h) sa sb la lb (a ++ (m ∷ b)) (a ++ b) refl refl)

    waiting_later : (u : Live Bare) (y : ℕ) (v w : World) → same_path u.path m.path ≡ false → is_immediate (u.rights m.object).reads ≡ false → ((kept : Store) → Sole (record { path = u.path; object = y; course = u.doing.course; steps = u.doing.steps; kept = kept })) → Apart2 v w → Apart2 (joined u.path y u.rights (record { course = u.doing.course; steps = u.doing.steps }) v) (joined u.path y u.rights (record { course = u.doing.course; steps = u.doing.steps }) w)
    waiting_later u y v w strange none sole (apart_by s a b h sa sb la lb) =
        let new : Store → Member = λ (st : Store). record { path = u.path; object = y; course = u.doing.course; steps = u.doing.steps; kept = kept_from 0 u.rights st } in
        let z : 0 + m.object ≡ m.object = omega arith in
        let kept : kept_from 0 u.rights (slice_set s m.object ys) ≡ kept_from 0 u.rights s = kept_set u.rights 0 s m.object ys (subst (λ i. is_immediate (u.rights i).reads ≡ false) (sym z) none) in
        let same : new (slice_set s m.object ys) ≡ new s = ap (λ (l : Store). record { path = u.path; object = y; course = u.doing.course; steps = u.doing.steps; kept = l }) kept in
        by_store m t1 t2 here there xs ys own acts s (slice_set s m.object ys) a (b ++ new s ∷ []) refl h sa (every_append (Strange m.path) b (new s ∷ []) sb (strange, tt)) la (every_append Sole b (new s ∷ []) lb (sole (kept_from 0 u.rights s), tt)) ((a ++ (m ∷ b)) ++ new s ∷ []) ((a ++ b) ++ new (slice_set s m.object ys) ∷ []) (append_assoc a (m ∷ b) (new s ∷ [])) (ap (λ z. (a ++ b) ++ z ∷ []) same ∙ append_assoc a b (new s ∷ []))

    not_else : (os : List ℕ) → Has m.object os → Else m t1 t2 here there xs ys own acts os → ⊥
    not_else [] h e = h
    not_else (x ∷ os) (inl h) e = e.0 h
    not_else (x ∷ os) (inr h) e = not_else os h e.1

    left_laters : (u : Live Bare) (w1 w2 : World) → Behind u → Apart2 w1 w2 → Later2 (Unit {0}) (left t1 (sited u w1)) (left t2 (sited u w2))
    left_laters u w1 w2 g h =
        then_later m t1 t2 here there xs ys own acts {E = Else m t1 t2 here there xs ys own acts (settling u.doing.pending)} {F = Unit {0}} (settle_all t1 (settling u.doing.pending) (sited u w1).place) (settle_all t2 (settling u.doing.pending) (sited u w2).place) (left_from t1 (awaits u.doing.pending) (commuting_on u.doing.spec) (sited u w1)) (left_from t2 (awaits u.doing.pending) (commuting_on u.doing.spec) (sited u w2)) (all_later m t1 t2 here there xs ys own acts (settling u.doing.pending) (sited u w1).place (sited u w2).place (places u w1 w2 g.unseen h)) (λ e v w i. go (awaits u.doing.pending) refl (commuting_on u.doing.spec) refl e v w i) (λ v i. skips (awaits u.doing.pending) (commuting_on u.doing.spec) v i)
      where
        skips : (x y : Option ℕ) (v : World) → Every (Strange m.path) v.waiting → Skipped m t1 t2 here there (left_from t1 x y (sited u w1) v) (left_from t2 x y (sited u w2) v)
        skips (Some x) y v i =
            record { same = refl; strange = every_append (Strange m.path) v.waiting _ i (g.other.path, tt) }
        skips None (Some y) v i = record { same = refl; strange = i }
        skips None None v i = skip m t1 t2 here there u.doing.course u.path u.doing.spec u.part u.doing.steps v g.other.fresh i

        reading : (y : ℕ) → (is_immediate (u.rights m.object).reads ≡ false) ⊎ Has m.object (settling u.doing.pending) → Else m t1 t2 here there xs ys own acts (settling u.doing.pending) → is_immediate (u.rights m.object).reads ≡ false
        reading y (inl r) e = r
        reading y (inr r) e = absurd (not_else (settling u.doing.pending) r e)

        go : (x : Option ℕ) → awaits u.doing.pending ≡ x → (y : Option ℕ) → commuting_on u.doing.spec ≡ y → Else m t1 t2 here there xs ys own acts (settling u.doing.pending) → (v w : World) → Apart2 v w → Later2 (Unit {0}) (left_from t1 x y (sited u w1) v) (left_from t2 x y (sited u w2) w)
        go (Some x) ex y ey e v w i =
            still tt (tt, tt) refl (waiting_later u x v w g.other.path (reading x (g.reads x ex) e) (λ kept. g.sole x kept ex) i)
        go None ex (Some y) ey e v w i = serial_later u w1 w2 v w (g.apart y ey ex) y i
        go None ex None ey e v w i =
            ahead m t1 t2 here there xs ys own acts u.doing.course g.clean u.path u.doing.spec u.part u.doing.steps v w g.other.fresh i

    -- the store after a task, in both worlds
    step_later : (u : Live Bare) (w1 w2 : World) → Behind u → Apart2 w1 w2 → Later2 (Unit {0}) (step t1 u w1) (step t2 u w2)
    step_later u w1 w2 g h = go w1 w2 h (left_laters u w1 w2 g h)
      where
        go : (w1 w2 : World) → Apart2 w1 w2 → Later2 (Unit {0}) (left t1 (sited u w1)) (left t2 (sited u w2)) → Later2 (Unit {0}) (step t1 u w1) (step t2 u w2)
        go w1 w2 (apart_by s a b h sa sb la lb) (still e q i r) =
            let r1 = left t1 (sited u (record { store = s; waiting = a ++ (m ∷ b) })) in
            let r2 = left t2 (sited u (record { store = slice_set s m.object ys; waiting = a ++ b })) in
            still tt q i (with_stores r1.world r2.world (after r1.marks s) (after r2.marks (slice_set s m.object ys)) r (ap (λ z. after z (slice_set s m.object ys)) (sym i) ∙ after_set m.object ys r1.marks s q.0) (after_at m.object r1.marks s q.0 ∙ h))
        go w1 w2 (apart_by s a b h sa sb la lb) (done front back q e1 e2 w k) =
            let r1 = left t1 (sited u (record { store = s; waiting = a ++ (m ∷ b) })) in
            let r2 = left t2 (sited u (record { store = slice_set s m.object ys; waiting = a ++ b })) in
            let s2 = slice_set s m.object ys in
            let mine = its m t1 t2 here there xs ys own in
            let one : after r1.marks s ≡ after back (slice_set (after front s) m.object ys) = ap (λ z. after z s) e1 ∙ after_both front (mine ++ back) s ∙ after_both mine back (after front s) ∙ ap (after back) (acts (after front s) (after_at m.object front s q.0 ∙ h)) in
            let two : after r2.marks s2 ≡ after back (slice_set (after front s) m.object ys) = ap (λ z. after z s2) e2 ∙ after_both front back s2 ∙ ap (after back) (after_set m.object ys front s q.0) in
            done front back q e1 e2 (ap (λ z. record { store = z; waiting = r1.world.waiting }) (one ∙ sym two) ∙ ap (λ (v : World). record { store = after r2.marks s2; waiting = v.waiting }) w) k

    pub onwards_later : (us : List (Live Bare)) (w1 w2 : World) → Every Behind us → Apart2 w1 w2 → Later2 (Unit {0}) (onwards t1 us w1) (onwards t2 us w2)
    onwards_later [] w1 w2 g h = still tt (tt, tt) refl h
    onwards_later (u ∷ us) w1 w2 g h =
        then_later m t1 t2 here there xs ys own acts {E = Unit {0}} {F = Unit {0}} (step t1 u w1) (step t2 u w2) (onwards t1 us) (onwards t2 us) (step_later u w1 w2 g.0 h) (λ e v w i. onwards_later us v w g.1 i) (λ v i. onwards_skips us v (others_of us g.1) i)
      where
        others_of : (us : List (Live Bare)) → Every Behind us → Every Other us
        others_of [] g = tt
        others_of (u ∷ us) g = (g.0.other, others_of us g.1)

    -- in the end the member has had its turn, in both
    pub all_later_too : (os : List ℕ) (us : List (Live Bare)) (w1 w2 : World) → Every Behind us → Apart2 w1 w2 → Later2 (Else m t1 t2 here there xs ys own acts os) (onwards_all t1 os us w1) (onwards_all t2 os us w2)
    all_later_too os us w1 w2 g h =
        then_later m t1 t2 here there xs ys own acts {E = Unit {0}} {F = Else m t1 t2 here there xs ys own acts os} (onwards t1 us w1) (onwards t2 us w2) (settle_all t1 os) (settle_all t2 os) (onwards_later us w1 w2 g h) (λ e v w i. all_later m t1 t2 here there xs ys own acts os v w i) (λ v i. all_skip m t1 t2 here there os v i)
