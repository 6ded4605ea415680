-- Shift, Leave and Enter.
use Rattle.std.proofs.Common.{◌≡◌, ◌≢◌, ℕ, zero, suc, ◌+◌, add-zero, Bool, true, false, not, ◌||◌, ◌&&◌, List, [], ◌∷◌, refl, sym, ap, ◌∙◌, subst, Some, None, arith, ◌⊎◌, inl, inr}
use Rattle.std.specs.Prelude.{nat_eq, is_some, slice_set}
use Rattle.std.proofs.lemmas.Bool.Decides.{eqb_tells}
use Rattle.jade_base.specs.declared.rights.Rights.{Rights}
use Rattle.jade_base.specs.Rights.{no_rights, is_there, has_rights}
use Rattle.jade_meaning.specs.Specification.{rights_on}
use Rattle.jade_base.specs.declared.rights.Mode.TheVariants.{Reading}
use Rattle.jade_meaning.specs.Talk.{Event, Enter, Leave, Shift}
use Rattle.jade_meaning.specs.Serial.{Path, Store}
use Rattle.jade_meaning.specs.Turns.{World, Ran, settle_all, first, run}
use Rattle.jade_meaning.specs.Serial.{at_object}
use Rattle.schedule_core.specs.Core.{Cells, Live, Bare, put, writes_there, quiet, content_for, version_or}
use Rattle.jade_meaning.specs.Laws.{Every}
use Rattle.schedule_core.specs.Sound.{Fit, Narrowed, Orderly, Before, Apart, Fresh, only_commutes, settling, awaits, left, may}
use Rattle.schedule_core.specs.Onwards.{sees, sited, onwards}
use Rattle.schedule_core.specs.Going.{world_of, Small}
use Rattle.schedule_core.proofs.Groups.{Sole, Aside, Strange}
use Rattle.schedule_core.proofs.Calm.{put_either}
use Rattle.schedule_core.proofs.Running.{every_by}
use Rattle.schedule_core.proofs.Idle.{Away, less_false}
use Rattle.schedule_core.proofs.Front.{settles_not, fronts_aside, soles_of}
use Rattle.schedule_core.proofs.Blinds.{Blind, then_blind, all_blind, run_blind}
use Rattle.schedule_core.proofs.Pairs.{put_here, put_there}
use Rattle.schedule_core.proofs.Frame.{away_of}
use Rattle.schedule_core.proofs.Pend.{Follows, every_all, shifts, leaves, enters, goes_on, plain_left, other_left, other_fit, sees_as}

pub quiet_less : (w c r v w' c' r' : Bool) → (w' ≡ true → w ≡ true) → (c' ≡ true → c ≡ true) → (r' ≡ true → r ≡ true) → not (w || c) && (not r || v) ≡ true → not (w' || c') && (not r' || v) ≡ true
quiet_less true c r v w' c' r' f g h q = absurd (cc)
quiet_less false true r v w' c' r' f g h q = absurd (cc)
quiet_less false false r v true c' r' f g h q = absurd (let z : false ≡ true = f refl in cc)
quiet_less false false r v false true r' f g h q = absurd (let z : false ≡ true = g refl in cc)
quiet_less false false r v false false false f g h q = refl
quiet_less false false false v false false true f g h q = absurd (let z : false ≡ true = h refl in cc)
quiet_less false false true v false false true f g h q = q

pub only_less : (w r w' r' : Bool) → (w' ≡ true → w ≡ true) → (r' ≡ true → r ≡ true) → not r && not w ≡ true → not r' && not w' ≡ true
only_less w true w' r' f h q = absurd (cc)
only_less true false w' r' f h q = absurd (cc)
only_less false false true r' f h q = absurd (let z : false ≡ true = f refl in cc)
only_less false false false true f h q = absurd (let z : false ≡ true = h refl in cc)
only_less false false false false f h q = refl

pub or_cases : (a b a' b' : Bool) → (a ≡ true → a' ≡ true) → (b ≡ true → b' ≡ true) → a || b ≡ true → a' || b' ≡ true
or_cases true b a' b' f g h = ap (λ z. z || b') (f refl)
or_cases false b true b' f g h = refl
or_cases false b false b' f g h = g h

pub rights_less : (x y : Rights) → Narrowed x y → has_rights x ≡ true → has_rights y ≡ true
rights_less x y k h = or_cases _ _ _ _ (or_cases _ _ _ _ k.reads k.writes) k.commutes h

-- Shift
module _ (f : ℕ → Cells) (b l : List (Live Bare)) (size : ℕ) (c : Live Bare) (o : ℕ) (a : Rights) (es : List Event) where
  abbrev pub shifted : Live Bare
  shifted = record {
    path = c.path;
    part = c.part;
    place = tt;
    rights = put c.rights o a;
    held = c.held;
    versions = c.versions;
    doing = record c.doing { pending = es };
  }

  module _ (fit : Fit c) (pends : c.doing.pending ≡ Shift o a ∷ es) where
    ordered : Orderly c.doing.spec c.doing.plan c.doing.course (Shift o a ∷ es) c.rights c.held
    ordered = subst (λ z. Orderly c.doing.spec c.doing.plan c.doing.course z c.rights c.held) pends fit.orderly

    less : (x : ℕ) → Narrowed (put c.rights o a x) (c.rights x)
    less x = put_either (λ y. Narrowed y (c.rights x)) c.rights o a x (λ i. subst (λ z. Narrowed a (c.rights z)) (sym i) ordered.0) (λ i. record { reads = λ h. h; writes = λ h. h; commutes = λ h. h })

    fewer : (x : ℕ) → writes_there x shifted ≡ true → writes_there x c ≡ true
    fewer x h = or_cases _ _ _ _ (less x).writes (less x).commutes h

    pub shift_follows : Small size c → ((x : ℕ) → Fresh x (f x) c) → Follows b l f size c shifted
    shift_follows small fresh = record {
      path = refl;
      part = refl;
      fit = other_fit c shifted (Shift o a) es fit (shifts o a) pends refl (λ x. put_either (Narrowed (rights_on c.doing.spec x)) c.rights o a x (λ i. subst (λ z. Narrowed (rights_on c.doing.spec z) a) (sym i) ordered.2) (λ i. fit.less x)) (λ x. put_either (λ y. may (c.held x) y ≡ true) c.rights o a x (λ i. subst (λ z. may (c.held z) a ≡ true) (sym i) ordered.1) (λ i. fit.holds x)) (λ x v w. fit.keeps x v (fewer x w)) fit.reading ordered.4 (λ x h. h);
      small = record { spec = small.spec; rights = λ x h. small.rights x (rights_less (put c.rights o a x) (c.rights x) (less x) h) };
      front = λ x. every_all (λ s. Before x s c → Before x s shifted) (λ s k. record { writing = k.writing; reading = k.reading; commuting = k.commuting; one = k.one }) b;
      behind = λ x. every_all (λ u. Before x c u → Before x shifted u) (λ u k. record {
        writing = λ h. quieter x (k.writing h);
        reading = λ h. less_false _ _ (fewer x) (k.reading h);
        commuting = λ h. or_cases _ _ _ _ (quieter x) (only x) (k.commuting h);
        one = k.one;
      }) l;
      fresh = λ x w. fresh x (fewer x w);
    }
      where
        quieter : (x : ℕ) → quiet x c ≡ true → quiet x shifted ≡ true
        quieter x q = quiet_less _ _ _ _ _ _ _ (less x).writes (less x).commutes (less x).reads q

        only : (x : ℕ) → only_commutes x c ≡ true → only_commutes x shifted ≡ true
        only x q = only_less _ _ _ _ (less x).writes (less x).reads q

    pub shift_left : (t : ℕ → List Path) (w : World) → left t (sited c w) ≡ left t (sited shifted w)
    shift_left t w =
        other_left t c shifted w (Shift o a) es (goes_on c fit (Shift o a) (shifts o a) es pends) (shifts o a) pends refl refl refl (sees_as c shifted 0 w.store (λ x. refl))

-- Enter
module _ (f : ℕ → Cells) (b l : List (Live Bare)) (size : ℕ) (c : Live Bare) (o : ℕ) (a : Rights) (es : List Event) (fit : Fit c) (pends : c.doing.pending ≡ Enter o a ∷ es) where
  abbrev pub entering : Live Bare
  entering = record {
    path = c.path;
    part = c.part;
    place = tt;
    rights = c.rights;
    held = c.held;
    versions = c.versions;
    doing = record c.doing { pending = es };
  }

  pub enter_follows : Small size c → ((x : ℕ) → Fresh x (f x) c) → Follows b l f size c entering
  enter_follows small fresh = record {
    path = refl;
    part = refl;
    fit = other_fit c entering (Enter o a) es fit (enters o a) pends refl fit.less fit.holds fit.keeps fit.reading (subst (λ z. Orderly c.doing.spec c.doing.plan c.doing.course z c.rights c.held) pends fit.orderly).2 (λ x h. h);
    small = record { spec = small.spec; rights = small.rights };
    front = λ x. every_all (λ s. Before x s c → Before x s entering) (λ s k. record { writing = k.writing; reading = k.reading; commuting = k.commuting; one = k.one }) b;
    behind = λ x. every_all (λ u. Before x c u → Before x entering u) (λ u k. record { writing = k.writing; reading = k.reading; commuting = k.commuting; one = k.one }) l;
    fresh = fresh;
  }

  pub enter_left : (t : ℕ → List Path) (w : World) → left t (sited c w) ≡ left t (sited entering w)
  enter_left t w =
      other_left t c entering w (Enter o a) es (goes_on c fit (Enter o a) (enters o a) es pends) (enters o a) pends refl refl refl (sees_as c entering 0 w.store (λ x. refl))

-- Leave
sees_drop : (u v : Live Bare) (i j : ℕ) (s : Store) → v.versions (i + j) ≡ None → ((x : ℕ) → x ≢ i + j → v.versions x ≡ u.versions x) → sees v i s ≡ slice_set (sees u i s) j (at_object s j)
sees_drop u v i j [] e h = refl
sees_drop u v i zero (x ∷ s) e h =
    ap (λ z. version_or z x ∷ sees v (suc i) s) (subst (λ z. v.versions z ≡ None) (add-zero i) e) ∙ ap (λ z. x ∷ z) (sees_as v u (suc i) s (λ k. ap (λ z. version_or z (at_object s k)) (h (suc i + k) (λ q. let n : suc i + k ≡ i + zero = q in absurd (omega arith)))))
sees_drop u v i (suc j) (x ∷ s) e h =
    let z : i + suc j ≡ suc i + j = omega arith in
    ap (λ y. version_or y x ∷ sees v (suc i) s) (h i (λ q. absurd (omega arith))) ∙ ap (λ y. content_for u i x ∷ y) (sees_drop u v (suc i) j s (subst (λ k. v.versions k ≡ None) z e) (λ k ne. h k (λ q. ne (q ∙ z))))

module _ (f : ℕ → Cells) (b l : List (Live Bare)) (size : ℕ) (c : Live Bare) (o : ℕ) (es : List Event) where
  abbrev pub gone : Live Bare
  gone = record {
    path = c.path;
    part = c.part;
    place = tt;
    rights = put c.rights o no_rights;
    held = c.held;
    versions = put c.versions o None;
    doing = record c.doing { pending = es };
  }

  module _ (fit : Fit c) (pends : c.doing.pending ≡ Leave o ∷ es) where
    ordered_l : Orderly c.doing.spec c.doing.plan c.doing.course (Leave o ∷ es) c.rights c.held
    ordered_l = subst (λ z. Orderly c.doing.spec c.doing.plan c.doing.course z c.rights c.held) pends fit.orderly

    less_l : (x : ℕ) → Narrowed (put c.rights o no_rights x) (c.rights x)
    less_l x = put_either (λ y. Narrowed y (c.rights x)) c.rights o no_rights x (λ i. record { reads = λ h. absurd (cc); writes = λ h. absurd (cc); commutes = λ h. absurd (cc) }) (λ i. record { reads = λ h. h; writes = λ h. h; commutes = λ h. h })

    fewer_l : (x : ℕ) → writes_there x gone ≡ true → writes_there x c ≡ true
    fewer_l x h = or_cases _ _ _ _ (less_l x).writes (less_l x).commutes h

    kept_l : (x : ℕ) → is_some (put c.versions o None x) ≡ true → (x ≢ o) × (is_some (c.versions x) ≡ true)
    kept_l x h = put_either (λ v. is_some v ≡ true → (x ≢ o) × (is_some (c.versions x) ≡ true)) c.versions o None x (λ i h. absurd (cc)) (λ i h. (i, h)) h

    quieter_l : (x : ℕ) → quiet x c ≡ true → quiet x gone ≡ true
    quieter_l x q = go (eqb_tells x o)
      where
        go : ((nat_eq x o ≡ true) × (x ≡ o)) ⊎ ((nat_eq x o ≡ false) × (x ≢ o)) → quiet x gone ≡ true
        go (inl e) = ap (λ (y : Rights). not (is_there y.writes || is_there y.commutes) && (not (is_there y.reads) || is_some (put c.versions o None x))) (put_here c.rights o no_rights x e.1)
        go (inr e) =
            ap (λ (y : Rights). not (is_there y.writes || is_there y.commutes) && (not (is_there y.reads) || is_some (put c.versions o None x))) (put_there c.rights o no_rights x e.1) ∙ ap (λ v. not (writes_there x c) && (not (is_there (c.rights x).reads) || is_some v)) (put_there c.versions o None x e.1) ∙ q

    pub leave_follows : Small size c → ((x : ℕ) → Fresh x (f x) c) → Follows b l f size c gone
    leave_follows small fresh = record {
      path = refl;
      part = refl;
      fit = other_fit c gone (Leave o) es fit (leaves o) pends refl (λ x. put_either (Narrowed (rights_on c.doing.spec x)) c.rights o no_rights x (λ i. subst (λ z. Narrowed (rights_on c.doing.spec z) no_rights) (sym i) ordered_l.1) (λ i. fit.less x)) (λ x. put_either (λ y. may (c.held x) y ≡ true) c.rights o no_rights x (λ i. ap (λ m. may m no_rights) (subst (λ z. c.held z ≡ None) (sym i) ordered_l.0)) (λ i. fit.holds x)) (λ x v w. fit.keeps x (kept_l x v).1 (fewer_l x w)) (λ x h. put_either (λ v. is_some v ≡ true) c.versions o None x (λ i. absurd (let z : None ≡ Some Reading = sym ordered_l.0 ∙ subst (λ z. c.held z ≡ Some Reading) i h in cc)) (λ i. fit.reading x h)) ordered_l.3 (λ x h. h);
      small = record { spec = small.spec; rights = λ x h. small.rights x (rights_less (put c.rights o no_rights x) (c.rights x) (less_l x) h) };
      front = λ x. every_all (λ s. Before x s c → Before x s gone) (λ s k. record { writing = k.writing; reading = λ h. k.reading (kept_l x h).1; commuting = k.commuting; one = k.one }) b;
      behind = λ x. every_all (λ u. Before x c u → Before x gone u) (λ u k. record {
        writing = λ h. quieter_l x (k.writing h);
        reading = λ h. less_false _ _ (fewer_l x) (k.reading h);
        commuting = λ h. or_cases _ _ _ _ (quieter_l x) (λ q. only_less _ _ _ _ (less_l x).writes (less_l x).reads q) (k.commuting h);
        one = k.one;
      }) l;
      fresh = λ x w. put_either (λ v. version_or v (f x) ≡ f x) c.versions o None x (λ i. refl) (λ i. fresh x (fewer_l x w));
    }

    -- it has no more to do with the object
    pub leave_left : (t : ℕ → List Path) (w : World) → Every Sole w.waiting → ((left t (sited c w)).marks ≡ (left t (sited gone w)).marks) × ((left t (sited c w)).world.waiting ≡ (left t (sited gone w)).world.waiting)
    leave_left t w soles =
        let g = goes_on c fit (Leave o) (leaves o) es pends in
        let one : left t (sited c w) ≡ R (sees c 0 w.store) = plain_left t (sited c w) g.waits g.commutes ∙ ap (λ z. S z (sees c 0 w.store)) (ap settling pends) in
        let two : left t (sited gone w) ≡ R (slice_set (sees c 0 w.store) o (at_object w.store o)) = plain_left t (sited gone w) (sym (ap awaits pends) ∙ g.waits) g.commutes ∙ ap R dropped in
        let three = blind.same in
        (ap (λ (r : Ran). r.marks) one ∙ sym (ap (λ (r : Ran). r.marks) two ∙ ap (λ (r : Ran). r.marks) three), ap (λ (r : Ran). r.world.waiting) one ∙ sym (ap (λ (r : Ran). r.world.waiting) two ∙ ap (λ (r : Ran). r.world.waiting) three))
      where
        P : Store → World
        P s = record { store = s; waiting = w.waiting }

        S : List ℕ → Store → Ran
        S os s = first (settle_all t os (P s)).marks (run t c.path c.doing.spec c.doing.course c.part c.doing.steps (settle_all t os (P s)).world)

        R : Store → Ran
        R s = S (settling es) s

        dropped : sees gone 0 w.store ≡ slice_set (sees c 0 w.store) o (at_object w.store o)
        dropped =
            let z : 0 + o ≡ o = omega arith in
            sees_drop c gone 0 o w.store (put_here c.versions o None (0 + o) z) (λ x ne. put_there c.versions o None x (λ q. ne (q ∙ sym z)))

        none : (x y : Bool) → (x ≡ true → y ≡ true) → y ≡ false → x ≡ false
        none x y h e = less_false x y h e

        blind : Blind t o (at_object w.store o) (R (slice_set (sees c 0 w.store) o (at_object w.store o))) (R (sees c 0 w.store))
        blind =
            then_blind t o (at_object w.store o) (settle_all t (settling es) (P (slice_set (sees c 0 w.store) o (at_object w.store o)))) (settle_all t (settling es) (P (sees c 0 w.store))) (λ v. run t c.path c.doing.spec c.doing.course c.part c.doing.steps v) (λ v. run t c.path c.doing.spec c.doing.course c.part c.doing.steps v) (all_blind t o (at_object w.store o) (settling es) (P (sees c 0 w.store)) (settles_not o c.doing.spec c.doing.plan c.doing.course es (put c.rights o no_rights) c.held ordered_l.3 (ap (λ (y : Rights). is_there y.reads) (put_here c.rights o no_rights o refl)) (ap (λ (y : Rights). is_there y.writes) (put_here c.rights o no_rights o refl))) soles) (λ v g. run_blind t o (at_object w.store o) fit.proper (none _ _ ordered_l.1.reads refl) (none _ _ ordered_l.1.writes refl) (none _ _ ordered_l.1.commutes refl) c.path c.part c.doing.steps v g)

-- those that wait after the tasks before
pub soles_before : (t : ℕ → List Path) (size : ℕ) (f : ℕ → Cells) (b : List (Live Bare)) (c : Live Bare) → Every Fit b → Every (λ s. Apart s c) b → Aside c.path (onwards t b (world_of size f)).marks × Every Sole (onwards t b (world_of size f)).world.waiting
soles_before t size f b c fits apart =
    let r = fronts_aside t c.path b (world_of size f) fits (every_by (λ s. Apart s c) (λ s. Away c.path s.path s.part) (λ s k. away_of s c k) b apart) tt in
    (r.0, soles_of (Strange c.path) _ r.1)
