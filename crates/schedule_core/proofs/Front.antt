-- The tasks before one that takes an object for its turn.
use Rattle.std.proofs.Common.{◌≡◌, ◌≢◌, ℕ, ◌+◌, Bool, true, false, not, ◌||◌, ◌&&◌, List, [], ◌∷◌, length, refl, sym, ap, ◌∙◌, subst, Option, Some, None, arith, append-nil, ◌⊎◌, inl, inr}
use Rattle.std.specs.Prelude.{nat_eq, nat_lt, if◌then◌else◌, is_some}
use Rattle.std.proofs.lemmas.Bool.Decides.{eqb_tells}
use Rattle.std.proofs.lemmas.List.{get_or_past}
use Rattle.std.proofs.lemmas.Bool.{ltb-true, ltb-false, eq-eqb, ne_eqb}
use Rattle.jade_base.specs.declared.rights.Right.{Right}
use Rattle.jade_base.specs.declared.rights.Rights.{Rights}
use Rattle.jade_base.specs.Rights.{no_rights, is_immediate, is_there, same_right, mode_of}
use Rattle.jade_meaning.specs.Specification.{Specification, rights_on, objects, commuting_on, allows_commuting, all_fit, fits_commuting}
use Rattle.jade_base.specs.declared.rights.Mode.{Mode}
use Rattle.jade_base.specs.declared.rights.Mode.TheVariants.{Reading, Writing, Commuting}
use Rattle.jade_meaning.specs.Course.{Course, Reads, Writes, Steps, Creates, Changes, Ends}
use Rattle.jade_base.specs.Rights.{may_write}
use Rattle.jade_meaning.specs.Talk.{Event, Enter, Enroll, Take, TouchRead, TouchWrite, Wants, Give, Leave, Shift, Resign, Holds}
use Rattle.jade_meaning.specs.Serial.{Mark, Path, Store, same_path}
use Rattle.jade_meaning.specs.Turns.{Member, World, group}
use Rattle.schedule_core.specs.Core.{Live, Bare, put, writes_there, quiet, is_out}
use Rattle.jade_meaning.specs.Laws.{Every}
use Rattle.schedule_core.specs.Sound.{Fit, Orderly, Pairs, Before, IsEnd, only_commutes, settling, awaits}
use Rattle.schedule_core.specs.Onwards.{sited, step, onwards}
use Rattle.schedule_core.proofs.Groups.{every_append, Leaves, Sole}
use Rattle.schedule_core.proofs.Splits.{commutes_there}
use Rattle.schedule_core.proofs.Soles.{proper_sole, flat_leaves, own_write, fit_at}
use Rattle.schedule_core.proofs.Calm.{put_either, awaits_right, left_empty}
use Rattle.schedule_core.proofs.Running.{every_by, every_two}
use Rattle.schedule_core.proofs.Idle.{Any, every_any, Sparing, SoleElse, SoleStrange, Apart_path, Away, away_self, sole_keeps, strange_keeps, else_keeps, good_free, good_calm, good_aside, left_good, less_false, none_commutes, false_true, Elsewhere}

pub fit_sited : (u : Live Bare) (w : World) → Fit u → Fit (sited u w)
fit_sited u w f = record {
  proper = f.proper;
  less = f.less;
  holds = f.holds;
  keeps = f.keeps;
  reading = f.reading;
  orderly = f.orderly;
  last = f.last;
  own_last = f.own_last;
  commuting = f.commuting;
  reads = f.reads;
  begun = f.begun;
  turned = f.turned;
}

pub mode_reads : (a : Rights) → mode_of a ≡ Some Reading → is_there a.reads ≡ true
mode_reads a h = go (is_immediate a.commutes) (is_immediate a.writes) (is_immediate a.reads) refl h
  where
    there : (r : Right) → is_immediate r ≡ true → is_there r ≡ true
    there r e = grind arith

    go : (c w r : Bool) → is_immediate a.reads ≡ r → (if c then Some Commuting else (if w then Some Writing else (if r then Some Reading else None))) ≡ Some Reading → is_there a.reads ≡ true
    go true w r e h = absurd (cc)
    go false true r e h = absurd (cc)
    go false false true e h = there a.reads e
    go false false false e h = absurd (cc)

pub mode_writes : (a : Rights) → mode_of a ≡ Some Writing → is_there a.writes ≡ true
mode_writes a h = go (is_immediate a.commutes) (is_immediate a.writes) (is_immediate a.reads) refl h
  where
    there : (r : Right) → is_immediate r ≡ true → is_there r ≡ true
    there r e = grind arith

    go : (c w r : Bool) → is_immediate a.writes ≡ w → (if c then Some Commuting else (if w then Some Writing else (if r then Some Reading else None))) ≡ Some Writing → is_there a.writes ≡ true
    go true w r e h = absurd (cc)
    go false true r e h = there a.writes e
    go false false true e h = absurd (cc)
    go false false false e h = absurd (cc)

-- who may neither read nor write an object does not settle it
pub settles_not : (o : ℕ) (s : Specification) (p : Holds) (c : Course) (es : List Event) (r : ℕ → Rights) (h : ℕ → Option Mode) → Orderly s p c es r h → is_there (r o).reads ≡ false → is_there (r o).writes ≡ false → Every (Elsewhere o) (settling es)
settles_not o s p c [] r h g a b = tt
settles_not o s p c (Take x Commuting ∷ es) r h g a b = settles_not o s p c es r _ g.2 a b
settles_not o s p c (Take x Reading ∷ es) r h g a b =
    (λ i. false_true _ a (subst (λ z. is_there (r z).reads ≡ true) i (mode_reads (r x) g.1)), settles_not o s p c es r _ g.2 a b)
settles_not o s p c (Take x Writing ∷ es) r h g a b =
    (λ i. false_true _ b (subst (λ z. is_there (r z).writes ≡ true) i (mode_writes (r x) g.1)), settles_not o s p c es r _ g.2 a b)
settles_not o s p c (Give x ∷ es) r h g a b = settles_not o s p c es r _ g.1 a b
settles_not o s p c (Enter x z ∷ es) r h g a b = settles_not o s p c es r h g.2 a b
settles_not o s p c (Shift x z ∷ es) r h g a b =
    settles_not o s p c es (put r x z) h g.4 (put_either (λ (y : Rights). is_there y.reads ≡ false) r x z o (λ i. less_false _ _ g.0.reads (subst (λ k. is_there (r k).reads ≡ false) i a)) (λ i. a)) (put_either (λ (y : Rights). is_there y.writes ≡ false) r x z o (λ i. less_false _ _ g.0.writes (subst (λ k. is_there (r k).writes ≡ false) i b)) (λ i. b))
settles_not o s p c (Leave x ∷ es) r h g a b =
    settles_not o s p c es (put r x no_rights) h g.3 (put_either (λ (y : Rights). is_there y.reads ≡ false) r x no_rights o (λ i. refl) (λ i. a)) (put_either (λ (y : Rights). is_there y.writes ≡ false) r x no_rights o (λ i. refl) (λ i. b))
settles_not o s p c (Enroll x n ∷ es) r h g a b = absurd g
settles_not o s p c (TouchRead x c' v ∷ es) r h g a b = absurd g
settles_not o s p c (TouchWrite x c' v ∷ es) r h g a b = absurd g
settles_not o s p c (Wants x c' ∷ es) r h g a b = absurd g
settles_not o s p c (Resign b' n ∷ es) r h g a b = absurd g

-- a task that has its turn
pub record HasTurn {G : Type 0} (u : Live G) (y : ℕ) : Type 0 where
  pub none : u.doing.pending ≡ []
  pub holds : (o : ℕ) → u.held o ≡ mode_of (rights_on u.doing.spec o)
  pub rights : (o : ℕ) → u.rights o ≡ rights_on u.doing.spec o
  pub fits : all_fit y u.doing.spec (objects u.doing.spec) ≡ true
  pub writes : (x : ℕ) → may_write (rights_on u.doing.spec x) ≡ true → x ≡ y

pub has_turn : {G : Type 0} (u : Live G) → Fit u → (y : ℕ) → awaits u.doing.pending ≡ None → commuting_on u.doing.spec ≡ Some y → HasTurn u y
has_turn u f y a c = go (f.turned y c).1
  where
    fits : all_fit y u.doing.spec (objects u.doing.spec) ≡ true
    fits = subst (λ z. allows_commuting z u.doing.spec ≡ true) c f.commuting

    go : (u.doing.pending ≡ []) ⊎ (awaits u.doing.pending ≡ Some y) → HasTurn u y
    go (inr e) = absurd (let z : None ≡ Some y = sym a ∙ e in cc)
    go (inl e) =
        let s = (subst (λ es. Orderly u.doing.spec u.doing.plan u.doing.course es u.rights u.held) e f.orderly).0 in
        record {
          none = e;
          holds = λ o. s.holds o ∙ (f.turned y c).2 o;
          rights = s.rights;
          fits = fits;
          writes = own_write y u.doing.spec fits;
        }

-- what a task commutes on, it takes for that
pub own_mode : (spec : Specification) (y : ℕ) → commuting_on spec ≡ Some y → all_fit y spec (objects spec) ≡ true → mode_of (rights_on spec y) ≡ Some Commuting
own_mode spec y c f = inside (nat_lt y (length spec)) refl
  where
    a : Rights
    a = rights_on spec y

    there : is_there a.commutes ≡ true
    there = commutes_there spec (objects spec) y c

    last : (p q r : Bool) → p && q && r ≡ true → r ≡ true
    last true true r h = h
    last true false r h = absurd (cc)
    last false q r h = absurd (cc)

    inside : (b : Bool) → nat_lt y (length spec) ≡ b → mode_of a ≡ Some Commuting
    inside true e =
        let z : 0 + y ≡ y = omega arith in
        let i : fits_commuting y y a ≡ true = subst (λ k. fits_commuting y k (rights_on spec k) ≡ true) z (fit_at y spec (length spec) 0 y f (ltb-true y (length spec) e)) in
        let j : not (is_there a.reads) && not (is_there a.writes) && is_immediate a.commutes ≡ true = subst (λ b. (if b then not (is_there a.reads) && not (is_there a.writes) && is_immediate a.commutes else (not (same_right a.reads Right.Deferred) && not (is_there a.writes) && not (is_there a.commutes))) ≡ true) (eq-eqb y y refl) i in
        let k : is_immediate a.commutes ≡ true = last (not (is_there a.reads)) (not (is_there a.writes)) (is_immediate a.commutes) j in
        ap (λ b. if b then Some Commuting else (if is_immediate a.writes then Some Writing else (if is_immediate a.reads then Some Reading else None))) k
    inside false e =
        false_true (is_there a.commutes) (ap (λ (x : Rights). is_there x.commutes) (get_or_past spec y no_rights (ltb-false y (length spec) e))) there

-- and on nothing else
pub only_one : (spec : Specification) (y x : ℕ) → commuting_on spec ≡ Some y → allows_commuting (Some y) spec ≡ true → x ≢ y → is_immediate (rights_on spec x).commutes ≡ false
only_one spec y x c f ne = inside (nat_lt x (length spec)) refl
  where
    a : Rights
    a = rights_on spec x

    third : (p q : Bool) (r : Right) → p && q && not (is_there r) ≡ true → is_immediate r ≡ false
    third true true Right.Immediate h = absurd (cc)
    third true true Right.Deferred h = refl
    third true true Right.Absent h = refl
    third true false r h = absurd (cc)
    third false q r h = absurd (cc)

    inside : (b : Bool) → nat_lt x (length spec) ≡ b → is_immediate a.commutes ≡ false
    inside true e =
        let z : 0 + x ≡ x = omega arith in
        let i : fits_commuting y x a ≡ true = subst (λ k. fits_commuting y k (rights_on spec k) ≡ true) z (fit_at y spec (length spec) 0 x f (ltb-true x (length spec) e)) in
        let j : not (same_right a.reads Right.Deferred) && not (is_there a.writes) && not (is_there a.commutes) ≡ true = subst (λ b. (if b then not (is_there a.reads) && not (is_there a.writes) && is_immediate a.commutes else (not (same_right a.reads Right.Deferred) && not (is_there a.writes) && not (is_there a.commutes))) ≡ true) (ne_eqb y x (λ i. ne (sym i))) i in
        third (not (same_right a.reads Right.Deferred)) (not (is_there a.writes)) a.commutes j
    inside false e =
        ap (λ (x : Rights). is_immediate x.commutes) (get_or_past spec x no_rights (ltb-false x (length spec) e))

-- one that waits is sole at its turn
pub waits_sole : (u : Live Bare) → Fit u → (y : ℕ) → awaits u.doing.pending ≡ Some y → (kept : Store) → Sole (record { path = u.path; object = y; course = u.doing.course; steps = u.doing.steps; kept = kept })
waits_sole u f y a kept = go (f.begun y a).1
  where
    ends : (c : Course) → IsEnd c → Sole (record { path = u.path; object = y; course = c; steps = u.doing.steps; kept = kept })
    ends (Ends b) e = (λ s x ne. ((λ j. ne j), (tt, tt)), λ s. (refl, (append-nil u.path, tt)))
    ends (Reads o c on) e = absurd e
    ends (Writes o c v on) e = absurd e
    ends (Steps on) e = absurd e
    ends (Creates child body on) e = absurd e
    ends (Changes new on) e = absurd e

    go : (commuting_on u.doing.spec ≡ Some y) ⊎ IsEnd u.doing.course → Sole (record { path = u.path; object = y; course = u.doing.course; steps = u.doing.steps; kept = kept })
    go (inl e) = proper_sole {spec = u.doing.spec} _ f.proper e (subst (λ z. allows_commuting z u.doing.spec ≡ true) e f.commuting)
    go (inr e) = ends u.doing.course e

group_none : (o : ℕ) (ms : List Member) → group o ms ≡ [] → Every (λ q. q.object ≢ o) ms
group_none o [] h = tt
group_none o (m ∷ ms) h = go (eqb_tells m.object o) h (λ e. group_none o ms e)
  where
    go : ((nat_eq m.object o ≡ true) × (m.object ≡ o)) ⊎ ((nat_eq m.object o ≡ false) × (m.object ≢ o)) → (if nat_eq m.object o then m ∷ group o ms else group o ms) ≡ [] → (group o ms ≡ [] → Every (λ q. q.object ≢ o) ms) → Every (λ q. q.object ≢ o) (m ∷ ms)
    go (inl e) h k = absurd (let z : m ∷ group o ms ≡ [] = sym (ap (λ b. if b then m ∷ group o ms else group o ms) e.0) ∙ h in cc)
    go (inr e) h k = (e.1, k (sym (ap (λ b. if b then m ∷ group o ms else group o ms) e.0) ∙ h))

pub soles_of : (P : Member → Type 0) (ms : List Member) → Every (λ q. Sole q × P q) ms → Every Sole ms
soles_of P ms h = every_by (λ q. Sole q × P q) Sole (λ q i. i.0) ms h

abbrev pub Front : ℕ → Live Bare → Type 0
Front o u = (quiet o u || only_commutes o u ≡ true) × (is_out (u.held o) ≡ false)

abbrev pub Unseen : ℕ → Live Bare → Type 0
Unseen o u = is_some (u.versions o) ≡ false

module _ (t : ℕ → List Path) where
  -- it may neither read nor write the object, and does not have it
  pub front_free : (o : ℕ) (u : Live Bare) (w : World) → Fit u → is_there (u.rights o).reads ≡ false → is_there (u.rights o).writes ≡ false → is_out (u.held o) ≡ false → Every Sole w.waiting → Leaves o (step t u w).marks × Every Sole (step t u w).world.waiting
  front_free o u w f r wr out h =
      left_good t (Sparing o) Sole (Elsewhere o) (sole_keeps o) (sited u w) (settles_not o u.doing.spec u.doing.plan u.doing.course u.doing.pending u.rights u.held f.orderly r wr) h (λ y a kept. waits_sole u f y a kept) (λ y a c s. let g = has_turn u f y a c in (flat_leaves f.proper y c g.writes u.path u.part u.doing.steps s).0 o (λ i. false_true _ out (ap is_out (g.holds o ∙ subst (λ z. mode_of (rights_on u.doing.spec z) ≡ Some Commuting) i (own_mode u.doing.spec y c g.fits))))) (λ a c. good_free t o f.proper (less_false _ _ (f.less o).reads r) (less_false _ _ (f.less o).writes wr) (none_commutes u.doing.spec c o) u.path u.part)

  -- it may not write there, and none waits
  pub front_calm : (o : ℕ) (u : Live Bare) (w : World) → Fit u → is_there (u.rights o).writes ≡ false → is_there (u.rights o).commutes ≡ false → group o w.waiting ≡ [] → Every Sole w.waiting → Leaves o (step t u w).marks × Every Sole (step t u w).world.waiting
  front_calm o u w f wr cm none h =
      let ne : (y : ℕ) → is_there (u.rights y).commutes ≡ true → y ≢ o = λ y e i. false_true _ cm (subst (λ z. is_there (u.rights z).commutes ≡ true) i e) in
      let r = left_good t (Sparing o) (SoleElse t o) Any (else_keeps t o) (sited u w) (every_any (settling u.doing.pending)) (every_two Sole (λ q. q.object ≢ o) w.waiting h (group_none o w.waiting none)) (λ y a kept. (waits_sole u f y a kept, ne y (awaits_right u.doing.spec u.doing.plan u.doing.course u.doing.pending u.rights u.held y f.orderly a))) (λ y a c s. let g = has_turn u f y a c in (flat_leaves f.proper y c g.writes u.path u.part u.doing.steps s).0 o (ne y ((f.less y).commutes (commutes_there u.doing.spec (objects u.doing.spec) y c)))) (λ a c. good_calm t o f.proper (less_false _ _ (f.less o).writes wr) (less_false _ _ (f.less o).commutes cm) u.path u.part) in
      (r.0, soles_of (λ q. q.object ≢ o) _ r.1)

  -- none of its marks is another's
  pub front_aside : (z : Path) (u : Live Bare) (w : World) → Fit u → Away z u.path u.part → Every (SoleStrange z) w.waiting → Every (Apart_path z) (step t u w).marks × Every (SoleStrange z) (step t u w).world.waiting
  front_aside z u w f a h =
      left_good t (Apart_path z) (SoleStrange z) Any (strange_keeps z) (sited u w) (every_any (settling u.doing.pending)) h (λ y i kept. (waits_sole u f y i kept, away_self z u.path u.part a)) (λ y i c s. let g = has_turn u f y i c in every_by (λ (m : Mark). m.path ≡ u.path) (Apart_path z) (λ m e. ap (λ x. same_path x z) e ∙ away_self z u.path u.part a) _ (flat_leaves f.proper y c g.writes u.path u.part u.doing.steps s).1) (λ i c. good_aside t z f.proper u.path u.part a)

  pub fronts_aside : (z : Path) (us : List (Live Bare)) (w : World) → Every Fit us → Every (λ u. Away z u.path u.part) us → Every (SoleStrange z) w.waiting → Every (Apart_path z) (onwards t us w).marks × Every (SoleStrange z) (onwards t us w).world.waiting
  fronts_aside z [] w f a h = (tt, h)
  fronts_aside z (u ∷ us) w f a h =
      let x = front_aside z u w f.0 a.0 h in
      let y = fronts_aside z us (step t u w).world f.1 a.1 x.1 in
      (every_append (Apart_path z) (step t u w).marks _ x.0 y.0, y.1)

  pub fronts_idle : (o : ℕ) (us : List (Live Bare)) (w : World) → Every Fit us → Every (Front o) us → Pairs (Before o) us → (group o w.waiting ≡ []) ⊎ Every (Unseen o) us → Every Sole w.waiting → Leaves o (onwards t us w).marks × Every Sole (onwards t us w).world.waiting
  fronts_idle o [] w f g b s h = (tt, h)
  fronts_idle o (u ∷ us) w f g b s h =
      go (cases (is_there (u.rights o).reads) (is_there (u.rights o).writes) (is_there (u.rights o).commutes) (is_some (u.versions o)) g.0.0) s (is_there (u.rights o).commutes) refl (λ w k i. fronts_idle o us w f.1 g.1 b.1 k i)
    where
      unseen : writes_there o u ≡ true → (vs : List (Live Bare)) → Every (Before o u) vs → Every (Unseen o) vs
      unseen e [] k = tt
      unseen e (v ∷ vs) k = (no (is_some (v.versions o)) refl, unseen e vs k.1)
        where
          no : (x : Bool) → is_some (v.versions o) ≡ x → x ≡ false
          no true i = false_true (writes_there o u) (k.0.reading i) e
          no false i = refl

      ends : Leaves o (step t u w).marks × Every Sole (step t u w).world.waiting → (Every Sole (step t u w).world.waiting → Leaves o (onwards t us (step t u w).world).marks × Every Sole (onwards t us (step t u w).world).world.waiting) → Leaves o (onwards t (u ∷ us) w).marks × Every Sole (onwards t (u ∷ us) w).world.waiting
      ends x k = let y = k x.1 in (every_append (Sparing o) (step t u w).marks _ x.0 y.0, y.1)

      or_none : (a b : Bool) → a ≡ false → b ≡ false → a || b ≡ false
      or_none a b e i = ap (λ x. x || b) e ∙ i

      stays : is_there (u.rights o).writes ≡ false → is_there (u.rights o).commutes ≡ false → group o w.waiting ≡ [] → group o (step t u w).world.waiting ≡ []
      stays e i n = left_empty t o (sited u w) (fit_sited u w f.0) (or_none _ _ e i) n

      A : Type 0
      A = Leaves o (onwards t (u ∷ us) w).marks × Every Sole (onwards t (u ∷ us) w).world.waiting

      cases : (r x c v : Bool) → (not (x || c) && (not r || v)) || (not r && not x) ≡ true → ((r ≡ false) × (x ≡ false)) ⊎ ((x ≡ false) × (c ≡ false) × (v ≡ true))
      cases false false c v q = inl (refl, refl)
      cases false true c v q = absurd (cc)
      cases true true c v q = absurd (cc)
      cases true false true v q = absurd (cc)
      cases true false false true q = inr (refl, refl, refl)
      cases true false false false q = absurd (cc)

      go : ((is_there (u.rights o).reads ≡ false) × (is_there (u.rights o).writes ≡ false)) ⊎ ((is_there (u.rights o).writes ≡ false) × (is_there (u.rights o).commutes ≡ false) × (is_some (u.versions o) ≡ true)) → (group o w.waiting ≡ []) ⊎ Every (Unseen o) (u ∷ us) → (c : Bool) → is_there (u.rights o).commutes ≡ c → ((w : World) → (group o w.waiting ≡ []) ⊎ Every (Unseen o) us → Every Sole w.waiting → Leaves o (onwards t us w).marks × Every Sole (onwards t us w).world.waiting) → A
      go (inl e) (inr s) c ec k = ends (front_free o u w f.0 e.0 e.1 g.0.1 h) (k _ (inr s.1))
      go (inl e) (inl n) true ec k =
          ends (front_free o u w f.0 e.0 e.1 g.0.1 h) (k _ (inr (unseen (ap (λ x. x || is_there (u.rights o).commutes) e.1 ∙ ec) us b.0)))
      go (inl e) (inl n) false ec k = ends (front_free o u w f.0 e.0 e.1 g.0.1 h) (k _ (inl (stays e.1 ec n)))
      go (inr e) (inl n) c ec k = ends (front_calm o u w f.0 e.0 e.1 n h) (k _ (inl (stays e.0 e.1 n)))
      go (inr e) (inr s) c ec k = false_true (is_some (u.versions o)) s.0 e.2
