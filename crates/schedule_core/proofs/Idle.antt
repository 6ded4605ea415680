-- The tasks before one that takes an object for its turn do nothing there, and what they leave waiting is sole.
use Rattle.std.proofs.Common.{◌≡◌, ◌≢◌, ℕ, zero, suc, ◌<◌, ◌+◌, add-zero, Bool, true, false, not, ◌||◌, ◌&&◌, List, [], ◌∷◌, ◌++◌, map, length, refl, sym, ap, ◌∙◌, subst, Option, Some, None, arith, append-nil, append_assoc}
use Rattle.std.specs.Prelude.{nat_lt, if◌then◌else◌}
use Rattle.std.proofs.lemmas.List.{get_or_past}
use Rattle.std.proofs.lemmas.Bool.{ltb-true, ltb-false}
use Rattle.jade_base.specs.declared.rights.Right.{Right}
use Rattle.jade_base.specs.declared.rights.Rights.{Rights}
use Rattle.jade_base.specs.Rights.{no_rights, is_immediate, is_there, covered}
use Rattle.jade_meaning.specs.Specification.{Specification, rights_on, numbers, objects, commuting_on, commuting_among, allows_commuting}
use Rattle.jade_meaning.specs.Course.{Course}
use Rattle.jade_base.specs.Rights.{may_read, may_write}
use Rattle.jade_meaning.specs.Talk.{made_immediate}
use Rattle.jade_meaning.specs.Serial.{Mark, Path, Store, serial, same_path}
use Rattle.jade_meaning.specs.Turns.{Member, World, below, turn, settle_all, touched_at_once, made_touchable}
use Rattle.schedule_core.specs.Core.{Live}
use Rattle.jade_meaning.specs.Proper.{Proper, proper_read, proper_write, proper_step, proper_create, proper_change, proper_end}
use Rattle.jade_meaning.specs.Laws.{Every}
use Rattle.schedule_core.specs.Sound.{From, settling, awaits, left, left_from}
use Rattle.schedule_core.proofs.Groups.{every_append, Strange, Leaves, Spares, Sole}
pub use Rattle.jade_meaning.proofs.Uncommuted.{less_false, none_commutes}
use Rattle.schedule_core.proofs.Splits.{covers_each, commutes_there, no_writes, no_commutes}
use Rattle.schedule_core.proofs.Soles.{proper_sole, bared_proper}
use Rattle.schedule_core.proofs.Running.{every_by, every_chosen, all_good, Good, run_good}

-- rights
pub no_reads : (a b : Rights) → covered a b ≡ true → is_there a.reads ≡ false → is_there b.reads ≡ false
no_reads a b h e = go (is_there b.reads) (is_there a.reads) (is_there a.writes) (is_there b.writes) (is_there b.commutes) h e
  where
    go : (r r' w' w c : Bool) → (not r || r') && (not w || w') && (not c || (r' && w')) ≡ true → r' ≡ false → r ≡ false
    go false r' w' w c h e = refl
    go true true w' w c h e = absurd (cc)
    go true false true true c h e = absurd (cc)
    go true false true false c h e = absurd (cc)
    go true false false true c h e = absurd (cc)
    go true false false false c h e = absurd (cc)

pub no_touch : (a b : Right) → is_there a ≡ false → is_there b ≡ false → is_immediate a || is_immediate b ≡ false
no_touch a b e f = grind arith

pub touch_there : (r w r' w' : Right) → is_there r ≡ false → is_there w ≡ false → (is_immediate r && not (is_immediate r')) || (is_immediate w && not (is_immediate w')) ≡ false
touch_there r w r' w' e f = grind arith

pub false_true : {A : Type 0} (b : Bool) → b ≡ false → b ≡ true → A
false_true b e f = absurd (let z : false ≡ true = sym e ∙ f in cc)

-- a course that has no rights on an object
abbrev pub Elsewhere : ℕ → ℕ → Type 0
Elsewhere o x = x ≢ o

pub sole_keeps : (o : ℕ) (q : Member) (s : Store) → Sole q → q.object ≢ o → Leaves o (turn q s)
sole_keeps o q s h ne = h.0 s o ne

abbrev pub Any : ℕ → Type 0
Any x = Unit {0}

pub every_any : (os : List ℕ) → Every Any os
every_any [] = tt
every_any (x ∷ os) = (tt, every_any os)

abbrev pub Sparing : ℕ → Mark → Type 0
Sparing o m = Spares o m.deed

pub not_at : (f : Rights → Bool) (spec : Specification) (x o : ℕ) → f (rights_on spec x) ≡ true → f (rights_on spec o) ≡ false → x ≢ o
not_at f spec x o h e i = false_true (f (rights_on spec o)) e (subst (λ z. f (rights_on spec z) ≡ true) i h)

module _ (t : ℕ → List Path) (o : ℕ) where
  pub good_free : {spec : Specification} {c : Course} → Proper spec c → is_there (rights_on spec o).reads ≡ false → is_there (rights_on spec o).writes ≡ false → is_there (rights_on spec o).commutes ≡ false → (p : Path) (k : ℕ) → Good t (Sparing o) Sole (Elsewhere o) (sole_keeps o) p spec c k
  good_free {spec} (proper_read {o = x} i f) r w c p k =
      (not_at may_read spec x o i (no_touch (rights_on spec o).reads (rights_on spec o).commutes r c), λ v. (tt, good_free (f v) r w c p k))
  good_free {spec} (proper_write {o = x} i q) r w c p k =
      let ne = not_at may_write spec x o i (no_touch (rights_on spec o).writes (rights_on spec o).commutes w c) in
      (ne, ne, good_free q r w c p k)
  good_free (proper_step q) r w c p k = good_free q r w c p k
  good_free {spec} (proper_create {child = child} {body = body} none may cov size b q) r w c p k =
      let v = covers_each spec child cov o in
      let cr = no_reads (rights_on spec o) (rights_on child o) v r in
      let cw = no_writes (rights_on spec o) (rights_on child o) v w in
      let cc' = no_commutes (rights_on spec o) (rights_on child o) v w in
      (λ n. tt, every_chosen (Elsewhere o) _ (λ x e. not_at (λ a. is_immediate a.reads || is_immediate a.writes) child x o e (no_touch (rights_on child o).reads (rights_on child o).writes cr cw)) (objects child), λ y e kept. proper_sole _ (bared_proper b 0) e (subst (λ z. allows_commuting z child ≡ true) e may), λ e. good_free b cr cw cc' (p ++ k ∷ []) 0, good_free q r w c p (suc k))
  good_free {spec} (proper_change {new = new} none m q) r w c p k =
      let nr = less_false _ _ (m.reads o) r in
      let nw = less_false _ _ (m.writes o) w in
      let nc = less_false _ _ (m.commutes o) c in
      (every_chosen (Elsewhere o) _ (λ x e i. false_true _ (touch_there (rights_on new o).reads (rights_on new o).writes (rights_on spec o).reads (rights_on spec o).writes nr nw) (subst (λ z. made_immediate (rights_on spec z) (rights_on new z) ≡ true) i e)) (objects new), good_free q nr nw nc p k)
  good_free proper_end r w c p k = λ n. tt

  -- one that may read it, and there are none that wait for it
  abbrev pub SoleElse : Member → Type 0
  SoleElse q = Sole q × (q.object ≢ o)

  pub else_keeps : (q : Member) (s : Store) → SoleElse q → Any q.object → Leaves o (turn q s)
  else_keeps q s h a = h.0.0 s o h.1

  pub good_calm : {spec : Specification} {c : Course} → Proper spec c → is_there (rights_on spec o).writes ≡ false → is_there (rights_on spec o).commutes ≡ false → (p : Path) (k : ℕ) → Good t (Sparing o) SoleElse Any else_keeps p spec c k
  good_calm {spec} (proper_read {o = x} i f) w c p k = (tt, λ v. (tt, good_calm (f v) w c p k))
  good_calm {spec} (proper_write {o = x} i q) w c p k =
      let ne = not_at may_write spec x o i (no_touch (rights_on spec o).writes (rights_on spec o).commutes w c) in
      (tt, ne, good_calm q w c p k)
  good_calm (proper_step q) w c p k = good_calm q w c p k
  good_calm {spec} (proper_create {child = child} {body = body} none may cov size b q) w c p k =
      let v = covers_each spec child cov o in
      let cw = no_writes (rights_on spec o) (rights_on child o) v w in
      let cc' = no_commutes (rights_on spec o) (rights_on child o) v w in
      (λ n. tt, every_any (touched_at_once child), λ y e kept. (proper_sole _ (bared_proper b 0) e (subst (λ z. allows_commuting z child ≡ true) e may), λ i. false_true _ cc' (subst (λ z. is_there (rights_on child z).commutes ≡ true) i (commutes_there child (objects child) y e))), λ e. good_calm b cw cc' (p ++ k ∷ []) 0, good_calm q w c p (suc k))
  good_calm {spec} (proper_change {new = new} none m q) w c p k =
      (every_any (made_touchable spec new), good_calm q (less_false _ _ (m.writes o) w) (less_false _ _ (m.commutes o) c) p k)
  good_calm proper_end w c p k = λ n. tt

-- no mark of another's path
abbrev pub Apart_path : Path → Mark → Type 0
Apart_path z m = same_path m.path z ≡ false

abbrev pub SoleStrange : Path → Member → Type 0
SoleStrange z q = Sole q × Strange z q

abbrev pub Away : Path → Path → ℕ → Type 0
Away z p k = (r : Path) → From k r → same_path (p ++ r) z ≡ false

pub strange_keeps : (z : Path) (q : Member) (s : Store) → SoleStrange z q → Any q.object → Every (Apart_path z) (turn q s)
strange_keeps z q s h a = every_by (λ (m : Mark). m.path ≡ q.path) (Apart_path z) (λ m e. ap (λ x. same_path x z) e ∙ h.1) (turn q s) (h.0.1 s)

pub away_self : (z p : Path) (k : ℕ) → Away z p k → same_path p z ≡ false
away_self z p k f = ap (λ x. same_path x z) (sym (append-nil p)) ∙ f [] tt

pub away_on : (z p : Path) (k : ℕ) → Away z p k → Away z p (suc k)
away_on z p k f [] g = f [] tt
away_on z p k f (j ∷ r) g = f (j ∷ r) (omega arith)

pub away_in : (z p : Path) (k : ℕ) → Away z p k → Away z (p ++ k ∷ []) 0
away_in z p k f r g = ap (λ x. same_path x z) (append_assoc p (k ∷ []) r) ∙ f (k ∷ r) (omega arith)

module _ (t : ℕ → List Path) (z : Path) where
  pub good_aside : {spec : Specification} {c : Course} → Proper spec c → (p : Path) (k : ℕ) → Away z p k → Good t (Apart_path z) (SoleStrange z) Any (strange_keeps z) p spec c k
  good_aside (proper_read i f) p k a = (tt, λ v. (away_self z p k a, good_aside (f v) p k a))
  good_aside (proper_write i q) p k a = (tt, away_self z p k a, good_aside q p k a)
  good_aside (proper_step q) p k a = good_aside q p k a
  good_aside (proper_create {child = child} {body = body} none may cov size b q) p k a =
      (λ n. away_self z p k a, every_any (touched_at_once child), λ y e kept. (proper_sole _ (bared_proper b 0) e (subst (λ z. allows_commuting z child ≡ true) e may), a (k ∷ []) (omega arith)), λ e. good_aside b (p ++ k ∷ []) 0 (away_in z p k a), good_aside q p (suc k) (away_on z p k a))
  good_aside {spec} (proper_change {new = new} none m q) p k a = (every_any (made_touchable spec new), good_aside q p k a)
  good_aside proper_end p k a = λ n. away_self z p k a

-- what is left of a task
module _ (t : ℕ → List Path) (P : Mark → Type 0) (Q : Member → Type 0) (X : ℕ → Type 0) (keep : (q : Member) (s : Store) → Q q → X q.object → Every P (turn q s)) where
  pub left_good : (u : Live World) → Every X (settling u.doing.pending) → Every Q u.place.waiting → ((y : ℕ) → awaits u.doing.pending ≡ Some y → (kept : Store) → Q (record { path = u.path; object = y; course = u.doing.course; steps = u.doing.steps; kept = kept })) → ((y : ℕ) → awaits u.doing.pending ≡ None → commuting_on u.doing.spec ≡ Some y → (s : Store) → Every P (map (below u.path) (serial u.doing.course u.part u.doing.steps s))) → (awaits u.doing.pending ≡ None → commuting_on u.doing.spec ≡ None → Good t P Q X keep u.path u.doing.spec u.doing.course u.part) → Every P (left t u).marks × Every Q (left t u).world.waiting
  left_good u x h joins turns runs =
      let s = settle_all t (settling u.doing.pending) u.place in
      let a = all_good t P Q X keep (settling u.doing.pending) u.place x h in
      let b = go (awaits u.doing.pending) refl (commuting_on u.doing.spec) refl s.world a.1 in
      (every_append P s.marks _ a.0 b.0, b.1)
    where
      go : (y : Option ℕ) → awaits u.doing.pending ≡ y → (z : Option ℕ) → commuting_on u.doing.spec ≡ z → (w : World) → Every Q w.waiting → Every P (left_from t y z u w).marks × Every Q (left_from t y z u w).world.waiting
      go (Some y) e z f w i = (tt, every_append Q w.waiting _ i (joins y e _, tt))
      go None e (Some z) f w i = (turns z e f w.store, i)
      go None e None f w i = run_good t P Q X keep u.doing.course u.path u.doing.spec u.part u.doing.steps w (runs e f) i
