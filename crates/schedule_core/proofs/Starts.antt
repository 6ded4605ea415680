-- The start of a task.
use Rattle.std.proofs.Common.{◌≡◌, ◌≢◌, ℕ, ◌≤◌, ◌+◌, Bool, true, false, not, ◌||◌, ◌&&◌, List, [], ◌∷◌, ◌++◌, length, refl, sym, ap, ◌∙◌, subst, Option, Some, None, arith, append-nil, append_assoc, ◌⊎◌, inl, inr}
use Rattle.std.specs.Prelude.{nat_eq, nat_lt, if◌then◌else◌, is_some}
use Rattle.std.specs.List.{flat_map}
use Rattle.std.proofs.lemmas.List.{get_or_past}
use Rattle.std.proofs.lemmas.Bool.Decides.{eqb_tells}
use Rattle.std.proofs.lemmas.Bool.{ltb-true, ltb-false, eq-eqb, ne_eqb}
use Rattle.jade_base.specs.declared.rights.Right.{Right}
use Rattle.jade_base.specs.declared.rights.Rights.{Rights}
use Rattle.jade_base.specs.Rights.{no_rights, is_immediate, is_there, same_right, mode_of}
use Rattle.jade_meaning.specs.Specification.{Specification, rights_on, objects, commuting_on, allows_commuting, fits_commuting}
use Rattle.jade_base.specs.declared.rights.Mode.{Mode}
use Rattle.jade_base.specs.declared.rights.Mode.TheVariants.{Reading, Writing, Commuting}
use Rattle.jade_meaning.specs.Course.{Course}
use Rattle.jade_meaning.specs.Talk.{Event, Take, held, take_in, start_holds, start_takes, without, own_last}
use Rattle.jade_meaning.specs.Serial.{Path}
use Rattle.jade_meaning.specs.Turns.{touched_at_once, chosen}
use Rattle.schedule_core.specs.Core.{Cells, put}
use Rattle.jade_meaning.specs.Doing.{Doing, opened, preceded}
use Rattle.jade_meaning.specs.Proper.{Proper}
use Rattle.schedule_core.specs.Sound.{Has, Fit, Orderly, Settled, Even, IsEnd, TakesOnly, UpTo, OwnLast, settling, awaits}
use Rattle.schedule_core.proofs.Opens.{settling_both}
use Rattle.schedule_core.proofs.Opens as opens
use Rattle.schedule_core.proofs.Soles.{fit_at}
use Rattle.schedule_core.proofs.Splits.{commutes_there}
use Rattle.schedule_core.proofs.Calm.{awaits_right, put_either}
use Rattle.schedule_core.proofs.Idle.{none_commutes, false_true}
use Rattle.schedule_core.proofs.Front.{own_mode}
use Rattle.schedule_core.proofs.TakeGoes.{own_last_none}
use Rattle.schedule_core.proofs.Alone.{opened_proper, opened_less, opened_orderly, rights_past, held_map, length_map, stage_start, stage_end, take_all}
use Rattle.schedule_core.proofs.Opened.{opened_plain, opened_turn, TurnOn, Whole, live_of}

abbrev takes_of : Specification → ℕ → List Event
takes_of child o = take_in (mode_of (rights_on child o)) o

flat_both : (f : ℕ → List Event) (xs ys : List ℕ) → flat_map f (xs ++ ys) ≡ flat_map f xs ++ flat_map f ys
flat_both f [] ys = refl
flat_both f (x ∷ xs) ys = ap (λ z. f x ++ z) (flat_both f xs ys) ∙ sym (append_assoc (f x) (flat_map f xs) (flat_map f ys))

-- each object has what a commuting task may have on it
pub fits_each : (y x : ℕ) (spec : Specification) → commuting_on spec ≡ Some y → allows_commuting (Some y) spec ≡ true → fits_commuting y x (rights_on spec x) ≡ true
fits_each y x spec e f = inside (nat_lt x (length spec)) refl (eqb_tells y x)
  where
    past : length spec ≤ x → rights_on spec x ≡ no_rights
    past le = get_or_past spec x no_rights le

    inside : (b : Bool) → nat_lt x (length spec) ≡ b → ((nat_eq y x ≡ true) × (y ≡ x)) ⊎ ((nat_eq y x ≡ false) × (y ≢ x)) → fits_commuting y x (rights_on spec x) ≡ true
    inside true q k =
        let z : 0 + x ≡ x = omega arith in
        subst (λ i. fits_commuting y i (rights_on spec i) ≡ true) z (fit_at y spec (length spec) 0 x f (ltb-true x (length spec) q))
    inside false q (inl k) =
        let there : is_there (rights_on spec x).commutes ≡ true = subst (λ i. is_there (rights_on spec i).commutes ≡ true) k.1 (commutes_there spec (objects spec) y e) in
        false_true (is_there (rights_on spec x).commutes) (ap (λ (a : Rights). is_there a.commutes) (past (ltb-false x (length spec) q))) there
    inside false q (inr k) =
        ap (fits_commuting y x) (past (ltb-false x (length spec) q))
        ∙ ap (λ b. if b then not (is_there no_rights.reads) && not (is_there no_rights.writes) && is_immediate no_rights.commutes else (not (same_right no_rights.reads Right.Deferred) && not (is_there no_rights.writes) && not (is_there no_rights.commutes))) k.0

same_object : (x y : ℕ) → Some x ≡ Some y → x ≡ y
same_object x y e = cc

-- what a commuting task may have on an object
pub fits_on : (y x : ℕ) (spec : Specification) → allows_commuting (Some y) spec ≡ true → (is_there (rights_on spec x).writes ≡ false) × (x ≢ y → is_immediate (rights_on spec x).commutes ≡ false) × (x ≡ y → is_there (rights_on spec x).reads ≡ false)
fits_on y x spec f = inside (nat_lt x (length spec)) refl
  where
    R : Rights → Type 0
    R a = (is_there a.writes ≡ false) × (x ≢ y → is_immediate a.commutes ≡ false) × (x ≡ y → is_there a.reads ≡ false)

    flip : (b : Bool) → not b ≡ true → b ≡ false
    flip true e = absurd (cc)
    flip false e = refl

    not_imm : (r : Right) → is_there r ≡ false → is_immediate r ≡ false
    not_imm r e = grind arith

    three : (p q r : Bool) → p && q && r ≡ true → (p ≡ true) × (q ≡ true) × (r ≡ true)
    three true true true h = (refl, refl, refl)
    three true true false h = absurd (cc)
    three true false r h = absurd (cc)
    three false q r h = absurd (cc)

    by : (a : Rights) → ((nat_eq y x ≡ true) × (y ≡ x)) ⊎ ((nat_eq y x ≡ false) × (y ≢ x)) → fits_commuting y x a ≡ true → R a
    by a (inl e) h =
        let k = three _ _ _ (subst (λ b. (if b then not (is_there a.reads) && not (is_there a.writes) && is_immediate a.commutes else (not (same_right a.reads Right.Deferred) && not (is_there a.writes) && not (is_there a.commutes))) ≡ true) e.0 h) in
        (flip _ k.1, λ ne. absurd (ne (sym e.1)), λ i. flip _ k.0)
    by a (inr e) h =
        let k = three _ _ _ (subst (λ b. (if b then not (is_there a.reads) && not (is_there a.writes) && is_immediate a.commutes else (not (same_right a.reads Right.Deferred) && not (is_there a.writes) && not (is_there a.commutes))) ≡ true) e.0 h) in
        (flip _ k.1, λ ne. not_imm a.commutes (flip _ k.2), λ i. absurd (e.1 (sym i)))

    inside : (b : Bool) → nat_lt x (length spec) ≡ b → R (rights_on spec x)
    inside true e =
        let z : 0 + x ≡ x = omega arith in
        by (rights_on spec x) (eqb_tells y x) (subst (λ k. fits_commuting y k (rights_on spec k) ≡ true) z (fit_at y spec (length spec) 0 x f (ltb-true x (length spec) e)))
    inside false e = subst R (sym (get_or_past spec x no_rights (ltb-false x (length spec) e))) (refl, λ ne. refl, λ i. refl)

module _ (child : Specification) (body : Course) (p : Proper child body) (even : Even (length child) body) where
  abbrev pub kid_doing : Doing
  kid_doing = preceded (start_takes child) (opened body child (start_holds child) 0)

  abbrev d : Doing
  d = opened body child (start_holds child) 0

  pub whole : Whole child (start_holds child)
  whole i = held_map child i

  settled_start : (k : ℕ → Option Mode) → ((i : ℕ) → k i ≡ mode_of (rights_on child i)) → Settled child (start_holds child) body (rights_on child) k
  settled_start k h = record {
    rights = λ o. refl;
    holds = λ i. h i ∙ sym (held_map child i);
    planned = record { sized = length_map mode_of child; modes = λ o m e. sym (held_map child o) ∙ e };
    even = even;
  }

  abbrev pub none_held : ℕ → Option Mode
  none_held i = None

  -- a task that does not commute
  module _ (none : commuting_on child ≡ None) where
    takes_plain : start_takes child ≡ flat_map (takes_of child) (objects child)
    takes_plain = ap (λ x. flat_map (takes_of child) (own_last x (objects child))) none

    plain_orderly : Orderly d.spec d.plan d.course (start_takes child ++ d.pending) (rights_on child) none_held
    plain_orderly =
        let new = λ (i : ℕ). mode_of (rights_on child i) in
        subst (λ z. Orderly d.spec d.plan d.course (z ++ d.pending) (rights_on child) none_held) (sym takes_plain) (take_all d.spec d.plan d.course (λ o. true) child new none_held (rights_on child) (λ x. refl) (λ x e. (refl, refl)) (λ x e. absurd (cc)) (length child) 0 d.pending none_held (stage_start new none_held none_held (λ i. refl)) (λ k st. opened_orderly body child (start_holds child) 0 (rights_on child) k p (settled_start k (stage_end new none_held (0 + length child) k st (λ j le. ap mode_of (rights_past child j (omega arith)))))))

    pub plain_waits : awaits (start_takes child ++ d.pending) ≡ None
    plain_waits = go (awaits (start_takes child ++ d.pending)) refl
      where
        go : (x : Option ℕ) → awaits (start_takes child ++ d.pending) ≡ x → x ≡ None
        go None i = refl
        go (Some y) i =
            false_true (is_there (rights_on child y).commutes) (none_commutes child none y) (awaits_right d.spec d.plan d.course (start_takes child ++ d.pending) (rights_on child) none_held y plain_orderly i)

    pub plain_commutes : commuting_on d.spec ≡ None
    plain_commutes =
        (opened_plain body child (start_holds child) 0 (rights_on child) (λ i. mode_of (rights_on child i)) p (settled_start (λ i. mode_of (rights_on child i)) (λ i. refl)) none).1

  -- one that commutes
  module _ (y : ℕ) (own : commuting_on child ≡ Some y) (fits : allows_commuting (Some y) child ≡ true) where
    pub T : TurnOn body child (start_holds child) 0
    T = opened_turn p y own (start_holds child) whole 0

    own_is : mode_of (rights_on child y) ≡ Some Commuting
    own_is = own_mode child y own fits

    abbrev others : List Event
    others = flat_map (takes_of child) (without y (objects child))

    takes_own : start_takes child ++ d.pending ≡ others ++ (Take y Commuting ∷ d.pending)
    takes_own =
        ap (λ x. flat_map (takes_of child) (own_last x (objects child)) ++ d.pending) own ∙ ap (λ z. z ++ d.pending) (flat_both (takes_of child) (without y (objects child)) (y ∷ [])) ∙ append_assoc others (flat_map (takes_of child) (y ∷ [])) d.pending ∙ ap (λ m. others ++ ((take_in m y ++ []) ++ d.pending)) own_is

    not_commuting : (x : ℕ) → x ≢ y → (mode_of (rights_on child x) ≡ None) ⊎ (mode_of (rights_on child x) ≡ Some Reading)
    not_commuting x ne =
        let k = fits_on y x child fits in
        go (is_immediate (rights_on child x).commutes) (is_immediate (rights_on child x).writes) (is_immediate (rights_on child x).reads) (k.1 ne) (not_imm (rights_on child x).writes k.0)
      where
        not_imm : (r : Right) → is_there r ≡ false → is_immediate r ≡ false
        not_imm r e = grind arith

        go : (c w r : Bool) → c ≡ false → w ≡ false → ((if c then Some Commuting else (if w then Some Writing else (if r then Some Reading else None))) ≡ None) ⊎ ((if c then Some Commuting else (if w then Some Writing else (if r then Some Reading else None))) ≡ Some Reading)
        go true w r e f = absurd (cc)
        go false true r e f = absurd (cc)
        go false false true e f = inr refl
        go false false false e f = inl refl

    -- a property of events that the Takes of the others keep
    over : (F : List Event → Type 0) → ((x : ℕ) (es : List Event) → F es → F (Take x Reading ∷ es)) → (xs : List ℕ) (es : List Event) → F es → F (flat_map (takes_of child) (without y xs) ++ es)
    over F step [] es h = h
    over F step (x ∷ xs) es h = go (eqb_tells y x) (over F step xs es h)
      where
        go : ((nat_eq y x ≡ true) × (y ≡ x)) ⊎ ((nat_eq y x ≡ false) × (y ≢ x)) → F (flat_map (takes_of child) (without y xs) ++ es) → F (flat_map (takes_of child) (if nat_eq y x then without y xs else x ∷ without y xs) ++ es)
        go (inl e) k = subst (λ b. F (flat_map (takes_of child) (if b then without y xs else x ∷ without y xs) ++ es)) (sym e.0) k
        go (inr e) k = subst (λ b. F (flat_map (takes_of child) (if b then without y xs else x ∷ without y xs) ++ es)) (sym e.0) (by (mode_of (rights_on child x)) (not_commuting x (λ i. e.1 (sym i))))
          where
            by : (m : Option Mode) → (m ≡ None) ⊎ (m ≡ Some Reading) → F ((take_in m x ++ flat_map (takes_of child) (without y xs)) ++ es)
            by m (inl i) = subst (λ z. F ((take_in z x ++ flat_map (takes_of child) (without y xs)) ++ es)) (sym i) k
            by m (inr i) = subst (λ z. F ((take_in z x ++ flat_map (takes_of child) (without y xs)) ++ es)) (sym i) (step x _ k)

    pub own_waits : awaits (start_takes child ++ d.pending) ≡ Some y
    own_waits = ap awaits takes_own ∙ over (λ es. awaits es ≡ Some y) (λ x es h. h) (objects child) (Take y Commuting ∷ d.pending) refl

    up_to : UpTo (start_takes child ++ d.pending)
    up_to = subst UpTo (sym takes_own) (over UpTo (λ x es h. h) (objects child) (Take y Commuting ∷ d.pending) tt)

    ends_last : OwnLast (start_takes child ++ d.pending)
    ends_last = subst OwnLast (sym takes_own) (over OwnLast (λ x es h. h) (objects child) (Take y Commuting ∷ d.pending) (T.settles, T.waits))

    only_takes : d.pending ≡ [] → TakesOnly (start_takes child ++ d.pending)
    only_takes e = subst TakesOnly (sym takes_own) (over TakesOnly (λ x es h. h) (objects child) (Take y Commuting ∷ d.pending) (subst TakesOnly (sym e) tt))

    -- what it reads is settled first
    pub own_settles : settling (start_takes child ++ d.pending) ≡ touched_at_once child
    own_settles =
        ap settling takes_own ∙ settling_both others (Take y Commuting ∷ d.pending) ∙ ap (λ z. settling others ++ z) T.settles ∙ append-nil (settling others) ∙ go (objects child)
      where
        f : ℕ → Bool
        f o = is_immediate (rights_on child o).reads || is_immediate (rights_on child o).writes

        not_imm : (r : Right) → is_there r ≡ false → is_immediate r ≡ false
        not_imm r e = grind arith

        mode_is : (c w r : Bool) → c ≡ false → w ≡ false → (x : ℕ) (es : List Event) (os : List ℕ) → settling es ≡ os → settling (take_in (if c then Some Commuting else (if w then Some Writing else (if r then Some Reading else None))) x ++ es) ≡ (if r || w then x ∷ os else os)
        mode_is true w r e i x es os h = absurd (cc)
        mode_is false true r e i x es os h = absurd (cc)
        mode_is false false true e i x es os h = ap (λ z. x ∷ z) h
        mode_is false false false e i x es os h = h

        go : (os : List ℕ) → settling (flat_map (takes_of child) (without y os)) ≡ chosen f os
        go [] = refl
        go (x ∷ os) = by (eqb_tells y x) (go os)
          where
            by : ((nat_eq y x ≡ true) × (y ≡ x)) ⊎ ((nat_eq y x ≡ false) × (y ≢ x)) → settling (flat_map (takes_of child) (without y os)) ≡ chosen f os → settling (flat_map (takes_of child) (if nat_eq y x then without y os else x ∷ without y os)) ≡ (if f x then x ∷ chosen f os else chosen f os)
            by (inl e) k =
                let q = fits_on y x child fits in
                ap (λ b. settling (flat_map (takes_of child) (if b then without y os else x ∷ without y os))) e.0 ∙ k ∙ sym (ap (λ b. if b then x ∷ chosen f os else chosen f os) (ap (λ z. z || is_immediate (rights_on child x).writes) (not_imm (rights_on child x).reads (q.2 (sym e.1))) ∙ not_imm (rights_on child x).writes q.0))
            by (inr e) k =
                let q = fits_on y x child fits in
                ap (λ b. settling (flat_map (takes_of child) (if b then without y os else x ∷ without y os))) e.0 ∙ mode_is (is_immediate (rights_on child x).commutes) (is_immediate (rights_on child x).writes) (is_immediate (rights_on child x).reads) (q.1 (λ i. e.1 (sym i))) (not_imm (rights_on child x).writes q.0) x (flat_map (takes_of child) (without y os)) (chosen f os) k

    own_orderly : Orderly d.spec d.plan d.course (start_takes child ++ d.pending) (rights_on child) none_held
    own_orderly =
        subst (λ z. Orderly d.spec d.plan d.course z (rights_on child) none_held) (sym (takes_own ∙ ap (λ z. z ++ (Take y Commuting ∷ d.pending)) (dropped (objects child)))) (take_all d.spec d.plan d.course g child new none_held (rights_on child) (λ x. refl) (λ x e. (ap (λ b. if b then mode_of (rights_on child x) else None) e, refl)) (λ x e. ap (λ b. if b then mode_of (rights_on child x) else None) e) (length child) 0 (Take y Commuting ∷ d.pending) none_held (stage_start new none_held none_held (λ i. refl)) (λ k st. let all = stage_end new none_held (0 + length child) k st (λ j le. past j (omega arith)) in (all y ∙ ap (λ b. if not b then mode_of (rights_on child y) else None) (eq-eqb y y refl), own_is, opened_orderly body child (start_holds child) 0 (rights_on child) (put k y (Some Commuting)) p (settled_start (put k y (Some Commuting)) (λ i. put_either (λ m. m ≡ mode_of (rights_on child i)) k y (Some Commuting) i (λ e. sym (ap (λ z. mode_of (rights_on child z)) e ∙ own_is)) (λ ne. all i ∙ ap (λ b. if not b then mode_of (rights_on child i) else None) (ne_eqb y i (λ e. ne (sym e)))))))))
      where
        g : ℕ → Bool
        g o = not (nat_eq y o)

        new : ℕ → Option Mode
        new o = if g o then mode_of (rights_on child o) else None

        past : (j : ℕ) → length child ≤ j → new j ≡ None
        past j le = both (g j) (mode_of (rights_on child j)) (ap mode_of (rights_past child j le))
          where
            both : (b : Bool) (m : Option Mode) → m ≡ None → (if b then m else None) ≡ None
            both true m e = e
            both false m e = refl

        dropped : (os : List ℕ) → flat_map (takes_of child) (without y os) ≡ flat_map (λ o. if g o then takes_of child o else []) os
        dropped [] = refl
        dropped (x ∷ os) = by (nat_eq y x) (dropped os)
          where
            by : (b : Bool) → flat_map (takes_of child) (without y os) ≡ flat_map (λ o. if g o then takes_of child o else []) os → flat_map (takes_of child) (if b then without y os else x ∷ without y os) ≡ (if not b then takes_of child x else []) ++ flat_map (λ o. if g o then takes_of child o else []) os
            by true k = k
            by false k = ap (λ z. takes_of child x ++ z) k

  -- a task at its start
  pub fit_start : allows_commuting (commuting_on child) child ≡ true → (P : Path) (V : ℕ → Option Cells) → ((o : ℕ) → is_some (V o) ≡ true → is_there (rights_on child o).writes || is_there (rights_on child o).commutes ≡ false) → Fit (live_of P 0 (rights_on child) none_held V kid_doing)
  fit_start fits P V spares = go (commuting_on child) refl fits
    where
      go : (x : Option ℕ) → commuting_on child ≡ x → allows_commuting x child ≡ true → Fit (live_of P 0 (rights_on child) none_held V kid_doing)
      go None e fits =
          let w = plain_waits e in
          let m = plain_commutes e in
          record {
            proper = opened_proper body child (start_holds child) 0 p;
            less = opened_less body child (start_holds child) 0 p;
            holds = λ o. refl;
            keeps = λ o i j. false_true _ (spares o i) j;
            reading = λ o i. absurd (cc);
            orderly = plain_orderly e;
            last = λ o i. absurd (cc);
            own_last = own_last_none (start_takes child ++ d.pending) w;
            commuting = ap (λ z. allows_commuting z d.spec) m;
            reads = λ x y i j. absurd (let z : None ≡ Some y = sym w ∙ i in cc);
            begun = λ y i. absurd (let z : None ≡ Some y = sym w ∙ i in cc);
            turned = λ y i. absurd (let z : None ≡ Some y = sym m ∙ i in cc);
          }
      go (Some y) e fits =
          let w = own_waits y e fits in
          record {
            proper = opened_proper body child (start_holds child) 0 p;
            less = opened_less body child (start_holds child) 0 p;
            holds = λ o. refl;
            keeps = λ o i j. false_true _ (spares o i) j;
            reading = λ o i. absurd (cc);
            orderly = own_orderly y e fits;
            last = λ o i. absurd (cc);
            own_last = ends_last y e fits;
            commuting = commutes y e fits (T y e fits).goes;
            reads = λ x z i j. inl (subst (Has x) (sym (own_settles y e fits)) (touched x j));
            begun = λ z i. (refl, owns y e fits z (sym w ∙ i) (T y e fits).goes, up_to y e fits, λ x. (fits_on y x child fits).0, λ x. subst (λ k. fits_commuting k x (rights_on child x) ≡ true) (same_object y z (sym w ∙ i)) (fits_each y x child e fits));
            turned = λ z i. turned y e fits z i (T y e fits).goes;
          }
        where
          commutes : (y : ℕ) → commuting_on child ≡ Some y → allows_commuting (Some y) child ≡ true → (d.spec ≡ child × (d.pending ≡ []) × Whole child d.plan) ⊎ (IsEnd d.course × (d.spec ≡ [])) → allows_commuting (commuting_on d.spec) d.spec ≡ true
          commutes y e fits (inl g) = subst (λ z. allows_commuting (commuting_on z) z ≡ true) (sym g.0) (ap (λ z. allows_commuting z child) e ∙ fits)
          commutes y e fits (inr g) = subst (λ z. allows_commuting (commuting_on z) z ≡ true) (sym g.1) refl

          owns : (y : ℕ) → commuting_on child ≡ Some y → allows_commuting (Some y) child ≡ true → (z : ℕ) → Some y ≡ Some z → (d.spec ≡ child × (d.pending ≡ []) × Whole child d.plan) ⊎ (IsEnd d.course × (d.spec ≡ [])) → (commuting_on d.spec ≡ Some z) ⊎ IsEnd d.course
          owns y e fits z i (inl g) = inl (ap commuting_on g.0 ∙ e ∙ i)
          owns y e fits z i (inr g) = inr g.0

          turned : (y : ℕ) → commuting_on child ≡ Some y → (fits : allows_commuting (Some y) child ≡ true) → (z : ℕ) → commuting_on d.spec ≡ Some z → (d.spec ≡ child × (d.pending ≡ []) × Whole child d.plan) ⊎ (IsEnd d.course × (d.spec ≡ [])) → TakesOnly (start_takes child ++ d.pending) × ((start_takes child ++ d.pending ≡ []) ⊎ (awaits (start_takes child ++ d.pending) ≡ Some z)) × ((o : ℕ) → held d.plan o ≡ mode_of (rights_on d.spec o))
          turned y e fits z i (inl g) =
              (only_takes y e fits g.1, inr (own_waits y e fits ∙ sym e ∙ sym (ap commuting_on g.0) ∙ i), λ o. g.2 o ∙ ap (λ s. mode_of (rights_on s o)) (sym g.0))
          turned y e fits z i (inr g) = absurd (let q : None ≡ Some z = sym (ap commuting_on g.1) ∙ i in cc)

          touched : (x : ℕ) → is_immediate (rights_on child x).reads ≡ true → Has x (touched_at_once child)
          touched x j = inside (nat_lt x (length child)) refl
            where
              f : ℕ → Bool
              f o = is_immediate (rights_on child o).reads || is_immediate (rights_on child o).writes

              inside : (b : Bool) → nat_lt x (length child) ≡ b → Has x (touched_at_once child)
              inside true q =
                  let z : 0 + x ≡ x = omega arith in
                  has_same x (touched_at_once child) (subst (λ k. opens.Has k (touched_at_once child)) z (opens.chosen_has f (length child) 0 x (ltb-true x (length child) q) (subst (λ k. f k ≡ true) (sym z) (ap (λ b. b || is_immediate (rights_on child x).writes) j))))
                where
                  has_same : (x : ℕ) (os : List ℕ) → opens.Has x os → Has x os
                  has_same x [] h = h
                  has_same x (o ∷ os) (inl h) = inl h
                  has_same x (o ∷ os) (inr h) = inr (has_same x os h)
              inside false q =
                  false_true (is_immediate (rights_on child x).reads) (ap (λ (a : Rights). is_immediate a.reads) (rights_past child x (ltb-false x (length child) q))) j
