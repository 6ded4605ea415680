-- What a task goes on with after a deed.
use Rattle.std.proofs.Common.{◌≡◌, ℕ, suc, Bool, true, false, List, [], ◌∷◌, ◌++◌, length, refl, sym, ap, ◌∙◌, subst, Option, Some, None, arith, ◌⊎◌, inl, inr}
use Rattle.std.specs.Prelude.{if◌then◌else◌, is_some, is_none, slice_set}
use Rattle.std.specs.List.{flat_map}
use Rattle.std.proofs.lemmas.List.{set-get_or}
use Rattle.jade_base.specs.declared.rights.Right.{Right}
use Rattle.jade_base.specs.declared.rights.Rights.{Rights}
use Rattle.jade_meaning.specs.Specification.{Specification, rights_on, objects, commuting_on, commuting_among, allows_commuting}
use Rattle.jade_base.specs.Rights.{is_immediate, is_there, has_rights, mode_of}
use Rattle.jade_base.specs.declared.rights.Mode.{Mode}
use Rattle.jade_base.specs.declared.rights.Mode.TheVariants.{Reading, Writing, Commuting}
use Rattle.jade_meaning.specs.Course.{Course}
use Rattle.jade_meaning.specs.Talk.{Event, Enter, Enroll, Take, TouchRead, TouchWrite, Wants, Give, Leave, Shift, Resign, Holds, held, when, take_in, first_take, touched, end_gives, end_leaves}
use Rattle.jade_meaning.specs.Serial.{Path, Store, serial}
use Rattle.jade_meaning.specs.Turns.{bared}
use Rattle.schedule_core.specs.Core.{Cells, Live, Bare}
use Rattle.jade_meaning.specs.Doing.{Doing, opened}
use Rattle.jade_meaning.specs.Proper.{Proper, proper_read, proper_write, proper_step, proper_create, proper_change, proper_end}
use Rattle.schedule_core.specs.Sound.{Fit, Narrowed, Settled, Even, IsEnd, TakesOnly, settling, awaits, may}
use Rattle.schedule_core.proofs.Opens.{Plain, AllPlain, settling_both, none_settles, give_none, leave_none}
use Rattle.schedule_core.proofs.Calm.{awaits_right, mode_commutes}
use Rattle.schedule_core.proofs.Idle.{less_false, none_commutes, false_true}
use Rattle.schedule_core.proofs.Takes.{read_mode}
use Rattle.schedule_core.proofs.TakeGoes.{own_last_none}
use Rattle.schedule_core.proofs.Alone.{opened_proper, opened_less, opened_orderly, writing_mode}

not_imm : (r : Right) → is_there r ≡ false → is_immediate r ≡ false
not_imm r e = grind arith

pub plain_of : (spec : Specification) → commuting_on spec ≡ None → Plain spec
plain_of spec e o = not_imm (rights_on spec o).commutes (none_commutes spec e o)

pub proper_plain : {spec : Specification} {c : Course} → Proper spec c → ((o : ℕ) → is_there (rights_on spec o).commutes ≡ false) → AllPlain c
proper_plain (proper_read i f) h = λ v. proper_plain (f v) h
proper_plain (proper_write i q) h = proper_plain q h
proper_plain (proper_step q) h = proper_plain q h
proper_plain (proper_create none may cov size b q) h = proper_plain q h
proper_plain {spec} (proper_change {new = new} none m q) h =
    let g : (o : ℕ) → is_there (rights_on new o).commutes ≡ false = λ o. less_false _ _ (m.commutes o) (h o) in
    (λ o. not_imm (rights_on new o).commutes (g o), proper_plain q g)
proper_plain proper_end h = tt

pub none_from : (spec : Specification) (os : List ℕ) → ((o : ℕ) → is_there (rights_on spec o).commutes ≡ false) → commuting_among spec os ≡ None
none_from spec [] h = refl
none_from spec (o ∷ os) h = ap (λ b. if b then Some o else commuting_among spec os) (h o) ∙ none_from spec os h

-- a task that does not commute
pub opened_plain : (c : Course) (spec : Specification) (h : Holds) (n : ℕ) (r : ℕ → Rights) (hd : ℕ → Option Mode) → Proper spec c → Settled spec h c r hd → commuting_on spec ≡ None → (awaits (opened c spec h n).pending ≡ None) × (commuting_on (opened c spec h n).spec ≡ None)
opened_plain c spec h n r hd p s e =
    (go (awaits (opened c spec h n).pending) refl, none_from _ (objects (opened c spec h n).spec) (λ o. less_false _ _ (opened_less c spec h n p o).commutes (none_commutes spec e o)))
  where
    go : (x : Option ℕ) → awaits (opened c spec h n).pending ≡ x → x ≡ None
    go None i = refl
    go (Some y) i =
        let d = opened c spec h n in
        false_true (is_there (r y).commutes) (ap (λ (a : Rights). is_there a.commutes) (s.rights y) ∙ none_commutes spec e y) (awaits_right d.spec d.plan d.course d.pending r hd y (opened_orderly c spec h n r hd p s) i)

-- events that await nothing
pub awaits_both : (es fs : List Event) → awaits es ≡ None → awaits (es ++ fs) ≡ awaits fs
awaits_both [] fs h = refl
awaits_both (Take o Commuting ∷ es) fs h = absurd (cc)
awaits_both (Take o Reading ∷ es) fs h = awaits_both es fs h
awaits_both (Take o Writing ∷ es) fs h = awaits_both es fs h
awaits_both (Give o ∷ es) fs h = awaits_both es fs h
awaits_both (Enter o a ∷ es) fs h = awaits_both es fs h
awaits_both (Shift o a ∷ es) fs h = awaits_both es fs h
awaits_both (Leave o ∷ es) fs h = awaits_both es fs h
awaits_both (Enroll o a ∷ es) fs h = awaits_both es fs h
awaits_both (TouchRead o c v ∷ es) fs h = awaits_both es fs h
awaits_both (TouchWrite o c v ∷ es) fs h = awaits_both es fs h
awaits_both (Wants o c ∷ es) fs h = awaits_both es fs h
awaits_both (Resign o n ∷ es) fs h = awaits_both es fs h

none_awaits : (f : ℕ → List Event) → ((o : ℕ) → awaits (f o) ≡ None) → (os : List ℕ) → awaits (flat_map f os) ≡ None
none_awaits f h [] = refl
none_awaits f h (o ∷ os) = awaits_both (f o) (flat_map f os) (h o) ∙ none_awaits f h os

give_no : (b : Bool) (o : ℕ) → awaits (when b (Give o)) ≡ None
give_no true o = refl
give_no false o = refl

leave_no : (b : Bool) (o : ℕ) → awaits (when b (Leave o)) ≡ None
leave_no true o = refl
leave_no false o = refl

abbrev pub Whole : Specification → Holds → Type 0
Whole spec h = (o : ℕ) → held h o ≡ mode_of (rights_on spec o)

-- a task that has its turn
pub record TurnOn (c : Course) (spec : Specification) (h : Holds) (n : ℕ) : Type 0 where
  pub settles : settling (opened c spec h n).pending ≡ []
  pub waits : awaits (opened c spec h n).pending ≡ None
  pub goes : ((opened c spec h n).spec ≡ spec × ((opened c spec h n).pending ≡ []) × Whole spec (opened c spec h n).plan) ⊎ (IsEnd (opened c spec h n).course × ((opened c spec h n).spec ≡ []))
  pub same : (k : ℕ) (s : Store) → serial (opened c spec h n).course k (opened c spec h n).steps s ≡ serial c k n s
  pub course : (bared c n).course ≡ (opened c spec h n).course
  pub steps : (bared c n).steps ≡ (opened c spec h n).steps

held_none : (spec : Specification) (h : Holds) (o : ℕ) → Whole spec h → is_some (mode_of (rights_on spec o)) ≡ true → first_take spec h o ≡ []
held_none spec h o w e = go (held h o) refl
  where
    go : (x : Option Mode) → held h o ≡ x → (if is_none x then take_in (mode_of (rights_on spec o)) o else []) ≡ []
    go (Some m) i = refl
    go None i = false_true (is_some (held h o)) (ap is_some i) (ap is_some (w o) ∙ e)

touched_whole : (spec : Specification) (h : Holds) (o : ℕ) → Whole spec h → Whole spec (touched spec h o)
touched_whole spec h o w i =
    ap (λ m. held (slice_set h o m) i) (sym (w o)) ∙ ap (λ z. held z i) (set-get_or h o None) ∙ w i

pub opened_turn : {spec : Specification} {c : Course} → Proper spec c → (y : ℕ) → commuting_on spec ≡ Some y → (h : Holds) → Whole spec h → (n : ℕ) → TurnOn c spec h n
opened_turn {spec} (proper_read {o = o} {c = c} {on = on} i f) y e h w n =
    let a = held_none spec h o w (read_mode (rights_on spec o) i) in
    record { settles = ap settling a; waits = ap awaits a; goes = inl (refl, a, touched_whole spec h o w); same = λ k s. refl; course = refl; steps = refl }
opened_turn {spec} (proper_write {o = o} {c = c} {v = v} {on = on} i q) y e h w n =
    let m = writing_mode (rights_on spec o) i in
    let a = held_none spec h o w (ap is_some m.1) in
    record { settles = ap settling a; waits = ap awaits a; goes = inl (refl, a, touched_whole spec h o w); same = λ k s. refl; course = refl; steps = refl }
opened_turn (proper_step q) y e h w n =
    let r = opened_turn q y e h w (suc n) in
    record { settles = r.settles; waits = r.waits; goes = r.goes; same = r.same; course = r.course; steps = r.steps }
opened_turn (proper_create none a b d f g) y e h w n = absurd (let z : Some y ≡ None = sym e ∙ none in cc)
opened_turn (proper_change none a b) y e h w n = absurd (let z : Some y ≡ None = sym e ∙ none in cc)
opened_turn {spec} proper_end y e h w n = record {
  settles = settling_both (end_gives spec h) (end_leaves spec) ∙ ap (λ z. z ++ settling (end_leaves spec)) (none_settles _ (λ o. give_none (is_some (held h o)) o) (objects spec)) ∙ none_settles _ (λ o. leave_none (has_rights (rights_on spec o)) o) (objects spec);
  waits = awaits_both (end_gives spec h) (end_leaves spec) (none_awaits _ (λ o. give_no (is_some (held h o)) o) (objects spec)) ∙ none_awaits _ (λ o. leave_no (has_rights (rights_on spec o)) o) (objects spec);
  goes = inr (tt, refl);
  same = λ k s. refl;
  course = refl;
  steps = refl;
}

-- the task of these parts
abbrev pub live_of : Path → ℕ → (ℕ → Rights) → (ℕ → Option Mode) → (ℕ → Option Cells) → Doing → Live Bare
live_of path part rights hd versions doing =
    record { path = path; part = part; place = tt; rights = rights; held = hd; versions = versions; doing = doing }

abbrev pub at_deed : Specification → Holds → ℕ → Course → Doing
at_deed spec plan steps course =
    record { pending = []; spec = spec; plan = plan; steps = steps; course = course }

module _ (P : Path) (K : ℕ) (R : ℕ → Rights) (H : ℕ → Option Mode) (V : ℕ → Option Cells) (S : Specification) (A : Holds) (N : ℕ) (c : Course) (fit : Fit (live_of P K R H V (at_deed S A N c))) where
  -- it commutes and has its turn, or it does not commute
  pub turning : (y : ℕ) → commuting_on S ≡ Some y → Whole S A
  turning y e = (fit.turned y e).2

  pub settled_on : (c' : Course) → Even (length S) c' → Settled S A c' R H
  settled_on c' even = let s = fit.orderly.0 in record { rights = s.rights; holds = s.holds; planned = s.planned; even = even }

  pub fit_on : (c' : Course) (n k : ℕ) → Proper S c' → Even (length S) c' → Fit (live_of P k R H V (opened c' S A n))
  fit_on c' n k p even = record {
    proper = opened_proper c' S A n p;
    less = λ o. subst (λ a. Narrowed (rights_on d.spec o) a) (sym (s.rights o)) (opened_less c' S A n p o);
    holds = fit.holds;
    keeps = fit.keeps;
    reading = fit.reading;
    orderly = opened_orderly c' S A n R H p s;
    last = λ o h. last o h (commuting_on S) refl;
    own_last = own_last_none d.pending none;
    commuting = commuting (commuting_on S) refl;
    reads = λ x y h i. absurd (let z : None ≡ Some y = sym none ∙ h in cc);
    begun = λ y h. absurd (let z : None ≡ Some y = sym none ∙ h in cc);
    turned = λ y h. turned y h (commuting_on S) refl;
  }
    where
      d : Doing
      d = opened c' S A n

      s : Settled S A c' R H
      s = settled_on c' even

      none : awaits (opened c' S A n).pending ≡ None
      none = go (commuting_on S) refl
        where
          go : (x : Option ℕ) → commuting_on S ≡ x → awaits (opened c' S A n).pending ≡ None
          go None e = (opened_plain c' S A n R H p s e).0
          go (Some y) e = (opened_turn p y e A (turning y e) n).waits

      last : (o : ℕ) → H o ≡ Some Commuting → (x : Option ℕ) → commuting_on S ≡ x → (settling (opened c' S A n).pending ≡ []) × (awaits (opened c' S A n).pending ≡ None)
      last o h (Some y) e = ((opened_turn p y e A (turning y e) n).settles, none)
      last o h None e =
          false_true (is_there (rights_on S o).commutes) (none_commutes S e o) (mode_commutes (rights_on S o) (s.planned.modes o Commuting (sym (s.holds o) ∙ h)))

      commuting : (x : Option ℕ) → commuting_on S ≡ x → allows_commuting (commuting_on (opened c' S A n).spec) (opened c' S A n).spec ≡ true
      commuting None e =
          ap (λ z. allows_commuting z (opened c' S A n).spec) (opened_plain c' S A n R H p s e).1
      commuting (Some y) e = go (opened_turn p y e A (turning y e) n).goes
        where
          go : ((opened c' S A n).spec ≡ S × ((opened c' S A n).pending ≡ []) × Whole S (opened c' S A n).plan) ⊎ (IsEnd (opened c' S A n).course × ((opened c' S A n).spec ≡ [])) → allows_commuting (commuting_on (opened c' S A n).spec) (opened c' S A n).spec ≡ true
          go (inl g) = subst (λ z. allows_commuting (commuting_on z) z ≡ true) (sym g.0) fit.commuting
          go (inr g) = subst (λ z. allows_commuting (commuting_on z) z ≡ true) (sym g.1) refl

      turned : (y : ℕ) → commuting_on (opened c' S A n).spec ≡ Some y → (x : Option ℕ) → commuting_on S ≡ x → TakesOnly (opened c' S A n).pending × (((opened c' S A n).pending ≡ []) ⊎ (awaits (opened c' S A n).pending ≡ Some y)) × ((o : ℕ) → held (opened c' S A n).plan o ≡ mode_of (rights_on (opened c' S A n).spec o))
      turned y h None e = absurd (let z : None ≡ Some y = sym (opened_plain c' S A n R H p s e).1 ∙ h in cc)
      turned y h (Some y') e = go (opened_turn p y' e A (turning y' e) n).goes
        where
          go : ((opened c' S A n).spec ≡ S × ((opened c' S A n).pending ≡ []) × Whole S (opened c' S A n).plan) ⊎ (IsEnd (opened c' S A n).course × ((opened c' S A n).spec ≡ [])) → TakesOnly (opened c' S A n).pending × (((opened c' S A n).pending ≡ []) ⊎ (awaits (opened c' S A n).pending ≡ Some y)) × ((o : ℕ) → held (opened c' S A n).plan o ≡ mode_of (rights_on (opened c' S A n).spec o))
          go (inl g) =
              (subst (λ z. TakesOnly z) (sym g.1) tt, inl g.1, λ o. g.2 o ∙ ap (λ z. mode_of (rights_on z o)) (sym g.0))
          go (inr g) = absurd (let z : None ≡ Some y = sym (ap commuting_on g.1) ∙ h in cc)
