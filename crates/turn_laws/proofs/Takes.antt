-- The events of a task tell of its turn at its first takes alone.
use Rattle.std.proofs.Common.{◌≡◌, ◌≢◌, ℕ, zero, suc, ◌+◌, Bool, true, false, not, ◌&&◌, ◌||◌, List, [], ◌∷◌, ◌++◌, length, refl, sym, ap, ◌∙◌, subst, Option, Some, None, arith, append-nil}
use Rattle.std.proofs.Common.{◌⊎◌, inl, inr, get_or-set_same, get_or-set_other}
use Rattle.std.specs.Prelude.{ℤ, is_none, nat_eq, nat_lt, replicate, if◌then◌else◌}
use Rattle.std.specs.List.{flat_map}
use Rattle.std.proofs.lemmas.List.Elements.{filter_map-append}
use Rattle.std.proofs.lemmas.List.{get_or_past, set_past}
use Rattle.std.proofs.lemmas.Grind.{flat_map-append}
use Rattle.std.proofs.lemmas.Bool.Decides.{eqb_tells}
use Rattle.std.proofs.lemmas.Bool.{ltb-true, ltb-false, eq-eqb}
use Rattle.jade_base.specs.declared.rights.Right.{Right}
use Rattle.jade_base.specs.declared.rights.Right.TheVariants.{Absent, Deferred, Immediate}
use Rattle.jade_base.specs.declared.rights.Rights.{Rights}
use Rattle.jade_base.specs.declared.rights.Mode.{Mode}
use Rattle.jade_base.specs.declared.rights.Mode.TheVariants.{Reading, Writing, Commuting}
use Rattle.jade_base.specs.Rights.{no_rights, both_rights, is_immediate, is_there, same_right, may_write, mode_of, has_rights, same_rights}
use Rattle.jade_meaning.specs.Specification.{Specification, rights_on, objects, commuting_among, commuting_on, may_commute, allows_commuting, fits_commuting, all_fit}
use Rattle.jade_meaning.specs.Course.{Course}
use Rattle.jade_meaning.specs.Proper.{Proper, NoMore, proper_read, proper_write, proper_step, proper_create, proper_change, proper_end}
use Rattle.jade_meaning.specs.Talk.{Task, Event, Enter, Enroll, TouchRead, TouchWrite, Wants, Give, Leave, Resign, Holds, held, when, take_in, first_take, touched}
use Rattle.jade_meaning.specs.Talk.{start_holds, without, own_last, start_takes, creation_gives, enters, kept, change_gives, shift, shifts, taken_anew, change_takes, changed, end_gives, end_leaves, events, talk}
use Rattle.jade_meaning.specs.Serial.{Deed, DidTurn, DidRead, DidWrite, DidCreate}
use Rattle.jade_meaning.specs.Laws.{deed_of, deeds}
use Rattle.jade_meaning.proofs.Soles.{fit_at, own_write}
use Rattle.jade_meaning.proofs.Uncommuted.{less_false, none_commutes, none_from}
use Rattle.turn_laws.specs.Told.{told_of, told}

-- events that tell of no turn
abbrev pub Turnless : List Event → Type 0
Turnless es = told es ≡ deeds es

both : (es fs : List Event) → Turnless es → Turnless fs → Turnless (es ++ fs)
both es fs h g =
    filter_map-append told_of es fs ∙ ap (λ ds. ds ++ told fs) h ∙ ap (λ ds. deeds es ++ ds) g ∙ sym (filter_map-append deed_of es fs)

all_of : (f : ℕ → List Event) → ((o : ℕ) → Turnless (f o)) → (os : List ℕ) → Turnless (flat_map f os)
all_of f h [] = refl
all_of f h (o ∷ os) = both (f o) (flat_map f os) (h o) (all_of f h os)

gives : (b : Bool) (o : ℕ) → Turnless (when b (Give o))
gives true o = refl
gives false o = refl

leaves : (b : Bool) (o : ℕ) → Turnless (when b (Leave o))
leaves true o = refl
leaves false o = refl

enter : (b : Bool) (o : ℕ) (a : Rights) → Turnless (when b (Enter o a))
enter true o a = refl
enter false o a = refl

one_of : (b : Bool) (es fs : List Event) → Turnless es → Turnless fs → Turnless (if b then es else fs)
one_of true es fs h g = h
one_of false es fs h g = g

shift_of : (old new : Rights) (o : ℕ) → Turnless (shift old new o)
shift_of old new o = one_of (same_rights old new) _ _ refl (one_of (has_rights new) _ _ refl refl)

creation : (child : Specification) (h : Holds) → Turnless (creation_gives child h ++ enters child)
creation child h =
    both (creation_gives child h) (enters child) (all_of _ (λ o. gives _ o) (objects child)) (all_of _ (λ o. enter _ o (rights_on child o)) (objects child))

ending : (spec : Specification) (h : Holds) → Turnless (end_gives spec h ++ end_leaves spec)
ending spec h =
    both (end_gives spec h) (end_leaves spec) (all_of _ (λ o. gives _ o) (objects spec)) (all_of _ (λ o. leaves _ o) (objects spec))

-- a take without a commuting right
mode_turnless : (b d e : Bool) (o : ℕ) → b ≡ false
    → Turnless (take_in (if b then Some Commuting else (if d then Some Writing else (if e then Some Reading else None))) o)
mode_turnless true d e o h = absurd (cc)
mode_turnless false true e o h = refl
mode_turnless false false true o h = refl
mode_turnless false false false o h = refl

not_there : (r : Right) → is_there r ≡ false → is_immediate r ≡ false
not_there Absent h = refl
not_there Deferred h = refl
not_there Immediate h = absurd (cc)

plain_take : (a : Rights) (o : ℕ) → is_immediate a.commutes ≡ false → Turnless (take_in (mode_of a) o)
plain_take a o h = mode_turnless (is_immediate a.commutes) (is_immediate a.writes) (is_immediate a.reads) o h

-- no right to commute
abbrev Plain : Specification → Type 0
Plain spec = (o : ℕ) → is_there (rights_on spec o).commutes ≡ false

-- an object for which it might take a turn is held
abbrev Held : Specification → Holds → Type 0
Held spec h = (o : ℕ) → is_none (held h o) ≡ true → Turnless (take_in (mode_of (rights_on spec o)) o)

if_none : (b : Bool) (es : List Event) → (b ≡ true → Turnless es) → Turnless (if b then es else [])
if_none true es f = f refl
if_none false es f = refl

first_turnless : (spec : Specification) (h : Holds) → Held spec h → (o : ℕ) → Turnless (first_take spec h o)
first_turnless spec h k o = if_none (is_none (held h o)) _ (k o)

held_plain : (spec : Specification) → Plain spec → (h : Holds) → Held spec h
held_plain spec p h o e = plain_take (rights_on spec o) o (not_there _ (p o))

none_take : (m : Option Mode) (o : ℕ) → is_none m ≡ true → Turnless (take_in m o)
none_take None o e = refl
none_take (Some m) o e = absurd (cc)

-- at the beginning each object with a mode is held
held_at : (spec : Specification) (o : ℕ) → held (start_holds spec) o ≡ mode_of (rights_on spec o)
held_at [] o = refl
held_at (a ∷ spec) zero = refl
held_at (a ∷ spec) (suc o) = held_at spec o

held_start : (spec : Specification) → Held spec (start_holds spec)
held_start spec o e = none_take (mode_of (rights_on spec o)) o (sym (ap is_none (held_at spec o)) ∙ e)

-- and so it is once an object is touched
held_touched : (spec : Specification) (h : Holds) (x : ℕ) → Held spec h → Held spec (touched spec h x)
held_touched spec h x k o e = at (eqb_tells x o) (nat_lt x (length h)) refl
  where
    at : ((nat_eq x o ≡ true) × (x ≡ o)) ⊎ ((nat_eq x o ≡ false) × (x ≢ o)) → (b : Bool) → nat_lt x (length h) ≡ b → Turnless (take_in (mode_of (rights_on spec o)) o)
    at (inl i) true l =
        let now : held (touched spec h x) o ≡ mode_of (rights_on spec o) =
        ap (held (touched spec h x)) (sym i.1) ∙ get_or-set_same h x (mode_of (rights_on spec x)) None (ltb-true x (length h) l)
        ∙ ap (λ z. mode_of (rights_on spec z)) i.1 in
        none_take (mode_of (rights_on spec o)) o (sym (ap is_none now) ∙ e)
    at (inl i) false l =
        let now : held (touched spec h x) o ≡ held h o =
        ap (λ (z : Holds). held z o) (set_past h x (mode_of (rights_on spec x)) (ltb-false x (length h) l)) in
        k o (sym (ap is_none now) ∙ e)
    at (inr i) b l =
        let now : held (touched spec h x) o ≡ held h o = get_or-set_other h x o (mode_of (rights_on spec x)) None (λ j. i.1 (sym j)) in
        k o (sym (ap is_none now) ∙ e)

-- a task that does not commute, or one that commutes and holds its object
abbrev Kind : Specification → Holds → Type 0
Kind spec h = Plain spec ⊎ ((commuting_on spec ≢ None) × Held spec h)

kind_held : (spec : Specification) (h : Holds) → Kind spec h → Held spec h
kind_held spec h (inl p) = held_plain spec p h
kind_held spec h (inr k) = k.1

kind_touched : (spec : Specification) (h : Holds) (x : ℕ) → Kind spec h → Kind spec (touched spec h x)
kind_touched spec h x (inl p) = inl p
kind_touched spec h x (inr k) = inr (k.0, held_touched spec h x k.1)

kind_plain : (spec : Specification) (h : Holds) → commuting_on spec ≡ None → Kind spec h → Plain spec
kind_plain spec h none (inl p) = p
kind_plain spec h none (inr k) = absurd (k.0 none)

plain_more : (new old : Specification) → NoMore new old → Plain old → Plain new
plain_more new old m p o = less_false _ _ (m.commutes o) (p o)

changing : (old new : Specification) (h : Holds) → Plain new → Turnless (change_gives new h ++ shifts old new ++ change_takes old new h)
changing old new h p =
    both (change_gives new h ++ shifts old new) (change_takes old new h) (both (change_gives new h) (shifts old new)
    (all_of _ (λ o. gives _ o) (objects new)) (all_of _ (λ o. shift_of (rights_on old o) (rights_on new o) o) (objects new)))
    (all_of _ (λ o. one_of (taken_anew old new h o) _ _ (plain_take (rights_on new o) o (not_there _ (p o))) refl) (objects new))

-- the events of a course tell of no turn
course_turnless : {spec : Specification} {c : Course} → Proper spec c → (h : Holds) (n : ℕ) (vs : List ℤ) → Kind spec h → Turnless (events c spec h n vs)
course_turnless {spec} (proper_read {o = o} {c = c} i f) h n [] k =
    both (first_take spec h o) (Wants o c ∷ []) (first_turnless spec h (kind_held spec h k) o) refl
course_turnless {spec} (proper_read {o = o} {c = c} {on = on} i f) h n (v ∷ vs) k =
    both (first_take spec h o) (TouchRead o c v ∷ events (on v) spec (touched spec h o) n vs) (first_turnless spec h (kind_held spec h k) o)
    (ap (λ ds. DidRead o c v ∷ ds) (course_turnless (f v) (touched spec h o) n vs (kind_touched spec h o k)))
course_turnless {spec} (proper_write {o = o} {c = c} {v = v} {on = on} i f) h n vs k =
    both (first_take spec h o) (TouchWrite o c v ∷ events on spec (touched spec h o) n vs) (first_turnless spec h (kind_held spec h k) o)
    (ap (λ ds. DidWrite o c v ∷ ds) (course_turnless f (touched spec h o) n vs (kind_touched spec h o k)))
course_turnless (proper_step f) h n vs k = course_turnless f h (suc n) vs k
course_turnless {spec} (proper_create {child = child} {body = body} {on = on} none may covered sized f g) h n vs k =
    let t : Task = record { spec = child; course = body } in
    both (creation_gives child h ++ enters child) (Enroll t n ∷ events on spec (kept child h) 0 vs) (creation child h)
    (ap (λ ds. DidCreate t n ∷ ds) (course_turnless g (kept child h) 0 vs (inl (kind_plain spec h none k))))
course_turnless {spec} (proper_change {new = new} {on = on} none more f) h n vs k =
    let p = plain_more new spec more (kind_plain spec h none k) in
    both (change_gives new h ++ shifts spec new ++ change_takes spec new h) (events on new (changed spec new h) n vs) (changing spec new h p)
    (course_turnless f (changed spec new h) n vs (inl p))
course_turnless {spec} (proper_end {b = b}) h n vs k = both (end_gives spec h ++ end_leaves spec) (Resign b n ∷ []) (ending spec h) refl

-- the object on which a task commutes
among_there : (spec : Specification) (os : List ℕ) (o : ℕ) → commuting_among spec os ≡ Some o → is_there (rights_on spec o).commutes ≡ true
among_there spec [] o e = absurd (cc)
among_there spec (x ∷ os) o e = go (is_there (rights_on spec x).commutes) refl e (λ i. among_there spec os o i)
  where
    go : (b : Bool) → is_there (rights_on spec x).commutes ≡ b → (if b then Some x else commuting_among spec os) ≡ Some o
        → (commuting_among spec os ≡ Some o → is_there (rights_on spec o).commutes ≡ true) → is_there (rights_on spec o).commutes ≡ true
    go true i e k = let j : x ≡ o = cc in subst (λ z. is_there (rights_on spec z).commutes ≡ true) j i
    go false i e k = k e

last : (p q r : Bool) → p && q && r ≡ true → r ≡ true
last true true true h = refl
last true true false h = absurd (cc)
last true false r h = absurd (cc)
last false q r h = absurd (cc)

own_now : (spec : Specification) (o : ℕ) → commuting_on spec ≡ Some o → all_fit o spec (objects spec) ≡ true → is_immediate (rights_on spec o).commutes ≡ true
own_now spec o e fit = go (nat_lt o (length spec)) refl
  where
    go : (b : Bool) → nat_lt o (length spec) ≡ b → is_immediate (rights_on spec o).commutes ≡ true
    go true l =
        let z : 0 + o ≡ o = omega arith in
        let here : fits_commuting o o (rights_on spec o) ≡ true =
        subst (λ i. fits_commuting o i (rights_on spec i) ≡ true) z (fit_at o spec (length spec) 0 o fit (ltb-true o (length spec) l)) in
        let a = rights_on spec o in
        last (not (is_there a.reads)) (not (is_there a.writes)) (is_immediate a.commutes) (sym (ap (own_or o a) (eq-eqb o o refl)) ∙ here)
      where
        own_or : ℕ → Rights → Bool → Bool
        own_or o a b =
            if b then not (is_there a.reads) && not (is_there a.writes) && is_immediate a.commutes
            else (not (same_right a.reads Deferred) && not (is_there a.writes) && not (is_there a.commutes))
    go false l =
        let n : rights_on spec o ≡ no_rights = get_or_past spec o no_rights (ltb-false o (length spec) l) in
        absurd (let z : false ≡ true = sym (ap (λ (a : Rights). is_there a.commutes) n) ∙ among_there spec (objects spec) o e in cc)

-- no other object is taken for commuting
other_take : (spec : Specification) (o x : ℕ) → all_fit o spec (objects spec) ≡ true → x ≢ o → Turnless (take_in (mode_of (rights_on spec x)) x)
other_take spec o x fit ne = plain_take (rights_on spec x) x (go (is_immediate (rights_on spec x).commutes) refl)
  where
    or_true : (b : Bool) → b || true ≡ true
    or_true true = refl
    or_true false = refl

    go : (b : Bool) → is_immediate (rights_on spec x).commutes ≡ b → is_immediate (rights_on spec x).commutes ≡ false
    go false e = e
    go true e =
        let w : may_write (rights_on spec x) ≡ true =
        ap (λ b. is_immediate (rights_on spec x).writes || b) e ∙ or_true (is_immediate (rights_on spec x).writes) in
        absurd (ne (own_write o spec fit x w))

others_turnless : (spec : Specification) (o : ℕ) → all_fit o spec (objects spec) ≡ true → (os : List ℕ)
    → Turnless (flat_map (λ x. take_in (mode_of (rights_on spec x)) x) (without o os))
others_turnless spec o fit [] = refl
others_turnless spec o fit (x ∷ os) = go (eqb_tells o x) (others_turnless spec o fit os)
  where
    takes : ℕ → List Event
    takes x = take_in (mode_of (rights_on spec x)) x

    go : ((nat_eq o x ≡ true) × (o ≡ x)) ⊎ ((nat_eq o x ≡ false) × (o ≢ x)) → Turnless (flat_map takes (without o os))
        → Turnless (flat_map takes (if nat_eq o x then without o os else x ∷ without o os))
    go (inl e) r = subst (λ b. Turnless (flat_map takes (if b then without o os else x ∷ without o os))) (sym e.0) r
    go (inr e) r =
        subst (λ b. Turnless (flat_map takes (if b then without o os else x ∷ without o os))) (sym e.0)
        (both (takes x) (flat_map takes (without o os)) (other_take spec o x fit (λ i. e.1 (sym i))) r)

-- the turn of a task that commutes
abbrev pub own_turn : Option ℕ → List Deed
own_turn None = []
own_turn (Some o) = DidTurn o ∷ []

own_take : (b d e : Bool) (o : ℕ) → b ≡ true
    → told (take_in (if b then Some Commuting else (if d then Some Writing else (if e then Some Reading else None))) o) ≡ DidTurn o ∷ []
own_take true d e o h = refl
own_take false d e o h = absurd (cc)

take_quiet : (m : Option Mode) (o : ℕ) → deeds (take_in m o) ≡ []
take_quiet None o = refl
take_quiet (Some m) o = refl

takes_quiet : (spec : Specification) (os : List ℕ) → deeds (flat_map (λ x. take_in (mode_of (rights_on spec x)) x) os) ≡ []
takes_quiet spec [] = refl
takes_quiet spec (x ∷ os) =
    filter_map-append deed_of (take_in (mode_of (rights_on spec x)) x) (flat_map (λ x. take_in (mode_of (rights_on spec x)) x) os)
    ∙ ap (λ ds. ds ++ deeds (flat_map (λ x. take_in (mode_of (rights_on spec x)) x) os)) (take_quiet (mode_of (rights_on spec x)) x) ∙ takes_quiet spec os

start_told : (spec : Specification) → may_commute spec ≡ true → told (start_takes spec) ≡ own_turn (commuting_on spec)
start_told spec h = go (commuting_on spec) refl h
  where
    takes : ℕ → List Event
    takes x = take_in (mode_of (rights_on spec x)) x

    go : (x : Option ℕ) → commuting_on spec ≡ x → allows_commuting x spec ≡ true → told (flat_map takes (own_last x (objects spec))) ≡ own_turn x
    go None e h =
        all_of takes (λ o. plain_take (rights_on spec o) o (not_there _ (none_commutes spec e o))) (objects spec) ∙ takes_quiet spec (objects spec)
    go (Some o) e h =
        let others = flat_map takes (without o (objects spec)) in
        let none : told others ≡ [] = others_turnless spec o h (objects spec) ∙ takes_quiet spec (without o (objects spec)) in
        ap told (flat_map-append takes (without o (objects spec)) (o ∷ [])) ∙ filter_map-append told_of others (takes o ++ [])
        ∙ ap (λ ds. ds ++ told (takes o ++ [])) none ∙ ap told (append-nil (takes o))
        ∙ own_take (is_immediate (rights_on spec o).commutes) (is_immediate (rights_on spec o).writes) (is_immediate (rights_on spec o).reads) o (own_now spec o e h)

-- a task tells of its turn first, and then of its deeds
pub talk_told : (t : Task) → Proper t.spec t.course → may_commute t.spec ≡ true → (vs : List ℤ)
    → told (talk t vs) ≡ own_turn (commuting_on t.spec) ++ deeds (talk t vs)
talk_told t proper may vs =
    let es = events t.course t.spec (start_holds t.spec) 0 vs in
    filter_map-append told_of (start_takes t.spec) es ∙ ap (λ ds. ds ++ told es) (start_told t.spec may)
    ∙ ap (λ ds. own_turn (commuting_on t.spec) ++ ds) (course_turnless proper (start_holds t.spec) 0 vs (kind (commuting_on t.spec) refl))
    ∙ ap (λ ds. own_turn (commuting_on t.spec) ++ ds) (sym (filter_map-append deed_of (start_takes t.spec) es
    ∙ ap (λ ds. ds ++ deeds es) (takes_quiet t.spec (own_last (commuting_on t.spec) (objects t.spec)))))
  where
    kind : (x : Option ℕ) → commuting_on t.spec ≡ x → Kind t.spec (start_holds t.spec)
    kind None e = inl (none_commutes t.spec e)
    kind (Some o) e = inr ((λ i. absurd (let z : Some o ≡ None = sym e ∙ i in cc)), held_start t.spec)

-- the root does not commute
replicated : (n o : ℕ) → is_there (rights_on (replicate n both_rights) o).commutes ≡ false
replicated zero o = refl
replicated (suc n) zero = refl
replicated (suc n) (suc o) = replicated n o

pub root_plain : (n : ℕ) → commuting_on (replicate n both_rights) ≡ None
root_plain n = none_from (replicate n both_rights) (objects (replicate n both_rights)) (replicated n)

pub root_may : (n : ℕ) → may_commute (replicate n both_rights) ≡ true
root_may n = ap (λ x. allows_commuting x (replicate n both_rights)) (root_plain n)
