-- What a task's next events will settle and then run is what its course runs: each Take settles the group of its object.
use Rattle.std.proofs.Common.{◌≡◌, ℕ, zero, suc, ◌<◌, ◌+◌, Bool, true, false, not, ◌||◌, ◌&&◌, List, [], ◌∷◌, ◌++◌, map, length, refl, sym, ap, ◌∙◌, subst, Option, Some, None, arith, append-nil, append_assoc, ◌⊎◌, inl, inr}
use Rattle.std.specs.Prelude.{ℤ, if◌then◌else◌, is_some, is_none}
use Rattle.std.specs.List.{flat_map}
use Rattle.jade_base.specs.declared.rights.Rights.{Rights}
use Rattle.jade_meaning.specs.Specification.{Specification, rights_on, numbers, objects, same_hold, yields}
use Rattle.jade_base.specs.Rights.{is_immediate, has_rights, same_rights, mode_of}
use Rattle.jade_base.specs.declared.rights.Mode.{Mode}
use Rattle.jade_base.specs.declared.rights.Mode.TheVariants.{Reading, Writing, Commuting}
use Rattle.jade_meaning.specs.Course.{Course, Reads, Writes, Steps, Creates, Changes, Ends}
use Rattle.jade_meaning.specs.Talk.{Event, Enter, Enroll, Take, TouchRead, TouchWrite, Wants, Give, Leave, Shift, Resign, Holds, held, when, take_in, first_take, creation_gives, enters, given_back, change_gives, shift, shifts, made_immediate, taken_anew, change_takes, changed, end_gives, end_leaves}
use Rattle.jade_meaning.specs.Serial.{Mark, Path, DidRead, DidWrite, DidEnd, after, cell, with_cell}
use Rattle.jade_meaning.specs.Turns.{Member, World, Ran, at_path, is_of, group, others, arranged, turns_taken, settle, settled, settle_all, first, run, made_touchable, chosen}
use Rattle.jade_meaning.specs.Doing.{Doing, opened}
use Rattle.schedule_core.specs.Sound.{settling}

abbrev pub ran_of : (ℕ → List Path) → ℕ → World → Ran
ran_of t x w = record { marks = settle t x w; world = settled t x w }

abbrev pub still_here : World → Ran
still_here w = record { marks = []; world = w }

-- groups that are empty
pub group_others : (x o : ℕ) (ms : List Member) → group x ms ≡ [] → group x (others o ms) ≡ []
group_others x o [] h = refl
group_others x o (m ∷ ms) h = go (is_of x m) (is_of o m) refl h (λ e. group_others x o ms e)
  where
    go : (a b : Bool) → is_of x m ≡ a → (if a then m ∷ group x ms else group x ms) ≡ [] → (group x ms ≡ [] → group x (others o ms) ≡ []) → group x (if b then others o ms else m ∷ others o ms) ≡ []
    go true b e h k = absurd (cc)
    go false true e h k = k h
    go false false e h k = ap (λ a. if a then m ∷ group x (others o ms) else group x (others o ms)) e ∙ k h

pub group_self : (o : ℕ) (ms : List Member) → group o (others o ms) ≡ []
group_self o [] = refl
group_self o (m ∷ ms) = go (is_of o m) refl (group_self o ms)
  where
    go : (b : Bool) → is_of o m ≡ b → group o (others o ms) ≡ [] → group o (if b then others o ms else m ∷ others o ms) ≡ []
    go true e k = k
    go false e k = ap (λ a. if a then m ∷ group o (others o ms) else group o (others o ms)) e ∙ k

pub others_all : (o : ℕ) (ms : List Member) → group o ms ≡ [] → others o ms ≡ ms
others_all o [] h = refl
others_all o (m ∷ ms) h = go (is_of o m) h (λ e. others_all o ms e)
  where
    go : (b : Bool) → (if b then m ∷ group o ms else group o ms) ≡ [] → (group o ms ≡ [] → others o ms ≡ ms) → (if b then others o ms else m ∷ others o ms) ≡ m ∷ ms
    go true h k = absurd (cc)
    go false h k = ap (λ z. m ∷ z) (k h)

-- events that settle nothing
pub settling_both : (es fs : List Event) → settling (es ++ fs) ≡ settling es ++ settling fs
settling_both [] fs = refl
settling_both (Take o Reading ∷ es) fs = ap (λ z. o ∷ z) (settling_both es fs)
settling_both (Take o Writing ∷ es) fs = ap (λ z. o ∷ z) (settling_both es fs)
settling_both (Take o Commuting ∷ es) fs = settling_both es fs
settling_both (Give o ∷ es) fs = settling_both es fs
settling_both (Leave o ∷ es) fs = settling_both es fs
settling_both (Shift o a ∷ es) fs = settling_both es fs
settling_both (Enter o a ∷ es) fs = settling_both es fs
settling_both (Enroll t n ∷ es) fs = settling_both es fs
settling_both (TouchRead o c v ∷ es) fs = settling_both es fs
settling_both (TouchWrite o c v ∷ es) fs = settling_both es fs
settling_both (Wants o c ∷ es) fs = settling_both es fs
settling_both (Resign b n ∷ es) fs = settling_both es fs

pub none_settles : (f : ℕ → List Event) → ((o : ℕ) → settling (f o) ≡ []) → (os : List ℕ) → settling (flat_map f os) ≡ []
none_settles f h [] = refl
none_settles f h (o ∷ os) =
    settling_both (f o) (flat_map f os) ∙ ap (λ z. z ++ settling (flat_map f os)) (h o) ∙ none_settles f h os

pub give_none : (b : Bool) (o : ℕ) → settling (when b (Give o)) ≡ []
give_none true o = refl
give_none false o = refl

enter_none : (b : Bool) (o : ℕ) (a : Rights) → settling (when b (Enter o a)) ≡ []
enter_none true o a = refl
enter_none false o a = refl

pub leave_none : (b : Bool) (o : ℕ) → settling (when b (Leave o)) ≡ []
leave_none true o = refl
leave_none false o = refl

shift_none : (old new : Rights) (o : ℕ) → settling (shift old new o) ≡ []
shift_none old new o = go (same_rights old new) (has_rights new)
  where
    go : (a b : Bool) → settling (if a then [] else (if b then Shift o new ∷ [] else Leave o ∷ [])) ≡ []
    go true b = refl
    go false true = refl
    go false false = refl

-- a Take settles its object or nothing
part_settles : (b : Bool) (m : Option Mode) (o : ℕ) (es : List Event) → (settling ((if b then take_in m o else []) ++ es) ≡ settling es) ⊎ (settling ((if b then take_in m o else []) ++ es) ≡ o ∷ settling es)
part_settles false m o es = inl refl
part_settles true None o es = inl refl
part_settles true (Some Reading) o es = inr refl
part_settles true (Some Writing) o es = inr refl
part_settles true (Some Commuting) o es = inl refl

mode_touches : (old new : Rights) → made_immediate old new ≡ true → is_immediate new.commutes ≡ false → (mode_of new ≡ Some Reading) ⊎ (mode_of new ≡ Some Writing)
mode_touches old new h e = go (is_immediate new.commutes) (is_immediate new.writes) (is_immediate new.reads) (is_immediate old.reads) (is_immediate old.writes) e h
  where
    go : (c w r r' w' : Bool) → c ≡ false → (r && not r') || (w && not w') ≡ true → ((if c then Some Commuting else (if w then Some Writing else (if r then Some Reading else None))) ≡ Some Reading) ⊎ ((if c then Some Commuting else (if w then Some Writing else (if r then Some Reading else None))) ≡ Some Writing)
    go true w r r' w' e h = absurd (cc)
    go false true r r' w' e h = inr refl
    go false false true r' w' e h = inl refl
    go false false false r' w' e h = absurd (cc)

taken_none : (old new : Specification) (h : Holds) (o : ℕ) → held h o ≡ None → taken_anew old new h o ≡ made_immediate (rights_on old o) (rights_on new o)
taken_none old new h o e =
    ap (λ x. (is_some x && not (same_hold x (mode_of (rights_on new o)))) || (is_none x && made_immediate (rights_on old o) (rights_on new o))) e

pub held_either : (F : ℕ → Option Mode) (n x i : ℕ) → ((held (map F (numbers x n)) i ≡ F (x + i)) × (i < n)) ⊎ (held (map F (numbers x n)) i ≡ None)
held_either F zero x i = inr refl
held_either F (suc n) x zero = inl (let e : x ≡ x + 0 = omega arith in ap F e, omega arith)
held_either F (suc n) x (suc i) = go (held_either F n (suc x) i)
  where
    go : ((held (map F (numbers (suc x) n)) i ≡ F (suc x + i)) × (i < n)) ⊎ (held (map F (numbers (suc x) n)) i ≡ None) → ((held (map F (numbers x (suc n))) (suc i) ≡ F (x + suc i)) × (suc i < suc n)) ⊎ (held (map F (numbers x (suc n))) (suc i) ≡ None)
    go (inl h) = inl (h.0 ∙ (let e : suc x + i ≡ x + suc i = omega arith in ap F e), let lt : i < n = h.1 in omega arith)
    go (inr h) = inr h

abbrev pub Has : ℕ → List ℕ → Type 0
Has i [] = ⊥
Has i (x ∷ xs) = (x ≡ i) ⊎ Has i xs

pub chosen_has : (f : ℕ → Bool) (n a i : ℕ) → i < n → f (a + i) ≡ true → Has (a + i) (chosen f (numbers a n))
chosen_has f zero a i lt h = absurd (omega arith)
chosen_has f (suc n) a zero lt h =
    let z : a ≡ a + 0 = omega arith in
    let e : f a ≡ true = subst (λ j. f j ≡ true) (sym z) h in
    subst (λ b. Has (a + 0) (if b then a ∷ chosen f (numbers (suc a) n) else chosen f (numbers (suc a) n))) (sym e) (inl z)
chosen_has f (suc n) a (suc i) lt h =
    let z : suc a + i ≡ a + suc i = omega arith in
    go (f a) (subst (λ j. Has j (chosen f (numbers (suc a) n))) z (chosen_has f n (suc a) i (omega arith) (subst (λ j. f j ≡ true) (sym z) h)))
  where
    go : (b : Bool) → Has (a + suc i) (chosen f (numbers (suc a) n)) → Has (a + suc i) (if b then a ∷ chosen f (numbers (suc a) n) else chosen f (numbers (suc a) n))
    go true k = inr k
    go false k = k

-- no group waits on an object that is held
abbrev pub Clear : Holds → World → Type 0
Clear h w = (o : ℕ) → is_some (held h o) ≡ true → group o w.waiting ≡ []

-- no task that commutes
abbrev pub Plain : Specification → Type 0
Plain spec = (o : ℕ) → is_immediate (rights_on spec o).commutes ≡ false

abbrev pub AllPlain : Course → Type 0
AllPlain (Reads o c on) = (v : ℤ) → AllPlain (on v)
AllPlain (Writes o c v on) = AllPlain on
AllPlain (Steps on) = AllPlain on
AllPlain (Creates child body on) = AllPlain on
AllPlain (Changes new on) = Plain new × AllPlain on
AllPlain (Ends b) = Unit {0}

module _ (t : ℕ → List Path) where
  pub all_both : (xs ys : List ℕ) (w : World) → settle_all t (xs ++ ys) w ≡ first (settle_all t xs w).marks (settle_all t ys (settle_all t xs w).world)
  all_both [] ys w = refl
  all_both (x ∷ xs) ys w =
      ap (first (settle t x w)) (all_both xs ys (settled t x w)) ∙ ap (λ ms. record { marks = ms; world = (settle_all t ys (settle_all t xs (settled t x w)).world).world }) (sym (append_assoc (settle t x w) (settle_all t xs (settled t x w)).marks (settle_all t ys (settle_all t xs (settled t x w)).world).marks))

  -- nothing to settle
  pub empty_ran : (o : ℕ) (w : World) → group o w.waiting ≡ [] → ran_of t o w ≡ still_here w
  empty_ran o w h =
      ap (λ g. record { marks = turns_taken (arranged (t o) g) w.store; world = record { store = after (turns_taken (arranged (t o) g) w.store) w.store; waiting = others o w.waiting } }) h ∙ ap (λ ms. record { marks = []; world = record { store = w.store; waiting = ms } }) (others_all o w.waiting h)

  pub again_ran : (o : ℕ) (w : World) → ran_of t o (settled t o w) ≡ still_here (settled t o w)
  again_ran o w = empty_ran o (settled t o w) (group_self o w.waiting)

  pub empty_all : (o : ℕ) (os : List ℕ) (w : World) → group o w.waiting ≡ [] → settle_all t (o ∷ os) w ≡ settle_all t os w
  empty_all o os w h = ap (λ (r : Ran). first r.marks (settle_all t os r.world)) (empty_ran o w h)

  pub stays_empty : (x : ℕ) (os : List ℕ) (w : World) → group x w.waiting ≡ [] → group x (settle_all t os w).world.waiting ≡ []
  stays_empty x [] w h = h
  stays_empty x (o ∷ os) w h = stays_empty x os (settled t o w) (group_others x o w.waiting h)

  pub gets_empty : (x : ℕ) (os : List ℕ) (w : World) → Has x os → group x (settle_all t os w).world.waiting ≡ []
  gets_empty x [] w h = absurd h
  gets_empty x (o ∷ os) w (inl e) =
      stays_empty x os (settled t o w) (subst (λ z. group z (others o w.waiting) ≡ []) e (group_self o w.waiting))
  gets_empty x (o ∷ os) w (inr h) = gets_empty x os (settled t o w) h

  -- the Takes at a change settle what the change makes immediate
  takes_settle : (old new : Specification) (h : Holds) → Plain new → (n a : ℕ) (w : World) → Clear h w → settle_all t (settling (flat_map (λ o. if taken_anew old new h o then take_in (mode_of (rights_on new o)) o else []) (numbers a n))) w ≡ settle_all t (chosen (λ o. made_immediate (rights_on old o) (rights_on new o)) (numbers a n)) w
  takes_settle old new h plain zero a w clear = refl
  takes_settle old new h plain (suc n) a w clear =
      go (held h a) refl (made_immediate (rights_on old a) (rights_on new a)) refl (λ v c. takes_settle old new h plain n (suc a) v c)
    where
      f : ℕ → Bool
      f o = made_immediate (rights_on old o) (rights_on new o)

      E : List Event
      E = flat_map (λ o. if taken_anew old new h o then take_in (mode_of (rights_on new o)) o else []) (numbers (suc a) n)

      next : Clear h (settled t a w)
      next = λ o i. group_others o a w.waiting (clear o i)

      skip_first : (os : List ℕ) → group a w.waiting ≡ [] → (os ≡ settling E) ⊎ (os ≡ a ∷ settling E) → settle_all t os w ≡ settle_all t (settling E) w
      skip_first os g (inl e) = ap (λ z. settle_all t z w) e
      skip_first os g (inr e) = ap (λ z. settle_all t z w) e ∙ empty_all a (settling E) w g

      skip_chosen : (b : Bool) → group a w.waiting ≡ [] → settle_all t (if b then a ∷ chosen f (numbers (suc a) n) else chosen f (numbers (suc a) n)) w ≡ settle_all t (chosen f (numbers (suc a) n)) w
      skip_chosen true g = empty_all a (chosen f (numbers (suc a) n)) w g
      skip_chosen false g = refl

      touch : (m : Option Mode) → (m ≡ Some Reading) ⊎ (m ≡ Some Writing) → settling ((if true then take_in m a else []) ++ E) ≡ a ∷ settling E
      touch m (inl e) = ap (λ z. settling ((if true then take_in z a else []) ++ E)) e
      touch m (inr e) = ap (λ z. settling ((if true then take_in z a else []) ++ E)) e

      go : (x : Option Mode) → held h a ≡ x → (b : Bool) → f a ≡ b → ((v : World) → Clear h v → settle_all t (settling E) v ≡ settle_all t (chosen f (numbers (suc a) n)) v) → settle_all t (settling ((if taken_anew old new h a then take_in (mode_of (rights_on new a)) a else []) ++ E)) w ≡ settle_all t (if f a then a ∷ chosen f (numbers (suc a) n) else chosen f (numbers (suc a) n)) w
      go (Some m) e b q k =
          let g = clear a (ap is_some e) in
          skip_first _ g (part_settles (taken_anew old new h a) (mode_of (rights_on new a)) a E) ∙ k w clear ∙ sym (skip_chosen (f a) g)
      go None e true q k =
          ap (λ c. settle_all t (settling ((if c then take_in (mode_of (rights_on new a)) a else []) ++ E)) w) (taken_none old new h a e ∙ q) ∙ ap (λ z. settle_all t z w) (touch (mode_of (rights_on new a)) (mode_touches (rights_on old a) (rights_on new a) q (plain a))) ∙ ap (first (settle t a w)) (k (settled t a w) next) ∙ sym (ap (λ c. settle_all t (if c then a ∷ chosen f (numbers (suc a) n) else chosen f (numbers (suc a) n)) w) q)
      go None e false q k =
          ap (λ c. settle_all t (settling ((if c then take_in (mode_of (rights_on new a)) a else []) ++ E)) w) (taken_none old new h a e ∙ q) ∙ k w clear ∙ sym (ap (λ c. settle_all t (if c then a ∷ chosen f (numbers (suc a) n) else chosen f (numbers (suc a) n)) w) q)

  -- what is left of a task that does not commute: what its pending Takes settle, and then the run of its course
  abbrev pub left_of : Path → ℕ → Doing → World → Ran
  left_of p k d w =
      let s = settle_all t (settling d.pending) w in
      first s.marks (run t p d.spec d.course k d.steps s.world)

  pub first_twice : (a b : List Mark) (r : Ran) → first (a ++ b) r ≡ first a (first b r)
  first_twice a b r = ap (λ ms. record { marks = ms; world = r.world }) (append_assoc a b r.marks)

  one_settles : (b : Bool) (m : Option Mode) (o : ℕ) → (settling (if b then take_in m o else []) ≡ []) ⊎ (settling (if b then take_in m o else []) ≡ o ∷ [])
  one_settles false m o = inl refl
  one_settles true None o = inl refl
  one_settles true (Some Reading) o = inr refl
  one_settles true (Some Writing) o = inr refl
  one_settles true (Some Commuting) o = inl refl

  -- an access settles its object itself
  access_settles : (o : ℕ) (k : World → Ran) (mark : World → Mark) (w : World) (os : List ℕ) → (os ≡ []) ⊎ (os ≡ o ∷ []) → first (settle_all t os w).marks (first (settle t o (settle_all t os w).world ++ mark (settled t o (settle_all t os w).world) ∷ []) (k (settled t o (settle_all t os w).world))) ≡ first (settle t o w ++ mark (settled t o w) ∷ []) (k (settled t o w))
  access_settles o k mark w os (inl e) =
      ap (λ z. first (settle_all t z w).marks (first (settle t o (settle_all t z w).world ++ mark (settled t o (settle_all t z w).world) ∷ []) (k (settled t o (settle_all t z w).world)))) e
  access_settles o k mark w os (inr e) =
      let x = settled t o w in
      ap (λ z. first (settle_all t z w).marks (first (settle t o (settle_all t z w).world ++ mark (settled t o (settle_all t z w).world) ∷ []) (k (settled t o (settle_all t z w).world)))) e ∙ ap (λ (r : Ran). first (settle t o w ++ []) (first (r.marks ++ mark r.world ∷ []) (k r.world))) (again_ran o w) ∙ ap (λ z. first z (first (mark x ∷ []) (k x))) (append-nil (settle t o w)) ∙ sym (first_twice (settle t o w) (mark x ∷ []) (k x))

  changed_clear : (old new : Specification) (h : Holds) (w : World) → Clear h w → Clear (changed old new h) (settle_all t (made_touchable old new) w).world
  changed_clear old new h w clear i some = go (held_either F (length new) 0 i)
    where
      F : ℕ → Option Mode
      F o = if taken_anew old new h o then mode_of (rights_on new o) else held h o

      f : ℕ → Bool
      f o = made_immediate (rights_on old o) (rights_on new o)

      there : (x : Option Mode) → held h i ≡ x → (b : Bool) → f i ≡ b → is_some (F i) ≡ true → i < length new → group i (settle_all t (made_touchable old new) w).world.waiting ≡ []
      there (Some m) e b q s lt = stays_empty i (made_touchable old new) w (clear i (ap is_some e))
      there None e true q s lt =
          let z : 0 + i ≡ i = omega arith in
          gets_empty i (made_touchable old new) w (subst (λ j. Has j (made_touchable old new)) z (chosen_has f (length new) 0 i lt (subst (λ j. f j ≡ true) (sym z) q)))
      there None e false q s lt =
          let none : F i ≡ None = ap (λ b. if b then mode_of (rights_on new i) else held h i) (taken_none old new h i e ∙ q) ∙ e in
          absurd (let no : false ≡ true = sym (ap is_some none) ∙ s in cc)

      go : ((held (map F (numbers 0 (length new))) i ≡ F (0 + i)) × (i < length new)) ⊎ (held (map F (numbers 0 (length new))) i ≡ None) → group i (settle_all t (made_touchable old new) w).world.waiting ≡ []
      go (inl h2) =
          let z : 0 + i ≡ i = omega arith in
          there (held h i) refl (f i) refl (subst (λ j. is_some (F j) ≡ true) z (sym (ap is_some h2.0) ∙ some)) h2.1
      go (inr h2) = absurd (let no : false ≡ true = sym (ap is_some h2) ∙ some in cc)

  change_settles : (old new : Specification) (h : Holds) (es : List Event) → settling ((change_gives new h ++ shifts old new ++ change_takes old new h) ++ es) ≡ settling (change_takes old new h) ++ settling es
  change_settles old new h es =
      settling_both (change_gives new h ++ shifts old new ++ change_takes old new h) es ∙ ap (λ z. z ++ settling es) (settling_both (change_gives new h ++ shifts old new) (change_takes old new h) ∙ ap (λ z. z ++ settling (change_takes old new h)) (settling_both (change_gives new h) (shifts old new) ∙ ap (λ z. z ++ settling (shifts old new)) (none_settles _ (λ o. give_none (given_back new h o) o) (objects new)) ∙ none_settles _ (λ o. shift_none (rights_on old o) (rights_on new o) o) (objects new)))

  -- the pending events and the course that begins with the next deed are the course
  pub opens : (c : Course) (spec : Specification) (h : Holds) (n : ℕ) (p : Path) (k : ℕ) (w : World) → AllPlain c → Clear h w → left_of p k (opened c spec h n) w ≡ run t p spec c k n w
  opens (Reads o c on) spec h n p k w plain clear =
      access_settles o (λ x. run t p spec (on (cell x.store o c)) k n x) (λ x. at_path p k (DidRead o c (cell x.store o c))) w (settling (first_take spec h o)) (one_settles (is_none (held h o)) (mode_of (rights_on spec o)) o)
  opens (Writes o c v on) spec h n p k w plain clear =
      access_settles o (λ x. run t p spec on k n (record x { store = with_cell x.store o c v })) (λ x. at_path p k (DidWrite o c v)) w (settling (first_take spec h o)) (one_settles (is_none (held h o)) (mode_of (rights_on spec o)) o)
  opens (Steps on) spec h n p k w plain clear = opens on spec h (suc n) p k w plain clear
  opens (Creates child body on) spec h n p k w plain clear =
      ap (λ os. first (settle_all t os w).marks (run t p spec (Creates child body on) k n (settle_all t os w).world)) (settling_both (creation_gives child h) (enters child) ∙ ap (λ z. z ++ settling (enters child)) (none_settles _ (λ o. give_none (yields (held h o) (rights_on child o)) o) (objects child)) ∙ none_settles _ (λ o. enter_none (has_rights (rights_on child o)) o (rights_on child o)) (objects child))
  opens (Changes new on) spec h n p k w plain clear =
      let d = opened on new (changed spec new h) n in
      let takes = settling (change_takes spec new h) in
      let s = settle_all t (made_touchable spec new) w in
      let r = settle_all t (settling d.pending) (settle_all t takes w).world in
      ap (λ os. first (settle_all t os w).marks (run t p d.spec d.course k d.steps (settle_all t os w).world)) (change_settles spec new h d.pending) ∙ ap (λ (x : Ran). first x.marks (run t p d.spec d.course k d.steps x.world)) (all_both takes (settling d.pending) w) ∙ first_twice (settle_all t takes w).marks r.marks (run t p d.spec d.course k d.steps r.world) ∙ ap (λ (x : Ran). first x.marks (left_of p k d x.world)) (takes_settle spec new h plain.0 (length new) 0 w clear) ∙ ap (first s.marks) (opens on new (changed spec new h) n p k s.world plain.1 (changed_clear spec new h w clear))
  opens (Ends b) spec h n p k w plain clear =
      ap (λ os. first (settle_all t os w).marks (record { marks = at_path p k (DidEnd b n) ∷ []; world = (settle_all t os w).world })) (settling_both (end_gives spec h) (end_leaves spec) ∙ ap (λ z. z ++ settling (end_leaves spec)) (none_settles _ (λ o. give_none (is_some (held h o)) o) (objects spec)) ∙ none_settles _ (λ o. leave_none (has_rights (rights_on spec o)) o) (objects spec))
