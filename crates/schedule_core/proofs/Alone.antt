-- A task alone keeps order.
use Rattle.std.proofs.Common.{◌≡◌, ℕ, zero, suc, ◌+◌, ◌<◌, ◌≤◌, ◌≢◌, Bool, true, false, not, ◌&&◌, ◌||◌, List, [], ◌∷◌, ◌++◌, map, refl, sym, ap, ◌∙◌, subst, Option, Some, None, arith, length, append-nil, append_assoc, ◌⊎◌, inl, inr, get_or-set_same, get_or-set_other, length-set}
use Rattle.std.specs.Prelude.{nat_eq, nat_lt, if◌then◌else◌, is_some, is_none, slice_set}
use Rattle.std.specs.List.{flat_map}
use Rattle.std.proofs.lemmas.Bool.Decides.{eqb_tells}
use Rattle.std.proofs.lemmas.Bool.{ltb-true, ltb-false}
use Rattle.std.proofs.lemmas.List.{get_or_past}
use Rattle.jade_base.specs.declared.rights.Rights.{Rights}
use Rattle.jade_base.specs.declared.rights.Right.{Right}
use Rattle.jade_base.specs.declared.rights.Right.TheVariants.{Absent, Deferred, Immediate}
use Rattle.jade_base.specs.Rights.{no_rights, covered, is_there, has_rights, mode_of, is_immediate, same_rights, same_right}
use Rattle.jade_meaning.specs.Specification.{Specification, rights_on, yields, same_hold, numbers, objects, covers}
use Rattle.jade_base.specs.declared.rights.Mode.{Mode}
use Rattle.jade_base.specs.declared.rights.Mode.TheVariants.{Reading, Writing, Commuting}
use Rattle.jade_meaning.specs.Course.{Course, Reads, Writes, Steps, Creates, Changes, Ends}
use Rattle.jade_base.specs.Rights.{may_read, may_write}
use Rattle.jade_base.specs.declared.report.Blame.{Blame}
use Rattle.jade_meaning.specs.Talk.{Holds, held, Event, Enter, Give, Leave, Shift, when, take_in, first_take, touched, creation_gives, enters, kept, given_back, change_gives, shift, shifts, made_immediate, taken_anew, change_takes, changed, end_gives, end_leaves}
use Rattle.jade_meaning.specs.Proper.{Proper, proper_read, proper_write, proper_step, proper_create, proper_change, proper_end}
use Rattle.schedule_core.specs.Fitting as fitting
use Rattle.schedule_core.proofs.Splits.{covers_each}
use Rattle.schedule_core.specs.Core.{put, is_out}
use Rattle.jade_meaning.specs.Doing.{opened}
use Rattle.schedule_core.specs.Sound.{Narrowed, Orderly, may, Ready, Even, Planned, Settled}
use Rattle.schedule_core.proofs.Calm.{put_either, mode_commutes}
use Rattle.schedule_core.proofs.Front.{mode_reads, mode_writes}

pub lessened_twice : (a b c : Rights) → Narrowed a b → Narrowed b c → Narrowed a c
lessened_twice a b c f g = record { reads = λ h. g.reads (f.reads h); writes = λ h. g.writes (f.writes h); commutes = λ h. g.commutes (f.commutes h) }

-- a function that is changed from old to new, below x
abbrev pub Stage : {A : Type 0} (new old : ℕ → A) (x : ℕ) (f : ℕ → A) → Type 0
Stage new old x f = (i : ℕ) → (i < x → f i ≡ new i) × (x ≤ i → f i ≡ old i)

pub stage_start : {A : Type 0} (new old f : ℕ → A) → ((i : ℕ) → f i ≡ old i) → Stage new old 0 f
stage_start new old f e i = (λ lt. absurd (omega arith), λ le. e i)

pub stage_put : {A : Type 0} (new old : ℕ → A) (x : ℕ) (f : ℕ → A) (y : A) → Stage new old x f → y ≡ new x → Stage new old (suc x) (put f x y)
stage_put new old x f y s e i =
    (λ lt. put_either (λ z. z ≡ new i) f x y i (λ q. e ∙ ap new (sym q)) (λ q. (s i).0 (omega arith)), λ le. put_either (λ z. z ≡ old i) f x y i (λ q. absurd (omega arith)) (λ q. (s i).1 (omega arith)))

pub stage_skip : {A : Type 0} (new old : ℕ → A) (x : ℕ) (f : ℕ → A) → Stage new old x f → new x ≡ old x → Stage new old (suc x) f
stage_skip {A} new old x f s e i = (λ lt. go (eqb_tells i x) lt, λ le. (s i).1 (omega arith))
  where
    go : ((nat_eq i x ≡ true) × (i ≡ x)) ⊎ ((nat_eq i x ≡ false) × (i ≢ x)) → i < suc x → f i ≡ new i
    go (inl q) lt = (s i).1 (let j : i ≡ x = q.1 in omega arith) ∙ sym (subst (λ (j : ℕ). new j ≡ old j) (sym q.1) e)
    go (inr q) lt = (s i).0 (let j : i ≢ x = q.1 in omega arith)

pub stage_end : {A : Type 0} (new old : ℕ → A) (n : ℕ) (f : ℕ → A) → Stage new old n f → ((i : ℕ) → n ≤ i → new i ≡ old i) → (i : ℕ) → f i ≡ new i
stage_end {A} new old n f s e i = go (nat_lt i n) refl
  where
    go : (b : Bool) → nat_lt i n ≡ b → f i ≡ new i
    go true q = (s i).0 (ltb-true i n q)
    go false q = (s i).1 (ltb-false i n q) ∙ sym (e i (ltb-false i n q))

next_stage : {A : Type 0} (new old : ℕ → A) (x n : ℕ) (f : ℕ → A) → Stage new old (suc x + n) f → Stage new old (x + suc n) f
next_stage new old x n f s = let e : suc x + n ≡ x + suc n = omega arith in subst (λ y. Stage new old y f) e s

last_stage : {A : Type 0} (new old : ℕ → A) (x : ℕ) (f : ℕ → A) → Stage new old x f → Stage new old (x + 0) f
last_stage new old x f s = let e : x ≡ x + 0 = omega arith in subst (λ y. Stage new old y f) e s

module _ (s : Specification) (p : Holds) (c : Course) where
  abbrev Then : {A : Type 0} (new old : ℕ → A) (x : ℕ) (F : (ℕ → A) → List Event → Type 0) (es : List Event) → Type 0
  Then {A} new old x F es = (k : ℕ → A) → Stage new old x k → F k es

  give_all : (g : ℕ → Bool) (new old : ℕ → Option Mode) → ((x : ℕ) → g x ≡ true → new x ≡ None) → ((x : ℕ) → g x ≡ false → new x ≡ old x) → ((x : ℕ) → g x ≡ true → is_some (old x) ≡ true) → (n x : ℕ) (es : List Event) (r : ℕ → Rights) (h : ℕ → Option Mode) → Stage new old x h → ((k : ℕ → Option Mode) → Stage new old (x + n) k → Orderly s p c es r k) → Orderly s p c (flat_map (λ o. when (g o) (Give o)) (numbers x n) ++ es) r h
  give_all g new old a b w zero x es r h st on = on h (last_stage new old x h st)
  give_all g new old a b w (suc n) x es r h st on =
      go (g x) refl (λ t. give_all g new old a b w n (suc x) es r (put h x None) t (λ k u. on k (next_stage new old x n k u))) (λ t. give_all g new old a b w n (suc x) es r h t (λ k u. on k (next_stage new old x n k u)))
    where
      go : (q : Bool) → g x ≡ q → (Stage new old (suc x) (put h x None) → Orderly s p c (flat_map (λ o. when (g o) (Give o)) (numbers (suc x) n) ++ es) r (put h x None)) → (Stage new old (suc x) h → Orderly s p c (flat_map (λ o. when (g o) (Give o)) (numbers (suc x) n) ++ es) r h) → Orderly s p c ((when q (Give x) ++ flat_map (λ o. when (g o) (Give o)) (numbers (suc x) n)) ++ es) r h
      go true e m k = (ap is_some ((st x).1 (omega arith)) ∙ w x e, m (stage_put new old x h None st (sym (a x e))))
      go false e m k = k (stage_skip new old x h st (b x e))

  leave_all : (a : Specification) (new old : ℕ → Rights) (h : ℕ → Option Mode) → ((x : ℕ) → has_rights (rights_on a x) ≡ true → new x ≡ no_rights) → ((x : ℕ) → has_rights (rights_on a x) ≡ false → new x ≡ old x) → ((x : ℕ) → h x ≡ None) → ((x : ℕ) → Narrowed (rights_on s x) no_rights) → ((x : ℕ) → has_rights (rights_on a x) ≡ true → has_rights (old x) ≡ true) → (n x : ℕ) (es : List Event) (r : ℕ → Rights) → Stage new old x r → ((k : ℕ → Rights) → Stage new old (x + n) k → Orderly s p c es k h) → Orderly s p c (flat_map (λ o. when (has_rights (rights_on a o)) (Leave o)) (numbers x n) ++ es) r h
  leave_all a new old h f g none less w zero x es r st on = on r (last_stage new old x r st)
  leave_all a new old h f g none less w (suc n) x es r st on =
      go (has_rights (rights_on a x)) refl (λ t. leave_all a new old h f g none less w n (suc x) es (put r x no_rights) t (λ k u. on k (next_stage new old x n k u))) (λ t. leave_all a new old h f g none less w n (suc x) es r t (λ k u. on k (next_stage new old x n k u)))
    where
      go : (q : Bool) → has_rights (rights_on a x) ≡ q → (Stage new old (suc x) (put r x no_rights) → Orderly s p c (flat_map (λ o. when (has_rights (rights_on a o)) (Leave o)) (numbers (suc x) n) ++ es) (put r x no_rights) h) → (Stage new old (suc x) r → Orderly s p c (flat_map (λ o. when (has_rights (rights_on a o)) (Leave o)) (numbers (suc x) n) ++ es) r h) → Orderly s p c ((when q (Leave x) ++ flat_map (λ o. when (has_rights (rights_on a o)) (Leave o)) (numbers (suc x) n)) ++ es) r h
      go true e m k = (none x, less x, ap has_rights ((st x).1 (omega arith)) ∙ w x e, m (stage_put new old x r no_rights st (sym (f x e))))
      go false e m k = k (stage_skip new old x r st (g x e))

  enter_all : (a : Specification) (n x : ℕ) (es : List Event) (r : ℕ → Rights) (h : ℕ → Option Mode) → ((i : ℕ) → fitting.Lessened (rights_on a i) (r i)) → Orderly s p c es r h → Orderly s p c (flat_map (λ o. when (has_rights (rights_on a o)) (Enter o (rights_on a o))) (numbers x n) ++ es) r h
  enter_all a zero x es r h w on = on
  enter_all a (suc n) x es r h w on = go (has_rights (rights_on a x)) refl (enter_all a n (suc x) es r h w on)
    where
      go : (q : Bool) → has_rights (rights_on a x) ≡ q → Orderly s p c (flat_map (λ o. when (has_rights (rights_on a o)) (Enter o (rights_on a o))) (numbers (suc x) n) ++ es) r h → Orderly s p c ((when q (Enter x (rights_on a x)) ++ flat_map (λ o. when (has_rights (rights_on a o)) (Enter o (rights_on a o))) (numbers (suc x) n)) ++ es) r h
      go true e m = (w x, e, m)
      go false e m = m

  take_one : (m : Option Mode) (o : ℕ) (es : List Event) (r : ℕ → Rights) (h : ℕ → Option Mode) (x : Option Mode) → h o ≡ None → mode_of (r o) ≡ m → ((y : Mode) → m ≡ Some y → Orderly s p c es r (put h o (Some y))) → (m ≡ None → Orderly s p c es r h) → Orderly s p c (take_in m o ++ es) r h
  take_one None o es r h x e q f g = g refl
  take_one (Some y) o es r h x e q f g = (e, q, f y refl)

  pub take_all : (g : ℕ → Bool) (a : Specification) (new old : ℕ → Option Mode) (r : ℕ → Rights) → ((x : ℕ) → r x ≡ rights_on a x) → ((x : ℕ) → g x ≡ true → (new x ≡ mode_of (rights_on a x)) × (old x ≡ None)) → ((x : ℕ) → g x ≡ false → new x ≡ old x) → (n x : ℕ) (es : List Event) (h : ℕ → Option Mode) → Stage new old x h → ((k : ℕ → Option Mode) → Stage new old (x + n) k → Orderly s p c es r k) → Orderly s p c (flat_map (λ o. if g o then take_in (mode_of (rights_on a o)) o else []) (numbers x n) ++ es) r h
  take_all g a new old r same f f' zero x es h st on = on h (last_stage new old x h st)
  take_all g a new old r same f f' (suc n) x es h st on =
      go (g x) refl (λ k t. take_all g a new old r same f f' n (suc x) es k t (λ k u. on k (next_stage new old x n k u)))
    where
      F : List Event
      F = flat_map (λ o. if g o then take_in (mode_of (rights_on a o)) o else []) (numbers (suc x) n)

      taken : (m : Option Mode) → mode_of (rights_on a x) ≡ m → g x ≡ true → ((k : ℕ → Option Mode) → Stage new old (suc x) k → Orderly s p c (flat_map (λ o. if g o then take_in (mode_of (rights_on a o)) o else []) (numbers (suc x) n) ++ es) r k) → Orderly s p c ((take_in m x ++ flat_map (λ o. if g o then take_in (mode_of (rights_on a o)) o else []) (numbers (suc x) n)) ++ es) r h
      taken None e q m = m h (stage_skip new old x h st ((f x q).0 ∙ e ∙ sym (f x q).1))
      taken (Some y) e q m =
          ((st x).1 (omega arith) ∙ (f x q).1, ap mode_of (same x) ∙ e, m (put h x (Some y)) (stage_put new old x h (Some y) st (sym e ∙ sym (f x q).0)))

      go : (q : Bool) → g x ≡ q → ((k : ℕ → Option Mode) → Stage new old (suc x) k → Orderly s p c (flat_map (λ o. if g o then take_in (mode_of (rights_on a o)) o else []) (numbers (suc x) n) ++ es) r k) → Orderly s p c (((if q then take_in (mode_of (rights_on a x)) x else []) ++ flat_map (λ o. if g o then take_in (mode_of (rights_on a o)) o else []) (numbers (suc x) n)) ++ es) r h
      go true e m = taken (mode_of (rights_on a x)) refl e m
      go false e m = m h (stage_skip new old x h st (f' x e))

  shift_all : (a b : Specification) (h : ℕ → Option Mode) → ((x : ℕ) → Narrowed (rights_on b x) (rights_on a x)) → ((x : ℕ) → may (h x) (rights_on b x) ≡ true) → ((x : ℕ) → Narrowed (rights_on s x) (rights_on b x)) → ((x : ℕ) → has_rights (rights_on b x) ≡ false → h x ≡ None) → (n x : ℕ) (es : List Event) (r : ℕ → Rights) → Stage (rights_on b) (rights_on a) x r → ((k : ℕ → Rights) → Stage (rights_on b) (rights_on a) (x + n) k → Orderly s p c es k h) → Orderly s p c (flat_map (λ o. shift (rights_on a o) (rights_on b o) o) (numbers x n) ++ es) r h
  shift_all a b h less mays bound none zero x es r st on = on r (last_stage (rights_on b) (rights_on a) x r st)
  shift_all a b h less mays bound none (suc n) x es r st on =
      go (same_rights (rights_on a x) (rights_on b x)) refl (has_rights (rights_on b x)) refl (λ k t. shift_all a b h less mays bound none n (suc x) es k t (λ k u. on k (next_stage (rights_on b) (rights_on a) x n k u)))
    where
      right_is : (i j : Right) → same_right i j ≡ true → i ≡ j
      right_is Absent Absent e = refl
      right_is Deferred Deferred e = refl
      right_is Immediate Immediate e = refl
      right_is Absent Deferred e = absurd (cc)
      right_is Absent Immediate e = absurd (cc)
      right_is Deferred Absent e = absurd (cc)
      right_is Deferred Immediate e = absurd (cc)
      right_is Immediate Absent e = absurd (cc)
      right_is Immediate Deferred e = absurd (cc)

      both : (i j : Bool) → i && j ≡ true → (i ≡ true) × (j ≡ true)
      both true true e = (refl, refl)
      both true false e = absurd (cc)
      both false j e = absurd (cc)

      same_are : (i j : Rights) → same_rights i j ≡ true → i ≡ j
      same_are i j e = let k = both (same_right i.reads j.reads && same_right i.writes j.writes) (same_right i.commutes j.commutes) e in let k2 = both (same_right i.reads j.reads) (same_right i.writes j.writes) k.0 in let u = right_is i.reads j.reads k2.0 in let v = right_is i.writes j.writes k2.1 in let w = right_is i.commutes j.commutes k.1 in ap (λ z. record { reads = z; writes = i.writes; commutes = i.commutes }) u ∙ ap (λ z. record { reads = j.reads; writes = z; commutes = i.commutes }) v ∙ ap (λ z. record { reads = j.reads; writes = j.writes; commutes = z }) w

      none_is : (i : Rights) → has_rights i ≡ false → i ≡ no_rights
      none_is i e = let a = either_left (is_there i.reads || is_there i.writes) (is_there i.commutes) e in let u : i.reads ≡ Absent = part i.reads (either_left (is_there i.reads) (is_there i.writes) a) in let v : i.writes ≡ Absent = part i.writes (either_right (is_there i.reads) (is_there i.writes) a) in let w : i.commutes ≡ Absent = part i.commutes (either_right (is_there i.reads || is_there i.writes) (is_there i.commutes) e) in ap (λ z. record { reads = z; writes = i.writes; commutes = i.commutes }) u ∙ ap (λ z. record { reads = Absent; writes = z; commutes = i.commutes }) v ∙ ap (λ z. record { reads = Absent; writes = Absent; commutes = z }) w
        where
          part : (z : Right) → is_there z ≡ false → z ≡ Absent
          part Absent e = refl
          part Deferred e = absurd (cc)
          part Immediate e = absurd (cc)

          either_left : (i j : Bool) → i || j ≡ false → i ≡ false
          either_left true j e = absurd (cc)
          either_left false j e = refl

          either_right : (i j : Bool) → i || j ≡ false → j ≡ false
          either_right true j e = absurd (cc)
          either_right false j e = e

      had : (q : Bool) → has_rights (rights_on a x) ≡ q → same_rights (rights_on a x) (rights_on b x) ≡ false → has_rights (rights_on b x) ≡ false → has_rights (rights_on a x) ≡ true
      had true e n f = e
      had false e n f =
          absurd (let z : same_rights (rights_on a x) (rights_on b x) ≡ true = ap (λ i. same_rights i (rights_on b x)) (none_is (rights_on a x) e) ∙ ap (same_rights no_rights) (none_is (rights_on b x) f) in let w : true ≡ false = sym z ∙ n in cc)

      go : (q : Bool) → same_rights (rights_on a x) (rights_on b x) ≡ q → (w : Bool) → has_rights (rights_on b x) ≡ w → ((k : ℕ → Rights) → Stage (rights_on b) (rights_on a) (suc x) k → Orderly s p c (flat_map (λ o. shift (rights_on a o) (rights_on b o) o) (numbers (suc x) n) ++ es) k h) → Orderly s p c (((if q then [] else (if w then Shift x (rights_on b x) ∷ [] else Leave x ∷ [])) ++ flat_map (λ o. shift (rights_on a o) (rights_on b o) o) (numbers (suc x) n)) ++ es) r h
      go true e w f m = m r (stage_skip (rights_on b) (rights_on a) x r st (sym (same_are (rights_on a x) (rights_on b x) e)))
      go false e true f m =
          (subst (λ z. Narrowed (rights_on b x) z) (sym ((st x).1 (omega arith))) (less x), mays x, bound x, f, m (put r x (rights_on b x)) (stage_put (rights_on b) (rights_on a) x r (rights_on b x) st refl))
      go false e false f m =
          (none x f, subst (λ z. Narrowed (rights_on s x) z) (none_is (rights_on b x) f) (bound x), ap has_rights ((st x).1 (omega arith)) ∙ had (has_rights (rights_on a x)) refl e f, m (put r x no_rights) (stage_put (rights_on b) (rights_on a) x r no_rights st (sym (none_is (rights_on b x) f))))

-- what is planned
held_past : (h : Holds) (o : ℕ) → length h ≤ o → held h o ≡ None
held_past h o le = get_or_past h o None le

length_numbers : (x n : ℕ) → length (numbers x n) ≡ n
length_numbers x zero = refl
length_numbers x (suc n) = ap suc (length_numbers (suc x) n)

pub length_map : {A B : Type 0} (f : A → B) (xs : List A) → length (map f xs) ≡ length xs
length_map f [] = refl
length_map f (x ∷ xs) = ap suc (length_map f xs)

held_numbers : (F : ℕ → Option Mode) (n x i : ℕ) → i < n → held (map F (numbers x n)) i ≡ F (x + i)
held_numbers F zero x i lt = absurd (omega arith)
held_numbers F (suc n) x zero lt = let e : x ≡ x + 0 = omega arith in ap F e
held_numbers F (suc n) x (suc i) lt = let e : suc x + i ≡ x + suc i = omega arith in held_numbers F n (suc x) i (omega arith) ∙ ap F e

sized_numbers : (F : ℕ → Option Mode) (s : Specification) → length (map F (objects s)) ≡ length s
sized_numbers F s = length_map F (objects s) ∙ length_numbers 0 (length s)

held_objects : (F : ℕ → Option Mode) (s : Specification) → ((i : ℕ) → length s ≤ i → F i ≡ None) → (i : ℕ) → held (map F (objects s)) i ≡ F i
held_objects F s past i = go (nat_lt i (length s)) refl
  where
    go : (b : Bool) → nat_lt i (length s) ≡ b → held (map F (objects s)) i ≡ F i
    go true q = let e : 0 + i ≡ i = omega arith in held_numbers F (length s) 0 i (ltb-true i (length s) q) ∙ ap F e
    go false q = let le : length s ≤ i = ltb-false i (length s) q in let n = sized_numbers F s in held_past (map F (objects s)) i (omega arith) ∙ sym (past i le)

pub held_map : (s : Specification) (i : ℕ) → held (map mode_of s) i ≡ mode_of (rights_on s i)
held_map [] i = refl
held_map (a ∷ s) zero = refl
held_map (a ∷ s) (suc i) = held_map s i

pub rights_past : (s : Specification) (o : ℕ) → length s ≤ o → rights_on s o ≡ no_rights
rights_past s o le = get_or_past s o no_rights le

held_set_same : (h : Holds) (o : ℕ) (m : Option Mode) → o < length h → held (slice_set h o m) o ≡ m
held_set_same h o m lt = get_or-set_same h o m None lt

held_set_other : (h : Holds) (o i : ℕ) (m : Option Mode) → i ≢ o → held (slice_set h o m) i ≡ held h i
held_set_other h o i m ne = get_or-set_other h o i m None ne

-- on a task that has settled with a plan, the course opens in order
pub opened_proper : (c : Course) (spec : Specification) (h : Holds) (n : ℕ) → Proper spec c → Proper (opened c spec h n).spec (opened c spec h n).course
opened_proper (Reads o c on) spec h n p = p
opened_proper (Writes o c v on) spec h n p = p
opened_proper (Steps on) spec h n (proper_step p) = opened_proper on spec h (suc n) p
opened_proper (Creates child body on) spec h n p = p
opened_proper (Changes new on) spec h n (proper_change none m p) = opened_proper on new (changed spec new h) n p
opened_proper (Ends b) spec h n p = proper_end

pub opened_less : (c : Course) (spec : Specification) (h : Holds) (n : ℕ) → Proper spec c → (o : ℕ) → Narrowed (rights_on (opened c spec h n).spec o) (rights_on spec o)
opened_less (Reads o c on) spec h n p i = record { reads = λ x. x; writes = λ x. x; commutes = λ x. x }
opened_less (Writes o c v on) spec h n p i = record { reads = λ x. x; writes = λ x. x; commutes = λ x. x }
opened_less (Steps on) spec h n (proper_step p) i = opened_less on spec h (suc n) p i
opened_less (Creates child body on) spec h n p i = record { reads = λ x. x; writes = λ x. x; commutes = λ x. x }
opened_less (Changes new on) spec h n (proper_change none m p) i =
    lessened_twice _ (rights_on new i) (rights_on spec i) (opened_less on new (changed spec new h) n p i) (record { reads = m.reads i; writes = m.writes i; commutes = m.commutes i })
opened_less (Ends b) spec h n p i = record { reads = λ x. absurd (cc); writes = λ x. absurd (cc); commutes = λ x. absurd (cc) }

pub none_rights : (i : Rights) → has_rights i ≡ false → i ≡ no_rights
none_rights i e = let a = either_left (is_there i.reads || is_there i.writes) (is_there i.commutes) e in let u : i.reads ≡ Absent = part i.reads (either_left (is_there i.reads) (is_there i.writes) a) in let v : i.writes ≡ Absent = part i.writes (either_right (is_there i.reads) (is_there i.writes) a) in let w : i.commutes ≡ Absent = part i.commutes (either_right (is_there i.reads || is_there i.writes) (is_there i.commutes) e) in ap (λ z. record { reads = z; writes = i.writes; commutes = i.commutes }) u ∙ ap (λ z. record { reads = Absent; writes = z; commutes = i.commutes }) v ∙ ap (λ z. record { reads = Absent; writes = Absent; commutes = z }) w
  where
    part : (z : Right) → is_there z ≡ false → z ≡ Absent
    part Absent e = refl
    part Deferred e = absurd (cc)
    part Immediate e = absurd (cc)

    either_left : (i j : Bool) → i || j ≡ false → i ≡ false
    either_left true j e = absurd (cc)
    either_left false j e = refl

    either_right : (i j : Bool) → i || j ≡ false → j ≡ false
    either_right true j e = absurd (cc)
    either_right false j e = e

mode_within : (spec : Specification) (o : ℕ) (m : Mode) → mode_of (rights_on spec o) ≡ Some m → o < length spec
mode_within spec o m e = go (nat_lt o (length spec)) refl
  where
    go : (b : Bool) → nat_lt o (length spec) ≡ b → o < length spec
    go true q = ltb-true o (length spec) q
    go false q = absurd (let n : rights_on spec o ≡ no_rights = rights_past spec o (ltb-false o (length spec) q) in let x : None ≡ Some m = sym (ap mode_of n) ∙ e in cc)

touch_orderly : (spec : Specification) (h : Holds) (o : ℕ) (c : Course) (r : ℕ → Rights) (hd : ℕ → Option Mode) → Settled spec h c r hd → (m : Mode) → mode_of (rights_on spec o) ≡ Some m → ((k : ℕ → Option Mode) → k o ≡ Some m → Ready k c) → Orderly spec (touched spec h o) c (first_take spec h o) r hd
touch_orderly spec h o c r hd s m e ready = go (held h o) refl
  where
    touched_is : (i : ℕ) → held (touched spec h o) i ≡ put (held h) o (Some m) i
    touched_is i = put_either (λ z. held (touched spec h o) i ≡ z) (held h) o (Some m) i (λ q. subst (λ j. held (touched spec h o) j ≡ Some m) (sym q) (held_set_same h o (mode_of (rights_on spec o)) (let lt = mode_within spec o m e in let sz = s.planned.sized in omega arith) ∙ e)) (λ ne. held_set_other h o i (mode_of (rights_on spec o)) ne)

    planned : Planned spec (touched spec h o)
    planned = record {
      sized = length-set h o (mode_of (rights_on spec o)) ∙ s.planned.sized;
      modes = λ i y q. put_either (λ z. z ≡ Some y → mode_of (rights_on spec i) ≡ Some y) (held h) o (Some m) i (λ w z. subst (λ j. mode_of (rights_on spec j) ≡ Some y) (sym w) (e ∙ z)) (λ w z. s.planned.modes i y z) (sym (touched_is i) ∙ q);
    }

    go : (x : Option Mode) → held h o ≡ x → Orderly spec (touched spec h o) c (if is_none x then take_in (mode_of (rights_on spec o)) o else []) r hd
    go None q = subst (λ y. Orderly spec (touched spec h o) c (take_in y o) r hd) (sym e) (s.holds o ∙ q, ap mode_of (s.rights o) ∙ e, (record { rights = s.rights; holds = λ i. put_either (λ z. z ≡ held (touched spec h o) i) hd o (Some m) i (λ w. sym (put_either (λ z. z ≡ Some m) (held h) o (Some m) i (λ w'. refl) (λ ne. absurd (ne w))) ∙ sym (touched_is i)) (λ ne. s.holds i ∙ sym (put_either (λ z. z ≡ held h i) (held h) o (Some m) i (λ w. absurd (ne w)) (λ ne. refl)) ∙ sym (touched_is i)); planned = planned; even = s.even }, ready (put hd o (Some m)) (put_either (λ z. z ≡ Some m) hd o (Some m) o (λ w. refl) (λ ne. absurd (ne refl)))))
    go (Some y) q = let same : Some y ≡ Some m = sym (s.planned.modes o y q) ∙ e in let here : hd o ≡ Some m = s.holds o ∙ q ∙ same in (record { rights = s.rights; holds = λ i. put_either (λ z. hd i ≡ z) (held h) o (Some m) i (λ w. subst (λ j. hd j ≡ Some m) (sym w) here) (λ ne. s.holds i) ∙ sym (touched_is i); planned = planned; even = s.even }, ready hd here)

pub immediate_mode : (a : Rights) → may_read a ≡ true → (m : Mode) × (mode_of a ≡ Some m)
immediate_mode a e = go (is_immediate a.commutes) (is_immediate a.writes) (is_immediate a.reads) refl refl refl e
  where
    go : (c w r : Bool) → is_immediate a.commutes ≡ c → is_immediate a.writes ≡ w → is_immediate a.reads ≡ r → r || c ≡ true → (m : Mode) × (mode_of a ≡ Some m)
    go true w r ec ew er h = (Commuting, ap (λ x. if x then Some Commuting else (if is_immediate a.writes then Some Writing else (if is_immediate a.reads then Some Reading else None))) ec)
    go false true r ec ew er h = (Writing, ap (λ x. if x then Some Commuting else (if is_immediate a.writes then Some Writing else (if is_immediate a.reads then Some Reading else None))) ec ∙ ap (λ x. if x then Some Writing else (if is_immediate a.reads then Some Reading else None)) ew)
    go false false true ec ew er h = (Reading, ap (λ x. if x then Some Commuting else (if is_immediate a.writes then Some Writing else (if is_immediate a.reads then Some Reading else None))) ec ∙ ap (λ x. if x then Some Writing else (if is_immediate a.reads then Some Reading else None)) ew ∙ ap (λ x. if x then Some Reading else None) er)
    go false false false ec ew er h = absurd (cc)

-- a mode in which the content is had for writing
pub writing_mode : (a : Rights) → may_write a ≡ true → (m : Mode) × (mode_of a ≡ Some m) × (is_out (Some m) ≡ true)
writing_mode a e = go (is_immediate a.commutes) (is_immediate a.writes) refl refl e
  where
    go : (c w : Bool) → is_immediate a.commutes ≡ c → is_immediate a.writes ≡ w → w || c ≡ true → (m : Mode) × (mode_of a ≡ Some m) × (is_out (Some m) ≡ true)
    go true w ec ew h = (Commuting, ap (λ x. if x then Some Commuting else (if is_immediate a.writes then Some Writing else (if is_immediate a.reads then Some Reading else None))) ec, refl)
    go false true ec ew h = (Writing, ap (λ x. if x then Some Commuting else (if is_immediate a.writes then Some Writing else (if is_immediate a.reads then Some Reading else None))) ec ∙ ap (λ x. if x then Some Writing else (if is_immediate a.reads then Some Reading else None)) ew, refl)
    go false false ec ew h = absurd (cc)

gone_if : (g : Bool) (old : Option Mode) → g ≡ true → (if g then None else old) ≡ None
gone_if g old e = ap (λ x. if x then None else old) e

stays_if : (g : Bool) (x old : Option Mode) → g ≡ false → (if g then x else old) ≡ old
stays_if g x old e = ap (λ y. if y then x else old) e

-- a child has no right to read, to change or to write that its parent has not
pub cover_lessens : (parent child : Specification) → covers parent child ≡ true → (o : ℕ) → fitting.Lessened (rights_on child o) (rights_on parent o)
cover_lessens parent child h o =
    let k = covers_each parent child h o in
    record { reads = go (rights_on parent o) (rights_on child o) k; writes = by (rights_on parent o) (rights_on child o) k; alone = at (rights_on parent o) (rights_on child o) k }
  where
    go : (a b : Rights) → covered a b ≡ true → is_there b.reads ≡ true → is_there a.reads ≡ true
    go a b = bits (is_there a.reads) (is_there b.reads) _ _
      where
        bits : (x y u v : Bool) → ((not y || x) && u) && v ≡ true → y ≡ true → x ≡ true
        bits true y u v k e = refl
        bits false true u v k e = absurd (cc)
        bits false false u v k e = absurd (cc)

    by : (a b : Rights) → covered a b ≡ true → is_there b.writes || is_there b.commutes ≡ true → is_there a.writes || is_there a.commutes ≡ true
    by a b = bits (is_there a.writes) (is_there b.writes) (is_there b.commutes) (is_there a.commutes) (is_there a.reads) _
      where
        bits : (x y c z r u : Bool) → (u && (not y || x)) && (not c || (r && x)) ≡ true → y || c ≡ true → x || z ≡ true
        bits true y c z r u k e = refl
        bits false true c z r true k e = absurd (cc)
        bits false true c z r false k e = absurd (cc)
        bits false false true z true true k e = absurd (cc)
        bits false false true z false true k e = absurd (cc)
        bits false false true z true false k e = absurd (cc)
        bits false false true z false false k e = absurd (cc)
        bits false false false z r u k e = absurd (cc)

    at : (a b : Rights) → covered a b ≡ true → is_there b.writes ≡ true → is_there a.writes ≡ true
    at a b = bits (is_there a.writes) (is_there b.writes) _ _
      where
        bits : (x y u v : Bool) → (u && (not y || x)) && v ≡ true → y ≡ true → x ≡ true
        bits true y u v k e = refl
        bits false true true v k e = absurd (cc)
        bits false true false v k e = absurd (cc)
        bits false false u v k e = absurd (cc)

holds_some : (m : Option Mode) (a : Rights) → yields m a ≡ true → is_some m ≡ true
holds_some None a e = absurd (cc)
holds_some (Some m) a e = refl

first_of : (a b : Bool) → a && b ≡ true → a ≡ true
first_of true b e = refl
first_of false b e = absurd (cc)

create_orderly : (child : Specification) (body on : Course) (spec : Specification) (h : Holds) (r : ℕ → Rights) (hd : ℕ → Option Mode) → covers spec child ≡ true → Settled spec h (Creates child body on) r hd → Orderly spec (kept child h) (Creates child body on) (creation_gives child h ++ enters child) r hd
create_orderly child body on spec h r hd cov s =
    give_all spec (kept child h) c g new (held h) (λ x e. gone_if (g x) (held h x) e) (λ x e. stays_if (g x) None (held h x) e) (λ x e. holds_some (held h x) (rights_on child x) e) (length child) 0 (enters child) r hd (stage_start new (held h) hd s.holds) (λ k st. let all = stage_end new (held h) (0 + length child) k st (λ i le. past i (omega arith)) in subst (λ es. Orderly spec (kept child h) c es r k) (append-nil (enters child)) (enter_all spec (kept child h) c child (length child) 0 [] r k (λ i. subst (fitting.Lessened (rights_on child i)) (sym (s.rights i)) (cover_lessens spec child cov i)) (record { rights = s.rights; holds = λ i. all i ∙ sym (held_objects new child (λ j le. outside j le) i); planned = record { sized = sized_numbers new child ∙ s.even.0; modes = λ i m q. s.planned.modes i m (was i m (sym (held_objects new child (λ j le. outside j le) i) ∙ q)) }; even = s.even }, λ i. ready i (k i) (all i))))
  where
    c : Course
    c = Creates child body on

    g : ℕ → Bool
    g x = yields (held h x) (rights_on child x)

    new : ℕ → Option Mode
    new x = if yields (held h x) (rights_on child x) then None else held h x

    no_way : (m : Option Mode) → yields m no_rights ≡ false
    no_way None = refl
    no_way (Some Reading) = refl
    no_way (Some Writing) = refl
    no_way (Some Commuting) = refl

    past : (i : ℕ) → length child ≤ i → (if yields (held h i) (rights_on child i) then None else held h i) ≡ held h i
    past i le = stays_if (yields (held h i) (rights_on child i)) None (held h i) (ap (yields (held h i)) (rights_past child i le) ∙ no_way (held h i))

    outside : (i : ℕ) → length child ≤ i → (if yields (held h i) (rights_on child i) then None else held h i) ≡ None
    outside i le = past i le ∙ held_past h i (let a = s.planned.sized in let b = s.even.0 in omega arith)

    was : (i : ℕ) (m : Mode) → (if yields (held h i) (rights_on child i) then None else held h i) ≡ Some m → held h i ≡ Some m
    was i m = go (yields (held h i) (rights_on child i))
      where
        go : (b : Bool) → (if b then None else held h i) ≡ Some m → held h i ≡ Some m
        go true e = absurd (cc)
        go false e = e

    ready : (i : ℕ) (x : Option Mode) → x ≡ (if yields (held h i) (rights_on child i) then None else held h i) → yields x (rights_on child i) ≡ false
    ready i x e = go (yields (held h i) (rights_on child i)) refl e
      where
        go : (b : Bool) → yields (held h i) (rights_on child i) ≡ b → x ≡ (if b then None else held h i) → yields x (rights_on child i) ≡ false
        go true q e = ap (λ z. yields z (rights_on child i)) e
        go false q e = ap (λ z. yields z (rights_on child i)) e ∙ q

end_orderly : (b : Option Blame) (spec : Specification) (h : Holds) (c : Course) (r : ℕ → Rights) (hd : ℕ → Option Mode) → Settled spec h c r hd → Orderly [] [] (Ends b) (end_gives spec h ++ end_leaves spec) r hd
end_orderly b spec h c r hd s =
    give_all [] [] (Ends b) (λ x. is_some (held h x)) none (held h) (λ x e. refl) (λ x e. sym (not_held (held h x) e)) (λ x e. e) (length spec) 0 (end_leaves spec) r hd (stage_start none (held h) hd s.holds) (λ k st. let all = stage_end none (held h) (0 + length spec) k st (λ i le. sym (held_past h i (let a = s.planned.sized in omega arith))) in subst (λ es. Orderly [] [] (Ends b) es r k) (append-nil (end_leaves spec)) (leave_all [] [] (Ends b) spec gone (rights_on spec) k (λ x e. refl) (λ x e. sym (none_rights (rights_on spec x) e)) all (λ x. record { reads = λ z. z; writes = λ z. z; commutes = λ z. z }) (λ x e. e) (length spec) 0 [] r (stage_start gone (rights_on spec) r s.rights) (λ q st'. (record { rights = stage_end gone (rights_on spec) (0 + length spec) q st' (λ i le. sym (rights_past spec i (omega arith))); holds = all; planned = record { sized = refl; modes = λ o m x. absurd (cc) }; even = tt }, tt))))
  where
    none : ℕ → Option Mode
    none x = None

    gone : ℕ → Rights
    gone x = no_rights

    not_held : (m : Option Mode) → is_some m ≡ false → m ≡ None
    not_held None e = refl
    not_held (Some m) e = absurd (cc)

same_mode_is : (i j : Option Mode) → same_hold i j ≡ true → i ≡ j
same_mode_is None None e = refl
same_mode_is (Some Reading) (Some Reading) e = refl
same_mode_is (Some Writing) (Some Writing) e = refl
same_mode_is (Some Commuting) (Some Commuting) e = refl
same_mode_is None (Some m) e = absurd (cc)
same_mode_is (Some Reading) None e = absurd (cc)
same_mode_is (Some Reading) (Some Writing) e = absurd (cc)
same_mode_is (Some Reading) (Some Commuting) e = absurd (cc)
same_mode_is (Some Writing) None e = absurd (cc)
same_mode_is (Some Writing) (Some Reading) e = absurd (cc)
same_mode_is (Some Writing) (Some Commuting) e = absurd (cc)
same_mode_is (Some Commuting) None e = absurd (cc)
same_mode_is (Some Commuting) (Some Reading) e = absurd (cc)
same_mode_is (Some Commuting) (Some Writing) e = absurd (cc)

pub mode_may : (a : Rights) (m : Mode) → mode_of a ≡ Some m → may (Some m) a ≡ true
mode_may a Reading e = mode_reads a e
mode_may a Writing e = mode_writes a e
mode_may a Commuting e = mode_commutes a e

module _ (spec new : Specification) (h : Holds) (sized : length h ≡ length spec) (even : length new ≡ length spec) where
  abbrev after_gives : ℕ → Option Mode
  after_gives x = if given_back new h x then None else held h x

  abbrev after_takes : ℕ → Option Mode
  after_takes x = if taken_anew spec new h x then mode_of (rights_on new x) else held h x

  or_left : (i j : Bool) → i || j ≡ false → i ≡ false
  or_left true j e = absurd (cc)
  or_left false j e = refl

  none_back : (i : ℕ) → held h i ≡ None → given_back new h i ≡ false
  none_back i e = ap (λ z. is_some z && not (same_hold z (mode_of (rights_on new i)))) e

  past_gives : (i : ℕ) → length new ≤ i → after_gives i ≡ held h i
  past_gives i le = stays_if (given_back new h i) None (held h i) (none_back i (held_past h i (omega arith)))

  past_takes : (i : ℕ) → length new ≤ i → after_takes i ≡ after_gives i
  past_takes i le = stays_if (taken_anew spec new h i) (mode_of (rights_on new i)) (held h i) taken ∙ sym (past_gives i le)
    where
      none : held h i ≡ None
      none = held_past h i (omega arith)

      fresh : made_immediate (rights_on spec i) (rights_on new i) ≡ false
      fresh = ap (made_immediate (rights_on spec i)) (rights_past new i le)

      taken : taken_anew spec new h i ≡ false
      taken = ap (λ z. z || (is_none (held h i) && made_immediate (rights_on spec i) (rights_on new i))) (none_back i none) ∙ ap (λ z. is_none (held h i) && z) fresh ∙ both_false (is_none (held h i))
        where
          both_false : (b : Bool) → b && false ≡ false
          both_false true = refl
          both_false false = refl

  outside_takes : (i : ℕ) → length new ≤ i → after_takes i ≡ None
  outside_takes i le = past_takes i le ∙ past_gives i le ∙ held_past h i (omega arith)

  -- what is held after the gives is held in the new mode
  kept_mode : (i : ℕ) (m : Option Mode) → held h i ≡ m → given_back new h i ≡ false → is_some m ≡ true → m ≡ mode_of (rights_on new i)
  kept_mode i None e q x = absurd (cc)
  kept_mode i (Some m) e q x = same_mode_is (Some m) (mode_of (rights_on new i)) (back (same_hold (Some m) (mode_of (rights_on new i))) (sym (ap (λ z. is_some z && not (same_hold z (mode_of (rights_on new i)))) e) ∙ q))
    where
      back : (b : Bool) → not b ≡ false → b ≡ true
      back true y = refl
      back false y = absurd (cc)

  gives_mode : (i : ℕ) → (after_gives i ≡ None) ⊎ (after_gives i ≡ mode_of (rights_on new i))
  gives_mode i = go (given_back new h i) refl (held h i) refl
    where
      go : (b : Bool) → given_back new h i ≡ b → (m : Option Mode) → held h i ≡ m → ((if b then None else held h i) ≡ None) ⊎ ((if b then None else held h i) ≡ mode_of (rights_on new i))
      go true q m e = inl refl
      go false q None e = inl e
      go false q (Some m) e = inr (e ∙ kept_mode i (Some m) e q refl)

  gives_may : (i : ℕ) (k : Option Mode) → k ≡ after_gives i → may k (rights_on new i) ≡ true
  gives_may i k e = go (gives_mode i)
    where
      go : (after_gives i ≡ None) ⊎ (after_gives i ≡ mode_of (rights_on new i)) → may k (rights_on new i) ≡ true
      go (inl q) = ap (λ z. may z (rights_on new i)) (e ∙ q)
      go (inr q) = by (mode_of (rights_on new i)) refl
        where
          by : (m : Option Mode) → mode_of (rights_on new i) ≡ m → may k (rights_on new i) ≡ true
          by None y = ap (λ z. may z (rights_on new i)) (e ∙ q ∙ y)
          by (Some m) y = ap (λ z. may z (rights_on new i)) (e ∙ q ∙ y) ∙ mode_may (rights_on new i) m y

  gives_none : (i : ℕ) → has_rights (rights_on new i) ≡ false → after_gives i ≡ None
  gives_none i none = go (gives_mode i)
    where
      go : (after_gives i ≡ None) ⊎ (after_gives i ≡ mode_of (rights_on new i)) → after_gives i ≡ None
      go (inl q) = q
      go (inr q) = q ∙ ap mode_of (none_rights (rights_on new i) none)

  taken_is : (i : ℕ) → taken_anew spec new h i ≡ true → (after_takes i ≡ mode_of (rights_on new i)) × (after_gives i ≡ None)
  taken_is i e = (ap (λ z. if z then mode_of (rights_on new i) else held h i) e, go (given_back new h i) (held h i) e)
    where
      go : (b : Bool) (m : Option Mode) → b || (is_none m && made_immediate (rights_on spec i) (rights_on new i)) ≡ true → (if b then None else m) ≡ None
      go true m q = refl
      go false None q = refl
      go false (Some m) q = absurd (cc)

  not_taken : (i : ℕ) → taken_anew spec new h i ≡ false → after_takes i ≡ after_gives i
  not_taken i e =
      stays_if (taken_anew spec new h i) (mode_of (rights_on new i)) (held h i) e ∙ sym (stays_if (given_back new h i) None (held h i) (or_left (given_back new h i) _ e))

  takes_mode : (i : ℕ) (m : Mode) → after_takes i ≡ Some m → mode_of (rights_on new i) ≡ Some m
  takes_mode i m = go (taken_anew spec new h i) refl
    where
      go : (b : Bool) → taken_anew spec new h i ≡ b → (if b then mode_of (rights_on new i) else held h i) ≡ Some m → mode_of (rights_on new i) ≡ Some m
      go true q e = e
      go false q e = sym (sym e ∙ kept_mode i (held h i) refl (or_left (given_back new h i) _ q) (ap is_some e))

pub opened_orderly : (c : Course) (spec : Specification) (h : Holds) (n : ℕ) (r : ℕ → Rights) (hd : ℕ → Option Mode) → Proper spec c → Settled spec h c r hd → Orderly (opened c spec h n).spec (opened c spec h n).plan (opened c spec h n).course (opened c spec h n).pending r hd
opened_orderly (Reads o c on) spec h n r hd (proper_read i p) s =
    let m = immediate_mode (rights_on spec o) i in
    touch_orderly spec h o (Reads o c on) r hd s m.0 m.1 (λ k e. ap is_some e)
opened_orderly (Writes o c v on) spec h n r hd (proper_write i p) s =
    let m = writing_mode (rights_on spec o) i in
    touch_orderly spec h o (Writes o c v on) r hd s m.0 m.1 (λ k e. ap is_out e ∙ m.2)
opened_orderly (Steps on) spec h n r hd (proper_step p) s =
    opened_orderly on spec h (suc n) r hd p (record { rights = s.rights; holds = s.holds; planned = s.planned; even = s.even })
opened_orderly (Creates child body on) spec h n r hd (proper_create none may cov sz p q) s = create_orderly child body on spec h r hd cov s
opened_orderly (Ends b) spec h n r hd p s = end_orderly b spec h (Ends b) r hd s
opened_orderly (Changes new on) spec h n r hd (proper_change none m p) s =
    let d = opened on new (changed spec new h) n in
    let sized = s.planned.sized in
    let even = s.even.0 in
    let g = after_gives spec new h sized even in
    let w = after_takes spec new h sized even in
    let split : change_gives new h ++ (shifts spec new ++ (change_takes spec new h ++ d.pending)) ≡ (change_gives new h ++ shifts spec new ++ change_takes spec new h) ++ d.pending = simp append_assoc in
    subst (λ es. Orderly d.spec d.plan d.course es r hd) split (give_all d.spec d.plan d.course (given_back new h) g (held h) (λ x e. gone_if (given_back new h x) (held h x) e) (λ x e. stays_if (given_back new h x) None (held h x) e) (λ x e. first_of (is_some (held h x)) _ e) (length new) 0 _ r hd (stage_start g (held h) hd s.holds) (λ k st. let all = stage_end g (held h) (0 + length new) k st (λ i le. past_gives spec new h sized even i (omega arith)) in shift_all d.spec d.plan d.course spec new k (λ x. record { reads = m.reads x; writes = m.writes x; commutes = m.commutes x }) (λ x. gives_may spec new h sized even x (k x) (all x)) (λ x. opened_less on new (changed spec new h) n p x) (λ x e. all x ∙ gives_none spec new h sized even x e) (length new) 0 _ r (stage_start (rights_on new) (rights_on spec) r s.rights) (λ q st'. let rs = stage_end (rights_on new) (rights_on spec) (0 + length new) q st' (λ i le. rights_past new i (omega arith) ∙ sym (rights_past spec i (omega arith))) in take_all d.spec d.plan d.course (taken_anew spec new h) new w g q rs (taken_is spec new h sized even) (not_taken spec new h sized even) (length new) 0 d.pending k (stage_start w g k all) (λ u st''. let us = stage_end w g (0 + length new) u st'' (λ i le. past_takes spec new h sized even i (omega arith)) in opened_orderly on new (changed spec new h) n q u p (record { rights = rs; holds = λ i. us i ∙ sym (held_objects w new (outside_takes spec new h sized even) i); planned = record { sized = sized_numbers w new; modes = λ i y e. takes_mode spec new h sized even i y (sym (held_objects w new (outside_takes spec new h sized even) i) ∙ e) }; even = subst (λ z. Even z on) (sym even) s.even.1 })))))
