-- A member that the lists name next may have its turn at once: whoever settles the group later finds the same.
use Rattle.std.proofs.Common.{◌≡◌, ◌≢◌, ℕ, zero, suc, ◌<◌, ◌+◌, add-zero, Bool, true, false, ◌||◌, List, [], ◌∷◌, ◌++◌, map, length, refl, sym, ap, ◌∙◌, subst, Option, Some, None, arith, append-nil, append_assoc, ◌⊎◌, inl, inr, get_or-set_other}
use Rattle.std.specs.Prelude.{ℤ, pos, nat_eq, nat_lt, if◌then◌else◌, slice_set, slice_index_or}
use Rattle.std.proofs.lemmas.List.{get_or_past}
use Rattle.std.proofs.lemmas.Bool.Decides.{eqb_tells}
use Rattle.std.proofs.lemmas.Bool.{ltb-true, ltb-false}
use Rattle.jade_base.specs.declared.rights.Rights.{Rights}
use Rattle.jade_base.specs.Rights.{no_rights, is_immediate}
use Rattle.jade_meaning.specs.Specification.{Specification, rights_on, numbers, commuting_on}
use Rattle.jade_meaning.specs.Course.{Course, Reads, Writes, Steps, Creates, Changes, Ends}
use Rattle.jade_meaning.specs.Serial.{Mark, Path, Store, DidTurn, DidRead, DidWrite, DidCreate, after, cell, with_cell, serial, same_path}
use Rattle.jade_meaning.specs.Turns.{Member, World, Ran, at_path, below, group, others, arranged, turn, turns_taken, settle, settled, settle_all, first, entered, joined, bared, kept_from, run, touched_at_once, made_touchable, chosen}
use Rattle.jade_meaning.specs.Serial.{at_object}
use Rattle.jade_meaning.specs.Doing.{Doing}
use Rattle.jade_meaning.specs.Laws.{Every}
use Rattle.schedule_core.specs.Sound.{From, settling}
use Rattle.schedule_core.proofs.Opens.{left_of}
use Rattle.schedule_core.proofs.Groups.{every_append, every_arranged, every_group, every_others, group_of, group_both, group_with, group_without, others_both, others_with, others_without, arranged_skip, arranged_ahead, Strange, Leaves, Spares, Aside, taken_aside, Sole, Elsewhere, after_set, after_at, after_both, taken_same, taken_leaves}

abbrev settle_ran : (ℕ → List Path) → ℕ → World → Ran
settle_ran t x w = record { marks = settle t x w; world = settled t x w }

first_both : (a b : List Mark) (r : Ran) → first (a ++ b) r ≡ first a (first b r)
first_both a b r = ap (λ ms. record { marks = ms; world = r.world }) (append_assoc a b r.marks)

every_both : {A : Type 0} (P Q : A → Type 0) (xs : List A) → Every P xs → Every Q xs → Every (λ x. P x × Q x) xs
every_both P Q [] h g = tt
every_both P Q (x ∷ xs) h g = ((h.0, g.0), every_both P Q xs h.1 g.1)

every_with : {A : Type 0} (P Q : A → Type 0) → ((x : A) → P x → Q x) → (xs : List A) → Every P xs → Every Q xs
every_with P Q f [] h = tt
every_with P Q f (x ∷ xs) h = (f x h.0, every_with P Q f xs h.1)

-- objects that are not among those touched at once
chosen_missing : (f : ℕ → Bool) (a n i : ℕ) → i < n → Every (λ x. x ≢ a + i) (chosen f (numbers a n)) → f (a + i) ≡ false
chosen_missing f a zero i lt h = absurd (omega arith)
chosen_missing f a (suc n) zero lt h = subst (λ z. f z ≡ false) (sym (add-zero a)) (go (f a) refl (subst (λ z. Every (λ x. x ≢ z) (chosen f (numbers a (suc n)))) (add-zero a) h))
  where
    go : (b : Bool) → f a ≡ b → Every (λ x. x ≢ a) (if b then a ∷ chosen f (numbers (suc a) n) else chosen f (numbers (suc a) n)) → f a ≡ false
    go true e g = absurd (g.0 refl)
    go false e g = e
chosen_missing f a (suc n) (suc i) lt h =
    let e : suc a + i ≡ a + suc i = omega arith in
    subst (λ z. f z ≡ false) e (chosen_missing f (suc a) n i (omega arith) (go (f a) (subst (λ z. Every (λ x. x ≢ z) (chosen f (numbers a (suc n)))) (sym e) h)))
  where
    go : (b : Bool) → Every (λ x. x ≢ suc a + i) (if b then a ∷ chosen f (numbers (suc a) n) else chosen f (numbers (suc a) n)) → Every (λ x. x ≢ suc a + i) (chosen f (numbers (suc a) n))
    go true g = g.1
    go false g = g

or_left : (a b : Bool) → a || b ≡ false → a ≡ false
or_left true b e = absurd (cc)
or_left false b e = refl

missing_reads : (spec : Specification) (o : ℕ) → Every (λ x. x ≢ o) (touched_at_once spec) → is_immediate (rights_on spec o).reads ≡ false
missing_reads spec o h = go (nat_lt o (length spec)) refl
  where
    go : (b : Bool) → nat_lt o (length spec) ≡ b → is_immediate (rights_on spec o).reads ≡ false
    go true e =
        let z : 0 + o ≡ o = omega arith in
        or_left _ _ (subst (λ i. is_immediate (rights_on spec i).reads || is_immediate (rights_on spec i).writes ≡ false) z (chosen_missing (λ x. is_immediate (rights_on spec x).reads || is_immediate (rights_on spec x).writes) 0 (length spec) o (ltb-true o (length spec) e) (subst (λ i. Every (λ x. x ≢ i) (touched_at_once spec)) (sym z) h)))
    go false e = ap (λ (a : Rights). is_immediate a.reads) (get_or_past spec o no_rights (ltb-false o (length spec) e))

pub kept_set : (r : ℕ → Rights) (b : ℕ) (s : Store) (i : ℕ) (ys : List ℤ) → is_immediate (r (b + i)).reads ≡ false → kept_from b r (slice_set s i ys) ≡ kept_from b r s
kept_set r b [] i ys e = refl
kept_set r b (x ∷ s) zero ys e =
    let z : is_immediate (r b).reads ≡ false = subst (λ j. is_immediate (r j).reads ≡ false) (add-zero b) e in
    ap (λ c. (if c then ys else []) ∷ kept_from (suc b) r s) z ∙ sym (ap (λ c. (if c then x else []) ∷ kept_from (suc b) r s) z)
kept_set r b (x ∷ s) (suc i) ys e =
    let j : b + suc i ≡ suc b + i = omega arith in
    ap (λ k. (if is_immediate (r b).reads then x else []) ∷ k) (kept_set r (suc b) s i ys (subst (λ z. is_immediate (r z).reads ≡ false) j e))

-- the commuting bodies of a course write their own object alone
abbrev pub BodySole : ℕ → Course → Type 0
BodySole x body = (p : Path) (kept : Store) → Sole (record { path = p; object = x; course = (bared body 0).course; steps = (bared body 0).steps; kept = kept })

abbrev pub Clean : Course → Type 0
Clean (Reads o c on) = (v : ℤ) → Clean (on v)
Clean (Writes o c v on) = Clean on
Clean (Steps on) = Clean on
Clean (Creates child body on) = ((x : ℕ) → commuting_on child ≡ Some x → BodySole x body) × (Clean body) × (Clean on)
Clean (Changes new on) = Clean on
Clean (Ends b) = Unit {0}

module _ (m : Member) (t1 t2 : ℕ → List Path) (here : t1 m.object ≡ m.path ∷ t2 m.object) (there : (x : ℕ) → x ≢ m.object → t1 x ≡ t2 x) where
  -- the path is none of those to come
  abbrev pub Fresh : Path → ℕ → Type 0
  Fresh p k = (q : Path) → From k q → same_path (p ++ q) m.path ≡ false

  fresh_on : (p : Path) (k : ℕ) → Fresh p k → Fresh p (suc k)
  fresh_on p k h [] f = h [] tt
  fresh_on p k h (j ∷ q) f = h (j ∷ q) (omega arith)

  fresh_in : (p : Path) (k : ℕ) → Fresh p k → Fresh (p ++ k ∷ []) 0
  fresh_in p k h q f = ap (λ z. same_path z m.path) (append_assoc p (k ∷ []) q) ∙ h (k ∷ q) (omega arith)

  fresh_at : (p : Path) (k : ℕ) → Fresh p k → same_path (p ++ k ∷ []) m.path ≡ false
  fresh_at p k h = h (k ∷ []) (omega arith)

  pub record Skipped (r1 r2 : Ran) : Type 0 where
    pub same : r1 ≡ r2
    pub strange : Every (Strange m.path) r2.world.waiting

  arr_skip : (x : ℕ) (g : List Member) → Every (Strange m.path) g → arranged (t1 x) g ≡ arranged (t2 x) g
  arr_skip x g h = go (eqb_tells x m.object)
    where
      go : ((nat_eq x m.object ≡ true) × (x ≡ m.object)) ⊎ ((nat_eq x m.object ≡ false) × (x ≢ m.object)) → arranged (t1 x) g ≡ arranged (t2 x) g
      go (inl e) = subst (λ z. arranged (t1 z) g ≡ arranged (t2 z) g) (sym e.1) (ap (λ ts. arranged ts g) here ∙ arranged_skip m.path (t2 m.object) g h)
      go (inr e) = ap (λ ts. arranged ts g) (there x e.1)

  ran_skip : (x : ℕ) (w : World) → Every (Strange m.path) w.waiting → Skipped (settle_ran t1 x w) (settle_ran t2 x w)
  ran_skip x w h = record {
    same = ap (λ g. record { marks = turns_taken g w.store; world = record { store = after (turns_taken g w.store) w.store; waiting = others x w.waiting } }) (arr_skip x (group x w.waiting) (every_group (Strange m.path) x w.waiting h));
    strange = every_others (Strange m.path) x w.waiting h;
  }

  pub then_skip : (r1 r2 : Ran) (k1 k2 : World → Ran) → Skipped r1 r2 → ((w : World) → Every (Strange m.path) w.waiting → Skipped (k1 w) (k2 w)) → Skipped (first r1.marks (k1 r1.world)) (first r2.marks (k2 r2.world))
  then_skip r1 r2 k1 k2 h g =
      let next = g r2.world h.strange in
      record { same = ap (λ (r : Ran). first r.marks (k1 r.world)) h.same ∙ ap (first r2.marks) next.same; strange = next.strange }

  pub first_skip : (ms : List Mark) (r1 r2 : Ran) → Skipped r1 r2 → Skipped (first ms r1) (first ms r2)
  first_skip ms r1 r2 h = record { same = ap (first ms) h.same; strange = h.strange }

  pub all_skip : (os : List ℕ) (w : World) → Every (Strange m.path) w.waiting → Skipped (settle_all t1 os w) (settle_all t2 os w)
  all_skip [] w h = record { same = refl; strange = h }
  all_skip (x ∷ os) w h =
      then_skip (settle_ran t1 x w) (settle_ran t2 x w) (settle_all t1 os) (settle_all t2 os) (ran_skip x w h) (λ v g. all_skip os v g)

  entered_skip : (x : Option ℕ) (q : Path) (child : Specification) (body : Course) (f1 f2 : World → Ran) (w : World) → same_path q m.path ≡ false → Every (Strange m.path) w.waiting → Skipped (f1 w) (f2 w) → Skipped (entered x q child body f1 w) (entered x q child body f2 w)
  entered_skip None q child body f1 f2 w e h r = r
  entered_skip (Some o) q child body f1 f2 w e h r =
      record { same = refl; strange = every_append (Strange m.path) w.waiting _ h (e, tt) }

  moved : (r1 r1' r2 r2' : Ran) → r1 ≡ r1' → r2 ≡ r2' → Skipped r1' r2' → Skipped r1 r2
  moved r1 r1' r2 r2' a b h =
      record { same = a ∙ h.same ∙ sym b; strange = subst (λ (r : Ran). Every (Strange m.path) r.world.waiting) (sym b) h.strange }

  abbrev read_then : (ℕ → List Path) → Path → Specification → (o c : ℕ) → (ℤ → Course) → (k n : ℕ) → World → Ran
  read_then t p spec o c on k n v =
      first (at_path p k (DidRead o c (cell v.store o c)) ∷ []) (run t p spec (on (cell v.store o c)) k n v)

  abbrev write_then : (ℕ → List Path) → Path → Specification → (o c : ℕ) → ℤ → Course → (k n : ℕ) → World → Ran
  write_then t p spec o c z on k n v =
      first (at_path p k (DidWrite o c z) ∷ []) (run t p spec on k n (record v { store = with_cell v.store o c z }))

  abbrev create_then : (ℕ → List Path) → Path → Specification → Specification → Course → Course → ℕ → World → Ran
  create_then t p spec child body on k v =
      let i = entered (commuting_on child) (p ++ k ∷ []) child body (λ x. run t (p ++ k ∷ []) child body 0 0 x) v in
      first i.marks (run t p spec on (suc k) 0 i.world)

  create_is : (t : ℕ → List Path) (p : Path) (spec child : Specification) (body on : Course) (k n : ℕ) (w : World) → run t p spec (Creates child body on) k n w ≡ first (at_path p k (DidCreate (record { spec = child; course = body }) n) ∷ []) (first (settle_all t (touched_at_once child) w).marks (create_then t p spec child body on k (settle_all t (touched_at_once child) w).world))
  create_is t p spec child body on k n w =
      let s = settle_all t (touched_at_once child) w in
      let i = entered (commuting_on child) (p ++ k ∷ []) child body (λ x. run t (p ++ k ∷ []) child body 0 0 x) s.world in
      let d = at_path p k (DidCreate (record { spec = child; course = body }) n) in
      ap (λ r. first (d ∷ []) r) (first_both s.marks i.marks (run t p spec on (suc k) 0 i.world))

  pub skip : (c : Course) (p : Path) (spec : Specification) (k n : ℕ) (w : World) → Fresh p k → Every (Strange m.path) w.waiting → Skipped (run t1 p spec c k n w) (run t2 p spec c k n w)
  skip (Reads o c on) p spec k n w f h =
      moved _ _ _ _ (first_both (settle t1 o w) _ _) (first_both (settle t2 o w) _ _) (then_skip (settle_ran t1 o w) (settle_ran t2 o w) (read_then t1 p spec o c on k n) (read_then t2 p spec o c on k n) (ran_skip o w h) (λ v g. first_skip (at_path p k (DidRead o c (cell v.store o c)) ∷ []) _ _ (skip (on (cell v.store o c)) p spec k n v f g)))
  skip (Writes o c z on) p spec k n w f h =
      moved _ _ _ _ (first_both (settle t1 o w) _ _) (first_both (settle t2 o w) _ _) (then_skip (settle_ran t1 o w) (settle_ran t2 o w) (write_then t1 p spec o c z on k n) (write_then t2 p spec o c z on k n) (ran_skip o w h) (λ v g. first_skip (at_path p k (DidWrite o c z) ∷ []) _ _ (skip on p spec k n (record v { store = with_cell v.store o c z }) f g)))
  skip (Steps on) p spec k n w f h = skip on p spec k (suc n) w f h
  skip (Creates child body on) p spec k n w f h =
      let q = p ++ k ∷ [] in
      moved _ _ _ _ (create_is t1 p spec child body on k n w) (create_is t2 p spec child body on k n w) (first_skip (at_path p k (DidCreate (record { spec = child; course = body }) n) ∷ []) _ _ (then_skip (settle_all t1 (touched_at_once child) w) (settle_all t2 (touched_at_once child) w) (create_then t1 p spec child body on k) (create_then t2 p spec child body on k) (all_skip (touched_at_once child) w h) (λ v g. then_skip (entered (commuting_on child) q child body (λ x. run t1 q child body 0 0 x) v) (entered (commuting_on child) q child body (λ x. run t2 q child body 0 0 x) v) (λ x. run t1 p spec on (suc k) 0 x) (λ x. run t2 p spec on (suc k) 0 x) (entered_skip (commuting_on child) q child body _ _ v (fresh_at p k f) g (skip body q child 0 0 v (fresh_in p k f) g)) (λ x i. skip on p spec (suc k) 0 x (fresh_on p k f) i))))
  skip (Changes new on) p spec k n w f h =
      then_skip (settle_all t1 (made_touchable spec new) w) (settle_all t2 (made_touchable spec new) w) (λ v. run t1 p new on k n v) (λ v. run t2 p new on k n v) (all_skip (made_touchable spec new) w h) (λ v g. skip on p new k n v f g)
  skip (Ends b) p spec k n w f h = record { same = refl; strange = h }

  -- what is left of a task that does not commute
  pub left_skip : (p : Path) (k : ℕ) (d : Doing) (w : World) → Fresh p k → Every (Strange m.path) w.waiting → Skipped (left_of t1 p k d w) (left_of t2 p k d w)
  left_skip p k d w f h =
      then_skip (settle_all t1 (settling d.pending) w) (settle_all t2 (settling d.pending) w) (λ v. run t1 p d.spec d.course k d.steps v) (λ v. run t2 p d.spec d.course k d.steps v) (all_skip (settling d.pending) w h) (λ v g. skip d.course p d.spec k d.steps v f g)

  -- what the member does at its turn, where its object holds xs; its object then holds ys
  module _ (xs ys : List ℤ) (own : same_path m.path m.path ≡ true) where
    abbrev pub its : List Mark
    its = at_path m.path 0 (DidTurn m.object) ∷ map (below m.path) (serial m.course 0 m.steps (slice_set m.kept m.object xs))

    module _ (acts : (s : Store) → at_object s m.object ≡ xs → after its s ≡ slice_set s m.object ys) where
      -- in the one world it waits, and in the other it has had its turn
      pub data Apart_by : World → World → Type 0 where
        apart_by : (s : Store) (a b : List Member) → at_object s m.object ≡ xs → Every (Strange m.path) a → Every (Strange m.path) b → Every Sole a → Every Sole b → Apart_by (record { store = s; waiting = a ++ (m ∷ b) }) (record { store = slice_set s m.object ys; waiting = a ++ b })

      -- these marks are others', and none is a work on the object
      abbrev pub Quiet : List Mark → Type 0
      Quiet ms = Leaves m.object ms × Aside m.path ms

      pub quiet_both : (xs ys : List Mark) → Quiet xs → Quiet ys → Quiet (xs ++ ys)
      quiet_both xs ys a b =
          (every_append (λ (k : Mark). Spares m.object k.deed) xs ys a.0 b.0, every_append (λ (k : Mark). same_path k.path m.path ≡ false) xs ys a.1 b.1)

      pub data Later (E : Type 0) (r1 r2 : Ran) : Type 0 where
        still : E → Quiet r1.marks → r1.marks ≡ r2.marks → Apart_by r1.world r2.world → Later E r1 r2
        done : (front back : List Mark) → Quiet front → r1.marks ≡ front ++ (its ++ back) → r2.marks ≡ front ++ back → r1.world ≡ r2.world → Every (Strange m.path) r2.world.waiting → Later E r1 r2

      pub by_store : (s s' : Store) (a b : List Member) → s' ≡ slice_set s m.object ys → at_object s m.object ≡ xs → Every (Strange m.path) a → Every (Strange m.path) b → Every Sole a → Every Sole b → (w1 w2 : List Member) → w1 ≡ a ++ (m ∷ b) → w2 ≡ a ++ b → Apart_by (record { store = s; waiting = w1 }) (record { store = s'; waiting = w2 })
      by_store s s' a b e h x y u v w1 w2 e1 e2 =
          subst (λ z. Apart_by (record { store = s; waiting = w1 }) (record { store = z; waiting = w2 })) (sym e) (subst (λ z. Apart_by (record { store = s; waiting = z }) (record { store = slice_set s m.object ys; waiting = w2 })) (sym e1) (subst (λ z. Apart_by (record { store = s; waiting = a ++ (m ∷ b) }) (record { store = slice_set s m.object ys; waiting = z })) (sym e2) (apart_by s a b h x y u v)))

      -- a group is settled
      settle_later : (x : ℕ) (w1 w2 : World) → Apart_by w1 w2 → Later (x ≢ m.object) (settle_ran t1 x w1) (settle_ran t2 x w2)
      settle_later x w1 w2 (apart_by s a b h sa sb la lb) = go (eqb_tells x m.object)
        where
          go : ((nat_eq x m.object ≡ true) × (x ≡ m.object)) ⊎ ((nat_eq x m.object ≡ false) × (x ≢ m.object)) → Later (x ≢ m.object) (settle_ran t1 x (record { store = s; waiting = a ++ (m ∷ b) })) (settle_ran t2 x (record { store = slice_set s m.object ys; waiting = a ++ b }))
          go (inl e) =
              let g = group x (a ++ b) in
              let l = arranged (t2 x) g in
              let s2 = slice_set s m.object ys in
              let order : arranged (t1 x) (group x (a ++ (m ∷ b))) ≡ m ∷ l = ap (arranged (t1 x)) (group_with x a b m (sym e.1)) ∙ ap (λ ts. arranged ts (group x a ++ (m ∷ group x b))) (subst (λ z. t1 z ≡ m.path ∷ t2 z) (sym e.1) here) ∙ arranged_ahead m.path (t2 x) (group x a) (group x b) m (every_group (Strange m.path) x a sa) own ∙ ap (λ z. m ∷ arranged (t2 x) z) (sym (group_both x a b)) in
              let turns : turn m s ≡ its = ap (λ (z : List ℤ). at_path m.path 0 (DidTurn m.object) ∷ map (below m.path) (serial m.course 0 m.steps (slice_set m.kept m.object z))) h in
              let marks : turns_taken (arranged (t1 x) (group x (a ++ (m ∷ b)))) s ≡ its ++ turns_taken l s2 = ap (λ z. turns_taken z s) order ∙ ap (λ z. z ++ turns_taken l (after z s)) turns ∙ ap (λ z. its ++ turns_taken l z) (acts s h) in
              let store : after (turns_taken (arranged (t1 x) (group x (a ++ (m ∷ b)))) s) s ≡ after (turns_taken l s2) s2 = ap (λ z. after z s) marks ∙ after_both its (turns_taken l s2) s ∙ ap (after (turns_taken l s2)) (acts s h) in
              done [] (turns_taken l s2) (tt, tt) marks refl (ap (λ z. record { store = z; waiting = others x (a ++ (m ∷ b)) }) store ∙ ap (λ z. record { store = after (turns_taken l s2) s2; waiting = z }) (others_with x a b m (sym e.1))) (every_others (Strange m.path) x (a ++ b) (every_append (Strange m.path) a b sa sb))
          go (inr e) =
              let ne = λ (i : m.object ≡ x). e.1 (sym i) in
              let l = arranged (t2 x) (group x (a ++ b)) in
              let order : arranged (t1 x) (group x (a ++ (m ∷ b))) ≡ l = ap (λ ts. arranged ts (group x (a ++ (m ∷ b)))) (there x e.1) ∙ ap (arranged (t2 x)) (group_without x a b m ne) in
              let all : Every (Elsewhere m.object) l = every_arranged (Elsewhere m.object) (t2 x) (group x (a ++ b)) (every_with (λ q. (q.object ≡ x) × Sole q) (Elsewhere m.object) (λ q i. (λ j. e.1 (sym i.0 ∙ j), i.1)) (group x (a ++ b)) (every_both (λ q. q.object ≡ x) Sole (group x (a ++ b)) (group_of x (a ++ b)) (every_group Sole x (a ++ b) (every_append Sole a b la lb)))) in
              let same : turns_taken l (slice_set s m.object ys) ≡ turns_taken l s = taken_same m.object ys l s all in
              let left = taken_leaves m.object l s all in
              let first_is : turns_taken (arranged (t1 x) (group x (a ++ (m ∷ b)))) s ≡ turns_taken l s = ap (λ z. turns_taken z s) order in
              let strange = every_arranged (Strange m.path) (t2 x) (group x (a ++ b)) (every_group (Strange m.path) x (a ++ b) (every_append (Strange m.path) a b sa sb)) in
              let soles = every_arranged Sole (t2 x) (group x (a ++ b)) (every_group Sole x (a ++ b) (every_append Sole a b la lb)) in
              still e.1 (subst Quiet (sym first_is) (left, taken_aside m.path l s soles strange)) (first_is ∙ sym same) (by_store (after (turns_taken (arranged (t1 x) (group x (a ++ (m ∷ b)))) s) s) (after (turns_taken l (slice_set s m.object ys)) (slice_set s m.object ys)) (others x a) (others x b) (ap (λ z. after z (slice_set s m.object ys)) same ∙ after_set m.object ys (turns_taken l s) s left ∙ ap (λ z. slice_set (after z s) m.object ys) (sym first_is)) (ap (λ z. at_object (after z s) m.object) first_is ∙ after_at m.object (turns_taken l s) s left ∙ h) (every_others (Strange m.path) x a sa) (every_others (Strange m.path) x b sb) (every_others Sole x a la) (every_others Sole x b lb) (others x (a ++ (m ∷ b))) (others x (a ++ b)) (others_without x a b m ne) (others_both x a b))

      pub first_later : {E : Type 0} (ms : List Mark) (r1 r2 : Ran) → Quiet ms → Later E r1 r2 → Later E (first ms r1) (first ms r2)
      first_later ms r1 r2 q (still e z i r) = still e (quiet_both ms r1.marks q z) (ap (λ z. ms ++ z) i) r
      first_later ms r1 r2 q (done front back z e1 e2 w g) =
          done (ms ++ front) back (quiet_both ms front q z) (ap (λ z. ms ++ z) e1 ∙ sym (append_assoc ms front (its ++ back))) (ap (λ z. ms ++ z) e2 ∙ sym (append_assoc ms front back)) w g

      -- and then
      pub then_later : {E F : Type 0} (r1 r2 : Ran) (k1 k2 : World → Ran) → Later E r1 r2 → (E → (v w : World) → Apart_by v w → Later F (k1 v) (k2 w)) → ((w : World) → Every (Strange m.path) w.waiting → Skipped (k1 w) (k2 w)) → Later F (first r1.marks (k1 r1.world)) (first r2.marks (k2 r2.world))
      then_later {F = F} r1 r2 k1 k2 (still e q i r) go skips =
          subst (λ z. Later F (first z (k1 r1.world)) (first r2.marks (k2 r2.world))) (sym i) (first_later r2.marks (k1 r1.world) (k2 r2.world) (subst Quiet i q) (go e r1.world r2.world r))
      then_later {F = F} r1 r2 k1 k2 (done front back q e1 e2 w g) go skips =
          let next = skips r2.world g in
          let k = (k2 r2.world).marks in
          let same : k1 r1.world ≡ k2 r2.world = ap k1 w ∙ next.same in
          done front (back ++ k) q (ap (λ z. z ++ (k1 r1.world).marks) e1 ∙ ap (λ (z : Ran). (front ++ (its ++ back)) ++ z.marks) same ∙ append_assoc front (its ++ back) k ∙ ap (λ z. front ++ z) (append_assoc its back k)) (ap (λ z. z ++ k) e2 ∙ append_assoc front back k) (ap (λ (z : Ran). z.world) same) next.strange

      abbrev pub Else : List ℕ → Type 0
      Else os = Every (λ x. x ≢ m.object) os

      later_with : {E F : Type 0} (r1 r2 : Ran) → (E → F) → Later E r1 r2 → Later F r1 r2
      later_with r1 r2 f (still e q i r) = still (f e) q i r
      later_with r1 r2 f (done front back q e1 e2 w g) = done front back q e1 e2 w g

      pub all_later : (os : List ℕ) (w1 w2 : World) → Apart_by w1 w2 → Later (Else os) (settle_all t1 os w1) (settle_all t2 os w2)
      all_later [] w1 w2 h = still tt (tt, tt) refl h
      all_later (x ∷ os) w1 w2 h =
          then_later {E = x ≢ m.object} {F = Else (x ∷ os)} (settle_ran t1 x w1) (settle_ran t2 x w2) (settle_all t1 os) (settle_all t2 os) (settle_later x w1 w2 h) (λ ne v w g. later_with {E = Else os} {F = Else (x ∷ os)} (settle_all t1 os v) (settle_all t2 os w) (λ r. (ne, r)) (all_later os v w g)) (λ w g. all_skip os w g)

      cell_same : (x c : ℕ) (v w : World) → x ≢ m.object → Apart_by v w → cell v.store x c ≡ cell w.store x c
      cell_same x c v w ne (apart_by s a b h sa sb la lb) =
          ap (λ (l : List ℤ). slice_index_or l c (pos 0)) (sym (get_or-set_other s m.object x ys [] ne))

      write_later : (x c : ℕ) (z : ℤ) (v w : World) → x ≢ m.object → Apart_by v w → Apart_by (record v { store = with_cell v.store x c z }) (record w { store = with_cell w.store x c z })
      write_later x c z v w ne (apart_by s a b h sa sb la lb) =
          let d = at_path m.path 0 (DidWrite x c z) in
          by_store (with_cell s x c z) (with_cell (slice_set s m.object ys) x c z) a b (after_set m.object ys (d ∷ []) s (ne, tt)) (after_at m.object (d ∷ []) s (ne, tt) ∙ h) sa sb la lb (a ++ (m ∷ b)) (a ++ b) refl refl

      pub join_later : (q : Path) (y : ℕ) (r : ℕ → Rights) (body : Course) (v w : World) → is_immediate (r m.object).reads ≡ false → same_path q m.path ≡ false → BodySole y body → Apart_by v w → Apart_by (joined q y r (bared body 0) v) (joined q y r (bared body 0) w)
      join_later q y r body v w none strange sole (apart_by s a b h sa sb la lb) =
          let new : Store → Member = λ (st : Store). record { path = q; object = y; course = (bared body 0).course; steps = (bared body 0).steps; kept = kept_from 0 r st } in
          let zero_more : 0 + m.object ≡ m.object = omega arith in
          let kept : kept_from 0 r (slice_set s m.object ys) ≡ kept_from 0 r s = kept_set r 0 s m.object ys (subst (λ i. is_immediate (r i).reads ≡ false) (sym zero_more) none) in
          let same : new (slice_set s m.object ys) ≡ new s = ap (λ (l : Store). record { path = q; object = y; course = (bared body 0).course; steps = (bared body 0).steps; kept = l }) kept in
          by_store s (slice_set s m.object ys) a (b ++ new s ∷ []) refl h sa (every_append (Strange m.path) b (new s ∷ []) sb (strange, tt)) la (every_append Sole b (new s ∷ []) lb (sole q (kept_from 0 r s), tt)) ((a ++ (m ∷ b)) ++ new s ∷ []) ((a ++ b) ++ new (slice_set s m.object ys) ∷ []) (append_assoc a (m ∷ b) (new s ∷ [])) (ap (λ z. (a ++ b) ++ z ∷ []) same ∙ append_assoc a b (new s ∷ []))

      entered_later : (x : Option ℕ) (q : Path) (child : Specification) (body : Course) (f1 f2 : World → Ran) (v w : World) → Else (touched_at_once child) → same_path q m.path ≡ false → ((y : ℕ) → x ≡ Some y → BodySole y body) → Apart_by v w → Later (Unit {0}) (f1 v) (f2 w) → Later (Unit {0}) (entered x q child body f1 v) (entered x q child body f2 w)
      entered_later None q child body f1 f2 v w e strange sole h r = r
      entered_later (Some y) q child body f1 f2 v w e strange sole h r =
          still tt (tt, tt) refl (join_later q y (rights_on child) body v w (missing_reads child m.object e) strange (sole y refl) h)

      by_shape : (r1 r1' r2 r2' : Ran) → r1 ≡ r1' → r2 ≡ r2' → Later (Unit {0}) r1' r2' → Later (Unit {0}) r1 r2
      by_shape r1 r1' r2 r2' a b h =
          subst (λ r. Later (Unit {0}) r r2) (sym a) (subst (λ r. Later (Unit {0}) r1' r) (sym b) h)

      own_path : (p : Path) (k : ℕ) → Fresh p k → same_path p m.path ≡ false
      own_path p k f = ap (λ z. same_path z m.path) (sym (append-nil p)) ∙ f [] tt

      own_read : (p : Path) (k o c : ℕ) (v : ℤ) → Fresh p k → Quiet (at_path p k (DidRead o c v) ∷ [])
      own_read p k o c v f = ((tt, tt), (own_path p k f, tt))

      -- the member has its turn at once, or where its group is settled: what is done by the others is the same
      pub ahead : (c : Course) → Clean c → (p : Path) (spec : Specification) (k n : ℕ) (w1 w2 : World) → Fresh p k → Apart_by w1 w2 → Later (Unit {0}) (run t1 p spec c k n w1) (run t2 p spec c k n w2)
      ahead (Reads o c on) cl p spec k n w1 w2 f h =
          by_shape _ _ _ _ (first_both (settle t1 o w1) _ _) (first_both (settle t2 o w2) _ _) (then_later {E = o ≢ m.object} {F = Unit {0}} (settle_ran t1 o w1) (settle_ran t2 o w2) (read_then t1 p spec o c on k n) (read_then t2 p spec o c on k n) (settle_later o w1 w2 h) (λ ne v w g. subst (λ z. Later (Unit {0}) (read_then t1 p spec o c on k n v) (first (at_path p k (DidRead o c z) ∷ []) (run t2 p spec (on z) k n w))) (cell_same o c v w ne g) (first_later {E = Unit {0}} (at_path p k (DidRead o c (cell v.store o c)) ∷ []) _ _ (own_read p k o c (cell v.store o c) f) (ahead (on (cell v.store o c)) (cl _) p spec k n v w f g))) (λ v g. first_skip (at_path p k (DidRead o c (cell v.store o c)) ∷ []) _ _ (skip (on (cell v.store o c)) p spec k n v f g)))
      ahead (Writes o c z on) cl p spec k n w1 w2 f h =
          by_shape _ _ _ _ (first_both (settle t1 o w1) _ _) (first_both (settle t2 o w2) _ _) (then_later {E = o ≢ m.object} {F = Unit {0}} (settle_ran t1 o w1) (settle_ran t2 o w2) (write_then t1 p spec o c z on k n) (write_then t2 p spec o c z on k n) (settle_later o w1 w2 h) (λ ne v w g. first_later {E = Unit {0}} (at_path p k (DidWrite o c z) ∷ []) _ _ ((ne, tt), (own_path p k f, tt)) (ahead on cl p spec k n _ _ f (write_later o c z v w ne g))) (λ v g. first_skip (at_path p k (DidWrite o c z) ∷ []) _ _ (skip on p spec k n (record v { store = with_cell v.store o c z }) f g)))
      ahead (Steps on) cl p spec k n w1 w2 f h = ahead on cl p spec k (suc n) w1 w2 f h
      ahead (Creates child body on) cl p spec k n w1 w2 f h =
          let q = p ++ k ∷ [] in
          let d = at_path p k (DidCreate (record { spec = child; course = body }) n) in
          by_shape _ _ _ _ (create_is t1 p spec child body on k n w1) (create_is t2 p spec child body on k n w2) (first_later {E = Unit {0}} (d ∷ []) _ _ ((tt, tt), (own_path p k f, tt)) (then_later {E = Else (touched_at_once child)} {F = Unit {0}} (settle_all t1 (touched_at_once child) w1) (settle_all t2 (touched_at_once child) w2) (create_then t1 p spec child body on k) (create_then t2 p spec child body on k) (all_later (touched_at_once child) w1 w2 h) (λ e v w g. then_later {E = Unit {0}} {F = Unit {0}} (entered (commuting_on child) q child body (λ x. run t1 q child body 0 0 x) v) (entered (commuting_on child) q child body (λ x. run t2 q child body 0 0 x) w) (λ x. run t1 p spec on (suc k) 0 x) (λ x. run t2 p spec on (suc k) 0 x) (entered_later (commuting_on child) q child body _ _ v w e (fresh_at p k f) cl.0 g (ahead body cl.1 q child 0 0 v w (fresh_in p k f) g)) (λ u x y i. ahead on cl.2 p spec (suc k) 0 x y (fresh_on p k f) i) (λ x i. skip on p spec (suc k) 0 x (fresh_on p k f) i)) (λ v g. then_skip (entered (commuting_on child) q child body (λ x. run t1 q child body 0 0 x) v) (entered (commuting_on child) q child body (λ x. run t2 q child body 0 0 x) v) (λ x. run t1 p spec on (suc k) 0 x) (λ x. run t2 p spec on (suc k) 0 x) (entered_skip (commuting_on child) q child body _ _ v (fresh_at p k f) g (skip body q child 0 0 v (fresh_in p k f) g)) (λ x i. skip on p spec (suc k) 0 x (fresh_on p k f) i))))
      ahead (Changes new on) cl p spec k n w1 w2 f h =
          then_later {E = Else (made_touchable spec new)} {F = Unit {0}} (settle_all t1 (made_touchable spec new) w1) (settle_all t2 (made_touchable spec new) w2) (λ v. run t1 p new on k n v) (λ v. run t2 p new on k n v) (all_later (made_touchable spec new) w1 w2 h) (λ e v w g. ahead on cl p new k n v w f g) (λ v g. skip on p new k n v f g)
      ahead (Ends b) cl p spec k n w1 w2 f h = still tt ((tt, tt), (own_path p k f, tt)) refl h

      -- for each later task that does not commute
      pub left_later : (p : Path) (k : ℕ) (d : Doing) (w1 w2 : World) → Clean d.course → Fresh p k → Apart_by w1 w2 → Later (Unit {0}) (left_of t1 p k d w1) (left_of t2 p k d w2)
      left_later p k d w1 w2 cl f h =
          then_later {E = Else (settling d.pending)} {F = Unit {0}} (settle_all t1 (settling d.pending) w1) (settle_all t2 (settling d.pending) w2) (λ v. run t1 p d.spec d.course k d.steps v) (λ v. run t2 p d.spec d.course k d.steps v) (all_later (settling d.pending) w1 w2 h) (λ e v w g. ahead d.course cl p d.spec k d.steps v w f g) (λ v g. skip d.course p d.spec k d.steps v f g)
