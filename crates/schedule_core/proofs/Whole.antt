-- The start, the end, and what is never stuck.
use Rattle.std.proofs.Common.{◌≡◌, ◌≢◌, ℕ, zero, suc, ◌<◌, ◌+◌, add-zero, Bool, true, false, not, ◌||◌, ◌&&◌, List, [], ◌∷◌, ◌++◌, map, length, refl, sym, ap, ◌∙◌, subst, Option, Some, None, arith, append-nil, ◌⊎◌, inl, inr}
use Rattle.std.specs.Prelude.{ℤ, nat_eq, if◌then◌else◌, is_some, slice_set, replicate}
use Rattle.std.specs.List.{cons_option}
use Rattle.std.proofs.Math.Path.{fun_ext}
use Rattle.std.proofs.lemmas.Bool.Decides.{eqb_tells}
use Rattle.jade_base.specs.Rights.{both_rights, is_there, has_rights}
use Rattle.jade_meaning.specs.Specification.{rights_on, numbers, objects, commuting_on, allows_commuting}
use Rattle.jade_base.specs.declared.rights.Mode.{Mode}
use Rattle.jade_base.specs.declared.rights.Mode.TheVariants.{Reading, Writing, Commuting}
use Rattle.jade_syntax.specs.Abstract.{AbstractProgram}
use Rattle.jade_syntax.specs.Objects.{sizes}
use Rattle.jade_meaning.specs.Course.{root_spec, root_course}
use Rattle.jade_meaning.specs.Talk.{Task, Event, Enter, Enroll, Take, TouchRead, TouchWrite, Wants, Give, Leave, Shift, Resign, start_holds}
use Rattle.jade_meaning.specs.Serial.{Mark, Path, Store, Deed, DidTurn, DidRead, DidWrite, DidCreate, DidEnd, after, done_to, marks_at, parts, with_cell, zeros}
use Rattle.jade_meaning.specs.Turns.{World, Ran, settle_all, first, run, touched_at_once, marks_by, store_by, turns_on, turn_of, Full}
use Rattle.jade_meaning.specs.Serial.{at_object}
use Rattle.schedule_core.specs.Core.{Cells, Live, State, Bare, starting_with, root_with, permitted, permitted_event, at_home, is_out}
use Rattle.jade_meaning.specs.Proper.{Proper}
use Rattle.jade_meaning.specs.Laws.{Every}
use Rattle.schedule_core.specs.Sound.{Fit, Orderly, Even, Pairs, Before, settling, awaits, left, works_on, work_on, worked, Work, Wrote, Turned}
use Rattle.schedule_core.specs.Onwards.{sees, sited, step, onwards_all}
use Rattle.schedule_core.specs.Going.{world_of, to_come, Going, SoundSo}
use Rattle.schedule_core.specs.Sorted.{in_order}
use Rattle.schedule_core.proofs.Groups.{after_both}
use Rattle.schedule_core.proofs.Orders.{same_order}
use Rattle.schedule_core.proofs.Splits.{child_runs}
use Rattle.schedule_core.proofs.Calm.{mode_commutes}
use Rattle.schedule_core.proofs.Idle.{none_commutes}
use Rattle.schedule_core.proofs.Pairs.{every_m}
use Rattle.schedule_core.proofs.Frame.{onwards_one}
use Rattle.schedule_core.proofs.Pend.{plain_left}
use Rattle.schedule_core.proofs.Opened.{none_from, plain_of, proper_plain}
use Rattle.schedule_core.proofs.Starts.{fit_start, plain_waits, plain_commutes}
use Rattle.schedule_core.proofs.Blind.{at_write, write_other}
use Rattle.schedule_core.proofs.Enroll.{all_store, run_store}
use Rattle.schedule_core.proofs.Deeds2.{opened_length}

-- nobody waits, and nothing is settled
pub settle_none : (t : ℕ → List Path) (os : List ℕ) (s : Store) → settle_all t os (record { store = s; waiting = [] }) ≡ record { marks = []; world = record { store = s; waiting = [] } }
settle_none t [] s = refl
settle_none t (o ∷ os) s = settle_none t os s

-- the content of an object is what the works on it make of it
pub at_after : (o : ℕ) (ms : List Mark) (s : Store) → at_object (after ms s) o ≡ worked (works_on o ms) (at_object s o)
at_after o [] s = refl
at_after o (m ∷ ms) s = at_after o ms (done_to m.deed s) ∙ one m.deed m.path m.children
  where
    one : (d : Deed) (q : Path) (k : ℕ) → worked (works_on o ms) (at_object (done_to d s) o) ≡ worked (cons_option (work_on o d q k) (works_on o ms)) (at_object s o)
    one (DidWrite x c v) q k = go (eqb_tells x o)
      where
        go : ((nat_eq x o ≡ true) × (x ≡ o)) ⊎ ((nat_eq x o ≡ false) × (x ≢ o)) → worked (works_on o ms) (at_object (with_cell s x c v) o) ≡ worked (cons_option (if nat_eq x o then Some (Wrote q k c v) else None) (works_on o ms)) (at_object s o)
        go (inl e) =
            subst (λ z. worked (works_on o ms) (at_object (with_cell s z c v) o) ≡ worked (works_on o ms) (slice_set (at_object s o) c v)) (sym e.1) (ap (worked (works_on o ms)) (at_write s o c v)) ∙ sym (ap (λ b. worked (cons_option (if b then Some (Wrote q k c v) else None) (works_on o ms)) (at_object s o)) e.0)
        go (inr e) =
            ap (worked (works_on o ms)) (write_other s o x c v e.1) ∙ sym (ap (λ b. worked (cons_option (if b then Some (Wrote q k c v) else None) (works_on o ms)) (at_object s o)) e.0)
    one (DidTurn x) q k = go (nat_eq x o)
      where
        go : (b : Bool) → worked (works_on o ms) (at_object s o) ≡ worked (cons_option (if b then Some (Turned q) else None) (works_on o ms)) (at_object s o)
        go true = refl
        go false = refl
    one (DidRead x c v) q k = refl
    one (DidCreate x n) q k = refl
    one (DidEnd b n) q k = refl

-- the turns are among the works
abbrev turns_of : List Work → List Path
turns_of [] = []
turns_of (Wrote q k c v ∷ ws) = turns_of ws
turns_of (Turned p ∷ ws) = p ∷ turns_of ws

turns_are : (o : ℕ) (ms : List Mark) → turns_on o ms ≡ turns_of (works_on o ms)
turns_are o [] = refl
turns_are o (m ∷ ms) = one m.deed m.path m.children (turns_are o ms)
  where
    one : (d : Deed) (q : Path) (k : ℕ) → turns_on o ms ≡ turns_of (works_on o ms) → cons_option (turn_of o d q) (turns_on o ms) ≡ turns_of (cons_option (work_on o d q k) (works_on o ms))
    one (DidTurn x) q k h = go (nat_eq x o)
      where
        go : (b : Bool) → cons_option (if b then Some q else None) (turns_on o ms) ≡ turns_of (cons_option (if b then Some (Turned q) else None) (works_on o ms))
        go true = ap (λ z. q ∷ z) h
        go false = h
    one (DidWrite x c v) q k h = go (nat_eq x o)
      where
        go : (b : Bool) → turns_on o ms ≡ turns_of (cons_option (if b then Some (Wrote q k c v) else None) (works_on o ms))
        go true = h
        go false = h
    one (DidRead x c v) q k h = h
    one (DidCreate x n) q k h = h
    one (DidEnd b n) q k h = h

module _ (p : AbstractProgram) (ns : List ℤ) (limit : ℕ) where
  abbrev size : ℕ
  size = length (sizes p.items)

  abbrev zero_store : Store
  zero_store = zeros (sizes p.items)

  abbrev root_task : Task
  root_task = record { spec = root_spec p; course = root_course p ns limit }

  length_replicate : (n : ℕ) → length (replicate n both_rights) ≡ n
  length_replicate zero = refl
  length_replicate (suc n) = ap suc (length_replicate n)

  length_zeros : (xs : List ℕ) → length (zeros xs) ≡ length xs
  length_zeros [] = refl
  length_zeros (x ∷ xs) = ap suc (length_zeros xs)

  same_store : (s : Store) → map (at_object s) (numbers 0 (length s)) ≡ s
  same_store s = go s (at_object s) 0 (λ i. let z : 0 + i ≡ i = omega arith in ap (at_object s) z)
    where
      go : (s : Store) (f : ℕ → Cells) (a : ℕ) → ((i : ℕ) → f (a + i) ≡ at_object s i) → map f (numbers a (length s)) ≡ s
      go [] f a h = refl
      go (x ∷ s) f a h =
          ap (λ z. z ∷ map f (numbers (suc a) (length s))) (sym (ap f (add-zero a)) ∙ h 0) ∙ ap (λ z. x ∷ z) (go s f (suc a) (λ i. let z : suc a + i ≡ a + suc i = omega arith in ap f z ∙ h (suc i)))

  root_none : commuting_on (root_spec p) ≡ None
  root_none = none_from (root_spec p) (objects (root_spec p)) (λ o. go size o)
    where
      go : (n o : ℕ) → is_there (rights_on (replicate n both_rights) o).commutes ≡ false
      go zero o = refl
      go (suc n) zero = refl
      go (suc n) (suc o) = go n o

  module _ (proper : Proper (root_spec p) (root_course p ns limit)) (even : Even (length (root_spec p)) (root_course p ns limit)) where
    abbrev root : Live Bare
    root = root_with root_task tt

    sees_none : (i : ℕ) (s : Store) → sees root i s ≡ s
    sees_none i [] = refl
    sees_none i (x ∷ s) = ap (λ z. x ∷ z) (sees_none (suc i) s)

    abbrev start : World
    start = record { store = zero_store; waiting = [] }

    start_world : world_of size (at_object zero_store) ≡ start
    start_world =
        ap (λ s. record { store = s; waiting = [] }) (subst (λ n. map (at_object zero_store) (numbers 0 n) ≡ zero_store) (length_zeros (sizes p.items)) (same_store zero_store))

    root_left : (t : ℕ → List Path) → left t (sited root start) ≡ run t (0 ∷ []) (root_spec p) (root_course p ns limit) 0 0 start
    root_left t =
        plain_left t (sited root start) (plain_waits (root_spec p) (root_course p ns limit) proper even root_none) (plain_commutes (root_spec p) (root_course p ns limit) proper even root_none) ∙ child_runs t (0 ∷ []) (root_spec p) (root_course p ns limit) (sited root start).place root_none (plain_of (root_spec p) root_none) (proper_plain proper (none_commutes (root_spec p) root_none)) ∙ ap (λ s. first (settle_all t (touched_at_once (root_spec p)) (record { store = s; waiting = [] })).marks (run t (0 ∷ []) (root_spec p) (root_course p ns limit) 0 0 (settle_all t (touched_at_once (root_spec p)) (record { store = s; waiting = [] })).world)) (sees_none 0 zero_store) ∙ ap (λ (r : Ran). first r.marks (run t (0 ∷ []) (root_spec p) (root_course p ns limit) 0 0 r.world)) (settle_none t (touched_at_once (root_spec p)) zero_store)

    all_to_come : (t : ℕ → List Path) → marks_by p ns limit t ≡ to_come t size (starting_with root_task tt zero_store)
    all_to_come t =
        let r = run t (0 ∷ []) (root_spec p) (root_course p ns limit) 0 0 start in
        let one : step t root start ≡ r = ap (λ (x : Ran). record { marks = x.marks; world = record { store = after x.marks zero_store; waiting = x.world.waiting } }) (root_left t) ∙ ap (λ s. record { marks = r.marks; world = record { store = s; waiting = r.world.waiting } }) (sym (run_store t (root_course p ns limit) (0 ∷ []) (root_spec p) 0 0 start)) in
        sym (ap (λ w. (onwards_all t (numbers 0 size) (root ∷ []) w).marks) start_world ∙ ap (λ (x : Ran). x.marks ++ (settle_all t (numbers 0 size) x.world).marks) (onwards_one t root start ∙ one) ∙ ap (λ n. r.marks ++ (settle_all t (numbers 0 n) r.world).marks) (sym (length_replicate size)))

    -- the start is sound
    pub start_sound : SoundSo p ns limit (starting_with root_task tt zero_store)
    start_sound = record {
      by = λ rest. record {
        deeds = λ q. ap (marks_at q) (all_to_come rest);
        works = λ o. ap (works_on o) (all_to_come rest);
        contents = λ o. refl;
        small = (record { spec = let a = opened_length proper (start_holds (root_spec p)) 0 in let e = length_replicate size in omega arith; rights = λ o h. inside size o h }, tt);
        fits = (fit_start (root_spec p) (root_course p ns limit) proper even (ap (λ z. allows_commuting z (root_spec p)) root_none) (0 ∷ []) (λ o. None) (λ o e. absurd (cc)), tt);
        apart = (tt, tt);
        before = λ o. (tt, tt);
        fresh = λ o. (λ x. refl, tt);
      };
    }
      where
        inside : (n o : ℕ) → has_rights (rights_on (replicate n both_rights) o) ≡ true → o < n
        inside zero o h = absurd (cc)
        inside (suc n) zero h = omega arith
        inside (suc n) (suc o) h = let r = inside n o h in omega arith

  -- the end
  module _ (st : State Bare) (over : st.roll ≡ []) (sound : SoundSo p ns limit st) where
    abbrev pub final_turns : ℕ → List Path
    final_turns o = turns_on o st.log

    going : Going (λ o. []) size (marks_by p ns limit final_turns) zero_store st
    going =
        subst (λ ts. Going (λ o. []) size (marks_by p ns limit ts) zero_store st) (fun_ext (λ o. append-nil (turns_on o st.log))) (sound.by (λ o. []))

    nothing : to_come (λ o. []) size st ≡ []
    nothing =
        ap (λ us. (onwards_all (λ o. []) (numbers 0 size) us (world_of size st.contents)).marks) over ∙ ap (λ (r : Ran). r.marks) (settle_none (λ o. []) (numbers 0 size) (world_of size st.contents).store)

    all_done : st.log ++ to_come (λ o. []) size st ≡ st.log
    all_done = ap (λ z. st.log ++ z) nothing ∙ append-nil st.log

    -- the marks of each task, with their parts, are those of the meaning for these turn lists
    pub end_deeds : (q : Path) → marks_at q (marks_by p ns limit final_turns) ≡ marks_at q st.log
    end_deeds q = going.deeds q ∙ ap (marks_at q) all_done

    -- and so are the steps of its parts, and their faults
    pub end_parts : (q : Path) → parts (marks_at q (marks_by p ns limit final_turns)) ≡ parts (marks_at q st.log)
    end_parts q = ap parts (end_deeds q)

    -- in one list, in the order of keys
    pub end_in_order : in_order (marks_by p ns limit final_turns) ≡ in_order st.log
    end_in_order = same_order (marks_by p ns limit final_turns) st.log end_deeds

    pub end_steps_in_order : parts (in_order (marks_by p ns limit final_turns)) ≡ parts (in_order st.log)
    end_steps_in_order = ap parts end_in_order

    end_works : (o : ℕ) → works_on o (marks_by p ns limit final_turns) ≡ works_on o st.log
    end_works o = going.works o ∙ ap (works_on o) all_done

    -- the contents are what the marks of the meaning make of zeros
    pub end_after : (o : ℕ) → st.contents o ≡ at_object (after (marks_by p ns limit final_turns) zero_store) o
    end_after o = going.contents o ∙ ap (λ ws. worked ws (at_object zero_store o)) (sym (end_works o)) ∙ sym (at_after o (marks_by p ns limit final_turns) zero_store)

    -- the turn lists are full
    pub end_full : Full p ns limit final_turns
    end_full = record { same = λ o. turns_are o (marks_by p ns limit final_turns) ∙ ap turns_of (end_works o) ∙ sym (turns_are o st.log) }

    -- and so are the contents
    pub end_contents : (o : ℕ) → st.contents o ≡ at_object (store_by p ns limit final_turns) o
    end_contents o =
        let r = run final_turns (0 ∷ []) (root_spec p) (root_course p ns limit) 0 0 (record { store = zero_store; waiting = [] }) in
        let os = objects (root_spec p) in
        let store : store_by p ns limit final_turns ≡ after (marks_by p ns limit final_turns) zero_store = all_store final_turns os r.world ∙ ap (after (settle_all final_turns os r.world).marks) (run_store final_turns (root_course p ns limit) (0 ∷ []) (root_spec p) 0 0 (record { store = zero_store; waiting = [] })) ∙ sym (after_both r.marks (settle_all final_turns os r.world).marks zero_store) in
        going.contents o ∙ ap (λ ws. worked ws (at_object zero_store o)) (sym (end_works o)) ∙ sym (at_after o (marks_by p ns limit final_turns) zero_store) ∙ ap (λ s. at_object s o) (sym store)

-- who may go on: the first live task, or the one with which the content is out that the first is to take for its turn
pub data Free (roll : List (Live Bare)) : Type 0 where
  first_free : (l : List (Live Bare)) (c : Live Bare) → roll ≡ c ∷ l → permitted [] c l ≡ true → Free roll
  holder_goes : (l b r : List (Live Bare)) (c u : Live Bare) (o : ℕ) (es : List Event) → roll ≡ c ∷ l → c.doing.pending ≡ Take o Commuting ∷ es → l ≡ b ++ (u ∷ r) → u.held o ≡ Some Commuting → permitted (c ∷ b) u r ≡ true → Free roll

-- the holder is never held up
holder_free : (c : Live Bare) → Fit c → (o : ℕ) → c.held o ≡ Some Commuting → (b l : List (Live Bare)) → permitted b c l ≡ true
holder_free c fit o h b l = go c.doing.pending (fit.last o h)
  where
    go : (es : List Event) → (settling es ≡ []) × (awaits es ≡ None) → permitted_event es b l ≡ true
    go [] k = refl
    go (Take x Reading ∷ es) k = absurd (let z : x ∷ settling es ≡ [] = k.0 in cc)
    go (Take x Writing ∷ es) k = absurd (let z : x ∷ settling es ≡ [] = k.0 in cc)
    go (Take x Commuting ∷ es) k = absurd (let z : Some x ≡ None = k.1 in cc)
    go (Give x ∷ es) k = refl
    go (Enter x a ∷ es) k = refl
    go (Shift x a ∷ es) k = refl
    go (Leave x ∷ es) k = refl
    go (Enroll x a ∷ es) k = refl
    go (TouchRead x y v ∷ es) k = refl
    go (TouchWrite x y v ∷ es) k = refl
    go (Wants x y ∷ es) k = refl
    go (Resign x y ∷ es) k = refl

-- with whom the content is out
data Holder (o : ℕ) (roll : List (Live Bare)) : Type 0 where
  holder : (b l : List (Live Bare)) (u : Live Bare) → roll ≡ b ++ (u ∷ l) → is_out (u.held o) ≡ true → Holder o roll

holder_of : (o : ℕ) (us : List (Live Bare)) → (at_home o us ≡ true) ⊎ Holder o us
holder_of o [] = inl refl
holder_of o (u ∷ us) = go (is_out (u.held o)) refl (holder_of o us)
  where
    go : (x : Bool) → is_out (u.held o) ≡ x → (at_home o us ≡ true) ⊎ Holder o us → (at_home o (u ∷ us) ≡ true) ⊎ Holder o (u ∷ us)
    go true e r = inr (holder [] us u refl e)
    go false e (inl h) = inl (ap (λ b. not b && at_home o us) e ∙ h)
    go false e (inr (holder b l v i k)) = inr (holder (u ∷ b) l v (ap (λ z. u ∷ z) i) k)

pub never_stuck : (p : AbstractProgram) (ns : List ℤ) (limit : ℕ) (st : State Bare) (c : Live Bare) (l : List (Live Bare)) → st.roll ≡ c ∷ l → SoundSo p ns limit st → Free st.roll
never_stuck p ns limit st c l roll sound = go c.doing.pending refl
  where
    g : Going (λ o. []) (length (sizes p.items)) (marks_by p ns limit (λ o. turns_on o st.log ++ [])) (zeros (sizes p.items)) st
    g = sound.by (λ o. [])

    fits : Every Fit (c ∷ l)
    fits = subst (Every Fit) roll g.fits

    goes_first : (es : List Event) → c.doing.pending ≡ es → permitted_event {G = Bare} es [] l ≡ true → Free st.roll
    goes_first es e h = first_free l c roll (subst (λ z. permitted_event {G = Bare} z [] l ≡ true) (sym e) h)

    go : (es : List Event) → c.doing.pending ≡ es → Free st.roll
    go (Take o Commuting ∷ es) e = by (holder_of o l)
      where
        by : (at_home o l ≡ true) ⊎ Holder o l → Free st.roll
        by (inl h) = goes_first (Take o Commuting ∷ es) e h
        by (inr (holder b r u i k)) =
            let fit : Fit u = every_m Fit b r u (subst (Every Fit) i fits.1) in
            let before : Before o c u = every_m (Before o c) b r u (subst (Every (Before o c)) i (subst (Pairs (Before o)) roll (g.before o)).0) in
            let held_so = commutes u fit before (u.held o) refl k in
            holder_goes l b r c u o es roll e i held_so (holder_free u fit o held_so (c ∷ b) r)
          where
            mine : is_there (c.rights o).commutes ≡ true
            mine = mode_commutes (c.rights o) (subst (λ z. Orderly c.doing.spec c.doing.plan c.doing.course z c.rights c.held) e fits.0.orderly).1

            commutes : (u : Live Bare) → Fit u → Before o c u → (m : Option Mode) → u.held o ≡ m → is_out m ≡ true → u.held o ≡ Some Commuting
            commutes u fit k None i j = absurd (cc)
            commutes u fit k (Some Reading) i j = absurd (cc)
            commutes u fit k (Some Commuting) i j = i
            commutes u fit k (Some Writing) i j = absurd (no_quiet (is_there (c.rights o).writes) (is_there (c.rights o).commutes) (is_there (c.rights o).reads) (is_some (c.versions o)) mine (k.writing i))
              where
                no_quiet : (w x r v : Bool) → x ≡ true → not (w || x) && (not r || v) ≡ true → ⊥
                no_quiet true true r v e h = absurd (cc)
                no_quiet false true r v e h = absurd (cc)
                no_quiet w false r v e h = absurd (cc)
    go [] e = goes_first [] e refl
    go (Take o Reading ∷ es) e = goes_first (Take o Reading ∷ es) e refl
    go (Take o Writing ∷ es) e = goes_first (Take o Writing ∷ es) e refl
    go (Give o ∷ es) e = goes_first (Give o ∷ es) e refl
    go (Enter o a ∷ es) e = goes_first (Enter o a ∷ es) e refl
    go (Shift o a ∷ es) e = goes_first (Shift o a ∷ es) e refl
    go (Leave o ∷ es) e = goes_first (Leave o ∷ es) e refl
    go (Enroll x n ∷ es) e = goes_first (Enroll x n ∷ es) e refl
    go (TouchRead o x v ∷ es) e = goes_first (TouchRead o x v ∷ es) e refl
    go (TouchWrite o x v ∷ es) e = goes_first (TouchWrite o x v ∷ es) e refl
    go (Wants o x ∷ es) e = goes_first (Wants o x ∷ es) e refl
    go (Resign x n ∷ es) e = goes_first (Resign x n ∷ es) e refl
