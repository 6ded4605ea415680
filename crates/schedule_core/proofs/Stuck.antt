-- No core is stuck.
use Rattle.std.proofs.Common.{◌≡◌, ℕ, suc, Bool, true, false, not, ◌&&◌, ◌||◌, List, [], ◌∷◌, ◌++◌, drop, refl, sym, ap, ◌∙◌, subst, Option, Some, None, append-nil, append_assoc}
use Rattle.std.specs.Prelude.{ℤ, slice_get, is_some, is_none, if◌then◌else◌}
use Rattle.jade_base.specs.declared.rights.Rights.{Rights}
use Rattle.jade_base.specs.Rights.{is_there}
use Rattle.jade_base.specs.declared.rights.Mode.{Mode}
use Rattle.jade_base.specs.declared.rights.Mode.TheVariants.{Reading, Writing, Commuting}
use Rattle.jade_syntax.specs.declared.tree.Program.{Program}
use Rattle.jade_syntax.specs.Abstract.{AbstractProgram}
use Rattle.jade_meaning.specs.Course.{Course, Reads, Writes, Steps, Creates, Changes, Ends, root_spec, root_course}
use Rattle.jade_meaning.specs.Talk.{Event, Enter, Enroll, Take, TouchRead, TouchWrite, Wants, Give, Leave, Shift, Resign, talk}
use Rattle.jade_meaning.specs.Serial.{Path}
use Rattle.jade_meaning.specs.Turns.{turns_on}
use Rattle.jade_meaning.specs.Laws.{Every}
use Rattle.jade_meaning.specs.Proper.{Proper}
use Rattle.jade_meaning.specs.Walk.{upcoming, First, task_of}
use Rattle.jade_meaning.specs.Doing.{from_deed}
use Rattle.object_shelf.specs.declared.queue.Entry.{Entry}
use Rattle.object_shelf.specs.Shelves.{keeper_in, blocker_in, holder_in, takes_out, out_for, or_else}
use Rattle.object_shelf.specs.Views.{ObjectView}
use Rattle.schedule_core.specs.declared.steps.Seat.{Seat}
use Rattle.schedule_core.specs.Core.{Cells, touches, is_out, enters_still, handed_on}
use Rattle.schedule_core.specs.Unplaced.{Live}
use Rattle.schedule_core.specs.Sound.{Fit, Orderly, Pairs, Before, settling, awaits}
use Rattle.jade_meaning.specs.Specification.{rights_on}
use Rattle.schedule_core.specs.Plain.{free_in, blocked_at}
use Rattle.schedule_core.specs.Shown.{Sits, Seated, slot, slots, born_slots, line, shelf_at}
use Rattle.schedule_core.specs.Mirror.{GoesOn, itself, holder, CoreShows}
use Rattle.task_roll.specs.declared.note.PartNote.{PartNote}
use Rattle.schedule_core.proofs.Calm.{mode_commutes}
use Rattle.schedule_core.proofs.Pairs.{every_m}
use Rattle.schedule_core.proofs.Changing.{may_some}
use Rattle.schedule_core.proofs.Alone.{mode_may}
use Rattle.schedule_core.proofs.Queues.{Unentered}
use Rattle.schedule_core.proofs.Waits.{Waiting}
use Rattle.schedule_core.proofs.Showing.{blocked_is}
use Rattle.schedule_core.proofs.Acts.{own_only}
use Rattle.schedule_core.proofs.Mirrors.{Tidy, TidyLive, Kept, kept, sound_of, blocker_own}

abbrev pub seen_as : Path → Rights → Option Mode → Option Cells → Entry
seen_as p a m v = record { path = p; rights = a; hold = m; version = v }

-- of two lists the first entry with the content out
pub holder_both : (es fs : List Entry) → holder_in es ≡ None → holder_in (es ++ fs) ≡ holder_in fs
holder_both [] fs h = refl
holder_both (e ∷ es) fs h = go (takes_out e.hold) h (λ k. holder_both es fs k)
  where
    go : (b : Bool) → (if b then Some e else holder_in es) ≡ None → (holder_in es ≡ None → holder_in (es ++ fs) ≡ holder_in fs)
        → (if b then Some e else holder_in (es ++ fs)) ≡ holder_in fs
    go true h f = absurd (cc)
    go false h f = f h

-- a child in creation holds nothing
pub born_out : (c : Course) (o : ℕ) (t : Live) → holder_in (born_slots c o t) ≡ None
born_out (Creates child body on) o t = go (enters_still o t.doing.pending) (touches (rights_on child o))
  where
    go : (x y : Bool) → holder_in (if x then [] else (if y then seen_as (t.path ++ t.part ∷ []) (rights_on child o) None (handed_on t o) ∷ [] else [])) ≡ None
    go true y = refl
    go false true = refl
    go false false = refl
born_out (Reads p c on) o t = refl
born_out (Writes p c v on) o t = refl
born_out (Steps on) o t = refl
born_out (Changes new on) o t = refl
born_out (Ends b) o t = refl

pub slot_home : (p : Path) (a : Rights) (m : Option Mode) (v : Option Cells) → is_out m ≡ false → holder_in (slot p a m v) ≡ None
slot_home p a m v e = go (touches a)
  where
    go : (b : Bool) → holder_in (if b then seen_as p a m v ∷ [] else []) ≡ None
    go true = ap (λ z. if z then Some (seen_as p a m v) else None) e
    go false = refl

slot_out : (p : Path) (a : Rights) (m : Option Mode) (v : Option Cells) (fs : List Entry) → touches a ≡ true → is_out m ≡ true
    → holder_in (slot p a m v ++ fs) ≡ Some (seen_as p a m v)
slot_out p a m v fs x e =
    let list : Bool → List Entry = λ b. if b then seen_as p a m v ∷ [] else [] in
    ap (λ b. holder_in (list b ++ fs)) x ∙ ap (λ z. if z then Some (seen_as p a m v) else holder_in fs) e

-- the first task with which the content is out
pub data Out (o : ℕ) (roll : List Live) : Type 0 where
  home : holder_in (line o roll) ≡ None → Out o roll
  out : (b l : List Live) (u : Live) → roll ≡ b ++ (u ∷ l) → is_out (u.held o) ≡ true
      → holder_in (line o roll) ≡ Some (seen_as u.path (u.rights o) (u.held o) (u.versions o)) → Out o roll

pub out_of : (o : ℕ) (roll : List Live) → Every Fit roll → Out o roll
out_of o [] f = home refl
out_of o (u ∷ us) f = go (is_out (u.held o)) refl (out_of o us f.1)
  where
    some_held : (m : Option Mode) → is_out m ≡ true → is_some m ≡ true
    some_held None e = absurd (cc)
    some_held (Some m) e = refl

    flat : (fs : List Entry) → holder_in (slots o u ++ fs) ≡ holder_in (slot u.path (u.rights o) (u.held o) (u.versions o) ++ fs)
    flat fs = by (born_slots u.doing.course o u) (born_out u.doing.course o u)
      where
        by : (es : List Entry) → holder_in es ≡ None → holder_in ((es ++ slot u.path (u.rights o) (u.held o) (u.versions o)) ++ fs)
            ≡ holder_in (slot u.path (u.rights o) (u.held o) (u.versions o) ++ fs)
        by es e = ap holder_in (append_assoc es (slot u.path (u.rights o) (u.held o) (u.versions o)) fs) ∙ holder_both es _ e

    go : (x : Bool) → is_out (u.held o) ≡ x → Out o us → Out o (u ∷ us)
    go true e r =
        out [] us u refl e (flat (line o us) ∙ slot_out u.path (u.rights o) (u.held o) (u.versions o) (line o us) (may_some (u.held o) (u.rights o) (some_held (u.held o) e) (f.0.holds o)) e)
    go false e (home h) = home (flat (line o us) ∙ holder_both (slot u.path (u.rights o) (u.held o) (u.versions o)) (line o us) (slot_home u.path (u.rights o) (u.held o) (u.versions o) e) ∙ h)
    go false e (out b l v i k h) =
        out (u ∷ b) l v (ap (λ z. u ∷ z) i) k (flat (line o us) ∙ holder_both (slot u.path (u.rights o) (u.held o) (u.versions o)) (line o us) (slot_home u.path (u.rights o) (u.held o) (u.versions o) e) ∙ h)

-- who has the content for commuting waits for nothing
pub none_waits : (u : Live) (s : Seat) (ss : List ObjectView) (o : ℕ) → Sits s u → Fit u → u.held o ≡ Some Commuting → First (upcoming s.walker) (λ x. free_in x s.path ss ≡ true)
none_waits u s ss o sits fit h =
    subst (λ es. First es (λ e. free_in e s.path ss ≡ true)) (sym
    (ap (λ vs. drop s.walker.done (talk (task_of s.walker) vs)) (sym (append-nil s.walker.answers)) ∙ sits.known []))
    (go u.doing.pending (fit.last o h) fit.orderly)
  where
    by_course : (c : Course) → Orderly u.doing.spec u.doing.plan c [] u.rights u.held
        → First (from_deed c u.doing.spec u.doing.plan u.doing.steps []) (λ e. free_in e s.path ss ≡ true)
    by_course (Reads o c on) g = refl
    by_course (Writes o c v on) g = refl
    by_course (Creates child body on) g = refl
    by_course (Ends b) g = refl
    by_course (Steps on) g = absurd g.1
    by_course (Changes new on) g = absurd g.1

    go : (es : List Event) → (settling es ≡ []) × (awaits es ≡ None) → Orderly u.doing.spec u.doing.plan u.doing.course es u.rights u.held
        → First (es ++ from_deed u.doing.course u.doing.spec u.doing.plan u.doing.steps []) (λ e. free_in e s.path ss ≡ true)
    go [] k g = by_course u.doing.course g
    go (Take x Reading ∷ es) k g = absurd (let z : x ∷ settling es ≡ [] = k.0 in cc)
    go (Take x Writing ∷ es) k g = absurd (let z : x ∷ settling es ≡ [] = k.0 in cc)
    go (Take x Commuting ∷ es) k g = absurd (let z : Some x ≡ None = k.1 in cc)
    go (Give x ∷ es) k g = refl
    go (Enter x a ∷ es) k g = refl
    go (Shift x a ∷ es) k g = refl
    go (Leave x ∷ es) k g = refl
    go (Enroll x n ∷ es) k g = absurd g
    go (TouchRead x c v ∷ es) k g = absurd g
    go (TouchWrite x c v ∷ es) k g = absurd g
    go (Wants x c ∷ es) k g = absurd g
    go (Resign b n ∷ es) k g = absurd g

-- the seat of a task
pub record SeatOf (seats : List Seat) (u : Live) : Type 0 where
  pub place : ℕ
  pub seat : Seat
  pub here : slice_get seats place ≡ Some seat
  pub sits : Sits seat u

pub seat_of : (seats : List Seat) (b l : List Live) (u : Live) → Seated seats (b ++ (u ∷ l)) → SeatOf seats u
seat_of [] [] l u h = absurd h
seat_of [] (x ∷ b) l u h = absurd h
seat_of (s ∷ seats) [] l u h = record { place = 0; seat = s; here = refl; sits = h.0 }
seat_of (s ∷ seats) (x ∷ b) l u h = let r = seat_of seats b l u h.1 in record { place = suc r.place; seat = r.seat; here = r.here; sits = r.sits }

module _ (t : Live) (l : List Live) (s : Seat) (seats : List Seat) (ss : List ObjectView) (f : ℕ → Cells) (T : ℕ → List Path) (sits : Seated (s ∷ seats) (t ∷ l))
    (fits : Every Fit (t ∷ l)) (befores : (o : ℕ) → Pairs (Before o) (t ∷ l)) (tidy : Tidy t.doing)
    (h : (q : ℕ) → shelf_at ss q ≡ record { queue = line q (t ∷ l); content = f q; turns = T q }) where
  fit : Fit t
  fit = fits.0

  coming : upcoming s.walker ≡ t.doing.pending ++ from_deed t.doing.course t.doing.spec t.doing.plan t.doing.steps []
  coming = ap (λ vs. drop s.walker.done (talk (task_of s.walker) vs)) (sym (append-nil s.walker.answers)) ∙ sits.0.known []

  own : (P : Event → Type 0) → First (t.doing.pending ++ from_deed t.doing.course t.doing.spec t.doing.plan t.doing.steps []) P → First (upcoming s.walker) P
  own P g = subst (λ es. First es P) (sym coming) g

  order_at : (o : ℕ) (m : Mode) (es : List Event) → t.doing.pending ≡ Take o m ∷ es → Orderly t.doing.spec t.doing.plan t.doing.course (Take o m ∷ es) t.rights t.held
  order_at o m es is = subst (λ x. Orderly t.doing.spec t.doing.plan t.doing.course x t.rights t.held) is fit.orderly

  no_blocker : (o : ℕ) (m : Mode) (es : List Event) → t.doing.pending ≡ Take o m ∷ es → blocker_in s.path m (line o (t ∷ l)) ≡ None
  no_blocker o m es is =
      let order = order_at o m es is in
      let w = subst (Waiting t.doing.course) is tidy.waits in
      let x = may_some (Some m) (t.rights o) refl (mode_may (t.rights o) m order.1) in
      let un = subst (λ z. Unentered t.doing.course z o) (sym is) (w.0 o) in
      ap (λ q. blocker_in q m (line o (t ∷ l))) (sym sits.0.path) ∙ ap (λ xs. blocker_in t.path m (xs ++ line o l)) (own_only o t un)
      ∙ blocker_own t.path m (t.rights o) (t.held o) (t.versions o) (line o l) x

  keeper_so : (o : ℕ) (m : Mode) (es : List Event) → t.doing.pending ≡ Take o m ∷ es → keeper_in s.path m (shelf_at ss o).queue ≡ out_for m (line o (t ∷ l))
  keeper_so o m es is = ap (λ z. keeper_in s.path m z.queue) (h o) ∙ ap (λ x. or_else x (out_for m (line o (t ∷ l)))) (no_blocker o m es is)

  free : (o : ℕ) (m : Mode) (es : List Event) → t.doing.pending ≡ Take o m ∷ es → out_for m (line o (t ∷ l)) ≡ None → is_none (blocked_at o s.path m ss) ≡ true
  free o m es is e = ap is_none (blocked_is o s.path m ss ∙ keeper_so o m es is ∙ e)

  commuting_goes : (o : ℕ) (es : List Event) → t.doing.pending ≡ Take o Commuting ∷ es → Out o (t ∷ l) → GoesOn (s ∷ seats) ss s
  commuting_goes o es is (home e) =
      itself (own (λ e. free_in e s.path ss ≡ true) (subst (λ z. First (z ++ from_deed t.doing.course t.doing.spec t.doing.plan t.doing.steps []) (λ e. free_in e s.path ss ≡ true)) (sym is) (free o Commuting es is e)))
  commuting_goes o es is (out [] r u i k e) =
      absurd (let same : ◌≡◌ {A = List Live} (t ∷ l) (u ∷ r) = i in let v : t ≡ u = head_is t u l r same in let z : is_out (t.held o) ≡ true = subst (λ (z : Live). is_out (z.held o) ≡ true) (sym v) k in let n : is_out (t.held o) ≡ false = ap is_out (order_at o Commuting es is).0 in let c : true ≡ false = sym z ∙ n in cc)
    where
      head_is : (x y : Live) (a b : List Live) → ◌≡◌ {A = List Live} (x ∷ a) (y ∷ b) → x ≡ y
      head_is x y a b e = cc
  commuting_goes o es is (out (x ∷ b) r u i k e) =
      let rest : l ≡ b ++ (u ∷ r) = tail_is t x l (b ++ (u ∷ r)) i in
      let fit_u : Fit u = every_m Fit b r u (subst (Every Fit) rest fits.1) in
      let before : Before o t u = every_m (Before o t) b r u (subst (Every (Before o t)) rest (befores o).0) in
      let held_so = commutes u fit_u before (u.held o) refl k in
      let seat = seat_of (s ∷ seats) (x ∷ b) r u (subst (Seated (s ∷ seats)) i sits) in
      holder o seat.place seat.seat (seen_as u.path (u.rights o) (u.held o) (u.versions o)) (own (λ x. x ≡ Take o Commuting) (subst (λ z. First (z ++ from_deed t.doing.course t.doing.spec t.doing.plan t.doing.steps []) (λ x. x ≡ Take o Commuting)) (sym is) refl)) (keeper_so o Commuting es is ∙ e) seat.sits.path held_so seat.here (none_waits u seat.seat ss o seat.sits fit_u held_so)
    where
      tail_is : (x y : Live) (a b : List Live) → ◌≡◌ {A = List Live} (x ∷ a) (y ∷ b) → a ≡ b
      tail_is x y a b e = cc

      mine : is_there (t.rights o).commutes ≡ true
      mine = mode_commutes (t.rights o) (order_at o Commuting es is).1

      commutes : (u : Live) → Fit u → Before o t u → (m : Option Mode) → u.held o ≡ m → is_out m ≡ true → u.held o ≡ Some Commuting
      commutes u fit k None i j = absurd (cc)
      commutes u fit k (Some Reading) i j = absurd (cc)
      commutes u fit k (Some Commuting) i j = i
      commutes u fit k (Some Writing) i j = absurd (no_quiet (is_there (t.rights o).writes) (is_there (t.rights o).commutes) (is_there (t.rights o).reads) (is_some (t.versions o)) mine (k.writing i))
        where
          no_quiet : (w x r v : Bool) → x ≡ true → not (w || x) && (not r || v) ≡ true → ⊥
          no_quiet true true r v e h = absurd (cc)
          no_quiet false true r v e h = absurd (cc)
          no_quiet w false r v e h = absurd (cc)

  by_course : (c : Course) → t.doing.course ≡ c → Orderly t.doing.spec t.doing.plan c [] t.rights t.held
      → First (from_deed c t.doing.spec t.doing.plan t.doing.steps []) (λ e. free_in e s.path ss ≡ true)
  by_course (Reads o c on) e g = refl
  by_course (Writes o c v on) e g = refl
  by_course (Creates child body on) e g = refl
  by_course (Ends b) e g = refl
  by_course (Steps on) e g = absurd g.1
  by_course (Changes new on) e g = absurd g.1

  alone : (es : List Event) → t.doing.pending ≡ es → First (es ++ from_deed t.doing.course t.doing.spec t.doing.plan t.doing.steps []) (λ e. free_in e s.path ss ≡ true)
      → GoesOn (s ∷ seats) ss s
  alone es is g = itself (own (λ e. free_in e s.path ss ≡ true) (subst (λ z. First (z ++ from_deed t.doing.course t.doing.spec t.doing.plan t.doing.steps []) (λ e. free_in e s.path ss ≡ true)) (sym is) g))

  pub goes : (es : List Event) → t.doing.pending ≡ es → GoesOn (s ∷ seats) ss s
  goes [] is = alone [] is (by_course t.doing.course refl (subst (λ x. Orderly t.doing.spec t.doing.plan t.doing.course x t.rights t.held) is fit.orderly))
  goes (Take o Reading ∷ es) is = alone (Take o Reading ∷ es) is (free o Reading es is refl)
  goes (Take o Writing ∷ es) is = alone (Take o Writing ∷ es) is (free o Writing es is refl)
  goes (Take o Commuting ∷ es) is = commuting_goes o es is (out_of o (t ∷ l) fits)
  goes (Give o ∷ es) is = alone (Give o ∷ es) is refl
  goes (Shift o a ∷ es) is = alone (Shift o a ∷ es) is refl
  goes (Leave o ∷ es) is = alone (Leave o ∷ es) is refl
  goes (Enter o a ∷ es) is = alone (Enter o a ∷ es) is refl
  goes (Enroll x n ∷ es) is = alone (Enroll x n ∷ es) is refl
  goes (TouchRead o c v ∷ es) is = alone (TouchRead o c v ∷ es) is refl
  goes (TouchWrite o c v ∷ es) is = alone (TouchWrite o c v ∷ es) is refl
  goes (Wants o c ∷ es) is = alone (Wants o c ∷ es) is refl
  goes (Resign x n ∷ es) is = alone (Resign x n ∷ es) is refl

module _ (proper : (p : AbstractProgram) (ns : List ℤ) (limit : ℕ) → Proper (root_spec p) (root_course p ns limit)) (p : Program) (ns : List ℤ) (limit : ℕ) where
  first_of : (k : ℕ) (s : Seat) (seats : List Seat) (ss : List ObjectView) (notes : List PartNote) (x : Kept p ns limit k (s ∷ seats) ss notes) (roll : List Live)
      → x.state.roll ≡ roll → Seated (s ∷ seats) roll → GoesOn (s ∷ seats) ss s
  first_of k s seats ss notes x [] e g = absurd g
  first_of k s seats ss notes x (t ∷ l) e g =
      let st = x.state in
      let all = (sound_of proper p ns limit st x.reached).by (λ o. []) in
      let fits = subst (Every Fit) e all.fits in
      let before = λ (o : ℕ). subst (Pairs (Before o)) e (all.before o) in
      let shelves = λ (q : ℕ). subst (λ roll. shelf_at ss q ≡ record { queue = line q roll; content = st.contents q; turns = turns_on q st.log }) e (x.shown.shelves q) in
      goes t l s seats ss st.contents (λ q. turns_on q st.log) g fits before (subst (Every TidyLive) e x.tidy).0 shelves t.doing.pending refl

  pub core_shows : CoreShows p ns limit
  core_shows = record {
    mirror = λ k seats ss notes r. let x = kept proper p ns limit k seats ss notes r in record { state = x.state; reached = x.reached; sound = sound_of proper p ns limit x.state x.reached; shown = x.shown };
    first = λ k s seats ss notes r. let x = kept proper p ns limit k (s ∷ seats) ss notes r in first_of k s seats ss notes x x.state.roll refl x.shown.seated;
  }
