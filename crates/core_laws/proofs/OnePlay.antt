-- Picks decide a whole schedule.
use Rattle.std.proofs.Common.{lt_of_not-le, eq-or-lt_of_le, le_of_suc-le-suc, le_antisymm, ◌≤◌, ◌≡◌, ℕ, zero, suc, ◌<◌, List, [], ◌∷◌, ◌++◌, map, take, drop, Option, Some, None, refl, sym, ap, ◌∙◌, subst, ap₂, ◌%◌, arith, inl, inr, ◌⊎◌}
use Rattle.std.specs.Prelude.{ℤ, slice_get, if◌then◌else◌, option_map}
use Rattle.std.proofs.lemmas.Option.{slice_get-map}
use Rattle.std.specs.List.{take-map, drop-map}
use Rattle.std.proofs.lemmas.List.{map-append}
use Rattle.jade_base.specs.declared.report.Report.{Report}
use Rattle.jade_syntax.specs.declared.tree.Program.{Program}
use Rattle.jade_meaning.specs.Talk.{Task, Event, Enter, Enroll, Take, TouchRead, TouchWrite, Wants, Give, Leave, Shift, Resign, talk}
use Rattle.jade_meaning.specs.Walk.{upcoming, First, task_of}
use Rattle.object_shelf.specs.Views.{ObjectView}
use Rattle.object_shelf.specs.Shelves.{taken, given, entered, shifted, left}
use Rattle.task_roll.specs.declared.note.PartNote.{PartNote}
use Rattle.schedule_core.specs.declared.steps.Seat.{Seat}
use Rattle.schedule_core.specs.Notes.{noted, filed, told}
use Rattle.schedule_core.specs.Plain.{Does, NotedIn, any_free, next_free, free_many, nth_free, picked, on_shelf, value_at}
use Rattle.schedule_core.specs.Picks.{Picked, Played, begins, goes_on, pick_at}
use Rattle.core_laws.specs.OnePlay.{Standing, standing, PicksDecide}

-- the events of a standing from the next one on
abbrev ahead : Standing → List Event
ahead x = drop x.done (talk x.task x.answers)

-- one event further
abbrev further : List ℤ → Standing → Standing
further vs x = record x { answers = x.answers ++ vs; done = suc x.done }

abbrev on : Standing → Standing
on x = record x { done = suc x.done }

abbrev kid : Task → Standing → Standing
kid t x = record { path = x.path ++ x.children ∷ []; children = 0; task = t; answers = []; done = 0 }

abbrev parent : Standing → Standing
parent x = record x { children = suc x.children; done = suc x.done }

-- the standings in the place of one after an event
abbrev stands_then : Event → Standing → List ObjectView → List Standing
stands_then (Take o m) x ss = on x ∷ []
stands_then (Give o) x ss = on x ∷ []
stands_then (Enter o a) x ss = on x ∷ []
stands_then (Shift o a) x ss = on x ∷ []
stands_then (Leave o) x ss = on x ∷ []
stands_then (TouchWrite o c v) x ss = on x ∷ []
stands_then (TouchRead o c v) x ss = []
stands_then (Wants o c) x ss = further (value_at o c x.path ss ∷ []) x ∷ []
stands_then (Enroll t n) x ss = kid t x ∷ (parent x ∷ [])
stands_then (Resign b n) x ss = []

first_is : (es : List Event) (e f : Event) → First es (λ x. x ≡ e) → First es (λ x. x ≡ f) → e ≡ f
first_is [] e f a b = absurd a
first_is (x ∷ es) e f a b = sym a ∙ b

-- what an event does follows from where its task stands
does_so : (e : Event) (s : Seat) (ss : List ObjectView) (new : List Seat) (after : List ObjectView) → Does e s ss new after
    → map standing new ≡ stands_then e (standing s) ss
does_so (Take o m) s ss new after d = ap (map standing) d.1
does_so (Give o) s ss new after d = ap (map standing) d.0
does_so (Enter o a) s ss new after d = ap (map standing) d.0
does_so (Shift o a) s ss new after d = ap (map standing) d.0
does_so (Leave o) s ss new after d = ap (map standing) d.0
does_so (TouchWrite o c v) s ss new after d = ap (map standing) d.0
does_so (TouchRead o c v) s ss new after d = absurd d
does_so (Wants o c) s ss new after d = ap (map standing) d.0
does_so (Resign b n) s ss new after d = ap (map standing) d.0
does_so (Enroll t n) s ss new after d =
    let c = d.1 in
    ap (map standing) d.2 ∙ kid_is (s.path ++ s.children ∷ []) (task_of d.0) t d.0.answers d.0.done c.task c.answers c.done (parent (standing s))
  where
    kid_is : (p : List ℕ) (u t : Task) (vs : List ℤ) (n : ℕ) → u ≡ t → vs ≡ [] → n ≡ 0 → (x : Standing)
        → ◌≡◌ {A = List Standing} (record { path = p; children = 0; task = u; answers = vs; done = n } ∷ (x ∷ []))
        (record { path = p; children = 0; task = t; answers = []; done = 0 } ∷ (x ∷ []))
    kid_is p u t vs n a b c x = cc

does_there : (e : Event) (s t : Seat) (ss : List ObjectView) (new new' : List Seat) (after after' : List ObjectView) → standing s ≡ standing t
    → Does e s ss new after → Does e t ss new' after' → after ≡ after'
does_there (Take o m) s t ss new new' after after' h d f = d.2 ∙ ap (λ (x : Standing). on_shelf o (taken x.path m) ss) h ∙ sym f.2
does_there (Give o) s t ss new new' after after' h d f = d.1 ∙ ap (λ (x : Standing). on_shelf o (given x.path) ss) h ∙ sym f.1
does_there (Enter o a) s t ss new new' after after' h d f =
    d.1 ∙ ap (λ (x : Standing). on_shelf o (entered x.path (x.path ++ x.children ∷ []) a) ss) h ∙ sym f.1
does_there (Shift o a) s t ss new new' after after' h d f = d.1 ∙ ap (λ (x : Standing). on_shelf o (shifted x.path a) ss) h ∙ sym f.1
does_there (Leave o) s t ss new new' after after' h d f = d.1 ∙ ap (λ (x : Standing). on_shelf o (left x.path) ss) h ∙ sym f.1
does_there (TouchWrite o c v) s t ss new new' after after' h d f = d.1 ∙ sym f.1
does_there (TouchRead o c v) s t ss new new' after after' h d f = absurd d
does_there (Wants o c) s t ss new new' after after' h d f = d.1 ∙ sym f.1
does_there (Enroll u n) s t ss new new' after after' h d f = d.3 ∙ sym f.3
does_there (Resign b n) s t ss new new' after after' h d f = d.1 ∙ sym f.1

-- and what it notes
abbrev notes_then : Event → Standing → List PartNote → List PartNote
notes_then (Enroll t n) x ns = filed (record { path = x.path; children = x.children; steps = n; blame = None }) ns
notes_then (Resign b n) x ns = filed (record { path = x.path; children = x.children; steps = n; blame = b }) ns
notes_then (Enter o a) x ns = ns
notes_then (Take o m) x ns = ns
notes_then (TouchRead o c v) x ns = ns
notes_then (TouchWrite o c v) x ns = ns
notes_then (Wants o c) x ns = ns
notes_then (Give o) x ns = ns
notes_then (Leave o) x ns = ns
notes_then (Shift o a) x ns = ns

notes_so : (e : Event) (s : Seat) (ns : List PartNote) → noted e s ns ≡ notes_then e (standing s) ns
notes_so (Enroll t n) s ns = refl
notes_so (Resign b n) s ns = refl
notes_so (Enter o a) s ns = refl
notes_so (Take o m) s ns = refl
notes_so (TouchRead o c v) s ns = refl
notes_so (TouchWrite o c v) s ns = refl
notes_so (Wants o c) s ns = refl
notes_so (Give o) s ns = refl
notes_so (Leave o) s ns = refl
notes_so (Shift o a) s ns = refl

-- which task goes on follows from where the tasks stand
many_of : List ObjectView → List Standing → ℕ
many_of ss [] = 0
many_of ss (x ∷ xs) = if any_free (ahead x) x.path ss then suc (many_of ss xs) else many_of ss xs

nth_of : ℕ → List ObjectView → List Standing → ℕ
nth_of n ss [] = 0
nth_of zero ss (x ∷ xs) = if any_free (ahead x) x.path ss then 0 else suc (nth_of zero ss xs)
nth_of (suc n) ss (x ∷ xs) = if any_free (ahead x) x.path ss then suc (nth_of n ss xs) else suc (nth_of (suc n) ss xs)

many_is : (ss : List ObjectView) (roll : List Seat) → free_many ss roll ≡ many_of ss (map standing roll)
unfolding many_of
many_is ss [] = refl
many_is ss (s ∷ roll) = ap (λ n. if next_free ss s then suc n else n) (many_is ss roll)

nth_is : (n : ℕ) (ss : List ObjectView) (roll : List Seat) → nth_free n ss roll ≡ nth_of n ss (map standing roll)
unfolding nth_of
nth_is n ss [] = refl
nth_is zero ss (s ∷ roll) = ap (λ n. if next_free ss s then 0 else suc n) (nth_is zero ss roll)
nth_is (suc n) ss (s ∷ roll) =
    ap (λ i. if next_free ss s then suc i else suc (nth_free (suc n) ss roll)) (nth_is n ss roll)
    ∙ ap (λ i. if next_free ss s then suc (nth_of n ss (map standing roll)) else suc i) (nth_is (suc n) ss roll)

picked_of : ℕ → List ObjectView → List Standing → ℕ
picked_of number ss xs = nth_of (number % many_of ss xs) ss xs

picked_is : (number : ℕ) (ss : List ObjectView) (roll : List Seat) → picked number ss roll ≡ picked_of number ss (map standing roll)
unfolding picked_of
picked_is number ss roll = ap (λ n. nth_free (number % n) ss roll) (many_is ss roll) ∙ nth_is (number % many_of ss (map standing roll)) ss roll

some_is : {A : Type 0} (x y : A) → ◌≡◌ {A = Option A} (Some x) (Some y) → x ≡ y
some_is x y e = cc

stands_at : (roll : List Seat) (i : ℕ) (s : Seat) → slice_get roll i ≡ Some s → slice_get (map standing roll) i ≡ Some (standing s)
stands_at roll i s e = slice_get-map standing roll i ∙ ap (option_map standing) e

-- the live tasks after an event
rolled : (place : ℕ) (roll new : List Seat)
    → map standing (take place roll ++ (new ++ drop (suc place) roll))
    ≡ take place (map standing roll) ++ (map standing new ++ drop (suc place) (map standing roll))
rolled place roll new =
    map-append standing (take place roll) (new ++ drop (suc place) roll)
    ∙ ap₂ (λ (a b : List Standing). a ++ b) (sym (take-map standing place roll))
    (map-append standing new (drop (suc place) roll) ∙ ap (λ (b : List Standing). map standing new ++ b) (sym (drop-map standing (suc place) roll)))

pub record Same (roll roll' : List Seat) (ss ss' : List ObjectView) (ns ns' : List PartNote) : Type 0 where
  pub tasks : map standing roll ≡ map standing roll'
  pub objects : ss ≡ ss'
  pub notes : ns ≡ ns'

module _ (ss : List ObjectView) (roll roll' : List Seat) (same : map standing roll ≡ map standing roll') (ns : List PartNote) (place : ℕ) where
  steps_alike : (ra rb : List Seat) (sa sb : List ObjectView) (na nb : List PartNote) → NotedIn roll ss ns place ra sa na → NotedIn roll' ss ns place rb sb nb
      → Same ra rb sa sb na nb
  steps_alike ra rb sa sb na nb a b =
      let here = some_is (standing a.step.seat) (standing b.step.seat) (sym (stands_at roll place a.step.seat a.step.here)
      ∙ ap (λ (xs : List Standing). slice_get xs place) same ∙ stands_at roll' place b.step.seat b.step.here) in
      let ahead_b : First (upcoming a.step.seat.walker) (λ x. x ≡ b.step.event) =
      subst (λ (x : Standing). First (ahead x) (λ y. y ≡ b.step.event)) (sym here) b.step.next in
      let event = first_is (upcoming a.step.seat.walker) a.step.event b.step.event a.step.next ahead_b in
      let does_b : Does a.step.event b.step.seat ss b.step.new sb = subst (λ (e : Event). Does e b.step.seat ss b.step.new sb) (sym event) b.step.does in
      let new = does_so a.step.event a.step.seat ss a.step.new sa a.step.does
      ∙ ap (λ (x : Standing). stands_then a.step.event x ss) here ∙ sym (does_so a.step.event b.step.seat ss b.step.new sb does_b) in
      record {
        tasks = ap (map standing) a.step.roll ∙ rolled place roll a.step.new
            ∙ ap₂ (λ (xs ys : List Standing). take place xs ++ (ys ++ drop (suc place) xs)) same new ∙ sym (rolled place roll' b.step.new)
            ∙ sym (ap (map standing) b.step.roll);
        objects = does_there a.step.event a.step.seat b.step.seat ss a.step.new b.step.new sa sb here a.step.does does_b;
        notes = a.notes ∙ notes_so a.step.event a.step.seat ns ∙ ap (λ (x : Standing). notes_then a.step.event x ns) here
            ∙ ap (λ (e : Event). notes_then e (standing b.step.seat) ns) event ∙ sym (notes_so b.step.event b.step.seat ns) ∙ sym b.notes;
      }

module _ (p : Program) (limit_numbers : List ℤ) (limit : ℕ) (picks : List ℕ) where
  abbrev Reaches : ℕ → List Seat → List ObjectView → List PartNote → Type 0
  Reaches k roll ss ns = Picked p limit_numbers limit picks k roll ss ns

  alike : (k : ℕ) (roll roll' : List Seat) (ss ss' : List ObjectView) (ns ns' : List PartNote) → Reaches k roll ss ns → Reaches k roll' ss' ns'
      → Same roll roll' ss ss' ns ns'
  alike k roll roll' ss ss' ns ns' begins begins = record { tasks = refl; objects = refl; notes = refl }
  alike k roll roll' ss ss' ns ns' (goes_on r a) (goes_on r' b) = go r r' a b (alike _ _ _ _ _ _ _ r r')
    where
      go : {j : ℕ} {qa qb qa' qb' : List Seat} {sa sb sa' sb' : List ObjectView} {na nb na' nb' : List PartNote} → Reaches j qa sa na → Reaches j qb sb nb
          → NotedIn qa sa na (picked (pick_at picks j) sa qa) qa' sa' na' → NotedIn qb sb nb (picked (pick_at picks j) sb qb) qb' sb' nb'
          → Same qa qb sa sb na nb → Same qa' qb' sa' sb' na' nb'
      go {j} {qa} {qb} {qa'} {qb'} {sa} {sb} {sa'} {sb'} {na} {nb} {na'} {nb'} r r' a b h =
          let n = pick_at picks j in
          let place : picked n sb qb ≡ picked n sa qa = picked_is n sb qb ∙ ap₂ (picked_of n) (sym h.objects) (sym h.tasks) ∙ sym (picked_is n sa qa) in
          let b1 : NotedIn qb sa nb (picked n sb qb) qb' sb' nb' = subst (λ (x : List ObjectView). NotedIn qb x nb (picked n sb qb) qb' sb' nb') (sym h.objects) b in
          let b2 : NotedIn qb sa na (picked n sb qb) qb' sb' nb' = subst (λ (x : List PartNote). NotedIn qb sa x (picked n sb qb) qb' sb' nb') (sym h.notes) b1 in
          let b3 : NotedIn qb sa na (picked n sa qa) qb' sb' nb' = subst (λ (x : ℕ). NotedIn qb sa na x qb' sb' nb') place b2 in
          steps_alike sa qa qb h.tasks na (picked n sa qa) qa' qb' sa' sb' na' nb' a b3

  -- who is reached later has gone on from each earlier state
  record Earlier (k : ℕ) : Type 0 where
    roll : List Seat
    shelves : List ObjectView
    notes : List PartNote
    reached : Reaches k roll shelves notes
    seat : Seat
    place : ℕ
    here : slice_get roll place ≡ Some seat

  earlier : (k j : ℕ) (roll : List Seat) (ss : List ObjectView) (ns : List PartNote) → Reaches j roll ss ns → k < j → Earlier k
  earlier k j roll ss ns begins lt = absurd (omega (arith, lt))
  earlier k j roll ss ns (goes_on r a) lt = go r a lt (λ h. earlier k _ _ _ _ r h)
    where
      go : {i : ℕ} {qa qb : List Seat} {sa sb : List ObjectView} {na nb : List PartNote} → Reaches i qa sa na
          → NotedIn qa sa na (picked (pick_at picks i) sa qa) qb sb nb → k < suc i → (k < i → Earlier k) → Earlier k
      go {i} {qa} {qb} {sa} {sb} {na} {nb} r a lt f = choose (eq-or-lt_of_le (le_of_suc-le-suc lt))
        where
          choose : (k ≡ i) ⊎ (k < i) → Earlier k
          choose (inl e) = record {
            roll = qa;
            shelves = sa;
            notes = na;
            reached = subst (λ (n : ℕ). Reaches n qa sa na) (sym e) r;
            seat = a.step.seat;
            place = picked (pick_at picks i) sa qa;
            here = a.step.here;
          }
          choose (inr h) = f h

  empty_is : (roll : List Seat) → map standing roll ≡ [] → roll ≡ []
  empty_is [] e = refl
  empty_is (s ∷ roll) e = absurd (cc)

  none_in : (i : ℕ) (s : Seat) (roll : List Seat) → roll ≡ [] → slice_get roll i ≡ Some s → ⊥
  none_in i s roll e h = let f : slice_get [] i ≡ Some s = subst (λ (x : List Seat). slice_get x i ≡ Some s) e h in cc

  -- and with no live task there is no later one
  no_later : (k j : ℕ) (roll : List Seat) (ss ss' : List ObjectView) (ns ns' : List PartNote) → Reaches k [] ss ns → Reaches j roll ss' ns' → k < j → ⊥
  no_later k j roll ss ss' ns ns' r r' lt =
      let e = earlier k j roll ss' ns' r' lt in
      let h = alike k e.roll [] e.shelves ss e.notes ns e.reached r in
      none_in e.place e.seat e.roll (empty_is e.roll h.tasks) e.here

  as_many : (k j : ℕ) (ss ss' : List ObjectView) (ns ns' : List PartNote) → Reaches k [] ss ns → Reaches j [] ss' ns' → k ≡ j
  as_many k j ss ss' ns ns' r r' =
      let low : k < j → ⊥ = no_later k j [] ss ss' ns ns' r r' in
      let high : j < k → ⊥ = no_later j k [] ss' ss ns' ns r' r in
      le_antisymm (le_of_not-lt k j high) (le_of_not-lt j k low)
    where
      le_of_not-lt : (a b : ℕ) → (b < a → ⊥) → a ≤ b
      le_of_not-lt a b f = le_of_suc-le-suc (lt_of_not-le f)

  one_report : (r r' : Report) → Played p limit_numbers limit picks r → Played p limit_numbers limit picks r' → r ≡ r'
  one_report r r' a b =
      let k = as_many a.events b.events a.shelves b.shelves a.notes b.notes a.reached b.reached in
      let b' : Reaches a.events [] b.shelves b.notes = subst (λ (n : ℕ). Reaches n [] b.shelves b.notes) (sym k) b.reached in
      let h = alike a.events [] [] a.shelves b.shelves a.notes b.notes a.reached b' in
      a.told ∙ ap₂ told h.objects h.notes ∙ sym b.told

  pub picks_decide : PicksDecide p limit_numbers limit picks
  picks_decide = record {
    tasks = λ k roll roll' ss ss' ns ns' r r'. (alike k roll roll' ss ss' ns ns' r r').tasks;
    objects = λ k roll roll' ss ss' ns ns' r r'. (alike k roll roll' ss ss' ns ns' r r').objects;
    notes = λ k roll roll' ss ss' ns ns' r r'. (alike k roll roll' ss ss' ns ns' r r').notes;
    events = as_many;
    report = one_report;
  }
