-- The steps of a run by turn lists.
use Rattle.std.proofs.Common.{◌≡◌, ◌≢◌, ℕ, zero, suc, ◌-◌, ◌<◌, ◌≤◌, Bool, true, false, ◌&&◌, List, [], ◌∷◌, ◌++◌, length, map, Option, Some, None, refl, sym, ap, ◌∙◌, subst, arith, ◌⊎◌, inl, inr, length-append}
use Rattle.std.proofs.lemmas.Bool.{cases_lt}
use Rattle.std.proofs.Math.Path.{fun_ext}
use Rattle.std.specs.Prelude.{ℤ, slice_get}
use Rattle.jade_base.specs.declared.report.Report.{Report}
use Rattle.jade_base.specs.declared.rights.Mode.TheVariants.{Commuting}
use Rattle.jade_syntax.specs.declared.tree.Program.{Program}
use Rattle.jade_syntax.specs.Image.{program}
use Rattle.jade_syntax.specs.Objects.{sizes}
use Rattle.jade_meaning.specs.Report.{report}
use Rattle.jade_meaning.specs.Specification.{numbers}
use Rattle.jade_meaning.specs.Serial.{Path}
use Rattle.jade_meaning.specs.Talk.{Event, Take}
use Rattle.jade_meaning.specs.Turns.{Full, turns_in, turns_on, marks_by}
use Rattle.jade_meaning.specs.Walk.{upcoming, First}
use Rattle.object_shelf.specs.Views.{ObjectView}
use Rattle.schedule_core.specs.declared.steps.Seat.{Seat}
use Rattle.schedule_core.specs.Counts.{total, Bounded}
use Rattle.schedule_core.specs.Plain.{CoreView, NotedIn, Stepped, Reached, begins, goes_on, any_free, start_view, root_shelves}
use Rattle.schedule_core.specs.Serially.{Begins}
use Rattle.schedule_core.specs.Soundness.{turns_of, and_then}
use Rattle.core_laws.specs.FullListsGoOn.{FullListsGoOn}
use Rattle.run_replay.specs.steps.InStep.{first_keeps, in_step, in_step_at}
use Rattle.run_replay.proofs.Lists.{lists_again, past_lists, whole_list}
use Rattle.run_replay.proofs.Turns.{event_begins, keeps_first, first_keeps_by}

-- a core of a run whose first turns are those of the lists
pub record Following (p : Program) (ns : List ℤ) (limit : ℕ) (lists : ℕ → List Path) (v : CoreView) : Type 0 where
  pub of_program : v.program ≡ p
  pub of_numbers : v.numbers ≡ ns
  pub of_limit : v.limit ≡ limit
  pub reached : Reached p ns limit v.done v.roll v.shelves v.notes
  pub first : (o : ℕ) → Begins (lists o) (turns_of v.shelves o)

no_turns : (sizes : List ℕ) (o : ℕ) → turns_of (root_shelves sizes) o ≡ []
no_turns [] o = refl
no_turns (n ∷ ns) zero = refl
no_turns (n ∷ ns) (suc o) = no_turns ns o

right : (a b : Bool) → a && b ≡ true → b ≡ true
right true b h = h
right false b h = absurd (cc)

no_longer : (xs ys : List Path) → xs ++ ys ≡ [] → length xs ≡ 0
no_longer [] ys e = refl
no_longer (x ∷ xs) ys e = absurd (cc)

both : (a b : Bool) → a ≡ true → b ≡ true → a && b ≡ true
both a b e f = ap (λ x. x && b) e ∙ f

-- who is in step is there
pub seat_there : (lists : ℕ → List Path) (ss : List ObjectView) (roll : List Seat) (i : ℕ) → in_step_at lists ss (slice_get roll i) ≡ true → i < length roll
seat_there lists ss [] i h = absurd (cc)
seat_there lists ss (s ∷ roll) zero h = omega arith
seat_there lists ss (s ∷ roll) (suc i) h = let k = seat_there lists ss roll i h in omega arith

pub none_live : (roll : List Seat) → length roll ≤ 0 → roll ≡ []
none_live [] le = refl
none_live (s ∷ roll) le = absurd (omega arith)

module _ (p : Program) (ns : List ℤ) (limit : ℕ) (lists : ℕ → List Path) where
  pub starts : (v : CoreView) → v ≡ start_view p ns limit → Following p ns limit lists v
  starts v e = record {
    of_program = ap (λ (x : CoreView). x.program) e;
    of_numbers = ap (λ (x : CoreView). x.numbers) e;
    of_limit = ap (λ (x : CoreView). x.limit) e;
    reached = subst (λ (x : CoreView). Reached p ns limit x.done x.roll x.shelves x.notes) (sym e) begins;
    first = λ o. record { rest = lists o; is = sym (ap (λ t. t ++ lists o) (ap (λ (x : CoreView). turns_of x.shelves o) e ∙ no_turns (sizes p.items) o)) };
  }

  module _ (v : CoreView) (f : Following p ns limit lists v) where
    abbrev rest : ℕ → List Path
    rest o = (f.first o).rest

    pub are : lists ≡ and_then v.shelves rest
    are = fun_ext (λ o. (f.first o).is)

    -- a task that is in step goes on
    pub goes : (place : ℕ) (w : CoreView) → in_step_at lists v.shelves (slice_get v.roll place) ≡ true → Stepped v place w → Following p ns limit lists w
    goes place w h s =
        let step = s.step.step in
        let keeps : first_keeps lists v.shelves step.seat.path (upcoming step.seat.walker) ≡ true =
        right _ _ (sym (ap (in_step_at lists v.shelves) step.here) ∙ h) in
        record {
          of_program = s.program ∙ f.of_program;
          of_numbers = s.numbers ∙ f.of_numbers;
          of_limit = s.limit ∙ f.of_limit;
          reached = subst (λ k. Reached p ns limit k w.roll w.shelves w.notes) (sym s.done) (goes_on f.reached place s.step);
          first = event_begins lists step.seat v.shelves step.new w.shelves step.event step.does
              (keeps_first lists v.shelves step.seat.path (upcoming step.seat.walker) step.event step.next keeps) f.first;
        }

    pub few : ((p : Program) (ns : List ℤ) (limit : ℕ) → Bounded p ns limit) → v.done ≤ total (program p) ns limit lists
    few law = subst (λ t. v.done ≤ total (program p) ns limit t) (sym are) ((law p ns limit).bounded v.done v.roll v.shelves v.notes f.reached rest)

    module _ (law : (p : Program) (ns : List ℤ) (limit : ℕ) → FullListsGoOn p ns limit) (full : Full (program p) ns limit lists) where
      full_so : Full (program p) ns limit (and_then v.shelves rest)
      full_so = subst (λ t. Full (program p) ns limit t) are full

      some : (r : List Seat) → 0 < length r → r ≢ []
      some r lt e = let z : length r ≡ 0 = ap length e in omega arith

      in_step_so : (s : Seat) (es : List Event) → any_free es s.path v.shelves ≡ true
          → ((o : ℕ) → First es (λ x. x ≡ Take o Commuting) → Begins (rest o) (s.path ∷ []))
          → any_free es s.path v.shelves && first_keeps lists v.shelves s.path es ≡ true
      in_step_so s [] free n = absurd (cc)
      in_step_so s (e ∷ es) free n = both _ _ free (first_keeps_by lists v.shelves rest (λ o. (f.first o).is) s.path e es n)

      -- full lists are never stuck
      pub some_in_step : 0 < length v.roll → ((i : ℕ) → in_step_at lists v.shelves (slice_get v.roll i) ≡ false) → ⊥
      some_in_step lt none =
          let g = (law p ns limit).goes v.done v.roll v.shelves v.notes f.reached rest full_so (some v.roll lt) in
          let yes : in_step_at lists v.shelves (slice_get v.roll g.place) ≡ true =
          ap (in_step_at lists v.shelves) g.live ∙ in_step_so g.seat (upcoming g.seat.walker) g.free g.turn in
          let no = none g.place in
          let wrong : true ≡ false = sym yes ∙ no in
          absurd (cc)

      -- and are used up at the end
      pub used_up : v.roll ≡ [] → (o : ℕ) → length (turns_of v.shelves o) ≡ length (lists o)
      used_up none o =
          let e : rest o ≡ [] = (law p ns limit).ends v.done v.shelves v.notes
          (subst (λ r. Reached p ns limit v.done r v.shelves v.notes) none f.reached) rest full_so o in
          let n : length (lists o) ≡ length (turns_of v.shelves o ++ rest o) = ap length (f.first o).is in
          let m = length-append (turns_of v.shelves o) (rest o) in
          let z : length (rest o) ≡ 0 = ap length e in
          omega arith

-- lists that are used up are those of the objects
pub ended : (p : Program) (ns : List ℤ) (limit : ℕ) (turns : List (List Path)) (v : CoreView) → Following p ns limit (turns_in turns) v → (n : ℕ) → length turns ≡ n
    → ((o : ℕ) → o < n → length (turns_of v.shelves o) ≡ length (turns_in turns o)) → turns_of v.shelves ≡ turns_in turns
ended p ns limit turns v f n e used = fun_ext (λ o. go o (cases_lt o n))
  where
    go : (o : ℕ) → (o < n) ⊎ (n ≤ o) → turns_of v.shelves o ≡ turns_in turns o
    go o (inl lt) = whole_list (turns_in turns o) (turns_of v.shelves o) (f.first o) (used o lt)
    go o (inr le) =
        let past : turns_in turns o ≡ [] = past_lists turns o (omega arith) in
        whole_list (turns_in turns o) (turns_of v.shelves o) (f.first o) (no_longer (turns_of v.shelves o) (f.first o).rest (sym (f.first o).is ∙ past) ∙ sym (ap length past))

module _ (p : Program) (ns : List ℤ) (limit : ℕ) (turns : List (List Path)) (v : CoreView) (f : Following p ns limit (turns_in turns) v)
    (e : turns_of v.shelves ≡ turns_in turns) where
  pub report_is : (made : Report) → made ≡ report (program v.program) v.numbers v.limit (turns_of v.shelves) → made ≡ report (program p) ns limit (turns_in turns)
  report_is made m =
      m ∙ ap (λ x. report (program x) v.numbers v.limit (turns_of v.shelves)) f.of_program
      ∙ ap (λ x. report (program p) x v.limit (turns_of v.shelves)) f.of_numbers
      ∙ ap (λ x. report (program p) ns x (turns_of v.shelves)) f.of_limit
      ∙ ap (λ x. report (program p) ns limit x) e

  pub full_is : Full (program v.program) v.numbers v.limit (turns_of v.shelves) → Full (program p) ns limit (turns_in turns)
  full_is h =
      subst (λ x. Full (program p) ns limit x) e
      (subst (λ x. Full (program p) ns x (turns_of v.shelves)) f.of_limit
      (subst (λ x. Full (program p) x v.limit (turns_of v.shelves)) f.of_numbers
      (subst (λ x. Full (program x) v.numbers v.limit (turns_of v.shelves)) f.of_program h)))

-- a report by full lists tells these lists
pub turns_told : (p : Program) (ns : List ℤ) (limit : ℕ) (turns : List (List Path)) → length turns ≡ length (sizes p.items)
    → Full (program p) ns limit (turns_in turns) → (made : Report) → made ≡ report (program p) ns limit (turns_in turns) → made.turns ≡ turns
turns_told p ns limit turns n full made e =
    let run = marks_by (program p) ns limit (turns_in turns) in
    ap (λ (x : Report). x.turns) e
    ∙ ap (λ k. map (λ o. turns_on o run) (numbers 0 k)) (sym n)
    ∙ lists_again turns (λ o. turns_on o run) full.same
