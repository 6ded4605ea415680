-- The slots at the end of a run, and the report that is made of them.
use Rattle.std.proofs.Common.{◌≡◌, ◌≢◌, ℕ, zero, suc, ◌+◌, ◌<◌, Bool, true, false, List, [], ◌∷◌, ◌++◌, map, length, take, refl, sym, ap, ◌∙◌, subst}
use Rattle.std.proofs.Common.{arith, eq-eqb, ne_eqb}
use Rattle.std.specs.Prelude.{slice_get, slice_index_or, slice_set, if◌then◌else◌}
use Rattle.std.specs.Mem.Slots.Ownership.{Filled}
use mathlib.Core.Logic.{dite}
use mathlib.Core.Option.{some, some-injective}
use native.Mathlib.Decide.{ℕ_discrete}
use lib.ListN.{get_elem?}
use Rattle.atomic_table.specs.Table as table
use Rattle.atomic_table.specs.Table.{Final, Seen}
use Rattle.jade_syntax.specs.Image.{program as abstracted}
use Rattle.jade_meaning.specs.Laws.{Every}
use Rattle.jade_meaning.specs.Report.{report}
use Rattle.jade_meaning.specs.Turns.{Full, turns_in}
use Rattle.object_shelf.specs.declared.queue.Entry.{Entry}
use Rattle.object_shelf.specs.Views.{ObjectView}
use Rattle.object_shelf.specs.Whole.{is_out}
use Rattle.task_roll.specs.declared.note.PartNote.{PartNote}
use Rattle.task_roll.specs.Rolls.{by_key}
use Rattle.schedule_core.specs.Reports.{told_of}
use Rattle.schedule_core.specs.ByNumber.{shelf_at}
use Rattle.schedule_core.specs.Plain.{Reached}
use Rattle.schedule_core.specs.Soundness.{Owner}
use Rattle.jade_meaning.specs.Plan.{RunPlan}
use Rattle.object_table.specs.Views.{count_of, View, home_if, part_of, worth, worths, gathered}
use Rattle.object_table.specs.Rule.{Owned, by_pass, by_maker, PlaceOk, free, taken, Ruled}
use Rattle.object_table.specs.steps.Endings.{cells_in, turns_at, notes_in, or_none, on_shelf, LastSlots, EndLaws}
use Rattle.object_table.specs.declared.slot.Slot.{Slot}
use Rattle.object_table.specs.declared.slot.Slot.TheVariants as slot
use Rattle.object_table.proofs.Purses.{worth_within, none_in_hand}
use Rattle.object_table.proofs.Sizes.{how_many}

append_nil : (ns : List PartNote) → ns ++ [] ≡ ns
append_nil [] = refl
append_nil (n ∷ ns) = ap (λ ms. n ∷ ms) (append_nil ns)

-- so many values have been taken out
pub record Out (fs : List Bool) (n : ℕ) (xs ys : List Slot) (i : ℕ) : Type 0 where
  pub filled : Filled fs i n
  pub empty : (k : ℕ) → k < i → slice_index_or fs k false ≡ false
  pub are : ys ≡ take i xs

set_there : (fs : List Bool) (i k : ℕ) (b : Bool) → k ≢ i → slice_index_or (slice_set fs i b) k false ≡ slice_index_or fs k false
set_there [] i k b n = refl
set_there (f ∷ fs) zero zero b n = absurd (n refl)
set_there (f ∷ fs) zero (suc k) b n = refl
set_there (f ∷ fs) (suc i) zero b n = refl
set_there (f ∷ fs) (suc i) (suc k) b n = set_there fs i k b (λ e. n (ap suc e))

set_away : (fs : List Bool) (i : ℕ) → slice_index_or (slice_set fs i false) i false ≡ false
set_away [] i = refl
set_away (f ∷ fs) zero = refl
set_away (f ∷ fs) (suc i) = set_away fs i

take_next : (xs : List Slot) (i : ℕ) (y : Slot) → get_elem? xs i ≡ some y → take (suc i) xs ≡ take i xs ++ y ∷ []
take_next [] i y e = absurd (cc)
take_next (x ∷ xs) zero y e = ap (λ z. z ∷ []) (some-injective x y e)
take_next (x ∷ xs) (suc i) y e = ap (λ zs. x ∷ zs) (take_next xs i y e)

pub none_out : (fs : List Bool) (n : ℕ) (xs ys : List Slot) → Filled fs 0 n → ys ≡ [] → Out fs n xs ys 0
none_out fs n xs ys f e = record { filled = f; empty = λ k lt. absurd (omega (arith, lt)); are = e }

pub one_out : (fs fs' : List Bool) (n : ℕ) (xs ys ys' : List Slot) (i j : ℕ) (y : Slot) → Out fs n xs ys i → j ≡ i + 1 → fs' ≡ slice_set fs i false
    → get_elem? xs i ≡ some y → ys' ≡ ys ++ y ∷ [] → Out fs' n xs ys' j
one_out fs fs' n xs ys ys' i j y h step set at more = record {
  filled = λ k le lt. ap (λ gs. slice_index_or gs k false) set ∙ set_there fs i k false (λ e. absurd (omega (arith, le, e, step)))
      ∙ h.filled k (omega (arith, le, step)) lt;
  empty = λ k lt. ap (λ gs. slice_index_or gs k false) set
      ∙ dite (ℕ_discrete k i) (λ e. subst (λ q. slice_index_or (slice_set fs i false) q false ≡ false) (sym e) (set_away fs i))
      (λ n. set_there fs i k false n ∙ h.empty k (omega (arith, lt, step, n)));
  are = more ∙ ap (λ zs. zs ++ y ∷ []) h.are ∙ sym (take_next xs i y at) ∙ ap (λ k. take k xs) next;
}
  where
    next : suc i ≡ j
    next = omega (arith, step)

module _ (key : RunPlan) where
  objects_are : (ss : List ObjectView) (xs : List Slot) → ((o : ℕ) → o < length ss → get_elem? xs o ≡ some (on_shelf (shelf_at ss o)))
      → take (length ss) xs ≡ map on_shelf ss
  objects_are [] xs k = refl
  objects_are (s ∷ ss) [] k = absurd (let r = k 0 (omega arith) in cc)
  objects_are (s ∷ ss) (x ∷ xs) k =
      (λ i. some-injective x (on_shelf s) (k 0 (omega arith)) i ∷ take (length ss) xs)
      ∙ ap (λ ys. on_shelf s ∷ ys) (objects_are ss xs (λ o lt. k (suc o) (omega (arith, lt))))

  -- with a pass that knows that all is over
  module _ (id : ℕ) (v : View) (over : v.over ≡ true) (ws : List ℕ) (xs : List Slot) (last : Final (Seen (Ruled key) id v) ws xs) where
    abbrev n : ℕ
    n = count_of key

    abbrev s : table.State Slot View
    s = last.0

    abbrev h : Ruled key s
    h = last.1.0

    none_due : worths s.views ≡ 0
    none_due = sym h.accounts.due ∙ h.settled id v last.1.1 over

    worthless : (j : ℕ) (z : View) → get_elem? s.views j ≡ some z → worth z ≡ 0
    worthless j z e = let le = worth_within s.views j z e in let none = none_due in omega (arith, le, none)

    none_left : h.owners ≡ []
    none_left = go h.owners h.only
      where
        no_owner : (x : ℕ) → Owned s.views x → ⊥
        no_owner x (by_pass j z e live is) =
            let some = (h.passes j z e).sits.fed live in let none = worthless j z e in absurd (omega (arith, some, none))
        no_owner x (by_maker j z kid e unborn is) =
            let some = (h.passes j z e).sits.feeds kid unborn in let none = worthless j z e in absurd (omega (arith, some, none))

        go : (xs : List ℕ) → Every (Owned s.views) xs → xs ≡ []
        go [] o = refl
        go (x ∷ xs) o = absurd (no_owner x o.0)

    no_roll : map h.seats h.owners ≡ []
    no_roll = ap (map h.seats) none_left

    all_handed : gathered h.tally s.views ≡ h.tally.notes
    all_handed = ap (λ ns. h.tally.notes ++ ns) (none_in_hand s.views none_due) ∙ append_nil h.tally.notes

    slot_at : (o : ℕ) → o < suc n → get_elem? xs o ≡ some (part_of n o h.tally h.shelves)
    slot_at o lt = go (h.places o lt)
      where
        go : PlaceOk n s h.holder (λ p. part_of n p h.tally h.shelves) o → get_elem? xs o ≡ some (part_of n o h.tally h.shelves)
        go (free y w0 home is) = last.4 o y home ∙ ap some is
        go (taken z w1 e t l) =
            let some = (h.passes (h.holder o) z e).busy t in let none = worthless (h.holder o) z e in absurd (omega (arith, some, none))

    pub last_slots : (ys : List Slot) (y : Slot) → ys ≡ take n xs → get_elem? xs n ≡ some y → LastSlots key ys y
    last_slots ys y are at =
        let reached = subst (λ ns. Reached key.program key.numbers key.limit h.count [] h.shelves (by_key ns)) all_handed
        (subst (λ r. Reached key.program key.numbers key.limit h.count r h.shelves (by_key (gathered h.tally s.views))) no_roll h.reached) in
        let many : length h.shelves ≡ n = how_many key h.count [] h.shelves (by_key h.tally.notes) reached in
        record {
          count = h.count;
          shelves = h.shelves;
          tally = h.tally;
          reached = reached;
          objects = are ∙ ap (λ k. take k xs) (sym many) ∙ objects_are h.shelves xs (λ o lt.
              slot_at o (omega (arith, lt, many)) ∙ ap (λ c. some (if c then slot.Roll h.tally else on_shelf (shelf_at h.shelves o)))
              (ne_eqb o n (λ e. absurd (omega (arith, lt, many, e)))));
          roll = some-injective y _ (sym at ∙ slot_at n (omega arith)
              ∙ ap (λ c. some (if c then slot.Roll h.tally else on_shelf (shelf_at h.shelves n))) (eq-eqb n n refl));
        }

  home_cells : (ss : List ObjectView) → ((o : ℕ) → is_out (shelf_at ss o).queue ≡ false) → map cells_in (map on_shelf ss) ≡
      map (λ (x : ObjectView). x.content) ss
  home_cells [] k = refl
  home_cells (s ∷ ss) k =
      ap (λ b. or_none (home_if b s.content) ∷ map cells_in (map on_shelf ss)) (k 0) ∙ ap (λ xs. s.content ∷ xs) (home_cells ss (λ o. k (suc o)))

  all_turns : (ss : List ObjectView) → map turns_at (map on_shelf ss) ≡ map (λ (x : ObjectView). x.turns) ss
  all_turns [] = refl
  all_turns (s ∷ ss) = ap (λ xs. s.turns ∷ xs) (all_turns ss)

  -- the turn lists in the slots are full
  pub full_turns : EndLaws key → (xs : List Slot) (y : Slot) → LastSlots key xs y
      → Full (abstracted key.program) key.numbers key.limit (turns_in (map turns_at xs))
  full_turns laws xs y l =
      subst (λ ts. Full (abstracted key.program) key.numbers key.limit (turns_in ts)) (sym (ap (map turns_at) l.objects ∙ all_turns l.shelves))
      (laws.reports.full l.count l.shelves (by_key l.tally.notes) l.reached)

  -- the report that is made of them is the meaning's
  pub reported : EndLaws key → (xs : List Slot) (y : Slot) → LastSlots key xs y → told_of (map cells_in xs) (map turns_at xs) (by_key (notes_in y))
      ≡ report (abstracted key.program) key.numbers key.limit (turns_in (map turns_at xs))
  reported laws xs y l =
      (λ i. told_of (map cells_in (l.objects i)) (map turns_at (l.objects i)) (by_key (notes_in (l.roll i))))
      ∙ ap (λ cs. told_of cs (map turns_at (map on_shelf l.shelves)) (by_key l.tally.notes)) (home_cells l.shelves at_home)
      ∙ ap (λ ts. told_of (map (λ (x : ObjectView). x.content) l.shelves) ts (by_key l.tally.notes)) (all_turns l.shelves)
      ∙ laws.reports.reports l.count l.shelves (by_key l.tally.notes) l.reached
      ∙ sym (ap (λ ts. report (abstracted key.program) key.numbers key.limit (turns_in ts)) (ap (map turns_at) l.objects ∙ all_turns l.shelves))
    where
      nobody_owns : (p : List ℕ) → Owner [] p → ⊥
      nobody_owns p o = let e = o.live in cc

      by_queue : (o : ℕ) (es : List Entry) → (shelf_at l.shelves o).queue ≡ es → is_out es ≡ false
      by_queue o [] e = refl
      by_queue o (d ∷ es) e = absurd (nobody_owns d.path (laws.owned.owner l.count [] l.shelves (by_key l.tally.notes) l.reached o 0 d (ap (λ q. slice_get q 0) e)))

      at_home : (o : ℕ) → is_out (shelf_at l.shelves o).queue ≡ false
      at_home o = by_queue o (shelf_at l.shelves o).queue refl
