-- A pass notes a part that its task has ended.
use Rattle.std.proofs.Common.{◌≡◌, ℕ, suc, ◌≤◌, List, [], ◌∷◌, ◌++◌, set, length, refl, sym, ap, ◌∙◌, subst, arith, append_assoc}
use mathlib.Core.Option.{some}
use lib.ListN.{get_elem?}
use Rattle.atomic_table.specs.Table as table
use Rattle.object_shelf.specs.Views.{ObjectView}
use Rattle.schedule_core.specs.declared.steps.Seat.{Seat}
use Rattle.schedule_core.specs.Plain.{Reached}
use Rattle.task_roll.specs.declared.note.PartNote.{PartNote}
use Rattle.task_roll.specs.Rolls.{filed}
use Rattle.task_roll.proofs.Rolls.{by_key-last as by_key_last}
use Rattle.jade_meaning.specs.Plan.{RunPlan}
use Rattle.object_table.specs.Tallies.{most}
use Rattle.object_table.specs.Bags.{Mixed, chain}
use Rattle.object_table.specs.Views.{View, core_notes, worth, gathered, in_hand}
use Rattle.object_table.specs.Rule.{Accounts, Ruled}
use Rattle.object_table.specs.steps.Kept.{Laws}
use Rattle.object_table.specs.declared.slot.Slot.{Slot}
use Rattle.object_table.proofs.Bags.{mixed_same, mixed_front, mixed_is}
use Rattle.object_table.proofs.Purses.{hand_noted, worths_kept, worth_within}

length_more : (ns : List PartNote) (x : PartNote) → length (ns ++ x ∷ []) ≡ suc (length ns)
length_more [] x = refl
length_more (n ∷ ns) x = ap suc (length_more ns x)

module _ (key : RunPlan) (laws : Laws key) (s : table.State Slot View) (h : Ruled key s) (id : ℕ) (v w : View) (at_v : get_elem? s.views id ≡ some v)
    (x : PartNote) (is : w.notes ≡ v.notes ++ x ∷ []) (spent : v.tickets ≡ suc w.tickets) where
  abbrev told : List PartNote
  told = gathered h.tally s.views

  abbrev told2 : List PartNote
  told2 = gathered h.tally (set s.views id w)

  mixed : Mixed (told ++ x ∷ []) told2
  mixed = chain (mixed_is (append_assoc h.tally.notes (in_hand s.views) (x ∷ []))) (mixed_front h.tally.notes (hand_noted s.views id v w x at_v is))

  -- the notes of the core are those that were handed in and those in hand
  pub noted_on : (k : ℕ) (roll : List Seat) (ss : List ObjectView) → Reached key.program key.numbers key.limit k roll ss (filed x (core_notes told))
      → Reached key.program key.numbers key.limit k roll ss (core_notes told2)
  noted_on k roll ss r =
      let r2 = subst (λ ns. Reached key.program key.numbers key.limit k roll ss ns) (sym (by_key_last x told)) r in
      subst (λ ns. Reached key.program key.numbers key.limit k roll ss ns) (mixed_same mixed (laws.few.each k roll ss (told ++ x ∷ []) r2)) r2

  worth_same : worth w ≡ worth v
  worth_same = let l : length w.notes ≡ suc (length v.notes) = ap length is ∙ length_more v.notes x in omega (arith, l, spent)

  pub noted_accounts : Accounts h.tally (set s.views id w)
  noted_accounts = record { due = h.accounts.due ∙ sym (worths_kept s.views id v w at_v worth_same); room = h.accounts.room }

  -- there is room for the pass's notes
  pub noted_room : worth w ≤ most
  noted_room =
      let le = worth_within s.views id v at_v in
      let due = h.accounts.due in
      let room = h.accounts.room in
      let same = worth_same in
      omega (arith, le, due, room, same)
