-- A turn is left with nothing done, after the pass's touches.
use Rattle.std.proofs.Common.{◌≡◌, ℕ, true, ◌∷◌, set, refl, sym, ap, ◌∙◌, subst, eq-eqb}
use Rattle.std.specs.Prelude.{nat_eq, if◌then◌else◌}
use mathlib.Core.Logic.{dite}
use mathlib.Core.Option.{none, some}
use native.Mathlib.Decide.{ℕ_discrete}
use lib.ListN.{get_elem?}
use Rattle.atomic_table.specs.Table as table
use Rattle.atomic_table.specs.Table.{Me, step, gives, Allows, rest}
use Rattle.atomic_table.proofs.Lists.{set_here}
use Rattle.object_shelf.specs.Views.{ShelfView}
use Rattle.schedule_core.specs.ByNumber.{shelf_at}
use Rattle.schedule_core.specs.Tells.{CoreTells}
use Rattle.jade_meaning.specs.Plan.{RunPlan}
use Rattle.object_table.specs.Views.{count_of, word_of, View, shelf_of}
use Rattle.object_table.specs.Touches.{passed, all_touches}
use Rattle.object_table.specs.Rule.{Ruled, Shown}
use Rattle.object_table.specs.Plays.{Seen, turned_off, left_as_it_was}
use Rattle.object_table.specs.declared.slot.Slot.{Slot}
use Rattle.object_table.specs.declared.slot.Slot.TheVariants as slot
use Rattle.object_table.proofs.Lists.{at_inside}
use Rattle.object_table.proofs.Goes.{desisted}
use Rattle.object_table.proofs.Quiet.{lives, found}
use Rattle.object_table.proofs.Touching.{passing, passed_same}

-- an object that a live pass found in its turn is what the core shows of it
pub seen : (n : ℕ) (key : RunPlan) (s : table.State Slot View) (h : Shown n key s) (id : ℕ) (v : View) (at_v : get_elem? s.views id ≡ some v)
    → v.live ≡ true → v.turn ≡ true → (x : ShelfView) → v.note ≡ slot.Object x → Seen v.place x v
seen n key s h id v at_v alive turn x note = record { core = lives n key s h id v at_v alive; is = go }
  where
    part : v.note ≡ (if nat_eq v.place n then slot.Roll h.tally else slot.Object (shelf_of (shelf_at h.shelves v.place)))
    part = ((h.passes id v at_v).turn turn).found

    is_roll : v.place ≡ n → slot.Object x ≡ slot.Roll h.tally
    is_roll e = sym note ∙ part ∙ ap (λ z. if z then slot.Roll h.tally else slot.Object (shelf_of (shelf_at h.shelves v.place))) (eq-eqb v.place n e)

    no_roll : slot.Object x ≡ slot.Roll h.tally → ⊥
    no_roll e = cc

    same : slot.Object x ≡ slot.Object (shelf_of (shelf_at h.shelves v.place)) → x ≡ shelf_of (shelf_at h.shelves v.place)
    same e = cc

    go : x ≡ shelf_of (shelf_at h.shelves v.place)
    go = dite (ℕ_discrete v.place n)
        (λ e. absurd (no_roll (is_roll e)))
        (λ ne. same (sym note ∙ part ∙ found n key s h id v at_v alive v.place ne))

-- a turn left with nothing changed
pub desisting : (key : RunPlan) (slots id o : ℕ) (me : Me Slot View) (new : Slot)
    → ((x : ShelfView) → me.0.note ≡ slot.Object x → CoreTells key.program key.numbers key.limit) → me.0.turn ≡ true → me.0.place ≡ o
    → me.1 ≡ (o, new) ∷ rest me.1 → new ≡ me.0.note
    → Allows (Ruled key) slots id me (word_of o) (λ x. 0) (λ x. left_as_it_was (step slots (word_of o) 0 0 none) me 0)
desisting key slots id o me new tells turn place has same s h _ at _ =
    (turned_off me.0, gives, tt, desisted (count_of key) key s h id me.0 at o turn place me.1 new has same, (refl, told))
  where
    told : (k : ℕ) → all_touches k me.0 ≡ true → me.0.live ≡ true → (x : ShelfView) → me.0.note ≡ slot.Object x → Seen me.0.place x (passed k me.0)
    told k all alive x note =
        let v = passed k me.0 in
        let is = passed_same k me.0 in
        let s' : table.State Slot View = record { words = s.words; homes = s.homes; views = set s.views id v } in
        let h' : Ruled key s' = passing (count_of key) key s h id me.0 at alive (tells x note) k all in
        subst (λ i. Seen i x v) is.place
        (seen (count_of key) key s' h' id v (set_here s.views id v (at_inside s.views id me.0 at)) (is.live ∙ alive) (is.turn ∙ turn) x (is.note ∙ note))
