-- Of two passes that hold an object, one for writing or for commuting, the other reads it and stands before.
use Rattle.std.proofs.Common.{◌≡◌, ℕ, true, false, List, Option, Some, None, refl, sym, ap, ◌∙◌, arith}
use Rattle.std.specs.Prelude.{is_some}
use Rattle.jade_base.specs.Held.{Held}
use Rattle.jade_base.specs.declared.rights.Mode.{Mode}
use Rattle.jade_base.specs.declared.rights.Mode.TheVariants.{Reading, Writing, Commuting}
use Rattle.object_shelf.specs.declared.queue.Entry.{Entry}
use Rattle.object_shelf.specs.Views.{ObjectView}
use Rattle.object_shelf.specs.Shelves.{same_path, find, takes_out}
use Rattle.schedule_core.specs.ByNumber.{shelf_at}
use Rattle.schedule_core.specs.Soundness.{HeldAlone}
use Rattle.schedule_core.specs.Tells.{CoreTells}
use Rattle.jade_meaning.specs.Plan.{RunPlan}
use Rattle.object_table.specs.Apart.{HeldApart}
use Rattle.object_table.specs.Views.{count_of, core_notes, gathered}
use Rattle.object_table.specs.Touches.{held_at}
use Rattle.object_table.specs.Rule.{HeldOk, nothing, owns, sees, pass_of}
use Rattle.object_table.proofs.Quiet.{on, far_off}

-- the entry of what is held
record Entered (p : List ℕ) (x : ObjectView) (c : Held) : Type 0 where
  entry : Entry
  there : find p x.queue ≡ Some entry
  hold : entry.hold ≡ Some c.mode

same_mode : (d c : Held) (h : Option Held) → h ≡ Some d → h ≡ Some c → d.mode ≡ c.mode
same_mode d c h a b = let e : ◌≡◌ {A = Option Held} (Some d) (Some c) = sym a ∙ b in cc

held_by : (p : List ℕ) (x : ObjectView) (h : Option Held) (c : Held) → h ≡ Some c → HeldOk p x h → Entered p x c
held_by p x h c is (nothing empty none_held) = absurd (let e : ◌≡◌ {A = Option Held} None (Some c) = sym empty ∙ is in cc)
held_by p x h c is (owns d e same there hold out version content) = record { entry = e; there = there; hold = hold ∙ ap Some (same_mode d c h same is) }
held_by p x h c is (sees d e same there hold out version) = record { entry = e; there = there; hold = hold ∙ ap Some (same_mode d c h same is) }

only_reads : (m : Mode) → (takes_out (Some m) ≡ true → ⊥) → m ≡ Reading
only_reads Reading f = refl
only_reads Writing f = absurd (f refl)
only_reads Commuting f = absurd (f refl)

pub held_apart : (key : RunPlan) → CoreTells key.program key.numbers key.limit → HeldAlone key.program key.numbers key.limit → HeldApart key
held_apart key tells alone = record {
  apart = λ s h i j v w ne at_v at_w live_v live_w o c d has_c has_d out.
      let n = count_of key in
      let a = held_by v.seat.path (shelf_at h.shelves o) (held_at o v.held) c has_c (((h.passes i v at_v).sits.held live_v).each o) in
      let b = held_by w.seat.path (shelf_at h.shelves o) (held_at o w.held) d has_d (((h.passes j w at_w).sits.held live_w).each o) in
      let off : same_path w.seat.path v.seat.path ≡ false =
      far_off n key s h i v at_v live_v tells (pass_of j) w.seat (λ e. ne (omega (arith, e))) (on n key s h j w at_w live_w) in
      let out_a : takes_out a.entry.hold ≡ true = ap takes_out a.hold ∙ out in
      let one = λ (q : takes_out (Some d.mode) ≡ true).
      alone.one h.count _ h.shelves (core_notes (gathered h.tally s.views)) h.reached o w.seat.path v.seat.path b.entry a.entry b.there (ap takes_out b.hold ∙ q) a.there out_a in
      let before = alone.readers h.count _ h.shelves (core_notes (gathered h.tally s.views)) h.reached o w.seat.path v.seat.path b.entry a.entry off b.there
      (ap is_some b.hold) a.there out_a in
      record { reads = only_reads d.mode (λ q. let f : false ≡ true = sym off ∙ one q in absurd (cc)); earlier = before.earlier };
}
