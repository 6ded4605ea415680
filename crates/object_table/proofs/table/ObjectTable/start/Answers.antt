use Rattle.std.proofs.Common.{rules, ◌≡◌, suc, length, ◌∙◌, ap, sym}
use Rattle.std.specs.Prelude.{replicate}
use Rattle.jade_syntax.specs.Objects.{sizes}
use Rattle.object_table.specs.Views.{count_of, word_of}
use Rattle.object_table.specs.steps.Kept.{FirstSlots}
use Rattle.object_table.specs.declared.slot.Slot.TheVariants as slot
use Rattle.object_table.specs.Tallies.{opened}
use Rattle.object_table.proofs.Starts.{starts, slots_length, repeated}
use Rattle.object_table.proofs.table.ObjectTable.start.Goals as goal

pub new-requires : goal.new-requires
new-requires c =
    let key = c.args.plan.now in
    let xs = c.in_ok-slots.slots.items in
    let ws = c.as_slice.result.now in
    let f : FirstSlots (sizes key.program.items) xs = search rules in
    let deep : length xs ≡ suc (count_of key) = ap length f.is ∙ slots_length (sizes key.program.items) (slot.Roll opened) in
    let are : ws ≡ replicate (word_of (length xs)) 0 = search rules in
    starts key ws xs f (are ∙ ap (λ n. replicate (word_of n) 0) deep)

pub invariant_of-result : goal.invariant_of-result
invariant_of-result c =
    let key = c.args.plan.now in
    let xs = c.in_ok-slots.slots.items in
    let ws = c.as_slice.result.now in
    let ok = c.in-Ok.ensures.ok in
    let f : FirstSlots (sizes key.program.items) xs = search rules in
    let deep : length xs ≡ suc (count_of key) = ap length f.is ∙ slots_length (sizes key.program.items) (slot.Roll opened) in
    let are : ws ≡ replicate (word_of (length xs)) 0 = search rules in
    record {
      wide = ok.0 ∙ ap length are ∙ repeated (word_of (length xs)) ∙ ap word_of (sym ok.1);
      few = search rules;
      deep = ok.1 ∙ deep ∙ sym (ap (λ k. suc (count_of k)) ok.5);
    }
