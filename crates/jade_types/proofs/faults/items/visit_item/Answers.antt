use Rattle.std.proofs.Common.{ap, ◌∙◌}
use Rattle.std.proofs.lemmas.Result.{on_ok_weaker}
use Rattle.std.specs.Option.{option_map}
use Rattle.jade_syntax.specs.StaticFaults.{found, is_known, item_known, item_names}
use Rattle.jade_types.specs.steps.Meanings.{meant}
use Rattle.jade_types.proofs.Blocks.{known_by}
use Rattle.jade_types.proofs.Counting.{item_passed, declared_more}
use Rattle.jade_types.proofs.Naming.{found_item}
use Rattle.jade_types.proofs.faults.items.visit_item.Goals as goal

pub returns : goal.returns
returns c = λ before h.
    let i = c.args.item.now in
    let x = (item_known i).name in
    let named = c.bytes-name.ensures ∙ c.name_of.ensures in
    on_ok_weaker _ (λ more.
    item_passed c.place_of-pos.result c.is_some.result c.count-exceeds.result c.place_of-pos.ensures
    (c.is_some.ensures ∙ known_by c.get.result _
    (ap (option_map meant) c.get.ensures ∙ found_item c.bytes-name.result.now c.args.known.now ∙ ap (found c.bytes-name.result.now) h.names)
    ∙ ap (λ y. is_known (found y (item_names before))) named)
    (c.count-exceeds.ensures.told before h.left) h (c.declares.ensures x (item_names before)) c.note_when.ensures c.visit_amounts.ensures
    (declared_more c.args.known.now _ before i _ _ named c.meaning_of.ensures h.names more) (c.count-exceeds.ensures.counted before)) c.declare.ensures
