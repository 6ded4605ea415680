use Rattle.jade_types.proofs.Counting.{input_more, single_more, family_more}
use Rattle.jade_types.proofs.faults.items.Room.after.Goals as goal

pub returns-in-Input : goal.returns-in-Input
returns-in-Input c = λ items h. input_more items c.args.self h c.args.item.now _ _ c.less.result c.in-Input.is c.less.ensures

pub returns-in-Single : goal.returns-in-Single
returns-in-Single c = λ items h.
    single_more items c.args.self h c.args.item.now _ _ c.in-Single.size _ _ c.cells_of.result c.in-Single.is c.cells_of.ensures.value
    c.less-in-Single.ensures c.less-in-Single-2.ensures

pub returns-in-Family : goal.returns-in-Family
returns-in-Family c = λ items h.
    family_more items c.args.self h c.args.item.now _ _ c.in-Family.count c.in-Family.size _ _ c.members_of-members.result c.cells_of-in-Family.result
    c.in-Family.is c.members_of-members.ensures.value c.cells_of-in-Family.ensures.value c.less-in-Family.ensures c.less-in-Family-2.ensures
