use Rattle.jade_syntax.proofs.shapes.measure.item_extent.Goals as goal

pub returns-in-Input : goal.returns-in-Input
returns-in-Input c = rw c.in-Input.is (c.then.ensures.of c.signs.ensures c.name.ensures)

pub returns-in-Family : goal.returns-in-Family
returns-in-Family c = rw c.in-Family.is
    (c.then-in-Family-3.ensures.of (c.then-in-Family-2.ensures.of (c.then-in-Family.ensures.of c.signs-in-Family.ensures c.name-in-Family.ensures)
    (c.in_brackets-members.ensures.of c.number-in-Family.ensures)) c.number-in-Family-2.ensures)
