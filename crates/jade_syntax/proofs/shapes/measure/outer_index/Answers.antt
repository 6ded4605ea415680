use Rattle.jade_syntax.proofs.shapes.measure.outer_index.Goals as goal

pub returns-in-Some : goal.returns-in-Some
returns-in-Some c = rw c.in-Some.is (c.in_brackets.ensures.of c.outermost.ensures)
