use Rattle.std.proofs.Common.{◌∙◌, ap, sym, map}
use Rattle.std.specs.Prelude.{option_to_list}
use Rattle.waiting_line.specs.Lines.{in_order}
use Rattle.waiting_line.proofs.Placing.{order_begin}
use Rattle.waiting_line.proofs.line.Line.take_last.Goals as goal

pub invariant_of-self : goal.invariant_of-self
invariant_of-self g c =
    order_begin g.T.OnPath.task c.pop_back.new.self.items (option_to_list c.pop_back.result)
    (ap (λ xs. in_order (map g.T.OnPath.task xs)) (sym c.pop_back.ensures.items) ∙ c.self.invariant)
