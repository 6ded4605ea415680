use Rattle.std.proofs.Common.{◌∙◌, ◌-◌, sym, ap}
use Rattle.object_shelf.specs.Clear.{out_many}
use Rattle.object_shelf.proofs.Clearing.{out-gone, out-kept, within-get}
use Rattle.object_shelf.proofs.clear.Clear.left.Goals as goal

pub returns-then-was_out : goal.returns-then-was_out
returns-then-was_out c = λ es e g w q h. let lt = within-get es c.args.place e g in
    record {
      reading = c.clear_left-self.ensures es q lt h.reading;
      writing = c.clear_left-self-2.ensures es q lt h.writing;
      commuting = c.clear_left-self-3.ensures es q lt h.commuting;
      out = ap (λ n. n - 1) h.out ∙ out-gone es c.args.place e g (w ∙ c.if-was_out.true) ∙ ap out_many (sym q);
    }

pub returns-else-was_out : goal.returns-else-was_out
returns-else-was_out c = λ es e g w q h. let lt = within-get es c.args.place e g in
    record {
      reading = c.clear_left-self.ensures es q lt h.reading;
      writing = c.clear_left-self-2.ensures es q lt h.writing;
      commuting = c.clear_left-self-3.ensures es q lt h.commuting;
      out = h.out ∙ out-kept es c.args.place e g (w ∙ c.if-was_out.false) ∙ ap out_many (sym q);
    }
