use Rattle.std.proofs.Common.{◌∙◌, sym, ap}
use Rattle.object_shelf.specs.Clear.{out_many}
use Rattle.object_shelf.proofs.Clearing.{out-entered}
use Rattle.object_shelf.proofs.clear.Clear.entered.Goals as goal

pub returns : goal.returns
returns c = λ es e q le h w. record {
  reading = c.clear_entered-self.ensures es e q le w.reading;
  writing = c.clear_entered-self-2.ensures es e q le w.writing;
  commuting = c.clear_entered-self-3.ensures es e q le w.commuting;
  out = w.out ∙ sym (out-entered es c.args.place e le h) ∙ ap out_many (sym q);
}
