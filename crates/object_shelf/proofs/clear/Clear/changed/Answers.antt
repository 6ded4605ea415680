use Rattle.std.proofs.Common.{◌∙◌, ◌<◌, length, sym, subst, ap}
use Rattle.std.specs.Prelude.{slice_index_or}
use Rattle.object_shelf.specs.declared.queue.Entry.{Entry}
use Rattle.object_shelf.specs.Shelves.{takes_out}
use Rattle.object_shelf.specs.Clear.{out_many}
use Rattle.object_shelf.proofs.Clearing.{out-changed, set-at}
use Rattle.object_shelf.proofs.clear.Clear.changed.Goals as goal

pub returns : goal.returns
returns c = λ es e g w f q h.
    let own = set-at es c.args.place f c.index.result.now (subst (λ xs. c.args.place < length xs) q c.requires.place)
    (c.index.ensures ∙ ap (λ xs. slice_index_or xs c.args.place c.index.result.now) q) in
    record {
      reading = c.clear_changed-self.ensures es f q h.reading;
      writing = c.clear_changed-self-2.ensures es f q h.writing;
      commuting = c.clear_changed-self-3.ensures es f q h.commuting;
      out = out-changed es c.args.place e f c.args.was_out (takes_out c.index.result.now.hold) c.args.self.now.out c.out_changed-self.result g w
          (ap (λ (x : Entry). takes_out x.hold) (sym own)) h.out c.out_changed-self.ensures.same c.out_changed-self.ensures.more
          c.out_changed-self.ensures.fewer ∙
          ap out_many (sym q);
    }
