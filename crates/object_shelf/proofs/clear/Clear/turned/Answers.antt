use Rattle.std.proofs.Common.{◌≡◌, ◌∙◌, ◌<◌, length, sym, subst, ap}
use Rattle.std.specs.Prelude.{slice_index_or}
use Rattle.jade_base.specs.declared.rights.Mode.{Mode}
use Rattle.jade_base.specs.declared.rights.Mode.TheVariants.{Reading, Writing, Commuting}
use Rattle.object_shelf.specs.declared.queue.Entry.{Entry}
use Rattle.object_shelf.specs.Shelves.{takes_out}
use Rattle.object_shelf.specs.Clear.{clear_for, out_many}
use Rattle.object_shelf.proofs.Clearing.{out-changed, set-at, alike, turned-clear}
use Rattle.object_shelf.proofs.clear.Clear.turned.Goals as goal

pub returns-then-is_alike : goal.returns-then-is_alike
returns-then-is_alike c = λ es e g w f r v q h.
    let own = set-at es c.args.place f c.index.result.now (subst (λ xs. c.args.place < length xs) q c.requires.place)
    (c.index.ensures ∙ ap (λ xs. slice_index_or xs c.args.place c.index.result.now) q) in
    let stays : (m : Mode) → clear_for m es ≡ clear_for m c.args.rows.now.items =
    λ m. turned-clear m es c.args.place e f g (alike m e f r (v c.if-is_alike.true)) ∙ ap (clear_for m) (sym q) in
    record {
      reading = h.reading ∙ stays Reading;
      writing = h.writing ∙ stays Writing;
      commuting = h.commuting ∙ stays Commuting;
      out = out-changed es c.args.place e f c.args.was_out (takes_out c.index.result.now.hold) c.args.self.now.out c.out_changed-self.result g w
          (ap (λ (x : Entry). takes_out x.hold) (sym own)) h.out c.out_changed-self.ensures.same c.out_changed-self.ensures.more
          c.out_changed-self.ensures.fewer ∙
          ap out_many (sym q);
    }
