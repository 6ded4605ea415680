use Rattle.jade_meaning.proofs.Cells.{one_more_object}
use Rattle.jade_meaning.proofs.run_state.add_objects.Goals as goal

pub loop-preserved : goal.loop-preserved
loop-preserved c = one_more_object (λ v. v.items) c.args.objects.now.items c.loop.objects.items c.push.new.self.items c.in_ok-from_elem.field-0 c.loop.counter
    c.args.size c.in_ok-push.ensures.items (c.in_ok-from_elem.ensures.items_if_clones_equal (λ y h. h)) c.loop.invariant
