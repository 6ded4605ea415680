use Rattle.std.proofs.Common.{◌+◌, ◌++◌, ap, sym, ◌∙◌, map, drop}
use Rattle.jade_syntax.specs.Objects.{sizes}
use Rattle.jade_meaning.specs.Serial.{zeros}
use Rattle.jade_syntax.proofs.Limits.{drop_item}
use Rattle.jade_meaning.proofs.Cells.{more_objects}
use Rattle.jade_meaning.proofs.run_state.Store.zeroed.Goals as goal

pub loop-i-preserved : goal.loop-i-preserved
loop-i-preserved c =
    let items = c.args.items.now in
    let i = c.loop-i.i in
    let x = c.at.result.now in
    more_objects (map (λ v. v.items) c.loop-i.objects.items) (map (λ v. v.items) c.add_objects.new.objects.items) x
    (drop (i + 1) items) c.objects_of-count.result.0 c.objects_of-count.result.1 (zeros (sizes items)) c.in_ok-add_objects.ensures
    (c.objects_of-count.ensures.sizes (drop (i + 1) items)) (ap (λ l. map (λ v. v.items) c.loop-i.objects.items ++ zeros (sizes l))
    (sym (drop_item items i x c.at.ensures)) ∙ c.loop-i.invariant)
