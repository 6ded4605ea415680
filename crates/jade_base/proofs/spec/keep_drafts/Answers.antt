use Rattle.std.proofs.Common.{arith, rules}
use Rattle.std.proofs.lemmas.List.Edits.{map_over_more}
use Rattle.std.proofs.lemmas.List.Elements.{filter_from_retain}
use Rattle.jade_base.specs.Rights.{has_rights}
use Rattle.jade_base.proofs.Drafts.{with_draft_kept}
use Rattle.jade_base.specs.declared.spec.Entry.{Entry}
use Rattle.jade_base.proofs.Drafts.{changed-all, settled-kept}
use Rattle.jade_base.proofs.spec.keep_drafts.Goals as goal

pub loop-i-preserved : goal.loop-i-preserved
loop-i-preserved c =
    map_over_more with_draft_kept c.args.entries.now.items c.loop-i.entries.items c.loop-i.i c.index-entry.result.now (omega arith) c.loop-i.invariant
    c.index-entry.ensures

pub returns : goal.returns
returns c =
    let left = filter_from_retain _ (λ (e : Entry). has_rights e.rights) (λ p x b q k. search rules) _ _ _ c.retain.ensures.filtered in
    rw (left, changed-all with_draft_kept c.args.entries.now.items c.loop-i.entries.items c.loop-i.i c.loop-i.invariant (omega arith))
    (settled-kept c.args.entries.now.items)
