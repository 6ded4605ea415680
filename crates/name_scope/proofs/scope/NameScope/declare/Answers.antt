use Rattle.std.proofs.Common.{◌≡◌, length, arith}
use Rattle.std.specs.Prelude.{reverse}
use Rattle.std.proofs.lemmas.List.{length-reverse}
use Rattle.name_scope.specs.declared.scope.Entry.{Entry}
use Rattle.name_scope.proofs.Kept.{last_first, kept_more}
use Rattle.name_scope.proofs.scope.NameScope.declare.Goals as goal

pub invariant_of-self-in-Ok : goal.invariant_of-self-in-Ok
invariant_of-self-in-Ok g c =
    let before = c.self.inside.entries.items in
    let entry : Entry g.row.V.Denot = record { name = c.args.name; value = c.args.value; hidden = c.place_of-hidden.result } in
    let counted : c.len-place.result ≡ length (reverse before) = omega (arith, c.len-place.ensures, c.self.inside.entries.ok.0, length-reverse before) in
    rw c.in_ok-push.ensures.items (rw (last_first before entry) (kept_more (reverse before) entry c.len-place.result counted
    c.place_of-hidden.ensures c.in-Ok.ensures.updates.0 c.self.invariant))
