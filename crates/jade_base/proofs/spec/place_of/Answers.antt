use Rattle.std.proofs.Common.{◌<◌, ◌≤◌, length, ltb, sym, ap, ◌∙◌, arith, rules}
use Rattle.std.proofs.lemmas.List.Sorted.{IsPartitionPoint-from_clause}
use Rattle.jade_base.specs.declared.spec.Entry.{Entry}
use Rattle.jade_base.proofs.Entries.{is-absent, is-there, parted, place_in-found}
use Rattle.jade_base.proofs.spec.place_of.Goals as goal
use Rattle.jade_base.proofs.spec.place_of.Goals.{else-place-len-via-then-place-len+else-index-object, else-place-len-via-else-place-len}

pub returns-then-index-object : goal.returns-then-index-object
returns-then-index-object c =
    let xs = c.args.entries.now.items in
    let ordered = parted xs c.args.object c.requires in
    let point = IsPartitionPoint-from_clause (λ (e : Entry). ltb e.object.0 c.args.object.0) xs _ c.partition_point-place.ensures.partitioned ordered
    (λ a r q k. search rules) in
    let bound : c.partition_point-place.result ≤ length xs = omega (arith, c.partition_point-place.ensures.bound) in
    let found = place_in-found xs c.args.object _ bound point in
    let within : c.partition_point-place.result < length xs = omega (arith, c.if-place-len.true) in
    is-there xs c.args.object _ c.index.result.now found within (sym (ap (λ t. t.object.0) c.index.ensures) ∙ c.if-index-object.true)

pub returns-else-place-len : goal.returns-else-place-len
returns-else-place-len c =
    let xs = c.args.entries.now.items in
    let ordered = parted xs c.args.object c.requires in
    let point = IsPartitionPoint-from_clause (λ (e : Entry). ltb e.object.0 c.args.object.0) xs _ c.partition_point-place.ensures.partitioned ordered
    (λ a r q k. search rules) in
    let bound : c.partition_point-place.result ≤ length xs = omega (arith, c.partition_point-place.ensures.bound) in
    let found = place_in-found xs c.args.object _ bound point in
    elim c.else-place-len.branch [
      | else-place-len-via-then-place-len+else-index-object w ↦
          is-absent xs c.args.object _ w.index.result.now found bound (λ k q. w.if-index-object.false (ap (λ t. t.object.0) w.index.ensures ∙ q))
      | else-place-len-via-else-place-len w ↦ (found, bound, λ d k. absurd (omega (arith, k, w.if-place-len.false)))
    ]
