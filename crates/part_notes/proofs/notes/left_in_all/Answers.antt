use Rattle.std.proofs.Common.{rules, ◌≡◌, sym, ap, ◌∙◌, Some, None}
use Rattle.part_notes.specs.Families.{left_after}
use Rattle.part_notes.specs.Notes.{flat, in_chunk}
use Rattle.part_notes.proofs.Families.{left_past_all, none_past_all}
use Rattle.part_notes.proofs.notes.left_in_all.Goals as goal

pub loop-chunk-preserved : goal.loop-chunk-preserved
loop-chunk-preserved c =
    let here : left_after c.loop-chunk.left (in_chunk c.in-Some.chunk.now) ≡ Some c.in_ok-left.left = search rules in (
      c.loop-chunk.invariant.0,
      c.loop-chunk.invariant.1,
      sym (left_past_all c.loop-chunk.left (in_chunk c.in-Some.chunk.now) (flat c.next.new.self) c.in_ok-left.left here)
          ∙ ap (λ rest. left_after c.loop-chunk.left (flat rest)) (sym c.in-Some.ensures.steps) ∙ c.loop-chunk.invariant.2,
    )

pub returns-in_err-left : goal.returns-in_err-left
returns-in_err-left c =
    let here : left_after c.loop-chunk.left (in_chunk c.in-Some.chunk.now) ≡ None = search rules in
    let none : c.from_residual.result ≡ None = search rules in
    none ∙ sym (none_past_all c.loop-chunk.left (in_chunk c.in-Some.chunk.now) (flat c.next.new.self) here)
    ∙ ap (λ rest. left_after c.loop-chunk.left (flat rest)) (sym c.in-Some.ensures.steps) ∙ c.loop-chunk.invariant.2
