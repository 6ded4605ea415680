use Rattle.std.proofs.Common.{◌∙◌, ap, refl, sym}
use Rattle.object_shelf.specs.Places.{keeper_before}
use Rattle.object_shelf.proofs.Places.{place-keeper}
use Rattle.object_shelf.proofs.Turns.{of-none, of-some}
use Rattle.object_shelf.proofs.shelf.Shelf.hand_out.Goals as goal

pub returns-in-Some-clause-answer : goal.returns-in-Some-clause-answer
returns-in-Some-clause-answer c =
    let p = c.args.path.now in
    let m = c.args.mode in
    let es = c.args.self.now.queue in (
      refl,
      c.in-Some.entry.now,
      place-keeper p m es ∙ ap (λ n. keeper_before n m es) (sym c.place-place.ensures) ∙ c.in-Some.ensures,
      c.in_ok-copy-in-Some.ensures,
    )

pub returns-in-Some-2-clause-answer : goal.returns-in-Some-2-clause-answer
returns-in-Some-2-clause-answer c =
    let p = c.args.path.now in
    let m = c.args.mode in
    let es = c.args.self.now.queue in
    let got = of-some c.in_ok-content.field-0 _ _ c.in-Some-2.content c.in-Some-2.is c.in_ok-content.ensures.got in
    (place-keeper p m es ∙ ap (λ n. keeper_before n m es) (sym c.place-place.ensures) ∙ c.in-None.ensures, got.0, got.1, got.2)

pub returns-in-None-2-clause-answer : goal.returns-in-None-2-clause-answer
returns-in-None-2-clause-answer c =
    let p = c.args.path.now in
    let m = c.args.mode in
    let es = c.args.self.now.queue in
    let got = of-none c.in_ok-content.field-0 _ _ c.in-None-2.is c.in_ok-content.ensures.got in
    (got.1, place-keeper p m es ∙ ap (λ n. keeper_before n m es) (sym c.place-place.ensures) ∙ c.in-None.ensures, got.0)
