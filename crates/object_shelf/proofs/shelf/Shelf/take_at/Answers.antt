use Rattle.std.proofs.Common.{◌≡◌, Some, None, subst, ◌∙◌}
use Rattle.object_shelf.specs.Views.{ShelfView}
use Rattle.object_shelf.specs.Shelves.{place_in}
use Rattle.object_shelf.specs.Homes.{hand_in, handed, home_of}
use Rattle.object_shelf.proofs.Turns.{undone, same-shelf, of-none, of-some}
use Rattle.object_shelf.proofs.Handing.{none-handed, one-handed}
use Rattle.object_shelf.proofs.shelf.Shelf.take_at.Goals as goal

pub returns-in-Ok-None-clause-got : goal.returns-in-Ok-None-clause-got
returns-in-Ok-None-clause-got c =
    let p = c.args.path.now in
    let m = c.args.mode in
    let s : ShelfView = record { queue = c.self.inside.queue; home = home_of c.self.inside.home; turns = c.self.inside.turns } in
    let t : ShelfView = record { queue = c.take_in.new.queue; home = home_of c.take_in.new.home; turns = c.unturn.new.turns } in
    let g = of-none c.in-Ok-None.field-0 _ _ c.in-Ok-None.field-0-is c.in-Ok-None.ensures.got in
    subst (λ (z : ShelfView). c.args.place ≡ place_in p z.queue → (hand_in p m z ≡ None) × (t ≡ z)) c.self.view_is
    (λ q. none-handed p m c.args.place s t q g.0 g.1 g.2
    (undone p m c.self.inside.turns c.turn.new.turns c.unturn.new.turns c.in_ok-turn.ensures.done c.unturn.ensures)) c.requires

pub returns-in-Ok-Some-clause-got : goal.returns-in-Ok-Some-clause-got
returns-in-Ok-Some-clause-got c =
    let p = c.args.path.now in
    let m = c.args.mode in
    let s : ShelfView = record { queue = c.self.inside.queue; home = home_of c.self.inside.home; turns = c.self.inside.turns } in
    let t : ShelfView = record { queue = c.take_in.new.queue; home = home_of c.take_in.new.home; turns = c.turn.new.turns } in
    let xs = c.in-Ok-Some.content.cells in
    let g = of-some c.in-Ok-Some.field-0 _ _ c.in-Ok-Some.content c.in-Ok-Some.field-0-is c.in-Ok-Some.ensures.got in
    let made = subst (λ (z : ShelfView). c.args.place ≡ place_in p z.queue → (hand_in p m z ≡ Some xs) × (t ≡ handed p m z)) c.self.view_is
    (λ q. one-handed p m c.args.place s t xs q g.0 g.2 g.3 c.in_ok-turn.ensures.done) c.requires in
    (made.0, g.1, made.1)

pub returns-in-Err-clause-unchanged : goal.returns-in-Err-clause-unchanged
returns-in-Err-clause-unchanged c =
    same-shelf _ _ c.in-Err.ensures.unmoved c.in-Err.ensures.unchanged (undone c.args.path.now c.args.mode c.self.inside.turns c.turn.new.turns
    c.unturn-in-Err.new.turns c.in_ok-turn.ensures.done c.unturn-in-Err.ensures) ∙ c.self.view_is
