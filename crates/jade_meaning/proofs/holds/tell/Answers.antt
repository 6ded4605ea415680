use Rattle.std.proofs.Common.{◌≡◌, ◌++◌, ap, ◌∙◌, map, length, List, ℕ, arith}
use Rattle.std.specs.List.{flat_map}
use Rattle.jade_meaning.specs.Specification.{rights_on, numbers}
use Rattle.jade_meaning.specs.Talk.{Event, held}
use Rattle.jade_meaning.specs.steps.Holding.{event_of, listed}
use Rattle.jade_meaning.proofs.Listing.{told_more, listed_same}
use Rattle.jade_meaning.proofs.holds.tell.Goals as goal

pub loop-object-preserved : goal.loop-object-preserved
loop-object-preserved c =
    let f : ℕ → List Event = λ o. listed c.args.kind (rights_on c.args.old.now o) (rights_on c.args.new.now o) (held c.args.holds.now o) o in
    λ t. told_more (event_of t) f c.args.events.now.items c.loop-object.events.items c.add.new.events.items c.loop-object.object
    (c.in_ok-add.ensures t ∙ ap (λ xs. map (event_of t) c.loop-object.events.items ++ xs) (c.listed.ensures t
    ∙ listed_same c.args.kind _ _ _ _ _ _ _ _ c.on.ensures c.on-in-loop-object.ensures c.on-in-loop-object-2.ensures c.in_ok-id.ensures))
    (c.loop-object.invariant t)

pub returns : goal.returns
returns c =
    let f : ℕ → List Event = λ o. listed c.args.kind (rights_on c.args.old.now o) (rights_on c.args.new.now o) (held c.args.holds.now o) o in
    let e : c.loop-object.object ≡ length c.args.new.now = omega arith in
    λ t. c.loop-object.invariant t ∙ ap (λ k. map (event_of t) c.args.events.now.items ++ flat_map f (numbers 0 k)) e
