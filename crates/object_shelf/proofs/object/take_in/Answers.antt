use Rattle.std.proofs.Common.{◌≡◌, is_some, Some, None, MatchOption, subst, ap, sym, ◌∙◌}
use Rattle.object_shelf.specs.Views.{ShelfView}
use Rattle.object_shelf.specs.Homes.{hand_in, handed}
use Rattle.object_shelf.specs.Whole.{is_out}
use Rattle.object_shelf.proofs.Wholes.{taken-queue, taken-out}
use Rattle.object_shelf.proofs.Taking.{unheld}
use Rattle.object_shelf.proofs.object.take_in.Goals as goal

pub returns-clause-queue : goal.returns-clause-queue
returns-clause-queue c =
    let s = c.args.shelf.now in
    let p = c.args.path.now in
    let m = c.args.mode in
    let got : (hand_in p m s ≡ Some c.in-Some.content.cells) × (c.in-Some.content.mode ≡ m) × (c.take.new.self ≡ handed p m s) =
    subst (λ r. MatchOption r ((hand_in p m s ≡ None) × (c.take.new.self ≡ s))
    (λ d. (hand_in p m s ≡ Some d.cells) × (d.mode ≡ m) × (c.take.new.self ≡ handed p m s))) c.in-Some.is c.in_ok-content.ensures.got in
    ap (λ (t : ShelfView). t.queue) got.2 ∙ taken-queue p m s.queue s.home c.args.hand.now c.in-Some.content.cells got.0

pub returns-clause-out : goal.returns-clause-out
returns-clause-out c =
    let s = c.args.shelf.now in
    let p = c.args.path.now in
    let m = c.args.mode in
    let got : (hand_in p m s ≡ Some c.in-Some.content.cells) × (c.in-Some.content.mode ≡ m) × (c.take.new.self ≡ handed p m s) =
    subst (λ r. MatchOption r ((hand_in p m s ≡ None) × (c.take.new.self ≡ s))
    (λ d. (hand_in p m s ≡ Some d.cells) × (d.mode ≡ m) × (c.take.new.self ≡ handed p m s))) c.in-Some.is c.in_ok-content.ensures.got in
    ap is_some c.hold.ensures ∙ taken-out p m s.queue s.home c.args.hand.now c.in-Some.content c.in_ok-before.before.version got.0 got.1
    c.in_ok-before.ensures.before c.requires.out ∙ sym (ap (λ (t : ShelfView). is_out t.queue) got.2)

pub kept-requires : goal.kept-requires
kept-requires c = unheld c.args.mode c.args.path.now c.args.shelf.now.queue c.requires.may
