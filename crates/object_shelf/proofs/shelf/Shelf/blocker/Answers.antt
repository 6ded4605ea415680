use Rattle.std.proofs.Common.{◌≡◌, ◌∙◌, subst, sym, ap, None, Some, MatchOption}
use Rattle.object_shelf.specs.Places.{keeper_before}
use Rattle.object_shelf.proofs.Places.{place-keeper}
use Rattle.object_shelf.proofs.shelf.Shelf.blocker.Goals as goal

pub returns : goal.returns
returns c =
    let p = c.args.path.now in
    let m = c.args.mode in
    let es = c.args.self.now.queue in
    subst (λ x. MatchOption c.keeper_at.result (x ≡ None) (λ e. x ≡ Some e.now))
    (ap (λ n. keeper_before n m es) c.place.ensures ∙ sym (place-keeper p m es)) c.keeper_at.ensures
