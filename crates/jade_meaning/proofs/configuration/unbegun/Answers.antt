use Rattle.std.proofs.Common.{◌≡◌, ◌++◌, ◌∷◌, [], List, map, refl, ap, ◌∙◌, rules}
use Rattle.jade_meaning.specs.steps.Perform.{shown}
use Rattle.jade_meaning.specs.declared.frames.Frame.TheVariants.{Rest}
use Rattle.jade_meaning.specs.declared.configuration.Configuration.{Configuration}
use Rattle.jade_meaning.specs.declared.configuration.Stage.TheVariants.{Going}
use Rattle.jade_meaning.specs.declared.holds.PendingEvent.{PendingEvent}
use Rattle.jade_meaning.specs.declared.frames.Frame.{Frame}
use Rattle.jade_meaning.specs.Specification.{Specification}
use Rattle.jade_meaning.specs.Course.{Environment, Draft, Mine, NoDraft}
use Rattle.jade_meaning.specs.steps.Tallied.{Tallied}
use Rattle.jade_meaning.specs.Talk.{start_takes}
use Rattle.jade_meaning.specs.steps.Holding.{event_of}
use Rattle.jade_meaning.proofs.Listing.{start_is}
use Rattle.jade_meaning.proofs.Configurations.{begins_as}
use Rattle.jade_meaning.proofs.configuration.unbegun.Goals as goal

pub returns : goal.returns
returns c =
    let env = c.args.scope.now in
    let spec = c.args.spec.now in
    let t : Configuration = record {
      run = record {
        task = record { scope = c.in_ok-own.own; spec = c.in_ok-rights.rights; draft = c.absent.result; tally = c.start.result };
        frames =
            c.push.new.self;
        used = 0;
      };
      spec = c.in_ok-same.same;
      holds = c.in_ok-holds.holds;
      part = 0;
      pending = c.tell_start.new.events;
      newborn = c.nobody.result;
      stage = Going;
    } in
    let mine : Environment → Specification → Draft → Tallied → Mine = λ e g d k. record { env = e; spec = g; draft = d; taken = k.taken } in
    let empty : c.new-frames.result.items ≡ [] = search rules in
    let none : c.new-pending.result.items ≡ [] = search rules in
    λ vs. begins_as (shown c.args.setting.now) env spec c.args.body.now t (Rest c.args.body 0) (λ on. refl)
    (c.in_ok-push.ensures.items ∙ ap (λ (xs : List Frame). xs ++ Rest c.args.body 0 ∷ []) empty) refl
    (ap (λ x. mine x c.in_ok-rights.rights c.absent.result c.start.result) c.in_ok-own.ensures
    ∙ ap (λ x. mine env x c.absent.result c.start.result) c.in_ok-rights.ensures ∙ ap (λ x. mine env spec x c.start.result) c.absent.ensures
    ∙ ap (λ x. mine env spec NoDraft x) c.start.ensures)
    c.in_ok-same.ensures (c.in_ok-holds.ensures ∙ start_is spec) refl
    (λ w. c.in_ok-tell_start.ensures w ∙ ap (λ (xs : List PendingEvent). map (event_of w) xs ++ start_takes spec) none) refl vs
