use Rattle.std.proofs.Common.{◌≡◌, ◌++◌, map, ap, sym, ◌∙◌, append_assoc, Some}
use Rattle.std.specs.Prelude.{slice_set}
use Rattle.jade_base.specs.Rights.{no_rights, mode_of}
use Rattle.jade_meaning.specs.Specification.{Specification, rights_on, commuting_on}
use Rattle.jade_meaning.specs.Talk.{Task, take_in}
use Rattle.jade_meaning.specs.declared.holds.Listing.TheVariants.{StartTakes}
use Rattle.jade_meaning.specs.steps.Holding.{event_of, events_of, all_listed}
use Rattle.jade_meaning.proofs.Starting.{start_none, start_some, on_ok}
use Rattle.jade_meaning.proofs.holds.tell_start.Goals as goal

pub returns-in-None : goal.returns-in-None
returns-in-None c =
    let spec = c.args.spec.now in
    on_ok c.tell.result (λ h t. h t ∙ ap (λ l. map (event_of t) c.args.events.now.items ++ l) (start_none spec c.args.none.now
    (sym c.commuting_on.ensures ∙ c.in-None.is))) c.tell.ensures

pub returns-in_ok-id-in-Some : goal.returns-in_ok-id-in-Some
returns-in_ok-id-in-Some c =
    let spec = c.args.spec.now in
    let own = c.in-Some.own in
    let others : Specification = c.in_ok-others-in-Some.others in
    let first = c.args.events.now.items in
    let told = c.tell-in-Some.new.events.items in
    let e : others ≡ slice_set spec own no_rights = c.in_ok-others-in-Some.ensures in
    let f : (t : Task) → map (event_of t) told ≡ map (event_of t) first ++ all_listed StartTakes others others c.args.none.now = c.in_ok-tell-in-Some.ensures in
    let m : c.mode_of.result ≡ mode_of (rights_on spec own) = c.mode_of.ensures ∙ ap mode_of c.on.ensures in
    let i : c.in_ok-id-in-Some.id.0 ≡ own = c.in_ok-id-in-Some.ensures in
    let g : (t : Task) → events_of t c.take_in.result ≡ take_in (mode_of (rights_on spec own)) own = λ t. c.take_in.ensures t
    ∙ ap (λ x. take_in x c.in_ok-id-in-Some.id.0) m ∙ ap (take_in (mode_of (rights_on spec own))) i in
    let k : commuting_on spec ≡ Some own = sym c.commuting_on.ensures ∙ c.in-Some.is in
    on_ok c.add.result (λ h t. h t ∙ ap (λ l. map (event_of t) told ++ l) (g t) ∙ ap (λ l. l ++ take_in (mode_of (rights_on spec own)) own) (f t)
    ∙ append_assoc (map (event_of t) first) (all_listed StartTakes others others c.args.none.now) (take_in (mode_of (rights_on spec own)) own)
    ∙ ap (λ l. map (event_of t) first ++ l) (ap (λ (s : Specification). all_listed StartTakes s s c.args.none.now ++ take_in (mode_of (rights_on spec own)) own) e
    ∙ start_some spec own c.args.none.now k)) c.add.ensures
