use Rattle.std.proofs.Common.{ℕ, ap, sym, subst, ◌∙◌}
use Rattle.jade_base.specs.declared.place.ObjectId.{ObjectId}
use Rattle.jade_base.specs.Specification.{IsAscending, IsUncommuting, settled, shown_all}
use Rattle.jade_base.proofs.Drafts.{is-settled}
use Rattle.jade_base.proofs.Entries.{IsAscending-joined_in, rights_in-here, rights_in-elsewhere}
use Rattle.jade_base.proofs.Uncommuting.{joined_plain, left_false, right_false}
use Rattle.jade_base.proofs.spec.Spec.declare.Goals as goal

pub invariant_of-self-2 : goal.invariant_of-self-2
invariant_of-self-2 c =
    let e = ap (λ s. s.entries) c.settle.ensures ∙ c.in_ok-declare_among.ensures.joined in
    let old = shown_all c.self.inside.entries.items in (
      subst (λ es. IsAscending es) (sym e) (IsAscending-joined_in old c.args.object c.args.rights c.self.invariant.0),
      λ q. is-settled c.settle.new.entries.items _ c.settle.ensures,
      λ q. subst IsUncommuting (sym (c.settle.ensures ∙ ap settled c.in_ok-declare_among.ensures.joined))
          (joined_plain old c.args.object c.args.rights (sym c.is_there.ensures ∙ right_false c.self.inside.commuting c.is_there.result q)
          (c.self.invariant.2 (left_false c.self.inside.commuting c.is_there.result q)).rights),
    )

pub returns-clause-here : goal.returns-clause-here
returns-clause-here c =
    let e = ap (λ s. s.entries) c.settle.ensures ∙ c.in_ok-declare_among.ensures.joined in
    let view = ap (λ s. s.entries) c.self.view_is in
    rw (e, ← view) (rights_in-here (shown_all c.self.inside.entries.items) c.args.object c.args.rights c.self.invariant.0)

pub returns-clause-elsewhere : goal.returns-clause-elsewhere
returns-clause-elsewhere c =
    λ other differs.
    let e = ap (λ s. s.entries) c.settle.ensures ∙ c.in_ok-declare_among.ensures.joined in
    let view = ap (λ s. s.entries) c.self.view_is in
    let named : ℕ → ObjectId = λ n. record { 0 = n } in
    rw (e, ← view) (rights_in-elsewhere (shown_all c.self.inside.entries.items) c.args.object c.args.rights other (λ q. differs (ap named q)))
