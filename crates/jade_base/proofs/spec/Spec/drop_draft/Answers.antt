use Rattle.std.proofs.Common.{ap, sym, subst}
use Rattle.jade_base.specs.Specification.{IsAscending, IsUncommuting, shown_all}
use Rattle.jade_base.proofs.Drafts.{is-settled}
use Rattle.jade_base.proofs.Uncommuting.{settled_plain}
use Rattle.jade_base.proofs.spec.Spec.drop_draft.Goals as goal

pub invariant_of-self : goal.invariant_of-self
invariant_of-self c =
    let e = ap (λ s. s.entries) c.settle.ensures in (
      subst (λ es. IsAscending es) (sym e) c.self.invariant.0,
      λ q. is-settled c.settle.new.entries.items (shown_all c.self.inside.entries.items) c.settle.ensures,
      λ q. subst IsUncommuting (sym c.settle.ensures) (settled_plain (shown_all c.self.inside.entries.items) (c.self.invariant.2 q).rights),
    )
