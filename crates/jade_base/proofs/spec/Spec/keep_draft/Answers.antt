use Rattle.std.proofs.Common.{map, ap, sym, subst}
use Rattle.jade_base.specs.Specification.{IsAscending, IsUncommuting, kept, shown_all}
use Rattle.jade_base.proofs.Drafts.{IsAscending-kept, is-settled}
use Rattle.jade_base.proofs.Uncommuting.{kept_plain}
use Rattle.jade_base.proofs.spec.Spec.keep_draft.Goals as goal

pub invariant_of-self : goal.invariant_of-self
invariant_of-self c =
    let xs = c.self.inside.entries.items in
    let drafts = map (λ e. e.draft) xs in (
      subst (λ es. IsAscending es) (sym (ap (λ s. s.entries) c.keep.ensures)) (IsAscending-kept (shown_all xs) drafts c.self.invariant.0),
      λ q. is-settled c.keep.new.entries.items (kept (shown_all xs) drafts) c.keep.ensures,
      λ q. subst IsUncommuting (sym c.keep.ensures) (kept_plain (shown_all xs) drafts (c.self.invariant.2 q).drafts),
    )
