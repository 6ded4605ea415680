use Rattle.std.proofs.Common.{◌<◌, ◌∙◌, length, map, ap, sym, subst, arith}
use Rattle.std.proofs.lemmas.List.{length-map}
use Rattle.jade_base.specs.Specification.{IsAscending, IsUncommuting, shown, shown_all}
use Rattle.jade_base.proofs.Drafts.{draft-set}
use Rattle.jade_base.proofs.Uncommuting.{left_false, right_false, set_plain}
use Rattle.jade_base.proofs.spec.Spec.set_draft.Goals as goal

pub invariant_of-self : goal.invariant_of-self
invariant_of-self c =
    let xs = c.self.inside.entries.items in
    let within : c.args.place < length xs = omega (arith, c.requires, ap (λ s. length s.entries) c.self.view_is, length-map xs shown) in
    let e = draft-set xs c.args.place c.index_mut.result.now c.args.rights within c.index_mut.ensures.value in (
      subst (λ es. IsAscending es) (sym (ap (λ s. s.entries) e)) c.self.invariant.0,
      λ q. absurd (cc),
      λ q. subst IsUncommuting (sym e)
          (set_plain (shown_all xs) (map (λ x. x.draft) xs) c.args.place c.args.rights
          (sym c.is_there.ensures ∙ right_false c.self.inside.commuting c.is_there.result q)
          (c.self.invariant.2 (left_false c.self.inside.commuting c.is_there.result q))),
    )

pub returns : goal.returns
returns c =
    let xs = c.self.inside.entries.items in
    let within : c.args.place < length xs = omega (arith, c.requires, ap (λ s. length s.entries) c.self.view_is, length-map xs shown) in
    rw (← c.self.view_is) (draft-set xs c.args.place c.index_mut.result.now c.args.rights within c.index_mut.ensures.value)
