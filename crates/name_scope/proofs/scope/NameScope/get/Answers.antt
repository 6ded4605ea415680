use Rattle.std.proofs.Common.{arith, ap, sym, ◌∙◌}
use Rattle.std.specs.Prelude.{reverse}
use Rattle.std.specs.Map.{lookup}
use Rattle.std.proofs.lemmas.List.{length-reverse}
use Rattle.jade_syntax.specs.Numbering.{same_name}
use Rattle.name_scope.proofs.Kept.{found, not_found, value_there}
use Rattle.name_scope.proofs.scope.NameScope.get.Goals as goal

pub index-requires : goal.index-requires
index-requires g c =
    let entries = c.self.inside.entries.items in
    let there = found c.args.name.now (reverse entries) c.in-Some.place (sym (c.self.invariant.at c.args.name) ∙ sym c.in-Some.ensures) in
    omega (arith, c.self.inside.entries.ok.0, length-reverse entries, there.within)

pub returns-in-Some : goal.returns-in-Some
returns-in-Some g c =
    value_there c.self.inside.entries.items c.args.name.now c.in-Some.place _ (sym (c.self.invariant.at c.args.name) ∙ sym c.in-Some.ensures) c.index.ensures
    ∙ ap (lookup (same_name c.args.name.now)) c.self.view_is

pub returns-in-None : goal.returns-in-None
returns-in-None g c =
    sym (not_found c.args.name.now (reverse c.self.inside.entries.items) (sym (c.self.invariant.at c.args.name) ∙ sym c.in-None.ensures))
    ∙ ap (lookup (same_name c.args.name.now)) c.self.view_is
