use Rattle.std.proofs.Common.{◌≡◌, true, List}
use Rattle.std.specs.Prelude.{ℤ}
use Rattle.jade_meaning.specs.steps.Perform.{shown}
use Rattle.jade_meaning.specs.steps.Configuration.{ahead, over, ready}
use Rattle.jade_meaning.proofs.setting.Setting.advance.Given as goal

abbrev pub invariant-steps : goal.invariant-steps
invariant-steps l = record {
  same : (vs : List ℤ) → ahead (shown l.self) l.answers l.initial.at 0 vs ≡ ahead (shown l.self) l.answers l.at 0 vs;
  ends : over l.at.stage ≡ true → ready l.at.pending.items l.at.stage ≡ true;
}
