use Rattle.std.proofs.Common.{ap, subst}
use Rattle.run_record.specs.Recording.{Recorded}
use Rattle.record_parts.specs.Named.{NoneNamed}
use Rattle.jade_run.specs.steps.Homes.{home_of}
use Rattle.jade_run.proofs.Replaying.{plays_shaped, unnamed_is}
use Rattle.jade_run.proofs.replay.replay_checked.Goals as goal

pub turn_lists-requires-clause-shaped : goal.turn_lists-requires-clause-shaped
turn_lists-requires-clause-shaped g c =
    plays_shaped c.args.bytes.now c.args.recorded.now c.args.checked.program (home_of c.args.home.now) c.requires.within c.requires.plays c.read_is_shaped.ensures

pub returns-in-None : goal.returns-in-None
returns-in-None g c =
    unnamed_is c.args.bytes.now c.args.recorded.now c.args.checked.program (home_of c.args.home.now) c.turnless.result c.requires.plays
    (subst (NoneNamed c.args.checked.program.items) (ap (λ (x : Recorded). x.turns) c.recorded.view_is) (rw c.in-None.is at c.in_ok-lists.ensures))
    c.turnless.ensures
