use Rattle.std.proofs.Common.{refl}
use Rattle.jade_run.proofs.Once.{completes}
use Rattle.jade_run.proofs.sure.run_in_memory.Goals as goal

pub returns : goal.returns
returns g c =
    let said = c.jade_main.ensures in
    record {
      completes =
          completes c.args.words.now c.args.source.now c.args.sink.now.room c.jade_main.result _ _ refl refl refl refl said.headline;
      unread = λ refused. (said.unread refused).0;
      headline = said.headline;
    }
