use Rattle.jade_meaning.proofs.Telling.{talk_follows_serial}
use Rattle.jade_meaning.proofs.laws.talk_follows_serial.Goals as goal

pub returns : goal.returns
returns c = talk_follows_serial
