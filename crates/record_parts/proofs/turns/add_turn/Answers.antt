use Rattle.run_record.proofs.Options.{went_well}
use Rattle.record_parts.proofs.Naming.{all_more}
use Rattle.record_parts.proofs.turns.add_turn.Goals as goal

pub returns-clause-fit : goal.returns-clause-fit
returns-clause-fit c =
    all_more c.args.turns.now c.in_ok-turn.turn c.push.new.self c.requires.fit c.in_ok-turn.ensures.fit (went_well _ _ _ c.if-is_err.ensures.value c.push.ensures)
