use Rattle.jade_run.proofs.Commanding.{by_run, by_serial, by_check, by_show, by_drill, by_record, by_replay, by_expand}
use Rattle.jade_run.proofs.call.of_text.Goals as goal

pub returns-in-Run : goal.returns-in-Run
returns-in-Run g c =
    by_run c.args.command.now c.in-Run.workers c.in-Run.execution c.args.text.now c.as_slice-numbers.result.now c.run_text.result _ _ c.in-Run.is
    c.as_slice-numbers.ensures c.run_text.ensures

pub returns-in-Serial : goal.returns-in-Serial
returns-in-Serial g c =
    by_serial c.args.command.now c.in-Serial.execution c.args.text.now c.as_slice.result.now c.serial_text.result _ c.in-Serial.is c.as_slice.ensures
    c.serial_text.ensures

pub returns-in-Check : goal.returns-in-Check
returns-in-Check g c = by_check c.args.command.now c.args.text.now c.check_text.result _ c.in-Check.is c.check_text.ensures

pub returns-in-Show : goal.returns-in-Show
returns-in-Show g c = by_show c.args.command.now c.args.text.now c.show_text.result _ c.in-Show.is c.show_text.ensures

pub returns-in-Drill : goal.returns-in-Drill
returns-in-Drill g c =
    by_drill c.args.command.now c.in-Drill.tasks c.in-Drill.workers c.args.text.now c.run_drill.result _ _ c.in-Drill.is c.run_drill.ensures

pub returns-in-Record : goal.returns-in-Record
returns-in-Record g c =
    by_record c.args.command.now c.in-Record.workers c.in-Record.execution c.args.text.now c.as_slice-numbers-in-Record.result.now c.record_text.result _ _ c.in-Record.is
    c.as_slice-numbers-in-Record.ensures c.record_text.ensures

pub returns-in-Replay : goal.returns-in-Replay
returns-in-Replay g c = by_replay c.args.command.now c.args.text.now c.replay_text.result _ c.in-Replay.is c.replay_text.ensures

pub returns-in-Expand : goal.returns-in-Expand
returns-in-Expand g c = by_expand c.args.command.now c.args.text.now c.expand_text.result _ c.in-Expand.is c.expand_text.ensures
