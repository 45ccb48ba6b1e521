use Rattle.cx_commands.proofs.Replays.{gets_stuck}
use Rattle.cx_commands.proofs.replaying.replay_scenario.Goals as goal

pub returns-in_ok-text-in-Stuck : goal.returns-in_ok-text-in-Stuck
returns-in_ok-text-in-Stuck c = gets_stuck c.args.scenario.now c.args.seed c.in-Stuck.record c.in-Stuck.live c.in_ok-text-in-Stuck.text.items
    (rw c.in-Stuck.is at c.in_ok-record.ensures.answer) (rw c.in-Stuck.is at c.in_ok-record.ensures.right) (rw c.in-Stuck.is at c.in_ok-record.ensures.can_end) c.in_ok-text-in-Stuck.ensures
