use Rattle.std.proofs.Common.{◌≡◌, ◌+◌, max, drop}
use Rattle.rb_exec.specs.Stages.{turns_run}
use Rattle.rb_exec.specs.Written.{written}
use Rattle.rb_exec.proofs.Done.{LeadsOn}
use Rattle.rb_exec.proofs.Turned.{TurnsSoFar}
use Rattle.rb_exec.proofs.Weight.{step_of, steps_of}
use Rattle.rb_exec.proofs.run.Run.+running.Given as goal

abbrev pub decreases-run_block : goal.decreases-run_block
decreases-run_block l = steps_of l.steps.now + 2

abbrev pub decreases-run_all : goal.decreases-run_all
decreases-run_all l = steps_of l.steps.now + 1

abbrev pub decreases-run_step : goal.decreases-run_step
decreases-run_step l = step_of l.step.now

abbrev pub decreases-run_if : goal.decreases-run_if
decreases-run_if l = max (steps_of l.yes.now) (steps_of l.no.now) + 3

abbrev pub decreases-run_each : goal.decreases-run_each
decreases-run_each l = steps_of l.walk.now.body.now + 7

abbrev pub decreases-run_over : goal.decreases-run_over
decreases-run_over l = steps_of l.walk.now.body.now + 7

abbrev pub decreases-run_walk : goal.decreases-run_walk
decreases-run_walk l = steps_of l.walk.now.body.now + 6

abbrev pub decreases-run_turns : goal.decreases-run_turns
decreases-run_turns l = steps_of l.walk.now.body.now + 5

abbrev pub decreases-run_turn : goal.decreases-run_turn
decreases-run_turn l = steps_of l.walk.now.body.now + 4

abbrev pub decreases-run_row : goal.decreases-run_row
decreases-run_row l = steps_of l.walk.now.body.now + 3

abbrev pub invariant-run_all-steps : goal.invariant-run_all-steps
invariant-run_all-steps l = LeadsOn l.stage l.steps (written l.stage.version l.fn.self.bytes.items l.fn.entries) l.fn.self.variables l.fn.self.server l.step-index (written l.stage.version l.self.bytes.items l.entries) l.self.variables l.self.server

abbrev pub invariant-run_turns-rows : goal.invariant-run_turns-rows
invariant-run_turns-rows l = record {
  variables : l.self.variables ≡ l.fn.self.variables;
  turns : TurnsSoFar (turns_run l.walk l.rows l.fn.self.variables l.fn.self.server) (written l.walk.site.stage.now.version l.fn.self.bytes.items l.fn.begun)
      (turns_run l.walk (drop l.row-index l.rows) l.fn.self.variables l.self.server) (written l.walk.site.stage.now.version l.self.bytes.items l.begun);
}
