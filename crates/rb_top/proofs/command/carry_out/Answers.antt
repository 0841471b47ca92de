use Rattle.std.proofs.Common.{refl}
use Rattle.rb_top.proofs.command.carry_out.Goals as goal

pub returns-in-Program : goal.returns-in-Program
returns-in-Program g c = rw c.in-Program.is (c.carry_out_task.ensures, refl)

pub returns-in-Serve : goal.returns-in-Serve
returns-in-Serve g c = rw c.in-Serve.is (c.run_server.ensures, refl)

pub returns-in-Keep : goal.returns-in-Keep
returns-in-Keep g c = rw c.in-Keep.is (c.run_keep.ensures, refl)

pub returns-in-Child : goal.returns-in-Child
returns-in-Child g c = rw c.in-Child.is (record { serves = c.run_child.ensures; unchanged = refl }, refl)

pub returns-in-Trial : goal.returns-in-Trial
returns-in-Trial g c = rw c.in-Trial.is (c.run_trial.ensures, refl)

pub returns-in-Hub : goal.returns-in-Hub
returns-in-Hub g c = rw c.in-Hub.is (c.run_hub.ensures, refl)

pub returns-in-Json : goal.returns-in-Json
returns-in-Json g c = rw c.in-Json.is (c.run_json.ensures, refl)
