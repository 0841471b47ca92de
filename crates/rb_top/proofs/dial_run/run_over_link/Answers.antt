use Rattle.std.proofs.Common.{Err, Ok, subst}
use Rattle.rb_trees.specs.mirror.Declarations.{mirror_program}
use Rattle.rb_top.specs.LinkRuns.{RunsOverLink, run_end}
use Rattle.rb_top.specs.Scene.{output}
use Rattle.rb_top.proofs.LinkRuns.{says_run}
use Rattle.rb_top.proofs.dial_run.run_over_link.Goals as goal

pub returns-in-Ok : goal.returns-in-Ok
returns-in-Ok g c =
    let text = c.args.program.now.text.now in
    subst (λ q. RunsOverLink g.L.Link (run_end text) (mirror_program q) c.args.fuel c.args.link.now c.run_client.new.link c.run_answer.result (output g.W.Sink c.args.out.now) (output g.W.Sink c.print_run_end.new.out)) c.typed-typed.ensures.same
    (record {
      answer = Ok c.in-Ok.run';
      lines = output g.W.Sink c.run_client.new.out;
      runs = c.in-Ok.ensures.runs;
      lists = c.in-Ok.ensures.lists;
      means = c.in-Ok.ensures.means;
      means_alone = c.in-Ok.ensures.means_alone;
      says = says_run text c.in-Ok.run' c.print_run_end.result c.run_answer.result _ _ c.run_answer.ensures c.print_run_end.ensures;
    })

pub returns-in-Err : goal.returns-in-Err
returns-in-Err g c =
    let text = c.args.program.now.text.now in
    subst (λ q. RunsOverLink g.L.Link (run_end text) (mirror_program q) c.args.fuel c.args.link.now c.run_client.new.link c.say_stop.result (output g.W.Sink c.args.out.now) (output g.W.Sink c.say_stop.new.out)) c.typed-typed.ensures.same
    (record {
      answer = Err c.in-Err.stop;
      lines = output g.W.Sink c.run_client.new.out;
      runs = c.in-Err.ensures.runs;
      lists = c.in-Err.ensures.lists;
      means = c.in-Err.ensures.means;
      means_alone = c.in-Err.ensures.means_alone;
      says = c.say_stop.ensures;
    })
