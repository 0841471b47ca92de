use Rattle.std.proofs.Common.{Err, Ok, subst}
use Rattle.rb_trees.specs.mirror.Declarations.{mirror_program}
use Rattle.rb_meaning.specs.Links.{server_told}
use Rattle.rb_top.specs.LinkRuns.{RunsOverLink, run_end_in}
use Rattle.rb_top.specs.Scene.{output}
use Rattle.rb_top.proofs.LinkRuns.{none_lent, says_with_table, still_lends}
use Rattle.rb_top.proofs.both_run.run_over.Goals as goal

pub unreachable-requires : goal.unreachable-requires
unreachable-requires g c =
    none_lent (g.L.Link.lends c.run_client.new.link) (server_told (g.L.Link.told c.run_client.new.link)) (still_lends g.L.Link c.args.link.now c.run_client.new.link c.in-Ok.ensures.runs.exchanged.lends_so c.requires.lends) c.in-None.ensures

pub returns-in-Some : goal.returns-in-Some
returns-in-Some g c =
    let text = c.args.program.now.text.now in
    subst (λ q. RunsOverLink g.L.Link (run_end_in g.L.Link c.args.way text) (mirror_program q) c.args.fuel c.args.link.now c.run_client.new.link c.run_answer.result (output g.W.Sink c.args.out.now) (output g.W.Sink c.print_run_end_in.new.out)) c.typed-typed.ensures.same
    (record {
      answer = Ok c.in-Ok.run';
      lines = output g.W.Sink c.run_client.new.out;
      runs = c.in-Ok.ensures.runs;
      lists = c.in-Ok.ensures.lists;
      means = c.in-Ok.ensures.means;
      means_alone = c.in-Ok.ensures.means_alone;
      says = says_with_table g.L.Link c.args.way text c.run_client.new.link c.in-Ok.run' c.in-Some.table.now c.print_run_end_in.result c.run_answer.result _ _
          (still_lends g.L.Link c.args.link.now c.run_client.new.link c.in-Ok.ensures.runs.exchanged.lends_so c.requires.lends) c.in-Some.ensures c.run_answer.ensures c.print_run_end_in.ensures;
    })

pub returns-in-Err : goal.returns-in-Err
returns-in-Err g c =
    let text = c.args.program.now.text.now in
    subst (λ q. RunsOverLink g.L.Link (run_end_in g.L.Link c.args.way text) (mirror_program q) c.args.fuel c.args.link.now c.run_client.new.link c.say_stop.result (output g.W.Sink c.args.out.now) (output g.W.Sink c.say_stop.new.out)) c.typed-typed.ensures.same
    (record {
      answer = Err c.in-Err.stop;
      lines = output g.W.Sink c.run_client.new.out;
      runs = c.in-Err.ensures.runs;
      lists = c.in-Err.ensures.lists;
      means = c.in-Err.ensures.means;
      means_alone = c.in-Err.ensures.means_alone;
      says = c.say_stop.ensures;
    })
