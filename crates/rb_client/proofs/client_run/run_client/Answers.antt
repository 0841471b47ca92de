use Rattle.std.proofs.Common.{◌≡◌, true, sym, subst, map}
use Rattle.rb_trees.specs.mirror.Declarations.{mirror_program}
use Rattle.rb_meaning_types.specs.Programs.{is_typed}
use Rattle.rb_meaning_split.specs.Division.{mirror_split}
use Rattle.rb_code.proofs.Differ.{typed_differ}
use Rattle.rb_client.specs.Exchanges.{AreDivisions}
use Rattle.rb_client.specs.MainRuns.{Leaves}
use Rattle.rb_client.specs.Scenes.{scene}
use Rattle.rb_client.proofs.Typed.{typed_checked}
use Rattle.rb_client.proofs.Divided.{all_sent}
use Rattle.rb_client.proofs.Headline.{Laws, means_alone, means_so}
use Rattle.rb_client.proofs.RunsOver.{fails_as_listed, runs_over}
use Rattle.rb_client.proofs.client_run.run_client.Goals as goal

pub make-requires : goal.make-requires
make-requires g c = typed_differ (mirror_program c.program-program.result.now) (subst (λ q. is_typed (mirror_program q) ≡ true) (sym c.program-program.ensures.same) c.program-program.ensures.typed)

pub new-plan-requires-clause-divided : goal.new-plan-requires-clause-divided
new-plan-requires-clause-divided g c =
    let divided : AreDivisions c.args.typed.now c.args.splits.now = record {
      divided = c.requires.divided;
      sent = all_sent (mirror_program c.args.typed.now) c.program-program.ensures.lawful (typed_checked (mirror_program c.args.typed.now) c.program-program.ensures.typed) c.requires.none c.requires.places
          c.divided_scripts_can_be_sent.ensures c.args.splits.now c.requires.divided;
    } in
    subst (λ ss. AreDivisions c.args.typed.now ss) (sym c.in_ok-divisions.ensures) divided

pub returns : goal.returns
returns g c =
    let p = mirror_program c.args.typed.now in
    let fuel = c.args.fuel in
    let before = scene g.L.Link g.W.Sink c.args.link.now c.args.out.now in
    let after = scene g.L.Link g.W.Sink c.run_plan.new.link c.run_plan.new.out in
    let result = c.run_plan.result in
    let left : Leaves p fuel result before after = subst (λ q. Leaves (mirror_program q.program) fuel result before after) c.new-plan.ensures c.run_plan.ensures in
    let laws : Laws = record {
      clients = c.clients_mean_what_programs_mean.ensures;
      far = c.programs_come_as_far_as_clients.ensures;
      fronts = c.fronts_are_shown.ensures;
      exchanged = c.reached_batches_can_be_exchanged.ensures;
      remote = c.reached_batches_perform_remote_parts.ensures;
      answers = c.answers_fit_on_the_way.ensures;
    } in
    let lawful = c.program-program.ensures.lawful in
    let checked = typed_checked p c.program-program.ensures.typed in
    let divided = c.requires.divided in
    let tells = g.met.L.Link.honest_tells c.args.link.now in
    let ds = map mirror_split c.args.splits.now in
    record {
      runs = runs_over p fuel before after result left;
      lists = fails_as_listed p fuel before after result left;
      means = means_so laws p lawful checked c.requires.none c.requires.places ds divided fuel before after tells result left;
      means_alone = means_alone laws p lawful checked c.requires.none c.requires.places ds divided fuel before after tells result left;
    }
