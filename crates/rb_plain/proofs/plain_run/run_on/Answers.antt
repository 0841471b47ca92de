use Rattle.std.proofs.Common.{refl, sym, ap, subst, ◌∙◌, Err}
use Rattle.rb_trees.specs.declared.outcomes.Ending.{Ending}
use Rattle.rb_meaning.specs.Shown.{shown_events}
use Rattle.rb_plain.specs.Unsplit.{WritesUnlessStarved, staged_meaning}
use Rattle.rb_plain.specs.Worlds.{output}
use Rattle.rb_trees.specs.declared.outcomes.Run.{Run}
use Rattle.rb_plain.proofs.Whole.{leaves_so, sees_first, stopped_as, written_so}
use Rattle.rb_plain.proofs.plain_run.run_on.Goals as goal

pub returns-in-Ok-clause-left : goal.returns-in-Ok-clause-left
returns-in-Ok-clause-left g c =
    leaves_so g.W.Sink c.args.terms c.over-world.result c.perform_main-ended.new.world c.args.stage c.args.table.now c.in-Ok.ending c.perform_main-ended.result _ _ c.perform_main-ended.ensures c.in-Ok.is
    (sees_first g.W.Sink c.over-world.result c.args.table.now c.args.terms (c.over-world.ensures.server ∙ ap (λ t. record { table = t; fuel = 0 }) c.replace-first.ensures.value) c.over-world.ensures.exchanges c.over-world.ensures.others
    (rw (c.over-world.ensures.stage, c.over-world.ensures.batches) c.requires))
    c.over-world.ensures.stage refl c.replace_table.ensures.before

pub returns-in-Ok-clause-written : goal.returns-in-Ok-clause-written
returns-in-Ok-clause-written g c =
    subst (λ x. WritesUnlessStarved {A = Ending} (shown_events (staged_meaning c.args.stage c.args.table.now c.args.terms).events) x (output g.W.Sink c.args.out.now) (output g.W.Sink c.out-1.given.0)) c.in-Ok.is
    (written_so g.W.Sink c.args.terms c.over-world.result c.perform_main-ended.new.world c.args.stage c.args.table.now c.args.out.now c.out-1.given.0 c.perform_main-ended.result c.perform_main-ended.ensures
    (sees_first g.W.Sink c.over-world.result c.args.table.now c.args.terms (c.over-world.ensures.server ∙ ap (λ t. record { table = t; fuel = 0 }) c.replace-first.ensures.value) c.over-world.ensures.exchanges c.over-world.ensures.others
    (rw (c.over-world.ensures.stage, c.over-world.ensures.batches) c.requires))
    c.over-world.ensures.stage c.over-world.ensures.now (λ e. c.out-1.given.1 (sym (e ∙ c.over-world.ensures.same))))

pub returns-clause-written : goal.returns-clause-written
returns-clause-written g c =
    stopped_as {A = Run} g.W.Sink (shown_events (staged_meaning c.args.stage c.args.table.now c.args.terms).events) c.args.out.now c.out-1.given.0 c.perform_main-ended.result c.in-Err.stop (Err c.in-Err.stop) c.in-Err.is refl
    (written_so g.W.Sink c.args.terms c.over-world.result c.perform_main-ended.new.world c.args.stage c.args.table.now c.args.out.now c.out-1.given.0 c.perform_main-ended.result c.perform_main-ended.ensures
    (sees_first g.W.Sink c.over-world.result c.args.table.now c.args.terms (c.over-world.ensures.server ∙ ap (λ t. record { table = t; fuel = 0 }) c.replace-first.ensures.value) c.over-world.ensures.exchanges c.over-world.ensures.others
    (rw (c.over-world.ensures.stage, c.over-world.ensures.batches) c.requires))
    c.over-world.ensures.stage c.over-world.ensures.now (λ e. c.out-1.given.1 (sym (e ∙ c.over-world.ensures.same))))
