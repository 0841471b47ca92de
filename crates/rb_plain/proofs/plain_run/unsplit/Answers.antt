use Rattle.std.proofs.Common.{◌≡◌, true, sym, ap, ◌∙◌, subst, IfOk}
use Rattle.rb_trees.specs.declared.outcomes.Run.{Run}
use Rattle.rb_trees.specs.mirror.Declarations.{mirror_program}
use Rattle.rb_meaning_types.specs.Programs.{is_typed}
use Rattle.rb_meaning.specs.Shown.{shown_events}
use Rattle.rb_code.proofs.Differ.{typed_differ}
use Rattle.rb_plain.specs.Unsplit.{Leaves, WritesUnlessStarved}
use Rattle.rb_plain.specs.Worlds.{output}
use Rattle.rb_plain.proofs.Whole.{staged_is}
use Rattle.rb_plain.proofs.plain_run.unsplit.Goals as goal

pub make-requires : goal.make-requires
make-requires g c = typed_differ (mirror_program c.program-program.result.now) (subst (λ q. is_typed (mirror_program q) ≡ true) (sym c.program-program.ensures.same) c.program-program.ensures.typed)

pub returns-clause-left : goal.returns-clause-left
returns-clause-left g c =
    subst (λ m. IfOk c.run_staged.result (λ run. Leaves m run c.run_staged.new.table))
    (staged_is c.new-stage.result (record { fuel = c.args.fuel; others = c.as_slice.result }) c.args.admitted.now.0 c.args.code.now c.args.root c.args.table.now c.args.others.now
    (c.new-stage.ensures ∙ ap (λ p. record { program = p; service = record { classes = c.args.code.now; root = c.args.root } }) (c.in_ok-facts.ensures ∙ c.typed-typed.ensures.same)) c.as_slice.ensures)
    c.run_staged.ensures.left

pub returns-clause-written : goal.returns-clause-written
returns-clause-written g c =
    subst (λ m. WritesUnlessStarved {A = Run} (shown_events m.events) c.run_staged.result (output g.W.Sink c.args.out.now) (output g.W.Sink c.run_staged.new.out))
    (staged_is c.new-stage.result (record { fuel = c.args.fuel; others = c.as_slice.result }) c.args.admitted.now.0 c.args.code.now c.args.root c.args.table.now c.args.others.now
    (c.new-stage.ensures ∙ ap (λ p. record { program = p; service = record { classes = c.args.code.now; root = c.args.root } }) (c.in_ok-facts.ensures ∙ c.typed-typed.ensures.same)) c.as_slice.ensures)
    c.run_staged.ensures.written
