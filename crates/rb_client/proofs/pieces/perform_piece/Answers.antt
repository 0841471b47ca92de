-- A part that holds no parts is performed as it means.
use Rattle.std.proofs.Common.{◌∙◌, ap}
use Rattle.rb_trees.specs.mirror.Code.{mirror_expr, mirror_stmt}
use Rattle.rb_trees.specs.mirror.Remainders.{Plain, Pass, Bind, Both, mirror_part}
use Rattle.rb_trees.proofs.mirror.Parts.{form_Plain, form_Pass, form_Bind, form_Both}
use Rattle.rb_client.proofs.Parted.{of_form}
use Rattle.rb_client.proofs.FormsApart.{no_piece}
use Rattle.rb_client.proofs.pieces.perform_piece.Goals as goal

pub returns-in-Plain : goal.returns-in-Plain
returns-in-Plain g c =
    of_form c.args.code.now c.args.part.now (Plain (mirror_stmt c.in-Plain.stmt) c.in-Plain.field-1) (ap mirror_part c.in-Plain.is ∙ form_Plain c.in-Plain.stmt c.in-Plain.field-1) c.perform_plain.ensures

pub returns-in-Pass : goal.returns-in-Pass
returns-in-Pass g c = of_form c.args.code.now c.args.part.now (Pass c.in-Pass.step) (ap mirror_part c.in-Pass.is ∙ form_Pass c.in-Pass.step) c.perform_pass.ensures

pub returns-in-Bind : goal.returns-in-Bind
returns-in-Bind g c = of_form c.args.code.now c.args.part.now (Bind c.in-Bind.step c.in-Bind.name _) (ap mirror_part c.in-Bind.is ∙ form_Bind c.in-Bind.step c.in-Bind.name _) c.perform_bind.ensures

pub returns-in-Both : goal.returns-in-Both
returns-in-Both g c =
    of_form c.args.code.now c.args.part.now (Both c.in-Both.step _ c.in-Both.name (mirror_expr c.in-Both.value)) (ap mirror_part c.in-Both.is ∙ form_Both c.in-Both.step _ c.in-Both.name c.in-Both.value)
    (rw c.new-twin.ensures at c.perform_both.ensures)

pub unreachable-requires : goal.unreachable-requires
unreachable-requires g c = no_piece c.args.part.now c.requires c.in_default.not-Plain c.in_default.not-Pass c.in_default.not-Bind c.in_default.not-Both
