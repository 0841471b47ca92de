use Rattle.std.proofs.Common.{sym}
use Rattle.rb_heap.specs.Views.{object_viewed}
use Rattle.rb_store.proofs.Lines.{line_first}
use Rattle.rb_store.proofs.printing.line_of.Goals as goal

pub returns : goal.returns
returns c =
    line_first c.args.table.now c.args.number (object_viewed c.in-Some.object) (sym c.in-Some.ensures.seen) c.object_line.result
    (rw (c.as_slice-names.ensures, c.as_slice-values.ensures) at c.object_line.ensures)
