use Rattle.std.proofs.Common.{◌≡◌, ◌++◌, drop}
use Rattle.rb_meaning.specs.Shown.{shown_table}
use Rattle.rb_store.proofs.printing.print_table.Given as goal

-- with the objects that are left, the text is that of all objects
abbrev pub invariant-loop-number : goal.invariant-loop-number
invariant-loop-number l = l.text ++ shown_table l.number (drop l.number l.table) ≡ shown_table 0 l.table
