-- A typed program as it was loaded, as it was admitted, and as it was accepted.
use Rattle.std.specs.Prelude.{ℕ, List}
use Rattle.std.specs.Ordering.{nat_cmp}
use Rattle.std.specs.FinMap.{FinMap}
use Rattle.rb_trees.specs.declared.declarations.Program as program
use Rattle.rb_trees.specs.declared.marks.Mark.{Mark}
use Rattle.rb_trees.specs.declared.marks.Place.{Place}
use Rattle.rb_trees.specs.mirror.Declarations.{Program, mirror_program}
use Rattle.rb_top.specs.declared.source.Accepted.{Accepted}
use Rattle.rb_top.specs.declared.source.Source.{Source}

-- the text that it was read from
abbrev pub text_of : Source → List ℕ
text_of s = s.text.items

-- the program
abbrev pub program_of : Source → Program
program_of s = mirror_program s.typed

-- a program that was admitted, with the marks of its expressions and the places of its statements
abbrev pub Admitted : Type 0
Admitted = program.Program × (FinMap nat_cmp Mark × FinMap nat_cmp Place)

abbrev pub admitted_program : Admitted → Program
admitted_program a = mirror_program a.0

-- the program that was accepted
abbrev pub accepted_program : Accepted → Program
accepted_program x = admitted_program x.admitted.now
