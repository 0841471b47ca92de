use Rattle.std.proofs.Common.{◌≡◌, ◌++◌, map, drop}
use Rattle.rb_trees.specs.mirror.Declarations.{mirror_param}
use Rattle.rb_trees.specs.printing.Pieces.{spelled}
use Rattle.rb_trees.specs.printing.Programs.{fields_pieces}
use Rattle.rb_trees.proofs.printing.declarations.print_fields.Given as goal

-- with the fields that are left, the text is that of all fields
abbrev pub invariant-loop-field : goal.invariant-loop-field
invariant-loop-field l =
    l.into ++ spelled (fields_pieces l.indent (map mirror_param (drop l.field-index l.fields))) ≡ l.initial.into ++ spelled (fields_pieces l.indent (map mirror_param l.fields))
