use Rattle.std.proofs.Common.{◌≡◌, ◌++◌, drop}
use Rattle.rb_picture.specs.Escapes.{all_escaped}
use Rattle.rb_picture.proofs.escapes.add_escaped.Given as goal

-- with what is left to add, the picture is that of the whole text
abbrev pub invariant-loop-byte : goal.invariant-loop-byte
invariant-loop-byte l = l.into ++ all_escaped (drop l.byte-index l.text) ≡ l.initial.into ++ all_escaped l.text
