use Rattle.std.proofs.Common.{◌≡◌, ◌++◌, drop}
use Rattle.rb_trees.specs.printing.Words.{all_escaped}
use Rattle.rb_shown.proofs.primitives.add_text.Given as goal

-- with what is left to add, the text is the opening quote and the escaped bytes
abbrev pub invariant-loop-byte : goal.invariant-loop-byte
invariant-loop-byte l = l.into ++ all_escaped (drop l.byte-index l.text) ≡ l.initial.into ++ all_escaped l.text
