use Rattle.std.proofs.Common.{◌≡◌, ◌++◌, drop}
use Rattle.rb_trees.specs.mirror.Remainders.{mirror_parts}
use Rattle.rb_shown.specs.Views.{shown_parts}
use Rattle.rb_shown.proofs.views.parts.+parts.Given as goal

-- with the parts that are left, the text is that of all parts
abbrev pub invariant-add_parts-loop-part : goal.invariant-add_parts-loop-part
invariant-add_parts-loop-part l =
    l.into ++ shown_parts l.indent (mirror_parts (drop l.part-index l.parts)) ≡ l.initial.into ++ shown_parts l.indent (mirror_parts l.parts)
