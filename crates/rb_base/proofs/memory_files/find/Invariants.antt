use Rattle.std.proofs.Common.{◌≡◌, drop}
use Rattle.rb_base.specs.Directories.{content_of}
use Rattle.rb_base.proofs.memory_files.find.Given as goal

abbrev pub invariant-loop-own : goal.invariant-loop-own
invariant-loop-own l = content_of l.files l.name ≡ content_of (drop l.own-index l.files) l.name
