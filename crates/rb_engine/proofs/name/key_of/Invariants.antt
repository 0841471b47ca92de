use Rattle.std.proofs.Common.{◌≡◌, take}
use Rattle.std.specs.List.{fold}
use Rattle.rb_engine.specs.Keys.{key_with}
use Rattle.rb_engine.proofs.name.key_of.Given as goal

abbrev pub invariant-loop-byte : goal.invariant-loop-byte
invariant-loop-byte l = l.key ≡ fold key_with 0 (take l.byte-index l.bytes)
