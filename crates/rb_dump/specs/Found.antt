-- What reading a field leaves.
use Rattle.std.specs.Prelude.{◌<◌, ℕ, length, Option, Result, IfOk, IfSome}
use Rattle.rb_trees.specs.declared.want.Memory.{Memory}
use Rattle.rb_dump.specs.declared.reader.Found.{Found}

-- Where a field was read, fewer bytes are left than there were.
abbrev pub Shortens : ℕ → Result (Option Found) Memory → Type 0
Shortens before result = IfOk result (λ read. IfSome read (λ found. length found.rest.now < before))
