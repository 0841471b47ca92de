use Rattle.std.proofs.Common.{◌≡◌, ◌++◌, take}
use Rattle.rb_scopes.proofs.variables.Variables.bind_all.Given as goal

abbrev pub invariant-loop-v : goal.invariant-loop-v
invariant-loop-v l = l.self ≡ l.fn.self ++ take l.v-index l.others
