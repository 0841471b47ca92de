use Rattle.std.proofs.Common.{◌≡◌, ◌++◌}
use Rattle.std.specs.List.{flat_map}
use Rattle.rb_scopes.proofs.segments.Segments.with.Given as goal

abbrev pub invariant-loop : goal.invariant-loop
invariant-loop l = flat_map (λ vs. vs) l.items.items ++ l.last ≡ l.fn.self ++ l.fn.others
