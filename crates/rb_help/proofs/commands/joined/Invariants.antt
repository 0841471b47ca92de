use Rattle.std.proofs.Common.{◌≡◌, ℕ, List, ◌++◌, drop}
use Rattle.std.specs.Borrow.{Bor}
use Rattle.std.specs.List.{flat_map}
use Rattle.rb_help.proofs.commands.joined.Given as goal

-- with the lines that are left, the text is that of all lines
abbrev pub invariant-loop-line : goal.invariant-loop-line
invariant-loop-line l = l.text ++ flat_map (λ (line : Bor (List ℕ)). line.now) (drop l.line-index l.lines) ≡ flat_map (λ (line : Bor (List ℕ)). line.now) l.lines
