-- The batches of a program by their numbers.
use Rattle.std.specs.Prelude.{◌≡◌, ℕ, List, map, length, Option, slice_get}
use Rattle.std.specs.List.{range_with_len}
use Rattle.rb_trees.specs.declared.remainders.Split.{Split}
use Rattle.rb_trees.specs.mirror.Declarations.{Program}
use Rattle.rb_meaning_flow.specs.Facts.{facts_of}
use Rattle.rb_meaning_flow.specs.Outermost.{Outermost, program_batches}

-- how many batches a program has
abbrev pub batches_of : Program → ℕ
batches_of p = length (program_batches (facts_of p) p)

-- the batch of a number, in source order from 0
abbrev pub batch_of : Program → ℕ → Option Outermost
batch_of p number = slice_get (program_batches (facts_of p) p) number

-- Divisions are numbered from 0 in order.
abbrev pub AreNumbered : List Split → Type 0
AreNumbered ss = map (λ s. s.batch) ss ≡ range_with_len 0 (length ss)
