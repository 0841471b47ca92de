-- What a batch demands of the node that is replied for its script.
use Rattle.std.specs.Prelude.{ℕ, List, Result}
use Rattle.rb_trees.specs.declared.remainders.Part as part
use Rattle.rb_trees.specs.mirror.Forests.{Node}
use Rattle.rb_trees.specs.mirror.Remainders.{Parts, mirror_parts}
use Rattle.rb_meaning_bytes.specs.Fits.{Unfit, fits}
use Rattle.rb_meaning_code.specs.State.{Local}
use Rattle.rb_meaning_split.specs.Client.{input_values, lengths}
use Rattle.rb_meaning_split.specs.Division.{Division}

pub record Demand : Type 0 where
  -- what is performed on the node
  pub remainder : Parts
  -- how many items each input has
  pub lengths : List ℕ

-- whether a node meets a demand, or what doesn't fit
abbrev pub meets : Demand → Node → Result (Unit {0}) Unfit
meets d n = fits n d.remainder d.lengths

-- the demand of a batch that begins in a local state
abbrev pub demand_of : Division → Local → Demand
demand_of d l = record { remainder = d.remainder; lengths = lengths (input_values d.inputs l.names) }

-- a demand as the code has it
abbrev pub demanded : List part.Part → List ℕ → Demand
demanded ps counts = record { remainder = mirror_parts ps; lengths = counts }
