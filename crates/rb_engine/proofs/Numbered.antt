-- Kinds by their numbers.
use Rattle.std.proofs.Common.{◌≡◌, ℕ, sym}
use Rattle.std.specs.List.{slice_get}
use Rattle.std.specs.Option.{option_map}
use Rattle.std.proofs.lemmas.Option.{slice_get-map}
use Rattle.rb_trees.specs.CallKinds.{kinds}
use Rattle.rb_meaning_code.specs.Remote.{kind_of}
use Rattle.rb_engine.specs.Kinds.{mirror_kind}

-- A number stands for the same kind in the trees and in the meaning.
pub kinds_mirrored : (number : ℕ) → option_map mirror_kind (slice_get kinds number) ≡ kind_of number
kinds_mirrored number = sym (slice_get-map mirror_kind kinds number)
