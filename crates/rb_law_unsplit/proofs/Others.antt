-- What others do before a batch keeps `main`'s surroundings fitting: what a batch finds, what it leaves, and what is still to come.
use Rattle.std.proofs.Common.{List, [], ◌∷◌, drop, map}
use Rattle.std.specs.List.{AllByRecursion}
use Rattle.rb_trees.specs.declared.services.Object.{Object}
use Rattle.rb_trees.specs.mirror.Services.{Service}
use Rattle.rb_meaning_types.specs.Fits.{TableFits}
use Rattle.rb_meaning_code.specs.Dialogue.{Outcome}
use Rattle.rb_meaning.specs.Meaning.{Around, at_batch, behind_batch}
use Rattle.rb_meaning.specs.Others.{Others, becomes, found_table}
use Rattle.rb_meaning.specs.State.{Outside}
use Rattle.rb_law_unsplit.specs.Kept.{AllKeepFitting, HasFittingTable, StandsAround}

-- what a batch finds fits
pub found_fits : (service : Service) (others : List Others) (table : List Object) → AllKeepFitting service others → TableFits service.classes service.root table
    → TableFits service.classes service.root (found_table others table)
found_fits service [] table kept fits = fits
found_fits service (next ∷ others) table kept fits = kept.0 table fits

-- what others do behind the batch still keeps tables fitting
pub others_left : (service : Service) (others : List Others) → AllKeepFitting service others → AllKeepFitting service (drop 1 others)
others_left service [] kept = kept
others_left service (next ∷ others) kept = kept.1

pub stands_at_batch : (service : Service) (a : Around) → StandsAround service a → HasFittingTable service (at_batch a)
stands_at_batch service a stands = found_fits service a.others a.outside.server.table stands.others stands.table

-- behind a batch that left a table that fits
pub stands_behind : (service : Service) (a : Around) (r : Outcome (Unit {0}) × Outside) → StandsAround service a → HasFittingTable service r.1
    → StandsAround service (behind_batch a r).1
stands_behind service a r stands fits = record { table = fits; others = others_left service a.others stands.others }

-- others who make tables of it that fit keep it fitting
pub becoming_keeps : (service : Service) (found : List (List Object)) → AllByRecursion (TableFits service.classes service.root) found → AllKeepFitting service (map becomes found)
becoming_keeps service [] fits = tt
becoming_keeps service (table ∷ found) fits = (λ before kept. fits.0, becoming_keeps service found fits.1)
