-- What a server is seen as, and what units of fuel are taken of it.
use Rattle.std.specs.Prelude.{◌≡◌, ℕ, suc, List, Bool, true, false}
use Rattle.std.specs.Coded.{Coded, code_by, coded×, coded_list, coded_ℕ}
use mathlib.Core.Path.{refl}
use Rattle.rb_trees.specs.contracts.services.Object as object_code
use Rattle.rb_trees.specs.declared.services.Object.{Object}
use Rattle.rb_meaning_code.specs.Remote.{Server}

-- the code of what a server is seen as
abbrev pub server_code : Coded Server
server_code =
    code_by (List Object × ℕ) (coded× (coded_list object_code.the_row.coded) coded_ℕ) (λ s. (s.table, s.fuel)) (λ p. record { table = p.0; fuel = p.1 }) (λ _. refl)

-- One unit is taken; or there was none, and nothing is.
abbrev pub TakesUnit : Server → Bool → Server → Type 0
TakesUnit before true after = before ≡ record after { fuel = suc after.fuel }
TakesUnit before false after = (before.fuel ≡ 0) × (after ≡ before)
