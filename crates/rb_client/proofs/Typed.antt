-- A typed program passes the check.
use Rattle.std.proofs.Common.{◌≡◌, true, Result, Ok, Err, refl}
use Rattle.std.specs.Result.{is_ok}
use Rattle.rb_trees.specs.mirror.Declarations.{Program}
use Rattle.rb_meaning_types.specs.Programs.{check_program, is_typed}

passed : {D : Type 0} (r : Result (Unit {0}) D) → is_ok r ≡ true → r ≡ Ok tt
passed (Ok u) h = refl
passed (Err d) h = absurd (cc h)

pub typed_checked : (p : Program) → is_typed p ≡ true → check_program p ≡ Ok tt
typed_checked p h = passed (check_program p) h
