use Rattle.std.proofs.Common.{refl}
use Rattle.std.specs.Prelude.{map}
use Rattle.rb_meaning_split.specs.Division.{mirror_split}
use Rattle.rb_top.specs.Answers.{called, checked, viewed}
use Rattle.rb_top.proofs.command.fulfil.Goals as goal

pub returns-in-Check : goal.returns-in-Check
returns-in-Check g c = rw c.in-Check.is (checked c.in-Check.field-0.now c.say.ensures refl refl)

pub returns-in-Split : goal.returns-in-Split
returns-in-Split g c =
    rw c.in-Split.is (viewed c.in-Split.field-0.now (map mirror_split c.as_slice.result.now) (rw c.as_slice.ensures c.requires.accepted.divided) c.say_divided.ensures refl refl)

pub returns-in-Run : goal.returns-in-Run
returns-in-Run g c = rw c.in-Run.is c.run_on.ensures

pub returns-in-Call : goal.returns-in-Call
returns-in-Call g c = rw c.in-Call.is (called c.in-Call.call.address.now c.in-Call.call.program.now c.in-Call.call.fuel c.run_call.ensures refl)
