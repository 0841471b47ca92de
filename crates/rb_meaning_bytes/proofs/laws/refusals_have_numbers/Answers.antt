use Rattle.rb_meaning_bytes.proofs.formats.ScriptNumbers.{refused_number}
use Rattle.rb_meaning_bytes.proofs.formats.ForestNumbers.{forest_number}
use Rattle.rb_meaning_bytes.proofs.laws.refusals_have_numbers.Goals as goal

pub returns-clause-scripts : goal.returns-clause-scripts
returns-clause-scripts c = refused_number

pub returns-clause-forests : goal.returns-clause-forests
returns-clause-forests c = forest_number
