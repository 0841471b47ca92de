use Rattle.rb_meaning_bytes.proofs.formats.Payloads.{means_something, means_once}
use Rattle.rb_meaning_bytes.proofs.laws.script_payloads_mean_one_thing.Goals as goal

pub returns-clause-one : goal.returns-clause-one
returns-clause-one c payload b = means_something payload b

pub returns-clause-alone : goal.returns-clause-alone
returns-clause-alone c payload meant other b m n = means_once payload meant other b m n
