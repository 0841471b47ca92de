-- All code of typed services, in their surroundings.
use Rattle.rb_law_types.proofs.Services.{services_end}
use Rattle.rb_law_types.proofs.code.service_code_ends.Goals as goal

pub returns : goal.returns
returns c = services_end
