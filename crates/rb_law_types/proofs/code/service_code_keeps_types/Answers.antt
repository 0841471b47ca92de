-- All code of typed services.
use Rattle.rb_law_types.proofs.Services.{services_keep}
use Rattle.rb_law_types.proofs.code.service_code_keeps_types.Goals as goal

pub returns : goal.returns
returns c = services_keep
