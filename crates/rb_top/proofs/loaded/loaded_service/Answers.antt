use Rattle.std.proofs.Common.{sym, subst}
use Rattle.rb_top.specs.Loads.{HoldsText}
use Rattle.rb_top.proofs.Telling.{service_unread, no_service}
use Rattle.rb_top.proofs.loaded.loaded_service.Goals as goal

pub returns-in-Err-clause-loads : goal.returns-in-Err-clause-loads
returns-in-Err-clause-loads g c = service_unread c.args.name.now c.in-Err.stop c.say_unread.result _ _ c.in-Err.ensures c.say_unread.ensures

pub returns-in-Err-read_service-clause-loads : goal.returns-in-Err-read_service-clause-loads
returns-in-Err-read_service-clause-loads g c =
    no_service c.args.name.now c.as_slice-source.result.now c.in-Err-read_service.error c.refuse_service.result _ _
    (subst (HoldsText _ c.args.name.now) (sym c.as_slice-source.ensures) c.in-Ok.ensures.0) c.in-Err-read_service.ensures.read c.refuse_service.ensures c.in-Ok.ensures.1
