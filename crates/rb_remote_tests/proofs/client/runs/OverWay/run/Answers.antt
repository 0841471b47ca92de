use Rattle.std.proofs.Common.{sym, subst}
use Rattle.rb_client.specs.Runs.{IsAcceptedWith}
use Rattle.rb_remote_tests.proofs.client.runs.OverWay.run.Goals as goal

pub run_accepted-requires : goal.run_accepted-requires
run_accepted-requires g c =
    subst (λ q. IsAcceptedWith q c.in-Ok.splits) (sym c.typed.ensures.same)
    (record { none = c.requires.none; divided = c.in-Ok.ensures.divided; places = c.requires.places })
