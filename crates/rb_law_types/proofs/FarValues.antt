-- What goes to remote objects and comes from them.
use Rattle.rb_law_types.specs.Far.{FittingAreBounded, RemoteCallsGiveFar}
use Rattle.rb_law_types.proofs.Known.{AllGiveFar, typed_known, found_one}
use Rattle.rb_law_types.proofs.OwnKinds.{far_result}
use Rattle.rb_law_types.proofs.Exprs.{value_bounded}

pub fitting_are_bounded : FittingAreBounded
fitting_are_bounded is cs k v h = value_bounded is cs k v h

pub remote_calls_give_far : RemoteCallsGiveFar
remote_calls_give_far d typed at name method i args k found h =
    let known' = typed_known d typed in
    far_result d known' at method i args k (found_one (AllGiveFar d) (λ y. y.name) d.interfaces name i found known'.interfaces) h
