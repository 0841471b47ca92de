use Rattle.std.proofs.Common.{◌∙◌, sym}
use Rattle.rb_disk.proofs.Placed.{under_some, under_no}
use Rattle.rb_disk.proofs.memory_stores.find.Goals as goal

pub returns-in_default : goal.returns-in_default
returns-in_default c = sym (under_no c.args.name.now c.args.places.now c.place_of.result c.place_of.ensures c.in_default.is).disk

pub returns : goal.returns
returns c =
    let at = under_some c.args.name.now c.args.places.now c.place_of.result c.in-Some.place c.place_of.ensures c.in-Some.is in
    c.as_ref.ensures.value ∙ sym (at.disk c.index-places-place.result)
