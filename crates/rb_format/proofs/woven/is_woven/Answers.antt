use Rattle.std.proofs.Common.{◌≡◌, true, sym, ◌∙◌, length, rules}
use Rattle.std.proofs.lemmas.Bool.Decides.{Decides-eqb}
use Rattle.rb_format.proofs.LinesRead.{both_end}
use Rattle.rb_format.proofs.woven.is_woven.Goals as goal

pub returns : goal.returns
returns c = λ yes.
    let over : c.is_empty.result ≡ true = search rules in
    c.loop-rest.invariant
    (both_end c.loop-rest.left.now c.loop-rest.rest.now
    ((Decides-eqb (length c.loop-rest.left.now) 0).0 (sym c.is_empty-2.ensures ∙ yes))
    ((Decides-eqb (length c.loop-rest.rest.now) 0).0 (sym c.is_empty.ensures ∙ over)))
