use Rattle.std.proofs.Common.{◌≡◌, ◌++◌, cond, map, drop}
use Rattle.rb_meaning.specs.Shown.{literal, listed, more_listed}
use Rattle.rb_shown.proofs.literals.+literals.Given as goal

-- with the items that are left, the text is that of all items
abbrev pub invariant-add_list-loop-item : goal.invariant-add_list-loop-item
invariant-add_list-loop-item l =
    let left = map literal (drop l.item-index l.items) in
    l.into ++ cond l.is_first (listed left) (more_listed left) ≡ l.initial.into ++ listed (map literal l.items)
