use Rattle.std.proofs.Common.{◌≡◌, ◌^◌, true, subst, ap, ◌∙◌}
use Rattle.rb_trees.specs.mirror.Services.{mirror_literal}
use Rattle.rb_trees.proofs.mirror.Literals.{form_Items}
use Rattle.rb_store.specs.Referred.{is_below}
use Rattle.rb_store.proofs.values.+literal_values.Goals as goal

pub value_of-small_items-requires : goal.value_of-small_items-requires
value_of-small_items-requires t c = subst (λ l. is_below (2 ^ 32) l ≡ true) (ap mirror_literal c.in-Items.is ∙ form_Items c.in-Items.items) c.requires
