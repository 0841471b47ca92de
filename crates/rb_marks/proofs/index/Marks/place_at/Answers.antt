use Rattle.std.proofs.Common.{sym, ap, ◌∙◌}
use Rattle.std.specs.FinMap as map
use Rattle.rb_marks.proofs.Maps.{get_entries}
use Rattle.rb_marks.proofs.index.Marks.place_at.Goals as goal

pub returns : goal.returns
returns c = c.copied.ensures ∙ c.get.ensures.value ∙ sym (get_entries c.self.inside.places.entries c.args.at) ∙ ap (λ m. map.get m.1 c.args.at) c.self.view_is
