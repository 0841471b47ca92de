use Rattle.rb_help.specs.declared.colours.Paint.TheVariants.{Blue}
use Rattle.rb_help.specs.Colours.{painted}
use Rattle.rb_help.proofs.Painting.{part-is-painted, painted-append}
use Rattle.rb_help.proofs.colours.painted_line.Goals as goal
use Rattle.rb_help.proofs.colours.painted_line.Goals.{then-is_empty+in_ok-add_part, else-is_empty+in_ok-add_part-2+in_ok-add_part-3}

pub returns : goal.returns
returns c = elim c.if-is_empty.branch [
  | then-is_empty+in_ok-add_part w ↦ rw (w.shown-is, w.in_ok-add_part.ensures, c.new-shown.ensures) (part-is-painted w.paint_of.result c.args.line.now)
  | else-is_empty+in_ok-add_part-2+in_ok-add_part-3 w ↦ let margin = c.split_at.result.0.now in let behind = c.split_at.result.1.now in let paint = w.paint_behind.result in
      rw (w.shown-is, w.in_ok-add_part-3.ensures, w.in_ok-add_part-2.ensures, c.new-shown.ensures, c.split_at.ensures.by_index.0) (painted-append margin behind (painted Blue margin) (painted paint behind) (part-is-painted Blue margin) (part-is-painted paint behind))
]
