use Rattle.std.proofs.Common.{◌≡◌, ◌+◌, ◌≤◌, length, min, ap, ◌∙◌, arith}
use Rattle.std.specs.List.{count_by}
use Rattle.rb_help.specs.Headings.{begins_character}
use Rattle.rb_help.specs.Lines.{before_place}
use Rattle.rb_help.proofs.Counting.{before_end, count_of_line}
use Rattle.rb_help.proofs.sheet.Sheet.column.Goals as goal

pub overflow_sub-result : goal.overflow_sub-result
overflow_sub-result c =
    let text = c.args.self.now.text in
    let place = c.min-place.result in
    let within : place ≤ length text = omega (arith, ap length c.text.ensures) in
    let counts : c.count_before-2.result + count_by begins_character (before_place text place) ≡ c.count_before.result =
    rw (c.count_before-2.ensures, c.count_before.ensures, c.start.ensures) (count_of_line text place within) in
    omega (arith, counts)

pub returns : goal.returns
returns c =
    let text = c.args.self.now.text in
    let place = c.min-place.result in
    let same : place ≡ min c.args.at (length text) = omega (arith, ap length c.text.ensures) in
    let within : place ≤ length text = omega (arith, same) in
    let counts : c.count_before-2.result + count_by begins_character (before_place text place) ≡ c.count_before.result =
    rw (c.count_before-2.ensures, c.count_before.ensures, c.start.ensures) (count_of_line text place within) in
    let line = ap (λ i. count_by begins_character (before_place text i)) same ∙ ap (λ xs. count_by begins_character xs) (before_end text c.args.at) in
    omega (arith, counts, line)
