use Rattle.rb_disk.proofs.Puts.{read_is_image}
use Rattle.rb_disk.proofs.laws.reading_is_an_image.Goals as goal

pub returns : goal.returns
returns c = λ d. read_is_image d.first d.calls
