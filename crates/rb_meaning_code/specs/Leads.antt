-- What a type's surroundings are as a record.
use Rattle.rb_meaning_code.specs.Dialogue.{Surroundings}
use Rattle.rb_meaning_code.specs.declared.surroundings.Surroundings as surroundings

abbrev pub leads : {W X : Type 0} → surroundings.Ghosts W X → Surroundings W X
leads g = record { answers = g.answers; performs = g.performs }
