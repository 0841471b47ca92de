-- What the World of a service's code answers: what the surroundings of a service's code do.
use Rattle.std.specs.Prelude.{◌≡◌, ℕ, Ok}
use Rattle.rb_trees.specs.declared.want.Memory.{Memory}
use Rattle.rb_meaning_code.specs.State.{Local}
use Rattle.rb_meaning_code.specs.Dialogue.{Question}
use Rattle.rb_meaning_code.specs.Bodies.{in_service}
use Rattle.rb_engine.specs.Answers.{Answer, Performed}
use Rattle.rb_engine.specs.declared.service.ServiceWorld.{ServiceWorld}

abbrev pub service_answers : ServiceWorld → Question → Answer Memory → ServiceWorld → Type 0
service_answers w question answer w' = (answer ≡ Ok (in_service.answer tt question).0) × (w' ≡ w)

abbrev pub service_performs : ServiceWorld → ℕ → Local → Performed Memory → ServiceWorld → Type 0
service_performs w at l ended w' = (ended ≡ Ok (in_service.batch tt at l).0) × (w' ≡ w)
