-- Events that only come.
use Rattle.std.specs.Prelude.{◌≡◌, List, ◌++◌}
use Rattle.rb_meaning_code.specs.State.{Local}
use Rattle.rb_meaning.specs.State.{Event}
use Rattle.rb_meaning_split.specs.Replay.{Seen, Rest}

-- later events are those before and more
abbrev pub More : List Event → List Event → Type 0
More before after = (more : List Event) × (after ≡ before ++ more)

-- What follows only adds events.
abbrev pub Adds : Rest → Type 0
Adds go = (l : Local) (s : Seen) → More s.events (go l s).events
