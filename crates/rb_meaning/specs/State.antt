-- What surrounds the code of a program: what it shows, and the server. Together with the local state of the code this is
-- the one state of the unsplit meaning.
use Rattle.std.specs.Prelude.{ℕ, List, [], ◌∷◌, ◌++◌}
use Rattle.rb_meaning_code.specs.Remote.{Server}

-- what a run shows in order: a printed line, or that a batch was begun
pub data Event : Type 0 where
  Line : (bytes : List ℕ) → Event
  Batch : Event

-- what is around client code: the events so far, and the server
pub record Outside : Type 0 where
  pub events : List Event
  pub server : Server

-- with one event more
abbrev pub shows : Event → Outside → Outside
shows event s = record s { events = s.events ++ event ∷ [] }
