-- The local state of the meaning, as the code keeps it.
use Rattle.rb_meaning_code.specs.State.{Names, Local}
use Rattle.rb_engine.specs.declared.state.State.{State}

-- a frame's names and a state, as one local state
abbrev pub local : Names → State → Local
local names state = record { names = names; heap = state.heap; fuel = state.fuel; depth = state.depth }
