-- All of the outside that a command may touch.
use Rattle.std.specs.Prelude.{ℕ, List}
use Rattle.rb_base.specs.declared.files.Files as files
use Rattle.rb_base.specs.declared.listens.Listen as listens
use Rattle.rb_base.specs.declared.sinks.Sink as sinks
use Rattle.rb_base.specs.Devices.{Device, device}
use Rattle.rb_base.specs.Directories.{Directory, read_once}
use Rattle.rb_base.specs.Listening.{Listening}
use Rattle.rb_disk.specs.Storing as storing
use Rattle.rb_disk.specs.Storing.{StoreSeen}
use Rattle.rb_disk.specs.declared.stores.Stores as storages
use Rattle.rb_session.specs.declared.dials.Dial as dials
use Rattle.rb_session.specs.Dials.{DialSeen, seen}

-- the files and the output
pub record Scene : Type 0 where
  pub files : Device Directory
  pub out : Device (List ℕ)

-- the scene after a read
abbrev pub once_read : Scene → Scene
once_read s = record s { files = read_once s.files }

-- the files and the output; where links are dialled; where sessions come from; and where disks are had from
pub record Outside (L : Type 0) : Type 0 where
  pub scene : Scene
  pub dial : DialSeen L
  pub listen : Device Listening
  pub stores : StoreSeen

abbrev pub directory : {F : Type 0} → files.Ghosts F → F → Device Directory
directory f fs = device f.told f.faults fs

abbrev pub output : {W : Type 0} → sinks.Ghosts W → W → Device (List ℕ)
output w out = device w.told w.faults out

abbrev pub scene : {F W : Type 0} → files.Ghosts F → sinks.Ghosts W → F → W → Scene
scene f w fs out = record { files = directory f fs; out = output w out }

-- all of the outside, as its traits' members see it
abbrev pub outside : {F W D L N S K T E : Type 0} → files.Ghosts F → sinks.Ghosts W → dials.Ghosts D L → listens.Ghosts N S K → storages.Ghosts T E → F → W → D → N → T → Outside L
outside f w d n t fs out dial listen disks = record {
  scene = scene f w fs out;
  dial = seen d.told d.faults d.broken dial;
  listen = device n.told n.faults listen;
  stores = storing.seen t.told t.faults t.broken disks;
}

-- This holds of the output before and after.
abbrev pub Across : {W : Type 0} → sinks.Ghosts W → W → W → (Device (List ℕ) → Device (List ℕ) → Type 0) → Type 0
Across w out out' Holds = Holds (output w out) (output w out')

-- This holds of the files and the output before and after.
abbrev pub Between : {F W : Type 0} → files.Ghosts F → sinks.Ghosts W → F → W → F → W → (Scene → Scene → Type 0) → Type 0
Between f w fs out fs' out' Holds = Holds (scene f w fs out) (scene f w fs' out')
