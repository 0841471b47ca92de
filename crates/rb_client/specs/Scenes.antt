-- All of the outside that a client's run touches: its link and its output.
use Rattle.std.specs.Prelude.{ℕ, List, Bool, Option}
use Rattle.rb_meaning.specs.Links.{Behind, Pair, pairs_told, server_told}
use Rattle.rb_base.specs.Devices.{Device, device}
use Rattle.rb_base.specs.declared.links.Link as links
use Rattle.rb_base.specs.declared.sinks.Sink as sinks

-- the pairs and the server that the link tells, how many of its exchanges failed, whether it lends a table, and whether it is
-- honest and quiet; and the output
pub record Scene : Type 1 where
  pub pairs : Option (List Pair)
  pub server : Option Behind
  pub faults : ℕ
  pub lends : Bool
  pub honest : Type 0
  pub quiet : Type 0
  pub out : Device (List ℕ)

abbrev pub scene : {L W : Type 0} → links.Ghosts L → sinks.Ghosts W → L → W → Scene
scene gl gw link out = record {
  pairs = pairs_told (gl.told link);
  server = server_told (gl.told link);
  faults = gl.faults link;
  lends = gl.lends link;
  honest = gl.honest link;
  quiet = gl.quiet link;
  out = device gw.told gw.faults out;
}

-- This holds of the scenes before and after.
abbrev pub Between : {L W : Type 0} → links.Ghosts L → sinks.Ghosts W → L → W → L → W → (Scene → Scene → Type 0) → Type 0
Between gl gw link out link' out' Holds = Holds (scene gl gw link out) (scene gl gw link' out')
