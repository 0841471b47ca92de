-- What the stops of reading tell.
use Rattle.std.specs.Prelude.{ℕ, Option, None, Some}
use Rattle.rb_json.specs.declared.stops.JsonRefusal.{JsonRefusal}
use Rattle.rb_json.specs.declared.stops.JsonStop.{JsonStop}
use Rattle.rb_json.specs.declared.stops.JsonStop.TheVariants as stops
use Rattle.rb_json.specs.declared.stops.ReadStop.{ReadStop}
use Rattle.rb_json.specs.declared.stops.ReadStop.TheVariants as read_stops

-- the refusal of bytes
abbrev pub refusal : JsonStop → Option JsonRefusal
refusal (stops.Refused r) = Some r
refusal stops.Memory = None

-- the number of the value that breaks the form
abbrev pub wrong : ReadStop → Option ℕ
wrong (read_stops.WrongForm place) = Some place
wrong read_stops.Memory = None
