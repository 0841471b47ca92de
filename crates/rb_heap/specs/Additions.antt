-- Why an object isn't added.
use Rattle.std.specs.Prelude.{◌≡◌, ◌<◌, List, length}
use Rattle.rb_trees.specs.Limits.{most_objects}
use Rattle.rb_trees.specs.declared.services.Object.{Object}
use Rattle.rb_heap.specs.declared.stops.AddStop.{AddStop}
use Rattle.rb_heap.specs.declared.stops.AddStop.TheVariants.{Full, Memory}

-- The heap is full, and the object is handed back; or it isn't, and memory ran out.
abbrev pub RefusesObject : List Object → Object → AddStop → Type 0
RefusesObject heap object (Full back) = (length heap ≡ most_objects) × (back ≡ object)
RefusesObject heap object Memory = length heap < most_objects
