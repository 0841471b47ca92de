-- What forests and cursors are seen as.
use Rattle.std.specs.Prelude.{List, [], Option, None, Some, Result, Ok, Err}
use Rattle.rb_trees.specs.mirror.Forests.{Node, Holds, NoEntries}
use Rattle.rb_meaning_bytes.specs.formats.Reading.{Fault, read_all}
use Rattle.rb_meaning_bytes.specs.formats.Forests.{forest_message}
use Rattle.rb_wire_forest.specs.Opens.{Open, all_open, frames_from}
use Rattle.rb_wire_forest.specs.Payloads.{Violation}
use Rattle.rb_wire_forest.specs.declared.forest.Forest.{Forest}
use Rattle.rb_wire_forest.specs.declared.cursor.Cursor.{Cursor}
use Rattle.rb_wire_forest.specs.declared.scan.ForestRefusal.{ForestRefusal}

abbrev pub or_empty : Result Node Fault → Node
or_empty (Ok n) = n
or_empty (Err e) = Holds NoEntries None

-- the root that the payload spells
unfoldable pub root_of : Forest → Node
root_of f = or_empty (read_all forest_message f.payload.now)

abbrev pub or_none : Option (List Open) → List Open
or_none (Some os) = os
or_none None = []

-- What is open, the innermost first, each with what is left of it: what the bytes that are left spell, frame after frame.
unfoldable pub opened : Cursor → List Open
opened c = or_none (all_open c.version (frames_from c.frames c.depth) c.rest.now)

abbrev pub refusal : ForestRefusal → Option Violation
refusal r = Some (r.number, r.at)
