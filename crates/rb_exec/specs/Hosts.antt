-- What a script means on a host.
use Rattle.std.specs.Prelude.{ℕ, List, map}
use Rattle.rb_trees.specs.declared.values.Value.{Value}
use Rattle.rb_trees.specs.declared.scripts.Script.{Script}
use Rattle.rb_trees.specs.declared.versions.Version.{Version}
use Rattle.rb_trees.specs.mirror.Declarations.{mirror_class}
use Rattle.rb_trees.specs.mirror.Scripts.{mirror_script}
use Rattle.rb_meaning_bytes.specs.formats.ForestBytes.{forest_bytes}
use Rattle.rb_meaning_code.specs.ScriptRun.{Ran, run_script}
use Rattle.rb_exec.specs.Hosted.{Hosted}

-- a script with the values of its inputs on a service and its table
abbrev pub script_run : Hosted → Script → List Value → Ran
script_run h script inputs = run_script (mirror_script script) inputs (map mirror_class h.service.classes) h.service.root h.table

-- the bytes of the forest that it gives, in a version of the wire
abbrev pub forest_of : Version → Hosted → Script → List Value → List ℕ
forest_of version h script inputs = forest_bytes version (script_run h script inputs).node
