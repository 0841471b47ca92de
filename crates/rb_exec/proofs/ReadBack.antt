-- A forest that was written is read back.
use Rattle.std.proofs.Common.{◌≡◌, sym, subst, ℕ, List}
use Rattle.std.specs.Prelude.{Result, Ok}
use Rattle.rb_trees.specs.Outcome.{Gives}
use Rattle.rb_trees.specs.declared.forests.Node as node
use Rattle.rb_trees.specs.declared.versions.Version.{Version}
use Rattle.rb_trees.specs.mirror.Forests.{Node, mirror_node}
use Rattle.rb_meaning_bytes.specs.formats.Forests.{forest_of, forest_message}
use Rattle.rb_meaning_bytes.specs.formats.ForestBytes.{forest_bytes, FormedForest}
use Rattle.rb_meaning_bytes.specs.formats.Laws.{IsSpelling}
use Rattle.rb_meaning_bytes.specs.formats.Payloads.{IsForest, IsForestOf}
use Rattle.rb_wire_forest.specs.Payloads.{Means, Violation, violation, spelled}
use Rattle.rb_wire_forest.specs.declared.decoding.ForestStop.{ForestStop}

-- what is read of the bytes of a forest
pub read_back : (version : Version) → IsSpelling (forest_of version) (forest_bytes version) FormedForest → ((payload : List ℕ) (n : Node) → IsForestOf version payload n → IsForest payload n)
    → (n : Node) (payload : List ℕ) (read : node.Node) → FormedForest n → payload ≡ forest_bytes version n
    → ((meant : Result Node Violation) → Means forest_message payload meant → Gives {E = ForestStop} mirror_node violation (Ok read) meant) → mirror_node read ≡ n
read_back version law either n payload read formed is only =
    let spells : IsForest payload n = subst (λ xs. IsForest xs n) (sym is) (either (forest_bytes version n) n (law.spelled n formed)) in
    let same : Ok n ≡ Ok (mirror_node read) = only (Ok n) (spelled n spells) in
    cc
