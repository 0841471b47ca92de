-- A script on a host is its body, run with the fuel of a batch.
use Rattle.std.proofs.Common.{◌≡◌, sym, ap, ◌∙◌, ℕ, List, [], ◌∷◌, ◌++◌, map, append_assoc}
use Rattle.std.specs.Prelude.{Bool}
use Rattle.rb_trees.specs.declared.values.Value.{Value}
use Rattle.rb_trees.specs.declared.declarations.Class.{Class}
use Rattle.rb_trees.specs.declared.scripts.Script.{Script}
use Rattle.rb_trees.specs.declared.scripts.Step.{Step}
use Rattle.rb_trees.specs.declared.services.Object.{Object}
use Rattle.rb_trees.specs.declared.versions.Version.{Version}
use Rattle.rb_trees.specs.mirror.Declarations.{mirror_class}
use Rattle.rb_trees.specs.mirror.Forests.{Node}
use Rattle.rb_trees.specs.mirror.Scripts.{mirror_steps}
use Rattle.rb_meaning_bytes.specs.formats.ForestBytes.{forest_bytes, node_bytes}
use Rattle.rb_meaning_bytes.specs.formats.Values.{version_byte}
use Rattle.rb_meaning_code.specs.Remote.{Server, batch_fuel}
use Rattle.rb_meaning_code.specs.ScriptRun.{Vars, Ran, ended, run_steps}
use Rattle.bytes.specs.Filled.{Filled}
use Rattle.rb_exec.specs.Blocks.{WroteNode}
use Rattle.rb_exec.specs.Stages.{block_run, body_run}
use Rattle.rb_exec.specs.declared.stage.Stage.{Stage}
use Rattle.rb_exec.specs.Hosted.{Hosted}
use Rattle.rb_exec.specs.Hosts.{script_run}

abbrev body_of : List Class → ℕ → List Value → Script → Server → Ran
body_of code root inputs script s = run_steps (record { classes = map mirror_class code; root = root; inputs = inputs }) (mirror_steps script.body) [] s ended

pub host_run : (h : Hosted) (script : Script) (inputs : List Value) (code : List Class) (root : ℕ) (table : List Object) (before : Server)
    → h ≡ record { service = record { classes = code; root = root }; table = table } → before ≡ record { table = table; fuel = 1000000 }
    → body_of code root inputs script before ≡ script_run h script inputs
unfolding batch_fuel
host_run h script inputs code root table before e f = ap (body_of code root inputs script) f ∙ ap (λ x. script_run x script inputs) (sym e)

-- the version before the node
pub forest_so : (version : Version) (n : Node) (byte : ℕ) (old mid new : List ℕ) → byte ≡ version_byte version → mid ≡ old ++ byte ∷ [] → new ≡ mid ++ node_bytes version n
    → new ≡ old ++ forest_bytes version n
forest_so version n byte old mid new b h e =
    e ∙ ap (λ l. l ++ node_bytes version n) (h ∙ ap (λ c. old ++ c ∷ []) b) ∙ append_assoc old (version_byte version ∷ []) (node_bytes version n)

-- the body behind the version
pub body_so : (st : Stage) (body : List Step) (vars : Vars) (s s1 after : Server) (halts : Bool) (byte : ℕ) (old : List ℕ) (tagged lent : Filled) (new : List ℕ)
    → vars ≡ [] → s1 ≡ s → byte ≡ version_byte st.version → tagged.items ≡ old ++ byte ∷ [] → lent ≡ tagged → WroteNode st.version (block_run st body vars s1) lent.items halts new after
    → (new ≡ old ++ forest_bytes st.version (body_run st body s).node) × (after ≡ (body_run st body s).server)
body_so st body vars s s1 after halts byte old tagged lent new v e b t l w =
    let same : block_run st body vars s1 ≡ body_run st body s = ap (λ x. block_run st body x s1) v ∙ ap (body_run st body) e in (
      forest_so st.version (body_run st body s).node byte old tagged.items new b t
          (w.bytes ∙ ap (λ x. x.items ++ node_bytes st.version (block_run st body vars s1).node) l ∙ ap (λ r. tagged.items ++ node_bytes st.version r.node) same),
      w.server_so ∙ ap (λ r. r.server) same,
    )
