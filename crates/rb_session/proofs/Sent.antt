-- What a script that was sent gives on a typed host: its node has a spelling, and the host stays typed.
use Rattle.std.proofs.Common.{◌≡◌, ap, sym, ◌∙◌, subst, ℕ, List, ◌++◌}
use Rattle.rb_trees.specs.declared.values.Value.{Value}
use Rattle.rb_trees.specs.declared.versions.Version.{Version}
use Rattle.rb_trees.specs.mirror.Forests.{Node}
use Rattle.rb_trees.specs.mirror.Services.{mirror_service}
use Rattle.rb_meaning_bytes.specs.formats.FormedScripts.{IsWithinLimits, StepsWithin}
use Rattle.rb_meaning_bytes.specs.formats.Forests.{forest_of}
use Rattle.rb_meaning_bytes.specs.formats.ForestBytes.{forest_bytes, FormedForest, FormedNode}
use Rattle.rb_meaning_bytes.specs.formats.Laws.{IsSpelling}
use Rattle.rb_meaning_bytes.specs.formats.Messages.{Sent}
use Rattle.rb_meaning_bytes.specs.formats.Payloads.{IsForestOf}
use Rattle.rb_law_types.specs.Scripts.{ScriptsKeep, RanKeeps, StepsGive, AreNone}
use Rattle.rb_law_types.specs.Formed.{LawfulClassesAreFormed}
use Rattle.rb_exec.specs.Hosted.{Hosted}
use Rattle.rb_exec.specs.Hosts.{script_run}
use Rattle.rb_wire_forest.specs.Buffers.{Appends}
use Rattle.rb_session.specs.Answering.{IsTypedHost, Performs, performed_on}
use Rattle.rb_session.specs.Readings.{Request, IsSent, sent_of}
use Rattle.rb_session.proofs.Nodes.{root_formed}
use Rattle.rb_session.proofs.Bounded.{script_bounded, inputs_fit}

limits_within : (x : Sent) → IsWithinLimits x.script → StepsWithin 63 x.script.body
unfolding IsWithinLimits
limits_within x h = h

as_forest : (node : Node) → FormedNode 64 node → FormedForest node
unfolding FormedForest
as_forest node h = h

gives : ScriptsKeep → LawfulClassesAreFormed → (host : Hosted) (x : Sent) → IsTypedHost host → IsSent x
    → RanKeeps (mirror_service host.service).classes host.service.root host.table (λ es. StepsGive x.script.body AreNone es) (performed_on host x)
gives law formed host x typed sent =
    let classes = (mirror_service host.service).classes in
    law classes typed.typed (formed classes typed.lawful.each) host.service.root host.table typed.fits x.script x.values
    (script_bounded x.script sent.formed.formed.body sent.valid) (inputs_fit x.script x.values sent.formed.values)

-- its node
pub node_spelled : ScriptsKeep → LawfulClassesAreFormed → (host : Hosted) (x : Sent) → IsTypedHost host → IsSent x → FormedForest (performed_on host x).node
node_spelled law formed host x typed sent =
    let ran = gives law formed host x typed sent in
    as_forest (performed_on host x).node (root_formed x.script.body (limits_within x sent.formed.within) sent.few (performed_on host x).node ran.node)

-- its forest, where its bytes were appended
pub node_appended : ScriptsKeep → LawfulClassesAreFormed → ((version : Version) → IsSpelling (forest_of version) (forest_bytes version) FormedForest) → (host : Hosted) (x : Sent) (old new : List ℕ) → IsTypedHost host → IsSent x
    → new ≡ old ++ forest_bytes x.version (performed_on host x).node → Appends (λ bytes. IsForestOf x.version bytes (performed_on host x).node) old new
node_appended law formed spelling host x old new typed sent is = record {
  bytes = forest_bytes x.version (performed_on host x).node;
  is_so = (spelling x.version).spelled (performed_on host x).node (node_spelled law formed host x typed sent);
  is = is;
}

-- the host after it
pub stays_typed : ScriptsKeep → LawfulClassesAreFormed → (host after : Hosted) (x : Sent) → IsTypedHost host → IsSent x → after.service ≡ host.service
    → after.table ≡ (performed_on host x).server.table → IsTypedHost after
stays_typed law formed host after x typed sent same is =
    let ran = gives law formed host x typed sent in
    let moved : after ≡ record { service = host.service; table = (performed_on host x).server.table } = ap (λ s. record { service = s; table = after.table }) same ∙ ap (λ t. record { service = host.service; table = t }) is in
    subst IsTypedHost (sym moved) (record { lawful = typed.lawful; typed = typed.typed; fits = ran.table.fits })

-- the values of its inputs as they are lent
pub as_lent : (host : Hosted) (r : Request) (lent : List Value) → lent ≡ r.inputs → script_run host r.script lent ≡ performed_on host (sent_of r)
as_lent host r lent same = ap (script_run host r.script) same

-- what was performed, as it is seen
pub performs_so : (before after : Hosted) (r s : Request) (old new : List ℕ) → r ≡ s → Performs before after (sent_of r) old new → Performs before after (sent_of s) old new
performs_so before after r s old new e d = subst (λ q. Performs before after (sent_of q) old new) e d
