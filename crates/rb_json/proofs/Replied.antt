-- The reply in JSON is that of the wire.
use Rattle.std.proofs.Common.{◌≡◌, refl, ap, sym, ◌∙◌, subst, ℕ, List, [], ◌++◌}
use Rattle.std.proofs.lemmas.Grind.{common_steps}
use Rattle.std.specs.Prelude.{true, false, Result, Ok, Err, IfOk}
use Rattle.rb_trees.specs.Outcome.{Gives}
use Rattle.rb_trees.specs.Validity.{verdict}
use Rattle.rb_trees.specs.declared.forests.Node as node
use Rattle.rb_trees.specs.declared.scripts.Script as tree
use Rattle.rb_trees.specs.declared.values.Value.{Value}
use Rattle.rb_trees.specs.declared.services.Object.{Object}
use Rattle.rb_trees.specs.declared.validity.ScriptRefusal.{ScriptRefusal}
use Rattle.rb_trees.specs.declared.validity.ScriptRefusal.TheVariants.{UnknownVariable, UnknownInput, StepRepeated, TooDeep, WrongInput}
use Rattle.rb_trees.specs.declared.versions.Version.{Version}
use Rattle.rb_trees.specs.declared.versions.Version.TheVariants.{Two}
use Rattle.rb_trees.specs.mirror.Forests.{Node, mirror_node}
use Rattle.rb_trees.specs.mirror.Services.{Service, mirror_service}
use Rattle.rb_meaning_bytes.specs.formats.Fields.{IsBytes}
use Rattle.rb_meaning_bytes.specs.formats.Formats.{Spells}
use Rattle.rb_meaning_bytes.specs.formats.Forests.{forest_message}
use Rattle.rb_meaning_bytes.specs.formats.FormedScripts.{IsWithinLimits}
use Rattle.rb_meaning_code.specs.ScriptRun.{Ran}
use Rattle.serde_json.specs.Written.{has_float}
use Rattle.rb_meaning_bytes.specs.formats.Messages.{Sent, Refused}
use Rattle.rb_meaning_bytes.specs.formats.Payloads.{IsRequestOf, IsForest, IsForestOf, IsRefusalOf}
use Rattle.rb_meaning_bytes.specs.formats.ScriptMessages.{script_message}
use Rattle.rb_meaning_bytes.specs.formats.ScriptPayloads.{Means, taken, not_valid, refused, number_of, step_of}
use Rattle.rb_meaning.specs.Answers.{forest_kind, performed, Answers, performs, refuses}
use Rattle.rb_exec.specs.Hosted.{Hosted}
use Rattle.rb_session.specs.Answering.{Replies, performed_on}
use Rattle.rb_wire_forest.specs.Payloads as read
use Rattle.rb_wire_forest.specs.declared.decoding.ForestStop.{ForestStop}
use Rattle.rb_wire_forest.specs.declared.decoding.ForestStop.TheVariants as stops
use Rattle.rb_json.specs.Answering.{reply_on, StaysUnlessPerformed, RefusedBySuch, reply_by, SaysInJson, forest, refusal, RepliesAsTheWire, SpellsValid, SpellsForest, PerformsSent, is_script_refusal}
use Rattle.rb_json.specs.Formed.{IsShallow, IsSendable}
use Rattle.rb_json.specs.Mirrors.{sent}
use Rattle.rb_json.specs.Replies.{node_data, refusal_data}
use Rattle.rb_json.specs.Requests.{request_in}
use Rattle.rb_json.proofs.Shallow.{refused_shallow}
use Rattle.rb_json.proofs.Written.{node_plain}

-- A payload means one thing.
abbrev pub MeansOne : Type 0
MeansOne = (payload : List ℕ) (meant other : Result Sent Refused) → IsBytes payload → Means payload meant → Means payload other → meant ≡ other

says_by : MeansOne → (service : Service) (table after : List Object) (x : Sent) (payload reply : List ℕ) (kind : ℕ) (v : Result Unit ScriptRefusal) → verdict x.script ≡ v → x.version ≡ Two → IsBytes payload
    → Spells script_message payload x → Answers service table payload kind reply after
    → SaysInJson kind reply (reply_by v table (performed service table x)).json × (after ≡ (reply_by v table (performed service table x)).table)
says_by once service table _ x payload _ _ (Ok tt) valid two bytes spells (performs y reply m s) =
    let same : x ≡ y = cc (once payload (Ok x) (Ok y) bytes (taken x spells valid) m) in
    let version : y.version ≡ Two = ap (λ z. z.version) (sym same) ∙ two in (
      subst (λ z. SaysInJson forest_kind reply (node_data (performed service table z).node)) (sym same)
          (forest reply (performed service table y).node (subst (λ v. IsForestOf v reply (performed service table y).node) version s)),
      ap (λ z. (performed service table z).server.table) (sym same),
    )
says_by once service table _ x payload _ _ (Ok tt) valid two bytes spells (refuses wrong reply m s) =
    let same = once payload (Ok x) (Err wrong) bytes (taken x spells valid) m in absurd (cc (same))
says_by once service table _ x payload _ _ (Err r) valid two bytes spells (performs y reply m s) =
    let same = once payload (Err (refused x.version r)) (Ok y) bytes (not_valid x r spells valid) m in absurd (cc (same))
says_by once service table _ x payload _ _ (Err r) valid two bytes spells (refuses wrong reply m s) =
    let same : refused x.version r ≡ wrong = cc (once payload (Err (refused x.version r)) (Err wrong) bytes (not_valid x r spells valid) m) in
    (refusal reply (number_of r) (step_of r) (subst (λ v. IsRefusalOf v reply (number_of r) (step_of r)) two (subst (λ w. IsRefusalOf w.version reply w.number w.at) (sym same) s)), refl)

-- what spells a script in version 2
in_two : (x : Sent) (payload : List ℕ) → x.version ≡ Two → IsRequestOf Two payload x.script x.values → Spells script_message payload x
in_two x payload two spells = subst (λ v. Spells script_message payload (record { version = v; script = x.script; values = x.values })) (sym two) spells

pub replies_as_the_wire : MeansOne → RepliesAsTheWire
replies_as_the_wire once service table after x payload reply kind two bytes spells answers =
    says_by once service table after x payload reply kind (verdict x.script) refl two bytes (in_two x payload two spells) answers

performed_by : MeansOne → ((version : Version) (payload : List ℕ) (n : Node) → IsForestOf version payload n → IsForest payload n)
    → (service : Service) (table after : List Object) (x : Sent) (payload reply : List ℕ) (kind : ℕ) → verdict x.script ≡ Ok tt → IsBytes payload → Spells script_message payload x
    → Answers service table payload kind reply after → IsForest reply (performed service table x).node × (after ≡ (performed service table x).server.table)
performed_by once either service table _ x payload _ _ valid bytes spells (performs y reply m s) =
    let same : x ≡ y = cc (once payload (Ok x) (Ok y) bytes (taken x spells valid) m) in (
      subst (λ z. IsForest reply (performed service table z).node) (sym same) (either y.version reply (performed service table y).node s),
      ap (λ z. (performed service table z).server.table) (sym same),
    )
performed_by once either service table _ x payload _ _ valid bytes spells (refuses wrong reply m s) =
    let same = once payload (Ok x) (Err wrong) bytes (taken x spells valid) m in absurd (cc (same))

-- of the payload that a buffer holds
pub performed_so : MeansOne → ((version : Version) (payload : List ℕ) (n : Node) → IsForestOf version payload n → IsForest payload n)
    → (before after : Hosted) (x : Sent) (payload old new : List ℕ) (kind : ℕ) → verdict x.script ≡ Ok tt → IsBytes payload → Spells script_message payload x → old ≡ []
    → Replies before after payload old new kind → IsForest new (performed_on before x).node × (after.table ≡ (performed_on before x).server.table)
performed_so once either before after x payload old new kind valid bytes spells empty r =
    let done = performed_by once either (mirror_service before.service) before.table after.table x payload r.reply kind valid bytes spells r.answers in
    (subst (λ l. IsForest l (performed_on before x).node) (sym (r.is ∙ ap (λ l. l ++ r.reply) empty)) done.0, done.1)

-- What an answer of the reader of forests tells is all that the payload comes to.
abbrev pub Tells : List ℕ → Result node.Node ForestStop → Type 0
Tells payload result = (meant : Result Node read.Violation) → read.Means forest_message payload meant → Gives {E = ForestStop} mirror_node read.violation result meant

pub if_so : {A E : Type 0} (P Q : A → Type 0) (r : Result A E) → ((x : A) → P x → Q x) → IfOk r P → IfOk r Q
if_so P Q (Ok x) f h = f x h
if_so P Q (Err e) f h = tt

-- the forest that a payload spells is the one that is read
pub read_so : (payload : List ℕ) (root : node.Node) → Tells payload (Ok root) → (n : Node) → IsForest payload n → mirror_node root ≡ n
read_so payload root only n spells = let same : Ok n ≡ Ok (mirror_node root) = only (Ok n) (read.spelled n spells) in cc

-- and it isn't refused
pub not_refused : (payload : List ℕ) (number at : ℕ) → SpellsForest payload → Tells payload (Err (stops.Refused number at)) → ⊥
not_refused payload number at spelled only =
    let same : ◌≡◌ {A = Result Node read.Violation} (Ok spelled.0) (Err (number, at)) = only (Ok spelled.0) (read.spelled spelled.0 spelled.1) in absurd cc

-- a reply to a valid script spells a forest
pub spells_so : MeansOne → ((version : Version) (payload : List ℕ) (n : Node) → IsForestOf version payload n → IsForest payload n)
    → (before after : Hosted) (payload old new lent : List ℕ) (kind : ℕ) → IsBytes payload → SpellsValid payload → old ≡ [] → lent ≡ new → Replies before after payload old new kind → SpellsForest lent
spells_so once either before after payload old new lent kind bytes v empty same r =
    let done = performed_so once either before after v.sent payload old new kind v.valid bytes v.spells empty r in
    ((performed_on before v.sent).node, subst (λ l. IsForest l (performed_on before v.sent).node) (sym same) done.0)

pub node_so : MeansOne → ((version : Version) (payload : List ℕ) (n : Node) → IsForestOf version payload n → IsForest payload n)
    → (before after : Hosted) (payload old new lent : List ℕ) (kind : ℕ) (root : node.Node) → IsBytes payload → old ≡ [] → lent ≡ new → Replies before after payload old new kind
    → ((n : Node) → IsForest lent n → mirror_node root ≡ n) → PerformsSent before after payload root
node_so once either before after payload old new lent kind root bytes empty same r only x spells valid =
    let done = performed_so once either before after x payload old new kind valid bytes spells empty r in
    record { node = only (performed_on before x).node (subst (λ l. IsForest l (performed_on before x).node) (sym same) done.0); table = done.1 }

-- the number of a refusal that isn't for depth
pub shallow_number : (r : ScriptRefusal) → IsShallow r → is_script_refusal (number_of r) ≡ true
shallow_number (UnknownVariable step) h = refl
shallow_number (UnknownInput step) h = refl
shallow_number (StepRepeated step) h = refl
shallow_number (TooDeep step) h = absurd h
shallow_number (WrongInput step) h = refl

-- no number of a reply is a float
plain_by : (v : Result Unit ScriptRefusal) (table : List Object) (ran : Ran) → has_float (reply_by v table ran).json ≡ false
plain_by (Ok u) table ran = node_plain ran.node
plain_by (Err r) table ran = refl

pub reply_plain : (host : Hosted) (x : Sent) → has_float (reply_on host x).json ≡ false
reply_plain host x = plain_by (verdict x.script) host.table (performed_on host x)

pub such_refusals : (request : List ℕ) (s : tree.Script) (values : List Value) → request_in request ≡ Ok (sent s values) → IsSendable (sent s values) → RefusedBySuch request
such_refusals request s values is h x r reads invalid =
    let same : sent s values ≡ x = cc (sym is ∙ reads) in
    shallow_number r (refused_shallow x.script r (subst (λ y. IsWithinLimits y.script) same h.within) invalid)

-- a host that isn't touched
pub stays_so : (host : Hosted) (request : List ℕ) → StaysUnlessPerformed host host request
stays_so host request = record { refused = λ r is. refl; not_valid = λ x r is invalid. refl }

-- the reply to a valid script, and to one that isn't
pub valid_reply : (host : Hosted) (x : Sent) → verdict x.script ≡ Ok tt → reply_on host x ≡ record { json = node_data (performed_on host x).node; table = (performed_on host x).server.table }
valid_reply host x h = ap (λ v. reply_by v host.table (performed_on host x)) h

pub refused_reply : (host : Hosted) (x : Sent) (r : ScriptRefusal) → verdict x.script ≡ Err r → reply_on host x ≡ record { json = refusal_data (number_of r) (step_of r); table = host.table }
refused_reply host x r h = ap (λ v. reply_by v host.table (performed_on host x)) h

pub ruleset replies = (valid_reply, refused_reply, common_steps)

pub ruleset answers = (reply_plain, such_refusals, stays_so, common_steps)
