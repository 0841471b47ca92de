-- What an answer appends, and what it makes of the host.
use Rattle.std.specs.Prelude.{◌≡◌, ℕ, List, [], ◌∷◌, ◌++◌, Err}
use Rattle.rb_trees.specs.declared.services.Object.{Object}
use Rattle.rb_trees.specs.mirror.Services.{Service, mirror_service}
use Rattle.rb_meaning_bytes.specs.formats.Messages.{Sent, Refused}
use Rattle.rb_meaning_bytes.specs.formats.Payloads.{IsForestOf}
use Rattle.rb_meaning_bytes.specs.formats.ScriptPayloads.{Means}
use Rattle.rb_meaning_code.specs.ScriptRun.{Ran}
use Rattle.rb_meaning.specs.Answers.{performed, Answers}
use Rattle.rb_meaning.specs.Links.{IsTyped}
use Rattle.rb_exec.specs.Hosted.{Hosted}
use Rattle.rb_wire_forest.specs.Buffers.{Appends}

-- The host's service is lawful and typed, and its table fits it.
abbrev pub IsTypedHost : Hosted → Type 0
IsTypedHost h = IsTyped (mirror_service h.service) h.table

-- Payloads were answered in turn, each by whoever the one before it left.
abbrev pub InTurn : {A : Type 0} → (A → List ℕ → A → Type 0) → A → List (List ℕ) → A → Type 0
InTurn Answered before [] after = after ≡ before
InTurn {A} Answered before (payload ∷ payloads) after = (between : A) × Answered before payload between × InTurn Answered between payloads after

-- The first of the payloads were answered in turn, and no more.
pub record SomeInTurn {A : Type 0} (Answered : A → List ℕ → A → Type 0) (before : A) (payloads : List (List ℕ)) (after : A) : Type 0 where
  pub front : List (List ℕ)
  pub rest : List (List ℕ)
  pub parts : payloads ≡ front ++ rest
  pub led : InTurn Answered before front after

-- The server that a host is answers the payload so, and has the table of the host after.
abbrev pub AnswersOn : Hosted → List ℕ → ℕ → List ℕ → Hosted → Type 0
AnswersOn before payload kind reply after = Answers (mirror_service before.service) before.table payload kind reply after.table

-- A payload that spells no valid script leaves the host as it was, whatever is answered.
abbrev pub StaysWhereRefused : List ℕ → Hosted → Hosted → Type 0
StaysWhereRefused payload before after = (wrong : Refused) → Means payload (Err wrong) → after ≡ before

-- what a script with its values gives on a host
abbrev pub performed_on : Hosted → Sent → Ran
performed_on h x = performed (mirror_service h.service) h.table x

-- A script with its values was performed, and the buffer has gained the forest of its node.
pub record Performs (before after : Hosted) (x : Sent) (old new : List ℕ) : Type 0 where
  pub gains : Appends (λ bytes. IsForestOf x.version bytes (performed_on before x).node) old new
  pub table : after.table ≡ (performed_on before x).server.table

-- The buffer has gained the reply to the payload, which is of this kind. A service with the first table answers so, and has the
-- second then.
pub record AppendsReply (service : Service) (before after : List Object) (payload old new : List ℕ) (kind : ℕ) : Type 0 where
  pub reply : List ℕ
  pub answers : Answers service before payload kind reply after
  pub is : new ≡ old ++ reply

-- the same of a host
abbrev pub Replies : (before after : Hosted) (payload old new : List ℕ) (kind : ℕ) → Type 0
Replies before after payload old new kind = AppendsReply (mirror_service before.service) before.table after.table payload old new kind
