-- What an exchange over a link does to what the link tells.
use Rattle.std.specs.Prelude.{◌≡◌, ◌==◌, ◌⊎◌, ℕ, List, [], ◌∷◌, ◌++◌, Bool, true, false, length, Option, None, Some, option_map, Result, Ok, Err}
use Rattle.std.specs.List.{list_any}
use Rattle.rb_trees.specs.declared.services.Object.{Object}
use Rattle.rb_meaning_types.specs.Fits.{TableFits}
use Rattle.rb_meaning.specs.Answers.{Answers, forest_kind, refusal_kind}
use Rattle.rb_meaning.specs.Replies.{BreaksAt, IsCut}
use Rattle.rb_meaning.specs.Links.{Pair, Behind, MayAnswer}
use Rattle.rb_base.specs.declared.links.Reply.{Reply}
use Rattle.rb_base.specs.declared.links.LinkStop.{LinkStop}
use Rattle.rb_base.specs.declared.links.LinkStop.TheVariants.{Failed, Frame, Cut, Memory}
use Rattle.rb_base.specs.Counts.{risen}

-- A reply is a forest or a refusal.
abbrev pub IsReplyKind : ℕ → Type 0
IsReplyKind kind = (kind ≡ forest_kind) ⊎ (kind ≡ refusal_kind)

-- The bytes that a stop keeps are such as it says.
abbrev pub KeepsCause : LinkStop → Type 0
KeepsCause Failed = Unit {0}
KeepsCause (Frame at bytes) = BreaksAt at bytes
KeepsCause (Cut got bytes) = (got ≡ length bytes) × IsCut bytes
KeepsCause Memory = Unit {0}

-- a request with its reply
abbrev pub pair_of : List ℕ → Reply → Pair
pair_of request reply = record { request = request; kind = reply.kind; reply = reply.payload.items }

-- the pairs after an exchange: one more where there is a reply
abbrev pub pairs_after : List ℕ → Result Reply LinkStop → Option (List Pair) → Option (List Pair)
pairs_after request (Ok reply) pairs = option_map (λ ps. ps ++ pair_of request reply ∷ []) pairs
pairs_after request (Err stop) pairs = pairs

-- the count of faults after an exchange: it rises where the answer is Failed
abbrev pub faults_after : Result Reply LinkStop → ℕ → ℕ
faults_after (Err Failed) faults = risen faults
faults_after _ faults = faults

-- whether the next exchange is one of those that fail
abbrev pub fails_next : Behind → Bool
fails_next b = list_any (λ n. n == risen b.made) b.failing

-- the same server one exchange later, with whatever table
pub record IsLater (before after : Behind) : Type 0 where
  pub service : after.service ≡ before.service
  pub made : after.made ≡ risen before.made
  pub failing : after.failing ≡ before.failing

-- A reply is noted: the table that its request found, whichever that was, and the one that stands now.
pub record NotesReply (before after : Behind) : Type 0 where
  pub table : List Object
  pub found : after.found ≡ before.found ++ table ∷ []
  pub left : after.left ≡ before.left ++ after.table ∷ []

-- Nothing is noted.
pub record NotesNone (before after : Behind) : Type 0 where
  pub found : after.found ≡ before.found
  pub left : after.left ≡ before.left

-- Only a reply is noted.
abbrev pub Notes : Result Reply LinkStop → Behind → Behind → Type 0
Notes (Ok reply) before after = NotesReply before after
Notes (Err stop) before after = NotesNone before after

-- An exchange fails exactly where it is listed, and it is counted. After want of memory nothing is said.
abbrev pub IsListed : Result Reply LinkStop → Behind → Behind → Type 0
IsListed (Err Memory) before after = Unit {0}
IsListed (Err Failed) before after = (fails_next before ≡ true) × IsLater before after × NotesNone before after
IsListed answer before after = (fails_next before ≡ false) × IsLater before after × Notes answer before after

-- The same where the link tells its server. Whether it does is kept.
abbrev pub IsListedWhereTold : Result Reply LinkStop → Option Behind → Option Behind → Type 0
IsListedWhereTold answer (Some before) (Some after) = IsListed answer before after
IsListedWhereTold answer None None = Unit {0}
IsListedWhereTold answer _ _ = ⊥

-- which tables a request may find at a server
abbrev pub Finds : Type 1
Finds = Behind → List Object → Type 0

-- Others may have changed the table: the request finds any that fits the service.
abbrev pub FindsFitting : Finds
FindsFitting b table = TableFits b.service.classes b.service.root table

-- Nobody else changes the table: the request finds the one that stood.
abbrev pub FindsStanding : Finds
FindsStanding b table = table ≡ b.table

-- A request found this table, and was answered on it, which leaves the table that stands now.
pub record ServedOn (request : List ℕ) (reply : Reply) (before after : Behind) (table : List Object) : Type 0 where
  pub found : after.found ≡ before.found ++ table ∷ []
  pub answers : Answers before.service table request reply.kind reply.payload.items after.table

-- An exchange over an honest link: a reply is what the server answers on the table that the request found; a request that failed may
-- have been answered, or not; and no reply breaks off.
abbrev pub Serves : Finds → List ℕ → Result Reply LinkStop → Behind → Behind → Type 0
Serves Found request (Ok reply) before after = (table : List Object) × Found before table × ServedOn request reply before after table
Serves Found request (Err Failed) before after = (table : List Object) × Found before table × MayAnswer before.service table request after.table
Serves Found request (Err (Frame at bytes)) before after = ⊥
Serves Found request (Err (Cut got bytes)) before after = ⊥
Serves Found request (Err Memory) before after = Unit {0}

-- the same of a link that tells its server, as an honest link does
abbrev pub ServesAsTold : Finds → List ℕ → Result Reply LinkStop → Option Behind → Option Behind → Type 0
ServesAsTold Found request answer (Some before) (Some after) = Serves Found request answer before after
ServesAsTold Found request answer _ _ = ⊥

-- The fact holds, unless the exchange was wanting memory.
abbrev pub UnlessMemory : Result Reply LinkStop → Type 0 → Type 0
UnlessMemory (Err Memory) Holds = Unit {0}
UnlessMemory _ Holds = Holds

-- A link that lends a table tells its server, and lends its table; another lends none.
abbrev pub Lends : Bool → Option Behind → Option (List Object) → Type 0
Lends true (Some b) lent = lent ≡ Some b.table
Lends true None lent = ⊥
Lends false told lent = lent ≡ None
