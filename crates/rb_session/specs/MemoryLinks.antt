-- Links to a server in the same process.
use Rattle.std.specs.Prelude.{◌≡◌, ℕ, List, [], ◌∷◌, ◌++◌, Bool, true, false, Some, Result, Ok, Err}
use Rattle.rb_trees.specs.declared.services.Object.{Object}
use Rattle.rb_trees.specs.mirror.Services.{mirror_service}
use Rattle.rb_meaning.specs.Links.{Pair, Behind, Told}
use Rattle.rb_meaning.specs.Others.{last_table}
use Rattle.rb_base.specs.declared.links.Reply.{Reply}
use Rattle.rb_base.specs.declared.links.LinkStop.{LinkStop}
use Rattle.rb_base.specs.declared.links.LinkStop.TheVariants.{Failed, Frame, Cut, Memory}
use Rattle.rb_base.specs.Counts.{risen}
use Rattle.rb_base.specs.Links.{pair_of}
use Rattle.rb_exec.specs.Hosted.{Hosted}
use Rattle.rb_session.specs.Answering.{AnswersOn, IsTypedHost}
use Rattle.rb_session.specs.Tables.{found_by, left_by}

-- a link in memory: its host, the table that it began with, the pairs so far, the number of exchanges, and whether one was
-- wanting memory
pub record LinkInMemory : Type 0 where
  pub host : Hosted
  pub first : List Object
  pub pairs : List Pair
  pub made : ℕ
  pub spent : Bool

-- nothing exchanged yet
abbrev pub new_link : Hosted → LinkInMemory
new_link h = record { host = h; first = h.table; pairs = []; made = 0; spent = false }

-- what stands behind the link: no exchange fails, and which tables its requests found and left follows from the first one
abbrev pub behind : LinkInMemory → Behind
behind l = record {
  service = mirror_service l.host.service;
  table = l.host.table;
  found = found_by (mirror_service l.host.service) l.first l.pairs;
  left = left_by (mirror_service l.host.service) l.first l.pairs;
  made = l.made;
  failing = [];
}

abbrev pub told_of : LinkInMemory → Told
told_of l = record { pairs = l.pairs; server = Some (behind l) }

-- A host is typed, and its table is the one that the last of these pairs left; where there is none, it is the first one.
pub record StandsBehind (host : Hosted) (first : List Object) (pairs : List Pair) : Type 0 where
  pub typed : IsTypedHost host
  pub last : last_table first (left_by (mirror_service host.service) first pairs) ≡ host.table

-- It is honest until an exchange was wanting memory.
pub record IsHonest (l : LinkInMemory) : Type 0 where
  pub fresh : l.spent ≡ false
  pub typed : IsTypedHost l.host

-- the link after an exchange with this reply, which left this host
abbrev pub after_reply : LinkInMemory → List ℕ → Reply → Hosted → LinkInMemory
after_reply l request reply host =
    record l { host = host; pairs = l.pairs ++ pair_of request reply ∷ []; made = risen l.made }

-- An exchange that is answered: the link wasn't spent, the reply is its host's answer, and the link has its pair. The request found
-- the table that stood, and left the one that stands then.
pub record Answered (request : List ℕ) (before : LinkInMemory) (reply : Reply) (after : LinkInMemory) : Type 0 where
  pub fresh : before.spent ≡ false
  pub answers : AnswersOn before.host request reply.kind reply.payload.items after.host
  pub service : after.host.service ≡ before.host.service
  pub typed : IsTypedHost after.host
  pub is : after ≡ after_reply before request reply after.host
  pub found : (behind after).found ≡ (behind before).found ++ before.host.table ∷ []
  pub left : (behind after).left ≡ (behind before).left ++ after.host.table ∷ []

-- An exchange that was wanting memory: the link is spent from then on, and has the pairs that it had. One that was spent
-- before doesn't change.
pub record Spends (before after : LinkInMemory) : Type 0 where
  pub spent : after.spent ≡ true
  pub pairs : after.pairs ≡ before.pairs
  pub first : after.first ≡ before.first
  pub unchanged : before.spent ≡ true → after ≡ before

-- No other answer is given.
abbrev pub Exchanges : List ℕ → LinkInMemory → Result Reply LinkStop → LinkInMemory → Type 0
Exchanges request before (Ok reply) after = Answered request before reply after
Exchanges request before (Err Memory) after = Spends before after
Exchanges request before (Err Failed) after = ⊥
Exchanges request before (Err (Frame at bytes)) after = ⊥
Exchanges request before (Err (Cut got bytes)) after = ⊥
