-- Links to a server in the same process whose table others change.
use Rattle.std.specs.Prelude.{◌≡◌, ℕ, List, [], ◌∷◌, ◌++◌, drop, map, Bool, true, false, Some, Result, Ok, Err}
use Rattle.rb_trees.specs.declared.services.Change.{Change}
use Rattle.rb_trees.specs.declared.services.Object.{Object}
use Rattle.rb_trees.specs.mirror.Services.{mirror_service}
use Rattle.rb_meaning.specs.Changes.{all_changed}
use Rattle.rb_meaning.specs.Links.{Pair, Behind, Told}
use Rattle.rb_meaning.specs.Others.{found_table}
use Rattle.rb_base.specs.declared.links.Reply.{Reply}
use Rattle.rb_base.specs.declared.links.LinkStop.{LinkStop}
use Rattle.rb_base.specs.declared.links.LinkStop.TheVariants.{Failed, Frame, Cut, Memory}
use Rattle.rb_base.specs.Counts.{risen}
use Rattle.rb_base.specs.Links.{pair_of}
use Rattle.rb_exec.specs.Hosted.{Hosted}
use Rattle.rb_session.specs.Answering.{AnswersOn, IsTypedHost}

-- such a link: its host; the changes that others make before each of the coming exchanges; the pairs so far, and the tables that
-- their requests found and left; the number of exchanges, and whether one was wanting memory
pub record MeddledInMemory : Type 0 where
  pub host : Hosted
  pub others : List (List Change)
  pub pairs : List Pair
  pub found : List (List Object)
  pub left : List (List Object)
  pub made : ℕ
  pub spent : Bool

-- nothing exchanged yet
abbrev pub new_meddled : Hosted → List (List Change) → MeddledInMemory
new_meddled h others = record { host = h; others = others; pairs = []; found = []; left = []; made = 0; spent = false }

-- what stands behind the link: no exchange fails
abbrev pub behind_meddled : MeddledInMemory → Behind
behind_meddled l = record {
  service = mirror_service l.host.service;
  table = l.host.table;
  found = l.found;
  left = l.left;
  made = l.made;
  failing = [];
}

abbrev pub told_of_meddled : MeddledInMemory → Told
told_of_meddled l = record { pairs = l.pairs; server = Some (behind_meddled l) }

-- It is honest until an exchange was wanting memory.
pub record IsHonestMeddled (l : MeddledInMemory) : Type 0 where
  pub fresh : l.spent ≡ false
  pub typed : IsTypedHost l.host

-- a host after changes
abbrev pub host_changed : List Change → Hosted → Hosted
host_changed changes h = record { service = h.service; table = all_changed changes h.table }

-- The host as a request finds it: others made the next of these lists of changes. Where there is none, it is as it was.
abbrev pub host_found : List (List Change) → Hosted → Hosted
host_found others h = record { service = h.service; table = found_table (map all_changed others) h.table }

-- the link after an exchange with this reply, whose request found and left these hosts
abbrev pub after_meddled : MeddledInMemory → List ℕ → Reply → Hosted → Hosted → MeddledInMemory
after_meddled l request reply found left = record {
  host = left;
  others = drop 1 l.others;
  pairs = l.pairs ++ pair_of request reply ∷ [];
  found = l.found ++ found.table ∷ [];
  left = l.left ++ left.table ∷ [];
  made = risen l.made;
  spent = l.spent;
}

-- A host answers a request, and stays typed.
pub record AnswersTyped (request : List ℕ) (found : Hosted) (reply : Reply) (left : Hosted) : Type 0 where
  pub finds : IsTypedHost found
  pub answers : AnswersOn found request reply.kind reply.payload.items left
  pub service : left.service ≡ found.service
  pub typed : IsTypedHost left

-- An exchange that is answered: the link wasn't spent, others made their next changes, the reply is the host's answer then, and the
-- link has the pair and both tables.
pub record Meddles (request : List ℕ) (before : MeddledInMemory) (reply : Reply) (after : MeddledInMemory) : Type 0 where
  pub fresh : before.spent ≡ false
  pub answers : AnswersTyped request (host_found before.others before.host) reply after.host
  pub is : after ≡ after_meddled before request reply (host_found before.others before.host) after.host

-- An exchange that was wanting memory: the link is spent from then on, and has the pairs that it had. Others may have made some of
-- their changes. A link that was spent before doesn't change.
pub record SpendsMeddled (before after : MeddledInMemory) : Type 0 where
  pub spent : after.spent ≡ true
  pub pairs : after.pairs ≡ before.pairs
  pub unchanged : before.spent ≡ true → after ≡ before

-- No other answer is given.
abbrev pub ExchangesMeddled : List ℕ → MeddledInMemory → Result Reply LinkStop → MeddledInMemory → Type 0
ExchangesMeddled request before (Ok reply) after = Meddles request before reply after
ExchangesMeddled request before (Err Memory) after = SpendsMeddled before after
ExchangesMeddled request before (Err Failed) after = ⊥
ExchangesMeddled request before (Err (Frame at bytes)) after = ⊥
ExchangesMeddled request before (Err (Cut got bytes)) after = ⊥
