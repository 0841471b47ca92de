-- What a link in memory notes of an exchange.
use Rattle.std.proofs.Common.{◌≡◌, ℕ, suc, List, [], ◌∷◌, ◌++◌, Bool, true, false, Ok, Err, Result, refl, ap, sym, ◌∙◌, subst, lt-ltb}
use Rattle.std.specs.Prelude.{nat_lt}
use Rattle.std.proofs.lemmas.Bool.{and_from}
use Rattle.rb_trees.specs.declared.services.Object.{Object}
use Rattle.rb_trees.specs.mirror.Services.{Service, mirror_service}
use Rattle.rb_meaning_bytes.specs.formats.Fields.{IsBytes}
use Rattle.rb_meaning_bytes.specs.formats.Messages.{Sent, Refused}
use Rattle.rb_meaning_bytes.specs.formats.ScriptPayloads.{Means}
use Rattle.rb_meaning_bytes.proofs.formats.Payloads.{means_something, means_once}
use Rattle.rb_meaning.specs.Answers.{Answers, performs, refuses}
use Rattle.rb_meaning.specs.Links.{Pair}
use Rattle.rb_meaning.specs.Others.{last_table}
use Rattle.rb_base.specs.declared.links.Reply.{Reply}
use Rattle.rb_base.specs.Counts.{risen}
use Rattle.rb_base.specs.Links.{pair_of}
use Rattle.rb_exec.specs.Hosted.{Hosted}
use Rattle.rb_session.specs.Answering.{AnswersOn, IsTypedHost}
use Rattle.rb_session.specs.MemoryLinks.{LinkInMemory, StandsBehind, Answered, after_reply}
use Rattle.rb_session.specs.Tables.{left_where, are_bytes, bytes_are, left_if, table_after, left_by, found_by}

are_bytes_of : (bytes : List ℕ) → IsBytes bytes → are_bytes bytes ≡ true
are_bytes_of [] b = refl
are_bytes_of (c ∷ cs) b = and_from (nat_lt c 256) (are_bytes cs) (lt-ltb c 256 (b 0)) (are_bytes_of cs (λ i. b (suc i)))

leaves_if : (b : Bool) (payload : List ℕ) (e : are_bytes payload ≡ b) (service : Service) (table : List Object) (meant : Result Sent Refused) → IsBytes payload → Means payload meant
    → left_if b payload e service table ≡ left_where service table meant
leaves_if true payload e service table meant bytes m =
    let own = bytes_are payload e in
    let first = means_something payload own in
    ap (left_where service table) (means_once payload first.0 meant own first.1 m)
leaves_if false payload e service table meant bytes m = let same = are_bytes_of payload bytes in absurd (cc (e, same))

-- The answer to a payload leaves the table that is named for it.
pub leaves : (service : Service) (table after : List Object) (payload reply : List ℕ) (kind : ℕ) → IsBytes payload → Answers service table payload kind reply after
    → table_after service table payload ≡ after
unfolding table_after
leaves service table _ payload _ _ bytes (performs x reply m s) = leaves_if (are_bytes payload) payload refl service table (Ok x) bytes m
leaves service table _ payload _ _ bytes (refuses wrong reply m s) = leaves_if (are_bytes payload) payload refl service table (Err wrong) bytes m

-- One pair more finds the table that the last one left.
pub finds_last : (service : Service) (first : List Object) (ps : List Pair) (p : Pair)
    → found_by service first (ps ++ p ∷ []) ≡ found_by service first ps ++ last_table first (left_by service first ps) ∷ []
finds_last service first [] p = refl
finds_last service first (q ∷ qs) p = ap (λ ts. first ∷ ts) (finds_last service (table_after service first q.request) qs p)

-- and leaves what the answer to its request leaves there
pub leaves_last : (service : Service) (first : List Object) (ps : List Pair) (p : Pair)
    → left_by service first (ps ++ p ∷ []) ≡ left_by service first ps ++ table_after service (last_table first (left_by service first ps)) p.request ∷ []
leaves_last service first [] p = refl
leaves_last service first (q ∷ qs) p =
    let left = table_after service first q.request in ap (λ ts. left ∷ ts) (leaves_last service left qs p)

pub last_of : (first : List Object) (ts : List (List Object)) (t : List Object) → last_table first (ts ++ t ∷ []) ≡ t
last_of first [] t = refl
last_of first (u ∷ us) t = last_of u us t

-- What is noted of an exchange that was answered: its request found the table that stood, and left the one that stands then.
record Notes (host after : Hosted) (first : List Object) (ps : List Pair) (p : Pair) : Type 0 where
  pub found : found_by (mirror_service after.service) first (ps ++ p ∷ []) ≡ found_by (mirror_service host.service) first ps ++ host.table ∷ []
  pub left : left_by (mirror_service after.service) first (ps ++ p ∷ []) ≡ left_by (mirror_service host.service) first ps ++ after.table ∷ []
  pub last : last_table first (left_by (mirror_service after.service) first (ps ++ p ∷ [])) ≡ after.table

notes : (host after : Hosted) (first : List Object) (ps : List Pair) (p : Pair) → IsBytes p.request → StandsBehind host first ps
    → AnswersOn host p.request p.kind p.reply after → after.service ≡ host.service → Notes host after first ps p
notes host after first ps p bytes stands answers same =
    let service = mirror_service host.service in
    let was = left_by service first ps in
    let found = ap (λ s. found_by (mirror_service s) first (ps ++ p ∷ [])) same ∙ finds_last service first ps p ∙ ap (λ t. found_by service first ps ++ t ∷ []) stands.last in
    let left = ap (λ s. left_by (mirror_service s) first (ps ++ p ∷ [])) same ∙ leaves_last service first ps p
    ∙ ap (λ t. was ++ table_after service t p.request ∷ []) stands.last ∙ ap (λ t. was ++ t ∷ []) (leaves service host.table after.table p.request p.reply p.kind bytes answers) in
    record { found = found; left = left; last = ap (last_table first) left ∙ last_of first was after.table }

-- The host has the table that the last pair left, when one more pair is kept.
pub still_stands : (host after : Hosted) (first : List Object) (ps new : List Pair) (p : Pair) → IsBytes p.request → StandsBehind host first ps
    → AnswersOn host p.request p.kind p.reply after → after.service ≡ host.service → IsTypedHost after → new ≡ ps ++ p ∷ [] → StandsBehind after first new
still_stands host after first ps new p bytes stands answers same typed is = record {
  typed = typed;
  last = ap (λ qs. last_table first (left_by (mirror_service after.service) first qs)) is ∙ (notes host after first ps p bytes stands answers same).last;
}

-- the exchange
pub answered : (request : List ℕ) (before : LinkInMemory) (reply : Reply) (after : Hosted) (pairs : List Pair) (made : ℕ) → IsBytes request → before.spent ≡ false
    → StandsBehind before.host before.first before.pairs → AnswersOn before.host request reply.kind reply.payload.items after → after.service ≡ before.host.service
    → IsTypedHost after → pairs ≡ before.pairs ++ pair_of request reply ∷ [] → made ≡ risen before.made
    → Answered request before reply (record { host = after; first = before.first; pairs = pairs; made = made; spent = false })
answered request before reply after pairs made bytes fresh stands answers same typed one risen_so =
    let n = notes before.host after before.first before.pairs (pair_of request reply) bytes stands answers same in
    let is : record { host = after; first = before.first; pairs = pairs; made = made; spent = false } ≡ after_reply before request reply after = cc in
    subst (Answered request before reply) (sym is)
    (record { fresh = fresh; answers = answers; service = same; typed = typed; is = refl; found = n.found; left = n.left })
