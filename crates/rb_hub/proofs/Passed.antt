-- A piece that was played, and the replies that came out.
use Rattle.std.proofs.Common.{◌≡◌, ◌+◌, suc, arith, refl, ap, sym, ◌∙◌, subst, ℕ, true, List, [], ◌∷◌, ◌++◌, length, append_assoc, append-nil, inl, inr, Option, Some, None, Result, Ok, Err}
use Rattle.std.specs.Prelude.{map}
use Rattle.std.proofs.lemmas.List.{length-map}
use Rattle.rb_trees.specs.declared.services.Object.{Object}
use Rattle.rb_trees.specs.mirror.Services.{Service}
use Rattle.rb_base.specs.Devices.{Device}
use Rattle.rb_meaning_frames.specs.Reading.{standing, rest_of}
use Rattle.rb_meaning_frames.specs.Histories.{Piece, Track, goes_on, after, Asked, asked_by, new_requests, brought_to, brought, Replied, RepliesInOrder, none_asked, one_asked}
use Rattle.rb_session.specs.Answering.{InTurn, SomeInTurn}
use Rattle.rb_session.specs.declared.answerers.Answers as answerers
use Rattle.rb_hub.specs.Serial.{reply_out, end_by, ended, ended_by_piece, replies_in}
use Rattle.rb_hub.specs.Hubs.{HubSeen, payloads_of, LeavesAt, GivesSome, StopsAt}
use Rattle.rb_hub.specs.Standing.{Stands, GoesOn, PlaysOne}
use Rattle.rb_hub.specs.Delivering.{end_in, bytes_in, frames_of}
use Rattle.rb_hub.specs.Passing.{track, StandsWith, Tells, Delivers, Passes, PassesOn}
use Rattle.rb_hub.specs.declared.events.End.{End}
use Rattle.rb_hub.specs.declared.events.Out.{Out}
use Rattle.rb_hub.specs.declared.events.HubRefusal.{HubRefusal}
use Rattle.rb_hub.specs.declared.events.HubStop.TheVariants as stops
use Rattle.rb_hub.specs.declared.passing.Passed.{Passed}
use Rattle.rb_hub.specs.declared.passing.PassStop.{PassStop}
use Rattle.rb_hub.specs.declared.passing.PassStop.TheVariants.{WriteFault, Memory, Answers}
use Rattle.rb_hub.proofs.Led.{led_one, led_append, payloads_by, payloads_append}
use Rattle.rb_hub.proofs.Last.{track_last, after_piece}

-- ---- what came out

bytes_replies : (replies : List Replied) (more : List Out) → bytes_in (map reply_out replies ++ more) ≡ frames_of replies ++ bytes_in more
bytes_replies [] more = refl
bytes_replies (reply ∷ replies) more = ap (λ x. reply.frame ++ x) (bytes_replies replies more) ∙ sym (append_assoc reply.frame (frames_of replies) (bytes_in more))

bytes_ended : (number : ℕ) (stream : List ℕ) (end : Option End) → bytes_in (ended number stream end) ≡ []
bytes_ended number stream None = refl
bytes_ended number stream (Some end) = refl

end_replies : (replies : List Replied) (more : List Out) → end_in (map reply_out replies ++ more) ≡ end_in more
end_replies [] more = refl
end_replies (reply ∷ replies) more = end_replies replies more

end_ended : (number : ℕ) (stream : List ℕ) (end : Option End) → end_in (ended number stream end) ≡ end
end_ended number stream None = refl
end_ended number stream (Some end) = refl

count_replies : (replies : List Replied) (more : List Out) → length (replies_in (map reply_out replies ++ more)) ≡ length replies + length (replies_in more)
count_replies [] more = omega arith
count_replies (reply ∷ replies) more = let rest = count_replies replies more in omega arith

count_ended : (number : ℕ) (stream : List ℕ) (end : Option End) → length (replies_in (ended number stream end)) ≡ 0
count_ended number stream None = refl
count_ended number stream (Some end) = refl

one_each : (service : Service) (table left : List Object) (asked : List Asked) (replies : List Replied) → RepliesInOrder service table asked replies left → length replies ≡ length asked
one_each service _ _ _ _ (none_asked table) = refl
one_each service _ left _ _ (one_asked table between after asked reply kind more replies h rest) = ap suc (one_each service between after more replies rest)

-- ---- the piece was played

-- a piece was played
pub record HasPlayed {A X : Type 0} (a : answerers.Ghosts A X) (past : List Track) (stream piece : List ℕ) (before now : HubSeen A) (outs : List Out) : Type 0 where
  pub passes : (passed : Passed) → Tells outs passed → Passes a past stream piece before now passed (bytes_in outs)

-- by what came out
by_outs : {A X : Type 0} (a : answerers.Ghosts A X) (past : List Track) (stream piece : List ℕ) (before now : HubSeen A) (outs : List Out) (replies : List Replied)
    → let whole = stream ++ piece in let last = ended (length past) whole (end_by (standing (rest_of whole)) whole) in StandsWith past (track whole (goes_on whole)) now
    → RepliesInOrder (a.service before.answers) (a.table before.answers) (asked_by (length past) (new_requests stream piece)) replies (a.table now.answers)
    → InTurn a.does before.answers (new_requests stream piece) now.answers → outs ≡ map reply_out replies ++ last → HasPlayed a past stream piece before now outs
by_outs a past stream piece before now outs replies stands answered led is =
    let whole = stream ++ piece in
    let number = length past in
    let end = end_by (standing (rest_of whole)) whole in
    let last = ended number whole end in
    let payloads = new_requests stream piece in
    record {
      passes = λ passed t. record {
        stands = stands;
        replies = replies;
        answered = answered;
        led = led;
        frames_are = ap bytes_in is ∙ bytes_replies replies last ∙ ap (λ x. frames_of replies ++ x) (bytes_ended number whole end) ∙ append-nil (frames_of replies);
        count =
            let counted = t.count in
            let all = ap (λ os. length (replies_in os)) is ∙ count_replies replies last in
            let none = count_ended number whole end in
            let each = one_each (a.service before.answers) (a.table before.answers) (a.table now.answers) (asked_by number payloads) replies answered in
            let asked : length (asked_by number payloads) ≡ length payloads = length-map payloads (λ payload. record { session = number; payload = payload }) in
            omega arith;
        end_is = t.end_is ∙ ap end_in is ∙ end_replies replies last ∙ end_ended number whole end;
      };
    }

goes_played : {A X : Type 0} (a : answerers.Ghosts A X) (past : List Track) (stream piece : List ℕ) (before now : HubSeen A) (outs : List Out)
    → GoesOn a (past ++ track stream true ∷ []) (Piece (length past) piece) before now outs → HasPlayed a past stream piece before now outs
goes_played a past stream piece before now outs g =
    let t = track stream true in
    let number = length past in
    let all = past ++ t ∷ [] in
    let here = track_last past t in
    by_outs a past stream piece before now outs g.outs.replies
    (subst (λ ps. Stands ps now) (after_piece past stream piece) g.stands)
    (subst (λ asked. RepliesInOrder (a.service before.answers) (a.table before.answers) asked g.outs.replies (a.table now.answers))
    (ap (λ o. asked_by number (brought_to o piece)) here) g.outs.answered)
    (subst (λ ps. InTurn a.does before.answers ps now.answers)
    (ap (λ o. payloads_of (asked_by number (brought_to o piece))) here ∙ payloads_by number (new_requests stream piece)) g.led)
    (g.outs.is ∙ ap (λ o. map reply_out g.outs.replies ++ ended_by_piece number piece o) here)

-- ---- as the code makes it

-- the replies were written, or a front of them
pub passed_on : {A X : Type 0} (a : answerers.Ghosts A X) (number : ℕ) (past : List Track) (stream word piece : List ℕ) (before now : HubSeen A) (start outs slice : List Out) (refusal : Option HubRefusal)
    (old new : Device (List ℕ)) (answer : Result Passed (PassStop X)) → start ≡ [] → word ≡ piece → PlaysOne a (Piece number word) before now start outs (Ok refusal) → slice ≡ outs
    → Delivers slice old new answer → number ≡ length past → StandsWith past (track stream true) before → PassesOn a past stream piece before now old new answer
passed_on {A} {X} a number past stream word piece before now start outs slice refusal old new answer none same o slice_is d is s = go answer d
  where
    given : List Out
    given = o.given

    all : slice ≡ given
    all = slice_is ∙ o.gains ∙ ap (λ x. x ++ given) none

    goes : GoesOn a (past ++ track stream true ∷ []) (Piece (length past) piece) before now given
    goes = subst (λ n. GoesOn a (past ++ track stream true ∷ []) (Piece n piece) before now given) is
        (subst (λ w. GoesOn a (past ++ track stream true ∷ []) (Piece number w) before now given) same (o.goes (past ++ track stream true ∷ []) s).0)

    played : HasPlayed a past stream piece before now slice
    played = subst (HasPlayed a past stream piece before now) (sym all) (goes_played a past stream piece before now given goes)

    go : (r : Result Passed (PassStop X)) → Delivers slice old new r → PassesOn a past stream piece before now old new r
    go (Ok passed) d = (bytes_in slice, played.passes passed d.0, d.1)
    go (Err (WriteFault passed)) d = (bytes_in slice, played.passes passed d.0, d.1, d.2)
    go (Err Memory) d = absurd d
    go (Err (Answers stop)) d = absurd d

-- what a piece brings to the session that was opened last
asked_here : (number : ℕ) (past : List Track) (stream word piece : List ℕ) → word ≡ piece → number ≡ length past
    → brought (past ++ track stream true ∷ []) (Piece number word) ≡ asked_by (length past) (new_requests stream piece)
asked_here number past stream word piece same is =
    let t = track stream true in
    ap (λ w. brought (past ++ t ∷ []) (Piece number w)) same ∙ ap (λ n. brought (past ++ t ∷ []) (Piece n piece)) is
    ∙ ap (λ o. asked_by (length past) (brought_to o piece)) (track_last past t)

-- a request stopped whoever answers
pub stopped_on : {A X : Type 0} (a : answerers.Ghosts A X) (number : ℕ) (past : List Track) (stream word piece : List ℕ) (before now : HubSeen A) (start outs : List Out) (stop : X) (sink : Device (List ℕ))
    → word ≡ piece → now.over ≡ true → PlaysOne a (Piece number word) before now start outs (Err (stops.Answers stop)) → number ≡ length past → StandsWith past (track stream true) before
    → PassesOn a past stream piece before now sink sink (Err (Answers stop))
stopped_on a number past stream word piece before now start outs stop sink same over o is s =
    let asked = asked_here number past stream word piece same is in
    (refl, over, o.given, subst (λ xs. StopsAt a before.answers now.answers xs o.given stop) asked (o.goes (past ++ track stream true ∷ []) s))

-- ---- memory was wanting

-- the first of the requests were answered
some_by : {A X : Type 0} (a : answerers.Ghosts A X) (before between after : A) (asked front rest : List Asked) → asked ≡ front ++ rest → InTurn a.does before (payloads_of front) between
    → LeavesAt a between rest after → SomeInTurn a.does before (payloads_of asked) after
some_by {A} a before between after asked front [] parts led left = record {
  front = payloads_of front;
  rest = [];
  parts = ap payloads_of parts ∙ payloads_append front [];
  led = subst (λ (x : A). InTurn a.does before (payloads_of front) x) (sym left) led;
}
some_by {A} a before between after asked front (next ∷ rest) parts led (inl same) = record {
  front = payloads_of front;
  rest = next.payload ∷ payloads_of rest;
  parts = ap payloads_of parts ∙ payloads_append front (next ∷ rest);
  led = subst (λ (x : A). InTurn a.does before (payloads_of front) x) (sym same) led;
}
some_by a before between after asked front (next ∷ rest) parts led (inr does) = record {
  front = payloads_of front ++ next.payload ∷ [];
  rest = payloads_of rest;
  parts = ap payloads_of parts ∙ payloads_append front (next ∷ rest) ∙ sym (append_assoc (payloads_of front) (next.payload ∷ []) (payloads_of rest));
  led = led_append a.does before between after (payloads_of front) (next.payload ∷ []) led (led_one a.does between after next.payload does);
}

some_in_turn : {A X : Type 0} (a : answerers.Ghosts A X) (before after : A) (number : ℕ) (payloads : List (List ℕ)) (asked : List Asked) (given : List Out) → asked ≡ asked_by number payloads
    → GivesSome a before after asked given → SomeInTurn a.does before payloads after
some_in_turn a before after number payloads asked given is g =
    subst (λ ps. SomeInTurn a.does before ps after) (ap payloads_of is ∙ payloads_by number payloads)
    (some_by a before g.between after asked g.front g.rest g.parts g.gives.led g.left)

-- a piece was played, but for want of memory
pub wanted_on : {A X : Type 0} (a : answerers.Ghosts A X) (number : ℕ) (past : List Track) (stream word piece : List ℕ) (before now : HubSeen A) (start outs : List Out) (sink : Device (List ℕ))
    → word ≡ piece → now.over ≡ true → PlaysOne {A = A} {X = X} a (Piece number word) before now start outs (Err stops.Memory) → number ≡ length past → StandsWith past (track stream true) before
    → PassesOn {X = X} a past stream piece before now sink sink (Err Memory)
wanted_on a number past stream word piece before now start outs sink same over o is s = (
  refl,
  over,
  some_in_turn a before.answers now.answers (length past) (new_requests stream piece) (brought (past ++ track stream true ∷ []) (Piece number word)) o.given
      (asked_here number past stream word piece same is) (o.goes (past ++ track stream true ∷ []) s),
)
