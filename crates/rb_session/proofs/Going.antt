-- A session that is being served, piece by piece.
use Rattle.std.proofs.Common.{◌≡◌, ℕ, ◌+◌, ◌*◌, ◌<◌, List, [], ◌++◌, length, take, Option, None, Some, Result, Ok, Err, refl, ap, sym, ◌∙◌, subst, arith, append_assoc, append-nil, zero-add, length-append, mul-le-mul_right, inl, inr}
use Rattle.std.proofs.Math.Seq.{take-append-add}
use Rattle.std.proofs.lemmas.Bool.{cases_lt}
use Rattle.rb_trees.specs.mirror.Services.{mirror_service}
use Rattle.rb_base.specs.Devices.{Device, failed}
use Rattle.rb_base.specs.Sinks.{told_more, with_bytes, WrotePrefix}
use Rattle.rb_base.specs.Sources.{told_before, before_giving, IsAtEnd}
use Rattle.rb_meaning.specs.Replies.{header_length}
use Rattle.rb_meaning_frames.specs.Streams.{most_requests, IsCutRequest, Waits}
use Rattle.rb_meaning_frames.specs.Served.{no_more}
use Rattle.rb_exec.specs.Hosted.{Hosted}
use Rattle.rb_session.specs.declared.serving.ServeCause.{ServeCause}
use Rattle.rb_session.specs.declared.serving.ServeCause.TheVariants.{ReadFault, WriteFault, Cut, BadFrame, SessionSpent, Memory}
use Rattle.rb_session.specs.Taking.{longest_frame, Takes}
use Rattle.rb_session.specs.Sessions.{SessionSeen, new_session, came, IsBounded, Goes}
use Rattle.rb_session.specs.Serving.{Ends, host_ends, Wrote, StopsBy}
use Rattle.rb_session.specs.Pieces.{serving, WritesReplies, ServesPiece, EndsSo, ServesTo}
use Rattle.rb_session.proofs.Streamed.{cuts_none}
use Rattle.rb_session.proofs.Fed.{goes_on, goes_takes}

-- ---- what the two ends tell

told_nothing : (told : Option (List ℕ)) → told ≡ told_before [] told
told_nothing None = refl
told_nothing (Some left) = refl

gave_nothing : (d : Device (List ℕ)) → d ≡ before_giving [] d
gave_nothing d = ap (λ t. record d { told = t }) (told_nothing d.told)

told_twice : (xs ys : List ℕ) (told : Option (List ℕ)) → told_before xs (told_before ys told) ≡ told_before (xs ++ ys) told
told_twice xs ys None = refl
told_twice xs ys (Some left) = ap Some (sym (append_assoc xs ys left))

gave_twice : (xs ys : List ℕ) (d : Device (List ℕ)) → before_giving xs (before_giving ys d) ≡ before_giving (xs ++ ys) d
gave_twice xs ys d = ap (λ t. record d { told = t }) (told_twice xs ys d.told)

more_nothing : (told : Option (List ℕ)) → told ≡ told_more told []
more_nothing None = refl
more_nothing (Some written) = ap Some (sym (append-nil written))

wrote_nothing : (d : Device (List ℕ)) → d ≡ with_bytes d []
wrote_nothing d = ap (λ t. record d { told = t }) (more_nothing d.told)

more_twice : (told : Option (List ℕ)) (xs ys : List ℕ) → told_more (told_more told xs) ys ≡ told_more told (xs ++ ys)
more_twice None xs ys = refl
more_twice (Some written) xs ys = ap Some (append_assoc written xs ys)

wrote_twice : (d : Device (List ℕ)) (xs ys : List ℕ) → with_bytes (with_bytes d xs) ys ≡ with_bytes d (xs ++ ys)
wrote_twice d xs ys = ap (λ t. record d { told = t }) (more_twice d.told xs ys)

-- a front of what is written behind something
front_behind : (d after : Device (List ℕ)) (xs ys : List ℕ) → WrotePrefix (failed (with_bytes d xs)) after ys → WrotePrefix (failed d) after (xs ++ ys)
front_behind d after xs ys w = record {
  count = length xs + w.count;
  within = let within = w.within in omega (arith, length-append xs ys);
  is = w.is ∙ wrote_twice (failed d) xs (take w.count ys) ∙ ap (with_bytes (failed d)) (sym (take-append-add xs ys w.count));
}

-- ---- so far

-- the two ends of a session, and the host that answers in it
pub record HostEnds : Type 0 where
  pub host : Hosted
  pub source : Device (List ℕ)
  pub sink : Device (List ℕ)

abbrev pub with_host : Hosted → Device (List ℕ) → Device (List ℕ) → HostEnds
with_host host source sink = record { host = host; source = source; sink = sink }

abbrev pub seen : HostEnds → Ends
seen e = host_ends e.host e.source e.sink

-- The source gave some bytes, the session answered the requests in them, and the replies were written.
pub record SoServed (before now : HostEnds) (t : SessionSeen) : Type 0 where
  pub given : List ℕ
  pub replies : List ℕ
  pub gave : before.source ≡ before_giving given now.source
  pub goes : Goes before.host now.host new_session t given replies
  pub wrote : now.sink ≡ with_bytes before.sink replies

pub none_served : (before : HostEnds) (t : SessionSeen) → t ≡ new_session → SoServed before before t
none_served before t is = record {
  given = [];
  replies = [];
  gave = gave_nothing before.source;
  goes = subst (λ s. Goes before.host before.host new_session s [] []) (sym is)
      (record {
        payloads = [];
        cuts = record { cuts = cuts_none []; requests = refl; few = omega arith; came_is = refl };
        answers = no_more before.host.table;
      });
  wrote = wrote_nothing before.sink;
}

-- a piece more
pub piece_served : (before now after : HostEnds) (s t : SessionSeen) (piece : List ℕ) (Says : Type 0) → now.host.service ≡ before.host.service → SoServed before now s
    → now.source ≡ before_giving piece after.source → WritesReplies (serving now.host s now.sink) (serving after.host t after.sink) piece Says → SoServed before after t
piece_served before now after s t piece Says same so gave w = record {
  given = so.given ++ piece;
  replies = so.replies ++ w.replies;
  gave = so.gave ∙ ap (before_giving so.given) gave ∙ gave_twice so.given piece after.source;
  goes = goes_on before.host now.host after.host new_session s t so.given piece so.replies w.replies same so.goes w.goes;
  wrote = w.wrote ∙ ap (λ d. with_bytes d w.replies) so.wrote ∙ wrote_twice before.sink so.replies w.replies;
}

-- ---- how it ends

-- what a new session has taken
taken_all : (host after : Hosted) (t : SessionSeen) (given replies : List ℕ) → Goes host after new_session t given replies → Takes (mirror_service host.service) host.table after.table given t.rest t.requests replies
taken_all host after t given replies g =
    subst (λ n. Takes (mirror_service host.service) host.table after.table given t.rest n replies) (sym (g.cuts.requests ∙ zero-add (length g.payloads))) (goes_takes host after new_session t given replies g)

-- what was served in all, where this is to be said of the rest
wrote_all : (before after : HostEnds) (t : SessionSeen) (Says : List ℕ → List ℕ → Type 0) → (so : SoServed before after t) → Says so.given t.rest
    → Wrote (seen before) (seen after) t.requests Says
wrote_all before after t Says so says = record {
  given = so.given;
  rest = t.rest;
  replies = so.replies;
  took = record {
    gave = so.gave;
    takes = taken_all before.host after.host t so.given so.replies so.goes;
  };
  wrote = so.wrote;
  says = says;
}

-- a read that failed
pub read_failed : (before now after : HostEnds) (t : SessionSeen) → SoServed before now t → Waits t.rest → after.host ≡ now.host → after.sink ≡ now.sink → after.source ≡ failed now.source
    → StopsBy (seen before) (seen after) t.requests ReadFault
read_failed before now after t so waits host sink source =
    wrote_all (record before { source = failed before.source }) after t (λ given rest. Waits rest)
    (record {
      given = so.given;
      replies = so.replies;
      gave = ap failed so.gave ∙ ap (before_giving so.given) (sym source);
      goes = subst (λ h. Goes before.host h new_session t so.given so.replies) (sym host) so.goes;
      wrote = sink ∙ so.wrote;
    })
    waits

-- how many bytes came
given_came : (before now : HostEnds) (t : SessionSeen) (so : SoServed before now t) → came t ≡ length so.given
given_came before now t so = let is = so.goes.cuts.came_is in omega arith

-- the end of the source
pub source_ended : (before now after : HostEnds) (t : SessionSeen) (buffer : List ℕ) (answer : Result Unit ServeCause) → SoServed before now t → EndsSo t answer
    → after.host ≡ now.host → after.sink ≡ now.sink → now.source ≡ before_giving (take 0 buffer) after.source → IsAtEnd now.source.told → ServesTo (seen before) (seen after) t.requests answer
source_ended before now after t buffer answer so how host sink source end = go answer how
  where
    served : SoServed before after t
    served = record {
      given = so.given;
      replies = so.replies;
      gave = so.gave ∙ ap (before_giving so.given) (source ∙ sym (gave_nothing after.source));
      goes = subst (λ h. Goes before.host h new_session t so.given so.replies) (sym host) so.goes;
      wrote = sink ∙ so.wrote;
    }

    at_end : IsAtEnd after.source.told
    at_end = subst IsAtEnd (ap (λ d. d.told) (source ∙ sym (gave_nothing after.source))) end

    go : (answer : Result Unit ServeCause) → EndsSo t answer → ServesTo (seen before) (seen after) t.requests answer
    go (Ok u) how = wrote_all before after t (λ given rest. IsAtEnd after.source.told × (rest ≡ [])) served (at_end, how)
    go (Err (Cut at)) how =
        wrote_all before after t (λ given rest. IsAtEnd after.source.told × IsCutRequest rest × (at ≡ length given)) served
        (at_end, how.0, how.1 ∙ given_came before after t served)
    go (Err ReadFault) how = absurd how
    go (Err WriteFault) how = absurd how
    go (Err (BadFrame at)) how = absurd how
    go (Err SessionSpent) how = absurd how
    go (Err Memory) how = absurd how

-- a piece with which it stopped
pub stopped : (before now after : HostEnds) (s t : SessionSeen) (piece : List ℕ) (cause : ServeCause) → now.host.service ≡ before.host.service → SoServed before now s
    → now.source ≡ before_giving piece after.source → ServesPiece (serving now.host s now.sink) (serving after.host t after.sink) piece (Err cause) → StopsBy (seen before) (seen after) t.requests cause
stopped before now after s t piece ReadFault same so gave w = absurd w
stopped before now after s t piece (Cut at) same so gave w = absurd w
stopped before now after s t piece WriteFault same so gave w =
    let goes = goes_on before.host now.host after.host new_session s t so.given piece so.replies w.replies same so.goes w.goes in
    record {
      given = so.given ++ piece;
      rest = t.rest;
      replies = so.replies ++ w.replies;
      took = record {
        gave = so.gave ∙ ap (before_giving so.given) gave ∙ gave_twice so.given piece after.source;
        takes = taken_all before.host after.host t (so.given ++ piece) (so.replies ++ w.replies) goes;
      };
      wrote = front_behind before.sink after.sink so.replies w.replies (subst (λ d. WrotePrefix (failed d) after.sink w.replies) so.wrote w.wrote);
      some = w.some;
      last = w.last;
    }
stopped before now after s t piece (BadFrame at) same so gave w =
    let all = piece_served before now after s t piece _ same so gave w in
    let given = given_came before after t all in
    let where_ = w.says.1 in
    wrote_all before after t _ all (w.says.0, omega arith, w.says.2)
stopped before now after s t piece SessionSpent same so gave w = wrote_all before after t _ (piece_served before now after s t piece _ same so gave w) w.says
stopped before now after s t piece Memory same so gave w = record {
  source = sym (ap (λ d. d.faults) so.gave ∙ ap (λ d. d.faults) gave);
  sink = ap (λ d. d.faults) w ∙ ap (λ d. d.faults) so.wrote;
}

-- ---- how many bytes may come

waits_short : (rest : List ℕ) → Waits rest → length rest < longest_frame
waits_short rest (inl none) = let n = ap length none in omega arith
waits_short rest (inr cut) =
    elim cut.short [
      | inl less ↦ omega arith
      | inr less ↦ elim (cases_lt (length rest) header_length) [ inl short ↦ omega arith | inr long ↦ let fits = cut.fits long in omega arith ]
    ]

pub came_below : (t : SessionSeen) → Waits t.rest → IsBounded t.offset t.requests → came t < (most_requests + 1) * longest_frame
came_below t waits bounded =
    let short = waits_short t.rest waits in
    let offset = bounded.offset_is in
    let few = mul-le-mul_right longest_frame bounded.requests_are in
    omega arith

-- the same with the count that was read
pub ended_at : (before now after : HostEnds) (t : SessionSeen) (buffer : List ℕ) (count : ℕ) (answer : Result Unit ServeCause) → count ≡ 0 → SoServed before now t → EndsSo t answer
    → after.host ≡ now.host → after.sink ≡ now.sink → now.source ≡ before_giving (take count buffer) after.source → IsAtEnd now.source.told → ServesTo (seen before) (seen after) t.requests answer
ended_at before now after t buffer count answer none so how host sink source end =
    source_ended before now after t buffer answer so how host sink (subst (λ n. now.source ≡ before_giving (take n buffer) after.source) none source) end
