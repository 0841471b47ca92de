-- Links over two ends, to which requests go and from which replies come as frames.
use Rattle.std.specs.Prelude.{◌≡◌, ◌⊎◌, ◌+◌, ℕ, List, [], ◌∷◌, ◌++◌, map, min, None, Result, Ok, Err}
use Rattle.rb_meaning.specs.Links.{Pair, Told}
use Rattle.rb_meaning_frames.specs.Frames.{frame_bytes, request_kind}
use Rattle.rb_base.specs.Counts.{last_count}
use Rattle.rb_base.specs.Devices.{Device, device, failed}
use Rattle.rb_base.specs.Sinks.{with_bytes, WrotePrefix}
use Rattle.rb_base.specs.Links.{pair_of}
use Rattle.rb_base.specs.declared.links.Reply.{Reply}
use Rattle.rb_base.specs.declared.links.LinkStop.{LinkStop}
use Rattle.rb_base.specs.declared.links.LinkStop.TheVariants.{Failed, Frame, Cut, Memory}
use Rattle.rb_base.specs.declared.sources.Source as sources
use Rattle.rb_base.specs.declared.sinks.Sink as sinks
use Rattle.rb_session.specs.Receiving.{TakesReply, TakesNone}

-- requests with their replies, as a history has them
abbrev pub all_paired : List (List ℕ × Reply) → List Pair
all_paired ps = map (λ p. pair_of p.0 p.1) ps

-- a link over frames: its two ends, and the pairs so far
pub record LinkOverEnds (S K : Type 0) : Type 0 where
  pub source : S
  pub sink : K
  pub pairs : List Pair

-- It tells its pairs alone.
abbrev pub pairs_alone : {S K : Type 0} → LinkOverEnds S K → Told
pairs_alone l = record { pairs = l.pairs; server = None }

-- its count of faults: the sum of those of its ends
abbrev pub faults_of_ends : {S K : Type 0} → (S → ℕ) → (K → ℕ) → LinkOverEnds S K → ℕ
faults_of_ends source sink l = min (source l.source + sink l.sink) last_count

-- what its ends tell, and their counts
pub record Ends : Type 0 where
  pub source : Device (List ℕ)
  pub sink : Device (List ℕ)
  pub pairs : List Pair

abbrev pub ends_of : {S K : Type 0} → sources.Ghosts S → sinks.Ghosts K → LinkOverEnds S K → Ends
ends_of gs gk l = record { source = device gs.told gs.faults l.source; sink = device gk.told gk.faults l.sink; pairs = l.pairs }

-- The frame of the request was written, and nothing else.
abbrev pub HasSent : List ℕ → Ends → Ends → Type 0
HasSent request before after = after.sink ≡ with_bytes before.sink (frame_bytes request_kind request)

-- An exchange that is answered: just the request's frame was written and just the reply's was taken, and there is their pair.
pub record Trades (request : List ℕ) (reply : Reply) (before after : Ends) : Type 0 where
  pub sent : HasSent request before after
  pub taken : TakesReply reply before.source after.source
  pub pairs : after.pairs ≡ before.pairs ++ pair_of request reply ∷ []

-- The request's frame was written, and no reply came, for this cause.
pub record GotNone (request : List ℕ) (stop : LinkStop) (before after : Ends) : Type 0 where
  pub sent : HasSent request before after
  pub taken : TakesNone stop before.source after.source
  pub pairs : after.pairs ≡ before.pairs

-- A write failed: a front of the request's frame was written, and nothing was taken.
pub record SentPart (request : List ℕ) (before after : Ends) : Type 0 where
  pub sent : WrotePrefix (failed before.sink) after.sink (frame_bytes request_kind request)
  pub taken : after.source ≡ before.source
  pub pairs : after.pairs ≡ before.pairs

-- What an exchange does. For want of memory nothing may have been written, or the reply may have been taken and have no pair.
abbrev pub ExchangesFrames : List ℕ → Result Reply LinkStop → Ends → Ends → Type 0
ExchangesFrames request (Ok reply) before after = Trades request reply before after
ExchangesFrames request (Err Failed) before after = SentPart request before after ⊎ GotNone request Failed before after
ExchangesFrames request (Err (Frame at bytes)) before after = GotNone request (Frame at bytes) before after
ExchangesFrames request (Err (Cut got bytes)) before after = GotNone request (Cut got bytes) before after
ExchangesFrames request (Err Memory) before after = (after ≡ before) ⊎ GotNone request Memory before after
