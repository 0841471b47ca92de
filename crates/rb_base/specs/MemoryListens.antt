-- Listeners in memory.
use Rattle.std.specs.Prelude.{◌≡◌, ℕ, ◌+◌, ◌-◌, ◌^◌, ◌<◌, ◌≤◌, Bool, true, false, List, [], ◌∷◌, ◌++◌, map, Option, None, Some, option_map, unwrap_or, Result, Ok, Err, get_or, drop, position}
use Rattle.std.specs.Str.{bytes_eq}
use Rattle.rb_base.specs.declared.listens.Coming.{Coming}
use Rattle.rb_base.specs.declared.listens.ListenStop.{ListenStop}
use Rattle.rb_base.specs.declared.listens.ListenStop.TheVariants.{Failed, Memory}
use Rattle.rb_base.specs.Counts.{risen}
use Rattle.rb_base.specs.Sinks.{SinkInMemory, new_sink}
use Rattle.rb_base.specs.Sources.{SourceInMemory, new_source}
use Rattle.rb_base.specs.Listening.{Back, Listening, call_fails, risen_on_err, started}

-- the addresses, each with its sessions
abbrev pub Addresses : Type 0
Addresses = List (List ℕ × List Coming)

-- where an address stands, the first of its name
abbrev pub position_of : Addresses → List ℕ → Option ℕ
position_of addresses address = position (λ a. bytes_eq a.0 address) addresses

-- the sessions of the address that stands there, but for the first ones, which were handed out
abbrev pub coming_at : Addresses → ℕ → ℕ → List Coming
coming_at addresses at handed = drop handed (get_or addresses at ([], [])).1

-- the sessions of an address
abbrev pub sessions_of : Addresses → List ℕ → Option (List Coming)
sessions_of addresses address = option_map (λ at. coming_at addresses at 0) (position_of addresses address)

-- a session in memory that came back
abbrev pub told_back : SourceInMemory × SinkInMemory → Back
told_back ends = record {
  source = record { told = Some ends.0.left; faults = ends.0.faults };
  sink = record { told = Some ends.1.bytes; faults = ends.1.faults };
}

-- a listener in memory: the addresses with their sessions, those still to come, how many are out, the ends that came back, the
-- number of calls so far, the numbers of those that fail, from 1, how many bytes a call of a session moves at most, and how
-- many calls failed
pub record ListenerInMemory : Type 0 where
  pub addresses : Addresses
  pub coming : List Coming
  pub out : ℕ
  pub back : List (SourceInMemory × SinkInMemory)
  pub calls : ℕ
  pub failing : List ℕ
  pub most : ℕ
  pub faults : ℕ

-- what it tells
abbrev pub listening_of : ListenerInMemory → Listening
listening_of l = record {
  addresses = sessions_of l.addresses;
  coming = l.coming;
  out = l.out;
  back = map told_back l.back;
  calls = l.calls;
  failing = l.failing;
}

-- nothing started yet
abbrev pub new_listener : Addresses → List ℕ → ℕ → ListenerInMemory
new_listener addresses failing most =
    record { addresses = addresses; coming = []; out = 0; back = []; calls = 0; failing = failing; most = most; faults = 0 }

-- The session stands first among those that come, or none comes.
abbrev pub IsNext : List Coming → List Coming → Option Coming → Type 0
IsNext coming others None = coming ≡ []
IsNext coming others (Some session) = coming ≡ session ∷ others

-- The two ends of a session in memory, as they are handed out. The source gives the session's bytes and fails at the reads
-- that the session lists. Nothing was written to the sink, which fails at the writes that the session lists.
abbrev pub new_pair : Coming → ℕ → SourceInMemory × SinkInMemory
new_pair session most = (new_source session.bytes session.reads most, new_sink session.writes most)

-- the listener after a call that is numbered and changes nothing else
abbrev pub numbered : ListenerInMemory → ListenerInMemory
numbered l = record l { calls = risen l.calls }

-- the listener after a call that failed
abbrev pub failed_in_memory : ListenerInMemory → ListenerInMemory
failed_in_memory l = record (numbered l) { faults = risen l.faults }

-- the listener after an address was to be started, which was answered so
abbrev pub started_in_memory : {A E : Type 0} → List ℕ → Result A E → ListenerInMemory → ListenerInMemory
started_in_memory address answer l = record (numbered l) {
  coming = unwrap_or (started (listening_of l) address) l.coming;
  faults = risen_on_err answer l.faults;
}

-- the listener after the two ends of a session came back
abbrev pub with_pair_back : SourceInMemory × SinkInMemory → ListenerInMemory → ListenerInMemory
with_pair_back ends l = record l { out = l.out - 1; back = l.back ++ ends ∷ [] }

-- The first of the sessions that come is out, with these ends.
pub record HandsOut (ends : SourceInMemory × SinkInMemory) (before after : ListenerInMemory) : Type 0 where
  pub first : Coming
  pub was_first : before.coming ≡ first ∷ after.coming
  pub ends_are : ends ≡ new_pair first before.most
  pub is : after ≡ record (numbered before) { coming = after.coming; out = before.out + 1 }

-- whether the next call is one of those that fail
abbrev pub is_listed : ListenerInMemory → Bool
is_listed l = call_fails (listening_of l)

-- What the next call of a listener in memory gives: the ends of the first session, or None where none comes. It fails exactly
-- where it is listed, and want of memory leaves the sessions as they were.
abbrev pub GivesInMemory : Result (Option (SourceInMemory × SinkInMemory)) ListenStop → ListenerInMemory → ListenerInMemory → Type 0
GivesInMemory (Ok (Some ends)) before after = (is_listed before ≡ false) × HandsOut ends before after
GivesInMemory (Ok None) before after = (is_listed before ≡ false) × (before.coming ≡ []) × (after ≡ numbered before)
GivesInMemory (Err Failed) before after = (is_listed before ≡ true) × (after ≡ failed_in_memory before)
GivesInMemory (Err Memory) before after = after ≡ numbered before

-- There is room for the ends of all sessions that are out, and a call of a session moves something.
pub record IsSound (returned out room most : ℕ) : Type 0 where
  pub fits : returned + out ≤ room
  pub moves : 0 < most

-- a session of which no call is listed
abbrev pub plain : List ℕ → Coming
plain bytes = record { bytes = bytes; reads = []; writes = [] }

-- a listener that never fails: the bytes of the sessions of each address, those still to come, how many are out, the ends that
-- came back, and the number of calls so far
pub record SteadyListener : Type 0 where
  pub sessions : List (List ℕ)
  pub coming : List (List ℕ)
  pub out : ℕ
  pub back : List (List ℕ × SinkInMemory)
  pub calls : ℕ

abbrev pub steady_back : List ℕ × SinkInMemory → Back
steady_back ends = record {
  source = record { told = Some ends.0; faults = 0 };
  sink = record { told = Some ends.1.bytes; faults = ends.1.faults };
}

-- what it tells: each address has the same sessions, and no call is listed
abbrev pub steady_listening : SteadyListener → Listening
steady_listening l = record {
  addresses = λ address. Some (map plain l.sessions);
  coming = map plain l.coming;
  out = l.out;
  back = map steady_back l.back;
  calls = l.calls;
  failing = [];
}

-- nothing started yet
abbrev pub new_steady : List (List ℕ) → SteadyListener
new_steady sessions = record { sessions = sessions; coming = []; out = 0; back = []; calls = 0 }

-- The first of the sessions that come is out, with these ends: no write to the sink fails but for want of memory.
pub record HandsOutSteady (ends : List ℕ × SinkInMemory) (before after : SteadyListener) : Type 0 where
  pub was_first : before.coming ≡ ends.0 ∷ after.coming
  pub sink_is : ends.1 ≡ new_sink [] (2 ^ 64 - 1)
  pub is : after ≡ record before { coming = after.coming; out = before.out + 1; calls = risen before.calls }

-- What the next call of a listener that never fails gives: the ends of the first session, or None where none comes. Want of
-- memory leaves the sessions as they were.
abbrev pub GivesSteady : Result (Option (List ℕ × SinkInMemory)) ListenStop → SteadyListener → SteadyListener → Type 0
GivesSteady (Ok (Some ends)) before after = HandsOutSteady ends before after
GivesSteady (Ok None) before after = (before.coming ≡ []) × (after ≡ record before { calls = risen before.calls })
GivesSteady (Err Failed) before after = ⊥
GivesSteady (Err Memory) before after = after ≡ record before { calls = risen before.calls }
