-- What a sink tells.
use Rattle.std.specs.Prelude.{◌≡◌, ◌==◌, ℕ, ◌≤◌, Bool, List, [], ◌++◌, Option, None, Some, Result, Ok, Err, length, take}
use Rattle.std.specs.List.{list_any}
use Rattle.rb_base.specs.Counts.{risen}
use Rattle.rb_base.specs.Devices.{Device, failed}

-- the bytes written so far and these, where the sink tells
abbrev pub told_more : Option (List ℕ) → List ℕ → Option (List ℕ)
told_more None bytes = None
told_more (Some written) bytes = Some (written ++ bytes)

-- the sink with these bytes at its end
abbrev pub with_bytes : Device (List ℕ) → List ℕ → Device (List ℕ)
with_bytes d bytes = record d { told = told_more d.told bytes }

-- the sink after a write of a piece that was answered so: it took so many bytes, or none and has one fault more
abbrev pub sink_after : {E : Type 0} → List ℕ → Result ℕ E → Device (List ℕ) → Device (List ℕ)
sink_after piece (Ok count) d = with_bytes d (take count piece)
sink_after piece (Err e) d = failed d

-- So many bytes of the piece were written, and no more.
pub record WrotePrefix (before after : Device (List ℕ)) (piece : List ℕ) : Type 0 where
  pub count : ℕ
  pub within : count ≤ length piece
  pub is : after ≡ with_bytes before (take count piece)

-- All of the piece was written; or a front of it, and there is one fault more.
abbrev pub Writes : {A E : Type 0} → List ℕ → Result A E → Device (List ℕ) → Device (List ℕ) → Type 0
Writes piece (Ok a) before after = after ≡ with_bytes before piece
Writes piece (Err e) before after = WrotePrefix (failed before) after piece

-- a sink in memory: the bytes written, the number of writes so far, the numbers of the writes that fail, from 1,
-- how many bytes a write takes at most, and how many writes failed
pub record SinkInMemory : Type 0 where
  pub bytes : List ℕ
  pub writes : ℕ
  pub failing : List ℕ
  pub most : ℕ
  pub faults : ℕ

-- nothing written yet
abbrev pub new_sink : List ℕ → ℕ → SinkInMemory
new_sink failing most = record { bytes = []; writes = 0; failing = failing; most = most; faults = 0 }

-- whether the next write is one of those that fail
abbrev pub fails_next : SinkInMemory → Bool
fails_next s = list_any (λ n. n == risen s.writes) s.failing

-- the sink after a write of a piece that was answered so
abbrev pub after_write : {E : Type 0} → SinkInMemory → List ℕ → Result ℕ E → SinkInMemory
after_write s piece (Ok count) = record s { bytes = s.bytes ++ take count piece; writes = risen s.writes }
after_write s piece (Err e) = record s { writes = risen s.writes; faults = risen s.faults }
