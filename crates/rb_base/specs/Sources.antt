-- What a source tells.
use Rattle.std.specs.Prelude.{◌≡◌, ◌==◌, ℕ, Bool, List, [], ◌++◌, Option, None, Some, Result, Ok, Err, take, drop}
use Rattle.std.specs.List.{list_any}
use Rattle.rb_base.specs.Counts.{risen}
use Rattle.rb_base.specs.Devices.{Device, failed}

-- what was told before these bytes were read, where the source tells the bytes that are left
abbrev pub told_before : List ℕ → Option (List ℕ) → Option (List ℕ)
told_before bytes None = None
told_before bytes (Some left) = Some (bytes ++ left)

-- the source before it gave these bytes
abbrev pub before_giving : List ℕ → Device (List ℕ) → Device (List ℕ)
before_giving bytes d = record d { told = told_before bytes d.told }

-- A read into a buffer was answered so: a front of the bytes that were left is at the front of the buffer, and the others are
-- left; or the read took nothing, and there is one fault more.
abbrev pub Reads : {E : Type 0} → List ℕ → Result ℕ E → Device (List ℕ) → Device (List ℕ) → Type 0
Reads buffer (Ok count) before after = before ≡ before_giving (take count buffer) after
Reads buffer (Err e) before after = after ≡ failed before

-- No bytes are left, as far as the source tells.
abbrev pub IsAtEnd : Option (List ℕ) → Type 0
IsAtEnd None = Unit {0}
IsAtEnd (Some left) = left ≡ []

-- a source in memory: the bytes left, the number of reads so far, the numbers of the reads that fail, from 1, how many bytes
-- a read gives at most, and how many reads failed
pub record SourceInMemory : Type 0 where
  pub left : List ℕ
  pub reads : ℕ
  pub failing : List ℕ
  pub most : ℕ
  pub faults : ℕ

-- nothing read yet
abbrev pub new_source : List ℕ → List ℕ → ℕ → SourceInMemory
new_source bytes failing most = record { left = bytes; reads = 0; failing = failing; most = most; faults = 0 }

-- whether the next read is one of those that fail
abbrev pub read_fails : SourceInMemory → Bool
read_fails s = list_any (λ n. n == risen s.reads) s.failing

-- the source after a read that was answered so
abbrev pub after_read : {E : Type 0} → SourceInMemory → Result ℕ E → SourceInMemory
after_read s (Ok count) = record s { left = drop count s.left; reads = risen s.reads }
after_read s (Err e) = record s { reads = risen s.reads; faults = risen s.faults }

-- the buffer after a read of so many bytes: they stand at its front, and the rest of it is as it was
abbrev pub filled : List ℕ → ℕ → List ℕ → List ℕ
filled left count buffer = take count left ++ drop count buffer

-- the buffer after a read that was answered so
abbrev pub buffer_after : {E : Type 0} → List ℕ → Result ℕ E → List ℕ → List ℕ
buffer_after left (Ok count) buffer = filled left count buffer
buffer_after left (Err e) buffer = buffer
