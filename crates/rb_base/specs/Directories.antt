-- What files tell.
use Rattle.std.specs.Prelude.{◌≡◌, ◌==◌, ℕ, ◌+◌, List, [], ◌∷◌, ◌++◌, Option, None, Some, Result, Ok, Err, cond, take}
use Rattle.std.specs.Str.{bytes_eq}
use Rattle.std.specs.List.{list_any}
use Rattle.rb_base.specs.declared.files.FilesStop.{FilesStop}
use Rattle.rb_base.specs.declared.files.FilesStop.TheVariants.{Failed, Memory}
use Rattle.rb_base.specs.Counts.{risen}
use Rattle.rb_base.specs.Devices.{Device, failed}

-- the bytes of the file of each name that has one, the number of reads so far, and the numbers of the reads that fail,
-- from 1
pub record Directory : Type 0 where
  pub contents : List ℕ → Option (List ℕ)
  pub reads : ℕ
  pub failing : List ℕ

-- the bytes that the next read finds under a name, or None where it fails: it is listed, or no file has the name
abbrev pub next_read : Directory → List ℕ → Option (List ℕ)
next_read d name = cond (list_any (λ n. n == risen d.reads) d.failing) None (d.contents name)

abbrev pub after_read : Directory → Directory
after_read d = record d { reads = risen d.reads }

-- what is told after a read
abbrev pub told_after : Option Directory → Option Directory
told_after None = None
told_after (Some d) = Some (after_read d)

-- The file has these bytes, as far as the files tell.
abbrev pub Finds : Option Directory → List ℕ → List ℕ → Type 0
Finds None name bytes = Unit {0}
Finds (Some d) name bytes = next_read d name ≡ Some bytes

-- The next read of this name fails, as far as the files tell.
abbrev pub FailsNext : Option Directory → List ℕ → Type 0
FailsNext None name = Unit {0}
FailsNext (Some d) name = next_read d name ≡ None

-- The buffer has gained the first limit + 1 bytes of the file, or all where it has no more.
abbrev pub ReadsFile : Option Directory → List ℕ → ℕ → List ℕ → List ℕ → Type 0
ReadsFile told name limit old new = (bytes : List ℕ) × Finds told name bytes × (new ≡ old ++ take (limit + 1) bytes)

-- the files after a read that found something, or was wanting memory
abbrev pub read_once : Device Directory → Device Directory
read_once d = record d { told = told_after d.told }

-- the files after a read that was answered so: the count of faults rises exactly where it failed, and want of memory is
-- no fault
abbrev pub after_stop : FilesStop → Device Directory → Device Directory
after_stop Failed d = failed (read_once d)
after_stop Memory d = read_once d

abbrev pub files_after : {A : Type 0} → Result A FilesStop → Device Directory → Device Directory
files_after (Ok a) d = read_once d
files_after (Err stop) d = after_stop stop d

-- files in memory: names with their bytes, the number of reads so far, the numbers of the reads that fail, from 1, and how
-- many reads failed
pub record FilesInMemory : Type 0 where
  pub files : List (List ℕ × List ℕ)
  pub reads : ℕ
  pub failing : List ℕ
  pub faults : ℕ

-- the bytes of the file of a name, which is the first of it
abbrev pub content_of : List (List ℕ × List ℕ) → List ℕ → Option (List ℕ)
content_of [] name = None
content_of (f ∷ fs) name = cond (bytes_eq f.0 name) (Some f.1) (content_of fs name)

-- what files in memory tell
abbrev pub directory_of : FilesInMemory → Directory
directory_of s = record { contents = content_of s.files; reads = s.reads; failing = s.failing }

-- no files yet, no read so far, and the numbers of the reads that will fail
abbrev pub new_files : List ℕ → FilesInMemory
new_files failing = record { files = []; reads = 0; failing = failing; faults = 0 }

-- the files with one more at their end
abbrev pub with_file : FilesInMemory → List ℕ → List ℕ → FilesInMemory
with_file s name bytes = record s { files = s.files ++ (name, bytes) ∷ [] }

-- files of one content under each name: the content, and the number of reads so far
pub record OneContent : Type 0 where
  pub content : List ℕ
  pub reads : ℕ

-- what such files tell: no read fails
abbrev pub same_everywhere : OneContent → Directory
same_everywhere s = record { contents = λ name. Some s.content; reads = s.reads; failing = [] }
