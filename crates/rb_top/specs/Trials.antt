-- The texts of a trial: a program, and a service of so many files.
use Rattle.std.specs.Prelude.{ℕ, zero, suc, ◌*◌, ◌%◌, List, [], ◌++◌, Some, codes}
use Rattle.std.specs.Fmt.{decimal}
use Rattle.rb_base.specs.Devices.{Device}
use Rattle.rb_base.specs.Directories.{Directory, FilesInMemory, directory_of, new_files, with_file}
use Rattle.rb_top.specs.Words.{Asked, Run, default_fuel}
use Rattle.rb_top.specs.declared.words.Way.TheVariants as ways

-- the program: one batch over the files of a directory, which sums their sizes, counts the large ones, and lets those grow
unfoldable pub trial_program : List ℕ
trial_program =
    codes "interface File { fun name(): Text; fun size(): Int; fun grow(by: Int); fun check(max: Int); fun rename(to: Text); }\n"
    ++ codes "interface Dir { fun files(): Rows<File>; fun file(i: Int): File; fun burn(n: Int); }\n"
    ++ codes "main { var sum = 0; var large = 0; batch (Dir r) { for (f in r.files()) "
    ++ codes "{ val s = f.size(); sum = sum + s; if (s > 900) { large = large + 1; f.grow(1); } } } "
    ++ codes "print(sum); print(large); }\n"

-- the classes of the service
unfoldable pub trial_classes : List ℕ
trial_classes =
    codes "class File {\n"
    ++ codes "  name: Text;\n"
    ++ codes "  size: Int;\n"
    ++ codes "  fun name(): Text { return this.name; }\n"
    ++ codes "  fun size(): Int { return this.size; }\n"
    ++ codes "  fun grow(by: Int) { this.size = this.size + by; }\n"
    ++ codes "  fun check(max: Int) { if (this.size > max) { throw \"Big\"; } }\n"
    ++ codes "  fun rename(to: Text) { this.name = to; }\n"
    ++ codes "}\n"
    ++ codes "class Dir {\n"
    ++ codes "  list: List<File>;\n"
    ++ codes "  fun files(): List<File> { return this.list; }\n"
    ++ codes "  fun file(i: Int): File { return this.list[i]; }\n"
    ++ codes "  fun burn(n: Int) { var i = 0; while (i < n) { i = i + 1; } }\n"
    ++ codes "}\n"

-- the file of a number, where so many others stand before it in a list: with a comma after those
abbrev pub trial_reference : ℕ → ℕ → List ℕ
trial_reference zero number = codes "#" ++ decimal number
trial_reference (suc others) number = codes ", #" ++ decimal number

-- the list of the files from 1 to n: `#1, #2, #3`
abbrev pub trial_references : ℕ → List ℕ
trial_references zero = []
trial_references (suc n) = trial_references n ++ trial_reference n (suc n)

-- the directory of n files
abbrev pub trial_directory : ℕ → List ℕ
trial_directory n = codes "object 0: Dir { list = [" ++ trial_references n ++ codes "]; }\n"

-- the size of a file
abbrev pub trial_size : ℕ → ℕ
trial_size number = (number * 617) % 1000

-- a file of some size: `object 3: File { name = "f3"; size = 851; }`
abbrev pub sized_object : ℕ → ℕ → List ℕ
sized_object number size =
    codes "object " ++ (decimal number
    ++ (codes ": File { name = \"f" ++ (decimal number
    ++ (codes "\"; size = " ++ (decimal size
    ++ codes "; }\n")))))

-- the file of a number
abbrev pub trial_object : ℕ → List ℕ
trial_object number = sized_object number (trial_size number)

-- the files from 1 to n
abbrev pub trial_objects : ℕ → List ℕ
trial_objects zero = []
trial_objects (suc n) = trial_objects n ++ trial_object (suc n)

-- the service of n files
abbrev pub trial_service : ℕ → List ℕ
trial_service n = trial_classes ++ trial_directory n ++ trial_objects n ++ codes "root 0;\n"

-- files in memory that hold the program as `p` and the service as `s`
abbrev pub trial_in_memory : ℕ → FilesInMemory
trial_in_memory n = with_file (with_file (new_files []) (codes "p") trial_program) (codes "s") (trial_service n)

-- the same as files: they tell the two texts, and no read of them failed or will fail
abbrev pub trial_files : ℕ → Device Directory
trial_files n = record { told = Some (directory_of (trial_in_memory n)); faults = 0 }

-- what is asked of the program of a trial
abbrev pub asked_in_trial : Asked
asked_in_trial = Run ways.Trial (codes "p") (codes "s") default_fuel
