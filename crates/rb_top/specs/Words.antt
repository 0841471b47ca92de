-- What the words of a command ask for: something of a program, of a server, of a hub, or of a request in JSON.
use Rattle.std.specs.Prelude.{ℕ, List, [], ◌∷◌, Bool, ◌&&◌, Option, None, Some, option_and_then, option_map, cond, codes, length, map, nat_lt, nat_le}
use Rattle.std.specs.List.{list_all}
use Rattle.std.specs.Str.{bytes_eq}
use Rattle.std.specs.String.{string_bytes}
use Rattle.std.specs.declared.string.String.{String}
use Rattle.rb_trees.specs.Spelling.{is_digit}
use Rattle.rb_meaning_bytes.specs.tokens.Values.{number_value}
use Rattle.rb_top.specs.declared.words.Asking as asking
use Rattle.rb_top.specs.declared.words.Call as call
use Rattle.rb_top.specs.declared.words.Command.{Command}
use Rattle.rb_top.specs.declared.words.Command.TheVariants as commands
use Rattle.rb_top.specs.declared.words.Job.{Job}
use Rattle.rb_top.specs.declared.words.Keeping as keeping
use Rattle.rb_top.specs.declared.words.Playing as playing
use Rattle.rb_top.specs.declared.words.Serving as serving
use Rattle.rb_top.specs.declared.words.Task.{Task}
use Rattle.rb_top.specs.declared.words.Task.TheVariants as tasks
use Rattle.rb_top.specs.declared.words.Way.{Way}
use Rattle.rb_top.specs.declared.words.Way.TheVariants.{Both, Unsplit, Pair}

-- the bytes of each word
abbrev pub texts : {Z : Type 0} → List (String Z) → List (List ℕ)
texts words = map string_bytes words

-- what is asked of a program: a check of the program in a file; the view of its division; its run in some way on the service in
-- another file, with so much fuel; or its run over a link to the server at an address
pub data Asked : Type 0 where
  Check : (p : List ℕ) → Asked
  Split : (p : List ℕ) → Asked
  Run : (way : Way) (p s : List ℕ) (fuel : ℕ) → Asked
  Call : (address p : List ℕ) (fuel : ℕ) → Asked

-- what is asked of a server: the address that it listens at, the file of its service, and how many sessions it serves at most
pub record Serving : Type 0 where
  pub address : List ℕ
  pub service : List ℕ
  pub count : ℕ

-- what is asked of a server that keeps its requests: the same, and the name of the journal's disk
pub record Keeping : Type 0 where
  pub serving : Serving
  pub journal : List ℕ

-- what is asked of a hub: the file of its events, and the file of its service
pub record Playing : Type 0 where
  pub events : List ℕ
  pub service : List ℕ

-- what is asked by a request in JSON: the file of the service, and the file of the request
pub record Asking : Type 0 where
  pub service : List ℕ
  pub request : List ℕ

-- what words ask for: something of a program, a server, one that keeps its requests, a server over one session that prints nothing,
-- a trial of so many files, a hub that plays events, or the answer to a request in JSON
pub data Wanted : Type 0 where
  OfProgram : (a : Asked) → Wanted
  Serve : (v : Serving) → Wanted
  Keep : (k : Keeping) → Wanted
  Child : (s : List ℕ) → Wanted
  Trial : (n : ℕ) → Wanted
  Play : (p : Playing) → Wanted
  Answer : (a : Asking) → Wanted

-- the fuel of a run, where the words name none, and the most that words may name
unfoldable pub default_fuel : ℕ
default_fuel = 1000000

unfoldable pub most_fuel : ℕ
most_fuel = 1000000000

-- the most sessions that words may name
unfoldable pub most_count : ℕ
most_count = 1000000

-- the most files of a trial
unfoldable pub most_files : ℕ
most_files = 10000

-- the most digits of a number of fuel or sessions, and of one of files
abbrev pub most_digits : ℕ
most_digits = 10

abbrev pub most_file_digits : ℕ
most_file_digits = 5

-- whether a word names a number of at least and at most so much, by one digit to so many
abbrev pub is_within : ℕ → ℕ → ℕ → List ℕ → Bool
is_within digits least most word =
    list_all is_digit word && (nat_lt 0 (length word) && (nat_le (length word) digits && (nat_le least (number_value word) && nat_le (number_value word) most)))

abbrev pub number_within : ℕ → ℕ → ℕ → List ℕ → Option ℕ
number_within digits least most word = cond (is_within digits least most word) (Some (number_value word)) None

abbrev pub fuel_of : List ℕ → Option ℕ
fuel_of word = number_within most_digits 0 most_fuel word

abbrev pub count_of : List ℕ → Option ℕ
count_of word = number_within most_digits 1 most_count word

abbrev pub trial_count_of : List ℕ → Option ℕ
trial_count_of word = number_within most_file_digits 1 most_files word

-- `serve ADDRESS S COUNT`
abbrev pub serve_of : List ℕ → List ℕ → ℕ → Serving
serve_of address s count = record { address = address; service = s; count = count }

-- `child S` serves as `serve - S 1` does
abbrev pub child_of : List ℕ → Serving
child_of s = serve_of (codes "-") s 1

-- what is asked for by a word and a file, or `trial` and a number, if they are understood
abbrev pub view_of : List ℕ → List ℕ → Option Wanted
view_of command f =
    cond (bytes_eq command (codes "check")) (Some (OfProgram (Check f)))
    (cond (bytes_eq command (codes "split")) (Some (OfProgram (Split f)))
    (cond (bytes_eq command (codes "child")) (Some (Child f))
    (cond (bytes_eq command (codes "trial")) (option_map Trial (trial_count_of f)) None)))

-- the way of a run that a word names; no word names that of a trial
abbrev pub way_of : List ℕ → Option Way
way_of command =
    cond (bytes_eq command (codes "both")) (Some Both) (cond (bytes_eq command (codes "unsplit")) (Some Unsplit) (cond (bytes_eq command (codes "pair")) (Some Pair) None))

-- what is asked of a program by the words of a run with so much fuel, if they are understood
unfoldable pub run_of : List ℕ → List ℕ → List ℕ → ℕ → Option Asked
run_of command a b fuel = cond (bytes_eq command (codes "run")) (Some (Call a b fuel)) (option_map (λ way. Run way a b fuel) (way_of command))

-- `hub E S`
abbrev pub play_of : List ℕ → List ℕ → Playing
play_of e s = record { events = e; service = s }

-- `json S R`
abbrev pub ask_of : List ℕ → List ℕ → Asking
ask_of s r = record { service = s; request = r }

-- what is asked for by three words, if they are understood
unfoldable pub run_on_files_of : List ℕ → List ℕ → List ℕ → Option Wanted
run_on_files_of command a b =
    cond (bytes_eq command (codes "hub")) (Some (Play (play_of a b)))
    (cond (bytes_eq command (codes "json")) (Some (Answer (ask_of a b))) (option_map OfProgram (run_of command a b default_fuel)))

-- what is asked for by three words and a number, if they are understood
unfoldable pub run_or_serve_of : List ℕ → List ℕ → List ℕ → List ℕ → Option Wanted
run_or_serve_of command a b number =
    cond (bytes_eq command (codes "serve")) (option_map (λ count. Serve (serve_of a b count)) (count_of number))
    (option_map OfProgram (option_and_then (run_of command a b) (fuel_of number)))

-- `keep ADDRESS S COUNT J`
unfoldable pub keep_of : List ℕ → List ℕ → List ℕ → List ℕ → List ℕ → Option Wanted
keep_of command address s number j =
    cond (bytes_eq command (codes "keep")) (option_map (λ count. Keep (record { serving = serve_of address s count; journal = j })) (count_of number)) None

-- what words ask for, if they are understood
abbrev pub wanted : List (List ℕ) → Option Wanted
wanted (command ∷ f ∷ []) = view_of command f
wanted (command ∷ a ∷ b ∷ []) = run_on_files_of command a b
wanted (command ∷ a ∷ b ∷ number ∷ []) = run_or_serve_of command a b number
wanted (command ∷ a ∷ b ∷ number ∷ j ∷ []) = keep_of command a b number j
wanted _ = None

-- the name of the file of the program
abbrev pub program_name : Asked → List ℕ
program_name (Check p) = p
program_name (Split p) = p
program_name (Run way p s fuel) = p
program_name (Call address p fuel) = p

-- what a job, a call and a task ask for
abbrev pub asked_job : Job → Asked
asked_job job = Run job.way job.program.now job.service.now job.fuel

abbrev pub asked_call : call.Call → Asked
asked_call c = Call c.address.now c.program.now c.fuel

abbrev pub asked_by : Task → Asked
asked_by (tasks.Check p) = Check p.now
asked_by (tasks.Split p) = Split p.now
asked_by (tasks.Run job) = asked_job job
asked_by (tasks.Call c) = asked_call c

-- what is asked of a server
abbrev pub serving_by : serving.Serving → Serving
serving_by v = record { address = v.address.now; service = v.service.now; count = v.count }

-- what is asked of a server that keeps its requests
abbrev pub keeping_by : keeping.Keeping → Keeping
keeping_by k = record { serving = serving_by k.serving; journal = k.journal.now }

-- what is asked of a hub
abbrev pub playing_by : playing.Playing → Playing
playing_by p = record { events = p.events.now; service = p.service.now }

-- what is asked by a request in JSON
abbrev pub asking_by : asking.Asking → Asking
asking_by a = record { service = a.service.now; request = a.request.now }

abbrev pub wanted_by : Command → Wanted
wanted_by (commands.Program task) = OfProgram (asked_by task)
wanted_by (commands.Serve v) = Serve (serving_by v)
wanted_by (commands.Keep k) = Keep (keeping_by k)
wanted_by (commands.Child s) = Child s.now
wanted_by (commands.Trial n) = Trial n
wanted_by (commands.Hub p) = Play (playing_by p)
wanted_by (commands.Json a) = Answer (asking_by a)
