-- A law of divisions: the script of a batch can be sent.
use Rattle.std.specs.Prelude.{◌≡◌, ◌≤◌, List, ◌++◌, length, Ok}
use Rattle.std.specs.List.{AllByRecursion, Contains}
use Rattle.rb_trees.specs.CodeSize.{code_size_of}
use Rattle.rb_trees.specs.Validity.{verdict}
use Rattle.rb_trees.specs.declared.values.Value.{Value}
use Rattle.rb_trees.specs.declared.versions.Version.TheVariants.{Two}
use Rattle.rb_trees.specs.mirror.Declarations.{Program}
use Rattle.rb_trees.specs.mirror.Scripts.{Script}
use Rattle.rb_meaning_bytes.specs.formats.FormedScripts.{FormedScript, AreInputs}
use Rattle.rb_meaning_bytes.specs.formats.ScriptBytes.{script_bytes}
use Rattle.rb_meaning_types.specs.Lawful.{IsLawful, classes_positions, body_positions}
use Rattle.rb_meaning_types.specs.Programs.{check_program}
use Rattle.rb_meaning_flow.specs.Facts.{facts_of}
use Rattle.rb_meaning_flow.specs.Outermost.{Outermost, program_batches}
use Rattle.rb_meaning.specs.Answers.{longest_request}
use Rattle.rb_flow.specs.Program.{HasNoRefusal}
use Rattle.rb_law_types.specs.Scripts.{IsPlace}
use Rattle.rb_meaning_split.specs.Division.{Division, divided, longest_code}

-- All positions of a program have 32 bits.
abbrev pub HasPlaces : Program → Type 0
HasPlaces p = AllByRecursion IsPlace (classes_positions p.classes ++ body_positions p.body)

-- A script that can be sent: it is formed and valid, its code is short enough, and so is a request of it in version 2, with any
-- values for its inputs.
pub record CanBeSent (s : Script) : Type 0 where
  pub formed : FormedScript s
  pub valid : verdict s ≡ Ok tt
  pub code : code_size_of s ≤ longest_code
  pub request : (values : List Value) → AreInputs s values → length (script_bytes Two s values) ≤ longest_request

-- In a lawful, typed program without refusals, the script of each batch that is divided can be sent.
abbrev pub DividedCanBeSent : Type 0
DividedCanBeSent = (p : Program) → IsLawful p → check_program p ≡ Ok tt → HasNoRefusal p → HasPlaces p
    → (b : Outermost) → Contains (program_batches (facts_of p) p) b → (d : Division) → divided p b ≡ Ok d → CanBeSent d.script
