-- Types of the code as what the judgement gives.
use Rattle.std.specs.Prelude.{◌≡◌, ℕ, nat_eq, cond, Option, Some, Ok, IsTrue}
use Rattle.std.specs.Option.{option_map}
use Rattle.rb_trees.specs.declared.code.TypeForm.{TypeForm}
use Rattle.rb_trees.specs.mirror.Declarations.{Program}
use Rattle.rb_meaning_types.specs.Kinds.{Kind, kind_of_form}
use Rattle.rb_meaning_types.specs.Violations.{Checked}
use Rattle.rb_meaning_types.specs.Programs.{is_typed}
use Rattle.rb_meaning_types.specs.Batches.{batch_count}
use Rattle.rb_meaning_types.specs.Lawful.{IsLawful}
use Rattle.rb_meaning_types.specs.Notes.{type_at}

-- a type that was found, as what the judgement gives
abbrev pub kind_given : Option TypeForm → Option (Checked Kind)
kind_given kind = option_map (λ k. Ok (kind_of_form k)) kind

-- the types at the positions of a program, by what finds one
abbrev pub AreTypes : Program → (ℕ → Option TypeForm) → Type 0
AreTypes p type = (at : ℕ) → kind_given (type at) ≡ type_at p at

-- The program is typed and lawful, and these are its number of batches and the types at its positions.
abbrev pub IsTypedWith : Program → ℕ → (ℕ → Option TypeForm) → Type 0
IsTypedWith p batches type = IsTrue (is_typed p) × IsLawful p × (batches ≡ batch_count p) × AreTypes p type

-- one more type at a position, by what found one before and what finds one now
abbrev pub Adds : ℕ → Kind → (ℕ → Option TypeForm) → (ℕ → Option TypeForm) → Type 0
Adds here kind before now = (at : ℕ) → kind_given (now at) ≡ cond (nat_eq here at) (Some (Ok kind)) (kind_given (before at))
