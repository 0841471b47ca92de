-- The division of a batch, by its position, the name of its root, and the scope in which its block begins.
use Rattle.std.specs.Prelude.{ℕ, List, [], length, nat_lt, cond, Result, Ok, Err}
use Rattle.rb_trees.specs.declared.refusals.Refusal.{Refusal}
use Rattle.rb_trees.specs.declared.refusals.Refusal.TheVariants.{TooManyInputs}
use Rattle.rb_trees.specs.Outcome.{◌>>=◌}
use Rattle.rb_trees.specs.declared.declarations.Program as program
use Rattle.rb_trees.specs.mirror.Code.{Stmts, mirror_stmts}
use Rattle.rb_trees.specs.mirror.Declarations.{Program, mirror_program}
use Rattle.rb_meaning_flow.specs.Facts.{facts_of}
use Rattle.rb_meaning_flow.specs.Scopes.{Scope}
use Rattle.rb_meaning_split.specs.Inputs.{first_uses, list_numbers, used_in}
use Rattle.rb_meaning_split.specs.Steps.{block_steps}
use Rattle.rb_meaning_split.specs.Parts.{block_parts}
use Rattle.rb_meaning_split.specs.Division.{Division, checked_code, first_refs, most_inputs}
use Rattle.rb_split.specs.declared.division.Place.{Place}

-- the number of inputs, where there aren't too many
abbrev pub counted_inputs : ℕ → List (List ℕ) → Result ℕ Refusal
counted_inputs at inputs = cond (nat_lt most_inputs (length inputs)) (Err (TooManyInputs at (length inputs))) (Ok (length inputs))

module _ (p : Program) where
  -- the division with these inputs
  abbrev pub division_with : ℕ → List ℕ → Scope → Stmts → List (List ℕ) → Division
  division_with at root scope block inputs = record {
    at = at;
    inputs = inputs;
    script = record {
      inputs = length inputs;
      lists = list_numbers scope 0 inputs;
      body = block_steps p (first_refs root inputs) scope 0 0 block;
    };
    remainder = block_parts p (first_refs root inputs) scope 0 0 block;
  }

  -- the same where there aren't too many inputs, and the script isn't too large
  abbrev pub divided_with : ℕ → List ℕ → Scope → Stmts → List (List ℕ) → Result Division Refusal
  divided_with at root scope block inputs = counted_inputs at inputs >>= (λ n. checked_code (division_with at root scope block inputs))

  abbrev pub divided_from : ℕ → List ℕ → Scope → Stmts → Result Division Refusal
  divided_from at root scope block = divided_with at root scope block (first_uses [] (used_in (facts_of p) scope block))

-- the division of the batch at a place with these inputs, and what comes of the batch, by the trees of the code
abbrev pub division_at : program.Program → Place → Scope → List (List ℕ) → Division
division_at p place scope inputs = division_with (mirror_program p) place.at place.root.now scope (mirror_stmts place.block.now) inputs

abbrev pub divided_at : program.Program → Place → Scope → Result Division Refusal
divided_at p place scope = divided_from (mirror_program p) place.at place.root.now scope (mirror_stmts place.block.now)
