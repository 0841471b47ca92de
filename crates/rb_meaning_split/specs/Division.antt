-- The division of a batch: its inputs, its script, and the remainder that is left to the client.
use Rattle.std.specs.Prelude.{ℕ, suc, List, [], ◌∷◌, length, nat_lt, cond, Result, Ok, Err}
use Rattle.rb_trees.specs.CodeSize.{code_size_of}
use Rattle.rb_trees.specs.declared.refusals.Refusal.{Refusal}
use Rattle.rb_trees.specs.declared.refusals.Refusal.TheVariants.{TooManyInputs, ScriptTooLarge}
use Rattle.rb_trees.specs.mirror.Declarations.{Program}
use Rattle.rb_trees.specs.declared.remainders.Split.{Split}
use Rattle.rb_trees.specs.mirror.Scripts.{Script, mirror_script}
use Rattle.rb_trees.specs.mirror.Remainders.{Parts, mirror_parts}
use Rattle.rb_meaning_flow.specs.Facts.{facts_of}
use Rattle.rb_meaning_flow.specs.Scopes.{Scope, opened}
use Rattle.rb_meaning_flow.specs.Outermost.{Outermost, program_batches}
use Rattle.rb_meaning_split.specs.Refs.{Root, Input, Refs}
use Rattle.rb_meaning_split.specs.Inputs.{used_in, first_uses, list_numbers}
use Rattle.rb_meaning_split.specs.Steps.{block_steps}
use Rattle.rb_meaning_split.specs.Parts.{block_parts}

pub record Division : Type 0 where
  -- the position of the batch
  pub at : ℕ
  -- the names of the inputs
  pub inputs : List (List ℕ)
  pub script : Script
  pub remainder : Parts

-- the division that a Split holds
abbrev pub mirror_split : Split → Division
mirror_split s = record { at = s.at; inputs = s.inputs; script = mirror_script s.script; remainder = mirror_parts s.remainder }

-- the inputs, numbered from n on
abbrev pub numbered : ℕ → List (List ℕ) → Refs
numbered n [] = []
numbered n (name ∷ names) = (name, Input n) ∷ numbered (suc n) names

-- the portable variables with which a batch begins: its root, and its inputs
abbrev pub first_refs : List ℕ → List (List ℕ) → Refs
first_refs root inputs = (root, Root) ∷ numbered 0 inputs

-- the scope in which the block of a batch begins
abbrev pub scope_of : Outermost → Scope
scope_of b = opened b.outer b.at b.root b.block

-- the inputs of a batch
abbrev pub inputs_of : Program → Outermost → List (List ℕ)
inputs_of p b = first_uses [] (used_in (facts_of p) (scope_of b) b.block)

-- the division of a batch, whose steps and variables are numbered from 0
unfoldable pub division : Program → Outermost → Division
division p b = record {
  at = b.at;
  inputs = inputs_of p b;
  script = record {
    inputs = length (inputs_of p b);
    lists = list_numbers (scope_of b) 0 (inputs_of p b);
    body = block_steps p (first_refs b.root (inputs_of p b)) (scope_of b) 0 0 b.block;
  };
  remainder = block_parts p (first_refs b.root (inputs_of p b)) (scope_of b) 0 0 b.block;
}

-- the greatest number of inputs, which one byte counts
abbrev pub most_inputs : ℕ
most_inputs = 255

-- the greatest number of bytes of a script's code
abbrev pub longest_code : ℕ
longest_code = 4194304

-- a script that is short enough
abbrev pub checked_code : Division → Result Division Refusal
checked_code d = cond (nat_lt longest_code (code_size_of d.script)) (Err (ScriptTooLarge d.at (code_size_of d.script))) (Ok d)

-- A batch is divided, or refused: first where it has too many inputs, then where its script is too large.
abbrev pub divided : Program → Outermost → Result Division Refusal
divided p b = cond (nat_lt most_inputs (length (inputs_of p b))) (Err (TooManyInputs b.at (length (inputs_of p b)))) (checked_code (division p b))

abbrev pub divided_before : Result Division Refusal → Result (List Division) Refusal → Result (List Division) Refusal
divided_before (Err refusal) rest = Err refusal
divided_before (Ok d) (Err refusal) = Err refusal
divided_before (Ok d) (Ok ds) = Ok (d ∷ ds)

abbrev pub divided_all : Program → List Outermost → Result (List Division) Refusal
divided_all p [] = Ok []
divided_all p (b ∷ bs) = divided_before (divided p b) (divided_all p bs)

-- all batches of a program in source order, or the refusal of the first one that has one
abbrev pub divisions : Program → Result (List Division) Refusal
divisions p = divided_all p (program_batches (facts_of p) p)
