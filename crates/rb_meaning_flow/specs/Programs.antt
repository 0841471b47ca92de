-- The marks, places, carried loops and refusals of a whole program: those of its outermost batches.
use Rattle.std.specs.Prelude.{ℕ, ◌==◌, List, [], ◌∷◌, map, Bool, ◌&&◌, cond}
use Rattle.std.specs.List.{Contains, flat_map, list_any}
use Rattle.std.specs.Ordering.{nat_cmp}
use Rattle.std.specs.FinMap.{FinMap, from_entries}
use Rattle.rb_trees.specs.declared.marks.Mark.{Mark}
use Rattle.rb_trees.specs.declared.marks.Place.{Place}
use Rattle.rb_trees.specs.declared.refusals.Refusal.{Refusal}
use Rattle.rb_trees.specs.mirror.Code.{stmt_at}
use Rattle.rb_trees.specs.mirror.Declarations.{Program}
use Rattle.rb_meaning_flow.specs.Facts.{Facts, facts_of}
use Rattle.rb_meaning_flow.specs.Sites.{StmtSite, is_script_place}
use Rattle.rb_meaning_flow.specs.Forms.{placed_form, is_carried_form}
use Rattle.rb_meaning_flow.specs.Marks.{marks_of, places_of}
use Rattle.rb_meaning_flow.specs.Outermost.{batch_sites, program_batches}
use Rattle.rb_meaning_flow.specs.Refusals.{IsRefusal, IsBefore}

-- the outermost batches of a program, each by its statements
abbrev pub sites_of : Program → List (List StmtSite)
sites_of p = map (batch_sites (facts_of p)) (program_batches (facts_of p) p)

-- the marks of the expressions in batches, by their positions
abbrev pub program_marks : Program → FinMap nat_cmp Mark
program_marks p = from_entries (flat_map (marks_of (facts_of p)) (sites_of p))

-- the places of the statements in batches, by their positions
abbrev pub program_places : Program → FinMap nat_cmp Place
program_places p = from_entries (flat_map (places_of (facts_of p)) (sites_of p))

-- a carried loop stands at a script place, is over a constant list, and holds a remote operation
abbrev pub is_carried_loop : Facts → StmtSite → Bool
is_carried_loop x s = is_script_place x s.around && is_carried_form (placed_form x s.scope s.stmt)

abbrev pub carried_loop : Facts → StmtSite → List ℕ
carried_loop x s = cond (is_carried_loop x s) (stmt_at s.stmt ∷ []) []

-- the positions of the carried loops
abbrev pub carried_loops : Program → List ℕ
carried_loops p = flat_map (flat_map (carried_loop (facts_of p))) (sites_of p)

-- whether the loop at a position is carried
abbrev pub is_carried_at : Program → ℕ → Bool
is_carried_at p at = list_any (λ n. n == at) (carried_loops p)

-- a refusal of one of the batches
abbrev pub IsRefusalOf : Program → Refusal → Type 0
IsRefusalOf p r = (ss : List StmtSite) × Contains (sites_of p) ss × IsRefusal (facts_of p) ss r

-- the answer: a refusal of the program before which there is none
abbrev pub IsAnswerOf : Program → Refusal → Type 0
IsAnswerOf p r = IsRefusalOf p r × ((other : Refusal) → IsRefusalOf p other → IsBefore other r → ⊥)
