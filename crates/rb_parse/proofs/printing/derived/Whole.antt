-- The tokens of a printed program derive it, but for its positions.
use Rattle.std.proofs.Common.{◌≡◌, ◌∷◌, [], refl}
use Rattle.rb_trees.specs.mirror.Declarations.{Program}
use Rattle.rb_trees.specs.printing.Programs.{program_pieces, printed_program}
use Rattle.rb_trees.specs.printing.Unplaced.{unplaced}
use Rattle.rb_meaning_bytes.specs.grammar.Derives.{Derives}
use Rattle.rb_meaning_bytes.specs.grammar.Symbols.{The, TheProgram}
use Rattle.rb_parse.proofs.readable.Trees.{IsReadable}
use Rattle.rb_parse.proofs.printing.Spots.{tokens_at}
use Rattle.rb_parse.proofs.printing.derived.Stands.{stand}
use Rattle.rb_parse.proofs.printing.derived.Made.{Made, last}
use Rattle.rb_parse.proofs.printing.derived.Declarations.{program_made}

pub derived : (p : Program) → IsReadable p → (other : Program) × Derives (printed_program p) (tokens_at 0 (program_pieces p)) other × (unplaced other ≡ unplaced p)
derived p h =
    let source = printed_program p in
    let m : Made source (The TheProgram ∷ []) (program_pieces p) (λ xs. unplaced xs.0 ≡ unplaced p) = last (program_made source p h) (λ x k. k) in
    let d = m.spell (tokens_at 0 (program_pieces p)) (stand source [] 0 (program_pieces p) refl refl) in
    (d.trees.0, d.spells, d.holds)
