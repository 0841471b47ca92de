-- The tokens of the text of a readable program are those of its pieces.
use Rattle.std.proofs.Common.{◌≤◌, false, [], length, refl, subst, arith}
use Rattle.std.proofs.lemmas.List.{append-nil}
use Rattle.rb_trees.specs.mirror.Declarations.{Program}
use Rattle.rb_trees.specs.printing.Programs.{program_pieces, printed_program}
use Rattle.rb_meaning_bytes.specs.tokens.Texts.{IsTokens, longest_text}
use Rattle.rb_parse.proofs.readable.Trees.{IsReadable}
use Rattle.rb_parse.proofs.printing.Spots.{tokens_at}
use Rattle.rb_parse.proofs.printing.lexed.Good.{Good, good_utf8, listed}
use Rattle.rb_parse.proofs.printing.lexed.Programs.{program_good}

good_pieces : (p : Program) → IsReadable p → Good false (program_pieces p)
good_pieces p h = subst (Good false) (append-nil (program_pieces p)) (program_good p h [] tt)

pub lexed : (p : Program) → IsReadable p → length (printed_program p) ≤ longest_text → IsTokens (printed_program p) (tokens_at 0 (program_pieces p))
lexed p h l =
    let g = good_pieces p h in
    let r = listed (printed_program p) false 0 (program_pieces p) g (record { within = omega arith; is = refl }) in
    record { short = l; utf8 = good_utf8 false (program_pieces p) g; stand = r.0; limits = r.1 }
