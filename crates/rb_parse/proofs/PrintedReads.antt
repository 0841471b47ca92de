-- What is printed of a program that was read has the tokens of its pieces, and these derive the program but for
-- positions, within the limits.
use Rattle.std.proofs.Common.{List, ℕ, Ok}
use Rattle.rb_trees.specs.mirror.Declarations.{Program}
use Rattle.rb_trees.specs.printing.Programs.{program_pieces}
use Rattle.rb_meaning_bytes.specs.grammar.Sources.{ReadSource}
use Rattle.rb_parse.specs.ReadsBack.{PrintsShort, ReadsBack}
use Rattle.rb_parse.proofs.printing.Spots.{tokens_at}
use Rattle.rb_parse.proofs.readable.Whole.{readable}
use Rattle.rb_parse.proofs.printing.lexed.Whole.{lexed}
use Rattle.rb_parse.proofs.printing.derived.Whole.{derived}
use Rattle.rb_parse.proofs.printing.within.Programs.{within}

pub reads_back : (source : List ℕ) (program : Program) → ReadSource source (Ok program) → PrintsShort program → ReadsBack program
reads_back source program read short =
    let r = readable source read.0 program read.1 read.2.0 read.2.1 in
    let d = derived program r in
    (d.0, (tokens_at 0 (program_pieces program), lexed program r short, (d.1, within program r)), d.2)
