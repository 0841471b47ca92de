-- The text of statements.
use Rattle.std.proofs.Common.{◌≡◌, ℕ, List, [], ◌∷◌, ◌++◌, ◌≢◌, refl}
use Rattle.std.proofs.lemmas.Grind.{common_steps}
use Rattle.rb_trees.specs.declared.code.Stmt as tree
use Rattle.rb_trees.specs.mirror.Code.{mirror_stmts}
use Rattle.rb_trees.specs.printing.Pieces.{Piece}
use Rattle.rb_trees.specs.printing.Words as w
use Rattle.rb_trees.specs.printing.Stmts.{line, closed, closed_by, otherwise}
use Rattle.rb_trees.proofs.mirror.Stmts.{stmts}
use Rattle.rb_trees.proofs.printed.Pieces.{pieces}

pub otherwise_none : (indent : List ℕ) (block : List tree.Stmt) (lines : List Piece) → block ≡ [] → otherwise indent (mirror_stmts block) lines ≡ closed indent
otherwise_none indent [] lines h = refl
otherwise_none indent (s ∷ ss) lines h = cc

pub otherwise_some : (indent : List ℕ) (block : List tree.Stmt) (lines : List Piece) → block ≢ [] → otherwise indent (mirror_stmts block) lines ≡ line indent (closed_by (w.else_word ∷ [])) ++ (lines ++ closed indent)
otherwise_some indent [] lines h = absurd (h refl)
otherwise_some indent (s ∷ ss) lines h = refl

pub ruleset printed_stmts = (stmts, otherwise_none, otherwise_some, pieces, common_steps)
