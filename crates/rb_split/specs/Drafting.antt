-- What a draft holds once something is added, by the values that the code has.
use Rattle.std.specs.Prelude.{ℕ, List}
use Rattle.std.specs.Borrow.{Bor}
use Rattle.rb_trees.specs.declared.code.Expr as expr
use Rattle.rb_trees.specs.declared.code.Stmt as stmt
use Rattle.rb_trees.specs.declared.declarations.Program as program
use Rattle.rb_trees.specs.declared.remainders.Part as part
use Rattle.rb_trees.specs.declared.scripts.Step as step
use Rattle.rb_trees.specs.mirror.Code.{mirror_expr, mirror_stmt, mirror_stmts}
use Rattle.rb_trees.specs.mirror.Declarations.{mirror_program}
use Rattle.rb_trees.specs.mirror.Remainders.{Part, mirror_parts}
use Rattle.rb_trees.specs.mirror.Scripts.{Step, mirror_steps}
use Rattle.rb_meaning_flow.specs.Scopes.{Scope}
use Rattle.rb_meaning_split.specs.Refs.{Refs}
use Rattle.rb_meaning_split.specs.Parts.{over}
use Rattle.rb_meaning_split.specs.Steps.{refs_after}
use Rattle.rb_split.specs.declared.drafts.Draft.{Draft}
use Rattle.rb_split.specs.declared.loops.Loop.{Loop}
use Rattle.rb_split.specs.declared.refs.Known.{Known}
use Rattle.rb_split.specs.declared.terms.Terms.{Terms}
use Rattle.rb_split.specs.Drafts as words
use Rattle.rb_split.specs.Drafts.{Drafted, drafted}
use Rattle.rb_split.specs.Views.{program_of, refs_of, trees, variables}

module _ (t : Terms) where
  -- the step of a carried val, of a remote expression alone, of a carried `if`, of a loop over rows, and of a carried loop
  abbrev pub let_of : (id var at : ℕ) → expr.Expr → Step
  let_of id var at e = words.let_of (program_of t) (variables t) id var at (mirror_expr e)

  abbrev pub do_of : (id at : ℕ) → expr.Expr → Step
  do_of id at e = words.do_of (program_of t) (variables t) id at (mirror_expr e)

  abbrev pub if_of : (id at : ℕ) → expr.Expr → (a b : List step.Step) → Step
  if_of id at c a b = words.if_of (program_of t) (variables t) id at (mirror_expr c) (mirror_steps a) (mirror_steps b)

  abbrev pub each_of : (id var at : ℕ) → expr.Expr → List step.Step → Step
  each_of id var at e body = words.each_of (program_of t) (variables t) id var at (mirror_expr e) (mirror_steps body)

  abbrev pub over_of : (id var at : ℕ) → expr.Expr → List step.Step → Step
  over_of id var at e body = words.over_of (program_of t) (variables t) id var at (mirror_expr e) (mirror_steps body)

  -- the part of a carried loop
  abbrev pub over_part : (id at : ℕ) → List ℕ → expr.Expr → List part.Part → Part
  over_part id at name e body = over (program_of t) (variables t) id at name (mirror_expr e) (mirror_parts body)

  -- the draft with a step that keeps the value of an expression, and with one for each of some
  abbrev pub with_one_kept : Draft → expr.Expr → Drafted
  with_one_kept d e = words.one_kept (program_of t) (variables t) (drafted d) (mirror_expr e)

  abbrev pub with_all_kept : Draft → List (Bor expr.Expr) → Drafted
  with_all_kept d found = words.all_kept (program_of t) (variables t) (drafted d) (trees found)

  -- the draft with a statement that is left to the client, a carried val, a remote expression alone
  abbrev pub with_plain : Scope → Draft → stmt.Stmt → Drafted
  with_plain scope d s = words.plain_drafted (program_of t) (variables t) scope (drafted d) (mirror_stmt s)

  abbrev pub with_carried : Draft → ℕ → List ℕ → expr.Expr → Drafted
  with_carried d at name e = words.carried_drafted (program_of t) (variables t) (drafted d) at name (mirror_expr e)

  abbrev pub with_do : Draft → ℕ → expr.Expr → Drafted
  with_do d at e = words.do_drafted (program_of t) (variables t) (drafted d) at (mirror_expr e)

  -- the draft with a carried `if`, a loop over rows, or a carried loop, whose blocks are drafted already
  abbrev pub with_branch : Draft → ℕ → expr.Expr → (one two : Draft) → Drafted
  with_branch d at c one two = words.closed_branch (program_of t) (variables t) (drafted d) at (mirror_expr c) (drafted one) (drafted two)

  abbrev pub with_turns : Draft → ℕ → List ℕ → expr.Expr → Draft → Drafted
  with_turns d at name e body = words.closed_turns (program_of t) (variables t) (drafted d) at name (mirror_expr e) (drafted body)

  abbrev pub with_over : Draft → ℕ → List ℕ → expr.Expr → Draft → Drafted
  with_over d at name e body = words.closed_over (program_of t) (variables t) (drafted d) at name (mirror_expr e) (drafted body)

module _ (p : program.Program) (refs : List Known) where
  -- the draft with a statement at a script place, and with those of a block
  abbrev pub with_stmt : Scope → Draft → stmt.Stmt → Drafted
  with_stmt scope d s = words.stmt_drafted (mirror_program p) (refs_of refs) scope (drafted d) (mirror_stmt s)

  abbrev pub with_stmts : Scope → Draft → List stmt.Stmt → Drafted
  with_stmts scope d ss = words.block_drafted (mirror_program p) (refs_of refs) scope (drafted d) (mirror_stmts ss)

  -- the block of a loop that stands behind a draft, whose variable is the next one
  abbrev pub with_turn : Scope → Draft → Loop → Drafted
  with_turn scope d l = words.turn_drafted (mirror_program p) (refs_of refs) scope (drafted d) l.at l.name.now (mirror_stmts l.block.now)

  -- the portable variables after a statement, where the draft is before it
  abbrev pub refs_behind : Scope → Draft → stmt.Stmt → Refs
  refs_behind scope d s = refs_after (mirror_program p) (refs_of refs) d.var scope (mirror_stmt s)
