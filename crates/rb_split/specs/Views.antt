-- What the code's values stand for in the definitions.
use Rattle.std.specs.Prelude.{List, [], map}
use Rattle.std.specs.Borrow.{Bor}
use Rattle.rb_trees.specs.declared.code.Expr as expr
use Rattle.rb_trees.specs.declared.code.Stmt as stmt
use Rattle.rb_trees.specs.declared.declarations.Program as program
use Rattle.rb_trees.specs.mirror.Code.{Expr, Stmt, Val, Var, mirror_expr, mirror_exprs, mirror_stmt}
use Rattle.rb_trees.specs.mirror.Declarations.{Program, mirror_program}
use Rattle.rb_trees.specs.mirror.Scripts.{SExpr, SExprs}
use Rattle.rb_meaning_flow.specs.declared.scopes.Role.{Role}
use Rattle.rb_meaning_flow.specs.Facts.{Facts, facts_of}
use Rattle.rb_meaning_flow.specs.Scopes.{Scope, with_variable}
use Rattle.rb_meaning_flow.specs.Sites.{scope_after}
use Rattle.rb_meaning_split.specs.Refs as ref
use Rattle.rb_meaning_split.specs.Refs.{Ref, Refs, sexpr, sexprs}
use Rattle.rb_split.specs.declared.refs.Referent.{Referent}
use Rattle.rb_split.specs.declared.refs.Referent.TheVariants as target
use Rattle.rb_split.specs.declared.refs.Known.{Known}
use Rattle.rb_split.specs.declared.terms.Terms.{Terms}

-- what the types of a program tell
abbrev pub facts : program.Program → Facts
facts p = facts_of (mirror_program p)

-- what a script calls a variable
abbrev pub ref_of : Referent → Ref
ref_of target.Root = ref.Root
ref_of (target.Input number) = ref.Input number
ref_of (target.Var number) = ref.Var number

-- the portable variables of a table
abbrev pub refs_of : List Known → Refs
refs_of ks = map (λ k. (k.name, ref_of k.target)) ks

-- the program that a script is written of, and its portable variables
abbrev pub program_of : Terms → Program
program_of t = mirror_program t.facts.now

abbrev pub variables : Terms → Refs
variables t = refs_of t.refs.now

-- a portable expression in the script, and some
abbrev pub in_script : Terms → expr.Expr → SExpr
in_script t e = sexpr (program_of t) (variables t) (mirror_expr e)

abbrev pub all_in_script : Terms → List expr.Expr → SExprs
all_in_script t es = sexprs (program_of t) (variables t) (mirror_exprs es)

-- expressions that were found, in the mirror
abbrev pub trees : List (Bor expr.Expr) → List Expr
trees es = map (λ e. mirror_expr e.now) es

-- the variables in scope after a statement, and after one that carries nothing
abbrev pub scope_behind : program.Program → Scope → stmt.Stmt → Scope
scope_behind p scope s = scope_after (facts p) [] scope (mirror_stmt s)

abbrev pub plain_scope : Scope → Stmt → Scope
plain_scope scope (Val at name e) = with_variable scope name Role.Plain at
plain_scope scope (Var at name e) = with_variable scope name Role.Plain at
plain_scope scope _ = scope
