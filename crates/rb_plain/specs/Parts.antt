-- What is remote in the expressions of a batch, as the code performs it.
use Rattle.std.specs.Prelude.{List, [], ◌++◌}
use Rattle.rb_trees.specs.declared.code.Expr as expr
use Rattle.rb_trees.specs.mirror.Code.{Expr, Unary, Binary, Field, Call, Index, New, Items, mirror_expr, mirror_exprs}
use Rattle.rb_meaning_code.specs.State.{Names}
use Rattle.rb_meaning_flow.specs.Facts.{Facts, facts_of}
use Rattle.rb_meaning_flow.specs.Scopes.{Scope}
use Rattle.rb_meaning.specs.RemoteExprs.{remote_in, all_remote_in}
use Rattle.rb_meaning.specs.RemotePart.{Walked, performed}
use Rattle.rb_plain.specs.Staged.{program_of, service_of}
use Rattle.rb_plain.specs.declared.remote_world.RemoteWorld.{RemoteWorld}

-- portable expressions, performed in order
abbrev pub performed_meant : RemoteWorld → List Expr → Names → Walked
performed_meant w es names = performed (program_of w.stage) (service_of w.stage) es names w.server

-- the remote expressions in an expression
abbrev pub part_meant : RemoteWorld → Scope → expr.Expr → Names → Walked
part_meant w scope e names = performed_meant w (remote_in (facts_of (program_of w.stage)) scope (mirror_expr e)) names

-- those in the parts of an expression alone
abbrev pub below : Facts → Scope → Expr → List Expr
below x scope (Unary at op a) = remote_in x scope a
below x scope (Binary at op a b) = remote_in x scope a ++ remote_in x scope b
below x scope (Field at a name) = remote_in x scope a
below x scope (Call at a method args) = remote_in x scope a ++ all_remote_in x scope args
below x scope (Index at a b) = remote_in x scope a ++ remote_in x scope b
below x scope (New at class args) = all_remote_in x scope args
below x scope (Items at item items) = all_remote_in x scope items
below x scope _ = []

abbrev pub parts_meant : RemoteWorld → Scope → expr.Expr → Names → Walked
parts_meant w scope e names = performed_meant w (below (facts_of (program_of w.stage)) scope (mirror_expr e)) names

-- those in expressions, from left to right
abbrev pub all_parts_meant : RemoteWorld → Scope → List expr.Expr → Names → Walked
all_parts_meant w scope es names = performed_meant w (all_remote_in (facts_of (program_of w.stage)) scope (mirror_exprs es)) names

-- those in two expressions
abbrev pub both_meant : RemoteWorld → Scope → expr.Expr → expr.Expr → Names → Walked
both_meant w scope a b names =
    performed_meant w (remote_in (facts_of (program_of w.stage)) scope (mirror_expr a) ++ remote_in (facts_of (program_of w.stage)) scope (mirror_expr b)) names

-- those in an expression and in others
abbrev pub sent_meant : RemoteWorld → Scope → expr.Expr → List expr.Expr → Names → Walked
sent_meant w scope a es names =
    performed_meant w (remote_in (facts_of (program_of w.stage)) scope (mirror_expr a) ++ all_remote_in (facts_of (program_of w.stage)) scope (mirror_exprs es)) names
