-- A position has a note exactly where an expression stands there.
use Rattle.std.proofs.Common.{◌≡◌, ℕ, List, [], ◌∷◌, ◌++◌, Bool, true, false, ◌||◌, cond, nat_eq, Option, Some, None, refl, ap, sym, ◌∙◌}
use Rattle.std.specs.Option.{is_some}
use Rattle.rb_trees.specs.mirror.Code.{Expr, Exprs, Lit, Name, This, Unary, Binary, Field, Call, Index, New, Items, Taken, NoExprs, MoreExprs, expr_at, Stmt, Stmts, Val, Var, Assign, Run, Print, Throw, If, While, For, Try, Batch, NoStmts, MoreStmts}
use Rattle.rb_trees.specs.mirror.Declarations.{Body, Method, Class}
use Rattle.rb_meaning_types.specs.Kinds.{Kind}
use Rattle.rb_meaning_types.specs.Violations.{Checked}
use Rattle.rb_trees.specs.Outcome.{◌>>=◌}
use Rattle.rb_meaning_types.specs.Scopes.{Scope, parameters}
use Rattle.rb_meaning_types.specs.Declared.{Declarations, Context, of_program, method_context, main_context}
use Rattle.rb_meaning_types.specs.Statements.{placed, loop_scope, catch_scope, batch_scope, check_stmt, check_stmts}
use Rattle.rb_meaning_types.specs.Notes.{Note, note, noted, all_noted, scope_or, stmt_noted, stmts_noted, return_noted, body_noted, method_noted, methods_noted, classes_noted, program_notes, note_at}
use Rattle.rb_meaning_types.specs.Stands.{in_expr, in_exprs, in_stmt, in_stmts, in_return, in_body, in_methods, in_classes, TypesStand}

-- whether a note of the position is among notes
abbrev has : ℕ → List Note → Bool
has at [] = false
has at (n ∷ ns) = nat_eq n.at at || has at ns

either : (a b c : Bool) → (a || b || c) ≡ (a || (b || c))
either true b c = refl
either false b c = refl

or_false : (a : Bool) → (a || false) ≡ a
or_false true = refl
or_false false = refl

found : (b : Bool) (x : Checked Kind) (o : Option (Checked Kind)) (rest : Bool) → is_some o ≡ rest → is_some (cond b (Some x) o) ≡ (b || rest)
found true x o rest is = refl
found false x o rest is = is

at_note : (at : ℕ) (ns : List Note) → is_some (note_at ns at None) ≡ has at ns
at_note at [] = refl
at_note at (n ∷ ns) = found (nat_eq n.at at) n.gives (note_at ns at None) (has at ns) (at_note at ns)

has_last : (at : ℕ) (ns : List Note) (n : Note) → has at (ns ++ n ∷ []) ≡ (has at ns || nat_eq n.at at)
has_last at [] n = or_false (nat_eq n.at at)
has_last at (m ∷ ns) n = ap (λ b. nat_eq m.at at || b) (has_last at ns n) ∙ sym (either (nat_eq m.at at) (has at ns) (nat_eq n.at at))

-- one part and then another
two : (h a b : Bool) (r : Bool) → r ≡ (h || a) → (r || b) ≡ (h || (a || b))
two h a b r is = ap (λ x. x || b) is ∙ either h a b

noted_one : (at : ℕ) (x : Context) (scope : Scope) (ns : List Note) (e : Expr) (h a : Bool) → has at ns ≡ (h || a) → has at (note x scope ns e) ≡ (h || (a || nat_eq (expr_at e) at))
noted_one at x scope ns e h a is = has_last at ns _ ∙ two h a (nat_eq (expr_at e) at) (has at ns) is

mutual
  in_noted : (at : ℕ) (x : Context) (scope : Scope) (ns : List Note) (e : Expr) → has at (noted x scope ns e) ≡ (has at ns || in_expr at e)
  in_noted at x scope ns (Lit here value) = has_last at ns _
  in_noted at x scope ns (Name here name) = has_last at ns _
  in_noted at x scope ns (This here) = has_last at ns _
  in_noted at x scope ns (Unary here op a) = noted_one at x scope (noted x scope ns a) (Unary here op a) (has at ns) (in_expr at a) (in_noted at x scope ns a)
  in_noted at x scope ns (Binary here op a b) =
      noted_one at x scope (noted x scope (noted x scope ns a) b) (Binary here op a b) (has at ns) (in_expr at a || in_expr at b)
      (in_noted at x scope (noted x scope ns a) b ∙ two (has at ns) (in_expr at a) (in_expr at b) (has at (noted x scope ns a)) (in_noted at x scope ns a))
  in_noted at x scope ns (Field here a name) = noted_one at x scope (noted x scope ns a) (Field here a name) (has at ns) (in_expr at a) (in_noted at x scope ns a)
  in_noted at x scope ns (Call here a method args) =
      noted_one at x scope (all_noted x scope (noted x scope ns a) args) (Call here a method args) (has at ns) (in_expr at a || in_exprs at args)
      (in_all_noted at x scope (noted x scope ns a) args ∙ two (has at ns) (in_expr at a) (in_exprs at args) (has at (noted x scope ns a)) (in_noted at x scope ns a))
  in_noted at x scope ns (Index here a b) =
      noted_one at x scope (noted x scope (noted x scope ns a) b) (Index here a b) (has at ns) (in_expr at a || in_expr at b)
      (in_noted at x scope (noted x scope ns a) b ∙ two (has at ns) (in_expr at a) (in_expr at b) (has at (noted x scope ns a)) (in_noted at x scope ns a))
  in_noted at x scope ns (New here class args) = noted_one at x scope (all_noted x scope ns args) (New here class args) (has at ns) (in_exprs at args) (in_all_noted at x scope ns args)
  in_noted at x scope ns (Items here item items) = noted_one at x scope (all_noted x scope ns items) (Items here item items) (has at ns) (in_exprs at items) (in_all_noted at x scope ns items)
  in_noted at x scope ns (Taken here step) = has_last at ns _

  in_all_noted : (at : ℕ) (x : Context) (scope : Scope) (ns : List Note) (es : Exprs) → has at (all_noted x scope ns es) ≡ (has at ns || in_exprs at es)
  in_all_noted at x scope ns NoExprs = sym (or_false (has at ns))
  in_all_noted at x scope ns (MoreExprs e es) = in_all_noted at x scope (noted x scope ns e) es
      ∙ two (has at ns) (in_expr at e) (in_exprs at es) (has at (noted x scope ns e)) (in_noted at x scope ns e)

mutual
  in_stmt_noted : (at : ℕ) (x : Context) (scope : Scope) (ns : List Note) (s : Stmt) → has at (stmt_noted x scope ns s) ≡ (has at ns || in_stmt at s)
  in_stmt_noted at x scope ns (Val here name e) = in_noted at x scope ns e
  in_stmt_noted at x scope ns (Var here name e) = in_noted at x scope ns e
  in_stmt_noted at x scope ns (Assign here a b) = in_noted at x scope (noted x scope ns a) b ∙ two (has at ns) (in_expr at a) (in_expr at b) (has at (noted x scope ns a)) (in_noted at x scope ns a)
  in_stmt_noted at x scope ns (Run here e) = in_noted at x scope ns e
  in_stmt_noted at x scope ns (Print here e) = in_noted at x scope ns e
  in_stmt_noted at x scope ns (Throw here e) = in_noted at x scope ns e
  in_stmt_noted at x scope ns (If here c a b) =
      in_stmts_noted at x scope (stmts_noted x scope (noted x scope ns c) a) b
      ∙ two (has at ns) (in_expr at c || in_stmts at a) (in_stmts at b) (has at (stmts_noted x scope (noted x scope ns c) a))
      (in_stmts_noted at x scope (noted x scope ns c) a ∙ two (has at ns) (in_expr at c) (in_stmts at a) (has at (noted x scope ns c)) (in_noted at x scope ns c))
  in_stmt_noted at x scope ns (While here c a) = in_stmts_noted at x scope (noted x scope ns c) a
      ∙ two (has at ns) (in_expr at c) (in_stmts at a) (has at (noted x scope ns c)) (in_noted at x scope ns c)
  in_stmt_noted at x scope ns (For here name e a) =
      in_stmts_noted at x (scope_or scope (placed x scope e >>= λ p. loop_scope scope here name p)) (noted x scope ns e) a
      ∙ two (has at ns) (in_expr at e) (in_stmts at a) (has at (noted x scope ns e)) (in_noted at x scope ns e)
  in_stmt_noted at x scope ns (Try here a name b) =
      in_stmts_noted at x (scope_or scope (catch_scope scope here name)) (stmts_noted x scope ns a) b
      ∙ two (has at ns) (in_stmts at a) (in_stmts at b) (has at (stmts_noted x scope ns a)) (in_stmts_noted at x scope ns a)
  in_stmt_noted at x scope ns (Batch here interface root a) = in_stmts_noted at x (scope_or scope (batch_scope x scope here interface root)) ns a

  in_stmts_noted : (at : ℕ) (x : Context) (scope : Scope) (ns : List Note) (ss : Stmts) → has at (stmts_noted x scope ns ss) ≡ (has at ns || in_stmts at ss)
  in_stmts_noted at x scope ns NoStmts = sym (or_false (has at ns))
  in_stmts_noted at x scope ns (MoreStmts s ss) = in_stmts_noted at x (scope_or scope (check_stmt x scope s)) (stmt_noted x scope ns s) ss
      ∙ two (has at ns) (in_stmt at s) (in_stmts at ss) (has at (stmt_noted x scope ns s)) (in_stmt_noted at x scope ns s)

in_return_noted : (at : ℕ) (x : Context) (scope : Scope) (ns : List Note) (r : Option Expr) → has at (return_noted x scope ns r) ≡ (has at ns || in_return at r)
in_return_noted at x scope ns (Some e) = in_noted at x scope ns e
in_return_noted at x scope ns None = sym (or_false (has at ns))

in_body_noted : (at : ℕ) (x : Context) (scope : Scope) (ns : List Note) (b : Body) → has at (body_noted x scope ns b) ≡ (has at ns || in_body at b)
in_body_noted at x scope ns b =
    in_return_noted at x (scope_or scope (check_stmts x scope b.statements)) (stmts_noted x scope ns b.statements) b.result
    ∙ two (has at ns) (in_stmts at b.statements) (in_return at b.result) (has at (stmts_noted x scope ns b.statements)) (in_stmts_noted at x scope ns b.statements)

in_methods_noted : (at : ℕ) (d : Declarations) (class : List ℕ) (ns : List Note) (ms : List Method) → has at (methods_noted d class ns ms) ≡ (has at ns || in_methods at ms)
in_methods_noted at d class ns [] = sym (or_false (has at ns))
in_methods_noted at d class ns (m ∷ ms) = in_methods_noted at d class (method_noted d class ns m) ms
    ∙ two (has at ns) (in_body at m.body) (in_methods at ms) (has at (method_noted d class ns m))
    (in_body_noted at (method_context d class m.remote) (parameters m.signature.params) ns m.body)

in_classes_noted : (at : ℕ) (d : Declarations) (ns : List Note) (cs : List Class) → has at (classes_noted d ns cs) ≡ (has at ns || in_classes at cs)
in_classes_noted at d ns [] = sym (or_false (has at ns))
in_classes_noted at d ns (c ∷ cs) = in_classes_noted at d (methods_noted d c.name ns c.methods) cs
    ∙ two (has at ns) (in_methods at c.methods) (in_classes at cs) (has at (methods_noted d c.name ns c.methods)) (in_methods_noted at d c.name ns c.methods)

pub types_stand : TypesStand
types_stand p at = at_note at (program_notes p)
    ∙ in_body_noted at (main_context (of_program p)) [] (classes_noted (of_program p) [] p.classes) p.body
    ∙ ap (λ b. b || in_body at p.body) (in_classes_noted at (of_program p) [] p.classes)
