-- A weight of code, which falls at each step into it.
use Rattle.std.proofs.Common.{◌≡◌, ℕ, zero, suc, ◌+◌, ◌-◌, ◌*◌, ◌<◌, ◌≤◌, max, arith, List, [], ◌∷◌, length, get_or, refl, ap}
use Rattle.std.specs.Prelude.{Bool, true, false, cond, nat_eq, Option, Some, None, Ok, slice_get, option_and_then}
use Rattle.std.specs.Str.{bytes_eq}
use Rattle.rb_trees.specs.Named.{first_named}
use Rattle.rb_trees.specs.Classes.{class_named, method_named, method_of_class}
use Rattle.rb_trees.specs.Outcome.{known, must, ◌>>=◌, ◌>>◌}
use Rattle.rb_trees.specs.declared.values.Value.{Value}
use Rattle.rb_trees.specs.declared.values.Value.TheOpen.{Value-F}
use Rattle.rb_trees.specs.declared.services.Object.{Object}
use Rattle.rb_trees.specs.declared.code.Expr as expr
use Rattle.rb_trees.specs.declared.code.Stmt as stmt
use Rattle.rb_trees.specs.mirror.Code as code
use Rattle.rb_trees.specs.mirror.Code.{Expr, Exprs, Stmt, Stmts, mirror_expr, mirror_exprs, mirror_stmt, mirror_stmts}
use Rattle.rb_trees.specs.mirror.Declarations.{Body, Method, Class}
use Rattle.rb_meaning_code.specs.Faults.{kind}
use Rattle.rb_engine.specs.Targets.{FieldPlace, target_form}
use Rattle.rb_meaning_code.specs.Calls.{method_of, called_method}

abbrev mutual
  pub expr_weight : Expr → ℕ
  expr_weight (code.Lit at v) = 0
  expr_weight (code.Name at n) = 0
  expr_weight (code.This at) = 0
  expr_weight (code.Unary at op a) = 3 + expr_weight a
  expr_weight (code.Binary at op a b) = 4 + max (expr_weight a) (expr_weight b)
  expr_weight (code.Field at a n) = 3 + expr_weight a
  expr_weight (code.Call at r n es) = 4 + max (expr_weight r) (exprs_weight es)
  expr_weight (code.Index at a b) = 3 + max (expr_weight a) (expr_weight b)
  expr_weight (code.New at n es) = 3 + exprs_weight es
  expr_weight (code.Items at t es) = 3 + exprs_weight es
  expr_weight (code.Taken at step) = 0

  pub exprs_weight : Exprs → ℕ
  exprs_weight code.NoExprs = 0
  exprs_weight (code.MoreExprs e es) = max (expr_weight e) (exprs_weight es)

abbrev mutual
  pub stmt_weight : Stmt → ℕ
  stmt_weight (code.Val at n e) = 2 + expr_weight e
  stmt_weight (code.Var at n e) = 2 + expr_weight e
  stmt_weight (code.Assign at a b) = 2 + max (expr_weight a) (expr_weight b)
  stmt_weight (code.Run at e) = 2 + expr_weight e
  stmt_weight (code.Print at e) = 3 + expr_weight e
  stmt_weight (code.Throw at e) = 3 + expr_weight e
  stmt_weight (code.If at c a b) = 4 + max (expr_weight c) (max (stmts_weight a) (stmts_weight b))
  stmt_weight (code.While at c a) = 4 + max (expr_weight c) (stmts_weight a)
  stmt_weight (code.For at n e a) = 5 + max (expr_weight e) (stmts_weight a)
  stmt_weight (code.Try at a n b) = 4 + max (stmts_weight a) (stmts_weight b)
  stmt_weight (code.Batch at i n a) = 0

  pub stmts_weight : Stmts → ℕ
  stmts_weight code.NoStmts = 0
  stmts_weight (code.MoreStmts s ss) = max (stmt_weight s) (stmts_weight ss)

abbrev pub result_weight : Option Expr → ℕ
result_weight None = 0
result_weight (Some e) = expr_weight e

abbrev pub body_weight : Body → ℕ
body_weight b = 2 + max (stmts_weight b.statements) (result_weight b.result)

abbrev pub greatest : {A : Type 0} → (A → ℕ) → List A → ℕ
greatest weigh [] = 0
greatest weigh (x ∷ xs) = max (weigh x) (greatest weigh xs)

abbrev pub methods_weight : List Method → ℕ
methods_weight ms = greatest (λ m. body_weight m.body) ms

abbrev pub heaviest : List Class → ℕ
heaviest classes = greatest (λ c. methods_weight c.methods) classes

-- what is left where so many calls are active
abbrev pub room : List Class → ℕ → ℕ
room classes depth = (33 - depth) * (1 + heaviest classes)

-- the same of trees
abbrev pub weight_of : expr.Expr → ℕ
weight_of e = expr_weight (mirror_expr e)

abbrev pub weights_of : List expr.Expr → ℕ
weights_of es = exprs_weight (mirror_exprs es)

abbrev pub effect_of : stmt.Stmt → ℕ
effect_of s = stmt_weight (mirror_stmt s)

abbrev pub effects_of : List stmt.Stmt → ℕ
effects_of ss = stmts_weight (mirror_stmts ss)

-- an item of a list is no heavier than the list
pub expr_in : (es : List expr.Expr) (i : ℕ) (d : expr.Expr) → i < length es → expr_weight (mirror_expr (get_or es i d)) ≤ exprs_weight (mirror_exprs es)
expr_in [] i d h = absurd (omega arith)
expr_in (e ∷ es) zero d h = omega arith
expr_in (e ∷ es) (suc i) d h = let more : expr_weight (mirror_expr (get_or es i d)) ≤ exprs_weight (mirror_exprs es) = expr_in es i d (omega arith) in omega arith

pub stmt_in : (ss : List stmt.Stmt) (i : ℕ) (d : stmt.Stmt) → i < length ss → stmt_weight (mirror_stmt (get_or ss i d)) ≤ stmts_weight (mirror_stmts ss)
stmt_in [] i d h = absurd (omega arith)
stmt_in (s ∷ ss) zero d h = omega arith
stmt_in (s ∷ ss) (suc i) d h = let more : stmt_weight (mirror_stmt (get_or ss i d)) ≤ stmts_weight (mirror_stmts ss) = stmt_in ss i d (omega arith) in omega arith

-- what is named in a list is no heavier than the list
named_or_later : {A : Type 0} (weigh : A → ℕ) (b : Bool) (y x : A) (r : Option A) (w : ℕ) → (r ≡ Some x → weigh x ≤ w) → cond b (Some y) r ≡ Some x → weigh x ≤ max (weigh y) w
named_or_later weigh true y x r w more e = let same : y ≡ x = cc e in let h = ap weigh same in omega arith
named_or_later weigh false y x r w more e = let h = more e in omega arith

named_in : {A : Type 0} (weigh : A → ℕ) (name_of : A → List ℕ) (xs : List A) (name : List ℕ) (x : A) → first_named name_of xs name ≡ Some x → weigh x ≤ greatest weigh xs
named_in weigh name_of [] name x e = absurd (cc e)
named_in weigh name_of (y ∷ xs) name x e =
    named_or_later weigh (bytes_eq (name_of y) name) y x (first_named name_of xs name) (greatest weigh xs) (named_in weigh name_of xs name x) e

in_class : (classes : List Class) (class name : List ℕ) (m : Method) (found : Option Class) → class_named classes class ≡ found → option_and_then (λ c. method_named c.methods name) found ≡ Some m → body_weight m.body ≤ heaviest classes
in_class classes class name m None e f = absurd (cc f)
in_class classes class name m (Some c) e f =
    let light = named_in (λ x. methods_weight x.methods) (λ x. x.name) classes class c e in
    let lighter = named_in (λ x. body_weight x.body) (λ x. x.signature.name) c.methods name m f in
    omega arith

in_object : (classes : List Class) (name : List ℕ) (m : Method) (found : Option Object) → option_and_then (λ o. method_of_class classes o.class name) found ≡ Some m → body_weight m.body ≤ heaviest classes
in_object classes name m None f = absurd (cc f)
in_object classes name m (Some o) f = in_class classes o.class name m (class_named classes o.class) refl f

checked_count : (m : Method) (b : Bool) (n : Method) → (must b kind >> Ok n) ≡ Ok m → n ≡ m
checked_count m true n e = cc e
checked_count m false n e = absurd (cc e)

checked_method : (m : Method) (count : ℕ) (found : Option Method) → (known kind found >>= λ n. must (nat_eq (length n.signature.params) count) kind >> Ok n) ≡ Ok m → found ≡ Some m
checked_method m count None e = absurd (cc e)
checked_method m count (Some n) e = ap Some (checked_count m (nat_eq (length n.signature.params) count) n e)

-- a method that is called was found in the classes, and is no heavier than they are
pub method_called_of : (classes : List Class) (heap : List Object) (v : Value-F Value) (name : List ℕ) (count : ℕ) (m : Method) → called_method classes heap v name count ≡ Ok m
    → (object : ℕ) × (method_of classes heap object name ≡ Some m)
method_called_of classes heap (Value-F.Ref object) name count m e = (object, checked_method m count (method_of classes heap object name) e)
method_called_of classes heap Value-F.Unit name count m e = absurd (cc e)
method_called_of classes heap (Value-F.Int n) name count m e = absurd (cc e)
method_called_of classes heap (Value-F.Bool b) name count m e = absurd (cc e)
method_called_of classes heap (Value-F.Text t) name count m e = absurd (cc e)
method_called_of classes heap (Value-F.List l) name count m e = absurd (cc e)
method_called_of classes heap (Value-F.Remote o) name count m e = absurd (cc e)
method_called_of classes heap (Value-F.Rows l) name count m e = absurd (cc e)

pub found_light : (classes : List Class) (heap : List Object) (object : ℕ) (name : List ℕ) (m : Method) → method_of classes heap object name ≡ Some m → body_weight m.body ≤ heaviest classes
found_light classes heap object name m e = in_object classes name m (slice_get heap object) e

-- a body is lighter than one level of calls
pub room_falls : (classes : List Class) (d weight : ℕ) → d < 32 → weight ≤ heaviest classes → room classes (d + 1) + weight < room classes d + 1
room_falls classes d weight low light =
    let e : 33 - d ≡ (33 - (d + 1)) + 1 = omega arith in
    let e2 = ap (λ n. n * (1 + heaviest classes)) e in omega arith

-- the weight of what an assignment writes
pub object_light : (e a : Expr) (name : List ℕ) → FieldPlace a name ≡ target_form e → expr_weight a < expr_weight e
object_light (code.Field place x n) a name is = let same : x ≡ a = cc is in let h = ap expr_weight same in omega arith
object_light (code.Name place n) a name is = absurd (cc is)
object_light (code.Lit p v) a name is = absurd (cc is)
object_light (code.This p) a name is = absurd (cc is)
object_light (code.Unary p op x) a name is = absurd (cc is)
object_light (code.Binary p op x c) a name is = absurd (cc is)
object_light (code.Call p x n es) a name is = absurd (cc is)
object_light (code.Index p x c) a name is = absurd (cc is)
object_light (code.New p n es) a name is = absurd (cc is)
object_light (code.Items p t es) a name is = absurd (cc is)
object_light (code.Taken p step) a name is = absurd (cc is)
