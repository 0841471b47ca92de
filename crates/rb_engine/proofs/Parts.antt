-- What the parts of code mean, as the engine does them.
use Rattle.std.proofs.Common.{◌≡◌, refl, ap, ◌∙◌, ℕ, zero, suc, ◌<◌, arith, List}
use Rattle.std.specs.Prelude.{Bool, true, false, nat_lt, Option, Some, None, Result, Ok, Err}
use borrow.Author.Tests.{ltb-true}
use Rattle.rb_trees.specs.Outcome.{Gives, known, must}
use Rattle.rb_trees.specs.declared.values.Value.{Value, out-Value}
use Rattle.rb_trees.specs.declared.values.Value.TheOpen.{Value-F}
use Rattle.rb_trees.specs.declared.code.Expr as expr
use Rattle.rb_trees.specs.declared.code.Stmt as stmt
use Rattle.rb_trees.specs.declared.declarations.Class as class
use Rattle.rb_trees.specs.mirror.Code as code
use Rattle.rb_trees.specs.mirror.Code.{Expr, Stmt, expr_at, mirror_expr, mirror_stmt}
use Rattle.rb_meaning_code.specs.Faults.{kind, too_deep, raised, raises}
use Rattle.rb_meaning_code.specs.State.{Local}
use Rattle.rb_meaning_code.specs.Dialogue.{Line, Invoke, Faulted, Done, Ask, Surroundings, next, end, told}
use Rattle.rb_meaning_code.specs.Calls.{Bodies, call, called, unit_due, call_fits}
use Rattle.rb_meaning_code.specs.Expressions.{evaluates}
use Rattle.rb_meaning_code.specs.Statements.{Effect, truth_of, performs, assignment, assigns, writes, turns, turns_over, prints}
use Rattle.rb_engine.specs.Code.{bodies, value_run, truth_run, stmt_run, begin_run}
use Rattle.rb_engine.specs.Ends.{fault_of, Lifts}
use Rattle.rb_engine.specs.Shown.{remote_form}
use Rattle.rb_engine.specs.Targets.{NamePlace, FieldPlace, NoPlace, target_form, turns_form}
use Rattle.rb_engine.specs.declared.ends.Failure.{Failure}
use Rattle.rb_engine.specs.declared.ends.Failure.TheVariants as failure
use Rattle.rb_engine.specs.declared.ends.End.{End}
use Rattle.rb_engine.specs.Meets.{Scene, Meets}
use Rattle.rb_engine.proofs.Forms.{place_at}
use Rattle.rb_engine.proofs.Runs.{at_run}

-- an expression or statement whose mirror is known
pub expr_run : {W X : Type 0} {R : Surroundings W X} {s s1 : Scene W} {r : Result Value (End X)} (classes : List class.Class) (e : expr.Expr) {m : Expr}
    → mirror_expr e ≡ m → Meets R (λ gas. evaluates (bodies classes gas) m s.local) s r s1 → Meets R (λ gas. value_run classes e gas s.local) s r s1
expr_run {s = s} classes e is m = at_run (λ gas. ap (λ x. evaluates (bodies classes gas) x s.local) is) m

pub truth_by_form : {W X : Type 0} {R : Surroundings W X} {s s1 : Scene W} {r : Result Bool (End X)} (classes : List class.Class) (at : ℕ) (e : expr.Expr) {m : Expr}
    → mirror_expr e ≡ m → Meets R (λ gas. next (evaluates (bodies classes gas) m s.local) (λ v l. end l (raises at (truth_of (out-Value v))))) s r s1
    → Meets R (λ gas. truth_run classes at e gas s.local) s r s1
truth_by_form {s = s} classes at e is m = at_run (λ gas. ap (λ x. next (evaluates (bodies classes gas) x s.local) (λ v l. end l (raises at (truth_of (out-Value v))))) is) m

pub statement_run : {W X : Type 0} {R : Surroundings W X} {s s1 : Scene W} {r : Result (Unit {0}) (End X)} (classes : List class.Class) (t : stmt.Stmt) {m : Stmt}
    → mirror_stmt t ≡ m → Meets R (λ gas. performs (bodies classes gas) gas m s.local) s r s1 → Meets R (λ gas. stmt_run classes t gas s.local) s r s1
statement_run {s = s} classes t is m = at_run (λ gas. ap (λ x. performs (bodies classes gas) gas x s.local) is) m

-- a call on a remote value, and on another
pub remote_called : (b : Bodies) (at : ℕ) (v : Value) (f : Value-F Value) (name : List ℕ) (args : List Value) (l : Local) → remote_form f ≡ true → called b at v f name args l ≡ Ask (Invoke at v name args) (end l)
remote_called b at v (Value-F.Remote o) name args l e = refl
remote_called b at v Value-F.Unit name args l e = absurd (cc e)
remote_called b at v (Value-F.Int n) name args l e = absurd (cc e)
remote_called b at v (Value-F.Bool n) name args l e = absurd (cc e)
remote_called b at v (Value-F.Text n) name args l e = absurd (cc e)
remote_called b at v (Value-F.List n) name args l e = absurd (cc e)
remote_called b at v (Value-F.Ref n) name args l e = absurd (cc e)
remote_called b at v (Value-F.Rows n) name args l e = absurd (cc e)

pub own_called : (b : Bodies) (at : ℕ) (v : Value) (f : Value-F Value) (name : List ℕ) (args : List Value) (l : Local) → remote_form f ≡ false → called b at v f name args l ≡ call b at v name args l
own_called b at v (Value-F.Remote o) name args l e = absurd (cc e)
own_called b at v Value-F.Unit name args l e = refl
own_called b at v (Value-F.Int n) name args l e = refl
own_called b at v (Value-F.Bool n) name args l e = refl
own_called b at v (Value-F.Text n) name args l e = refl
own_called b at v (Value-F.List n) name args l e = refl
own_called b at v (Value-F.Ref n) name args l e = refl
own_called b at v (Value-F.Rows n) name args l e = refl

-- a line is printed where there is one
pub prints_shown : (at : ℕ) (o : Option (List ℕ)) (l : Local) → prints at o l ≡ next (end l (raises at (known kind o))) (λ bytes l1. Ask (Line at bytes) (told l1))
prints_shown at None l = refl
prints_shown at (Some bytes) l = refl

-- a loop goes over a list or rows
pub turns_by_form : (gas at : ℕ) (name : List ℕ) (f : Value-F Value) (body : Effect) (l : Local)
    → turns at name f body l ≡ next (end l (raises at (turns_form f))) (λ p l1. turns_over (begin_run p.0 at gas) name p.1 body l1)
turns_by_form gas at name (Value-F.List items) body l = refl
turns_by_form gas at name (Value-F.Rows rows) body l = refl
turns_by_form gas at name Value-F.Unit body l = refl
turns_by_form gas at name (Value-F.Int n) body l = refl
turns_by_form gas at name (Value-F.Bool n) body l = refl
turns_by_form gas at name (Value-F.Text n) body l = refl
turns_by_form gas at name (Value-F.Ref n) body l = refl
turns_by_form gas at name (Value-F.Remote n) body l = refl

-- assignments, by what they write
pub name_assigned : (b : Bodies) (at : ℕ) (e r : Expr) (name : List ℕ) (l : Local) → NamePlace name ≡ target_form e → assignment b at e r l ≡ next (evaluates b r l) (λ v l1. assigns (expr_at e) name v l1)
name_assigned b at (code.Name place n) r name l is = let same : n ≡ name = cc is in ap (λ m. next (evaluates b r l) (λ v l1. assigns place m v l1)) same
name_assigned b at (code.Field place a n) r name l is = absurd (cc is)
name_assigned b at (code.Lit p v) r name l is = absurd (cc is)
name_assigned b at (code.This p) r name l is = absurd (cc is)
name_assigned b at (code.Unary p op a) r name l is = absurd (cc is)
name_assigned b at (code.Binary p op a c) r name l is = absurd (cc is)
name_assigned b at (code.Call p a n es) r name l is = absurd (cc is)
name_assigned b at (code.Index p a c) r name l is = absurd (cc is)
name_assigned b at (code.New p n es) r name l is = absurd (cc is)
name_assigned b at (code.Items p t es) r name l is = absurd (cc is)
name_assigned b at (code.Taken p step) r name l is = absurd (cc is)

pub field_assigned : (b : Bodies) (at : ℕ) (e r a : Expr) (name : List ℕ) (l : Local) → FieldPlace a name ≡ target_form e
    → assignment b at e r l ≡ next (evaluates b a l) (λ object l1. next (evaluates b r l1) (λ v l2. writes (expr_at e) object name v l2))
field_assigned b at (code.Field place x n) r a name l is =
    let same : n ≡ name = cc is in
    let same_too : x ≡ a = cc is in
    ap (λ m. next (evaluates b x l) (λ object l1. next (evaluates b r l1) (λ v l2. writes place object m v l2))) same
    ∙ ap (λ y. next (evaluates b y l) (λ object l1. next (evaluates b r l1) (λ v l2. writes place object name v l2))) same_too
field_assigned b at (code.Name place n) r a name l is = absurd (cc is)
field_assigned b at (code.Lit p v) r a name l is = absurd (cc is)
field_assigned b at (code.This p) r a name l is = absurd (cc is)
field_assigned b at (code.Unary p op x) r a name l is = absurd (cc is)
field_assigned b at (code.Binary p op x c) r a name l is = absurd (cc is)
field_assigned b at (code.Call p x n es) r a name l is = absurd (cc is)
field_assigned b at (code.Index p x c) r a name l is = absurd (cc is)
field_assigned b at (code.New p n es) r a name l is = absurd (cc is)
field_assigned b at (code.Items p t es) r a name l is = absurd (cc is)
field_assigned b at (code.Taken p step) r a name l is = absurd (cc is)

pub nothing_assigned : (b : Bodies) (at : ℕ) (e r : Expr) (l : Local) → NoPlace ≡ target_form e → assignment b at e r l ≡ Done (Faulted (raised kind at) l)
nothing_assigned b at (code.Name place n) r l is = absurd (cc is)
nothing_assigned b at (code.Field place x n) r l is = absurd (cc is)
nothing_assigned b at (code.Lit p v) r l is = refl
nothing_assigned b at (code.This p) r l is = refl
nothing_assigned b at (code.Unary p op x) r l is = refl
nothing_assigned b at (code.Binary p op x c) r l is = refl
nothing_assigned b at (code.Call p x n es) r l is = refl
nothing_assigned b at (code.Index p x c) r l is = refl
nothing_assigned b at (code.New p n es) r l is = refl
nothing_assigned b at (code.Items p t es) r l is = refl
nothing_assigned b at (code.Taken p step) r l is = refl

-- the same at trees, whose positions are those of their mirrors
pub name_written : (b : Bodies) (at : ℕ) (e : expr.Expr) (r : Expr) (name : List ℕ) (l : Local) → NamePlace name ≡ target_form (mirror_expr e) → assignment b at (mirror_expr e) r l ≡ next (evaluates b r l) (λ v l1. assigns e.at name v l1)
name_written b at e r name l is = name_assigned b at (mirror_expr e) r name l is ∙ ap (λ n. next (evaluates b r l) (λ v l1. assigns n name v l1)) (place_at e)

pub field_written : (b : Bodies) (at : ℕ) (e : expr.Expr) (r a : Expr) (name : List ℕ) (l : Local) → FieldPlace a name ≡ target_form (mirror_expr e)
    → assignment b at (mirror_expr e) r l ≡ next (evaluates b a l) (λ object l1. next (evaluates b r l1) (λ v l2. writes e.at object name v l2))
field_written b at e r a name l is =
    field_assigned b at (mirror_expr e) r a name l is ∙ ap (λ n. next (evaluates b a l) (λ object l1. next (evaluates b r l1) (λ v l2. writes n object name v l2))) (place_at e)

-- fuel and depth that a rule found to be left
pub fuel_left : {X : Type 0} {t : Result (Unit {0}) (End X)} {u : Unit {0}} (at fuel : ℕ) (r : Result (Unit {0}) Failure) → Gives (λ v. v) fault_of r (unit_due fuel) → Lifts at r t → t ≡ Ok u → 0 < fuel
fuel_left at zero (Ok v) g is was = absurd (cc g)
fuel_left at (suc n) (Ok v) g is was = omega arith
fuel_left {t = Ok v} at fuel (Err (failure.Fault f)) g is was = absurd is
fuel_left {t = Err e} at fuel (Err (failure.Fault f)) g is was = absurd (cc was)
fuel_left at fuel (Err failure.Memory) g is was = absurd (cc (is, was))

fits_below : (depth : ℕ) (b : Bool) (u : Unit {0}) → nat_lt depth 32 ≡ b → must b too_deep ≡ Ok u → depth < 32
fits_below depth true u e g = omega (arith, ltb-true depth 32 e)
fits_below depth false u e g = absurd (cc g)

pub depth_left : {X : Type 0} {t : Result (Unit {0}) (End X)} {u : Unit {0}} (at depth : ℕ) (r : Result (Unit {0}) Failure) → Gives (λ v. v) fault_of r (call_fits depth) → Lifts at r t → t ≡ Ok u → depth < 32
depth_left at depth (Ok v) g is was = fits_below depth (nat_lt depth 32) v refl g
depth_left {t = Ok v} at depth (Err (failure.Fault f)) g is was = absurd is
depth_left {t = Err e} at depth (Err (failure.Fault f)) g is was = absurd (cc was)
depth_left at depth (Err failure.Memory) g is was = absurd (cc (is, was))
