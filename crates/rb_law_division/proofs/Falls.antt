-- Where the faults of code stand: at positions of its own, unless an answer brings them.
use Rattle.std.proofs.Common.{◌≡◌, refl, subst, ℕ, zero, suc, List, [], ◌∷◌, length, Bool, true, false, cond, Option, Some, None, option_and_then, Result, Ok, Err, nat_eq, slice_get}
use Rattle.std.specs.List.{AllByRecursion}
use Rattle.std.specs.Str.{bytes_eq}
use Rattle.rb_trees.specs.Named.{first_named}
use Rattle.rb_trees.specs.Classes.{method_of_class}
use Rattle.rb_trees.specs.Outcome.{known, must, ◌>>=◌, ◌>>◌}
use Rattle.rb_trees.specs.declared.values.Value.{Value, out-Value}
use Rattle.rb_trees.specs.declared.values.Value.TheOpen.{Value-F}
use Rattle.rb_trees.specs.declared.values.Value.TheVariants as value
use Rattle.rb_trees.specs.declared.values.Fault.{Fault}
use Rattle.rb_trees.specs.declared.outcomes.Raised.{Raised}
use Rattle.rb_trees.specs.declared.services.Object.{Object}
use Rattle.rb_trees.specs.mirror.Code.{Expr, Exprs, Lit, Name, This, Unary, Binary, Field, Call, Index, New, Items, Taken, NoExprs, MoreExprs, Stmt, Stmts, Val, Var, Assign, Run as Alone, Print, Throw, If, While, For, Try, Batch, NoStmts, MoreStmts}
use Rattle.rb_trees.specs.mirror.Declarations.{Body, Method, Class}
use Rattle.rb_meaning_code.specs.Faults.{fuel_used, kind, raised, raises, caught_text, is_caught}
use Rattle.rb_meaning_code.specs.Operators.{on_one, on_two, by_left, shown_value}
use Rattle.rb_meaning_code.specs.State.{Local, bound, spent, this_name}
use Rattle.rb_meaning_code.specs.Dialogue as ask
use Rattle.rb_meaning_code.specs.Dialogue.{Question, Outcome, Gave, Faulted, Dialogue, Done, Ask, AskBatch, Run, Handler, handle, seq, on, next, gives, end, told}
use Rattle.rb_meaning_code.specs.Objects.{constructed, field_of, with_field_of}
use Rattle.rb_meaning_code.specs.Calls.{Bodies, method_of, called_method, unit_due, call_fits, names_within, entered, left, call, called}
use Rattle.rb_meaning_code.specs.Expressions.{value_of, indexed, list_of, decided_or, evaluates, evaluates_all}
use Rattle.rb_meaning_code.specs.Statements.{Effect, nothing, closes, block, truth_of, either, by_truth, after_unit, while_turns, turns_over, list_turn, row_turn, turns, prints, throws, handles, assigned, assigns, writes, assignment, performs, performs_all}
use Rattle.rb_meaning_code.specs.Bodies.{returns, runs, body_within, bodies_of}
use Rattle.rb_law_division.specs.Faults.{EachFault}

first_so : {A : Type 0} (P : A → Type 0) (name_of : A → List ℕ) (xs : List A) (n : List ℕ) (y : A) → AllByRecursion P xs → first_named name_of xs n ≡ Some y → P y
first_so P name_of [] n y h e = absurd (cc e)
first_so P name_of (x ∷ xs) n y h e = by (bytes_eq (name_of x) n) e (first_so P name_of xs n y h.1)
  where
    by : (t : Bool) → cond t (Some x) (first_named name_of xs n) ≡ Some y → (first_named name_of xs n ≡ Some y → P y) → P y
    by true k more = subst P (cc k) h.0
    by false k more = more k

-- of faults of which this is asked
module _ (P : Raised → Type 0) where
  -- each fault of the own side at a position is so
  abbrev pub IsFine : ℕ → Type 0
  IsFine at = (fault : Fault) → P (raised fault at)

  -- ---- code that raises at such positions alone

  abbrev mutual
    pub FineExpr : Expr → Type 0
    FineExpr (Lit at value) = Unit {0}
    FineExpr (Name at name) = IsFine at
    FineExpr (This at) = IsFine at
    FineExpr (Unary at op a) = IsFine at × FineExpr a
    FineExpr (Binary at op a b) = IsFine at × FineExpr a × FineExpr b
    FineExpr (Field at a name) = IsFine at × FineExpr a
    FineExpr (Call at a method args) = IsFine at × FineExpr a × FineExprs args
    FineExpr (Index at a b) = IsFine at × FineExpr a × FineExpr b
    FineExpr (New at class args) = IsFine at × FineExprs args
    FineExpr (Items at item items) = IsFine at × FineExprs items
    FineExpr (Taken at step) = Unit {0}

    pub FineExprs : Exprs → Type 0
    FineExprs NoExprs = Unit {0}
    FineExprs (MoreExprs e es) = FineExpr e × FineExprs es

  abbrev mutual
    pub FineStmt : Stmt → Type 0
    FineStmt (Val at name e) = IsFine at × FineExpr e
    FineStmt (Var at name e) = IsFine at × FineExpr e
    FineStmt (Assign at a b) = IsFine at × FineExpr a × FineExpr b
    FineStmt (Alone at e) = IsFine at × FineExpr e
    FineStmt (Print at e) = IsFine at × FineExpr e
    FineStmt (Throw at e) = IsFine at × FineExpr e
    FineStmt (If at c a b) = IsFine at × FineExpr c × FineStmts a × FineStmts b
    FineStmt (While at c a) = IsFine at × FineExpr c × FineStmts a
    FineStmt (For at name e a) = IsFine at × FineExpr e × FineStmts a
    FineStmt (Try at a name b) = IsFine at × FineStmts a × FineStmts b
    FineStmt (Batch at interface root a) = IsFine at

    pub FineStmts : Stmts → Type 0
    FineStmts NoStmts = Unit {0}
    FineStmts (MoreStmts s ss) = FineStmt s × FineStmts ss

  abbrev pub FineReturn : Option Expr → Type 0
  FineReturn None = Unit {0}
  FineReturn (Some e) = FineExpr e

  abbrev pub FineBody : Body → Type 0
  FineBody body = FineStmts body.statements × FineReturn body.result

  abbrev pub FineClass : Class → Type 0
  FineClass c = AllByRecursion (λ m. FineBody m.body) c.methods

  abbrev pub FineClasses : List Class → Type 0
  FineClasses classes = AllByRecursion FineClass classes

  -- ---- runs whose faults are so, if those of the answers are

  abbrev pub FineQuestion : Question → Type 0
  FineQuestion (ask.Line at bytes) = IsFine at
  FineQuestion (ask.Taken step) = Unit {0}
  FineQuestion (ask.Invoke at target method args) = IsFine at
  FineQuestion (ask.Turn at) = IsFine at
  FineQuestion (ask.ListTurn at) = IsFine at

  abbrev pub FineAnswer : Result Value Raised → Type 0
  FineAnswer (Ok v) = Unit {0}
  FineAnswer (Err r) = P r

  abbrev pub Falls : {A : Type 0} → (A → Type 0) → Dialogue A → Type 0
  Falls Q (Done a) = Q a
  Falls Q (Ask q go) = FineQuestion q × ((a : Result Value Raised) → FineAnswer a → Falls Q (go a))
  Falls Q (AskBatch at l go) = IsFine at × ((o : Outcome (Unit {0})) → EachFault P o → Falls Q (go o))

  -- what is given is as R says, and a fault as P
  abbrev Ends : {A : Type 0} → (A → Type 0) → Outcome A → Type 0
  Ends R (Gave a l) = R a
  Ends R (Faulted r l) = P r

  abbrev Any : {A : Type 0} → A → Type 0
  Any a = Unit {0}

  abbrev pub Fine : {A : Type 0} → Run A → Type 0
  Fine run = Falls (Ends Any) run

  falls_seq : {A B : Type 0} (Q : A → Type 0) (R : B → Type 0) (run : Dialogue A) (k : A → Dialogue B) → Falls Q run → ((a : A) → Q a → Falls R (k a)) → Falls R (seq run k)
  falls_seq Q R (Done a) k h more = more a h
  falls_seq Q R (Ask q go) k h more = (h.0, λ a ok. falls_seq Q R (go a) k (h.1 a ok) more)
  falls_seq Q R (AskBatch at l go) k h more = (h.0, λ o ok. falls_seq Q R (go o) k (h.1 o ok) more)

  falls_next : {A B : Type 0} (Q : A → Type 0) (R : B → Type 0) (run : Run A) (k : A → Local → Run B) → Falls (Ends Q) run → ((a : A) (l : Local) → Q a → Falls (Ends R) (k a l)) → Falls (Ends R) (next run k)
  falls_next {A = A} Q R run k h more = falls_seq (Ends Q) (Ends R) run (on k) h by
    where
      by : (o : Outcome A) → Ends Q o → Falls (Ends R) (on k o)
      by (Gave a l) e = more a l e
      by (Faulted r l) e = e

  fine_next : {A B : Type 0} (run : Run A) (k : A → Local → Run B) → Fine run → ((a : A) (l : Local) → Fine (k a l)) → Fine (next run k)
  fine_next run k h more = falls_next Any Any run k h (λ a l u. more a l)

  fine_end : {A : Type 0} (at : ℕ) (r : Result A Fault) (l : Local) → IsFine at → Fine (end l (raises at r))
  fine_end at (Ok a) l h = tt
  fine_end at (Err fault) l h = h fault

  fine_answer : (l : Local) (a : Result Value Raised) → FineAnswer a → Fine (end l a)
  fine_answer l (Ok v) h = tt
  fine_answer l (Err r) h = h

  fine_told : (l : Local) (a : Result Value Raised) → FineAnswer a → Fine (told l a)
  fine_told l (Ok v) h = tt
  fine_told l (Err r) h = h

  fine_decided : (o : Option Value) (go : Local → Run Value) (l : Local) → Fine (go l) → Fine (decided_or o go l)
  fine_decided (Some v) go l h = tt
  fine_decided None go l h = h

  -- ---- the code of bodies whose methods are fine

  -- the methods that are found are fine
  abbrev FineFound : Result Method Fault → Type 0
  FineFound (Ok m) = FineBody m.body
  FineFound (Err fault) = Unit {0}

  abbrev FineOption : Option Method → Type 0
  FineOption (Some m) = FineBody m.body
  FineOption None = Unit {0}

  class_method : (classes : List Class) (class name : List ℕ) → FineClasses classes → FineOption (method_of_class classes class name)
  class_method classes class name h = by (first_named (λ c. c.name) classes class) refl
    where
      inner : (c : Class) → FineClass c → (o : Option Method) → first_named (λ m. m.signature.name) c.methods name ≡ o → FineOption o
      inner c fine (Some m) e = first_so (λ m. FineBody m.body) (λ m. m.signature.name) c.methods name m fine e
      inner c fine None e = tt

      by : (o : Option Class) → first_named (λ c. c.name) classes class ≡ o → FineOption (option_and_then (λ c. first_named (λ m. m.signature.name) c.methods name) o)
      by (Some c) e = inner c (first_so FineClass (λ c. c.name) classes class c h e) (first_named (λ m. m.signature.name) c.methods name) refl
      by None e = tt

  heap_method : (classes : List Class) (heap : List Object) (object : ℕ) (name : List ℕ) → FineClasses classes → FineOption (method_of classes heap object name)
  heap_method classes heap object name h = by (slice_get heap object)
    where
      by : (o : Option Object) → FineOption (option_and_then (λ o. method_of_class classes o.class name) o)
      by (Some o) = class_method classes o.class name h
      by None = tt

  own_found : (o : Option Method) (count : ℕ) → FineOption o → FineFound (known kind o >>= λ m. must (nat_eq (length m.signature.params) count) kind >> Ok m)
  own_found None count h = tt
  own_found (Some m) count h = by (nat_eq (length m.signature.params) count)
    where
      by : (t : Bool) → FineFound (must t kind >> Ok m)
      by true = h
      by false = tt

  found_fine : (classes : List Class) (heap : List Object) (w : Value-F Value) (name : List ℕ) (count : ℕ) → FineClasses classes → FineFound (called_method classes heap w name count)
  found_fine classes heap (Value-F.Ref object) name count h = own_found (method_of classes heap object name) count (heap_method classes heap object name h)
  found_fine classes heap Value-F.Unit name count h = tt
  found_fine classes heap _ name count h = tt

  end_found : (at : ℕ) (r : Result Method Fault) (l : Local) → IsFine at → FineFound r → Falls (Ends (λ m. FineBody m.body)) (end l (raises at r))
  end_found at (Ok m) l h f = f
  end_found at (Err fault) l h f = h fault

  fine_left : {A : Type 0} (l : Local) (o : Outcome A) → Ends Any o → Fine (left l o)
  fine_left l (Gave a l1) h = tt
  fine_left l (Faulted r l1) h = h

  module _ (bodies : Bodies) (classes : FineClasses bodies.classes) (run : (at : ℕ) (body : Body) → IsFine at → FineBody body → (l : Local) → Fine (bodies.run at body l)) where
    call_fine : (at : ℕ) (receiver : Value) (name : List ℕ) (args : List Value) (l : Local) → IsFine at → Fine (call bodies at receiver name args l)
    call_fine at receiver name args l h =
        falls_next (λ m. FineBody m.body) Any (end l (raises at (called_method bodies.classes l.heap (out-Value receiver) name (length args)))) _
        (end_found at (called_method bodies.classes l.heap (out-Value receiver) name (length args)) l h (found_fine bodies.classes l.heap (out-Value receiver) name (length args) classes)) (λ m l1 f.
        fine_next (end l1 (raises at (unit_due l1.fuel))) _ (fine_end at (unit_due l1.fuel) l1 h) (λ u l2.
        fine_next (end (spent l2) (raises at (call_fits l2.depth))) _ (fine_end at (call_fits l2.depth) (spent l2) h) (λ w l3.
        falls_seq (Ends Any) (Ends Any) (bodies.run at m.body (entered (names_within receiver m.signature.params args) l3)) (left l3) (run at m.body h f (entered (names_within receiver m.signature.params args) l3)) (fine_left l3))))

    called_fine : (at : ℕ) (receiver : Value) (w : Value-F Value) (name : List ℕ) (args : List Value) (l : Local) → IsFine at → Fine (called bodies at receiver w name args l)
    called_fine at receiver (Value-F.Remote object) name args l h = (h, fine_answer l)
    called_fine at receiver Value-F.Unit name args l h = call_fine at receiver name args l h
    called_fine at receiver _ name args l h = call_fine at receiver name args l h

    mutual
      value_fine : (e : Expr) (l : Local) → FineExpr e → Fine (evaluates bodies e l)
      value_fine (Lit at v) l h = tt
      value_fine (Name at name) l h = fine_end at (value_of l.names name) l h
      value_fine (This at) l h = fine_end at (value_of l.names this_name) l h
      value_fine (Unary at op a) l h = fine_next (evaluates bodies a l) _ (value_fine a l h.1) (λ v l1. fine_end at (on_one op (out-Value v)) l1 h.0)
      value_fine (Binary at op a b) l h =
          fine_next (evaluates bodies a l) _ (value_fine a l h.1) (λ v l1.
          fine_next (end l1 (raises at (by_left op (out-Value v)))) _ (fine_end at (by_left op (out-Value v)) l1 h.0) (λ decided l2.
          fine_decided decided _ l2 (fine_next (evaluates bodies b l2) _ (value_fine b l2 h.2) (λ w l4. fine_end at (on_two op (out-Value v) (out-Value w)) l4 h.0))))
      value_fine (Field at a name) l h = fine_next (evaluates bodies a l) _ (value_fine a l h.1) (λ v l1. fine_end at (field_of l1.heap (out-Value v) name) l1 h.0)
      value_fine (Call at a method args) l h =
          fine_next (evaluates bodies a l) _ (value_fine a l h.1) (λ v l1. fine_next (evaluates_all bodies args l1) _ (values_fine args l1 h.2) (λ vs l2. called_fine at v (out-Value v) method vs l2 h.0))
      value_fine (Index at a b) l h =
          fine_next (evaluates bodies a l) _ (value_fine a l h.1) (λ v l1. fine_next (evaluates bodies b l1) _ (value_fine b l1 h.2) (λ w l2. fine_end at (indexed (out-Value v) (out-Value w)) l2 h.0))
      value_fine (New at class args) l h =
          fine_next (evaluates_all bodies args l) _ (values_fine args l h.1) (λ vs l1. fine_next (end l1 (raises at (constructed bodies.classes l1.heap class vs))) _ (fine_end at (constructed bodies.classes l1.heap class vs) l1 h.0) (λ made l2. tt))
      value_fine (Items at item items) l h = fine_next (evaluates_all bodies items l) _ (values_fine items l h.1) (λ vs l1. fine_end at (list_of vs) l1 h.0)
      value_fine (Taken at step) l h = (tt, fine_answer l)

      values_fine : (es : Exprs) (l : Local) → FineExprs es → Fine (evaluates_all bodies es l)
      values_fine NoExprs l h = tt
      values_fine (MoreExprs e es) l h = fine_next (evaluates bodies e l) _ (value_fine e l h.0) (λ v l1. fine_next (evaluates_all bodies es l1) _ (values_fine es l1 h.1) (λ vs l2. tt))

    -- ---- statements

    abbrev FineEffect : Effect → Type 0
    FineEffect f = (l : Local) → Fine (f l)

    fine_closes : (count : ℕ) (o : Outcome (Unit {0})) → Ends Any o → Fine (closes count o)
    fine_closes count (Gave u l) h = tt
    fine_closes count (Faulted r l) h = h

    fine_block : (f : Effect) → FineEffect f → FineEffect (block f)
    fine_block f h l = falls_seq (Ends Any) (Ends Any) (f l) (closes (length l.names)) (h l) (fine_closes (length l.names))

    fine_either : (t : Bool) (a b : Effect) (l : Local) → Fine (a l) → Fine (b l) → Fine (either t a b l)
    fine_either true a b l h g = h
    fine_either false a b l h g = g

    fine_truth : (at : ℕ) (v : Value) (a b : Effect) (l : Local) → IsFine at → FineEffect a → FineEffect b → Fine (by_truth at v a b l)
    fine_truth at v a b l h f g = fine_next (end l (raises at (truth_of (out-Value v)))) _ (fine_end at (truth_of (out-Value v)) l h) (λ t l1. fine_either t a b l1 (f l1) (g l1))

    fine_unit : (at : ℕ) (go : Effect) (l : Local) → IsFine at → FineEffect go → Fine (after_unit at go l)
    fine_unit at go l h g = fine_next (end l (raises at (unit_due l.fuel))) _ (fine_end at (unit_due l.fuel) l h) (λ u l1. g (spent l1))

    fine_while : (gas at : ℕ) (condition : Local → Run Value) (body : Effect) → IsFine at → ((l : Local) → Fine (condition l)) → FineEffect body → FineEffect (while_turns gas at condition body)
    fine_while zero at condition body h c b l = h fuel_used
    fine_while (suc gas) at condition body h c b l =
        fine_next (condition l) _ (c l) (λ v l1. fine_truth at v (after_unit at (λ l2. next (body l2) (λ u l3. while_turns gas at condition body l3))) nothing l1 h
        (λ l2. fine_unit at (λ l3. next (body l3) (λ u l4. while_turns gas at condition body l4)) l2 h (λ l3. fine_next (body l3) _ (b l3) (λ u l4. fine_while gas at condition body h c b l4))) (λ l2. tt))

    fine_turns_over : (begins : Effect) (name : List ℕ) (vs : List Value) (f : Effect) → FineEffect begins → FineEffect f → FineEffect (turns_over begins name vs f)
    fine_turns_over begins name [] f b h l = tt
    fine_turns_over begins name (v ∷ vs) f b h l =
        fine_next (begins l) _ (b l) (λ u l1. fine_next (block (λ l2. f (bound name v l2)) l1) _ (fine_block (λ l2. f (bound name v l2)) (λ l2. h (bound name v l2)) l1) (λ w l3. fine_turns_over begins name vs f b h l3))

    fine_list_turn : (at : ℕ) → IsFine at → FineEffect (list_turn at)
    fine_list_turn at h l = fine_unit at (λ l1. Ask (ask.ListTurn at) (told l1)) l h (λ l1. (h, fine_told l1))

    fine_row_turn : (at : ℕ) → IsFine at → FineEffect (row_turn at)
    fine_row_turn at h l = (h, fine_told l)

    fine_turns : (at : ℕ) (name : List ℕ) (w : Value-F Value) (f : Effect) → IsFine at → FineEffect f → FineEffect (turns at name w f)
    fine_turns at name (Value-F.List items) f h g l = fine_turns_over (list_turn at) name items f (fine_list_turn at h) g l
    fine_turns at name (Value-F.Rows rows) f h g l = fine_turns_over (row_turn at) name rows f (fine_row_turn at h) g l
    fine_turns at name Value-F.Unit f h g l = h kind
    fine_turns at name _ f h g l = h kind

    fine_prints : (at : ℕ) (o : Option (List ℕ)) → IsFine at → FineEffect (prints at o)
    fine_prints at (Some bytes) h l = (h, fine_told l)
    fine_prints at None h l = h kind

    fine_handles : (name : List ℕ) (handler : Effect) (o : Outcome (Unit {0})) → FineEffect handler → Ends Any o → Fine (handles name handler o)
    fine_handles name handler (Gave u l) h e = tt
    fine_handles name handler (Faulted r l) h e = by (is_caught r)
      where
        by : (t : Bool) → Fine (cond t (block (λ l1. handler (bound name (value.Text (caught_text r.fault)) l1)) l) (Done (Faulted r l)))
        by true = fine_block (λ l1. handler (bound name (value.Text (caught_text r.fault)) l1)) (λ l1. h (bound name (value.Text (caught_text r.fault)) l1)) l
        by false = e

    fine_assigns : (at : ℕ) (name : List ℕ) (v : Value) → IsFine at → FineEffect (assigns at name v)
    fine_assigns at name v h l = fine_next (end l (raises at (assigned l.names name v))) _ (fine_end at (assigned l.names name v) l h) (λ names l1. tt)

    fine_writes : (at : ℕ) (object : Value) (name : List ℕ) (v : Value) → IsFine at → FineEffect (writes at object name v)
    fine_writes at object name v h l = fine_next (end l (raises at (with_field_of l.heap (out-Value object) name v))) _ (fine_end at (with_field_of l.heap (out-Value object) name v) l h) (λ heap l1. tt)

    fine_assignment : (at : ℕ) (a b : Expr) → IsFine at → FineExpr a → FineExpr b → FineEffect (assignment bodies at a b)
    fine_assignment at (Name place name) b h f g l = fine_next (evaluates bodies b l) _ (value_fine b l g) (λ v l1. fine_assigns place name v f l1)
    fine_assignment at (Field place a name) b h f g l =
        fine_next (evaluates bodies a l) _ (value_fine a l f.1) (λ object l1. fine_next (evaluates bodies b l1) _ (value_fine b l1 g) (λ v l2. fine_writes place object name v f.0 l2))
    fine_assignment at (Lit place v) b h f g l = h kind
    fine_assignment at _ b h f g l = h kind

    mutual
      pub stmt_fine : (gas : ℕ) (s : Stmt) → FineStmt s → FineEffect (performs bodies gas s)
      stmt_fine gas (Val at name e) h l = fine_next (evaluates bodies e l) _ (value_fine e l h.1) (λ v l1. tt)
      stmt_fine gas (Var at name e) h l = fine_next (evaluates bodies e l) _ (value_fine e l h.1) (λ v l1. tt)
      stmt_fine gas (Assign at a b) h l = fine_assignment at a b h.0 h.1 h.2 l
      stmt_fine gas (Alone at e) h l = fine_next (evaluates bodies e l) _ (value_fine e l h.1) (λ v l1. tt)
      stmt_fine gas (Print at e) h l = fine_next (evaluates bodies e l) _ (value_fine e l h.1) (λ v l1. fine_prints at (shown_value (out-Value v)) h.0 l1)
      stmt_fine gas (Throw at e) h l = fine_next (evaluates bodies e l) _ (value_fine e l h.1) (λ v l1. h.0 (throws (out-Value v)))
      stmt_fine gas (If at c a b) h l =
          fine_next (evaluates bodies c l) _ (value_fine c l h.1) (λ v l1. fine_truth at v (block (performs_all bodies gas a)) (block (performs_all bodies gas b)) l1 h.0
          (fine_block (performs_all bodies gas a) (stmts_fine gas a h.2)) (fine_block (performs_all bodies gas b) (stmts_fine gas b h.3)))
      stmt_fine gas (While at c a) h l = fine_while (suc gas) at (evaluates bodies c) (block (performs_all bodies gas a)) h.0 (λ l1. value_fine c l1 h.1) (fine_block (performs_all bodies gas a) (stmts_fine gas a h.2)) l
      stmt_fine gas (For at name e a) h l = fine_next (evaluates bodies e l) _ (value_fine e l h.1) (λ v l1. fine_turns at name (out-Value v) (performs_all bodies gas a) h.0 (stmts_fine gas a h.2) l1)
      stmt_fine gas (Try at a name b) h l =
          falls_seq (Ends Any) (Ends Any) (block (performs_all bodies gas a) l) (handles name (performs_all bodies gas b)) (fine_block (performs_all bodies gas a) (stmts_fine gas a h.1) l)
          (λ o e. fine_handles name (performs_all bodies gas b) o (stmts_fine gas b h.2) e)
      stmt_fine gas (Batch at interface root a) h l = (h, batch_end)
        where
          batch_end : (o : Outcome (Unit {0})) → EachFault P o → Ends Any o
          batch_end (Gave u l1) e = tt
          batch_end (Faulted r l1) e = e

      pub stmts_fine : (gas : ℕ) (ss : Stmts) → FineStmts ss → FineEffect (performs_all bodies gas ss)
      stmts_fine gas NoStmts h l = tt
      stmts_fine gas (MoreStmts s ss) h l = fine_next (performs bodies gas s l) _ (stmt_fine gas s h.0 l) (λ u l1. stmts_fine gas ss h.1 l1)

    fine_returns : (o : Option Expr) (l : Local) → FineReturn o → Fine (returns bodies o l)
    fine_returns None l h = tt
    fine_returns (Some e) l h = value_fine e l h

    pub runs_fine : (gas : ℕ) (body : Body) (l : Local) → FineBody body → Fine (runs bodies gas body l)
    runs_fine gas body l h = fine_next (performs_all bodies gas body.statements l) _ (stmts_fine gas body.statements h.0 l) (λ u l1. fine_returns body.result l1 h.1)

  -- of classes whose code is fine, within any gas
  module _ (classes : List Class) (fine : FineClasses classes) where
    bodies_fine : (gas at : ℕ) (body : Body) → IsFine at → FineBody body → (l : Local) → Fine (body_within classes gas at body l)
    bodies_fine zero at body here h l = here fuel_used
    bodies_fine (suc gas) at body here h l = runs_fine (record { classes = classes; run = body_within classes gas }) fine (bodies_fine gas) gas body l h

    pub code_fine : (gas : ℕ) (s : Stmt) → FineStmt s → (l : Local) → Fine (performs (bodies_of classes gas) gas s l)
    code_fine gas s h l = stmt_fine (bodies_of classes gas) fine (bodies_fine gas) gas s h l

  -- ---- handled

  pub record FineHandler {S : Type 0} (h : Handler S) : Type 0 where
    pub answers : (s : S) (q : Question) → FineQuestion q → FineAnswer (h.answer s q).0
    pub batches : (s : S) (at : ℕ) (l : Local) → IsFine at → EachFault P (h.batch s at l).0

  handled : {S A : Type 0} (h : Handler S) → FineHandler h → (Q : A → Type 0) (run : Dialogue A) (s : S) → Falls Q run → Q (handle h run s).0
  handled h ok Q (Done a) s f = f
  handled h ok Q (Ask q go) s f = handled h ok Q (go (h.answer s q).0) (h.answer s q).1 (f.1 (h.answer s q).0 (ok.answers s q f.0))
  handled h ok Q (AskBatch at l go) s f = handled h ok Q (go (h.batch s at l).0) (h.batch s at l).1 (f.1 (h.batch s at l).0 (ok.batches s at l f.0))

  pub handled_fine : {S A : Type 0} (h : Handler S) → FineHandler h → (run : Run A) (s : S) → Fine run → EachFault P (handle h run s).0
  handled_fine {A = A} h ok run s f = by (handle h run s).0 (handled h ok (Ends Any) run s f)
    where
      by : (o : Outcome A) → Ends Any o → EachFault P o
      by (Gave a l) e = tt
      by (Faulted r l) e = e
