-- Code raises its faults where it stands, and none of them is remote: it ends by others only where it is answered by them.
use Rattle.std.proofs.Common.{◌≡◌, refl, subst, ℕ, zero, suc, List, [], ◌∷◌, length, nat_eq, Bool as Truth, true, false, cond, option_and_then, slice_get, All, Option, Some, None, Result, Ok, Err}
use Rattle.rb_trees.specs.declared.values.Value.{Value}
use Rattle.rb_trees.specs.declared.values.Value.TheOpen.{Value-F}
use Rattle.rb_trees.specs.declared.values.Value.TheVariants as value
use Rattle.rb_trees.specs.declared.values.Value.TheViews.{out-Value}
use Rattle.rb_trees.specs.declared.values.Fault.{Fault}
use Rattle.rb_trees.specs.declared.outcomes.Raised.{Raised}
use Rattle.rb_trees.specs.mirror.Code.{Expr, Exprs, Lit, Name, This, Unary, Binary, Field, Call, Index, New, Items, Taken, NoExprs, MoreExprs, Stmt, Stmts, Val, Var, Assign, Run, Print, Throw, If, While, For, Try, Batch, NoStmts, MoreStmts}
use Rattle.rb_trees.specs.mirror.Declarations.{Body, Class, Method, Program}
use Rattle.rb_trees.specs.Classes.{class_named, method_named, method_of_class}
use Rattle.rb_trees.specs.Outcome.{known, must, ◌>>=◌, ◌>>◌}
use Rattle.rb_trees.specs.declared.services.Object.{Object}
use Rattle.rb_meaning_code.specs.Faults.{fuel_used, kind, raised, raises, caught_text, is_caught}
use Rattle.rb_meaning_code.specs.Operators.{on_one, on_two, by_left, shown_value}
use Rattle.rb_meaning_code.specs.State.{Local, this_name, bound, spent}
use Rattle.rb_meaning_code.specs.Dialogue.{Question, Line, Invoke, Turn, ListTurn, Outcome, Gave, Faulted, Dialogue, Done, Ask, AskBatch, seq, on, next, gives, end, told}
use Rattle.rb_meaning_code.specs.Dialogue as dialogue
use Rattle.rb_meaning_code.specs.Calls.{Bodies, called_method, unit_due, call_fits, names_within, entered, left, call, called}
use Rattle.rb_meaning_code.specs.Objects.{constructed, field_of, with_field_of}
use Rattle.rb_meaning_code.specs.Expressions.{value_of, indexed, list_of, decided_or, evaluates, evaluates_all}
use Rattle.rb_meaning_code.specs.Statements.{Effect, nothing, closes, block, truth_of, either, by_truth, after_unit, while_turns, turns_over, list_turn, row_turn, turns, prints, throws, handles, assigned, assigns, writes, assignment, performs, performs_all}
use Rattle.rb_meaning_code.specs.Bodies.{returns, runs, body_within, bodies_of}
use Rattle.rb_meaning_flow.specs.Programs.{is_carried_at}
use Rattle.rb_law_types.proofs.Known.{found_one}
use Rattle.rb_law_local.specs.Placed.{PlacedExpr, PlacedExprs, PlacedStmt, PlacedStmts, PlacedReturn, PlacedBody, PlacedMethod, PlacedClass, PlacedClasses}

abbrev none_taken : Expr → Truth
none_taken e = false

module _ (Here : ℕ → Type 0) where
  abbrev pub NearEnd : {A : Type 0} → Outcome A → Type 0
  NearEnd (Gave a l) = Unit {0}
  NearEnd (Faulted r l) = (r.remote ≡ false) × Here r.at

  abbrev pub NearAnswer : Result Value Raised → Type 0
  NearAnswer (Ok v) = Unit {0}
  NearAnswer (Err r) = (r.remote ≡ false) × Here r.at

  -- where a turn over a list is asked for
  abbrev pub AskedHere : Question → Type 0
  AskedHere (ListTurn at) = Here at
  AskedHere q = Unit {0}

  abbrev pub Near : {A : Type 0} → dialogue.Run A → Type 0
  Near (Done o) = NearEnd o
  Near (Ask q go) = AskedHere q × ((a : Result Value Raised) → NearAnswer a → Near (go a))
  Near (AskBatch at l go) = (o : Outcome (Unit {0})) → NearEnd o → Near (go o)

  -- a run that is near
  pub record Nears {A : Type 0} (run : dialogue.Run A) : Type 0 where
    pub near : Near run

  near_seq : {A B : Type 0} {run : dialogue.Run A} (k : Outcome A → dialogue.Run B) → Nears run → ((o : Outcome A) → NearEnd o → Nears (k o)) → Nears (seq run k)
  near_seq {run = run} k h more = record { near = by run h.near }
    where
      by : (d : dialogue.Run _) → Near d → Near (seq d k)
      by (Done o) h' = (more o h').near
      by (Ask q go) h' = (h'.0, λ a near. by (go a) (h'.1 a near))
      by (AskBatch at l go) h' = λ o near. by (go o) (h' o near)

  near_next : {A B : Type 0} {run : dialogue.Run A} (k : A → Local → dialogue.Run B) → Nears run → ((a : A) (l : Local) → Nears (k a l)) → Nears (next run k)
  near_next k h more = near_seq (on k) h by
    where
      by : (o : Outcome _) → NearEnd o → Nears (on k o)
      by (Gave a l) h' = more a l
      by (Faulted r l) h' = record { near = h' }

  near_gives : {A : Type 0} (a : A) (l : Local) → Nears (gives a l)
  near_gives a l = record { near = tt }

  near_falls : {A : Type 0} (f : Fault) (at : ℕ) (l : Local) → Here at → Nears {A = A} (Done (Faulted (raised f at) l))
  near_falls f at l h = record { near = (refl, h) }

  near_end : {A : Type 0} (l : Local) (at : ℕ) (r : Result A Fault) → Here at → Nears (end l (raises at r))
  near_end l at (Ok a) h = near_gives a l
  near_end l at (Err f) h = near_falls f at l h

  near_answered : (q : Question) (l : Local) → AskedHere q → Nears (Ask q (end l))
  near_answered q l here = record { near = (here, by) }
    where
      by : (a : Result Value Raised) → NearAnswer a → Near (end l a)
      by (Ok v) h = tt
      by (Err r) h = h

  near_told : (q : Question) → AskedHere q → (l : Local) → Nears (Ask q (told l))
  near_told q here l = record { near = (here, by) }
    where
      by : (a : Result Value Raised) → NearAnswer a → Near (told l a)
      by (Ok v) h = tt
      by (Err r) h = h

  near_check : {A B : Type 0} (l : Local) (at : ℕ) (r : Result A Fault) (k : A → Local → dialogue.Run B) → Here at → ((a : A) (l1 : Local) → r ≡ Ok a → Nears (k a l1)) → Nears (next (end l (raises at r)) k)
  near_check l at (Ok a) k h more = more a l refl
  near_check l at (Err f) k h more = near_falls f at l h

  near_closes : (count : ℕ) (o : Outcome (Unit {0})) → NearEnd o → Nears (closes count o)
  near_closes count (Gave u l1) h = record { near = tt }
  near_closes count (Faulted r l1) h = record { near = h }

  near_block : (statements : Effect) → ((l : Local) → Nears (statements l)) → (l : Local) → Nears (block statements l)
  near_block statements h l = near_seq (closes (length l.names)) (h l) (near_closes (length l.names))

  near_unit : (at : ℕ) (go : Effect) → Here at → ((l : Local) → Nears (go l)) → (l : Local) → Nears (after_unit at go l)
  near_unit at go p h l = near_check l at (unit_due l.fuel) _ p (λ u l1 is. h (spent l1))

  near_turns_over : (begins : Effect) (name : List ℕ) (vs : List Value) (statements : Effect) → ((l : Local) → Nears (begins l)) → ((l : Local) → Nears (statements l)) → (l : Local) → Nears (turns_over begins name vs statements l)
  near_turns_over begins name [] statements hb hs l = near_gives tt l
  near_turns_over begins name (v ∷ vs) statements hb hs l =
      near_next _ (hb l) (λ u l1. near_next _ (near_block (λ l2. statements (bound name v l2)) (λ l2. hs (bound name v l2)) l1) (λ w l3. near_turns_over begins name vs statements hb hs l3))

  near_turns : (at : ℕ) (name : List ℕ) (w : Value-F Value) (statements : Effect) → Here at → ((l : Local) → Nears (statements l)) → (l : Local) → Nears (turns at name w statements l)
  near_turns at name (Value-F.List items) statements p h l = near_turns_over (list_turn at) name items statements (near_unit at (λ l1. Ask (ListTurn at) (told l1)) p (near_told (ListTurn at) p)) h l
  near_turns at name (Value-F.Rows rows) statements p h l = near_turns_over (row_turn at) name rows statements (near_told (Turn at) tt) h l
  near_turns at name Value-F.Unit statements p h l = near_falls kind at l p
  near_turns at name _ statements p h l = near_falls kind at l p

  near_either : (holds : Truth) (a b : Effect) → ((l : Local) → Nears (a l)) → ((l : Local) → Nears (b l)) → (l : Local) → Nears (either holds a b l)
  near_either true a b ha hb l = ha l
  near_either false a b ha hb l = hb l

  near_truth : (at : ℕ) (v : Value) (a b : Effect) → Here at → ((l : Local) → Nears (a l)) → ((l : Local) → Nears (b l)) → (l : Local) → Nears (by_truth at v a b l)
  near_truth at v a b p ha hb l = near_check l at (truth_of (out-Value v)) _ p (λ holds l1 is. near_either holds a b ha hb l1)

  near_while : (gas at : ℕ) (test : Local → dialogue.Run Value) (body : Effect) → Here at → ((l : Local) → Nears (test l)) → ((l : Local) → Nears (body l)) → (l : Local) → Nears (while_turns gas at test body l)
  near_while zero at test body p ht hb l = near_falls fuel_used at l p
  near_while (suc gas) at test body p ht hb l =
      near_next _ (ht l) (λ v l1. near_truth at v (after_unit at (λ l3. next (body l3) (λ u l4. while_turns gas at test body l4))) nothing p
      (near_unit at (λ l3. next (body l3) (λ u l4. while_turns gas at test body l4)) p (λ l3. near_next _ (hb l3) (λ w l5. near_while gas at test body p ht hb l5))) (near_gives tt) l1)

  near_handles : (name : List ℕ) (handler : Effect) → ((l : Local) → Nears (handler l)) → (o : Outcome (Unit {0})) → NearEnd o → Nears (handles name handler o)
  near_handles name handler h (Gave u l) e = near_gives u l
  near_handles name handler h (Faulted r l) e = by (is_caught r)
    where
      by : (t : Truth) → Nears (cond t (block (λ l1. handler (bound name (value.Text (caught_text r.fault)) l1)) l) (Done (Faulted r l)))
      by true = near_block (λ l1. handler (bound name (value.Text (caught_text r.fault)) l1)) (λ l1. h (bound name (value.Text (caught_text r.fault)) l1)) l
      by false = record { near = e }

  -- a method that is called is one of the classes
  called_placed : (classes : List Class) → All (PlacedClass Here none_taken) classes → (heap : List Object) (w : Value-F Value) (name : List ℕ) (count : ℕ) (m : Method) → called_method classes heap w name count ≡ Ok m → PlacedMethod Here none_taken m
  called_placed classes h heap (Value-F.Ref object) name count m e = by_object (slice_get heap object) e
    where
      checked : (n : Method) (t : Truth) → (must t kind >> Ok n) ≡ Ok m → n ≡ m
      checked n true e' = cc (e')
      checked n false e' = absurd (cc (e'))

      by_method : (o : Option Method) → ((n : Method) → o ≡ Some n → PlacedMethod Here none_taken n) → (known kind o >>= λ n. must (nat_eq (length n.signature.params) count) kind >> Ok n) ≡ Ok m → PlacedMethod Here none_taken m
      by_method (Some n) h' e' = subst (PlacedMethod Here none_taken) (checked n (nat_eq (length n.signature.params) count) e') (h' n refl)
      by_method None h' e' = absurd (cc (e'))

      in_class : (o : Option Class) → ((c : Class) → o ≡ Some c → PlacedClass Here none_taken c) → (n : Method) → option_and_then (λ c. method_named c.methods name) o ≡ Some n → PlacedMethod Here none_taken n
      in_class (Some c) h' n e' = found_one (PlacedMethod Here none_taken) (λ q. q.signature.name) c.methods name n e' (h' c refl)
      in_class None h' n e' = absurd (cc (e'))

      by_object : (o : Option Object) → (known kind (option_and_then (λ q. method_of_class classes q.class name) o) >>= λ n. must (nat_eq (length n.signature.params) count) kind >> Ok n) ≡ Ok m → PlacedMethod Here none_taken m
      by_object (Some q) e' = by_method (method_of_class classes q.class name) (in_class (class_named classes q.class) (λ c is. found_one (PlacedClass Here none_taken) (λ u. u.name) classes q.class c is h)) e'
      by_object None e' = absurd (cc (e'))
  called_placed classes h heap Value-F.Unit name count m e = absurd (cc (e))
  called_placed classes h heap _ name count m e = absurd (cc (e))

  module _ (bodies : Bodies) (placed : All (PlacedClass Here none_taken) bodies.classes) (near_bodies : (at : ℕ) (body : Body) → Here at → PlacedBody Here none_taken body → (l : Local) → Nears (bodies.run at body l)) where
    near_left : (l : Local) (o : Outcome Value) → NearEnd o → Nears (left l o)
    near_left l (Gave v l1) h = record { near = tt }
    near_left l (Faulted r l1) h = record { near = h }

    near_call : (at : ℕ) (receiver : Value) (name : List ℕ) (args : List Value) → Here at → (l : Local) → Nears (call bodies at receiver name args l)
    near_call at receiver name args p l =
        near_check {A = Method} l at (called_method bodies.classes l.heap (out-Value receiver) name (length args)) _ p (λ m l1 is.
        near_check l1 at (unit_due l1.fuel) _ p (λ u l2 is2.
        near_check (spent l2) at (call_fits l2.depth) _ p (λ w l3 is3.
        near_seq (left l3) (near_bodies at m.body p (called_placed bodies.classes placed l.heap (out-Value receiver) name (length args) m is) (entered (names_within receiver m.signature.params args) l3)) (near_left l3))))

    near_called : (at : ℕ) (receiver : Value) (w : Value-F Value) (name : List ℕ) (args : List Value) → Here at → (l : Local) → Nears (called bodies at receiver w name args l)
    near_called at receiver (Value-F.Remote object) name args p l = near_answered (Invoke at receiver name args) l tt
    near_called at receiver Value-F.Unit name args p l = near_call at receiver name args p l
    near_called at receiver _ name args p l = near_call at receiver name args p l

    near_decided : (o : Option Value) (go : Local → dialogue.Run Value) → ((l : Local) → Nears (go l)) → (l : Local) → Nears (decided_or o go l)
    near_decided (Some v) go h l = near_gives v l
    near_decided None go h l = h l

    mutual
      near_value : (e : Expr) → PlacedExpr Here none_taken e → (l : Local) → Nears (evaluates bodies e l)
      near_value (Lit at v) p l = near_gives v l
      near_value (Name at name) p l = near_end l at (value_of l.names name) p
      near_value (This at) p l = near_end l at (value_of l.names this_name) p
      near_value (Unary at op a) p l = near_next _ (near_value a (p refl).1 l) (λ v l1. near_end l1 at (on_one op (out-Value v)) (p refl).0)
      near_value (Binary at op a b) p l =
          near_next _ (near_value a (p refl).1 l) (λ v l1. near_check l1 at (by_left op (out-Value v)) _ (p refl).0 (λ decided l2 is.
          near_decided decided _ (λ l3. near_next _ (near_value b (p refl).2 l3) (λ w l4. near_end l4 at (on_two op (out-Value v) (out-Value w)) (p refl).0)) l2))
      near_value (Field at a name) p l = near_next _ (near_value a p.1 l) (λ v l1. near_end l1 at (field_of l1.heap (out-Value v) name) p.0)
      near_value (Call at a method args) p l = near_next _ (near_value a (p refl).1 l) (λ v l1. near_next _ (near_values args (p refl).2 l1) (λ vs l2. near_called at v (out-Value v) method vs (p refl).0 l2))
      near_value (Index at a b) p l = near_next _ (near_value a p.1 l) (λ v l1. near_next _ (near_value b p.2 l1) (λ w l2. near_end l2 at (indexed (out-Value v) (out-Value w)) p.0))
      near_value (New at class args) p l =
          near_next _ (near_values args p.1 l) (λ vs l1. near_check l1 at (constructed bodies.classes l1.heap class vs) _ p.0 (λ made l2 is. near_gives made.0 (record l2 { heap = made.1 })))
      near_value (Items at item items) p l = near_next _ (near_values items p.1 l) (λ vs l1. near_end l1 at (list_of vs) p.0)
      near_value (Taken at step) p l = near_answered (dialogue.Taken step) l tt

      near_values : (es : Exprs) → PlacedExprs Here none_taken es → (l : Local) → Nears (evaluates_all bodies es l)
      near_values NoExprs p l = near_gives [] l
      near_values (MoreExprs e es) p l = near_next _ (near_value e p.0 l) (λ v l1. near_next _ (near_values es p.1 l1) (λ vs l2. near_gives (v ∷ vs) l2))

    near_assigns : (at : ℕ) (name : List ℕ) (v : Value) → Here at → (l : Local) → Nears (assigns at name v l)
    near_assigns at name v p l = near_check l at (assigned l.names name v) _ p (λ names l1 is. near_gives tt (record l1 { names = names }))

    near_writes : (at : ℕ) (object : Value) (name : List ℕ) (v : Value) → Here at → (l : Local) → Nears (writes at object name v l)
    near_writes at object name v p l = near_check l at (with_field_of l.heap (out-Value object) name v) _ p (λ heap l1 is. near_gives tt (record l1 { heap = heap }))

    near_assignment : (at : ℕ) (a e : Expr) → Here at → PlacedExpr Here none_taken a → PlacedExpr Here none_taken e → (l : Local) → Nears (assignment bodies at a e l)
    near_assignment at (Name place name) e h p q l = near_next _ (near_value e q l) (λ v l1. near_assigns place name v p l1)
    near_assignment at (Field place a name) e h p q l = near_next _ (near_value a p.1 l) (λ object l1. near_next _ (near_value e q l1) (λ v l2. near_writes place object name v p.0 l2))
    near_assignment at (This place) e h p q l = near_falls kind at l h
    near_assignment at _ e h p q l = near_falls kind at l h

    near_prints : (at : ℕ) (o : Option (List ℕ)) → Here at → (l : Local) → Nears (prints at o l)
    near_prints at (Some bytes) p l = near_told (Line at bytes) tt l
    near_prints at None p l = near_falls kind at l p

    mutual
      near_stmt : (gas : ℕ) (s : Stmt) → PlacedStmt Here none_taken s → (l : Local) → Nears (performs bodies gas s l)
      near_stmt gas (Val at name e) p l = near_next _ (near_value e p l) (λ v l1. near_gives tt (bound name v l1))
      near_stmt gas (Var at name e) p l = near_next _ (near_value e p l) (λ v l1. near_gives tt (bound name v l1))
      near_stmt gas (Assign at a e) p l = near_assignment at a e p.0 p.1 p.2 l
      near_stmt gas (Run at e) p l = near_next _ (near_value e p l) (λ v l1. near_gives tt l1)
      near_stmt gas (Print at e) p l = near_next _ (near_value e p.1 l) (λ v l1. near_prints at (shown_value (out-Value v)) p.0 l1)
      near_stmt gas (Throw at e) p l = near_next _ (near_value e p.1 l) (λ v l1. near_falls (throws (out-Value v)) at l1 p.0)
      near_stmt gas (If at c a b) p l =
          near_next _ (near_value c p.1 l) (λ v l1.
          near_truth at v (block (performs_all bodies gas a)) (block (performs_all bodies gas b)) p.0 (near_block (performs_all bodies gas a) (near_stmts gas a p.2)) (near_block (performs_all bodies gas b) (near_stmts gas b p.3)) l1)
      near_stmt gas (While at c a) p l = near_while (suc gas) at (evaluates bodies c) (block (performs_all bodies gas a)) p.0 (near_value c p.1) (near_block (performs_all bodies gas a) (near_stmts gas a p.2)) l
      near_stmt gas (For at name e a) p l = near_next _ (near_value e p.1 l) (λ v l1. near_turns at name (out-Value v) (performs_all bodies gas a) p.0 (near_stmts gas a p.2) l1)
      near_stmt gas (Try at a name b) p l =
          near_seq (handles name (performs_all bodies gas b)) (near_block (performs_all bodies gas a) (near_stmts gas a p.0) l) (near_handles name (performs_all bodies gas b) (near_stmts gas b p.1))
      near_stmt gas (Batch at interface root a) p l = record { near = λ o h. h }

      near_stmts : (gas : ℕ) (ss : Stmts) → PlacedStmts Here none_taken ss → (l : Local) → Nears (performs_all bodies gas ss l)
      near_stmts gas NoStmts p l = near_gives tt l
      near_stmts gas (MoreStmts s ss) p l = near_next _ (near_stmt gas s p.0 l) (λ u l1. near_stmts gas ss p.1 l1)

    near_returns : (result : Option Expr) → PlacedReturn Here none_taken result → (l : Local) → Nears (returns bodies result l)
    near_returns None p l = near_gives value.Unit l
    near_returns (Some e) p l = near_value e p l

    near_runs : (gas : ℕ) (body : Body) → PlacedBody Here none_taken body → (l : Local) → Nears (runs bodies gas body l)
    near_runs gas body p l = near_next _ (near_stmts gas body.statements p.0 l) (λ u l1. near_returns body.result p.1 l1)

  near_within : (classes : List Class) → PlacedClasses Here classes → (gas at : ℕ) (body : Body) → Here at → PlacedBody Here none_taken body → (l : Local) → Nears (body_within classes gas at body l)
  near_within classes h zero at body here p l = near_falls fuel_used at l here
  near_within classes h (suc gas) at body here p l = near_runs (record { classes = classes; run = body_within classes gas }) h (near_within classes h gas) gas body p l

  -- so does a call of an own method
  pub own_call_near : (classes : List Class) → PlacedClasses Here classes → (gas : ℕ) (at : ℕ) (receiver : Value) (name : List ℕ) (args : List Value) → Here at → (l : Local) → Near (call (bodies_of classes gas) at receiver name args l)
  own_call_near classes h gas at receiver name args p l = (near_call (bodies_of classes gas) h (near_within classes h gas) at receiver name args p l).near

-- No carried loop stands at the positions of code of the own side, and the bodies of methods stand at such.
pub record StandPlain (p : Program) (Here : ℕ → Type 0) : Type 0 where
  pub classes : PlacedClasses Here p.classes
  pub uncarried : (at : ℕ) → Here at → is_carried_at p at ≡ false
