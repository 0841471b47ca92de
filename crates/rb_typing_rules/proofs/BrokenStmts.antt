-- The first broken rule in a statement is the violation that is computed.
use Rattle.std.proofs.Common.{◌≡◌, ℕ, List, [], ◌∷◌, Bool as Truth, true, false, not, Ok, Err, refl, ap, sym, subst, ◌∙◌}
use Rattle.rb_trees.specs.mirror.Code.{Expr, Stmt, Stmts, Val, Var, Assign, Run, Print, Throw, If, While, For, Try, Batch, NoExprs, MoreExprs, NoStmts, MoreStmts, expr_at}
use Rattle.rb_meaning_types.specs.Kinds.{Kind, Int, Bool, Text, Unit as UnitKind, Named, ListOf, RowsOf, is_unit}
use Rattle.rb_meaning_types.specs.Declared.{Context, is_interface}
use Rattle.rb_meaning_types.specs.Violations.{Violation, Checked, UnknownName, NameTaken, WrongType, NotAssignable, NotAllowedHere, wanted}
use Rattle.rb_trees.specs.Outcome.{◌>>=◌, ◌>>◌, must}
use Rattle.rb_meaning_types.specs.Scopes.{Scope, is_free, with_variable}
use Rattle.rb_meaning_types.specs.Expressions.{types_of}
use Rattle.rb_meaning_types.specs.Statements.{declare, is_assignable, is_printable, turn_kind, loop_scope, catch_scope, batch_scope, closed, check_stmt, check_stmts}
use Rattle.rb_typing_rules.specs.Rules.{HasType, HaveTypes, none, more}
use Rattle.rb_typing_rules.specs.BrokenCode.{expressions, HasNoTurns, BreaksStmt, BrokenStmt, BrokenStmts, val_taken, val_unit, var_taken, var_unit, not_assignable, other_type, not_printable, service_print, no_text, if_condition, while_condition, for_taken, no_turns, root_taken, no_interface, no_remote, in_expression, its_rule, in_then, in_else, in_while, in_items, in_rows, in_try, catch_taken, in_catch, in_batch, stmt_first, stmt_later}
use Rattle.rb_typing_rules.proofs.Exprs.{placed_at, typed_have, has_typed}
use Rattle.rb_typing_rules.proofs.Groups.{kinds_placed}
use Rattle.rb_typing_rules.proofs.Stmts.{closed_ok, batch_so, typed_leads, all_lead, leads_typed, lead_all}
use Rattle.rb_typing_rules.proofs.Parts.{placed_as, have_placed, placed_have, own_stmt, parted_stmt}
use Rattle.rb_typing_rules.proofs.Stops.{Stops, ends, passes, weaker, bind_stops, must_stops, wanted_stops, in_order, bind_in_order, wanted_not}
use Rattle.rb_typing_rules.proofs.BrokenExprs.{exprs_stops, all_broken}

pub not_false : (b : Truth) → not b ≡ false → b ≡ true
not_false true e = refl
not_false false e = cc

closed_stops : (Q R : Violation → Type 0) (scope : Scope) (r : Checked Scope) → ((v : Violation) → Q v → R v) → Stops Q r → Stops R (closed scope r)
closed_stops Q R scope (Ok inner) f s = passes R scope
closed_stops Q R scope (Err v) f s = ends R v (f v (s.by v refl))

declare_stops : (Q : Violation → Type 0) (scope : Scope) (at : ℕ) (name : List ℕ) (fixed : Truth) (e : ℕ) (kind : Kind) → (is_free scope name ≡ false → Q (NameTaken at))
    → (is_free scope name ≡ true → is_unit kind ≡ true → Q (WrongType e kind)) → Stops Q (declare scope at name fixed (placed_at e kind))
declare_stops Q scope at name fixed e kind f g =
    let after : Checked Scope = Ok (with_variable scope name kind fixed) in
    in_order Q (must (is_free scope name) (NameTaken at)) (must (not (is_unit kind)) (WrongType e kind)) after
    (must_stops Q (is_free scope name) (NameTaken at) (must (not (is_unit kind)) (WrongType e kind) >> after) f
    (λ free. must_stops Q (not (is_unit kind)) (WrongType e kind) after (λ h. g free (not_false (is_unit kind) h)) (λ h. passes Q (with_variable scope name kind fixed))))

loop_order : (Q : Violation → Type 0) (b : Truth) (t : Violation) (turn : Checked Kind) (g : Kind → Checked Scope) (k : Scope → Checked Scope) → (b ≡ false → Q t)
    → (b ≡ true → Stops Q (turn >>= g >>= k)) → Stops Q (must b t >> turn >>= g >>= k)
loop_order Q true t turn g k f h = h refl
loop_order Q false t turn g k f h = ends Q t (f refl)

-- the checks of a block, in any scope
abbrev BlockStops : Context → Stmts → Type 0
BlockStops x a = (scope : Scope) → Stops (BrokenStmts x scope a) (check_stmts x scope a)

single : (x : Context) (scope : Scope) (e : Expr) (kind : Kind) → HasType x scope e kind → HaveTypes x scope (MoreExprs e NoExprs) (kind ∷ [])
single x scope e kind typed = more e NoExprs kind [] typed none

no_turns_stop : (x : Context) (scope : Scope) (at : ℕ) (name : List ℕ) (e : Expr) (a : Stmts) (kind : Kind) → HasType x scope e kind → HasNoTurns kind
    → (g : Kind → Checked Scope) (k : Scope → Checked Scope)
    → Stops (BrokenStmt x scope (For at name e a)) (must (is_free scope name) (NameTaken at) >> Err (WrongType (expr_at e) kind) >>= g >>= k)
no_turns_stop x scope at name e a kind typed bad g k =
    let whole = single x scope e kind typed in
    loop_order _ (is_free scope name) (NameTaken at) (Err (WrongType (expr_at e) kind)) g k
    (λ f. its_rule scope (For at name e a) (kind ∷ []) (NameTaken at) whole (for_taken at name e a kind f))
    (λ f. ends _ (WrongType (expr_at e) kind) (its_rule scope (For at name e a) (kind ∷ []) (WrongType (expr_at e) kind) whole (no_turns at name e a kind f bad)))

for_stops : (x : Context) (scope : Scope) (at : ℕ) (name : List ℕ) (e : Expr) (a : Stmts) (kind : Kind) → HasType x scope e kind → BlockStops x a
    → Stops (BrokenStmt x scope (For at name e a)) (loop_scope scope at name (placed_at (expr_at e) kind) >>= λ inner. closed scope (check_stmts x inner a))
for_stops x scope at name e a (ListOf item) typed block =
    loop_order _ (is_free scope name) (NameTaken at) (Ok item) _ _
    (λ f. its_rule scope (For at name e a) (ListOf item ∷ []) (NameTaken at) (single x scope e (ListOf item) typed) (for_taken at name e a (ListOf item) f))
    (λ f. closed_stops _ _ scope (check_stmts x (with_variable scope name item true) a) (λ v b. in_items scope at name e a item v typed f b) (block (with_variable scope name item true)))
for_stops x scope at name e a (RowsOf row) typed block =
    loop_order _ (is_free scope name) (NameTaken at) (Ok row) _ _
    (λ f. its_rule scope (For at name e a) (RowsOf row ∷ []) (NameTaken at) (single x scope e (RowsOf row) typed) (for_taken at name e a (RowsOf row) f))
    (λ f. closed_stops _ _ scope (check_stmts x (with_variable scope name row true) a) (λ v b. in_rows scope at name e a row v typed f b) (block (with_variable scope name row true)))
for_stops x scope at name e a Int typed block = no_turns_stop x scope at name e a Int typed tt _ _
for_stops x scope at name e a Bool typed block = no_turns_stop x scope at name e a Bool typed tt _ _
for_stops x scope at name e a Text typed block = no_turns_stop x scope at name e a Text typed tt _ _
for_stops x scope at name e a UnitKind typed block = no_turns_stop x scope at name e a UnitKind typed tt _ _
for_stops x scope at name e a (Named other) typed block = no_turns_stop x scope at name e a (Named other) typed tt _ _

if_stops : (x : Context) (scope : Scope) (at : ℕ) (c : Expr) (a b : Stmts) (kind : Kind) → HasType x scope c kind → BlockStops x a → BlockStops x b
    → Stops (BrokenStmt x scope (If at c a b)) (wanted Bool (placed_at (expr_at c) kind) >> closed scope (check_stmts x scope a) >>= λ s. closed scope (check_stmts x scope b))
if_stops x scope at c a b kind typed block other =
    let p = placed_at (expr_at c) kind in
    bind_in_order _ (wanted Bool p) (closed scope (check_stmts x scope a)) (λ s. closed scope (check_stmts x scope b))
    (wanted_stops _ Bool p (closed scope (check_stmts x scope a) >>= λ s. closed scope (check_stmts x scope b))
    (λ d. its_rule scope (If at c a b) (kind ∷ []) (WrongType (expr_at c) kind) (single x scope c kind typed) (if_condition at c a b kind d))
    (λ same. let holds = subst (HasType x scope c) (sym same) typed in
    bind_stops _ (closed scope (check_stmts x scope a)) (λ s. closed scope (check_stmts x scope b))
    (closed_stops _ _ scope (check_stmts x scope a) (λ v m. in_then scope at c a b v holds m) (block scope))
    (λ s h. let t = closed_ok scope (check_stmts x scope a) s h in
    closed_stops _ _ scope (check_stmts x scope b) (λ v m. in_else scope t.0 at c a b v holds (all_lead x scope a t.0 t.1) m) (other scope))))

try_stops : (x : Context) (scope : Scope) (at : ℕ) (a : Stmts) (name : List ℕ) (b : Stmts) → BlockStops x a → BlockStops x b
    → Stops (BrokenStmt x scope (Try at a name b)) (closed scope (check_stmts x scope a) >>= λ s. catch_scope scope at name >>= λ inner. closed scope (check_stmts x inner b))
try_stops x scope at a name b block other =
    let inner = with_variable scope name Text true in
    let k : Scope → Checked Scope = λ i. closed scope (check_stmts x i b) in
    bind_stops _ (closed scope (check_stmts x scope a)) (λ s. catch_scope scope at name >>= k)
    (closed_stops _ _ scope (check_stmts x scope a) (λ v m. in_try scope at a name b v m) (block scope))
    (λ s h. let t = closed_ok scope (check_stmts x scope a) s h in
    let leads = all_lead x scope a t.0 t.1 in
    bind_in_order _ (must (is_free scope name) (NameTaken at)) (Ok inner) k
    (must_stops _ (is_free scope name) (NameTaken at) (Ok inner >>= k) (λ f. catch_taken scope t.0 at a name b leads f)
    (λ f. closed_stops _ _ scope (check_stmts x inner b) (λ v m. in_catch scope t.0 at a name b v leads f m) (other inner))))

batch_stops : (x : Context) (scope : Scope) (at : ℕ) (interface root : List ℕ) (a : Stmts) → BlockStops x a
    → Stops (BrokenStmt x scope (Batch at interface root a)) (batch_scope x scope at interface root >>= λ inner. closed scope (check_stmts x inner a))
batch_stops x scope at interface root a block =
    let inner = with_variable scope root (Named interface) true in
    let k : Scope → Checked Scope = λ i. closed scope (check_stmts x i a) in
    let free = must (is_free scope root) (NameTaken at) in
    let found = must (is_interface x.declared interface) (UnknownName at) in
    let may = must x.remote (NotAllowedHere at) in
    let s = Batch at interface root a in
    bind_in_order _ (free >> found >> may) (Ok inner) k (in_order _ (free >> found) may (Ok inner >>= k) (in_order _ free found (may >> (Ok inner >>= k))
    (must_stops _ (is_free scope root) (NameTaken at) (found >> (may >> (Ok inner >>= k))) (λ e. its_rule scope s [] (NameTaken at) none (root_taken at interface root a e))
    (λ e. must_stops _ (is_interface x.declared interface) (UnknownName at) (may >> (Ok inner >>= k)) (λ f. its_rule scope s [] (UnknownName at) none (no_interface at interface root a e f))
    (λ f. must_stops _ x.remote (NotAllowedHere at) (Ok inner >>= k) (λ g. its_rule scope s [] (NotAllowedHere at) none (no_remote at interface root a e f g))
    (λ g. closed_stops _ _ scope (check_stmts x inner a) (λ v m. in_batch scope at interface root a v e f g m) (block inner)))))))

-- a statement, by what follows its expressions
whole_stmt : (x : Context) (scope : Scope) (s : Stmt)
    → ((kinds : List Kind) → HaveTypes x scope (expressions s) kinds → Stops (BrokenStmt x scope s) (own_stmt x scope s (placed_as (expressions s) kinds)))
    → Stops (BrokenStmt x scope s) (check_stmt x scope s)
whole_stmt x scope s f =
    subst (Stops (BrokenStmt x scope s)) (sym (parted_stmt x scope s))
    (bind_stops _ (types_of x scope (expressions s)) (own_stmt x scope s)
    (weaker _ _ (types_of x scope (expressions s)) (λ v b. in_expression scope s v b) (exprs_stops x scope (expressions s)))
    (λ ps h. subst (λ qs. Stops (BrokenStmt x scope s) (own_stmt x scope s qs)) (sym (placed_have x scope (expressions s) ps h))
    (f (kinds_placed ps) (typed_have x scope (expressions s) ps h))))

ruled : (x : Context) (scope : Scope) (s : Stmt) (kinds : List Kind) → HaveTypes x scope (expressions s) kinds → (v : Violation) → BreaksStmt x scope s kinds v → BrokenStmt x scope s v
ruled x scope s kinds typed v r = its_rule scope s kinds v typed r

val_stops : (x : Context) (scope : Scope) (at : ℕ) (name : List ℕ) (e : Expr) (kinds : List Kind) → HaveTypes x scope (MoreExprs e NoExprs) kinds
    → Stops (BrokenStmt x scope (Val at name e)) (own_stmt x scope (Val at name e) (placed_as (MoreExprs e NoExprs) kinds))
val_stops x scope at name e _ (more _ _ kind _ typed none) =
    let rule = ruled x scope (Val at name e) (kind ∷ []) (single x scope e kind typed) in
    declare_stops _ scope at name true (expr_at e) kind (λ f. rule (NameTaken at) (val_taken at name e kind f))
    (λ f u. rule (WrongType (expr_at e) kind) (val_unit at name e kind f u))

var_stops : (x : Context) (scope : Scope) (at : ℕ) (name : List ℕ) (e : Expr) (kinds : List Kind) → HaveTypes x scope (MoreExprs e NoExprs) kinds
    → Stops (BrokenStmt x scope (Var at name e)) (own_stmt x scope (Var at name e) (placed_as (MoreExprs e NoExprs) kinds))
var_stops x scope at name e _ (more _ _ kind _ typed none) =
    let rule = ruled x scope (Var at name e) (kind ∷ []) (single x scope e kind typed) in
    declare_stops _ scope at name false (expr_at e) kind (λ f. rule (NameTaken at) (var_taken at name e kind f))
    (λ f u. rule (WrongType (expr_at e) kind) (var_unit at name e kind f u))

assign_stops : (x : Context) (scope : Scope) (at : ℕ) (a b : Expr) (kinds : List Kind) → HaveTypes x scope (MoreExprs a (MoreExprs b NoExprs)) kinds
    → Stops (BrokenStmt x scope (Assign at a b)) (own_stmt x scope (Assign at a b) (placed_as (MoreExprs a (MoreExprs b NoExprs)) kinds))
assign_stops x scope at a b _ (more _ _ kind _ typed (more _ _ other _ next none)) =
    let q = placed_at (expr_at b) other in
    let rule = ruled x scope (Assign at a b) (kind ∷ other ∷ []) (more a (MoreExprs b NoExprs) kind (other ∷ []) typed (single x scope b other next)) in
    in_order _ (must (is_assignable scope a) (NotAssignable at)) (wanted kind q) (Ok scope)
    (must_stops _ (is_assignable scope a) (NotAssignable at) (wanted kind q >> Ok scope) (λ f. rule (NotAssignable at) (not_assignable at a b kind other f))
    (λ f. wanted_stops _ kind q (Ok scope) (λ d. rule (WrongType (expr_at b) other) (other_type at a b kind other f d)) (λ same. passes _ scope)))

print_stops : (x : Context) (scope : Scope) (at : ℕ) (e : Expr) (kinds : List Kind) → HaveTypes x scope (MoreExprs e NoExprs) kinds
    → Stops (BrokenStmt x scope (Print at e)) (own_stmt x scope (Print at e) (placed_as (MoreExprs e NoExprs) kinds))
print_stops x scope at e _ (more _ _ kind _ typed none) =
    let local = must (not x.declared.service) (NotAllowedHere at) in
    let rule = ruled x scope (Print at e) (kind ∷ []) (single x scope e kind typed) in
    in_order _ (must (is_printable x.declared kind) (WrongType (expr_at e) kind)) local (Ok scope)
    (must_stops _ (is_printable x.declared kind) (WrongType (expr_at e) kind) (local >> Ok scope) (λ f. rule (WrongType (expr_at e) kind) (not_printable at e kind f))
    (λ f. must_stops _ (not x.declared.service) (NotAllowedHere at) (Ok scope)
    (λ g. rule (NotAllowedHere at) (service_print at e kind f (not_false x.declared.service g))) (λ g. passes _ scope)))

throw_stops : (x : Context) (scope : Scope) (at : ℕ) (e : Expr) (kinds : List Kind) → HaveTypes x scope (MoreExprs e NoExprs) kinds
    → Stops (BrokenStmt x scope (Throw at e)) (own_stmt x scope (Throw at e) (placed_as (MoreExprs e NoExprs) kinds))
throw_stops x scope at e _ (more _ _ kind _ typed none) =
    wanted_stops _ Text (placed_at (expr_at e) kind) (Ok scope)
    (λ d. its_rule scope (Throw at e) (kind ∷ []) (WrongType (expr_at e) kind) (single x scope e kind typed) (no_text at e kind d)) (λ same. passes _ scope)

if_whole : (x : Context) (scope : Scope) (at : ℕ) (c : Expr) (a b : Stmts) → BlockStops x a → BlockStops x b → (kinds : List Kind) → HaveTypes x scope (MoreExprs c NoExprs) kinds
    → Stops (BrokenStmt x scope (If at c a b)) (own_stmt x scope (If at c a b) (placed_as (MoreExprs c NoExprs) kinds))
if_whole x scope at c a b block other _ (more _ _ kind _ typed none) = if_stops x scope at c a b kind typed block other

while_whole : (x : Context) (scope : Scope) (at : ℕ) (c : Expr) (a : Stmts) → BlockStops x a → (kinds : List Kind) → HaveTypes x scope (MoreExprs c NoExprs) kinds
    → Stops (BrokenStmt x scope (While at c a)) (own_stmt x scope (While at c a) (placed_as (MoreExprs c NoExprs) kinds))
while_whole x scope at c a block _ (more _ _ kind _ typed none) =
    wanted_stops _ Bool (placed_at (expr_at c) kind) (closed scope (check_stmts x scope a))
    (λ d. its_rule scope (While at c a) (kind ∷ []) (WrongType (expr_at c) kind) (single x scope c kind typed) (while_condition at c a kind d))
    (λ same. closed_stops _ _ scope (check_stmts x scope a) (λ v m. in_while scope at c a v (subst (HasType x scope c) (sym same) typed) m) (block scope))

for_whole : (x : Context) (scope : Scope) (at : ℕ) (name : List ℕ) (e : Expr) (a : Stmts) → BlockStops x a → (kinds : List Kind) → HaveTypes x scope (MoreExprs e NoExprs) kinds
    → Stops (BrokenStmt x scope (For at name e a)) (own_stmt x scope (For at name e a) (placed_as (MoreExprs e NoExprs) kinds))
for_whole x scope at name e a block _ (more _ _ kind _ typed none) = for_stops x scope at name e a kind typed block

mutual
  pub stmt_stops : (x : Context) (scope : Scope) (s : Stmt) → Stops (BrokenStmt x scope s) (check_stmt x scope s)
  stmt_stops x scope (Val at name e) = whole_stmt x scope (Val at name e) (val_stops x scope at name e)
  stmt_stops x scope (Var at name e) = whole_stmt x scope (Var at name e) (var_stops x scope at name e)
  stmt_stops x scope (Assign at a b) = whole_stmt x scope (Assign at a b) (assign_stops x scope at a b)
  stmt_stops x scope (Run at e) = whole_stmt x scope (Run at e) (λ kinds typed. passes _ scope)
  stmt_stops x scope (Print at e) = whole_stmt x scope (Print at e) (print_stops x scope at e)
  stmt_stops x scope (Throw at e) = whole_stmt x scope (Throw at e) (throw_stops x scope at e)
  stmt_stops x scope (If at c a b) = whole_stmt x scope (If at c a b) (if_whole x scope at c a b (λ s. stmts_stops x s a) (λ s. stmts_stops x s b))
  stmt_stops x scope (While at c a) = whole_stmt x scope (While at c a) (while_whole x scope at c a (λ s. stmts_stops x s a))
  stmt_stops x scope (For at name e a) = whole_stmt x scope (For at name e a) (for_whole x scope at name e a (λ s. stmts_stops x s a))
  stmt_stops x scope (Try at a name b) = whole_stmt x scope (Try at a name b) (λ kinds typed. try_stops x scope at a name b (λ s. stmts_stops x s a) (λ s. stmts_stops x s b))
  stmt_stops x scope (Batch at interface root a) = whole_stmt x scope (Batch at interface root a) (λ kinds typed. batch_stops x scope at interface root a (λ s. stmts_stops x s a))

  pub stmts_stops : (x : Context) (scope : Scope) (ss : Stmts) → Stops (BrokenStmts x scope ss) (check_stmts x scope ss)
  stmts_stops x scope NoStmts = passes _ scope
  stmts_stops x scope (MoreStmts s ss) =
      bind_stops _ (check_stmt x scope s) (λ after. check_stmts x after ss) (weaker _ _ (check_stmt x scope s) (λ v b. stmt_first scope s ss v b) (stmt_stops x scope s))
      (λ after h. weaker _ _ (check_stmts x after ss) (λ v b. stmt_later scope after s ss v (typed_leads x scope s after h) b) (stmts_stops x after ss))

so_no_turns : (e : ℕ) (kind : Kind) → HasNoTurns kind → turn_kind (placed_at e kind) kind ≡ Err (WrongType e kind)
so_no_turns e (ListOf item) bad = absurd bad
so_no_turns e (RowsOf row) bad = absurd bad
so_no_turns e Int bad = refl
so_no_turns e Bool bad = refl
so_no_turns e Text bad = refl
so_no_turns e UnitKind bad = refl
so_no_turns e (Named name) bad = refl

so_plain : (x : Context) (scope : Scope) (s : Stmt) (kinds : List Kind) (v : Violation) → BreaksStmt x scope s kinds v → own_stmt x scope s (placed_as (expressions s) kinds) ≡ Err v
so_plain x scope _ _ _ (val_taken at name e kind f) = rw f refl
so_plain x scope _ _ _ (val_unit at name e kind f u) = rw f (rw u refl)
so_plain x scope _ _ _ (var_taken at name e kind f) = rw f refl
so_plain x scope _ _ _ (var_unit at name e kind f u) = rw f (rw u refl)
so_plain x scope _ _ _ (not_assignable at a b kind other f) = rw f refl
so_plain x scope _ _ _ (other_type at a b kind other f d) = rw f (rw (wanted_not kind (placed_at (expr_at b) other) d) refl)
so_plain x scope _ _ _ (not_printable at e kind f) = rw f refl
so_plain x scope _ _ _ (service_print at e kind f g) = rw f (rw g refl)
so_plain x scope _ _ _ (no_text at e kind d) = rw (wanted_not Text (placed_at (expr_at e) kind) d) refl
so_plain x scope _ _ _ (if_condition at c a b kind d) = rw (wanted_not Bool (placed_at (expr_at c) kind) d) refl
so_plain x scope _ _ _ (while_condition at c a kind d) = rw (wanted_not Bool (placed_at (expr_at c) kind) d) refl
so_plain x scope _ _ _ (for_taken at name e a kind f) = rw f refl
so_plain x scope _ _ _ (no_turns at name e a kind f bad) = rw f (rw (so_no_turns (expr_at e) kind bad) refl)
so_plain x scope _ _ _ (root_taken at interface root a f) = rw f refl
so_plain x scope _ _ _ (no_interface at interface root a f g) = rw f (rw g refl)
so_plain x scope _ _ _ (no_remote at interface root a f g h) = rw f (rw g (rw h refl))

mutual
  pub so_stmt : (x : Context) (scope : Scope) (s : Stmt) (v : Violation) → BrokenStmt x scope s v → check_stmt x scope s ≡ Err v
  so_stmt x _ _ _ (in_expression scope s v b) = parted_stmt x scope s ∙ ap (λ r. r >>= own_stmt x scope s) (all_broken x scope (expressions s) v b)
  so_stmt x _ _ _ (its_rule scope s kinds v typed r) =
      parted_stmt x scope s ∙ ap (λ t. t >>= own_stmt x scope s) (have_placed x scope (expressions s) kinds typed) ∙ so_plain x scope s kinds v r
  so_stmt x _ _ _ (in_then scope at c a b v typed m) = rw (has_typed x scope c Bool typed) (rw (so_stmts x scope a v m) refl)
  so_stmt x _ _ _ (in_else scope after at c a b v typed first m) = rw (has_typed x scope c Bool typed) (rw (lead_all x scope a after first) (rw (so_stmts x scope b v m) refl))
  so_stmt x _ _ _ (in_while scope at c a v typed m) = rw (has_typed x scope c Bool typed) (rw (so_stmts x scope a v m) refl)
  so_stmt x _ _ _ (in_items scope at name e a kind v typed free m) =
      rw (has_typed x scope e (ListOf kind) typed) (rw free (rw (so_stmts x (with_variable scope name kind true) a v m) refl))
  so_stmt x _ _ _ (in_rows scope at name e a kind v typed free m) =
      rw (has_typed x scope e (RowsOf kind) typed) (rw free (rw (so_stmts x (with_variable scope name kind true) a v m) refl))
  so_stmt x _ _ _ (in_try scope at a name b v m) = rw (so_stmts x scope a v m) refl
  so_stmt x _ _ _ (catch_taken scope after at a name b first free) = rw (lead_all x scope a after first) (rw free refl)
  so_stmt x _ _ _ (in_catch scope after at a name b v first free m) =
      rw (lead_all x scope a after first) (rw free (rw (so_stmts x (with_variable scope name Text true) b v m) refl))
  so_stmt x _ _ _ (in_batch scope at interface root a v free found may m) =
      rw (batch_so x scope at interface root free found may) (rw (so_stmts x (with_variable scope root (Named interface) true) a v m) refl)

  pub so_stmts : (x : Context) (scope : Scope) (ss : Stmts) (v : Violation) → BrokenStmts x scope ss v → check_stmts x scope ss ≡ Err v
  so_stmts x _ _ _ (stmt_first scope s ss v b) = rw (so_stmt x scope s v b) refl
  so_stmts x _ _ _ (stmt_later scope middle s ss v leads b) = rw (leads_typed x scope s middle leads) (so_stmts x middle ss v b)

pub stmts_broken : (x : Context) (scope : Scope) (ss : Stmts) (v : Violation) → check_stmts x scope ss ≡ Err v → BrokenStmts x scope ss v
stmts_broken x scope ss v h = let s = stmts_stops x scope ss in s.by v h
