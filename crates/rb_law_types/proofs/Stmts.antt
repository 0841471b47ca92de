-- Typed statements keep types.
use Rattle.std.proofs.Common.{◌≡◌, ◌⊎◌, inl, inr, refl, sym, ap, ◌∙◌, subst, ℕ, zero, suc, List, [], ◌∷◌, length, arith, ◌++◌, Bool as Truth, true, false, not, cond, All, Option, Some, None, is_some, Result, Ok, Err}
use Rattle.std.proofs.lemmas.Bool.{not-true}
use Rattle.std.proofs.lemmas.List.Elements.{All-head, All-tail, Contains-append_left, Contains-append_right}
use Rattle.std.specs.List.{Contains}
use Rattle.std.specs.Str.{bytes_eq}
use Rattle.rb_trees.specs.Named.{replaced}
use Rattle.rb_trees.specs.Outcome.{◌>>=◌, ◌>>◌, known, must}
use Rattle.rb_trees.specs.declared.values.Value.{Value}
use Rattle.rb_trees.specs.declared.values.Value.TheOpen.{Value-F}
use Rattle.rb_trees.specs.declared.values.Value.TheVariants as value
use Rattle.rb_trees.specs.declared.values.Value.TheViews.{out-Value}
use Rattle.rb_trees.specs.declared.values.Fault.{Fault}
use Rattle.rb_trees.specs.declared.outcomes.Raised.{Raised}
use Rattle.rb_trees.specs.declared.services.Object.{Object}
use Rattle.rb_trees.specs.mirror.Code.{Expr, Stmt, Stmts, Name, This, Field, Val, Var, Assign, Run, Print, Throw, If, While, For, Try, Batch, NoStmts, MoreStmts, expr_at}
use Rattle.rb_trees.specs.mirror.Declarations.{Interface, Body}
use Rattle.rb_meaning_types.specs.Kinds as kind
use Rattle.rb_meaning_types.specs.Kinds.{Kind, is_primitive, is_unit}
use Rattle.rb_meaning_types.specs.Names.{interface_named}
use Rattle.rb_meaning_types.specs.Violations.{Checked, Placed, UnknownName, NameTaken, NotAssignable, NotAllowedHere, wanted, wrong_type, with_place}
use Rattle.rb_meaning_types.specs.Declared.{Declarations, Context, is_interface}
use Rattle.rb_meaning_types.specs.Scopes.{Scope, Variable, variable_named, is_free, with_variable}
use Rattle.rb_meaning_types.specs.Expressions.{type_of}
use Rattle.rb_meaning_types.specs.Members.{field_kind}
use Rattle.rb_meaning_types.specs.Notes.{scope_or}
use Rattle.rb_meaning_types.specs.Statements.{placed, condition, declare, is_assignable, assign, is_printable, turn_kind, loop_scope, catch_scope, batch_scope, closed, check_stmt, check_stmts}
use Rattle.rb_meaning_types.specs.Fits.{classes_of, IsIntValue, IsBoolValue, IsTextValue, AreItems, AreRows, Fits, this_name, frame_scope, NamesFit}
use Rattle.rb_meaning_code.specs.State.{Local, bound, spent}
use Rattle.rb_meaning_code.specs.Faults.{raised, fuel_used, caught_text, is_caught}
use Rattle.rb_meaning_code.specs.Operators.{shown_value}
use Rattle.rb_meaning_code.specs.Dialogue.{Question, Line, Turn, ListTurn, Outcome, Gave, Faulted, Dialogue, Done, Ask, next, gives, told}
use Rattle.rb_meaning_code.specs.Dialogue as dialogue
use Rattle.rb_meaning_code.specs.Objects.{with_field_of}
use Rattle.rb_meaning_code.specs.Calls.{Bodies, unit_due}
use Rattle.rb_meaning_code.specs.Expressions.{value_of, evaluates}
use Rattle.rb_meaning_code.specs.Statements.{Effect, nothing, block, truth_of, either, by_truth, after_unit, while_turns, turns_over, list_turn, row_turn, turns, prints, throws, handles, assigned, assigns, writes, assignment, performs, performs_all}
use Rattle.rb_law_types.specs.Kept.{IsRuleFault, Fair}
use Rattle.rb_law_types.specs.Formed.{IsFormedExpr, IsFormedStmt, AreFormedStmts}
use Rattle.rb_law_types.specs.Own.{IsOwnKind, IsOwnPlace}
use Rattle.rb_law_types.specs.Ends.{Grown, LocalFits, Ends, OfKind, Nothing}
use Rattle.rb_law_types.specs.Asked.{Site, Side, Own, InBatch, IsFar, IsNear, MayAsk, IsAnswer, Keeps}
use Rattle.rb_law_types.specs.Batches.{sites, sites_in, MayHold, AreAmong}
use Rattle.rb_law_types.specs.Code.{IsBatchStmt, AreBatchStmts}
use Rattle.rb_law_types.proofs.Checks.{bind_ok, then_ok, known_ok, must_ok, placed_ok, wanted_ok}
use Rattle.rb_law_types.proofs.Values.{of_class, grown_same, grown_on, fits_more, all_more, names_less, names_added, frame_longer, text_fits}
use Rattle.rb_law_types.proofs.Faults.{plain_rule, thrown_rule, rule_fits, text_of_fault, caught_is_text, SomeIs}
use Rattle.rb_law_types.proofs.Results.{conditions_hold}
use Rattle.rb_law_types.proofs.Known.{Known, class_apart}
use Rattle.rb_law_types.proofs.OwnKinds.{field_ok, type_own, place_added}
use Rattle.rb_law_types.proofs.Names.{name_fits, frame_put, put_count}
use Rattle.rb_law_types.proofs.Objects.{IsWritten, write_fits}
use Rattle.rb_law_types.proofs.Exprs.{NotedExpr, SafeBodies, MayCall, unit_fair, value_runs}
use Rattle.rb_law_types.proofs.Steps.{keeps_seq, keeps_more, Within, within_same, Runs, goes, then_goes, ends, falls, helped, Closes, block_closes, block_runs}

-- what checks of statements tell

closed_ok : (scope : Scope) (r : Checked Scope) (after : Scope) → closed scope r ≡ Ok after → (inner : Scope) × (r ≡ Ok inner) × (scope ≡ after)
closed_ok scope (Ok inner) after h = (inner, refl, cc (h))
closed_ok scope (Err fault) after h = absurd (cc (h))

condition_ok : (x : Context) (scope : Scope) (c : Expr) → condition x scope c ≡ Ok tt → type_of x scope c ≡ Ok kind.Bool
condition_ok x scope c h =
    let s = placed_ok (expr_at c) (type_of x scope c) _ tt h in
    s.1 ∙ ap Ok (sym (wanted_ok kind.Bool (record { at = expr_at c; kind = s.0 }) s.2))

-- a loop goes over a list or over rows
turn_ok : (p : Placed) (k item : Kind) → turn_kind p k ≡ Ok item → (k ≡ kind.ListOf item) ⊎ (k ≡ kind.RowsOf item)
turn_ok p (kind.ListOf item') item h = let same : item' ≡ item = cc (h) in inl (ap kind.ListOf same)
turn_ok p (kind.RowsOf row) item h = let same : row ≡ item = cc (h) in inr (ap kind.RowsOf same)
turn_ok p kind.Int item h = absurd (cc (h))
turn_ok p _ item h = absurd (cc (h))

turn_own : (is : List Interface) (k item : Kind) → (k ≡ kind.ListOf item) ⊎ (k ≡ kind.RowsOf item) → IsOwnKind is k → IsOwnKind is item
turn_own is k item (inl e) own = subst (IsOwnKind is) e own
turn_own is k item (inr e) own = absurd (subst (IsOwnKind is) e own)

bind_fair : {A B : Type 0} (P : A → Type 0) (Q : B → Type 0) (r : Result A Fault) (b : B) → Fair P r → Q b → Fair Q (r >>= λ old. Ok b)
bind_fair P Q (Ok a) b h q = q
bind_fair P Q (Err f) b h q = h

throws_rule : (w : Value-F Value) → IsTextValue w → IsRuleFault (throws w)
throws_rule (Value-F.Text text) h = thrown_rule text h
throws_rule Value-F.Unit h = absurd h
throws_rule _ h = absurd h

abbrev Shown : List ℕ → Type 0
Shown bytes = Unit {0}

int_shows : (w : Value-F Value) → IsIntValue w → SomeIs Shown (shown_value w)
int_shows (Value-F.Int n) h = tt
int_shows Value-F.Unit h = absurd h
int_shows _ h = absurd h

bool_shows : (w : Value-F Value) → IsBoolValue w → SomeIs Shown (shown_value w)
bool_shows (Value-F.Bool b) h = tt
bool_shows Value-F.Unit h = absurd h
bool_shows _ h = absurd h

text_shows : (w : Value-F Value) → IsTextValue w → SomeIs Shown (shown_value w)
text_shows (Value-F.Text t) h = tt
text_shows Value-F.Unit h = absurd h
text_shows _ h = absurd h

shows : (is : List Interface) (cs : List (List ℕ)) (k : Kind) (v : Value) → is_primitive k ≡ true → Fits is cs k v → SomeIs Shown (shown_value (out-Value v))
shows is cs kind.Int v t h = int_shows (out-Value v) h
shows is cs kind.Bool v t h = bool_shows (out-Value v) h
shows is cs kind.Text v t h = text_shows (out-Value v) h
shows is cs kind.Unit v t h = absurd (cc (t))
shows is cs _ v t h = absurd (cc (t))

-- what is printed is primitive: no other type of the own side is printed
own_printed : (d : Declarations) (k : Kind) → IsOwnKind d.interfaces k → is_printable d k ≡ true → is_primitive k ≡ true
own_printed d kind.Int own t = refl
own_printed d kind.Bool own t = refl
own_printed d kind.Text own t = refl
own_printed d kind.Unit own t = absurd (cc (t))
own_printed d (kind.Named name) own t = let none : is_some (interface_named d.interfaces name) ≡ false = ap is_some own in absurd (cc (none, t))
own_printed d (kind.ListOf item) own t = absurd (cc (t))
own_printed d (kind.RowsOf row) own t = absurd own

printed : (side : Side) (d : Declarations) (k : Kind) → (IsNear side → IsOwnKind d.interfaces k) → ((types : ℕ → Option (Checked Kind)) → side ≡ InBatch types → is_primitive k ≡ true) → is_printable d k ≡ true → is_primitive k ≡ true
printed (Own batches) d k own noted t = own_printed d k (own tt) t
printed (InBatch types) d k own noted t = noted types refl

-- an interface stands in no service
no_service : (d : Declarations) → Known d → (name : List ℕ) → is_interface d name ≡ true → d.service ≡ false
no_service d known' name h = by d.service refl
  where
    by : (t : Truth) → d.service ≡ t → t ≡ false
    by false e = refl
    by true e = let none : is_some (interface_named d.interfaces name) ≡ false = ap (λ is. is_some (interface_named is name)) (known'.alone e) in absurd (cc (none, h))

-- code that may add names to its scope, from every state that fits
pub record Adds (side : Side) (x : Context) (scope after : Scope) (run : Effect) : Type 0 where
  pub sub : Within x scope after
  pub own : IsNear side → IsOwnPlace x after
  pub runs : (l : Local) → LocalFits x scope l → Runs side x scope after Nothing (classes_of l.heap) (run l)

adds_none : {side : Side} {x : Context} {scope after : Scope} (run : Effect) → scope ≡ after → (IsNear side → IsOwnPlace x scope) → ((l : Local) → LocalFits x scope l → Runs side x scope scope Nothing (classes_of l.heap) (run l)) → Adds side x scope after run
adds_none {side = side} {x = x} {scope = scope} run e own h = subst (λ s. Adds side x scope s run) e (record { sub = within_same x scope; own = own; runs = h })

-- a block of such code keeps the scope
blocked : {side : Side} {x : Context} {scope after : Scope} (run : Effect) → Adds side x scope after run → (l : Local) → LocalFits x scope l → Runs side x scope scope Nothing (classes_of l.heap) (block run l)
blocked run h l state = block_runs run state h.sub (h.runs l state)

-- a new name

pub within_added : (x : Context) (scope : Scope) (name : List ℕ) (k : Kind) (fixed : Truth) → Within x scope (with_variable scope name k fixed)
within_added x scope name k fixed cs ns h = names_less x.declared.interfaces cs x.this scope (record { name = name; kind = k; fixed = fixed } ∷ []) ns h

pub binds : (x : Context) (scope : Scope) (l : Local) (name : List ℕ) (k : Kind) (fixed : Truth) (v : Value) → LocalFits x scope l → Fits x.declared.interfaces (classes_of l.heap) k v → LocalFits x (with_variable scope name k fixed) (bound name v l)
binds x scope l name k fixed v state fits = record {
  holds = record {
    names_fit = names_added x.declared.interfaces (classes_of l.heap) x.this scope l.names (record { name = name; kind = k; fixed = fixed }) v state.count state.holds.names_fit fits;
    heap_fits = state.holds.heap_fits;
  };
  count = frame_longer x.this scope l.names (record { name = name; kind = k; fixed = fixed }) (name, v) state.count;
}

-- code that begins with a name more, seen from the scope without it
named_runs : (side : Side) (x : Context) (scope after : Scope) (name : List ℕ) (k : Kind) (fixed : Truth) (run : Effect) → Adds side x (with_variable scope name k fixed) after run
    → (l : Local) (v : Value) → LocalFits x scope l → Fits x.declared.interfaces (classes_of l.heap) k v → Runs side x scope after Nothing (classes_of l.heap) (run (bound name v l))
named_runs side x scope after name k fixed run h l v state fits =
    record { keeps = keeps_more x.declared side _ _ (run (bound name v l)) shrunk (h.runs (bound name v l) (binds x scope l name k fixed v state fits)).keeps }
  where
    shrunk : (o : Outcome (Unit {0})) → Ends x (with_variable scope name k fixed) after Nothing (classes_of l.heap) o → Ends x scope after Nothing (classes_of l.heap) o
    shrunk (Gave u l1) e = e
    shrunk (Faulted r l1) e = record { fault = e.fault; state = record { names_fit = within_added x scope name k fixed (classes_of l1.heap) l1.names e.state.names_fit; heap_fits = e.state.heap_fits }; grown = e.grown }

within_named : (x : Context) (scope after : Scope) (name : List ℕ) (k : Kind) (fixed : Truth) → Within x (with_variable scope name k fixed) after → Within x scope after
within_named x scope after name k fixed sub cs ns h = within_added x scope name k fixed cs ns (sub cs ns h)

-- answers that give no value
told_keeps : (side : Side) (x : Context) (scope : Scope) (l : Local) → LocalFits x scope l → (q : Question) (a : Result Value Raised) → IsAnswer x.declared side q a → Keeps x.declared side (Ends x scope scope Nothing (classes_of l.heap)) (told l a)
told_keeps side x scope l state q (Ok v) h = record { gives = tt; state = state; grown = grown_same (classes_of l.heap) }
told_keeps side x scope l state q (Err r) h = record { fault = h; state = state.holds; grown = grown_same (classes_of l.heap) }

prints_run : (side : Side) (x : Context) (scope : Scope) (at : ℕ) (o : Option (List ℕ)) (l : Local) → SomeIs Shown o → x.declared.service ≡ false → LocalFits x scope l → Runs side x scope scope Nothing (classes_of l.heap) (prints at o l)
prints_run side x scope at (Some bytes) l h none state = record { keeps = (none, told_keeps side x scope l state (Line at bytes)) }
prints_run side x scope at None l h none state = absurd h

-- conditions, units of fuel, loops

either_runs : (side : Side) (x : Context) (scope : Scope) (t : Truth) (f g : Effect) (l : Local) → Runs side x scope scope Nothing (classes_of l.heap) (f l) → Runs side x scope scope Nothing (classes_of l.heap) (g l) → Runs side x scope scope Nothing (classes_of l.heap) (either t f g l)
either_runs side x scope true f g l hf hg = hf
either_runs side x scope false f g l hf hg = hg

truth_runs : (side : Side) (x : Context) (scope : Scope) (at : ℕ) (v : Value) (f g : Effect) (l : Local) → LocalFits x scope l → Fits x.declared.interfaces (classes_of l.heap) kind.Bool v
    → Runs side x scope scope Nothing (classes_of l.heap) (f l) → Runs side x scope scope Nothing (classes_of l.heap) (g l) → Runs side x scope scope Nothing (classes_of l.heap) (by_truth at v f g l)
truth_runs side x scope at v f g l state fits hf hg =
    helped (λ (b : Truth). Unit {0}) at (truth_of (out-Value v)) _ state (conditions_hold x.declared.interfaces (classes_of l.heap) v fits) (λ b h. either_runs side x scope b f g l hf hg)

unit_runs : (side : Side) (x : Context) (scope : Scope) (at : ℕ) (go : Effect) (l : Local) → LocalFits x scope l → (LocalFits x scope (spent l) → Runs side x scope scope Nothing (classes_of l.heap) (go (spent l))) → Runs side x scope scope Nothing (classes_of l.heap) (after_unit at go l)
unit_runs side x scope at go l state h =
    helped (λ (u : Unit {0}). Unit {0}) at (unit_due l.fuel) _ state (unit_fair l.fuel) (λ u h1. h (record { holds = record { names_fit = state.holds.names_fit; heap_fits = state.holds.heap_fits }; count = state.count }))

while_runs : (side : Side) (x : Context) (scope : Scope) (gas at : ℕ) (test : Local → dialogue.Run Value) (body : Effect)
    → ((l1 : Local) → LocalFits x scope l1 → Runs side x scope scope (OfKind x kind.Bool) (classes_of l1.heap) (test l1))
    → ((l1 : Local) → LocalFits x scope l1 → Runs side x scope scope Nothing (classes_of l1.heap) (body l1))
    → (l : Local) → LocalFits x scope l → Runs side x scope scope Nothing (classes_of l.heap) (while_turns gas at test body l)
while_runs side x scope zero at test body ht hb l state = falls (raised fuel_used at) (rule_fits x.declared (raised fuel_used at) (plain_rule 7 (omega arith) (omega arith))) state (grown_same (classes_of l.heap))
while_runs side x scope (suc gas) at test body ht hb l state =
    then_goes _ (ht l state) (λ v l1 fv state1 g1.
    truth_runs side x scope at v _ nothing l1 state1 fv
    (unit_runs side x scope at (λ l2. next (body l2) (λ u l3. while_turns gas at test body l3)) l1 state1 (λ state2.
    then_goes _ (hb (spent l1) state2) (λ u l3 h3 state3 g3.
    while_runs side x scope gas at test body ht hb l3 state3)))
    (ends tt tt state1 (grown_same (classes_of l1.heap))))

list_turn_runs : (side : Side) (x : Context) (scope : Scope) (at : ℕ) (l : Local) → LocalFits x scope l → Runs side x scope scope Nothing (classes_of l.heap) (list_turn at l)
list_turn_runs side x scope at l state = unit_runs side x scope at (λ l1. Ask (ListTurn at) (told l1)) l state (λ state1. record { keeps = (tt, told_keeps side x scope (spent l) state1 (ListTurn at)) })

row_turn_runs : (side : Side) (x : Context) (scope : Scope) (at : ℕ) → IsFar side → (l : Local) → LocalFits x scope l → Runs side x scope scope Nothing (classes_of l.heap) (row_turn at l)
row_turn_runs side x scope at far l state = record { keeps = (far, told_keeps side x scope l state (Turn at)) }

over_runs : (side : Side) (x : Context) (scope after : Scope) (begins : Effect) (name : List ℕ) (item : Kind) (statements : Effect)
    → ((l : Local) → LocalFits x scope l → Runs side x scope scope Nothing (classes_of l.heap) (begins l)) → Adds side x (with_variable scope name item true) after statements
    → (vs : List Value) (l : Local) → All (Fits x.declared.interfaces (classes_of l.heap) item) vs → LocalFits x scope l → Runs side x scope scope Nothing (classes_of l.heap) (turns_over begins name vs statements l)
over_runs side x scope after begins name item statements b h [] l each state = ends tt tt state (grown_same (classes_of l.heap))
over_runs side x scope after begins name item statements b h (v ∷ vs) l each state =
    let is = x.declared.interfaces in
    then_goes _ (b l state) (λ u l1 h1 state1 g1.
    let fv = fits_more is (classes_of l.heap) (classes_of l1.heap) g1 item v (All-head (Fits is (classes_of l.heap) item) v vs each) in
    then_goes _ (block_runs (λ l2. statements (bound name v l2)) state1 (within_named x scope after name item true h.sub) (named_runs side x scope after name item true statements h l1 v state1 fv)) (λ w l3 h3 state3 g3.
    over_runs side x scope after begins name item statements b h vs l3
    (all_more is (classes_of l.heap) (classes_of l3.heap) (grown_on (classes_of l.heap) (classes_of l1.heap) (classes_of l3.heap) g1 g3) item vs (All-tail (Fits is (classes_of l.heap) item) v vs each)) state3))

list_turns_run : (side : Side) (x : Context) (scope after : Scope) (at : ℕ) (name : List ℕ) (item : Kind) (statements : Effect) → Adds side x (with_variable scope name item true) after statements
    → (w : Value-F Value) (l : Local) → AreItems (Fits x.declared.interfaces (classes_of l.heap) item) w → LocalFits x scope l → Runs side x scope scope Nothing (classes_of l.heap) (turns at name w statements l)
list_turns_run side x scope after at name item statements h (Value-F.List items) l each state = over_runs side x scope after (list_turn at) name item statements (list_turn_runs side x scope at) h items l each.1 state
list_turns_run side x scope after at name item statements h Value-F.Unit l each state = absurd each
list_turns_run side x scope after at name item statements h _ l each state = absurd each

row_turns_run : (side : Side) (x : Context) (scope after : Scope) (at : ℕ) (name : List ℕ) (item : Kind) (statements : Effect) → IsFar side → Adds side x (with_variable scope name item true) after statements
    → (w : Value-F Value) (l : Local) → AreRows (Fits x.declared.interfaces (classes_of l.heap) item) w → LocalFits x scope l → Runs side x scope scope Nothing (classes_of l.heap) (turns at name w statements l)
row_turns_run side x scope after at name item statements far h (Value-F.Rows rows) l each state = over_runs side x scope after (row_turn at) name item statements (row_turn_runs side x scope at far) h rows l each state
row_turns_run side x scope after at name item statements far h Value-F.Unit l each state = absurd each
row_turns_run side x scope after at name item statements far h _ l each state = absurd each

rows_far : (side : Side) (is : List Interface) (k item : Kind) → (IsNear side → IsOwnKind is k) → k ≡ kind.RowsOf item → IsFar side
rows_far (Own batches) is k item own e = absurd (subst (IsOwnKind is) e (own tt))
rows_far (InBatch types) is k item own e = tt

turns_run : (side : Side) (x : Context) (scope after : Scope) (at : ℕ) (name : List ℕ) (k item : Kind) (statements : Effect) → (IsNear side → IsOwnKind x.declared.interfaces k) → (k ≡ kind.ListOf item) ⊎ (k ≡ kind.RowsOf item)
    → Adds side x (with_variable scope name item true) after statements
    → (v : Value) (l : Local) → Fits x.declared.interfaces (classes_of l.heap) k v → LocalFits x scope l → Runs side x scope scope Nothing (classes_of l.heap) (turns at name (out-Value v) statements l)
turns_run side x scope after at name k item statements own (inl e) h v l fv state =
    list_turns_run side x scope after at name item statements h (out-Value v) l (subst (λ m. Fits x.declared.interfaces (classes_of l.heap) m v) e fv) state
turns_run side x scope after at name k item statements own (inr e) h v l fv state =
    row_turns_run side x scope after at name item statements (rows_far side x.declared.interfaces k item own e) h (out-Value v) l (subst (λ m. Fits x.declared.interfaces (classes_of l.heap) m v) e fv) state

-- what a handler does after a block

handles_keep : (side : Side) (x : Context) (scope after : Scope) (cs : List (List ℕ)) (name : List ℕ) (handler : Effect) → Adds side x (with_variable scope name kind.Text true) after handler
    → (o : Outcome (Unit {0})) → Closes x scope cs o → Keeps x.declared side (Ends x scope scope Nothing cs) (handles name handler o)
handles_keep side x scope after cs name handler h (Gave u l) e = record { gives = tt; state = e.state; grown = e.grown }
handles_keep side x scope after cs name handler h (Faulted r l) e = by (is_caught r)
  where
    text : Value
    text = value.Text (caught_text r.fault)

    fits : Fits x.declared.interfaces (classes_of l.heap) kind.Text text
    fits = text_fits x.declared.interfaces (classes_of l.heap) (caught_text r.fault) (caught_is_text r.fault (text_of_fault x.declared r e.0))

    wider : (o : Outcome (Unit {0})) → Closes x scope (classes_of l.heap) o → Ends x scope scope Nothing cs o
    wider (Gave u l1) c = record { gives = tt; state = c.state; grown = grown_on cs (classes_of l.heap) (classes_of l1.heap) e.1.grown c.grown }
    wider (Faulted r1 l1) c = record { fault = c.0; state = c.1.state.holds; grown = grown_on cs (classes_of l.heap) (classes_of l1.heap) e.1.grown c.1.grown }

    by : (t : Truth) → Keeps x.declared side (Ends x scope scope Nothing cs) (cond t (block (λ l1. handler (bound name text l1)) l) (Done (Faulted r l)))
    by true = keeps_more x.declared side (Closes x scope (classes_of l.heap)) (Ends x scope scope Nothing cs) (block (λ l1. handler (bound name text l1)) l) wider
        (block_closes (λ l1. handler (bound name text l1)) e.1.state (within_named x scope after name kind.Text true h.sub) (named_runs side x scope after name kind.Text true handler h l text e.1.state fits))
    by false = record { fault = e.0; state = e.1.state.holds; grown = e.1.grown }

-- assignments

assigns_run : (side : Side) (x : Context) (scope : Scope) (at : ℕ) (name : List ℕ) (v : Variable) (a : Value) (l : Local) → bytes_eq this_name name ≡ false → variable_named scope name ≡ Some v → LocalFits x scope l
    → Fits x.declared.interfaces (classes_of l.heap) v.kind a → Runs side x scope scope Nothing (classes_of l.heap) (assigns at name a l)
assigns_run side x scope at name v a l plain found state fits =
    let is = x.declared.interfaces in
    helped (λ names. names ≡ replaced l.names name a) at (assigned l.names name a) _ state
    (bind_fair (Fits is (classes_of l.heap) v.kind) (λ names. names ≡ replaced l.names name a) (value_of l.names name) (replaced l.names name a) (name_fits is (classes_of l.heap) x.this scope l.names name v plain state.holds.names_fit found) refl) (λ names same.
    ends tt tt (record {
      holds = record {
        names_fit = subst (NamesFit is (classes_of l.heap) (frame_scope x.this scope)) (sym same) (frame_put is (classes_of l.heap) x.this scope l.names name v a plain state.holds.names_fit found fits);
        heap_fits = state.holds.heap_fits;
      };
      count = state.count ∙ put_count l.names name a ∙ ap length (sym same);
    }) (grown_same (classes_of l.heap)))

-- the state where a heap of the same classes stands
rewritten : (x : Context) (scope : Scope) (l : Local) (heap : List Object) → LocalFits x scope l → IsWritten x.declared.interfaces x.declared.classes l.heap heap → LocalFits x scope (record l { heap = heap })
rewritten x scope l heap state w = record {
  holds = record { names_fit = subst (λ cs. NamesFit x.declared.interfaces cs (frame_scope x.this scope) l.names) (sym w.same) state.holds.names_fit; heap_fits = w.heap_fits };
  count = state.count;
}

writes_run : (side : Side) (x : Context) → Known x.declared → (scope : Scope) (at placed_at : ℕ) (object : Value) (name : List ℕ) (p : Placed) (k : Kind) (a : Value) (l : Local) → field_kind x.declared placed_at name p ≡ Ok k → LocalFits x scope l
    → Fits x.declared.interfaces (classes_of l.heap) p.kind object → Fits x.declared.interfaces (classes_of l.heap) k a → Runs side x scope scope Nothing (classes_of l.heap) (writes at object name a l)
writes_run side x known' scope at placed_at object name p k a l t state on_it fits =
    let is = x.declared.interfaces in
    let d = field_ok x.declared placed_at name p k t in
    helped (IsWritten is x.declared.classes l.heap) at (with_field_of l.heap (out-Value object) name a) _ state
    (write_fits is x.declared.classes l.heap state.holds.heap_fits (out-Value object) d.class d.of_class name d.field a
    (of_class is (classes_of l.heap) d.class object (class_apart x.declared known' d.class d.of_class d.found) (subst (λ m. Fits is (classes_of l.heap) m object) d.receiver on_it))
    d.found d.there (subst (λ m. Fits is (classes_of l.heap) m a) (sym d.same) fits)) (λ heap w.
    ends tt tt (rewritten x scope l heap state w) (subst (Grown (classes_of l.heap)) (sym w.same) (grown_same (classes_of l.heap))))

-- code in a batch is noted and admitted, and other code asks the batches that it may
abbrev pub NotedStmt : Side → Context → Scope → Stmt → Type 0
NotedStmt side x scope s = (types : ℕ → Option (Checked Kind)) → side ≡ InBatch types → IsBatchStmt types x scope s

abbrev pub NotedStmts : Side → Context → Scope → Stmts → Type 0
NotedStmts side x scope ss = (types : ℕ → Option (Checked Kind)) → side ≡ InBatch types → AreBatchStmts types x scope ss

abbrev pub KnownStmt : Side → Context → Scope → Stmt → Type 0
KnownStmt side x scope s = (batches : List Site) → side ≡ Own batches → MayHold x → AreAmong batches (sites x scope s)

abbrev pub KnownStmts : Side → Context → Scope → Stmts → Type 0
KnownStmts side x scope ss = (batches : List Site) → side ≡ Own batches → MayHold x → AreAmong batches (sites_in x scope ss)

first_among : (batches xs ys : List Site) → AreAmong batches (xs ++ ys) → AreAmong batches xs
first_among batches xs ys h b is = h b (Contains-append_left xs ys b is)

rest_among : (batches xs ys : List Site) → AreAmong batches (xs ++ ys) → AreAmong batches ys
rest_among batches xs ys h b is = h b (Contains-append_right xs ys b is)

-- a batch that is among those may be asked, and none that stands in a batch
here_first : (b : Site) (bs : List Site) → Contains (b ∷ bs) b
here_first b bs = (0, omega arith, refl)

may_ask : (side : Side) (x : Context) (scope : Scope) (at : ℕ) (interface root : List ℕ) (block : Stmts) → NotedStmt side x scope (Batch at interface root block) → KnownStmt side x scope (Batch at interface root block) → MayHold x
    → MayAsk side (record { at = at; interface = interface; root = root; block = block; place = record { this = x.this; remote = x.remote; scope = scope } })
may_ask (Own batches) x scope at interface root block n b holds = b batches refl holds _ (here_first _ [])
may_ask (InBatch types) x scope at interface root block n b holds = absurd (n types refl).1

-- the scope of a loop's block, as the judgement gives it
loop_is : (x : Context) (scope : Scope) (at : ℕ) (name : List ℕ) (e : Expr) (k : Kind) (inner : Scope) → type_of x scope e ≡ Ok k → loop_scope scope at name (record { at = expr_at e; kind = k }) ≡ Ok inner
    → (placed x scope e >>= λ p. loop_scope scope at name p) ≡ Ok inner
loop_is x scope at name e k inner t h = ap (λ r. with_place (expr_at e) r >>= λ p. loop_scope scope at name p) t ∙ h

module _ (side : Side) (x : Context) (known' : Known x.declared) (all : Truth) (run : ℕ → Body → Local → dialogue.Run Value) (run_ok : SafeBodies x.declared side all run) (may : MayCall side x all) where
  abbrev bodies : Bodies
  bodies = record { classes = x.declared.classes; run = run }

  abbrev is : List Interface
  is = x.declared.interfaces

  pub here : (scope : Scope) → (IsNear side → IsOwnPlace x scope) → (e : Expr) (l : Local) (k : Kind) → type_of x scope e ≡ Ok k → IsFormedExpr e → NotedExpr side x scope e → LocalFits x scope l → Runs side x scope scope (OfKind x k) (classes_of l.heap) (evaluates bodies e l)
  here scope own = value_runs side x known' all run run_ok scope own may

  declares : (scope after : Scope) → (IsNear side → IsOwnPlace x scope) → (at : ℕ) (name : List ℕ) (fixed : Truth) (e : Expr) → (placed x scope e >>= λ p. declare scope at name fixed p) ≡ Ok after → IsFormedExpr e → NotedExpr side x scope e
      → Adds side x scope after (λ l. next (evaluates bodies e l) (λ v l1. nothing (bound name v l1)))
  declares scope after own at name fixed e h f n =
      let s = placed_ok (expr_at e) (type_of x scope e) _ after h in
      let t = then_ok (must (is_free scope name) (NameTaken at) >> must (not (is_unit s.0)) (wrong_type (record { at = expr_at e; kind = s.0 }))) (Ok (with_variable scope name s.0 fixed)) after s.2 in
      let same : with_variable scope name s.0 fixed ≡ after = cc (t.1) in
      subst (λ w. Adds side x scope w (λ l. next (evaluates bodies e l) (λ v l1. nothing (bound name v l1)))) same
      (record {
        sub = within_added x scope name s.0 fixed;
        own = λ own_side. place_added x scope (record { name = name; kind = s.0; fixed = fixed }) (own own_side) (type_own x known' scope (own own_side) e s.0 s.1);
        runs = λ l state. then_goes _ (here scope own e l s.0 s.1 f n state) (λ v l1 fv state1 g1. ends tt tt (binds x scope l1 name s.0 fixed v state1 fv) (grown_same (classes_of l1.heap)));
      })

  -- what an assignment's check tells
  assign_ok : (scope after : Scope) (at : ℕ) (left right : Expr) → (placed x scope left >>= λ p. placed x scope right >>= λ q. assign scope at left p q) ≡ Ok after
      → (k : Kind) × (type_of x scope left ≡ Ok k) × (type_of x scope right ≡ Ok k) × (is_assignable scope left ≡ true) × (scope ≡ after)
  assign_ok scope after at left right h =
      let s = placed_ok (expr_at left) (type_of x scope left) _ after h in
      let u = placed_ok (expr_at right) (type_of x scope right) _ after s.2 in
      let q : Placed = record { at = expr_at right; kind = u.0 } in
      let t = then_ok (must (is_assignable scope left) (NotAssignable at) >> wanted s.0 q) (Ok scope) after u.2 in
      let w = then_ok (must (is_assignable scope left) (NotAssignable at)) (wanted s.0 q) tt t.0 in
      (s.0, s.1, u.1 ∙ ap Ok (sym (wanted_ok s.0 q w.1)), must_ok (is_assignable scope left) (NotAssignable at) w.0, cc (t.1))

  assign_runs : (scope after : Scope) → (IsNear side → IsOwnPlace x scope) → (at : ℕ) (left right : Expr) → (placed x scope left >>= λ p. placed x scope right >>= λ q. assign scope at left p q) ≡ Ok after
      → IsFormedExpr left → IsFormedExpr right → NotedExpr side x scope left → NotedExpr side x scope right → Adds side x scope after (assignment bodies at left right)
  assign_runs scope after own at (Name place name) right h f g m n =
      let a = assign_ok scope after at (Name place name) right h in
      let s = bind_ok (known (UnknownName place) (variable_named scope name)) _ a.0 a.1 in
      let same : (s.0).kind ≡ a.0 = cc (s.2) in
      adds_none _ a.4 own (λ l state. then_goes _ (here scope own right l a.0 a.2 g n state) (λ v l1 fv state1 g1.
      assigns_run side x scope place name s.0 v l1 f (known_ok (UnknownName place) (variable_named scope name) s.0 s.1) state1 (subst (λ m. Fits is (classes_of l1.heap) m v) (sym same) fv)))
  assign_runs scope after own at (Field place object name) right h f g m n =
      let a = assign_ok scope after at (Field place object name) right h in
      let s = placed_ok (expr_at object) (type_of x scope object) _ a.0 a.1 in
      adds_none _ a.4 own (λ l state. then_goes _ (here scope own object l s.0 s.1 f (λ ts e. ((m ts e).0.1, (m ts e).1)) state) (λ y l1 fy state1 g1.
      then_goes _ (here scope own right l1 a.0 a.2 g n state1) (λ v l2 fv state2 g2.
      writes_run side x known' scope place place y name (record { at = expr_at object; kind = s.0 }) a.0 v l2 s.2 state2 (fits_more is (classes_of l1.heap) (classes_of l2.heap) g2 s.0 y fy) fv)))
  assign_runs scope after own at (This place) right h f g m n = let a = assign_ok scope after at (This place) right h in absurd (cc (a.3))
  assign_runs scope after own at left right h f g m n = let a = assign_ok scope after at left right h in absurd (cc (a.3))

  mutual
    pub stmt_runs : (s : Stmt) (gas : ℕ) (scope after : Scope) → (IsNear side → IsOwnPlace x scope) → check_stmt x scope s ≡ Ok after → IsFormedStmt s → NotedStmt side x scope s → KnownStmt side x scope s → Adds side x scope after (performs bodies gas s)
    stmt_runs (Val at name e) gas scope after own h f n b' = declares scope after own at name true e h f n
    stmt_runs (Var at name e) gas scope after own h f n b' = declares scope after own at name false e h f n
    stmt_runs (Assign at left right) gas scope after own h f n b' = assign_runs scope after own at left right h f.0 f.1 (λ ts e. ((n ts e).0.0, (n ts e).1.0)) (λ ts e. ((n ts e).0.1, (n ts e).1.1))
    stmt_runs (Run at e) gas scope after own h f n b' =
        let s = placed_ok (expr_at e) (type_of x scope e) _ after h in
        adds_none _ (cc (s.2)) own (λ l state. then_goes _ (here scope own e l s.0 s.1 f n state) (λ v l1 fv state1 g1. ends tt tt state1 (grown_same (classes_of l1.heap))))
    stmt_runs (Print at e) gas scope after own h f n b' =
        let s = placed_ok (expr_at e) (type_of x scope e) _ after h in
        let p : Placed = record { at = expr_at e; kind = s.0 } in
        let t = then_ok (must (is_printable x.declared s.0) (wrong_type p) >> must (not x.declared.service) (NotAllowedHere at)) (Ok scope) after s.2 in
        let u = then_ok (must (is_printable x.declared s.0) (wrong_type p)) (must (not x.declared.service) (NotAllowedHere at)) tt t.0 in
        let none = not-true x.declared.service (must_ok (not x.declared.service) (NotAllowedHere at) u.1) in
        let primitive = printed side x.declared s.0 (λ own_side. type_own x known' scope (own own_side) e s.0 s.1) (λ ts e'. (n ts e').1.1 s.0 s.1) (must_ok (is_printable x.declared s.0) (wrong_type p) u.0) in
        adds_none _ (cc (t.1)) own (λ l state. then_goes _ (here scope own e l s.0 s.1 f (λ ts e'. ((n ts e').0, (n ts e').1.0)) state) (λ v l1 fv state1 g1.
        prints_run side x scope at (shown_value (out-Value v)) l1 (shows is (classes_of l1.heap) s.0 v primitive fv) none state1))
    stmt_runs (Throw at e) gas scope after own h f n b' =
        let s = placed_ok (expr_at e) (type_of x scope e) _ after h in
        let p : Placed = record { at = expr_at e; kind = s.0 } in
        let t = then_ok (wanted kind.Text p) (Ok scope) after s.2 in
        adds_none _ (cc (t.1)) own (λ l state. then_goes _ (here scope own e l s.0 s.1 f n state) (λ v l1 fv state1 g1.
        let rule_fault = throws_rule (out-Value v) (subst (λ m. Fits is (classes_of l1.heap) m v) (sym (wanted_ok kind.Text p t.0)) fv) in
        falls (raised (throws (out-Value v)) at) (rule_fits x.declared (raised (throws (out-Value v)) at) rule_fault) state1 (grown_same (classes_of l1.heap))))
    stmt_runs (If at c a b) gas scope after own h f n b' =
        let t = bind_ok (condition x scope c >> closed scope (check_stmts x scope a)) _ after h in
        let u = then_ok (condition x scope c) (closed scope (check_stmts x scope a)) t.0 t.1 in
        let ca = closed_ok scope (check_stmts x scope a) t.0 u.1 in
        let cb = closed_ok scope (check_stmts x scope b) after t.2 in
        adds_none _ cb.2 own (λ l state. then_goes _ (here scope own c l kind.Bool (condition_ok x scope c u.0) f.0 (λ ts e. ((n ts e).0.0, (n ts e).1.0)) state) (λ v l1 fv state1 g1.
        truth_runs side x scope at v (block (performs_all bodies gas a)) (block (performs_all bodies gas b)) l1 state1 fv
        (blocked (performs_all bodies gas a) (stmts_run a gas scope ca.0 own ca.1 f.1 (λ ts e. ((n ts e).0.1, (n ts e).1.1)) (λ bs e holds. first_among bs (sites_in x scope a) (sites_in x scope b) (b' bs e holds))) l1 state1)
        (blocked (performs_all bodies gas b) (stmts_run b gas scope cb.0 own cb.1 f.2 (λ ts e. ((n ts e).0.2, (n ts e).1.2)) (λ bs e holds. rest_among bs (sites_in x scope a) (sites_in x scope b) (b' bs e holds))) l1 state1)))
    stmt_runs (While at c a) gas scope after own h f n b' =
        let u = then_ok (condition x scope c) (closed scope (check_stmts x scope a)) after h in
        let ca = closed_ok scope (check_stmts x scope a) after u.1 in
        adds_none _ ca.2 own (while_runs side x scope (suc gas) at (evaluates bodies c) (block (performs_all bodies gas a))
        (λ l1 state1. here scope own c l1 kind.Bool (condition_ok x scope c u.0) f.0 (λ ts e. ((n ts e).0.0, (n ts e).1.0)) state1)
        (blocked (performs_all bodies gas a) (stmts_run a gas scope ca.0 own ca.1 f.1 (λ ts e. ((n ts e).0.1, (n ts e).1.1)) b')))
    stmt_runs (For at name e a) gas scope after own h f n b' =
        let s = placed_ok (expr_at e) (type_of x scope e) _ after h in
        let p : Placed = record { at = expr_at e; kind = s.0 } in
        let t = bind_ok (loop_scope scope at name p) _ after s.2 in
        let u = bind_ok (must (is_free scope name) (NameTaken at) >> turn_kind p s.0) _ t.0 t.1 in
        let w = then_ok (must (is_free scope name) (NameTaken at)) (turn_kind p s.0) u.0 u.1 in
        let own_list = λ (own_side : IsNear side). type_own x known' scope (own own_side) e s.0 s.1 in
        let over = turn_ok p s.0 u.0 w.1 in
        let same : with_variable scope name u.0 true ≡ t.0 = cc (u.2) in
        let ca = closed_ok scope (check_stmts x t.0 a) after t.2 in
        let own_inner = λ (own_side : IsNear side). place_added x scope (record { name = name; kind = u.0; fixed = true }) (own own_side) (turn_own is s.0 u.0 over (own_list own_side)) in
        let ra = stmts_run a gas (with_variable scope name u.0 true) ca.0 own_inner (subst (λ inner. check_stmts x inner a ≡ Ok ca.0) (sym same) ca.1) f.1
        (λ ts e'. subst (λ inner. AreBatchStmts ts x inner a) (ap (scope_or scope) (loop_is x scope at name e s.0 t.0 s.1 t.1) ∙ sym same) ((n ts e').0.1, (n ts e').1.1))
        (λ bs e' holds. subst (λ inner. AreAmong bs (sites_in x inner a)) (ap (scope_or scope) (loop_is x scope at name e s.0 t.0 s.1 t.1) ∙ sym same) (b' bs e' holds)) in
        adds_none _ ca.2 own (λ l state. then_goes _ (here scope own e l s.0 s.1 f.0 (λ ts e'. ((n ts e').0.0, (n ts e').1.0)) state) (λ v l1 fv state1 g1.
        turns_run side x scope ca.0 at name s.0 u.0 (performs_all bodies gas a) own_list over ra v l1 fv state1))
    stmt_runs (Try at a name b) gas scope after own h f n b' =
        let t = bind_ok (closed scope (check_stmts x scope a)) _ after h in
        let ca = closed_ok scope (check_stmts x scope a) t.0 t.1 in
        let u = bind_ok (catch_scope scope at name) _ after t.2 in
        let w = then_ok (must (is_free scope name) (NameTaken at)) (Ok (with_variable scope name kind.Text true)) u.0 u.1 in
        let same : with_variable scope name kind.Text true ≡ u.0 = cc (w.1) in
        let cb = closed_ok scope (check_stmts x u.0 b) after u.2 in
        let ra = stmts_run a gas scope ca.0 own ca.1 f.0 (λ ts e. ((n ts e).0.0, (n ts e).1.0)) (λ bs e holds. first_among bs (sites_in x scope a) (sites_in x (scope_or scope (catch_scope scope at name)) b) (b' bs e holds)) in
        let own_inner = λ (own_side : IsNear side). place_added x scope (record { name = name; kind = kind.Text; fixed = true }) (own own_side) tt in
        let rb = stmts_run b gas (with_variable scope name kind.Text true) cb.0 own_inner (subst (λ inner. check_stmts x inner b ≡ Ok cb.0) (sym same) cb.1) f.1
        (λ ts e. subst (λ inner. AreBatchStmts ts x inner b) (ap (scope_or scope) u.1 ∙ sym same) ((n ts e).0.1, (n ts e).1.1))
        (λ bs e holds. subst (λ inner. AreAmong bs (sites_in x inner b)) (ap (scope_or scope) u.1 ∙ sym same) (rest_among bs (sites_in x scope a) (sites_in x (scope_or scope (catch_scope scope at name)) b) (b' bs e holds))) in
        adds_none _ cb.2 own (λ l state. record {
          keeps = keeps_seq x.declared side (Closes x scope (classes_of l.heap)) _ (block (performs_all bodies gas a) l) (handles name (performs_all bodies gas b))
              (block_closes (performs_all bodies gas a) state ra.sub (ra.runs l state))
              (handles_keep side x scope cb.0 (classes_of l.heap) name (performs_all bodies gas b) rb);
        })
    stmt_runs (Batch at interface root a) gas scope after own h f n b' =
        let t = bind_ok (batch_scope x scope at interface root) _ after h in
        let u = then_ok (must (is_free scope root) (NameTaken at) >> must (is_interface x.declared interface) (UnknownName at) >> must x.remote (NotAllowedHere at)) _ t.0 t.1 in
        let w = then_ok (must (is_free scope root) (NameTaken at) >> must (is_interface x.declared interface) (UnknownName at)) (must x.remote (NotAllowedHere at)) tt u.0 in
        let y = then_ok (must (is_free scope root) (NameTaken at)) (must (is_interface x.declared interface) (UnknownName at)) tt w.0 in
        let ca = closed_ok scope (check_stmts x t.0 a) after t.2 in
        let none = no_service x.declared known' interface (must_ok (is_interface x.declared interface) (UnknownName at) y.1) in
        let holds : MayHold x = record { of_program = none; remote = must_ok x.remote (NotAllowedHere at) w.1 } in
        let site : Site = record { at = at; interface = interface; root = root; block = a; place = record { this = x.this; remote = x.remote; scope = scope } } in
        let typed : check_stmt x scope (Batch at interface root a) ≡ Ok scope = subst (λ s. check_stmt x scope (Batch at interface root a) ≡ Ok s) (sym ca.2) h in
        adds_none _ ca.2 own (λ l state. record {
          keeps = (site, record { of_program = none; here = refl; may = may_ask side x scope at interface root a n b' holds; typed = typed; fits = state }, λ o kept. kept);
        })

    pub stmts_run : (ss : Stmts) (gas : ℕ) (scope after : Scope) → (IsNear side → IsOwnPlace x scope) → check_stmts x scope ss ≡ Ok after → AreFormedStmts ss → NotedStmts side x scope ss → KnownStmts side x scope ss → Adds side x scope after (performs_all bodies gas ss)
    stmts_run NoStmts gas scope after own h f n b' = adds_none _ (cc (h)) own (λ l state. ends tt tt state (grown_same (classes_of l.heap)))
    stmts_run (MoreStmts s ss) gas scope after own h f n b' =
        let t = bind_ok (check_stmt x scope s) _ after h in
        let r = stmt_runs s gas scope t.0 own t.1 f.0 (λ ts e. ((n ts e).0.0, (n ts e).1.0)) (λ bs e holds. first_among bs (sites x scope s) (sites_in x (scope_or scope (check_stmt x scope s)) ss) (b' bs e holds)) in
        let rs = stmts_run ss gas t.0 after r.own t.2 f.1 (λ ts e. subst (λ inner. AreBatchStmts ts x inner ss) (ap (scope_or scope) t.1) ((n ts e).0.1, (n ts e).1.1)) (λ bs e holds. subst (λ inner. AreAmong bs (sites_in x inner ss)) (ap (scope_or scope) t.1) (rest_among bs (sites x scope s) (sites_in x (scope_or scope (check_stmt x scope s)) ss) (b' bs e holds))) in
        record {
          sub = λ cs ns k. r.sub cs ns (rs.sub cs ns k);
          own = rs.own;
          runs = λ l state. goes _ r.sub (r.runs l state) (λ u l1 f1 state1 g1. rs.runs l1 state1);
        }
