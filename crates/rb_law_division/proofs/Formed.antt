-- The script of a batch is formed: its numbers and counts have 32 bits, since its code is short.
use Rattle.std.proofs.Common.{◌≡◌, refl, ℕ, suc, ◌+◌, ◌^◌, ◌≤◌, ◌<◌, List, [], ◌∷◌, length, Bool, true, false, cond, ◌&&◌, arith, Option, Some, None, Ok, Err, option_map}
use Rattle.std.specs.List.{AllByRecursion, list_all}
use Rattle.std.specs.Str.{bytes_eq}
use Rattle.std.proofs.lemmas.Str.{is_utf8-from_IsUtf8}
use Rattle.rb_trees.specs.Named.{first_named, lookup}
use Rattle.rb_trees.specs.Spelling.{is_letter, is_word_byte, IsName}
use Rattle.rb_trees.specs.CodeSize.{expr_size, exprs_size, steps_size}
use Rattle.rb_trees.specs.declared.values.Value.{Value, out-Value}
use Rattle.rb_trees.specs.declared.values.Value.TheOpen.{Value-F}
use Rattle.rb_trees.specs.mirror.Code.{Expr, Exprs, Lit, Name, This, Unary, Binary, Field, Call, Index, New, Items, Taken, NoExprs, MoreExprs, Stmt, Stmts, Val, Run, If, For, NoStmts, MoreStmts}
use Rattle.rb_trees.specs.mirror.Declarations.{Program}
use Rattle.rb_trees.specs.mirror.Scripts as script
use Rattle.rb_trees.specs.mirror.Scripts.{SExpr, SExprs, Steps, NoSteps}
use Rattle.rb_meaning_bytes.specs.formats.Fields.{Name as NameField, Fits, are_word_bytes}
use Rattle.rb_meaning_bytes.specs.formats.ScriptBytes.{count_exprs}
use Rattle.rb_meaning_bytes.specs.formats.FormedScripts.{primitive_form, FormedExpr, FormedExprs, FormedSteps}
use Rattle.rb_meaning_types.specs.Kinds as kind
use Rattle.rb_meaning_types.specs.Kinds.{Kind}
use Rattle.rb_meaning_types.specs.Notes.{type_at}
use Rattle.rb_meaning_types.specs.Violations.{Checked}
use Rattle.rb_meaning_types.specs.Lawful.{IsLiteralForm}
use Rattle.rb_meaning_flow.specs.declared.forms.PlacedForm.{PlacedForm}
use Rattle.rb_meaning_flow.specs.declared.scopes.Role.{Role}
use Rattle.rb_meaning_flow.specs.Facts.{Facts, facts_of}
use Rattle.rb_meaning_flow.specs.Scopes.{Scope, with_variable}
use Rattle.rb_meaning_flow.specs.Forms.{placed_form}
use Rattle.rb_meaning_flow.specs.Sites.{scope_after}
use Rattle.rb_meaning_types.specs.CallKinds.{item_number, kind_number, kind_noted}
use Rattle.rb_meaning.specs.RemoteExprs.{remote_of}
use Rattle.rb_meaning_split.specs.Cuts.{counted}
use Rattle.rb_meaning_split.specs.Refs.{Ref, Root, Input, Var as Bound, Refs, with_var, ref_expr, input_number, list_number, sexpr, sexprs}
use Rattle.rb_meaning_split.specs.Numbers.{step_after_as, step_after, steps_after, var_after_as, var_after, vars_after}
use Rattle.rb_meaning_split.specs.Steps.{refs_after_as, refs_after, keeps, steps_as, block_steps}
use Rattle.rb_law_unsplit.proofs.Placed.{alone_calls}
use Rattle.rb_law_division.proofs.Lists.{all_both}
use Rattle.rb_law_division.proofs.Carriable.{Carriable, AllCarriable, EachWhole, StmtCarriable, StmtsCarriable, place_of, remotes_whole}
use Rattle.rb_law_division.proofs.Numbers.{one_step, count_within, block_room, block_vars}

-- ---- names, literals and kinds

both : (t a b : Bool) → (a ≡ true → b ≡ true) → (t && a) ≡ true → (t && b) ≡ true
both true a b f h = f h
both false a b f h = h

and_is : (t a : Bool) → t ≡ true → a ≡ true → (t && a) ≡ true
and_is true a h g = g
and_is false a h g = h

args_within : (es : SExprs) → count_exprs es ≤ exprs_size es
args_within script.NoSExprs = omega arith
args_within (script.MoreSExprs (script.Lit v) es) = omega (arith, args_within es)
args_within (script.MoreSExprs (script.Input n) es) = omega (arith, args_within es)
args_within (script.MoreSExprs (script.Var n) es) = omega (arith, args_within es)
args_within (script.MoreSExprs script.Root es) = omega (arith, args_within es)
args_within (script.MoreSExprs (script.Unary op at a) es) = omega (arith, args_within es)
args_within (script.MoreSExprs (script.Binary op at a b) es) = omega (arith, args_within es)
args_within (script.MoreSExprs (script.Call at k method target args) es) = omega (arith, args_within es)

word_bytes : (bytes : List ℕ) → list_all is_word_byte bytes ≡ true → are_word_bytes bytes ≡ true
word_bytes [] h = refl
word_bytes (c ∷ cs) h = both (is_word_byte c) (list_all is_word_byte cs) (are_word_bytes cs) (λ g. word_bytes cs g) h

name_formed : (name : List ℕ) → IsName name → length name < 2 ^ 32 → Fits NameField name
name_formed [] h l = absurd h.0
name_formed (c ∷ cs) h l = (l, and_is (is_letter c) (are_word_bytes cs) h.0.0 (word_bytes cs h.0.1))

literal_form : (v : Value-F Value) → IsLiteralForm v → primitive_form v
literal_form (Value-F.Int n) h = h
literal_form (Value-F.Bool b) h = tt
literal_form (Value-F.Text bytes) h = (h.1, is_utf8-from_IsUtf8 bytes h.0)
literal_form Value-F.Unit h = absurd h
literal_form (Value-F.Ref object) h = absurd h
literal_form (Value-F.Remote object) h = absurd h
literal_form (Value-F.List items) h = absurd h
literal_form (Value-F.Rows rows) h = absurd h

item_small : (k : Kind) → item_number k ≤ 4
item_small kind.Int = omega arith
item_small kind.Bool = omega arith
item_small kind.Text = omega arith
item_small _ = omega arith

kind_small : (k : Kind) → kind_number k ≤ 8
kind_small kind.Unit = omega arith
kind_small (kind.RowsOf row) = omega (arith, item_small row)
kind_small kind.Int = omega arith
kind_small kind.Bool = omega arith
kind_small kind.Text = omega arith
kind_small (kind.Named name) = omega arith
kind_small (kind.ListOf item) = omega arith

noted_small : (k : Option (Checked Kind)) → kind_noted k ≤ 8
noted_small (Some (Ok k)) = kind_small k
noted_small (Some (Err violation)) = omega arith
noted_small None = omega arith

-- ---- what the script calls its variables

abbrev IsFormed : Ref → Type 0
IsFormed Root = Unit {0}
IsFormed (Input n) = n < 256
IsFormed (Bound m) = m < 2 ^ 32

abbrev pub AreFormed : Refs → Type 0
AreFormed refs = AllByRecursion (λ r. IsFormed r.1) refs

abbrev MayBeFormed : Option Ref → Type 0
MayBeFormed (Some r) = IsFormed r
MayBeFormed None = Unit {0}

found_formed : (refs : Refs) (name : List ℕ) → AreFormed refs → MayBeFormed (lookup refs name)
found_formed [] name h = tt
found_formed (r ∷ rs) name h = by (bytes_eq r.0 name) (found_formed rs name h.1)
  where
    by : (t : Bool) → MayBeFormed (lookup rs name) → MayBeFormed (option_map (λ n. n.1) (cond t (Some r) (first_named (λ n. n.0) rs name)))
    by true g = h.0
    by false g = g

name_is : (o : Option Ref) → MayBeFormed o → FormedExpr (ref_expr o)
name_is (Some Root) h = tt
name_is (Some (Input n)) h = h
name_is (Some (Bound m)) h = h
name_is None h = tt

-- so is the number of a list
input_small : (o : Option Ref) → MayBeFormed o → input_number o < 256
input_small (Some Root) h = omega arith
input_small (Some (Input n)) h = h
input_small (Some (Bound m)) h = omega arith
input_small None h = omega arith

list_small : (refs : Refs) (e : Expr) → AreFormed refs → list_number refs e < 256
list_small refs (Name at name) h = input_small (lookup refs name) (found_formed refs name h)
list_small refs e h = omega arith

one_more : (refs : Refs) (name : List ℕ) (m : ℕ) → AreFormed refs → m < 2 ^ 32 → AreFormed (with_var refs name m)
one_more refs name m h l = all_both (λ r. IsFormed r.1) refs ((name, Bound m) ∷ []) h (l, tt)

module _ (p : Program) where
  abbrev x : Facts
  x = facts_of p

  -- ---- expressions

  mutual
    expr_formed : (refs : Refs) → AreFormed refs → (e : Expr) → Carriable e → expr_size (sexpr p refs e) < 2 ^ 32 → FormedExpr (sexpr p refs e)
    expr_formed refs r (Lit at value) c l = literal_form (out-Value value) c.1
    expr_formed refs r (Name at name) c l = name_is (lookup refs name) (found_formed refs name r)
    expr_formed refs r (This at) c l = tt
    expr_formed refs r (Unary at op a) c l = (c.0, expr_formed refs r a c.1 (omega (arith, l)))
    expr_formed refs r (Binary at op a b) c l = (c.0, expr_formed refs r a c.1 (omega (arith, l)), expr_formed refs r b c.2 (omega (arith, l)))
    expr_formed refs r (Call at a method args) c l = (
      c.0,
      noted_small (type_at p at),
      name_formed method c.1 (omega (arith, l)),
      expr_formed refs r a c.2 (omega (arith, l)),
      omega (arith, l, args_within (sexprs p refs args)),
      exprs_formed refs r args c.3 (omega (arith, l)),
    )
    expr_formed refs r (Field at a name) c l = tt
    expr_formed refs r (Index at a b) c l = tt
    expr_formed refs r (New at class args) c l = tt
    expr_formed refs r (Items at item items) c l = tt
    expr_formed refs r (Taken at step) c l = tt

    exprs_formed : (refs : Refs) → AreFormed refs → (es : Exprs) → AllCarriable es → exprs_size (sexprs p refs es) < 2 ^ 32 → FormedExprs (sexprs p refs es)
    exprs_formed refs r NoExprs c l = tt
    exprs_formed refs r (MoreExprs e es) c l = (expr_formed refs r e c.0 (omega (arith, l)), exprs_formed refs r es c.1 (omega (arith, l)))

  -- ---- steps

  -- There is room for the numbers of the steps and of the variables.
  abbrev pub Fit : ℕ → ℕ → Steps → Type 0
  Fit n m ss = (n + steps_size ss < 2 ^ 32) × (m + steps_size ss < 2 ^ 32)

  keeps_formed : (refs : Refs) → AreFormed refs → (es : List Expr) (n m : ℕ) (rest : Steps) → EachWhole es → (Fit (counted es n) m rest → FormedSteps rest)
      → Fit n m (keeps p refs n es rest) → FormedSteps (keeps p refs n es rest)
  keeps_formed refs r [] n m rest w h f = h f
  keeps_formed refs r (e ∷ es) n m rest w h f =
      ((omega (arith, f.0), place_of e w.0.0, expr_formed refs r e w.0.0 (omega (arith, f.0))), keeps_formed refs r es (suc n) m rest w.1 h (omega (arith, f.0), omega (arith, f.1)))

  skip_formed : (refs : Refs) → AreFormed refs → (scope : Scope) (n m : ℕ) (s : Stmt) (rest : Steps) → StmtCarriable s
      → (Fit (counted (remote_of x scope s) n) m rest → AreFormed refs → FormedSteps rest)
      → Fit n m (keeps p refs n (remote_of x scope s) rest) → FormedSteps (keeps p refs n (remote_of x scope s) rest)
  skip_formed refs r scope n m s rest w h f = keeps_formed refs r (remote_of x scope s) n m rest (remotes_whole x scope s w) (λ g. h g r) f

  -- the steps of a statement, before others
  abbrev Formed : ℕ → ℕ → Steps → Steps → ℕ → ℕ → Refs → Type 0
  Formed n m ss rest n1 m1 refs1 = (Fit n1 m1 rest → AreFormed refs1 → FormedSteps rest) → Fit n m ss → FormedSteps ss

  mutual
    stmt_formed : (form : PlacedForm) (refs : Refs) → AreFormed refs → (scope : Scope) (n m : ℕ) (s : Stmt) (rest : Steps) → placed_form x scope s ≡ form → StmtCarriable s
        → Formed n m (steps_as p form refs scope n m s rest) rest (step_after_as x form scope s n) (var_after_as x form scope s m) (refs_after_as p form refs m s)
    stmt_formed PlacedForm.CarriedVal refs r scope n m (Val at name e) rest placing w =
        λ h f. ((omega (arith, f.0), w.0, omega (arith, f.1), expr_formed refs r e w.1.0 (omega (arith, f.0))), h (omega (arith, f.0), omega (arith, f.1)) (one_more refs name m r (omega (arith, f.1))))
    stmt_formed PlacedForm.CallAlone refs r scope n m (Run at e) rest placing w =
        λ h f. ((omega (arith, f.0), w.0, expr_formed refs r e w.1.0 (omega (arith, f.0))), h (omega (arith, f.0, one_step x scope at e n (alone_calls x scope at e placing)), omega (arith, f.1)) r)
    stmt_formed PlacedForm.CarriedIf refs r scope n m (If at c a b) rest placing w =
        let middle = steps_after x scope a (suc n) in
        let between = vars_after x scope a m in
        let first = block_steps p refs scope (suc n) m a in
        let second = block_steps p refs scope middle between b in
        λ h f. (
          (
            omega (arith, f.0),
            w.0,
            expr_formed refs r c w.1.0 (omega (arith, f.0)),
            omega (arith, f.0, count_within first),
            stmts_formed refs r scope (suc n) m a w.2 (omega (arith, f.0), omega (arith, f.1)),
            omega (arith, f.0, count_within second),
            stmts_formed refs r scope middle between b w.3 (omega (arith, f.0, block_room p refs scope (suc n) m a), omega (arith, f.1, block_vars p refs scope (suc n) m a)),
          ),
          h (omega (arith, f.0, block_room p refs scope (suc n) m a, block_room p refs scope middle between b), omega (arith, f.1, block_vars p refs scope (suc n) m a, block_vars p refs scope middle between b)) r,
        )
    stmt_formed PlacedForm.RowsLoop refs r scope n m (For at name e a) rest placing w =
        let inner = with_variable scope name Role.Row at in
        let names = with_var refs name m in
        let block = block_steps p names inner (suc n) (suc m) a in
        λ h f. (
          (
            omega (arith, f.0),
            w.0,
            omega (arith, f.1),
            expr_formed refs r e w.1.0 (omega (arith, f.0)),
            omega (arith, f.0, count_within block),
            stmts_formed names (one_more refs name m r (omega (arith, f.1))) inner (suc n) (suc m) a w.2 (omega (arith, f.0), omega (arith, f.1)),
          ),
          h (omega (arith, f.0, block_room p names inner (suc n) (suc m) a), omega (arith, f.1, block_vars p names inner (suc n) (suc m) a)) r,
        )
    stmt_formed PlacedForm.CarriedLoop refs r scope n m (For at name e a) rest placing w =
        let inner = with_variable scope name Role.Row at in
        let names = with_var refs name m in
        let block = block_steps p names inner (suc n) (suc m) a in
        λ h f. (
          (
            omega (arith, f.0),
            w.0,
            omega (arith, f.1),
            list_small refs e r,
            omega (arith, f.0, count_within block),
            stmts_formed names (one_more refs name m r (omega (arith, f.1))) inner (suc n) (suc m) a w.2 (omega (arith, f.0), omega (arith, f.1)),
          ),
          h (omega (arith, f.0, block_room p names inner (suc n) (suc m) a), omega (arith, f.1, block_vars p names inner (suc n) (suc m) a)) r,
        )
    stmt_formed form refs r scope n m s rest placing w = λ h f. skip_formed refs r scope n m s rest w h f

    pub stmts_formed : (refs : Refs) → AreFormed refs → (scope : Scope) (n m : ℕ) (ss : Stmts) → StmtsCarriable ss → Fit n m (block_steps p refs scope n m ss) → FormedSteps (block_steps p refs scope n m ss)
    stmts_formed refs r scope n m NoStmts w f = tt
    stmts_formed refs r scope n m (MoreStmts s ss) w f =
        let refs1 = refs_after p refs m scope s in
        let scope1 = scope_after x [] scope s in
        let n1 = step_after x scope s n in
        let m1 = var_after x scope s m in
        stmt_formed (placed_form x scope s) refs r scope n m s (block_steps p refs1 scope1 n1 m1 ss) refl w.0 (λ g k. stmts_formed refs1 k scope1 n1 m1 ss w.1 g) f
