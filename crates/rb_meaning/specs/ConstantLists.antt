-- The constant lists that a batch's carried loops go over. The script takes each of them along.
use Rattle.std.specs.Prelude.{ℕ, ◌+◌, List, [], ◌∷◌, ◌++◌, length, Bool, nat_lt, cond, Option, None, Some, Result, Ok, Err}
use Rattle.rb_trees.specs.Named.{lookup}
use Rattle.rb_trees.specs.declared.values.Fault.{Fault}
use Rattle.rb_trees.specs.declared.values.Value.{Value, out-Value}
use Rattle.rb_trees.specs.mirror.Code.{Expr, Name, Stmt, Stmts, If, For, NoStmts, MoreStmts}
use Rattle.rb_trees.specs.mirror.Declarations.{Program}
use Rattle.rb_meaning_bytes.specs.formats.Items.{most_items}
use Rattle.rb_meaning_types.specs.Names.{is_new}
use Rattle.rb_meaning_code.specs.Faults.{kind}
use Rattle.rb_meaning_code.specs.State.{Names}
use Rattle.rb_meaning_code.specs.ScriptRun.{items_in}
use Rattle.rb_meaning_flow.specs.declared.forms.PlacedForm.{PlacedForm}
use Rattle.rb_meaning_flow.specs.declared.scopes.Role.{Role}
use Rattle.rb_meaning_flow.specs.Facts.{Facts, facts_of}
use Rattle.rb_meaning_flow.specs.Scopes.{Scope, with_variable, opened}
use Rattle.rb_meaning_flow.specs.Forms.{placed_form}
use Rattle.rb_meaning_flow.specs.Sites.{scope_after}
use Rattle.rb_meaning_flow.specs.Outermost.{Outermost}

-- the name of a list, where it is one
abbrev pub name_of : Expr → List (List ℕ)
name_of (Name at name) = name ∷ []
name_of _ = []

-- the items of the list of a name
abbrev pub items_of : Option Value → Result (List Value) Fault
items_of None = Err kind
items_of (Some v) = items_in (out-Value v)

-- the items of a list that a name stands for
abbrev pub items_named : Names → Expr → Result (List Value) Fault
items_named names (Name at name) = items_of (lookup names name)
items_named names _ = Err kind

-- the names of the lists of carried loops, as often as they stand in a statement at a script place, by its form, and in a block
abbrev mutual
  pub lists_as : Facts → PlacedForm → Scope → Stmt → List (List ℕ)
  lists_as x PlacedForm.CarriedIf scope (If at c a b) = lists_in x scope a ++ lists_in x scope b
  lists_as x PlacedForm.RowsLoop scope (For at name e a) = lists_in x (with_variable scope name Role.Row at) a
  lists_as x PlacedForm.CarriedLoop scope (For at name e a) = name_of e ++ lists_in x (with_variable scope name Role.Row at) a
  lists_as x form scope stmt = []

  pub lists_in : Facts → Scope → Stmts → List (List ℕ)
  lists_in x scope NoStmts = []
  lists_in x scope (MoreStmts s ss) = lists_as x (placed_form x scope s) scope s ++ lists_in x (scope_after x [] scope s) ss

-- how many items these have together, each name once, but for those that were counted before
abbrev pub count_of : Result (List Value) Fault → ℕ
count_of (Ok items) = length items
count_of (Err f) = 0

abbrev pub counted : List (List ℕ) → List (List ℕ) → Names → ℕ
counted before [] names = 0
counted before (name ∷ more) names =
    cond (is_new name before) (count_of (items_of (lookup names name)) + counted (name ∷ before) more names) (counted before more names)

-- how many items the constant lists of a batch's carried loops have together, each variable counted once
abbrev pub items_taken : Program → Outermost → Names → ℕ
items_taken p b names = counted [] (lists_in (facts_of p) (opened b.outer b.at b.root b.block) b.block) names

-- whether a batch has more items to take along than a request may have
abbrev pub takes_too_many : Program → Outermost → Names → Bool
takes_too_many p b names = nat_lt most_items (items_taken p b names)
