-- The constant lists of a batch's carried loops, as the code finds and counts them.
use Rattle.std.specs.Prelude.{◌≡◌, ◌+◌, ℕ, List, [], ◌∷◌, ◌++◌, map, Bool, true, false, cond, nat_lt}
use Rattle.std.specs.Borrow.{Bor}
use Rattle.rb_trees.specs.Named.{lookup}
use Rattle.rb_trees.specs.mirror.Code.{Stmt, Stmts}
use Rattle.rb_meaning_bytes.specs.formats.Items.{most_items}
use Rattle.rb_meaning_types.specs.Names.{is_new}
use Rattle.rb_meaning_code.specs.State.{Names}
use Rattle.rb_meaning_flow.specs.declared.scopes.Role.{Role}
use Rattle.rb_meaning_flow.specs.Facts.{Facts}
use Rattle.rb_meaning_flow.specs.Forms.{placed_form}
use Rattle.rb_meaning_flow.specs.Scopes.{Scope, with_variable}
use Rattle.rb_meaning.specs.ConstantLists.{count_of, counted, items_of, lists_as, lists_in}
use Rattle.rb_flow.specs.Begun.{Begun}
use Rattle.rb_plain.specs.declared.lists.Counted.{Counted}

-- names that were found
abbrev pub named : List (Bor (List ℕ)) → List (List ℕ)
named names = map (λ n. n.now) names

-- the role of a `val` at a script place
abbrev pub val_role : Bool → Role
val_role portable = cond portable Role.Carried Role.Plain

-- the lists in a statement at a script place, in the block of a loop with this variable, and in a batch
abbrev pub stmt_lists : Facts → Scope → Stmt → List (List ℕ)
stmt_lists x scope s = lists_as x (placed_form x scope s) scope s

abbrev pub turns_lists : Facts → Scope → List ℕ → ℕ → Stmts → List (List ℕ)
turns_lists x scope name at block = lists_in x (with_variable scope name Role.Row at) block

abbrev pub batch_lists : Facts → Begun → List (List ℕ)
batch_lists x b = lists_in x b.scope b.block

-- one more list, which counts where it is new
abbrev pub Adds : Bool → List ℕ → ℕ → Counted → Counted → Type 0
Adds true name count before after = (after.names ≡ before.names ++ name ∷ []) × (after.items ≡ before.items + count)
Adds false name count before after = after ≡ before

abbrev pub Counts : Names → List ℕ → Counted → Counted → Type 0
Counts names name before after = Adds (is_new name before.names) name (count_of (items_of (lookup names name))) before after

-- whether a batch has more items to take along than a request may have
abbrev pub too_many : Facts → Begun → Names → Bool
too_many x b names = nat_lt most_items (counted [] (batch_lists x b) names)
