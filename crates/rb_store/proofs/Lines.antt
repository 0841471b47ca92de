-- The lines of a table, of which one comes after another.
use Rattle.std.proofs.Common.{◌≡◌, ℕ, ◌+◌, List, ◌++◌, drop, Some, Result, Ok, Err, IfOk, ap, sym, ◌∙◌, slice_get}
use Rattle.rb_trees.specs.declared.services.Object.{Object}
use Rattle.rb_meaning.specs.Shown.{line, shown_object, shown_table}
use Rattle.rb_store.proofs.Items.{found_next}

-- the line of an object comes before those of the objects behind it
pub line_first : {E : Type 0} (table : List Object) (number : ℕ) (o : Object) → slice_get table number ≡ Some o → (result : Result (List ℕ) E) → IfOk result (λ text. text ≡ line (shown_object number o))
    → IfOk result (λ text. text ++ shown_table (number + 1) (drop (number + 1) table) ≡ shown_table number (drop number table))
line_first table number o there (Ok text) is =
    ap (λ t. t ++ shown_table (number + 1) (drop (number + 1) table)) is ∙ ap (shown_table number) (sym (found_next table number o there))
line_first table number o there (Err want) is = tt
