-- Others use a server too: what they do to its table between two batches of a client, and which tables the batches find by that.
use Rattle.std.specs.Prelude.{◌≡◌, List, [], ◌∷◌, drop}
use Rattle.rb_trees.specs.declared.services.Object.{Object}

-- what others do to the table before a batch
abbrev pub Others : Type 0
Others = List Object → List Object

-- others make this table of it, whatever it was
abbrev pub becomes : List Object → Others
becomes found table = found

-- The table that a batch finds: what the next of others makes of the one that stands; where there is none, the one that stands.
abbrev pub found_table : List Others → List Object → List Object
found_table [] table = table
found_table (next ∷ others) table = next table

-- Batches, performed one after the other from a table, found these tables and left those: each found what the next of others made of
-- the one that the batch before it left.
abbrev pub FoundThrough : List Others → List Object → List (List Object) → List (List Object) → Type 0
FoundThrough others table [] [] = Unit {0}
FoundThrough others table (found ∷ founds) (left ∷ lefts) = (found ≡ found_table others table) × FoundThrough (drop 1 others) left founds lefts
FoundThrough others table [] (left ∷ lefts) = ⊥
FoundThrough others table (found ∷ founds) [] = ⊥

-- the table after batches that left these: the last of them, or where there is none, that from which they began
abbrev pub last_table : List Object → List (List Object) → List Object
last_table table [] = table
last_table table (left ∷ lefts) = last_table left lefts
