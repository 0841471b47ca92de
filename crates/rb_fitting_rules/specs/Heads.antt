-- What stands first in a node, which step of a part comes first, and what its turns go through.
use Rattle.std.specs.Prelude.{ℕ, List, [], ◌∷◌, get_or, Bool, true, false, nat_eq, Option, Some, None}
use Rattle.rb_trees.specs.declared.values.Value.{out-Value}
use Rattle.rb_trees.specs.mirror.Forests as forest
use Rattle.rb_trees.specs.mirror.Forests.{Node, Holds, NoEntries, MoreEntries, Nodes, NoNodes, MoreNodes}
use Rattle.rb_trees.specs.mirror.Remainders.{Part, Parts, Plain, Pass, Bind, Both, Branch, Turns, Over}
use Rattle.rb_meaning_bytes.specs.Fits.{form_has_kind, is_counted, no_kind}

-- the side of a branch that was taken
abbrev pub chosen : Bool → Parts → Parts → Parts
chosen true then_parts else_parts = then_parts
chosen false then_parts else_parts = else_parts

-- the first step of a part, if it has any
abbrev pub first_step : Part → Option ℕ
first_step (Plain stmt []) = None
first_step (Plain stmt (take ∷ takes)) = Some take.0
first_step (Pass step) = Some step
first_step (Bind step name kind) = Some step
first_step (Both step at name value) = Some step
first_step (Branch step then_parts else_parts) = Some step
first_step (Turns step name kind body) = Some step
first_step (Over step at name list input body) = Some step

-- what a part goes through in turns: its step, the kind of the rows, its body, and how many items its list has, if it has one
pub record Loop : Type 0 where
  pub step : ℕ
  pub kind : ℕ
  pub body : Parts
  pub items : Option ℕ

-- what a part goes through, if it has turns, where the lists of inputs have these lengths
abbrev pub loop_of : List ℕ → Part → Option Loop
loop_of lengths (Turns step name kind body) = Some (record { step = step; kind = kind; body = body; items = None })
loop_of lengths (Over step at name list input body) = Some (record { step = step; kind = no_kind; body = body; items = Some (get_or lengths input 0) })
loop_of lengths _ = None

-- whether there are as many turns as a list has items, if there is one, where a fault at the step comes behind them or not
abbrev pub have_turns : Option ℕ → Nodes → Bool → Bool
have_turns None ns faulted = true
have_turns (Some items) ns faulted = is_counted items ns faulted

-- whether a node has no entry, and its fault is at the step
abbrev pub faults_now : ℕ → Node → Bool
faults_now step (Holds NoEntries (Some f)) = nat_eq f.step step
faults_now step _ = false

-- whether a node begins with a value of this kind
abbrev pub begins_with_value : ℕ → Node → Bool
begins_with_value kind (Holds (MoreEntries (forest.Value v) es) f) = form_has_kind kind (out-Value v)
begins_with_value kind _ = false

abbrev pub begins_with_branch : Node → Bool
begins_with_branch (Holds (MoreEntries (forest.Branch taken n) es) f) = true
begins_with_branch _ = false

abbrev pub begins_with_rows : Node → Bool
begins_with_rows (Holds (MoreEntries (forest.Rows ns) es) f) = true
begins_with_rows _ = false

-- whether a node holds anything, an entry or a fault
abbrev pub holds_anything : Node → Bool
holds_anything (Holds NoEntries None) = false
holds_anything _ = true

abbrev pub are_any : Nodes → Bool
are_any NoNodes = false
are_any (MoreNodes n ns) = true
