-- The items of lists among the values of inputs.
use Rattle.std.specs.Prelude.{ℕ, ◌+◌, suc, List, [], ◌∷◌, ◌++◌, length}
use Rattle.rb_trees.specs.declared.values.Value.{Value, out-Value}
use Rattle.rb_trees.specs.declared.values.Value.TheOpen.{Value-F}

abbrev pub form_items : Value-F Value → ℕ
form_items (Value-F.List items) = length items
form_items _ = 0

-- how many items a value has
abbrev pub items_of : Value → ℕ
items_of v = form_items (out-Value v)

abbrev pub count_items : List Value → ℕ
count_items [] = 0
count_items (v ∷ vs) = items_of v + count_items vs

-- the greatest number of items of a script's inputs together
abbrev pub most_items : ℕ
most_items = 1000

-- the number of an input, where its value is a list
abbrev pub form_numbers : ℕ → Value-F Value → List ℕ
form_numbers number (Value-F.List items) = number ∷ []
form_numbers number _ = []

-- the numbers of the inputs whose values are lists, from this number on
abbrev pub list_numbers : ℕ → List Value → List ℕ
list_numbers number [] = []
list_numbers number (v ∷ vs) = form_numbers number (out-Value v) ++ list_numbers (suc number) vs
