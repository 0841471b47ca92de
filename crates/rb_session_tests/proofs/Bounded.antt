-- Changes with values within their bounds.
use Rattle.std.proofs.Common.{List, [], ◌∷◌, ◌++◌}
use Rattle.rb_trees.specs.declared.services.Change.{Change}
use Rattle.rb_trees.specs.declared.values.Value.{out-Value}
use Rattle.rb_meaning.specs.Changes.{IsBounded, AreBounded, AllBounded}

-- one more change
pub one_more : (cs : List Change) (c : Change) → AreBounded cs → IsBounded (out-Value c.value) → AreBounded (cs ++ c ∷ [])
one_more [] c b h = (h, tt)
one_more (x ∷ xs) c b h = (b.0, one_more xs c b.1 h)

-- one more list of changes
pub list_more : (lists : List (List Change)) (cs : List Change) → AllBounded lists → AreBounded cs → AllBounded (lists ++ cs ∷ [])
list_more [] cs b h = (h, tt)
list_more (x ∷ xs) cs b h = (b.0, list_more xs cs b.1 h)
