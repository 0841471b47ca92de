-- One more that is within its bounds.
use Rattle.std.proofs.Common.{◌≡◌, ℕ, ◌+◌, ◌<◌, zero, suc, List, [], ◌∷◌, length, take, get_or, arith, add-one}
use Rattle.rb_trees.specs.declared.services.Change.{Change}
use Rattle.rb_trees.specs.declared.values.Value.{out-Value}
use Rattle.rb_meaning.specs.Changes.{IsBounded, AreBounded, AllBounded}

change_next : (cs : List Change) (i : ℕ) (c : Change) → i < length cs → c ≡ get_or cs i c → IsBounded (out-Value c.value) → AreBounded (take i cs) → AreBounded (take (suc i) cs)
change_next [] i c h e b bs = tt
change_next (x ∷ cs) zero c h e b bs = let same : x ≡ c = cc in (rw same b, tt)
change_next (x ∷ cs) (suc i) c h e b bs = (bs.0, change_next cs i c (omega (arith, h)) e b bs.1)

pub change_more : (cs : List Change) (i : ℕ) (c : Change) → i < length cs → c ≡ get_or cs i c → IsBounded (out-Value c.value) → AreBounded (take i cs) → AreBounded (take (i + 1) cs)
change_more cs i c h e b bs = rw add-one (change_next cs i c h e b bs)

list_next : (lists : List (List Change)) (i : ℕ) (cs : List Change) → i < length lists → cs ≡ get_or lists i cs → AreBounded cs → AllBounded (take i lists) → AllBounded (take (suc i) lists)
list_next [] i cs h e b bs = tt
list_next (x ∷ lists) zero cs h e b bs = let same : x ≡ cs = cc in (rw same b, tt)
list_next (x ∷ lists) (suc i) cs h e b bs = (bs.0, list_next lists i cs (omega (arith, h)) e b bs.1)

pub list_more : (lists : List (List Change)) (i : ℕ) (cs : List Change) → i < length lists → cs ≡ get_or lists i cs → AreBounded cs → AllBounded (take i lists) → AllBounded (take (i + 1) lists)
list_more lists i cs h e b bs = rw add-one (list_next lists i cs h e b bs)
