-- A payload as a whole: what passing over it says, and what is open in it at first.
use Rattle.std.proofs.Common.{◌≡◌, ℕ, List, [], ◌∷◌, refl, ap, sym, ◌∙◌, Result, Ok, Err, Some, None, true, option_map}
use Rattle.rb_trees.specs.declared.versions.Version.{Version}
use Rattle.rb_trees.specs.mirror.Forests.{Node}
use Rattle.rb_meaning_bytes.specs.formats.Fields.{Number}
use Rattle.rb_meaning_bytes.specs.formats.Reading.{Fault, Read, read, look, on, on_all, read_all}
use Rattle.rb_meaning_bytes.specs.formats.Forests.{node, forest_message, most_nodes}
use Rattle.rb_wire_forest.specs.Versions.{version_at}
use Rattle.rb_wire_forest.specs.Passed.{behind_all, is_read}
use Rattle.rb_wire_forest.specs.Opens.{AtNode, all_open, node_left, node_open, on_read}
use Rattle.rb_wire_forest.specs.Opened.{or_empty}
use Rattle.rb_wire_forest.proofs.Equations.{forest_read}
use Rattle.rb_wire_forest.proofs.Lefts.{node_front}
use Rattle.rb_wire_forest.proofs.InArray.{node_top}

pub read_so : {A : Type 0} (r : Result A Fault) → behind_all r ≡ Ok tt → is_read r ≡ true
read_so (Ok x) h = refl
read_so (Err e) h = absurd cc

pub refused_so : {A : Type 0} (r : Result A Fault) (e : Fault) → behind_all r ≡ Err e → r ≡ Err e
refused_so (Ok x) e h = absurd cc
refused_so (Err d) e h = cc

pub root_read : (r : Result Node Fault) → is_read r ≡ true → r ≡ Ok (or_empty r)
root_read (Ok n) h = refl
root_read (Err e) h = absurd cc

-- ---- the front of a forest

no_read : (r : Read Node) (e : Fault) → r ≡ Err e → is_read (on_all r) ≡ true → ⊥
no_read (Ok x) e h i = absurd cc
no_read (Err d) e h i = absurd cc

-- after the version stands the root
version_first : (payload : List ℕ) (version : Version) (behind : List ℕ) → version_at payload ≡ Ok (version, behind) → read forest_message payload ≡ read (node version most_nodes) behind
version_first payload version behind h = forest_read payload ∙ ap (λ r. on r (λ v rest. read (node v most_nodes) rest)) h

pub no_version : (payload : List ℕ) (e : Fault) → version_at payload ≡ Err e → is_read (read_all forest_message payload) ≡ true → ⊥
unfolding read_all
no_version payload e h i = no_read (read forest_message payload) e (forest_read payload ∙ ap (λ r. on r (λ v rest. read (node v most_nodes) rest)) h) i

pub no_number : (payload : List ℕ) (version : Version) (behind : List ℕ) (e : Fault) → version_at payload ≡ Ok (version, behind) → look Number behind ≡ Err e → is_read (read_all forest_message payload) ≡ true → ⊥
unfolding read_all
no_number payload version behind e h j i =
    no_read (read forest_message payload) e (version_first payload version behind h ∙ node_front version 63 behind ∙ ap (λ r. on r (λ count rest. read (node_left version 63 count) rest)) j) i

-- the root is open, with nothing further out
pub root_open : (payload : List ℕ) (version : Version) (behind : List ℕ) (entries : ℕ) (rest : List ℕ) → version_at payload ≡ Ok (version, behind) → look Number behind ≡ Ok (entries, rest) → is_read (read_all forest_message payload) ≡ true
    → all_open version (record { entries = entries; turns = None } ∷ []) rest ≡ Some (AtNode (or_empty (read_all forest_message payload)) ∷ [])
unfolding read_all node_open all_open
root_open payload version behind entries rest h j i =
    node_top version (record { entries = entries; turns = None }) [] rest entries refl refl
    ∙ go (read (node_left version 63 entries) rest) (ap (λ r. is_read (on_all r)) (sym is) ∙ i)
    ∙ ap (λ r. Some (AtNode (or_empty (on_all r)) ∷ [])) (sym is)
  where
    is : read forest_message payload ≡ read (node_left version 63 entries) rest
    is = version_first payload version behind h ∙ node_front version 63 behind ∙ ap (λ r. on r (λ count rest. read (node_left version 63 count) rest)) j

    go : (r : Read Node) → is_read (on_all r) ≡ true → on_read r (λ left rest. option_map (λ os. AtNode left ∷ os) (all_open version [] rest)) ≡ Some (AtNode (or_empty (on_all r)) ∷ [])
    go (Ok (n, [])) k = refl
    go (Ok (n, c ∷ rest)) k = absurd cc
    go (Err e) k = absurd cc
