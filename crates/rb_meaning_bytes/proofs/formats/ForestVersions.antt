-- A forest of a version is a forest, and each forest is one of some version.
use Rattle.std.proofs.Common.{◌≡◌, ◌⊎◌, ℕ, Bool, true, false, cond, nat_eq, List, [], ◌∷◌, refl, sym, subst, arith, inl, inr}
use Rattle.std.proofs.lemmas.Bool.{eqb-true}
use Rattle.rb_trees.specs.declared.versions.Version.{Version}
use Rattle.rb_trees.specs.declared.versions.Version.TheVariants.{One, Two}
use Rattle.rb_trees.specs.mirror.Forests.{Node}
use Rattle.rb_meaning_bytes.specs.formats.Formats.{Format, picked, is_tag, Spells, more}
use Rattle.rb_meaning_bytes.specs.formats.Forests.{most_nodes, node, forest_of, forest_message}
use Rattle.rb_meaning_bytes.specs.formats.Payloads.{IsForestOf, IsForest}
use Rattle.rb_meaning_bytes.specs.formats.Values.{version_byte}
use Rattle.rb_meaning_bytes.proofs.formats.Spelled.{under}

-- What is spelled under a tag is of the first form, or of a later one.
abbrev Under : {A : Type 0} → ℕ × Format A → List (ℕ × Format A) → ℕ → List ℕ → A → Type 0
Under form forms tag bytes a = ((tag ≡ form.0) × Spells form.1 bytes a) ⊎ ((is_tag forms tag ≡ true) × Spells (picked forms tag) bytes a)

under_either : {A : Type 0} (form : ℕ × Format A) (forms : List (ℕ × Format A)) (tag : ℕ) (bytes : List ℕ) (a : A) → is_tag (form ∷ forms) tag ≡ true → Spells (picked (form ∷ forms) tag) bytes a
    → Under form forms tag bytes a
under_either form forms tag bytes a h s = go (nat_eq tag form.0) refl h s
  where
    go : (v : Bool) → nat_eq tag form.0 ≡ v → cond v true (is_tag forms tag) ≡ true → Spells (cond v form.1 (picked forms tag)) bytes a → Under form forms tag bytes a
    go true i h s = inl (eqb-true tag form.0 i, s)
    go false i h s = inr (h, s)

abbrev roots : List (ℕ × Format Node)
roots = (0x01, node One most_nodes) ∷ (0x02, node Two most_nodes) ∷ []

abbrev root_of : Version → List (ℕ × Format Node)
root_of version = (version_byte version, node version most_nodes) ∷ []

-- behind the version, in either format
any_root : (version : Version) (bytes : List ℕ) (n : Node) → Spells (node version most_nodes) bytes n → IsForest (version_byte version ∷ bytes) n
unfolding forest_message
any_root One bytes n s = under roots 0x01 bytes n refl (omega arith) s
any_root Two bytes n s = under roots 0x02 bytes n refl (omega arith) s

its_root : (version : Version) (bytes : List ℕ) (n : Node) → Spells (node version most_nodes) bytes n → IsForestOf version (version_byte version ∷ bytes) n
unfolding forest_of
its_root One bytes n s = under (root_of One) 0x01 bytes n refl (omega arith) s
its_root Two bytes n s = under (root_of Two) 0x02 bytes n refl (omega arith) s

of_root : (version : Version) (tag : ℕ) (bytes : List ℕ) (n : Node) → Under (version_byte version, node version most_nodes) [] tag bytes n → IsForest (tag ∷ bytes) n
of_root version tag bytes n (inl u) = subst (λ (t : ℕ). IsForest (t ∷ bytes) n) (sym u.0) (any_root version bytes n u.1)
of_root version tag bytes n (inr u) = absurd (let e = u.0 in cc)

of_roots : (tag : ℕ) (bytes : List ℕ) (n : Node) → is_tag roots tag ≡ true → Spells (picked roots tag) bytes n → (version : Version) × IsForestOf version (tag ∷ bytes) n
of_roots tag bytes n h s = one (under_either (0x01, node One most_nodes) ((0x02, node Two most_nodes) ∷ []) tag bytes n h s)
  where
    two : Under (0x02, node Two most_nodes) [] tag bytes n → (version : Version) × IsForestOf version (tag ∷ bytes) n
    two (inl u) = (Two, subst (λ (t : ℕ). IsForestOf Two (t ∷ bytes) n) (sym u.0) (its_root Two bytes n u.1))
    two (inr u) = absurd (let e = u.0 in cc)

    one : Under (0x01, node One most_nodes) ((0x02, node Two most_nodes) ∷ []) tag bytes n → (version : Version) × IsForestOf version (tag ∷ bytes) n
    one (inl u) = (One, subst (λ (t : ℕ). IsForestOf One (t ∷ bytes) n) (sym u.0) (its_root One bytes n u.1))
    one (inr u) = two (under_either (0x02, node Two most_nodes) [] tag bytes n u.0 u.1)

pub forest_any : (version : Version) (payload : List ℕ) (n : Node) → IsForestOf version payload n → IsForest payload n
unfolding forest_of
forest_any version _ n (more {bytes = bytes} tag h s) = of_root version tag bytes n (under_either (version_byte version, node version most_nodes) [] tag bytes n h.0 s)

pub forest_version : (payload : List ℕ) (n : Node) → IsForest payload n → (version : Version) × IsForestOf version payload n
unfolding forest_message
forest_version _ n (more {bytes = bytes} tag h s) = of_roots tag bytes n h.0 s
