-- Notes as finite maps.
use Rattle.std.proofs.Common.{◌≡◌, ℕ, List, [], ◌∷◌, ◌++◌, cond, Option, Some, None, refl, sym, ap, ◌∙◌}
use Rattle.std.specs.Ordering.{nat_cmp}
use Rattle.std.specs.Cmp.{nat_cmp_total, eq_by_cmp_equiv}
use Rattle.std.specs.Map.{lookup}
use Rattle.std.specs.BTreeMap as tree
use Rattle.std.specs.FinMap.{find, get, from_entries, get-from_entries, same_map}
use Rattle.std.proofs.lemmas.Map.Lookups.{exact_unsigned}
use Rattle.rb_marks.specs.Notes.{first_at}

pub first_last : {A : Type 0} (ns : List (ℕ × A)) (n : ℕ × A) (q : ℕ) (other : Option A) → first_at (ns ++ n ∷ []) q other ≡ first_at ns q (cond (tree.is_at (nat_cmp n.0) q) (Some n.1) other)
first_last [] n q other = refl
first_last (m ∷ ns) n q other = ap (cond (tree.is_at (nat_cmp m.0) q) (Some m.1)) (first_last ns n q other)

find_entry : {A : Type 0} (es : List (ℕ × A)) (q : ℕ) → find nat_cmp q es ≡ lookup (tree.is_at (nat_cmp q)) es
find_entry [] q = refl
find_entry (e ∷ es) q = ap (cond (tree.is_at (nat_cmp q) e.0) (Some e.1)) (find_entry es q)

-- what the map of some entries has at a position
pub get_entries : {A : Type 0} (es : List (ℕ × A)) (q : ℕ) → get (from_entries {R = nat_cmp} es) q ≡ lookup (tree.is_at (nat_cmp q)) es
get_entries es q = get-from_entries nat_cmp_total es q ∙ find_entry es q

find_note : {A : Type 0} (ns : List (ℕ × A)) (q : ℕ) → find nat_cmp q ns ≡ first_at ns q None
find_note [] q = refl
find_note (n ∷ ns) q = ap (λ b. cond b (Some n.1) (find nat_cmp q ns)) ((eq_by_cmp_equiv nat_cmp_total).symm q n.0)
    ∙ ap (cond (tree.is_at (nat_cmp n.0) q) (Some n.1)) (find_note ns q)

-- what the map of some notes has at a position: the first note there
pub get_note : {A : Type 0} (ns : List (ℕ × A)) (q : ℕ) → get (from_entries {R = nat_cmp} ns) q ≡ first_at ns q None
get_note ns q = get-from_entries nat_cmp_total ns q ∙ find_note ns q

-- entries that have the first note at each position make the map of the notes
pub notes_same : {A : Type 0} (es ns : List (ℕ × A)) → ((q : ℕ) → lookup (tree.is_at (nat_cmp q)) es ≡ first_at ns q None) → from_entries {R = nat_cmp} es ≡ from_entries ns
notes_same es ns h = same_map nat_cmp_total exact_unsigned _ _ (λ q. get_entries es q ∙ h q ∙ sym (get_note ns q))
