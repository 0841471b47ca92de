-- Parts in order: when all are right, and which is broken first.
use Rattle.std.specs.Prelude.{◌≡◌, ℕ, List, [], ◌∷◌, ◌++◌, true, false}
use Rattle.rb_meaning_types.specs.Names.{is_new}
use Rattle.rb_meaning_types.specs.Violations.{Violation, NameTaken}

-- Each item of a list is right.
abbrev pub Each : {A : Type 0} → (A → Type 0) → List A → Type 0
Each Right [] = Unit {0}
Each Right (a ∷ others) = Right a × Each Right others

-- Members are right, and the name of each differs from those before.
abbrev pub AreMembers : {A : Type 0} → (A → List ℕ) → (A → Type 0) → List (List ℕ) → List A → Type 0
AreMembers name Right before [] = Unit {0}
AreMembers name Right before (m ∷ ms) = (is_new (name m) before ≡ true) × Right m × AreMembers name Right (before ++ name m ∷ []) ms

abbrev pub Differ : {A : Type 0} → A → A → Type 0
Differ a b = a ≡ b → ⊥

-- Of two parts the first is broken, or it is right and the second is broken.
pub data InOrder (First : Violation → Type 0) (Right : Type 0) (Second : Violation → Type 0) : Violation → Type 0 where
  first : (v : Violation) → First v → InOrder First Right Second v
  second : (v : Violation) → Right → Second v → InOrder First Right Second v

-- An item of a list is broken, and those before it are right.
pub data InList {A : Type 0} (Right : A → Type 0) (Broken : A → Violation → Type 0) : List A → Violation → Type 0 where
  item : (a : A) (others : List A) (v : Violation) → Broken a v → InList Right Broken (a ∷ others) v
  later_item : (a : A) (others : List A) (v : Violation) → Right a → InList Right Broken others v → InList Right Broken (a ∷ others) v

-- A member of a declaration has a name of those before, or is broken itself, and those before it are right.
pub data InMembers {A : Type 0} (at : A → ℕ) (name : A → List ℕ) (Right : A → Type 0) (Broken : A → Violation → Type 0) : List (List ℕ) → List A → Violation → Type 0 where
  name_taken : (before : List (List ℕ)) (m : A) (ms : List A) → is_new (name m) before ≡ false
      → InMembers at name Right Broken before (m ∷ ms) (NameTaken (at m))
  member : (before : List (List ℕ)) (m : A) (ms : List A) (v : Violation) → is_new (name m) before ≡ true → Broken m v
      → InMembers at name Right Broken before (m ∷ ms) v
  later_member : (before : List (List ℕ)) (m : A) (ms : List A) (v : Violation) → is_new (name m) before ≡ true → Right m
      → InMembers at name Right Broken (before ++ name m ∷ []) ms v → InMembers at name Right Broken before (m ∷ ms) v
