-- How typed code ends, whatever its surroundings answer, as long as their answers fit.
use Rattle.std.specs.Prelude.{◌≡◌, ℕ, List, [], ◌∷◌, Bool, Option, Some, slice_get}
use Rattle.rb_trees.specs.declared.values.Value.{Value}
use Rattle.rb_trees.specs.declared.outcomes.Raised.{Raised}
use Rattle.rb_meaning_types.specs.Kinds.{Kind}
use Rattle.rb_meaning_types.specs.Violations.{Placed}
use Rattle.rb_meaning_types.specs.Scopes.{Scope}
use Rattle.rb_meaning_types.specs.Declared.{Declarations, Context}
use Rattle.rb_meaning_types.specs.Fits.{classes_of, Fits, HeapFits, StateHolds, StateFits}
use Rattle.rb_meaning_code.specs.State.{Local}
use Rattle.rb_meaning_code.specs.Dialogue.{Outcome, Gave, Faulted}
use Rattle.rb_law_types.specs.Kept.{FaultFits}

-- Objects stay in their places, each with its class; there may be more of them.
abbrev pub Grown : List (List ℕ) → List (List ℕ) → Type 0
Grown before after = (object : ℕ) (class : List ℕ) → slice_get before object ≡ Some class → slice_get after object ≡ Some class

-- Where code stands: the class of `this` in a method, whether it may be remote, and what is in scope.
pub record Place : Type 0 where
  pub this : Option (List ℕ)
  pub remote : Bool
  pub scope : Scope

abbrev pub context : Declarations → Place → Context
context d p = record { declared = d; this = p.this; remote = p.remote }

-- a local state that fits a scope, and one that holds at least what the scope has
abbrev pub LocalFits : Context → Scope → Local → Type 0
LocalFits x scope l = StateFits x scope l.names l.heap

abbrev pub LocalHolds : Context → Scope → Local → Type 0
LocalHolds x scope l = StateHolds x scope l.names l.heap

-- A local state fits the scope of a place.
abbrev pub FitsPlace : Declarations → Place → Local → Type 0
FitsPlace d p l = LocalFits (context d p) p.scope l

-- Code gave what it should, and left a state that fits the scope after it.
pub record GaveFit {A : Type 0} (x : Context) (after : Scope) (P : List (List ℕ) → A → Type 0) (before : List (List ℕ)) (a : A) (l : Local) : Type 0 where
  pub gives : P (classes_of l.heap) a
  pub state : LocalFits x after l
  pub grown : Grown before (classes_of l.heap)

-- Code ended by a fault that fits, and left a state that holds the scope before it.
pub record FellFit (x : Context) (scope : Scope) (before : List (List ℕ)) (r : Raised) (l : Local) : Type 0 where
  pub fault : FaultFits x.declared r
  pub state : LocalHolds x scope l
  pub grown : Grown before (classes_of l.heap)

-- How code ends that began in one scope, with objects of these classes, and goes on in another.
abbrev pub Ends : {A : Type 0} → Context → Scope → Scope → (List (List ℕ) → A → Type 0) → List (List ℕ) → Outcome A → Type 0
Ends x scope after P before (Gave a l) = GaveFit x after P before a l
Ends x scope after P before (Faulted r l) = FellFit x scope before r l

-- what is given: a value of the type, values of these types, nothing
abbrev pub OfKind : Context → Kind → List (List ℕ) → Value → Type 0
OfKind x kind classes v = Fits x.declared.interfaces classes kind v

abbrev pub OfKinds : Context → List Placed → List (List ℕ) → List Value → Type 0
OfKinds x [] classes [] = Unit {0}
OfKinds x [] classes (v ∷ vs) = ⊥
OfKinds x (p ∷ ps) classes [] = ⊥
OfKinds x (p ∷ ps) classes (v ∷ vs) = OfKind x p.kind classes v × OfKinds x ps classes vs

abbrev pub Nothing : List (List ℕ) → Unit {0} → Type 0
Nothing classes u = Unit {0}

-- how code ends as a statement does that adds no name, where it began at a place in a local state
abbrev pub EndsThere : Declarations → Place → Local → Outcome (Unit {0}) → Type 0
EndsThere d p l o = Ends (context d p) p.scope p.scope Nothing (classes_of l.heap) o

-- How a method's body ends: the names that it leaves are of no interest.
pub record Returned (d : Declarations) (before : List (List ℕ)) (l : Local) : Type 0 where
  pub heap : HeapFits d.interfaces d.classes l.heap
  pub grown : Grown before (classes_of l.heap)

abbrev pub Returns : Declarations → Kind → List (List ℕ) → Outcome Value → Type 0
Returns d kind before (Gave v l) = Fits d.interfaces (classes_of l.heap) kind v × Returned d before l
Returns d kind before (Faulted r l) = FaultFits d r × Returned d before l
