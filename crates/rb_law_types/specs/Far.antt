-- Laws of what goes to remote objects and comes from them.
use Rattle.std.specs.Prelude.{◌≡◌, ℕ, List, Some, Ok}
use Rattle.rb_trees.specs.declared.values.Value.{Value}
use Rattle.rb_trees.specs.mirror.Declarations.{Interface}
use Rattle.rb_meaning_types.specs.Kinds.{Kind}
use Rattle.rb_meaning_types.specs.Names.{interface_named}
use Rattle.rb_meaning_types.specs.Violations.{Placed}
use Rattle.rb_meaning_types.specs.Declared.{Declarations}
use Rattle.rb_meaning_types.specs.Members.{interface_call}
use Rattle.rb_meaning_types.specs.Fits.{Fits}
use Rattle.rb_law_types.specs.Kept.{IsBounded}
use Rattle.rb_law_types.specs.Own.{IsFarKind}
use Rattle.rb_law_types.specs.Code.{AreTyped}

-- A value that fits a type is within its limits.
abbrev pub FittingAreBounded : Type 0
FittingAreBounded = (interfaces : List Interface) (classes : List (List ℕ)) (kind : Kind) (v : Value) → Fits interfaces classes kind v → IsBounded v

-- A call of an interface's method has a type that may come from a remote object.
abbrev pub RemoteCallsGiveFar : Type 0
RemoteCallsGiveFar = (d : Declarations) → AreTyped d → (at : ℕ) (name method : List ℕ) (interface : Interface) (args : List Placed) (kind : Kind)
    → interface_named d.interfaces name ≡ Some interface → interface_call at method interface args ≡ Ok kind → IsFarKind d.interfaces kind
