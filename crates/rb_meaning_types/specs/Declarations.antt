-- Declarations in source order: each by its name, then its members, each with its name and then its types.
use Rattle.std.specs.Prelude.{ℕ, List, [], ◌∷◌, ◌++◌, map, Bool, true, false, not, ◌&&◌, Ok}
use Rattle.rb_trees.specs.mirror.Declarations.{Param, Signature, Interface, Method, Class}
use Rattle.rb_meaning_types.specs.Names.{is_new}
use Rattle.rb_meaning_types.specs.Declared.{Declarations}
use Rattle.rb_meaning_types.specs.Violations.{Checked, NameTaken, NotAllowedHere}
use Rattle.rb_trees.specs.Outcome.{◌>>◌, must}
use Rattle.rb_meaning_types.specs.Places.{parameter_type, result_type}

-- a name that differs from those before
abbrev pub new_name : List (List ℕ) → ℕ → List ℕ → Checked (Unit {0})
new_name before at name = must (is_new name before) (NameTaken at)

-- parameters, of an interface's method or of a class's; fields are like the latter
abbrev pub check_params : Bool → Declarations → List (List ℕ) → List Param → Checked (Unit {0})
check_params remote d before [] = Ok tt
check_params remote d before (p ∷ ps) =
    new_name before p.at p.name >> parameter_type remote d p.kind
    >> check_params remote d (before ++ p.name ∷ []) ps

-- a signature's parameters and result
abbrev pub check_signature : Bool → Declarations → Signature → Checked (Unit {0})
check_signature remote d s =
    check_params remote d [] s.params >> result_type remote d s.result

abbrev pub check_signatures : Declarations → List (List ℕ) → List Signature → Checked (Unit {0})
check_signatures d before [] = Ok tt
check_signatures d before (s ∷ ss) =
    new_name before s.at s.name >> check_signature true d s
    >> check_signatures d (before ++ s.name ∷ []) ss

-- a service has no `remote` method
abbrev pub check_method : Declarations → Method → Checked (Unit {0})
check_method d m =
    check_signature false d m.signature >> must (not (d.service && m.remote)) (NotAllowedHere m.signature.at)

abbrev pub check_methods : Declarations → List (List ℕ) → List Method → Checked (Unit {0})
check_methods d before [] = Ok tt
check_methods d before (m ∷ ms) =
    new_name before m.signature.at m.signature.name >> check_method d m
    >> check_methods d (before ++ m.signature.name ∷ []) ms

abbrev pub check_interfaces : Declarations → List (List ℕ) → List Interface → Checked (Unit {0})
check_interfaces d before [] = Ok tt
check_interfaces d before (i ∷ is) =
    new_name before i.at i.name >> check_signatures d [] i.methods
    >> check_interfaces d (before ++ i.name ∷ []) is

-- a class: its fields, then its methods
abbrev pub check_class : Declarations → Class → Checked (Unit {0})
check_class d c =
    check_params false d [] c.fields >> check_methods d [] c.methods

-- a class's name differs from those of interfaces, too
abbrev pub check_classes : Declarations → List (List ℕ) → List Class → Checked (Unit {0})
check_classes d before [] = Ok tt
check_classes d before (c ∷ cs) =
    new_name before c.at c.name >> check_class d c
    >> check_classes d (before ++ c.name ∷ []) cs

-- interfaces, then classes; a name of an interface is none of a class
abbrev pub check_declarations : Declarations → Checked (Unit {0})
check_declarations d = check_interfaces d [] d.interfaces >> check_classes d (map (λ i. i.name) d.interfaces) d.classes
