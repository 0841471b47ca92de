-- The first item of a name, as its view shows it, stands at the name's first place.
use Rattle.std.proofs.Common.{◌≡◌, ℕ, List, map}
use Rattle.std.specs.Option.{option_map}
use Rattle.rb_trees.specs.declared.declarations.Interface as interface
use Rattle.rb_trees.specs.declared.declarations.Signature as signature
use Rattle.rb_trees.specs.declared.declarations.Class as class
use Rattle.rb_trees.specs.declared.declarations.Param as param
use Rattle.rb_trees.specs.declared.declarations.Method as method
use Rattle.rb_trees.specs.mirror.Declarations.{mirror_param, mirror_signature, mirror_interface, mirror_method, mirror_class}
use Rattle.rb_meaning_types.specs.Names.{interface_named, class_named, field_named, signature_named, method_named}
use Rattle.rb_meaning_types.specs.Scopes.{variable_named}
use Rattle.rb_names.specs.Guesses.{first_place}
use Rattle.rb_names.proofs.Guided.{item_at, place_viewed}
use Rattle.rb_types.specs.declared.scope.Variable as variable
use Rattle.rb_types.specs.Views.{variable_of, scope_of}

pub variable_viewed : (vs : List variable.Variable) (name : List ℕ) → variable_named (scope_of vs) name ≡ option_map variable_of (item_at vs (first_place name (map (λ v. v.name) vs)))
variable_viewed vs name = place_viewed variable_of (λ v. v.name) vs name

pub interface_viewed : (is : List interface.Interface) (name : List ℕ)
    → interface_named (map mirror_interface is) name ≡ option_map mirror_interface (item_at is (first_place name (map (λ i. i.name) is)))
interface_viewed is name = place_viewed mirror_interface (λ i. i.name) is name

pub signature_viewed : (ss : List signature.Signature) (name : List ℕ)
    → signature_named (map mirror_signature ss) name ≡ option_map mirror_signature (item_at ss (first_place name (map (λ s. s.name) ss)))
signature_viewed ss name = place_viewed mirror_signature (λ s. s.name) ss name

pub class_viewed : (cs : List class.Class) (name : List ℕ) → class_named (map mirror_class cs) name ≡ option_map mirror_class (item_at cs (first_place name (map (λ c. c.name) cs)))
class_viewed cs name = place_viewed mirror_class (λ c. c.name) cs name

pub field_viewed : (fs : List param.Param) (name : List ℕ) → field_named (map mirror_param fs) name ≡ option_map mirror_param (item_at fs (first_place name (map (λ f. f.name) fs)))
field_viewed fs name = place_viewed mirror_param (λ f. f.name) fs name

pub method_viewed : (ms : List method.Method) (name : List ℕ)
    → method_named (map mirror_method ms) name ≡ option_map mirror_method (item_at ms (first_place name (map (λ m. m.signature.name) ms)))
method_viewed ms name = place_viewed mirror_method (λ m. m.signature.name) ms name
