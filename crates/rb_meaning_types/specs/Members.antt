-- The types of what names a member or a class: a field, a call, a `new`.
use Rattle.std.specs.Prelude.{ℕ, List, [], ◌∷◌, not, ◌||◌, length, nat_eq, Option, Some, None, Ok, Err}
use Rattle.rb_trees.specs.mirror.Declarations.{Param, Signature, Interface, Class}
use Rattle.rb_meaning_types.specs.Kinds.{Kind, Named, kind_of}
use Rattle.rb_meaning_types.specs.Names.{interface_named, class_named, field_named, signature_named, method_named}
use Rattle.rb_meaning_types.specs.Declared.{Declarations, Context}
use Rattle.rb_meaning_types.specs.Violations.{Checked, Placed, UnknownName, WrongCount, NotAllowedHere, wanted, wrong_type}
use Rattle.rb_trees.specs.Outcome.{◌>>=◌, ◌>>◌, known, must}

-- each argument has the type of its parameter
abbrev pub arguments_wanted : List Param → List Placed → Checked (Unit {0})
arguments_wanted [] args = Ok tt
arguments_wanted (p ∷ ps) [] = Ok tt
arguments_wanted (p ∷ ps) (a ∷ args) = wanted (kind_of p.kind) a >> arguments_wanted ps args

-- as many arguments as parameters, each of its type
abbrev pub arguments_fit : ℕ → List Param → List Placed → Checked (Unit {0})
arguments_fit at params args = must (nat_eq (length args) (length params)) (WrongCount at) >> arguments_wanted params args

-- the class of a receiver, which has to be of class type
abbrev pub receiver_class : Declarations → Placed → Kind → Checked Class
receiver_class d p (Named name) = known (wrong_type p) (class_named d.classes name)
receiver_class d p _ = Err (wrong_type p)

-- a field of an object
abbrev pub field_kind : Declarations → ℕ → List ℕ → Placed → Checked Kind
field_kind d at name p = receiver_class d p p.kind >>= λ class.
    known (UnknownName at) (field_named class.fields name) >>= λ field. Ok (kind_of field.kind)

-- what a call of a method gives, by its signature
abbrev pub signature_kind : ℕ → Signature → List Placed → Checked Kind
signature_kind at signature args = arguments_fit at signature.params args >> Ok (kind_of signature.result)

-- a call of a method of an interface
abbrev pub interface_call : ℕ → List ℕ → Interface → List Placed → Checked Kind
interface_call at method interface args = known (UnknownName at) (signature_named interface.methods method) >>= λ s. signature_kind at s args

-- a call of a method of a class: that of a `remote` one stands in `main` or in a `remote` method
abbrev pub class_call : Context → ℕ → List ℕ → Class → List Placed → Checked Kind
class_call x at method class args = known (UnknownName at) (method_named class.methods method) >>= λ m.
    signature_kind at m.signature args >>= λ kind. must (x.remote || not m.remote) (NotAllowedHere at) >> Ok kind

-- a call on a receiver of the interface of a name, where there is one, or of the class
abbrev pub call_on : Context → ℕ → List ℕ → Placed → List Placed → Option Interface → Checked Kind
call_on x at method p args (Some interface) = interface_call at method interface args
call_on x at method p args None = receiver_class x.declared p p.kind >>= λ class. class_call x at method class args

abbrev pub receiver_interface : Declarations → Kind → Option Interface
receiver_interface d (Named name) = interface_named d.interfaces name
receiver_interface d _ = None

-- a call: the receiver is of interface or class type, the method is there, the arguments fit
abbrev pub call_kind : Context → ℕ → List ℕ → Placed → List Placed → Checked Kind
call_kind x at method p args = call_on x at method p args (receiver_interface x.declared p.kind)

-- a new object: the class is there, and the arguments fit its fields
abbrev pub new_kind : Declarations → ℕ → List ℕ → List Placed → Checked Kind
new_kind d at name args = known (UnknownName at) (class_named d.classes name) >>= λ class.
    arguments_fit at class.fields args >> Ok (Named name)
