-- Fields, calls and new objects have their types whatever the positions are.
use Rattle.std.proofs.Common.{◌≡◌, ℕ, List, [], ◌∷◌, map, length, nat_eq, Bool, not, ◌||◌, None, Ok, refl, sym, ap, subst, ◌∙◌}
use Rattle.rb_trees.specs.mirror.Declarations.{Param, Method, Class}
use Rattle.rb_trees.specs.Outcome.{◌>>=◌, ◌>>◌, must}
use Rattle.rb_trees.specs.printing.Unplaced.{unplaced_type, unplaced_param, unplaced_method, unplaced_class}
use Rattle.rb_meaning_types.specs.Kinds as kind
use Rattle.rb_meaning_types.specs.Kinds.{Kind, kind_of}
use Rattle.rb_meaning_types.specs.Names.{class_named, field_named, method_named}
use Rattle.rb_meaning_types.specs.Declared.{Context, of_service, method_context}
use Rattle.rb_meaning_types.specs.Violations.{Checked, Placed, UnknownName, WrongCount, NotAllowedHere, wrong_type}
use Rattle.rb_meaning_types.specs.Members.{arguments_wanted, arguments_fit, receiver_class, field_kind, signature_kind, class_call, call_on, receiver_interface, call_kind, new_kind}
use Rattle.rb_law_tables.proofs.alike.Checks.{Alike, pass, fail, Same, SameKind, SameKinds, bind_alike, then_alike, must_alike, known_alike, wanted_alike, by_kind, same_length}
use Rattle.rb_law_tables.proofs.alike.Names.{bare, class_bare, field_bare, method_bare, kind_bare, length_map}

arguments_alike : (params : List Param) (ps qs : List Placed) → SameKinds ps qs → Alike Same (arguments_wanted params ps) (arguments_wanted (map unplaced_param params) qs)
arguments_alike [] ps qs h = pass refl
arguments_alike (x ∷ xs) [] [] h = pass refl
arguments_alike (x ∷ xs) [] (q ∷ qs) h = absurd h
arguments_alike (x ∷ xs) (p ∷ ps) [] h = absurd h
arguments_alike (x ∷ xs) (p ∷ ps) (q ∷ qs) h =
    then_alike (wanted_alike (kind_of x.kind) (kind_of (unplaced_type x.kind)) p q (sym (kind_bare x.kind)) h.0) (arguments_alike xs ps qs h.1)

fit_alike : (at here : ℕ) (params : List Param) (ps qs : List Placed) → SameKinds ps qs → Alike Same (arguments_fit at params ps) (arguments_fit here (map unplaced_param params) qs)
fit_alike at here params ps qs h =
    then_alike
    (must_alike (nat_eq (length ps) (length params)) (nat_eq (length qs) (length (map unplaced_param params))) (WrongCount at) (WrongCount here)
    (ap (λ n. nat_eq n (length params)) (same_length ps qs h) ∙ ap (nat_eq (length qs)) (sym (length_map unplaced_param params))))
    (arguments_alike params ps qs h)

-- a call of a method that is found, and a new object of a class that is
abbrev class_step : Context → ℕ → Method → List Placed → Checked Kind
class_step x at m args = signature_kind at m.signature args >>= λ kind. must (x.remote || not m.remote) (NotAllowedHere at) >> Ok kind

abbrev new_step : ℕ → List ℕ → Class → List Placed → Checked Kind
new_step at name class args = arguments_fit at class.fields args >> Ok (kind.Named name)

-- the class without its positions
abbrev Bare : Class → Class → Type 0
Bare c d = d ≡ unplaced_class c

module _ (cs : List Class) where
  receiver_by : (p q : Placed) (k : Kind) → Alike Bare (receiver_class (of_service cs) p k) (receiver_class (of_service (bare cs)) q k)
  receiver_by p q (kind.Named name) = known_alike unplaced_class (class_named cs name) (class_named (bare cs) name) (wrong_type p) (wrong_type q) (class_bare cs name)
  receiver_by p q kind.Int = fail
  receiver_by p q kind.Bool = fail
  receiver_by p q kind.Text = fail
  receiver_by p q kind.Unit = fail
  receiver_by p q (kind.ListOf item) = fail
  receiver_by p q (kind.RowsOf row) = fail

  receiver_alike : (p q : Placed) → SameKind p q → Alike Bare (receiver_class (of_service cs) p p.kind) (receiver_class (of_service (bare cs)) q q.kind)
  receiver_alike p q e = by_kind Bare (receiver_class (of_service cs) p) (receiver_class (of_service (bare cs)) q) p q e (receiver_by p q)

  pub field_alike : (at here : ℕ) (name : List ℕ) (p q : Placed) → SameKind p q → Alike Same (field_kind (of_service cs) at name p) (field_kind (of_service (bare cs)) here name q)
  field_alike at here name p q e =
      bind_alike (receiver_alike p q e) (λ c d same.
      bind_alike (known_alike unplaced_param (field_named c.fields name) (field_named d.fields name) (UnknownName at) (UnknownName here) (ap (λ x. field_named x.fields name) same ∙ field_bare c.fields name))
      (λ f g is. pass (sym (ap (λ x. kind_of x.kind) is ∙ kind_bare f.kind))))

  module _ (class : List ℕ) (remote : Bool) where
    -- where code of a method stands, with the positions of the classes and without them
    abbrev pub Here : Context
    Here = method_context (of_service cs) class remote

    abbrev pub There : Context
    There = method_context (of_service (bare cs)) class remote

    signature_alike : (at here : ℕ) (m : Method) (ps qs : List Placed) → SameKinds ps qs → Alike Same (signature_kind at m.signature ps) (signature_kind here (unplaced_method m).signature qs)
    signature_alike at here m ps qs h = then_alike (fit_alike at here m.signature.params ps qs h) (pass (sym (kind_bare m.signature.result)))

    called_alike : (at here : ℕ) (name : List ℕ) (c : Class) (ps qs : List Placed) → SameKinds ps qs → Alike Same (class_call Here at name c ps) (class_call There here name (unplaced_class c) qs)
    called_alike at here name c ps qs h =
        bind_alike (known_alike unplaced_method (method_named c.methods name) (method_named (map unplaced_method c.methods) name) (UnknownName at) (UnknownName here) (method_bare c.methods name))
        (λ m n is. subst (λ o. Alike Same (class_step Here at m ps) (class_step There here o qs)) (sym is)
        (bind_alike (signature_alike at here m ps qs h) (λ k l same. then_alike (must_alike (remote || not m.remote) (remote || not m.remote) (NotAllowedHere at) (NotAllowedHere here) refl) (pass same))))

    no_interface : (classes : List Class) (k : Kind) → receiver_interface (of_service classes) k ≡ None
    no_interface classes (kind.Named name) = refl
    no_interface classes kind.Int = refl
    no_interface classes kind.Bool = refl
    no_interface classes kind.Text = refl
    no_interface classes kind.Unit = refl
    no_interface classes (kind.ListOf item) = refl
    no_interface classes (kind.RowsOf row) = refl

    pub call_alike : (at here : ℕ) (name : List ℕ) (p q : Placed) (ps qs : List Placed) → SameKind p q → SameKinds ps qs → Alike Same (call_kind Here at name p ps) (call_kind There here name q qs)
    call_alike at here name p q ps qs e h =
        subst (λ o. Alike Same (call_on Here at name p ps o) (call_kind There here name q qs)) (sym (no_interface cs p.kind))
        (subst (λ o. Alike Same (call_on Here at name p ps None) (call_on There here name q qs o)) (sym (no_interface (bare cs) q.kind))
        (bind_alike (receiver_alike p q e) (λ c d is. subst (λ x. Alike Same (class_call Here at name c ps) (class_call There here name x qs)) (sym is) (called_alike at here name c ps qs h))))

  pub new_alike : (at here : ℕ) (name : List ℕ) (ps qs : List Placed) → SameKinds ps qs → Alike Same (new_kind (of_service cs) at name ps) (new_kind (of_service (bare cs)) here name qs)
  new_alike at here name ps qs h =
      bind_alike (known_alike unplaced_class (class_named cs name) (class_named (bare cs) name) (UnknownName at) (UnknownName here) (class_bare cs name))
      (λ c d is. subst (λ x. Alike Same (new_step at name c ps) (new_step here name x qs)) (sym is) (then_alike (fit_alike at here c.fields ps qs h) (pass refl)))
