-- The first broken rule in an expression is the violation that is computed.
use Rattle.std.proofs.Common.{◌≡◌, ℕ, List, [], ◌∷◌, map, false, not, ◌||◌, Option, Some, None, Ok, Err, refl, ap, sym, subst, ◌∙◌}
use Rattle.rb_trees.specs.mirror.Code.{Expr, Exprs, Lit, Name, This, Unary, Binary, Field, Call, Index, New, Items, Taken, NoExprs, MoreExprs, expr_at}
use Rattle.rb_trees.specs.mirror.Declarations.{Interface, Class}
use Rattle.rb_meaning_types.specs.Kinds.{Kind, Int, Bool, Text, Unit as UnitKind, Named, ListOf, RowsOf, kind_of, is_list}
use Rattle.rb_meaning_types.specs.Names.{interface_named, class_named, field_named, signature_named, method_named}
use Rattle.rb_meaning_types.specs.Declared.{Declarations, Context}
use Rattle.rb_meaning_types.specs.Violations.{Violation, Checked, Placed, UnknownName, WrongType, NotAllowedHere, wanted}
use Rattle.rb_trees.specs.Outcome.{◌>>=◌, ◌>>◌, must}
use Rattle.rb_meaning_types.specs.Scopes.{Scope, variable_named}
use Rattle.rb_meaning_types.specs.Literals.{literal_kind}
use Rattle.rb_meaning_types.specs.Operators.{takes_operand, unary_result, takes_left, binary_result, index_kind}
use Rattle.rb_meaning_types.specs.Places.{item_type}
use Rattle.rb_meaning_types.specs.Members.{arguments_fit, receiver_class, receiver_interface, call_on}
use Rattle.rb_meaning_types.specs.Expressions.{this_kind, all_wanted, with_first, type_of, types_of}
use Rattle.rb_typing_rules.specs.Rules.{HaveTypes, kinds_of, none, more}
use Rattle.rb_typing_rules.specs.BrokenCode.{parts, HasNoClass, BreaksExpr, BrokenExpr, BrokenExprs, no_variable, no_this, taken, operand, left, right, no_object, no_field, no_receiver, no_signature, signature_unfit, no_method, method_unfit, remote_call, no_list, no_index, unknown_class, new_unfit, item_misplaced, wrong_item, in_part, itself, expr_first, expr_later}
use Rattle.rb_typing_rules.proofs.Exprs.{placed_at, typed_has, typed_have, has_typed}
use Rattle.rb_typing_rules.proofs.Groups.{kinds_placed, fit_so}
use Rattle.rb_typing_rules.proofs.Parts.{own, parted, placed_as, have_placed, placed_have, placed_count}
use Rattle.rb_typing_rules.proofs.Stops.{Stops, ends, passes, weaker, bind_stops, then_stops, placed_stops, must_stops, known_stops, wanted_stops, in_order, bind_in_order, wanted_not}
use Rattle.rb_typing_rules.proofs.BrokenTypes.{item_stops, so_item}
use Rattle.rb_typing_rules.proofs.Misfits.{items_each, misfit_stops, so_misfit, fit_stops, so_unfit}

this_stops : (x : Context) (scope : Scope) (at : ℕ) (o : Option (List ℕ)) → x.this ≡ o → Stops (BreaksExpr x scope (This at) []) (this_kind o at)
this_stops x scope at (Some class) e = passes _ (Named class)
this_stops x scope at None e = ends _ (UnknownName at) (no_this at e)

-- a receiver of class type, of which R holds
receiver_stops : {B : Type 0} (R : Kind → Type 0) (Q : Kind → Violation → Type 0) (d : Declarations) (at : ℕ) (kind : Kind) (f : Class → Checked B) → R kind
    → (HasNoClass d kind → Q kind (WrongType at kind)) → ((name : List ℕ) (class : Class) → R (Named name) → class_named d.classes name ≡ Some class → Stops (Q (Named name)) (f class))
    → Stops (Q kind) (receiver_class d (placed_at at kind) kind >>= f)
receiver_stops R Q d at (Named name) f r bad good = known_stops _ (class_named d.classes name) (WrongType at (Named name)) f (λ e. bad e) (λ class e. good name class r e)
receiver_stops R Q d at Int f r bad good = ends _ (WrongType at Int) (bad tt)
receiver_stops R Q d at Bool f r bad good = ends _ (WrongType at Bool) (bad tt)
receiver_stops R Q d at Text f r bad good = ends _ (WrongType at Text) (bad tt)
receiver_stops R Q d at UnitKind f r bad good = ends _ (WrongType at UnitKind) (bad tt)
receiver_stops R Q d at (ListOf item) f r bad good = ends _ (WrongType at (ListOf item)) (bad tt)
receiver_stops R Q d at (RowsOf row) f r bad good = ends _ (WrongType at (RowsOf row)) (bad tt)

so_receiver : (d : Declarations) (at : ℕ) (kind : Kind) → HasNoClass d kind → receiver_class d (placed_at at kind) kind ≡ Err (WrongType at kind)
so_receiver d at (Named name) h = rw h refl
so_receiver d at Int h = refl
so_receiver d at Bool h = refl
so_receiver d at Text h = refl
so_receiver d at UnitKind h = refl
so_receiver d at (ListOf item) h = refl
so_receiver d at (RowsOf row) h = refl

-- a receiver of interface type
of_interface : (P : Kind → Type 0) (d : Declarations) (interface : Interface) (kind : Kind) → receiver_interface d kind ≡ Some interface
    → ((name : List ℕ) → interface_named d.interfaces name ≡ Some interface → P (Named name)) → P kind
of_interface P d interface (Named name) e f = f name e
of_interface P d interface Int e f = absurd (cc)
of_interface P d interface Bool e f = absurd (cc)
of_interface P d interface Text e f = absurd (cc)
of_interface P d interface UnitKind e f = absurd (cc)
of_interface P d interface (ListOf item) e f = absurd (cc)
of_interface P d interface (RowsOf row) e f = absurd (cc)

call_stops : (x : Context) (scope : Scope) (at : ℕ) (a : Expr) (method : List ℕ) (args : Exprs) (kind : Kind) (kinds : List Kind) → HaveTypes x scope args kinds
    → (found : Option Interface) → receiver_interface x.declared kind ≡ found
    → Stops (BreaksExpr x scope (Call at a method args) (kind ∷ kinds)) (call_on x at method (placed_at (expr_at a) kind) (placed_as args kinds) found)
call_stops x scope at a method args kind kinds typed (Some interface) is =
    of_interface (λ k. Stops (BreaksExpr x scope (Call at a method args) (k ∷ kinds)) (call_on x at method (placed_at (expr_at a) k) (placed_as args kinds) (Some interface)))
    x.declared interface kind is
    (λ name found. known_stops _ (signature_named interface.methods method) (UnknownName at) _ (λ e. no_signature at a method args name kinds interface found e)
    (λ s e. fit_stops x scope _ at s.params args kinds (Ok (kind_of s.result)) typed (λ v u. signature_unfit at a method args name kinds interface s v found e u) (λ same. passes _ (kind_of s.result))))
call_stops x scope at a method args kind kinds typed None is =
    receiver_stops (λ k. receiver_interface x.declared k ≡ None) (λ k. BreaksExpr x scope (Call at a method args) (k ∷ kinds)) x.declared (expr_at a) kind _ is
    (λ bad. no_receiver at a method args kind kinds is bad)
    (λ name class absent found. known_stops _ (method_named class.methods method) (UnknownName at) _ (λ e. no_method at a method args name kinds class absent found e)
    (λ m e. bind_in_order _ (arguments_fit at m.signature.params (placed_as args kinds)) (Ok (kind_of m.signature.result)) (λ k. must (x.remote || not m.remote) (NotAllowedHere at) >> Ok k)
    (fit_stops x scope _ at m.signature.params args kinds (must (x.remote || not m.remote) (NotAllowedHere at) >> Ok (kind_of m.signature.result)) typed
    (λ v u. method_unfit at a method args name kinds class m v absent found e u)
    (λ same. must_stops _ (x.remote || not m.remote) (NotAllowedHere at) (Ok (kind_of m.signature.result))
    (λ f. subst (λ ks. BreaksExpr x scope (Call at a method args) (Named name ∷ ks) (NotAllowedHere at)) (sym same) (remote_call at a method args name class m absent found e f))
    (λ f. passes _ (kind_of m.signature.result))))))

index_stops : (x : Context) (scope : Scope) (at : ℕ) (a b : Expr) (kind other : Kind)
    → Stops (BreaksExpr x scope (Index at a b) (kind ∷ other ∷ [])) (index_kind (placed_at (expr_at a) kind) (placed_at (expr_at b) other))
index_stops x scope at a b (ListOf item) other = wanted_stops _ Int (placed_at (expr_at b) other) (Ok item) (λ d. no_index at a b item other d) (λ s. passes _ item)
index_stops x scope at a b Int other = ends _ (WrongType (expr_at a) Int) (no_list at a b Int other refl)
index_stops x scope at a b Bool other = ends _ (WrongType (expr_at a) Bool) (no_list at a b Bool other refl)
index_stops x scope at a b Text other = ends _ (WrongType (expr_at a) Text) (no_list at a b Text other refl)
index_stops x scope at a b UnitKind other = ends _ (WrongType (expr_at a) UnitKind) (no_list at a b UnitKind other refl)
index_stops x scope at a b (Named name) other = ends _ (WrongType (expr_at a) (Named name)) (no_list at a b (Named name) other refl)
index_stops x scope at a b (RowsOf row) other = ends _ (WrongType (expr_at a) (RowsOf row)) (no_list at a b (RowsOf row) other refl)

rule_stops : (x : Context) (scope : Scope) (e : Expr) (kinds : List Kind) → HaveTypes x scope (parts e) kinds → Stops (BreaksExpr x scope e kinds) (own x scope e (placed_as (parts e) kinds))
rule_stops x scope (Lit at value) kinds typed = passes _ (literal_kind value)
rule_stops x scope (Name at name) _ none = known_stops _ (variable_named scope name) (UnknownName at) _ (λ e. no_variable at name e) (λ v e. passes _ v.kind)
rule_stops x scope (This at) _ none = this_stops x scope at x.this refl
rule_stops x scope (Unary at op a) _ (more _ _ kind _ typed none) =
    must_stops _ (takes_operand op kind) (WrongType (expr_at a) kind) (Ok (unary_result op)) (λ e. operand at op a kind e) (λ e. passes _ (unary_result op))
rule_stops x scope (Binary at op a b) _ (more _ _ kind _ typed (more _ _ other _ next none)) =
    let q = placed_at (expr_at b) other in
    let result : Checked Kind = Ok (binary_result op kind) in
    in_order _ (must (takes_left op kind) (WrongType (expr_at a) kind)) (wanted kind q) result
    (must_stops _ (takes_left op kind) (WrongType (expr_at a) kind) (wanted kind q >> result) (λ e. left at op a b kind other e)
    (λ e. wanted_stops _ kind q result (λ d. right at op a b kind other e d) (λ s. passes _ (binary_result op kind))))
rule_stops x scope (Field at a name) _ (more _ _ kind _ typed none) =
    receiver_stops (λ k. Unit {0}) (λ k. BreaksExpr x scope (Field at a name) (k ∷ [])) x.declared (expr_at a) kind _ tt (λ bad. no_object at a name kind bad)
    (λ object class u found. known_stops _ (field_named class.fields name) (UnknownName at) _ (λ e. no_field at a name object class found e) (λ f e. passes _ (kind_of f.kind)))
rule_stops x scope (Call at a method args) _ (more _ _ kind kinds first typed) = call_stops x scope at a method args kind kinds typed (receiver_interface x.declared kind) refl
rule_stops x scope (Index at a b) _ (more _ _ kind _ typed (more _ _ other _ next none)) = index_stops x scope at a b kind other
rule_stops x scope (New at name args) kinds typed =
    known_stops _ (class_named x.declared.classes name) (UnknownName at) _ (λ e. unknown_class at name args kinds e)
    (λ class e. fit_stops x scope _ at class.fields args kinds (Ok (Named name)) typed (λ v u. new_unfit at name args kinds class v e u) (λ same. passes _ (Named name)))
rule_stops x scope (Items at item es) kinds typed =
    let wants = all_wanted (kind_of item) (placed_as es kinds) in
    let result : Checked Kind = Ok (ListOf (kind_of item)) in
    in_order _ (item_type x.declared item) wants result
    (then_stops _ (item_type x.declared item) (wants >> result) (weaker _ _ (item_type x.declared item) (λ v b. item_misplaced at item es kinds v b) (item_stops x.declared item))
    (λ e. then_stops _ wants result (weaker _ _ wants (λ v m. wrong_item at item es kinds v e m)
    (subst (Stops _) (sym (items_each (kind_of item) es kinds)) (misfit_stops (map (λ k. kind_of item) kinds) es kinds))) (λ f. passes _ (ListOf (kind_of item)))))
rule_stops x scope (Taken at step) _ none = ends _ (NotAllowedHere at) (taken at step)

rest_have : (x : Context) (scope : Scope) (e : Expr) (es : Exprs) (kind : Kind) (kinds : List Kind) → HaveTypes x scope (MoreExprs e es) (kind ∷ kinds) → HaveTypes x scope es kinds
rest_have x scope _ _ _ _ (more e es kind kinds first rest) = rest

no_item_of : (at : ℕ) (kind : Kind) (q : Placed) → is_list kind ≡ false → index_kind (placed_at at kind) q ≡ Err (WrongType at kind)
no_item_of at (ListOf item) q e = cc
no_item_of at Int q e = refl
no_item_of at Bool q e = refl
no_item_of at Text q e = refl
no_item_of at UnitKind q e = refl
no_item_of at (Named name) q e = refl
no_item_of at (RowsOf row) q e = refl

so_rule : (x : Context) (scope : Scope) (e : Expr) (kinds : List Kind) (v : Violation) → BreaksExpr x scope e kinds v → HaveTypes x scope (parts e) kinds
    → own x scope e (placed_as (parts e) kinds) ≡ Err v
so_rule x scope _ _ _ (no_variable at name e) typed = rw e refl
so_rule x scope _ _ _ (no_this at e) typed = rw e refl
so_rule x scope _ _ _ (taken at step) typed = refl
so_rule x scope _ _ _ (operand at op a kind e) typed = rw e refl
so_rule x scope _ _ _ (left at op a b kind other e) typed = rw e refl
so_rule x scope _ _ _ (right at op a b kind other e d) typed = rw e (rw (wanted_not kind (placed_at (expr_at b) other) d) refl)
so_rule x scope _ _ _ (no_object at a name kind bad) typed = rw (so_receiver x.declared (expr_at a) kind bad) refl
so_rule x scope _ _ _ (no_field at a name object class found e) typed = rw found (rw e refl)
so_rule x scope _ _ _ (no_receiver at a method args kind kinds absent bad) typed = rw absent (rw (so_receiver x.declared (expr_at a) kind bad) refl)
so_rule x scope _ _ _ (no_signature at a method args receiver kinds interface found e) typed = rw found (rw e refl)
so_rule x scope _ _ _ (signature_unfit at a method args receiver kinds interface s v found e u) typed =
    rw found (rw e (rw (so_unfit x scope at s.params args kinds v (rest_have x scope a args (Named receiver) kinds typed) u) refl))
so_rule x scope _ _ _ (no_method at a method args receiver kinds class absent found e) typed = rw absent (rw found (rw e refl))
so_rule x scope _ _ _ (method_unfit at a method args receiver kinds class m v absent found e u) typed =
    rw absent (rw found (rw e (rw (so_unfit x scope at m.signature.params args kinds v (rest_have x scope a args (Named receiver) kinds typed) u) refl)))
so_rule x scope _ _ _ (remote_call at a method args receiver class m absent found e f) typed =
    let fit = fit_so at m.signature.params (placed_as args (kinds_of m.signature.params))
    (placed_count x scope args (kinds_of m.signature.params) (rest_have x scope a args (Named receiver) (kinds_of m.signature.params) typed)) in
    rw absent (rw found (rw e (rw fit (rw f refl))))
so_rule x scope _ _ _ (no_list at a b kind other e) typed = no_item_of (expr_at a) kind (placed_at (expr_at b) other) e
so_rule x scope _ _ _ (no_index at a b item other d) typed = rw (wanted_not Int (placed_at (expr_at b) other) d) refl
so_rule x scope _ _ _ (unknown_class at name args kinds e) typed = rw e refl
so_rule x scope _ _ _ (new_unfit at name args kinds class v e u) typed = rw e (rw (so_unfit x scope at class.fields args kinds v typed u) refl)
so_rule x scope _ _ _ (item_misplaced at item es kinds v b) typed = rw (so_item x.declared item v b) refl
so_rule x scope _ _ _ (wrong_item at item es kinds v e m) typed =
    rw e (rw (items_each (kind_of item) es kinds ∙ so_misfit (map (λ k. kind_of item) kinds) es kinds v m) refl)

-- an expression, by what its parts may be
whole_stops : (x : Context) (scope : Scope) (e : Expr) → Stops (BrokenExprs x scope (parts e)) (types_of x scope (parts e)) → Stops (BrokenExpr x scope e) (type_of x scope e)
whole_stops x scope e s =
    subst (Stops (BrokenExpr x scope e)) (sym (parted x scope e))
    (bind_stops _ (types_of x scope (parts e)) (own x scope e) (weaker _ _ (types_of x scope (parts e)) (λ v b. in_part e v b) s)
    (λ ps h. let typed = typed_have x scope (parts e) ps h in
    subst (λ qs. Stops (BrokenExpr x scope e) (own x scope e qs)) (sym (placed_have x scope (parts e) ps h))
    (weaker _ _ (own x scope e (placed_as (parts e) (kinds_placed ps))) (λ v r. itself e (kinds_placed ps) v typed r) (rule_stops x scope e (kinds_placed ps) typed))))

first_stops : (Q R : Violation → Type 0) (p : Placed) (r : Checked (List Placed)) → ((v : Violation) → Q v → R v) → Stops Q r → Stops R (with_first p r)
first_stops Q R p (Ok ps) f s = passes R (p ∷ ps)
first_stops Q R p (Err v) f s = ends R v (f v (s.by v refl))

more_stops : (x : Context) (scope : Scope) (e : Expr) (es : Exprs) → Stops (BrokenExpr x scope e) (type_of x scope e) → Stops (BrokenExprs x scope es) (types_of x scope es)
    → Stops (BrokenExprs x scope (MoreExprs e es)) (types_of x scope (MoreExprs e es))
more_stops x scope e es s t =
    placed_stops _ (expr_at e) (type_of x scope e) _ (weaker _ _ (type_of x scope e) (λ v b. expr_first e es v b) s)
    (λ kind h. first_stops _ _ (placed_at (expr_at e) kind) (types_of x scope es) (λ v b. expr_later e es kind v (typed_has x scope e kind h) b) t)

no_parts : (x : Context) (scope : Scope) → Stops (BrokenExprs x scope NoExprs) (types_of x scope NoExprs)
no_parts x scope = passes _ []

mutual
  pub expr_stops : (x : Context) (scope : Scope) (e : Expr) → Stops (BrokenExpr x scope e) (type_of x scope e)
  expr_stops x scope (Lit at value) = whole_stops x scope (Lit at value) (no_parts x scope)
  expr_stops x scope (Name at name) = whole_stops x scope (Name at name) (no_parts x scope)
  expr_stops x scope (This at) = whole_stops x scope (This at) (no_parts x scope)
  expr_stops x scope (Unary at op a) = whole_stops x scope (Unary at op a) (more_stops x scope a NoExprs (expr_stops x scope a) (no_parts x scope))
  expr_stops x scope (Binary at op a b) = whole_stops x scope (Binary at op a b)
      (more_stops x scope a (MoreExprs b NoExprs) (expr_stops x scope a) (more_stops x scope b NoExprs (expr_stops x scope b) (no_parts x scope)))
  expr_stops x scope (Field at a name) = whole_stops x scope (Field at a name) (more_stops x scope a NoExprs (expr_stops x scope a) (no_parts x scope))
  expr_stops x scope (Call at a method args) = whole_stops x scope (Call at a method args) (more_stops x scope a args (expr_stops x scope a) (exprs_stops x scope args))
  expr_stops x scope (Index at a b) = whole_stops x scope (Index at a b)
      (more_stops x scope a (MoreExprs b NoExprs) (expr_stops x scope a) (more_stops x scope b NoExprs (expr_stops x scope b) (no_parts x scope)))
  expr_stops x scope (New at name args) = whole_stops x scope (New at name args) (exprs_stops x scope args)
  expr_stops x scope (Items at item es) = whole_stops x scope (Items at item es) (exprs_stops x scope es)
  expr_stops x scope (Taken at step) = whole_stops x scope (Taken at step) (no_parts x scope)

  pub exprs_stops : (x : Context) (scope : Scope) (es : Exprs) → Stops (BrokenExprs x scope es) (types_of x scope es)
  exprs_stops x scope NoExprs = no_parts x scope
  exprs_stops x scope (MoreExprs e es) = more_stops x scope e es (expr_stops x scope e) (exprs_stops x scope es)

mutual
  pub so_broken : (x : Context) (scope : Scope) (e : Expr) (v : Violation) → BrokenExpr x scope e v → type_of x scope e ≡ Err v
  so_broken x scope _ _ (in_part e v b) = parted x scope e ∙ ap (λ r. r >>= own x scope e) (all_broken x scope (parts e) v b)
  so_broken x scope _ _ (itself e kinds v typed r) =
      parted x scope e ∙ ap (λ s. s >>= own x scope e) (have_placed x scope (parts e) kinds typed) ∙ so_rule x scope e kinds v r typed

  pub all_broken : (x : Context) (scope : Scope) (es : Exprs) (v : Violation) → BrokenExprs x scope es v → types_of x scope es ≡ Err v
  all_broken x scope _ _ (expr_first e es v b) = rw (so_broken x scope e v b) refl
  all_broken x scope _ _ (expr_later e es kind v typed b) = rw (has_typed x scope e kind typed) (rw (all_broken x scope es v b) refl)

pub expr_broken : (x : Context) (scope : Scope) (e : Expr) (v : Violation) → type_of x scope e ≡ Err v → BrokenExpr x scope e v
expr_broken x scope e v h = let s = expr_stops x scope e in s.by v h
