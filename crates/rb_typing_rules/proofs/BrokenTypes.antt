-- The first broken rule in a written type is the violation that is computed.
use Rattle.std.proofs.Common.{◌≡◌, ℕ, Bool as Truth, true, false, Err, refl, ap}
use Rattle.rb_trees.specs.mirror.Types.{TypeTree, Int, Bool, Text, Unit as UnitType, Named, ListOf, RowsOf, type_at}
use Rattle.rb_meaning_types.specs.Declared.{Declarations, is_class, is_declared}
use Rattle.rb_meaning_types.specs.Violations.{Violation, Checked, UnknownName, TypeNotHere}
use Rattle.rb_trees.specs.Outcome.{◌>>◌, must}
use Rattle.rb_meaning_types.specs.Places.{declared_type, value_type, value_result, is_remote_value, is_remote_result, item_type, parameter_type, result_type, is_main_result, main_type}
use Rattle.rb_typing_rules.specs.Programs.{IsKnown}
use Rattle.rb_typing_rules.specs.BrokenTypes.{UnknownType, NoValueType, NoValueResult, Fails, BrokenType, BrokenItem, BrokenParameter, BrokenResult, BrokenMainResult, unknown_name, unknown_item, unknown_row, no_unit, no_class, no_item, no_rows}
use Rattle.rb_typing_rules.proofs.Decls.{known_so, so_known}
use Rattle.rb_typing_rules.proofs.Stops.{Stops, ends, passes, weaker, must_stop, order_stops, so_order}

unknown_stops : (d : Declarations) (t : TypeTree) → Stops (UnknownType d t) (declared_type d t)
unknown_stops d (Int at) = passes _ tt
unknown_stops d (Bool at) = passes _ tt
unknown_stops d (Text at) = passes _ tt
unknown_stops d (UnitType at) = passes _ tt
unknown_stops d (Named at name) = must_stop _ (is_declared d name) (UnknownName at) (λ e. unknown_name at name e)
unknown_stops d (ListOf at t) = weaker _ _ (declared_type d t) (unknown_item at t) (unknown_stops d t)
unknown_stops d (RowsOf at t) = weaker _ _ (declared_type d t) (unknown_row at t) (unknown_stops d t)

so_unknown : (d : Declarations) (t : TypeTree) (v : Violation) → UnknownType d t v → declared_type d t ≡ Err v
so_unknown d _ _ (unknown_name at name e) = rw e refl
so_unknown d _ _ (unknown_item at t v u) = so_unknown d t v u
so_unknown d _ _ (unknown_row at t v u) = so_unknown d t v u

value_stops : (d : Declarations) (t : TypeTree) → Stops (NoValueType d t) (value_type d t)
value_stops d (Int at) = passes _ tt
value_stops d (Bool at) = passes _ tt
value_stops d (Text at) = passes _ tt
value_stops d (UnitType at) = ends _ (TypeNotHere at) (no_unit at)
value_stops d (Named at name) = must_stop _ (is_class d name) (TypeNotHere at) (λ e. no_class at name e)
value_stops d (ListOf at t) = weaker _ _ (value_type d t) (no_item at t) (value_stops d t)
value_stops d (RowsOf at t) = ends _ (TypeNotHere at) (no_rows at t)

so_no_value : (d : Declarations) (t : TypeTree) (v : Violation) → NoValueType d t v → value_type d t ≡ Err v
so_no_value d _ _ (no_unit at) = refl
so_no_value d _ _ (no_class at name e) = rw e refl
so_no_value d _ _ (no_item at t v u) = so_no_value d t v u
so_no_value d _ _ (no_rows at t) = refl

result_stops : (d : Declarations) (t : TypeTree) → Stops (NoValueResult d t) (value_result d t)
result_stops d (Int at) = passes _ tt
result_stops d (Bool at) = passes _ tt
result_stops d (Text at) = passes _ tt
result_stops d (UnitType at) = passes _ tt
result_stops d (Named at name) = value_stops d (Named at name)
result_stops d (ListOf at t) = value_stops d (ListOf at t)
result_stops d (RowsOf at t) = value_stops d (RowsOf at t)

so_no_result : (d : Declarations) (t : TypeTree) (v : Violation) → NoValueResult d t v → value_result d t ≡ Err v
so_no_result d (Int at) v u = so_no_value d (Int at) v u
so_no_result d (Bool at) v u = so_no_value d (Bool at) v u
so_no_result d (Text at) v u = so_no_value d (Text at) v u
so_no_result d (UnitType at) v u = absurd u
so_no_result d (Named at name) v u = so_no_value d (Named at name) v u
so_no_result d (ListOf at t) v u = so_no_value d (ListOf at t) v u
so_no_result d (RowsOf at t) v u = so_no_value d (RowsOf at t) v u

-- a type's names first, then its place
type_stops : (d : Declarations) (t : TypeTree) (Misplaced : Violation → Type 0) (r : Checked (Unit {0})) → Stops Misplaced r
    → Stops (BrokenType d t Misplaced) (declared_type d t >> r)
type_stops d t Misplaced r s = order_stops (UnknownType d t) (IsKnown d t) Misplaced (declared_type d t) r (unknown_stops d t) (known_so d t) s

so_type : (d : Declarations) (t : TypeTree) (Misplaced : Violation → Type 0) (r : Checked (Unit {0})) → ((v : Violation) → Misplaced v → r ≡ Err v)
    → (v : Violation) → BrokenType d t Misplaced v → (declared_type d t >> r) ≡ Err v
so_type d t Misplaced r so = so_order (UnknownType d t) (IsKnown d t) Misplaced (declared_type d t) r (so_unknown d t) (so_known d t) so

pub fails_stops : (passes : Truth) (t : TypeTree) → Stops (Fails passes t) (must passes (TypeNotHere (type_at t)))
fails_stops b t = must_stop _ b (TypeNotHere (type_at t)) (λ e. (e, refl))

pub so_fails : (passes : Truth) (t : TypeTree) (v : Violation) → Fails passes t v → must passes (TypeNotHere (type_at t)) ≡ Err v
so_fails b t v f = rw f.0 (ap Err f.1)

pub item_stops : (d : Declarations) (t : TypeTree) → Stops (BrokenItem d t) (item_type d t)
item_stops d t = type_stops d t (NoValueType d t) (value_type d t) (value_stops d t)

pub so_item : (d : Declarations) (t : TypeTree) (v : Violation) → BrokenItem d t v → item_type d t ≡ Err v
so_item d t = so_type d t (NoValueType d t) (value_type d t) (so_no_value d t)

pub parameter_stops : (remote : Truth) (d : Declarations) (t : TypeTree) → Stops (BrokenParameter remote d t) (parameter_type remote d t)
parameter_stops true d t = type_stops d t (Fails (is_remote_value d t) t) (must (is_remote_value d t) (TypeNotHere (type_at t))) (fails_stops (is_remote_value d t) t)
parameter_stops false d t = type_stops d t (NoValueType d t) (value_type d t) (value_stops d t)

pub so_parameter : (remote : Truth) (d : Declarations) (t : TypeTree) (v : Violation) → BrokenParameter remote d t v → parameter_type remote d t ≡ Err v
so_parameter true d t = so_type d t (Fails (is_remote_value d t) t) (must (is_remote_value d t) (TypeNotHere (type_at t))) (so_fails (is_remote_value d t) t)
so_parameter false d t = so_type d t (NoValueType d t) (value_type d t) (so_no_value d t)

pub results_stops : (remote : Truth) (d : Declarations) (t : TypeTree) → Stops (BrokenResult remote d t) (result_type remote d t)
results_stops true d t = type_stops d t (Fails (is_remote_result d t) t) (must (is_remote_result d t) (TypeNotHere (type_at t))) (fails_stops (is_remote_result d t) t)
results_stops false d t = type_stops d t (NoValueResult d t) (value_result d t) (result_stops d t)

pub so_results : (remote : Truth) (d : Declarations) (t : TypeTree) (v : Violation) → BrokenResult remote d t v → result_type remote d t ≡ Err v
so_results true d t = so_type d t (Fails (is_remote_result d t) t) (must (is_remote_result d t) (TypeNotHere (type_at t))) (so_fails (is_remote_result d t) t)
so_results false d t = so_type d t (NoValueResult d t) (value_result d t) (so_no_result d t)

pub main_stops : (d : Declarations) (at : ℕ) (t : TypeTree) → Stops (BrokenMainResult d at t) (main_type d at t)
main_stops d at t = type_stops d t (Fails (is_main_result at t) t) (must (is_main_result at t) (TypeNotHere (type_at t))) (fails_stops (is_main_result at t) t)

pub so_main : (d : Declarations) (at : ℕ) (t : TypeTree) (v : Violation) → BrokenMainResult d at t v → main_type d at t ≡ Err v
so_main d at t = so_type d t (Fails (is_main_result at t) t) (must (is_main_result at t) (TypeNotHere (type_at t))) (so_fails (is_main_result at t) t)
