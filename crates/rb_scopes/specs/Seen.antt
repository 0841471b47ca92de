-- What is told of variables in scope.
use Rattle.std.specs.Prelude.{ℕ, ◌-◌, List, Option, option_map, length, slice_get}
use Rattle.rb_meaning_flow.specs.declared.scopes.Role.{Role}
use Rattle.rb_meaning_flow.specs.declared.scopes.Variable.{Variable}
use Rattle.rb_meaning_flow.specs.Scopes.{Scope}

abbrev pub role_and_node : Variable → Role × ℕ
role_and_node v = (v.role, v.node)

abbrev pub name_and_node : Variable → List ℕ × ℕ
name_and_node v = (v.name, v.node)

-- the name and the node of the last variable
abbrev pub newest : Scope → Option (List ℕ × ℕ)
newest vs = option_map name_and_node (slice_get vs (length vs - 1))
