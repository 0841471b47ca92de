use Rattle.std.proofs.Common.{◌≡◌, map, drop}
use Rattle.rb_trees.specs.mirror.Declarations.{mirror_param}
use Rattle.rb_meaning_types.specs.Stores.{has_fields}
use Rattle.rb_store.specs.Views.{written_fields}
use Rattle.rb_store.proofs.checks.has_fields.Given as goal

-- with the fields that are left it is as with all fields
abbrev pub invariant-loop-param : goal.invariant-loop-param
invariant-loop-param l = has_fields (map mirror_param (drop l.param-index l.params)) (written_fields l.rest) ≡ has_fields (map mirror_param l.params) (written_fields l.fields)
