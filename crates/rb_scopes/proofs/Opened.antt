-- The last variable of a scope in which a batch begins is its root.
use Rattle.std.proofs.Common.{◌≡◌, ℕ, suc, ◌-◌, arith, List, [], ◌∷◌, ◌++◌, map, length, length-append, refl, ap, ◌∙◌}
use Rattle.std.specs.Prelude.{Option, Some, slice_get}
use Rattle.std.specs.Option.{option_map}
use Rattle.std.proofs.lemmas.List.{map-append}
use Rattle.rb_trees.specs.mirror.Code.{Stmts}
use Rattle.rb_meaning_flow.specs.declared.scopes.Role.{Role}
use Rattle.rb_meaning_flow.specs.Scopes.{Scope, assigned_in, opened, variable_with}
use Rattle.rb_scopes.specs.Seen.{name_and_node, newest}

got_at : {A : Type 0} (ys : List A) (y x : A) (n m : ℕ) → n ≡ suc m → slice_get ys m ≡ Some x → slice_get (y ∷ ys) n ≡ Some x
got_at ys y x n m e h = ap (slice_get (y ∷ ys)) e ∙ h

-- the last item of a list
last_of : {A : Type 0} (xs : List A) (x : A) → slice_get (xs ++ x ∷ []) (length (xs ++ x ∷ []) - 1) ≡ Some x
last_of [] x = refl
last_of (y ∷ xs) x = got_at (xs ++ x ∷ []) y x _ (length (xs ++ x ∷ []) - 1) (omega (arith, length-append xs (x ∷ []))) (last_of xs x)

pub newest_opened : (outer : Scope) (at : ℕ) (root : List ℕ) (block : Stmts) → newest (opened outer at root block) ≡ Some (root, at)
newest_opened outer at root block =
    let f = variable_with (assigned_in block) in
    ap newest (map-append f outer (record { name = root; role = Role.Root; node = at } ∷ []))
    ∙ ap (option_map name_and_node) (last_of (map f outer) (record { name = root; role = Role.Root; node = at }))
