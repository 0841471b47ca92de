-- Names of variables.
use Rattle.std.proofs.Common.{◌≡◌, ℕ, List, [], ◌∷◌, Bool, true, false, cond, not, ◌&&◌, Option, Some, None, refl, ap, ◌∙◌, sym, subst}
use Rattle.std.specs.Option.{option_map}
use Rattle.std.specs.Str.{bytes_eq}
use Rattle.std.proofs.lemmas.Slice.Eq.{bytes_eq-Decides}
use Rattle.rb_names.proofs.Guided.{viewed}
use Rattle.rb_meaning_types.specs.Names.{is_new}
use Rattle.rb_meaning_flow.specs.declared.scopes.Role.{Role}
use Rattle.rb_meaning_flow.specs.declared.scopes.Variable.{Variable}
use Rattle.rb_meaning_flow.specs.Scopes.{Scope, variable_named, variable_with, scope_with, role_in, role_of, role_with}

-- a variable that is found has the name
named_step : (b : Bool) (w : Variable) (r : Option Variable) (name : List ℕ) (v : Variable) → bytes_eq w.name name ≡ b → (r ≡ Some v → v.name ≡ name) → cond b (Some w) r ≡ Some v → v.name ≡ name
named_step true w r name v same later e = let it : w ≡ v = cc in ap (λ x. x.name) (sym it) ∙ (bytes_eq-Decides w.name name).0 same
named_step false w r name v same later e = later e

named_so : (vs : Scope) (name : List ℕ) (v : Variable) → variable_named vs name ≡ Some v → v.name ≡ name
named_so [] name v e = cc
named_so (w ∷ vs) name v e = named_step (bytes_eq w.name name) w (variable_named vs name) name v refl (named_so vs name v) e

role_step : (assigned : List (List ℕ)) (o : Option Variable) (name : List ℕ) → ((v : Variable) → o ≡ Some v → v.name ≡ name)
    → role_in (option_map (variable_with assigned) o) ≡ role_with assigned name (role_in o)
role_step assigned None name h = refl
role_step assigned (Some v) name h = ap (λ n. role_with assigned n v.role) (h v refl)

-- the role of a name as a batch sees it
pub role_seen : (assigned : List (List ℕ)) (vs : Scope) (name : List ℕ) → role_of (scope_with assigned vs) name ≡ role_with assigned name (role_of vs name)
role_seen assigned vs name = ap role_in (viewed (variable_with assigned) (λ v. v.name) vs name) ∙ role_step assigned (variable_named vs name) name (named_so vs name)
