-- What the names of a walk hold: each variable that it reads, and none that is free.
use Rattle.std.proofs.Common.{◌≡◌, refl, sym, ap, ◌∙◌, subst, ℕ, List, ◌∷◌, Bool as Truth, true, false, cond, Some, None}
use Rattle.std.specs.Str.{bytes_eq}
use Rattle.std.specs.Option.{is_none}
use Rattle.rb_trees.specs.Named.{lookup}
use Rattle.rb_trees.specs.declared.values.Value.{Value}
use Rattle.rb_trees.specs.mirror.Declarations.{Interface}
use Rattle.rb_meaning_types.specs.Scopes as typed
use Rattle.rb_meaning_code.specs.State.{Names, this_name}
use Rattle.rb_meaning_flow.specs.Scopes.{Scope, variable_named, role_in, role_of}
use Rattle.rb_law_unsplit.proofs.Agreed.{is_read_role}
use Rattle.rb_law_unsplit.proofs.Carried.{Carry, none, carried, skipped, of_this}
use Rattle.rb_law_script.proofs.Lookups.{first_or, lookup_more}

module _ (is : List Interface) where
  -- no name that is free is one of the walk
  pub carry_free : (vs : Scope) (ws : typed.Scope) (ns : Names) (y : List ℕ) → Carry is vs ws ns → bytes_eq this_name y ≡ false → typed.is_free ws y ≡ true → lookup ns y ≡ None
  carry_free vs ws ns y none plain free = refl
  carry_free vs ws ns y (carried u w n us xs ms a b f rest) plain free = by (bytes_eq w.name y) refl free (λ h. carry_free us xs ms y rest plain h)
    where
      by : (t : Truth) → bytes_eq w.name y ≡ t → is_none (cond t (Some w) (typed.variable_named xs y)) ≡ true → (typed.is_free xs y ≡ true → lookup ms y ≡ None) → lookup (n ∷ ms) y ≡ None
      by true e h more = absurd (cc (h))
      by false e h more =
          lookup_more n.0 n.1 ms y ∙ ap (λ t. first_or t n.1 (lookup ms y)) (subst (λ z. bytes_eq z y ≡ false) (sym a ∙ b) e) ∙ more h
  carry_free vs ws ns y (skipped u w us xs ms a b rest) plain free = by (bytes_eq w.name y) free (λ h. carry_free us xs ms y rest plain h)
    where
      by : (t : Truth) → is_none (cond t (Some w) (typed.variable_named xs y)) ≡ true → (typed.is_free xs y ≡ true → lookup ms y ≡ None) → lookup ms y ≡ None
      by true h more = absurd (cc (h))
      by false h more = more h
  carry_free vs ws ns y (of_this n us xs ms a rest) plain free =
      lookup_more n.0 n.1 ms y ∙ ap (λ t. first_or t n.1 (lookup ms y)) (subst (λ z. bytes_eq z y ≡ false) a plain) ∙ carry_free us xs ms y rest plain free

  -- each variable that the walk reads is
  pub carry_has : (vs : Scope) (ws : typed.Scope) (ns : Names) (y : List ℕ) → Carry is vs ws ns → bytes_eq this_name y ≡ false → is_read_role (role_of vs y) ≡ true → (v : Value) × (lookup ns y ≡ Some v)
  carry_has vs ws ns y none plain r = absurd (cc (r))
  carry_has vs ws ns y (carried u w n us xs ms a b f rest) plain r = by (bytes_eq u.name y) refl r (λ h. carry_has us xs ms y rest plain h)
    where
      by : (t : Truth) → bytes_eq u.name y ≡ t → is_read_role (role_in (cond t (Some u) (variable_named us y))) ≡ true → (is_read_role (role_of us y) ≡ true → (v : Value) × (lookup ms y ≡ Some v)) → (v : Value) × (lookup (n ∷ ms) y ≡ Some v)
      by true e h more = (n.1, lookup_more n.0 n.1 ms y ∙ ap (λ t. first_or t n.1 (lookup ms y)) (subst (λ z. bytes_eq z y ≡ true) b e))
      by false e h more = let found = more h in (found.0, lookup_more n.0 n.1 ms y ∙ ap (λ t. first_or t n.1 (lookup ms y)) (subst (λ z. bytes_eq z y ≡ false) b e) ∙ found.1)
  carry_has vs ws ns y (skipped u w us xs ms a b rest) plain r = by (bytes_eq u.name y) r (λ h. carry_has us xs ms y rest plain h)
    where
      by : (t : Truth) → is_read_role (role_in (cond t (Some u) (variable_named us y))) ≡ true → (is_read_role (role_of us y) ≡ true → (v : Value) × (lookup ms y ≡ Some v)) → (v : Value) × (lookup ms y ≡ Some v)
      by true h more = absurd (cc (b, h))
      by false h more = more h
  carry_has vs ws ns y (of_this n us xs ms a rest) plain r =
      let found = carry_has us xs ms y rest plain r in
      (found.0, lookup_more n.0 n.1 ms y ∙ ap (λ t. first_or t n.1 (lookup ms y)) (subst (λ z. bytes_eq z y ≡ false) a plain) ∙ found.1)
