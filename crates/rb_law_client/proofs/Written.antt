-- What typed code assigns: no name that can't be assigned.
use Rattle.std.proofs.Common.{◌≡◌, ◌⊎◌, inl, inr, refl, sym, ap, ◌∙◌, subst, List, [], ◌∷◌, ◌++◌, ℕ, Bool as Truth, true, false, not, cond, Option, Some, None, is_none, Ok}
use Rattle.std.specs.List.{AllByRecursion}
use Rattle.std.specs.Str.{bytes_eq}
use Rattle.rb_trees.specs.Named.{lookup}
use Rattle.rb_trees.specs.mirror.Code.{Expr, Lit, Name, Stmt, Stmts, Val, Var, Assign, Run, Print, Throw, If, While, For, Try, Batch, NoStmts, MoreStmts}
use Rattle.rb_meaning_types.specs.Kinds as kind
use Rattle.rb_meaning_types.specs.Kinds.{Kind}
use Rattle.rb_meaning_types.specs.Names.{is_new}
use Rattle.rb_meaning_types.specs.Declared.{Context}
use Rattle.rb_meaning_types.specs.Scopes.{Variable, Scope, variable_named, is_free, with_variable}
use Rattle.rb_meaning_types.specs.Statements.{is_open_variable, is_assignable, check_stmt, check_stmts}
use Rattle.rb_meaning_flow.specs.Scopes.{assigned_variable, assigned_by, assigned_in}
use Rattle.rb_meaning_split.specs.Refs.{Ref, Var as VarRef, Refs, with_var}
use Rattle.rb_law_types.proofs.Parts.{val_parts, var_parts, run_parts, throw_parts, print_parts, assign_parts, if_parts, while_parts, for_parts, try_parts, batch_parts, stmts_parts}
use Rattle.rb_law_script.proofs.Lookups.{same_bytes, bytes_same, first_or, lookup_new, first_old, first_new}
use Rattle.rb_law_script.proofs.Linked.{IsFound}
use Rattle.rb_law_client.proofs.Overs.{Unkept}

-- a variable that can't be assigned
pub record Fixed (ws : Scope) (y : List ℕ) : Type 0 where
  pub variable : Variable
  pub found : variable_named ws y ≡ Some variable
  pub fixed : variable.fixed ≡ true

fixed_more : (ws : Scope) (name : List ℕ) (k : Kind) (fixed : Truth) (y : List ℕ) → Fixed ws y → Fixed (with_variable ws name k fixed) y
fixed_more ws name k fixed y h = record { variable = h.variable; found = first_old (λ v. v.name) ws (record { name = name; kind = k; fixed = fixed }) y h.variable h.found; fixed = h.fixed }

-- all that is written stands in a list
abbrev pub Written : List (List ℕ) → List (List ℕ) → Type 0
Written written names = AllByRecursion (λ y. is_new y written ≡ false) names

pub written_left : (written xs ys : List (List ℕ)) → Written written (xs ++ ys) → Written written xs
written_left written [] ys h = tt
written_left written (x ∷ xs) ys h = (h.0, written_left written xs ys h.1)

pub written_right : (written xs ys : List (List ℕ)) → Written written (xs ++ ys) → Written written ys
written_right written [] ys h = h
written_right written (x ∷ xs) ys h = written_right written xs ys h.1

is_there : (x : List ℕ) (xs : List (List ℕ)) → is_new x (x ∷ xs) ≡ false
is_there x xs = ap (λ t. cond t false (is_new x xs)) (bytes_same x x refl)

there_more : (y x : List ℕ) (xs : List (List ℕ)) → is_new y xs ≡ false → is_new y (x ∷ xs) ≡ false
there_more y x xs h = by (bytes_eq x y)
  where
    by : (t : Truth) → cond t false (is_new y xs) ≡ false
    by true = refl
    by false = h

written_more : (x : List ℕ) (written names : List (List ℕ)) → Written written names → Written (x ∷ written) names
written_more x written [] h = tt
written_more x written (y ∷ ys) h = (there_more y x written h.0, written_more x written ys h.1)

pub all_written : (names : List (List ℕ)) → Written names names
all_written [] = tt
all_written (x ∷ xs) = (is_there x xs, written_more x xs xs (all_written xs))

module _ (written : List (List ℕ)) (Kept : List ℕ → Type 0) where
  -- each kept name can't be assigned, or isn't written at all
  abbrev pub Held : Scope → Type 0
  Held ws = (y : List ℕ) → Kept y → Fixed ws y ⊎ (is_new y written ≡ true)

  held_more : (ws : Scope) (name : List ℕ) (k : Kind) (fixed : Truth) → Held ws → Held (with_variable ws name k fixed)
  held_more ws name k fixed h y kept = by (h y kept)
    where
      by : Fixed ws y ⊎ (is_new y written ≡ true) → Fixed (with_variable ws name k fixed) y ⊎ (is_new y written ≡ true)
      by (inl f) = inl (fixed_more ws name k fixed y f)
      by (inr n) = inr n

  open_or : (o : Option Variable) (v : Variable) → o ≡ Some v → v.fixed ≡ true → is_open_variable o ≡ true → ⊥
  open_or (Some u) v e fixed unfixed = let same : u ≡ v = cc (e) in cc (ap not (ap (λ q. q.fixed) same ∙ fixed), unfixed)
  open_or None v e fixed unfixed = cc (e)

  not_held : (ws : Scope) (y : List ℕ) → Held ws → is_open_variable (variable_named ws y) ≡ true → is_new y written ≡ false → Kept y → ⊥
  not_held ws y h unfixed in_list kept = by (h y kept)
    where
      by : Fixed ws y ⊎ (is_new y written ≡ true) → ⊥
      by (inl f) = open_or (variable_named ws y) f.variable f.found f.fixed unfixed
      by (inr n) = cc (in_list, n)

  module _ (x : Context) where
    pub held_after : (s : Stmt) (ws after : Scope) → check_stmt x ws s ≡ Ok after → Held ws → Held after
    held_after (Val at name e) ws after t h = let q = val_parts x ws at name e after t in subst Held q.same (held_more ws name q.kind true h)
    held_after (Var at name e) ws after t h = let q = var_parts x ws at name e after t in subst Held q.same (held_more ws name q.kind false h)
    held_after (Assign at a b) ws after t h = subst Held (assign_parts x ws at a b after t).same h
    held_after (Run at e) ws after t h = subst Held (run_parts x ws at e after t).same h
    held_after (Print at e) ws after t h = subst Held (print_parts x ws at e after t).same h
    held_after (Throw at e) ws after t h = subst Held (throw_parts x ws at e after t).same h
    held_after (If at c a b) ws after t h = subst Held (if_parts x ws at c a b after t).same h
    held_after (While at c a) ws after t h = subst Held (while_parts x ws at c a after t).same h
    held_after (For at name e a) ws after t h = subst Held (for_parts x ws at name e a after t).same h
    held_after (Try at a name b) ws after t h = subst Held (try_parts x ws at a name b after t).same h
    held_after (Batch at interface root a) ws after t h = subst Held (batch_parts x ws at interface root a after t).same h

    free_of : (ws : Scope) (a : Expr) → Held ws → is_assignable ws a ≡ true → Written written (assigned_variable a) → Unkept Kept (assigned_variable a)
    free_of ws (Name at y) h unfixed w = (not_held ws y h unfixed w.0, tt)
    free_of ws (Lit at v) h unfixed w = tt
    free_of ws _ h unfixed w = tt

    both_free : (xs ys : List (List ℕ)) → Unkept Kept xs → Unkept Kept ys → Unkept Kept (xs ++ ys)
    both_free [] ys h g = g
    both_free (q ∷ xs) ys h g = (h.0, both_free xs ys h.1 g)

    mutual
      -- so none is assigned
      pub stmt_free : (s : Stmt) (ws after : Scope) → check_stmt x ws s ≡ Ok after → Held ws → Written written (assigned_by s) → Unkept Kept (assigned_by s)
      stmt_free (Val at name e) ws after t h w = tt
      stmt_free (Var at name e) ws after t h w = tt
      stmt_free (Assign at a b) ws after t h w = free_of ws a h (assign_parts x ws at a b after t).assignable w
      stmt_free (Run at e) ws after t h w = tt
      stmt_free (Print at e) ws after t h w = tt
      stmt_free (Throw at e) ws after t h w = tt
      stmt_free (If at c a b) ws after t h w =
          let q = if_parts x ws at c a b after t in
          both_free (assigned_in a) (assigned_in b) (stmts_free a ws q.first q.first_typed h (written_left written (assigned_in a) (assigned_in b) w)) (stmts_free b ws q.second q.second_typed h (written_right written (assigned_in a) (assigned_in b) w))
      stmt_free (While at c a) ws after t h w = let q = while_parts x ws at c a after t in stmts_free a ws q.last q.block_typed h w
      stmt_free (For at name e a) ws after t h w = let q = for_parts x ws at name e a after t in stmts_free a (with_variable ws name q.item true) q.last q.block_typed (held_more ws name q.item true h) w
      stmt_free (Try at a name b) ws after t h w =
          let q = try_parts x ws at a name b after t in
          both_free (assigned_in a) (assigned_in b) (stmts_free a ws q.first q.first_typed h (written_left written (assigned_in a) (assigned_in b) w))
          (stmts_free b (with_variable ws name kind.Text true) q.second q.second_typed (held_more ws name kind.Text true h) (written_right written (assigned_in a) (assigned_in b) w))
      stmt_free (Batch at interface root a) ws after t h w =
          let q = batch_parts x ws at interface root a after t in
          stmts_free a (with_variable ws root (kind.Named interface) true) q.last q.block_typed (held_more ws root (kind.Named interface) true h) w

      pub stmts_free : (ss : Stmts) (ws after : Scope) → check_stmts x ws ss ≡ Ok after → Held ws → Written written (assigned_in ss) → Unkept Kept (assigned_in ss)
      stmts_free NoStmts ws after t h w = tt
      stmts_free (MoreStmts s ss) ws after t h w =
          let q = stmts_parts x ws s ss after t in
          both_free (assigned_by s) (assigned_in ss) (stmt_free s ws q.middle q.typed h (written_left written (assigned_by s) (assigned_in ss) w))
          (stmts_free ss q.middle after q.rest (held_after s ws q.middle q.typed h) (written_right written (assigned_by s) (assigned_in ss) w))

-- the names that the script has
abbrev pub InScript : Refs → List ℕ → Type 0
InScript refs y = IsFound (lookup refs y)

free_none : (o : Option Variable) → is_none o ≡ true → o ≡ None
free_none None h = refl
free_none (Some v) h = absurd (cc (h))

-- one name more, which can't be assigned
pub held_with : (written : List (List ℕ)) (refs : Refs) (ws : Scope) (name : List ℕ) (m : ℕ) (k : Kind) → Held written (InScript refs) ws → is_free ws name ≡ true → Held written (InScript (with_var refs name m)) (with_variable ws name k true)
held_with written refs ws name m k h free y found = by (lookup refs y) refl
  where
    last : (t : Truth) → bytes_eq name y ≡ t → IsFound (first_or t (VarRef m) None) → Fixed (with_variable ws name k true) y ⊎ (is_new y written ≡ true)
    last true e f =
        let v : Variable = record { name = name; kind = k; fixed = true } in
        let here : variable_named (with_variable ws name k true) name ≡ Some v = first_new (λ u. u.name) ws v name (free_none (variable_named ws name) free) ∙ ap (λ t. cond t (Some v) None) (bytes_same name name refl) in
        inl (record { variable = v; found = subst (λ q. variable_named (with_variable ws name k true) q ≡ Some v) (same_bytes name y e) here; fixed = refl })
    last false e f = absurd f

    by : (o : Option Ref) → lookup refs y ≡ o → Fixed (with_variable ws name k true) y ⊎ (is_new y written ≡ true)
    by (Some r) e = held_more written (InScript refs) ws name k true h y (subst IsFound (sym e) tt)
    by None e = last (bytes_eq name y) refl (subst IsFound (lookup_new refs y name (VarRef m) e) found)
