-- The variables outside of batches are constant or plain, so that a batch begins with its root and constant variables alone.
use Rattle.std.proofs.Common.{◌≡◌, ◌⊎◌, inl, inr, refl, sym, ap, ◌∙◌, subst, ℕ, List, [], ◌∷◌, Bool as Truth, true, false, not, ◌&&◌, ◌||◌, cond, Some, None}
use Rattle.std.specs.Str.{bytes_eq}
use Rattle.std.specs.List.{AllByRecursion, Contains, flat_map}
use Rattle.std.proofs.lemmas.Bool.{or_right}
use Rattle.rb_trees.specs.Named.{lookup}
use Rattle.rb_trees.specs.mirror.Code.{expr_at, Stmt, Stmts, Val, Var as VarStmt, Assign, Run, Print, Throw, If, While, For, Try, Batch, NoStmts, MoreStmts}
use Rattle.rb_trees.specs.mirror.Declarations.{Param, Method, Class, Program}
use Rattle.rb_meaning_types.specs.Kinds.{kind_of, is_primitive}
use Rattle.rb_meaning_types.specs.Names.{is_new}
use Rattle.rb_meaning_code.specs.State.{this_name}
use Rattle.rb_meaning_flow.specs.declared.scopes.Role.{Role}
use Rattle.rb_meaning_flow.specs.declared.scopes.Variable.{Variable}
use Rattle.rb_meaning_flow.specs.Facts.{Facts, has_primitive_items}
use Rattle.rb_meaning_flow.specs.Scopes.{Scope, variable_named, with_variable, role_in, role_of, is_constant_role, is_list_role, is_portable_role, variable_with, scope_with}
use Rattle.rb_meaning_flow.specs.Outermost.{Outermost, outer_role, outer_after, parameters, outermost, outermost_in, method_batches, class_batches, program_batches}
use Rattle.rb_meaning_split.specs.Refs.{Root}
use Rattle.rb_meaning_split.specs.Inputs.{first_uses}
use Rattle.rb_meaning_split.specs.Division.{numbered, first_refs}
use Rattle.rb_law_unsplit.proofs.Standing.{nothing, each_of, the_one}
use Rattle.rb_flow.proofs.Members.{given_by}
use Rattle.rb_law_script.proofs.Lookups.{first_or, lookup_more}
use Rattle.rb_law_script.proofs.Linked.{IsFound, IsInputRef, input_is_found}
use Rattle.rb_law_script.proofs.Covered.{Covered, role_before, ListsCovered, is_taken_role, IsTakenIn}
use Rattle.rb_law_script.proofs.Inputs.{input_found}
use Rattle.rb_law_unsplit.proofs.Walked.{all_append}

-- of the portable variables only constant ones
abbrev IsOuter : Variable → Type 0
IsOuter v = is_portable_role v.role ≡ true → is_constant_role v.role ≡ true

abbrev pub OuterScope : Scope → Type 0
OuterScope vs = AllByRecursion IsOuter vs

outer_one : (primitive list : Truth) → is_portable_role (outer_role primitive list) ≡ true → is_constant_role (outer_role primitive list) ≡ true
outer_one true list h = refl
outer_one false true h = absurd (cc (h))
outer_one false false h = absurd (cc (h))

outer_more : (vs : Scope) (name : List ℕ) (primitive list : Truth) (at : ℕ) → OuterScope vs → OuterScope (with_variable vs name (outer_role primitive list) at)
outer_more vs name primitive list at h = all_append IsOuter vs (record { name = name; role = outer_role primitive list; node = at } ∷ []) h (outer_one primitive list, tt)

outer_parameters : (ps : List Param) → OuterScope (parameters ps)
outer_parameters [] = tt
outer_parameters (p ∷ ps) = (outer_one (is_primitive (kind_of p.kind)) (has_primitive_items (kind_of p.kind)), outer_parameters ps)

module _ (f : Facts) where
  after_outer : (vs : Scope) (s : Stmt) → OuterScope vs → OuterScope (outer_after f vs s)
  after_outer vs (Val at name e) h = outer_more vs name (f.primitive (expr_at e)) (f.items (expr_at e)) at h
  after_outer vs (VarStmt at name e) h = outer_more vs name (f.primitive (expr_at e)) (f.items (expr_at e)) at h
  after_outer vs (Assign at a b) h = h
  after_outer vs (Run at e) h = h
  after_outer vs (Print at e) h = h
  after_outer vs (Throw at e) h = h
  after_outer vs (If at c a b) h = h
  after_outer vs (While at c a) h = h
  after_outer vs (For at name e a) h = h
  after_outer vs (Try at a name b) h = h
  after_outer vs (Batch at interface root a) h = h

  abbrev Begins : Outermost → Type 0
  Begins o = OuterScope o.outer

  mutual
    stmt_begins : (vs : Scope) (s : Stmt) → OuterScope vs → (o : Outermost) → Contains (outermost f vs s) o → Begins o
    stmt_begins vs (Val at name e) h o c = nothing o c
    stmt_begins vs (VarStmt at name e) h o c = nothing o c
    stmt_begins vs (Assign at a b) h o c = nothing o c
    stmt_begins vs (Run at e) h o c = nothing o c
    stmt_begins vs (Print at e) h o c = nothing o c
    stmt_begins vs (Throw at e) h o c = nothing o c
    stmt_begins vs (If at q a b) h o c = each_of Begins (outermost_in f vs a) (outermost_in f vs b) (stmts_begin vs a h) (stmts_begin vs b h) o c
    stmt_begins vs (While at q a) h o c = stmts_begin vs a h o c
    stmt_begins vs (For at name e a) h o c = stmts_begin (with_variable vs name (outer_role (f.items (expr_at e)) (f.lists (expr_at e))) at) a (outer_more vs name (f.items (expr_at e)) (f.lists (expr_at e)) at h) o c
    stmt_begins vs (Try at a name b) h o c =
        let caught = with_variable vs name (outer_role true false) at in
        each_of Begins (outermost_in f vs a) (outermost_in f caught b) (stmts_begin vs a h) (stmts_begin caught b (outer_more vs name true false at h)) o c
    stmt_begins vs (Batch at interface root a) h o c = the_one Begins (record { at = at; outer = vs; root = root; block = a }) h o c

    stmts_begin : (vs : Scope) (ss : Stmts) → OuterScope vs → (o : Outermost) → Contains (outermost_in f vs ss) o → Begins o
    stmts_begin vs NoStmts h o c = nothing o c
    stmts_begin vs (MoreStmts s ss) h o c =
        each_of Begins (outermost f vs s) (outermost_in f (outer_after f vs s) ss) (stmt_begins vs s h) (stmts_begin (outer_after f vs s) ss (after_outer vs s h)) o c

  method_begins : (m : Method) (o : Outermost) → Contains (method_batches f m) o → Begins o
  method_begins m o c = stmts_begin (parameters m.signature.params) m.body.statements (outer_parameters m.signature.params) o c

  class_begins : (k : Class) (o : Outermost) → Contains (class_batches f k) o → Begins o
  class_begins k o c = let it = given_by (method_batches f) k.methods o c in method_begins it.by o it.gives

  pub program_begins : (p : Program) (o : Outermost) → Contains (program_batches f p) o → OuterScope o.outer
  program_begins p o c =
      each_of Begins (flat_map (class_batches f) p.classes) (outermost_in f [] p.body.statements)
      (λ q i. let it = given_by (class_batches f) p.classes q i in class_begins it.by q it.gives) (stmts_begin [] p.body.statements tt) o c

-- a portable variable of a batch's start is constant, or it is the root
first_role : (assigned : List (List ℕ)) (outer : Scope) (root y : List ℕ) (at : ℕ) → OuterScope outer → is_portable_role (role_of (scope_with assigned (with_variable outer root Role.Root at)) y) ≡ true
    → (is_constant_role (role_of (scope_with assigned (with_variable outer root Role.Root at)) y) ≡ true) ⊎ (bytes_eq root y ≡ true)
first_role assigned [] root y at h r = by (bytes_eq root y) r
  where
    by : (t : Truth) → is_portable_role (role_in (cond t (Some (record { name = root; role = Role.Root; node = at })) None)) ≡ true
        → (is_constant_role (role_in (cond t (Some (record { name = root; role = Role.Root; node = at })) None)) ≡ true) ⊎ (t ≡ true)
    by true k = inr refl
    by false k = absurd (cc (k))
first_role assigned (v ∷ outer) root y at h r = by (bytes_eq v.name y) r (first_role assigned outer root y at h.1)
  where
    rest : Scope
    rest = scope_with assigned (with_variable outer root Role.Root at)

    lessened : (t : Truth) → is_portable_role (cond t Role.Plain v.role) ≡ true → is_constant_role (cond t Role.Plain v.role) ≡ true
    lessened true k = absurd (cc (k))
    lessened false k = h.0 k

    by : (t : Truth) → is_portable_role (role_in (cond t (Some (variable_with assigned v)) (variable_named rest y))) ≡ true
        → (is_portable_role (role_of rest y) ≡ true → (is_constant_role (role_of rest y) ≡ true) ⊎ (bytes_eq root y ≡ true))
        → (is_constant_role (role_in (cond t (Some (variable_with assigned v)) (variable_named rest y))) ≡ true) ⊎ (bytes_eq root y ≡ true)
    by true k more = inl (lessened ((is_constant_role v.role || is_list_role v.role) && not (is_new v.name assigned)) k)
    by false k more = more k

-- the script's variables at the start of a batch
pub covered_first : (assigned names : List (List ℕ)) (outer : Scope) (root : List ℕ) (at : ℕ) → OuterScope outer → Covered names (first_refs root (first_uses [] names)) (scope_with assigned (with_variable outer root Role.Root at))
covered_first assigned names outer root at h y r c = subst IsFound (sym (lookup_more root Root (numbered 0 (first_uses [] names)) y)) (by (bytes_eq root y) refl)
  where
    by : (t : Truth) → bytes_eq root y ≡ t → IsFound (first_or t Root (lookup (numbered 0 (first_uses [] names)) y))
    by true e = tt
    by false e = elim (first_role assigned outer root y at h r) [
      | inl k ↦ input_is_found (lookup (numbered 0 (first_uses [] names)) y) (input_found 0 [] names y (c k) refl)
      | inr k ↦ absurd (cc (e, k))
    ]

-- what a name is at a batch's start, it was outside of it, unless it is plain
less_before : (P : Role → Truth) → P Role.Plain ≡ false → (assigned : List (List ℕ)) (vs : Scope) (y : List ℕ) → P (role_of (scope_with assigned vs) y) ≡ true → P (role_of vs y) ≡ true
less_before P none assigned [] y h = h
less_before P none assigned (v ∷ vs) y h = by (bytes_eq v.name y) h (less_before P none assigned vs y)
  where
    less : (t : Truth) → P (cond t Role.Plain v.role) ≡ true → P v.role ≡ true
    less true k = absurd (cc (none, k))
    less false k = k

    by : (t : Truth) → P (role_in (cond t (Some (variable_with assigned v)) (variable_named (scope_with assigned vs) y))) ≡ true → (P (role_of (scope_with assigned vs) y) ≡ true → P (role_of vs y) ≡ true)
        → P (role_in (cond t (Some v) (variable_named vs y))) ≡ true
    by true k more = less ((is_constant_role v.role || is_list_role v.role) && not (is_new v.name assigned)) k
    by false k more = more k

pub taken_outside : (assigned : List (List ℕ)) (outer : Scope) (root y : List ℕ) (at : ℕ) → IsTakenIn (scope_with assigned (with_variable outer root Role.Root at)) y → IsTakenIn outer y
taken_outside assigned outer root y at h = role_before is_taken_role refl outer y root Role.Root at refl (less_before is_taken_role refl assigned (with_variable outer root Role.Root at) y h)

-- the constant lists that a batch takes along are inputs of its script
pub lists_first : (assigned names : List (List ℕ)) (outer : Scope) (root : List ℕ) (at : ℕ) → ((y : List ℕ) → bytes_eq this_name y ≡ false → IsTakenIn outer y → bytes_eq root y ≡ false)
    → ListsCovered names (first_refs root (first_uses [] names)) (scope_with assigned (with_variable outer root Role.Root at))
lists_first assigned names outer root at apart y plain r c =
    let begun = scope_with assigned (with_variable outer root Role.Root at) in
    let inputs = numbered 0 (first_uses [] names) in
    let other = apart y plain (taken_outside assigned outer root y at (or_right (is_constant_role (role_of begun y)) (is_list_role (role_of begun y)) r)) in
    subst IsInputRef (sym (lookup_more root Root inputs y ∙ ap (λ t. first_or t Root (lookup inputs y)) other)) (input_found 0 [] names y c refl)
