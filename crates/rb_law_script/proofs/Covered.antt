-- The variables of portable expressions of a batch are variables of its script, and its constant lists are inputs.
use Rattle.std.proofs.Common.{◌≡◌, inl, inr, refl, sym, ap, ◌∙◌, subst, ℕ, List, [], ◌∷◌, ◌++◌, Bool, true, false, ◌&&◌, ◌||◌, cond, Option, Some, None}
use Rattle.std.specs.Str.{bytes_eq}
use Rattle.std.specs.List.{Contains}
use Rattle.std.proofs.lemmas.Bool.{and_parts, or_right}
use Rattle.std.proofs.lemmas.List.Elements.{Contains-append_cases}
use Rattle.rb_trees.specs.Named.{lookup}
use Rattle.rb_trees.specs.mirror.Code.{Expr, Exprs, Lit, Name, This, Unary, Binary, Field, Call, Index, New, Items, Taken, NoExprs, MoreExprs, Stmt, Stmts, Val, Var as VarStmt, Assign, Run, Print, Throw, If, While, For, Try, Batch, NoStmts, MoreStmts}
use Rattle.rb_meaning_code.specs.State.{this_name}
use Rattle.rb_meaning_flow.specs.declared.forms.PlacedForm.{PlacedForm}
use Rattle.rb_meaning_flow.specs.declared.scopes.Role.{Role}
use Rattle.rb_meaning_flow.specs.declared.scopes.Variable.{Variable}
use Rattle.rb_meaning_flow.specs.Facts.{Facts, is_remote}
use Rattle.rb_meaning_flow.specs.Scopes.{Scope, variable_named, with_variable, role_in, role_of, is_constant_role, is_list_role, is_portable_role}
use Rattle.rb_meaning_flow.specs.Portable.{portable, all_portable, block_holds, is_constant_list}
use Rattle.rb_meaning_flow.specs.Forms.{placed_form}
use Rattle.rb_meaning_flow.specs.Sites.{scope_after}
use Rattle.rb_meaning.specs.RemoteExprs.{remote_of}
use Rattle.rb_meaning.specs.ConstantLists.{name_of}
use Rattle.rb_meaning_split.specs.Refs.{Ref, Var, Refs, with_var}
use Rattle.rb_meaning_split.specs.Inputs.{constants, all_constants, kept_constants, used_as, used, used_in}
use Rattle.rb_flow.proofs.Members.{first_contained, given_by, cond_contained, none_contained, contained_cases}
use Rattle.rb_law_types.specs.Formed.{IsFormedExpr, AreFormedExprs}
use Rattle.rb_law_types.proofs.SitesWithin.{Within, within_left, within_right}
use Rattle.rb_law_script.proofs.Lookups.{first_or, lookup_old, lookup_new, first_old, first_new}
use Rattle.rb_law_script.proofs.Linked.{IsFound, IsInputRef, Closed, AllClosed}
use Rattle.rb_law_script.proofs.Forms.{Tells, told}

-- each portable variable is one of the script, if it isn't constant or if it is one of these
abbrev pub Covered : List (List ℕ) → Refs → Scope → Type 0
Covered names refs vs = (y : List ℕ) → is_portable_role (role_of vs y) ≡ true → (is_constant_role (role_of vs y) ≡ true → Contains names y) → IsFound (lookup refs y)

is_found : (o : Option Ref) (r : Ref) → o ≡ Some r → IsFound o
is_found o r h = subst IsFound (sym h) tt

found_more : (refs : Refs) (y name : List ℕ) (m : ℕ) → IsFound (lookup refs y) → IsFound (lookup (with_var refs name m) y)
found_more refs y name m h = by (lookup refs y) refl h
  where
    by : (o : Option Ref) → lookup refs y ≡ o → IsFound o → IsFound (lookup (with_var refs name m) y)
    by (Some r) e g = is_found (lookup (with_var refs name m) y) r (lookup_old refs y name (Var m) r e)
    by None e g = absurd g

found_new : (refs : Refs) (y name : List ℕ) (m : ℕ) → bytes_eq name y ≡ true → IsFound (lookup (with_var refs name m) y)
found_new refs y name m h = by (lookup refs y) refl
  where
    by : (o : Option Ref) → lookup refs y ≡ o → IsFound (lookup (with_var refs name m) y)
    by (Some r) e = is_found (lookup (with_var refs name m) y) r (lookup_old refs y name (Var m) r e)
    by None e = is_found (lookup (with_var refs name m) y) (Var m) (lookup_new refs y name (Var m) e ∙ ap (λ t. first_or t (Var m) None) h)

-- the role of a variable, where one more is in scope
role_old : (vs : Scope) (y name : List ℕ) (role : Role) (at : ℕ) (v : Variable) → variable_named vs y ≡ Some v → role_of (with_variable vs name role at) y ≡ role_of vs y
role_old vs y name role at v h = ap role_in (first_old (λ u. u.name) vs _ y v h) ∙ ap role_in (sym h)

role_new : (vs : Scope) (y name : List ℕ) (role : Role) (at : ℕ) → variable_named vs y ≡ None → role_of (with_variable vs name role at) y ≡ cond (bytes_eq name y) role Role.Plain
role_new vs y name role at h = ap role_in (first_new (λ u. u.name) vs (record { name = name; role = role; node = at }) y h) ∙ by (bytes_eq name y)
  where
    by : (t : Bool) → role_in (cond t (Some (record { name = name; role = role; node = at })) None) ≡ cond t role Role.Plain
    by true = refl
    by false = refl

-- with a variable more that the script has, or one that isn't portable
pub covered_with : (names : List (List ℕ)) (refs : Refs) (vs : Scope) (name : List ℕ) (m : ℕ) (role : Role) (at : ℕ) → Covered names refs vs → Covered names (with_var refs name m) (with_variable vs name role at)
covered_with names refs vs name m role at h y r c = by (variable_named vs y) refl
  where
    last : (t : Bool) → bytes_eq name y ≡ t → is_portable_role (cond t role Role.Plain) ≡ true → IsFound (lookup (with_var refs name m) y)
    last true e k = found_new refs y name m e
    last false e k = absurd (cc (k))

    by : (o : Option Variable) → variable_named vs y ≡ o → IsFound (lookup (with_var refs name m) y)
    by (Some v) e =
        let same = role_old vs y name role at v e in
        found_more refs y name m (h y (subst (λ q. is_portable_role q ≡ true) same r) (λ k. c (subst (λ q. is_constant_role q ≡ true) (sym same) k)))
    by None e = last (bytes_eq name y) refl (subst (λ q. is_portable_role q ≡ true) (role_new vs y name role at e) r)

pub covered_plain : (names : List (List ℕ)) (refs : Refs) (vs : Scope) (name : List ℕ) (at : ℕ) → Covered names refs vs → Covered names refs (with_variable vs name Role.Plain at)
covered_plain names refs vs name at h y r c = by (variable_named vs y) refl
  where
    last : (t : Bool) → is_portable_role (cond t Role.Plain Role.Plain) ≡ true → IsFound (lookup refs y)
    last true k = absurd (cc (k))
    last false k = absurd (cc (k))

    by : (o : Option Variable) → variable_named vs y ≡ o → IsFound (lookup refs y)
    by (Some v) e =
        let same = role_old vs y name Role.Plain at v e in
        h y (subst (λ q. is_portable_role q ≡ true) same r) (λ k. c (subst (λ q. is_constant_role q ≡ true) (sym same) k))
    by None e = last (bytes_eq name y) (subst (λ q. is_portable_role q ≡ true) (role_new vs y name Role.Plain at e) r)

-- a role that a variable has where one more is in scope, it had before, unless the new one has it
pub role_before : (P : Role → Bool) → P Role.Plain ≡ false → (vs : Scope) (y name : List ℕ) (role : Role) (at : ℕ) → P role ≡ false → P (role_of (with_variable vs name role at) y) ≡ true → P (role_of vs y) ≡ true
role_before P none vs y name role at plain h = by (variable_named vs y) refl
  where
    last : (t : Bool) → P (cond t role Role.Plain) ≡ true → P (role_of vs y) ≡ true
    last true k = absurd (cc (plain, k))
    last false k = absurd (cc (none, k))

    by : (o : Option Variable) → variable_named vs y ≡ o → P (role_of vs y) ≡ true
    by (Some v) e = subst (λ q. P q ≡ true) (role_old vs y name role at v e) h
    by None e = last (bytes_eq name y) (subst (λ q. P q ≡ true) (role_new vs y name role at e) h)

-- each constant list among these names is an input of the script
abbrev pub ListsCovered : List (List ℕ) → Refs → Scope → Type 0
ListsCovered names refs vs = (y : List ℕ) → bytes_eq this_name y ≡ false → is_list_role (role_of vs y) ≡ true → Contains names y → IsInputRef (lookup refs y)

input_more : (refs : Refs) (y name : List ℕ) (m : ℕ) → IsInputRef (lookup refs y) → IsInputRef (lookup (with_var refs name m) y)
input_more refs y name m h = by (lookup refs y) refl h
  where
    by : (o : Option Ref) → lookup refs y ≡ o → IsInputRef o → IsInputRef (lookup (with_var refs name m) y)
    by (Some r) e g = subst IsInputRef (sym (lookup_old refs y name (Var m) r e)) g
    by None e g = absurd g

-- with a variable more that the script has, or one that it hasn't
pub lists_with : (names : List (List ℕ)) (refs : Refs) (vs : Scope) (name : List ℕ) (m : ℕ) (role : Role) (at : ℕ) → is_list_role role ≡ false → ListsCovered names refs vs → ListsCovered names (with_var refs name m) (with_variable vs name role at)
lists_with names refs vs name m role at other h y plain r c = input_more refs y name m (h y plain (role_before is_list_role refl vs y name role at other r) c)

pub lists_plain : (names : List (List ℕ)) (refs : Refs) (vs : Scope) (name : List ℕ) (at : ℕ) → ListsCovered names refs vs → ListsCovered names refs (with_variable vs name Role.Plain at)
lists_plain names refs vs name at h y plain r c = h y plain (role_before is_list_role refl vs y name Role.Plain at refl r) c

-- a portable expression whose constant variables are such
module _ (f : Facts) (names : List (List ℕ)) (refs : Refs) (vs : Scope) (covered : Covered names refs vs) where
  mutual
    pub closed_of : (e : Expr) → portable f vs e ≡ true → IsFormedExpr e → Within (constants vs e) names → Closed refs e
    closed_of (Lit at v) r g w = tt
    closed_of (Name at name) r g w = (g, covered name r (λ k. w name (subst (λ t. Contains (cond t (name ∷ []) []) name) (sym k) (first_contained name []))))
    closed_of (This at) r g w = absurd (cc (r))
    closed_of (Unary at op a) r g w = closed_of a r g w
    closed_of (Binary at op a b) r g w =
        let both = and_parts (portable f vs a) (portable f vs b) r in
        (closed_of a both.0 g.0 (within_left (constants vs a) (constants vs b) names w), closed_of b both.1 g.1 (within_right (constants vs a) (constants vs b) names w))
    closed_of (Field at a name) r g w = absurd (cc (r))
    closed_of (Call at a method args) r g w =
        let whole = and_parts (is_remote f a && portable f vs a) (all_portable f vs args) r in
        let receiver = and_parts (is_remote f a) (portable f vs a) whole.0 in
        (closed_of a receiver.1 g.0 (within_left (constants vs a) (all_constants vs args) names w), all_closed args whole.1 g.1 (within_right (constants vs a) (all_constants vs args) names w))
    closed_of (Index at a b) r g w = absurd (cc (r))
    closed_of (New at class args) r g w = absurd (cc (r))
    closed_of (Items at item items) r g w = absurd (cc (r))
    closed_of (Taken at step) r g w = absurd (cc (r))

    all_closed : (es : Exprs) → all_portable f vs es ≡ true → AreFormedExprs es → Within (all_constants vs es) names → AllClosed refs es
    all_closed NoExprs r g w = tt
    all_closed (MoreExprs e es) r g w =
        let both = and_parts (portable f vs e) (all_portable f vs es) r in
        (closed_of e both.0 g.0 (within_left (constants vs e) (all_constants vs es) names w), all_closed es both.1 g.1 (within_right (constants vs e) (all_constants vs es) names w))

-- the names that a batch uses are those of constant variables and constant lists
abbrev pub is_taken_role : Role → Bool
is_taken_role role = is_constant_role role || is_list_role role

abbrev pub IsTakenIn : Scope → List ℕ → Type 0
IsTakenIn vs y = is_taken_role (role_of vs y) ≡ true

taken_less : (vs : Scope) (y name : List ℕ) (role : Role) (at : ℕ) → is_taken_role role ≡ false → IsTakenIn (with_variable vs name role at) y → IsTakenIn vs y
taken_less vs y name role at plain h = role_before is_taken_role refl vs y name role at plain h

taken_before : (f : Facts) (vs : Scope) (s : Stmt) (y : List ℕ) → IsTakenIn (scope_after f [] vs s) y → IsTakenIn vs y
taken_before f vs (Val at name e) y h = by (portable f vs e) h
  where
    by : (t : Bool) → IsTakenIn (with_variable vs name (cond t Role.Carried Role.Plain) at) y → IsTakenIn vs y
    by true k = taken_less vs y name Role.Carried at refl k
    by false k = taken_less vs y name Role.Plain at refl k
taken_before f vs (VarStmt at name e) y h = taken_less vs y name Role.Plain at refl h
taken_before f vs (Assign at a b) y h = h
taken_before f vs (Run at e) y h = h
taken_before f vs (Print at e) y h = h
taken_before f vs (Throw at e) y h = h
taken_before f vs (If at c a b) y h = h
taken_before f vs (While at c a) y h = h
taken_before f vs (For at name e a) y h = h
taken_before f vs (Try at a name b) y h = h
taken_before f vs (Batch at interface root a) y h = h

-- of one list or the other
of_both : {A B : Type 0} (xs ys : List A) (y : A) → (Contains xs y → B) → (Contains ys y → B) → Contains (xs ++ ys) y → B
of_both xs ys y f g h = elim (Contains-append_cases xs ys y h) [ inl l ↦ f l | inr r ↦ g r ]

mutual
  pub constants_taken : (vs : Scope) (e : Expr) (y : List ℕ) → Contains (constants vs e) y → IsTakenIn vs y
  constants_taken vs (Name at name) y h =
      let it = cond_contained (is_constant_role (role_of vs name)) name y h in
      subst (IsTakenIn vs) it.1 (ap (λ t. t || is_list_role (role_of vs name)) it.0)
  constants_taken vs (Unary at op a) y h = constants_taken vs a y h
  constants_taken vs (Binary at op a b) y h = of_both (constants vs a) (constants vs b) y (constants_taken vs a y) (constants_taken vs b y) h
  constants_taken vs (Call at a method args) y h = of_both (constants vs a) (all_constants vs args) y (constants_taken vs a y) (all_taken vs args y) h
  constants_taken vs (Lit at v) y h = absurd (none_contained y h)
  constants_taken vs (This at) y h = absurd (none_contained y h)
  constants_taken vs (Field at a name) y h = absurd (none_contained y h)
  constants_taken vs (Index at a b) y h = absurd (none_contained y h)
  constants_taken vs (New at class args) y h = absurd (none_contained y h)
  constants_taken vs (Items at item items) y h = absurd (none_contained y h)
  constants_taken vs (Taken at step) y h = absurd (none_contained y h)

  all_taken : (vs : Scope) (es : Exprs) (y : List ℕ) → Contains (all_constants vs es) y → IsTakenIn vs y
  all_taken vs NoExprs y h = absurd (none_contained y h)
  all_taken vs (MoreExprs e es) y h = of_both (constants vs e) (all_constants vs es) y (constants_taken vs e y) (all_taken vs es y) h

kept_taken : (f : Facts) (vs : Scope) (s : Stmt) (y : List ℕ) → Contains (kept_constants f vs s) y → IsTakenIn vs y
kept_taken f vs s y h = let it = given_by (constants vs) (remote_of f vs s) y h in constants_taken vs it.by y it.gives

-- the list of a carried loop
list_taken : (vs : Scope) (e : Expr) (y : List ℕ) → is_constant_list vs e ≡ true → Contains (name_of e) y → IsTakenIn vs y
list_taken vs (Name at name) y is_list h = elim (contained_cases name [] y h) [
  | inl same ↦ subst (IsTakenIn vs) same (or_right (is_constant_role (role_of vs name)) (is_list_role (role_of vs name)) is_list)
  | inr more ↦ absurd (none_contained y more)
]
list_taken vs (Lit at v) y is_list h = absurd (cc (is_list))
list_taken vs _ y is_list h = absurd (cc (is_list))

mutual
  used_as_taken : (f : Facts) (form : PlacedForm) (vs : Scope) (s : Stmt) (y : List ℕ) → Tells f vs form s → Contains (used_as f form vs s) y → IsTakenIn vs y
  used_as_taken f PlacedForm.CarriedVal vs (Val at name e) y told_so h = constants_taken vs e y h
  used_as_taken f PlacedForm.CarriedIf vs (If at c a b) y told_so h =
      of_both (constants vs c ++ used_in f vs a) (used_in f vs b) y
      (of_both (constants vs c) (used_in f vs a) y (constants_taken vs c y) (block_taken f vs a y)) (block_taken f vs b y) h
  used_as_taken f PlacedForm.RowsLoop vs (For at name e a) y told_so h =
      let inner = with_variable vs name Role.Row at in
      of_both (constants vs e) (used_in f inner a) y (constants_taken vs e y) (λ k. taken_less vs y name Role.Row at refl (block_taken f inner a y k)) h
  used_as_taken f PlacedForm.CarriedLoop vs (For at name e a) y told_so h =
      let inner = with_variable vs name Role.Row at in
      of_both (name_of e) (used_in f inner a) y (list_taken vs e y (and_parts (is_constant_list vs e) (block_holds f a) told_so.1).0) (λ k. taken_less vs y name Role.Row at refl (block_taken f inner a y k)) h
  used_as_taken f form vs s y told_so h = kept_taken f vs s y h

  pub block_taken : (f : Facts) (vs : Scope) (ss : Stmts) (y : List ℕ) → Contains (used_in f vs ss) y → IsTakenIn vs y
  block_taken f vs NoStmts y h = absurd (none_contained y h)
  block_taken f vs (MoreStmts s ss) y h =
      of_both (used f vs s) (used_in f (scope_after f [] vs s) ss) y (used_as_taken f (placed_form f vs s) vs s y (told f vs s)) (λ k. taken_before f vs s y (block_taken f (scope_after f [] vs s) ss y k)) h
