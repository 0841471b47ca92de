-- Which variables are constant, or constant lists: those from outside of a batch, and all that the batch's script takes for inputs.
use Rattle.std.proofs.Common.{◌≡◌, refl, subst, sym, ap, ◌∙◌, ℕ, List, [], ◌∷◌, ◌++◌, Bool, true, false, cond, not, ◌&&◌, ◌||◌, Option, Some, None}
use Rattle.std.specs.List.{AllByRecursion, Contains, flat_map}
use Rattle.std.specs.Str.{bytes_eq}
use Rattle.rb_trees.specs.mirror.Code.{Expr, Exprs, Lit, Name, This, Unary, Binary, Field, Call, Index, New, Items, Taken, NoExprs, MoreExprs, expr_at, Stmt, Stmts, Val, Var, Assign, Run, Print, Throw, If, While, For, Try, Batch, NoStmts, MoreStmts}
use Rattle.rb_trees.specs.mirror.Declarations.{Param, Method, Class, Program}
use Rattle.rb_meaning_types.specs.Kinds.{kind_of, is_primitive}
use Rattle.rb_meaning_types.specs.Names.{is_new}
use Rattle.rb_meaning_types.specs.Scopes as typed
use Rattle.rb_meaning_flow.specs.declared.forms.PlacedForm.{PlacedForm}
use Rattle.rb_meaning_flow.specs.declared.scopes.Role.{Role}
use Rattle.rb_meaning_flow.specs.declared.scopes.Variable.{Variable}
use Rattle.rb_meaning_flow.specs.Facts.{Facts, facts_of, has_primitive_items}
use Rattle.rb_meaning_flow.specs.Scopes.{Scope, variable_named, with_variable, role_in, role_of, is_constant_role, is_list_role, is_portable_role, role_with, variable_with, scope_with}
use Rattle.rb_meaning_flow.specs.Portable.{portable, is_constant_list}
use Rattle.rb_meaning_flow.specs.Forms.{placed_form}
use Rattle.rb_meaning_flow.specs.Sites.{scope_after}
use Rattle.rb_meaning_flow.specs.Outermost.{Outermost, outer_role, outer_after, outermost, outermost_in, parameters, method_batches, class_batches, program_batches}
use Rattle.rb_meaning.specs.RemoteExprs.{remote_of}
use Rattle.rb_meaning.specs.ConstantLists.{name_of}
use Rattle.rb_meaning_split.specs.Inputs.{constants, all_constants, kept_constants, used_as, used, used_in, first_uses}
use Rattle.rb_law_division.proofs.Lists.{each, all_both, all_weaker, cond_is}
use Rattle.rb_law_division.proofs.Known.{else_first, first_more, is_given, SameNames}
use Rattle.rb_law_division.proofs.Calls.{IsGivenIn, list_is_given}
use Rattle.rb_law_unsplit.proofs.Placed.{loop_carried}

-- ---- outside of batches a variable is constant, or it isn't portable

abbrev pub IsOuter : Role → Type 0
IsOuter r = is_portable_role r ≡ is_constant_role r

abbrev pub AreOuter : Scope → Type 0
AreOuter vs = AllByRecursion (λ v. IsOuter v.role) vs

abbrev StandsOuter : Outermost → Type 0
StandsOuter b = AreOuter b.outer

outer_is : (t u : Bool) → IsOuter (outer_role t u)
outer_is true u = refl
outer_is false true = refl
outer_is false false = refl

outer_with : (vs : Scope) (name : List ℕ) (t u : Bool) (at : ℕ) → AreOuter vs → AreOuter (with_variable vs name (outer_role t u) at)
outer_with vs name t u at h = all_both (λ v. IsOuter v.role) vs (record { name = name; role = outer_role t u; node = at } ∷ []) h (outer_is t u, tt)

module _ (x : Facts) where
  after_outer : (vs : Scope) (s : Stmt) → AreOuter vs → AreOuter (outer_after x vs s)
  after_outer vs (Val at name e) h = outer_with vs name (x.primitive (expr_at e)) (x.items (expr_at e)) at h
  after_outer vs (Var at name e) h = outer_with vs name (x.primitive (expr_at e)) (x.items (expr_at e)) at h
  after_outer vs (Assign at a b) h = h
  after_outer vs (Run at e) h = h
  after_outer vs (Print at e) h = h
  after_outer vs (Throw at e) h = h
  after_outer vs (If at c a b) h = h
  after_outer vs (While at c a) h = h
  after_outer vs (For at name e a) h = h
  after_outer vs (Try at a name b) h = h
  after_outer vs (Batch at interface root a) h = h

  mutual
    stmt_outer : (vs : Scope) (s : Stmt) → AreOuter vs → AllByRecursion StandsOuter (outermost x vs s)
    stmt_outer vs (Val at name e) h = tt
    stmt_outer vs (Var at name e) h = tt
    stmt_outer vs (Assign at a b) h = tt
    stmt_outer vs (Run at e) h = tt
    stmt_outer vs (Print at e) h = tt
    stmt_outer vs (Throw at e) h = tt
    stmt_outer vs (If at c a b) h = all_both StandsOuter (outermost_in x vs a) (outermost_in x vs b) (stmts_outer vs a h) (stmts_outer vs b h)
    stmt_outer vs (While at c a) h = stmts_outer vs a h
    stmt_outer vs (For at name e a) h = stmts_outer (with_variable vs name (outer_role (x.items (expr_at e)) (x.lists (expr_at e))) at) a (outer_with vs name (x.items (expr_at e)) (x.lists (expr_at e)) at h)
    stmt_outer vs (Try at a name b) h =
        all_both StandsOuter (outermost_in x vs a) (outermost_in x (with_variable vs name (outer_role true false) at) b)
        (stmts_outer vs a h) (stmts_outer (with_variable vs name (outer_role true false) at) b (outer_with vs name true false at h))
    stmt_outer vs (Batch at interface root a) h = (h, tt)

    stmts_outer : (vs : Scope) (ss : Stmts) → AreOuter vs → AllByRecursion StandsOuter (outermost_in x vs ss)
    stmts_outer vs NoStmts h = tt
    stmts_outer vs (MoreStmts s ss) h = all_both StandsOuter (outermost x vs s) (outermost_in x (outer_after x vs s) ss) (stmt_outer vs s h) (stmts_outer (outer_after x vs s) ss (after_outer vs s h))

  params_outer : (ps : List Param) → AreOuter (parameters ps)
  params_outer [] = tt
  params_outer (p ∷ ps) = (outer_is (is_primitive (kind_of p.kind)) (has_primitive_items (kind_of p.kind)), params_outer ps)

  methods_outer : (ms : List Method) → AllByRecursion StandsOuter (flat_map (method_batches x) ms)
  methods_outer [] = tt
  methods_outer (m ∷ ms) = all_both StandsOuter (method_batches x m) (flat_map (method_batches x) ms) (stmts_outer (parameters m.signature.params) m.body.statements (params_outer m.signature.params)) (methods_outer ms)

  classes_outer : (cs : List Class) → AllByRecursion StandsOuter (flat_map (class_batches x) cs)
  classes_outer [] = tt
  classes_outer (c ∷ cs) = all_both StandsOuter (class_batches x c) (flat_map (class_batches x) cs) (methods_outer c.methods) (classes_outer cs)

pub batches_outer : (p : Program) (b : Outermost) → Contains (program_batches (facts_of p) p) b → AreOuter b.outer
batches_outer p b is =
    each StandsOuter (program_batches (facts_of p) p) b
    (all_both StandsOuter (flat_map (class_batches (facts_of p)) p.classes) (outermost_in (facts_of p) [] p.body.statements) (classes_outer (facts_of p) p.classes) (stmts_outer (facts_of p) [] p.body.statements tt)) is

-- in a batch a variable from outside is one still
role_outer : (assigned : List (List ℕ)) (name : List ℕ) (r : Role) → IsOuter r → IsOuter (role_with assigned name r)
role_outer assigned name r h = cond_is IsOuter ((is_constant_role r || is_list_role r) && not (is_new name assigned)) Role.Plain r refl h

pub opened_outer : (assigned : List (List ℕ)) (vs : Scope) (ws : typed.Scope) (last : Variable) (q : List ℕ) (w : typed.Variable) → AreOuter vs → SameNames vs ws → typed.variable_named ws q ≡ Some w
    → IsOuter (role_of (scope_with assigned (vs ++ last ∷ [])) q)
opened_outer assigned [] [] last q w h s e = absurd (cc e)
opened_outer assigned [] (y ∷ ws) last q w h s e = absurd s
opened_outer assigned (v ∷ vs) [] last q w h s e = absurd s
opened_outer assigned (v ∷ vs) (y ∷ ws) last q w h s e =
    by (bytes_eq v.name q) (subst (λ n. cond (bytes_eq n q) (Some y) (typed.variable_named ws q) ≡ Some w) (sym s.0) e) (opened_outer assigned vs ws last q w h.1 s.1)
  where
    by : (t : Bool) → cond t (Some y) (typed.variable_named ws q) ≡ Some w → (typed.variable_named ws q ≡ Some w → IsOuter (role_of (scope_with assigned (vs ++ last ∷ [])) q))
        → IsOuter (role_in (cond t (Some (variable_with assigned v)) (variable_named (scope_with assigned (vs ++ last ∷ [])) q)))
    by true k more = role_outer assigned v.name v.role h.0
    by false k more = more k

-- ---- what a script takes for inputs is constant where the batch begins, or a constant list

abbrev AllGiven : Scope → List (List ℕ) → Type 0
AllGiven vs qs = AllByRecursion (IsGivenIn vs) qs

constant_less : (vs : Scope) (name : List ℕ) (role : Role) (at : ℕ) (q : List ℕ) → is_given role ≡ false → IsGivenIn (with_variable vs name role at) q → IsGivenIn vs q
constant_less vs name role at q plain h =
    by (variable_named vs q) (bytes_eq name q) (subst (λ o. is_given (role_in o) ≡ true) (first_more (λ v. v.name) vs (record { name = name; role = role; node = at }) q) h)
  where
    by : (o : Option Variable) (t : Bool) → is_given (role_in (else_first o (cond t (Some (record { name = name; role = role; node = at })) None))) ≡ true → is_given (role_in o) ≡ true
    by (Some v) t k = k
    by None true k = absurd (cc (sym plain ∙ k))
    by None false k = absurd (cc k)

all_less : (vs : Scope) (name : List ℕ) (role : Role) (at : ℕ) (qs : List (List ℕ)) → is_given role ≡ false → AllGiven (with_variable vs name role at) qs → AllGiven vs qs
all_less vs name role at qs plain h = all_weaker (IsGivenIn (with_variable vs name role at)) (IsGivenIn vs) qs (λ q k. constant_less vs name role at q plain k) h

one_constant : (vs : Scope) (name : List ℕ) (t : Bool) → is_constant_role (role_of vs name) ≡ t → AllGiven vs (cond t (name ∷ []) [])
one_constant vs name true e = (ap (λ t. t || is_list_role (role_of vs name)) e, tt)
one_constant vs name false e = tt

mutual
  constants_constant : (vs : Scope) (e : Expr) → AllGiven vs (constants vs e)
  constants_constant vs (Name at name) = one_constant vs name (is_constant_role (role_of vs name)) refl
  constants_constant vs (Unary at op a) = constants_constant vs a
  constants_constant vs (Binary at op a b) = all_both (IsGivenIn vs) (constants vs a) (constants vs b) (constants_constant vs a) (constants_constant vs b)
  constants_constant vs (Call at a method args) = all_both (IsGivenIn vs) (constants vs a) (all_constants vs args) (constants_constant vs a) (all_constant vs args)
  constants_constant vs (Lit at value) = tt
  constants_constant vs (This at) = tt
  constants_constant vs (Field at a name) = tt
  constants_constant vs (Index at a b) = tt
  constants_constant vs (New at class args) = tt
  constants_constant vs (Items at item items) = tt
  constants_constant vs (Taken at step) = tt

  all_constant : (vs : Scope) (es : Exprs) → AllGiven vs (all_constants vs es)
  all_constant vs NoExprs = tt
  all_constant vs (MoreExprs e es) = all_both (IsGivenIn vs) (constants vs e) (all_constants vs es) (constants_constant vs e) (all_constant vs es)

lists_constant : (vs : Scope) (es : List Expr) → AllGiven vs (flat_map (constants vs) es)
lists_constant vs [] = tt
lists_constant vs (e ∷ es) = all_both (IsGivenIn vs) (constants vs e) (flat_map (constants vs) es) (constants_constant vs e) (lists_constant vs es)

list_given : (vs : Scope) (e : Expr) → is_constant_list vs e ≡ true → AllGiven vs (name_of e)
list_given vs (Name at q) h = (list_is_given (role_of vs q) h, tt)
list_given vs e h = absurd (cc h)

module _ (f : Facts) where
  kept_constant : (vs : Scope) (s : Stmt) → AllGiven vs (kept_constants f vs s)
  kept_constant vs s = lists_constant vs (remote_of f vs s)

  before_after : (vs : Scope) (s : Stmt) (qs : List (List ℕ)) → AllGiven (scope_after f [] vs s) qs → AllGiven vs qs
  before_after vs (Val at name e) qs h = by (portable f vs e) h
    where
      by : (t : Bool) → AllGiven (with_variable vs name (cond t Role.Carried Role.Plain) at) qs → AllGiven vs qs
      by true k = all_less vs name Role.Carried at qs refl k
      by false k = all_less vs name Role.Plain at qs refl k
  before_after vs (Var at name e) qs h = all_less vs name Role.Plain at qs refl h
  before_after vs (Assign at a b) qs h = h
  before_after vs (Run at e) qs h = h
  before_after vs (Print at e) qs h = h
  before_after vs (Throw at e) qs h = h
  before_after vs (If at c a b) qs h = h
  before_after vs (While at c a) qs h = h
  before_after vs (For at name e a) qs h = h
  before_after vs (Try at a name b) qs h = h
  before_after vs (Batch at interface root a) qs h = h

  mutual
    used_constant : (form : PlacedForm) (vs : Scope) (s : Stmt) → placed_form f vs s ≡ form → AllGiven vs (used_as f form vs s)
    used_constant PlacedForm.CarriedVal vs (Val at name e) placing = constants_constant vs e
    used_constant PlacedForm.CarriedIf vs (If at c a b) placing =
        all_both (IsGivenIn vs) (constants vs c ++ used_in f vs a) (used_in f vs b) (all_both (IsGivenIn vs) (constants vs c) (used_in f vs a) (constants_constant vs c) (block_constant vs a)) (block_constant vs b)
    used_constant PlacedForm.RowsLoop vs (For at name e a) placing =
        let inner = with_variable vs name Role.Row at in
        all_both (IsGivenIn vs) (constants vs e) (used_in f inner a) (constants_constant vs e) (all_less vs name Role.Row at (used_in f inner a) refl (block_constant inner a))
    used_constant PlacedForm.CarriedLoop vs (For at name e a) placing =
        let inner = with_variable vs name Role.Row at in
        all_both (IsGivenIn vs) (name_of e) (used_in f inner a) (list_given vs e (loop_carried f vs at name e a placing).list) (all_less vs name Role.Row at (used_in f inner a) refl (block_constant inner a))
    used_constant form vs s placing = kept_constant vs s

    pub block_constant : (vs : Scope) (ss : Stmts) → AllGiven vs (used_in f vs ss)
    block_constant vs NoStmts = tt
    block_constant vs (MoreStmts s ss) =
        all_both (IsGivenIn vs) (used f vs s) (used_in f (scope_after f [] vs s) ss) (used_constant (placed_form f vs s) vs s refl)
        (before_after vs s (used_in f (scope_after f [] vs s) ss) (block_constant (scope_after f [] vs s) ss))

pub uses_so : (P : List ℕ → Type 0) (before qs : List (List ℕ)) → AllByRecursion P qs → AllByRecursion P (first_uses before qs)
uses_so P before [] h = tt
uses_so P before (n ∷ qs) h = cond_is (AllByRecursion P) (is_new n before) (n ∷ first_uses (n ∷ before) qs) (first_uses before qs) (h.0, uses_so P (n ∷ before) qs h.1) (uses_so P before qs h.1)
