-- The remote expressions of a statement of an admitted batch that has no step of its own are primitive.
use Rattle.std.proofs.Common.{◌≡◌, ◌⊎◌, inl, inr, refl, ap, subst, ℕ, List, [], ◌∷◌, ◌++◌, Bool as Truth, true, false, not, cond, Option, Some, Ok}
use Rattle.std.specs.Str.{bytes_eq}
use Rattle.std.specs.List.{AllByRecursion, flat_map}
use Rattle.std.proofs.lemmas.Bool.{and_parts}
use Rattle.rb_trees.specs.Outcome.{known}
use Rattle.rb_trees.specs.declared.refusals.Refusal.{Refusal}
use Rattle.rb_trees.specs.declared.refusals.Refusal.TheVariants as refusal
use Rattle.rb_trees.specs.mirror.Code.{Expr, Lit, Name, This, Unary, Binary, Field, Call, Index, New, Items, Taken, expr_at, Stmt, Val, Var, Assign, Run, Print, Throw, If, While, For, Try, Batch}
use Rattle.rb_trees.specs.mirror.Declarations.{Program, Interface}
use Rattle.rb_meaning_types.specs.Kinds as kind
use Rattle.rb_meaning_types.specs.Kinds.{Kind, is_unit}
use Rattle.rb_meaning_types.specs.Violations.{Checked, UnknownName, wanted}
use Rattle.rb_meaning_types.specs.Declared.{Declarations, Context, of_program}
use Rattle.rb_meaning_types.specs.Scopes as typed
use Rattle.rb_meaning_types.specs.Expressions.{type_of}
use Rattle.rb_meaning_types.specs.Statements.{is_open_variable, is_assignable, is_printable, check_stmt}
use Rattle.rb_meaning_types.specs.Notes.{type_at}
use Rattle.rb_meaning_flow.specs.declared.forms.PlacedForm.{PlacedForm}
use Rattle.rb_meaning_flow.specs.Facts.{Facts, facts_of}
use Rattle.rb_meaning_flow.specs.Scopes.{Scope}
use Rattle.rb_meaning_flow.specs.Portable.{portable, holds_call}
use Rattle.rb_meaning_flow.specs.Marks.{is_portable_call}
use Rattle.rb_meaning_flow.specs.Sites.{Around, StmtSite, site, expr_sites, own, all_sites, stmt_site, sites, exprs_of}
use Rattle.rb_meaning_flow.specs.Refusals.{has_remote_type, may_be_remote, IsRefusal}
use Rattle.rb_meaning.specs.RemoteExprs.{remote_in, remote_of}
use Rattle.rb_flow.specs.Laws.{SendsPortable}
use Rattle.rb_law_types.specs.Far.{RemoteCallsGiveFar}
use Rattle.rb_law_types.specs.Formed.{IsFormedExpr, IsFormedStmt}
use Rattle.rb_law_types.specs.Noted.{IsNotedExpr, IsNotedStmt}
use Rattle.rb_law_types.specs.Code.{AreTyped}
use Rattle.rb_law_types.proofs.Checks.{bind_ok, then_ok, known_ok, placed_ok, wanted_ok}
use Rattle.rb_law_types.proofs.Parts.{val_parts, var_parts, assign_parts, run_parts, print_parts, if_parts, while_parts, for_parts}
use Rattle.rb_law_types.proofs.SitesWithin.{Within, within_left, within_right, site_first, stmt_first, own_among, first_among}
use Rattle.rb_law_unsplit.proofs.Agreed.{Agree}
use Rattle.rb_law_unsplit.proofs.Walked.{all_append}
use Rattle.rb_law_script.proofs.Forms.{Tells}
use Rattle.rb_law_script.proofs.NoUnit.{NoUnit, field_kind_no_unit}
use Rattle.rb_law_script.proofs.Sent.{Sent, not_remote, remote_sent}

-- a variable that can be assigned isn't of type Unit
abbrev pub OpenScope : typed.Scope → Type 0
OpenScope ws = AllByRecursion (λ w. w.fixed ≡ false → NoUnit w.kind) ws

pub open_more : (ws : typed.Scope) (name : List ℕ) (k : Kind) (fixed : Truth) → OpenScope ws → (fixed ≡ false → NoUnit k) → OpenScope (typed.with_variable ws name k fixed)
open_more ws name k fixed h last = all_append (λ w. w.fixed ≡ false → NoUnit w.kind) ws (record { name = name; kind = k; fixed = fixed } ∷ []) h (last, tt)

pub open_fixed : (ws : typed.Scope) (name : List ℕ) (k : Kind) → OpenScope ws → OpenScope (typed.with_variable ws name k true)
open_fixed ws name k h = open_more ws name k true h (λ e. absurd (cc (e)))

open_named : (ws : typed.Scope) (name : List ℕ) → OpenScope ws → is_open_variable (typed.variable_named ws name) ≡ true → (w : typed.Variable) → typed.variable_named ws name ≡ Some w → NoUnit w.kind
open_named [] name h o w e = absurd (cc (e))
open_named (y ∷ ws) name h o w e = by (bytes_eq y.name name) o e (λ o' e'. open_named ws name h.1 o' w e')
  where
    unfixed : (t : Truth) → not t ≡ true → t ≡ false
    unfixed false h = refl
    unfixed true h = absurd (cc (h))

    by : (t : Truth) → is_open_variable (cond t (Some y) (typed.variable_named ws name)) ≡ true → cond t (Some y) (typed.variable_named ws name) ≡ Some w
        → (is_open_variable (typed.variable_named ws name) ≡ true → typed.variable_named ws name ≡ Some w → NoUnit w.kind) → NoUnit w.kind
    by true o' e' rest = let same : y ≡ w = cc (e') in subst (λ z. NoUnit z.kind) same (h.0 (unfixed y.fixed o'))
    by false o' e' rest = rest o' e'

printable_no_unit : (d : Declarations) (k : Kind) → is_printable d k ≡ true → NoUnit k
printable_no_unit d kind.Unit h = absurd (cc (h))
printable_no_unit d kind.Int h = refl
printable_no_unit d kind.Bool h = refl
printable_no_unit d kind.Text h = refl
printable_no_unit d (kind.Named name) h = refl
printable_no_unit d (kind.ListOf item) h = refl
printable_no_unit d (kind.RowsOf row) h = refl

over_no_unit : (list item : Kind) → (list ≡ kind.ListOf item) ⊎ (list ≡ kind.RowsOf item) → NoUnit list
over_no_unit list item (inl e) = ap is_unit e
over_no_unit list item (inr e) = ap is_unit e

module _ (given : RemoteCallsGiveFar) (p : Program) (declared : AreTyped (of_program p)) (this : Option (List ℕ)) (remote : Truth) (ss : List StmtSite) (none : (r : Refusal) → IsRefusal (facts_of p) ss r → ⊥) (sends : SendsPortable (facts_of p) ss) where
  abbrev x : Context
  x = record { declared = of_program p; this = this; remote = remote }

  abbrev is : List Interface
  is = p.interfaces

  abbrev f : Facts
  f = facts_of p

  abbrev types : ℕ → Option (Checked Kind)
  types = type_at p

  abbrev d : Declarations
  d = of_program p

  abbrev pub Sent' : Scope → typed.Scope → Expr → Type 0
  Sent' vs ws e = Sent given p declared this remote vs ws e

  module _ (around : List Around) (vs : Scope) (ws : typed.Scope) (agree : Agree is vs ws) where
    -- an outermost expression
    root_sent : (s : Stmt) (e : Expr) (k : Kind) → Within (expr_sites (stmt_site around vs s) [] e) (exprs_of ss) → type_of x ws e ≡ Ok k → IsNotedExpr types x ws e → IsFormedExpr e
        → (is_portable_call f vs e ≡ true → NoUnit k × (has_remote_type f e ≡ false)) → AllByRecursion (Sent' vs ws) (remote_in f vs e)
    root_sent s e k w t n g may = remote_sent given p declared this remote ss none sends (stmt_site around vs s) ws agree [] e k t n g w may

    one_sent : (s : Stmt) (e : Expr) (k : Kind) → Within (expr_sites (stmt_site around vs s) [] e) (exprs_of ss) → type_of x ws e ≡ Ok k → IsNotedExpr types x ws e → IsFormedExpr e
        → (is_portable_call f vs e ≡ true → NoUnit k × (has_remote_type f e ≡ false)) → AllByRecursion (Sent' vs ws) (flat_map (remote_in f vs) (e ∷ []))
    one_sent s e k w t n g may = all_append (Sent' vs ws) (remote_in f vs e) [] (root_sent s e k w t n g may) tt

    -- where it may not be remote as a whole
    plain_may : (s : Stmt) (e : Expr) (k : Kind) → Within (expr_sites (stmt_site around vs s) [] e) (exprs_of ss) → may_be_remote f (stmt_site around vs s) [] ≡ false → NoUnit k → is_portable_call f vs e ≡ true → NoUnit k × (has_remote_type f e ≡ false)
    plain_may s e k w may unit whole = (unit, not_remote given p declared this remote ss none sends (stmt_site around vs s) [] e (w (site (stmt_site around vs s) [] e) (site_first (stmt_site around vs s) [] e)) may)

    plain_sent : (s : Stmt) (e : Expr) (k : Kind) → Within (expr_sites (stmt_site around vs s) [] e) (exprs_of ss) → type_of x ws e ≡ Ok k → IsNotedExpr types x ws e → IsFormedExpr e → may_be_remote f (stmt_site around vs s) [] ≡ false → NoUnit k
        → AllByRecursion (Sent' vs ws) (flat_map (remote_in f vs) (e ∷ []))
    plain_sent s e k w t n g may unit = one_sent s e k w t n g (plain_may s e k w may unit)

    -- a variable is of no remote type
    var_plain : (at : ℕ) (name : List ℕ) (e : Expr) → Within (sites f around vs (Var at name e)) ss → has_remote_type f e ≡ false
    var_plain at name e w = by (has_remote_type f e) refl
      where
        st : StmtSite
        st = stmt_site around vs (Var at name e)

        by : (t : Truth) → has_remote_type f e ≡ t → t ≡ false
        by false h = refl
        by true h = absurd (none (refusal.RemoteVar at) (st, w st (stmt_first f around vs (Var at name e)), refl, h))

    -- what can be assigned is no remote call, and not of type Unit
    assignable_may : (a : Expr) (k : Kind) → is_assignable ws a ≡ true → is_portable_call f vs a ≡ true → NoUnit k × (has_remote_type f a ≡ false)
    assignable_may (Name at name) k h whole = absurd (cc ((and_parts (portable f vs (Name at name)) false whole).1))
    assignable_may (Field at a name) k h whole = absurd (cc (whole))
    assignable_may (Lit at v) k h whole = absurd (cc (h))
    assignable_may (This at) k h whole = absurd (cc (h))
    assignable_may (Unary at op a) k h whole = absurd (cc (h))
    assignable_may (Binary at op a b) k h whole = absurd (cc (h))
    assignable_may (Call at a method args) k h whole = absurd (cc (h))
    assignable_may (Index at a b) k h whole = absurd (cc (h))
    assignable_may (New at class args) k h whole = absurd (cc (h))
    assignable_may (Items at item items) k h whole = absurd (cc (h))
    assignable_may (Taken at step) k h whole = absurd (cc (h))

    assignable_no_unit : OpenScope ws → (a : Expr) (k : Kind) → is_assignable ws a ≡ true → type_of x ws a ≡ Ok k → NoUnit k
    assignable_no_unit opens (Name at name) k h t =
        let b = bind_ok (known (UnknownName at) (typed.variable_named ws name)) _ k t in
        let same : (b.0).kind ≡ k = cc (b.2) in
        subst NoUnit same (open_named ws name opens h b.0 (known_ok (UnknownName at) (typed.variable_named ws name) b.0 b.1))
    assignable_no_unit opens (Field at a name) k h t =
        let b = placed_ok (expr_at a) (type_of x ws a) _ k t in
        (field_kind_no_unit d declared.declared at name (record { at = expr_at a; kind = b.0 }) k b.2).1
    assignable_no_unit opens (Lit at v) k h t = absurd (cc (h))
    assignable_no_unit opens (This at) k h t = absurd (cc (h))
    assignable_no_unit opens (Unary at op a) k h t = absurd (cc (h))
    assignable_no_unit opens (Binary at op a b) k h t = absurd (cc (h))
    assignable_no_unit opens (Call at a method args) k h t = absurd (cc (h))
    assignable_no_unit opens (Index at a b) k h t = absurd (cc (h))
    assignable_no_unit opens (New at class args) k h t = absurd (cc (h))
    assignable_no_unit opens (Items at item items) k h t = absurd (cc (h))
    assignable_no_unit opens (Taken at step) k h t = absurd (cc (h))

    -- of a statement that has no step of its own, each remote expression is kept
    pub kept_sent : OpenScope ws → (after : typed.Scope) (s : Stmt) → check_stmt x ws s ≡ Ok after → IsNotedStmt types x ws s → IsFormedStmt s → Within (sites f around vs s) ss → Tells f vs PlacedForm.Plain s → AllByRecursion (Sent' vs ws) (remote_of f vs s)
    kept_sent opens after (Val at name e) t n g w kept =
        let c = val_parts x ws at name e after t in
        one_sent (Val at name e) e c.kind (first_among f ss around vs (Val at name e) e [] refl w) c.typed n g
        (λ whole. absurd (cc (kept, (and_parts (portable f vs e) (holds_call f e) whole).0)))
    kept_sent opens after (Var at name e) t n g w kept =
        let c = var_parts x ws at name e after t in
        one_sent (Var at name e) e c.kind (first_among f ss around vs (Var at name e) e [] refl w) c.typed n g
        (λ whole. (c.no_unit, var_plain at name e w))
    kept_sent opens after (Assign at a b) t n g w kept =
        let st = stmt_site around vs (Assign at a b) in
        let q = assign_parts x ws at a b after t in
        let unit = subst NoUnit q.alike (assignable_no_unit opens a q.left q.assignable q.left_typed) in
        let all : Within (all_sites st (own (Assign at a b))) (exprs_of ss) = own_among f ss around vs (Assign at a b) w in
        let wb : Within (expr_sites st [] b) (exprs_of ss) = within_left (expr_sites st [] b) [] _ (within_right (expr_sites st [] a) (all_sites st (b ∷ [])) _ all) in
        all_append (Sent' vs ws) (remote_in f vs a) (remote_in f vs b ++ [])
        (root_sent (Assign at a b) a q.left (first_among f ss around vs (Assign at a b) a (b ∷ []) refl w) q.left_typed n.0 g.0 (assignable_may a q.left q.assignable))
        (plain_sent (Assign at a b) b q.right wb q.right_typed n.1 g.1 refl unit)
    kept_sent opens after (Run at e) t n g w kept =
        let c = run_parts x ws at e after t in
        one_sent (Run at e) e c.kind (first_among f ss around vs (Run at e) e [] refl w) c.typed n g (λ whole. absurd (cc (kept, whole)))
    kept_sent opens after (Print at e) t n g w kept =
        let c = print_parts x ws at e after t in
        plain_sent (Print at e) e c.kind (first_among f ss around vs (Print at e) e [] refl w) c.typed n g refl (printable_no_unit d c.kind c.printable)
    kept_sent opens after (Throw at e) t n g w kept =
        let q = placed_ok (expr_at e) (type_of x ws e) _ after t in
        let u = then_ok (wanted kind.Text (record { at = expr_at e; kind = q.0 })) (Ok ws) after q.2 in
        plain_sent (Throw at e) e q.0 (first_among f ss around vs (Throw at e) e [] refl w) q.1 n g refl (subst NoUnit (wanted_ok kind.Text (record { at = expr_at e; kind = q.0 }) u.0) refl)
    kept_sent opens after (If at c a b) t n g w kept =
        let q = if_parts x ws at c a b after t in
        plain_sent (If at c a b) c kind.Bool (first_among f ss around vs (If at c a b) c [] refl w) q.typed n.0 g.0 refl refl
    kept_sent opens after (While at c a) t n g w kept =
        let q = while_parts x ws at c a after t in
        plain_sent (While at c a) c kind.Bool (first_among f ss around vs (While at c a) c [] refl w) q.typed n.0 g.0 refl refl
    kept_sent opens after (For at name e a) t n g w kept =
        let q = for_parts x ws at name e a after t in
        plain_sent (For at name e a) e q.list (first_among f ss around vs (For at name e a) e [] refl w) q.typed n.0 g.0 kept.0 (over_no_unit q.list q.item q.over)
    kept_sent opens after (Try at a name b) t n g w kept = tt
    kept_sent opens after (Batch at interface root a) t n g w kept = tt
