-- The code of a batch without refusals is admitted.
use Rattle.std.proofs.Common.{◌≡◌, inl, inr, refl, sym, ap, ◌∙◌, subst, ℕ, List, [], ◌∷◌, Bool as Truth, true, false, not, ◌&&◌, ◌||◌, Option, Some, Ok}
use Rattle.std.specs.List.{Contains}
use Rattle.std.proofs.lemmas.List.Elements.{Contains-append_left}
use Rattle.rb_trees.specs.Outcome.{◌>>=◌}
use Rattle.rb_trees.specs.declared.refusals.Refusal.{Refusal}
use Rattle.rb_trees.specs.declared.refusals.Refusal.TheVariants as refusal
use Rattle.rb_trees.specs.mirror.Code.{Expr, Exprs, Lit, Name, This, Unary, Binary, Field, Call, Index, New, Items, Taken, NoExprs, MoreExprs, expr_at, Stmt, Stmts, Val, Var, Assign, Run, Print, Throw, If, While, For, Try, Batch, NoStmts, MoreStmts}
use Rattle.rb_trees.specs.mirror.Declarations.{Program}
use Rattle.rb_meaning_types.specs.Kinds as kind
use Rattle.rb_meaning_types.specs.Kinds.{Kind, is_primitive}
use Rattle.rb_meaning_types.specs.Violations.{Checked}
use Rattle.rb_meaning_types.specs.Declared.{Declarations, Context, of_program}
use Rattle.rb_meaning_types.specs.Scopes as typed
use Rattle.rb_meaning_types.specs.Statements.{placed, is_printable, loop_scope, catch_scope, check_stmt, check_stmts}
use Rattle.rb_meaning_types.specs.Notes.{scope_or, type_at}
use Rattle.rb_meaning_flow.specs.declared.scopes.Role.{Role}
use Rattle.rb_meaning_flow.specs.Facts.{Facts, facts_of, is_object, is_rows, has_remote_method, class_has_remote, is_remote_method}
use Rattle.rb_meaning_flow.specs.Scopes.{Scope, with_variable}
use Rattle.rb_meaning_flow.specs.Sites.{Around, Branch, WhileTurn, Turn, InTry, StmtSite, Over, site, under, right_under, expr_sites, exprs_sites, own, all_sites, turn_role, scope_after, stmt_site, sites, block_sites, exprs_of}
use Rattle.rb_meaning_flow.specs.Refusals.{has_remote_type, calls_remote_method, IsRefusal}
use Rattle.rb_law_types.specs.Noted.{IsNotedExpr, AreNotedExprs, IsNotedStmt, AreNotedStmts}
use Rattle.rb_law_types.specs.Admitted.{CallsNoRemote, IsAdmittedExpr, AreAdmittedExprs, IsAdmittedStmt, AreAdmittedStmts}
use Rattle.rb_law_types.proofs.Parts.{print_parts, if_parts, while_parts, for_parts, try_parts, stmts_parts}
use Rattle.rb_law_types.proofs.TypeFacts.{kind_here, object_fact, rows_fact, method_fact}
use Rattle.rb_law_types.proofs.SitesWithin.{Within, within_left, within_right, within_tail, site_first, stmt_first, own_among, first_among}

module _ (p : Program) (x : Context) (same : x.declared ≡ of_program p) (ss : List StmtSite) (none : (r : Refusal) → IsRefusal (facts_of p) ss r → ⊥) where
  abbrev f : Facts
  f = facts_of p

  abbrev types : ℕ → Option (Checked Kind)
  types = type_at p

  abbrev d : Declarations
  d = of_program p

  -- no call of a `remote` method of a class
  calls_none : (s : StmtSite) (above : List Over) (at : ℕ) (a : Expr) (method : List ℕ) (args : Exprs) (k : Kind) → Contains (exprs_of ss) (site s above (Call at a method args)) → types (expr_at a) ≡ Some (Ok k) → CallsNoRemote d method k
  calls_none s above at a method args k is noted class m e near has = by m.remote refl
    where
      object : f.object (expr_at a) ≡ false
      object = object_fact p (expr_at a) k noted ∙ ap (is_object d) e ∙ near

      remote : f.remote_method (expr_at a) method ≡ m.remote
      remote = method_fact p (expr_at a) k noted method ∙ ap (has_remote_method d method) e ∙ ap (class_has_remote method) has.found ∙ ap is_remote_method has.method

      refused : m.remote ≡ true → calls_remote_method f (Call at a method args) ≡ true
      refused r = ap (λ t. not t && f.remote_method (expr_at a) method) object ∙ remote ∙ r

      by : (t : Truth) → m.remote ≡ t → t ≡ false
      by false r = refl
      by true r = absurd (none (refusal.BatchInside at) (inr (site s above (Call at a method args), is, refl, refused r)))

  mutual
    expr_admitted : (s : StmtSite) (above : List Over) (ws : typed.Scope) (e : Expr) → Within (expr_sites s above e) (exprs_of ss) → IsNotedExpr types x ws e → IsAdmittedExpr x ws e
    expr_admitted s above ws (Lit at value) w n = tt
    expr_admitted s above ws (Name at name) w n = tt
    expr_admitted s above ws (This at) w n = tt
    expr_admitted s above ws (Unary at op a) w n = expr_admitted s (under (Unary at op a) above) ws a (within_tail _ _ _ w) n.1
    expr_admitted s above ws (Binary at op a b) w n =
        let t = within_tail _ _ _ w in (
          expr_admitted s (under (Binary at op a b) above) ws a (within_left _ (expr_sites s (right_under (Binary at op a b) above) b) _ t) n.1,
          expr_admitted s (right_under (Binary at op a b) above) ws b (within_right (expr_sites s (under (Binary at op a b) above) a) _ _ t) n.2,
        )
    expr_admitted s above ws (Field at a name) w n = expr_admitted s (under (Field at a name) above) ws a (within_tail _ _ _ w) n.1
    expr_admitted s above ws (Call at a method args) w n =
        let t = within_tail _ _ _ w in
        let o = under (Call at a method args) above in (
          expr_admitted s o ws a (within_left _ (exprs_sites s o args) _ t) n.1,
          exprs_admitted s o ws args (within_right (expr_sites s o a) _ _ t) n.2,
          λ k typed. subst (λ e. CallsNoRemote e method k) (sym same)
              (calls_none s above at a method args k (w (site s above (Call at a method args)) (site_first s above (Call at a method args))) (kind_here types x ws a k n.1 typed)),
        )
    expr_admitted s above ws (Index at a b) w n =
        let t = within_tail _ _ _ w in
        let o = under (Index at a b) above in
        (expr_admitted s o ws a (within_left _ (expr_sites s o b) _ t) n.1, expr_admitted s o ws b (within_right (expr_sites s o a) _ _ t) n.2)
    expr_admitted s above ws (New at class args) w n = exprs_admitted s (under (New at class args) above) ws args (within_tail _ _ _ w) n.1
    expr_admitted s above ws (Items at item items) w n = exprs_admitted s (under (Items at item items) above) ws items (within_tail _ _ _ w) n.1
    expr_admitted s above ws (Taken at step) w n = tt

    exprs_admitted : (s : StmtSite) (above : List Over) (ws : typed.Scope) (es : Exprs) → Within (exprs_sites s above es) (exprs_of ss) → AreNotedExprs types x ws es → AreAdmittedExprs x ws es
    exprs_admitted s above ws NoExprs w n = tt
    exprs_admitted s above ws (MoreExprs e es) w n = (expr_admitted s above ws e (within_left _ (exprs_sites s above es) _ w) n.0, exprs_admitted s above ws es (within_right (expr_sites s above e) _ _ w) n.1)

  -- what is printed has a primitive type
  printed : (around : List Around) (vs : Scope) (at : ℕ) (e : Expr) (k : Kind) → Contains (exprs_of ss) (site (stmt_site around vs (Print at e)) [] e) → types (expr_at e) ≡ Some (Ok k) → is_printable d k ≡ true → is_primitive k ≡ true
  printed around vs at e k is noted ok = by k refl ok
    where
      refused : has_remote_type f e ≡ true → ⊥
      refused r = none (refusal.Escapes (expr_at e)) (site (stmt_site around vs (Print at e)) [] e, is, refl, ap (λ t. t && true) r)

      or_true : (a b : Truth) → b ≡ true → (a || b) ≡ true
      or_true true b h = refl
      or_true false b h = h

      by : (m : Kind) → k ≡ m → is_printable d m ≡ true → is_primitive m ≡ true
      by kind.Int same h = refl
      by kind.Bool same h = refl
      by kind.Text same h = refl
      by kind.Unit same h = absurd (cc (h))
      by (kind.Named name) same h = absurd (refused (ap (λ t. t || f.rows (expr_at e)) (object_fact p (expr_at e) k noted ∙ ap (is_object d) same ∙ h)))
      by (kind.ListOf item) same h = absurd (cc (h))
      by (kind.RowsOf row) same h = absurd (refused (or_true (f.object (expr_at e)) (f.rows (expr_at e)) (rows_fact p (expr_at e) k noted ∙ ap is_rows same)))

  -- the outermost expression of a statement
  one_admitted : (around : List Around) (vs : Scope) (ws : typed.Scope) (s : Stmt) (e : Expr) (es : List Expr) → own s ≡ e ∷ es → Within (sites f around vs s) ss → IsNotedExpr types x ws e → IsAdmittedExpr x ws e
  one_admitted around vs ws s e es first w n = expr_admitted (stmt_site around vs s) [] ws e (first_among f ss around vs s e es first w) n

  mutual
    stmt_admitted : (around : List Around) (vs : Scope) (ws after : typed.Scope) (s : Stmt) → check_stmt x ws s ≡ Ok after → IsNotedStmt types x ws s → Within (sites f around vs s) ss → IsAdmittedStmt x ws s
    stmt_admitted around vs ws after (Val at name e) t n w = one_admitted around vs ws (Val at name e) e [] refl w n
    stmt_admitted around vs ws after (Var at name e) t n w = one_admitted around vs ws (Var at name e) e [] refl w n
    stmt_admitted around vs ws after (Assign at a b) t n w =
        let all = own_among f ss around vs (Assign at a b) w in
        let s = stmt_site around vs (Assign at a b) in
        (one_admitted around vs ws (Assign at a b) a (b ∷ []) refl w n.0, expr_admitted s [] ws b (within_left (expr_sites s [] b) [] _ (within_right (expr_sites s [] a) (all_sites s (b ∷ [])) _ all)) n.1)
    stmt_admitted around vs ws after (Run at e) t n w = one_admitted around vs ws (Run at e) e [] refl w n
    stmt_admitted around vs ws after (Print at e) t n w =
        let h = print_parts x ws at e after t in
        let s = stmt_site around vs (Print at e) in
        let is = own_among f ss around vs (Print at e) w (site s [] e) (Contains-append_left (expr_sites s [] e) [] _ (site_first s [] e)) in
        let primitive = printed around vs at e h.kind is (kind_here types x ws e h.kind n h.typed) (subst (λ d'. is_printable d' h.kind ≡ true) same h.printable) in
        (one_admitted around vs ws (Print at e) e [] refl w n, λ k typed. let e' : h.kind ≡ k = cc (h.typed, typed) in subst (λ m. is_primitive m ≡ true) e' primitive)
    stmt_admitted around vs ws after (Throw at e) t n w = one_admitted around vs ws (Throw at e) e [] refl w n
    stmt_admitted around vs ws after (If at c a b) t n w =
        let h = if_parts x ws at c a b after t in
        let inner = Branch at vs c a b ∷ around in
        let rest = within_tail _ _ _ w in (
          one_admitted around vs ws (If at c a b) c [] refl w n.0,
          block_admitted inner vs ws h.first a h.first_typed n.1 (within_left (block_sites f inner vs a) (block_sites f inner vs b) _ rest),
          block_admitted inner vs ws h.second b h.second_typed n.2 (within_right (block_sites f inner vs a) (block_sites f inner vs b) _ rest),
        )
    stmt_admitted around vs ws after (While at c a) t n w =
        let h = while_parts x ws at c a after t in
        (one_admitted around vs ws (While at c a) c [] refl w n.0, block_admitted (WhileTurn at vs c ∷ around) vs ws h.last a h.block_typed n.1 (within_tail _ _ _ w))
    stmt_admitted around vs ws after (For at name e a) t n w =
        let h = for_parts x ws at name e a after t in
        let inner = typed.with_variable ws name h.item true in
        let is : scope_or ws (placed x ws e >>= λ q. loop_scope ws at name q) ≡ inner = ap (scope_or ws) h.judged in (
          one_admitted around vs ws (For at name e a) e [] refl w n.0,
          subst (λ i. AreAdmittedStmts x i a) (sym is)
              (block_admitted (Turn at vs e a ∷ around) (with_variable vs name (turn_role f around vs e a) at) inner h.last a h.block_typed (subst (λ i. AreNotedStmts types x i a) is n.1) (within_tail _ _ _ w)),
        )
    stmt_admitted around vs ws after (Try at a name b) t n w =
        let h = try_parts x ws at a name b after t in
        let inner = typed.with_variable ws name kind.Text true in
        let is : scope_or ws (catch_scope ws at name) ≡ inner = ap (scope_or ws) h.judged in
        let frame = InTry at vs a name b ∷ around in
        let caught = with_variable vs name Role.Plain at in
        let rest = within_tail _ _ _ w in (
          block_admitted frame vs ws h.first a h.first_typed n.0 (within_left (block_sites f frame vs a) (block_sites f frame caught b) _ rest),
          subst (λ i. AreAdmittedStmts x i b) (sym is)
              (block_admitted frame caught inner h.second b h.second_typed (subst (λ i. AreNotedStmts types x i b) is n.1) (within_right (block_sites f frame vs a) (block_sites f frame caught b) _ rest)),
        )
    stmt_admitted around vs ws after (Batch at interface root a) t n w =
        let s = stmt_site around vs (Batch at interface root a) in
        none (refusal.BatchInside at) (inl (s, w s (stmt_first f around vs (Batch at interface root a)), refl, refl))

    pub block_admitted : (around : List Around) (vs : Scope) (ws after : typed.Scope) (block : Stmts) → check_stmts x ws block ≡ Ok after → AreNotedStmts types x ws block → Within (block_sites f around vs block) ss → AreAdmittedStmts x ws block
    block_admitted around vs ws after NoStmts t n w = tt
    block_admitted around vs ws after (MoreStmts s rest) t n w =
        let h = stmts_parts x ws s rest after t in
        let is : scope_or ws (check_stmt x ws s) ≡ h.middle = ap (scope_or ws) h.typed in (
          stmt_admitted around vs ws h.middle s h.typed n.0 (within_left (sites f around vs s) (block_sites f around (scope_after f around vs s) rest) _ w),
          subst (λ i. AreAdmittedStmts x i rest) (sym is)
              (block_admitted around (scope_after f around vs s) h.middle after rest h.rest (subst (λ i. AreNotedStmts types x i rest) is n.1)
              (within_right (sites f around vs s) (block_sites f around (scope_after f around vs s) rest) _ w)),
        )
