-- What isn't taken of the statements of an admitted batch isn't marked as remote, nor is it a carried loop.
use Rattle.std.proofs.Common.{◌≡◌, inl, inr, refl, ap, ◌∙◌, ℕ, List, [], ◌∷◌, Bool as Truth, true, false, ◌||◌, cond, Some}
use Rattle.std.specs.List.{list_any}
use Rattle.rb_trees.specs.declared.marks.Mark.{Mark}
use Rattle.rb_trees.specs.mirror.Code.{Expr, Exprs, Lit, Name, This, Unary, Binary, Field, Call, Index, New, Items, Taken, NoExprs, MoreExprs, expr_at, Stmt, Stmts, Val, Var, Assign, Run, Print, Throw, If, While, For, Try, Batch, NoStmts, MoreStmts, stmt_at}
use Rattle.rb_trees.specs.mirror.Declarations.{Program}
use Rattle.rb_meaning_flow.specs.declared.forms.PlacedForm.{PlacedForm}
use Rattle.rb_meaning_flow.specs.declared.scopes.Role.{Role}
use Rattle.rb_meaning_flow.specs.Facts.{Facts, facts_of, is_remote, over_rows}
use Rattle.rb_meaning_flow.specs.Scopes.{Scope, with_variable}
use Rattle.rb_meaning_flow.specs.Portable.{portable, holds_call, any_holds_call, is_constant, holds_operation, block_holds, branches_hold, is_constant_list, may_carry, has_far_turns}
use Rattle.rb_meaning_flow.specs.Forms.{placed_form, is_carried_form}
use Rattle.rb_meaning_flow.specs.Marks.{is_portable_call, is_remote_whole}
use Rattle.rb_meaning_flow.specs.Sites.{Around, Branch, WhileTurn, Turn, InTry, StmtSite, Over, is_script_place, site, expr_sites, exprs_sites, all_sites, own, turn_role, scope_after, stmt_site, sites, block_sites, exprs_of}
use Rattle.rb_meaning.specs.Unsplit.{is_remote_mark}
use Rattle.rb_law_local.specs.Placed.{PlacedExpr, PlacedExprs, PlacedStmt, PlacedStmts}
use Rattle.rb_law_local.specs.Local.{IsPlainAt}
use Rattle.rb_law_local.specs.Admitted.{IsAdmittedBatch, StaysWhole}
use Rattle.rb_law_local.specs.Marked.{HasMarks, AdmittedArePlaced}
use Rattle.rb_law_local.proofs.Uncut.{or_none}
use Rattle.rb_law_types.proofs.SitesWithin.{Within, within_left, within_right, within_tail, site_first, stmt_first, own_among, first_among}
use Rattle.rb_law_local.proofs.Refused.{no_operations, no_turns}
use Rattle.rb_law_local.proofs.Standing.{no_right}

both_false : (a b : Truth) → a ≡ false → b ≡ false → (a || b) ≡ false
both_false true b h k = absurd (cc (h))
both_false false b h k = k

not_remote : (constant : Truth) → is_remote_mark (Some (cond constant Mark.Constant Mark.Local)) ≡ false
not_remote true = refl
not_remote false = refl

module _ (p : Program) (ss : List StmtSite) (admitted : IsAdmittedBatch (facts_of p) ss) (marks : HasMarks p ss) where
  abbrev f : Facts
  f = facts_of p

  abbrev Here : ℕ → Type 0
  Here at = IsPlainAt p at

  -- no expression above is taken, nor all of the statement
  abbrev Plain : StmtSite → List Over → Type 0
  Plain s above = (is_remote_whole f s.around s.stmt ≡ false) × (list_any (λ o. is_portable_call f s.scope o.expr) above ≡ false)

  here : (s : StmtSite) (above : List Over) (e : Expr) → Within (expr_sites s above e) (exprs_of ss) → Plain s above → is_portable_call f s.scope e ≡ false → Here (expr_at e)
  here s above e w plain own_part =
      let is = w (site s above e) (site_first s above e) in (
        ap is_remote_mark (marks.exprs (site s above e) is
            ∙ ap (λ t. Some (cond t Mark.Remote (cond (is_constant s.scope e) Mark.Constant Mark.Local))) (both_false (is_remote_whole f s.around s.stmt) _ plain.0 (both_false (is_portable_call f s.scope e) _ own_part plain.1)))
            ∙ not_remote (is_constant s.scope e),
        marks.uncarried (site s above e) is,
      )

  plain_under : (s : StmtSite) (o : Over) (above : List Over) → Plain s above → is_portable_call f s.scope o.expr ≡ false → Plain s (o ∷ above)
  plain_under s o above plain own_part = (plain.0, both_false (is_portable_call f s.scope o.expr) (list_any (λ q. is_portable_call f s.scope q.expr) above) own_part plain.1)

  no_call_whole : (vs : Scope) (e : Expr) → holds_call f e ≡ false → is_portable_call f vs e ≡ false
  no_call_whole vs e h = no_right (portable f vs e) (holds_call f e) h

  -- a loop whose turns are the client's own isn't carried
  abbrev OwnTurns : Scope → Stmt → Type 0
  OwnTurns vs (For at name e a) = has_far_turns f vs e a ≡ false
  OwnTurns vs s = Unit {0}

  form_where : (t : Truth) (form : PlacedForm) → is_carried_form form ≡ false → is_carried_form (cond t form PlacedForm.Plain) ≡ false
  form_where true form h = h
  form_where false form h = refl

  own_form : (vs : Scope) (s : Stmt) → OwnTurns vs s → is_carried_form (placed_form f vs s) ≡ false
  own_form vs (Val at name e) h = form_where (portable f vs e) PlacedForm.CarriedVal refl
  own_form vs (Run at e) h = form_where (is_portable_call f vs e) PlacedForm.CallAlone refl
  own_form vs (If at c a b) h = form_where (branches_hold f a b) PlacedForm.CarriedIf refl
  own_form vs (For at name e a) h =
      let parts = or_none (over_rows f e) (may_carry f vs e a) h in
      ap (λ t. is_carried_form (cond t PlacedForm.RowsLoop (cond (may_carry f vs e a) PlacedForm.CarriedLoop PlacedForm.Plain))) parts.0 ∙ ap (λ t. is_carried_form (cond t PlacedForm.CarriedLoop PlacedForm.Plain)) parts.1
  own_form vs (Var at name e) h = refl
  own_form vs (Assign at a b) h = refl
  own_form vs (Print at e) h = refl
  own_form vs (Throw at e) h = refl
  own_form vs (While at c a) h = refl
  own_form vs (Try at a name b) h = refl
  own_form vs (Batch at interface root a) h = refl

  -- where the statement's own scope tells what is taken
  mutual
    placed_expr : (s : StmtSite) (above : List Over) (e : Expr) → Within (expr_sites s above e) (exprs_of ss) → Plain s above → PlacedExpr Here (is_portable_call f s.scope) e
    placed_expr s above (Lit at v) w plain = tt
    placed_expr s above (Name at name) w plain = here s above (Name at name) w plain (no_call_whole s.scope (Name at name) refl)
    placed_expr s above (This at) w plain = here s above (This at) w plain refl
    placed_expr s above (Unary at op a) w plain =
        let o : Over = record { expr = Unary at op a; right = false } in
        λ part. (here s above (Unary at op a) w plain part, placed_expr s (o ∷ above) a (within_tail _ _ _ w) (plain_under s o above plain part))
    placed_expr s above (Binary at op a b) w plain =
        let o : Over = record { expr = Binary at op a b; right = false } in
        let q : Over = record { expr = Binary at op a b; right = true } in
        let t = within_tail _ _ _ w in
        λ part. (
          here s above (Binary at op a b) w plain part,
          placed_expr s (o ∷ above) a (within_left _ (expr_sites s (q ∷ above) b) _ t) (plain_under s o above plain part),
          placed_expr s (q ∷ above) b (within_right (expr_sites s (o ∷ above) a) _ _ t) (plain_under s q above plain part),
        )
    placed_expr s above (Field at a name) w plain =
        let o : Over = record { expr = Field at a name; right = false } in
        (here s above (Field at a name) w plain refl, placed_expr s (o ∷ above) a (within_tail _ _ _ w) (plain_under s o above plain refl))
    placed_expr s above (Call at a method args) w plain =
        let o : Over = record { expr = Call at a method args; right = false } in
        let t = within_tail _ _ _ w in
        λ part. (
          here s above (Call at a method args) w plain part,
          placed_expr s (o ∷ above) a (within_left _ (exprs_sites s (o ∷ above) args) _ t) (plain_under s o above plain part),
          placed_exprs s (o ∷ above) args (within_right (expr_sites s (o ∷ above) a) _ _ t) (plain_under s o above plain part),
        )
    placed_expr s above (Index at a b) w plain =
        let o : Over = record { expr = Index at a b; right = false } in
        let t = within_tail _ _ _ w in (
          here s above (Index at a b) w plain refl,
          placed_expr s (o ∷ above) a (within_left _ (expr_sites s (o ∷ above) b) _ t) (plain_under s o above plain refl),
          placed_expr s (o ∷ above) b (within_right (expr_sites s (o ∷ above) a) _ _ t) (plain_under s o above plain refl),
        )
    placed_expr s above (New at class args) w plain =
        let o : Over = record { expr = New at class args; right = false } in
        (here s above (New at class args) w plain refl, placed_exprs s (o ∷ above) args (within_tail _ _ _ w) (plain_under s o above plain refl))
    placed_expr s above (Items at item items) w plain =
        let o : Over = record { expr = Items at item items; right = false } in
        (here s above (Items at item items) w plain refl, placed_exprs s (o ∷ above) items (within_tail _ _ _ w) (plain_under s o above plain refl))
    placed_expr s above (Taken at step) w plain = tt

    placed_exprs : (s : StmtSite) (above : List Over) (es : Exprs) → Within (exprs_sites s above es) (exprs_of ss) → Plain s above → PlacedExprs Here (is_portable_call f s.scope) es
    placed_exprs s above NoExprs w plain = tt
    placed_exprs s above (MoreExprs e es) w plain = (placed_expr s above e (within_left _ (exprs_sites s above es) _ w) plain, placed_exprs s above es (within_right (expr_sites s above e) _ _ w) plain)

  -- and where nothing is taken, whatever the scope
  module _ (taken : Expr → Truth) where
    mutual
      pub quiet_placed : (s : StmtSite) (above : List Over) (e : Expr) → Within (expr_sites s above e) (exprs_of ss) → Plain s above → holds_call f e ≡ false → PlacedExpr Here taken e
      quiet_placed s above (Lit at v) w plain h = tt
      quiet_placed s above (Name at name) w plain h = here s above (Name at name) w plain (no_call_whole s.scope (Name at name) refl)
      quiet_placed s above (This at) w plain h = here s above (This at) w plain refl
      quiet_placed s above (Unary at op a) w plain h =
          let o : Over = record { expr = Unary at op a; right = false } in
          let part = no_call_whole s.scope (Unary at op a) h in
          λ q. (here s above (Unary at op a) w plain part, quiet_placed s (o ∷ above) a (within_tail _ _ _ w) (plain_under s o above plain part) h)
      quiet_placed s above (Binary at op a b) w plain h =
          let o : Over = record { expr = Binary at op a b; right = false } in
          let q : Over = record { expr = Binary at op a b; right = true } in
          let t = within_tail _ _ _ w in
          let part = no_call_whole s.scope (Binary at op a b) h in
          let both = or_none (holds_call f a) (holds_call f b) h in
          λ r. (
            here s above (Binary at op a b) w plain part,
            quiet_placed s (o ∷ above) a (within_left _ (expr_sites s (q ∷ above) b) _ t) (plain_under s o above plain part) both.0,
            quiet_placed s (q ∷ above) b (within_right (expr_sites s (o ∷ above) a) _ _ t) (plain_under s q above plain part) both.1,
          )
      quiet_placed s above (Field at a name) w plain h =
          let o : Over = record { expr = Field at a name; right = false } in
          (here s above (Field at a name) w plain refl, quiet_placed s (o ∷ above) a (within_tail _ _ _ w) (plain_under s o above plain refl) h)
      quiet_placed s above (Call at a method args) w plain h =
          let o : Over = record { expr = Call at a method args; right = false } in
          let t = within_tail _ _ _ w in
          let part = no_call_whole s.scope (Call at a method args) h in
          let both = or_none (is_remote f a || holds_call f a) (any_holds_call f args) h in
          let two = or_none (is_remote f a) (holds_call f a) both.0 in
          λ r. (
            here s above (Call at a method args) w plain part,
            quiet_placed s (o ∷ above) a (within_left _ (exprs_sites s (o ∷ above) args) _ t) (plain_under s o above plain part) two.1,
            quiet_all s (o ∷ above) args (within_right (expr_sites s (o ∷ above) a) _ _ t) (plain_under s o above plain part) both.1,
          )
      quiet_placed s above (Index at a b) w plain h =
          let o : Over = record { expr = Index at a b; right = false } in
          let t = within_tail _ _ _ w in
          let both = or_none (holds_call f a) (holds_call f b) h in (
            here s above (Index at a b) w plain refl,
            quiet_placed s (o ∷ above) a (within_left _ (expr_sites s (o ∷ above) b) _ t) (plain_under s o above plain refl) both.0,
            quiet_placed s (o ∷ above) b (within_right (expr_sites s (o ∷ above) a) _ _ t) (plain_under s o above plain refl) both.1,
          )
      quiet_placed s above (New at class args) w plain h =
          let o : Over = record { expr = New at class args; right = false } in
          (here s above (New at class args) w plain refl, quiet_all s (o ∷ above) args (within_tail _ _ _ w) (plain_under s o above plain refl) h)
      quiet_placed s above (Items at item items) w plain h =
          let o : Over = record { expr = Items at item items; right = false } in
          (here s above (Items at item items) w plain refl, quiet_all s (o ∷ above) items (within_tail _ _ _ w) (plain_under s o above plain refl) h)
      quiet_placed s above (Taken at step) w plain h = tt

      quiet_all : (s : StmtSite) (above : List Over) (es : Exprs) → Within (exprs_sites s above es) (exprs_of ss) → Plain s above → any_holds_call f es ≡ false → PlacedExprs Here taken es
      quiet_all s above NoExprs w plain h = tt
      quiet_all s above (MoreExprs e es) w plain h =
          let both = or_none (holds_call f e) (any_holds_call f es) h in
          (quiet_placed s above e (within_left _ (exprs_sites s above es) _ w) plain both.0, quiet_all s above es (within_right (expr_sites s above e) _ _ w) plain both.1)

    abbrev Among : List Around → Scope → Stmt → Type 0
    Among around vs s = Within (sites f around vs s) ss

    one : (around : List Around) (vs : Scope) (s : Stmt) (e : Expr) (es : List Expr) → own s ≡ e ∷ es → Among around vs s → is_remote_whole f around s ≡ false → holds_call f e ≡ false → PlacedExpr Here taken e
    one around vs s e es first w whole h = quiet_placed (stmt_site around vs s) [] e (first_among f ss around vs s e es first w) (whole, refl) h

    stands : (around : List Around) (vs : Scope) (s : Stmt) → Among around vs s → OwnTurns vs s → Here (stmt_at s)
    stands around vs s w own_turns =
        let st = stmt_site around vs s in
        let is = w st (stmt_first f around vs s) in
        (marks.stmts st is, marks.loops st is ∙ no_right (is_script_place f around) (is_carried_form (placed_form f vs s)) (own_form vs s own_turns))

    mutual
      quiet_stmt : (s : Stmt) (around : List Around) (vs : Scope) → Among around vs s → holds_operation f s ≡ false → PlacedStmt Here taken s
      quiet_stmt (Val at name e) around vs w h = one around vs (Val at name e) e [] refl w refl h
      quiet_stmt (Var at name e) around vs w h = one around vs (Var at name e) e [] refl w refl h
      quiet_stmt (Assign at a b) around vs w h =
          let both = or_none (holds_call f a) (holds_call f b) h in
          let st = stmt_site around vs (Assign at a b) in
          let wb = within_left (expr_sites st [] b) [] _ (within_right (expr_sites st [] a) (all_sites st (b ∷ [])) _ (own_among f ss around vs (Assign at a b) w)) in
          (stands around vs (Assign at a b) w tt, one around vs (Assign at a b) a (b ∷ []) refl w refl both.0, quiet_placed st [] b wb (refl, refl) both.1)
      quiet_stmt (Run at e) around vs w h = one around vs (Run at e) e [] refl w refl h
      quiet_stmt (Print at e) around vs w h = (stands around vs (Print at e) w tt, one around vs (Print at e) e [] refl w refl h)
      quiet_stmt (Throw at e) around vs w h = (stands around vs (Throw at e) w tt, one around vs (Throw at e) e [] refl w refl h)
      quiet_stmt (If at c a b) around vs w h =
          let two = or_none (holds_call f c || block_holds f a) (block_holds f b) h in
          let first = or_none (holds_call f c) (block_holds f a) two.0 in
          let frame = Branch at vs c a b ∷ around in
          let rest = within_tail _ _ _ w in (
            stands around vs (If at c a b) w tt,
            one around vs (If at c a b) c [] refl w (no_right (is_script_place f around) (branches_hold f a b) (both_false (block_holds f a) (block_holds f b) first.1 two.1)) first.0,
            quiet_block a frame vs (within_left (block_sites f frame vs a) (block_sites f frame vs b) _ rest) first.1,
            quiet_block b frame vs (within_right (block_sites f frame vs a) (block_sites f frame vs b) _ rest) two.1,
          )
      quiet_stmt (While at c a) around vs w h =
          let first = or_none (holds_call f c) (block_holds f a) h in
          (stands around vs (While at c a) w tt, one around vs (While at c a) c [] refl w refl first.0, quiet_block a (WhileTurn at vs c ∷ around) vs (within_tail _ _ _ w) first.1)
      quiet_stmt (For at name e a) around vs w h =
          let two = or_none (over_rows f e || holds_call f e) (block_holds f a) h in
          let first = or_none (over_rows f e) (holds_call f e) two.0 in (
            stands around vs (For at name e a) w (both_false (over_rows f e) (may_carry f vs e a) first.0 (no_right (is_constant_list vs e) (block_holds f a) two.1)),
            one around vs (For at name e a) e [] refl w first.0 first.1,
            quiet_block a (Turn at vs e a ∷ around) (with_variable vs name (turn_role f around vs e a) at) (within_tail _ _ _ w) two.1,
          )
      quiet_stmt (Try at a name b) around vs w h =
          let both = or_none (block_holds f a) (block_holds f b) h in
          let frame = InTry at vs a name b ∷ around in
          let caught = with_variable vs name Role.Plain at in
          let rest = within_tail _ _ _ w in (
            quiet_block a frame vs (within_left (block_sites f frame vs a) (block_sites f frame caught b) _ rest) both.0,
            quiet_block b frame caught (within_right (block_sites f frame vs a) (block_sites f frame caught b) _ rest) both.1,
          )
      quiet_stmt (Batch at interface root a) around vs w h = tt

      quiet_block : (block : Stmts) (around : List Around) (vs : Scope) → Within (block_sites f around vs block) ss → block_holds f block ≡ false → PlacedStmts Here taken block
      quiet_block NoStmts around vs w h = tt
      quiet_block (MoreStmts s rest) around vs w h =
          let both = or_none (holds_operation f s) (block_holds f rest) h in (
            quiet_stmt s around vs (within_left (sites f around vs s) (block_sites f around (scope_after f around vs s) rest) _ w) both.0,
            quiet_block rest around (scope_after f around vs s) (within_right (sites f around vs s) (block_sites f around (scope_after f around vs s) rest) _ w) both.1,
          )

  module _ (around : List Around) (vs : Scope) where
    abbrev Kept : Expr → Truth
    Kept e = is_portable_call f vs e

    whole_one : (s : Stmt) (e : Expr) (es : List Expr) → own s ≡ e ∷ es → Within (sites f around vs s) ss → is_remote_whole f around s ≡ false → PlacedExpr Here Kept e
    whole_one s e es first w whole = placed_expr (stmt_site around vs s) [] e (first_among f ss around vs s e es first w) (whole, refl)

    script_placed : (s : Stmt) → Within (sites f around vs s) ss → StaysWhole f vs s → PlacedStmt Here Kept s
    script_placed (Val at name e) w whole = whole_one (Val at name e) e [] refl w refl
    script_placed (Var at name e) w whole = whole_one (Var at name e) e [] refl w refl
    script_placed (Assign at a b) w whole =
        let st = stmt_site around vs (Assign at a b) in
        let wb = within_left (expr_sites st [] b) [] _ (within_right (expr_sites st [] a) (all_sites st (b ∷ [])) _ (own_among f ss around vs (Assign at a b) w)) in
        (stands Kept around vs (Assign at a b) w tt, whole_one (Assign at a b) a (b ∷ []) refl w refl, placed_expr st [] b wb (refl, refl))
    script_placed (Run at e) w whole = whole_one (Run at e) e [] refl w refl
    script_placed (Print at e) w whole = (stands Kept around vs (Print at e) w tt, whole_one (Print at e) e [] refl w refl)
    script_placed (Throw at e) w whole = (stands Kept around vs (Throw at e) w tt, whole_one (Throw at e) e [] refl w refl)
    script_placed (If at c a b) w whole =
        let both = or_none (block_holds f a) (block_holds f b) whole in
        let frame = Branch at vs c a b ∷ around in
        let rest = within_tail _ _ _ w in (
          stands Kept around vs (If at c a b) w tt,
          whole_one (If at c a b) c [] refl w (no_right (is_script_place f around) (branches_hold f a b) whole),
          quiet_block Kept a frame vs (within_left (block_sites f frame vs a) (block_sites f frame vs b) _ rest) both.0,
          quiet_block Kept b frame vs (within_right (block_sites f frame vs a) (block_sites f frame vs b) _ rest) both.1,
        )
    script_placed (While at c a) w whole =
        let rest = within_tail _ _ _ w in (
          stands Kept around vs (While at c a) w tt,
          whole_one (While at c a) c [] refl w refl,
          quiet_block Kept a (WhileTurn at vs c ∷ around) vs rest (no_operations f ss admitted.none (WhileTurn at vs c ∷ around) vs a (inl (expr_at c, refl)) rest),
        )
    script_placed (For at name e a) w whole =
        let rest = within_tail _ _ _ w in
        let turn_scope = with_variable vs name (turn_role f around vs e a) at in (
          stands Kept around vs (For at name e a) w whole,
          whole_one (For at name e a) e [] refl w (or_none (over_rows f e) (may_carry f vs e a) whole).0,
          quiet_block Kept a (Turn at vs e a ∷ around) turn_scope rest (no_turns f ss admitted.none around turn_scope vs at e a whole rest),
        )
    script_placed (Try at a name b) w whole =
        let frame = InTry at vs a name b ∷ around in
        let caught = with_variable vs name Role.Plain at in
        let rest = within_tail _ _ _ w in
        let wa = within_left (block_sites f frame vs a) (block_sites f frame caught b) _ rest in
        let wb = within_right (block_sites f frame vs a) (block_sites f frame caught b) _ rest in
        (quiet_block Kept a frame vs wa (no_operations f ss admitted.none frame vs a (inr refl) wa), quiet_block Kept b frame caught wb (no_operations f ss admitted.none frame caught b (inr refl) wb))
    script_placed (Batch at interface root a) w whole = tt

pub admitted_are_placed : AdmittedArePlaced
admitted_are_placed p ss admitted marks around vs s w whole = script_placed p ss admitted marks around vs s w whole
