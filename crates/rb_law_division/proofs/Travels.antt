-- What a batch's script takes along is portable where it stands, and the lists of its carried loops are constant lists.
use Rattle.std.proofs.Common.{◌≡◌, refl, sym, ap, subst, ℕ, List, [], ◌∷◌, ◌++◌, Bool as Truth, true, false, ◌&&◌, cond, ◌∙◌}
use Rattle.std.specs.List.{AllByRecursion, Contains, flat_map}
use Rattle.std.proofs.lemmas.Bool.{and_parts}
use Rattle.rb_trees.specs.declared.refusals.Refusal.{Refusal}
use Rattle.rb_trees.specs.mirror.Code.{Expr, Exprs, Lit, Name, This, Unary, Binary, Field, Call, Index, New, Items, Taken, NoExprs, MoreExprs, Stmt, Stmts, Val, Var, Assign, Run, Print, Throw, If, While, For, Try, Batch, NoStmts, MoreStmts}
use Rattle.rb_meaning_flow.specs.declared.forms.PlacedForm.{PlacedForm}
use Rattle.rb_meaning_flow.specs.declared.scopes.Role.{Role}
use Rattle.rb_meaning_flow.specs.Facts.{Facts, over_rows}
use Rattle.rb_meaning_flow.specs.Scopes.{Scope, with_variable}
use Rattle.rb_meaning_flow.specs.Portable.{portable, holds_call, branches_hold, is_constant_list, has_far_turns}
use Rattle.rb_meaning_flow.specs.Marks.{is_portable_call}
use Rattle.rb_meaning_flow.specs.Forms.{placed_form}
use Rattle.rb_meaning_flow.specs.Sites.{Around, Branch, Turn, is_script_place, StmtSite, scope_after, stmt_site, sites, block_sites}
use Rattle.rb_meaning_flow.specs.Refusals.{IsRefusal}
use Rattle.rb_meaning.specs.RemoteExprs.{whole_or, remote_in, all_remote_in, remote_of}
use Rattle.rb_flow.specs.Laws.{SendsPortable}
use Rattle.rb_flow.proofs.Members.{first_contained}
use Rattle.rb_law_types.proofs.SitesWithin.{Within, within_left, within_right, within_tail, stmt_first}
use Rattle.rb_law_unsplit.proofs.Conditions.{condition_portable}
use Rattle.rb_law_unsplit.proofs.Placed.{if_holds, loop_over, loop_carried, rows_far, carried_far, far_row}
use Rattle.rb_law_unsplit.proofs.Walked.{script_scope}
use Rattle.rb_law_division.proofs.Lists.{all_both}

module _ (f : Facts) where
  abbrev pub ArePortable : Scope → List Expr → Type 0
  ArePortable vs es = AllByRecursion (λ e. portable f vs e ≡ true) es

  abbrev mutual
    -- what the steps of a statement send at a script place, by its form
    pub TravelsAs : PlacedForm → Scope → Stmt → Type 0
    TravelsAs PlacedForm.CarriedVal vs (Val at name e) = portable f vs e ≡ true
    TravelsAs PlacedForm.CallAlone vs (Run at e) = portable f vs e ≡ true
    TravelsAs PlacedForm.CarriedIf vs (If at c a b) = (portable f vs c ≡ true) × Travel vs a × Travel vs b
    TravelsAs PlacedForm.RowsLoop vs (For at name e a) = (portable f vs e ≡ true) × Travel (with_variable vs name Role.Row at) a
    TravelsAs PlacedForm.CarriedLoop vs (For at name e a) = (is_constant_list vs e ≡ true) × Travel (with_variable vs name Role.Row at) a
    TravelsAs form vs s = ArePortable vs (remote_of f vs s)

    pub Travel : Scope → Stmts → Type 0
    Travel vs NoStmts = Unit {0}
    Travel vs (MoreStmts s ss) = TravelsAs (placed_form f vs s) vs s × Travel (scope_after f [] vs s) ss

  -- ---- the remote expressions of a statement

  module _ (vs : Scope) where
    whole_one : (e : Expr) (parts : List Expr) → ArePortable vs parts → ArePortable vs (whole_or f vs e parts)
    whole_one e parts h = by (is_portable_call f vs e) refl
      where
        by : (t : Truth) → is_portable_call f vs e ≡ t → ArePortable vs (cond t (e ∷ []) parts)
        by true k = ((and_parts (portable f vs e) (holds_call f e) k).0, tt)
        by false k = h

    both : (es fs : List Expr) → ArePortable vs es → ArePortable vs fs → ArePortable vs (es ++ fs)
    both es fs h g = all_both (λ e. portable f vs e ≡ true) es fs h g

    mutual
      remote_portable : (e : Expr) → ArePortable vs (remote_in f vs e)
      remote_portable (Lit at value) = tt
      remote_portable (Name at name) = tt
      remote_portable (This at) = tt
      remote_portable (Unary at op a) = whole_one (Unary at op a) (remote_in f vs a) (remote_portable a)
      remote_portable (Binary at op a b) = whole_one (Binary at op a b) (remote_in f vs a ++ remote_in f vs b) (both (remote_in f vs a) (remote_in f vs b) (remote_portable a) (remote_portable b))
      remote_portable (Field at a name) = remote_portable a
      remote_portable (Call at a method args) =
          whole_one (Call at a method args) (remote_in f vs a ++ all_remote_in f vs args) (both (remote_in f vs a) (all_remote_in f vs args) (remote_portable a) (all_portable args))
      remote_portable (Index at a b) = both (remote_in f vs a) (remote_in f vs b) (remote_portable a) (remote_portable b)
      remote_portable (New at class args) = all_portable args
      remote_portable (Items at item items) = all_portable items
      remote_portable (Taken at step) = tt

      all_portable : (es : Exprs) → ArePortable vs (all_remote_in f vs es)
      all_portable NoExprs = tt
      all_portable (MoreExprs e es) = both (remote_in f vs e) (all_remote_in f vs es) (remote_portable e) (all_portable es)

    each_portable : (es : List Expr) → ArePortable vs (flat_map (remote_in f vs) es)
    each_portable [] = tt
    each_portable (e ∷ es) = both (remote_in f vs e) (flat_map (remote_in f vs) es) (remote_portable e) (each_portable es)

  -- ---- the statements of a batch

  both_hold : (t u : Truth) → t ≡ true → u ≡ true → (t && u) ≡ true
  both_hold t u h g = ap (λ b. b && u) h ∙ g

  module _ (ss : List StmtSite) (none : (r : Refusal) → IsRefusal f ss r → ⊥) (sends : SendsPortable f ss) where
    -- what a loop over rows goes over
    rows_portable : (around : List Around) (vs : Scope) (at : ℕ) (name : List ℕ) (e : Expr) (a : Stmts) → Within (sites f around vs (For at name e a)) ss → over_rows f e ≡ true → portable f vs e ≡ true
    rows_portable around vs at name e a w h =
        let s = stmt_site around vs (For at name e a) in
        sends.loops s (w s (stmt_first f around vs (For at name e a))) e (subst (λ t. Contains (cond t (e ∷ []) []) e) (sym h) (first_contained e []))

    if_travels : (form : PlacedForm) (vs : Scope) (at : ℕ) (c : Expr) (a b : Stmts) → placed_form f vs (If at c a b) ≡ form → (branches_hold f a b ≡ true → portable f vs c ≡ true) → (branches_hold f a b ≡ true → Travel vs a)
        → (branches_hold f a b ≡ true → Travel vs b) → TravelsAs form vs (If at c a b)
    if_travels PlacedForm.CarriedIf vs at c a b placing condition first second = let holding = if_holds f vs at c a b placing in (condition holding, first holding, second holding)
    if_travels form vs at c a b placing condition first second = each_portable vs (c ∷ [])

    for_travels : (form : PlacedForm) (vs : Scope) (at : ℕ) (name : List ℕ) (e : Expr) (a : Stmts) → placed_form f vs (For at name e a) ≡ form → (over_rows f e ≡ true → portable f vs e ≡ true)
        → (has_far_turns f vs e a ≡ true → Travel (with_variable vs name Role.Row at) a) → TravelsAs form vs (For at name e a)
    for_travels PlacedForm.RowsLoop vs at name e a placing rows block = let over = loop_over f vs at name e a placing in (rows over, block (rows_far f vs e a over))
    for_travels PlacedForm.CarriedLoop vs at name e a placing rows block = let carried = loop_carried f vs at name e a placing in (carried.list, block (carried_far f vs e a carried))
    for_travels form vs at name e a placing rows block = each_portable vs (e ∷ [])

    mutual
      stmt_travels : (around : List Around) → is_script_place f around ≡ true → (vs : Scope) (s : Stmt) → Within (sites f around vs s) ss → TravelsAs (placed_form f vs s) vs s
      stmt_travels around place vs (Val at name e) w = by (portable f vs e) refl
        where
          by : (t : Truth) → portable f vs e ≡ t → TravelsAs (cond t PlacedForm.CarriedVal PlacedForm.Plain) vs (Val at name e)
          by true h = h
          by false h = each_portable vs (e ∷ [])
      stmt_travels around place vs (Run at e) w = by (is_portable_call f vs e) refl
        where
          by : (t : Truth) → is_portable_call f vs e ≡ t → TravelsAs (cond t PlacedForm.CallAlone PlacedForm.Plain) vs (Run at e)
          by true h = (and_parts (portable f vs e) (holds_call f e) h).0
          by false h = each_portable vs (e ∷ [])
      stmt_travels around place vs (If at c a b) w =
          let frame = Branch at vs c a b ∷ around in
          let inside = within_tail _ _ _ w in
          if_travels (placed_form f vs (If at c a b)) vs at c a b refl (λ h. condition_portable f ss none around vs at c a b w h)
          (λ h. block_travels frame (both_hold (is_script_place f around) (branches_hold f a b) place h) vs a (within_left (block_sites f frame vs a) (block_sites f frame vs b) _ inside))
          (λ h. block_travels frame (both_hold (is_script_place f around) (branches_hold f a b) place h) vs b (within_right (block_sites f frame vs a) (block_sites f frame vs b) _ inside))
      stmt_travels around place vs (For at name e a) w =
          let frame = Turn at vs e a ∷ around in
          let inside = within_tail _ _ _ w in
          for_travels (placed_form f vs (For at name e a)) vs at name e a refl (λ h. rows_portable around vs at name e a w h)
          (λ h. block_travels frame (both_hold (is_script_place f around) (has_far_turns f vs e a) place h) (with_variable vs name Role.Row at) a
          (subst (λ r. Within (block_sites f frame (with_variable vs name r at) a) ss) (far_row f around vs e a place h) inside))
      stmt_travels around place vs (Var at name e) w = each_portable vs (e ∷ [])
      stmt_travels around place vs (Assign at a b) w = each_portable vs (a ∷ b ∷ [])
      stmt_travels around place vs (Print at e) w = each_portable vs (e ∷ [])
      stmt_travels around place vs (Throw at e) w = each_portable vs (e ∷ [])
      stmt_travels around place vs (While at c a) w = each_portable vs (c ∷ [])
      stmt_travels around place vs (Try at a name b) w = tt
      stmt_travels around place vs (Batch at interface root a) w = tt

      pub block_travels : (around : List Around) → is_script_place f around ≡ true → (vs : Scope) (block : Stmts) → Within (block_sites f around vs block) ss → Travel vs block
      block_travels around place vs NoStmts w = tt
      block_travels around place vs (MoreStmts s rest) w = (
        stmt_travels around place vs s (within_left (sites f around vs s) (block_sites f around (scope_after f around vs s) rest) _ w),
        block_travels around place (scope_after f [] vs s) rest
            (subst (λ i. Within (block_sites f around i rest) ss) (script_scope f around vs s place) (within_right (sites f around vs s) (block_sites f around (scope_after f around vs s) rest) _ w)),
      )
