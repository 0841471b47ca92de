-- The statements of an admitted batch that stay with the client as a whole.
use Rattle.std.proofs.Common.{◌≡◌, ◌⊎◌, inl, inr, refl, sym, ap, ◌∙◌, subst, ℕ, List, [], ◌∷◌, Bool as Truth, true, false, ◌&&◌, ◌||◌, cond, Option, Some, is_some, Ok}
use Rattle.rb_trees.specs.Outcome.{◌>>=◌, known}
use Rattle.rb_trees.specs.declared.refusals.Refusal.TheVariants as refusal
use Rattle.rb_trees.specs.mirror.Code.{Expr, Lit, Name, Call, expr_at, Stmt, Stmts, Val, Var, Assign, Run, Print, Throw, If, While, For, Try, Batch, NoStmts, MoreStmts}
use Rattle.rb_trees.specs.mirror.Declarations.{Program}
use Rattle.rb_meaning_types.specs.Kinds as kind
use Rattle.rb_meaning_types.specs.Kinds.{Kind}
use Rattle.rb_meaning_types.specs.Violations.{Checked, UnknownName}
use Rattle.rb_meaning_types.specs.Declared.{Declarations, Context, of_program}
use Rattle.rb_meaning_types.specs.Scopes as typed
use Rattle.rb_meaning_types.specs.Expressions.{type_of}
use Rattle.rb_meaning_types.specs.Statements.{placed, loop_scope, catch_scope, check_stmt, check_stmts}
use Rattle.rb_meaning_types.specs.Notes.{scope_or, type_at}
use Rattle.rb_meaning_flow.specs.declared.scopes.Role.{Role}
use Rattle.rb_meaning_flow.specs.Facts.{Facts, facts_of, is_object, is_rows, is_remote, over_rows}
use Rattle.rb_meaning_flow.specs.Scopes.{Scope, with_variable, is_portable_role}
use Rattle.rb_meaning_flow.specs.Portable.{portable, holds_call, holds_operation, block_holds, branches_hold, may_carry, has_far_turns}
use Rattle.rb_meaning_flow.specs.Sites.{Around, Branch, WhileTurn, Turn, InTry, StmtSite, is_script_place, site, expr_sites, all_sites, own, turn_role, val_role, scope_after, stmt_site, sites, block_sites, exprs_of}
use Rattle.rb_meaning_flow.specs.Refusals.{whole_may}
use Rattle.rb_law_types.specs.Noted.{IsNotedExpr, IsNotedStmt, AreNotedStmts}
use Rattle.rb_law_types.proofs.Checks.{bind_ok, known_ok}
use Rattle.rb_law_types.proofs.Known.{Known, typed_known}
use Rattle.rb_law_types.proofs.Parts.{val_parts, var_parts, assign_parts, run_parts, print_parts, throw_parts, if_parts, while_parts, for_parts, try_parts, batch_parts, stmts_parts}
use Rattle.rb_law_types.proofs.TypeFacts.{kind_here, object_fact, rows_fact}
use Rattle.rb_law_types.proofs.SitesWithin.{Within, within_left, within_right, within_tail, site_first, stmt_first, own_among, first_among}
use Rattle.rb_law_local.specs.Shown.{is_far}
use Rattle.rb_law_local.specs.Parted.{IsNear, Parted, HasNearItems, PartedStmt, PartedStmts}
use Rattle.rb_law_local.specs.Admitted.{IsKnownKind, AreKnownKinds, Carries, IsAdmittedBatch, StaysWhole, AdmittedAreParted}
use Rattle.rb_law_local.proofs.Uncut.{or_none}
use Rattle.rb_law_local.proofs.Refused.{refuted, no_call, no_operations, no_turns}
use Rattle.rb_law_local.proofs.Origins.{own_near, item_own, known_added, IsOrigin, origin, kind_known}
use Rattle.rb_law_local.proofs.Admitting.{carries_role, carries_added, IfName, if_name, far_type, near_site, quiet_parted, script_parted}

pub no_left : (a b : Truth) → a ≡ false → (a && b) ≡ false
no_left true b h = absurd (cc (h))
no_left false b h = refl

pub no_right : (a b : Truth) → b ≡ false → (a && b) ≡ false
no_right true b h = h
no_right false b h = refl

module _ (p : Program) (this : Option (List ℕ)) (remote : Truth) (known' : Known (of_program p)) (near_this : (class : List ℕ) → this ≡ Some class → is_far (of_program p) (kind.Named class) ≡ false) (ss : List StmtSite) (admitted : IsAdmittedBatch (facts_of p) ss) where
  abbrev d : Declarations
  d = of_program p

  abbrev x : Context
  x = record { declared = d; this = this; remote = remote }

  abbrev f : Facts
  f = facts_of p

  abbrev types : ℕ → Option (Checked Kind)
  types = type_at p

  -- an outermost expression that may not be remote
  near_own : (around : List Around) (vs : Scope) (ws : typed.Scope) (s : Stmt) (e : Expr) → Within (expr_sites (stmt_site around vs s) [] e) (exprs_of ss) → whole_may f around s ≡ false → IsNotedExpr types x ws e → (v : Scope) → IsNear f v x ws e
  near_own around vs ws s e w quiet n v =
      near_site p this remote known' near_this ss admitted (stmt_site around vs s) [] ws e (w (site (stmt_site around vs s) [] e) (site_first (stmt_site around vs s) [] e)) quiet n v

  -- an expression alone: a name, which is no call, may not be remote
  run_name : (around : List Around) (vs : Scope) (ws : typed.Scope) (at : ℕ) (e : Expr) → Within (expr_sites (stmt_site around vs (Run at e)) [] e) (exprs_of ss) → IsNotedExpr types x ws e → (v : Scope) → IfName f v x ws e
  run_name around vs ws at (Name here name) w n v = near_own around vs ws (Run at (Name here name)) (Name here name) w refl n v
  run_name around vs ws at (Lit here u) w n v = tt
  run_name around vs ws at _ w n v = tt

  -- a `var` isn't remote
  near_var : (around : List Around) (vs : Scope) (ws : typed.Scope) (at : ℕ) (name : List ℕ) (e : Expr) → Within (sites f around vs (Var at name e)) ss → IsNotedExpr types x ws e → (v : Scope) → IsNear f v x ws e
  near_var around vs ws at name e w n v k t = refuted (is_far d k) (λ far.
      let s = stmt_site around vs (Var at name e) in
      admitted.none (refusal.RemoteVar at) (s, w s (stmt_first f around vs (Var at name e)), refl, far_type p this remote known' near_this ss admitted e k (kind_here types x ws e k n t) ∙ far))

  second_among : (around : List Around) (vs : Scope) (at : ℕ) (a b : Expr) → Within (sites f around vs (Assign at a b)) ss → Within (expr_sites (stmt_site around vs (Assign at a b)) [] b) (exprs_of ss)
  second_among around vs at a b w =
      let s = stmt_site around vs (Assign at a b) in
      within_left (expr_sites s [] b) [] _ (within_right (expr_sites s [] a) (all_sites s (b ∷ [])) _ (own_among f ss around vs (Assign at a b) w))

  -- what a loop goes over that isn't rows
  list_only : (e : Expr) (list item : Kind) (ws : typed.Scope) → type_of x ws e ≡ Ok list → IsNotedExpr types x ws e → over_rows f e ≡ false → (list ≡ kind.ListOf item) ⊎ (list ≡ kind.RowsOf item) → list ≡ kind.ListOf item
  list_only e list item ws t n plain (inl is) = is
  list_only e list item ws t n plain (inr is) =
      let rows : over_rows f e ≡ is_rows list = rows_fact p (expr_at e) list (kind_here types x ws e list n t) in
      let there : is_rows list ≡ true = ap is_rows is in
      absurd (cc (plain, rows, there))

  near_items : (e : Expr) (ws : typed.Scope) → AreKnownKinds p.interfaces ws → (v : Scope) → HasNearItems f v x ws e
  near_items e ws kinds v item t = own_near d item (item_own p.interfaces item (kind_known x known' near_this ws kinds e (kind.ListOf item) t))

  item_known : (e : Expr) (list item : Kind) (ws : typed.Scope) → AreKnownKinds p.interfaces ws → type_of x ws e ≡ Ok list → list ≡ kind.ListOf item → IsKnownKind p.interfaces item
  item_known e list item ws kinds t is = inl (item_own p.interfaces item (kind_known x known' near_this ws kinds e (kind.ListOf item) (t ∙ ap Ok is)))

  -- statements in which no remote operation stands, at no script place
  module _ (v : Scope) where
    abbrev Quiet : (around : List Around) → (vs : Scope) → (ws : typed.Scope) → (s : Stmt) → (e : Expr) → Type 0
    Quiet around vs ws s e = Within (expr_sites (stmt_site around vs s) [] e) (exprs_of ss)

    quiet_one : (around : List Around) (vs : Scope) (ws : typed.Scope) (s : Stmt) (e : Expr) → Quiet around vs ws s e → IsNotedExpr types x ws e → holds_call f e ≡ false → IfName f v x ws e → Parted f v x ws e
    quiet_one around vs ws s e w n h i = quiet_parted p this remote known' near_this ss admitted v ws (stmt_site around vs s) [] e w n h i

    kinds_after : (s : Stmt) (ws after : typed.Scope) → check_stmt x ws s ≡ Ok after → AreKnownKinds p.interfaces ws → AreKnownKinds p.interfaces after
    kinds_after (Val at name e) ws after t kinds =
        let q = val_parts x ws at name e after t in
        subst (AreKnownKinds p.interfaces) q.same (known_added p.interfaces ws (record { name = name; kind = q.kind; fixed = true }) kinds (kind_known x known' near_this ws kinds e q.kind q.typed))
    kinds_after (Var at name e) ws after t kinds =
        let q = var_parts x ws at name e after t in
        subst (AreKnownKinds p.interfaces) q.same (known_added p.interfaces ws (record { name = name; kind = q.kind; fixed = false }) kinds (kind_known x known' near_this ws kinds e q.kind q.typed))
    kinds_after (Assign at a b) ws after t kinds = subst (AreKnownKinds p.interfaces) (assign_parts x ws at a b after t).same kinds
    kinds_after (Run at e) ws after t kinds = subst (AreKnownKinds p.interfaces) (run_parts x ws at e after t).same kinds
    kinds_after (Print at e) ws after t kinds = subst (AreKnownKinds p.interfaces) (print_parts x ws at e after t).same kinds
    kinds_after (Throw at e) ws after t kinds = subst (AreKnownKinds p.interfaces) (throw_parts x ws at e after t).same kinds
    kinds_after (If at c a b) ws after t kinds = subst (AreKnownKinds p.interfaces) (if_parts x ws at c a b after t).same kinds
    kinds_after (While at c a) ws after t kinds = subst (AreKnownKinds p.interfaces) (while_parts x ws at c a after t).same kinds
    kinds_after (For at name e a) ws after t kinds = subst (AreKnownKinds p.interfaces) (for_parts x ws at name e a after t).same kinds
    kinds_after (Try at a name b) ws after t kinds = subst (AreKnownKinds p.interfaces) (try_parts x ws at a name b after t).same kinds
    kinds_after (Batch at interface root a) ws after t kinds = subst (AreKnownKinds p.interfaces) (batch_parts x ws at interface root a after t).same kinds

    mutual
      quiet_stmt : (s : Stmt) (around : List Around) (vs : Scope) (ws after : typed.Scope) → is_script_place f around ≡ false → holds_operation f s ≡ false → check_stmt x ws s ≡ Ok after → IsNotedStmt types x ws s → Within (sites f around vs s) ss → AreKnownKinds p.interfaces ws
          → PartedStmt f v x ws s
      quiet_stmt (Val at name e) around vs ws after out h t n w kinds =
          let we = first_among f ss around vs (Val at name e) e [] refl w in
          let near = near_own around vs ws (Val at name e) e we out n v in
          (quiet_one around vs ws (Val at name e) e we n h (if_name f v x ws e near), near)
      quiet_stmt (Var at name e) around vs ws after out h t n w kinds =
          let we = first_among f ss around vs (Var at name e) e [] refl w in
          let near = near_var around vs ws at name e w n v in
          (quiet_one around vs ws (Var at name e) e we n h (if_name f v x ws e near), near)
      quiet_stmt (Assign at a b) around vs ws after out h t n w kinds =
          let both = or_none (holds_call f a) (holds_call f b) h in
          let wa = first_among f ss around vs (Assign at a b) a (b ∷ []) refl w in
          let wb = second_among around vs at a b w in (
            quiet_one around vs ws (Assign at a b) a wa n.0 both.0 (if_name f v x ws a (near_own around vs ws (Assign at a b) a wa refl n.0 v)),
            quiet_one around vs ws (Assign at a b) b wb n.1 both.1 (if_name f v x ws b (near_own around vs ws (Assign at a b) b wb refl n.1 v)),
          )
      quiet_stmt (Run at e) around vs ws after out h t n w kinds =
          let we = first_among f ss around vs (Run at e) e [] refl w in
          quiet_one around vs ws (Run at e) e we n h (run_name around vs ws at e we n v)
      quiet_stmt (Print at e) around vs ws after out h t n w kinds =
          let we = first_among f ss around vs (Print at e) e [] refl w in
          quiet_one around vs ws (Print at e) e we n h (if_name f v x ws e (near_own around vs ws (Print at e) e we refl n v))
      quiet_stmt (Throw at e) around vs ws after out h t n w kinds =
          let we = first_among f ss around vs (Throw at e) e [] refl w in
          quiet_one around vs ws (Throw at e) e we n h (if_name f v x ws e (near_own around vs ws (Throw at e) e we refl n v))
      quiet_stmt (If at c a b) around vs ws after out h t n w kinds =
          let q = if_parts x ws at c a b after t in
          let two = or_none (holds_call f c || block_holds f a) (block_holds f b) h in
          let one = or_none (holds_call f c) (block_holds f a) two.0 in
          let frame = Branch at vs c a b ∷ around in
          let rest = within_tail _ _ _ w in
          let wc = first_among f ss around vs (If at c a b) c [] refl w in
          let inside = no_left (is_script_place f around) (branches_hold f a b) out in (
            quiet_one around vs ws (If at c a b) c wc n.0 one.0 (if_name f v x ws c (near_own around vs ws (If at c a b) c wc refl n.0 v)),
            ap (λ r. r || block_holds f b) one.1 ∙ two.1,
            quiet_block a frame vs ws q.first inside one.1 q.first_typed n.1 (within_left (block_sites f frame vs a) (block_sites f frame vs b) _ rest) kinds,
            quiet_block b frame vs ws q.second inside two.1 q.second_typed n.2 (within_right (block_sites f frame vs a) (block_sites f frame vs b) _ rest) kinds,
          )
      quiet_stmt (While at c a) around vs ws after out h t n w kinds =
          let q = while_parts x ws at c a after t in
          let one = or_none (holds_call f c) (block_holds f a) h in
          let wc = first_among f ss around vs (While at c a) c [] refl w in (
            quiet_one around vs ws (While at c a) c wc n.0 one.0 (if_name f v x ws c (near_own around vs ws (While at c a) c wc refl n.0 v)),
            one.0,
            one.1,
            quiet_block a (WhileTurn at vs c ∷ around) vs ws q.last refl one.1 q.block_typed n.1 (within_tail _ _ _ w) kinds,
          )
      quiet_stmt (For at name e a) around vs ws after out h t n w kinds =
          let q = for_parts x ws at name e a after t in
          let two = or_none (over_rows f e || holds_call f e) (block_holds f a) h in
          let one = or_none (over_rows f e) (holds_call f e) two.0 in
          let inner = typed.with_variable ws name q.item true in
          let same : scope_or ws (placed x ws e >>= λ r. loop_scope ws at name r) ≡ inner = ap (scope_or ws) q.judged in
          let we = first_among f ss around vs (For at name e a) e [] refl w in
          let is_list = list_only e q.list q.item ws q.typed n.0 one.0 q.over in
          let inner_kinds = known_added p.interfaces ws (record { name = name; kind = q.item; fixed = true }) kinds (item_known e q.list q.item ws kinds q.typed is_list) in (
            quiet_one around vs ws (For at name e a) e we n.0 one.1 (if_name f v x ws e (near_own around vs ws (For at name e a) e we one.0 n.0 v)),
            one.0,
            near_items e ws kinds v,
            two.1,
            subst (λ i. PartedStmts f v x i a) (sym same)
                (quiet_block a (Turn at vs e a ∷ around) (with_variable vs name (turn_role f around vs e a) at) inner q.last (no_left (is_script_place f around) (has_far_turns f vs e a) out) two.1 q.block_typed
                (subst (λ i. AreNotedStmts types x i a) same n.1) (within_tail _ _ _ w) inner_kinds),
          )
      quiet_stmt (Try at a name b) around vs ws after out h t n w kinds =
          let q = try_parts x ws at a name b after t in
          let both = or_none (block_holds f a) (block_holds f b) h in
          let inner = typed.with_variable ws name kind.Text true in
          let same : scope_or ws (catch_scope ws at name) ≡ inner = ap (scope_or ws) q.judged in
          let frame = InTry at vs a name b ∷ around in
          let caught = with_variable vs name Role.Plain at in
          let rest = within_tail _ _ _ w in (
            both.0,
            both.1,
            quiet_block a frame vs ws q.first refl both.0 q.first_typed n.0 (within_left (block_sites f frame vs a) (block_sites f frame caught b) _ rest) kinds,
            subst (λ i. PartedStmts f v x i b) (sym same)
                (quiet_block b frame caught inner q.second refl both.1 q.second_typed (subst (λ i. AreNotedStmts types x i b) same n.1)
                (within_right (block_sites f frame vs a) (block_sites f frame caught b) _ rest) (known_added p.interfaces ws (record { name = name; kind = kind.Text; fixed = true }) kinds (inl tt))),
          )
      quiet_stmt (Batch at interface root a) around vs ws after out h t n w kinds =
          let s = stmt_site around vs (Batch at interface root a) in
          admitted.none (refusal.BatchInside at) (inl (s, w s (stmt_first f around vs (Batch at interface root a)), refl, refl))

      quiet_block : (block : Stmts) (around : List Around) (vs : Scope) (ws after : typed.Scope) → is_script_place f around ≡ false → block_holds f block ≡ false → check_stmts x ws block ≡ Ok after → AreNotedStmts types x ws block → Within (block_sites f around vs block) ss
          → AreKnownKinds p.interfaces ws → PartedStmts f v x ws block
      quiet_block NoStmts around vs ws after out h t n w kinds = tt
      quiet_block (MoreStmts s rest) around vs ws after out h t n w kinds =
          let q = stmts_parts x ws s rest after t in
          let both = or_none (holds_operation f s) (block_holds f rest) h in
          let same : scope_or ws (check_stmt x ws s) ≡ q.middle = ap (scope_or ws) q.typed in (
            quiet_stmt s around vs ws q.middle out both.0 q.typed n.0 (within_left (sites f around vs s) (block_sites f around (scope_after f around vs s) rest) _ w) kinds,
            subst (λ i. PartedStmts f v x i rest) (sym same)
                (quiet_block rest around (scope_after f around vs s) q.middle after out both.1 q.rest (subst (λ i. AreNotedStmts types x i rest) same n.1)
                (within_right (sites f around vs s) (block_sites f around (scope_after f around vs s) rest) _ w) (kinds_after s ws q.middle q.typed kinds)),
          )

  -- statements at a script place

  not_false : (t : Truth) → t ≡ false → t ≡ true → ⊥
  not_false t e h = absurd (cc (e, h))

  -- what is far is portable where it stands
  origin_portable : (around : List Around) (vs : Scope) (ws : typed.Scope) (s : Stmt) (e : Expr) (k : Kind) (kinds : AreKnownKinds p.interfaces ws) → Carries d vs ws → Within (expr_sites (stmt_site around vs s) [] e) (exprs_of ss) → IsNotedExpr types x ws e
      → type_of x ws e ≡ Ok k → is_far d k ≡ true → IsOrigin x known' near_this ws kinds e → portable f vs e ≡ true
  origin_portable around vs ws s (Name at name) k kinds carries w n t far o =
      let b = bind_ok (known (UnknownName at) (typed.variable_named ws name)) _ k t in
      let same : (b.0).kind ≡ k = cc (b.2) in
      carries_role d vs ws name b.0 carries (known_ok (UnknownName at) (typed.variable_named ws name) b.0 b.1) (ap (is_far d) same ∙ far)
  origin_portable around vs ws s (Call at a method args) k kinds carries w n t far o =
      let st = stmt_site around vs s in
      let is_call' : is_remote f a ≡ true = object_fact p (expr_at a) o.0 (kind_here types x ws a o.0 n.1 o.1) ∙ ap (is_object d) o.2.receiver ∙ ap is_some o.2.found in
      admitted.calls (site st [] (Call at a method args)) (w (site st [] (Call at a method args)) (site_first st [] (Call at a method args))) is_call'
  origin_portable around vs ws s (Lit at u) k kinds carries w n t far o = absurd o
  origin_portable around vs ws s _ k kinds carries w n t far o = absurd o

  far_portable : (around : List Around) (vs : Scope) (ws : typed.Scope) (s : Stmt) (e : Expr) (k : Kind) → AreKnownKinds p.interfaces ws → Carries d vs ws → Within (expr_sites (stmt_site around vs s) [] e) (exprs_of ss) → IsNotedExpr types x ws e
      → type_of x ws e ≡ Ok k → is_far d k ≡ true → portable f vs e ≡ true
  far_portable around vs ws s e k kinds carries w n t far = elim (origin x known' near_this ws kinds e k t) [
    | inl own ↦ absurd (not_false (is_far d k) (own_near d k own) far)
    | inr o ↦ origin_portable around vs ws s e k kinds carries w n t far o.1
  ]

  scripted : (around : List Around) (vs : Scope) (ws : typed.Scope) (s : Stmt) (e : Expr) → Within (expr_sites (stmt_site around vs s) [] e) (exprs_of ss) → IsNotedExpr types x ws e → IfName f vs x ws e → Parted f vs x ws e
  scripted around vs ws s e w n i = script_parted p this remote known' near_this ss admitted ws (stmt_site around vs s) [] e w n i

  script_stmt : (s : Stmt) (around : List Around) (vs : Scope) (ws after : typed.Scope) → check_stmt x ws s ≡ Ok after → IsNotedStmt types x ws s → Within (sites f around vs s) ss → AreKnownKinds p.interfaces ws → Carries d vs ws → StaysWhole f vs s
      → PartedStmt f vs x ws s
  script_stmt (Val at name e) around vs ws after t n w kinds carries whole =
      let we = first_among f ss around vs (Val at name e) e [] refl w in
      let near : IsNear f vs x ws e = λ k typed'. refuted (is_far d k) (λ far. not_false (portable f vs e) whole (far_portable around vs ws (Val at name e) e k kinds carries we n typed' far)) in
      (scripted around vs ws (Val at name e) e we n (if_name f vs x ws e near), near)
  script_stmt (Var at name e) around vs ws after t n w kinds carries whole =
      let we = first_among f ss around vs (Var at name e) e [] refl w in
      let near = near_var around vs ws at name e w n vs in
      (scripted around vs ws (Var at name e) e we n (if_name f vs x ws e near), near)
  script_stmt (Assign at a b) around vs ws after t n w kinds carries whole =
      let wa = first_among f ss around vs (Assign at a b) a (b ∷ []) refl w in
      let wb = second_among around vs at a b w in (
        scripted around vs ws (Assign at a b) a wa n.0 (if_name f vs x ws a (near_own around vs ws (Assign at a b) a wa refl n.0 vs)),
        scripted around vs ws (Assign at a b) b wb n.1 (if_name f vs x ws b (near_own around vs ws (Assign at a b) b wb refl n.1 vs)),
      )
  script_stmt (Run at e) around vs ws after t n w kinds carries whole =
      let we = first_among f ss around vs (Run at e) e [] refl w in
      scripted around vs ws (Run at e) e we n (run_name around vs ws at e we n vs)
  script_stmt (Print at e) around vs ws after t n w kinds carries whole =
      let we = first_among f ss around vs (Print at e) e [] refl w in
      scripted around vs ws (Print at e) e we n (if_name f vs x ws e (near_own around vs ws (Print at e) e we refl n vs))
  script_stmt (Throw at e) around vs ws after t n w kinds carries whole =
      let we = first_among f ss around vs (Throw at e) e [] refl w in
      scripted around vs ws (Throw at e) e we n (if_name f vs x ws e (near_own around vs ws (Throw at e) e we refl n vs))
  script_stmt (If at c a b) around vs ws after t n w kinds carries whole =
      let q = if_parts x ws at c a b after t in
      let both = or_none (block_holds f a) (block_holds f b) whole in
      let frame = Branch at vs c a b ∷ around in
      let rest = within_tail _ _ _ w in
      let wc = first_among f ss around vs (If at c a b) c [] refl w in
      let inside = no_right (is_script_place f around) (branches_hold f a b) whole in (
        scripted around vs ws (If at c a b) c wc n.0 (if_name f vs x ws c (near_own around vs ws (If at c a b) c wc refl n.0 vs)),
        whole,
        quiet_block vs a frame vs ws q.first inside both.0 q.first_typed n.1 (within_left (block_sites f frame vs a) (block_sites f frame vs b) _ rest) kinds,
        quiet_block vs b frame vs ws q.second inside both.1 q.second_typed n.2 (within_right (block_sites f frame vs a) (block_sites f frame vs b) _ rest) kinds,
      )
  script_stmt (While at c a) around vs ws after t n w kinds carries whole =
      let q = while_parts x ws at c a after t in
      let wc = first_among f ss around vs (While at c a) c [] refl w in
      let rest = within_tail _ _ _ w in
      let quiet = no_operations f ss admitted.none (WhileTurn at vs c ∷ around) vs a (inl (expr_at c, refl)) rest in (
        scripted around vs ws (While at c a) c wc n.0 (if_name f vs x ws c (near_own around vs ws (While at c a) c wc refl n.0 vs)),
        no_call f ss admitted.none (stmt_site around vs (While at c a)) [] c (inl (expr_at c, refl)) wc,
        quiet,
        quiet_block vs a (WhileTurn at vs c ∷ around) vs ws q.last refl quiet q.block_typed n.1 rest kinds,
      )
  script_stmt (For at name e a) around vs ws after t n w kinds carries whole =
      let q = for_parts x ws at name e a after t in
      let inner = typed.with_variable ws name q.item true in
      let same : scope_or ws (placed x ws e >>= λ r. loop_scope ws at name r) ≡ inner = ap (scope_or ws) q.judged in
      let we = first_among f ss around vs (For at name e a) e [] refl w in
      let no_rows = (or_none (over_rows f e) (may_carry f vs e a) whole).0 in
      let is_list = list_only e q.list q.item ws q.typed n.0 no_rows q.over in
      let inner_kinds = known_added p.interfaces ws (record { name = name; kind = q.item; fixed = true }) kinds (item_known e q.list q.item ws kinds q.typed is_list) in
      let rest = within_tail _ _ _ w in
      let turn_scope = with_variable vs name (turn_role f around vs e a) at in
      let quiet = no_turns f ss admitted.none around turn_scope vs at e a whole rest in (
        scripted around vs ws (For at name e a) e we n.0 (if_name f vs x ws e (near_own around vs ws (For at name e a) e we no_rows n.0 vs)),
        no_rows,
        near_items e ws kinds vs,
        quiet,
        subst (λ i. PartedStmts f vs x i a) (sym same)
            (quiet_block vs a (Turn at vs e a ∷ around) turn_scope inner q.last (no_right (is_script_place f around) (has_far_turns f vs e a) whole) quiet q.block_typed (subst (λ i. AreNotedStmts types x i a) same n.1) rest inner_kinds),
      )
  script_stmt (Try at a name b) around vs ws after t n w kinds carries whole =
      let q = try_parts x ws at a name b after t in
      let inner = typed.with_variable ws name kind.Text true in
      let same : scope_or ws (catch_scope ws at name) ≡ inner = ap (scope_or ws) q.judged in
      let frame = InTry at vs a name b ∷ around in
      let caught = with_variable vs name Role.Plain at in
      let rest = within_tail _ _ _ w in
      let wa = within_left (block_sites f frame vs a) (block_sites f frame caught b) _ rest in
      let wb = within_right (block_sites f frame vs a) (block_sites f frame caught b) _ rest in
      let first = no_operations f ss admitted.none frame vs a (inr refl) wa in
      let second = no_operations f ss admitted.none frame caught b (inr refl) wb in (
        first,
        second,
        quiet_block vs a frame vs ws q.first refl first q.first_typed n.0 wa kinds,
        subst (λ i. PartedStmts f vs x i b) (sym same)
            (quiet_block vs b frame caught inner q.second refl second q.second_typed (subst (λ i. AreNotedStmts types x i b) same n.1) wb
            (known_added p.interfaces ws (record { name = name; kind = kind.Text; fixed = true }) kinds (inl tt))),
      )
  script_stmt (Batch at interface root a) around vs ws after t n w kinds carries whole =
      let s = stmt_site around vs (Batch at interface root a) in
      admitted.none (refusal.BatchInside at) (inl (s, w s (stmt_first f around vs (Batch at interface root a)), refl, refl))

  -- the scopes after a statement at a script place
  carries_after : (s : Stmt) (around : List Around) (vs : Scope) (ws after : typed.Scope) → is_script_place f around ≡ true → check_stmt x ws s ≡ Ok after → IsNotedStmt types x ws s → Within (sites f around vs s) ss → AreKnownKinds p.interfaces ws → Carries d vs ws
      → Carries d (scope_after f around vs s) after
  carries_after (Val at name e) around vs ws after script t n w kinds carries =
      let q = val_parts x ws at name e after t in
      let we = first_among f ss around vs (Val at name e) e [] refl w in
      subst (Carries d (with_variable vs name (val_role f around vs e) at)) q.same
      (carries_added d vs ws name (val_role f around vs e) at q.kind true carries (λ far.
      subst (λ r. is_portable_role (cond (r && portable f vs e) Role.Carried Role.Plain) ≡ true) (sym script)
      (subst (λ r. is_portable_role (cond (true && r) Role.Carried Role.Plain) ≡ true) (sym (far_portable around vs ws (Val at name e) e q.kind kinds carries we n q.typed far)) refl)))
  carries_after (Var at name e) around vs ws after script t n w kinds carries =
      let q = var_parts x ws at name e after t in
      subst (Carries d (with_variable vs name Role.Plain at)) q.same
      (carries_added d vs ws name Role.Plain at q.kind false carries (λ far. absurd (not_false (is_far d q.kind) (near_var around vs ws at name e w n vs q.kind q.typed) far)))
  carries_after (Assign at a b) around vs ws after script t n w kinds carries = subst (Carries d vs) (assign_parts x ws at a b after t).same carries
  carries_after (Run at e) around vs ws after script t n w kinds carries = subst (Carries d vs) (run_parts x ws at e after t).same carries
  carries_after (Print at e) around vs ws after script t n w kinds carries = subst (Carries d vs) (print_parts x ws at e after t).same carries
  carries_after (Throw at e) around vs ws after script t n w kinds carries = subst (Carries d vs) (throw_parts x ws at e after t).same carries
  carries_after (If at c a b) around vs ws after script t n w kinds carries = subst (Carries d vs) (if_parts x ws at c a b after t).same carries
  carries_after (While at c a) around vs ws after script t n w kinds carries = subst (Carries d vs) (while_parts x ws at c a after t).same carries
  carries_after (For at name e a) around vs ws after script t n w kinds carries = subst (Carries d vs) (for_parts x ws at name e a after t).same carries
  carries_after (Try at a name b) around vs ws after script t n w kinds carries = subst (Carries d vs) (try_parts x ws at a name b after t).same carries
  carries_after (Batch at interface root a) around vs ws after script t n w kinds carries = subst (Carries d vs) (batch_parts x ws at interface root a after t).same carries

pub admitted_are_parted : AdmittedAreParted
admitted_are_parted p declared ss admitted place near around vs s after at = record {
  parted = λ whole. script_stmt p place.this place.remote (typed_known (of_program p) declared) near ss admitted s around vs place.scope after at.typed at.noted at.within at.kinds at.carries whole;
  kinds = kinds_after p place.this place.remote (typed_known (of_program p) declared) near ss admitted vs s place.scope after at.typed at.kinds;
  carries = carries_after p place.this place.remote (typed_known (of_program p) declared) near ss admitted s around vs place.scope after at.script at.typed at.noted at.within at.kinds at.carries;
}
