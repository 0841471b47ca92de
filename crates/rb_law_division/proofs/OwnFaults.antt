-- What is left of a statement, without its remote expressions, faults at positions that aren't marked Remote.
use Rattle.std.proofs.Common.{◌≡◌, refl, sym, ap, ◌∙◌, subst, ℕ, List, [], ◌∷◌, ◌++◌, Bool, true, false, cond, ◌&&◌, ◌||◌, Option, Some, None}
use Rattle.std.specs.List.{AllByRecursion, Contains, list_any}
use Rattle.std.proofs.lemmas.List.Elements.{Contains-append_left, Contains-append_right}
use Rattle.rb_trees.specs.declared.marks.Mark.{Mark}
use Rattle.rb_trees.specs.declared.outcomes.Raised.{Raised}
use Rattle.rb_trees.specs.declared.forests.NodeFault.{NodeFault}
use Rattle.rb_trees.specs.mirror.Forests as forest
use Rattle.rb_trees.specs.mirror.Forests.{Node, Holds, NoEntries, MoreEntries}
use Rattle.rb_trees.specs.mirror.Code.{Expr, Exprs, Lit, Name, This, Unary, Binary, Field, Call, Index, New, Items, Taken, NoExprs, MoreExprs, expr_at, Stmt, Stmts, Val, Var, Assign, Run, Print, Throw, If, While, For, Try, Batch, NoStmts, MoreStmts}
use Rattle.rb_trees.specs.mirror.Declarations.{Method, Class, Program}
use Rattle.rb_meaning_types.specs.Lawful.{IsLawful, expr_positions, exprs_positions, return_positions}
use Rattle.rb_meaning_code.specs.Faults.{kind}
use Rattle.rb_meaning_code.specs.Dialogue as ask
use Rattle.rb_meaning_code.specs.Dialogue.{Question, handle}
use Rattle.rb_meaning_code.specs.Statements.{performs}
use Rattle.rb_meaning_code.specs.Bodies.{bodies_of}
use Rattle.rb_meaning_flow.specs.declared.scopes.Role.{Role}
use Rattle.rb_meaning_flow.specs.Facts.{Facts, facts_of, over_rows}
use Rattle.rb_meaning_flow.specs.Scopes.{Scope, with_variable, opened}
use Rattle.rb_meaning_flow.specs.Portable.{portable, branches_hold, is_constant, may_carry, has_far_turns}
use Rattle.rb_meaning_flow.specs.Marks.{is_portable_call, is_remote_whole, is_remote_at}
use Rattle.rb_meaning_flow.specs.Sites.{Around, Branch, WhileTurn, Turn, InTry, InBatch, is_script_place, StmtSite, Over, ExprSite, site, under, right_under, expr_sites, exprs_sites, own, all_sites, turn_role, scope_after, stmt_site, sites, block_sites, exprs_of}
use Rattle.rb_meaning_flow.specs.Outermost.{batch_sites, program_batches}
use Rattle.rb_meaning_flow.specs.Programs.{sites_of, is_carried_loop}
use Rattle.rb_meaning_flow.specs.Forms.{is_carried_form}
use Rattle.rb_meaning_flow.specs.declared.forms.PlacedForm.{PlacedForm}
use Rattle.rb_meaning.specs.RemoteExprs.{remote_in}
use Rattle.rb_meaning.specs.Unsplit.{is_remote_mark, stands_remote}
use Rattle.rb_meaning_split.specs.Cuts.{counted, cut, cut_all, cut_stmt}
use Rattle.rb_meaning_split.specs.Replay.{Seen, fault_at, missed, taken, with_taken, answers_replayed, in_replay}
use Rattle.rb_marks.specs.Laws.{InBatches, EachHasItsMark, NoMarkElsewhere, RemoteInScript}
use Rattle.rb_flow.specs.Program.{HasNoRefusal}
use Rattle.rb_flow.proofs.Members.{first_contained, more_contained}
use Rattle.rb_flow.proofs.Among.{mapped_to}
use Rattle.rb_law_types.proofs.SitesWithin.{exprs_among}
use Rattle.rb_law_division.specs.Faults.{StandsElsewhere, OwnFaultsStandElsewhere}
use Rattle.rb_law_division.proofs.Lists.{each, all_both, all_left, all_right}
use Rattle.rb_law_division.proofs.Marked.{Inside}
use Rattle.rb_law_division.proofs.Parted.{stmt_ats, stmts_ats, free_at, free_in, free_body, free_methods, free_classes}
use Rattle.rb_law_division.proofs.Unmarked.{Unmarked, free_unmarked, block_unmarked}
use Rattle.rb_law_division.proofs.Falls.{IsFine, FineExpr, FineExprs, FineStmt, FineStmts, FineReturn, FineBody, FineClasses, FineQuestion, FineAnswer, FineHandler, handled_fine, code_fine}

head_in : {A : Type 0} (x : A) (xs ys : List A) → Inside (x ∷ xs) ys → Contains ys x
head_in x xs ys h = h x (first_contained x xs)

tail_in : {A : Type 0} (x : A) (xs ys : List A) → Inside (x ∷ xs) ys → Inside xs ys
tail_in x xs ys h z c = h z (more_contained x xs z c)

left_in : {A : Type 0} (xs xs' ys : List A) → Inside (xs ++ xs') ys → Inside xs ys
left_in xs xs' ys h z c = h z (Contains-append_left xs xs' z c)

right_in : {A : Type 0} (xs xs' ys : List A) → Inside (xs ++ xs') ys → Inside xs' ys
right_in xs xs' ys h z c = h z (Contains-append_right xs xs' z c)

and_false : (a b : Bool) → a ≡ false → (a && b) ≡ false
and_false a b h = ap (λ t. t && b) h

false_and : (a b : Bool) → b ≡ false → (a && b) ≡ false
false_and true b h = h
false_and false b h = refl

-- a loop over no rows that isn't carried has no turns of the script
not_far : (place rows may : Bool) → rows ≡ false → (place && is_carried_form (cond rows PlacedForm.RowsLoop (cond may PlacedForm.CarriedLoop PlacedForm.Plain))) ≡ false → (place && (rows || may)) ≡ false
not_far place true may h g = absurd (cc h)
not_far false false may h g = refl
not_far true false true h g = absurd (cc g)
not_far true false false h g = refl

neither : (a b : Bool) → a ≡ false → b ≡ false → (a || b) ≡ false
neither a b h g = ap (λ t. t || b) h ∙ g

no_call : (t : Bool) → (t && false) ≡ false
no_call true = refl
no_call false = refl

module _ (p : Program) where
  abbrev Elsewhere : Raised → Type 0
  Elsewhere = StandsElsewhere p

  abbrev f : Facts
  f = facts_of p

  fine : (at : ℕ) → stands_remote p at ≡ false → IsFine Elsewhere at
  fine at h fault side front = h

  unmarked_left : (xs ys : List ℕ) → Unmarked p (xs ++ ys) → Unmarked p xs
  unmarked_left xs ys h = all_left (λ q. stands_remote p q ≡ false) xs ys h

  unmarked_right : (xs ys : List ℕ) → Unmarked p (xs ++ ys) → Unmarked p ys
  unmarked_right xs ys h = all_right (λ q. stands_remote p q ≡ false) xs ys h

  -- ---- code outside of batches

  mutual
    free_expr : (e : Expr) → Unmarked p (expr_positions e) → FineExpr Elsewhere e
    free_expr (Lit at value) h = tt
    free_expr (Name at name) h = fine at h.0
    free_expr (This at) h = fine at h.0
    free_expr (Unary at op a) h = (fine at h.0, free_expr a h.1)
    free_expr (Binary at op a b) h = (fine at h.0, free_expr a (unmarked_left (expr_positions a) (expr_positions b) h.1), free_expr b (unmarked_right (expr_positions a) (expr_positions b) h.1))
    free_expr (Field at a name) h = (fine at h.0, free_expr a h.1)
    free_expr (Call at a method args) h = (fine at h.0, free_expr a (unmarked_left (expr_positions a) (exprs_positions args) h.1), free_exprs args (unmarked_right (expr_positions a) (exprs_positions args) h.1))
    free_expr (Index at a b) h = (fine at h.0, free_expr a (unmarked_left (expr_positions a) (expr_positions b) h.1), free_expr b (unmarked_right (expr_positions a) (expr_positions b) h.1))
    free_expr (New at class args) h = (fine at h.0, free_exprs args h.1)
    free_expr (Items at item items) h = (fine at h.0, free_exprs items h.1)
    free_expr (Taken at step) h = tt

    free_exprs : (es : Exprs) → Unmarked p (exprs_positions es) → FineExprs Elsewhere es
    free_exprs NoExprs h = tt
    free_exprs (MoreExprs e es) h = (free_expr e (unmarked_left (expr_positions e) (exprs_positions es) h), free_exprs es (unmarked_right (expr_positions e) (exprs_positions es) h))

  mutual
    free_stmt : (s : Stmt) → Unmarked p (free_at s) → FineStmt Elsewhere s
    free_stmt (Val at name e) h = (fine at h.0, free_expr e h.1)
    free_stmt (Var at name e) h = (fine at h.0, free_expr e h.1)
    free_stmt (Assign at a b) h = (fine at h.0, free_expr a (unmarked_left (expr_positions a) (expr_positions b) h.1), free_expr b (unmarked_right (expr_positions a) (expr_positions b) h.1))
    free_stmt (Run at e) h = (fine at h.0, free_expr e h.1)
    free_stmt (Print at e) h = (fine at h.0, free_expr e h.1)
    free_stmt (Throw at e) h = (fine at h.0, free_expr e h.1)
    free_stmt (If at c a b) h =
        let front = unmarked_left (expr_positions c ++ free_in a) (free_in b) h.1 in
        (fine at h.0, free_expr c (unmarked_left (expr_positions c) (free_in a) front), free_stmts a (unmarked_right (expr_positions c) (free_in a) front), free_stmts b (unmarked_right (expr_positions c ++ free_in a) (free_in b) h.1))
    free_stmt (While at c a) h = (fine at h.0, free_expr c (unmarked_left (expr_positions c) (free_in a) h.1), free_stmts a (unmarked_right (expr_positions c) (free_in a) h.1))
    free_stmt (For at name e a) h = (fine at h.0, free_expr e (unmarked_left (expr_positions e) (free_in a) h.1), free_stmts a (unmarked_right (expr_positions e) (free_in a) h.1))
    free_stmt (Try at a name b) h = (fine at h.0, free_stmts a (unmarked_left (free_in a) (free_in b) h.1), free_stmts b (unmarked_right (free_in a) (free_in b) h.1))
    free_stmt (Batch at interface root a) h = fine at h.0

    free_stmts : (ss : Stmts) → Unmarked p (free_in ss) → FineStmts Elsewhere ss
    free_stmts NoStmts h = tt
    free_stmts (MoreStmts s ss) h = (free_stmt s (unmarked_left (free_at s) (free_in ss) h), free_stmts ss (unmarked_right (free_at s) (free_in ss) h))

  free_return : (o : Option Expr) → Unmarked p (return_positions o) → FineReturn Elsewhere o
  free_return None h = tt
  free_return (Some e) h = free_expr e h

  methods_fine : (ms : List Method) → Unmarked p (free_methods ms) → AllByRecursion (λ m. FineBody Elsewhere m.body) ms
  methods_fine [] h = tt
  methods_fine (m ∷ ms) h =
      let body = unmarked_left (free_body m.body) (free_methods ms) h in (
        (free_stmts m.body.statements (unmarked_left (free_in m.body.statements) (return_positions m.body.result) body), free_return m.body.result (unmarked_right (free_in m.body.statements) (return_positions m.body.result) body)),
        methods_fine ms (unmarked_right (free_body m.body) (free_methods ms) h),
      )

  classes_fine : (cs : List Class) → Unmarked p (free_classes cs) → FineClasses Elsewhere cs
  classes_fine [] h = tt
  classes_fine (c ∷ cs) h = (methods_fine c.methods (unmarked_left (free_methods c.methods) (free_classes cs) h), classes_fine cs (unmarked_right (free_methods c.methods) (free_classes cs) h))

  -- ---- the code of a batch

  module _ (marks : EachHasItsMark) (in_script : RemoteInScript) (lawful : IsLawful p) (none : HasNoRefusal p) (batch : List StmtSite) (is_batch : Contains (sites_of p) batch) where
    abbrev Among : List ExprSite → Type 0
    Among xs = Inside xs (exprs_of batch)

    here : (st : StmtSite) (above : List Over) (e : Expr) → Contains (exprs_of batch) (site st above e) → InBatches p (site st above e)
    here st above e is = record { batch = batch; is_batch = is_batch; stands = is }

    -- what isn't Remote at its site
    local_here : (st : StmtSite) (above : List Over) (e : Expr) → Contains (exprs_of batch) (site st above e) → is_remote_at f (site st above e) ≡ false → IsFine Elsewhere (expr_at e)
    local_here st above e is h = fine (expr_at e)
        (ap is_remote_mark (marks p lawful (site st above e) (here st above e is))
        ∙ ap (λ (t : Bool). is_remote_mark (Some (cond t Mark.Remote (cond (is_constant st.scope e) Mark.Constant Mark.Local)))) h ∙ by (is_constant st.scope e))
      where
        by : (t : Bool) → is_remote_mark (Some (cond t Mark.Constant Mark.Local)) ≡ false
        by true = refl
        by false = refl

    -- nothing is Remote that doesn't stand at a script place
    never_remote : (st : StmtSite) (above : List Over) (e : Expr) → Contains (exprs_of batch) (site st above e) → is_script_place f st.around ≡ false → is_remote_at f (site st above e) ≡ false
    never_remote st above e is h = by (is_remote_at f (site st above e)) refl
      where
        by : (t : Bool) → is_remote_at f (site st above e) ≡ t → t ≡ false
        by true k =
            absurd (cc (sym h ∙ in_script p none (site st above e) (here st above e is) (ap (λ (t : Bool). cond t Mark.Remote (cond (is_constant st.scope e) Mark.Constant Mark.Local)) k)))
        by false k = refl

    module _ (st : StmtSite) (place : is_script_place f st.around ≡ false) where
      at_site : (above : List Over) (e : Expr) → Contains (exprs_of batch) (site st above e) → IsFine Elsewhere (expr_at e)
      at_site above e is = local_here st above e is (never_remote st above e is place)

      mutual
        nested_expr : (above : List Over) (e : Expr) → Among (expr_sites st above e) → FineExpr Elsewhere e
        nested_expr above (Lit at value) w = tt
        nested_expr above (Name at name) w = at_site above (Name at name) (head_in _ [] _ w)
        nested_expr above (This at) w = at_site above (This at) (head_in _ [] _ w)
        nested_expr above (Unary at op a) w = (at_site above (Unary at op a) (head_in _ _ _ w), nested_expr (under (Unary at op a) above) a (tail_in _ _ _ w))
        nested_expr above (Binary at op a b) w =
            let rest = tail_in _ _ _ w in (
              at_site above (Binary at op a b) (head_in _ _ _ w),
              nested_expr (under (Binary at op a b) above) a (left_in _ (expr_sites st (right_under (Binary at op a b) above) b) _ rest),
              nested_expr (right_under (Binary at op a b) above) b (right_in (expr_sites st (under (Binary at op a b) above) a) _ _ rest),
            )
        nested_expr above (Field at a name) w = (at_site above (Field at a name) (head_in _ _ _ w), nested_expr (under (Field at a name) above) a (tail_in _ _ _ w))
        nested_expr above (Call at a method args) w =
            let rest = tail_in _ _ _ w in
            let o = under (Call at a method args) above in
            (at_site above (Call at a method args) (head_in _ _ _ w), nested_expr o a (left_in _ (exprs_sites st o args) _ rest), nested_exprs o args (right_in (expr_sites st o a) _ _ rest))
        nested_expr above (Index at a b) w =
            let rest = tail_in _ _ _ w in
            let o = under (Index at a b) above in
            (at_site above (Index at a b) (head_in _ _ _ w), nested_expr o a (left_in _ (expr_sites st o b) _ rest), nested_expr o b (right_in (expr_sites st o a) _ _ rest))
        nested_expr above (New at class args) w = (at_site above (New at class args) (head_in _ _ _ w), nested_exprs (under (New at class args) above) args (tail_in _ _ _ w))
        nested_expr above (Items at item items) w = (at_site above (Items at item items) (head_in _ _ _ w), nested_exprs (under (Items at item items) above) items (tail_in _ _ _ w))
        nested_expr above (Taken at step) w = tt

        nested_exprs : (above : List Over) (es : Exprs) → Among (exprs_sites st above es) → FineExprs Elsewhere es
        nested_exprs above NoExprs w = tt
        nested_exprs above (MoreExprs e es) w = (nested_expr above e (left_in _ (exprs_sites st above es) _ w), nested_exprs above es (right_in (expr_sites st above e) _ _ w))

    -- the own expression of a statement
    only_in : (st : StmtSite) (e : Expr) (es : List Expr) → own st.stmt ≡ e ∷ es → Contains batch st → Among (expr_sites st [] e)
    only_in st e es same is = left_in (expr_sites st [] e) (all_sites st es) _ (subst (λ xs. Among (all_sites st xs)) same (exprs_among batch st is))

    second_in : (st : StmtSite) (a b : Expr) → own st.stmt ≡ a ∷ b ∷ [] → Contains batch st → Among (expr_sites st [] b)
    second_in st a b same is = left_in (expr_sites st [] b) [] _ (right_in (expr_sites st [] a) (all_sites st (b ∷ [])) _ (subst (λ xs. Among (all_sites st xs)) same (exprs_among batch st is)))

    mutual
      nested_stmt : (around : List Around) (vs : Scope) (s : Stmt) → is_script_place f around ≡ false → Inside (sites f around vs s) batch → Unmarked p (stmt_ats s) → FineStmt Elsewhere s
      nested_stmt around vs (Val at name e) k w u = (fine at u.0, nested_expr (stmt_site around vs (Val at name e)) k [] e (only_in _ e [] refl (head_in _ [] _ w)))
      nested_stmt around vs (Var at name e) k w u = (fine at u.0, nested_expr (stmt_site around vs (Var at name e)) k [] e (only_in _ e [] refl (head_in _ [] _ w)))
      nested_stmt around vs (Assign at a b) k w u =
          let st = stmt_site around vs (Assign at a b) in
          (fine at u.0, nested_expr st k [] a (only_in st a (b ∷ []) refl (head_in _ [] _ w)), nested_expr st k [] b (second_in st a b refl (head_in _ [] _ w)))
      nested_stmt around vs (Run at e) k w u = (fine at u.0, nested_expr (stmt_site around vs (Run at e)) k [] e (only_in _ e [] refl (head_in _ [] _ w)))
      nested_stmt around vs (Print at e) k w u = (fine at u.0, nested_expr (stmt_site around vs (Print at e)) k [] e (only_in _ e [] refl (head_in _ [] _ w)))
      nested_stmt around vs (Throw at e) k w u = (fine at u.0, nested_expr (stmt_site around vs (Throw at e)) k [] e (only_in _ e [] refl (head_in _ [] _ w)))
      nested_stmt around vs (If at c a b) k w u =
          let frame = Branch at vs c a b ∷ around in
          let rest = tail_in _ _ _ w in
          let inner = and_false (is_script_place f around) (branches_hold f a b) k in (
            fine at u.0,
            nested_expr (stmt_site around vs (If at c a b)) k [] c (only_in _ c [] refl (head_in _ _ _ w)),
            nested_block frame vs a inner (left_in _ (block_sites f frame vs b) _ rest) (unmarked_left (stmts_ats a) (stmts_ats b) u.1),
            nested_block frame vs b inner (right_in (block_sites f frame vs a) _ _ rest) (unmarked_right (stmts_ats a) (stmts_ats b) u.1),
          )
      nested_stmt around vs (While at c a) k w u =
          (fine at u.0, nested_expr (stmt_site around vs (While at c a)) k [] c (only_in _ c [] refl (head_in _ _ _ w)), nested_block (WhileTurn at vs c ∷ around) vs a refl (tail_in _ _ _ w) u.1)
      nested_stmt around vs (For at name e a) k w u = (
        fine at u.0,
        nested_expr (stmt_site around vs (For at name e a)) k [] e (only_in _ e [] refl (head_in _ _ _ w)),
        nested_block (Turn at vs e a ∷ around) (with_variable vs name (turn_role f around vs e a) at) a (and_false (is_script_place f around) (has_far_turns f vs e a) k) (tail_in _ _ _ w) u.1,
      )
      nested_stmt around vs (Try at a name b) k w u =
          let frame = InTry at vs a name b ∷ around in
          let caught = with_variable vs name Role.Plain at in
          let rest = tail_in _ _ _ w in
          (fine at u.0, nested_block frame vs a refl (left_in _ (block_sites f frame caught b) _ rest) (unmarked_left (stmts_ats a) (stmts_ats b) u.1), nested_block frame caught b refl (right_in (block_sites f frame vs a) _ _ rest) (unmarked_right (stmts_ats a) (stmts_ats b) u.1))
      nested_stmt around vs (Batch at interface root a) k w u = fine at u.0

      nested_block : (around : List Around) (vs : Scope) (ss : Stmts) → is_script_place f around ≡ false → Inside (block_sites f around vs ss) batch → Unmarked p (stmts_ats ss) → FineStmts Elsewhere ss
      nested_block around vs NoStmts k w u = tt
      nested_block around vs (MoreStmts s ss) k w u = (
        nested_stmt around vs s k (left_in _ (block_sites f around (scope_after f around vs s) ss) _ w) (unmarked_left (stmt_ats s) (stmts_ats ss) u),
        nested_block around (scope_after f around vs s) ss k (right_in (sites f around vs s) _ _ w) (unmarked_right (stmt_ats s) (stmts_ats ss) u),
      )

    -- ---- expressions without their remote ones

    module _ (st : StmtSite) (whole : is_remote_whole f st.around st.stmt ≡ false) where
      abbrev scope_here : Scope
      scope_here = st.scope

      abbrev NoneAbove : List Over → Type 0
      NoneAbove above = list_any (λ o. is_portable_call f st.scope o.expr) above ≡ false

      left_here : (above : List Over) (e : Expr) → NoneAbove above → Contains (exprs_of batch) (site st above e) → is_portable_call f scope_here e ≡ false → IsFine Elsewhere (expr_at e)
      left_here above e a is h =
          local_here st above e is (neither (is_remote_whole f st.around st.stmt) (is_portable_call f scope_here e || list_any (λ o. is_portable_call f st.scope o.expr) above) whole (neither (is_portable_call f scope_here e) (list_any (λ o. is_portable_call f st.scope o.expr) above) h a))

      -- what is taken, or what is left
      taken_or_left : (e parts : Expr) (n : ℕ) → (is_portable_call f scope_here e ≡ false → FineExpr Elsewhere parts) → FineExpr Elsewhere (cond (is_portable_call f scope_here e) (Taken (expr_at e) n) parts)
      taken_or_left e parts n h = by (is_portable_call f scope_here e) refl
        where
          by : (t : Bool) → is_portable_call f scope_here e ≡ t → FineExpr Elsewhere (cond t (Taken (expr_at e) n) parts)
          by true k = tt
          by false k = h k

      none_above : (above : List Over) (e : Expr) → is_portable_call f scope_here e ≡ false → NoneAbove above → (list_any (λ o. is_portable_call f st.scope o.expr) (under e above)) ≡ false
      none_above above e h a = neither (is_portable_call f scope_here e) (list_any (λ o. is_portable_call f st.scope o.expr) above) h a

      mutual
        cut_fine : (above : List Over) (e : Expr) (n : ℕ) → NoneAbove above → Among (expr_sites st above e) → FineExpr Elsewhere (cut f scope_here n e)
        cut_fine above (Lit at value) n a w = tt
        cut_fine above (Name at name) n a w = left_here above (Name at name) a (head_in _ [] _ w) (no_call (portable f scope_here (Name at name)))
        cut_fine above (This at) n a w = left_here above (This at) a (head_in _ [] _ w) refl
        cut_fine above (Unary at op e) n a w =
            taken_or_left (Unary at op e) (Unary at op (cut f scope_here n e)) n (λ h. (left_here above (Unary at op e) a (head_in _ _ _ w) h, cut_fine (under (Unary at op e) above) e n (none_above above (Unary at op e) h a) (tail_in _ _ _ w)))
        cut_fine above (Binary at op e g) n a w =
            let rest = tail_in _ _ _ w in
            taken_or_left (Binary at op e g) (Binary at op (cut f scope_here n e) (cut f scope_here (counted (remote_in f scope_here e) n) g)) n (λ h. (
              left_here above (Binary at op e g) a (head_in _ _ _ w) h,
              cut_fine (under (Binary at op e g) above) e n (none_above above (Binary at op e g) h a) (left_in _ (expr_sites st (right_under (Binary at op e g) above) g) _ rest),
              cut_fine (right_under (Binary at op e g) above) g (counted (remote_in f scope_here e) n) (none_above above (Binary at op e g) h a) (right_in (expr_sites st (under (Binary at op e g) above) e) _ _ rest),
            ))
        cut_fine above (Field at e name) n a w =
            (left_here above (Field at e name) a (head_in _ _ _ w) refl, cut_fine (under (Field at e name) above) e n (none_above above (Field at e name) refl a) (tail_in _ _ _ w))
        cut_fine above (Call at e method args) n a w =
            let rest = tail_in _ _ _ w in
            let o = under (Call at e method args) above in
            taken_or_left (Call at e method args) (Call at (cut f scope_here n e) method (cut_all f scope_here (counted (remote_in f scope_here e) n) args)) n (λ h. (
              left_here above (Call at e method args) a (head_in _ _ _ w) h,
              cut_fine o e n (none_above above (Call at e method args) h a) (left_in _ (exprs_sites st o args) _ rest),
              cuts_fine o args (counted (remote_in f scope_here e) n) (none_above above (Call at e method args) h a) (right_in (expr_sites st o e) _ _ rest),
            ))
        cut_fine above (Index at e g) n a w =
            let rest = tail_in _ _ _ w in
            let o = under (Index at e g) above in (
              left_here above (Index at e g) a (head_in _ _ _ w) refl,
              cut_fine o e n (none_above above (Index at e g) refl a) (left_in _ (expr_sites st o g) _ rest),
              cut_fine o g (counted (remote_in f scope_here e) n) (none_above above (Index at e g) refl a) (right_in (expr_sites st o e) _ _ rest),
            )
        cut_fine above (New at class args) n a w =
            (left_here above (New at class args) a (head_in _ _ _ w) refl, cuts_fine (under (New at class args) above) args n (none_above above (New at class args) refl a) (tail_in _ _ _ w))
        cut_fine above (Items at item items) n a w =
            (left_here above (Items at item items) a (head_in _ _ _ w) refl, cuts_fine (under (Items at item items) above) items n (none_above above (Items at item items) refl a) (tail_in _ _ _ w))
        cut_fine above (Taken at step) n a w = tt

        cuts_fine : (above : List Over) (es : Exprs) (n : ℕ) → NoneAbove above → Among (exprs_sites st above es) → FineExprs Elsewhere (cut_all f scope_here n es)
        cuts_fine above NoExprs n a w = tt
        cuts_fine above (MoreExprs e es) n a w =
            (cut_fine above e n a (left_in _ (exprs_sites st above es) _ w), cuts_fine above es (counted (remote_in f scope_here e) n) a (right_in (expr_sites st above e) _ _ w))

    -- ---- statements without their remote expressions

    -- a statement that isn't divided
    abbrev LeftFine : StmtSite → Type 0
    LeftFine t = is_remote_whole f t.around t.stmt ≡ false → is_carried_loop f t ≡ false → (n : ℕ) → FineStmt Elsewhere (cut_stmt f t.scope n t.stmt)

    mutual
      left_fine : (around : List Around) (vs : Scope) (s : Stmt) → Inside (sites f around vs s) batch → Unmarked p (stmt_ats s) → AllByRecursion LeftFine (sites f around vs s)
      left_fine around vs (Val at name e) w u = ((λ h d n. (fine at u.0, cut_fine (stmt_site around vs (Val at name e)) h [] e n refl (only_in _ e [] refl (head_in _ [] _ w)))), tt)
      left_fine around vs (Var at name e) w u = ((λ h d n. (fine at u.0, cut_fine (stmt_site around vs (Var at name e)) h [] e n refl (only_in _ e [] refl (head_in _ [] _ w)))), tt)
      left_fine around vs (Assign at a b) w u =
          let st = stmt_site around vs (Assign at a b) in
          ((λ h d n. (fine at u.0, cut_fine st h [] a n refl (only_in st a (b ∷ []) refl (head_in _ [] _ w)), cut_fine st h [] b (counted (remote_in f vs a) n) refl (second_in st a b refl (head_in _ [] _ w)))), tt)
      left_fine around vs (Run at e) w u = ((λ h d n. (fine at u.0, cut_fine (stmt_site around vs (Run at e)) h [] e n refl (only_in _ e [] refl (head_in _ [] _ w)))), tt)
      left_fine around vs (Print at e) w u = ((λ h d n. (fine at u.0, cut_fine (stmt_site around vs (Print at e)) h [] e n refl (only_in _ e [] refl (head_in _ [] _ w)))), tt)
      left_fine around vs (Throw at e) w u = ((λ h d n. (fine at u.0, cut_fine (stmt_site around vs (Throw at e)) h [] e n refl (only_in _ e [] refl (head_in _ [] _ w)))), tt)
      left_fine around vs (If at c a b) w u =
          let frame = Branch at vs c a b ∷ around in
          let rest = tail_in _ _ _ w in
          let first = left_in _ (block_sites f frame vs b) _ rest in
          let second = right_in (block_sites f frame vs a) _ _ rest in
          let above = unmarked_left (stmts_ats a) (stmts_ats b) u.1 in
          let below = unmarked_right (stmts_ats a) (stmts_ats b) u.1 in (
            (λ h d n. (fine at u.0, cut_fine (stmt_site around vs (If at c a b)) h [] c n refl (only_in _ c [] refl (head_in _ _ _ w)), nested_block frame vs a h first above, nested_block frame vs b h second below)),
            all_both LeftFine (block_sites f frame vs a) (block_sites f frame vs b) (lefts_fine frame vs a first above) (lefts_fine frame vs b second below),
          )
      left_fine around vs (While at c a) w u =
          let rest = tail_in _ _ _ w in (
            (λ h d n. (fine at u.0, cut_fine (stmt_site around vs (While at c a)) h [] c n refl (only_in _ c [] refl (head_in _ _ _ w)), nested_block (WhileTurn at vs c ∷ around) vs a refl rest u.1)),
            lefts_fine (WhileTurn at vs c ∷ around) vs a rest u.1,
          )
      left_fine around vs (For at name e a) w u =
          let inner = with_variable vs name (turn_role f around vs e a) at in
          let rest = tail_in _ _ _ w in (
            (λ h d n. (
              fine at u.0,
              cut_fine (stmt_site around vs (For at name e a)) h [] e n refl (only_in _ e [] refl (head_in _ _ _ w)),
              nested_block (Turn at vs e a ∷ around) inner a (not_far (is_script_place f around) (over_rows f e) (may_carry f vs e a) h d) rest u.1,
            )),
            lefts_fine (Turn at vs e a ∷ around) inner a rest u.1,
          )
      left_fine around vs (Try at a name b) w u =
          let frame = InTry at vs a name b ∷ around in
          let caught = with_variable vs name Role.Plain at in
          let rest = tail_in _ _ _ w in
          let first = left_in _ (block_sites f frame caught b) _ rest in
          let second = right_in (block_sites f frame vs a) _ _ rest in
          let above = unmarked_left (stmts_ats a) (stmts_ats b) u.1 in
          let below = unmarked_right (stmts_ats a) (stmts_ats b) u.1 in (
            (λ h d n. (fine at u.0, nested_block frame vs a refl first above, nested_block frame caught b refl second below)),
            all_both LeftFine (block_sites f frame vs a) (block_sites f frame caught b) (lefts_fine frame vs a first above) (lefts_fine frame caught b second below),
          )
      left_fine around vs (Batch at interface root a) w u = ((λ h d n. fine at u.0), lefts_fine (InBatch at ∷ around) (with_variable vs root Role.Plain at) a (tail_in _ _ _ w) u.1)

      lefts_fine : (around : List Around) (vs : Scope) (ss : Stmts) → Inside (block_sites f around vs ss) batch → Unmarked p (stmts_ats ss) → AllByRecursion LeftFine (block_sites f around vs ss)
      lefts_fine around vs NoStmts w u = tt
      lefts_fine around vs (MoreStmts s ss) w u =
          all_both LeftFine (sites f around vs s) (block_sites f around (scope_after f around vs s) ss)
          (left_fine around vs s (left_in _ (block_sites f around (scope_after f around vs s) ss) _ w) (unmarked_left (stmt_ats s) (stmts_ats ss) u))
          (lefts_fine around (scope_after f around vs s) ss (right_in (sites f around vs s) _ _ w) (unmarked_right (stmt_ats s) (stmts_ats ss) u))

  -- ---- replay

  front : IsFine Elsewhere 0
  front fault side at_front = absurd (at_front refl)

  missed_fine : (o : Option NodeFault) → Elsewhere (missed o)
  missed_fine (Some x) = λ side at_front. absurd (cc side)
  missed_fine None = front kind

  taken_fine : (s : Seen) (step : ℕ) (n : Node) → FineAnswer Elsewhere (with_taken s (taken step n)).0
  taken_fine s step (Holds (MoreEntries (forest.Value v) es) x) = tt
  taken_fine s step (Holds NoEntries x) = missed_fine (fault_at step (Holds NoEntries x))
  taken_fine s step (Holds (MoreEntries (forest.Branch holds n) es) x) = missed_fine (fault_at step (Holds (MoreEntries (forest.Branch holds n) es) x))
  taken_fine s step (Holds (MoreEntries (forest.Rows ns) es) x) = missed_fine (fault_at step (Holds (MoreEntries (forest.Rows ns) es) x))

  replay_answers : (s : Seen) (q : Question) → FineQuestion Elsewhere q → FineAnswer Elsewhere (answers_replayed s q).0
  replay_answers s (ask.Line at bytes) h = tt
  replay_answers s (ask.Taken step) h = taken_fine s step s.node
  replay_answers s (ask.Invoke at target method args) h = h kind
  replay_answers s (ask.Turn at) h = h kind
  replay_answers s (ask.ListTurn at) h = tt

  replay_fine : FineHandler Elsewhere in_replay
  replay_fine = record { answers = replay_answers; batches = λ s at l h. h kind }

pub own_elsewhere : EachHasItsMark → NoMarkElsewhere → RemoteInScript → OwnFaultsStandElsewhere
own_elsewhere marks elsewhere in_script p lawful none b among t stands whole uncarried n gas l seen =
    let f = facts_of p in
    let free = free_unmarked elsewhere p lawful in
    let batch = batch_sites f b in
    let is_batch = mapped_to (batch_sites f) (program_batches f p) b among in
    let block = block_unmarked p free b among in
    let lefts = lefts_fine p marks in_script lawful none batch is_batch [] (opened b.outer b.at b.root b.block) b.block (λ z c. c) block in
    let stmt = each (LeftFine p marks in_script lawful none batch is_batch) batch t lefts stands whole uncarried n in
    let classes = classes_fine p p.classes (all_left (λ q. stands_remote p q ≡ false) (free_classes p.classes) (free_body p.body) free) in
    handled_fine (StandsElsewhere p) in_replay (replay_fine p) (performs (bodies_of p.classes gas) gas (cut_stmt f t.scope n t.stmt) l) seen
    (code_fine (StandsElsewhere p) p.classes classes gas (cut_stmt f t.scope n t.stmt) stmt l)
