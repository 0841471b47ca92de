-- In an admitted batch remote expressions stand as they should.
use Rattle.std.proofs.Common.{◌≡◌, inl, refl, sym, ap, ◌∙◌, subst, ℕ, List, [], ◌∷◌, ◌++◌, Bool as Truth, true, false, not, ◌&&◌, ◌||◌, cond, Option, Some, Ok}
use Rattle.std.specs.Str.{bytes_eq}
use Rattle.std.specs.List.{Contains, flat_map}
use Rattle.rb_trees.specs.declared.code.BinOp.{BinOp}
use Rattle.rb_trees.specs.declared.refusals.Refusal.TheVariants as refusal
use Rattle.rb_trees.specs.mirror.Code.{Expr, Exprs, Lit, Name, This, Unary, Binary, Field, Call, Index, New, Items, Taken, NoExprs, MoreExprs, expr_at}
use Rattle.rb_trees.specs.mirror.Declarations.{Program}
use Rattle.rb_meaning_types.specs.Kinds as kind
use Rattle.rb_meaning_types.specs.Kinds.{Kind}
use Rattle.rb_meaning_types.specs.Violations.{Checked}
use Rattle.rb_meaning_types.specs.Declared.{Declarations, Context, of_program}
use Rattle.rb_meaning_types.specs.Scopes as typed
use Rattle.rb_meaning_types.specs.Notes.{type_at}
use Rattle.rb_meaning_flow.specs.declared.scopes.Role.{Role}
use Rattle.rb_meaning_flow.specs.Facts.{Facts, facts_of, is_object, is_remote}
use Rattle.rb_meaning_flow.specs.Scopes.{Scope, variable_named, with_variable, role_in, role_of, is_portable_role}
use Rattle.rb_meaning_flow.specs.Portable.{portable, holds_call, any_holds_call}
use Rattle.rb_meaning_flow.specs.Marks.{is_portable_call}
use Rattle.rb_meaning_flow.specs.Sites.{StmtSite, Over, site, under, right_under, expr_sites, exprs_sites, exprs_of}
use Rattle.rb_meaning_flow.specs.Refusals.{has_remote_type, is_and_or, frame_condition, may_be_remote, operand_condition, while_condition, StandsFirst}
use Rattle.rb_law_types.specs.Noted.{IsNotedExpr, AreNotedExprs}
use Rattle.rb_law_types.proofs.Known.{Known}
use Rattle.rb_law_types.proofs.TypeFacts.{kind_here, object_fact, rows_fact}
use Rattle.rb_law_types.proofs.SitesWithin.{Within, within_left, within_right, within_tail, site_first}
use Rattle.rb_law_local.specs.Shown.{is_far}
use Rattle.rb_law_local.specs.Parted.{IsNear, Parted, AllParted}
use Rattle.rb_law_local.specs.Admitted.{Carries, IsAdmittedBatch}
use Rattle.rb_law_local.proofs.Uncut.{or_none}
use Rattle.rb_law_local.proofs.Refused.{refuted, Bad, no_call}

-- a variable of an object of the service or of rows has a portable role
pub carries_role : (d : Declarations) (vs : Scope) (ws : typed.Scope) (name : List ℕ) (w : typed.Variable) → Carries d vs ws → typed.variable_named ws name ≡ Some w → is_far d w.kind ≡ true → is_portable_role (role_of vs name) ≡ true
carries_role d [] [] name w h e far = absurd (cc (e))
carries_role d [] (u ∷ ws) name w h e far = absurd h
carries_role d (v ∷ vs) [] name w h e far = absurd h
carries_role d (v ∷ vs) (u ∷ ws) name w h e far =
    subst (λ m. is_portable_role (role_in (cond (bytes_eq m name) (Some v) (variable_named vs name))) ≡ true) (sym h.0) (by (bytes_eq u.name name) e (λ e'. carries_role d vs ws name w h.2 e' far))
  where
    by : (t : Truth) → cond t (Some u) (typed.variable_named ws name) ≡ Some w → (typed.variable_named ws name ≡ Some w → is_portable_role (role_of vs name) ≡ true) → is_portable_role (role_in (cond t (Some v) (variable_named vs name))) ≡ true
    by true e' more = let same : w ≡ u = cc (e') in h.1 (subst (λ q. is_far d q.kind ≡ true) same far)
    by false e' more = more e'

pub carries_added : (d : Declarations) (vs : Scope) (ws : typed.Scope) (name : List ℕ) (role : Role) (at : ℕ) (k : Kind) (fixed : Truth) → Carries d vs ws → (is_far d k ≡ true → is_portable_role role ≡ true)
    → Carries d (with_variable vs name role at) (typed.with_variable ws name k fixed)
carries_added d [] [] name role at k fixed h f = (refl, f, tt)
carries_added d [] (w ∷ ws) name role at k fixed h f = absurd h
carries_added d (v ∷ vs) [] name role at k fixed h f = absurd h
carries_added d (v ∷ vs) (w ∷ ws) name role at k fixed h f = (h.0, h.1, carries_added d vs ws name role at k fixed h.2 f)

pub or_holds : (a b : Truth) → b ≡ true → (a || b) ≡ true
or_holds true b h = refl
or_holds false b h = h

-- a name alone
abbrev pub IfName : Facts → Scope → Context → typed.Scope → Expr → Type 0
IfName f vs x ws (Name at name) = IsNear f vs x ws (Name at name)
IfName f vs x ws _ = Unit {0}

pub if_name : (f : Facts) (vs : Scope) (x : Context) (ws : typed.Scope) (e : Expr) → IsNear f vs x ws e → IfName f vs x ws e
if_name f vs x ws (Name at name) h = h
if_name f vs x ws (Lit at v) h = tt
if_name f vs x ws _ h = tt

module _ (p : Program) (this : Option (List ℕ)) (remote : Truth) (known' : Known (of_program p)) (near_this : (class : List ℕ) → this ≡ Some class → is_far (of_program p) (kind.Named class) ≡ false) (ss : List StmtSite) (admitted : IsAdmittedBatch (facts_of p) ss) where
  abbrev d : Declarations
  d = of_program p

  abbrev x : Context
  x = record { declared = d; this = this; remote = remote }

  abbrev f : Facts
  f = facts_of p

  abbrev types : ℕ → Option (Checked Kind)
  types = type_at p

  -- what is far has a remote type
  pub far_type : (e : Expr) (k : Kind) → types (expr_at e) ≡ Some (Ok k) → has_remote_type f e ≡ is_far d k
  far_type e k noted = ap (λ t. t || f.rows (expr_at e)) (object_fact p (expr_at e) k noted) ∙ ap (λ t. is_object d k || t) (rows_fact p (expr_at e) k noted)

  -- nothing escapes
  pub near_site : (s : StmtSite) (above : List Over) (ws : typed.Scope) (e : Expr) → Contains (exprs_of ss) (site s above e) → may_be_remote f s above ≡ false → IsNotedExpr types x ws e → (vs : Scope) → IsNear f vs x ws e
  near_site s above ws e is quiet n vs k typed' = refuted (is_far d k) (λ far.
      admitted.none (refusal.Escapes (expr_at e)) (site s above e, is, refl, ap (λ t. has_remote_type f e && not t) quiet ∙ ap (λ t. t && true) (far_type e k (kind_here types x ws e k n typed') ∙ far)))

  -- a name alone that may not be remote there
  pub name_in : (s : StmtSite) (above : List Over) (ws : typed.Scope) (e : Expr) → Within (expr_sites s above e) (exprs_of ss) → may_be_remote f s above ≡ false → IsNotedExpr types x ws e → (vs : Scope) → IfName f vs x ws e
  name_in s above ws e w quiet n vs = if_name f vs x ws e (near_site s above ws e (w (site s above e) (site_first s above e)) quiet n vs)

  -- where no remote call stands in it, whatever the scope of the statement
  module _ (vs : Scope) (ws : typed.Scope) where
    mutual
      pub quiet_parted : (s : StmtSite) (above : List Over) (e : Expr) → Within (expr_sites s above e) (exprs_of ss) → IsNotedExpr types x ws e → holds_call f e ≡ false → IfName f vs x ws e → Parted f vs x ws e
      quiet_parted s above (Lit at v) w n h i = tt
      quiet_parted s above (Name at name) w n h i = i
      quiet_parted s above (This at) w n h i = tt
      quiet_parted s above (Unary at op a) w n h i =
          let o = under (Unary at op a) above in
          let t = within_tail _ _ _ w in
          λ whole. quiet_parted s o a t n.1 h (name_in s o ws a t refl n.1 vs)
      quiet_parted s above (Binary at op a b) w n h i =
          let t = within_tail _ _ _ w in
          let both = or_none (holds_call f a) (holds_call f b) h in
          let o = under (Binary at op a b) above in
          let q = right_under (Binary at op a b) above in
          let wa = within_left (expr_sites s o a) (expr_sites s q b) _ t in
          let wb = within_right (expr_sites s o a) (expr_sites s q b) _ t in
          λ whole. (quiet_parted s o a wa n.1 both.0 (name_in s o ws a wa refl n.1 vs), quiet_parted s q b wb n.2 both.1 (name_in s q ws b wb refl n.2 vs), λ is. both.1)
      quiet_parted s above (Field at a name) w n h i =
          let o = under (Field at a name) above in
          let t = within_tail _ _ _ w in
          quiet_parted s o a t n.1 h (name_in s o ws a t refl n.1 vs)
      quiet_parted s above (Call at a method args) w n h i =
          let t = within_tail _ _ _ w in
          let o = under (Call at a method args) above in
          let both = or_none (is_remote f a || holds_call f a) (any_holds_call f args) h in
          let two = or_none (is_remote f a) (holds_call f a) both.0 in
          let wa = within_left (expr_sites s o a) (exprs_sites s o args) _ t in
          λ whole. (two.0, quiet_parted s o a wa n.1 two.1 (name_in s o ws a wa two.0 n.1 vs), quiet_all s o args (within_right (expr_sites s o a) _ _ t) n.2 both.1 two.0)
      quiet_parted s above (Index at a b) w n h i =
          let t = within_tail _ _ _ w in
          let o = under (Index at a b) above in
          let both = or_none (holds_call f a) (holds_call f b) h in
          let wa = within_left (expr_sites s o a) (expr_sites s o b) _ t in
          let wb = within_right (expr_sites s o a) (expr_sites s o b) _ t in
          (quiet_parted s o a wa n.1 both.0 (name_in s o ws a wa refl n.1 vs), quiet_parted s o b wb n.2 both.1 (name_in s o ws b wb refl n.2 vs))
      quiet_parted s above (New at class args) w n h i = quiet_all s (under (New at class args) above) args (within_tail _ _ _ w) n.1 h refl
      quiet_parted s above (Items at item items) w n h i = quiet_all s (under (Items at item items) above) items (within_tail _ _ _ w) n.1 h refl
      quiet_parted s above (Taken at step) w n h i = tt

      quiet_all : (s : StmtSite) (above : List Over) (es : Exprs) → Within (exprs_sites s above es) (exprs_of ss) → AreNotedExprs types x ws es → any_holds_call f es ≡ false → may_be_remote f s above ≡ false → AllParted f vs x ws es
      quiet_all s above NoExprs w n h quiet = tt
      quiet_all s above (MoreExprs e es) w n h quiet =
          let both = or_none (holds_call f e) (any_holds_call f es) h in
          let we = within_left (expr_sites s above e) (exprs_sites s above es) _ w in
          (quiet_parted s above e we n.0 both.0 (name_in s above ws e we quiet n.0 vs), quiet_all s above es (within_right (expr_sites s above e) _ _ w) n.1 both.1 quiet)

  -- at a script place: remote calls are taken as parts of portable expressions

  call_whole : (s : StmtSite) (above : List Over) (at : ℕ) (a : Expr) (method : List ℕ) (args : Exprs) → Contains (exprs_of ss) (site s above (Call at a method args)) → is_remote f a ≡ true → is_portable_call f s.scope (Call at a method args) ≡ true
  call_whole s above at a method args is remote =
      ap (λ t. t && holds_call f (Call at a method args)) (admitted.calls (site s above (Call at a method args)) is remote)
      ∙ ap (λ t. (t || holds_call f a) || any_holds_call f args) remote

  not_both : (t : Truth) → t ≡ false → t ≡ true → ⊥
  not_both t e h = absurd (cc (e, h))

  -- above the right operand of `&&` or `||` a local condition stands, unless the whole is portable
  right_bad : (s : StmtSite) (above : List Over) (at : ℕ) (op : BinOp) (a b : Expr) → is_and_or op ≡ true → portable f s.scope (Binary at op a b) ≡ false → Bad f ss admitted.none s (right_under (Binary at op a b) above)
  right_bad s above at op a b is none_whole = inl (
    expr_at a,
    subst (λ t. StandsFirst (expr_at a) (((cond (t && not (portable f s.scope (Binary at op a b))) (expr_at a ∷ []) [] ++ flat_map (λ o. operand_condition f s.scope o.right o.expr) above) ++ while_condition s.stmt) ++ flat_map (frame_condition f) s.around)) (sym is)
        (subst (λ t. StandsFirst (expr_at a) (((cond (true && not t) (expr_at a ∷ []) [] ++ flat_map (λ o. operand_condition f s.scope o.right o.expr) above) ++ while_condition s.stmt) ++ flat_map (frame_condition f) s.around)) (sym none_whole) refl),
  )

  and_left : (a b : Truth) → (a && b) ≡ false → b ≡ true → a ≡ false
  and_left true b e h = absurd (cc (e, h))
  and_left false b e h = refl

  -- nothing is called in the right operand then
  right_quiet : (s : StmtSite) (above : List Over) (at : ℕ) (op : BinOp) (a b : Expr) → Within (expr_sites s (right_under (Binary at op a b) above) b) (exprs_of ss) → is_portable_call f s.scope (Binary at op a b) ≡ false → is_and_or op ≡ true → holds_call f b ≡ false
  right_quiet s above at op a b w whole is = refuted (holds_call f b) (λ call.
      not_both (holds_call f b) (no_call f ss admitted.none s (right_under (Binary at op a b) above) b (right_bad s above at op a b is (and_left (portable f s.scope (Binary at op a b)) (holds_call f a || holds_call f b) whole (or_holds (holds_call f a) (holds_call f b) call))) w) call)

  module _ (ws : typed.Scope) where
    mutual
      pub script_parted : (s : StmtSite) (above : List Over) (e : Expr) → Within (expr_sites s above e) (exprs_of ss) → IsNotedExpr types x ws e → IfName f s.scope x ws e → Parted f s.scope x ws e
      script_parted s above (Lit at v) w n i = tt
      script_parted s above (Name at name) w n i = i
      script_parted s above (This at) w n i = tt
      script_parted s above (Unary at op a) w n i =
          let o = under (Unary at op a) above in
          let t = within_tail _ _ _ w in
          λ whole. script_parted s o a t n.1 (name_in s o ws a t refl n.1 s.scope)
      script_parted s above (Binary at op a b) w n i =
          let t = within_tail _ _ _ w in
          let o = under (Binary at op a b) above in
          let q = right_under (Binary at op a b) above in
          let wa = within_left (expr_sites s o a) (expr_sites s q b) _ t in
          let wb = within_right (expr_sites s o a) (expr_sites s q b) _ t in
          λ whole. (script_parted s o a wa n.1 (name_in s o ws a wa refl n.1 s.scope), script_parted s q b wb n.2 (name_in s q ws b wb refl n.2 s.scope), λ is. right_quiet s above at op a b wb whole is)
      script_parted s above (Field at a name) w n i =
          let o = under (Field at a name) above in
          let t = within_tail _ _ _ w in
          script_parted s o a t n.1 (name_in s o ws a t refl n.1 s.scope)
      script_parted s above (Call at a method args) w n i =
          let t = within_tail _ _ _ w in
          let o = under (Call at a method args) above in
          let wa = within_left (expr_sites s o a) (exprs_sites s o args) _ t in
          λ whole.
          let own_call = refuted (is_remote f a) (λ remote'. not_both (is_portable_call f s.scope (Call at a method args)) whole (call_whole s above at a method args (w (site s above (Call at a method args)) (site_first s above (Call at a method args))) remote')) in
          (own_call, script_parted s o a wa n.1 (name_in s o ws a wa own_call n.1 s.scope), script_all s o args (within_right (expr_sites s o a) _ _ t) n.2 own_call)
      script_parted s above (Index at a b) w n i =
          let t = within_tail _ _ _ w in
          let o = under (Index at a b) above in
          let wa = within_left (expr_sites s o a) (expr_sites s o b) _ t in
          let wb = within_right (expr_sites s o a) (expr_sites s o b) _ t in
          (script_parted s o a wa n.1 (name_in s o ws a wa refl n.1 s.scope), script_parted s o b wb n.2 (name_in s o ws b wb refl n.2 s.scope))
      script_parted s above (New at class args) w n i = script_all s (under (New at class args) above) args (within_tail _ _ _ w) n.1 refl
      script_parted s above (Items at item items) w n i = script_all s (under (Items at item items) above) items (within_tail _ _ _ w) n.1 refl
      script_parted s above (Taken at step) w n i = tt

      script_all : (s : StmtSite) (above : List Over) (es : Exprs) → Within (exprs_sites s above es) (exprs_of ss) → AreNotedExprs types x ws es → may_be_remote f s above ≡ false → AllParted f s.scope x ws es
      script_all s above NoExprs w n quiet = tt
      script_all s above (MoreExprs e es) w n quiet =
          let we = within_left (expr_sites s above e) (exprs_sites s above es) _ w in
          (script_parted s above e we n.0 (name_in s above ws e we quiet n.0 s.scope), script_all s above es (within_right (expr_sites s above e) _ _ w) n.1 quiet)
