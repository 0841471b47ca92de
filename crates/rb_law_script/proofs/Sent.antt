-- The remote expressions of an admitted batch, typed where they stand: those that a script keeps are primitive.
use Rattle.std.proofs.Common.{◌≡◌, refl, sym, ap, ◌∙◌, subst, ℕ, List, [], ◌∷◌, ◌++◌, Bool as Truth, true, false, not, ◌&&◌, ◌||◌, cond, Option, Some, None, is_some, Ok}
use Rattle.std.specs.Str.{bytes_eq}
use Rattle.std.specs.List.{AllByRecursion, Contains}
use Rattle.std.proofs.lemmas.Bool.{and_parts}
use Rattle.rb_trees.specs.Outcome.{◌>>◌, known, must}
use Rattle.rb_trees.specs.declared.code.UnOp.{UnOp}
use Rattle.rb_trees.specs.declared.code.UnOp.TheVariants as un
use Rattle.rb_trees.specs.declared.code.BinOp.{BinOp}
use Rattle.rb_trees.specs.declared.code.BinOp.TheVariants as bin
use Rattle.rb_trees.specs.declared.values.Value.{Value}
use Rattle.rb_trees.specs.declared.values.Value.TheOpen.{Value-F}
use Rattle.rb_trees.specs.declared.values.Value.TheViews.{out-Value}
use Rattle.rb_trees.specs.declared.refusals.Refusal.{Refusal}
use Rattle.rb_trees.specs.declared.refusals.Refusal.TheVariants as refusal
use Rattle.rb_trees.specs.mirror.Code.{Expr, Exprs, Lit, Name, This, Unary, Binary, Field, Call, Index, New, Items, Taken, NoExprs, MoreExprs, expr_at}
use Rattle.rb_trees.specs.mirror.Declarations.{Program, Interface}
use Rattle.rb_meaning_types.specs.Kinds as kind
use Rattle.rb_meaning_types.specs.Kinds.{Kind, is_primitive}
use Rattle.rb_meaning_types.specs.Names.{interface_named}
use Rattle.rb_meaning_types.specs.Violations.{Checked, Placed, UnknownName, wanted, wrong_type}
use Rattle.rb_meaning_types.specs.Declared.{Declarations, Context, of_program}
use Rattle.rb_meaning_types.specs.Scopes as typed
use Rattle.rb_meaning_types.specs.Literals.{literal_form, literal_kind}
use Rattle.rb_meaning_types.specs.Operators.{unary_result, binary_result, takes_operand, takes_left}
use Rattle.rb_meaning_types.specs.Members.{call_on, interface_call, receiver_interface}
use Rattle.rb_meaning_types.specs.Expressions.{type_of, types_of}
use Rattle.rb_meaning_types.specs.Notes.{type_at}
use Rattle.rb_meaning_flow.specs.declared.scopes.Role.{Role}
use Rattle.rb_meaning_flow.specs.Facts.{Facts, facts_of, is_remote, is_object, is_rows, has_primitive_items}
use Rattle.rb_meaning_flow.specs.Scopes.{Scope, variable_named, role_in, role_of, is_list_role, is_portable_role}
use Rattle.rb_meaning_flow.specs.Portable.{portable, all_portable, holds_call, any_holds_call}
use Rattle.rb_meaning_flow.specs.Marks.{is_portable_call}
use Rattle.rb_meaning_flow.specs.Sites.{StmtSite, Over, site, under, right_under, expr_sites, exprs_sites, exprs_of}
use Rattle.rb_meaning_flow.specs.Refusals.{has_remote_type, may_be_remote, IsRefusal}
use Rattle.rb_meaning.specs.RemoteExprs.{whole_or, remote_in, all_remote_in}
use Rattle.rb_flow.specs.Laws.{SendsPortable, items_of}
use Rattle.rb_flow.proofs.Members.{first_contained, more_contained}
use Rattle.rb_law_types.specs.Kept.{IsPrimitiveForm}
use Rattle.rb_law_types.specs.Own.{IsFarKind}
use Rattle.rb_law_types.specs.Far.{RemoteCallsGiveFar}
use Rattle.rb_law_types.specs.Formed.{IsFormedExpr, AreFormedExprs}
use Rattle.rb_law_types.specs.Noted.{IsNotedExpr, AreNotedExprs}
use Rattle.rb_law_types.specs.Code.{AreTyped}
use Rattle.rb_law_types.proofs.Checks.{bind_ok, then_ok, known_ok, placed_ok}
use Rattle.rb_law_types.proofs.TypeFacts.{kind_here, object_fact, rows_fact}
use Rattle.rb_law_types.proofs.SitesWithin.{Within, within_left, within_right, within_tail, site_first}
use Rattle.rb_law_unsplit.proofs.Agreed.{Agree}
use Rattle.rb_law_unsplit.proofs.Walking.{object_named, there}
use Rattle.rb_law_unsplit.proofs.Walked.{all_append}
use Rattle.rb_law_script.proofs.NoUnit.{NoUnit, AllNoUnit, operand_no_unit, operands_no_unit, index_no_unit, field_kind_no_unit, new_no_unit, items_no_unit, own_call_no_unit, called_no_unit, first_typed}

-- types of portable expressions

literal_far : (is : List Interface) (w : Value-F Value) → IsPrimitiveForm w → IsFarKind is (literal_form w)
literal_far is (Value-F.Int n) h = tt
literal_far is (Value-F.Bool b) h = tt
literal_far is (Value-F.Text t) h = tt
literal_far is Value-F.Unit h = absurd h
literal_far is _ h = absurd h

one_far : (is : List Interface) (op : UnOp) → IsFarKind is (unary_result op)
one_far is un.Not = tt
one_far is un.Neg = tt
one_far is un.Len = tt
one_far is un.Str = tt

two_far : (is : List Interface) (op : BinOp) (k : Kind) → IsFarKind is k → IsFarKind is (binary_result op k)
two_far is bin.Add k h = h
two_far is bin.Sub k h = tt
two_far is bin.Mul k h = tt
two_far is bin.Div k h = tt
two_far is bin.Rem k h = tt
two_far is bin.Eq k h = tt
two_far is bin.Ne k h = tt
two_far is bin.Lt k h = tt
two_far is bin.Le k h = tt
two_far is bin.Gt k h = tt
two_far is bin.Ge k h = tt
two_far is bin.And k h = tt
two_far is bin.Or k h = tt

-- what the role of a variable tells of its type
pub record IsAgreed (is : List Interface) (role : Role) (w : typed.Variable) : Type 0 where
  pub far : is_portable_role role ≡ true → IsFarKind is w.kind
  pub list : is_list_role role ≡ true → has_primitive_items w.kind ≡ true

pub agree_look : (is : List Interface) (vs : Scope) (ws : typed.Scope) (name : List ℕ) (w : typed.Variable) → Agree is vs ws → typed.variable_named ws name ≡ Some w → IsAgreed is (role_of vs name) w
agree_look is [] [] name w h e = absurd (cc (e))
agree_look is [] (y ∷ ws) name w h e = absurd h
agree_look is (v ∷ vs) [] name w h e = absurd h
agree_look is (v ∷ vs) (y ∷ ws) name w h e =
    by (bytes_eq v.name name) (subst (λ m. cond (bytes_eq m name) (Some y) (typed.variable_named ws name) ≡ Some w) (sym h.0) e) (λ e'. agree_look is vs ws name w h.2 e')
  where
    by : (t : Truth) → cond t (Some y) (typed.variable_named ws name) ≡ Some w → (typed.variable_named ws name ≡ Some w → IsAgreed is (role_of vs name) w) → IsAgreed is (role_in (cond t (Some v) (variable_named vs name))) w
    by true e' more = let same : y ≡ w = cc (e') in subst (IsAgreed is v.role) same (record { far = h.1.0; list = h.1.1 })
    by false e' more = more e'

-- what may come from a remote object, and is neither nothing, an object nor rows, is primitive
far_primitive : (d : Declarations) (k : Kind) → IsFarKind d.interfaces k → NoUnit k → is_object d k ≡ false → is_rows k ≡ false → is_primitive k ≡ true
far_primitive d kind.Int far unit object rows = refl
far_primitive d kind.Bool far unit object rows = refl
far_primitive d kind.Text far unit object rows = refl
far_primitive d kind.Unit far unit object rows = absurd (cc (unit))
far_primitive d (kind.Named name) far unit object rows = absurd (cc (far, object))
far_primitive d (kind.ListOf item) far unit object rows = absurd far
far_primitive d (kind.RowsOf row) far unit object rows = absurd (cc (rows))

or_false : (a b : Truth) → (a || b) ≡ false → (a ≡ false) × (b ≡ false)
or_false true b h = absurd (cc (h))
or_false false b h = (refl, h)

no_interface : (d : Declarations) (k : Kind) → is_object d k ≡ false → receiver_interface d k ≡ None
no_interface d (kind.Named name) h = by (interface_named d.interfaces name) h
  where
    by : (o : Option Interface) → is_some o ≡ false → o ≡ None
    by None e = refl
    by (Some i) e = absurd (cc (e))
no_interface d kind.Int h = refl
no_interface d kind.Bool h = refl
no_interface d kind.Text h = refl
no_interface d kind.Unit h = refl
no_interface d (kind.ListOf item) h = refl
no_interface d (kind.RowsOf row) h = refl

all_items : (f : Facts) (vs : Scope) (es : Exprs) → ((e : Expr) → Contains (items_of es) e → portable f vs e ≡ true) → all_portable f vs es ≡ true
all_items f vs NoExprs h = refl
all_items f vs (MoreExprs e es) h =
    ap (λ t. t && all_portable f vs es) (h e (first_contained e (items_of es))) ∙ all_items f vs es (λ o is. h o (more_contained e (items_of es) o is))

module _ (given : RemoteCallsGiveFar) (p : Program) (declared : AreTyped (of_program p)) (this : Option (List ℕ)) (remote : Truth) where
  abbrev x : Context
  x = record { declared = of_program p; this = this; remote = remote }

  abbrev is : List Interface
  is = p.interfaces

  abbrev f : Facts
  f = facts_of p

  abbrev types : ℕ → Option (Checked Kind)
  types = type_at p

  abbrev d : Declarations
  d = of_program p

  -- the type of a portable expression may come from a remote object
  pub portable_far : (vs : Scope) (ws : typed.Scope) → Agree is vs ws → (e : Expr) (k : Kind) → portable f vs e ≡ true → type_of x ws e ≡ Ok k → IsNotedExpr types x ws e → IsFormedExpr e → IsFarKind is k
  unfolding literal_kind
  portable_far vs ws agree (Lit at v) k r t n g = let same : literal_form (out-Value v) ≡ k = cc (t) in subst (IsFarKind is) same (literal_far is (out-Value v) g)
  portable_far vs ws agree (Name at name) k r t n g =
      let b = bind_ok (known (UnknownName at) (typed.variable_named ws name)) _ k t in
      let same : (b.0).kind ≡ k = cc (b.2) in
      subst (IsFarKind is) same ((agree_look is vs ws name b.0 agree (known_ok (UnknownName at) (typed.variable_named ws name) b.0 b.1)).far r)
  portable_far vs ws agree (This at) k r t n g = absurd (cc (r))
  portable_far vs ws agree (Unary at op a) k r t n g =
      let b = placed_ok (expr_at a) (type_of x ws a) _ k t in
      let q : Placed = record { at = expr_at a; kind = b.0 } in
      let s = then_ok (must (takes_operand op b.0) (wrong_type q)) (Ok (unary_result op)) k b.2 in
      let same : unary_result op ≡ k = cc (s.1) in
      subst (IsFarKind is) same (one_far is op)
  portable_far vs ws agree (Binary at op a b) k r t n g =
      let c = placed_ok (expr_at a) (type_of x ws a) _ k t in
      let e = placed_ok (expr_at b) (type_of x ws b) _ k c.2 in
      let p1 : Placed = record { at = expr_at a; kind = c.0 } in
      let p2 : Placed = record { at = expr_at b; kind = e.0 } in
      let both = and_parts (portable f vs a) (portable f vs b) r in
      let s = then_ok (must (takes_left op c.0) (wrong_type p1) >> wanted c.0 p2) (Ok (binary_result op c.0)) k e.2 in
      let same : binary_result op c.0 ≡ k = cc (s.1) in
      subst (IsFarKind is) same (two_far is op c.0 (portable_far vs ws agree a c.0 both.0 c.1 n.1 g.0))
  portable_far vs ws agree (Field at a name) k r t n g = absurd (cc (r))
  portable_far vs ws agree (Call at a method args) k r t n g =
      let b = placed_ok (expr_at a) (type_of x ws a) _ k t in
      let ts = bind_ok (types_of x ws args) _ k b.2 in
      let whole = and_parts (is_remote f a && portable f vs a) (all_portable f vs args) r in
      let receiver = and_parts (is_remote f a) (portable f vs a) whole.0 in
      let named = object_named d b.0 (sym (object_fact p (expr_at a) b.0 (kind_here types x ws a b.0 n.1 b.1)) ∙ receiver.0) in
      let interface = there (interface_named is named.0) named.2 in
      let on_interface : interface_call at method interface.0 ts.0 ≡ Ok k =
      subst (λ o. call_on x at method (record { at = expr_at a; kind = b.0 }) ts.0 o ≡ Ok k) (ap (receiver_interface d) named.1 ∙ interface.1) ts.2 in
      given d declared at named.0 method interface.0 ts.0 k interface.1 on_interface
  portable_far vs ws agree (Index at a b) k r t n g = absurd (cc (r))
  portable_far vs ws agree (New at class args) k r t n g = absurd (cc (r))
  portable_far vs ws agree (Items at item items) k r t n g = absurd (cc (r))
  portable_far vs ws agree (Taken at step) k r t n g = absurd (cc (r))

  -- a remote expression that is kept, typed where it stands
  pub record Sent (vs : Scope) (ws : typed.Scope) (e : Expr) : Type 0 where
    pub kind : Kind
    pub typed_here : type_of x ws e ≡ Ok kind
    pub noted : IsNotedExpr types x ws e
    pub formed : IsFormedExpr e
    pub sent : portable f vs e ≡ true
    pub primitive : is_primitive kind ≡ true

  module _ (ss : List StmtSite) (none : (r : Refusal) → IsRefusal (facts_of p) ss r → ⊥) (sends : SendsPortable (facts_of p) ss) where
    -- no expression is remote where none may be
    pub not_remote : (s : StmtSite) (above : List Over) (e : Expr) → Contains (exprs_of ss) (site s above e) → may_be_remote f s above ≡ false → has_remote_type f e ≡ false
    not_remote s above e is_there may = by (has_remote_type f e) refl
      where
        by : (t : Truth) → has_remote_type f e ≡ t → t ≡ false
        by false h = refl
        by true h = absurd (none (refusal.Escapes (expr_at e)) (site s above e, is_there, refl, ap (λ t. t && not (may_be_remote f s above)) h ∙ ap not may))

    module _ (s : StmtSite) (ws : typed.Scope) (agree : Agree is s.scope ws) where
      abbrev vs : Scope
      vs = s.scope

      -- what a script would keep of it is a value
      abbrev pub May : Expr → Kind → Type 0
      May e k = is_portable_call f vs e ≡ true → NoUnit k × (has_remote_type f e ≡ false)

      -- a call that isn't portable is none of a remote object
      call_local : (above : List Over) (at : ℕ) (a : Expr) (method : List ℕ) (args : Exprs) → Contains (exprs_of ss) (site s above (Call at a method args)) → is_portable_call f vs (Call at a method args) ≡ false → is_remote f a ≡ false
      call_local above at a method args is_there whole = by (is_remote f a) refl
        where
          by : (t : Truth) → is_remote f a ≡ t → t ≡ false
          by false h = refl
          by true h =
              let sent = λ (e : Expr) (i : Contains (a ∷ items_of args) e). sends.calls (site s above (Call at a method args)) is_there e (subst (λ t. Contains (cond t (a ∷ items_of args) []) e) (sym h) i) in
              let first : portable f vs a ≡ true = sent a (first_contained a (items_of args)) in
              let rest : all_portable f vs args ≡ true = all_items f vs args (λ o i. sent o (more_contained a (items_of args) o i)) in
              let carried : portable f vs (Call at a method args) ≡ true = ap (λ t. (t && portable f vs a) && all_portable f vs args) h ∙ ap (λ t. t && all_portable f vs args) first ∙ rest in
              let holds : holds_call f (Call at a method args) ≡ true = ap (λ t. (t || holds_call f a) || any_holds_call f args) h in
              absurd (cc (sym whole ∙ ap (λ t. t && holds_call f (Call at a method args)) carried ∙ holds))

      whole_sent : (e : Expr) (k : Kind) (parts : List Expr) → type_of x ws e ≡ Ok k → IsNotedExpr types x ws e → IsFormedExpr e → May e k → (is_portable_call f vs e ≡ false → AllByRecursion (Sent vs ws) parts) → AllByRecursion (Sent vs ws) (whole_or f vs e parts)
      whole_sent e k parts t n g may inside = by (is_portable_call f vs e) refl
        where
          by : (b : Truth) → is_portable_call f vs e ≡ b → AllByRecursion (Sent vs ws) (cond b (e ∷ []) parts)
          by false h = inside h
          by true h =
              let sent = (and_parts (portable f vs e) (holds_call f e) h).0 in
              let noted = kind_here types x ws e k n t in
              let plain = or_false (f.object (expr_at e)) (f.rows (expr_at e)) (may h).1 in (
                record {
                  kind = k;
                  typed_here = t;
                  noted = n;
                  formed = g;
                  sent = sent;
                  primitive = far_primitive d k (portable_far vs ws agree e k sent t n g) (may h).0 (sym (object_fact p (expr_at e) k noted) ∙ plain.0) (sym (rows_fact p (expr_at e) k noted) ∙ plain.1);
                },
                tt,
              )

      -- a part, which may not be remote
      part_may : (above : List Over) (e : Expr) (k : Kind) → Within (expr_sites s above e) (exprs_of ss) → may_be_remote f s above ≡ false → NoUnit k → May e k
      part_may above e k w plain unit whole = (unit, not_remote s above e (w (site s above e) (site_first s above e)) plain)

      mutual
        pub remote_sent : (above : List Over) (e : Expr) (k : Kind) → type_of x ws e ≡ Ok k → IsNotedExpr types x ws e → IsFormedExpr e → Within (expr_sites s above e) (exprs_of ss) → May e k → AllByRecursion (Sent vs ws) (remote_in f vs e)
        remote_sent above (Lit at value) k t n g w may = tt
        remote_sent above (Name at name) k t n g w may = tt
        remote_sent above (This at) k t n g w may = tt
        remote_sent above (Unary at op a) k t n g w may =
            let b = placed_ok (expr_at a) (type_of x ws a) _ k t in
            whole_sent (Unary at op a) k (remote_in f vs a) t n g may (λ whole.
            let wa : Within (expr_sites s (under (Unary at op a) above) a) (exprs_of ss) = within_tail _ _ _ w in
            remote_sent (under (Unary at op a) above) a b.0 b.1 n.1 g wa (part_may (under (Unary at op a) above) a b.0 wa refl (operand_no_unit op (record { at = expr_at a; kind = b.0 }) k b.2)))
        remote_sent above (Binary at op a b) k t n g w may =
            let c = placed_ok (expr_at a) (type_of x ws a) _ k t in
            let e = placed_ok (expr_at b) (type_of x ws b) _ k c.2 in
            let plain = operands_no_unit op (record { at = expr_at a; kind = c.0 }) (record { at = expr_at b; kind = e.0 }) k e.2 in
            let rest = within_tail _ _ _ w in
            whole_sent (Binary at op a b) k (remote_in f vs a ++ remote_in f vs b) t n g may (λ whole.
            let left = under (Binary at op a b) above in
            let right = right_under (Binary at op a b) above in
            let wa : Within (expr_sites s left a) (exprs_of ss) = within_left _ (expr_sites s right b) _ rest in
            let wb : Within (expr_sites s right b) (exprs_of ss) = within_right (expr_sites s left a) _ _ rest in
            all_append (Sent vs ws) (remote_in f vs a) (remote_in f vs b)
            (remote_sent left a c.0 c.1 n.1 g.0 wa (part_may left a c.0 wa refl plain.0))
            (remote_sent right b e.0 e.1 n.2 g.1 wb (part_may right b e.0 wb refl plain.1)))
        remote_sent above (Field at a name) k t n g w may =
            let b = placed_ok (expr_at a) (type_of x ws a) _ k t in
            let wa : Within (expr_sites s (under (Field at a name) above) a) (exprs_of ss) = within_tail _ _ _ w in
            remote_sent (under (Field at a name) above) a b.0 b.1 n.1 g wa (part_may (under (Field at a name) above) a b.0 wa refl (field_kind_no_unit d declared.declared at name (record { at = expr_at a; kind = b.0 }) k b.2).0)
        remote_sent above (Call at a method args) k t n g w may =
            let b = placed_ok (expr_at a) (type_of x ws a) _ k t in
            let q : Placed = record { at = expr_at a; kind = b.0 } in
            let ts = bind_ok (types_of x ws args) _ k b.2 in
            let rest = within_tail _ _ _ w in
            let o = under (Call at a method args) above in
            whole_sent (Call at a method args) k (remote_in f vs a ++ all_remote_in f vs args) t n g may (λ whole.
            let own = call_local above at a method args (w (site s above (Call at a method args)) (site_first s above (Call at a method args))) whole in
            let object : is_object d b.0 ≡ false = sym (object_fact p (expr_at a) b.0 (kind_here types x ws a b.0 n.1 b.1)) ∙ own in
            let wa : Within (expr_sites s o a) (exprs_of ss) = within_left _ (exprs_sites s o args) _ rest in
            all_append (Sent vs ws) (remote_in f vs a) (all_remote_in f vs args)
            (remote_sent o a b.0 b.1 n.1 g.0 wa (part_may o a b.0 wa own (called_no_unit x at (expr_at a) method b.0 ts.0 k ts.2)))
            (all_sent o args ts.0 ts.1 n.2 g.1 (within_right (expr_sites s o a) _ _ rest) own (own_call_no_unit d declared.declared x refl at method q ts.0 k (no_interface d b.0 object) ts.2)))
        remote_sent above (Index at a b) k t n g w may =
            let c = placed_ok (expr_at a) (type_of x ws a) _ k t in
            let e = placed_ok (expr_at b) (type_of x ws b) _ k c.2 in
            let plain = index_no_unit (expr_at a) c.0 (record { at = expr_at b; kind = e.0 }) k e.2 in
            let rest = within_tail _ _ _ w in
            let o = under (Index at a b) above in
            let wa : Within (expr_sites s o a) (exprs_of ss) = within_left _ (expr_sites s o b) _ rest in
            let wb : Within (expr_sites s o b) (exprs_of ss) = within_right (expr_sites s o a) _ _ rest in
            all_append (Sent vs ws) (remote_in f vs a) (remote_in f vs b)
            (remote_sent o a c.0 c.1 n.1 g.0 wa (part_may o a c.0 wa refl plain.0))
            (remote_sent o b e.0 e.1 n.2 g.1 wb (part_may o b e.0 wb refl plain.1))
        remote_sent above (New at class args) k t n g w may =
            let ts = bind_ok (types_of x ws args) _ k t in
            all_sent (under (New at class args) above) args ts.0 ts.1 n.1 g (within_tail _ _ _ w) refl (new_no_unit d declared.declared at class ts.0 k ts.2)
        remote_sent above (Items at item items) k t n g w may =
            let ts = bind_ok (types_of x ws items) _ k t in
            all_sent (under (Items at item items) above) items ts.0 ts.1 n.1 g (within_tail _ _ _ w) refl (items_no_unit d declared.declared item ts.0 k ts.2)
        remote_sent above (Taken at step) k t n g w may = tt

        all_sent : (above : List Over) (es : Exprs) (ps : List Placed) → types_of x ws es ≡ Ok ps → AreNotedExprs types x ws es → AreFormedExprs es → Within (exprs_sites s above es) (exprs_of ss) → may_be_remote f s above ≡ false → AllNoUnit ps
            → AllByRecursion (Sent vs ws) (all_remote_in f vs es)
        all_sent above NoExprs ps t n g w plain units = tt
        all_sent above (MoreExprs e es) ps t n g w plain units =
            let b = placed_ok (expr_at e) (type_of x ws e) _ ps t in
            let qs = first_typed (record { at = expr_at e; kind = b.0 }) (types_of x ws es) ps b.2 in
            let each : AllNoUnit (record { at = expr_at e; kind = b.0 } ∷ qs.0) = subst AllNoUnit (sym qs.2) units in
            let we : Within (expr_sites s above e) (exprs_of ss) = within_left _ (exprs_sites s above es) _ w in
            all_append (Sent vs ws) (remote_in f vs e) (all_remote_in f vs es)
            (remote_sent above e b.0 b.1 n.0 g.0 we (part_may above e b.0 we plain each.0))
            (all_sent above es qs.0 qs.1 n.1 g.1 (within_right (expr_sites s above e) _ _ w) plain each.1)
