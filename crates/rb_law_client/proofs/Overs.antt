-- What local code of a batch leaves of the names before it.
use Rattle.std.proofs.Common.{◌≡◌, refl, sym, ap, ◌∙◌, subst, ℕ, zero, suc, List, [], ◌∷◌, ◌++◌, length, take, Bool as Truth, true, false, cond, Option, Some, None, option_map, Result, Ok, Err}
use Rattle.std.specs.List.{AllByRecursion}
use Rattle.std.specs.Str.{bytes_eq}
use Rattle.rb_trees.specs.Named.{first_named, lookup, replaced}
use Rattle.rb_trees.specs.Outcome.{◌>>=◌}
use Rattle.rb_trees.specs.declared.values.Value.{Value}
use Rattle.rb_trees.specs.declared.values.Value.TheOpen.{Value-F}
use Rattle.rb_trees.specs.declared.values.Value.TheVariants as value
use Rattle.rb_trees.specs.declared.values.Value.TheViews.{out-Value}
use Rattle.rb_trees.specs.declared.values.Fault.{Fault}
use Rattle.rb_trees.specs.declared.outcomes.Raised.{Raised}
use Rattle.rb_trees.specs.mirror.Code.{Expr, Exprs, Lit, Name, This, Unary, Binary, Field, Call, Index, New, Items, Taken, NoExprs, MoreExprs, Stmt, Stmts, Val, Var, Assign, Run as RunStmt, Print, Throw, If, While, For, Try, Batch, NoStmts, MoreStmts}
use Rattle.rb_trees.specs.mirror.Declarations.{Program}
use Rattle.rb_trees.specs.mirror.Services.{Service}
use Rattle.rb_meaning_code.specs.Faults.{raises, caught_text, is_caught}
use Rattle.rb_meaning_code.specs.Operators.{on_one, on_two, by_left, shown_value}
use Rattle.rb_meaning_code.specs.State.{Names, Local, bound, closed, spent}
use Rattle.rb_meaning_code.specs.Dialogue as ask
use Rattle.rb_meaning_code.specs.Dialogue.{Question, Outcome, Gave, Faulted, Done, Ask, AskBatch, Run, Handler, handle, seq, on, next, gives, end, told}
use Rattle.rb_meaning_code.specs.Objects.{field_of, with_field_of, constructed}
use Rattle.rb_meaning_code.specs.Calls.{Bodies, called_method, unit_due, call_fits, names_within, entered, left, call, called}
use Rattle.rb_meaning_code.specs.Expressions.{value_of, indexed, list_of, decided_or, evaluates, evaluates_all}
use Rattle.rb_meaning_code.specs.Statements.{Effect, nothing, closes, block, truth_of, either, by_truth, after_unit, while_turns, turns_over, list_turn, row_turn, turns, prints, handles, assigns, writes, assignment, performs, performs_all}
use Rattle.rb_meaning_flow.specs.Scopes.{assigned_variable, assigned_by, assigned_in}
use Rattle.rb_meaning.specs.State.{Outside}
use Rattle.rb_meaning.specs.Unsplit.{in_batch}
use Rattle.rb_law_script.proofs.Lookups.{same_bytes}
use Rattle.rb_law_local.proofs.Meeting.{handle_seq}
use Rattle.rb_law_local.proofs.Portable.{local_of}

-- of some names that are kept
module _ (Kept : List ℕ → Type 0) where
  -- The names of before stand first, each that is kept with its value; others may follow.
  abbrev pub Over : Names → Names → Type 0
  Over [] ns = Unit {0}
  Over (b ∷ bs) [] = ⊥
  Over (b ∷ bs) (n ∷ ns) = (n.0 ≡ b.0) × (Kept b.0 → n.1 ≡ b.1) × Over bs ns

  -- what one local state leaves of another's names
  abbrev pub Onto : Local → Local → Type 0
  Onto l l1 = Over l.names l1.names

  -- none of these is kept
  abbrev pub Unkept : List (List ℕ) → Type 0
  Unkept names = AllByRecursion (λ y. Kept y → ⊥) names

  pub over_same : (ns : Names) → Over ns ns
  over_same [] = tt
  over_same (n ∷ ns) = (refl, λ k. refl, over_same ns)

  pub over_trans : (xs ys zs : Names) → Over xs ys → Over ys zs → Over xs zs
  over_trans [] ys zs h g = tt
  over_trans (a ∷ xs) [] zs h g = absurd h
  over_trans (a ∷ xs) (b ∷ ys) [] h g = absurd g
  over_trans (a ∷ xs) (b ∷ ys) (c ∷ zs) h g = (g.0 ∙ h.0, λ k. g.1 (subst Kept (sym h.0) k) ∙ h.1 k, over_trans xs ys zs h.2 g.2)

  pub over_more : (ns rest : Names) → Over ns (ns ++ rest)
  over_more [] rest = tt
  over_more (n ∷ ns) rest = (refl, λ k. refl, over_more ns rest)

  pub over_take : (ns ms : Names) → Over ns ms → Over ns (take (length ns) ms)
  over_take [] ms h = tt
  over_take (n ∷ ns) [] h = absurd h
  over_take (n ∷ ns) (m ∷ ms) h = (h.0, h.1, over_take ns ms h.2)

  pub over_put : (ns : Names) (name : List ℕ) (v : Value) → (Kept name → ⊥) → Over ns (replaced ns name v)
  over_put [] name v free = tt
  over_put (n ∷ ns) name v free = by (bytes_eq n.0 name) refl (over_put ns name v free)
    where
      by : (t : Truth) → bytes_eq n.0 name ≡ t → Over ns (replaced ns name v) → Over (n ∷ ns) (cond t ((n.0, v) ∷ ns) (n ∷ replaced ns name v))
      by true e more = (refl, λ k. absurd (free (subst Kept (same_bytes n.0 name e) k)), over_same ns)
      by false e more = (refl, λ k. refl, more)

  -- a kept name has its value still
  pub over_look : (ns ms : Names) (y : List ℕ) (v : Value) → Over ns ms → Kept y → lookup ns y ≡ Some v → lookup ms y ≡ Some v
  over_look [] ms y v h k e = absurd (cc (e))
  over_look (n ∷ ns) [] y v h k e = absurd h
  over_look (n ∷ ns) (m ∷ ms) y v h k e = by (bytes_eq n.0 y) refl (ap (λ q. bytes_eq q y) h.0) e (λ e'. over_look ns ms y v h.2 k e')
    where
      by : (t : Truth) → bytes_eq n.0 y ≡ t → bytes_eq m.0 y ≡ bytes_eq n.0 y → option_map (λ b. b.1) (cond t (Some n) (first_named (λ b. b.0) ns y)) ≡ Some v → (lookup ns y ≡ Some v → lookup ms y ≡ Some v) → lookup (m ∷ ms) y ≡ Some v
      by true is same e' more =
          ap (λ t. option_map (λ b. b.1) (cond t (Some m) (first_named (λ b. b.0) ms y))) (same ∙ is) ∙ ap Some (h.1 (subst Kept (sym (same_bytes n.0 y is)) k)) ∙ e'
      by false is same e' more =
          ap (λ t. option_map (λ b. b.1) (cond t (Some m) (first_named (λ b. b.0) ms y))) (same ∙ is) ∙ more e'

-- of a program on a service, whatever the methods' bodies are
module _ (p : Program) (service : Service) (bodies : Bodies) where
  abbrev h : Handler Outside
  h = in_batch p service

  -- A run leaves such a local state, by a fault too.
  pub record Leaves {A : Type 0} (P : Local → Type 0) (d : Run A) : Type 0 where
    pub left : (s : Outside) → P (local_of (handle h d s).0)

  seq_leaves : {A B : Type 0} (P Q : Local → Type 0) (d : Run A) (k : Outcome A → Run B) → Leaves P d → ((o : Outcome A) → P (local_of o) → Leaves Q (k o)) → Leaves Q (seq d k)
  seq_leaves P Q d k first more = record {
    left = λ s. subst (λ o. Q (local_of o.0)) (sym (handle_seq h d k s)) ((more (handle h d s).0 (first.left s)).left (handle h d s).1);
  }

  done_leaves : {A : Type 0} (P : Local → Type 0) (o : Outcome A) → P (local_of o) → Leaves P (Done o)
  done_leaves P o h = record { left = λ s. h }

  then_leaves : {A B : Type 0} (P Q : Local → Type 0) (d : Run A) (k : A → Local → Run B) → Leaves P d → ((a : A) (l : Local) → P l → Leaves Q (k a l)) → ((l : Local) → P l → Q l) → Leaves Q (next d k)
  then_leaves {A = A} P Q d k first more weaker = seq_leaves P Q d (on k) first by
    where
      by : (o : Outcome A) → P (local_of o) → Leaves Q (on k o)
      by (Gave a l) e = more a l e
      by (Faulted r l) e = done_leaves Q (Faulted r l) (weaker l e)

  end_leaves : {A : Type 0} (P : Local → Type 0) (l : Local) (r : Result A Raised) → P l → Leaves P (end l r)
  end_leaves P l (Ok a) h = done_leaves P (Gave a l) h
  end_leaves P l (Err r) h = done_leaves P (Faulted r l) h

  rule_leaves : {A B : Type 0} (P Q : Local → Type 0) (l : Local) (r : Result A Raised) (k : A → Local → Run B) → P l → Q l → ((a : A) → Leaves Q (k a l)) → Leaves Q (next (end l r) k)
  rule_leaves P Q l (Ok a) k h g more = more a
  rule_leaves P Q l (Err r) k h g more = done_leaves Q (Faulted r l) g

  told_leaves : (P : Local → Type 0) (l : Local) (r : Result Value Raised) → P l → Leaves P (told l r)
  told_leaves P l (Ok v) h = done_leaves P (Gave tt l) h
  told_leaves P l (Err r) h = done_leaves P (Faulted r l) h

  ask_leaves : {A : Type 0} (P : Local → Type 0) (q : Question) (go : Result Value Raised → Run A) → ((a : Result Value Raised) → Leaves P (go a)) → Leaves P (Ask q go)
  ask_leaves P q go more = record { left = λ s. (more (h.answer s q).0).left (h.answer s q).1 }

  -- ---- expressions leave the names

  abbrev Named : Names → Local → Type 0
  Named ns l = l.names ≡ ns

  left_leaves : (ns : Names) (l : Local) → l.names ≡ ns → (o : Outcome Value) → Leaves (Named ns) (left l o)
  left_leaves ns l e (Gave v l1) = done_leaves (Named ns) (Gave v (record l1 { names = l.names; depth = l.depth })) e
  left_leaves ns l e (Faulted r l1) = done_leaves (Named ns) (Faulted r (record l1 { names = l.names; depth = l.depth })) e

  any_leaves : {A : Type 0} (d : Run A) → Leaves (λ l. Unit {0}) d
  any_leaves d = record { left = λ s. tt }

  call_leaves : (at : ℕ) (receiver : Value) (name : List ℕ) (args : List Value) (ns : Names) (l : Local) → l.names ≡ ns → Leaves (Named ns) (call bodies at receiver name args l)
  call_leaves at receiver name args ns l e =
      rule_leaves (Named ns) (Named ns) l (raises at (called_method bodies.classes l.heap (out-Value receiver) name (length args))) _ e e (λ m.
      rule_leaves (Named ns) (Named ns) l (raises at (unit_due l.fuel)) _ e e (λ u.
      rule_leaves (Named ns) (Named ns) (spent l) (raises at (call_fits (spent l).depth)) _ e e (λ w.
      seq_leaves (λ l1. Unit {0}) (Named ns) (bodies.run at m.body (entered (names_within receiver m.signature.params args) (spent l))) (left (spent l)) (any_leaves _) (λ o u1. left_leaves ns (spent l) e o))))

  called_leaves : (at : ℕ) (v : Value) (w : Value-F Value) (name : List ℕ) (args : List Value) (ns : Names) (l : Local) → l.names ≡ ns → Leaves (Named ns) (called bodies at v w name args l)
  called_leaves at v (Value-F.Remote object) name args ns l e = ask_leaves (Named ns) (ask.Invoke at v name args) (end l) (λ a. end_leaves (Named ns) l a e)
  called_leaves at v Value-F.Unit name args ns l e = call_leaves at v name args ns l e
  called_leaves at v _ name args ns l e = call_leaves at v name args ns l e

  decided_leaves : (ns : Names) (o : Option Value) (go : Local → Run Value) (l : Local) → l.names ≡ ns → Leaves (Named ns) (go l) → Leaves (Named ns) (decided_or o go l)
  decided_leaves ns (Some v) go l e more = done_leaves (Named ns) (Gave v l) e
  decided_leaves ns None go l e more = more

  mutual
    pub value_leaves : (e : Expr) (ns : Names) (l : Local) → l.names ≡ ns → Leaves (Named ns) (evaluates bodies e l)
    value_leaves (Lit at v) ns l q = done_leaves (Named ns) (Gave v l) q
    value_leaves (Name at name) ns l q = end_leaves (Named ns) l (raises at (value_of l.names name)) q
    value_leaves (This at) ns l q = end_leaves (Named ns) l _ q
    value_leaves (Unary at op a) ns l q = then_leaves (Named ns) (Named ns) (evaluates bodies a l) _ (value_leaves a ns l q) (λ v l1 q1. end_leaves (Named ns) l1 (raises at (on_one op (out-Value v))) q1) (λ l1 q1. q1)
    value_leaves (Binary at op a b) ns l q =
        then_leaves (Named ns) (Named ns) (evaluates bodies a l) _ (value_leaves a ns l q) (λ v l1 q1.
        rule_leaves (Named ns) (Named ns) l1 (raises at (by_left op (out-Value v))) _ q1 q1 (λ decided.
        decided_leaves ns decided _ l1 q1
        (then_leaves (Named ns) (Named ns) (evaluates bodies b l1) _ (value_leaves b ns l1 q1) (λ w l2 q2. end_leaves (Named ns) l2 (raises at (on_two op (out-Value v) (out-Value w))) q2) (λ l2 q2. q2)))) (λ l1 q1. q1)
    value_leaves (Field at a name) ns l q = then_leaves (Named ns) (Named ns) (evaluates bodies a l) _ (value_leaves a ns l q) (λ v l1 q1. end_leaves (Named ns) l1 (raises at (field_of l1.heap (out-Value v) name)) q1) (λ l1 q1. q1)
    value_leaves (Call at a method args) ns l q =
        then_leaves (Named ns) (Named ns) (evaluates bodies a l) _ (value_leaves a ns l q) (λ v l1 q1.
        then_leaves (Named ns) (Named ns) (evaluates_all bodies args l1) _ (values_leave args ns l1 q1) (λ vs l2 q2. called_leaves at v (out-Value v) method vs ns l2 q2) (λ l2 q2. q2)) (λ l1 q1. q1)
    value_leaves (Index at a b) ns l q =
        then_leaves (Named ns) (Named ns) (evaluates bodies a l) _ (value_leaves a ns l q) (λ v l1 q1.
        then_leaves (Named ns) (Named ns) (evaluates bodies b l1) _ (value_leaves b ns l1 q1) (λ w l2 q2. end_leaves (Named ns) l2 (raises at (indexed (out-Value v) (out-Value w))) q2) (λ l2 q2. q2)) (λ l1 q1. q1)
    value_leaves (New at class args) ns l q =
        then_leaves (Named ns) (Named ns) (evaluates_all bodies args l) _ (values_leave args ns l q) (λ vs l1 q1.
        rule_leaves (Named ns) (Named ns) l1 (raises at (constructed bodies.classes l1.heap class vs)) _ q1 q1 (λ made. done_leaves (Named ns) (Gave made.0 (record l1 { heap = made.1 })) q1)) (λ l1 q1. q1)
    value_leaves (Items at item items) ns l q = then_leaves (Named ns) (Named ns) (evaluates_all bodies items l) _ (values_leave items ns l q) (λ vs l1 q1. end_leaves (Named ns) l1 (raises at (list_of vs)) q1) (λ l1 q1. q1)
    value_leaves (Taken at step) ns l q = ask_leaves (Named ns) (ask.Taken step) (end l) (λ a. end_leaves (Named ns) l a q)

    values_leave : (es : Exprs) (ns : Names) (l : Local) → l.names ≡ ns → Leaves (Named ns) (evaluates_all bodies es l)
    values_leave NoExprs ns l q = done_leaves (Named ns) (Gave [] l) q
    values_leave (MoreExprs e es) ns l q =
        then_leaves (Named ns) (Named ns) (evaluates bodies e l) _ (value_leaves e ns l q) (λ v l1 q1.
        then_leaves (Named ns) (Named ns) (evaluates_all bodies es l1) _ (values_leave es ns l1 q1) (λ vs l2 q2. done_leaves (Named ns) (Gave (v ∷ vs) l2) q2) (λ l2 q2. q2)) (λ l1 q1. q1)

  -- ---- statements leave what is kept

  module _ (Kept : List ℕ → Type 0) where
    abbrev From : Local → Local → Type 0
    From l l1 = Onto Kept l l1

    abbrev Free : List (List ℕ) → Type 0
    Free names = Unkept Kept names

    abbrev Onward : Effect → Type 0
    Onward k = (l : Local) → Leaves (From l) (k l)

    named_from : (l l1 : Local) → l1.names ≡ l.names → From l l1
    named_from l l1 e = subst (Over Kept l.names) (sym e) (over_same Kept l.names)

    from_on : (l l1 l2 : Local) → From l l1 → From l1 l2 → From l l2
    from_on l l1 l2 h g = over_trans Kept l.names l1.names l2.names h g

    -- what follows, from a state that was left
    further : {A : Type 0} (l l1 : Local) (d : Run A) → From l l1 → Leaves (From l1) d → Leaves (From l) d
    further l l1 d q g = record { left = λ s. from_on l l1 (local_of (handle h d s).0) q (g.left s) }

    with_value : (e : Expr) (l : Local) (k : Value → Local → Run (Unit {0})) → ((v : Value) (l1 : Local) → Leaves (From l1) (k v l1)) → Leaves (From l) (next (evaluates bodies e l) k)
    with_value e l k more =
        then_leaves (Named l.names) (From l) (evaluates bodies e l) k (value_leaves e l.names l refl) (λ v l1 q. further l l1 (k v l1) (named_from l l1 q) (more v l1)) (λ l1 q. named_from l l1 q)

    next_from : (l : Local) (d : Run (Unit {0})) (k : Unit {0} → Local → Run (Unit {0})) → Leaves (From l) d → ((l1 : Local) → Leaves (From l1) (k tt l1)) → Leaves (From l) (next d k)
    next_from l d k first more = then_leaves (From l) (From l) d k first (λ u l1 q. further l l1 (k u l1) q (more l1)) (λ l1 q. q)

    same_from : (l : Local) → From l l
    same_from l = over_same Kept l.names

    nothing_from : Onward nothing
    nothing_from l = done_leaves (From l) (Gave tt l) (same_from l)

    pub block_from : (k : Effect) → Onward k → Onward (block k)
    block_from k h l = seq_leaves (From l) (From l) (k l) (closes (length l.names)) (h l) by
      where
        by : (o : Outcome (Unit {0})) → From l (local_of o) → Leaves (From l) (closes (length l.names) o)
        by (Gave u l1) q = done_leaves (From l) (Gave u (closed (length l.names) l1)) (over_take Kept l.names l1.names q)
        by (Faulted r l1) q = done_leaves (From l) (Faulted r (closed (length l.names) l1)) (over_take Kept l.names l1.names q)

    either_from : (c : Truth) (a b : Effect) → Onward a → Onward b → Onward (either c a b)
    either_from true a b h g l = h l
    either_from false a b h g l = g l

    truth_from : (at : ℕ) (v : Value) (a b : Effect) → Onward a → Onward b → Onward (by_truth at v a b)
    truth_from at v a b h g l = rule_leaves (From l) (From l) l (raises at (truth_of (out-Value v))) _ (same_from l) (same_from l) (λ holds. either_from holds a b h g l)

    unit_from : (at : ℕ) (k : Effect) → Onward k → Onward (after_unit at k)
    unit_from at k h l = rule_leaves (From l) (From l) l (raises at (unit_due l.fuel)) _ (same_from l) (same_from l) (λ u. further l (spent l) (k (spent l)) (same_from l) (h (spent l)))

    while_from : (gas at : ℕ) (c : Expr) (body : Effect) → Onward body → Onward (while_turns gas at (evaluates bodies c) body)
    while_from zero at c body h l = done_leaves (From l) (Faulted _ l) (same_from l)
    while_from (suc gas) at c body h l =
        with_value c l _ (λ v l1. truth_from at v _ nothing
        (unit_from at _ (λ l2. next_from l2 (body l2) (λ u l3. while_turns gas at (evaluates bodies c) body l3) (h l2) (λ l3. while_from gas at c body h l3))) nothing_from l1)

    over_from : (begins : Effect) → Onward begins → (name : List ℕ) (vs : List Value) (k : Effect) → Onward k → Onward (turns_over begins name vs k)
    over_from begins b name [] k h l = nothing_from l
    over_from begins b name (v ∷ vs) k h l =
        next_from l (begins l) _ (b l) (λ l1.
        next_from l1 (block (λ l2. k (bound name v l2)) l1) _ (block_from (λ l2. k (bound name v l2)) (λ l2. further l2 (bound name v l2) (k (bound name v l2)) (over_more Kept l2.names _) (h (bound name v l2))) l1)
        (λ l3. over_from begins b name vs k h l3))

    list_from : (at : ℕ) → Onward (list_turn at)
    list_from at l = unit_from at _ (λ l1. ask_leaves (From l1) (ask.ListTurn at) (told l1) (λ a. told_leaves (From l1) l1 a (same_from l1))) l

    row_from : (at : ℕ) → Onward (row_turn at)
    row_from at l = ask_leaves (From l) (ask.Turn at) (told l) (λ a. told_leaves (From l) l a (same_from l))

    turns_from : (at : ℕ) (name : List ℕ) (w : Value-F Value) (k : Effect) → Onward k → Onward (turns at name w k)
    turns_from at name (Value-F.List items) k h l = over_from (list_turn at) (list_from at) name items k h l
    turns_from at name (Value-F.Rows rows) k h l = over_from (row_turn at) (row_from at) name rows k h l
    turns_from at name Value-F.Unit k h l = done_leaves (From l) (Faulted _ l) (same_from l)
    turns_from at name _ k h l = done_leaves (From l) (Faulted _ l) (same_from l)

    prints_from : (at : ℕ) (o : Option (List ℕ)) → Onward (prints at o)
    prints_from at (Some bytes) l = ask_leaves (From l) (ask.Line at bytes) (told l) (λ a. told_leaves (From l) l a (same_from l))
    prints_from at None l = done_leaves (From l) (Faulted _ l) (same_from l)

    handles_from : (name : List ℕ) (k : Effect) → Onward k → (l : Local) (o : Outcome (Unit {0})) → From l (local_of o) → Leaves (From l) (handles name k o)
    handles_from name k h l (Gave u l1) q = done_leaves (From l) (Gave u l1) q
    handles_from name k h l (Faulted r l1) q = by (is_caught r)
      where
        tried : Effect
        tried l2 = k (bound name (value.Text (caught_text r.fault)) l2)

        by : (t : Truth) → Leaves (From l) (cond t (block tried l1) (Done (Faulted r l1)))
        by true = further l l1 (block tried l1) q (block_from tried (λ l2. further l2 (bound name (value.Text (caught_text r.fault)) l2) (tried l2) (over_more Kept l2.names _) (h (bound name (value.Text (caught_text r.fault)) l2))) l1)
        by false = done_leaves (From l) (Faulted r l1) q

    assigns_from : (at : ℕ) (name : List ℕ) (v : Value) → (Kept name → ⊥) → Onward (assigns at name v)
    assigns_from at name v free l = by (value_of l.names name)
      where
        by : (r : Result Value Fault) → Leaves (From l) (next (end l (raises at (r >>= λ old. Ok (replaced l.names name v)))) (λ names l1. nothing (record l1 { names = names })))
        by (Ok old) = done_leaves (From l) (Gave tt (record l { names = replaced l.names name v })) (over_put Kept l.names name v free)
        by (Err f) = done_leaves (From l) (Faulted _ l) (same_from l)

    writes_from : (at : ℕ) (object : Value) (name : List ℕ) (v : Value) → Onward (writes at object name v)
    writes_from at object name v l = rule_leaves (From l) (From l) l (raises at (with_field_of l.heap (out-Value object) name v)) _ (same_from l) (same_from l) (λ heap. done_leaves (From l) (Gave tt (record l { heap = heap })) (same_from l))

    assignment_from : (at : ℕ) (a e : Expr) → Free (assigned_variable a) → Onward (assignment bodies at a e)
    assignment_from at (Name place name) e free l = with_value e l _ (λ v l1. assigns_from place name v free.0 l1)
    assignment_from at (Field place a name) e free l = with_value a l _ (λ object l1. with_value e l1 _ (λ v l2. writes_from place object name v l2))
    assignment_from at (Lit place v) e free l = done_leaves (From l) (Faulted _ l) (same_from l)
    assignment_from at _ e free l = done_leaves (From l) (Faulted _ l) (same_from l)

    free_left : (xs ys : List (List ℕ)) → Free (xs ++ ys) → Free xs
    free_left [] ys h = tt
    free_left (x ∷ xs) ys h = (h.0, free_left xs ys h.1)

    free_right : (xs ys : List (List ℕ)) → Free (xs ++ ys) → Free ys
    free_right [] ys h = h
    free_right (x ∷ xs) ys h = free_right xs ys h.1

    mutual
      pub stmt_from : (s : Stmt) (gas : ℕ) → Free (assigned_by s) → Onward (performs bodies gas s)
      stmt_from (Val at name e) gas free l = with_value e l _ (λ v l1. done_leaves (From l1) (Gave tt (bound name v l1)) (over_more Kept l1.names _))
      stmt_from (Var at name e) gas free l = with_value e l _ (λ v l1. done_leaves (From l1) (Gave tt (bound name v l1)) (over_more Kept l1.names _))
      stmt_from (Assign at a b) gas free l = assignment_from at a b free l
      stmt_from (RunStmt at e) gas free l = with_value e l _ (λ v l1. nothing_from l1)
      stmt_from (Print at e) gas free l = with_value e l _ (λ v l1. prints_from at (shown_value (out-Value v)) l1)
      stmt_from (Throw at e) gas free l = with_value e l _ (λ v l1. done_leaves (From l1) (Faulted _ l1) (same_from l1))
      stmt_from (If at c a b) gas free l =
          with_value c l _ (λ v l1. truth_from at v (block (performs_all bodies gas a)) (block (performs_all bodies gas b))
          (block_from (performs_all bodies gas a) (stmts_from a gas (free_left (assigned_in a) (assigned_in b) free)))
          (block_from (performs_all bodies gas b) (stmts_from b gas (free_right (assigned_in a) (assigned_in b) free))) l1)
      stmt_from (While at c a) gas free l = while_from (suc gas) at c (block (performs_all bodies gas a)) (block_from (performs_all bodies gas a) (stmts_from a gas free)) l
      stmt_from (For at name e a) gas free l = with_value e l _ (λ v l1. turns_from at name (out-Value v) (performs_all bodies gas a) (stmts_from a gas free) l1)
      stmt_from (Try at a name b) gas free l =
          seq_leaves (From l) (From l) (block (performs_all bodies gas a) l) (handles name (performs_all bodies gas b)) (block_from (performs_all bodies gas a) (stmts_from a gas (free_left (assigned_in a) (assigned_in b) free)) l)
          (λ o q. handles_from name (performs_all bodies gas b) (stmts_from b gas (free_right (assigned_in a) (assigned_in b) free)) l o q)
      stmt_from (Batch at interface root a) gas free l = record { left = λ s. same_from l }

      pub stmts_from : (ss : Stmts) (gas : ℕ) → Free (assigned_in ss) → Onward (performs_all bodies gas ss)
      stmts_from NoStmts gas free l = nothing_from l
      stmts_from (MoreStmts s ss) gas free l =
          next_from l (performs bodies gas s l) _ (stmt_from s gas (free_left (assigned_by s) (assigned_in ss) free) l) (λ l1. stmts_from ss gas (free_right (assigned_by s) (assigned_in ss) free) l1)
