-- Nothing is taken in code without remote calls.
use Rattle.std.proofs.Common.{◌≡◌, refl, ap, ◌∙◌, ℕ, List, [], ◌∷◌, ◌++◌, Bool as Truth, true, false, ◌&&◌, ◌||◌, cond}
use Rattle.rb_trees.specs.mirror.Code.{Expr, Exprs, Lit, Name, This, Unary, Binary, Field, Call, Index, New, Items, Taken, NoExprs, MoreExprs, Stmt, Val, Var, Assign, Run, Print, Throw, If, While, For, Try, Batch}
use Rattle.rb_meaning_flow.specs.Facts.{Facts, is_remote, over_rows}
use Rattle.rb_meaning_flow.specs.Scopes.{Scope}
use Rattle.rb_meaning_flow.specs.Portable.{portable, holds_call, any_holds_call, holds_operation, block_holds}
use Rattle.rb_meaning_flow.specs.Marks.{is_portable_call}
use Rattle.rb_meaning.specs.RemoteExprs.{remote_in, all_remote_in, remote_of}
use Rattle.rb_meaning_split.specs.Cuts.{counted, cut, cut_all, cut_stmt}

pub or_none : (a b : Truth) → (a || b) ≡ false → (a ≡ false) × (b ≡ false)
or_none true b h = absurd (cc (h))
or_none false b h = (refl, h)

and_none : (a b : Truth) → b ≡ false → (a && b) ≡ false
and_none true b h = h
and_none false b h = refl

pub both_empty : {A : Type 0} (xs ys : List A) → xs ≡ [] → ys ≡ [] → xs ++ ys ≡ []
both_empty [] ys e f = f
both_empty (x ∷ xs) ys e f = absurd (cc (e))

module _ (f : Facts) (vs : Scope) where
  not_whole : (e : Expr) → holds_call f e ≡ false → is_portable_call f vs e ≡ false
  not_whole e h = and_none (portable f vs e) (holds_call f e) h

  whole_none : (e : Expr) (es : List Expr) → holds_call f e ≡ false → es ≡ [] → cond (is_portable_call f vs e) (e ∷ []) es ≡ []
  whole_none e es h none = ap (λ t. cond t (e ∷ []) es) (not_whole e h) ∙ none

  taken_none : (e taken parts : Expr) → holds_call f e ≡ false → parts ≡ e → cond (is_portable_call f vs e) taken parts ≡ e
  taken_none e taken parts h same = ap (λ t. cond t taken parts) (not_whole e h) ∙ same

  mutual
    pub nothing_taken : (e : Expr) → holds_call f e ≡ false → remote_in f vs e ≡ []
    nothing_taken (Lit at v) h = refl
    nothing_taken (Name at name) h = refl
    nothing_taken (This at) h = refl
    nothing_taken (Unary at op a) h = whole_none (Unary at op a) (remote_in f vs a) h (nothing_taken a h)
    nothing_taken (Binary at op a b) h =
        let t = or_none (holds_call f a) (holds_call f b) h in
        whole_none (Binary at op a b) (remote_in f vs a ++ remote_in f vs b) h (both_empty (remote_in f vs a) (remote_in f vs b) (nothing_taken a t.0) (nothing_taken b t.1))
    nothing_taken (Field at a name) h = nothing_taken a h
    nothing_taken (Call at a method args) h =
        let t = or_none (is_remote f a || holds_call f a) (any_holds_call f args) h in
        let u = or_none (is_remote f a) (holds_call f a) t.0 in
        whole_none (Call at a method args) (remote_in f vs a ++ all_remote_in f vs args) h (both_empty (remote_in f vs a) (all_remote_in f vs args) (nothing_taken a u.1) (none_taken args t.1))
    nothing_taken (Index at a b) h = let t = or_none (holds_call f a) (holds_call f b) h in both_empty (remote_in f vs a) (remote_in f vs b) (nothing_taken a t.0) (nothing_taken b t.1)
    nothing_taken (New at class args) h = none_taken args h
    nothing_taken (Items at item items) h = none_taken items h
    nothing_taken (Taken at step) h = refl

    pub none_taken : (es : Exprs) → any_holds_call f es ≡ false → all_remote_in f vs es ≡ []
    none_taken NoExprs h = refl
    none_taken (MoreExprs e es) h = let t = or_none (holds_call f e) (any_holds_call f es) h in both_empty (remote_in f vs e) (all_remote_in f vs es) (nothing_taken e t.0) (none_taken es t.1)

  mutual
    pub not_cut : (n : ℕ) (e : Expr) → holds_call f e ≡ false → cut f vs n e ≡ e
    not_cut n (Lit at v) h = refl
    not_cut n (Name at name) h = refl
    not_cut n (This at) h = refl
    not_cut n (Unary at op a) h = taken_none (Unary at op a) _ (Unary at op (cut f vs n a)) h (ap (Unary at op) (not_cut n a h))
    not_cut n (Binary at op a b) h =
        let t = or_none (holds_call f a) (holds_call f b) h in
        let m = counted (remote_in f vs a) n in
        taken_none (Binary at op a b) _ (Binary at op (cut f vs n a) (cut f vs m b)) h (ap (λ q. Binary at op q (cut f vs m b)) (not_cut n a t.0) ∙ ap (Binary at op a) (not_cut m b t.1))
    not_cut n (Field at a name) h = ap (λ q. Field at q name) (not_cut n a h)
    not_cut n (Call at a method args) h =
        let t = or_none (is_remote f a || holds_call f a) (any_holds_call f args) h in
        let u = or_none (is_remote f a) (holds_call f a) t.0 in
        let m = counted (remote_in f vs a) n in
        taken_none (Call at a method args) _ (Call at (cut f vs n a) method (cut_all f vs m args)) h (ap (λ q. Call at q method (cut_all f vs m args)) (not_cut n a u.1) ∙ ap (Call at a method) (none_cut m args t.1))
    not_cut n (Index at a b) h =
        let t = or_none (holds_call f a) (holds_call f b) h in
        let m = counted (remote_in f vs a) n in
        ap (λ q. Index at q (cut f vs m b)) (not_cut n a t.0) ∙ ap (Index at a) (not_cut m b t.1)
    not_cut n (New at class args) h = ap (New at class) (none_cut n args h)
    not_cut n (Items at item items) h = ap (Items at item) (none_cut n items h)
    not_cut n (Taken at step) h = refl

    pub none_cut : (n : ℕ) (es : Exprs) → any_holds_call f es ≡ false → cut_all f vs n es ≡ es
    none_cut n NoExprs h = refl
    none_cut n (MoreExprs e es) h =
        let t = or_none (holds_call f e) (any_holds_call f es) h in
        let m = counted (remote_in f vs e) n in
        ap (λ q. MoreExprs q (cut_all f vs m es)) (not_cut n e t.0) ∙ ap (MoreExprs e) (none_cut m es t.1)

  one_none : (e : Expr) → holds_call f e ≡ false → remote_in f vs e ++ [] ≡ []
  one_none e h = both_empty (remote_in f vs e) [] (nothing_taken e h) refl

  -- nothing is taken by a statement in which no remote operation stands
  pub stmt_takes_none : (s : Stmt) → holds_operation f s ≡ false → remote_of f vs s ≡ []
  stmt_takes_none (Val at name e) h = one_none e h
  stmt_takes_none (Var at name e) h = one_none e h
  stmt_takes_none (Assign at a b) h =
      let t = or_none (holds_call f a) (holds_call f b) h in both_empty (remote_in f vs a) (remote_in f vs b ++ []) (nothing_taken a t.0) (one_none b t.1)
  stmt_takes_none (Run at e) h = one_none e h
  stmt_takes_none (Print at e) h = one_none e h
  stmt_takes_none (Throw at e) h = one_none e h
  stmt_takes_none (If at c a b) h = one_none c (or_none (holds_call f c) (block_holds f a) (or_none (holds_call f c || block_holds f a) (block_holds f b) h).0).0
  stmt_takes_none (While at c a) h = one_none c (or_none (holds_call f c) (block_holds f a) h).0
  stmt_takes_none (For at name e a) h = one_none e (or_none (over_rows f e) (holds_call f e) (or_none (over_rows f e || holds_call f e) (block_holds f a) h).0).1
  stmt_takes_none (Try at a name b) h = refl
  stmt_takes_none (Batch at interface root a) h = refl

  pub stmt_not_cut : (n : ℕ) (s : Stmt) → holds_operation f s ≡ false → cut_stmt f vs n s ≡ s
  stmt_not_cut n (Val at name e) h = ap (Val at name) (not_cut n e h)
  stmt_not_cut n (Var at name e) h = ap (Var at name) (not_cut n e h)
  stmt_not_cut n (Assign at a b) h =
      let t = or_none (holds_call f a) (holds_call f b) h in
      let m = counted (remote_in f vs a) n in
      ap (λ q. Assign at q (cut f vs m b)) (not_cut n a t.0) ∙ ap (Assign at a) (not_cut m b t.1)
  stmt_not_cut n (Run at e) h = ap (Run at) (not_cut n e h)
  stmt_not_cut n (Print at e) h = ap (Print at) (not_cut n e h)
  stmt_not_cut n (Throw at e) h = ap (Throw at) (not_cut n e h)
  stmt_not_cut n (If at c a b) h = ap (λ q. If at q a b) (not_cut n c (or_none (holds_call f c) (block_holds f a) (or_none (holds_call f c || block_holds f a) (block_holds f b) h).0).0)
  stmt_not_cut n (While at c a) h = ap (λ q. While at q a) (not_cut n c (or_none (holds_call f c) (block_holds f a) h).0)
  stmt_not_cut n (For at name e a) h = ap (λ q. For at name q a) (not_cut n e (or_none (over_rows f e) (holds_call f e) (or_none (over_rows f e || holds_call f e) (block_holds f a) h).0).1)
  stmt_not_cut n (Try at a name b) h = refl
  stmt_not_cut n (Batch at interface root a) h = refl
