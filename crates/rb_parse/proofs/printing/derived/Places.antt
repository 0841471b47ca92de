-- The places of expressions, and what derives an expression there.
use Rattle.std.proofs.Common.{◌≡◌, ℕ, suc, zero, ◌≤◌, ◌<◌, nat_lt, Bool, true, false, cond, List, [], ◌++◌, refl, ap, sym, ◌∙◌, subst, arith, append_assoc, append-nil}
use Rattle.std.proofs.lemmas.Bool.{ltb-false}
use Rattle.std.proofs.lemmas.Bool.Decides.{nat_tests}
use Rattle.rb_trees.specs.mirror.Code.{Expr}
use Rattle.rb_trees.specs.printing.Pieces.{Piece}
use Rattle.rb_trees.specs.printing.Exprs.{level_of, in_parentheses, placed_at}
use Rattle.rb_trees.specs.printing.Unplaced.{unplaced_expr}
use Rattle.rb_meaning_bytes.specs.grammar.Symbols as s
use Rattle.rb_meaning_bytes.specs.grammar.Symbols.{Nonterminal, TreeOf, Level, Chain, MoreChain}
use Rattle.rb_meaning_bytes.specs.grammar.Productions as r
use Rattle.rb_parse.proofs.printing.derived.Made.{MadePart, end, token, the, last, by}

-- the expression, but for positions
abbrev pub Is : Expr → Expr → Type 0
Is e x = unplaced_expr x ≡ unplaced_expr e

-- what follows an expression makes this of it, but for positions
abbrev pub Goes : (Expr → Expr) → (Expr → Expr) → Type 0
Goes g f = (left : Expr) → unplaced_expr (f left) ≡ g (unplaced_expr left)

module _ (source : List ℕ) where
  -- an expression before more operands of its level
  abbrev pub OpenChain : Level → Expr → List Piece → Type 0
  OpenChain level e ps = (more : List Piece) (g : Expr → Expr) → MadePart source (MoreChain level) more (λ f. Goes g f) → MadePart source (Chain level) (ps ++ more) (λ x. unplaced_expr x ≡ g (unplaced_expr e))

  -- an expression before members and indexes
  abbrev pub OpenPostfix : Expr → List Piece → Type 0
  OpenPostfix e ps = (more : List Piece) (g : Expr → Expr) → MadePart source s.Members more (λ f. Goes g f) → MadePart source s.Postfix (ps ++ more) (λ x. unplaced_expr x ≡ g (unplaced_expr e))

  -- The pieces are derived as the expression at a place of the level.
  abbrev pub At : ℕ → Expr → List Piece → Type 0
  At zero e ps = OpenChain s.OrLevel e ps
  At (suc zero) e ps = OpenChain s.AndLevel e ps
  At (suc (suc zero)) e ps = MadePart source (Chain s.SameLevel) ps (λ x. Is e x)
  At (suc (suc (suc zero))) e ps = MadePart source (Chain s.OrderLevel) ps (λ x. Is e x)
  At (suc (suc (suc (suc zero)))) e ps = OpenChain s.SumLevel e ps
  At (suc (suc (suc (suc (suc zero))))) e ps = OpenChain s.ProductLevel e ps
  At (suc (suc (suc (suc (suc (suc zero)))))) e ps = MadePart source s.Prefix ps (λ x. Is e x)
  At (suc (suc (suc (suc (suc (suc (suc zero))))))) e ps = OpenPostfix e ps
  At (suc (suc (suc (suc (suc (suc (suc (suc n)))))))) e ps = MadePart source s.First ps (λ x. Is e x)

  -- no more operands
  pub no_more : (level : Level) → MadePart source (MoreChain level) [] (λ f. Goes (λ x. x) f)
  no_more level = by (r.last_operand level) (end λ left. refl)

  -- an expression with nothing behind it
  pub closed : (level : Level) (e : Expr) (ps : List Piece) → OpenChain level e ps → MadePart source (Chain level) ps (λ x. Is e x)
  closed level e ps h = subst (λ qs. MadePart source (Chain level) qs (λ x. Is e x)) (append-nil ps) (h [] (λ x. x) (no_more level))

  closed_postfix : (e : Expr) (ps : List Piece) → OpenPostfix e ps → MadePart source s.Postfix ps (λ x. Is e x)
  closed_postfix e ps h = subst (λ qs. MadePart source s.Postfix qs (λ x. Is e x)) (append-nil ps) (h [] (λ x. x) (by r.no_members (end λ left. refl)))

  nothing_behind : {p : Nonterminal} {P : TreeOf p → Type 0} (ps : List Piece) → MadePart source p (ps ++ []) P → MadePart source p ps P
  nothing_behind {p} {P} ps m = subst (λ qs. MadePart source p qs P) (append-nil ps) m

  -- an expression of the next level
  up : (n : ℕ) (e : Expr) (ps : List Piece) → At (suc n) e ps → At n e ps
  up zero e ps h = λ more g m. by r.alternatives (the (closed s.AndLevel e ps h) λ x k. last m λ f l. l x ∙ ap g k)
  up (suc zero) e ps h = λ more g m. by r.conditions (the h λ x k. last m λ f l. l x ∙ ap g k)
  up (suc (suc zero)) e ps h = nothing_behind ps (by r.comparison (the h λ x k. last (no_more s.SameLevel) λ f l. l x ∙ k))
  up (suc (suc (suc zero))) e ps h = nothing_behind ps (by r.ordering (the (closed s.SumLevel e ps h) λ x k. last (no_more s.OrderLevel) λ f l. l x ∙ k))
  up (suc (suc (suc (suc zero)))) e ps h = λ more g m. by r.sum (the (closed s.ProductLevel e ps h) λ x k. last m λ f l. l x ∙ ap g k)
  up (suc (suc (suc (suc (suc zero))))) e ps h = λ more g m. by r.product (the h λ x k. last m λ f l. l x ∙ ap g k)
  up (suc (suc (suc (suc (suc (suc zero)))))) e ps h = by r.postfix (last (closed_postfix e ps h) λ x k. k)
  up (suc (suc (suc (suc (suc (suc (suc zero))))))) e ps h = λ more g m. by r.first (the h λ x k. last m λ f l. l x ∙ ap g k)
  up (suc (suc (suc (suc (suc (suc (suc (suc n)))))))) e ps h = h

  -- an expression of a level stands at each place of it or a lower one
  all_up : (n L : ℕ) (e : Expr) (ps : List Piece) → L ≤ n → At n e ps → At L e ps
  all_up zero L e ps h a = let z : zero ≡ L = omega arith in subst (λ k. At k e ps) z a
  all_up (suc n) L e ps h a = go (nat_lt n L) refl (λ l. all_up n L e ps l (up n e ps a))
    where
      go : (b : Bool) → nat_lt n L ≡ b → (L ≤ n → At L e ps) → At L e ps
      go true q f = let l : n < L = grind (arith, nat_tests) in let z : suc n ≡ L = omega arith in subst (λ k. At k e ps) z a
      go false q f = f (ltb-false n L q)

  in_brackets : (e : Expr) (ps : List Piece) → At zero e ps → MadePart source s.First (in_parentheses ps) (λ x. Is e x)
  in_brackets e ps h = by r.inside (token λ t i. the (closed s.OrLevel e ps h) λ x k. token λ u j. end k)

  -- an expression at a place, in parentheses where they are needed
  pub placed : (L : ℕ) (e : Expr) (ps : List Piece) → At (level_of e) e ps → At L e (placed_at L e ps)
  placed L e ps a = go (nat_lt (level_of e) L) refl
    where
      go : (b : Bool) → nat_lt (level_of e) L ≡ b → At L e (cond b (in_parentheses ps) ps)
      go true q = all_up (suc (suc (suc (suc (suc (suc (suc (suc L)))))))) L e (in_parentheses ps) (omega arith) (in_brackets e ps (all_up (level_of e) zero e ps (omega arith) a))
      go false q = all_up (level_of e) L e ps (ltb-false (level_of e) L q) a

  -- an expression where any may stand
  pub outermost : (e : Expr) (ps : List Piece) → At (level_of e) e ps → MadePart source (Chain s.OrLevel) ps (λ x. Is e x)
  outermost e ps a = closed s.OrLevel e ps (all_up (level_of e) zero e ps (omega arith) a)

  -- what stands before more makes an open expression with it
  pub opened : (level : Level) (a e : Expr) (ps qs : List Piece) (w : Expr → Expr) → OpenChain level a ps → unplaced_expr e ≡ w (unplaced_expr a)
      → ((more : List Piece) (g : Expr → Expr) → MadePart source (MoreChain level) more (λ f. Goes g f) → MadePart source (MoreChain level) (qs ++ more) (λ f. Goes (λ left. g (w left)) f))
      → OpenChain level e (ps ++ qs)
  opened level a e ps qs w h q k = λ more g m.
      subst (λ l. MadePart source (Chain level) l (λ x. unplaced_expr x ≡ g (unplaced_expr e))) (sym (append_assoc ps qs more))
      (subst (λ z. MadePart source (Chain level) (ps ++ (qs ++ more)) (λ x. unplaced_expr x ≡ g z)) (sym q) (h (qs ++ more) (λ left. g (w left)) (k more g m)))

  pub opened_postfix : (a e : Expr) (ps qs : List Piece) (w : Expr → Expr) → OpenPostfix a ps → unplaced_expr e ≡ w (unplaced_expr a)
      → ((more : List Piece) (g : Expr → Expr) → MadePart source s.Members more (λ f. Goes g f) → MadePart source s.Members (qs ++ more) (λ f. Goes (λ left. g (w left)) f))
      → OpenPostfix e (ps ++ qs)
  opened_postfix a e ps qs w h q k = λ more g m.
      subst (λ l. MadePart source s.Postfix l (λ x. unplaced_expr x ≡ g (unplaced_expr e))) (sym (append_assoc ps qs more))
      (subst (λ z. MadePart source s.Postfix (ps ++ (qs ++ more)) (λ x. unplaced_expr x ≡ g z)) (sym q) (h (qs ++ more) (λ left. g (w left)) (k more g m)))
