-- The productions of statements and blocks keep what holds of parts.
use Rattle.std.proofs.Common.{◌≡◌, ℕ, suc, ◌+◌, ◌≤◌, true, false, List, [], ◌∷◌, refl, sym, subst, ◌∙◌, arith}
use Rattle.rb_trees.specs.declared.tokens.TokenKind.{TokenKind}
use Rattle.rb_trees.specs.declared.tokens.TokenKind.TheVariants as kind
use Rattle.rb_trees.specs.mirror.Code.{Expr, Stmts}
use Rattle.rb_meaning_bytes.specs.tokens.Lists.{is_minus}
use Rattle.rb_trees.specs.Kinds as k
use Rattle.rb_trees.specs.Kinds.{is_kind, is_one_of}
use Rattle.rb_meaning_bytes.specs.grammar.Symbols as s
use Rattle.rb_meaning_bytes.specs.grammar.Symbols.{Symbol, TreeOf, Makes}
use Rattle.rb_meaning_bytes.specs.grammar.Productions as r
use Rattle.rb_meaning_bytes.specs.grammar.Productions.{Production}
use Rattle.rb_meaning_bytes.specs.grammar.Limits.{Nesting, after}
use Rattle.rb_parse.proofs.readable.Trees.{IsReadOutermost, IsReadStmt, AreReadStmts}
use Rattle.rb_parse.proofs.readable.States.{Room, afters, Ready, Goes, goes_on, all_still, stills}
use Rattle.rb_parse.proofs.readable.Heads.{Opens, block_opens, block_closes}
use Rattle.rb_parse.proofs.readable.Steps.{openers, Fit, Rest, led, Placed, Stated, outermost}
use Rattle.rb_parse.proofs.readable.Invariants.{Keeping}

-- a statement may begin behind this token
rested : (n m : Nesting) (a : TokenKind) → is_one_of a openers ≡ false → is_minus a ≡ false → Ready m → Goes n (after m a) → n.types ≡ 0 → Rest (after m a)
rested n m a h i r g flat = record { fit = led n m a h r g flat; no_minus = i }

-- An outermost expression behind a head.
record Headed (n : Nesting) (e : Expr) (m : Nesting) : Type 0 where
  goes : Goes n m
  read : IsReadOutermost e

-- an outermost expression behind tokens
headed : (ks : List TokenKind) → all_still ks ≡ true → (n m : Nesting) (e : Expr) → is_one_of (afters n ks).last openers ≡ false → is_kind (afters n ks).before k.keyword_fun ≡ false → is_minus (afters n ks).last ≡ false
    → (Fit (afters n ks) → Placed (afters n ks) 0 e m) → Room m → Ready n → n.types ≡ 0 → Headed n e m
headed ks h n m e i j l g room ready flat =
    let a = stills ks h n ready in
    let b = g (record { ready = a.ready; no_opener = i; no_fun = j; flat = a.types ∙ flat }) in
    record {
      goes = goes_on a (record { ready = b.step.fit.ready; blocks = b.step.blocks; types = b.step.fit.flat ∙ sym (a.types ∙ flat) });
      read = outermost (afters n ks) m e l b room;
    }

-- the semicolon behind an expression ends a statement
ended : {n m : Nesting} {e : Expr} {P : Type 0} → Headed n e m → n.types ≡ 0 → P → Stated n P (after m k.sign_semicolon)
ended {n} {m} {e} a flat read =
    let g = goes_on a.goes (stills (k.sign_semicolon ∷ []) refl m a.goes.ready) in
    record { rest = rested n m k.sign_semicolon refl refl a.goes.ready g flat; blocks = g.blocks; read = read }

bracketed : {n m : Nesting} {e : Expr} → Headed n e m → Headed n e (after m k.sign_close)
bracketed {n} {m} a = record { goes = goes_on a.goes (stills (k.sign_close ∷ []) refl m a.goes.ready); read = a.read }

-- statements in as many blocks
same_stmts : {n m : ℕ} (x : Stmts) → m ≡ n → AreReadStmts (suc m) x → AreReadStmts (suc n) x
same_stmts {n} {m} x h a = subst (λ z. AreReadStmts (suc z) x) h a

same_room : {n m : ℕ} → m ≡ n → suc m ≤ 64 → suc n ≤ 64
same_room {n} {m} h a = omega arith

-- a head, and a block behind it
blocked : {n m o : Nesting} (x : Stmts) → Goes n m → (Ready m → m.types ≡ 0 → Stated m ((suc m.blocks ≤ 64) × AreReadStmts (suc m.blocks) x) o) → n.types ≡ 0 → Stated n ((suc n.blocks ≤ 64) × AreReadStmts (suc n.blocks) x) o
blocked {n} {m} {o} x a g flat =
    let b = g a.ready (a.types ∙ flat) in
    record { rest = b.rest; blocks = b.blocks ∙ a.blocks; read = (same_room a.blocks b.read.0, same_stmts x a.blocks b.read.1) }

pub at_statement : {source : List ℕ} {l : List Symbol} {f : Makes l (TreeOf s.Statement)} → Production source s.Statement l f → Keeping source s.Statement l f
at_statement r.val = λ n ys run rest.
    let a = headed (k.keyword_val ∷ kind.Name ∷ k.sign_assign ∷ []) refl n run.2.2.2.0 ys.1.1.1.0 refl refl refl run.2.2.2.2 run.2.2.2.1 rest.fit.ready rest.fit.flat in
    ended a rest.fit.flat (run.2.1, a.read)
at_statement r.var = λ n ys run rest.
    let a = headed (k.keyword_var ∷ kind.Name ∷ k.sign_assign ∷ []) refl n run.2.2.2.0 ys.1.1.1.0 refl refl refl run.2.2.2.2 run.2.2.2.1 rest.fit.ready rest.fit.flat in
    ended a rest.fit.flat (run.2.1, a.read)
at_statement r.print = λ n ys run rest.
    let a = headed (k.keyword_print ∷ k.sign_open ∷ []) refl n run.2.2.0 ys.1.1.0 refl refl refl run.2.2.2 run.2.2.1 rest.fit.ready rest.fit.flat in
    ended (bracketed a) rest.fit.flat a.read
at_statement r.throw = λ n ys run rest.
    let a = headed (k.keyword_throw ∷ []) refl n run.2.0 ys.1.0 refl rest.fit.ready.no_fun refl run.2.2 run.2.1 rest.fit.ready rest.fit.flat in
    ended a rest.fit.flat a.read
at_statement r.«if» = λ n ys run rest.
    let a = headed (k.keyword_if ∷ k.sign_open ∷ []) refl n run.2.2.0 ys.1.1.0 refl refl refl run.2.2.2 run.2.2.1 rest.fit.ready rest.fit.flat in
    let b = blocked ys.1.1.1.1.0 (bracketed a).goes run.2.2.3.2.2 rest.fit.flat in
    let c = run.2.2.3.2.3.2 b.rest in
    record { rest = c.rest; blocks = c.blocks ∙ b.blocks; read = (a.read, b.read.0, b.read.1, same_stmts ys.1.1.1.1.1.0 b.blocks c.read) }
at_statement r.while = λ n ys run rest.
    let a = headed (k.keyword_while ∷ k.sign_open ∷ []) refl n run.2.2.0 ys.1.1.0 refl refl refl run.2.2.2 run.2.2.1 rest.fit.ready rest.fit.flat in
    let b = blocked ys.1.1.1.1.0 (bracketed a).goes run.2.2.3.2.2 rest.fit.flat in
    record { rest = b.rest; blocks = b.blocks; read = (a.read, b.read.0, b.read.1) }
at_statement r.for = λ n ys run rest.
    let a = headed (k.keyword_for ∷ k.sign_open ∷ kind.Name ∷ k.keyword_in ∷ []) refl n run.2.2.2.2.0 ys.1.1.1.1.0 refl refl refl run.2.2.2.2.2 run.2.2.2.2.1 rest.fit.ready rest.fit.flat in
    let b = blocked ys.1.1.1.1.1.1.0 (bracketed a).goes run.2.2.2.2.3.2.2 rest.fit.flat in
    record { rest = b.rest; blocks = b.blocks; read = (run.2.2.1, a.read, b.read.0, b.read.1) }
at_statement r.try = λ n ys run rest.
    let a = blocked ys.1.0 (stills (k.keyword_try ∷ []) refl n rest.fit.ready) run.2.2 rest.fit.flat in
    let b = blocked ys.1.1.1.1.1.1.0 (stills (k.keyword_catch ∷ k.sign_open ∷ kind.Name ∷ k.sign_close ∷ []) refl run.2.0 a.rest.fit.ready) run.2.3.2.2.2.2.2 a.rest.fit.flat in
    record { rest = b.rest; blocks = b.blocks ∙ a.blocks; read = (run.2.3.2.2.1, a.read.0, a.read.1, same_stmts ys.1.1.1.1.1.1.0 a.blocks b.read.1) }
at_statement r.batch = λ n ys run rest.
    let a = blocked ys.1.1.1.1.1.0 (stills (k.keyword_batch ∷ k.sign_open ∷ kind.Name ∷ kind.Name ∷ k.sign_close ∷ []) refl n rest.fit.ready) run.2.2.2.2.2.2 rest.fit.flat in
    record { rest = a.rest; blocks = a.blocks; read = (run.2.2.1, run.2.2.2.1, a.read.0, a.read.1) }
at_statement r.expression_first = λ n ys run rest.
    let a = run.2 rest.fit in
    let b = run.3.2 a.step.fit in
    record { rest = b.rest; blocks = b.blocks ∙ a.step.blocks; read = subst (λ z. IsReadStmt z (ys.1.0 ys.0)) a.step.blocks (b.read ys.0 (outermost n run.0 ys.0 rest.no_minus a run.1)) }

pub at_statement_end : {source : List ℕ} {l : List Symbol} {f : Makes l (TreeOf s.StatementEnd)} → Production source s.StatementEnd l f → Keeping source s.StatementEnd l f
at_statement_end r.alone = λ n ys run fit.
    let a = stills (k.sign_semicolon ∷ []) refl n fit.ready in
    record { rest = rested n n k.sign_semicolon refl refl fit.ready a fit.flat; blocks = a.blocks; read = λ e h. h }
at_statement_end r.assigned = λ n ys run fit.
    let a = headed (k.sign_assign ∷ []) refl n run.2.0 ys.1.0 refl fit.ready.no_fun refl run.2.2 run.2.1 fit.ready fit.flat in
    ended a fit.flat (λ e h. (h, a.read))

pub at_otherwise : {source : List ℕ} {l : List Symbol} {f : Makes l (TreeOf s.Otherwise)} → Production source s.Otherwise l f → Keeping source s.Otherwise l f
at_otherwise r.no_else = λ n ys run rest. record { rest = rest; blocks = refl; read = tt }
at_otherwise r.«else» = λ n ys run rest.
    let a = blocked ys.1.0 (stills (k.keyword_else ∷ []) refl n rest.fit.ready) run.2.2 rest.fit.flat in
    record { rest = a.rest; blocks = a.blocks; read = a.read.1 }

pub at_statements : {source : List ℕ} {l : List Symbol} {f : Makes l (TreeOf s.Statements)} → Production source s.Statements l f → Keeping source s.Statements l f
at_statements r.no_statements = λ n ys run rest. record { rest = rest; blocks = refl; read = tt }
at_statements r.more_statements = λ n ys run rest.
    let a = run.2 rest in
    let b = run.3.2 a.rest in
    record { rest = b.rest; blocks = b.blocks ∙ a.blocks; read = (a.read, subst (λ z. AreReadStmts z ys.1.0) a.blocks b.read) }

block_rests : (n : Nesting) → Ready n → Opens n (after n k.sign_open_brace) → n.types ≡ 0 → Rest (after n k.sign_open_brace)
block_rests n r a flat = record { fit = record { ready = a.ready; no_opener = refl; no_fun = r.no_fun; flat = a.types ∙ flat }; no_minus = refl }

goes_of : {n m : Nesting} {P : Type 0} → Stated n P m → n.types ≡ 0 → Goes n m
goes_of a flat = record { ready = a.rest.fit.ready; blocks = a.blocks; types = a.rest.fit.flat ∙ sym flat }

one_more : (n m : ℕ) → m ≡ n + 1 → m ≡ suc n
one_more n m h = omega arith

pub at_block : {source : List ℕ} {l : List Symbol} {f : Makes l (TreeOf s.Block)} → Production source s.Block l f → Keeping source s.Block l f
at_block r.block = λ n ys run ready flat.
    let a = block_opens n ready run.0 in
    let flat_in = a.types ∙ flat in
    let b = run.2.2 (block_rests n ready a flat) in
    let c = block_closes n (after n k.sign_open_brace) run.2.0 ready a (goes_of b flat_in) in
    let same : (after n k.sign_open_brace).blocks ≡ suc n.blocks = one_more n.blocks (after n k.sign_open_brace).blocks a.blocks in
    record {
      rest = rested n run.2.0 k.sign_close_brace refl refl b.rest.fit.ready c flat;
      blocks = c.blocks;
      read = (subst (λ z. z ≤ 64) same run.0.blocks, subst (λ z. AreReadStmts z ys.1.0) same b.read);
    }

pub at_returns : {source : List ℕ} {l : List Symbol} {f : Makes l (TreeOf s.Returns)} → Production source s.Returns l f → Keeping source s.Returns l f
at_returns r.no_return = λ n ys run ready flat. record { goes = stills [] refl n ready; read = tt }
at_returns r.«return» = λ n ys run ready flat.
    let a = headed (k.keyword_return ∷ []) refl n run.2.0 ys.1.0 refl ready.no_fun refl run.2.2 run.2.1 ready flat in
    record { goes = goes_on a.goes (stills (k.sign_semicolon ∷ []) refl run.2.0 a.goes.ready); read = a.read }

first_block : (n m : ℕ) → m ≡ n + 1 → n ≡ 0 → m ≡ 1
first_block n m h i = omega arith

pub at_body : {source : List ℕ} {l : List Symbol} {f : Makes l (TreeOf s.ABody)} → Production source s.ABody l f → Keeping source s.ABody l f
at_body r.body = λ n ys run ready flat outside.
    let a = block_opens n ready run.0 in
    let flat_in = a.types ∙ flat in
    let b = run.2.2 (block_rests n ready a flat) in
    let c = run.2.3.2 b.rest.fit.ready b.rest.fit.flat in
    record {
      goes = block_closes n (after n k.sign_open_brace) run.2.3.0 ready a (goes_on (goes_of b flat_in) c.goes);
      read = (subst (λ z. AreReadStmts z ys.1.0) (first_block n.blocks (after n k.sign_open_brace).blocks a.blocks outside) b.read, c.read);
    }
