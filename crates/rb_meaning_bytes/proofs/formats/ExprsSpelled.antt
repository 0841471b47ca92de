-- An expression that is formed and within the limit spells its bytes, wherever its texts are those that are used.
use Rattle.std.proofs.Common.{◌≡◌, ℕ, zero, suc, ◌<◌, ◌≤◌, List, [], ◌∷◌, ◌++◌, refl, ap, sym, subst, arith, append_assoc, append-nil}
use Rattle.std.proofs.lemmas.Bool.{le-leb}
use Rattle.rb_trees.specs.declared.code.UnOp.{UnOp}
use Rattle.rb_trees.specs.declared.code.UnOp.TheVariants as un
use Rattle.rb_trees.specs.declared.code.BinOp.{BinOp}
use Rattle.rb_trees.specs.declared.code.BinOp.TheVariants as bin
use Rattle.rb_trees.specs.declared.versions.Version.{Version}
use Rattle.rb_trees.specs.mirror.Scripts as tree
use Rattle.rb_trees.specs.mirror.Scripts.{SExpr, SExprs, sexprs_from}
use Rattle.rb_meaning_bytes.specs.formats.Fields.{Byte}
use Rattle.rb_meaning_bytes.specs.formats.Formats.{the, Spells, done, more}
use Rattle.rb_meaning_bytes.specs.formats.Staged.{times}
use Rattle.rb_meaning_bytes.specs.formats.Values.{natural}
use Rattle.rb_meaning_bytes.specs.formats.Scripts.{unary_op, binary_op, kind, name, value, expr, expr_forms, call, whole_expr}
use Rattle.rb_meaning_bytes.specs.formats.ScriptBytes.{natural_bytes, literal_bytes, literal_texts, pooled_bytes, unary_code, binary_code, expr_bytes, exprs_bytes, expr_texts, exprs_texts, count_exprs}
use Rattle.rb_meaning_bytes.specs.formats.FormedScripts.{FormedExpr, FormedExprs, Within, AllWithin, WholeWithin}
use Rattle.rb_meaning_bytes.proofs.formats.Values.{natural_spelled}
use Rattle.rb_meaning_bytes.proofs.formats.StagedSpelled.{Writes, shifted, given, behind, behind_same, lastly, below}
use Rattle.rb_meaning_bytes.proofs.formats.PooledTexts.{IsPool, alone, name_spelled, literal_spelled}
use Rattle.rb_meaning_bytes.proofs.formats.PoolLaws.{Words}

unary_spelled : (op : UnOp) → Spells unary_op (unary_code op ∷ []) op
unfolding unary_op
unary_spelled un.Not = more 1 (refl, omega arith) (done un.Not)
unary_spelled un.Neg = more 2 (refl, omega arith) (done un.Neg)
unary_spelled un.Len = more 3 (refl, omega arith) (done un.Len)
unary_spelled un.Str = more 4 (refl, omega arith) (done un.Str)

binary_spelled : (op : BinOp) → Spells binary_op (binary_code op ∷ []) op
unfolding binary_op
binary_spelled bin.Add = more 1 (refl, omega arith) (done bin.Add)
binary_spelled bin.Sub = more 2 (refl, omega arith) (done bin.Sub)
binary_spelled bin.Mul = more 3 (refl, omega arith) (done bin.Mul)
binary_spelled bin.Div = more 4 (refl, omega arith) (done bin.Div)
binary_spelled bin.Rem = more 5 (refl, omega arith) (done bin.Rem)
binary_spelled bin.Eq = more 6 (refl, omega arith) (done bin.Eq)
binary_spelled bin.Ne = more 7 (refl, omega arith) (done bin.Ne)
binary_spelled bin.Lt = more 8 (refl, omega arith) (done bin.Lt)
binary_spelled bin.Le = more 9 (refl, omega arith) (done bin.Le)
binary_spelled bin.Gt = more 10 (refl, omega arith) (done bin.Gt)
binary_spelled bin.Ge = more 11 (refl, omega arith) (done bin.Ge)
binary_spelled bin.And = more 12 (refl, omega arith) (done bin.And)
binary_spelled bin.Or = more 13 (refl, omega arith) (done bin.Or)

kind_spelled : (k : ℕ) → k ≤ 8 → Spells kind (k ∷ []) k
unfolding kind
kind_spelled k h = more k (le-leb k 8 h, omega arith) (done k)

pub byte_spelled : (n : ℕ) → n < 256 → Spells (the Byte) (n ∷ []) n
byte_spelled n h = more n h (done n)

pub grouped_3 : (a b c : List ℕ) → a ++ (b ++ c) ≡ a ++ b ++ c
grouped_3 a b c = sym (append_assoc a b c)

pub grouped_5 : (a b c d e : List ℕ) → a ++ (b ++ (c ++ (d ++ e))) ≡ a ++ b ++ c ++ d ++ e
grouped_5 a b c d e = simp append_assoc

module _ (version : Version) (texts : Words) (pool : IsPool version texts) where
  abbrev numbered : ℕ → List ℕ
  numbered n = natural_bytes version n

  abbrev bytes_of : SExpr → List ℕ
  bytes_of e = expr_bytes version texts e

  abbrev all_bytes : SExprs → List ℕ
  all_bytes es = exprs_bytes version texts es

  -- the list of the items
  record Listed (n : ℕ) (es : SExprs) : Type 0 where
    items : List SExpr
    is : sexprs_from items ≡ es
    spells : Writes version texts (times (count_exprs es) (expr version texts n)) (all_bytes es) (exprs_texts es) items

  mutual
    unfolding expr times

    expr_spelled : (n : ℕ) (e : SExpr) → FormedExpr e → Within n e → Writes version texts (expr version texts n) (bytes_of e) (expr_texts e) e
    expr_spelled zero e h w = absurd w
    expr_spelled (suc n) (tree.Lit v) h w = below version texts (expr_forms version texts (expr version texts n)) 0x20 _ _ (tree.Lit v) refl (omega arith)
        (lastly version texts (value version texts) (λ x. tree.Lit x) (literal_bytes version texts v) (literal_texts v) v (literal_spelled version texts pool v h))
    expr_spelled (suc n) (tree.Input i) h w = below version texts (expr_forms version texts (expr version texts n)) 0x21 _ _ (tree.Input i) refl (omega arith)
        (behind_same version texts (the Byte) _ (i ∷ []) [] [] i (tree.Input i) (byte_spelled i h) (given version texts (tree.Input i)))
    expr_spelled (suc n) (tree.Var i) h w = below version texts (expr_forms version texts (expr version texts n)) 0x22 _ _ (tree.Var i) refl (omega arith)
        (shifted version texts (append-nil (numbered i)) refl
        (behind_same version texts (natural version) _ (numbered i) [] [] i (tree.Var i) (natural_spelled version i h) (given version texts (tree.Var i))))
    expr_spelled (suc n) tree.Root h w = below version texts (expr_forms version texts (expr version texts n)) 0x23 _ _ tree.Root refl (omega arith) (given version texts tree.Root)
    expr_spelled (suc n) (tree.Unary op at a) h w =
        below version texts (expr_forms version texts (expr version texts n)) 0x24 _ _ (tree.Unary op at a) refl (omega arith)
        (behind_same version texts unary_op _ (unary_code op ∷ []) (numbered at ++ bytes_of a) _ op _ (unary_spelled op)
        (behind_same version texts (natural version) _ (numbered at) (bytes_of a) _ at _ (natural_spelled version at h.0)
        (lastly version texts (expr version texts n) (λ x. tree.Unary op at x) (bytes_of a) (expr_texts a) a (expr_spelled n a h.1 w))))
    expr_spelled (suc n) (tree.Binary op at a b) h w =
        below version texts (expr_forms version texts (expr version texts n)) 0x25 _ _ (tree.Binary op at a b) refl (omega arith)
        (shifted version texts (ap (λ l. binary_code op ∷ l) (grouped_3 (numbered at) (bytes_of a) (bytes_of b))) refl
        (behind_same version texts binary_op _ (binary_code op ∷ []) (numbered at ++ (bytes_of a ++ bytes_of b)) _ op _ (binary_spelled op)
        (behind_same version texts (natural version) _ (numbered at) (bytes_of a ++ bytes_of b) _ at _ (natural_spelled version at h.0)
        (behind version texts (expr version texts n) _ (bytes_of a) (bytes_of b) (expr_texts a) (expr_texts b) a _ (expr_spelled n a h.1 w.0)
        (lastly version texts (expr version texts n) (λ x. tree.Binary op at a x) (bytes_of b) (expr_texts b) b (expr_spelled n b h.2 w.1))))))
    expr_spelled (suc n) (tree.Call at k method target args) h w =
        let l = exprs_spelled n args h.5 w.1 in
        let e : tree.Call at k method target (sexprs_from l.items) ≡ tree.Call at k method target args = ap (λ x. tree.Call at k method target x) l.is in
        let count = numbered (count_exprs args) in
        let named = pooled_bytes version texts method in
        below version texts (expr_forms version texts (expr version texts n)) 0x26 _ _ (tree.Call at k method target args) refl (omega arith)
        (subst (λ x. Writes version texts (call version texts (expr version texts n)) (numbered at ++ k ∷ named ++ bytes_of target ++ count ++ all_bytes args) (expr_texts (tree.Call at k method target args)) x) e
        (shifted version texts (grouped_5 (numbered at) (k ∷ named) (bytes_of target) count (all_bytes args)) refl
        (behind_same version texts (natural version) _ (numbered at) ((k ∷ named) ++ (bytes_of target ++ (count ++ all_bytes args))) _ at _ (natural_spelled version at h.0)
        (behind_same version texts kind _ (k ∷ []) (named ++ (bytes_of target ++ (count ++ all_bytes args))) _ k _ (kind_spelled k h.1)
        (behind version texts (name version texts) _ named (bytes_of target ++ (count ++ all_bytes args)) (alone method) (expr_texts target ++ exprs_texts args) method _ (name_spelled version texts method pool h.2)
        (behind version texts (expr version texts n) _ (bytes_of target) (count ++ all_bytes args) (expr_texts target) (exprs_texts args) target _ (expr_spelled n target h.3 w.0)
        (behind_same version texts (natural version) _ count (all_bytes args) (exprs_texts args) (count_exprs args) _ (natural_spelled version (count_exprs args) h.4)
        (lastly version texts (times (count_exprs args) (expr version texts n)) (λ xs. tree.Call at k method target (sexprs_from xs)) (all_bytes args) (exprs_texts args) l.items l.spells))))))))

    exprs_spelled : (n : ℕ) (es : SExprs) → FormedExprs es → AllWithin n es → Listed n es
    exprs_spelled n tree.NoSExprs h w = record { items = []; is = refl; spells = given version texts [] }
    exprs_spelled n (tree.MoreSExprs e es) h w =
        let l = exprs_spelled n es h.1 w.1 in
        record {
          items = e ∷ l.items;
          is = ap (tree.MoreSExprs e) l.is;
          spells = behind version texts (expr version texts n) _ (bytes_of e) (all_bytes es) (expr_texts e) (exprs_texts es) e _ (expr_spelled n e h.0 w.0)
              (lastly version texts (times (count_exprs es) (expr version texts n)) (λ xs. e ∷ xs) (all_bytes es) (exprs_texts es) l.items l.spells);
        }

  pub whole_spelled : (e : SExpr) → FormedExpr e → WholeWithin e → Writes version texts (whole_expr version texts) (expr_bytes version texts e) (expr_texts e) e
  unfolding whole_expr WholeWithin
  whole_spelled e h w = expr_spelled 256 e h w
