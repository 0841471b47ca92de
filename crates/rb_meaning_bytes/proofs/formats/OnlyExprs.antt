-- What an expression is spelled by is its bytes, it is formed, and its texts are those that were used.
use Rattle.std.proofs.Common.{◌≡◌, ℕ, zero, suc, ◌<◌, ◌≤◌, ◌^◌, nat_le, List, [], ◌∷◌, ◌++◌, refl, ap, sym, ◌∙◌, subst, append_assoc}
use Rattle.std.proofs.lemmas.Bool.{leb-true}
use Rattle.rb_trees.specs.declared.code.UnOp.{UnOp}
use Rattle.rb_trees.specs.declared.code.UnOp.TheVariants as un
use Rattle.rb_trees.specs.declared.code.BinOp.{BinOp}
use Rattle.rb_trees.specs.declared.code.BinOp.TheVariants as bin
use Rattle.rb_trees.specs.declared.versions.Version.{Version}
use Rattle.rb_trees.specs.mirror.Scripts as tree
use Rattle.rb_trees.specs.mirror.Scripts.{SExpr, sexprs_from}
use Rattle.rb_meaning_bytes.specs.formats.Fields.{Byte, Name, Tag, Fits}
use Rattle.rb_meaning_bytes.specs.formats.Formats.{the}
use Rattle.rb_meaning_bytes.specs.formats.Staged.{times}
use Rattle.rb_meaning_bytes.specs.formats.Values.{natural}
use Rattle.rb_meaning_bytes.specs.formats.Scripts.{unary_op, unary_ops, binary_op, binary_ops, kind, name, value, expr, expr_forms, whole_expr}
use Rattle.rb_meaning_bytes.specs.formats.ScriptBytes.{natural_bytes, literal_bytes, literal_texts, pooled_bytes, unary_code, binary_code, expr_bytes, exprs_bytes, expr_texts, exprs_texts, count_exprs}
use Rattle.rb_meaning_bytes.specs.formats.FormedScripts.{IsPrimitive, FormedExpr, FormedExprs, Within, AllWithin, WholeWithin}
use Rattle.rb_meaning_bytes.proofs.formats.Only.{Only, only_done, only_more, only_choose}
use Rattle.rb_meaning_bytes.proofs.formats.Values.{natural_only}
use Rattle.rb_meaning_bytes.proofs.formats.StagedOnly.{StagedOnly, staged_give, staged_bind, staged_same, staged_deeper, staged_choose, staged_times}
use Rattle.rb_meaning_bytes.proofs.formats.PooledTexts.{IsPool, alone, name_only, literal_only}
use Rattle.rb_meaning_bytes.proofs.formats.PoolLaws.{Words}

abbrev pub any : {A : Type 0} → A → Type 0
any x = Unit {0}

abbrev unary_bytes : UnOp → List ℕ
unary_bytes op = unary_code op ∷ []

abbrev binary_bytes : BinOp → List ℕ
binary_bytes op = binary_code op ∷ []

unary_only : Only unary_op [] unary_bytes any
unfolding unary_op
unary_only = only_choose unary_bytes any unary_ops (
  only_done _ _ un.Not _ refl tt,
  (only_done _ _ un.Neg _ refl tt, (only_done _ _ un.Len _ refl tt, (only_done _ _ un.Str _ refl tt, tt))),
)

binary_only : Only binary_op [] binary_bytes any
unfolding binary_op
binary_only = only_choose binary_bytes any binary_ops (
  only_done _ _ bin.Add _ refl tt,
  (
    only_done _ _ bin.Sub _ refl tt,
    (
      only_done _ _ bin.Mul _ refl tt,
      (
        only_done _ _ bin.Div _ refl tt,
        (
          only_done _ _ bin.Rem _ refl tt,
          (
            only_done _ _ bin.Eq _ refl tt,
            (
              only_done _ _ bin.Ne _ refl tt,
              (
                only_done _ _ bin.Lt _ refl tt,
                (
                  only_done _ _ bin.Le _ refl tt,
                  (
                    only_done _ _ bin.Gt _ refl tt,
                    (
                      only_done _ _ bin.Ge _ refl tt,
                      (
                        only_done _ _ bin.And _ refl tt,
                        (only_done _ _ bin.Or _ refl tt, tt),
                      ),
                    ),
                  ),
                ),
              ),
            ),
          ),
        ),
      ),
    ),
  ),
)

-- a byte as a number
abbrev pub one_byte : ℕ → List ℕ
one_byte n = n ∷ []

pub byte_only : Only (the Byte) [] one_byte (λ n. n < 256)
byte_only = only_more one_byte (λ n. n < 256) Byte _ [] (λ n h. only_done _ _ n _ refl h)

kind_only : Only kind [] one_byte (λ k. k ≤ 8)
unfolding kind
kind_only = only_more one_byte (λ k. k ≤ 8) (Tag (λ k. nat_le k 8)) _ [] (λ k h. only_done _ _ k _ refl (leb-true k 8 h.0))

-- an expression that is formed and stands within so many
abbrev Fine : ℕ → SExpr → Type 0
Fine n e = FormedExpr e × Within n e

-- an expression of a step that is formed and within the limit
abbrev pub Whole : SExpr → Type 0
Whole e = FormedExpr e × WholeWithin e

abbrev listed_formed : ℕ → ℕ → List SExpr → Type 0
listed_formed n count es = (count_exprs (sexprs_from es) ≡ count) × FormedExprs (sexprs_from es) × AllWithin n (sexprs_from es)

abbrev listed_texts : List SExpr → Words
listed_texts es = exprs_texts (sexprs_from es)

abbrev pub is_number : ℕ → Type 0
is_number n = n < 2 ^ 32

name_split : (a b c : List ℕ) (k : ℕ) → (a ++ k ∷ []) ++ b ++ c ≡ a ++ (k ∷ b) ++ c
name_split a b c k = simp append_assoc

module _ (version : Version) (texts : Words) (pool : IsPool version texts) where
  -- the bytes of a list of expressions
  abbrev listed_bytes : List SExpr → List ℕ
  listed_bytes es = exprs_bytes version texts (sexprs_from es)

  abbrev numbered : ℕ → List ℕ
  numbered n = natural_bytes version n

  abbrev named : List ℕ → List ℕ
  named t = pooled_bytes version texts t

  abbrev bytes_of : SExpr → List ℕ
  bytes_of e = expr_bytes version texts e

  abbrev texts_of : SExpr → Words
  texts_of e = expr_texts e

  abbrev OnlyExpr : ℕ → Type 0
  OnlyExpr n = StagedOnly version texts (expr version texts n) [] [] bytes_of texts_of (Fine n)

  args_only : (n : ℕ) → OnlyExpr n → (count : ℕ) → StagedOnly version texts (times count (expr version texts n)) [] [] listed_bytes listed_texts (listed_formed n count)
  args_only n one count = staged_times version texts (expr version texts n) bytes_of texts_of (Fine n) listed_bytes listed_texts (listed_formed n) refl refl (λ x xs. refl) (λ x xs. refl) (refl, tt, tt)
      (λ m x xs f l. (ap suc l.0, (f.0, l.1), (f.1, l.2))) one count

  -- a call's bytes behind each other
  call_bytes : (at k : ℕ) (method : List ℕ) (target : SExpr) (count : ℕ) (args : List SExpr) → count_exprs (sexprs_from args) ≡ count
      → (((((0x26 ∷ numbered at) ++ k ∷ []) ++ named method) ++ bytes_of target) ++ numbered count) ++ listed_bytes args ≡ bytes_of (tree.Call at k method target (sexprs_from args))
  call_bytes at k method target count args e =
      ap (λ m. (((((0x26 ∷ numbered at) ++ k ∷ []) ++ named method) ++ bytes_of target) ++ numbered m) ++ listed_bytes args) (sym e)
      ∙ ap (λ (w : List ℕ). 0x26 ∷ ((w ++ bytes_of target) ++ numbered (count_exprs (sexprs_from args))) ++ listed_bytes args) (append_assoc (numbered at) (k ∷ []) (named method))

  expr_from : (n : ℕ) → OnlyExpr n → OnlyExpr (suc n)
  unfolding expr
  expr_from n one =
      let p : SExpr → List ℕ = λ x. bytes_of x in
      let ws : SExpr → Words = λ x. texts_of x in
      let ok : SExpr → Type 0 = λ x. Fine (suc n) x in
      staged_choose version texts p ws ok (expr_forms version texts (expr version texts n)) (
        staged_bind version texts p ws ok (value version texts) _ _ _ (λ v. literal_bytes version texts v) (λ v. literal_texts v) IsPrimitive (literal_only version texts pool)
            (λ v h. staged_give version texts p ws ok (tree.Lit v) _ _ refl refl (h, tt)),
        (
          staged_same version texts p ws ok (the Byte) _ _ _ one_byte (λ i. i < 256) byte_only (λ i h. staged_give version texts p ws ok (tree.Input i) _ _ refl refl (h, tt)),
          (
            staged_same version texts p ws ok (natural version) _ _ _ numbered is_number (natural_only version) (λ i h. staged_give version texts p ws ok (tree.Var i) _ _ refl refl (h, tt)),
            (
              staged_give version texts p ws ok tree.Root _ _ refl refl (tt, tt),
              (
                staged_same version texts p ws ok unary_op _ _ _ unary_bytes any unary_only (λ op u.
                    staged_same version texts p ws ok (natural version) _ _ _ numbered is_number (natural_only version) (λ at h.
                    staged_bind version texts p ws ok (expr version texts n) _ _ _ bytes_of texts_of (Fine n) one (λ a i.
                    staged_give version texts p ws ok (tree.Unary op at a) _ _ refl refl ((h, i.0), i.1)))),
                (
                  staged_same version texts p ws ok binary_op _ _ _ binary_bytes any binary_only (λ op u.
                      staged_same version texts p ws ok (natural version) _ _ _ numbered is_number (natural_only version) (λ at h.
                      staged_bind version texts p ws ok (expr version texts n) _ _ _ bytes_of texts_of (Fine n) one (λ a i.
                      staged_bind version texts p ws ok (expr version texts n) _ _ _ bytes_of texts_of (Fine n) one (λ b j.
                      staged_give version texts p ws ok (tree.Binary op at a b) _ _ refl refl ((h, i.0, j.0), (i.1, j.1)))))),
                  (
                    staged_same version texts p ws ok (natural version) _ _ _ numbered is_number (natural_only version) (λ at h.
                        staged_same version texts p ws ok kind _ _ _ one_byte (λ k. k ≤ 8) kind_only (λ k t.
                        staged_bind version texts p ws ok (name version texts) _ _ _ named (λ m. alone m) (λ m. Fits Name m) (name_only version texts pool) (λ method m.
                        staged_bind version texts p ws ok (expr version texts n) _ _ _ bytes_of texts_of (Fine n) one (λ target i.
                        staged_same version texts p ws ok (natural version) _ _ _ numbered is_number (natural_only version) (λ count c.
                        staged_bind version texts p ws ok (times count (expr version texts n)) _ _ _ listed_bytes listed_texts (listed_formed n count) (args_only n one count) (λ args l.
                        staged_give version texts p ws ok (tree.Call at k method target (sexprs_from args)) _ _ (call_bytes at k method target count args l.0) refl
                        ((h, t, m, i.0, subst (λ m. m < 2 ^ 32) (sym l.0) c, l.1), (i.1, l.2)))))))),
                    tt,
                  ),
                ),
              ),
            ),
          ),
        ),
      )

  expr_only : (n : ℕ) → OnlyExpr n
  unfolding expr
  expr_only zero = staged_deeper version texts bytes_of texts_of (Fine 0) [] []
  expr_only (suc n) = expr_from n (expr_only n)

  pub whole_only : StagedOnly version texts (whole_expr version texts) [] [] (λ e. expr_bytes version texts e) (λ e. expr_texts e) Whole
  unfolding whole_expr WholeWithin
  whole_only = expr_only 256
