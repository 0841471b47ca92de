-- How tokens move what is open.
use Rattle.std.proofs.Common.{◌≡◌, ℕ, ◌+◌, ◌-◌, ◌≤◌, Bool, true, false, cond, not, List, [], ◌∷◌, refl, sym, subst, ◌∙◌, arith, ◌&&◌}
use Rattle.std.proofs.lemmas.Bool.{not-true, and_parts}
use Rattle.rb_trees.specs.declared.tokens.TokenKind.{TokenKind}
use Rattle.rb_trees.specs.Kinds as k
use Rattle.rb_trees.specs.Kinds.{is_kind, is_one_of}
use Rattle.rb_meaning_bytes.specs.grammar.Limits.{Nesting, opens_block, opens_type, opens_mark, always_mark, is_mark, ends_expression, blocks_after, types_after, marks_after, after}
use Rattle.rb_parse.proofs.KindLists.{not_kind, none_within}

-- what is open behind tokens of these kinds
abbrev pub afters : Nesting → List TokenKind → Nesting
afters n [] = n
afters n (a ∷ ks) = afters (after n a) ks

-- Behind whole parts: no word of a head stands last, and the open blocks are within their limit.
pub record Ready (n : Nesting) : Type 0 where
  pub no_fun : is_kind n.last k.keyword_fun ≡ false
  pub no_list : is_one_of n.last (k.keyword_List ∷ k.keyword_Rows ∷ []) ≡ false
  pub no_head : is_one_of n.last (k.keyword_interface ∷ k.keyword_class ∷ []) ≡ false
  pub no_head_before : is_one_of n.before (k.keyword_interface ∷ k.keyword_class ∷ []) ≡ false
  pub room : n.blocks ≤ 64

-- No limit is broken.
pub record Room (n : Nesting) : Type 0 where
  pub blocks : n.blocks ≤ 64
  pub types : n.types ≤ 64
  pub marks : n.marks ≤ 200

-- The same is open in both states.
pub record Goes (n m : Nesting) : Type 0 where
  pub ready : Ready m
  pub blocks : m.blocks ≡ n.blocks
  pub types : m.types ≡ n.types

-- The same is open, and no mark is gone.
pub record Moves (n m : Nesting) : Type 0 where
  pub goes : Goes n m
  pub grows : n.marks ≤ m.marks

-- The same is open, with a mark more.
pub record Marks (n m : Nesting) : Type 0 where
  pub goes : Goes n m
  pub more : m.marks ≡ n.marks + 1

pub goes_on : {n m o : Nesting} → Goes n m → Goes m o → Goes n o
goes_on a b = record { ready = b.ready; blocks = b.blocks ∙ a.blocks; types = b.types ∙ a.types }

-- the kinds that move more than the marks
abbrev pub movers : List TokenKind
movers = k.keyword_fun ∷ k.keyword_List ∷ k.keyword_Rows ∷ k.keyword_interface ∷ k.keyword_class ∷ k.sign_open_brace ∷ k.sign_close_brace ∷ k.sign_less ∷ k.sign_greater ∷ []

abbrev pub is_still : TokenKind → Bool
is_still a = not (is_one_of a movers)

abbrev pub all_still : List TokenKind → Bool
all_still [] = true
all_still (a ∷ ks) = is_still a && all_still ks

-- the kinds that end expressions
abbrev pub enders : List TokenKind
enders = k.sign_semicolon ∷ k.sign_assign ∷ k.keyword_in ∷ k.sign_open_brace ∷ k.sign_close_brace ∷ []

abbrev pub is_inner : TokenKind → Bool
is_inner a = not (is_one_of a enders)

by_two : (a b c : Bool) (x y z : ℕ) → a ≡ false → c ≡ false → cond (cond a b false) x (cond c y z) ≡ z
by_two true b c x y z e f = cc
by_two false b true x y z e f = cc
by_two false b false x y z e f = refl

still_blocks : (n : Nesting) (a : TokenKind) → is_one_of a movers ≡ false → blocks_after n a ≡ n.blocks
unfolding blocks_after opens_block
still_blocks n a h = by_two (is_kind a k.sign_open_brace) (not (is_one_of n.before (k.keyword_interface ∷ k.keyword_class ∷ []))) (is_kind a k.sign_close_brace) (n.blocks + 1) (n.blocks - 1) n.blocks (not_kind a k.sign_open_brace movers refl h) (not_kind a k.sign_close_brace movers refl h)

still_types : (n : Nesting) (a : TokenKind) → is_one_of a movers ≡ false → types_after n a ≡ n.types
unfolding types_after opens_type
still_types n a h = by_two (is_kind a k.sign_less) (is_one_of n.last (k.keyword_List ∷ k.keyword_Rows ∷ [])) (is_kind a k.sign_greater) (n.types + 1) (n.types - 1) n.types (not_kind a k.sign_less movers refl h) (not_kind a k.sign_greater movers refl h)

pub after_still : (n : Nesting) (a : TokenKind) → is_still a ≡ true → Ready n → Goes n (after n a)
after_still n a h r =
    let o = not-true (is_one_of a movers) h in
    let b = still_blocks n a o in
    record {
      ready = record {
        no_fun = not_kind a k.keyword_fun movers refl o;
        no_list = none_within a (k.keyword_List ∷ k.keyword_Rows ∷ []) movers refl o;
        no_head = none_within a (k.keyword_interface ∷ k.keyword_class ∷ []) movers refl o;
        no_head_before = r.no_head;
        room = subst (λ x. x ≤ 64) (sym b) r.room;
      };
      blocks = b;
      types = still_types n a o;
    }

-- tokens that move nothing but marks
pub stills : (ks : List TokenKind) → all_still ks ≡ true → (n : Nesting) → Ready n → Goes n (afters n ks)
stills [] h n r = record { ready = r; blocks = refl; types = refl }
stills (a ∷ ks) h n r =
    let g = after_still n a (and_parts (is_still a) (all_still ks) h).0 r in
    goes_on g (stills ks (and_parts (is_still a) (all_still ks) h).1 (after n a) g.ready)

mark_grows : (a b : Bool) (m : ℕ) → a ≡ false → m ≤ cond a 0 (cond b (m + 1) m)
mark_grows true b m e = cc
mark_grows false true m e = omega arith
mark_grows false false m e = omega arith

mark_more : (a b : Bool) (m : ℕ) → a ≡ false → b ≡ true → cond a 0 (cond b (m + 1) m) ≡ m + 1
mark_more true b m e f = cc
mark_more false true m e f = refl
mark_more false false m e f = cc

inner_grows : (n : Nesting) (a : TokenKind) → is_inner a ≡ true → n.marks ≤ marks_after n a
unfolding marks_after ends_expression
inner_grows n a h = mark_grows (is_one_of a enders) (is_mark n a) n.marks (not-true (is_one_of a enders) h)

inner_more : (n : Nesting) (a : TokenKind) → is_inner a ≡ true → is_mark n a ≡ true → marks_after n a ≡ n.marks + 1
unfolding marks_after ends_expression
inner_more n a h e = mark_more (is_one_of a enders) (is_mark n a) n.marks (not-true (is_one_of a enders) h) e

-- a token within an expression
pub inner : (n : Nesting) (a : TokenKind) → is_still a ≡ true → is_inner a ≡ true → Ready n → Moves n (after n a)
inner n a h i r = record { goes = after_still n a h r; grows = inner_grows n a i }

pub moves_on : {n m o : Nesting} → Moves n m → Moves m o → Moves n o
moves_on a b = record { goes = goes_on a.goes b.goes; grows = let x = a.grows in let y = b.grows in omega arith }

by_three : (a b c x y z w : Bool) → a ≡ false → b ≡ false → c ≡ false → w ≡ true → cond a x (cond b y (cond c z w)) ≡ true
by_three true b c x y z w e f g h = cc
by_three false true c x y z w e f g h = cc
by_three false false true x y z w e f g h = cc
by_three false false false x y z w e f g h = h

-- the kinds that are marks, but not wherever they stand
abbrev pub unsure : List TokenKind
unsure = k.sign_open ∷ k.sign_less ∷ k.sign_greater ∷ []

sure_mark : (n : Nesting) (a : TokenKind) → is_one_of a unsure ≡ false → always_mark a ≡ true → is_mark n a ≡ true
unfolding is_mark
sure_mark n a h e = by_three (is_kind a k.sign_open) (is_kind a k.sign_less) (is_kind a k.sign_greater) _ _ _ (always_mark a) (not_kind a k.sign_open unsure refl h) (not_kind a k.sign_less unsure refl h) (not_kind a k.sign_greater unsure refl h) e

-- whether a kind is a mark wherever it stands
abbrev pub is_sure : TokenKind → Bool
is_sure a = is_still a && (is_inner a && (not (is_one_of a unsure) && always_mark a))

-- a mark of an expression
pub mark : (n : Nesting) (a : TokenKind) → is_sure a ≡ true → Ready n → Marks n (after n a)
mark n a h r =
    let one = (and_parts (is_still a) (is_inner a && (not (is_one_of a unsure) && always_mark a)) h).0 in
    let two = (and_parts (is_still a) (is_inner a && (not (is_one_of a unsure) && always_mark a)) h).1 in
    let three = (and_parts (is_inner a) (not (is_one_of a unsure) && always_mark a) two).1 in
    record {
      goes = after_still n a one r;
      more = inner_more n a (and_parts (is_inner a) (not (is_one_of a unsure) && always_mark a) two).0 (sure_mark n a (not-true (is_one_of a unsure) (and_parts (not (is_one_of a unsure)) (always_mark a) three).0) (and_parts (not (is_one_of a unsure)) (always_mark a) three).1);
    }

open_is_mark : (n : Nesting) → is_one_of n.last (k.keyword_if ∷ k.keyword_while ∷ k.keyword_for ∷ k.keyword_print ∷ k.keyword_catch ∷ k.keyword_batch ∷ []) ≡ false → is_kind n.before k.keyword_fun ≡ false → is_mark n k.sign_open ≡ true
unfolding is_mark opens_mark
open_is_mark n e f = go (is_one_of n.last (k.keyword_if ∷ k.keyword_while ∷ k.keyword_for ∷ k.keyword_print ∷ k.keyword_catch ∷ k.keyword_batch ∷ [])) (is_kind n.before k.keyword_fun) e f
  where
    go : (a b : Bool) → a ≡ false → b ≡ false → cond a false (not b) ≡ true
    go true b e f = cc
    go false true e f = cc
    go false false e f = refl

-- a bracket that is a mark
pub open_mark : (n : Nesting) → is_one_of n.last (k.keyword_if ∷ k.keyword_while ∷ k.keyword_for ∷ k.keyword_print ∷ k.keyword_catch ∷ k.keyword_batch ∷ []) ≡ false → is_kind n.before k.keyword_fun ≡ false → Ready n → Marks n (after n k.sign_open)
open_mark n e f r = record { goes = after_still n k.sign_open refl r; more = inner_more n k.sign_open refl (open_is_mark n e f) }
