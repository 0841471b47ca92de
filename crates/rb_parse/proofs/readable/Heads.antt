-- How the tokens of types, comparisons, blocks and heads move what is open.
use Rattle.std.proofs.Common.{◌≡◌, ℕ, ◌+◌, ◌-◌, ◌≤◌, Bool, true, false, cond, not, nat_eq, [], ◌∷◌, refl, ap, sym, subst, ◌∙◌, arith}
use Rattle.rb_trees.specs.declared.tokens.TokenKind.TheVariants as kind
use Rattle.rb_trees.specs.Kinds as k
use Rattle.rb_meaning_bytes.specs.grammar.Limits.{Nesting, opens_block, opens_type, is_mark, ends_expression, blocks_after, types_after, marks_after, after}
use Rattle.rb_parse.proofs.readable.States.{afters, Ready, Room, Goes, Moves, Marks}

-- a type's angle bracket is open
pub record TypeOpens (n m : Nesting) : Type 0 where
  pub ready : Ready m
  pub blocks : m.blocks ≡ n.blocks
  pub types : m.types ≡ n.types + 1
  pub grows : n.marks ≤ m.marks

pub list_opens : (n : Nesting) → Ready n → TypeOpens n (afters n (k.keyword_List ∷ k.sign_less ∷ []))
unfolding blocks_after opens_block types_after opens_type marks_after ends_expression is_mark
list_opens n r = record { ready = record { no_fun = refl; no_list = refl; no_head = refl; no_head_before = refl; room = r.room }; blocks = refl; types = refl; grows = omega arith }

pub rows_opens : (n : Nesting) → Ready n → TypeOpens n (afters n (k.keyword_Rows ∷ k.sign_less ∷ []))
unfolding blocks_after opens_block types_after opens_type marks_after ends_expression is_mark
rows_opens n r = record { ready = record { no_fun = refl; no_list = refl; no_head = refl; no_head_before = refl; room = r.room }; blocks = refl; types = refl; grows = omega arith }

mark_grows : (b : Bool) (m : ℕ) → m ≤ cond b (m + 1) m
mark_grows true m = omega arith
mark_grows false m = omega arith

pub type_closes : (n m o : Nesting) → TypeOpens n m → Moves m o → Moves n (after o k.sign_greater)
unfolding blocks_after opens_block types_after opens_type marks_after ends_expression is_mark
type_closes n m o a b =
    let r = b.goes.ready in
    let c = a.types in
    let d = b.goes.types in
    let e = a.grows in
    let f = b.grows in
    let g = mark_grows (nat_eq o.types 0) o.marks in
    record {
      goes = record {
        ready = record { no_fun = refl; no_list = refl; no_head = refl; no_head_before = r.no_head; room = r.room };
        blocks = b.goes.blocks ∙ a.blocks;
        types = omega (arith, c, d);
      };
      grows = omega (arith, e, f, g);
    }

pub less_mark : (n : Nesting) → Ready n → Marks n (after n k.sign_less)
unfolding blocks_after opens_block types_after opens_type marks_after ends_expression is_mark
less_mark n r = record {
  goes = record {
    ready = record { no_fun = refl; no_list = refl; no_head = refl; no_head_before = r.no_head; room = r.room };
    blocks = refl;
    types = ap (λ b. cond b (n.types + 1) n.types) r.no_list;
  };
  more = ap (λ b. cond (not b) (n.marks + 1) n.marks) r.no_list;
}

pub greater_mark : (n : Nesting) → n.types ≡ 0 → Ready n → Marks n (after n k.sign_greater)
unfolding blocks_after opens_block types_after opens_type marks_after ends_expression is_mark
greater_mark n flat r = record {
  goes = record {
    ready = record { no_fun = refl; no_list = refl; no_head = refl; no_head_before = r.no_head; room = r.room };
    blocks = refl;
    types = omega (arith, flat);
  };
  more = ap (λ t. cond (nat_eq t 0) (n.marks + 1) n.marks) flat;
}

-- a block is open
pub record Opens (n m : Nesting) : Type 0 where
  pub ready : Ready m
  pub blocks : m.blocks ≡ n.blocks + 1
  pub types : m.types ≡ n.types

pub block_opens : (n : Nesting) → Ready n → Room (after n k.sign_open_brace) → Opens n (after n k.sign_open_brace)
unfolding blocks_after opens_block types_after opens_type marks_after ends_expression is_mark
block_opens n r l = record {
  ready = record { no_fun = refl; no_list = refl; no_head = refl; no_head_before = r.no_head; room = l.blocks };
  blocks = ap (λ b. cond (not b) (n.blocks + 1) n.blocks) r.no_head_before;
  types = refl;
}

pub block_closes : (n m o : Nesting) → Ready n → Opens n m → Goes m o → Goes n (after o k.sign_close_brace)
unfolding blocks_after opens_block types_after opens_type marks_after ends_expression is_mark
block_closes n m o r a b =
    let s = b.ready in
    let c = a.blocks in
    let d = b.blocks in
    let same : o.blocks - 1 ≡ n.blocks = omega (arith, c, d) in
    record {
      ready = record { no_fun = refl; no_list = refl; no_head = refl; no_head_before = s.no_head; room = subst (λ x. x ≤ 64) (sym same) r.room };
      blocks = same;
      types = b.types ∙ a.types;
    }

-- the brace behind the last method of a class, or signature of an interface, that stands in no block
pub head_closes : (n m : Nesting) → n.blocks ≡ 0 → Goes n m → Goes n (after m k.sign_close_brace)
unfolding blocks_after opens_block types_after opens_type marks_after ends_expression is_mark
head_closes n m outside a =
    let s = a.ready in
    let c = a.blocks in
    let same : m.blocks - 1 ≡ n.blocks = omega (arith, c, outside) in
    record {
      ready = record { no_fun = refl; no_list = refl; no_head = refl; no_head_before = s.no_head; room = omega (arith, same, outside) };
      blocks = same;
      types = a.types;
    }

pub interface_opens : (n : Nesting) → Ready n → Goes n (afters n (k.keyword_interface ∷ kind.Name ∷ k.sign_open_brace ∷ []))
unfolding blocks_after opens_block types_after opens_type marks_after ends_expression is_mark
interface_opens n r = record { ready = record { no_fun = refl; no_list = refl; no_head = refl; no_head_before = refl; room = r.room }; blocks = refl; types = refl }

pub class_opens : (n : Nesting) → Ready n → Goes n (afters n (k.keyword_class ∷ kind.Name ∷ k.sign_open_brace ∷ []))
unfolding blocks_after opens_block types_after opens_type marks_after ends_expression is_mark
class_opens n r = record { ready = record { no_fun = refl; no_list = refl; no_head = refl; no_head_before = refl; room = r.room }; blocks = refl; types = refl }

pub signature_opens : (n : Nesting) → Ready n → Goes n (afters n (k.keyword_fun ∷ kind.Name ∷ k.sign_open ∷ []))
unfolding blocks_after opens_block types_after opens_type marks_after ends_expression is_mark
signature_opens n r = record { ready = record { no_fun = refl; no_list = refl; no_head = refl; no_head_before = refl; room = r.room }; blocks = refl; types = refl }
