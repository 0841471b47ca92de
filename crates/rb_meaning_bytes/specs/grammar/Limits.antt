-- The limits of nesting, as a count over the tokens alone.
use Rattle.std.specs.Prelude.{◌≡◌, ℕ, ◌+◌, ◌-◌, Bool, true, false, not, cond, nat_eq, nat_lt, List, [], ◌∷◌, length, Option, Some, None}
use Rattle.rb_trees.specs.declared.tokens.Token.{Token}
use Rattle.rb_trees.specs.declared.tokens.TokenKind.{TokenKind}
use Rattle.rb_trees.specs.Kinds as k
use Rattle.rb_trees.specs.Kinds.{is_kind, is_one_of}

-- What is open behind some tokens: blocks, types in their angle brackets, and the marks so far of the outermost
-- expression. An outermost expression stands directly in a statement. Beside these are the last two kinds.
pub record Nesting : Type 0 where
  pub blocks : ℕ
  pub types : ℕ
  pub marks : ℕ
  pub last : TokenKind
  pub before : TokenKind

-- At most 64 blocks are open, a body being a block, and 64 types; an outermost expression has at most 200 marks.
abbrev pub most_blocks : ℕ
most_blocks = 64

abbrev pub most_types : ℕ
most_types = 64

abbrev pub most_marks : ℕ
most_marks = 200

-- A brace opens a block, unless it is that of an interface or class.
unfoldable pub opens_block : Nesting → TokenKind → Bool
opens_block n kind =
    cond (is_kind kind k.sign_open_brace)
    (not (is_one_of n.before (k.keyword_interface ∷ k.keyword_class ∷ []))) false

-- An angle bracket behind `List` or `Rows` opens a type.
unfoldable pub opens_type : Nesting → TokenKind → Bool
opens_type n kind = cond (is_kind kind k.sign_less) (is_one_of n.last (k.keyword_List ∷ k.keyword_Rows ∷ [])) false

-- A bracket is a mark, unless it belongs to a statement or signature.
unfoldable pub opens_mark : Nesting → Bool
opens_mark n =
    cond
    (is_one_of n.last
    (k.keyword_if ∷ k.keyword_while ∷ k.keyword_for ∷ k.keyword_print ∷ k.keyword_catch ∷ k.keyword_batch ∷ []))
    false (not (is_kind n.before k.keyword_fun))

-- the kinds that are marks wherever they stand
abbrev pub always_mark : TokenKind → Bool
always_mark kind =
    is_one_of kind (k.sign_not ∷ k.sign_minus ∷ k.sign_or ∷ k.sign_and ∷ k.sign_equal ∷ k.sign_unequal
    ∷ k.sign_at_most ∷ k.sign_at_least ∷ k.sign_plus ∷ k.sign_star ∷ k.sign_slash ∷ k.sign_percent
    ∷ k.sign_dot ∷ k.sign_open_bracket ∷ [])

-- The marks of an expression are its prefix signs, binary operators, dots and opening brackets.
unfoldable pub is_mark : Nesting → TokenKind → Bool
is_mark n kind =
    cond (is_kind kind k.sign_open) (opens_mark n)
    (cond (is_kind kind k.sign_less) (not (opens_type n kind))
    (cond (is_kind kind k.sign_greater) (nat_eq n.types 0)
    (always_mark kind)))

-- The kinds of tokens that no outermost expression goes on over.
unfoldable pub ends_expression : TokenKind → Bool
ends_expression kind =
    is_one_of kind (k.sign_semicolon ∷ k.sign_assign ∷ k.keyword_in ∷ k.sign_open_brace ∷ k.sign_close_brace ∷ [])

unfoldable pub blocks_after : Nesting → TokenKind → ℕ
blocks_after n kind =
    cond (opens_block n kind) (n.blocks + 1) (cond (is_kind kind k.sign_close_brace) (n.blocks - 1) n.blocks)

unfoldable pub types_after : Nesting → TokenKind → ℕ
types_after n kind = cond (opens_type n kind) (n.types + 1) (cond (is_kind kind k.sign_greater) (n.types - 1) n.types)

unfoldable pub marks_after : Nesting → TokenKind → ℕ
marks_after n kind = cond (ends_expression kind) 0 (cond (is_mark n kind) (n.marks + 1) n.marks)

-- what is open behind one more token
abbrev pub after : Nesting → TokenKind → Nesting
after n kind =
    record { blocks = blocks_after n kind; types = types_after n kind; marks = marks_after n kind; last = kind; before = n.last }

abbrev pub too_deep : Nesting → Bool
too_deep n =
    cond (nat_lt most_blocks n.blocks) true (cond (nat_lt most_types n.types) true (nat_lt most_marks n.marks))

-- Behind the word `object`, which stands in services alone, there are no expressions and blocks any more, but literals:
-- of these only the lists that are open within each other count, at most 64.
abbrev pub most_lists : ℕ
most_lists = 64

unfoldable pub lists_after : ℕ → TokenKind → ℕ
lists_after lists kind =
    cond (is_kind kind k.sign_open_bracket) (lists + 1) (cond (is_kind kind k.sign_close_bracket) (lists - 1) lists)

-- how many tokens are left where the first bracket stands that opens a list too many
abbrev pub broken_lists : ℕ → List Token → Option ℕ
broken_lists lists [] = None
broken_lists lists (t ∷ ts) =
    cond (nat_lt most_lists (lists_after lists t.kind)) (Some (length (t
    ∷ ts))) (broken_lists (lists_after lists t.kind) ts)

-- how many tokens are left where the first token stands with which a limit is broken
abbrev pub broken : Nesting → List Token → Option ℕ
broken n [] = None
broken n (t ∷ ts) =
    cond (is_kind t.kind k.keyword_object) (broken_lists 0 ts)
    (cond (too_deep (after n t.kind)) (Some (length (t ∷ ts)))
    (broken (after n t.kind) ts))

-- nothing is open before the first token
abbrev pub nothing_open : Nesting
nothing_open = record { blocks = 0; types = 0; marks = 0; last = k.sign_semicolon; before = k.sign_semicolon }

-- No token breaks a limit.
abbrev pub Within : List Token → Type 0
Within ts = broken nothing_open ts ≡ None
