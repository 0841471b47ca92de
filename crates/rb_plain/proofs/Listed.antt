-- The lists that the code finds and counts are those of the definition.
use Rattle.std.proofs.Common.{◌≡◌, refl, sym, ap, ◌∙◌, ℕ, ◌+◌, ◌<◌, List, [], ◌∷◌, ◌++◌, drop, length, get_or, append_assoc, append-nil, arith}
use Rattle.std.proofs.lemmas.Grind.{common_steps}
use Rattle.std.proofs.lemmas.List.{map-append}
use Rattle.std.specs.Prelude.{Bool, true, false, cond, Err}
use Rattle.std.specs.Borrow.{Bor}
use Rattle.std.specs.Str.{bytes_eq}
use Rattle.rb_trees.specs.Named.{lookup}
use Rattle.rb_trees.specs.mirror.Code.{Expr, Lit, Name, This, Unary, Binary, Field, Call, Index, New, Items, Taken, Stmts, If}
use Rattle.rb_trees.proofs.mirror.Exprs.{exprs}
use Rattle.rb_trees.proofs.mirror.Stmts.{stmts}
use Rattle.rb_meaning_types.specs.Names.{is_new}
use Rattle.rb_meaning_code.specs.Faults.{kind}
use Rattle.rb_meaning_code.specs.State.{Names}
use Rattle.rb_meaning_flow.specs.declared.forms.PlacedForm.{PlacedForm}
use Rattle.rb_meaning_flow.specs.Facts.{Facts}
use Rattle.rb_meaning_flow.specs.Forms.{placed_form}
use Rattle.rb_meaning_flow.specs.Portable.{branches_hold}
use Rattle.rb_meaning_flow.specs.Scopes.{Scope}
use Rattle.rb_meaning.specs.ConstantLists.{count_of, counted, items_named, items_of, lists_as, lists_in, name_of}
use Rattle.rb_plain.specs.Lists.{Adds, Counts, named}
use Rattle.rb_plain.specs.declared.lists.Counted.{Counted}
use Rattle.rb_plain.proofs.Dropped.{dropped_one}
use Rattle.rb_plain.proofs.Fronts.{kept_after, kept_far, kept_front}

-- the items of a list by its name

pub named_items : (names : Names) (e : Expr) (name : List ℕ) → name_of e ≡ name ∷ [] → items_named names e ≡ items_of (lookup names name)
named_items names (Lit at v) name h = absurd (cc h)
named_items names (Name at n) name h = let same : n ≡ name = cc h in ap (λ x. items_of (lookup names x)) same
named_items names (This at) name h = absurd (cc h)
named_items names (Unary at op a) name h = absurd (cc h)
named_items names (Binary at op a b) name h = absurd (cc h)
named_items names (Field at a n) name h = absurd (cc h)
named_items names (Call at a m args) name h = absurd (cc h)
named_items names (Index at a b) name h = absurd (cc h)
named_items names (New at class args) name h = absurd (cc h)
named_items names (Items at item items) name h = absurd (cc h)
named_items names (Taken at step) name h = absurd (cc h)

pub nameless_items : (names : Names) (e : Expr) → name_of e ≡ [] → items_named names e ≡ Err kind
nameless_items names (Lit at v) h = refl
nameless_items names (Name at n) h = absurd (cc h)
nameless_items names (This at) h = refl
nameless_items names (Unary at op a) h = refl
nameless_items names (Binary at op a b) h = refl
nameless_items names (Field at a n) h = refl
nameless_items names (Call at a m args) h = refl
nameless_items names (Index at a b) h = refl
nameless_items names (New at class args) h = refl
nameless_items names (Items at item items) h = refl
nameless_items names (Taken at step) h = refl

-- the lists in a statement, by its form

if_with : (holds : Bool) (x : Facts) (scope : Scope) (at : ℕ) (c : Expr) (a b : Stmts)
    → lists_as x (cond holds PlacedForm.CarriedIf PlacedForm.Plain) scope (If at c a b) ≡ cond holds (lists_in x scope a ++ lists_in x scope b) []
if_with true x scope at c a b = refl
if_with false x scope at c a b = refl

pub if_lists : (x : Facts) (scope : Scope) (at : ℕ) (c : Expr) (a b : Stmts)
    → lists_as x (placed_form x scope (If at c a b)) scope (If at c a b) ≡ cond (branches_hold x a b) (lists_in x scope a ++ lists_in x scope b) []
if_lists x scope at c a b = if_with (branches_hold x a b) x scope at c a b

-- what is counted depends on which names were counted before, and not on their order

both_false : (a b c : Bool) → cond a false (cond b false c) ≡ cond b false (cond a false c)
both_false true true c = refl
both_false true false c = refl
both_false false b c = refl

pub new_last : (name last : List ℕ) (xs : List (List ℕ)) → is_new name (xs ++ last ∷ []) ≡ cond (bytes_eq last name) false (is_new name xs)
new_last name last [] = refl
new_last name last (x ∷ xs) = ap (λ b. cond (bytes_eq x name) false b) (new_last name last xs) ∙ both_false (bytes_eq x name) (bytes_eq last name) (is_new name xs)

-- the same names, in any order
abbrev pub SameNames : List (List ℕ) → List (List ℕ) → Type 0
SameNames xs ys = (name : List ℕ) → is_new name xs ≡ is_new name ys

pub counted_same : (more xs ys : List (List ℕ)) (names : Names) → SameNames xs ys → counted xs more names ≡ counted ys more names
counted_same [] xs ys names same = refl
counted_same (name ∷ more) xs ys names same =
    ap (λ b. cond b (count_of (items_of (lookup names name)) + counted (name ∷ xs) more names) (counted xs more names)) (same name)
    ∙ ap (λ n. cond (is_new name ys) (count_of (items_of (lookup names name)) + n) (counted xs more names))
    (counted_same more (name ∷ xs) (name ∷ ys) names (λ other. ap (λ b. cond (bytes_eq name other) false b) (same other)))
    ∙ ap (λ n. cond (is_new name ys) (count_of (items_of (lookup names name)) + counted (name ∷ ys) more names) n) (counted_same more xs ys names same)

-- one list more was counted
pub counts_more : (is : Bool) (before after : Counted) (name : List ℕ) (more : List (List ℕ)) (names : Names) → is_new name before.names ≡ is → Adds is name (count_of (items_of (lookup names name))) before after
    → before.items + counted before.names (name ∷ more) names ≡ after.items + counted after.names more names
counts_more true before after name more names new adds =
    let n = count_of (items_of (lookup names name)) in
    let last = counted_same more (name ∷ before.names) (before.names ++ name ∷ []) names (λ other. sym (new_last other name before.names)) in
    let grown = ap (λ xs. counted xs more names) (sym adds.0) in
    ap (λ b. before.items + cond b (n + counted (name ∷ before.names) more names) (counted before.names more names)) new
    ∙ ap (λ m. before.items + (n + m)) (last ∙ grown)
    ∙ assoc before.items n (counted after.names more names)
    ∙ ap (λ m. m + counted after.names more names) (sym adds.1)
  where
    assoc : (a b c : ℕ) → a + (b + c) ≡ (a + b) + c
    assoc a b c = omega arith
counts_more false before after name more names new adds =
    ap (λ b. before.items + cond b (count_of (items_of (lookup names name)) + counted (name ∷ before.names) more names) (counted before.names more names)) new
    ∙ ap (λ t. t.items + counted t.names more names) (sym adds)

-- one list more of those from a place on was counted
pub names_more : (names : Names) (all : List (Bor (List ℕ))) (i total : ℕ) (x : Bor (List ℕ)) (before after : Counted) → i < length all → x ≡ get_or all i x → Counts names x.now before after
    → before.items + counted before.names (named (drop i all)) names ≡ total → after.items + counted after.names (named (drop (i + 1) all)) names ≡ total
names_more names all i total x before after l is counts h =
    sym (counts_more (is_new x.now before.names) before after x.now (named (drop (i + 1) all)) names refl counts)
    ∙ ap (λ xs. before.items + counted before.names (named xs) names) (sym (dropped_one all i x l is)) ∙ h

pub ruleset list_rules = (exprs, stmts, named_items, nameless_items, if_lists, kept_front, kept_after, kept_far, map-append, append_assoc, append-nil, common_steps)
