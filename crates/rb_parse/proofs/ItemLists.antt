-- Lists that are read item by item, as long as the next token begins one.
use Rattle.std.proofs.Common.{◌≡◌, ℕ, true, false, cond, List, [], ◌∷◌, ◌++◌, map, refl, ap, ◌∙◌, Ok, append-nil}
use Rattle.rb_trees.specs.declared.tokens.Token.{Token}
use Rattle.rb_trees.specs.declared.tokens.TokenKind.{TokenKind}
use Rattle.rb_parse.specs.Reading.{Read, ◌>>=◌, next_in}
use Rattle.rb_parse.proofs.Equations.{bind_bind, bind_ok, cond_bind}

-- The list is one item and those that follow it, as long as the next token begins one.
abbrev pub IsListed : {A : Type 0} → List TokenKind → (List Token → Read A) → (List Token → Read (List A)) → Type 0
IsListed kinds item list = (ts : List Token) → list ts ≡ cond (next_in kinds ts) (item ts >>= λ a. list a.1 >>= λ m. Ok (a.0 ∷ m.0, m.1)) (Ok ([], ts))

-- what a list is of: how an item stands in the mirror, how the list and an item are read, and what an item begins with
pub record ItemList (A R : Type 0) : Type 0 where
  pub view : R → A
  pub list : List ℕ → List Token → Read (List A)
  pub item : List ℕ → List Token → Read A
  pub kinds : List TokenKind
  pub is : (source : List ℕ) → IsListed kinds (item source) (list source)

-- the items so far with those that follow
unfoldable pub listed_on : {A R : Type 0} → ItemList A R → List ℕ → List R → List Token → Read (List A)
listed_on l source xs ts = l.list source ts >>= λ m. Ok (map l.view xs ++ m.0, m.1)

map_last : {A R : Type 0} (view : R → A) (xs : List R) (x : R) (l : List A) → map view (xs ++ x ∷ []) ++ l ≡ map view xs ++ (view x ∷ l)
map_last view [] x l = refl
map_last view (y ∷ xs) x l = ap (λ z. view y ∷ z) (map_last view xs x l)

module _ {A R : Type 0} (l : ItemList A R) (source : List ℕ) where
  abbrev put : List R → List A × List Token → Read (List A)
  put xs m = Ok (map l.view xs ++ m.0, m.1)

  by : (xs : List R) (ts : List Token) → listed_on l source xs ts ≡ cond (next_in l.kinds ts) (l.item source ts >>= λ a. l.list source a.1 >>= λ m. Ok (map l.view xs ++ (a.0 ∷ m.0), m.1)) (Ok (map l.view xs ++ [], ts))
  unfolding listed_on
  by xs ts = simp (cond_bind, bind_bind) at (ap (λ z. z >>= put xs) (l.is source ts))

  pub start : (ts : List Token) → listed_on l source [] ts ≡ l.list source ts
  unfolding listed_on
  start ts = bind_ok (l.list source ts)

  pub end : (xs : List R) (ts : List Token) → next_in l.kinds ts ≡ false → listed_on l source xs ts ≡ Ok (map l.view xs, ts)
  end xs ts h = by xs ts ∙ rw h (ap (λ z. Ok (z, ts)) (append-nil (map l.view xs)))

  pub step : (xs : List R) (x : R) (ts us : List Token) → next_in l.kinds ts ≡ true → l.item source ts ≡ Ok (l.view x, us) → listed_on l source xs ts ≡ listed_on l source (xs ++ x ∷ []) us
  unfolding listed_on
  step xs x ts us h r = by xs ts ∙ rw (h, r) (simp map_last)

  pub more : (xs : List R) (ts : List Token) → next_in l.kinds ts ≡ true → listed_on l source xs ts ≡ (l.item source ts >>= λ a. l.list source a.1 >>= λ m. Ok (map l.view xs ++ (a.0 ∷ m.0), m.1))
  more xs ts h = by xs ts ∙ rw h refl

pub ruleset lists = (start, end, step, more)
