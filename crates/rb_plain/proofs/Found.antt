-- The batch that is found by its position.
use Rattle.std.proofs.Common.{◌≡◌, refl, sym, ap, ◌∙◌, ℕ, zero, suc, ◌+◌, ◌<◌, arith, List, [], ◌∷◌, map, length, drop, get_or}
use Rattle.std.specs.Prelude.{Bool, true, false, cond, nat_eq, Option, None, Some, option_and_then, option_map, slice_get}
use Rattle.std.specs.HashMap.{get}
use Rattle.rb_trees.specs.mirror.Declarations.{Program}
use Rattle.rb_meaning_flow.specs.Facts.{facts_of}
use Rattle.rb_meaning_flow.specs.Outermost.{Outermost, program_batches}
use Rattle.rb_scopes.specs.Seen.{newest}
use Rattle.rb_scopes.proofs.Opened.{newest_opened}
use Rattle.rb_meaning.specs.Unsplit.{batch_at, batch_within}
use Rattle.rb_flow.specs.Begun.{begun, begun_of, program_begun}
use Rattle.rb_flow.specs.declared.outermost.OpenBatch.{OpenBatch}
use Rattle.rb_flow.proofs.Among.{program_collected}
use Rattle.rb_plain.specs.Batches.{AreBatchesOf, Notes, found, place_in, root_of, stands_at}
use Rattle.rb_plain.specs.declared.batches.Batches.{Batches}
use Rattle.rb_plain.proofs.Dropped.{dropped_one}

-- the root of a batch of the program
pub root_so : (b : OpenBatch) (o : Outermost) → begun_of b ≡ begun o → root_of b ≡ Some (o.root, o.at)
root_so b o e = ap (λ x. newest x.scope) e ∙ newest_opened o.outer o.at o.root o.block

-- the first batch at a position
abbrev first_at : List OpenBatch → ℕ → Option OpenBatch
first_at [] at = None
first_at (b ∷ bs) at = cond (stands_at (root_of b) at) (Some b) (first_at bs at)

here_at : {A : Type 0} (xs : List A) (i : ℕ) (y : A) (ys : List A) → drop i xs ≡ y ∷ ys → slice_get xs i ≡ Some y
here_at [] zero y ys e = absurd (cc e)
here_at [] (suc i) y ys e = absurd (cc e)
here_at (x ∷ xs) zero y ys e = cc e
here_at (x ∷ xs) (suc i) y ys e = here_at xs i y ys e

behind_at : {A : Type 0} (xs : List A) (i : ℕ) (y : A) (ys : List A) → drop i xs ≡ y ∷ ys → drop (suc i) xs ≡ ys
behind_at [] zero y ys e = absurd (cc e)
behind_at [] (suc i) y ys e = absurd (cc e)
behind_at (x ∷ xs) zero y ys e = cc e
behind_at (x ∷ xs) (suc i) y ys e = behind_at xs i y ys e

by_stand : {A : Type 0} (t : Bool) (f : ℕ → Option A) (place : ℕ) (rest : Option ℕ) (a : A) (more : Option A) → f place ≡ Some a → option_and_then f rest ≡ more
    → option_and_then f (cond t (Some place) rest) ≡ cond t (Some a) more
by_stand true f place rest a more e h = e
by_stand false f place rest a more e h = h

looked_up : (all bs : List OpenBatch) (at place : ℕ) → drop place all ≡ bs → option_and_then (λ p. slice_get all p) (place_in bs at place) ≡ first_at bs at
looked_up all [] at place e = refl
looked_up all (b ∷ bs) at place e =
    by_stand (stands_at (root_of b) at) (λ p. slice_get all p) place (place_in bs at (suc place)) b (first_at bs at) (here_at all place b bs e)
    (looked_up all bs at (suc place) (behind_at all place b bs e))

mapped_by : {A B C : Type 0} (f : A → C) (g : B → C) (t : Bool) (a : A) (b : B) (x : Option A) (y : Option B) → f a ≡ g b → option_map f x ≡ option_map g y
    → option_map f (cond t (Some a) x) ≡ option_map g (cond t (Some b) y)
mapped_by f g true a b x y e h = ap Some e
mapped_by f g false a b x y e h = h

first_so : (bs : List OpenBatch) (os : List Outermost) (at : ℕ) → map begun_of bs ≡ map begun os → option_map begun_of (first_at bs at) ≡ option_map begun (batch_within os at)
first_so [] [] at e = refl
first_so [] (o ∷ os) at e = absurd (cc e)
first_so (b ∷ bs) [] at e = absurd (cc e)
first_so (b ∷ bs) (o ∷ os) at e =
    let head : begun_of b ≡ begun o = cc e in
    let tail : map begun_of bs ≡ map begun os = cc e in
    ap (λ r. option_map begun_of (cond (stands_at r at) (Some b) (first_at bs at))) (root_so b o head)
    ∙ mapped_by begun_of begun (nat_eq o.at at) b o (first_at bs at) (batch_within os at) head (first_so bs os at tail)

-- those that are found are the program's
pub are_batches : (p : Program) (b : Batches) (bs : List OpenBatch) → b.batches ≡ bs → map begun_of bs ≡ program_begun (facts_of p) p
    → ((at : ℕ) → get nat_eq b.places at ≡ place_in bs at 0) → AreBatchesOf p b
are_batches p b bs is e places = λ at.
    ap (λ x. option_map begun_of (option_and_then (λ n. slice_get b.batches n) x)) (places at)
    ∙ ap (λ xs. option_map begun_of (option_and_then (λ n. slice_get xs n) (place_in bs at 0))) is
    ∙ ap (option_map begun_of) (looked_up bs bs at 0 refl)
    ∙ first_so bs (program_batches (facts_of p) p) at (e ∙ program_collected (facts_of p) p)

-- places of batches from a place on, and of one more
pub place_more : (all : List OpenBatch) (place next : ℕ) (b : OpenBatch) (before now : ℕ → Option ℕ) → place < length all → next ≡ place + 1 → b ≡ get_or all place b → Notes b place before now
    → ((at : ℕ) → before at ≡ place_in (drop next all) at next) → (at : ℕ) → now at ≡ place_in (drop place all) at place
place_more all place next b before now l n is h e = λ at.
    let m : suc place ≡ next = omega arith in
    h at ∙ ap (λ x. cond (stands_at (root_of b) at) (Some place) x) (e at ∙ ap (λ k. place_in (drop k all) at k) (sym m))
    ∙ ap (λ xs. place_in xs at place) (sym (dropped_one all place b l is ∙ ap (λ k. b ∷ drop k all) (n_suc place)))
  where
    n_suc : (k : ℕ) → k + 1 ≡ suc k
    n_suc k = omega arith

-- a batch that is found has the root of its program's batch
pub some_found : (p : Program) (b : Batches) (at : ℕ) (x : OpenBatch) → AreBatchesOf p b → found b at ≡ Some x → (o : Outermost) × (batch_at p at ≡ Some o) × (begun_of x ≡ begun o)
some_found p b at x are is = by_option (batch_at p at) refl (sym (ap (option_map begun_of) is) ∙ are at)
  where
    by_option : (m : Option Outermost) → batch_at p at ≡ m → Some (begun_of x) ≡ option_map begun (batch_at p at) → (o : Outermost) × (batch_at p at ≡ Some o) × (begun_of x ≡ begun o)
    by_option None e h = let g = h ∙ ap (option_map begun) e in absurd (cc g)
    by_option (Some o) e h = let g : Some (begun_of x) ≡ Some (begun o) = h ∙ ap (option_map begun) e in (o, e, cc g)

pub none_found : (p : Program) (b : Batches) (at : ℕ) → AreBatchesOf p b → found b at ≡ None → batch_at p at ≡ None
none_found p b at are is = by_option (batch_at p at) refl (sym (ap (option_map begun_of) is) ∙ are at)
  where
    by_option : (m : Option Outermost) → batch_at p at ≡ m → None ≡ option_map begun (batch_at p at) → batch_at p at ≡ None
    by_option None e h = e
    by_option (Some o) e h = let g = h ∙ ap (option_map begun) e in absurd (cc g)
