-- A tag that stands for nothing, in code's words.
use Rattle.std.proofs.Common.{◌≡◌, ◌+◌, ℕ, List, ◌∷◌, [], Bool, true, false, cond, nat_eq, length, refl, ap, sym, ◌∙◌, subst, Option, Some, Ok, Err}
use Rattle.rb_meaning_bytes.specs.formats.Fields.{Byte, bad_tag}
use Rattle.rb_meaning_bytes.specs.formats.Formats.{Format, is_tag}
use Rattle.rb_meaning_bytes.specs.formats.Reading.{Fault, read, look, on}
use Rattle.rb_meaning_bytes.proofs.formats.Steps.{by_tag}
use Rattle.rb_trees.specs.Outcome.{Refuses}

nothing : {A : Type 0} (forms : List (ℕ × Format A)) (b : ℕ) (rest : List ℕ) → is_tag forms b ≡ false → by_tag forms b rest ≡ Err (bad_tag, length rest + 1)
nothing [] b rest h = refl
nothing (form ∷ forms) b rest h = go (nat_eq b form.0) h (nothing forms b rest)
  where
    go : (v : Bool) → cond v true (is_tag forms b) ≡ false → (is_tag forms b ≡ false → by_tag forms b rest ≡ Err (bad_tag, length rest + 1)) → cond v (read form.1 rest) (by_tag forms b rest) ≡ Err (bad_tag, length rest + 1)
    go true h k = absurd cc
    go false h k = k h

pub no_tag : {A : Type 0} (F : Format A) (forms : List (ℕ × Format A)) (bytes : List ℕ) (b : ℕ) (rest : List ℕ) (fault : Option Fault)
    → read F bytes ≡ on (look Byte bytes) (λ b rest. by_tag forms b rest) → look Byte bytes ≡ Ok (b, rest) → is_tag forms b ≡ false → fault ≡ Some (2, length rest + 1) → Refuses fault (read F bytes)
no_tag F forms bytes b rest fault is here none told =
    let r : read F bytes ≡ Err (bad_tag, length rest + 1) = is ∙ ap (λ x. on x (λ b rest. by_tag forms b rest)) here ∙ nothing forms b rest none in
    subst (λ f. Refuses f (read F bytes)) (sym told) r
