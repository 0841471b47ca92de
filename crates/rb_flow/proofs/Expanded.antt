-- How the search by levels goes on.
use Rattle.std.proofs.Common.{◌≡◌, ℕ, ◌+◌, ◌<◌, List, [], ◌∷◌, ◌++◌, length, drop, get_or, refl, sym, ap, ◌∙◌}
use Rattle.std.proofs.lemmas.List.{drop_more}
use Rattle.std.specs.List.{flat_map}
use Rattle.rb_trees.specs.declared.flows.Writer.{Writer}
use Rattle.rb_flow.specs.Levels.{Reached, expanded, reached, after}

pub expanded_both : (level : ℕ) (xs ys : List ℕ) (r : Reached) → expanded level (xs ++ ys) r ≡ expanded level ys (expanded level xs r)
expanded_both level [] ys r = refl
expanded_both level (x ∷ xs) ys r = expanded_both level xs ys (reached level x r)

pub expanded_on : (writers : List Writer) (frontier : List ℕ) (i level : ℕ) (r s : Reached) → i < length frontier → s ≡ expanded level (after writers (get_or frontier i 0)) r
    → expanded level (flat_map (after writers) (drop (i + 1) frontier)) s ≡ expanded level (flat_map (after writers) (drop i frontier)) r
expanded_on writers frontier i level r s h e =
    ap (expanded level (flat_map (after writers) (drop (i + 1) frontier))) e
    ∙ sym (expanded_both level (after writers (get_or frontier i 0)) (flat_map (after writers) (drop (i + 1) frontier)) r)
    ∙ ap (λ xs. expanded level (flat_map (after writers) xs) r) (sym (drop_more frontier i 0 h))
