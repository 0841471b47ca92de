-- What is found of a name in a table of portable variables.
use Rattle.std.proofs.Common.{◌≡◌, ℕ, List, map, Option, Some, None, refl, ap, ◌∙◌}
use Rattle.std.specs.Option.{option_map}
use Rattle.rb_trees.specs.Named.{lookup}
use Rattle.rb_names.specs.Guesses.{first_place}
use Rattle.rb_names.proofs.Guided.{item_at, place_viewed}
use Rattle.rb_meaning_split.specs.Refs.{Ref}
use Rattle.rb_split.specs.Views.{ref_of, refs_of}
use Rattle.rb_split.specs.declared.refs.Known.{Known}

viewed_twice : (o : Option Known) → option_map (λ (n : List ℕ × Ref). n.1) (option_map (λ (k : Known). (k.name, ref_of k.target)) o) ≡ option_map (λ (k : Known). ref_of k.target) o
viewed_twice None = refl
viewed_twice (Some k) = refl

pub ref_placed : (ks : List Known) (name : List ℕ) → lookup (refs_of ks) name ≡ option_map (λ k. ref_of k.target) (item_at ks (first_place name (map (λ k. k.name) ks)))
ref_placed ks name =
    ap (option_map (λ (n : List ℕ × Ref). n.1)) (place_viewed (λ (k : Known). (k.name, ref_of k.target)) (λ (n : List ℕ × Ref). n.0) ks name)
    ∙ viewed_twice (item_at ks (first_place name (map (λ k. k.name) ks)))
