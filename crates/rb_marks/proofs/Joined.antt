-- Notes behind notes.
use Rattle.std.proofs.Common.{◌≡◌, List, [], ◌∷◌, ◌++◌, map, sym, ap, ◌∙◌, append_assoc}
use Rattle.std.proofs.lemmas.List.{append-nil, map-append}

-- the notes of some sites behind those so far, after the note of one site before them
pub with_one : {S N : Type 0} (f : S → N) (notes : List N) (n : N) (ss : List S) → (notes ++ n ∷ []) ++ map f ss ≡ notes ++ (n ∷ map f ss)
with_one f notes n ss = append_assoc notes (n ∷ []) (map f ss)

pub with_two : {S N : Type 0} (f : S → N) (notes : List N) (n : N) (ss ts : List S) → ((notes ++ n ∷ []) ++ map f ss) ++ map f ts ≡ notes ++ (n ∷ map f (ss ++ ts))
with_two f notes n ss ts = append_assoc (notes ++ n ∷ []) (map f ss) (map f ts) ∙ append_assoc notes (n ∷ []) (map f ss ++ map f ts)
    ∙ ap (λ zs. notes ++ (n ∷ zs)) (sym (map-append f ss ts))

pub joined : {S N : Type 0} (f : S → N) (notes : List N) (ss ts : List S) → (notes ++ map f ss) ++ map f ts ≡ notes ++ map f (ss ++ ts)
joined f notes ss ts = append_assoc notes (map f ss) (map f ts) ∙ ap (λ zs. notes ++ zs) (sym (map-append f ss ts))

pub none : {S N : Type 0} (f : S → N) (notes : List N) → notes ≡ notes ++ map f []
none f notes = sym (append-nil notes)
