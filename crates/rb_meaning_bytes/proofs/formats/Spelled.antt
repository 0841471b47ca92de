-- What a format spells, by its steps.
use Rattle.std.proofs.Common.{◌≡◌, ◌<◌, ℕ, true, List, [], ◌∷◌, ◌++◌, sym, subst, append_assoc, append-nil}
use Rattle.rb_meaning_bytes.specs.formats.Fields.{spelled}
use Rattle.rb_meaning_bytes.specs.formats.Formats.{Format, Done, ◌>>=◌, choose, picked, is_tag, Spells, done, more}

pub moved : {A : Type 0} {F : Format A} {xs ys : List ℕ} {a : A} → xs ≡ ys → Spells F xs a → Spells F ys a
moved {F = F} {a = a} e s = subst (λ l. Spells F l a) e s

pub after : {A B : Type 0} (F : Format A) (k : A → Format B) (xs ys : List ℕ) (a : A) (b : B) → Spells F xs a → Spells (k a) ys b → Spells (F >>= k) (xs ++ ys) b
after _ k _ ys _ b (done a) s = s
after _ k _ ys a b (more {f = f} {next = next} {bytes = bytes} x h d) s = moved (sym (append_assoc (spelled f x) bytes ys)) (more x h (after (next x) k bytes ys a b d s))

pub finally : {A B : Type 0} (F : Format A) (g : A → B) (xs : List ℕ) (a : A) → Spells F xs a → Spells (F >>= λ x. Done (g x)) xs (g a)
finally F g xs a s = moved (append-nil xs) (after F (λ x. Done (g x)) xs [] a (g a) s (done (g a)))

pub under : {A : Type 0} (forms : List (ℕ × Format A)) (tag : ℕ) (bytes : List ℕ) (a : A) → is_tag forms tag ≡ true → tag < 256 → Spells (picked forms tag) bytes a → Spells (choose forms) (tag ∷ bytes) a
under forms tag bytes a h i s = more tag (h, i) s
