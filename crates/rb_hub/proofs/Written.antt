-- The replies among what came out are written, one behind the other.
use Rattle.std.proofs.Common.{◌≡◌, ◌<◌, ◌≤◌, ◌+◌, refl, ap, sym, ◌∙◌, subst, arith, ℕ, zero, suc, List, [], ◌∷◌, ◌++◌, length, take, get_or, drop, append_assoc, append-nil, length-append, Option, None, Some}
use Rattle.std.proofs.lemmas.List.{drop_more, take-append-le}
use Rattle.std.proofs.Math.Seq.{take-append-add}
use Rattle.std.proofs.Math.ListN.{drop_of_length-le}
use Rattle.rb_base.specs.Devices.{Device, failed}
use Rattle.rb_base.specs.Sinks.{told_more, with_bytes, WrotePrefix}
use Rattle.rb_hub.specs.declared.events.Out.{Out}
use Rattle.rb_hub.specs.declared.events.Out.TheVariants.{Opened, Reply, Ended}
use Rattle.rb_hub.specs.Serial.{replies_in}
use Rattle.rb_hub.specs.Delivering.{bytes_of, bytes_in}

-- ---- what a sink tells

told_twice : (old : Option (List ℕ)) (a b : List ℕ) → told_more (told_more old a) b ≡ told_more old (a ++ b)
told_twice None a b = refl
told_twice (Some written) a b = ap Some (append_assoc written a b)

told_none : (old : Option (List ℕ)) → told_more old [] ≡ old
told_none None = refl
told_none (Some written) = ap Some (append-nil written)

pub bytes_twice : (old : Device (List ℕ)) (a b : List ℕ) → with_bytes (with_bytes old a) b ≡ with_bytes old (a ++ b)
bytes_twice old a b = ap (λ t. record old { told = t }) (told_twice old.told a b)

pub bytes_none : (old : Device (List ℕ)) → with_bytes old [] ≡ old
bytes_none old = ap (λ t. record old { told = t }) (told_none old.told)

-- a front of a piece is a front of a longer one
prefix_front : (old new : Device (List ℕ)) (a b : List ℕ) → WrotePrefix old new a → WrotePrefix old new (a ++ b)
prefix_front old new a b w = record {
  count = w.count;
  within = let h = w.within in omega (arith, length-append a b);
  is = w.is ∙ ap (with_bytes old) (sym (take-append-le w.count a b w.within));
}

-- a front of what follows a whole piece
prefix_after : (old mid new : Device (List ℕ)) (a b : List ℕ) → mid ≡ with_bytes old a → WrotePrefix mid new b → WrotePrefix old new (a ++ b)
prefix_after old mid new a b e w = record {
  count = length a + w.count;
  within = let h = w.within in omega (arith, length-append a b);
  is = w.is ∙ ap (λ m. with_bytes m (take w.count b)) e ∙ bytes_twice old a (take w.count b) ∙ ap (with_bytes old) (sym (take-append-add a b w.count));
}

-- a write failed in a piece behind a whole one
pub fails_next : (old mid new : Device (List ℕ)) (a b : List ℕ) → mid ≡ with_bytes old a → WrotePrefix (failed mid) new b → WrotePrefix (failed old) new (a ++ b)
fails_next old mid new a b e w = prefix_after (failed old) (failed mid) new a b (ap failed e) w

-- ---- one reply after the other

-- The replies before this place were written.
pub record HasWritten (before now : Device (List ℕ)) (outs : List Out) (place : ℕ) : Type 0 where
  pub front : List ℕ
  pub is : bytes_in outs ≡ front ++ bytes_in (drop place outs)
  pub wrote : now ≡ with_bytes before front

pub none_written : (sink : Device (List ℕ)) (outs : List Out) → HasWritten sink sink outs 0
none_written sink outs = record { front = []; is = refl; wrote = sym (bytes_none sink) }

next : (outs : List Out) (place : ℕ) (d out : Out) → place < length outs → out ≡ get_or outs place d → bytes_in (drop place outs) ≡ bytes_in (out ∷ drop (place + 1) outs)
next outs place d out within is = ap bytes_in (drop_more outs place d within ∙ ap (λ o. o ∷ drop (place + 1) outs) (sym is))

-- one more
pub one_written : (before mid now : Device (List ℕ)) (outs : List Out) (place : ℕ) (out d : Out) → place < length outs → out ≡ get_or outs place d
    → HasWritten before mid outs place → now ≡ with_bytes mid (bytes_of out) → HasWritten before now outs (place + 1)
one_written before mid now outs place out d within is h wrote = record {
  front = h.front ++ bytes_of out;
  is = h.is ∙ ap (λ x. h.front ++ x) (next outs place d out within is) ∙ sym (append_assoc h.front (bytes_of out) (bytes_in (drop (place + 1) outs)));
  wrote = wrote ∙ ap (λ m. with_bytes m (bytes_of out)) h.wrote ∙ bytes_twice before h.front (bytes_of out);
}

-- a write failed
pub write_failed : (before mid now : Device (List ℕ)) (outs : List Out) (place : ℕ) (out d : Out) → place < length outs → out ≡ get_or outs place d
    → HasWritten before mid outs place → WrotePrefix (failed mid) now (bytes_of out) → WrotePrefix (failed before) now (bytes_in outs)
write_failed before mid now outs place out d within is h wrote =
    let rest = bytes_in (drop (place + 1) outs) in
    subst (WrotePrefix (failed before) now) (sym (h.is ∙ ap (λ x. h.front ++ x) (next outs place d out within is)))
    (fails_next before mid now h.front (bytes_of out ++ rest) h.wrote (prefix_front (failed mid) now (bytes_of out) rest wrote))

-- all were written
pub all_written : (before now : Device (List ℕ)) (outs : List Out) (place : ℕ) → length outs ≤ place → HasWritten before now outs place → now ≡ with_bytes before (bytes_in outs)
all_written before now outs place past h =
    h.wrote ∙ ap (with_bytes before) (sym (h.is ∙ ap (λ x. h.front ++ bytes_in x) (drop_of_length-le outs past) ∙ append-nil h.front))

-- ---- how many there are

counts_first : (out : Out) (outs : List Out) → length (replies_in (out ∷ outs)) ≡ length (replies_in (out ∷ [])) + length (replies_in outs)
counts_first (Opened number) outs = omega arith
counts_first (Reply number frame) outs = omega arith
counts_first (Ended number requests end) outs = omega arith

-- what is counted behind a place, by the out that stands there
pub counts_next : (outs : List Out) (place : ℕ) (d out : Out) → place < length outs → out ≡ get_or outs place d
    → length (replies_in (drop place outs)) ≡ length (replies_in (out ∷ [])) + length (replies_in (drop (place + 1) outs))
counts_next outs place d out within is =
    ap (λ os. length (replies_in os)) (drop_more outs place d within ∙ ap (λ o. o ∷ drop (place + 1) outs) (sym is)) ∙ counts_first out (drop (place + 1) outs)

fewer : (out : Out) (outs : List Out) → length (replies_in outs) ≤ length (replies_in (out ∷ outs))
fewer (Opened number) outs = omega arith
fewer (Reply number frame) outs = omega arith
fewer (Ended number requests end) outs = omega arith

pub no_more_than : (outs : List Out) (place : ℕ) → length (replies_in (drop place outs)) ≤ length (replies_in outs)
no_more_than [] zero = omega arith
no_more_than [] (suc place) = omega arith
no_more_than (out ∷ outs) zero = omega arith
no_more_than (out ∷ outs) (suc place) = let less = no_more_than outs place in let one = fewer out outs in omega arith

-- an out that is a reply is one of those
pub some_replies : (outs : List Out) (place : ℕ) (d out : Out) → place < length outs → out ≡ get_or outs place d → 1 ≤ length (replies_in (out ∷ [])) → 1 ≤ length (replies_in outs)
some_replies outs place d out within is some =
    let next = counts_next outs place d out within is in
    let most = no_more_than outs place in
    omega arith
