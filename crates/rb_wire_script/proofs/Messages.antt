-- Reading the pool and the message around a script a step at a time.
use Rattle.std.proofs.Common.{◌≡◌, ℕ, suc, ◌+◌, ◌-◌, ◌<◌, ◌≤◌, ◌^◌, List, [], ◌∷◌, ◌++◌, Option, None, Some, Ok, Err, refl, ap, sym, ◌∙◌, arith}
use Rattle.std.proofs.lemmas.Bool.Decides.{nat_tests}
use Rattle.rb_trees.specs.declared.versions.Version.TheVariants.{One, Two}
use Rattle.rb_meaning_bytes.specs.formats.Fields.{Byte, Short, Brief}
use Rattle.rb_meaning_bytes.specs.formats.Pools.{any_number, new_text_test, unused}
use Rattle.rb_meaning_bytes.specs.formats.Reading.{Fault, Read, on, look, read, unrefused}
use Rattle.rb_meaning_bytes.specs.formats.ScriptMessages.{more_texts, pool, all_used, script, script_message}
use Rattle.rb_meaning_bytes.proofs.formats.Exact.{bound}
use Rattle.rb_meaning_bytes.proofs.formats.Steps.{more_left, chosen, by_tag}

abbrev Texts : Type 0
Texts = Read (List (List ℕ))

one_more : (n : ℕ) (earlier : List (List ℕ)) (bytes : List ℕ)
    → read (more_texts (suc n) earlier) bytes ≡ on (look (Brief (2 ^ 32) (new_text_test earlier)) bytes) (λ t rest. read (more_texts n (earlier ++ t ∷ [])) rest)
unfolding more_texts read
one_more n earlier bytes = refl

pub goes_on : (earlier : List (List ℕ)) (count i : ℕ) (bytes : List ℕ) (t after : List ℕ) (total : Texts)
    → i < count → look (Brief (2 ^ 32) (new_text_test earlier)) bytes ≡ Ok (t, after)
    → read (more_texts (count - i) earlier) bytes ≡ total → read (more_texts (count - (i + 1)) (earlier ++ t ∷ [])) after ≡ total
goes_on earlier count i bytes t after total lt h so_far =
    sym (ap (λ m. read (more_texts m earlier) bytes) (more_left count i lt) ∙ one_more (count - (i + 1)) earlier bytes
    ∙ ap (λ r. on r (λ t rest. read (more_texts (count - (i + 1)) (earlier ++ t ∷ [])) rest)) h) ∙ so_far

pub ends : (earlier : List (List ℕ)) (count i : ℕ) (bytes : List ℕ) (e : Fault) (total : Texts)
    → i < count → look (Brief (2 ^ 32) (new_text_test earlier)) bytes ≡ Err e
    → read (more_texts (count - i) earlier) bytes ≡ total → total ≡ Err e
ends earlier count i bytes e total lt h so_far =
    sym so_far ∙ ap (λ m. read (more_texts m earlier) bytes) (more_left count i lt) ∙ one_more (count - (i + 1)) earlier bytes
    ∙ ap (λ r. on r (λ t rest. read (more_texts (count - (i + 1)) (earlier ++ t ∷ [])) rest)) h

pub is_done : (earlier : List (List ℕ)) (count i : ℕ) (bytes : List ℕ) (total : Texts)
    → count ≤ i → read (more_texts (count - i) earlier) bytes ≡ total → total ≡ Ok (earlier, bytes)
unfolding more_texts read
is_done earlier count i bytes total le so_far =
    let k : count - i ≡ 0 = omega arith in
    sym so_far ∙ ap (λ m. read (more_texts m earlier) bytes) k

pub ruleset texts = (goes_on, ends, is_done)

pub pool_one : (bytes : List ℕ) → read (pool One) bytes ≡ Ok ([], bytes)
unfolding pool read
pool_one bytes = refl

pub pool_two : (bytes : List ℕ) → read (pool Two) bytes ≡ on (look (Short any_number) bytes) (λ count rest. read (more_texts count []) rest)
unfolding pool read
pool_two bytes = refl

-- nothing, and the bytes
abbrev pub nothing : List ℕ → Read (Unit {0})
nothing bytes = Ok (tt, bytes)

pub used_one : (texts : List (List ℕ)) (used : ℕ) (bytes : List ℕ) → read (all_used One texts used) bytes ≡ nothing bytes
unfolding all_used read
used_one texts used bytes = refl

pub used_two : (texts : List (List ℕ)) (used : ℕ) (bytes : List ℕ) → read (all_used Two texts used) bytes ≡ unrefused (unused texts used) bytes (nothing bytes)
unfolding all_used read look
used_two texts used bytes = go (unused texts used)
  where
    go : (o : Option ℕ) → on (unrefused o bytes (nothing bytes)) (λ x rest. Ok (x, rest)) ≡ unrefused o bytes (nothing bytes)
    go None = refl
    go (Some n) = refl

pub ruleset pools = (pool_one, pool_two, used_one, used_two, nat_tests)

pub message_read : (bytes : List ℕ) → read script_message bytes ≡ on (look Byte bytes) (λ b rest. by_tag ((0x01, script One) ∷ (0x02, script Two) ∷ []) b rest)
unfolding script_message
message_read bytes = chosen ((0x01, script One) ∷ (0x02, script Two) ∷ []) bytes

pub ruleset messages = (message_read, bound)
