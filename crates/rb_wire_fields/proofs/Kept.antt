-- What a buffer holds while bytes are put behind it.
use Rattle.std.proofs.Common.{◌≡◌, ◌+◌, ◌-◌, ◌*◌, ◌<◌, ◌%◌, ◌/◌, ℕ, zero, suc, List, [], ◌∷◌, ◌++◌, cond, nat_lt, length, take, refl, ap, sym, ◌∙◌, arith, append_assoc, append-nil}
use Rattle.std.proofs.Math.Seq.{take-append_seam}
use Rattle.std.proofs.lemmas.Grind.{common_steps}
use Rattle.rb_trees.specs.declared.values.Value.TheViews.{the_lemmas}
use Rattle.rb_meaning_bytes.specs.formats.Fields.{number}
use Rattle.rb_meaning_bytes.specs.formats.Shorts.{groups as in_groups, limit}
use Rattle.rb_wire_fields.specs.Buffers.{Keeps}

pub keeps_same : (old new : List ℕ) → new ≡ old → Keeps old new
keeps_same old new h = record { more = []; is = h ∙ sym (append-nil old) }

pub keeps_more : (old new xs : List ℕ) → new ≡ old ++ xs → Keeps old new
keeps_more old new xs h = record { more = xs; is = h }

pub keeps_after : (old mid new xs : List ℕ) → mid ≡ old ++ xs → Keeps mid new → Keeps old new
keeps_after old mid new xs h k = record { more = xs ++ k.more; is = k.is ∙ ap (λ l. l ++ k.more) h ∙ append_assoc old xs k.more }

pub keeps_through : (old mid new : List ℕ) → Keeps old mid → Keeps mid new → Keeps old new
keeps_through old mid new h k = record { more = h.more ++ k.more; is = k.is ∙ ap (λ l. l ++ k.more) h.is ∙ append_assoc old h.more k.more }

pub take_kept : (old new : List ℕ) → Keeps old new → take (length old) new ≡ old
take_kept old new k = ap (take (length old)) k.is ∙ take-append_seam old k.more

-- the same bytes of a number
pub same_bits : (n : ℕ) → number (n % 4294967296) ≡ number n
unfolding number
same_bits n =
    let a : n % 4294967296 / 16777216 % 256 ≡ n / 16777216 % 256 = omega arith in
    let b : n % 4294967296 / 65536 % 256 ≡ n / 65536 % 256 = omega arith in
    let c : n % 4294967296 / 256 % 256 ≡ n / 256 % 256 = omega arith in
    let d : n % 4294967296 % 256 ≡ n % 256 = omega arith in
    cc

pub ruleset low_bits = (keeps_same, keeps_after, same_bits, common_steps)

pub ruleset kept = (keeps_same, keeps_after, keeps_through, take_kept, append_assoc, common_steps)

pub ruleset values = (keeps_same, keeps_after, the_lemmas, append_assoc, common_steps)

-- ---- numbers in groups

pub last_group : (more n : ℕ) → more ≡ 0 → in_groups more n ≡ n ∷ []
last_group zero n h = refl
last_group (suc k) n h = absurd (omega arith)

pub more_groups : (more n : ℕ) → 0 < more → in_groups more n ≡ cond (nat_lt n 128) (n ∷ []) ((128 + n % 128) ∷ in_groups (more - 1) (n / 128))
more_groups zero n h = absurd (omega arith)
more_groups (suc k) n h = ap (λ m. cond (nat_lt n 128) (n ∷ []) ((128 + n % 128) ∷ in_groups m (n / 128))) (omega arith)

pub last_limit : (more : ℕ) → more ≡ 0 → limit 128 more ≡ 128
last_limit zero h = refl
last_limit (suc k) h = absurd (omega arith)

pub more_limit : (more : ℕ) → 0 < more → limit 128 more ≡ 128 * limit 128 (more - 1)
more_limit zero h = absurd (omega arith)
more_limit (suc k) h = ap (λ m. 128 * limit 128 m) (omega arith)

pub ruleset groups = (last_group, more_groups, last_limit, more_limit, keeps_same, keeps_after, keeps_through, append_assoc, common_steps)
