-- Whole requests.
use Rattle.std.proofs.Common.{◌≡◌, ◌+◌, ◌<◌, ◌≤◌, ◌^◌, ℕ, zero, suc, List, [], ◌∷◌, ◌++◌, length, refl, ap, sym, ◌∙◌, arith, Bool, true, false, cond, Option, None, Some, Result, Ok, Err, append_assoc, get_or, drop, drop-cons, String, subst, max, codes, Ordering, Less, Equal, Greater}
use Rattle.std.proofs.lemmas.Grind.{common_steps}
use Rattle.std.proofs.lemmas.Bool.Decides.{nat_tests}
use Rattle.std.specs.Str.{is_utf8, IsUtf8}
use Rattle.std.specs.declared.alloc.Global.{Global}
use Rattle.std.proofs.lemmas.Str.{IsUtf8-from_is_utf8, is_utf8-from_IsUtf8}
use Rattle.rb_trees.specs.Outcome.{known}
use Rattle.rb_trees.specs.declared.values.Value.{Value as Primitive, out-Value}
use Rattle.rb_trees.specs.declared.values.Value.TheViews.{the_lemmas}
use Rattle.rb_meaning_bytes.specs.formats.Items.{list_numbers, form_numbers}
use Rattle.serde_json.specs.Data.{Data, null, boolean, number, string, array, object, Items, Members, no_members, member, depth, members_depth}
use Rattle.serde_json.specs.Find.{as_object, get, get_member}
use Rattle.std.specs.Ordering.{nat_cmp, match_ordering}
use Rattle.std.specs.Cmp.Lexicographic.{slice_cmp}
use Rattle.serde_json.specs.Read.{read}
use Rattle.serde_json.specs.View.{members_view}
use Rattle.serde_json.specs.declared.value.Value.{Value}
use Rattle.rb_json.specs.declared.stops.JsonRefusal.{JsonRefusal}
use Rattle.rb_json.specs.declared.stops.JsonRefusal.TheVariants.{NotJson}
use Rattle.rb_json.specs.Counts.{count, members_number}
use Rattle.rb_json.specs.Requests.{is_pair, both_of, members, sent_of, json_of}
use Rattle.rb_trees.specs.mirror.Scripts.{Steps}
use Rattle.rb_json.specs.Values.{inputs_at}
use Rattle.rb_json.specs.Steps.{steps_at}
use Rattle.rb_json.specs.Formed.{IsSendable}
use Rattle.rb_json.proofs.Formed.{request_good}

-- ---- readings

pub read_so : (bytes : List ℕ) (d : Data) → IsUtf8 bytes → read bytes ≡ Some d → json_of bytes ≡ Ok d
unfolding json_of
read_so bytes d u h = ap (λ b. known NotJson (cond b (read bytes) None)) (is_utf8-from_IsUtf8 bytes u) ∙ ap (known NotJson) h

pub none_so : (bytes : List ℕ) → (IsUtf8 bytes → read bytes ≡ None) → json_of bytes ≡ Err NotJson
unfolding json_of
none_so bytes h = go (is_utf8 bytes) refl
  where
    go : (b : Bool) → is_utf8 bytes ≡ b → known NotJson (cond (is_utf8 bytes) (read bytes) None) ≡ Err NotJson
    go true i = ap (λ b. known NotJson (cond b (read bytes) None)) i ∙ ap (known NotJson) (h (IsUtf8-from_is_utf8 bytes i))
    go false i = ap (λ b. known NotJson (cond b (read bytes) None)) i

-- ---- members

pub members_counted : (ms : List (String Global × Value)) → members_number (members_view ms) ≡ length ms
members_counted [] = refl
members_counted (m ∷ ms) = ap suc (members_counted ms)

pub object_is : (d : Data) (ms : Members) → Some ms ≡ as_object d → d ≡ object ms
object_is null ms h = absurd cc
object_is (boolean b) ms h = absurd cc
object_is (number n) ms h = absurd cc
object_is (string t) ms h = absurd cc
object_is (array ds) ms h = absurd cc
object_is (object ns) ms h = cc

pub no_pair : (d : Data) → None ≡ as_object d → is_pair d ≡ false
no_pair null h = refl
no_pair (boolean b) h = refl
no_pair (number n) h = refl
no_pair (string t) h = refl
no_pair (array ds) h = refl
no_pair (object ms) h = absurd cc

-- what stands at a key is less deep
get_less : (k : List ℕ) (ms : Members) (e : Data) → get_member k ms ≡ Some e → depth e ≤ members_depth ms
get_less k no_members e h = absurd cc
get_less k (member l d ms) e h = go (slice_cmp nat_cmp k l) (λ i. get_less k ms e i) h
  where
    go : (o : Ordering) → (get_member k ms ≡ Some e → depth e ≤ members_depth ms) → match_ordering o (get_member k ms) (Some d) (get_member k ms) ≡ Some e
        → depth e ≤ max (depth d) (members_depth ms)
    go Less more h = let rest = more h in omega (arith, rest)
    go Equal more h = let same : d ≡ e = cc in subst (λ x. depth x ≤ max (depth d) (members_depth ms)) same (omega arith)
    go Greater more h = let rest = more h in omega (arith, rest)

get_within : (k : List ℕ) (d e : Data) → get k d ≡ Some e → depth e ≤ depth d
get_within k (object ms) e h = let less = get_less k ms e h in omega (arith, less)
get_within k null e h = absurd cc
get_within k (boolean b) e h = absurd cc
get_within k (number n) e h = absurd cc
get_within k (string s) e h = absurd cc
get_within k (array ds) e h = absurd cc

-- so is each of the members of a request
pub steps_within : (d a b : Data) → members d ≡ Some (a, b) → depth b ≤ depth d
steps_within d a b h = go (is_pair d) (get (codes "inputs") d) (get (codes "steps") d) refl h
  where
    go : (p : Bool) (o q : Option Data) → get (codes "steps") d ≡ q → cond p (both_of o q) None ≡ Some (a, b) → depth b ≤ depth d
    go false o q is h = absurd cc
    go true None q is h = absurd cc
    go true (Some x) None is h = absurd cc
    go true (Some x) (Some y) is h = let same : ◌≡◌ {A = Data × Data} (x, y) (a, b) = cc in get_within (codes "steps") d b (is ∙ ap (λ z. Some z.1) same)

-- What was read of a request can be sent.
pub whole_good : (p q : ℕ) (d a b : Data) (values : List Primitive) (steps : Steps) → members d ≡ Some (a, b) → inputs_at p a ≡ Ok values → steps_at q b ≡ Ok steps
    → count b < 2 ^ 32 → depth d ≤ 127 → IsSendable (sent_of values steps)
whole_good p q d a b values steps is one two few deep =
    let less = steps_within d a b is in request_good p q a b values steps one two few (omega (arith, less, deep))

-- ---- numbers of lists

-- the numbers behind others, from a value on
pub numbers_step : (values : List Primitive) (i k : ℕ) (v : Primitive) → v ≡ get_or values i v → i < length values
    → list_numbers k (drop i values) ≡ form_numbers k (out-Value v) ++ list_numbers (suc k) (drop (suc i) values)
numbers_step values i k v is h = ap (list_numbers k) (drop-cons values i v h) ∙ ap (λ w. form_numbers k (out-Value w) ++ list_numbers (suc k) (drop (suc i) values)) (sym is)

pub ruleset pairs = (object_is, no_pair, members_counted, nat_tests, common_steps)

pub ruleset lists = (numbers_step, append_assoc, the_lemmas, common_steps)
