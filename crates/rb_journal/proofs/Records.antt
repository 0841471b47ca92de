-- What stands at the front of bytes: a record and its next gate, or none.
use Rattle.std.proofs.Common.{◌≡◌, ◌≢◌, ℕ, ◌+◌, ◌-◌, ◌^◌, ◌≤◌, ◌<◌, List, [], ◌∷◌, ◌++◌, length, get_or, take, drop, Option, Some, None, refl, sym, ◌∙◌, ap, subst, arith, append_assoc, length-append, length-take, length-drop, take-append-drop}
use Rattle.std.specs.Int.{w32, to_be_bytes, from_be_bytes}
use Rattle.std.proofs.lemmas.List.{take_at, drop_at, drop-drop, take_all, take-take, take_more}
use Rattle.std.proofs.lemmas.Nat.{from_be_bytes-to_be_bytes_4}
use Rattle.rb_trees.specs.declared.services.Object.{Object}
use Rattle.rb_trees.specs.declared.services.Service as services
use Rattle.rb_trees.specs.mirror.Services.{Service, mirror_service}
use Rattle.rb_exec.specs.Hosted.{Hosted}
use Rattle.rb_disk.specs.Images.{DiskRecord, shown, IsPart, IsPastEnd}
use Rattle.rb_journal.specs.Form.{IsAccepted, IsPayload, record_of, before_gate, IsNoJournal, HasBadRecord}
use Rattle.rb_journal.specs.Readings.{WhereLong, WhereTold, FindsHead, FindsSize, FindsPayload, FindsRecord}
use Rattle.rb_journal.specs.Replays.{LeavesTable, LeaveTable, Replays, Passes, Reopens}
use Rattle.rb_journal.proofs.Crash.{before_gate-push, ArePayloads-push}

length-record : (payload : List ℕ) (gate : ℕ) (rest : List ℕ) → length (record_of payload ++ gate ∷ rest) ≡ 5 + length payload + length rest
length-record payload gate rest = omega (arith, length-append (record_of payload) (gate ∷ rest))

-- the length that stands in front of a payload
size_is : (bytes payload rest : List ℕ) (gate n : ℕ) → n < 2 ^ 32 → IsPayload payload → bytes ≡ record_of payload ++ gate ∷ rest → take 4 bytes ≡ to_be_bytes w32 n → length payload ≡ n
size_is bytes payload rest gate n fits is_payload is front =
    let both : to_be_bytes w32 (length payload) ≡ to_be_bytes w32 n = sym (ap (λ (l : List ℕ). take 4 l) is) ∙ front in
    sym (from_be_bytes-to_be_bytes_4 (length payload) (omega (arith, is_payload.fits))) ∙ ap (λ (l : List ℕ). from_be_bytes w32 l) both ∙ from_be_bytes-to_be_bytes_4 n fits

-- ---- the length

pub none_short : (bytes : List ℕ) → length bytes < 4 → FindsSize bytes None
none_short bytes short payload gate rest is_payload is = omega (arith, ap length is, length-record payload gate rest)

none_long : (bytes : List ℕ) (n : ℕ) → n < 2 ^ 32 → take 4 bytes ≡ to_be_bytes w32 n → 16777216 < n → FindsSize bytes None
none_long bytes n fits front long payload gate rest is_payload is =
    omega (arith, is_payload.fits, size_is bytes payload rest gate n fits is_payload is front)

none_cut : (bytes : List ℕ) (n : ℕ) → n < 2 ^ 32 → take 4 bytes ≡ to_be_bytes w32 n → length bytes ≤ n + 4 → FindsSize bytes None
none_cut bytes n fits front short payload gate rest is_payload is =
    omega (arith, ap length is, length-record payload gate rest, size_is bytes payload rest gate n fits is_payload is front)

pub size_none_room : (at end : ℕ) (t : Option DiskRecord) → end - at < 4 → WhereLong t end (λ bytes. FindsSize (drop at bytes) None)
size_none_room at end None short = tt
size_none_room at end (Some d) short = λ long. none_short (drop at (shown d)) (omega (arith, long, length-drop at (shown d)))

pub size_none_end : (at end count : ℕ) (t : Option DiskRecord) → count < 4 → IsPastEnd (at + count) t → WhereLong t end (λ bytes. FindsSize (drop at bytes) None)
size_none_end at end count None few past = tt
size_none_end at end count (Some d) few past = λ long. none_short (drop at (shown d)) (omega (arith, past, length-drop at (shown d)))

module _ (at end count size : ℕ) (front : List ℕ) (four : length front ≡ 4) (whole : 4 ≤ count) (within : count ≤ length front) (fits : size < 2 ^ 32) (size_spells : to_be_bytes w32 size ≡ front) where
  front_is : (d : DiskRecord) → IsPart at count front (Some d) → take 4 (drop at (shown d)) ≡ to_be_bytes w32 size
  front_is d part =
      let four_came : count ≡ 4 = omega arith in
      sym (subst (λ (n : ℕ). take n front ≡ take n (drop at (shown d))) four_came part.0) ∙ take_all 4 front (omega arith) ∙ sym size_spells

  pub size_none_long : (t : Option DiskRecord) → IsPart at count front t → 16777216 < size → WhereLong t end (λ bytes. FindsSize (drop at bytes) None)
  size_none_long None part long_size = tt
  size_none_long (Some d) part long_size = λ long. none_long (drop at (shown d)) size fits (front_is d part) long_size

  pub size_none_cut : (t : Option DiskRecord) → IsPart at count front t → end - at - 4 ≤ size → WhereLong t end (λ bytes. FindsSize (drop at bytes) None)
  size_none_cut None part cut = tt
  size_none_cut (Some d) part cut = λ long. none_cut (drop at (shown d)) size fits (front_is d part) (omega (arith, long, length-drop at (shown d)))

  pub size_found : (t : Option DiskRecord) → IsPart at count front t → size ≤ 16777216 → size < end - at - 4 → WhereLong t end (λ bytes. FindsSize (drop at bytes) (Some size))
  size_found None part small room = tt
  size_found (Some d) part small room = λ long. (small, front_is d part, omega (arith, long, length-drop at (shown d)))

-- ---- the payload

pub payload_none_end : (at size count : ℕ) (t : Option DiskRecord) → count ≤ size → IsPastEnd (at + count) t → WhereTold t (λ bytes. FindsPayload (drop at bytes) size None)
payload_none_end at size count None few past = tt
payload_none_end at size count (Some d) few past = λ payload gate rest size_is accepted is.
    omega (arith, past, length-drop at (shown d), ap length is, length-append payload (gate ∷ rest))

module _ (at size count : ℕ) (text : List ℕ) (text_size : length text ≡ size + 1) (whole : size < count) (within : count ≤ length text) where
  text_is : (d : DiskRecord) → IsPart at count text (Some d) → take (size + 1) (drop at (shown d)) ≡ text
  text_is d part =
      let all_came : count ≡ size + 1 = omega arith in
      sym (subst (λ (n : ℕ). take n text ≡ take n (drop at (shown d))) all_came part.0) ∙ take_all (size + 1) text (omega arith)

  pub payload_none_refused : (t : Option DiskRecord) → IsPart at count text t → (IsAccepted (take size text) → ⊥) → WhereTold t (λ bytes. FindsPayload (drop at bytes) size None)
  payload_none_refused None part refused = tt
  payload_none_refused (Some d) part refused = λ payload gate rest is_size accepted is.
      let front : take size text ≡ payload =
      ap (λ (l : List ℕ). take size l) (sym (text_is d part)) ∙ take-take size (size + 1) (drop at (shown d)) (omega arith) ∙ ap (λ (l : List ℕ). take size l) is ∙ take_at payload (gate ∷ rest) size is_size in
      refused (subst IsAccepted (sym front) accepted)

  pub payload_found : (t : Option DiskRecord) (gate : ℕ) → IsPart at count text t → gate ≡ get_or text size 0 → IsAccepted (take size text) → WhereTold t (λ bytes. FindsPayload (drop at bytes) size (Some (take size text, gate)))
  payload_found None gate part gate_is accepted = tt
  payload_found (Some d) gate part gate_is accepted =
      let behind = drop at (shown d) in
      let rest = drop (size + 1) behind in
      let split : text ≡ take size text ++ gate ∷ [] =
      sym (take_all (size + 1) text (omega arith)) ∙ take_more text size 0 (omega arith) ∙ ap (λ (n : ℕ). take size text ++ n ∷ []) (sym gate_is) in (
        omega (arith, length-take size text),
        accepted,
        rest,
        sym (take-append-drop (size + 1) behind) ∙ ap (λ (l : List ℕ). l ++ rest) (text_is d part ∙ split) ∙ append_assoc (take size text) (gate ∷ []) rest,
      )

-- ---- both

record_found : (bytes : List ℕ) (size : ℕ) (found : Option (List ℕ × ℕ)) → FindsSize bytes (Some size) → FindsPayload (drop 4 bytes) size found → FindsRecord bytes found
record_found bytes size (Some found) has_size has_payload =
    let split : bytes ≡ to_be_bytes w32 size ++ (found.0 ++ found.1 ∷ has_payload.2) =
    sym (take-append-drop 4 bytes) ∙ ap (λ (l : List ℕ). l ++ drop 4 bytes) has_size.1 ∙ ap (λ (l : List ℕ). to_be_bytes w32 size ++ l) has_payload.3 in (
      record { fits = omega (arith, has_payload.0, has_size.0); accepted = has_payload.1 },
      has_payload.2,
      split ∙ ap (λ (n : ℕ). to_be_bytes w32 n ++ (found.0 ++ found.1 ∷ has_payload.2)) (sym has_payload.0) ∙ sym (append_assoc (to_be_bytes w32 (length found.0)) found.0 (found.1 ∷ has_payload.2)),
    )
record_found bytes size None has_size has_payload = λ payload gate rest is_payload is.
    has_payload payload gate rest
    (size_is bytes payload rest gate size (omega (arith, has_size.0)) is_payload is has_size.1)
    is_payload.accepted
    (ap (λ (l : List ℕ). drop 4 l) is)

pub record_where : (at end size : ℕ) (found : Option (List ℕ × ℕ)) (t : Option DiskRecord) → WhereLong t end (λ bytes. FindsSize (drop at bytes) (Some size)) → WhereTold t (λ bytes. FindsPayload (drop (at + 4) bytes) size found) → WhereLong t end (λ bytes. FindsRecord (drop at bytes) found)
record_where at end size found None has_size has_payload = tt
record_where at end size found (Some d) has_size has_payload = λ long.
    record_found (drop at (shown d)) size found (has_size long) (subst (λ (l : List ℕ). FindsPayload l size found) (sym (drop-drop 4 at (shown d))) has_payload)

pub record_none : (at end : ℕ) (t : Option DiskRecord) → WhereLong t end (λ bytes. FindsSize (drop at bytes) None) → WhereLong t end (λ bytes. FindsRecord (drop at bytes) None)
record_none at end None none = tt
record_none at end (Some d) none = none

-- ---- one record after the other

-- a fact of the bytes from two
pub where_both : (P Q R : List ℕ → Type 0) (end : ℕ) (t : Option DiskRecord) → ((bytes : List ℕ) → P bytes → Q bytes → R bytes) → WhereLong t end P → WhereLong t end Q → WhereLong t end R
where_both P Q R end None step p q = tt
where_both P Q R end (Some d) step p q = λ long. step (shown d) (p long) (q long)

-- a fact of the bytes from one
pub where_one : (P R : List ℕ → Type 0) (end : ℕ) (t : Option DiskRecord) → ((bytes : List ℕ) → P bytes → R bytes) → WhereLong t end P → WhereLong t end R
where_one P R end None step p = tt
where_one P R end (Some d) step p = λ long. step (shown d) (p long)

pub told_where : (P R : List ℕ → Type 0) (end : ℕ) (t : Option DiskRecord) → ((bytes : List ℕ) → P bytes → R bytes) → WhereTold t P → WhereLong t end R
told_where P R end None step p = tt
told_where P R end (Some d) step p = λ long. step (shown d) p

pub no_journal_short : (end : ℕ) (t : Option DiskRecord) → end < 5 → WhereLong t end IsNoJournal
no_journal_short end None short = tt
no_journal_short end (Some d) short = λ long gate rest is. omega (arith, long, ap length is)

-- one payload more is performed, behind the others
pub replays_more : (service : Service) (table : List Object) (payloads : List (List ℕ)) (payload : List ℕ) (between after : List Object)
    → LeaveTable service table payloads between → LeavesTable service between payload after → LeaveTable service table (payloads ++ payload ∷ []) after
replays_more service table [] payload between after all one = (after, subst (λ (t : List Object). LeavesTable service t payload after) all one, refl)
replays_more service table (p ∷ payloads) payload between after all one = (all.0, all.1, replays_more service all.0 payloads payload between after all.2 one)

pub passes_head : (bytes : List ℕ) (gate : ℕ) (host : Hosted) → FindsHead bytes (Some gate) → Passes bytes 0 gate 4 host host
passes_head bytes gate host found = record {
  payloads = [];
  fit = tt;
  count_is = refl;
  at_is = refl;
  is = found.1 ∙ ap (λ (l : List ℕ). before_gate [] ++ gate ∷ l) (sym (ap (λ (l : List ℕ). drop 5 l) found.1));
  performed = refl;
}

pub passes_more : (bytes : List ℕ) (count gate at : ℕ) (start host after : Hosted) (payload : List ℕ) (next : ℕ) → gate ≡ 1 → host.service ≡ start.service
    → Replays host payload after
    → Passes bytes count gate at start host → FindsRecord (drop (at + 1) bytes) (Some (payload, next)) → Passes bytes (count + 1) next (at + (5 + length payload)) start after
passes_more bytes count gate at start host after payload next is_open same performs passes found =
    let rest = found.1 in
    let payloads = passes.payloads in
    let before = before_gate (payloads ++ payload ∷ []) in
    let whole : bytes ≡ before ++ next ∷ rest =
    passes.is
    ∙ ap (λ (n : ℕ). before_gate payloads ++ n ∷ drop (at + 1) bytes) is_open
    ∙ ap (λ (l : List ℕ). before_gate payloads ++ 1 ∷ l) found.2
    ∙ sym (append_assoc (before_gate payloads) (1 ∷ record_of payload) (next ∷ rest))
    ∙ ap (λ (l : List ℕ). l ++ next ∷ rest) (sym (before_gate-push payloads payload)) in
    let size : length before ≡ at + (5 + length payload) =
    omega (arith, passes.at_is, ap length (before_gate-push payloads payload), length-append (before_gate payloads) (1 ∷ record_of payload)) in
    let left : drop (at + (5 + length payload) + 1) bytes ≡ rest =
    ap (λ (l : List ℕ). drop (at + (5 + length payload) + 1) l) (whole ∙ sym (append_assoc before (next ∷ []) rest))
    ∙ drop_at (before ++ next ∷ []) rest (at + (5 + length payload) + 1) (omega (arith, size, length-append before (next ∷ []))) in
    record {
      payloads = payloads ++ payload ∷ [];
      fit = ArePayloads-push payloads payload passes.fit found.0;
      count_is = length-append payloads (payload ∷ []) ∙ ap (λ (n : ℕ). n + 1) passes.count_is;
      at_is = sym size;
      is = whole ∙ ap (λ (l : List ℕ). before ++ next ∷ l) (sym left);
      performed = replays_more (mirror_service start.service) start.table payloads payload host.table after.table passes.performed
          (subst (λ (s : services.Service). LeavesTable (mirror_service s) host.table payload after.table) same performs);
    }

pub bad_record : (bytes : List ℕ) (count gate at : ℕ) (start host : Hosted) → gate ≡ 1 → Passes bytes count gate at start host → FindsRecord (drop (at + 1) bytes) None → HasBadRecord bytes count
bad_record bytes count gate at start host is_open passes none = record {
  before = passes.payloads;
  fit = passes.fit;
  count = passes.count_is;
  behind = drop (at + 1) bytes;
  is = passes.is ∙ ap (λ (n : ℕ). before_gate passes.payloads ++ n ∷ drop (at + 1) bytes) is_open;
  bad = none;
}

pub all_read : (bytes : List ℕ) (count gate at : ℕ) (start host : Hosted) → gate ≢ 1 → Passes bytes count gate at start host → Reopens bytes at start host
all_read bytes count gate at start host shut passes = record {
  payloads = passes.payloads;
  stands = record { fit = passes.fit; gate = gate; behind = drop (at + 1) bytes; is_closed = shut; is = passes.is };
  gate_is = passes.at_is;
  performed = passes.performed;
}
