-- Calls that change nothing.
use Rattle.std.proofs.Common.{◌≡◌, ℕ, ◌+◌, ◌≤◌, List, [], ◌∷◌, ◌++◌, length, take, drop, Option, Some, None, Result, Ok, Err, refl, sym, ◌∙◌, ap, subst, arith, length-append, length-drop, take-append-drop}
use Rattle.std.proofs.lemmas.List.{take-take, drop-take, drop-drop, take-append-le, length-take-le}
use Rattle.std.proofs.Math.Seq.{take-append-add}
use borrow.Rule.Slice.PartMut.{put_mid, post_of}
use Rattle.rb_base.specs.Devices.{Device}
use Rattle.rb_disk.specs.Images.{Call, wrote, tore, synced, looked, DiskRecord, read_after, IsImage, shown, told_further, with_calls, IsLook, Fails, IsPart, IsPastEnd}
use Rattle.rb_journal.specs.declared.stops.JournalStop.{JournalStop}
use Rattle.rb_journal.specs.declared.stops.JournalStop.TheVariants.{DiskFault, Closed, Full, NotAJournal, BadRecord, Memory}
use Rattle.rb_journal.specs.Readings.{AreLooks, Glanced, GlancedAndFailed, GlancesOrStops, WhereLong, WhereTold}
use Rattle.rb_journal.proofs.Calls.{joined, joined_failed}

pub looks_read : (first : List ℕ) (looks calls : List Call) → AreLooks looks → read_after first (looks ++ calls) ≡ read_after first calls
looks_read first [] calls are = refl
looks_read first (looked ∷ looks) calls are = looks_read first looks calls are
looks_read first (wrote at bytes ∷ looks) calls are = absurd are
looks_read first (tore at n shown ∷ looks) calls are = absurd are
looks_read first (synced ∷ looks) calls are = absurd are

pub looks_image : (first : List ℕ) (looks calls : List Call) (image : List ℕ) → AreLooks looks → IsImage first (looks ++ calls) image → IsImage first calls image
looks_image first [] calls image are h = h
looks_image first (looked ∷ looks) calls image are h = looks_image first looks calls image are h
looks_image first (wrote at bytes ∷ looks) calls image are h = absurd are
looks_image first (tore at n shown ∷ looks) calls image are h = absurd are
looks_image first (synced ∷ looks) calls image are h = absurd are

pub looks_more : (later earlier : List Call) → AreLooks later → AreLooks earlier → AreLooks (later ++ earlier)
looks_more [] earlier are were = were
looks_more (looked ∷ later) earlier are were = looks_more later earlier are were
looks_more (wrote at bytes ∷ later) earlier are were = absurd are
looks_more (tore at n shown ∷ later) earlier are were = absurd are
looks_more (synced ∷ later) earlier are were = absurd are

pub trace_looks : (trace : List Call) → IsLook trace → AreLooks trace
trace_looks [] is = tt
trace_looks (looked ∷ []) is = tt
trace_looks (looked ∷ (call ∷ trace)) is = absurd is
trace_looks (wrote at bytes ∷ trace) is = absurd is
trace_looks (tore at n shown ∷ trace) is = absurd is
trace_looks (synced ∷ trace) is = absurd is

-- ---- one call after the other

pub glanced_none : (d : Device DiskRecord) → Glanced d d
glanced_none d = ([], tt, same d.told d.faults)
  where
    same : (t : Option DiskRecord) (n : ℕ) → let r : Option DiskRecord → Device DiskRecord = λ o. record { told = o; faults = n } in r t ≡ with_calls [] (r t)
    same None n = refl
    same (Some d) n = refl

pub glanced_twice : (a b c : Device DiskRecord) → Glanced a b → Glanced b c → Glanced a c
glanced_twice a b c first second = (second.0 ++ first.0, looks_more second.0 first.0 second.1 first.1, joined second.0 first.0 a b c first.2 second.2)

pub glanced_then_failed : (a b c : Device DiskRecord) → Glanced a b → GlancedAndFailed b c → GlancedAndFailed a c
glanced_then_failed a b c first second = (second.0 ++ first.0, looks_more second.0 first.0 second.1 first.1, joined_failed second.0 first.0 a b c first.2 second.2)

pub glanced_call : (a b c : Device DiskRecord) → Glanced a b → c ≡ with_calls (looked ∷ []) b → Glanced a c
glanced_call a b c first is = glanced_twice a b c first (looked ∷ [], tt, is)

pub glanced_fails : (a b c : Device DiskRecord) → Glanced a b → Fails IsLook b c → GlancedAndFailed a c
glanced_fails a b c first fails = glanced_then_failed a b c first (fails.0, trace_looks fails.0 fails.1, fails.2)

pub glances_then : {A : Type 0} (result : Result A JournalStop) (a b c : Device DiskRecord) → Glanced a b → GlancesOrStops result b c → GlancesOrStops result a c
glances_then (Ok x) a b c first second = glanced_twice a b c first second
glances_then (Err DiskFault) a b c first second = glanced_then_failed a b c first second
glances_then (Err Closed) a b c first second = glanced_twice a b c first second
glances_then (Err Full) a b c first second = glanced_twice a b c first second
glances_then (Err NotAJournal) a b c first second = glanced_twice a b c first second
glances_then (Err (BadRecord number)) a b c first second = glanced_twice a b c first second
glances_then (Err Memory) a b c first second = glanced_twice a b c first second

-- ---- what is read is what was there before

told_same : (P : List ℕ → Type 0) (t : Option DiskRecord) (looks : List Call) → AreLooks looks → WhereTold (told_further looks t) P → WhereTold t P
told_same P None looks are h = tt
told_same P (Some d) looks are h = subst P (looks_read d.first looks d.calls are) h

-- what is true of the bytes that a read shows was so before a glance
pub where_before : (P : List ℕ → Type 0) (before after : Device DiskRecord) → Glanced before after → WhereTold after.told P → WhereTold before.told P
where_before P before after glanced h =
    told_same P before.told glanced.0 glanced.1 (subst (λ (d : Device DiskRecord). WhereTold d.told P) glanced.2 h)

told_long : (P : List ℕ → Type 0) (end : ℕ) (t : Option DiskRecord) (looks : List Call) → AreLooks looks → WhereLong (told_further looks t) end P → WhereLong t end P
told_long P end None looks are h = tt
told_long P end (Some d) looks are h = subst (λ (bytes : List ℕ). length bytes ≡ end → P bytes) (looks_read d.first looks d.calls are) h

pub long_before : (P : List ℕ → Type 0) (end : ℕ) (before after : Device DiskRecord) → Glanced before after → WhereLong after.told end P → WhereLong before.told end P
long_before P end before after glanced h =
    told_long P end before.told glanced.0 glanced.1 (subst (λ (d : Device DiskRecord). WhereLong d.told end P) glanced.2 h)

part_where : (at n : ℕ) (buffer : List ℕ) (t : Option DiskRecord) → IsPart at n buffer t → WhereTold t (λ bytes. (take n buffer ≡ take n (drop at bytes)) × (n ≤ length (drop at bytes)))
part_where at n buffer None h = tt
part_where at n buffer (Some d) h = h

where_part : (at n : ℕ) (buffer : List ℕ) (t : Option DiskRecord) → WhereTold t (λ bytes. (take n buffer ≡ take n (drop at bytes)) × (n ≤ length (drop at bytes))) → IsPart at n buffer t
where_part at n buffer None h = tt
where_part at n buffer (Some d) h = h

pub part_before : (at n : ℕ) (buffer : List ℕ) (before after : Device DiskRecord) → Glanced before after → IsPart at n buffer after.told → IsPart at n buffer before.told
part_before at n buffer before after glanced h =
    where_part at n buffer before.told (where_before (λ bytes. (take n buffer ≡ take n (drop at bytes)) × (n ≤ length (drop at bytes))) before after glanced (part_where at n buffer after.told h))

end_where : (at : ℕ) (t : Option DiskRecord) → IsPastEnd at t → WhereTold t (λ bytes. length bytes ≤ at)
end_where at None h = tt
end_where at (Some d) h = h

where_end : (at : ℕ) (t : Option DiskRecord) → WhereTold t (λ bytes. length bytes ≤ at) → IsPastEnd at t
where_end at None h = tt
where_end at (Some d) h = h

pub end_before : (at : ℕ) (before after : Device DiskRecord) → Glanced before after → IsPastEnd at after.told → IsPastEnd at before.told
end_before at before after glanced h = where_end at before.told (where_before (λ bytes. length bytes ≤ at) before after glanced (end_where at after.told h))

-- ---- a part, and the part behind it

take-add : (n m : ℕ) (xs : List ℕ) → take (n + m) xs ≡ take n xs ++ take m (drop n xs)
take-add n m xs =
    sym (take-append-drop n (take (n + m) xs)) ∙ ap (λ (l : List ℕ). l ++ drop n (take (n + m) xs)) (take-take n (n + m) xs (omega arith)) ∙ ap (λ (l : List ℕ). take n xs ++ l) (drop-take n m xs)

take-put_mid_part : (a k n : ℕ) (xs ys : List ℕ) → a ≤ length xs → n ≤ length ys → take (a + n) (put_mid a k xs ys) ≡ take a xs ++ take n ys
take-put_mid_part a k n xs ys le fits =
    let front : length (take a xs) ≡ a = length-take-le a xs le in
    ap (λ (m : ℕ). take (m + n) (put_mid a k xs ys)) (sym front)
    ∙ take-append-add (take a xs) (ys ++ post_of a k xs) n
    ∙ ap (λ (l : List ℕ). take a xs ++ l) (take-append-le n ys (post_of a k xs) fits)

pub part_more : (at done k count : ℕ) (into part : List ℕ) (t : Option DiskRecord) → done ≤ length into → count ≤ length part → IsPart at done into t → IsPart (at + done) count part t → IsPart at (done + count) (put_mid done k into part) t
part_more at done k count into part None le fits first second = tt
part_more at done k count into part (Some d) le fits first second =
    let bytes = shown d in
    let behind : drop (at + done) bytes ≡ drop done (drop at bytes) = sym (drop-drop done at bytes) in (
      take-put_mid_part done k count into part le fits
          ∙ ap (λ (l : List ℕ). l ++ take count part) first.0
          ∙ ap (λ (l : List ℕ). take done (drop at bytes) ++ l) (second.0 ∙ ap (λ (l : List ℕ). take count l) behind)
          ∙ sym (take-add done count (drop at bytes)),
      omega (arith, second.1, length-drop (at + done) bytes, length-drop at bytes, first.1),
    )

pub part_within : (done k count : ℕ) (into part : List ℕ) → done ≤ length into → count ≤ length part → done + count ≤ length (put_mid done k into part)
part_within done k count into part le fits =
    omega (arith, length-append (take done into) (part ++ post_of done k into), length-append part (post_of done k into), length-take-le done into le)
