-- What others make of a host's table before an exchange.
use Rattle.std.proofs.Common.{◌≡◌, ◌<◌, ◌+◌, ℕ, zero, suc, List, [], ◌∷◌, ◌++◌, map, drop, get_or, length, Some, None, refl, ap, sym, ◌∙◌, subst, add-one, drop-cons, arith, length-append}
use Rattle.std.proofs.lemmas.List.{length-map}
use Rattle.std.specs.Prelude.{slice_get, false, Result, Ok, Err, OnOk}
use Rattle.rb_trees.specs.declared.services.Change.{Change}
use Rattle.rb_trees.specs.declared.services.Object.{Object}
use Rattle.rb_trees.specs.mirror.Services.{mirror_service}
use Rattle.rb_meaning.specs.Changes.{AreBounded, AllBounded, changed, all_changed}
use Rattle.rb_meaning.specs.Links.{Pair}
use Rattle.rb_meaning.specs.Others.{found_table}
use Rattle.rb_changes.specs.Laws.{ChangesKeepFitting}
use Rattle.rb_base.specs.declared.links.Reply.{Reply}
use Rattle.rb_base.specs.Counts.{risen}
use Rattle.rb_base.specs.Links.{pair_of}
use Rattle.rb_exec.specs.Hosted.{Hosted}
use Rattle.rb_session.specs.Answering.{IsTypedHost}
use Rattle.rb_session.specs.Exchanges.{pair_told, all_told}
use Rattle.rb_session.specs.MeddledLinks.{MeddledInMemory, host_changed, host_found, after_meddled, AnswersTyped, Meddles}
use Rattle.rb_session.specs.declared.exchanges.Exchange.{Exchange}

-- one list less is to come
fewer : {A : Type 0} (n : ℕ) (xs : List A) → drop (suc n) xs ≡ drop 1 (drop n xs)
fewer zero xs = refl
fewer (suc n) [] = refl
fewer (suc n) (x ∷ xs) = fewer n xs

-- the table that is found where a list is to come, and where none is
finds_some : (others : List (List Change)) (n : ℕ) (changes : List Change) (table : List Object) → slice_get others n ≡ Some changes
    → found_table (map all_changed (drop n others)) table ≡ all_changed changes table
finds_some [] n changes table is = absurd (cc is)
finds_some (cs ∷ more) zero changes table is = let same : cs ≡ changes = cc is in ap (λ xs. all_changed xs table) same
finds_some (cs ∷ more) (suc n) changes table is = finds_some more n changes table is

finds_none : (others : List (List Change)) (n : ℕ) (table : List Object) → slice_get others n ≡ None → found_table (map all_changed (drop n others)) table ≡ table
finds_none [] zero table is = refl
finds_none [] (suc n) table is = refl
finds_none (cs ∷ more) zero table is = absurd (cc is)
finds_none (cs ∷ more) (suc n) table is = finds_none more n table is

-- so of the host
pub found_some : (others : List (List Change)) (n : ℕ) (changes : List Change) (host after : Hosted) → slice_get others n ≡ Some changes
    → after ≡ host_changed changes host → after ≡ host_found (drop n others) host
found_some others n changes host after is made =
    made ∙ ap (λ t. record { service = host.service; table = t }) (sym (finds_some others n changes host.table is))

pub found_none : (others : List (List Change)) (n : ℕ) (host : Hosted) → slice_get others n ≡ None → host ≡ host_found (drop n others) host
found_none others n host is = ap (λ t. record { service = host.service; table = t }) (sym (finds_none others n host.table is))

pub bounded_at : (others : List (List Change)) (n : ℕ) (changes : List Change) → AllBounded others → slice_get others n ≡ Some changes → AreBounded changes
bounded_at [] n changes b is = absurd (cc is)
bounded_at (cs ∷ more) zero changes b is = let same : cs ≡ changes = cc is in subst AreBounded same b.0
bounded_at (cs ∷ more) (suc n) changes b is = bounded_at more n changes b.1 is

-- A host stays typed.
pub stays_typed : ChangesKeepFitting → (changes : List Change) (host after : Hosted) → AreBounded changes → IsTypedHost host → after ≡ host_changed changes host → IsTypedHost after
stays_typed law changes host after bounded typed made =
    let service = mirror_service host.service in
    let fits = law service.classes service.root changes bounded host.table typed.fits in
    subst IsTypedHost (sym made) (record { lawful = typed.lawful; typed = typed.typed; fits = fits })

-- one change more is made
pub one_made : (changes : List Change) (i : ℕ) (c : Change) (table : List Object) → i < length changes → get_or changes i c ≡ c
    → all_changed (drop i changes) table ≡ all_changed (drop (i + 1) changes) (changed c table)
one_made changes i c table within is = rw (drop-cons changes i c) (rw (add-one i) (ap (λ x. all_changed (drop (suc i) changes) (changed x table)) is))

-- one list less is to come where there is one pair more
pub to_come : (others : List (List Change)) (old new : List Exchange) (p : Pair) → all_told new ≡ all_told old ++ p ∷ []
    → drop (length new) others ≡ drop 1 (drop (length old) others)
to_come others old new p one = ap (λ n. drop n others) grown ∙ fewer (length old) others
  where
    grown : length new ≡ suc (length old)
    grown = omega (arith, ap length one, length-append (all_told old) (p ∷ []), length-map old pair_told, length-map new pair_told)

-- the exchange, of which others left the host so
pub meddles : (request : List ℕ) (before : MeddledInMemory) (reply : Reply) (met after : Hosted) (rest : List (List Change)) (pairs : List Pair)
    (found left : List (List Object)) (made : ℕ) → before.spent ≡ false → met ≡ host_found before.others before.host → AnswersTyped request met reply after
    → rest ≡ drop 1 before.others → pairs ≡ before.pairs ++ pair_of request reply ∷ [] → found ≡ before.found ++ met.table ∷ []
    → left ≡ before.left ++ after.table ∷ [] → made ≡ risen before.made
    → Meddles request before reply (record { host = after; others = rest; pairs = pairs; found = found; left = left; made = made; spent = false })
meddles request before reply met after rest pairs found left made fresh is answers fewer_so one found_so left_so risen_so =
    let finds = host_found before.others before.host in
    let answered : AnswersTyped request finds reply after = subst (λ h. AnswersTyped request h reply after) is answers in
    let noted : found ≡ before.found ++ finds.table ∷ [] = found_so ∙ ap (λ (h : Hosted). before.found ++ h.table ∷ []) is in
    let same : record { host = after; others = rest; pairs = pairs; found = found; left = left; made = made; spent = false } ≡ after_meddled before request reply finds after = cc in
    subst (Meddles request before reply) (sym same) (record { fresh = fresh; answers = answered; is = refl })

pub on_ok : {A E P Q : Type 0} (r : Result A E) → (P → Q) → OnOk r P → OnOk r Q
on_ok (Ok x) go h = go h
on_ok (Err e) go h = tt
